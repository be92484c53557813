use Rattle.std.proofs.Common.{ap}
use Rattle.scripts.specs.Asked.{asked}
use Rattle.scripts.proofs.Scripts.{passed_over, began, gone_on}
use Rattle.scripts.proofs.script.Script.take.Goals as goal

pub returns-in-None : goal.returns-in-None
returns-in-None c = passed_over c.args.line.now c.args.self.now.section c.args.transcript.now.bytes.items c.in_ok-read_line.field-0 c.in_ok-read_line.ensures c.in-None.is c.requires

pub returns-in_ok-begin-in-Some-Module : goal.returns-in_ok-begin-in-Some-Module
returns-in_ok-begin-in-Some-Module c = began c.args.line.now c.args.self.now.section c.begin.new.self.section _ _ c.in_ok-read_line.field-0 c.in-Some-Module.field-0 c.in-Some-Module.output c.in-Some-Module.address c.in_ok-read_line.ensures c.in-Some-Module.is (ap asked c.in-Some-Module.field-0-is) c.in_ok-begin-in-Some-Module.ensures

pub returns-in-Some : goal.returns-in-Some
returns-in-Some c = gone_on c.args.line.now c.args.self.now.section c.go_on.new.self.section c.args.transcript.now.bytes.items c.in_ok-read_line.field-0 c.in-Some.step c.go_on.result c.in_ok-read_line.ensures c.in-Some.is c.go_on.ensures.step c.go_on.ensures.taken
