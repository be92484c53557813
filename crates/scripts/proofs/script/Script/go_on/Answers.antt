use Rattle.scripts.specs.Asked.{asked}
use Rattle.scripts.proofs.Scripts.{went_on}
use Rattle.scripts.proofs.script.Script.go_on.Goals as goal

pub returns-in-Some-clause-taken : goal.returns-in-Some-clause-taken
returns-in-Some-clause-taken c = went_on c.args.line.now (asked c.args.step) c.args.self.now.section c.in-Some.section c.take.new.self c.take.result c.in-Some.is c.requires.sound c.take.ensures
