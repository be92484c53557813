use Rattle.scripts.proofs.Scripts.{begins_refused, begins_new}
use Rattle.scripts.proofs.script.Script.begin.Goals as goal

pub returns-in-Err : goal.returns-in-Err
returns-in-Err c = begins_refused c.args.line.now c.args.output c.args.address c.in-Err.fault c.check_address.result c.args.self.now.section _ _ _ _ c.check_address.ensures c.in-Err.is c.in_ok-tell.ensures c.in_ok-echo.ensures c.in_ok-refused.ensures

pub returns : goal.returns
returns c = begins_new c.args.line.now c.args.output c.args.address c.in_default.field-0 c.check_address.result c.args.self.now.section c.new.result _ _ _ c.check_address.ensures c.in_default.is c.new.ensures.going c.new.ensures.told c.new.ensures.whole c.in_ok-tell.ensures c.in_ok-echo.ensures
