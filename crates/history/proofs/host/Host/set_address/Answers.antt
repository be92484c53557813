use Rattle.std.proofs.Common.{◌≡◌, ℕ, Bool, true, false, cond, is_ok, Option}
use Rattle.faults.specs.declared.Fault.{Fault}
use Rattle.lines.specs.Lines.{Kept}
use Rattle.law.specs.Machine.{keep}
use Rattle.law.specs.History.{at}
use Rattle.module.specs.States.{ModuleState}
use Rattle.module.specs.Machine.{machine, module_device}
use Rattle.history.proofs.host.Host.set_address.Goals as goal

either : (y : ℕ) (b : Bool) (p q r : ModuleState) (f g : Option Fault) (k l m : Kept) → r ≡ cond b p q → g ≡ f → m ≡ cond b k l →
    at (module_device y) (keep (machine y) r g) m ≡ cond b (at (module_device y) (keep (machine y) p f) k) (at (module_device y) (keep (machine y) q f) l)
either y true p q r f g k l m rest fault line = λ i. at (module_device y) (keep (machine y) (rest i) (fault i)) (line i)
either y false p q r f g k l m rest fault line = λ i. at (module_device y) (keep (machine y) (rest i) (fault i)) (line i)

pub returns-clause-state : goal.returns-clause-state
returns-clause-state g c =
    either g.O.StepOutput.CYCLE (is_ok c.set_address.result) _ _ _ _ _ _ _ _ (c.set_address.ensures.state c.args.self.now.memory) c.set_address.ensures.fault c.set_address.ensures.line
