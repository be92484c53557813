use Rattle.std.proofs.Common.{◌≡◌, sym, subst}
use Rattle.engine.specs.Surroundings.{Program, Moment, program, moment}
use Rattle.engine.specs.Progress.{Progress, Outcome, progress, outcome}
use Rattle.engine.specs.Rules.{GoesByTheRules, PlateauLasts, step_of}
use Rattle.engine.specs.Ticks.{tick}
use Rattle.engine.specs.Laws.{PowerKept}
use Rattle.engine.proofs.Rules.{goes_by_the_rules}
use Rattle.engine.proofs.Plateaus.{plateau_lasts}
use Rattle.engine.proofs.Powers.{steps_with_power}
use Rattle.engine.proofs.Steps.{tick_step_told}
use Rattle.engine.proofs.run.Run.tick.Goals as goal

pub returns : goal.returns
returns c =
    let g : Program = program c.args.here.now in
    let t : Moment = moment c.args.here.now in
    let s : Progress = progress c.args.self in
    let e : tick g t s ≡ outcome c.advance.result = sym c.advance.ensures in
    record {
      outcome = sym e;
      next = subst (GoesByTheRules g t s) e (goes_by_the_rules g t s);
      step = subst (λ (o : Outcome). o.effects.step ≡ step_of s.state) e (tick_step_told g t s);
      plateau = subst (PlateauLasts g s) e (plateau_lasts g t s);
      power = subst (λ (o : Outcome). PowerKept s o.effects o.rest) e (steps_with_power g t s);
    }
