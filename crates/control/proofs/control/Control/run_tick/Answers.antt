use Rattle.std.proofs.Common.{ap, ◌∙◌}
use Rattle.engine.specs.Progress.{Outcome, progress, progress_left, outcome}
use Rattle.control.specs.States.{state}
use Rattle.control.proofs.RunTicks.{outcome_as_told, state_left}
use Rattle.control.proofs.control.Control.run_tick.Goals as goal

pub returns-in-Some : goal.returns-in-Some
returns-in-Some c =
    let s = state c.args.self.now in
    let o = outcome c.tick-rest.result in
    let e = outcome_as_told s c.args.records.now c.args.counter (progress c.args.run) o c.ranges.counter c.tick-rest.ensures.outcome in
    record {
      effects = ap (λ (p : Outcome). p.effects) e;
      state = c.go_on.ensures ∙ state_left s o _ _ _ e c.unwrap_or-self.ensures (ap progress_left c.in-Some.is);
    }

pub returns-in-None : goal.returns-in-None
returns-in-None c =
    let s = state c.args.self.now in
    let o = outcome c.tick-rest.result in
    let e = outcome_as_told s c.args.records.now c.args.counter (progress c.args.run) o c.ranges.counter c.tick-rest.ensures.outcome in
    record {
      effects = ap (λ (p : Outcome). p.effects) e;
      state = c.go_on-in-None.ensures ∙ state_left s o _ _ _ e c.unwrap_or-self.ensures (ap progress_left c.in-None.is);
    }
