use Rattle.std.proofs.Common.{◌≡◌, pos, negsuc, ◌+ℤ◌, ◌≤ℤ◌, ap, ◌∙◌, arith}
use borrow.Author.Differences.{ints}
use Rattle.steps.specs.Directions.{one_step}
use Rattle.steps.specs.Wrap.{wrapped24}
use Rattle.steps.proofs.Wrap.{wrapped_range}
use Rattle.outputs.proofs.Numbers.{at, step_meaning}
use Rattle.outputs.proofs.dry_run.output.DryRunOutputStepOutput.step.Goals as goal

pub invariant_of-self : goal.invariant_of-self
invariant_of-self c =
    let range : (negsuc 8388607 ≤ℤ c.next_number-self.result) × (c.next_number-self.result ≤ℤ pos 8388607) = rw c.next_number-self.ensures (wrapped_range _) in
    record { at_least = omega (arith, ints); at_most = omega (arith, ints) }

pub returns-clause-numbered : goal.returns-clause-numbered
returns-clause-numbered c =
    let next : c.next_number-self.result ≡ wrapped24 (c.args.self.now.number +ℤ one_step c.args.direction) = c.next_number-self.ensures ∙ ap wrapped24 (omega (arith, ints)) in
    rw c.if-not-self.false (omega (arith, ints))

pub returns-clause-moved : goal.returns-clause-moved
returns-clause-moved c =
    let o = c.args.self.now in
    ap (at o.power) (returns-clause-numbered c) ∙ step_meaning c.args.direction o.power o.number o.at_least o.at_most
