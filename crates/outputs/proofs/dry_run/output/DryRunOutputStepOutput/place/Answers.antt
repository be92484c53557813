use Rattle.std.proofs.Common.{◌≡◌, pos, ap, ◌∙◌, arith, w32, to_z, of_z}
use borrow.Author.Differences.{ints}
use Rattle.std.specs.Int.{int_rem_euclid}
use Rattle.std.specs.Int.RustNames.{unsigned_abs}
use Rattle.steps.specs.Wrap.{modulo24}
use Rattle.outputs.proofs.dry_run.output.DryRunOutputStepOutput.place.Goals as goal

pub returns : goal.returns
unfolding modulo24
returns c =
    let n = c.args.self.now.number in
    let r = c.rem_euclid.result in
    let read : to_z w32 (of_z w32 n) ≡ n = omega (arith, ints) in
    let same : to_z w32 (of_z w32 r) ≡ r = omega (arith, ints) in
    ap unsigned_abs (same ∙ (c.rem_euclid.ensures.value ∙ ap (λ z. int_rem_euclid z (pos 16777216)) read))
