use Rattle.std.proofs.Common.{◌≡◌, pos, ◌+ℤ◌, ◌-ℤ◌, ap, ◌∙◌, arith, w64}
use Rattle.std.proofs.lemmas.Int.{to_z-of_z}
use borrow.Author.Differences.{ints}
use Rattle.std.specs.Int.{int_rem_euclid}
use Rattle.steps.specs.Wrap.{modulo24, wrapped24}
use Rattle.steps.proofs.Wrap.{wrapped_modulo}
use Rattle.steps.proofs.wrapped.wrapped24.Goals as goal

pub returns : goal.returns
unfolding modulo24 wrapped24
returns c =
    let first : c.rem_euclid.result +ℤ pos 8388608 ≡ modulo24 c.args.n +ℤ pos 8388608 =
    ap (λ z. z +ℤ pos 8388608) (c.rem_euclid.ensures.value ∙ ap (λ z. int_rem_euclid z (pos 16777216)) (to_z-of_z w64 c.args.n c.ranges.n)) in
    let second : c.rem_euclid-2.result ≡ modulo24 (c.rem_euclid.result +ℤ pos 8388608) =
    c.rem_euclid-2.ensures.value ∙ ap (λ z. int_rem_euclid z (pos 16777216)) (omega (arith, ints)) in
    let e : c.rem_euclid-2.result -ℤ pos 8388608 ≡ wrapped24 c.args.n =
    ap (λ z. z -ℤ pos 8388608) (second ∙ ap modulo24 first) ∙ wrapped_modulo c.args.n in
    omega (arith, ints) ∙ e
