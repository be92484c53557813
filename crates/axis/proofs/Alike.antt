-- A step moves counter and place alike.
use Rattle.std.proofs.Common.{◌≡◌, ℕ, Bool, true, false, cond, ℤ, pos, ◌+ℤ◌, ◌-ℤ◌, refl, ap, ◌∙◌, arith}
use borrow.Author.Differences.{ints}
use Rattle.steps.specs.declared.direction.Direction.{Direction}
use Rattle.steps.specs.declared.direction.Direction.TheVariants.{Forward, Back}
use Rattle.outputs.specs.Meaning.{moved}
use Rattle.steps.specs.Directions.{one_step}
use Rattle.steps.specs.Wrap.{modulo24, wrapped24}
use Rattle.axis.specs.Axes.{AxisState, axis_stepped, offset}
use Rattle.steps.proofs.Wrap.{wrapped_step, wrapped_less, modulo_turn}

-- the place after a step is the number one further, modulo 2^24
pub moved_modulo : (s : Direction) (p : ℕ) → pos (moved s p) ≡ modulo24 (pos p +ℤ one_step s)
unfolding modulo24
moved_modulo Forward p = refl
moved_modulo Back p = modulo_turn p

-- counter and place one further in the same direction, each wrapped in its own way
pub further : (c d : ℤ) (p : ℕ) → wrapped24 (wrapped24 (c +ℤ d) -ℤ modulo24 (pos p +ℤ d)) ≡ wrapped24 (c -ℤ pos p)
further c d p =
    let y = pos p +ℤ d in
    let w = wrapped24 (c +ℤ d) in
    let less : w -ℤ y ≡ w +ℤ (pos 0 -ℤ y) = omega (arith, ints) in
    let same : (c +ℤ d) +ℤ (pos 0 -ℤ y) ≡ c -ℤ pos p = omega (arith, ints) in
    wrapped_less w y ∙ (ap wrapped24 less ∙ (wrapped_step (c +ℤ d) (pos 0 -ℤ y) ∙ ap wrapped24 same))

by_power : (b : Bool) (s : Direction) (c : ℤ) (p : ℕ) → wrapped24 (cond b (wrapped24 (c +ℤ one_step s)) c -ℤ pos (cond b (moved s p) p)) ≡ wrapped24 (c -ℤ pos p)
by_power true s c p = ap (λ z. wrapped24 (wrapped24 (c +ℤ one_step s) -ℤ z)) (moved_modulo s p) ∙ further c (one_step s) p
by_power false s c p = refl

-- for every axis and direction, whether the step is made or refused
pub step_alike : (s : Direction) (a : AxisState) → offset (axis_stepped s a) ≡ offset a
step_alike s a = by_power a.power s a.counter a.place
