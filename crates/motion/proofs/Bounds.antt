-- What bounds a movement: its steps and its plateau.
use Rattle.std.proofs.Common.{◌≡◌, ℕ, zero, suc, ◌+◌, ◌-◌, ◌*◌, ◌≤◌, true, ◌∷◌, length, Some, Option, refl, ap, suc-mul, arith}
use native.Mathlib.Nat.{div-le_of_le-mul}
use Rattle.steps.specs.declared.direction.Direction.{Direction}
use Rattle.motion.specs.Motions.{Motion, next_ramp, next_sum, after_step, without_step, tick_step, tick_rest}
use Rattle.motion.specs.Ticks.{after, with_step, made, UpTo, SpeedAtMost, TickBounds}
use Rattle.motion.specs.Laws.{Valid, MakesNoMore, AtMostPlateau, ConstantAtMostStart, BetweenSteps}
use Rattle.motion.proofs.Steps.{added, tick_cases, valid_without_step, valid_after_step}

pub makes_no_more : MakesNoMore
makes_no_more m f zero = (0, omega arith, refl)
makes_no_more m f (suc n) =
    tick_cases m (λ step rest. UpTo m.left m.direction (with_step step (made n rest)))
    (λ _. (0, omega arith, refl))
    (λ _ e. makes_no_more (without_step m) (valid_without_step m f e) n)
    (λ _ _ l. (1, omega arith, refl))
    (λ _ _ l.
    let r = makes_no_more (after_step m) (valid_after_step m f l) n in
    (suc r.0, omega (arith, r.1, f.goes), ap (λ l. m.direction ∷ l) r.2))

pub at_most_plateau : AtMostPlateau
at_most_plateau m f zero = omega arith
at_most_plateau m f (suc n) =
    tick_cases m (λ step rest. 40000 * length (with_step step (made n rest)) ≤ m.accumulated + suc n * m.plateau)
    (λ _. omega arith)
    (λ _ e. omega (arith, at_most_plateau (without_step m) (valid_without_step m f e) n, (added m f).1, suc-mul n m.plateau))
    (λ _ e l. omega (arith, (added m f).1, suc-mul n m.plateau))
    (λ _ e l. omega (arith, at_most_plateau (after_step m) (valid_after_step m f l) n, (added m f).1, suc-mul n m.plateau))

constant_added : (m : Motion) → m.constant ≡ true → next_sum m ≤ m.accumulated + m.start
constant_added m c =
    let z : next_ramp m ≡ 0 = rw c refl in
    let p : (m.plateau - m.start) * next_ramp m ≤ m.top * 0 = rw z (omega arith) in
    omega (arith, div-le_of_le-mul m.top p)

pub constant_at_most_start : ConstantAtMostStart
constant_at_most_start m f c zero = omega arith
constant_at_most_start m f c (suc n) =
    tick_cases m (λ step rest. 40000 * length (with_step step (made n rest)) ≤ m.accumulated + suc n * m.start)
    (λ _. omega arith)
    (λ _ e. omega (arith, constant_at_most_start (without_step m) (valid_without_step m f e) c n, constant_added m c, suc-mul n m.start))
    (λ _ e l. omega (arith, constant_added m c, suc-mul n m.start))
    (λ _ e l. omega (arith, constant_at_most_start (after_step m) (valid_after_step m f l) c n, constant_added m c, suc-mul n m.start))

pub between_steps : BetweenSteps
between_steps m f = omega (arith, at_most_plateau m f 2, f.below, f.limits.most)

pub speed_at_most : (m : Motion) → Valid m → SpeedAtMost m.plateau (Some m)
speed_at_most m f zero n = omega (arith, at_most_plateau m f n, f.below)
speed_at_most m f (suc t) n =
    tick_cases m (λ _ rest. 40000 * length (made n (after t rest)) ≤ 39999 + n * m.plateau)
    (λ _. omega arith)
    (λ _ e. speed_at_most (without_step m) (valid_without_step m f e) t n)
    (λ _ _ _. omega arith)
    (λ _ _ l. speed_at_most (after_step m) (valid_after_step m f l) t n)

bounds : (m : Motion) → Valid m → TickBounds m (tick_step m) (tick_rest m)
bounds m f = record {
  steps = λ n. makes_no_more m f (suc n);
  plateau = λ n. at_most_plateau m f (suc n);
  between = between_steps m f;
}

pub tick_bounds :
    (m : Motion) → Valid m → (step : Option Direction) (rest : Option Motion) →
    step ≡ tick_step m → rest ≡ tick_rest m → TickBounds m step rest
tick_bounds m f step rest e g = rw (e, g) (bounds m f)

pub speed_at_most_of : (m : Motion) → Valid m → (v : ℕ) → m.plateau ≡ v → SpeedAtMost v (Some m)
speed_at_most_of m f v e = rw (← e) (speed_at_most m f)
