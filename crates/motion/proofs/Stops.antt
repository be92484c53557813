-- After a slow stop a movement ends.
use Rattle.std.proofs.Common.{◌≡◌, ℕ, zero, suc, ◌-◌, ◌≤◌, true, false, eqb, leb, Some, None, refl, inl, inr, arith}
use Rattle.std.proofs.lemmas.Bool.{cond_both, both_ways, and_cases, or_right, eqb-false}
use Rattle.motion.specs.Motions.{Motion, falling, next_ramp, ends_stopped, after_step, without_step, slowing, stopped}
use Rattle.motion.specs.Ticks.{after, StepsAtMost}
use Rattle.motion.specs.Laws.{Valid, SlowStopEnds}
use Rattle.motion.proofs.Steps.{tick_cases, valid_without_step, valid_after_step}
use Rattle.motion.proofs.Bounds.{makes_no_more}

-- after GE each tick takes 1 from k
ramp_falls : (m : Motion) → m.stopping ≡ true → next_ramp m ≤ m.ramp - 1
ramp_falls m s =
    cond_both m.constant _ _ (λ k. k ≤ m.ramp - 1) (λ _. omega arith)
    (λ _. cond_both (falling m) _ _ (λ k. k ≤ m.ramp - 1) (λ _. omega arith)
    (λ e. absurd (both_ways (falling m) e (or_right (leb m.left m.up) m.stopping s))))

above_zero : (m : Motion) → m.stopping ≡ true → ends_stopped m ≡ false → 1 ≤ next_ramp m
above_zero m s h =
    elim (and_cases m.stopping (eqb (next_ramp m) 0) h) [
      | inl e ↦ absurd (both_ways m.stopping e s)
      | inr e ↦ let z : next_ramp m ≡ 0 → ⊥ = eqb-false (next_ramp m) 0 e in omega arith
    ]

ends_in : (n : ℕ) (m : Motion) → Valid m → m.stopping ≡ true → m.ramp ≤ n → 1 ≤ n → after n (Some m) ≡ None
ends_in zero m f s h o = absurd (omega arith)
ends_in (suc n) m f s h o =
    tick_cases m (λ _ rest. after n rest ≡ None)
    (λ _. refl)
    (λ e g. ends_in n (without_step m) (valid_without_step m f g) s (omega (arith, ramp_falls m s)) (omega (arith, ramp_falls m s, above_zero m s e)))
    (λ _ _ _. refl)
    (λ e _ l. ends_in n (after_step m) (valid_after_step m f l) s (omega (arith, ramp_falls m s)) (omega (arith, ramp_falls m s, above_zero m s e)))

valid_slowing : (m : Motion) → Valid m → Valid (slowing m)
valid_slowing m f = record { goes = f.goes; below = f.below; ramps = f.ramps; limits = f.limits }

pub slowing_ends : (m : Motion) → Valid m → (n : ℕ) → m.ramp ≤ n → 1 ≤ n → after n (Some (slowing m)) ≡ None
slowing_ends m f n h o = ends_in n (slowing m) (valid_slowing m f) refl h o

pub slowing_steps : (m : Motion) → Valid m → StepsAtMost m.left m.direction (Some (slowing m))
slowing_steps m f = makes_no_more (slowing m) (valid_slowing m f)

stopped_ends : (m : Motion) → Valid m → (n : ℕ) → m.ramp ≤ n → after n (stopped m) ≡ None
stopped_ends m f n h =
    cond_both (eqb m.ramp 0) _ _ (λ r. after n r ≡ None) (λ _. refl)
    (λ e. let z : m.ramp ≡ 0 → ⊥ = eqb-false m.ramp 0 e in slowing_ends m f n h (omega arith))

pub slow_stop_ends : SlowStopEnds
slow_stop_ends m f = (
  stopped_ends m f m.ramp (omega arith),
  stopped_ends m f m.top f.ramps,
  cond_both (eqb m.ramp 0) _ _ (λ r. StepsAtMost m.left m.direction r) (λ _ n. (0, omega arith, refl)) (λ _. slowing_steps m f),
)
