-- A movement that is not stopped makes its steps.
use Rattle.std.proofs.Common.{◌≡◌, ℕ, zero, suc, ◌+◌, ◌-◌, ◌*◌, ◌<◌, ◌≤◌, Bool, true, false, cond, not, ◌&&◌, eqb, ltb, leb, ◌∷◌, length, replicate, Some, None, Option, sym, refl, ap, ◌∙◌, suc-mul, mul-le-mul_left, arith}
use Rattle.std.proofs.lemmas.Bool.{cond_both, both_ways, and_left, leb-true, leb-false, eqb-true, eqb-false, ltb-true}
use Rattle.steps.specs.declared.direction.Direction.{Direction}
use Rattle.motion.specs.Motions.{Motion, falling, next_ramp, ends_stopped, next_sum, after_step, without_step, tick_step, tick_rest}
use Rattle.motion.specs.Ticks.{after, with_step, made}
use Rattle.motion.specs.Laws.{Valid, EveryMovementValid, DoneIn, MakesItsSteps, AtLeastStartSpeed}
use Rattle.motion.proofs.Speeds.{speed_most}

pub valid : EveryMovementValid
valid m = record {
  goes = m.goes;
  below = m.below;
  ramps = m.ramps;
  limits = record { least = m.least; order = m.order; most = m.most; shortest = m.shortest };
}

pub next_ramp_within : (m : Motion) → m.ramp ≤ m.top → next_ramp m ≤ m.top
next_ramp_within m h =
    cond_both m.constant _ _ (λ k. k ≤ m.top) (λ _. omega arith)
    (λ _. cond_both (falling m) _ _ (λ k. k ≤ m.top) (λ _. omega arith)
    (λ _. cond_both (ltb m.ramp m.top) _ _ (λ k. k ≤ m.top) (λ e. omega (arith, ltb-true m.ramp m.top e)) (λ _. h)))

-- at least VN and at most P is added to a
pub added : (m : Motion) → Valid m → (m.accumulated + m.start ≤ next_sum m) × (next_sum m ≤ m.accumulated + m.plateau)
added m f = (
  omega arith,
  omega (arith, speed_most m.start m.plateau (next_ramp m) m.top f.limits.order (next_ramp_within m f.ramps)),
)

-- a tick ends a stopped movement, adds to a, makes the last step, or makes one of several
tick_shape :
    (P : Option Direction → Option Motion → Type 0) (x : Direction) (a w : Motion) (h s l : Bool) →
    (h ≡ true → P None None) →
    (h ≡ false → s ≡ false → P None (Some w)) →
    (h ≡ false → s ≡ true → l ≡ true → P (Some x) None) →
    (h ≡ false → s ≡ true → l ≡ false → P (Some x) (Some a)) →
    P (cond (not h && s) (Some x) None) (cond h None (cond (not h && s) (cond l None (Some a)) (Some w)))
tick_shape P x a w true s l p q r t = p refl
tick_shape P x a w false false l p q r t = q refl refl
tick_shape P x a w false true true p q r t = r refl refl refl
tick_shape P x a w false true false p q r t = t refl refl refl

pub tick_cases :
    (m : Motion) (P : Option Direction → Option Motion → Type 0) →
    (ends_stopped m ≡ true → P None None) →
    (ends_stopped m ≡ false → next_sum m < 40000 → P None (Some (without_step m))) →
    (ends_stopped m ≡ false → 40000 ≤ next_sum m → m.left ≡ 1 → P (Some m.direction) None) →
    (ends_stopped m ≡ false → 40000 ≤ next_sum m → (m.left ≡ 1 → ⊥) → P (Some m.direction) (Some (after_step m))) →
    P (tick_step m) (tick_rest m)
tick_cases m P p q r t =
    tick_shape P m.direction (after_step m) (without_step m) (ends_stopped m) (leb 40000 (next_sum m)) (eqb m.left 1) p
    (λ h e. q h (leb-false 40000 (next_sum m) e))
    (λ h e l. r h (leb-true 40000 (next_sum m) e) (eqb-true m.left 1 l))
    (λ h e l. t h (leb-true 40000 (next_sum m) e) (eqb-false m.left 1 l))

pub valid_without_step : (m : Motion) → Valid m → next_sum m < 40000 → Valid (without_step m)
valid_without_step m f h = record { goes = f.goes; below = h; ramps = next_ramp_within m f.ramps; limits = f.limits }

pub valid_after_step : (m : Motion) → Valid m → (m.left ≡ 1 → ⊥) → Valid (after_step m)
valid_after_step m f l = record {
  goes = (let g : 1 ≤ m.left = f.goes in omega (arith, l));
  below = omega (arith, (added m f).1, f.below, f.limits.most);
  ramps = next_ramp_within m f.ramps;
  limits = f.limits;
}

abbrev Done : ℕ → Motion → Option Direction → Option Motion → Type 0
Done n m step rest = (with_step step (made n rest) ≡ replicate m.left m.direction) × (after n rest ≡ None)

done_in : (n : ℕ) (m : Motion) → Valid m → m.stopping ≡ false → 40000 * m.left ≤ m.accumulated + n * m.start → DoneIn n m
done_in zero m f s h = absurd (omega (arith, f.goes, f.below))
done_in (suc n) m f s h =
    tick_cases m (Done n m)
    (λ e. absurd (both_ways (ends_stopped m) (and_left m.stopping (eqb (next_ramp m) 0) s) e))
    (λ _ e. done_in n (without_step m) (valid_without_step m f e) s (omega (arith, (added m f).0, suc-mul n m.start)))
    (λ _ e l. rw l (refl, refl))
    (λ _ e l.
    let r = done_in n (after_step m) (valid_after_step m f l) s (omega (arith, (added m f).0, suc-mul n m.start, f.goes)) in
    let k : m.left ≡ suc (m.left - 1) = omega (arith, f.goes) in
    (ap (λ l. m.direction ∷ l) r.0 ∙ sym (ap (λ j. replicate j m.direction) k), r.1))

pub at_least_start_speed : AtLeastStartSpeed
at_least_start_speed m f s zero j l h = omega (arith, f.below)
at_least_start_speed m f s (suc n) j l h =
    tick_cases m (λ step rest. j ≤ length (with_step step (made n rest)))
    (λ e. absurd (both_ways (ends_stopped m) (and_left m.stopping (eqb (next_ramp m) 0) s) e))
    (λ _ e. at_least_start_speed (without_step m) (valid_without_step m f e) s n j l (omega (arith, (added m f).0, suc-mul n m.start)))
    (λ _ e g. omega arith)
    (λ _ e g.
    let r = at_least_start_speed (after_step m) (valid_after_step m f g) s n (j - 1) (omega arith) (omega (arith, (added m f).0, suc-mul n m.start)) in
    omega (arith, r))

pub makes_its_steps : MakesItsSteps
makes_its_steps m f s =
    done_in (2000 * m.left) m f s (omega (arith, mul-le-mul_left (2000 * m.left) f.limits.least))
