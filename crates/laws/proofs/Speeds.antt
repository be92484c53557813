-- The speed of a movement from tick to tick.
use Rattle.std.proofs.Common.{◌≡◌, ℕ, zero, suc, ◌+◌, ◌-◌, ◌*◌, ◌/◌, ◌<◌, ◌≤◌, Bool, true, false, cond, not, ◌&&◌, ◌||◌, eqb, ltb, Some, None, Option, inl, inr, refl, ap, ◌∙◌, subst, arith}
use Rattle.std.proofs.lemmas.Bool.{cond_both, cond-true, cond-false, le-leb, lt-leb}
use Rattle.std.proofs.lemmas.Bool.Decides.{leb_tells}
use Rattle.std.proofs.Math.Nat.{mul-div_cancel}
use Rattle.steps.specs.declared.direction.Direction.{Direction}
use Rattle.motion.specs.Values.{Values}
use Rattle.motion.specs.Motions.{Motion, at_start, falling, next_ramp, speed_at, after_step, without_step}
use Rattle.motion.specs.Ticks.{after}
use Rattle.motion.proofs.Steps.{tick_cases}
use Rattle.laws.specs.Speeds.{next_speed, steps_in, AddsItsSpeed, plateau_of, slope_speed, GoesUpItsSlope, StaysAtStartSpeed}

pub adds_its_speed : AddsItsSpeed
adds_its_speed m k e =
    tick_cases m (λ x rest. rest ≡ Some k → k.accumulated + 40000 * steps_in x ≡ m.accumulated + next_speed m)
    (λ _ q. absurd (cc q))
    (λ _ _ q. let r : without_step m ≡ k = cc q in subst (λ (y : Motion). y.accumulated + 40000 * 0 ≡ m.accumulated + next_speed m) r (omega arith))
    (λ _ _ _ q. absurd (cc q))
    (λ _ l _ q. let r : after_step m ≡ k = cc q in subst (λ (y : Motion). y.accumulated + 40000 * 1 ≡ m.accumulated + next_speed m) r (omega (arith, l)))
    e

up_stays : (m : Motion) → m.left ≤ m.up → (after_step m).up ≡ m.up
up_stays m h = ap (λ b. cond (not (b || m.stopping) && ltb (next_ramp m) m.top) (m.up + 1) m.up) (le-leb m.left m.up h)

-- once a movement slows down it goes on slowing down
slows_on : (j : ℕ) (k m : Motion) → k.left ≤ k.up → after j (Some k) ≡ Some m → m.left ≤ m.up
slows_on zero k m h e = let q : k ≡ m = cc e in subst (λ (x : Motion). x.left ≤ x.up) q h
slows_on (suc j) k m h e =
    tick_cases k (λ _ rest. after j rest ≡ Some m → m.left ≤ m.up)
    (λ _ f. absurd (cc f))
    (λ _ _ f. slows_on j (without_step k) m h f)
    (λ _ _ _ f. absurd (cc f))
    (λ _ _ _ f. slows_on j (after_step k) m (omega (arith, h, up_stays k h)) f)
    e

-- what has become of a movement after j ticks in which it did not slow down, where its slope stood at that tick
record Risen (start plateau top ramp j : ℕ) (m : Motion) : Type 0 where
  same_start : m.start ≡ start
  same_plateau : m.plateau ≡ plateau
  same_top : m.top ≡ top
  rising : (m.constant ≡ false) × (m.stopping ≡ false)
  below : ramp + j ≤ top → m.ramp ≡ ramp + j
  above : top ≤ ramp + j → m.ramp ≡ top

not_falling : (k : Motion) → k.stopping ≡ false → k.up < k.left → falling k ≡ false
not_falling k s h = ap (λ b. b || k.stopping) (lt-leb k.left k.up h) ∙ s

next_up : (k : Motion) → k.constant ≡ false → falling k ≡ false → next_ramp k ≡ cond (ltb k.ramp k.top) (k.ramp + 1) k.ramp
next_up k c f = cond-false _ _ _ c ∙ cond-false _ _ _ f

module _ (k : Motion) (c : k.constant ≡ false) (f : falling k ≡ false) where
  up_by_one : k.ramp < k.top → next_ramp k ≡ k.ramp + 1
  up_by_one h = next_up k c f ∙ cond-true _ _ _ (le-leb _ _ h)

  at_top : k.top ≤ k.ramp → next_ramp k ≡ k.ramp
  at_top h = let q : k.top < suc k.ramp = omega arith in next_up k c f ∙ cond-false _ _ _ (lt-leb (suc k.ramp) k.top q)

onward : (start plateau top ramp next j : ℕ) (m : Motion) → ramp ≤ top → (ramp < top → next ≡ ramp + 1) → (top ≤ ramp → next ≡ ramp) →
    Risen start plateau top next j m → Risen start plateau top ramp (suc j) m
onward start plateau top ramp next j m r up at h = record {
  same_start = h.same_start;
  same_plateau = h.same_plateau;
  same_top = h.same_top;
  rising = h.rising;
  below = λ q. let n : next ≡ ramp + 1 = up (omega arith) in h.below (omega arith) ∙ omega arith;
  above = λ q.
      elim (leb_tells top ramp) [
        | inl t ↦ let n : next ≡ ramp = at t.1 in h.above (omega arith)
        | inr t ↦ let n : next ≡ ramp + 1 = up t.1 in h.above (omega arith)
      ];
}

within_top : (top ramp next : ℕ) → ramp ≤ top → (ramp < top → next ≡ ramp + 1) → (top ≤ ramp → next ≡ ramp) → next ≤ top
within_top top ramp next r up at =
    elim (leb_tells top ramp) [
      | inl t ↦ let n : next ≡ ramp = at t.1 in omega arith
      | inr t ↦ let n : next ≡ ramp + 1 = up t.1 in omega arith
    ]

risen : (j : ℕ) (k m : Motion) → k.constant ≡ false → k.stopping ≡ false → k.ramp ≤ k.top → after j (Some k) ≡ Some m → m.up < m.left →
    Risen k.start k.plateau k.top k.ramp j m
risen zero k m c s r e u =
    let q : k ≡ m = cc e in
    subst (λ (x : Motion). Risen k.start k.plateau k.top k.ramp zero x) q
    (record { same_start = refl; same_plateau = refl; same_top = refl; rising = (c, s); below = λ h. omega arith; above = λ h. omega arith })
risen (suc j) k m c s r e u =
    let z : k.left ≤ k.up → ⊥ = λ h. absurd (omega (arith, slows_on (suc j) k m h e)) in
    let n : k.up < k.left = omega (arith, z) in
    let f = not_falling k s n in
    let w = within_top k.top k.ramp (next_ramp k) r (up_by_one k c f) (at_top k c f) in
    let go = onward k.start k.plateau k.top k.ramp (next_ramp k) j m r (up_by_one k c f) (at_top k c f) in
    tick_cases k (λ _ rest. after j rest ≡ Some m → Risen k.start k.plateau k.top k.ramp (suc j) m)
    (λ _ q. absurd (cc q))
    (λ _ _ q. go (risen j (without_step k) m c s w q u))
    (λ _ _ _ q. absurd (cc q))
    (λ _ _ _ q. go (risen j (after_step k) m c s w q u))
    e

-- its next speed
full_slope : (a p k : ℕ) → a ≤ p → 1 ≤ k → a + ((p - a) * k) / k ≡ p
full_slope a p k h o = ap (λ x. a + x) (mul-div_cancel (p - a) o) ∙ omega arith

module _ (v : Values) (asked : Option ℕ) (j : ℕ) (m : Motion) (t : 1 ≤ v.slope_time) (u : m.up < m.left) where
  abbrev Rose : Type 0
  Rose = Risen v.start_speed (plateau_of v asked) (40 * v.slope_time) 0 j m

  speed_is : Rose → (k : ℕ) → next_ramp m ≡ k → next_speed m ≡ slope_speed v asked k
  speed_is h k e = λ i. h.same_start i + ((h.same_plateau i - h.same_start i) * e i) / h.same_top i

  rise_is : Rose → j < 40 * v.slope_time → next_ramp m ≡ j + 1
  rise_is h l =
      let f = not_falling m h.rising.1 u in
      let r : m.ramp ≡ j = h.below (omega arith) ∙ omega arith in
      up_by_one m h.rising.0 f (omega (arith, h.same_top)) ∙ omega arith

  top_is : Rose → 40 * v.slope_time ≤ j + 1 → next_ramp m ≡ 40 * v.slope_time
  top_is h l =
      elim (leb_tells (40 * v.slope_time) j) [
        | inl q ↦ let r : m.ramp ≡ 40 * v.slope_time = h.above (omega (arith, q.1)) in at_top m h.rising.0 (not_falling m h.rising.1 u) (omega (arith, h.same_top)) ∙ r
        | inr q ↦ rise_is h q.1 ∙ omega arith
      ]

  speeds : Rose → (j < 40 * v.slope_time → next_speed m ≡ slope_speed v asked (j + 1)) × (40 * v.slope_time ≤ j + 1 → next_speed m ≡ plateau_of v asked)
  speeds h = (
    λ l. speed_is h (j + 1) (rise_is h l),
    λ l. speed_is h (40 * v.slope_time) (top_is h l) ∙ full_slope v.start_speed (plateau_of v asked) (40 * v.slope_time) (omega arith) (omega arith),
  )

same_plateau : (v : Values) (asked : Option ℕ) (x : Direction) (steps : ℕ) (constant : Bool) → (at_start v asked x steps constant).plateau ≡ plateau_of v asked
same_plateau v None x steps constant = refl
same_plateau v (Some n) x steps constant = refl

pub goes_up_its_slope : GoesUpItsSlope
goes_up_its_slope v asked x steps j m t e u =
    cond_both (eqb steps 0) None (Some (at_start v asked x steps false))
    (λ o. after j o ≡ Some m → (j < 40 * v.slope_time → next_speed m ≡ slope_speed v asked (j + 1)) × (40 * v.slope_time ≤ j + 1 → next_speed m ≡ plateau_of v asked))
    (λ _ q. absurd (cc q))
    (λ _ q.
    speeds v asked j m t u
    (subst (λ p. Risen v.start_speed p (40 * v.slope_time) 0 j m) (same_plateau v asked x steps false) (risen j (at_start v asked x steps false) m refl refl (omega arith) q u)))
    e

-- at constant speed
record Flat (start : ℕ) (m : Motion) : Type 0 where
  same_start : m.start ≡ start
  flat : m.constant ≡ true

flat : (j : ℕ) (k m : Motion) → k.constant ≡ true → after j (Some k) ≡ Some m → Flat k.start m
flat zero k m c e = let q : k ≡ m = cc e in subst (λ (x : Motion). Flat k.start x) q (record { same_start = refl; flat = c })
flat (suc j) k m c e =
    tick_cases k (λ _ rest. after j rest ≡ Some m → Flat k.start m)
    (λ _ q. absurd (cc q))
    (λ _ _ q. flat j (without_step k) m c q)
    (λ _ _ _ q. absurd (cc q))
    (λ _ _ _ q. flat j (after_step k) m c q)
    e

flat_speed : (start : ℕ) (m : Motion) → Flat start m → next_speed m ≡ start
flat_speed start m h = ap (speed_at m) (cond-true _ _ _ h.flat) ∙ omega (arith, h.same_start)

pub stays_at_start_speed : StaysAtStartSpeed
stays_at_start_speed v asked x steps j m e =
    cond_both (eqb steps 0) None (Some (at_start v asked x steps true)) (λ o. after j o ≡ Some m → next_speed m ≡ v.start_speed)
    (λ _ q. absurd (cc q))
    (λ _ q. flat_speed v.start_speed m (flat j (at_start v asked x steps true) m refl q))
    e
