-- A run goes on and ends by the rules alone.
use Rattle.std.proofs.Common.{◌≡◌, ℕ, Bool, true, false, cond, eqb, ltb, leb, List, [], ◌∷◌, length, pos, Some, None, Ok, Err, Option, Result, sym, refl, ap, ◌∙◌, subst, arith}
use Rattle.std.proofs.lemmas.Bool.{cond_both, eqb-true, eqb-false, ltb-true, ltb-false}
use Rattle.faults.specs.declared.Fault.{Fault}
use Rattle.phases.specs.declared.phase.Phase.{Phase}
use Rattle.phases.specs.declared.phase.Link.{Link}
use Rattle.phases.specs.declared.phase.Link.TheVariants as link
use Rattle.phases.specs.declared.phase.Nature.{Nature}
use Rattle.phases.specs.declared.phase.Nature.TheVariants.{Relative, Origin, Absolute, ConstantSpeed, Wait, PlateauSpeed}
use Rattle.motion.specs.Motions.{Motion, at_start, tick_rest, tick_step}
use Rattle.motion.specs.Limits.{speed_within}
use Rattle.engine.specs.declared.effects.Effects.{Effects}
use Rattle.phases.specs.declared.phase.Position.{Position}
use Rattle.motion.specs.declared.distance.Distance.{Distance}
use Rattle.engine.specs.Positions.{first_of, following, next_of}
use Rattle.motion.specs.Distances.{distance_to}
use Rattle.engine.specs.Distances.{distance_of}
use Rattle.engine.specs.Effects.{step_only, nothing}
use Rattle.engine.specs.Progress.{Progress, PhaseState, entering, moving, waiting, Outcome, with_returns, with_plateau, with_state}
use Rattle.engine.specs.Leaving as leaving
use Rattle.engine.specs.Leaving.{agrees, exists, linked, leaves, phase_ended, returns_from}
use Rattle.engine.specs.Entering.{entered, sets_movement, moves_by, starts, enters, phase_at}
use Rattle.engine.specs.Ticks.{moved, state_tick, tick}
use Rattle.engine.specs.Rules.{Event, continues, over, unwritten, ended_by_ge, ends_entering, entry_event, movement_event, state_event, Stays, Enters, ByTheRules, goes_on, ne_differs, follows, ns, ns_54, nl, nq, nl_absent, nq_absent, nq_fifth, unwritten_ends, unwritten_returns, returns_54, after_ge, GoesByTheRules}
use Rattle.engine.specs.Surroundings.{Moment, Program}

-- the run that goes on at a phase enters it
enters_at : (c : Progress) (q : Position) → Enters q c.returns (leaving.goes_on c (Some q))
enters_at c q = (record c { at = q; state = entering }, refl, refl, refl, refl)

abbrev Ruled : Program → Moment → Progress → Event → Result (Option Progress) Fault → Type 0
Ruled g t c e (Ok r) = ByTheRules g.blocks t.levels c.at c.returns e None r
Ruled g t c e (Err x) = ByTheRules g.blocks t.levels c.at c.returns e (Some x) None

abbrev RuledOutcome : Program → Moment → Progress → Event → Outcome → Type 0
RuledOutcome g t c e o = ByTheRules g.blocks t.levels c.at c.returns e o.effects.fault o.rest

module _ (g : Program) (t : Moment) (c : Progress) (p : Phase) where
  without_link : agrees p t.levels ≡ true → p.link ≡ None → (o : Option ℕ) → p.next ≡ o → ByTheRules g.blocks t.levels c.at c.returns (over p) None (leaving.goes_on c (next_of c.at o))
  without_link h l None n = follows p (refl, h) l n refl (enters_at c (following c.at))
  without_link h l (Some k) n =
      cond_both (eqb k 54) _ _ (λ (x : Option Position). ByTheRules g.blocks t.levels c.at c.returns (over p) None (leaving.goes_on c x))
      (λ t. ns_54 p (refl, h) l (n ∙ ap Some (eqb-true k 54 t)) refl refl)
      (λ f. ns p k (refl, h) l n (eqb-false k 54 f) refl (enters_at c (record { sequence = c.at.sequence; phase = k })))

  ruled_linked : agrees p t.levels ≡ true → (l : Option (Link ℕ)) → p.link ≡ l → Ruled g t c (over p) (linked g.blocks c (next_of c.at p.next) l)
  ruled_linked h None l = without_link h l p.next refl
  ruled_linked h (Some (link.Sequence k)) l =
      cond_both (exists g.blocks k) _ _ (Ruled g t c (over p))
      (λ x. nl p k (refl, h) l x refl (enters_at c (first_of k)))
      (λ x. nl_absent p k (refl, h) l x refl refl)
  ruled_linked h (Some (link.SubSequence k)) l =
      cond_both (exists g.blocks k) _ _ (Ruled g t c (over p))
      (λ x. cond_both (ltb (length c.returns) 4) _ _ (Ruled g t c (over p))
      (λ r. nq p k (refl, h) l x (ltb-true (length c.returns) 4 r) refl (enters_at (with_returns c (next_of c.at p.next ∷ c.returns)) (first_of k)))
      (λ r. nq_fifth p k (refl, h) l x (ltb-false (length c.returns) 4 r) refl refl))
      (λ x. nq_absent p k (refl, h) l x refl refl)

  ruled_leaves : Ruled g t c (over p) (leaves g t c p)
  ruled_leaves =
      cond_both (agrees p t.levels) _ _ (Ruled g t c (over p))
      (λ h. ruled_linked h p.link refl)
      (λ h. ne_differs p refl h refl (enters_at c (following c.at)))

  ruled_ended : (x : Event) (e : Effects) → e.fault ≡ None → (r : Result (Option Progress) Fault) → Ruled g t c x r → RuledOutcome g t c x (phase_ended e r)
  ruled_ended x e f (Ok r) h = subst (λ k. ByTheRules g.blocks t.levels c.at c.returns x k r) (sym f) h
  ruled_ended x e f (Err y) h = h

  ruled_left : (e : Effects) → e.fault ≡ None → RuledOutcome g t c (over p) (phase_ended e (leaves g t c p))
  ruled_left e f = ruled_ended (over p) e f (leaves g t c p) ruled_leaves

  moves_on : (m : Motion) → Stays c.at c.returns (Some (with_state c (moving p m)))
  moves_on m = (with_state c (moving p m), refl, refl, refl, λ e. let z : ◌≡◌ {A = ℕ} 0 1 = cc in absurd (omega arith))

  waits_on : (n : ℕ) → Stays c.at c.returns (Some (with_state c (waiting p n)))
  waits_on n = (with_state c (waiting p n), refl, refl, refl, λ e. let z : ◌≡◌ {A = ℕ} 0 1 = cc in absurd (omega arith))

  ruled_sets : (b : Bool) (m : Motion) → RuledOutcome g t c (cond b (over p) continues) (sets_movement g t c p (cond b None (Some m)))
  ruled_sets true m = ruled_left (entered p) refl
  ruled_sets false m = goes_on refl refl (moves_on m)

  ruled_moves : (d : Distance) (constant : Bool) → RuledOutcome g t c (cond (eqb d.steps 0) (over p) continues) (moves_by g t c p d constant)
  ruled_moves d constant = ruled_sets (eqb d.steps 0) (at_start g.values c.plateau d.direction d.steps constant)

  ruled_stopping : (m : Motion) (b : Bool) →
      RuledOutcome g t c (cond b ended_by_ge (over p))
      (cond b (record { effects = step_only (tick_step m); rest = None }) (phase_ended (step_only (tick_step m)) (leaves g t c p)))
  ruled_stopping m true = after_ge refl refl refl
  ruled_stopping m false = ruled_left (step_only (tick_step m)) refl

  ruled_moved : (m : Motion) (r : Option Motion) → RuledOutcome g t c (movement_event p m.stopping r) (moved g t c p m r)
  ruled_moved m (Some r) = goes_on refl refl (moves_on r)
  ruled_moved m None = ruled_stopping m m.stopping

  ruled_waited : (n : ℕ) (b : Bool) →
      RuledOutcome g t c (cond b (over p) continues)
      (cond b (phase_ended nothing (leaves g t c p)) (record { effects = nothing; rest = Some (with_state c (waiting p n)) }))
  ruled_waited n true = ruled_left nothing refl
  ruled_waited n false = goes_on refl refl (waits_on n)

ruled_starts : (g : Program) (t : Moment) (c : Progress) (p : Phase) (n : Nature) → RuledOutcome g t c (cond (ends_entering t.counter p n) (over p) continues) (starts g t c p n)
ruled_starts g t c p Relative = ruled_moves g t c p (distance_of p) false
ruled_starts g t c p ConstantSpeed = ruled_moves g t c p (distance_of p) true
ruled_starts g t c p Absolute = ruled_moves g t c p (distance_to p.set_point t.counter) false
ruled_starts g t c p Origin = ruled_moves g t c p (distance_to (pos 0) t.counter) false
ruled_starts g t c p Wait = goes_on refl refl (waits_on g t c p _)
ruled_starts g t c p PlateauSpeed = ruled_left g t (with_plateau c (speed_within p.set_point)) p (entered p) refl
ruled_starts g t c p _ = ruled_left g t c p (entered p) refl

ruled_returns : (g : Program) (t : Moment) (c : Progress) (qs : List (Option Position)) → c.returns ≡ qs → ByTheRules g.blocks t.levels c.at c.returns unwritten None (returns_from c qs)
ruled_returns g t c [] k = unwritten_ends refl k refl refl
ruled_returns g t c (None ∷ qs) k = returns_54 qs refl k refl refl
ruled_returns g t c (Some q ∷ qs) k = unwritten_returns q qs refl k refl (enters_at (with_returns c qs) q)

ruled_enters : (g : Program) (t : Moment) (c : Progress) (o : Option Phase) → RuledOutcome g t c (entry_event t.counter o) (enters g t c o)
ruled_enters g t c None = ruled_returns g t c c.returns refl
ruled_enters g t c (Some p) = ruled_starts g t c p p.nature

ruled_tick : (g : Program) (t : Moment) (c : Progress) (a : PhaseState) → RuledOutcome g t c (state_event g t c.at a) (state_tick g t c a)
ruled_tick g t c entering = ruled_enters g t c (phase_at g c.at)
ruled_tick g t c (moving p m) = ruled_moved g t c p m (tick_rest m)
ruled_tick g t c (waiting p n) = ruled_waited g t c p _ (leb n 1)

pub goes_by_the_rules : (g : Program) (t : Moment) (c : Progress) → GoesByTheRules g t c (tick g t c)
goes_by_the_rules g t c = ruled_tick g t c c.state
