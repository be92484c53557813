-- A run is always in a sequence that exists.
use Rattle.std.proofs.Common.{◌≡◌, sym, subst, ℕ, ◌≤◌, Bool, true, false, eqb, ltb, leb, List, [], ◌∷◌, length, pos, Some, None, Ok, Err, Option, Result, arith}
use Rattle.std.specs.List.{AllByRecursion}
use Rattle.std.proofs.lemmas.Bool.{cond_both, ltb-true}
use Rattle.faults.specs.declared.Fault.{Fault}
use Rattle.phases.specs.declared.phase.Phase.{Phase}
use Rattle.phases.specs.declared.phase.Link.{Link}
use Rattle.phases.specs.declared.phase.Link.TheVariants as link
use Rattle.phases.specs.declared.phase.Nature.{Nature}
use Rattle.phases.specs.declared.phase.Nature.TheVariants.{Relative, Origin, Absolute, ConstantSpeed, Wait, PlateauSpeed}
use Rattle.motion.specs.Motions.{Motion, begun, tick_rest, tick_step}
use Rattle.motion.specs.Limits.{speed_within}
use Rattle.engine.specs.declared.effects.Effects.{Effects}
use Rattle.phases.specs.declared.phase.Position.{Position}
use Rattle.motion.specs.declared.distance.Distance.{Distance}
use Rattle.engine.specs.Positions.{first_of, following, next_of}
use Rattle.motion.specs.Distances.{distance_to}
use Rattle.engine.specs.Distances.{distance_of}
use Rattle.engine.specs.Effects.{step_only, nothing}
use Rattle.engine.specs.Progress.{Progress, PhaseState, entering, moving, waiting, Outcome, with_returns, with_plateau}
use Rattle.engine.specs.Leaving.{agrees, exists, goes_on, linked, leaves, phase_ended, returns_from}
use Rattle.engine.specs.Entering.{entered, sets_movement, moves_by, starts, enters, phase_at}
use Rattle.engine.specs.Ticks.{moved, state_tick, started, tick}
use Rattle.engine.specs.Surroundings.{Moment, Program}
use Rattle.engine.specs.Laws.{after, InSequence, NextInSequence, InSequences, StaysInSequences}

abbrev ResultIn : Program → Result (Option Progress) Fault → Type 0
ResultIn g (Ok r) = InSequences g r
ResultIn g (Err x) = Unit {0}

in_goes_on : (g : Program) (c : Progress) (q : Option Position) → NextInSequence g q → AllByRecursion (NextInSequence g) c.returns → length c.returns ≤ 4 → InSequences g (goes_on c q)
in_goes_on g c None r a l = tt
in_goes_on g c (Some q) r a l = (r, a, l)

in_next : (g : Program) (q : Position) → InSequence g q → (o : Option ℕ) → NextInSequence g (next_of q o)
in_next g q r None = r
in_next g q r (Some n) = cond_both (eqb n 54) _ _ (NextInSequence g) (λ _. tt) (λ _. r)

in_linked : (g : Program) (c : Progress) (next : Option Position) → NextInSequence g next → InSequences g (Some c) → (l : Option (Link ℕ)) → ResultIn g (linked g.blocks c next l)
in_linked g c next r s None = in_goes_on g c next r s.1 s.2
in_linked g c next r s (Some (link.Sequence n)) =
    cond_both (exists g.blocks n) _ _ (ResultIn g) (λ e. in_goes_on g c (Some (first_of n)) e s.1 s.2) (λ _. tt)
in_linked g c next r s (Some (link.SubSequence n)) =
    cond_both (exists g.blocks n) _ _ (ResultIn g)
    (λ e. cond_both (ltb (length c.returns) 4) _ _ (ResultIn g)
    (λ d. in_goes_on g (with_returns c (next ∷ c.returns)) (Some (first_of n)) e (r, s.1) (omega (arith, ltb-true (length c.returns) 4 d)))
    (λ _. tt))
    (λ _. tt)

in_leaves : (g : Program) (t : Moment) (c : Progress) (p : Phase) → InSequences g (Some c) → ResultIn g (leaves g t c p)
in_leaves g t c p s =
    cond_both (agrees p t.levels) _ _ (ResultIn g)
    (λ _. in_linked g c (next_of c.at p.next) (in_next g c.at s.0 p.next) s p.link)
    (λ _. in_goes_on g c (Some (following c.at)) s.0 s.1 s.2)

in_ended : (g : Program) (e : Effects) (r : Result (Option Progress) Fault) → ResultIn g r → InSequences g (phase_ended e r).rest
in_ended g e (Ok rest) s = s
in_ended g e (Err x) s = tt

in_left : (g : Program) (t : Moment) (c : Progress) (p : Phase) → InSequences g (Some c) → (e : Effects) → InSequences g (phase_ended e (leaves g t c p)).rest
in_left g t c p s e = in_ended g e (leaves g t c p) (in_leaves g t c p s)

in_sets : (g : Program) (t : Moment) (c : Progress) (p : Phase) → InSequences g (Some c) → (m : Option Motion) → InSequences g (sets_movement g t c p m).rest
in_sets g t c p s None = in_left g t c p s (entered p)
in_sets g t c p s (Some m) = s

module _ (g : Program) (t : Moment) (c : Progress) (p : Phase) (s : InSequences g (Some c)) where
  in_moves : (d : Distance) (constant : Bool) → InSequences g (moves_by g t c p d constant).rest
  in_moves d constant = in_sets g t c p s (begun g.values c.plateau d.direction d.steps constant)

  in_starts : (n : Nature) → InSequences g (starts g t c p n).rest
  in_starts Relative = in_moves (distance_of p) false
  in_starts ConstantSpeed = in_moves (distance_of p) true
  in_starts Absolute = in_moves (distance_to p.set_point t.counter) false
  in_starts Origin = in_moves (distance_to (pos 0) t.counter) false
  in_starts Wait = s
  in_starts PlateauSpeed = in_left g t (with_plateau c (speed_within p.set_point)) p s (entered p)
  in_starts _ = in_left g t c p s (entered p)

in_returns : (g : Program) (c : Progress) (qs : List (Option Position)) → AllByRecursion (NextInSequence g) qs → length qs ≤ 4 → InSequences g (returns_from c qs)
in_returns g c [] a l = tt
in_returns g c (q ∷ qs) a l = in_goes_on g (with_returns c qs) q a.0 a.1 (omega arith)

in_enters : (g : Program) (t : Moment) (c : Progress) → InSequences g (Some c) → (o : Option Phase) → InSequences g (enters g t c o).rest
in_enters g t c s None = in_returns g c c.returns s.1 s.2
in_enters g t c s (Some p) = in_starts g t c p s p.nature

in_moved : (g : Program) (t : Moment) (c : Progress) (p : Phase) → InSequences g (Some c) → (m : Motion) (r : Option Motion) → InSequences g (moved g t c p m r).rest
in_moved g t c p s m (Some r) = s
in_moved g t c p s m None =
    cond_both m.stopping _ _ (λ (o : Outcome). InSequences g o.rest) (λ _. tt) (λ _. in_left g t c p s (step_only (tick_step m)))

in_tick : (g : Program) (t : Moment) (c : Progress) → InSequences g (Some c) → (a : PhaseState) → InSequences g (state_tick g t c a).rest
in_tick g t c s entering = in_enters g t c s (phase_at g c.at)
in_tick g t c s (moving p m) = in_moved g t c p s m (tick_rest m)
in_tick g t c s (waiting p n) =
    cond_both (leb n 1) _ _ (λ (o : Outcome). InSequences g o.rest) (λ _. in_left g t c p s nothing) (λ _. s)

in_after : (g : Program) (ts : List Moment) (o : Option Progress) → InSequences g o → InSequences g (after g ts o)
in_after g ts None s = tt
in_after g [] (Some c) s = s
in_after g (t ∷ ts) (Some c) s = in_after g ts (tick g t c).rest (in_tick g t c s c.state)

pub stays_in_sequences : StaysInSequences
stays_in_sequences n g ts e = in_after g ts (Some (started n)) (e, tt, omega arith)

pub within_of : (n : ℕ) (c : Progress) (g : Program) (ts : List Moment) → exists g.blocks n ≡ true → c ≡ started n → InSequences g (after g ts (Some c))
within_of n c g ts e s = subst (λ d. InSequences g (after g ts (Some d))) (sym s) (stays_in_sequences n g ts e)
