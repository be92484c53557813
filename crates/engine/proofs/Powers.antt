-- A movement goes on only with power on.
use Rattle.std.proofs.Common.{◌≡◌, ℕ, Bool, true, false, ltb, leb, List, [], ◌∷◌, length, pos, is_some, Some, None, Ok, Err, Option, Result, sym, refl, subst}
use Rattle.std.proofs.lemmas.Bool.{cond_both, false≢true}
use Rattle.faults.specs.declared.Fault.{Fault}
use Rattle.phases.specs.declared.phase.Phase.{Phase}
use Rattle.phases.specs.declared.phase.Link.{Link}
use Rattle.phases.specs.declared.phase.Link.TheVariants as link
use Rattle.phases.specs.declared.phase.Nature.{Nature}
use Rattle.phases.specs.declared.phase.Nature.TheVariants.{Relative, Origin, Absolute, ConstantSpeed, Wait, PlateauSpeed}
use Rattle.store.specs.declared.directory.Block.{Block}
use Rattle.motion.specs.Motions.{Motion, begun, tick_rest, tick_step}
use Rattle.motion.specs.Limits.{speed_within}
use Rattle.engine.specs.declared.effects.Effects.{Effects}
use Rattle.steps.specs.declared.power.Power.TheVariants.{On}
use Rattle.phases.specs.declared.phase.Position.{Position}
use Rattle.motion.specs.declared.distance.Distance.{Distance}
use Rattle.engine.specs.Positions.{next_of}
use Rattle.motion.specs.Distances.{distance_to}
use Rattle.engine.specs.Distances.{distance_of}
use Rattle.engine.specs.Effects.{step_only, nothing}
use Rattle.engine.specs.Progress.{Progress, PhaseState, entering, moving, waiting, Outcome, with_returns, with_plateau}
use Rattle.engine.specs.Leaving.{agrees, exists, goes_on, linked, leaves, phase_ended, returns_from}
use Rattle.engine.specs.Entering.{power_of, entered, sets_movement, moves_by, starts, enters, phase_at}
use Rattle.engine.specs.Ticks.{moved, state_tick}
use Rattle.engine.specs.Surroundings.{Moment, Program}
use Rattle.engine.specs.Laws.{switched, StatePowered, Powered, StepsWithPower}

-- a step is made with power on, and then power is not switched nor the counter zeroed
abbrev StepFine : Bool → Effects → Type 0
StepFine on e = is_some e.step ≡ true → (on ≡ true) × (e.power ≡ None) × (e.zero_counter ≡ false)

abbrev Fine : Bool → Effects → Option Progress → Type 0
Fine on e rest = Powered (switched on e.power) rest × StepFine on e

-- no movement goes on
abbrev NoMovement : Option Progress → Type 0
NoMovement o = (b : Bool) → Powered b o

abbrev NoMovementResult : Result (Option Progress) Fault → Type 0
NoMovementResult (Ok r) = NoMovement r
NoMovementResult (Err x) = Unit {0}

none_goes_on : (c : Progress) (q : Option Position) → NoMovement (goes_on c q)
none_goes_on c None b = tt
none_goes_on c (Some q) b = tt

none_linked : (bs : List Block) (c : Progress) (next : Option Position) (l : Option (Link ℕ)) → NoMovementResult (linked bs c next l)
none_linked bs c next None = none_goes_on c next
none_linked bs c next (Some (link.Sequence n)) =
    cond_both (exists bs n) _ _ NoMovementResult (λ _ _. tt) (λ _. tt)
none_linked bs c next (Some (link.SubSequence n)) =
    cond_both (exists bs n) _ _ NoMovementResult
    (λ _. cond_both (ltb (length c.returns) 4) _ _ NoMovementResult (λ _ _. tt) (λ _. tt))
    (λ _. tt)

none_leaves : (g : Program) (t : Moment) (c : Progress) (p : Phase) → NoMovementResult (leaves g t c p)
none_leaves g t c p =
    cond_both (agrees p t.levels) _ _ NoMovementResult
    (λ _. none_linked g.blocks c (next_of c.at p.next) p.link)
    (λ _ _. tt)

fine_ended : (on : Bool) (e : Effects) (r : Result (Option Progress) Fault) → NoMovementResult r → StepFine on e → Fine on (phase_ended e r).effects (phase_ended e r).rest
fine_ended on e (Ok r) h k = (h (switched on e.power), k)
fine_ended on e (Err x) h k = (tt, k)

abbrev FineOutcome : Bool → Outcome → Type 0
FineOutcome on o = Fine on o.effects o.rest

fine_left : (on : Bool) (g : Program) (t : Moment) (c : Progress) (p : Phase) (e : Effects) → StepFine on e → FineOutcome on (phase_ended e (leaves g t c p))
fine_left on g t c p e k = fine_ended on e (leaves g t c p) (none_leaves g t c p) k

no_step : (on : Bool) (p : Phase) → StepFine on (entered p)
no_step on p q = absurd (false≢true q)

fine_sets : (on : Bool) (g : Program) (t : Moment) (c : Progress) (p : Phase) → power_of p.nature ≡ Some On → (m : Option Motion) → FineOutcome on (sets_movement g t c p m)
fine_sets on g t c p h None = fine_left on g t c p (entered p) (no_step on p)
fine_sets on g t c p h (Some m) = (subst (λ w. switched on w ≡ true) (sym h) refl, no_step on p)

module _ (on : Bool) (g : Program) (t : Moment) (c : Progress) (p : Phase) where
  fine_moves : power_of p.nature ≡ Some On → (d : Distance) (constant : Bool) → FineOutcome on (moves_by g t c p d constant)
  fine_moves h d constant = fine_sets on g t c p h (begun g.values c.plateau d.direction d.steps constant)

  fine_starts : (n : Nature) → power_of p.nature ≡ power_of n → FineOutcome on (starts g t c p n)
  fine_starts Relative h = fine_moves h (distance_of p) false
  fine_starts ConstantSpeed h = fine_moves h (distance_of p) true
  fine_starts Absolute h = fine_moves h (distance_to p.set_point t.counter) false
  fine_starts Origin h = fine_moves h (distance_to (pos 0) t.counter) false
  fine_starts Wait h = (tt, no_step on p)
  fine_starts PlateauSpeed h = fine_left on g t (with_plateau c (speed_within p.set_point)) p (entered p) (no_step on p)
  fine_starts _ h = fine_left on g t c p (entered p) (no_step on p)

none_returns : (c : Progress) (qs : List (Option Position)) → NoMovement (returns_from c qs)
none_returns c [] b = tt
none_returns c (q ∷ qs) b = none_goes_on (with_returns c qs) q b

fine_enters : (on : Bool) (g : Program) (t : Moment) (c : Progress) (o : Option Phase) → FineOutcome on (enters g t c o)
fine_enters on g t c None = (none_returns c c.returns on, λ q. absurd (false≢true q))
fine_enters on g t c (Some p) = fine_starts on g t c p p.nature refl

fine_moved : (on : Bool) (g : Program) (t : Moment) (c : Progress) (p : Phase) → on ≡ true → (m : Motion) (r : Option Motion) → FineOutcome on (moved g t c p m r)
fine_moved on g t c p h m (Some r) = (h, λ _. (h, refl, refl))
fine_moved on g t c p h m None =
    cond_both m.stopping _ _ (FineOutcome on) (λ _. (tt, λ _. (h, refl, refl)))
    (λ _. fine_left on g t c p (step_only (tick_step m)) (λ _. (h, refl, refl)))

fine_tick : (on : Bool) (g : Program) (t : Moment) (c : Progress) (a : PhaseState) → StatePowered on a → FineOutcome on (state_tick g t c a)
fine_tick on g t c entering h = fine_enters on g t c (phase_at g c.at)
fine_tick on g t c (moving p m) h = fine_moved on g t c p h m (tick_rest m)
fine_tick on g t c (waiting p n) h =
    cond_both (leb n 1) _ _ (FineOutcome on)
    (λ _. fine_left on g t c p nothing (λ q. absurd (false≢true q)))
    (λ _. (tt, λ q. absurd (false≢true q)))

pub steps_with_power : StepsWithPower
steps_with_power g t c on h = fine_tick on g t c c.state h
