-- Where a run goes next, and by what it ends.
use Rattle.std.specs.Prelude.{◌≡◌, ℕ, ◌<◌, ◌≤◌, Bool, true, false, cond, List, [], ◌∷◌, length, ℤ, pos, Some, None, Option, ◌==◌, ◌≢◌, nat_le}
use Rattle.faults.specs.declared.Fault.{Fault}
use Rattle.steps.specs.declared.direction.Direction.{Direction}
use Rattle.phases.specs.declared.phase.Phase.{Phase}
use Rattle.phases.specs.declared.phase.Link.TheVariants as link
use Rattle.phases.specs.declared.phase.Nature.{Nature}
use Rattle.phases.specs.declared.phase.Nature.TheVariants.{Relative, Origin, Absolute, ConstantSpeed, Wait, PlateauSpeed}
use Rattle.store.specs.declared.directory.Block.{Block}
use Rattle.motion.specs.Motions.{Motion, tick_step, tick_rest}
use Rattle.motion.specs.Limits.{speed_within}
use Rattle.phases.specs.declared.phase.Position.{Position}
use Rattle.engine.specs.Surroundings.{Program, Moment}
use Rattle.engine.specs.Positions.{first_of, following, next_of}
use Rattle.motion.specs.Distances.{distance_to}
use Rattle.engine.specs.Distances.{distance_of}
use Rattle.engine.specs.Progress.{Progress, Outcome, PhaseState, entering, moving, waiting}
use Rattle.engine.specs.Leaving.{link_absent, too_many_open, agrees, exists}
use Rattle.engine.specs.Entering.{phase_at}

-- what comes of the run's phase in a tick: it goes on, it ends, it turns out not to be written, or its movement ends after GE
pub data Event : Type 0 where
  continues : Event
  over : Phase → Event
  unwritten : Event
  ended_by_ge : Event

-- NZ, NC, NT and NU are over in the tick that enters them, and so is a movement without a step to make
abbrev pub ends_entering : ℤ → Phase → Nature → Bool
ends_entering counter p Relative = (distance_of p).steps == 0
ends_entering counter p ConstantSpeed = (distance_of p).steps == 0
ends_entering counter p Absolute = (distance_to p.set_point counter).steps == 0
ends_entering counter p Origin = (distance_to (pos 0) counter).steps == 0
ends_entering counter p Wait = false
ends_entering counter p _ = true

abbrev pub entry_event : ℤ → Option Phase → Event
entry_event counter None = unwritten
entry_event counter (Some p) = cond (ends_entering counter p p.nature) (over p) continues

abbrev pub movement_event : Phase → Bool → Option Motion → Event
movement_event p stopping (Some m) = continues
movement_event p stopping None = cond stopping ended_by_ge (over p)

abbrev pub state_event : Program → Moment → Position → PhaseState → Event
state_event g t q entering = entry_event t.counter (phase_at g q)
state_event g t q (moving p m) = movement_event p m.stopping (tick_rest m)
state_event g t q (waiting p n) = cond (nat_le n 1) (over p) continues

abbrev pub event : Program → Moment → Progress → Event
event g t c = state_event g t c.at c.state

-- the run is still at the phase, which it has entered
abbrev pub Stays : Position → List (Option Position) → Option Progress → Type 0
Stays q calls rest = (r : Progress) × (rest ≡ Some r) × (r.at ≡ q) × (r.returns ≡ calls) × (r.state ≢ entering)

-- the next tick enters that phase, with these sub-sequences open
abbrev pub Enters : Position → List (Option Position) → Option Progress → Type 0
Enters q calls rest = (r : Progress) × (rest ≡ Some r) × (r.at ≡ q) × (r.returns ≡ calls) × (r.state ≡ entering)

-- the run ends
abbrev pub Ends : Option Progress → Type 0
Ends rest = rest ≡ None

-- the phase p ends, and its NE agrees with the levels
abbrev pub OverAgreeing : ℕ → Event → Phase → Type 0
OverAgreeing levels e p = (e ≡ over p) × (agrees p levels ≡ true)

-- each line is a rule; a run that is at q, with these sub-sequences open, goes on or ends by one of them
pub data ByTheRules (bs : List Block) (levels : ℕ) (q : Position) (calls : List (Option Position)) (e : Event) (fault : Option Fault) (rest : Option Progress) : Type 0 where
  -- the phase goes on
  goes_on : e ≡ continues → fault ≡ None → Stays q calls rest → ByTheRules bs levels q calls e fault rest
  -- NE does not agree: the following phase comes, whatever the link and NS are
  ne_differs : (p : Phase) → e ≡ over p → agrees p levels ≡ false → fault ≡ None → Enters (following q) calls rest → ByTheRules bs levels q calls e fault rest
  -- without link and NS the following phase comes
  follows : (p : Phase) → OverAgreeing levels e p → p.link ≡ None → p.next ≡ None → fault ≡ None → Enters (following q) calls rest → ByTheRules bs levels q calls e fault rest
  -- without a link NS comes
  ns : (p : Phase) (n : ℕ) → OverAgreeing levels e p → p.link ≡ None → p.next ≡ Some n → (n ≢ 54) → fault ≡ None → Enters (record { sequence = q.sequence; phase = n }) calls rest → ByTheRules bs levels q calls e fault rest
  -- NS 54 ends the run
  ns_54 : (p : Phase) → OverAgreeing levels e p → p.link ≡ None → p.next ≡ Some 54 → fault ≡ None → Ends rest → ByTheRules bs levels q calls e fault rest
  -- NL goes to phase 1 of its sequence and leaves the open sub-sequences open
  nl : (p : Phase) (n : ℕ) → OverAgreeing levels e p → p.link ≡ Some (link.Sequence n) → exists bs n ≡ true → fault ≡ None → Enters (first_of n) calls rest → ByTheRules bs levels q calls e fault rest
  -- NQ goes there too, and opens a sub-sequence that returns to NS or to the following phase
  nq : (p : Phase) (n : ℕ) → OverAgreeing levels e p → p.link ≡ Some (link.SubSequence n) → exists bs n ≡ true → length calls < 4 → fault ≡ None → Enters (first_of n) (next_of q p.next ∷ calls) rest → ByTheRules bs levels q calls e fault rest
  -- an absent sequence is fault 3
  nl_absent : (p : Phase) (n : ℕ) → OverAgreeing levels e p → p.link ≡ Some (link.Sequence n) → exists bs n ≡ false → fault ≡ Some link_absent → Ends rest → ByTheRules bs levels q calls e fault rest
  nq_absent : (p : Phase) (n : ℕ) → OverAgreeing levels e p → p.link ≡ Some (link.SubSequence n) → exists bs n ≡ false → fault ≡ Some link_absent → Ends rest → ByTheRules bs levels q calls e fault rest
  -- a fifth sub-sequence is fault 10
  nq_fifth : (p : Phase) (n : ℕ) → OverAgreeing levels e p → p.link ≡ Some (link.SubSequence n) → exists bs n ≡ true → 4 ≤ length calls → fault ≡ Some too_many_open → Ends rest → ByTheRules bs levels q calls e fault rest
  -- an unwritten phase ends the run
  unwritten_ends : e ≡ unwritten → calls ≡ [] → fault ≡ None → Ends rest → ByTheRules bs levels q calls e fault rest
  -- in a sub-sequence it returns
  unwritten_returns : (to : Position) (earlier : List (Option Position)) → e ≡ unwritten → calls ≡ Some to ∷ earlier → fault ≡ None → Enters to earlier rest → ByTheRules bs levels q calls e fault rest
  -- a return to 54 ends the run
  returns_54 : (earlier : List (Option Position)) → e ≡ unwritten → calls ≡ None ∷ earlier → fault ≡ None → Ends rest → ByTheRules bs levels q calls e fault rest
  -- after GE the end of the movement ends the run
  after_ge : e ≡ ended_by_ge → fault ≡ None → Ends rest → ByTheRules bs levels q calls e fault rest

abbrev pub GoesByTheRules : Program → Moment → Progress → Outcome → Type 0
GoesByTheRules g t c o = ByTheRules g.blocks t.levels c.at c.returns (event g t c) o.effects.fault o.rest

-- ---- the plateau set by NC lasts to the end of the run

abbrev pub set_by : Phase → Nature → Option ℕ → Option ℕ
set_by p PlateauSpeed v = speed_within p.set_point
set_by p _ v = v

abbrev pub plateau_entering : Option Phase → Option ℕ → Option ℕ
plateau_entering None v = v
plateau_entering (Some p) v = set_by p p.nature v

abbrev pub plateau_after : Program → Progress → PhaseState → Option ℕ
plateau_after g c entering = plateau_entering (phase_at g c.at) c.plateau
plateau_after g c _ = c.plateau

abbrev pub HasPlateau : Option ℕ → Option Progress → Type 0
HasPlateau v None = Unit {0}
HasPlateau v (Some r) = r.plateau ≡ v

-- only a tick that enters NC changes it
abbrev pub PlateauLasts : Program → Progress → Outcome → Type 0
PlateauLasts g c o = HasPlateau (plateau_after g c c.state) o.rest

-- ---- a tick answers the step of its movement, also where the phase or the run ends in it, and no other

abbrev pub step_of : PhaseState → Option Direction
step_of (moving p m) = tick_step m
step_of _ = None
