-- A run that has been started ends by the rules.
use Rattle.std.proofs.Common.{◌≡◌, ℕ, Bool, true, false, cond, eqb, ltb, leb, List, [], ◌∷◌, length, ℤ, pos, Some, None, Ok, Err, Option, Result, refl, sym, ap, ◌∙◌}
use Rattle.std.proofs.lemmas.Bool.{cond_both, eqb-true, false≢true}
use Rattle.faults.specs.declared.Fault.{Fault}
use Rattle.phases.specs.declared.phase.Phase.{Phase}
use Rattle.phases.specs.declared.phase.Link.{Link}
use Rattle.phases.specs.declared.phase.Link.TheVariants as link
use Rattle.phases.specs.declared.phase.Nature.{Nature}
use Rattle.phases.specs.declared.phase.Nature.TheVariants.{Relative, Origin, Absolute, ConstantSpeed, Wait, PlateauSpeed}
use Rattle.phases.specs.declared.phase.Position.{Position}
use Rattle.store.specs.declared.directory.Block.{Block}
use Rattle.motion.specs.Motions.{Motion, at_start, tick_rest, tick_step, ends_stopped, makes_step}
use Rattle.motion.specs.Limits.{speed_within}
use Rattle.motion.specs.declared.distance.Distance.{Distance}
use Rattle.motion.specs.Distances.{distance_to}
use Rattle.engine.specs.declared.effects.Effects.{Effects}
use Rattle.engine.specs.Distances.{distance_of}
use Rattle.engine.specs.Effects.{step_only, nothing}
use Rattle.engine.specs.Positions.{following, next_of}
use Rattle.engine.specs.Progress.{Progress, PhaseState, entering, moving, waiting, Outcome, with_plateau, with_returns, with_state}
use Rattle.engine.specs.Leaving.{agrees, exists, goes_on, linked, leaves, phase_ended, returns_from, link_absent, too_many_open}
use Rattle.engine.specs.Entering.{entered, sets_movement, moves_by, starts, enters, phase_at}
use Rattle.engine.specs.Ticks.{moved, state_tick, tick}
use Rattle.engine.specs.Rules.{Event, continues, over, unwritten, ended_by_ge, ends_entering, entry_event, movement_event, state_event, event}
use Rattle.engine.specs.Surroundings.{Moment, Program}

-- ---- what a tick comes to: the run goes on, or it ends, with a fault or without

abbrev pub Kind : Type 0
Kind = Option (Option Fault)

abbrev pub kind_of : Option Progress → Option Fault → Kind
kind_of (Some r) f = None
kind_of None f = Some f

abbrev pub kind : Outcome → Kind
kind o = kind_of o.rest o.effects.fault

abbrev pub kind_left : Result (Option Progress) Fault → Kind
kind_left (Ok r) = kind_of r None
kind_left (Err f) = Some (Some f)

abbrev pub kind_by : Program → Moment → Progress → Event → Kind
kind_by g t c continues = None
kind_by g t c (over p) = kind_left (leaves g t c p)
kind_by g t c unwritten = kind_of (returns_from c c.returns) None
kind_by g t c ended_by_ge = Some None

left_kind : (e : Effects) → e.fault ≡ None → (r : Result (Option Progress) Fault) → kind (phase_ended e r) ≡ kind_left r
left_kind e h (Ok None) = ap Some h
left_kind e h (Ok (Some r)) = refl
left_kind e h (Err f) = refl

-- the plateau speed changes nothing of that
next_kind : (c : Progress) (v : Option ℕ) (next : Option Position) → kind_left (Ok (goes_on (with_plateau c v) next)) ≡ kind_left (Ok (goes_on c next))
next_kind c v None = refl
next_kind c v (Some q) = refl

either_kind : (b : Bool) (x y z : Result (Option Progress) Fault) → kind_left x ≡ kind_left y → kind_left (cond b x z) ≡ kind_left (cond b y z)
either_kind true x y z h = h
either_kind false x y z h = refl

linked_kind : (bs : List Block) (c : Progress) (v : Option ℕ) (next : Option Position) (l : Option (Link ℕ)) →
    kind_left (linked bs (with_plateau c v) next l) ≡ kind_left (linked bs c next l)
linked_kind bs c v next None = next_kind c v next
linked_kind bs c v next (Some (link.Sequence n)) = either_kind (exists bs n) _ _ (Err link_absent) refl
linked_kind bs c v next (Some (link.SubSequence n)) = either_kind (exists bs n) _ _ (Err link_absent) (either_kind (ltb (length c.returns) 4) _ _ (Err too_many_open) refl)

module _ (g : Program) (t : Moment) (c : Progress) (p : Phase) where
  plateau_kind : (v : Option ℕ) → kind_left (leaves g t (with_plateau c v) p) ≡ kind_left (leaves g t c p)
  plateau_kind v =
      elim (agrees p t.levels) as (λ b. kind_left (cond b (linked g.blocks (with_plateau c v) (next_of c.at p.next) p.link) (Ok (goes_on (with_plateau c v) (Some (following c.at)))))
      ≡ kind_left (cond b (linked g.blocks c (next_of c.at p.next) p.link) (Ok (goes_on c (Some (following c.at))))))
      [ true ↦ linked_kind g.blocks c v (next_of c.at p.next) p.link | false ↦ refl ]

  sets_kind : (b : Bool) (m : Motion) → kind (sets_movement g t c p (cond b None (Some m))) ≡ kind_by g t c (cond b (over p) continues)
  sets_kind true m = left_kind (entered p) refl (leaves g t c p)
  sets_kind false m = refl

  moves_kind : (d : Distance) (constant : Bool) → kind (moves_by g t c p d constant) ≡ kind_by g t c (cond (eqb d.steps 0) (over p) continues)
  moves_kind d constant = sets_kind (eqb d.steps 0) (at_start g.values c.plateau d.direction d.steps constant)

  starts_kind : (n : Nature) → kind (starts g t c p n) ≡ kind_by g t c (cond (ends_entering t.counter p n) (over p) continues)
  starts_kind Relative = moves_kind (distance_of p) false
  starts_kind ConstantSpeed = moves_kind (distance_of p) true
  starts_kind Absolute = moves_kind (distance_to p.set_point t.counter) false
  starts_kind Origin = moves_kind (distance_to (pos 0) t.counter) false
  starts_kind Wait = refl
  starts_kind PlateauSpeed = left_kind (entered p) refl (leaves g t (with_plateau c (speed_within p.set_point)) p) ∙ plateau_kind (speed_within p.set_point)
  starts_kind _ = left_kind (entered p) refl (leaves g t c p)

  stopping_kind : (e : Effects) → e.fault ≡ None → (b : Bool) → kind (cond b (record { effects = e; rest = None }) (phase_ended e (leaves g t c p))) ≡ kind_by g t c (cond b ended_by_ge (over p))
  stopping_kind e h true = ap Some h
  stopping_kind e h false = left_kind e h (leaves g t c p)

  moved_kind : (m : Motion) (r : Option Motion) → kind (moved g t c p m r) ≡ kind_by g t c (movement_event p m.stopping r)
  moved_kind m (Some r) = refl
  moved_kind m None = stopping_kind (step_only (tick_step m)) refl m.stopping

  waited_kind : (n : ℕ) (b : Bool) →
      kind (cond b (phase_ended nothing (leaves g t c p)) (record { effects = nothing; rest = Some (with_state c (waiting p n)) })) ≡ kind_by g t c (cond b (over p) continues)
  waited_kind n true = left_kind nothing refl (leaves g t c p)
  waited_kind n false = refl

enters_kind : (g : Program) (t : Moment) (c : Progress) (o : Option Phase) → kind (enters g t c o) ≡ kind_by g t c (entry_event t.counter o)
enters_kind g t c None = refl
enters_kind g t c (Some p) = starts_kind g t c p p.nature

state_kind : (g : Program) (t : Moment) (c : Progress) (a : PhaseState) → kind (state_tick g t c a) ≡ kind_by g t c (state_event g t c.at a)
state_kind g t c entering = enters_kind g t c (phase_at g c.at)
state_kind g t c (moving p m) = moved_kind g t c p m (tick_rest m)
state_kind g t c (waiting p n) = waited_kind g t c p _ (leb n 1)

pub tick_kind : (g : Program) (t : Moment) (c : Progress) → kind (tick g t c) ≡ kind_by g t c (event g t c)
tick_kind g t c = state_kind g t c c.state

-- ---- an end without a fault

abbrev pub Clean : Kind → Type 0
Clean None = ⊥
Clean (Some None) = Unit {0}
Clean (Some (Some f)) = ⊥

pub never : {A : Type 0} {x : Bool} → x ≡ false → x ≡ true → A
never h e = absurd (false≢true (sym h ∙ e))

next_stop : (c : Progress) (q : Position) (n : ℕ) (b : Bool) → eqb n 54 ≡ b →
    Clean (kind_left (Ok (goes_on c (cond b None (Some (record { sequence = q.sequence; phase = n })))))) → ◌≡◌ {A = Option ℕ} (Some n) (Some 54)
next_stop c q n true e h = ap Some (eqb-true n 54 e)
next_stop c q n false e h = absurd h

ns_stop : (c : Progress) (q : Position) (o : Option ℕ) → Clean (kind_left (Ok (goes_on c (next_of q o)))) → o ≡ Some 54
ns_stop c q None h = absurd h
ns_stop c q (Some n) h = next_stop c q n (eqb n 54) refl h

taken_never : {A : Type 0} (b : Bool) (r : Progress) (f : Fault) → Clean (kind_left (cond b (Ok (Some r)) (Err f))) → A
taken_never true r f h = absurd h
taken_never false r f h = absurd h

opened_never : {A : Type 0} (b d : Bool) (r : Progress) (e f : Fault) → Clean (kind_left (cond b (cond d (Ok (Some r)) (Err e)) (Err f))) → A
opened_never true d r e f h = taken_never d r e h
opened_never false d r e f h = absurd h

link_stop : (bs : List Block) (c : Progress) (next : Option Position) (l : Option (Link ℕ)) → Clean (kind_left (linked bs c next l)) →
    (l ≡ None) × Clean (kind_left (Ok (goes_on c next)))
link_stop bs c next None h = (refl, h)
link_stop bs c next (Some (link.Sequence n)) h = taken_never (exists bs n) _ _ h
link_stop bs c next (Some (link.SubSequence n)) h = opened_never (exists bs n) (ltb (length c.returns) 4) _ _ _ h

module _ (g : Program) (t : Moment) (c : Progress) (p : Phase) where
  abbrev pub StopsHere : Type 0
  StopsHere = (agrees p t.levels ≡ true) × (p.link ≡ None) × (p.next ≡ Some 54)

  over_at : (b : Bool) → agrees p t.levels ≡ b →
      Clean (kind_left (cond b (linked g.blocks c (next_of c.at p.next) p.link) (Ok (goes_on c (Some (following c.at)))))) → StopsHere
  over_at true e h = let l = link_stop g.blocks c (next_of c.at p.next) p.link h in (e, l.0, ns_stop c c.at p.next l.1)
  over_at false e h = absurd h

  pub over_stop : Clean (kind_left (leaves g t c p)) → StopsHere
  over_stop h = over_at (agrees p t.levels) refl h

  pub stop_kind : StopsHere → kind_left (leaves g t c p) ≡ Some None
  stop_kind s =
      ap (λ b. kind_left (cond b (linked g.blocks c (next_of c.at p.next) p.link) (Ok (goes_on c (Some (following c.at)))))) s.0
      ∙ ap (λ l. kind_left (linked g.blocks c (next_of c.at p.next) l)) s.1
      ∙ ap (λ n. kind_left (Ok (goes_on c (next_of c.at n)))) s.2

-- ---- GE does not end a run in which no movement is stopped

abbrev pub NotStopped : PhaseState → Type 0
NotStopped (moving p m) = m.stopping ≡ false
NotStopped _ = Unit {0}

abbrev pub NotGe : Event → Type 0
NotGe ended_by_ge = ⊥
NotGe _ = Unit {0}

either_not_ge : (b : Bool) (p : Phase) → NotGe (cond b (over p) continues)
either_not_ge true p = tt
either_not_ge false p = tt

entry_not_ge : (z : ℤ) (o : Option Phase) → NotGe (entry_event z o)
entry_not_ge z None = tt
entry_not_ge z (Some p) = either_not_ge (ends_entering z p p.nature) p

movement_not_ge : (p : Phase) (b : Bool) (r : Option Motion) → b ≡ false → NotGe (movement_event p b r)
movement_not_ge p b (Some m) h = tt
movement_not_ge p true None h = never h refl
movement_not_ge p false None h = tt

pub not_ge : (g : Program) (t : Moment) (q : Position) (a : PhaseState) → NotStopped a → NotGe (state_event g t q a)
not_ge g t q entering h = entry_not_ge t.counter (phase_at g q)
not_ge g t q (moving p m) h = movement_not_ge p m.stopping (tick_rest m) h
not_ge g t q (waiting p n) h = either_not_ge (leb n 1) p

-- ---- a run that goes on has no fault, and no movement of it is stopped

abbrev pub Kept : Option Progress → Option Fault → Type 0
Kept None f = Unit {0}
Kept (Some r) f = NotStopped r.state × (f ≡ None)

abbrev KeptLeft : Result (Option Progress) Fault → Type 0
KeptLeft (Ok r) = Kept r None
KeptLeft (Err f) = Unit {0}

kept_goes_on : (c : Progress) (q : Option Position) → Kept (goes_on c q) None
kept_goes_on c None = tt
kept_goes_on c (Some q) = (tt, refl)

kept_linked : (bs : List Block) (c : Progress) (next : Option Position) (l : Option (Link ℕ)) → KeptLeft (linked bs c next l)
kept_linked bs c next None = kept_goes_on c next
kept_linked bs c next (Some (link.Sequence n)) = cond_both (exists bs n) _ _ KeptLeft (λ h. (tt, refl)) (λ h. tt)
kept_linked bs c next (Some (link.SubSequence n)) =
    cond_both (exists bs n) _ _ KeptLeft (λ h. cond_both (ltb (length c.returns) 4) _ _ KeptLeft (λ k. (tt, refl)) (λ k. tt)) (λ h. tt)

kept_leaves : (g : Program) (t : Moment) (c : Progress) (p : Phase) → KeptLeft (leaves g t c p)
kept_leaves g t c p = cond_both (agrees p t.levels) _ _ KeptLeft (λ h. kept_linked g.blocks c (next_of c.at p.next) p.link) (λ h. (tt, refl))

kept_ended : (e : Effects) → e.fault ≡ None → (r : Result (Option Progress) Fault) → KeptLeft r → Kept (phase_ended e r).rest (phase_ended e r).effects.fault
kept_ended e f (Ok None) h = tt
kept_ended e f (Ok (Some r)) h = (h.0, f)
kept_ended e f (Err x) h = tt

abbrev KeptOutcome : Outcome → Type 0
KeptOutcome o = Kept o.rest o.effects.fault

kept_returns : (c : Progress) (qs : List (Option Position)) → Kept (returns_from c qs) None
kept_returns c [] = tt
kept_returns c (q ∷ qs) = kept_goes_on (with_returns c qs) q

module _ (g : Program) (t : Moment) (c : Progress) (p : Phase) where
  kept_left : (e : Effects) → e.fault ≡ None → KeptOutcome (phase_ended e (leaves g t c p))
  kept_left e f = kept_ended e f (leaves g t c p) (kept_leaves g t c p)

  kept_sets : (b : Bool) (m : Motion) → m.stopping ≡ false → KeptOutcome (sets_movement g t c p (cond b None (Some m)))
  kept_sets true m h = kept_left (entered p) refl
  kept_sets false m h = (h, refl)

  kept_moves : (d : Distance) (constant : Bool) → KeptOutcome (moves_by g t c p d constant)
  kept_moves d constant = kept_sets (eqb d.steps 0) (at_start g.values c.plateau d.direction d.steps constant) refl

  kept_starts : (n : Nature) → KeptOutcome (starts g t c p n)
  kept_starts Relative = kept_moves (distance_of p) false
  kept_starts ConstantSpeed = kept_moves (distance_of p) true
  kept_starts Absolute = kept_moves (distance_to p.set_point t.counter) false
  kept_starts Origin = kept_moves (distance_to (pos 0) t.counter) false
  kept_starts Wait = (tt, refl)
  kept_starts PlateauSpeed = kept_ended (entered p) refl (leaves g t (with_plateau c (speed_within p.set_point)) p) (kept_leaves g t (with_plateau c (speed_within p.set_point)) p)
  kept_starts _ = kept_left (entered p) refl

  kept_stopping : (m : Motion) (b : Bool) → KeptOutcome (cond b (record { effects = step_only (tick_step m); rest = None }) (phase_ended (step_only (tick_step m)) (leaves g t c p)))
  kept_stopping m true = tt
  kept_stopping m false = kept_left (step_only (tick_step m)) refl

  abbrev StoppingKept : Bool → Option Motion → Type 0
  StoppingKept b None = Unit {0}
  StoppingKept b (Some m) = m.stopping ≡ b

  rest_stopping : (m : Motion) → StoppingKept m.stopping (tick_rest m)
  rest_stopping m =
      cond_both (ends_stopped m) _ _ (StoppingKept m.stopping) (λ h. tt)
      (λ h. cond_both (makes_step m) _ _ (StoppingKept m.stopping) (λ k. cond_both (eqb m.left 1) _ _ (StoppingKept m.stopping) (λ j. tt) (λ j. refl)) (λ k. refl))

  kept_moved : (m : Motion) (r : Option Motion) → m.stopping ≡ false → StoppingKept m.stopping r → KeptOutcome (moved g t c p m r)
  kept_moved m (Some r) h k = (k ∙ h, refl)
  kept_moved m None h k = kept_stopping m m.stopping

  kept_waited : (n : ℕ) (b : Bool) → KeptOutcome (cond b (phase_ended nothing (leaves g t c p)) (record { effects = nothing; rest = Some (with_state c (waiting p n)) }))
  kept_waited n true = kept_left nothing refl
  kept_waited n false = (tt, refl)

kept_enters : (g : Program) (t : Moment) (c : Progress) (o : Option Phase) → KeptOutcome (enters g t c o)
kept_enters g t c None = kept_returns c c.returns
kept_enters g t c (Some p) = kept_starts g t c p p.nature

kept_state : (g : Program) (t : Moment) (c : Progress) (a : PhaseState) → NotStopped a → KeptOutcome (state_tick g t c a)
kept_state g t c entering h = kept_enters g t c (phase_at g c.at)
kept_state g t c (moving p m) h = kept_moved g t c p m (tick_rest m) h (rest_stopping g t c p m)
kept_state g t c (waiting p n) h = kept_waited g t c p _ (leb n 1)

pub kept_tick : (g : Program) (t : Moment) (c : Progress) → NotStopped c.state → KeptOutcome (tick g t c)
kept_tick g t c h = kept_state g t c c.state h
