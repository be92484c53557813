-- What the tick does that enters a phase.
use Rattle.std.proofs.Common.{◌≡◌, ℕ, suc, ◌<◌, ◌+◌, ◌%◌, min, true, false, cond, ℤ, pos, negsuc, ◌-ℤ◌, Some, None, Ok, Err, Option, Result, unsigned_abs, int_lt, unwrap_or, sym, refl, ap, ◌∙◌, subst, arith, rules}
use Rattle.std.specs.Int.{bit_at}
use Rattle.std.specs.Option.{option_and_then}
use Rattle.std.proofs.lemmas.Nat.Bits.{bit_at_and, bit_at_xor, bit_at-lt, bit_at-zero, same_from_bits}
use Rattle.std.proofs.lemmas.Bool.{eqb-true, eq-eqb}
use borrow.Author.Differences.{ints}
use lib.Bits.{bit_and, bit_xor}
use Rattle.faults.specs.declared.Fault.{Fault}
use Rattle.steps.specs.declared.direction.Direction.{Direction}
use Rattle.steps.specs.declared.direction.Direction.TheVariants.{Forward, Back}
use Rattle.phases.specs.declared.phase.Phase.{Phase}
use Rattle.phases.specs.declared.phase.Nature.{Nature}
use Rattle.phases.specs.declared.phase.Nature.TheVariants.{Relative, Origin, Absolute, ConstantSpeed}
use Rattle.store.specs.Records.{phase_at}
use Rattle.axis.specs.Axes.{AxisState}
use Rattle.motion.specs.Distances.{distance_to}
use Rattle.motion.specs.Motions.{Motion, begun}
use Rattle.engine.specs.declared.effects.Effects.{Effects}
use Rattle.engine.specs.Entering.{zeroes, power_of, entered, sets_movement, starts}
use Rattle.engine.specs.Leaving.{agrees, leaves, phase_ended}
use Rattle.engine.specs.Progress.{Progress, Outcome, PhaseState, entering, moving as in_movement, waiting, to_enter}
use Rattle.engine.specs.Surroundings.{Program, Moment}
use Rattle.control.specs.States.{State, Activity, resting, moving, running, is_busy, runs_on, upcoming_in}
use Rattle.control.specs.Ticks.{run_outcome, run_ticked, ticked, tick_effects}
use Rattle.module.specs.States.{ModuleState, powered, stepped, zeroed, affected, ticked_state}
use Rattle.module.specs.Counter.{entered_next}
use Rattle.laws.specs.Entering.{power_entering, counter_after, Enters, EntersByNature, AgreesBitByBit, way, leads, is_movement, is_constant, MovesByNature}

-- the run that is about to enter the phase
module _ (r : ModuleState) (p : Phase) where
  abbrev There : Progress → Type 0
  There c = (c.state ≡ entering) × (phase_at r.control.blocks r.records c.at ≡ Some p)

  at_state : (c : Progress) (a : PhaseState) → c.state ≡ a → option_and_then (phase_at r.control.blocks r.records) (to_enter a c.at) ≡ Some p → There c
  at_state c entering e h = (e, h)
  at_state c (in_movement q m) e h = absurd (cc h)
  at_state c (waiting q n) e h = absurd (cc h)

  at_run : (c : Progress) → r.control.activity ≡ running c → entered_next r ≡ Some p → There c
  at_run c e h = at_state c c.state refl (ap (λ d. option_and_then (phase_at r.control.blocks r.records) (upcoming_in d)) (sym e) ∙ h)

  at_activity : (d : Activity) → r.control.activity ≡ d → entered_next r ≡ Some p → (c : Progress) × (r.control.activity ≡ running c)
  at_activity resting e h = absurd (cc (ap (λ d. option_and_then (phase_at r.control.blocks r.records) (upcoming_in d)) (sym e) ∙ h))
  at_activity (moving m) e h = absurd (cc (ap (λ d. option_and_then (phase_at r.control.blocks r.records) (upcoming_in d)) (sym e) ∙ h))
  at_activity (running c) e h = (c, e)

-- what entering does outside the run
record Outside (p : Phase) (e : Effects) : Type 0 where
  no_step : e.step ≡ None
  switches : e.power ≡ power_of p.nature
  sets : e.zero_counter ≡ zeroes p.nature
  shows : e.outputs ≡ p.outputs

module _ (g : Program) (t : Moment) (c : Progress) (p : Phase) where
  just : Outside p (entered p)
  just = record { no_step = refl; switches = refl; sets = refl; shows = refl }

  at_end : (r : Result (Option Progress) Fault) → Outside p (phase_ended (entered p) r).effects
  at_end (Ok o) = just
  at_end (Err f) = record { no_step = refl; switches = refl; sets = refl; shows = refl }

  at_movement : (m : Option Motion) → Outside p (sets_movement g t c p m).effects
  at_movement None = at_end (leaves g t c p)
  at_movement (Some m) = just

  outside : (n : Nature) → Outside p (starts g t c p n).effects
  outside n = search (rules, just, at_end, at_movement)

-- the outcome of the tick
module _ (r : ModuleState) (p : Phase) (c : Progress) where
  g : Program
  g = record { blocks = r.control.blocks; records = r.records; values = r.control.settings.values }

  t : Moment
  t = record { counter = r.axis.counter; levels = r.control.levels }

  outcome_is : c.state ≡ entering → phase_at r.control.blocks r.records c.at ≡ Some p → run_outcome r.control r.records r.axis.counter c ≡ starts g t c p p.nature
  unfolding run_outcome g t
  outcome_is e h = rw (e, h) refl

  -- the state after it
  after_outcome : Outcome → ModuleState
  after_outcome o = record { control = run_ticked r.control o; axis = affected o.effects r.axis; records = r.records }

  tick_is : r.control.activity ≡ running c → There r p c → ticked_state r ≡ after_outcome (starts g t c p p.nature)
  unfolding ticked_state after_outcome
  tick_is e h =
      ap (λ (d : Activity). record { control = ticked r.control r.records r.axis.counter d; axis = affected (tick_effects r.control r.records r.axis.counter d) r.axis; records = r.records }) e
      ∙ ap (λ (o : Outcome). record { control = run_ticked r.control o; axis = affected o.effects r.axis; records = r.records }) (outcome_is h.0 h.1)

-- the axis after it
axis_after : (n : Nature) (a : AxisState) →
    ((zeroed (zeroes n) (powered (power_of n) a)).power ≡ power_entering n a.power)
    × ((zeroed (zeroes n) (powered (power_of n) a)).counter ≡ counter_after n a.counter)
    × ((zeroed (zeroes n) (powered (power_of n) a)).place ≡ a.place)
axis_after n a = search rules

outputs_after : (s : State) (o : Option Progress) → is_busy (runs_on s o).activity ≡ true → (runs_on s o).outputs ≡ s.outputs
outputs_after s None b = absurd (cc b)
outputs_after s (Some c) b = refl

module _ (r : ModuleState) (p : Phase) (c : Progress) where
  enters_outcome : (o : Outcome) → Outside p o.effects → Enters p r (after_outcome r p c o)
  unfolding after_outcome
  enters_outcome o h =
      let e : zeroed (zeroes p.nature) (powered (power_of p.nature) r.axis) ≡ affected o.effects r.axis =
      λ i. zeroed (sym h.sets i) (stepped (sym h.no_step i) (powered (sym h.switches i) r.axis)) in
      let a = axis_after p.nature r.axis in
      record {
        power = subst (λ (x : AxisState). x.power ≡ power_entering p.nature r.axis.power) e a.0;
        counter = subst (λ (x : AxisState). x.counter ≡ counter_after p.nature r.axis.counter) e a.1;
        place = subst (λ (x : AxisState). x.place ≡ r.axis.place) e a.2;
        outputs = λ b. outputs_after (record r.control { outputs = unwrap_or o.effects.outputs r.control.outputs }) o.rest b ∙ ap (λ x. unwrap_or x r.control.outputs) h.shows;
      }

enters_run : (r : ModuleState) (p : Phase) → entered_next r ≡ Some p → Enters p r (ticked_state r)
enters_run r p h =
    let c = at_activity r p r.control.activity refl h in
    subst (Enters p r) (sym (tick_is r p c.0 c.1 (at_run r p c.0 c.1 h))) (enters_outcome r p c.0 (starts (g r p c.0) (t r p c.0) c.0 p p.nature) (outside (g r p c.0) (t r p c.0) c.0 p p.nature))

pub enters_by_nature : EntersByNature
enters_by_nature cycle s p h = enters_run s.core.rest p h

-- where its movement leads
ahead : (goal counter : ℤ) (n : ℕ) → goal -ℤ counter ≡ pos n → int_lt goal counter ≡ false
ahead goal counter n e = grind (arith, ints)

behind : (goal counter : ℤ) (n : ℕ) → goal -ℤ counter ≡ negsuc n → int_lt goal counter ≡ true
behind goal counter n e = grind (arith, ints)

way_of : (goal counter z : ℤ) → goal -ℤ counter ≡ z → way (cond (int_lt goal counter) Back Forward) (unsigned_abs z) ≡ z
way_of goal counter (pos n) e = ap (λ b. way (cond b Back Forward) n) (ahead goal counter n e)
way_of goal counter (negsuc n) e = ap (λ b. way (cond b Back Forward) (suc n)) (behind goal counter n e)

pub way_to : (goal counter : ℤ) → way (distance_to goal counter).direction (distance_to goal counter).steps ≡ goal -ℤ counter
way_to goal counter = way_of goal counter (goal -ℤ counter) refl

-- a movement of that way, if there is a step to make
abbrev Moves : ModuleState → Phase → Progress → Nature → Outcome → Type 0
Moves r p c n o =
    (x : Direction) × (k : ℕ)
    × (way x k ≡ leads n p r.axis.counter)
    × ((m : Motion) → begun r.control.settings.values c.plateau x k (is_constant n) ≡ Some m → (run_ticked r.control o).activity ≡ running (record c { state = in_movement p m }))

module _ (r : ModuleState) (p : Phase) (c : Progress) where
  sets : (o : Option Motion) (m : Motion) → o ≡ Some m → (run_ticked r.control (sets_movement (g r p c) (t r p c) c p o)).activity ≡ running (record c { state = in_movement p m })
  sets o m e = ap (λ (x : Option Motion). (run_ticked r.control (sets_movement (g r p c) (t r p c) c p x)).activity) e

  moves : (n : Nature) → is_movement n ≡ true → Moves r p c n (starts (g r p c) (t r p c) c p n)
  unfolding g t
  moves Relative h = (p.direction, unsigned_abs p.set_point, refl, λ m e. sets _ m e)
  moves ConstantSpeed h = (p.direction, unsigned_abs p.set_point, refl, λ m e. sets _ m e)
  moves Absolute h = ((distance_to p.set_point r.axis.counter).direction, (distance_to p.set_point r.axis.counter).steps, way_to p.set_point r.axis.counter, λ m e. sets _ m e)
  moves Origin h = ((distance_to (pos 0) r.axis.counter).direction, (distance_to (pos 0) r.axis.counter).steps, way_to (pos 0) r.axis.counter, λ m e. sets _ m e)
  moves _ h = absurd (cc h)

pub moves_by_nature : MovesByNature
unfolding after_outcome
moves_by_nature cycle s c p e h k =
    let r = s.core.rest in
    let m = moves r p c p.nature k in
    (m.0, m.1, m.2, λ x b. ap (λ (y : ModuleState). y.control.activity) (tick_is r p c e (at_run r p c e h)) ∙ m.3 x b)

-- NE bit by bit
zero_bits : (x : ℕ) → ((i : ℕ) → bit_at x i ≡ 0) → x ≡ 0
zero_bits x h = same_from_bits x 0 (λ i. h i ∙ sym (bit_at-zero i))

same_bit : (a b n : ℕ) → a < 2 → b < 2 → n ≡ 1 → min ((a + b) % 2) n ≡ 0 → a ≡ b
same_bit a b n h k e q = omega arith

no_difference : (a b n : ℕ) → a < 2 → b < 2 → n < 2 → (n ≡ 1 → a ≡ b) → min ((a + b) % 2) n ≡ 0
no_difference a b n h k l e = grind arith

module _ (p : Phase) (levels : ℕ) where
  bits : (i : ℕ) → bit_at (bit_and (bit_xor levels p.inputs.levels) p.inputs.named) i ≡ min ((bit_at levels i + bit_at p.inputs.levels i) % 2) (bit_at p.inputs.named i)
  bits i = bit_at_and (bit_xor levels p.inputs.levels) p.inputs.named i ∙ ap (λ x. min x (bit_at p.inputs.named i)) (bit_at_xor levels p.inputs.levels i)

  agreeing : agrees p levels ≡ true → (i : ℕ) → bit_at p.inputs.named i ≡ 1 → bit_at levels i ≡ bit_at p.inputs.levels i
  agreeing h i n =
      same_bit (bit_at levels i) (bit_at p.inputs.levels i) (bit_at p.inputs.named i) (bit_at-lt levels i) (bit_at-lt p.inputs.levels i) n
      (sym (bits i) ∙ (ap (λ x. bit_at x i) (eqb-true _ 0 h) ∙ bit_at-zero i))

  alike : ((i : ℕ) → bit_at p.inputs.named i ≡ 1 → bit_at levels i ≡ bit_at p.inputs.levels i) → agrees p levels ≡ true
  alike h =
      eq-eqb _ 0
      (zero_bits _
      (λ i. bits i ∙ no_difference (bit_at levels i) (bit_at p.inputs.levels i) (bit_at p.inputs.named i) (bit_at-lt levels i) (bit_at-lt p.inputs.levels i) (bit_at-lt p.inputs.named i) (h i)))

pub agrees_bit_by_bit : AgreesBitByBit
agrees_bit_by_bit p levels = (agreeing p levels, alike p levels)
