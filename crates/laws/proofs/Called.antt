-- Only SS, MR and power-up start a run, that of the sequence that they name; only GE, GR and MR, ticks and power-up move one.
use Rattle.std.proofs.Common.{◌≡◌, ℕ, Bool, true, false, List, ℤ, is_some, Some, None, Ok, Err, Option, sym, refl, ap, ◌∙◌, subst, rules}
use Rattle.std.proofs.lemmas.Bool.{false≢true}
use Rattle.lines.specs.Lines.{Kept}
use Rattle.phases.specs.declared.phase.Phase.{Phase}
use Rattle.motion.specs.Motions.{Motion, begun, stopped as slow, tick_rest}
use Rattle.motion.specs.declared.distance.Distance.{Distance as Steps}
use Rattle.orders.specs.declared.order.Order.{Order}
use Rattle.orders.specs.declared.order.Order.TheVariants.{SlowStop, PowerOn, PowerOff, SetOutputs, Start, Restart, ReadParameters, ReadPosition, ReadVersion, ReadFault}
use Rattle.orders.specs.declared.order.Judgement.{Judgement}
use Rattle.orders.specs.declared.order.Judgement.TheVariants.{Own, Broadcast, Stranger}
use Rattle.control.specs.States.{State, Activity, resting, moving, running, moves_on, is_busy}
use Rattle.control.specs.Ticks.{ticked}
use Rattle.control.specs.Obeyed.{moves_to, slowed, cut_off, restarted, restart_change}
use Rattle.law.specs.Events.Event.{stopped, skipped, letter, ending, tick, levels, power_up}
use Rattle.law.specs.History.{State as Whole}
use Rattle.law.specs.Machine.{WithFault, done_by}
use Rattle.module.specs.States.{ModuleState, changed, order_done, obeyed_state, ticked_state, restarted_state}
use Rattle.module.specs.Lines.{outcome_of, judged_line, line_outcome}
use Rattle.module.specs.Machine.{machine, module_device}
use Rattle.laws.specs.Called.{runs, accepted_in, accepted_order, called_by, moved_by, Begins, RunsOnlyWhenCalled, RunsTheCalled, RunStays}
use Rattle.laws.specs.WhileBusy.{taken_when_busy}
use Rattle.laws.proofs.WhileBusy.{busy_takes}

moves_on_rests : (s : State) (m : Option Motion) → runs (moves_on s m).activity ≡ false
moves_on_rests s None = refl
moves_on_rests s (Some m) = refl

never : {A : Type 0} {b : Bool} → b ≡ false → b ≡ true → A
never h e = absurd (false≢true (sym h ∙ e))

moves_to_rests : (s : State) (d : Steps) → runs (moves_to s d).activity ≡ false
unfolding moves_to
moves_to_rests s d = moves_on_rests s (begun s.settings.values None d.direction d.steps false)

slowed_rests : (s : State) (d : Activity) → runs s.activity ≡ false → runs d ≡ false → runs (slowed s d).activity ≡ false
slowed_rests s resting h k = h
slowed_rests s (moving m) h k = moves_on_rests s (slow m)
slowed_rests s (running r) h k = never k refl

cut_off_rests : (s : State) (d : Activity) → runs s.activity ≡ false → runs (cut_off s d).activity ≡ false
cut_off_rests s resting h = h
cut_off_rests s (moving m) h = refl
cut_off_rests s (running r) h = refl

restarted_called : (s : State) (c : Option ℕ) → runs (restarted s c).activity ≡ true → is_some c ≡ true
restarted_called s None e = e
restarted_called s (Some n) e = refl

order_called : (r : ModuleState) (o : Order) → runs r.control.activity ≡ false → runs (order_done r o).state.activity ≡ true → is_some (called_by r.control.chosen (Some o)) ≡ true
order_called r o h e = search (rules, moves_to_rests, slowed_rests, cut_off_rests, restarted_called)

obeyed_called : (r : ModuleState) (o : Order) → runs r.control.activity ≡ false → runs (obeyed_state r o).control.activity ≡ true → is_some (called_by r.control.chosen (Some o)) ≡ true
unfolding obeyed_state
obeyed_called r o h e = order_called r o h e

ticked_rests : (s : State) (m : List Phase) (counter : ℤ) (d : Activity) → runs s.activity ≡ false → runs d ≡ false → runs (ticked s m counter d).activity ≡ false
ticked_rests s m counter resting h k = h
ticked_rests s m counter (moving mo) h k = moves_on_rests s (tick_rest mo)
ticked_rests s m counter (running r) h k = never k refl

module _ (cycle : ℕ) (c : WithFault (machine cycle)) (h : runs c.rest.control.activity ≡ false) where
  judged_called : (j : Judgement) → runs (done_by (machine cycle) c (outcome_of cycle c.rest j)).0.rest.control.activity ≡ true → is_some (called_by c.rest.control.chosen (accepted_in j)) ≡ true
  judged_called (Own (Ok o)) e = obeyed_called c.rest o h e
  judged_called (Own (Err f)) e = never h e
  judged_called (Broadcast (Ok o)) e = obeyed_called c.rest o h e
  judged_called (Broadcast (Err f)) e = never h e
  judged_called Stranger e = never h e

  line_called : (k : Kept) → runs (done_by (machine cycle) c (line_outcome cycle c.rest k)).0.rest.control.activity ≡ true → is_some (called_by c.rest.control.chosen (accepted_in (judged_line c.rest k))) ≡ true
  unfolding line_outcome
  line_called k e = judged_called (judged_line c.rest k) e

  tick_rests : runs (ticked_state c.rest).control.activity ≡ false
  unfolding ticked_state
  tick_rests = ticked_rests c.rest.control c.rest.records c.rest.axis.counter c.rest.control.activity h h

pub runs_only_when_called : RunsOnlyWhenCalled
runs_only_when_called cycle s (stopped fault) h e = never h e
runs_only_when_called cycle s skipped h e = never h e
runs_only_when_called cycle s (letter x) h e = never h e
runs_only_when_called cycle s ending h e = line_called cycle s.core h s.line e
runs_only_when_called cycle s tick h e = never (tick_rests cycle s.core h) e
runs_only_when_called cycle s (levels v) h e = never h e
runs_only_when_called cycle s power_up h e = restarted_called s.core.rest.control s.core.rest.control.chosen e

-- the run that begins
order_begins : (r : ModuleState) (o : Order) (n : ℕ) → called_by r.control.chosen (Some o) ≡ Some n → Begins n (obeyed_state r o)
unfolding obeyed_state
order_begins r (Start m) n e = let k : m ≡ n = cc e in subst (λ x. Begins x (obeyed_state r (Start m))) k (record { run = refl; power = refl })
order_begins r Restart n e =
    subst (λ (c : Option ℕ). Begins n (record { control = restarted r.control c; axis = changed (restart_change c) r.axis; records = r.records })) (sym e)
    (record { run = refl; power = refl })
order_begins r _ n e = absurd (cc e)

module _ (cycle : ℕ) (c : WithFault (machine cycle)) (n : ℕ) where
  judged_begins : (j : Judgement) → called_by c.rest.control.chosen (accepted_in j) ≡ Some n → Begins n (done_by (machine cycle) c (outcome_of cycle c.rest j)).0.rest
  judged_begins (Own (Ok o)) e = order_begins c.rest o n e
  judged_begins (Own (Err f)) e = absurd (cc e)
  judged_begins (Broadcast (Ok o)) e = order_begins c.rest o n e
  judged_begins (Broadcast (Err f)) e = absurd (cc e)
  judged_begins Stranger e = absurd (cc e)

  line_begins : (k : Kept) → called_by c.rest.control.chosen (accepted_in (judged_line c.rest k)) ≡ Some n → Begins n (done_by (machine cycle) c (line_outcome cycle c.rest k)).0.rest
  unfolding line_outcome
  line_begins k e = judged_begins (judged_line c.rest k) e

  restart_begins : c.rest.control.chosen ≡ Some n → Begins n (restarted_state c.rest)
  restart_begins e =
      let r = c.rest in
      subst (λ (o : Option ℕ). Begins n (record { control = restarted r.control o; axis = changed (restart_change o) r.axis; records = r.records })) (sym e)
      (record { run = refl; power = refl })

pub runs_the_called : RunsTheCalled
runs_the_called cycle s ending n e = line_begins cycle s.core n s.line e
runs_the_called cycle s power_up n e = restart_begins cycle s.core n e
runs_the_called cycle s _ n e = absurd (cc e)

-- the run that goes on
order_stays : (r : ModuleState) (o : Order) → taken_when_busy o ≡ true → moved_by (Some o) ≡ false → (obeyed_state r o).control.activity ≡ r.control.activity
unfolding obeyed_state
order_stays r PowerOn t m = refl
order_stays r (SetOutputs n) t m = refl
order_stays r ReadParameters t m = refl
order_stays r ReadPosition t m = refl
order_stays r ReadVersion t m = refl
order_stays r ReadFault t m = refl
order_stays r SlowStop t m = absurd (cc m)
order_stays r PowerOff t m = absurd (cc m)
order_stays r Restart t m = absurd (cc m)
order_stays r _ t m = absurd (cc t)

module _ (cycle : ℕ) (s : Whole (module_device cycle)) (b : is_busy s.core.rest.control.activity ≡ true) where
  judged_stays : (j : Judgement) → judged_line s.core.rest s.line ≡ j → moved_by (accepted_in j) ≡ false →
      (done_by (machine cycle) s.core (outcome_of cycle s.core.rest j)).0.rest.control.activity ≡ s.core.rest.control.activity
  judged_stays (Own (Ok o)) e m = order_stays s.core.rest o (busy_takes cycle s o b (ap accepted_in e)) m
  judged_stays (Own (Err f)) e m = refl
  judged_stays (Broadcast (Ok o)) e m = order_stays s.core.rest o (busy_takes cycle s o b (ap accepted_in e)) m
  judged_stays (Broadcast (Err f)) e m = refl
  judged_stays Stranger e m = refl

  line_stays : moved_by (accepted_order cycle s) ≡ false → (done_by (machine cycle) s.core (line_outcome cycle s.core.rest s.line)).0.rest.control.activity ≡ s.core.rest.control.activity
  unfolding line_outcome
  line_stays m = judged_stays (judged_line s.core.rest s.line) refl m

pub run_stays : RunStays
run_stays cycle s (stopped fault) r h m = h
run_stays cycle s skipped r h m = h
run_stays cycle s (letter x) r h m = h
run_stays cycle s ending r h m = line_stays cycle s (ap is_busy h) m ∙ h
run_stays cycle s tick r h m = absurd (cc m)
run_stays cycle s (levels v) r h m = h
run_stays cycle s power_up r h m = absurd (cc m)
