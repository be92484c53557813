-- Every call keeps power on while a movement goes on.
use Rattle.std.proofs.Common.{◌≡◌, ℕ, Bool, true, false, cond, List, [], ◌∷◌, ℤ, pos, is_some, Some, None, Ok, Err, Option, unwrap_or, sym, refl, ap, ◌∙◌, subst, rules}
use Rattle.steps.specs.declared.direction.Direction.{Direction}
use Rattle.lines.specs.Lines.{Kept}
use Rattle.phases.specs.declared.phase.Phase.{Phase}
use Rattle.motion.specs.Motions.{Motion, stopped as slow, tick_rest, tick_step}
use Rattle.steps.specs.Directions.{one_step}
use Rattle.axis.specs.Axes.{AxisState}
use Rattle.engine.specs.declared.effects.Effects.{Effects}
use Rattle.steps.specs.declared.power.Power.{Power}
use Rattle.steps.specs.declared.power.Power.TheVariants.{On, Off}
use Rattle.engine.specs.Progress.{Progress, PhaseState, entering, moving as phase_moving, waiting}
use Rattle.engine.specs.Ticks.{with_movement, stopped_run}
use Rattle.engine.specs.Laws.{switched, StatePowered, Powered, PowerKept, StepsWithPower}
use Rattle.orders.specs.declared.order.Order.{Order}
use Rattle.orders.specs.declared.order.Judgement.{Judgement}
use Rattle.orders.specs.declared.order.Judgement.TheVariants.{Own, Broadcast, Stranger}
use Rattle.control.specs.States.{State, Activity, resting, moving, running, moves_on, runs_on}
use Rattle.control.specs.Ticks.{run_outcome, ticked, tick_effects}
use Rattle.control.specs.Obeyed.{slowed, cut_off, restarted, restart_change}
use Rattle.law.specs.Events.{Event}
use Rattle.law.specs.Events.Event.{stopped, skipped, letter, ending, tick, levels, power_up}
use Rattle.law.specs.History.{State as Whole, next}
use Rattle.law.specs.Machine.{WithFault, done_by}
use Rattle.module.specs.States.{ModuleState, powered, changed, stepped, step_made, zeroed, affected, step_of, order_done, obeyed_state, ticked_state, step_due}
use Rattle.module.specs.Lines.{outcome_of, judged_line, line_outcome}
use Rattle.module.specs.Machine.{machine, module_device}
use Rattle.laws.specs.Powered.{ActivityPowered, HasPower, PowerWhileMoving, NoStepRefused}

state_on : (c : PhaseState) → StatePowered true c
state_on entering = tt
state_on (phase_moving p m) = refl
state_on (waiting p n) = tt

all_powered : (d : Activity) → ActivityPowered true d
all_powered resting = tt
all_powered (moving m) = refl
all_powered (running c) = state_on c.state

moves_on_power : (s : State) (on : Bool) (m : Option Motion) → on ≡ true → ActivityPowered on (moves_on s m).activity
moves_on_power s on None h = tt
moves_on_power s on (Some m) h = h

slowed_movement : (s : State) (on : Bool) (c : Progress) (p : Phase) (m : Option Motion) → on ≡ true → ActivityPowered on (runs_on s (with_movement c p m)).activity
slowed_movement s on c p None h = tt
slowed_movement s on c p (Some m) h = h

slowed_run : (s : State) (on : Bool) (c : Progress) (a : PhaseState) → StatePowered on a → ActivityPowered on (runs_on s (stopped_run c a)).activity
slowed_run s on c entering h = tt
slowed_run s on c (phase_moving p m) h = slowed_movement s on c p (slow m) h
slowed_run s on c (waiting p n) h = tt

slowed_power : (s : State) (on : Bool) (d : Activity) → ActivityPowered on s.activity → ActivityPowered on d → ActivityPowered on (slowed s d).activity
slowed_power s on resting h k = h
slowed_power s on (moving m) h k = moves_on_power s on (slow m) k
slowed_power s on (running c) h k = slowed_run s on c c.state k

cut_off_power : (s : State) (d : Activity) → s.activity ≡ d → ActivityPowered false (cut_off s d).activity
cut_off_power s resting e = subst (ActivityPowered false) (sym e) tt
cut_off_power s (moving m) e = tt
cut_off_power s (running c) e = tt

restarted_power : (s : State) (a : AxisState) (c : Option ℕ) → ActivityPowered (changed (restart_change c) a).power (restarted s c).activity
restarted_power s a None = tt
restarted_power s a (Some n) = tt

order_power : (r : ModuleState) (o : Order) → HasPower r → ActivityPowered (changed (order_done r o).change r.axis).power (order_done r o).state.activity
order_power r o h = search (rules, all_powered, slowed_power, cut_off_power, restarted_power)

obeyed_power : (r : ModuleState) (o : Order) → HasPower r → HasPower (obeyed_state r o)
unfolding obeyed_state
obeyed_power r o h = order_power r o h

-- a finished line
module _ (cycle : ℕ) (c : WithFault (machine cycle)) (h : HasPower c.rest) where
  judged_power : (j : Judgement) → HasPower (done_by (machine cycle) c (outcome_of cycle c.rest j)).0.rest
  judged_power (Own (Ok o)) = obeyed_power c.rest o h
  judged_power (Own (Err f)) = h
  judged_power (Broadcast (Ok o)) = obeyed_power c.rest o h
  judged_power (Broadcast (Err f)) = h
  judged_power Stranger = h

  line_power : (k : Kept) → HasPower (done_by (machine cycle) c (line_outcome cycle c.rest k)).0.rest
  unfolding line_outcome
  line_power k = judged_power (judged_line c.rest k)

-- a tick
powered_power : (p : Option Power) (a : AxisState) → (powered p a).power ≡ switched a.power p
powered_power None a = refl
powered_power (Some On) a = refl
powered_power (Some Off) a = refl

stepped_power : (s : Option Direction) (a : AxisState) → (stepped s a).power ≡ a.power
stepped_power None a = refl
stepped_power (Some s) a = refl

zeroed_power : (z : Bool) (a : AxisState) → (zeroed z a).power ≡ a.power
zeroed_power true a = refl
zeroed_power false a = refl

affected_power : (e : Effects) (a : AxisState) → (affected e a).power ≡ switched a.power e.power
affected_power e a = zeroed_power e.zero_counter (stepped e.step (powered e.power a)) ∙ stepped_power e.step (powered e.power a) ∙ powered_power e.power a

module _ (laws : StepsWithPower) where
  runs_on_power : (s : State) (on : Bool) (r : Option Progress) → Powered on r → ActivityPowered on (runs_on s r).activity
  runs_on_power s on None h = tt
  runs_on_power s on (Some c) h = h

  run_kept : (s : State) (m : List Phase) (z : ℤ) (c : Progress) → PowerKept c (run_outcome s m z c).effects (run_outcome s m z c).rest
  unfolding run_outcome
  run_kept s m z c = laws (record { blocks = s.blocks; records = m; values = s.settings.values }) (record { counter = z; levels = s.levels }) c

  ticked_power : (s : State) (m : List Phase) (a : AxisState) (d : Activity) → ActivityPowered a.power s.activity → ActivityPowered a.power d →
      ActivityPowered (affected (tick_effects s m a.counter d) a).power (ticked s m a.counter d).activity
  ticked_power s m a resting h k = h
  ticked_power s m a (moving mo) h k = moves_on_power s _ (tick_rest mo) (stepped_power (tick_step mo) a ∙ k)
  ticked_power s m a (running c) h k =
      let o = run_outcome s m a.counter c in
      subst (λ on. ActivityPowered on (runs_on (record s { outputs = unwrap_or o.effects.outputs s.outputs }) o.rest).activity) (sym (affected_power o.effects a))
      (runs_on_power (record s { outputs = unwrap_or o.effects.outputs s.outputs }) (switched a.power o.effects.power) o.rest (run_kept s m a.counter c a.power k).0)

  tick_power : (r : ModuleState) → HasPower r → HasPower (ticked_state r)
  unfolding ticked_state
  tick_power r h = ticked_power r.control r.records r.axis r.control.activity h h

  call_power : (cycle : ℕ) (s : Whole (module_device cycle)) (e : Event) → HasPower s.core.rest → HasPower (next (module_device cycle) s e).core.rest
  call_power cycle s (stopped fault) h = h
  call_power cycle s skipped h = h
  call_power cycle s (letter x) h = h
  call_power cycle s ending h = line_power cycle s.core h s.line
  call_power cycle s tick h = tick_power s.core.rest h
  call_power cycle s (levels v) h = h
  call_power cycle s power_up h = restarted_power s.core.rest.control s.core.rest.axis s.core.rest.control.chosen

  pub power_while_moving : PowerWhileMoving
  power_while_moving cycle s [] h = h
  power_while_moving cycle s (e ∷ es) h = power_while_moving cycle (next (module_device cycle) s e) es (call_power cycle s e h)

  due_made : (p : Option Power) (s : Option Direction) (a : AxisState) → (is_some s ≡ true → (a.power ≡ true) × (p ≡ None)) → step_made s (powered p a) ≡ step_due s
  due_made p None a h = refl
  due_made p (Some s) a h =
      let k = h refl in
      ap (λ q. step_made (Some s) (powered q a)) k.1 ∙ ap (λ b. cond b (one_step s) (pos 0)) k.0

  doing_made : (s : State) (m : List Phase) (a : AxisState) (d : Activity) → ActivityPowered a.power d → step_of (tick_effects s m a.counter d) a ≡ step_due (tick_effects s m a.counter d).step
  doing_made s m a resting k = refl
  doing_made s m a (moving mo) k = due_made None (tick_step mo) a (λ q. (k, refl))
  doing_made s m a (running c) k =
      let o = run_outcome s m a.counter c in
      due_made o.effects.power o.effects.step a (λ q. let t = (run_kept s m a.counter c a.power k).1 q in (t.0, t.1))

  pub no_step_refused : NoStepRefused
  no_step_refused r h = doing_made r.control r.records r.axis r.control.activity h
