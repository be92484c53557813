-- An accepted line does what its order says.
use Rattle.std.proofs.Common.{◌≡◌, true, ◌≢◌, ℕ, cond, eqb, is_some, Some, None, Ok, Err, Option, slice_set, inl, inr, refl, sym, ap, subst, rules}
use Rattle.std.proofs.lemmas.Bool.{cond_both, cond-true, eqb-true, eq-eqb}
use Rattle.lines.specs.Lines.{Kept}
use Rattle.store.specs.Blocks.{reserved}
use Rattle.store.specs.Records.{appended, blanked, erased_blocks, erased_records}
use Rattle.store.specs.Stores.{Store}
use Rattle.orders.specs.declared.order.Order.{Order}
use Rattle.orders.specs.declared.order.Order.TheVariants.{Create, Erase, Write}
use Rattle.orders.specs.declared.order.Judgement.{Judgement}
use Rattle.orders.specs.declared.order.Judgement.TheVariants.{Own, Broadcast, Stranger}
use Rattle.orders.specs.declared.order.Situation.{Situation}
use Rattle.orders.specs.Judged.{Shown, Admitted}
use Rattle.orders.proofs.Accepted.{admitted}
use Rattle.motion.specs.Motions.{Motion, begun, stopped as slow}
use Rattle.motion.specs.declared.distance.Distance.{Distance as Steps}
use Rattle.engine.specs.Progress.{Progress}
use Rattle.engine.specs.Ticks.{slow_stop}
use Rattle.control.specs.States.{State, Activity, resting, moving, running, moves_on, runs_on, is_busy, store_of, situation}
use Rattle.control.specs.Obeyed.{restart_change, choice_without, moves_to, slowed, cut_off, restarted}
use Rattle.control.proofs.Kept.{Through, through_start, through_stop, through_cut, through_restart, through_tick}
use Rattle.axis.specs.Axes.{AxisState}
use Rattle.law.specs.Events.Event.{stopped, skipped, letter, ending, tick, levels, power_up}
use Rattle.law.specs.History.{State as Whole, next}
use Rattle.law.specs.Machine.{done_by}
use Rattle.module.specs.States.{ModuleState, changed, order_done, obeyed_state, ticked_state, restarted_state}
use Rattle.module.specs.Lines.{outcome_of, judged_line, line_outcome}
use Rattle.module.specs.Machine.{machine, module_device}
use Rattle.laws.specs.Called.{accepted_in, accepted_order}
use Rattle.laws.specs.Done.{settings_after, StoreAfter, ChoiceAfter, power_by_order, OutputsAfter, Does, AcceptedIsDone, Same, OnlyOrdersSet}

same_settings : (s : State) → Through s (λ t. t.settings ≡ s.settings)
same_settings s = record { stays = refl; at_rest = refl; in_movement = λ m. refl; in_run = λ n r. refl }

same_choice : (s : State) → Through s (λ t. t.chosen ≡ s.chosen)
same_choice s = record { stays = refl; at_rest = refl; in_movement = λ m. refl; in_run = λ n r. refl }

pub same_blocks : (s : State) → Through s (λ t. t.blocks ≡ s.blocks)
same_blocks s = record { stays = refl; at_rest = refl; in_movement = λ m. refl; in_run = λ n r. refl }

order_settings : (r : ModuleState) (o : Order) → (order_done r o).state.settings ≡ settings_after r.control.settings o
order_settings r o =
    let h = same_settings r.control in
    search (rules, through_start h, through_stop h, through_cut h, through_restart h)

-- what the orders do to the phase memory
abbrev store_after : Store → Order → Store
store_after s (Create b) = record { blocks = appended s.blocks b.number b.reserve; records = blanked (reserved s.blocks) b.reserve s.records }
store_after s (Erase n) = record { blocks = erased_blocks s.blocks n; records = erased_records s.blocks n s.records }
store_after s (Write index p) = record s { records = slice_set s.records index p }
store_after s _ = s

order_blocks : (r : ModuleState) (o : Order) → (order_done r o).state.blocks ≡ (store_after (store_of r.control r.records) o).blocks
order_blocks r o =
    let h = same_blocks r.control in
    search (rules, through_start h, through_stop h, through_cut h, through_restart h)

order_records : (r : ModuleState) (o : Order) → (order_done r o).records ≡ (store_after (store_of r.control r.records) o).records
order_records r o = search rules

-- the choice, power and the outputs
without_choice : (n c : ℕ) → (Some c ≡ Some n → cond (eqb c n) None (Some c) ≡ None) × ((Some c ≢ Some n) → cond (eqb c n) None (Some c) ≡ Some c)
without_choice n c = (
  λ e. let k : c ≡ n = cc e in cond-true _ _ _ (eq-eqb c n k),
  λ d. cond_both (eqb c n) None (Some c) (λ x. x ≡ Some c) (λ q. absurd (d (ap Some (eqb-true c n q)))) (λ _. refl),
)

erased_choice : (n chosen : Option ℕ) → ChoiceAfter chosen (Erase n) (choice_without n chosen)
erased_choice None chosen = refl
erased_choice (Some n) None = (λ e. refl, λ d. refl)
erased_choice (Some n) (Some c) = without_choice n c

order_choice : (r : ModuleState) (o : Order) → ChoiceAfter r.control.chosen o (order_done r o).state.chosen
order_choice r o =
    let h = same_choice r.control in
    search (rules, erased_choice, through_start h, through_stop h, through_cut h, through_restart h)

restart_power : (c : Option ℕ) (a : AxisState) → (changed (restart_change c) a).power ≡ is_some c
restart_power None a = refl
restart_power (Some n) a = refl

order_power : (r : ModuleState) (o : Order) → (changed (order_done r o).change r.axis).power ≡ power_by_order r.control.chosen r.axis.power o
order_power r o = search (rules, restart_power)

moved_outputs : (s : State) (m : Option Motion) → is_busy (moves_on s m).activity ≡ true → (moves_on s m).outputs ≡ s.outputs
moved_outputs s None b = absurd (cc b)
moved_outputs s (Some m) b = refl

begun_outputs : (s : State) (d : Steps) → is_busy (moves_to s d).activity ≡ true → (moves_to s d).outputs ≡ s.outputs
unfolding moves_to
begun_outputs s d b = moved_outputs s (begun s.settings.values None d.direction d.steps _) b

run_outputs : (s : State) (o : Option Progress) → is_busy (runs_on s o).activity ≡ true → (runs_on s o).outputs ≡ s.outputs
run_outputs s None b = absurd (cc b)
run_outputs s (Some c) b = refl

slowed_outputs : (s : State) (d : Activity) → is_busy (slowed s d).activity ≡ true → (slowed s d).outputs ≡ s.outputs
slowed_outputs s resting b = refl
slowed_outputs s (moving m) b = moved_outputs s (slow m) b
slowed_outputs s (running c) b = run_outputs s (slow_stop c) b

cut_outputs : (s : State) (d : Activity) → is_busy (cut_off s d).activity ≡ true → (cut_off s d).outputs ≡ s.outputs
cut_outputs s resting b = refl
cut_outputs s (moving m) b = absurd (cc b)
cut_outputs s (running c) b = absurd (cc b)

restarted_outputs : (s : State) (c : Option ℕ) → (restarted s c).outputs ≡ 255
restarted_outputs s None = refl
restarted_outputs s (Some n) = refl

order_outputs : (r : ModuleState) (o : Order) → OutputsAfter r.control.outputs (is_busy (order_done r o).state.activity) o (order_done r o).state.outputs
order_outputs r o = search (rules, begun_outputs, slowed_outputs, cut_outputs, restarted_outputs)

-- by the commands of the store, once the rows have shown what they show
by_store : (at : Situation) (s : Store) (o : Order) → Shown at s o → StoreAfter s o (store_after s o)
by_store at s (Create b) h = rw h refl
by_store at s (Erase n) h = refl
by_store at s (Write index p) h = (h.0, h.1, rw h.1 refl)
by_store at s _ h = refl

does : (r : ModuleState) (o : Order) → Shown (situation r.control) (store_of r.control r.records) o → Does r (obeyed_state r o) o
unfolding obeyed_state
does r o h =
    let s = store_of r.control r.records in
    let d = order_done r o in
    let e : store_after s o ≡ store_of d.state d.records = λ i. record { blocks = sym (order_blocks r o) i; records = sym (order_records r o) i } in
    record {
      settings = order_settings r o;
      store = subst (StoreAfter s o) e (by_store (situation r.control) s o h);
      choice = order_choice r o;
      power = order_power r o;
      outputs = order_outputs r o;
    }

-- the rows have shown it of the order of an accepted line
module _ (r : ModuleState) (k : Kept) (o : Order) where
  shown : Admitted (situation r.control) (store_of r.control r.records) (judged_line r k)
  shown = admitted (situation r.control) (store_of r.control r.records) k

  own_shown : judged_line r k ≡ Own (Ok o) → Shown (situation r.control) (store_of r.control r.records) o
  own_shown e = subst (Admitted (situation r.control) (store_of r.control r.records)) e shown

  broadcast_shown : judged_line r k ≡ Broadcast (Ok o) → Shown (situation r.control) (store_of r.control r.records) o
  broadcast_shown e = subst (Admitted (situation r.control) (store_of r.control r.records)) e shown

pub accepted_is_done : AcceptedIsDone
unfolding line_outcome
accepted_is_done cycle s o (inl e) =
    let r = s.core.rest in
    subst (λ (j : Judgement). Does r (done_by (machine cycle) s.core (outcome_of cycle r j)).0.rest o) (sym e) (does r o (own_shown r s.line o e))
accepted_is_done cycle s o (inr e) =
    let r = s.core.rest in
    subst (λ (j : Judgement). Does r (done_by (machine cycle) s.core (outcome_of cycle r j)).0.rest o) (sym e) (does r o (broadcast_shown r s.line o e))

-- what is no order sets nothing
module _ (cycle : ℕ) (s : Whole (module_device cycle)) where
  same : Same s.core.rest s.core.rest
  same = record { settings = refl; choice = refl }

  judged_same : (j : Judgement) → accepted_in j ≡ None → Same s.core.rest (done_by (machine cycle) s.core (outcome_of cycle s.core.rest j)).0.rest
  judged_same (Own (Ok o)) e = absurd (cc e)
  judged_same (Own (Err f)) e = same
  judged_same (Broadcast (Ok o)) e = absurd (cc e)
  judged_same (Broadcast (Err f)) e = same
  judged_same Stranger e = same

  line_same : accepted_order cycle s ≡ None → Same s.core.rest (next (module_device cycle) s ending).core.rest
  unfolding line_outcome
  line_same e = judged_same (judged_line s.core.rest s.line) e

  tick_same : Same s.core.rest (ticked_state s.core.rest)
  unfolding ticked_state
  tick_same =
      let r = s.core.rest in record {
        settings = through_tick (same_settings r.control) r.records r.axis.counter r.control.activity;
        choice = through_tick (same_choice r.control) r.records r.axis.counter r.control.activity;
      }

  restart_same : Same s.core.rest (restarted_state s.core.rest)
  restart_same =
      let r = s.core.rest in record {
        settings = through_restart (same_settings r.control) r.control.chosen;
        choice = through_restart (same_choice r.control) r.control.chosen;
      }

pub only_orders_set : OnlyOrdersSet
only_orders_set cycle s (stopped fault) e = same cycle s
only_orders_set cycle s skipped e = same cycle s
only_orders_set cycle s (letter x) e = same cycle s
only_orders_set cycle s ending e = line_same cycle s e
only_orders_set cycle s tick e = tick_same cycle s
only_orders_set cycle s (levels v) e = record { settings = refl; choice = refl }
only_orders_set cycle s power_up e = restart_same cycle s
