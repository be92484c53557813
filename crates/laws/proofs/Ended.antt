-- Where what went on has ended, the outputs are FFh.
use Rattle.std.proofs.Common.{◌≡◌, ℕ, true, false, Ok, Err, sym, refl, ◌∙◌, rules}
use Rattle.std.proofs.lemmas.Bool.{false≢true}
use Rattle.lines.specs.Lines.{Kept}
use Rattle.orders.specs.declared.order.Order.{Order}
use Rattle.orders.specs.declared.order.Judgement.{Judgement}
use Rattle.orders.specs.declared.order.Judgement.TheVariants.{Own, Broadcast, Stranger}
use Rattle.control.specs.States.{State, is_busy}
use Rattle.control.proofs.Kept.{Through, through_start, through_stop, through_cut, through_restart, through_tick}
use Rattle.law.specs.Events.Event.{stopped, skipped, letter, ending, tick, levels, power_up}
use Rattle.law.specs.Machine.{WithFault, done_by}
use Rattle.module.specs.States.{ModuleState, order_done, obeyed_state, ticked_state}
use Rattle.module.specs.Lines.{outcome_of, judged_line, line_outcome}
use Rattle.module.specs.Machine.{machine}
use Rattle.laws.specs.Ended.{OutputsAtTheEnd}

-- at rest only with the outputs at FFh
abbrev High : State → Type 0
High s = is_busy s.activity ≡ false → s.outputs ≡ 255

never : (s : State) → is_busy s.activity ≡ true → High s
never s b e = absurd (false≢true (sym e ∙ b))

through : (s : State) → is_busy s.activity ≡ true → Through s High
through s b = record { stays = never s b; at_rest = λ e. refl; in_movement = λ m e. absurd (false≢true (sym e)); in_run = λ n r e. absurd (false≢true (sym e)) }

order_high : (r : ModuleState) (o : Order) → is_busy r.control.activity ≡ true → High (order_done r o).state
order_high r o b e =
    let h = through r.control b in
    search (rules, never, through_start h, through_stop h, through_cut h, through_restart h)

obeyed_high : (r : ModuleState) (o : Order) → is_busy r.control.activity ≡ true → High (obeyed_state r o).control
unfolding obeyed_state
obeyed_high r o b = order_high r o b

module _ (cycle : ℕ) (c : WithFault (machine cycle)) (b : is_busy c.rest.control.activity ≡ true) where
  judged_high : (j : Judgement) → High (done_by (machine cycle) c (outcome_of cycle c.rest j)).0.rest.control
  judged_high (Own (Ok o)) = obeyed_high c.rest o b
  judged_high (Own (Err f)) = never c.rest.control b
  judged_high (Broadcast (Ok o)) = obeyed_high c.rest o b
  judged_high (Broadcast (Err f)) = never c.rest.control b
  judged_high Stranger = never c.rest.control b

  line_high : (k : Kept) → High (done_by (machine cycle) c (line_outcome cycle c.rest k)).0.rest.control
  unfolding line_outcome
  line_high k = judged_high (judged_line c.rest k)

  tick_high : High (ticked_state c.rest).control
  unfolding ticked_state
  tick_high = through_tick (through c.rest.control b) c.rest.records c.rest.axis.counter c.rest.control.activity

pub outputs_at_the_end : OutputsAtTheEnd
outputs_at_the_end cycle s (stopped fault) b = never s.core.rest.control b
outputs_at_the_end cycle s skipped b = never s.core.rest.control b
outputs_at_the_end cycle s (letter x) b = never s.core.rest.control b
outputs_at_the_end cycle s ending b = line_high cycle s.core b s.line
outputs_at_the_end cycle s tick b = tick_high cycle s.core b
outputs_at_the_end cycle s (levels v) b = never s.core.rest.control b
outputs_at_the_end cycle s power_up b = through_restart (through s.core.rest.control b) s.core.rest.control.chosen
