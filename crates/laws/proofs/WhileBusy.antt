-- What a busy module takes.
use Rattle.std.proofs.Common.{◌≡◌, true, Ok, inl, inr, refl, sym, ap, ◌∙◌}
use Rattle.store.specs.Stores.{Store}
use Rattle.orders.specs.declared.command.Command.{Command}
use Rattle.orders.specs.declared.command.Command.TheVariants.{SlowStop, PowerOn, PowerOff, SetOutputs, Restart, ReadParameters, ReadPosition, ReadVersion, ReadFault}
use Rattle.orders.specs.declared.order.Order.{Order}
use Rattle.orders.specs.declared.order.Situation.{Situation}
use Rattle.orders.specs.State.{state_row}
use Rattle.orders.specs.Values.{outputs, order_of}
use Rattle.control.specs.States.{situation, store_of}
use Rattle.module.specs.Lines.{judged_line}
use Rattle.laws.specs.WhileBusy.{taken_when_busy, BusyTakes}
use Rattle.laws.proofs.Accepted.{own_reads, broadcast_reads, accepted_of, made, alone}

module _ (at : Situation) (s : Store) where
  taken : (c : Command) (o : Order) → state_row true c ≡ Ok tt → order_of at s c ≡ Ok o → taken_when_busy o ≡ true
  taken SlowStop o h e = alone (λ x. taken_when_busy x ≡ true) _ o e refl
  taken PowerOn o h e = alone (λ x. taken_when_busy x ≡ true) _ o e refl
  taken PowerOff o h e = alone (λ x. taken_when_busy x ≡ true) _ o e refl
  taken (SetOutputs n) o h e = made (λ x. taken_when_busy x ≡ true) (outputs n) _ o e (λ x k. refl)
  taken Restart o h e = alone (λ x. taken_when_busy x ≡ true) _ o e refl
  taken ReadParameters o h e = alone (λ x. taken_when_busy x ≡ true) _ o e refl
  taken ReadPosition o h e = alone (λ x. taken_when_busy x ≡ true) _ o e refl
  taken ReadVersion o h e = alone (λ x. taken_when_busy x ≡ true) _ o e refl
  taken ReadFault o h e = alone (λ x. taken_when_busy x ≡ true) _ o e refl
  taken _ o h e = absurd (cc h)

pub busy_takes : BusyTakes
busy_takes cycle s o b e =
    let r = s.core.rest in
    let at = situation r.control in
    let m = store_of r.control r.records in
    elim (accepted_of (judged_line r s.line) o e) [
      | inl k ↦ let t = own_reads at m s.line o k in taken at m t.command o (ap (λ x. state_row x t.command) (sym b) ∙ t.state) t.order
      | inr k ↦ let t = broadcast_reads at m s.line o k in taken at m t.command o (ap (λ x. state_row x t.command) (sym b) ∙ t.state) t.order
    ]
