-- What stands behind the order of an accepted line: the command that its words say, and the rows that it has passed.
use Rattle.std.proofs.Common.{◌≡◌, true, false, Some, Ok, Err, Result, ◌⊎◌, inl, inr, refl, subst}
use Rattle.faults.specs.declared.Fault.{Fault}
use Rattle.faults.specs.Faults.{and_then}
use Rattle.faults.proofs.Results.{then_ok}
use Rattle.lines.specs.declared.line.Addressee.{Addressee}
use Rattle.lines.specs.declared.line.Addressee.TheVariants as to
use Rattle.lines.specs.Lines.{Kept, addressee_in}
use Rattle.store.specs.Stores.{Store}
use Rattle.orders.specs.declared.command.Command.{Command}
use Rattle.orders.specs.declared.order.Order.{Order}
use Rattle.orders.specs.declared.order.Situation.{Situation}
use Rattle.orders.specs.declared.order.Judgement.{Judgement}
use Rattle.orders.specs.declared.order.Judgement.TheVariants.{Own, Broadcast, Stranger}
use Rattle.orders.specs.Reading.{command_after}
use Rattle.orders.specs.State.{state_row}
use Rattle.orders.specs.Values.{with_value, order_of}
use Rattle.orders.specs.Judged.{by_rows, judged_to}
use Rattle.laws.specs.Called.{accepted_in}

pub record Reads (at : Situation) (s : Store) (said : Result Command Fault) (o : Order) : Type 0 where
  pub command : Command
  pub read : said ≡ Ok command
  pub state : state_row at.busy command ≡ Ok tt
  pub order : order_of at s command ≡ Ok o

module _ (at : Situation) (s : Store) where
  reads : (said : Result Command Fault) (o : Order) → and_then said (by_rows at s) ≡ Ok o → Reads at s said o
  reads said o e =
      let t = then_ok said (by_rows at s) o e in
      let u = then_ok (state_row at.busy t.0) (λ _. order_of at s t.0) o t.1.1 in
      record { command = t.0; read = t.1.0; state = u.1.0; order = u.1.1 }

  to_own : (a : Addressee) (k : Kept) (o : Order) → judged_to a at s k ≡ Own (Ok o) → Reads at s (command_after 2 false k) o
  to_own to.Own k o e = reads (command_after 2 false k) o (cc e)
  to_own to.Broadcast k o e = absurd (cc e)
  to_own to.Stranger k o e = absurd (cc e)

  to_all : (a : Addressee) (k : Kept) (o : Order) → judged_to a at s k ≡ Broadcast (Ok o) → Reads at s (command_after 0 true k) o
  to_all to.Own k o e = absurd (cc e)
  to_all to.Broadcast k o e = reads (command_after 0 true k) o (cc e)
  to_all to.Stranger k o e = absurd (cc e)

  pub own_reads : (k : Kept) (o : Order) → judged_to (addressee_in at.address k) at s k ≡ Own (Ok o) → Reads at s (command_after 2 false k) o
  own_reads k o e = to_own (addressee_in at.address k) k o e

  pub broadcast_reads : (k : Kept) (o : Order) → judged_to (addressee_in at.address k) at s k ≡ Broadcast (Ok o) → Reads at s (command_after 0 true k) o
  broadcast_reads k o e = to_all (addressee_in at.address k) k o e

-- an accepted line is an own line or a broadcast
pub accepted_of : (j : Judgement) (o : Order) → accepted_in j ≡ Some o → (j ≡ Own (Ok o)) ⊎ (j ≡ Broadcast (Ok o))
accepted_of (Own (Ok x)) o e = let k : x ≡ o = cc e in inl (subst (λ y. Own (Ok x) ≡ Own (Ok y)) k refl)
accepted_of (Own (Err f)) o e = absurd (cc e)
accepted_of (Broadcast (Ok x)) o e = let k : x ≡ o = cc e in inr (subst (λ y. Broadcast (Ok x) ≡ Broadcast (Ok y)) k refl)
accepted_of (Broadcast (Err f)) o e = absurd (cc e)
accepted_of Stranger o e = absurd (cc e)

-- what holds of the order that a value within its limits makes holds of the order that comes out
pub made : {A : Type 0} (P : Order → Type 0) (r : Result A Fault) (make : A → Order) (o : Order) → with_value r make ≡ Ok o → ((x : A) → r ≡ Ok x → P (make x)) → P o
made P r make o e h =
    let t = then_ok r (λ x. Ok (make x)) o e in
    let k : make t.0 ≡ o = cc t.1.1 in
    subst P k (h t.0 t.1.0)

pub alone : (P : Order → Type 0) (a o : Order) → ◌≡◌ {A = Result Order Fault} (Ok a) (Ok o) → P a → P o
alone P a o e h = let k : a ≡ o = cc e in subst P k h
