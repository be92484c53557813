-- What the rows have shown of an accepted order.
use Rattle.std.proofs.Common.{◌≡◌, ℕ, ◌≤◌, Bool, true, List, ℤ, Ok, Err, Result, refl, subst, arith}
use Rattle.faults.specs.declared.Fault.{Fault}
use Rattle.faults.specs.Faults.{and_then, past_limit}
use Rattle.faults.proofs.Results.{then_ok, tested}
use Rattle.lines.specs.declared.line.Addressee.{Addressee}
use Rattle.lines.specs.declared.line.Addressee.TheVariants.{Own, Broadcast, Stranger}
use Rattle.lines.specs.Lines.{Kept, addressee_in}
use Rattle.steps.specs.Limits.{is_position}
use Rattle.store.specs.declared.directory.Block.{Block}
use Rattle.store.specs.Records.{located, create_answer}
use Rattle.store.specs.Stores.{Store}
use Rattle.fields.specs.declared.fields.RawPosition.{RawPosition}
use Rattle.fields.specs.Values.{erase_value, block_values, position_values, sp_values}
use Rattle.orders.specs.declared.command.Command.{Command}
use Rattle.orders.specs.declared.command.Command.TheVariants.{StartSpeed, PlateauSpeed, Slope, Distance, Forward, Back, ZeroCounter, SetCounter, Move, MoveToOrigin, MoveTo, SlowStop, PowerOn, PowerOff, SetOutputs, Create, Erase, Choose, Start, Write, ReadPhase, Restart, ReadParameters, ReadPosition, ReadVersion, ReadFault}
use Rattle.orders.specs.declared.order.Situation.{Situation}
use Rattle.orders.specs.declared.order.Order.{Order}
use Rattle.orders.specs.Reading.{command_after}
use Rattle.orders.specs.State.{state_row}
use Rattle.orders.specs.Values.{speed, in_order, start_speed, plateau_speed, slope, distance, position, outputs, existing, creatable, order_of}
use Rattle.orders.specs.Judged.{judged_from, judged_to, judged, ShownOf, Admitted}

in_order_of : (start plateau : ℕ) → in_order start plateau ≡ Ok tt → start ≤ plateau
in_order_of start plateau e = grind arith

start_most : (plateau n v : ℕ) → start_speed plateau n ≡ Ok v → v ≤ plateau
start_most plateau n v e =
    let t = then_ok (speed n) _ v e in
    let u = then_ok (in_order t.0 plateau) _ v t.1.1 in
    let k : t.0 ≡ v = cc u.1.1 in
    subst (λ x. x ≤ plateau) k (in_order_of t.0 plateau u.1.0)

plateau_least : (start n v : ℕ) → plateau_speed start n ≡ Ok v → start ≤ v
plateau_least start n v e =
    let t = then_ok (speed n) _ v e in
    let u = then_ok (in_order start t.0) _ v t.1.1 in
    let k : t.0 ≡ v = cc u.1.1 in
    subst (λ x. start ≤ x) k (in_order_of start t.0 u.1.0)

created_answer : (bs : List Block) (a : RawPosition) (b : Block) → creatable bs a ≡ Ok b → create_answer bs b.number b.reserve ≡ Ok tt
created_answer bs a b e =
    let t = then_ok (block_values a) _ b e in
    let u = then_ok (create_answer bs t.0.number t.0.reserve) _ b t.1.1 in
    let k : t.0 ≡ b = cc u.1.1 in
    subst (λ (x : Block). create_answer bs x.number x.reserve ≡ Ok tt) k u.1.0

position_within : (z x : ℤ) → position z ≡ Ok x → is_position x ≡ true
position_within z x e =
    let t = tested (is_position z) z x (past_limit 2) e in
    subst (λ y. is_position y ≡ true) t.1 t.0

module _ (at : Situation) (s : Store) where
  -- of a reading that leads to an order, what is shown of the order
  after_value : {A : Type 0} (r : Result A Fault) (f : A → Result Order Fault) → ((x : A) → r ≡ Ok x → ShownOf at s (f x)) → ShownOf at s (and_then r f)
  after_value (Ok x) f h = h x refl
  after_value (Err e) f h = tt

  order_shown : (c : Command) → ShownOf at s (order_of at s c)
  order_shown (StartSpeed n) = after_value (start_speed at.plateau_speed n) _ (start_most at.plateau_speed n)
  order_shown (PlateauSpeed n) = after_value (plateau_speed at.start_speed n) _ (plateau_least at.start_speed n)
  order_shown (Slope n) = after_value (slope n) _ (λ x e. tt)
  order_shown (Distance n) = after_value (distance n) _ (λ x e. tt)
  order_shown (SetCounter z) = after_value (position z) _ (position_within z)
  order_shown (MoveTo z) = after_value (position z) _ (λ x e. tt)
  order_shown (SetOutputs n) = after_value (outputs n) _ (λ x e. tt)
  order_shown (Create a) = after_value (creatable s.blocks a) _ (created_answer s.blocks a)
  order_shown (Erase n) = after_value (erase_value n) _ (λ x e. tt)
  order_shown (Choose n) = after_value (existing s.blocks n) _ (λ x e. tt)
  order_shown (Start n) = after_value (existing s.blocks n) _ (λ x e. tt)
  order_shown (Write p) = after_value (sp_values p) _ (λ a e. after_value (located s.blocks a.0.sequence a.0.phase) _ (λ i f. (a.0, f)))
  order_shown (ReadPhase a) = after_value (position_values a) _ (λ p e. after_value (located s.blocks p.sequence p.phase) _ (λ i f. tt))
  order_shown Forward = tt
  order_shown Back = tt
  order_shown ZeroCounter = tt
  order_shown Move = tt
  order_shown MoveToOrigin = tt
  order_shown SlowStop = tt
  order_shown PowerOn = tt
  order_shown PowerOff = tt
  order_shown Restart = tt
  order_shown ReadParameters = tt
  order_shown ReadPosition = tt
  order_shown ReadVersion = tt
  order_shown ReadFault = tt

  -- of a line, read from a character on
  pub judged_shown : (from : ℕ) (broadcast : Bool) (k : Kept) → ShownOf at s (judged_from from broadcast at s k)
  judged_shown from broadcast k = after_value (command_after from broadcast k) _ (λ c e. after_value (state_row at.busy c) _ (λ u f. order_shown c))

  to_shown : (to : Addressee) (k : Kept) → Admitted at s (judged_to to at s k)
  to_shown Own k = judged_shown 2 _ k
  to_shown Broadcast k = judged_shown 0 _ k
  to_shown Stranger k = tt

  pub admitted : (k : Kept) → Admitted at s (judged at s k)
  admitted k = to_shown (addressee_in at.address k) k
