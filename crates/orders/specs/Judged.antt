-- All rows in their order, and whom a line is for.
use Rattle.std.specs.Prelude.{◌≡◌, ℕ, ◌≤◌, Bool, true, false, Ok, Err, Result}
use Rattle.faults.specs.declared.Fault.{Fault}
use Rattle.faults.specs.Faults.{and_then}
use Rattle.lines.specs.declared.line.Addressee.{Addressee}
use Rattle.lines.specs.declared.line.Addressee.TheVariants as to
use Rattle.lines.specs.Lines.{Kept, addressee_in}
use Rattle.phases.specs.declared.phase.Position.{Position}
use Rattle.store.specs.Records.{create_answer, located}
use Rattle.store.specs.Stores.{Store}
use Rattle.steps.specs.Limits.{is_position}
use Rattle.orders.specs.declared.command.Command.{Command}
use Rattle.orders.specs.declared.order.Situation.{Situation}
use Rattle.orders.specs.declared.order.Order.{Order}
use Rattle.orders.specs.declared.order.Order.TheVariants.{StartSpeed, PlateauSpeed, SetCounter, Create, Write}
use Rattle.orders.specs.declared.order.Judgement.{Judgement}
use Rattle.orders.specs.declared.order.Judgement.TheVariants.{Own, Broadcast, Stranger}
use Rattle.orders.specs.Reading.{command_after}
use Rattle.orders.specs.State.{state_row}
use Rattle.orders.specs.Values.{order_of}

-- state, then values and store
abbrev pub by_rows : Situation → Store → Command → Result Order Fault
by_rows at s c = and_then (state_row at.busy c) (λ _. order_of at s c)

-- receiver, reader, state, values, store; the first row that refuses decides
abbrev pub judged_from : ℕ → Bool → Situation → Store → Kept → Result Order Fault
judged_from from broadcast at s k = and_then (command_after from broadcast k) (by_rows at s)

-- an own line is read after its address, a broadcast from its first character, a stranger's line not at all
abbrev pub judged_to : Addressee → Situation → Store → Kept → Judgement
judged_to to.Own at s k = Own (judged_from 2 false at s k)
judged_to to.Broadcast at s k = Broadcast (judged_from 0 true at s k)
judged_to to.Stranger at s k = Stranger

abbrev pub judged : Situation → Store → Kept → Judgement
judged at s k = judged_to (addressee_in at.address k) at s k

-- what the rows have shown of an order that they accept
abbrev pub Shown : Situation → Store → Order → Type 0
Shown at s (StartSpeed v) = v ≤ at.plateau_speed
Shown at s (PlateauSpeed v) = at.start_speed ≤ v
Shown at s (SetCounter z) = is_position z ≡ true
Shown at s (Create b) = create_answer s.blocks b.number b.reserve ≡ Ok tt
Shown at s (Write index p) = (q : Position) × (located s.blocks q.sequence q.phase ≡ Ok index)
Shown at s _ = Unit {0}

abbrev pub ShownOf : Situation → Store → Result Order Fault → Type 0
ShownOf at s (Ok o) = Shown at s o
ShownOf at s (Err f) = Unit {0}

abbrev pub Admitted : Situation → Store → Judgement → Type 0
Admitted at s (Own r) = ShownOf at s r
Admitted at s (Broadcast r) = ShownOf at s r
Admitted at s Stranger = Unit {0}
