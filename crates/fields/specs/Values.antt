-- The limits of the values that the words of the store's commands give. The leftmost word past its limit is at fault.
use Rattle.std.specs.Prelude.{◌≡◌, ℕ, true, cond, ◌&&◌, ℤ, Some, None, Ok, Err, Option, Result, ◌==◌, nat_le}
use Rattle.faults.specs.declared.Fault.{Fault}
use Rattle.faults.specs.Faults.{and_then, past_limit, no_such_phase}
use Rattle.phases.specs.declared.phase.Link.{Link}
use Rattle.phases.specs.declared.phase.Link.TheVariants as link
use Rattle.phases.specs.declared.phase.Phase.{Phase}
use Rattle.phases.specs.declared.phase.Position.{Position}
use Rattle.fields.specs.declared.fields.RawPosition.{RawPosition}
use Rattle.fields.specs.declared.fields.Amount.{Amount}
use Rattle.fields.specs.declared.fields.Options.{Options}
use Rattle.fields.specs.declared.fields.Action.{Action}
use Rattle.fields.specs.declared.fields.RawPhase.{RawPhase}
use Rattle.phases.specs.Phases.{SetPointFits, NextFits}
use Rattle.store.specs.declared.directory.Block.{Block}

-- each result that a conversion of n gives is this value
abbrev pub Becomes : {N T E : Type 0} → (N → Result T E → Type 0) → N → T → Type 0
Becomes gives n value = (r : _) → gives n r → r ≡ Ok value

-- what a number from low to high stands for
unfoldable pub limited : {T : Type 0} → (ℕ → T) → ℕ → ℕ → Fault → ℕ → Result T Fault
limited value low high f n = cond (nat_le low n && nat_le n high) (Ok (value n)) (Err f)

-- a number from low to high
abbrev pub within : ℕ → ℕ → Fault → ℕ → Result ℕ Fault
within low high f n = limited (λ m. m) low high f n

-- word 2: a sequence
abbrev pub sequence_value : ℕ → Result ℕ Fault
sequence_value n = within 1 99 (past_limit 2) n

-- words 2 and 3: the sequence, and the phase or how many phases
unfoldable pub position_values : RawPosition → Result Position Fault
position_values a = and_then (sequence_value a.sequence) (λ s. and_then (within 1 50 (no_such_phase 3) a.phase) (λ p. Ok (record { sequence = s; phase = p })))

-- words 2 and 3: a sequence to create, and how many phases it reserves
abbrev pub block_values : RawPosition → Result Block Fault
block_values a = and_then (position_values a) (λ p. Ok (record { number = p.sequence; reserve = p.phase }))

-- word 2: a sequence to erase; 0 stands for all of them, and is none
abbrev pub erase_value : ℕ → Result (Option ℕ) Fault
erase_value n = cond (n == 0) (Ok None) (and_then (sequence_value n) (λ s. Ok (Some s)))

-- word 6: the set point, by nature
unfoldable pub set_point_value : Action → Result ℤ Fault
set_point_value m = cond (SetPointFits m.nature m.set_point) (Ok m.set_point) (Err (past_limit 6))

unfoldable pub link_value : Option (Link Amount) → Result (Option (Link ℕ)) Fault
link_value None = Ok None
link_value (Some (link.Sequence a)) = and_then (within 1 99 (past_limit a.at) a.value) (λ n. Ok (Some (link.Sequence n)))
link_value (Some (link.SubSequence a)) = and_then (within 1 99 (past_limit a.at) a.value) (λ n. Ok (Some (link.SubSequence n)))

unfoldable pub next_value : Option Amount → Result (Option ℕ) Fault
next_value None = Ok None
next_value (Some a) = cond (NextFits (Some a.value)) (Ok (Some a.value)) (Err (past_limit a.at))

unfoldable pub outputs_value : Option Amount → Result (Option ℕ) Fault
outputs_value None = Ok None
outputs_value (Some a) = and_then (within 0 255 (past_limit a.at) a.value) (λ n. Ok (Some n))

unfoldable pub record_values : Action → Options → Result Phase Fault
record_values m c =
    and_then (set_point_value m) (λ z.
    and_then (link_value c.link) (λ l.
    and_then (next_value c.next) (λ f.
    and_then (outputs_value c.outputs) (λ o.
    Ok (record { written = true; direction = m.direction; nature = m.nature; set_point = z; link = l; inputs = c.inputs; next = f; outputs = o })))))

-- the position of the phase and its record
unfoldable pub sp_values : RawPhase → Result (Position × Phase) Fault
sp_values p = and_then (position_values p.at) (λ a. and_then (record_values p.action p.options) (λ r. Ok (a, r)))
