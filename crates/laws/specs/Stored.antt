-- What SP stored is what RS tells.
use Rattle.std.specs.Prelude.{◌≡◌, ℕ, true, Ok}
use Rattle.phases.specs.declared.phase.Phase.{Phase}
use Rattle.phases.specs.declared.phase.Position.{Position}
use Rattle.phases.specs.Phases.{Written}
use Rattle.store.specs.Keeps.{Fit}
use Rattle.store.specs.Records.{located}
use Rattle.texts.specs.Texts.{rs_text}
use Rattle.orders.specs.declared.order.Order.TheVariants.{Write, ReadPhase}
use Rattle.orders.specs.Values.{read_phase}
use Rattle.control.specs.States.{store_of}
use Rattle.law.specs.Machine.{Reply}
use Rattle.law.specs.Machine.Reply.{text}
use Rattle.module.specs.States.{ModuleState, order_done, obeyed_state}
use Rattle.module.specs.Lines.{reply_of}

-- the reply to an own RS line for this record
abbrev pub read_reply : (cycle : ℕ) → ModuleState → Position → Phase → Reply
read_reply cycle r at p = reply_of cycle (obeyed_state r (ReadPhase at p)) (order_done r (ReadPhase at p)).change.answer

-- once SP has stored a phase, RS finds this very phase and answers with its text
abbrev pub TellsWhatWasStored : Type 0
TellsWhatWasStored =
    (cycle : ℕ) (r : ModuleState) (at : Position) (p : Phase) (index : ℕ) → Fit (store_of r.control r.records) → Written p ≡ true →
    located r.control.blocks at.sequence at.phase ≡ Ok index →
    let t = obeyed_state r (Write index p) in
    (read_phase (store_of t.control t.records) at ≡ Ok (ReadPhase at p))
    × (read_reply cycle t at p ≡ text (rs_text r.control.address at.sequence at.phase p))
