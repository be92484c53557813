-- What a finished line comes to.
use Rattle.std.specs.Prelude.{ℕ, [], Some, Ok, Err, Option}
use Rattle.faults.specs.declared.Fault.{Fault}
use Rattle.lines.specs.Lines.{Kept}
use Rattle.texts.specs.Texts.{rs_text}
use Rattle.questions.specs.Questions.{parameters_text, position_text, version_text, acknowledged, refused as refused_text}
use Rattle.orders.specs.declared.order.Judgement.{Judgement}
use Rattle.orders.specs.declared.order.Judgement.TheVariants.{Own, Broadcast, Stranger}
use Rattle.orders.specs.Judged.{judged}
use Rattle.control.specs.declared.change.Answer.{Answer}
use Rattle.control.specs.declared.change.Answer.TheVariants.{Accepted, Phase, Parameters, Position, Version, Fault as FaultRecord}
use Rattle.control.specs.declared.change.Change.{Change}
use Rattle.control.specs.States.{situation, store_of}
use Rattle.law.specs.Machine.{Outcome, Reply}
use Rattle.law.specs.Machine.Outcome.{ignored, accepted, refused}
use Rattle.law.specs.Machine.Reply.{text, fault_record}
use Rattle.module.specs.States.{ModuleState, order_done, obeyed_state}

-- what an own line is answered that is accepted, by the state after it
abbrev pub reply_of : ℕ → ModuleState → Answer → Reply
reply_of cycle r Accepted = text acknowledged
reply_of cycle r (Phase at p) = text (rs_text r.control.address at.sequence at.phase p)
reply_of cycle r Parameters = text (parameters_text r.control.address r.control.settings)
reply_of cycle r Position = text (position_text r.control.address r.axis.counter r.control.levels r.control.outputs)
reply_of cycle r Version = text (version_text r.control.address cycle)
reply_of cycle r FaultRecord = fault_record

-- an accepted order: what it leaves, whether it clears the fault record, and the reply, to an own line alone
abbrev pub own_done : ℕ → ModuleState → Change → Outcome ModuleState (Option Fault)
own_done cycle r c = accepted r c.clears_fault (reply_of cycle r c.answer)

abbrev pub broadcast_done : ModuleState → Change → Outcome ModuleState (Option Fault)
broadcast_done r c = accepted r c.clears_fault (text [])

-- a stranger's line is ignored; a refused own line is answered 15h 11h
abbrev pub outcome_of : ℕ → ModuleState → Judgement → Outcome ModuleState (Option Fault)
outcome_of cycle r (Own (Ok o)) = own_done cycle (obeyed_state r o) (order_done r o).change
outcome_of cycle r (Own (Err f)) = refused (Some f) refused_text
outcome_of cycle r (Broadcast (Ok o)) = broadcast_done (obeyed_state r o) (order_done r o).change
outcome_of cycle r (Broadcast (Err f)) = refused (Some f) []
outcome_of cycle r Stranger = ignored

abbrev pub judged_line : ModuleState → Kept → Judgement
judged_line r k = judged (situation r.control) (store_of r.control r.records) k

unfoldable pub line_outcome : ℕ → ModuleState → Kept → Outcome ModuleState (Option Fault)
line_outcome cycle r k = outcome_of cycle r (judged_line r k)
