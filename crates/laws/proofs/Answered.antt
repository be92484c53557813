-- Who is answered what, and what the fault record holds then.
use Rattle.std.proofs.Common.{◌≡◌, ℕ, Some, None, Ok, Err, Option, refl, rules}
use Rattle.faults.specs.declared.Fault.{Fault}
use Rattle.questions.specs.Questions.{acknowledged, refused}
use Rattle.orders.specs.declared.order.Order.{Order}
use Rattle.orders.specs.declared.order.Judgement.{Judgement}
use Rattle.orders.specs.declared.order.Judgement.TheVariants.{Own, Broadcast, Stranger}
use Rattle.law.specs.Events.Event.{stopped, skipped, letter, ending, tick, levels, power_up}
use Rattle.law.specs.Events.Answer.{reply}
use Rattle.law.specs.Machine.{WithFault, latest as last, done_by}
use Rattle.module.specs.States.{effects_of}
use Rattle.module.specs.Lines.{outcome_of, judged_line, line_outcome}
use Rattle.module.specs.Machine.{machine, fault_kept}
use Rattle.laws.specs.Answered.{AnsweredAs, AnswersByAddress, fault_after_line, latest, KeepsFaults}

module _ (cycle : ℕ) (c : WithFault (machine cycle)) where
  order_answered : (o : Order) → AnsweredAs (Own (Ok o)) (reply (done_by (machine cycle) c (outcome_of cycle c.rest (Own (Ok o)))).1)
  unfolding acknowledged
  order_answered o e = search rules

  judged_answered : (j : Judgement) → AnsweredAs j (reply (done_by (machine cycle) c (outcome_of cycle c.rest j)).1)
  unfolding refused
  judged_answered (Own (Ok o)) = order_answered o
  judged_answered (Own (Err f)) = refl
  judged_answered (Broadcast (Ok o)) = refl
  judged_answered (Broadcast (Err f)) = refl
  judged_answered Stranger = refl

  order_kept : (o : Order) → (done_by (machine cycle) c (outcome_of cycle c.rest (Own (Ok o)))).0.fault ≡ fault_after_line c.fault (Own (Ok o))
  order_kept o = search rules

  judged_kept : (j : Judgement) → (done_by (machine cycle) c (outcome_of cycle c.rest j)).0.fault ≡ fault_after_line c.fault j
  judged_kept (Own (Ok o)) = order_kept o
  judged_kept (Own (Err f)) = refl
  judged_kept (Broadcast (Ok o)) = order_kept o
  judged_kept (Broadcast (Err f)) = refl
  judged_kept Stranger = refl

pub answers_by_address : AnswersByAddress
unfolding line_outcome
answers_by_address cycle s = judged_answered cycle s.core (judged_line s.core.rest s.line)

tick_kept : (old : Option Fault) (f : Option Fault) → last old (fault_kept f) ≡ latest old f
tick_kept old None = refl
tick_kept old (Some f) = refl

pub keeps_faults : KeepsFaults
unfolding line_outcome
keeps_faults cycle s (stopped fault) = refl
keeps_faults cycle s skipped = refl
keeps_faults cycle s (letter x) = refl
keeps_faults cycle s ending = judged_kept cycle s.core (judged_line s.core.rest s.line)
keeps_faults cycle s tick = tick_kept s.core.fault (effects_of s.core.rest).fault
keeps_faults cycle s (levels v) = refl
keeps_faults cycle s power_up = refl
