-- What became of a line.
use Rattle.std.specs.Prelude.{Bool, true, false, Ok, Err}
use Rattle.orders.specs.declared.order.Judgement.{Judgement}
use Rattle.orders.specs.declared.order.Judgement.TheVariants.{Own, Broadcast, Stranger}
use Rattle.sheet.specs.declared.entry.LineOutcome.{LineOutcome}
use Rattle.sheet.specs.declared.entry.LineOutcome.TheVariants as outcome

-- what the judgement of the line says
abbrev pub outcome_of : Judgement → LineOutcome
outcome_of (Own (Ok o)) = outcome.Accepted
outcome_of (Own (Err f)) = outcome.Refused f
outcome_of (Broadcast (Ok o)) = outcome.Accepted
outcome_of (Broadcast (Err f)) = outcome.Refused f
outcome_of Stranger = outcome.Stranger

abbrev pub is_refused : LineOutcome → Bool
is_refused (outcome.Refused f) = true
is_refused _ = false
