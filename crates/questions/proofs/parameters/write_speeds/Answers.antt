use Rattle.std.proofs.Common.{◌∙◌}
use Rattle.replies.proofs.Writes.{wrote_then, wrote_digits}
use Rattle.questions.specs.Questions.{speeds_words}
use Rattle.questions.proofs.parameters.write_speeds.Goals as goal

pub returns-clause-wrote : goal.returns-clause-wrote
unfolding speeds_words
returns-clause-wrote c =
    wrote_then (wrote_digits 5 c.digits.ensures.wrote (c.from.ensures ∙ c.start_speed.ensures.value))
    (wrote_then c.text.ensures
    (wrote_then (wrote_digits 5 c.digits-2.ensures.wrote (c.from-2.ensures ∙ c.plateau_speed.ensures.value))
    (wrote_then c.text-2.ensures (wrote_digits 5 c.digits-3.ensures.wrote (c.from-3.ensures ∙ c.slope.ensures.value)))))
