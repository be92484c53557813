use Rattle.std.proofs.Common.{◌∷◌, ◌++◌, ap}
use Rattle.replies.specs.Replies.{digits_of}
use Rattle.replies.proofs.Writes.{wrote_then, wrote_as, wrote_digits}
use Rattle.texts.specs.Texts.{action_words}
use Rattle.texts.proofs.Joined.{parts_joined}
use Rattle.texts.proofs.phase_text.write_phase.Goals as goal

pub returns-clause-wrote : goal.returns-clause-wrote
unfolding action_words
returns-clause-wrote c =
    wrote_as
    (wrote_then (wrote_digits 2 c.digits.ensures.wrote c.from.ensures)
    (wrote_then c.text.ensures
    (wrote_then (wrote_digits 2 c.digits-2.ensures.wrote c.from-2.ensures)
    (wrote_then c.text-2.ensures
    (wrote_then c.write_action.ensures.wrote
    (wrote_then c.text-3.ensures c.write_options.ensures.wrote))))))
    (ap (λ t. digits_of 2 c.args.at.sequence ++ 32 ∷ (digits_of 2 c.args.at.phase ++ 32 ∷ t)) (parts_joined c.args.phase.now))
