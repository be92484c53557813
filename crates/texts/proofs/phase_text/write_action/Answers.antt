use Rattle.std.proofs.Common.{[], ◌∷◌, ap, rules}
use Rattle.replies.proofs.Writes.{wrote_then, wrote_as, wrote_signed}
use Rattle.texts.specs.Texts.{action_words}
use Rattle.texts.proofs.phase_text.write_action.Goals as goal

pub returns-clause-wrote : goal.returns-clause-wrote
unfolding action_words
returns-clause-wrote c =
    wrote_then (wrote_as c.text.ensures (ap (λ b. 83 ∷ b ∷ []) c.sign.ensures))
    (wrote_then c.text-2.ensures
    (wrote_then (wrote_as c.text-3.ensures c.letters.ensures)
    (wrote_then c.text-4.ensures (wrote_signed 7 c.args.phase.now.set_point (search rules) c.signed.ensures.wrote))))
