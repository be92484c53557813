use Rattle.std.proofs.Common.{◌∷◌}
use Rattle.std.proofs.lemmas.List.{append_assoc}
use Rattle.replies.proofs.Writes.{wrote_then, wrote_as}
use Rattle.texts.specs.Texts.{link_tag, link_word, option_words}
use Rattle.texts.proofs.phase_text.write_options.Goals as goal

pub returns-clause-wrote : goal.returns-clause-wrote
unfolding option_words
returns-clause-wrote c =
    let l = c.args.phase.now.link in
    wrote_as
    (wrote_then c.write_link.ensures.wrote
    (wrote_then c.text.ensures
    (wrote_then c.write_marks.ensures.wrote
    (wrote_then c.text-2.ensures
    (wrote_then c.write_number.ensures.wrote
    (wrote_then c.text-3.ensures c.write_outputs.ensures.wrote))))))
    (append_assoc (link_tag l) (32 ∷ link_word l) _)
