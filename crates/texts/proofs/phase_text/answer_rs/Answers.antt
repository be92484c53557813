use Rattle.std.proofs.Common.{codes, rules}
use Rattle.replies.specs.Replies.{digits_of}
use Rattle.replies.proofs.Writes.{wrote_then, answered_framed}
use Rattle.texts.specs.Texts.{rs_text}
use Rattle.texts.proofs.phase_text.answer_rs.Goals as goal

pub returns-clause-answer : goal.returns-clause-answer
unfolding rs_text digits_of
returns-clause-answer c =
    answered_framed c.args.address (codes "ES ") c.begin-reply.ensures.wrote
    (wrote_then c.write_found.ensures.wrote c.finish.ensures.wrote)
    c.finish.ensures.length c.in_ok-check_room.ensures.room (search rules)
