use Rattle.std.proofs.Common.{codes, rules}
use Rattle.replies.proofs.Writes.{wrote_then, answered_framed}
use Rattle.questions.specs.Questions.{version_text}
use Rattle.questions.proofs.version.answer_version.Goals as goal

pub returns-clause-answer : goal.returns-clause-answer
unfolding version_text
returns-clause-answer c =
    answered_framed c.args.address (codes "EV 10 ") c.begin-reply.ensures.wrote
    (wrote_then c.digits.ensures.wrote c.finish.ensures.wrote)
    c.finish.ensures.length c.in_ok-check_room.ensures.room (search rules)
