use Rattle.std.proofs.Common.{codes, rules}
use Rattle.replies.proofs.Writes.{wrote_then, answered_framed}
use Rattle.questions.specs.Questions.{parameters_text}
use Rattle.questions.proofs.parameters.answer_parameters.Goals as goal

pub returns-clause-answer : goal.returns-clause-answer
unfolding parameters_text
returns-clause-answer c =
    answered_framed c.args.address (codes "EL ") c.begin-reply.ensures.wrote
    (wrote_then c.write_speeds.ensures.wrote
    (wrote_then c.text.ensures
    (wrote_then c.write_distance.ensures.wrote c.finish.ensures.wrote)))
    c.finish.ensures.length c.in_ok-check_room.ensures.room (search rules)
