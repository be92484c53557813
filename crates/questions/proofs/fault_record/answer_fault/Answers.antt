use Rattle.std.proofs.Common.{codes, rules}
use Rattle.replies.proofs.Writes.{wrote_then, answered_framed}
use Rattle.questions.specs.Questions.{fault_text}
use Rattle.questions.proofs.fault_record.answer_fault.Goals as goal

pub returns-clause-answer : goal.returns-clause-answer
unfolding fault_text
returns-clause-answer c =
    answered_framed c.args.address (codes "EE ") c.begin-reply.ensures.wrote
    (wrote_then c.write_cause.ensures.wrote c.finish.ensures.wrote)
    c.finish.ensures.length c.in_ok-check_room.ensures.room (search rules)
