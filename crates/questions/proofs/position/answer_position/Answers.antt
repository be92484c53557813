use Rattle.std.proofs.Common.{codes, rules}
use Rattle.replies.proofs.Writes.{wrote_then, wrote_signed, answered_framed}
use Rattle.questions.specs.Questions.{counter_word, position_text}
use Rattle.questions.proofs.position.answer_position.Goals as goal

pub returns-clause-answer : goal.returns-clause-answer
unfolding position_text counter_word
returns-clause-answer c =
    answered_framed c.args.address (codes "EP ") c.begin-reply.ensures.wrote
    (wrote_then (wrote_signed 7 c.args.counter (search rules) c.signed.ensures.wrote)
    (wrote_then c.text.ensures
    (wrote_then c.hexadecimal2.ensures
    (wrote_then c.text-2.ensures
    (wrote_then c.hexadecimal2-2.ensures c.finish.ensures.wrote)))))
    c.finish.ensures.length c.in_ok-check_room.ensures.room (search rules)
