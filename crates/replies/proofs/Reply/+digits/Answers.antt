use Rattle.std.proofs.Common.{arith}
use Rattle.replies.proofs.Writes.{wrote_none, wrote_then, wrote_as, digits_last, digits_none}
use Rattle.replies.proofs.Reply.+digits.Goals as goal

pub returns-then-width-gt0-clause-wrote : goal.returns-then-width-gt0-clause-wrote
returns-then-width-gt0-clause-wrote t c = wrote_as (wrote_then c.digits.ensures.wrote c.put.ensures) (digits_last c.args.width c.args.n (omega arith))

pub returns-else-width-gt0-clause-wrote : goal.returns-else-width-gt0-clause-wrote
returns-else-width-gt0-clause-wrote t c = wrote_as (wrote_none _) (digits_none c.args.width c.args.n c.if-width-gt0.false)
