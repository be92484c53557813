use Rattle.std.proofs.Common.{rules}
use Rattle.lines.proofs.KeptOf.{kept_going}
use Rattle.lines.proofs.receiver.Receiver.receive.Goals as goal

pub returns-in_default-clause-list : goal.returns-in_default-clause-list
returns-in_default-clause-list c = λ cs e. search (rules, kept_going _ cs (c.args.character.byte, c.args.character.damaged) e)
