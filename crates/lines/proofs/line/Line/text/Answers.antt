use Rattle.std.proofs.Common.{◌∙◌}
use Rattle.lines.proofs.KeptOf.{part_is, kept_text}
use Rattle.lines.proofs.line.Line.text.Goals as goal

pub returns-clause-list : goal.returns-clause-list
returns-clause-list c = λ cs e. part_is c.characters-kept.result.now _ c.args.from c.min.result c.args.self.now.refused c.if-self.false c.characters-kept.ensures c.min.ensures ∙ kept_text c.args.from _ cs e
