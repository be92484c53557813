use Rattle.std.proofs.Common.{rules, ap, ◌∙◌}
use Rattle.axis.specs.Axes.{offset}
use Rattle.axis.proofs.Alike.{step_alike}
use Rattle.axis.proofs.axis.Axis.step.Goals as goal

pub returns-then-made-clause-moved : goal.returns-then-made-clause-moved
returns-then-made-clause-moved g c = search rules

pub returns-then-made-clause-alike : goal.returns-then-made-clause-alike
returns-then-made-clause-alike g c = ap offset (returns-then-made-clause-moved g c) ∙ step_alike c.args.direction c.args.self.now.state
