use Rattle.std.proofs.Common.{refl}
use Rattle.steps.specs.Wrap.{modulo24}
use Rattle.outputs.proofs.dry_run.DryRunOutput.new.Goals as goal

pub returns-clause-meaning : goal.returns-clause-meaning
unfolding modulo24
returns-clause-meaning c = refl
