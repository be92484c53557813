use Rattle.std.proofs.Common.{◌≡◌, pos, arith}
use borrow.Author.Differences.{ints}
use Rattle.steps.specs.Wrap.{wrapped24}
use Rattle.outputs.specs.DryRuns.{place_of_number}
use Rattle.outputs.proofs.Numbers.{number_of_place}
use Rattle.outputs.proofs.dry_run.DryRunOutput.number.Goals as goal

pub returns-clause-place : goal.returns-clause-place
returns-clause-place c =
    let o = c.args.self.now in
    let e : o.number ≡ wrapped24 (pos (place_of_number o.number)) = number_of_place o.number o.at_least o.at_most in
    omega (arith, ints)
