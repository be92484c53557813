-- The place of a dry-run output is below 2^24.
use Rattle.std.specs.Prelude.{◌^◌, ◌<◌, ℤ, pos, negsuc}
use Rattle.std.proofs.Common.{arith}
use Rattle.steps.specs.Wrap.{modulo24}
use Rattle.outputs.specs.DryRuns.{place_of_number, dry_meaning}
use Rattle.outputs.specs.declared.dry_run.DryRunOutput.{DryRunOutput}

below : (n : ℤ) → place_of_number n < 2 ^ 24
unfolding modulo24
below (pos a) = omega arith
below (negsuc a) = omega arith

pub dry_place_below : (o : DryRunOutput) → (dry_meaning o).place < 2 ^ 24
dry_place_below o = below o.number
