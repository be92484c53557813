-- What lies within limits is small.
use Rattle.std.proofs.Common.{◌≡◌, ℕ, ◌≤◌, true, ℤ, pos, negsuc, nat_abs, arith, w32, SFits}
use Rattle.std.proofs.lemmas.Bool.Decides.{nat_tests}
use Rattle.phases.specs.declared.phase.Nature.{Nature}
use Rattle.phases.specs.declared.phase.Nature.TheVariants.{Absolute}
use Rattle.steps.specs.Limits.{between}
use Rattle.phases.specs.Phases.{SetPointFits}

above : (l h : ℕ) (z : ℤ) → h ≤ 8388606 → between (pos l) (pos h) z ≡ true → nat_abs z ≤ 8388606
above l h (pos n) k e = grind (arith, nat_tests)
above l h (negsuc n) k e = let z : ◌≡◌ {A = ℕ} 0 1 = cc in absurd (omega arith)

around : (z : ℤ) → between (negsuc 8388605) (pos 8388606) z ≡ true → nat_abs z ≤ 8388606
around (pos n) e = grind (arith, nat_tests)
around (negsuc n) e = grind (arith, nat_tests)

-- seven digits hold a set point
pub set_point_small : (k : Nature) (z : ℤ) → SetPointFits k z ≡ true → nat_abs z ≤ 8388606
set_point_small Absolute z e = around z e
set_point_small _ z e = above _ _ z (omega arith) e

small_fits : (z : ℤ) → nat_abs z ≤ 8388606 → SFits w32 z
small_fits (pos n) h = record { sfits = omega arith }
small_fits (negsuc n) h = record { sfits = omega arith }

pub set_point_fits32 : (k : Nature) (z : ℤ) → SetPointFits k z ≡ true → SFits w32 z
set_point_fits32 k z e = small_fits z (set_point_small k z e)
