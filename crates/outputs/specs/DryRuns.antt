-- The number of a dry-run output, what a step makes of it, and the place that it gives.
use Rattle.std.specs.Prelude.{ℕ, Bool, cond, ℤ, ◌+ℤ◌, unsigned_abs}
use Rattle.steps.specs.declared.direction.Direction.{Direction}
use Rattle.steps.specs.Directions.{one_step}
use Rattle.steps.specs.Wrap.{modulo24, wrapped24}
use Rattle.outputs.specs.Meaning.{Meaning}
use Rattle.outputs.specs.declared.dry_run.DryRunOutput.{DryRunOutput}

-- The number, -8,388,608 to 8,388,607.
abbrev pub dry_number : DryRunOutput → ℤ
dry_number o = o.number

-- The next number in a direction: after 8,388,607 comes -8,388,608, and the other way round.
abbrev pub next_number : Direction → ℤ → ℤ
next_number d n = wrapped24 (n +ℤ one_step d)

-- With power on a step goes to the next number; with power off the number stays.
abbrev pub numbered : Direction → Bool → ℤ → ℤ
numbered d power n = cond power (next_number d n) n

-- The place is the number modulo 2^24.
abbrev pub place_of_number : ℤ → ℕ
place_of_number n = unsigned_abs (modulo24 n)

-- The place that the number gives, and the power.
abbrev pub dry_meaning : DryRunOutput → Meaning
dry_meaning o = record { place = place_of_number o.number; power = o.power }

-- A dry-run output has no lines that take turns: its cycle is one place.
abbrev pub dry_cycle : ℕ
dry_cycle = 1
