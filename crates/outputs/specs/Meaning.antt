-- The place and the power of a step output, and what a step and a switch of power do to them.
use Rattle.std.specs.Prelude.{ℕ, ◌+◌, ◌-◌, ◌%◌, ◌^◌, Bool, false, cond}
use Rattle.steps.specs.declared.direction.Direction.{Direction}
use Rattle.steps.specs.declared.direction.Direction.TheVariants.{Forward, Back}

-- The place is 0 to 16,777,215, and power is on at true.
pub record Meaning : Type 0 where
  pub place : ℕ
  pub power : Bool

-- The next place in a direction, modulo 2^24.
abbrev pub moved : Direction → ℕ → ℕ
moved Forward p = (p + 1) % 2 ^ 24
moved Back p = (p + (2 ^ 24 - 1)) % 2 ^ 24

-- A new output: place 0, power off.
abbrev pub initial : Meaning
initial = record { place = 0; power = false }

-- With power on a step goes to a neighbouring place; without, it goes nowhere. It switches nothing.
abbrev pub stepped : Direction → Meaning → Meaning
stepped s m = record m { place = cond m.power (moved s m.place) m.place }

-- Power is switched on or off; the place stays.
abbrev pub switched : Bool → Meaning → Meaning
switched on m = record m { power = on }
