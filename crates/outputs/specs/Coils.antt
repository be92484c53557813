-- The place and the power of the coils.
use Rattle.std.specs.Prelude.{ℕ, ◌+◌, ◌*◌}
use Rattle.outputs.specs.Meaning.{Meaning}
use Rattle.outputs.specs.declared.drive.Drive.{Ghosts}
use Rattle.outputs.specs.declared.motor_coils.MotorCoils.{MotorCoils}

module _ {D : Type 0} {drive : Ghosts D} where
  -- The places of the whole cycles, and the index into the one begun.
  abbrev pub place_of : MotorCoils D drive → ℕ
  place_of c = c.cycles * drive.CYCLE + c.index

  abbrev pub coils_meaning : MotorCoils D drive → Meaning
  coils_meaning c = record { place = place_of c; power = c.power }
