-- The pulse counts of a pulse output, what a step adds to them, and the place that they give.
use Rattle.std.specs.Prelude.{ℕ, ◌+◌, ◌-◌, ◌%◌, ◌^◌, Bool, cond}
use Rattle.steps.specs.declared.direction.Direction.{Direction}
use Rattle.steps.specs.declared.direction.Direction.TheVariants.{Forward, Back}
use Rattle.outputs.specs.Meaning.{Meaning}
use Rattle.outputs.specs.declared.pulse.PulseOutput.{PulseOutput}

-- The pulses sent in each direction, modulo 2^32.
pub record Pulses : Type 0 where
  pub forward : ℕ
  pub back : ℕ

abbrev pub no_pulses : Pulses
no_pulses = record { forward = 0; back = 0 }

abbrev pub pulses : PulseOutput → Pulses
pulses o = record { forward = o.forward; back = o.back }

-- One more pulse with power on, and the same count with power off.
abbrev pub one_more : Bool → ℕ → ℕ
one_more power count = cond power ((count + 1) % 2 ^ 32) count

-- A step adds one pulse to the count of its direction, and leaves the other.
abbrev pub counted : Direction → Bool → Pulses → Pulses
counted Forward power p = record p { forward = one_more power p.forward }
counted Back power p = record p { back = one_more power p.back }

-- The place is the pulses forward less the pulses back, modulo 2^24.
abbrev pub pulse_meaning : PulseOutput → Meaning
pulse_meaning o = record { place = (o.forward + (2 ^ 24 - o.back % 2 ^ 24)) % 2 ^ 24; power = o.power }

-- A pulse output has no lines that take turns: its cycle is one place.
abbrev pub pulse_cycle : ℕ
pulse_cycle = 1
