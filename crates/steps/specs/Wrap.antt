-- Integers modulo 2^24, and wrapped to 24 bits.
use Rattle.std.specs.Prelude.{ℤ, pos, ◌+ℤ◌, ◌-ℤ◌}
use Rattle.std.specs.Int.{int_rem_euclid}

-- z modulo 2^24, 0 to 16,777,215
unfoldable pub modulo24 : ℤ → ℤ
modulo24 z = int_rem_euclid z (pos 16777216)

-- z wrapped into -8,388,608 to 8,388,607
unfoldable pub wrapped24 : ℤ → ℤ
wrapped24 z = modulo24 (z +ℤ pos 8388608) -ℤ pos 8388608
