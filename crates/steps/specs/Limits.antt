-- Integers within limits.
use Rattle.std.specs.Prelude.{Bool, ◌&&◌, ℤ, pos, negsuc, int_le}

-- from low to high, both included
abbrev pub between : ℤ → ℤ → ℤ → Bool
between low high z = int_le low z && int_le z high

-- a position that the counter can be set to, or that can be moved to
abbrev pub is_position : ℤ → Bool
is_position z = between (negsuc 8388605) (pos 8388606) z
