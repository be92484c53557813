-- The address of a module in two digits.
use Rattle.std.specs.Prelude.{ℕ, cond, List, length, Some, None, Option, ◌==◌, nat_le}
use Rattle.std.specs.Option.{option_and_then}
use Rattle.words.specs.Numbers.{value_of}

-- an address that a module may have
abbrev pub in_limits : ℕ → Option ℕ
in_limits n = cond (nat_le n 63) (Some n) None

abbrev pub module_address : List ℕ → Option ℕ
module_address t = cond (length t == 2) (option_and_then in_limits (value_of 10 10 t)) None
