-- Numbers as a script writes them.
use Rattle.std.specs.Prelude.{ℕ, ◌+◌, ◌-◌, ◌*◌, ◌^◌, min, cond, List, [], ◌∷◌, length, map, Some, None, Option, ◌==◌}
use Rattle.std.specs.Char.{to_ascii_uppercase}
use Rattle.words.specs.Numbers.{is_digit, digit_value, value_of}

-- a number with one digit more, or the greatest of 64 bits
abbrev pub grown : ℕ → ℕ → ℕ
grown n d = min (min (n * 10) (2 ^ 64 - 1) + d) (2 ^ 64 - 1)

-- what digits make of a number that stands before them
abbrev pub decimal_from : ℕ → List ℕ → Option ℕ
decimal_from n [] = Some n
decimal_from n (c ∷ cs) = cond (is_digit 10 c) (decimal_from (grown n (digit_value c)) cs) None

abbrev pub decimal_of : List ℕ → Option ℕ
decimal_of t = cond (length t == 0) None (decimal_from 0 t)

-- two digits, read as capitals
abbrev pub hexadecimal_of : List ℕ → Option ℕ
hexadecimal_of t = cond (length t == 2) (value_of 16 8 (map to_ascii_uppercase t)) None
