-- A line is the list of the characters that came before its 0Dh.
use Rattle.std.specs.Prelude.{ℕ, ◌+◌, ◌/◌, ◌%◌, Bool, false, cond, not, ◌&&◌, ◌||◌, List, [], ◌∷◌, ◌++◌, map, length, drop, Ok, Err, Result, ◌==◌, nat_le, nat_lt}
use Rattle.faults.specs.declared.Fault.{Fault}
use Rattle.faults.specs.Faults.{bad_line}
use Rattle.lines.specs.declared.line.TheConstants.{CAPACITY}
use Rattle.lines.specs.declared.line.Addressee.{Addressee}
use Rattle.lines.specs.declared.line.Addressee.TheVariants.{Own, Broadcast, Stranger}

-- a character, and whether it is damaged
abbrev pub Character : Type 0
Character = ℕ × Bool

-- an undamaged 0Dh ends a line
abbrev pub ends : Character → Bool
ends c = not c.1 && c.0 == 13

-- a line feed that is undamaged belongs to no line
abbrev pub skipped : Character → Bool
skipped c = not c.1 && c.0 == 10

-- the unfinished line after a character more
abbrev pub unfinished : List Character → Character → List Character
unfinished cs c = cond (ends c) [] (cond (skipped c) cs (cs ++ c ∷ []))

-- an own line begins with the two digits of the address, both undamaged
abbrev pub is_own : ℕ → List Character → Bool
is_own a [] = false
is_own a (c ∷ []) = false
is_own a (c ∷ d ∷ cs) = not c.1 && (not d.1 && (c.0 == 48 + a / 10 && d.0 == 48 + a % 10))

-- a broadcast begins with a capital letter that is undamaged
abbrev pub is_broadcast : List Character → Bool
is_broadcast [] = false
is_broadcast (c ∷ cs) = not c.1 && (nat_le 65 c.0 && nat_le c.0 90)

-- every other line is a stranger's, the empty one too
abbrev pub addressee_of : ℕ → List Character → Addressee
addressee_of a cs = cond (is_own a cs) Own (cond (is_broadcast cs) Broadcast Stranger)

abbrev pub any_damaged : List Character → Bool
any_damaged [] = false
any_damaged (c ∷ cs) = c.1 || any_damaged cs

abbrev pub bytes_of : List Character → List ℕ
bytes_of cs = map (λ c. c.0) cs

-- over CAPACITY characters or a damaged one: refused; else the bytes after the first `from`
abbrev pub received : ℕ → List Character → Result (List ℕ) Fault
received from cs = cond (any_damaged cs || nat_lt CAPACITY (length cs)) (Err bad_line) (Ok (drop from (bytes_of cs)))
