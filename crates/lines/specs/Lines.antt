-- What is kept of a line's characters, and what it says of the line.
use Rattle.std.specs.Prelude.{ℕ, zero, suc, ◌+◌, ◌/◌, ◌%◌, Bool, false, cond, not, ◌&&◌, ◌||◌, List, [], ◌∷◌, ◌++◌, length, take, drop, Some, None, Ok, Err, Option, Result, ◌==◌, nat_le, nat_lt, slice_index}
use Rattle.faults.specs.declared.Fault.{Fault}
use Rattle.faults.specs.Faults.{bad_line}
use Rattle.lines.specs.declared.line.TheConstants.{CAPACITY}
use Rattle.lines.specs.declared.line.Line.{Line}
use Rattle.lines.specs.declared.line.Addressee.{Addressee}
use Rattle.lines.specs.declared.line.Addressee.TheVariants.{Own, Broadcast, Stranger}
use Rattle.lines.specs.Characters.{Character, ends, skipped, any_damaged, bytes_of}

pub record Kept : Type 0 where
  pub characters : List ℕ
  pub first : Bool
  pub second : Bool
  pub refused : Bool

abbrev pub kept : Line → Kept
kept l = record { characters = take l.len l.bytes; first = l.first_damaged; second = l.second_damaged; refused = l.refused }

-- whether character i of the list is damaged
abbrev pub damaged_at : ℕ → List Character → Bool
damaged_at i [] = false
damaged_at zero (c ∷ cs) = c.1
damaged_at (suc i) (c ∷ cs) = damaged_at i cs

-- what is kept of a list of characters: the first CAPACITY bytes, whether the first two are damaged, and whether the line is refused
abbrev pub kept_of : List Character → Kept
kept_of cs = record { characters = take CAPACITY (bytes_of cs); first = damaged_at 0 cs; second = damaged_at 1 cs; refused = any_damaged cs || nat_lt CAPACITY (length cs) }

-- one character more
abbrev pub taken : Kept → Character → Kept
taken h c =
    record {
      characters = cond (nat_lt (length h.characters) CAPACITY) (h.characters ++ c.0 ∷ []) h.characters;
      first = h.first || (c.1 && length h.characters == 0);
      second = h.second || (c.1 && length h.characters == 1);
      refused = h.refused || (c.1 || nat_le CAPACITY (length h.characters));
    }

-- the line that a character ends, and what is kept after the character
abbrev pub ended : Kept → Character → Option Kept
ended h c = cond (ends c) (Some h) None

abbrev pub going : Kept → Character → Kept
going h c = cond (ends c) (kept_of []) (cond (skipped c) h (taken h c))

abbrev pub is_own_in : ℕ → Kept → Bool
is_own_in a h = nat_le 2 (length h.characters) && (not h.first && (not h.second && (slice_index h.characters 0 == 48 + a / 10 && slice_index h.characters 1 == 48 + a % 10)))

abbrev pub is_broadcast_in : Kept → Bool
is_broadcast_in h = nat_le 1 (length h.characters) && (not h.first && (nat_le 65 (slice_index h.characters 0) && nat_le (slice_index h.characters 0) 90))

abbrev pub addressee_in : ℕ → Kept → Addressee
addressee_in a h = cond (is_own_in a h) Own (cond (is_broadcast_in h) Broadcast Stranger)

-- what stands after the first `from` characters
abbrev pub text_in : ℕ → Kept → Result (List ℕ) Fault
text_in from h = cond h.refused (Err bad_line) (Ok (drop from h.characters))
