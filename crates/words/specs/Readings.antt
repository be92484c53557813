-- What the words of a line say. A word is `None` where it is missing.
use Rattle.std.specs.Prelude.{◌≡◌, ℕ, List, ℤ, Some, None, Ok, Err, Option, Result, cond}
use Rattle.std.specs.Borrow.{Bor}
use Rattle.std.specs.Option.{ok_or}
use Rattle.faults.specs.declared.Fault.{Fault}
use Rattle.words.specs.declared.word.Placed.{Placed}
use Rattle.words.specs.declared.word.Word.{Word}
use Rattle.faults.specs.Faults.{and_then, wrong_form}
use Rattle.words.specs.Words.{Ahead, upcoming, past}
use Rattle.words.specs.Numbers.{value_of, signed_of}
use Rattle.words.specs.Tags.{is_tag}

-- the next word with its number, made a word of one sort
abbrev pub TakenAs : (Bor (List ℕ) → Word → Type 0) → Ahead → Option Placed → Type 0
TakenAs sort s None = upcoming s ≡ None
TakenAs sort s (Some p) = (t : Bor (List ℕ)) × (upcoming s ≡ Some t.now) × sort t p.word × (p.at ≡ s.1)

-- a reading of a word of one sort, which has the number i, follows a rule of its characters
abbrev pub Follows : {A : Type 0} → (Bor (List ℕ) → Word → Type 0) → (Placed → Option A → Type 0) → ℕ → (List ℕ → Option A) → Type 0
Follows sort reading i rule = (t : Bor (List ℕ)) (p : Placed) (o : _) → sort t p.word → p.at ≡ i → reading p o → o ≡ rule t.now

-- word i by a rule, at fault where it is missing or the rule refuses it
abbrev pub by : {A : Type 0} → (List ℕ → Option A) → Option (List ℕ) → ℕ → Result A Fault
by rule None i = Err (wrong_form i)
by rule (Some w) i = ok_or (rule w) (wrong_form i)

-- the word after a field's tag by a rule, or `absent` where the tag does not stand there
abbrev pub field_by : {A : Type 0} → List ℕ → (List ℕ → Option A) → A → Ahead → Result A Fault
field_by tag rule absent s = cond (is_tag tag (upcoming s)) (by rule (upcoming (past s)) (past s).1) (Ok absent)

-- no word follows
abbrev pub end_at : Option (List ℕ) → ℕ → Result (Unit {0}) Fault
end_at None i = Ok tt
end_at (Some w) i = Err (wrong_form i)

abbrev pub end : Ahead → Result (Unit {0}) Fault
end s = end_at (upcoming s) s.1

-- the next word as a number without a sign
abbrev pub unsigned : Ahead → Result ℕ Fault
unsigned s = by (value_of 10 10) (upcoming s) s.1

-- the next word as a number after a sign or none
abbrev pub signed : Ahead → Result ℤ Fault
signed s = by signed_of (upcoming s) s.1

-- the next word as a hexadecimal number
abbrev pub hexadecimal : Ahead → Result ℕ Fault
hexadecimal s = by (value_of 16 8) (upcoming s) s.1

-- what was read, where no word is ahead
abbrev pub alone : {A : Type 0} → Result A Fault → Ahead → Result A Fault
alone said s = and_then said (λ x. and_then (end s) (λ _. Ok x))

unfoldable pub only_unsigned : Ahead → Result ℕ Fault
only_unsigned s = alone (unsigned s) (past s)

unfoldable pub only_signed : Ahead → Result ℤ Fault
only_signed s = alone (signed s) (past s)

unfoldable pub only_hexadecimal : Ahead → Result ℕ Fault
only_hexadecimal s = alone (hexadecimal s) (past s)
