-- The line patterns of the coils, and what it is for lines to repeat. Bit 0 is A+, bit 1 A-, bit 2 B+, bit 3 B-.
use Rattle.std.specs.Prelude.{◌≡◌, ℕ, ◌+◌, ◌%◌, ◌^◌, ◌<◌, cond, List, [], ◌∷◌, slice_index}
use Rattle.outputs.specs.Meaning.{Meaning}

-- The entry of a table at the place within the cycle with power on, and 0 with power off.
abbrev pub pattern_of : ℕ → List ℕ → Meaning → ℕ
pattern_of cycle table m = cond m.power (slice_index table (m.place % cycle)) 0

-- Full steps: both coils are on at each place.
abbrev pub full_cycle : ℕ
full_cycle = 4

abbrev pub full_patterns : List ℕ
full_patterns = 5 ∷ 6 ∷ 10 ∷ 9 ∷ []

abbrev pub full_pattern : Meaning → ℕ
full_pattern = pattern_of full_cycle full_patterns

-- Half steps: between two full steps one coil is on.
abbrev pub half_cycle : ℕ
half_cycle = 8

abbrev pub half_patterns : List ℕ
half_patterns = 5 ∷ 4 ∷ 6 ∷ 2 ∷ 10 ∷ 8 ∷ 9 ∷ 1 ∷ []

abbrev pub half_pattern : Meaning → ℕ
half_pattern = pattern_of half_cycle half_patterns

-- The output k places further forward, with the same power.
abbrev pub further : ℕ → Meaning → Meaning
further k m = record m { place = (m.place + k) % 2 ^ 24 }

-- The lines repeat after exactly `cycle` places: they depend on power and the place within the cycle alone, they are
-- the same a cycle further, and a smaller number of places further they are not everywhere the same.
pub record Repeats (cycle : ℕ) (lines : Meaning → ℕ) : Type 0 where
  pub alike : (m n : Meaning) → m.power ≡ n.power → m.place % cycle ≡ n.place % cycle → lines m ≡ lines n
  pub after : (m : Meaning) → lines (further cycle m) ≡ lines m
  pub least : (k : ℕ) → 0 < k → k < cycle → ((m : Meaning) → lines (further k m) ≡ lines m) → ⊥
