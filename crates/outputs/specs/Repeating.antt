-- The line patterns repeat after a cycle, and not before.
use Rattle.std.specs.Prelude.{◌≡◌, ℕ, zero, suc, ◌+◌, ◌%◌, ◌^◌, ◌<◌, Bool, true, false, cond, T, List, [], ◌∷◌, length, ◌==◌, ◌≢◌, slice_index, slice_index_or, refl}
use Rattle.std.proofs.Common.{arith, le_of_suc-le-suc, not-suc-le-zero}
use Rattle.std.proofs.lemmas.Bool.{eq-eqb}
use Rattle.outputs.specs.Meaning.{Meaning}
use Rattle.outputs.specs.Patterns.{Repeats, pattern_of, full_cycle, full_pattern, half_cycle, half_pattern}

-- the list lacks x
abbrev lacks : ℕ → List ℕ → Bool
lacks x [] = true
lacks x (y ∷ ys) = cond (y == x) false (lacks x ys)

rest : (b c : Bool) → T (cond b false c) → T c
rest true c t = absurd t
rest false c t = t

absent : (x : ℕ) (ys : List ℕ) → T (lacks x ys) → (k : ℕ) → k < length ys → slice_index ys k ≢ x
absent x [] t k h e = not-suc-le-zero h
absent x (y ∷ ys) t zero h e = rw (eq-eqb y x e) at t
absent x (y ∷ ys) t (suc k) h e = absent x ys (rest (y == x) (lacks x ys) t) k (le_of_suc-le-suc h) e

-- the first entry does not come again
alone : (x : ℕ) (ys : List ℕ) → T (lacks x ys) → (k : ℕ) → 0 < k → k < length (x ∷ ys) → slice_index (x ∷ ys) k ≢ x
alone x ys t zero some h e = not-suc-le-zero some
alone x ys t (suc k) some h e = absent x ys t k (le_of_suc-le-suc h) e

-- at place 0 with power
abbrev start : Meaning
start = record { place = 0; power = true }

-- A table whose first entry does not come again repeats after its length, if whole cycles fill the 2^24 places:
-- `wraps` says so of all places, and `small` of those in the first cycle.
repeats : (cycle x : ℕ) (ys : List ℕ) → cycle ≡ length (x ∷ ys) → T (lacks x ys)
    → ((p : ℕ) → (p + cycle) % 2 ^ 24 % cycle ≡ p % cycle)
    → ((k : ℕ) → k < cycle → (0 + k) % 2 ^ 24 % cycle ≡ k) → 0 % cycle ≡ 0 → Repeats cycle (pattern_of cycle (x ∷ ys))
repeats cycle x ys long once wraps small none = record {
  alike = λ m n p q. cc;
  after = λ m. let e = wraps m.place in cc;
  least = λ k some below same.
      let read : slice_index_or (x ∷ ys) k 0 ≡ x = let e = small k below in let s = same start in let z : slice_index_or (x ∷ ys) (0 % cycle) 0 ≡ x = rw none in cc in
      alone x ys once k some (omega arith) read;
}

pub full_repeats : Repeats full_cycle full_pattern
full_repeats = repeats 4 5 (6 ∷ 10 ∷ 9 ∷ []) refl tt (λ p. omega arith) (λ k h. omega arith) refl

pub half_repeats : Repeats half_cycle half_pattern
half_repeats = repeats 8 5 (4 ∷ 6 ∷ 2 ∷ 10 ∷ 8 ∷ 9 ∷ 1 ∷ []) refl tt (λ p. omega arith) (λ k h. omega arith) refl
