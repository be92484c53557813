-- A line has a word, be it an empty one.
use Rattle.std.proofs.Common.{◌≡◌, ℕ, true, false, cond, eqb, List, [], ◌∷◌, Some, Option, Err, refl, ap, ◌∙◌}
use Rattle.std.specs.Borrow.{Bor}
use Rattle.words.specs.Left.{left_in}
use Rattle.words.specs.Readings.{end_at}
use Rattle.faults.specs.Faults.{wrong_form}
use Rattle.words.specs.Words.{onto, words, first}

onto_some : (c : ℕ) (ws : List (List ℕ)) (i : ℕ) → end_at (first (onto c ws)) i ≡ Err (wrong_form i)
onto_some c [] i = refl
onto_some c (w ∷ ws) i = refl

pub words_some : (s : List ℕ) (i : ℕ) → end_at (first (words s)) i ≡ Err (wrong_form i)
words_some [] i = refl
words_some (c ∷ cs) i =
    elim (eqb c 32) as (λ b. end_at (first (cond b ([] ∷ words cs) (onto c (words cs)))) i ≡ Err (wrong_form i)) [
      | true ↦ refl
      | false ↦ onto_some c (words cs) i
    ]

-- so a word that is left is at fault where none may be
pub line_left : (rest : Option (Bor (List ℕ))) (line : Bor (List ℕ)) (i : ℕ) → rest ≡ Some line → end_at (first (left_in rest)) i ≡ Err (wrong_form i)
line_left rest line i is = ap (λ o. end_at (first (left_in o)) i) is ∙ words_some line.now i
