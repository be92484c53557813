-- A line of a script cut at its first blank.
use Rattle.std.specs.Prelude.{ℕ, cond, List, [], ◌∷◌, Some, None, Option, ◌==◌}
use Rattle.std.specs.Borrow.{Bor}
use Rattle.std.specs.Option.{option_map}

-- the first word of a line, and what stands behind the blank after it; nothing where there is no blank
abbrev pub first_word : List ℕ → List ℕ
first_word [] = []
first_word (c ∷ cs) = cond (c == 32) [] (c ∷ first_word cs)

abbrev pub behind : List ℕ → Option (List ℕ)
behind [] = None
behind (c ∷ cs) = cond (c == 32) (Some cs) (behind cs)

-- a text that may be missing
abbrev pub text_in : Option (Bor (List ℕ)) → Option (List ℕ)
text_in t = option_map (λ s. s.now) t
