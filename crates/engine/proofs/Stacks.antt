-- A list that is used as a stack, the latest first.
use Rattle.std.proofs.Common.{◌≡◌, ℕ, ◌+◌, ◌-◌, ◌≤◌, List, [], ◌∷◌, reverse, length, get_or, take, ap, ◌∙◌, arith}
use Rattle.std.proofs.lemmas.List.{reverse-append, take_more}

pub pop_stack : {X : Type 0} (xs : List X) (d : ℕ) (x : X) → 1 ≤ d → d ≤ length xs → reverse (take d xs) ≡ get_or xs (d - 1) x ∷ reverse (take (d - 1) xs)
pop_stack xs d x o h =
    let e : d ≡ (d - 1) + 1 = omega arith in
    ap (λ k. reverse (take k xs)) e
    ∙ ap reverse (take_more xs (d - 1) x (omega arith))
    ∙ reverse-append (take (d - 1) xs) (get_or xs (d - 1) x ∷ [])
