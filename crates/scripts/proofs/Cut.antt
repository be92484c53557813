-- A line is cut at its first blank.
use Rattle.std.proofs.Common.{◌≡◌, ℕ, true, false, cond, eqb, List, [], ◌∷◌, Some, None, Option, refl, sym, ap, ◌∙◌}
use Rattle.std.proofs.lemmas.Bool.{eqb-true}
use Rattle.std.specs.Borrow.{Bor}
use Rattle.words.specs.Left.{left_in}
use Rattle.words.specs.Words.{onto, words, spaced}
use Rattle.scripts.specs.Cut.{first_word, behind, text_in}

-- the words of what stands behind the first blank
abbrev words_behind : Option (List ℕ) → List (List ℕ)
words_behind None = []
words_behind (Some t) = words t

words_cut : (l : List ℕ) → words l ≡ first_word l ∷ words_behind (behind l)
words_cut [] = refl
words_cut (c ∷ cs) =
    elim (eqb c 32) as (λ b. cond b ([] ∷ words cs) (onto c (words cs)) ≡ cond b [] (c ∷ first_word cs) ∷ words_behind (cond b (Some cs) (behind cs))) [
      | true ↦ refl
      | false ↦ ap (onto c) (words_cut cs)
    ]

spaced_onto : (c : ℕ) (ws : List (List ℕ)) → spaced (onto c ws) ≡ c ∷ spaced ws
spaced_onto c [] = refl
spaced_onto c (w ∷ []) = refl
spaced_onto c (w ∷ v ∷ ws) = refl

spaced_behind : (w : List ℕ) (ws : List (List ℕ)) → spaced ([] ∷ (w ∷ ws)) ≡ 32 ∷ spaced (w ∷ ws)
spaced_behind w ws = refl

spaced_words : (l : List ℕ) → spaced (words l) ≡ l
spaced_words [] = refl
spaced_words (c ∷ cs) =
    (elim (eqb c 32) as (λ b. eqb c 32 ≡ b → spaced (cond b ([] ∷ words cs) (onto c (words cs))) ≡ c ∷ cs) [
      | true ↦ λ e. ap (λ ws. spaced ([] ∷ ws)) (words_cut cs) ∙ ap (λ t. 32 ∷ t) (sym (ap spaced (words_cut cs)) ∙ spaced_words cs) ∙ ap (λ x. x ∷ cs) (sym (eqb-true c 32 e))
      | false ↦ λ e. spaced_onto c (words cs) ∙ ap (λ t. c ∷ t) (spaced_words cs)
    ]) refl

-- different lines have different words
words_apart : (a b : List ℕ) → words a ≡ words b → a ≡ b
words_apart a b e = sym (spaced_words a) ∙ ap spaced e ∙ spaced_words b

same_behind : (r : Option (Bor (List ℕ))) (b : Option (List ℕ)) → left_in r ≡ words_behind b → text_in r ≡ b
same_behind None None e = refl
same_behind None (Some t) e = let k : ◌≡◌ {A = List (List ℕ)} [] (first_word t ∷ words_behind (behind t)) = e ∙ words_cut t in cc
same_behind (Some r) None e = let k : ◌≡◌ {A = List (List ℕ)} (first_word r.now ∷ words_behind (behind r.now)) [] = sym (words_cut r.now) ∙ e in cc
same_behind (Some r) (Some t) e = ap Some (words_apart r.now t e)

pub cut_word : (l w : List ℕ) (r : Option (Bor (List ℕ))) → words l ≡ w ∷ left_in r → w ≡ first_word l
cut_word l w r e = let k = sym e ∙ words_cut l in cc

pub cut_behind : (l w : List ℕ) (r : Option (Bor (List ℕ))) → words l ≡ w ∷ left_in r → text_in r ≡ behind l
cut_behind l w r e = let k = sym e ∙ words_cut l in let s : left_in r ≡ words_behind (behind l) = cc in same_behind r (behind l) s
