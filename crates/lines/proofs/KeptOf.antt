-- What is kept of a line beside the list of its characters.
use Rattle.std.proofs.Common.{◌≡◌, ℕ, ◌-◌, ◌<◌, ◌≤◌, min, Bool, true, false, cond, ◌&&◌, ◌||◌, ltb, leb, ◌⊎◌, List, [], ◌∷◌, ◌++◌, length, take, drop, Ok, Err, Result, sym, refl, ap, ◌∙◌, inl, inr, ⊎_elim, arith}
use Rattle.std.proofs.lemmas.List.{length-append, length-take, length-map, map-append, take_all, take_rest, drop_min, take-append-le}
use Rattle.std.proofs.lemmas.Bool.{cond-true, cond-false, cases_lt, ne_eqb, eq-eqb, le-leb, lt-leb, lt-ltb, le-ltb, or_right}
use Rattle.faults.specs.declared.Fault.{Fault}
use Rattle.lines.specs.declared.line.Addressee.TheVariants.{Own, Broadcast, Stranger}
use Rattle.faults.specs.Faults.{bad_line}
use Rattle.lines.specs.Characters.{Character, ends, skipped, unfinished, is_own, is_broadcast, addressee_of, any_damaged, bytes_of, received}
use Rattle.lines.specs.Lines.{Kept, damaged_at, kept_of, taken, going, is_own_in, is_broadcast_in, addressee_in, text_in}

-- h is what is kept of cs
record Keeps (h : Kept) (cs : List Character) : Type 0 where
  pub kept : h.characters ≡ take 64 (bytes_of cs)
  pub first : h.first ≡ damaged_at 0 cs
  pub second : h.second ≡ damaged_at 1 cs
  pub refused : h.refused ≡ (any_damaged cs || ltb 64 (length cs))

any_append : (cs : List Character) (c : Character) → any_damaged (cs ++ c ∷ []) ≡ (any_damaged cs || c.1)
any_append [] c = elim c.1 as (λ b. (b || false) ≡ b) [ true ↦ refl | false ↦ refl ]
any_append (d ∷ cs) c = elim d.1 as (λ b. (b || any_damaged (cs ++ c ∷ [])) ≡ ((b || any_damaged cs) || c.1)) [ true ↦ refl | false ↦ any_append cs c ]

kept_length : (h : Kept) (cs : List Character) → Keeps h cs → length h.characters ≡ min 64 (length cs)
kept_length h cs k = ap length k.kept ∙ length-take 64 (bytes_of cs) ∙ ap (min 64) (length-map cs (λ c. c.0))

codes_more : (cs : List Character) (c : Character) → bytes_of (cs ++ c ∷ []) ≡ bytes_of cs ++ c.0 ∷ []
codes_more cs c = map-append (λ d. d.0) cs (c ∷ [])

kept_more : (h : Kept) (cs : List Character) (c : Character) → Keeps h cs → (length cs < 64) ⊎ (64 ≤ length cs) → (taken h c).characters ≡ take 64 (bytes_of (cs ++ c ∷ []))
kept_more h cs c k (inl l) =
    let n = kept_length h cs k in
    let all : h.characters ≡ bytes_of cs = k.kept ∙ take_all 64 (bytes_of cs) (simp length-map (omega arith)) in
    cond-true _ _ _ (lt-ltb (length h.characters) 64 (omega arith))
    ∙ ap (λ t. t ++ c.0 ∷ []) all
    ∙ sym (ap (take 64) (codes_more cs c) ∙ take_all 64 (bytes_of cs ++ c.0 ∷ []) (simp (length-append, length-map) (omega arith)))
kept_more h cs c k (inr l) =
    let n = kept_length h cs k in
    cond-false _ _ _ (le-ltb (length h.characters) 64 (omega arith))
    ∙ k.kept
    ∙ sym (ap (take 64) (codes_more cs c) ∙ take-append-le 64 (bytes_of cs) (c.0 ∷ []) (simp length-map (omega arith)))

flag_stays : (x y t : Bool) → t ≡ false → (x || (y && t)) ≡ x
flag_stays true y t e = refl
flag_stays false true t e = e
flag_stays false false t e = refl

flag_set : (x y t : Bool) → x ≡ false → t ≡ true → (x || (y && t)) ≡ y
flag_set true y t e f = cc
flag_set false true t e f = f
flag_set false false t e f = refl

first_more : (h : Kept) (cs : List Character) (c : Character) → Keeps h cs → (taken h c).first ≡ damaged_at 0 (cs ++ c ∷ [])
first_more h [] c k = flag_set _ _ _ k.first (eq-eqb _ _ (kept_length h [] k))
first_more h (d ∷ cs) c k = let n = kept_length h (d ∷ cs) k in flag_stays _ _ _ (ne_eqb (length h.characters) 0 (λ e. omega arith)) ∙ k.first

second_more : (h : Kept) (cs : List Character) (c : Character) → Keeps h cs → (taken h c).second ≡ damaged_at 1 (cs ++ c ∷ [])
second_more h [] c k = let n = kept_length h [] k in flag_stays _ _ _ (ne_eqb (length h.characters) 1 (λ e. omega arith)) ∙ k.second
second_more h (d ∷ []) c k = flag_set _ _ _ k.second (eq-eqb _ _ (kept_length h (d ∷ []) k))
second_more h (d ∷ e ∷ cs) c k = let n = kept_length h (d ∷ e ∷ cs) k in flag_stays _ _ _ (ne_eqb (length h.characters) 1 (λ q. omega arith)) ∙ k.second

or_under : (a d : Bool) → ((a || false) || (d || false)) ≡ ((a || d) || false)
or_under true d = refl
or_under false true = refl
or_under false false = refl

or_over : (a l d : Bool) → ((a || l) || (d || true)) ≡ ((a || d) || true)
or_over true l d = refl
or_over false true true = refl
or_over false true false = refl
or_over false false true = refl
or_over false false false = refl

refused_more : (h : Kept) (cs : List Character) (c : Character) → Keeps h cs → (length cs < 64) ⊎ (64 ≤ length cs) → (taken h c).refused ≡ (any_damaged (cs ++ c ∷ []) || ltb 64 (length (cs ++ c ∷ [])))
refused_more h cs c k (inl l) =
    let n = kept_length h cs k in
    let u : ltb 64 (length cs) ≡ false = le-ltb _ _ (omega arith) in
    let v : leb 64 (length h.characters) ≡ false = lt-leb _ _ (omega arith) in
    let w : ltb 64 (length (cs ++ c ∷ [])) ≡ false = le-ltb _ _ (simp length-append (omega arith)) in
    (λ i. k.refused i || (c.1 || v i))
    ∙ (λ i. (any_damaged cs || u i) || (c.1 || false))
    ∙ or_under (any_damaged cs) c.1
    ∙ sym (λ i. any_append cs c i || w i)
refused_more h cs c k (inr l) =
    let n = kept_length h cs k in
    let v : leb 64 (length h.characters) ≡ true = le-leb _ _ (omega arith) in
    let w : ltb 64 (length (cs ++ c ∷ [])) ≡ true = lt-ltb _ _ (simp length-append (omega arith)) in
    (λ i. k.refused i || (c.1 || v i))
    ∙ or_over (any_damaged cs) (ltb 64 (length cs)) c.1
    ∙ sym (λ i. any_append cs c i || w i)

step : (h : Kept) (cs : List Character) (c : Character) → Keeps h cs → Keeps (taken h c) (cs ++ c ∷ [])
step h cs c k =
    record {
      kept = kept_more h cs c k (cases_lt (length cs) 64);
      first = first_more h cs c k;
      second = second_more h cs c k;
      refused = refused_more h cs c k (cases_lt (length cs) 64);
    }

same : (h : Kept) (cs : List Character) → Keeps h cs → h ≡ kept_of cs
same h cs k = λ i. record { characters = k.kept i; first = k.first i; second = k.second i; refused = k.refused i }

own_is : (a : ℕ) (cs : List Character) → is_own_in a (kept_of cs) ≡ is_own a cs
own_is a [] = refl
own_is a (c ∷ []) = refl
own_is a (c ∷ d ∷ cs) = ap (λ b. b && is_own a (c ∷ d ∷ cs)) (le-leb 2 (length (take 64 (bytes_of (c ∷ d ∷ cs)))) (omega arith))

broadcast_is : (cs : List Character) → is_broadcast_in (kept_of cs) ≡ is_broadcast cs
broadcast_is [] = refl
broadcast_is (c ∷ cs) = ap (λ b. b && is_broadcast (c ∷ cs)) (le-leb 1 (length (take 64 (bytes_of (c ∷ cs)))) (omega arith))

addressee_is : (a : ℕ) (cs : List Character) → addressee_in a (kept_of cs) ≡ addressee_of a cs
addressee_is a cs = λ i. cond (own_is a cs i) Own (cond (broadcast_is cs i) Broadcast Stranger)

text_is : (from : ℕ) (cs : List Character) → (length cs ≤ 64) ⊎ (64 < length cs) → text_in from (kept_of cs) ≡ received from cs
text_is from cs (inl l) = ap (λ t. cond (any_damaged cs || ltb 64 (length cs)) (Err bad_line) (Ok (drop from t))) (take_all 64 (bytes_of cs) (simp length-map (omega arith)))
text_is from cs (inr l) = let e = or_right (any_damaged cs) _ (lt-ltb 64 (length cs) l) in cond-true _ _ _ e ∙ sym (cond-true _ _ _ e)

pub kept_addressee : (a : ℕ) (h : Kept) (cs : List Character) → h ≡ kept_of cs → addressee_in a h ≡ addressee_of a cs
kept_addressee a h cs e = ap (addressee_in a) e ∙ addressee_is a cs

pub kept_text : (from : ℕ) (h : Kept) (cs : List Character) → h ≡ kept_of cs → text_in from h ≡ received from cs
kept_text from h cs e = ap (text_in from) e ∙ text_is from cs (⊎_elim (λ l. inr l) (λ l. inl l) (cases_lt 64 (length cs)))

keeps_of : (cs : List Character) → Keeps (kept_of cs) cs
keeps_of cs = record { kept = refl; first = refl; second = refl; refused = refl }

pub taken_of : (cs : List Character) (c : Character) → taken (kept_of cs) c ≡ kept_of (cs ++ c ∷ [])
taken_of cs c = same _ (cs ++ c ∷ []) (step (kept_of cs) cs c (keeps_of cs))

going_of : (cs : List Character) (c : Character) (e s : Bool) → cond e (kept_of []) (cond s (kept_of cs) (taken (kept_of cs) c)) ≡ kept_of (cond e [] (cond s cs (cs ++ c ∷ [])))
going_of cs c true s = refl
going_of cs c false true = refl
going_of cs c false false = taken_of cs c

-- what is kept goes on as the list does
pub kept_going : (h : Kept) (cs : List Character) (c : Character) → h ≡ kept_of cs → going h c ≡ kept_of (unfinished cs c)
kept_going h cs c e = ap (λ k. going k c) e ∙ going_of cs c (ends c) (skipped c)

-- what is left of the kept characters s
pub part_is : (s t : List ℕ) (from n : ℕ) (b : Bool) → b ≡ false → s ≡ t → n ≡ min from (length s) → ◌≡◌ {A = Result (List ℕ) Fault} (Ok (take (length s - n) (drop n s))) (cond b (Err bad_line) (Ok (drop from t)))
part_is s t from n b e f g =
    ap Ok (take_rest s n ∙ ap (λ k. drop k s) g ∙ drop_min from s ∙ ap (drop from) f) ∙ sym (cond-false b (Err bad_line) (Ok (drop from t)) e)
