-- What holds of the sequences of a directory.
use Rattle.std.proofs.Common.{◌≡◌, ℕ, zero, suc, ◌+◌, ◌-◌, ◌<◌, ◌≤◌, true, false, cond, not, ◌&&◌, eqb, leb, List, [], ◌∷◌, ◌++◌, length, is_some, Some, None, Option, sym, refl, ap, ◌∙◌, subst, inl, inr, arith}
use Rattle.std.specs.List.{remove}
use Rattle.std.proofs.lemmas.Bool.{cond_both, and_parts, and_from, not-true, eq-eqb, ne_eqb, eqb-true, eqb-false, leb-true, cases_eq, not_from_false}
use Rattle.std.proofs.lemmas.List.Folds.{list_all-append}
use Rattle.store.specs.declared.directory.Block.{Block}
use Rattle.store.specs.declared.directory.Span.{Span}
use Rattle.phases.specs.Phases.{SequenceNumber}
use Rattle.store.specs.Blocks.{reserved, placed, absent, sound, Within}
use Rattle.store.specs.Records.{without}

pub reserved_append : (bs cs : List Block) → reserved (bs ++ cs) ≡ reserved bs + reserved cs
reserved_append [] cs = omega arith
reserved_append (b ∷ bs) cs = omega (arith, reserved_append bs cs)

-- ---- at most 99 sequences, since no two have the same number

-- how many of the numbers 1 to n are free
free : ℕ → List Block → ℕ
free zero bs = 0
free (suc n) bs = cond (absent (suc n) bs) 1 0 + free n bs

free_past : (b : Block) (bs : List Block) (n : ℕ) → n < b.number → free n (b ∷ bs) ≡ free n bs
unfolding free
free_past b bs zero l = refl
free_past b bs (suc n) l =
    let e : eqb b.number (suc n) ≡ false = ne_eqb _ _ (λ q. omega arith) in
    rw e (ap (λ k. cond (absent (suc n) bs) 1 0 + k) (free_past b bs n (omega arith)))

free_taken : (b : Block) (bs : List Block) (n : ℕ) → absent b.number bs ≡ true → 1 ≤ b.number → b.number ≤ n → free n (b ∷ bs) + 1 ≡ free n bs
unfolding free
free_taken b bs zero a l h = omega arith
free_taken b bs (suc n) a l h =
    elim (cases_eq b.number (suc n)) [
      | inl q ↦
          let e : eqb b.number (suc n) ≡ true = eq-eqb _ _ q in
          let f : absent (suc n) bs ≡ true = subst (λ k. absent k bs ≡ true) q a in
          rw (e, f) (omega (arith, free_past b bs n (omega arith)))
      | inr q ↦
          let e : eqb b.number (suc n) ≡ false = ne_eqb _ _ q in
          rw e (omega (arith, free_taken b bs n a l (omega arith)))
    ]

free_none : free 99 [] ≡ 99
unfolding free
free_none = refl

-- the parts of `sound`
module _ (b : Block) (bs : List Block) (s : sound (b ∷ bs) ≡ true) where
  pub sound_number : SequenceNumber b.number ≡ true
  sound_number = (and_parts (SequenceNumber b.number) (absent b.number bs && sound bs) s).0

  pub sound_apart : absent b.number bs ≡ true
  sound_apart = (and_parts (absent b.number bs) (sound bs) (and_parts (SequenceNumber b.number) (absent b.number bs && sound bs) s).1).0

  pub sound_rest : sound bs ≡ true
  sound_rest = (and_parts (absent b.number bs) (sound bs) (and_parts (SequenceNumber b.number) (absent b.number bs && sound bs) s).1).1

numbered : (n : ℕ) → SequenceNumber n ≡ true → (1 ≤ n) × (n ≤ 99)
numbered n s = let p = and_parts (leb 1 n) (leb n 99) s in (leb-true 1 n p.0, leb-true n 99 p.1)

all_numbers : (bs : List Block) → sound bs ≡ true → free 99 bs + length bs ≡ 99
all_numbers [] s = omega (arith, free_none)
all_numbers (b ∷ bs) s =
    let n = numbered b.number (sound_number b bs s) in
    let more = all_numbers bs (sound_rest b bs s) in
    let one = free_taken b bs 99 (sound_apart b bs s) n.0 n.1 in
    omega arith

pub few : (bs : List Block) → sound bs ≡ true → length bs ≤ 99
few bs s = omega (arith, all_numbers bs s)

-- ---- one sequence more, one sequence less

pub sound_push : (bs : List Block) (b : Block) → sound bs ≡ true → SequenceNumber b.number ≡ true → absent b.number bs ≡ true → sound (bs ++ (b ∷ [])) ≡ true
sound_push [] b s n a = and_from _ _ n refl
sound_push (c ∷ bs) b s n a =
    let p = and_parts (not (eqb c.number b.number)) (absent b.number bs) a in
    let other : eqb b.number c.number ≡ false = ne_eqb _ _ (λ q. eqb-false _ _ (not-true _ p.0) (sym q)) in
    let last : absent c.number (b ∷ []) ≡ true = and_from _ _ (not_from_false _ other) refl in
    and_from _ _ (sound_number c bs s)
    (and_from _ _ (list_all-append (λ (x : Block). not (eqb x.number c.number)) bs (b ∷ []) ∙ and_from _ _ (sound_apart c bs s) last)
    (sound_push bs b (sound_rest c bs s) n p.1))

pub reserved_removed : (bs : List Block) (i : ℕ) → reserved (remove bs i) ≤ reserved bs
reserved_removed [] zero = omega arith
reserved_removed [] (suc i) = omega arith
reserved_removed (b ∷ bs) zero = omega arith
reserved_removed (b ∷ bs) (suc i) = omega (arith, reserved_removed bs i)

absent_removed : (n : ℕ) (bs : List Block) (i : ℕ) → absent n bs ≡ true → absent n (remove bs i) ≡ true
absent_removed n [] zero a = refl
absent_removed n [] (suc i) a = refl
absent_removed n (b ∷ bs) zero a = (and_parts (not (eqb b.number n)) (absent n bs) a).1
absent_removed n (b ∷ bs) (suc i) a =
    let p = and_parts (not (eqb b.number n)) (absent n bs) a in and_from _ _ p.0 (absent_removed n bs i p.1)

pub sound_removed : (bs : List Block) (i : ℕ) → sound bs ≡ true → sound (remove bs i) ≡ true
sound_removed [] zero s = refl
sound_removed [] (suc i) s = refl
sound_removed (b ∷ bs) zero s = sound_rest b bs s
sound_removed (b ∷ bs) (suc i) s =
    and_from _ _ (sound_number b bs s)
    (and_from _ _ (absent_removed b.number bs i (sound_apart b bs s)) (sound_removed bs i (sound_rest b bs s)))

-- ---- where a sequence lies

abbrev pub Lies : ℕ → ℕ → List Block → Option Span → Type 0
Lies i o bs None = Unit {0}
Lies i o bs (Some s) = (i ≤ s.index) × (s.index < i + length bs) × (o ≤ s.offset) × (s.offset + s.reserve ≤ o + reserved bs)

lies_past : (i o : ℕ) (b : Block) (bs : List Block) (r : Option Span) → Lies (i + 1) (o + b.reserve) bs r → Lies i o (b ∷ bs) r
lies_past i o b bs None h = tt
lies_past i o b bs (Some s) h = (omega arith, omega arith, omega arith, omega arith)

pub lies : (i o : ℕ) (bs : List Block) (n : ℕ) → Lies i o bs (placed i o bs n)
lies i o [] n = tt
lies i o (b ∷ bs) n =
    cond_both (eqb b.number n) _ _ (Lies i o (b ∷ bs))
    (λ e. (omega arith, omega arith, omega arith, omega arith))
    (λ e. lies_past i o b bs (placed (i + 1) (o + b.reserve) bs n) (lies (i + 1) (o + b.reserve) bs n))

pub found : (i o : ℕ) (bs : List Block) (n : ℕ) → is_some (placed i o bs n) ≡ not (absent n bs)
found i o [] n = refl
found i o (b ∷ bs) n =
    elim (eqb b.number n) as (λ t. is_some (cond t (Some (record { index = i; offset = o; reserve = b.reserve })) (placed (i + 1) (o + b.reserve) bs n)) ≡ not (not t && absent n bs))
    [ true ↦ refl | false ↦ found (i + 1) (o + b.reserve) bs n ]

pub without_absent : (n : ℕ) (bs : List Block) → absent n bs ≡ true → without n bs ≡ bs
without_absent n [] a = refl
without_absent n (b ∷ bs) a =
    let p = and_parts (not (eqb b.number n)) (absent n bs) a in rw p.0 (ap (λ l. b ∷ l) (without_absent n bs p.1))

-- what is left without the sequence n, where it was placed
abbrev pub Gone : ℕ → List Block → ℕ → Option Span → Type 0
Gone i bs n None = without n bs ≡ bs
Gone i bs n (Some s) = without n bs ≡ remove bs (s.index - i)

gone_past : (i o : ℕ) (b : Block) (bs : List Block) (n : ℕ) → eqb b.number n ≡ false → (r : Option Span) → Lies (i + 1) (o + b.reserve) bs r → Gone (i + 1) bs n r → Gone i (b ∷ bs) n r
gone_past i o b bs n e None l g = rw e (ap (λ l. b ∷ l) g)
gone_past i o b bs n e (Some s) l g =
    let k : s.index - i ≡ suc (s.index - (i + 1)) = omega arith in
    rw (e, k) (ap (λ l. b ∷ l) g)

pub gone : (i o : ℕ) (bs : List Block) (n : ℕ) → sound bs ≡ true → Gone i bs n (placed i o bs n)
gone i o [] n s = refl
gone i o (b ∷ bs) n s =
    cond_both (eqb b.number n) _ _ (Gone i (b ∷ bs) n)
    (λ e.
    let k : i - i ≡ zero = omega arith in
    let a : absent n bs ≡ true = subst (λ j. absent j bs ≡ true) (eqb-true _ _ e) (sound_apart b bs s) in
    rw (e, k) (without_absent n bs a))
    (λ e. gone_past i o b bs n e (placed (i + 1) (o + b.reserve) bs n) (lies (i + 1) (o + b.reserve) bs n) (gone (i + 1) (o + b.reserve) bs n (sound_rest b bs s)))

within_lies : (bs : List Block) (r : Option Span) → Lies 0 0 bs r → Within bs r
within_lies bs None h = tt
within_lies bs (Some s) h = (omega arith, omega arith)

pub within_placed : (bs : List Block) (n : ℕ) → Within bs (placed 0 0 bs n)
within_placed bs n = within_lies bs (placed 0 0 bs n) (lies 0 0 bs n)
