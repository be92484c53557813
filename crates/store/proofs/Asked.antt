-- What SN and SE answer and leave, case by case.
use Rattle.std.proofs.Common.{◌≡◌, ℕ, ◌+◌, ◌-◌, ◌<◌, ◌≤◌, Bool, true, false, cond, not, leb, List, is_some, is_ok, Some, None, Ok, Err, Option, Result, sym, refl, ap, ◌∙◌, subst, arith}
use Rattle.std.specs.List.{remove}
use Rattle.std.proofs.lemmas.Bool.{and_from, le-leb, leb-true, lt-leb, not-true, not-false, false≢true}
use Rattle.store.specs.declared.directory.Block.{Block}
use Rattle.store.specs.declared.directory.Span.{Span}
use Rattle.phases.specs.declared.phase.Phase.{Phase}
use Rattle.phases.specs.Phases.{SequenceNumber}
use Rattle.faults.specs.declared.Fault.{Fault}
use Rattle.faults.specs.Faults.{sequence_exists, memory_full}
use Rattle.store.specs.Blocks.{reserved, placed, absent, sound}
use Rattle.store.specs.Records.{ReserveFits, create_answer, erased_blocks, erased_records, closed}
use Rattle.store.proofs.Sound.{found, gone, Gone}

pub is_number : (n : ℕ) → 1 ≤ n → n ≤ 99 → SequenceNumber n ≡ true
is_number n z l = and_from _ _ (le-leb 1 n z) (le-leb n 99 l)

pub is_reserve : (n : ℕ) → 1 ≤ n → n ≤ 50 → ReserveFits n ≡ true
is_reserve n z l = and_from _ _ (le-leb 1 n z) (le-leb n 50 l)

module _ (bs : List Block) (n : ℕ) (r : Option Span) (e : r ≡ placed 0 0 bs n) where
  present : is_some r ≡ true → absent n bs ≡ false
  present h = not-true _ (sym (found 0 0 bs n) ∙ ap is_some (sym e) ∙ h)

  pub missing : is_some r ≡ false → absent n bs ≡ true
  missing h = not-false _ (sym (found 0 0 bs n) ∙ ap is_some (sym e) ∙ h)

  module _ (k : ℕ) (z : 1 ≤ n) (l : n ≤ 99) (y : 1 ≤ k) (j : k ≤ 50) where
    pub answers_exists : is_some r ≡ true → Err sequence_exists ≡ create_answer bs n k
    answers_exists h = rw (is_number n z l, is_reserve k y j, present h)

    pub answers_full : is_some r ≡ false → 414 < reserved bs + k → Err memory_full ≡ create_answer bs n k
    answers_full h f = rw (is_number n z l, is_reserve k y j, missing h, lt-leb (reserved bs + k) 414 f)

    pub answers_ok : is_some r ≡ false → reserved bs + k ≤ 414 → Ok tt ≡ create_answer bs n k
    answers_ok h f = rw (is_number n z l, is_reserve k y j, missing h, le-leb (reserved bs + k) 414 f)

-- what is refused as too much, of what a caller of the directory has found
pub refused_full : (bs : List Block) (n k : ℕ) (r : Option Span) (there : Bool) (f : Fault) → r ≡ placed 0 0 bs n → there ≡ is_some r → there ≡ false → f ≡ memory_full
    → 1 ≤ n → n ≤ 99 → 1 ≤ k → k ≤ 50 → 414 < reserved bs + k → ◌≡◌ {A = Result (Unit {0}) Fault} (Err f) (create_answer bs n k)
refused_full bs n k r there f e s absence g z l y j h = ap Err g ∙ answers_full bs n r e k z l y j (sym s ∙ absence) h

-- a sequence that exists
pub refused_exists : (bs : List Block) (n k : ℕ) (r : Option Span) (there : Bool) (f : Fault) → r ≡ placed 0 0 bs n → there ≡ is_some r → there ≡ true → f ≡ sequence_exists
    → 1 ≤ n → n ≤ 99 → 1 ≤ k → k ≤ 50 → ◌≡◌ {A = Result (Unit {0}) Fault} (Err f) (create_answer bs n k)
refused_exists bs n k r there f e s exists g z l y j = ap Err g ∙ answers_exists bs n r e k z l y j (sym s ∙ exists)

-- a sequence for which there is room
pub admitted : (bs : List Block) (n k : ℕ) (r : Option Span) (there : Bool) → r ≡ placed 0 0 bs n → there ≡ is_some r → there ≡ false
    → 1 ≤ n → n ≤ 99 → 1 ≤ k → k ≤ 50 → reserved bs + k ≤ 414 → ◌≡◌ {A = Result (Unit {0}) Fault} (Ok tt) (create_answer bs n k)
admitted bs n k r there e s absence z l y j h = answers_ok bs n r e k z l y j (sym s ∙ absence) h

module _ (bs : List Block) (n : ℕ) (s : sound bs ≡ true) where
  pub erases_blocks : (p : Span) → Some p ≡ placed 0 0 bs n → remove bs p.index ≡ erased_blocks bs (Some n)
  erases_blocks p e =
      let g : Gone 0 bs n (Some p) = subst (Gone 0 bs n) (sym e) (gone 0 0 bs n s) in
      let k : p.index - 0 ≡ p.index = omega arith in
      sym (g ∙ ap (remove bs) k)

  pub keeps_blocks : None ≡ placed 0 0 bs n → bs ≡ erased_blocks bs (Some n)
  keeps_blocks e =
      let g : Gone 0 bs n None = subst (Gone 0 bs n) (sym e) (gone 0 0 bs n s) in sym g

  pub erases_records : (p : Span) (m : List Phase) → Some p ≡ placed 0 0 bs n → closed p.offset p.reserve (reserved bs) m ≡ erased_records bs (Some n) m
  erases_records p m e = rw (← e)

  pub keeps_records : (m : List Phase) → None ≡ placed 0 0 bs n → m ≡ erased_records bs (Some n) m
  keeps_records m e = rw (← e)

four : {A E : Type 0} (f d g h : E) (x : A) (a w b c : Bool) → is_ok (cond (not a) (Err f) (cond (not w) (Err d) (cond (not b) (Err g) (cond c (Ok x) (Err h))))) ≡ true → (a ≡ true) × (b ≡ true) × (c ≡ true)
four f d g h x true true true true e = (refl, refl, refl)
four f d g h x true true true false e = absurd (false≢true e)
four f d g h x true true false c e = absurd (false≢true e)
four f d g h x true false b c e = absurd (false≢true e)
four f d g h x false w b c e = absurd (false≢true e)

-- what is known once a sequence is admitted
pub created : (bs : List Block) (n many : ℕ) → is_ok (create_answer bs n many) ≡ true → (SequenceNumber n ≡ true) × (absent n bs ≡ true) × (reserved bs + many ≤ 414)
created bs n many e =
    let h = four _ _ _ _ tt (SequenceNumber n) (ReserveFits many) (absent n bs) (leb (reserved bs + many) 414) e in (h.0, h.1, leb-true _ _ h.2)
