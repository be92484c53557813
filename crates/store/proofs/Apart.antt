-- The sequences lie one after the other, so a change of one leaves the others.
use Rattle.std.proofs.Common.{◌≡◌, ℕ, ◌+◌, ◌-◌, ◌<◌, ◌≤◌, true, false, cond, ◌&&◌, eqb, leb, List, [], ◌∷◌, ◌++◌, length, take, drop, set, replicate, Some, None, Option, sym, refl, ap, ◌∙◌, subst, arith}
use Rattle.std.specs.List.{remove}
use Rattle.std.proofs.lemmas.List.{length-take, length-drop, length-set, take-append-le, drop-append-le, take-append-drop, drop-drop, nil_from_length, take-set-le, drop-set-lt, drop-take}
use Rattle.std.proofs.lemmas.Bool.{cond_both, and_parts, and_from, ne_eqb, eqb-true, not_from_false, leb-true}
use Rattle.store.specs.declared.directory.Block.{Block}
use Rattle.store.specs.declared.directory.Span.{Span}
use Rattle.phases.specs.declared.phase.Phase.{Phase}
use Rattle.phases.specs.Phases.{blank}
use Rattle.store.specs.Blocks.{reserved, placed, absent, sound}
use Rattle.store.specs.Records.{appended, blanked, closed, in_span, located, rewritten, erased_blocks, erased_records}
use Rattle.store.specs.Keeps.{phases}
use Rattle.store.proofs.Sound.{reserved_append}
use Rattle.store.proofs.Asked.{erases_blocks, keeps_blocks, erases_records, keeps_records}

abbrev or_else : {A : Type 0} → Option A → Option A → Option A
or_else None y = y
or_else (Some x) y = Some x

or_none : {A : Type 0} (x : Option A) → or_else x None ≡ x
or_none None = refl
or_none (Some x) = refl

module _ (n : ℕ) where
  -- records after the reserved ones do not matter
  pub phases_front : (bs : List Block) (m t : List Phase) → reserved bs ≤ length m → phases bs (m ++ t) n ≡ phases bs m n
  phases_front [] m t l = refl
  phases_front (b ∷ bs) m t l =
      let k : b.reserve ≤ length m = omega arith in
      let r : reserved bs ≤ length (drop b.reserve m) = simp length-drop (omega arith) in
      rw (take-append-le b.reserve m t k, drop-append-le b.reserve m t k, phases_front bs (drop b.reserve m) t r)

  pub front_is : (bs : List Block) (m : List Phase) → reserved bs ≤ length m → phases bs (take (reserved bs) m) n ≡ phases bs m n
  front_is bs m l =
      let r : reserved bs ≤ length (take (reserved bs) m) = simp length-take (omega arith) in
      sym (phases_front bs (take (reserved bs) m) (drop (reserved bs) m) r) ∙ ap (λ w. phases bs w n) (take-append-drop (reserved bs) m)

  -- two groups of sequences, each in its own records
  pub phases_append : (bs cs : List Block) (m t : List Phase) → reserved bs ≡ length m → phases (bs ++ cs) (m ++ t) n ≡ or_else (phases bs m n) (phases cs t n)
  phases_append [] cs m t l = rw (nil_from_length m (sym l))
  phases_append (b ∷ bs) cs m t l =
      let k : b.reserve ≤ length m = omega arith in
      let r : reserved bs ≡ length (drop b.reserve m) = simp length-drop (omega arith) in
      rw (take-append-le b.reserve m t k, drop-append-le b.reserve m t k)
      (elim (eqb b.number n) as (λ x. cond x (Some (take b.reserve m)) (phases (bs ++ cs) (drop b.reserve m ++ t) n) ≡ or_else (cond x (Some (take b.reserve m)) (phases bs (drop b.reserve m) n)) (phases cs t n))
      [ true ↦ refl | false ↦ phases_append bs cs (drop b.reserve m) t r ])

  -- the groups before and after a block of another number
  pub phases_around : (bs : List Block) (b : Block) (cs : List Block) (m : List Phase) → reserved bs ≤ length m → (b.number ≡ n → ⊥) → phases (bs ++ (b ∷ cs)) m n ≡ or_else (phases bs (take (reserved bs) m) n) (phases cs (drop (reserved bs + b.reserve) m) n)
  phases_around bs b cs m l ne =
      let r : reserved bs ≡ length (take (reserved bs) m) = simp length-take (omega arith) in
      let e : eqb b.number n ≡ false = ne_eqb _ _ ne in
      let past = drop-drop b.reserve (reserved bs) m in
      ap (λ w. phases (bs ++ (b ∷ cs)) w n) (sym (take-append-drop (reserved bs) m))
      ∙ phases_append bs (b ∷ cs) (take (reserved bs) m) (drop (reserved bs) m) r
      ∙ rw (e, past)

-- ---- where the sequence lies among the others

record Cut (i o : ℕ) (bs : List Block) (n : ℕ) (s : Span) : Type 0 where
  before : List Block
  block : Block
  after : List Block
  whole : bs ≡ before ++ (block ∷ after)
  named : block.number ≡ n
  first : absent n before ≡ true
  size : s.reserve ≡ block.reserve
  start : s.offset ≡ o + reserved before
  spot : s.index ≡ i + length before

abbrev CutBy : ℕ → ℕ → List Block → ℕ → Option Span → Type 0
CutBy i o bs n None = absent n bs ≡ true
CutBy i o bs n (Some s) = Cut i o bs n s

cut_past : (i o : ℕ) (b : Block) (bs : List Block) (n : ℕ) → eqb b.number n ≡ false → (r : Option Span) → CutBy (i + 1) (o + b.reserve) bs n r → CutBy i o (b ∷ bs) n r
cut_past i o b bs n e None h = and_from _ _ (not_from_false _ e) h
cut_past i o b bs n e (Some s) h =
    record {
      before = b ∷ h.before;
      block = h.block;
      after = h.after;
      whole = ap (λ l. b ∷ l) h.whole;
      named = h.named;
      first = and_from _ _ (not_from_false _ e) h.first;
      size = h.size;
      start = omega (arith, h.start);
      spot = omega (arith, h.spot);
    }

cut : (i o : ℕ) (bs : List Block) (n : ℕ) → CutBy i o bs n (placed i o bs n)
cut i o [] n = refl
cut i o (b ∷ bs) n =
    cond_both (eqb b.number n) _ _ (CutBy i o (b ∷ bs) n)
    (λ e. record { before = []; block = b; after = bs; whole = refl; named = eqb-true _ _ e; first = refl; size = refl; start = omega arith; spot = omega arith })
    (λ e. cut_past i o b bs n e (placed (i + 1) (o + b.reserve) bs n) (cut (i + 1) (o + b.reserve) bs n))

-- ---- a change within one block, and one block less

removed_at : (bs : List Block) (b : Block) (cs : List Block) → remove (bs ++ (b ∷ cs)) (length bs) ≡ bs ++ cs
removed_at [] b cs = refl
removed_at (x ∷ bs) b cs = ap (λ l. x ∷ l) (removed_at bs b cs)

module _ (bs : List Block) (b : Block) (cs : List Block) (m : List Phase) (n : ℕ) (ne : b.number ≡ n → ⊥) (l : reserved (bs ++ (b ∷ cs)) ≤ length m) where
  room : reserved bs + b.reserve + reserved cs ≤ length m
  room = omega (arith, reserved_append bs (b ∷ cs))

  block_changes : (w : List Phase) → length w ≡ length m → take (reserved bs) w ≡ take (reserved bs) m → drop (reserved bs + b.reserve) w ≡ drop (reserved bs + b.reserve) m → phases (bs ++ (b ∷ cs)) w n ≡ phases (bs ++ (b ∷ cs)) m n
  block_changes w e front back =
      let here = phases_around n bs b cs w (omega (arith, room)) ne in
      let there = phases_around n bs b cs m (omega (arith, room)) ne in
      here ∙ rw (front, back) (sym there)

  block_goes : phases (bs ++ cs) (closed (reserved bs) b.reserve (reserved (bs ++ (b ∷ cs))) m) n ≡ phases (bs ++ (b ∷ cs)) m n
  block_goes =
      let all : reserved (bs ++ (b ∷ cs)) ≡ reserved bs + b.reserve + reserved cs = omega (arith, reserved_append bs (b ∷ cs)) in
      let r : reserved bs ≡ length (take (reserved bs) m) = simp length-take (omega (arith, room)) in
      let k : reserved cs ≤ length (drop (reserved bs + b.reserve) (take (reserved (bs ++ (b ∷ cs))) m)) = simp (length-drop, length-take) (omega (arith, room)) in
      let q : reserved cs ≤ length (drop (reserved bs + b.reserve) m) = simp length-drop (omega (arith, room)) in
      let moved : drop (reserved bs + b.reserve) (take (reserved (bs ++ (b ∷ cs))) m) ≡ take (reserved cs) (drop (reserved bs + b.reserve) m) = ap (λ u. drop (reserved bs + b.reserve) (take u m)) all ∙ drop-take (reserved bs + b.reserve) (reserved cs) m in
      let tail = replicate b.reserve blank ++ drop (reserved (bs ++ (b ∷ cs))) m in
      phases_append n bs cs (take (reserved bs) m) (drop (reserved bs + b.reserve) (take (reserved (bs ++ (b ∷ cs))) m) ++ tail) r
      ∙ ap (or_else (phases bs (take (reserved bs) m) n))
      (phases_front n cs (drop (reserved bs + b.reserve) (take (reserved (bs ++ (b ∷ cs))) m)) tail k
      ∙ ap (λ w. phases cs w n) moved
      ∙ front_is n cs (drop (reserved bs + b.reserve) m) q)
      ∙ sym (phases_around n bs b cs m (omega (arith, room)) ne)

-- ---- the three commands, at a sequence other than the one that they name

module _ (bs : List Block) (m : List Phase) (n other : ℕ) (ne : n ≡ other → ⊥) where
  pub sn_keeps : (many : ℕ) → reserved bs ≤ length m → phases (appended bs n many) (blanked (reserved bs) many m) other ≡ phases bs m other
  sn_keeps many l =
      let r : reserved bs ≡ length (take (reserved bs) m) = simp length-take (omega arith) in
      let e : eqb n other ≡ false = ne_eqb _ _ ne in
      phases_append other bs (record { number = n; reserve = many } ∷ []) (take (reserved bs) m) (replicate many blank ++ drop (reserved bs + many) m) r
      ∙ rw e (or_none (phases bs (take (reserved bs) m) other) ∙ front_is other bs m l)

  written_other : (s : Span) (j : ℕ) (p : Phase) → reserved bs ≤ length m → j < s.reserve → Cut 0 0 bs n s → phases bs (set m (s.offset + j) p) other ≡ phases bs m other
  written_other s j p l in' h =
      let w = h.whole in
      let r : reserved (h.before ++ (h.block ∷ h.after)) ≤ length m = subst (λ x. reserved x ≤ length m) w l in
      let at : reserved h.before ≤ s.offset + j = omega (arith, h.start) in
      let end : s.offset + j < reserved h.before + h.block.reserve = omega (arith, h.start, h.size) in
      subst (λ x. phases x (set m (s.offset + j) p) other ≡ phases x m other) (sym w)
      (block_changes h.before h.block h.after m other (λ q. ne (sym h.named ∙ q)) r (set m (s.offset + j) p)
      (length-set m (s.offset + j) p) (take-set-le _ m _ p at) (drop-set-lt _ m _ p end))

  sp_at : (np : ℕ) (p : Phase) → reserved bs ≤ length m → (r : Option Span) → CutBy 0 0 bs n r → phases bs (rewritten (in_span r np) p m) other ≡ phases bs m other
  sp_at np p l None h = refl
  sp_at np p l (Some s) h =
      cond_both (leb 1 np && leb np s.reserve) _ _ (λ x. phases bs (rewritten x p m) other ≡ phases bs m other)
      (λ e. let q = and_parts (leb 1 np) (leb np s.reserve) e in written_other s (np - 1) p l (omega (arith, leb-true 1 np q.0, leb-true np s.reserve q.1)) h)
      (λ e. refl)

  pub sp_keeps : (np : ℕ) (p : Phase) → reserved bs ≤ length m → phases bs (rewritten (located bs n np) p m) other ≡ phases bs m other
  sp_keeps np p l = sp_at np p l (placed 0 0 bs n) (cut 0 0 bs n)

  se_at : reserved bs ≤ length m → (s : Span) → Cut 0 0 bs n s → phases (remove bs s.index) (closed s.offset s.reserve (reserved bs) m) other ≡ phases bs m other
  se_at l s h =
      let w = h.whole in
      let r : reserved (h.before ++ (h.block ∷ h.after)) ≤ length m = subst (λ x. reserved x ≤ length m) w l in
      let i : s.index ≡ length h.before = omega (arith, h.spot) in
      let o : s.offset ≡ reserved h.before = omega (arith, h.start) in
      subst (λ x. phases (remove x s.index) (closed s.offset s.reserve (reserved x) m) other ≡ phases x m other) (sym w)
      (rw (i, o, h.size, removed_at h.before h.block h.after)
      (block_goes h.before h.block h.after m other (λ q. ne (sym h.named ∙ q)) r))

  se_by : reserved bs ≤ length m → sound bs ≡ true → (r : Option Span) → r ≡ placed 0 0 bs n → CutBy 0 0 bs n r → phases (erased_blocks bs (Some n)) (erased_records bs (Some n) m) other ≡ phases bs m other
  se_by l s None e h = subst (λ x. phases x (erased_records bs (Some n) m) other ≡ phases bs m other) (keeps_blocks bs n s e) (ap (λ x. phases bs x other) (sym (keeps_records bs n s m e)))
  se_by l s (Some p) e h =
      subst (λ x. phases x (erased_records bs (Some n) m) other ≡ phases bs m other) (erases_blocks bs n s p e)
      (ap (λ x. phases (remove bs p.index) x other) (sym (erases_records bs n s p m e)) ∙ se_at l p h)

  pub se_keeps : reserved bs ≤ length m → sound bs ≡ true → phases (erased_blocks bs (Some n)) (erased_records bs (Some n) m) other ≡ phases bs m other
  se_keeps l s = se_by l s (placed 0 0 bs n) refl (cut 0 0 bs n)
