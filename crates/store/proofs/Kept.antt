-- The law over whole runs, and what RS tells.
use Rattle.std.proofs.Common.{◌≡◌, ℕ, ◌+◌, ◌-◌, ◌<◌, ◌≤◌, true, false, cond, not, ◌&&◌, eqb, leb, List, [], ◌∷◌, ◌++◌, length, get_or, take, drop, replicate, is_ok, Some, None, Ok, Err, Option, Result, sym, refl, ap, ◌∙◌, subst, inl, inr, arith, get_or-set_same}
use Rattle.std.proofs.Math.Seq.{take-set-lt}
use Rattle.std.proofs.lemmas.List.{length-append, length-take, length-drop, length-set, length-replicate, drop-drop, get_or-take, get_or-drop, take_at, drop-set-add}
use Rattle.std.proofs.lemmas.Bool.{cond_both, and_parts, leb-true, cases_Bool, false≢true, not-true, eq-eqb}
use Rattle.store.specs.declared.directory.Block.{Block}
use Rattle.store.specs.declared.directory.Span.{Span}
use Rattle.faults.specs.declared.Fault.{Fault}
use Rattle.phases.specs.declared.phase.Phase.{Phase}
use Rattle.phases.specs.Phases.{Written, blank}
use Rattle.store.specs.Blocks.{reserved, placed, absent, sound, Within}
use Rattle.store.specs.Records.{blanked, closed, create_answer, in_span, located, rewritten, read_answer, without, erased_records}
use Rattle.store.specs.Stores.{Store}
use Rattle.store.specs.Keeps.{phases, Fit, Command, SN, SE, SP, step, Spares, Keeps, Tells, told, Changes, with_phase, ReadsWhatWasWritten, Examples}
use Rattle.store.proofs.Sound.{reserved_append, reserved_removed, sound_push, sound_removed, within_placed}
use Rattle.store.proofs.Asked.{created, erases_blocks, keeps_blocks, erases_records, keeps_records}
use Rattle.store.proofs.Apart.{phases_append, sn_keeps, sp_keeps, se_keeps}

-- ---- each command leaves a store that fits

length_blanked : (o k : ℕ) (m : List Phase) → o + k ≤ length m → length (blanked o k m) ≡ length m
length_blanked o k m l = simp (length-append, length-take, length-replicate, length-drop) (omega arith)

length_closed : (o k u : ℕ) (m : List Phase) → o + k ≤ u → u ≤ length m → length (closed o k u m) ≡ length m
length_closed o k u m h l = simp (length-append, length-drop, length-take, length-replicate) (omega arith)

pub length_rewritten : (r : Result ℕ Fault) (p : Phase) (m : List Phase) → length (rewritten r p m) ≡ length m
length_rewritten (Ok at) p m = length-set m at p
length_rewritten (Err f) p m = refl

fit_sn : (n many : ℕ) (s : Store) → Fit s → Fit (step (SN n many) s)
fit_sn n many s f =
    cond_both (is_ok (create_answer s.blocks n many)) _ _ Fit
    (λ e.
    let c = created s.blocks n many e in
    let b : Block = record { number = n; reserve = many } in (
      sound_push s.blocks b f.0 c.0 c.1,
      omega (arith, reserved_append s.blocks (b ∷ []), c.2),
      length_blanked (reserved s.blocks) many s.records (omega (arith, c.2, f.2)) ∙ f.2,
    ))
    (λ e. f)

se_fits : (n : ℕ) (s : Store) → Fit s → (r : Option Span) → r ≡ placed 0 0 s.blocks n → Within s.blocks r → Fit (step (SE (Some n)) s)
se_fits n s f None e w =
    let b = keeps_blocks s.blocks n f.0 e in
    let m = keeps_records s.blocks n f.0 s.records e in
    (subst (λ x. sound x ≡ true) b f.0, subst (λ x. reserved x ≤ 414) b f.1, subst (λ x. length x ≡ 414) m f.2)
se_fits n s f (Some p) e w =
    let b = erases_blocks s.blocks n f.0 p e in
    let m = erases_records s.blocks n f.0 p s.records e in (
      subst (λ x. sound x ≡ true) b (sound_removed s.blocks p.index f.0),
      subst (λ x. reserved x ≤ 414) b (omega (arith, reserved_removed s.blocks p.index, f.1)),
      subst (λ x. length x ≡ 414) m (length_closed p.offset p.reserve (reserved s.blocks) s.records w.1 (omega (arith, f.1, f.2)) ∙ f.2),
    )

pub fit_step : (c : Command) (s : Store) (n : ℕ) → Fit s → Spares n c → Fit (step c s)
fit_step (SN o many) s n f a = fit_sn o many s f
fit_step (SE None) s n f a = absurd a
fit_step (SE (Some o)) s n f a = se_fits o s f (placed 0 0 s.blocks o) refl (within_placed s.blocks o)
fit_step (SP o np p) s n f a = (f.0, f.1, length_rewritten (located s.blocks o np) p s.records ∙ f.2)

-- ---- a sequence keeps every phase

step_keeps : (c : Command) (s : Store) (n : ℕ) → Fit s → Spares n c → phases (step c s).blocks (step c s).records n ≡ phases s.blocks s.records n
step_keeps (SN o many) s n f a =
    cond_both (is_ok (create_answer s.blocks o many)) _ _ (λ (t : Store). phases t.blocks t.records n ≡ phases s.blocks s.records n)
    (λ e. sn_keeps s.blocks s.records o n a many (omega (arith, f.1, f.2)))
    (λ e. refl)
step_keeps (SE None) s n f a = absurd a
step_keeps (SE (Some o)) s n f a = se_keeps s.blocks s.records o n a (omega (arith, f.1, f.2)) f.0
step_keeps (SP o np p) s n f a = sp_keeps s.blocks s.records o n a np p (omega (arith, f.1, f.2))

pub keeps : Keeps
keeps [] s n f a = refl
keeps (c ∷ cs) s n f a = keeps cs (step c s) n (fit_step c s n f a.0) a.1 ∙ step_keeps c s n f a.0

-- ---- what RS tells

abbrev part : Option Span → List Phase → Option (List Phase)
part None m = None
part (Some s) m = Some (take s.reserve (drop s.offset m))

phases_placed : (i o : ℕ) (bs : List Block) (n : ℕ) (m : List Phase) → phases bs (drop o m) n ≡ part (placed i o bs n) m
phases_placed i o [] n m = refl
phases_placed i o (b ∷ bs) n m =
    elim (eqb b.number n) as (λ t. cond t (Some (take b.reserve (drop o m))) (phases bs (drop b.reserve (drop o m)) n) ≡ part (cond t (Some (record { index = i; offset = o; reserve = b.reserve })) (placed (i + 1) (o + b.reserve) bs n)) m)
    [ true ↦ refl | false ↦ rw (drop-drop b.reserve o m) (phases_placed (i + 1) (o + b.reserve) bs n m) ]

tells_at : (bs : List Block) (m : List Phase) (np : ℕ) → reserved bs ≤ length m → (r : Option Span) → Within bs r → read_answer (in_span r np) m ≡ told (part r m) np
tells_at bs m np l None w = refl
tells_at bs m np l (Some s) w =
    let k : length (take s.reserve (drop s.offset m)) ≡ s.reserve = simp (length-take, length-drop) (omega arith) in
    rw k (elim (cases_Bool (leb 1 np && leb np s.reserve)) [
      | inl e ↦
          let q = and_parts (leb 1 np) (leb np s.reserve) e in
          let low : 1 ≤ np = leb-true _ _ q.0 in
          let high : np ≤ s.reserve = leb-true _ _ q.1 in
          let same : get_or (take s.reserve (drop s.offset m)) (np - 1) blank ≡ get_or m (s.offset + (np - 1)) blank = get_or-take s.reserve (drop s.offset m) (np - 1) blank (omega arith) ∙ get_or-drop s.offset m (np - 1) blank in
          rw (e, same)
      | inr e ↦ rw e
    ])

pub tells : Tells
tells s n np f =
    tells_at s.blocks s.records np (omega (arith, f.1, f.2)) (placed 0 0 s.blocks n) (within_placed s.blocks n)
    ∙ ap (λ r. told r np) (sym (phases_placed 0 0 s.blocks n s.records))

-- ---- the sequence that a command names

phases_absent : (bs : List Block) (m : List Phase) (n : ℕ) → absent n bs ≡ true → phases bs m n ≡ None
phases_absent [] m n a = refl
phases_absent (b ∷ bs) m n a =
    let p = and_parts (not (eqb b.number n)) (absent n bs) a in
    rw (not-true _ p.0) (phases_absent bs (drop b.reserve m) n p.1)

absent_without : (n : ℕ) (bs : List Block) → absent n (without n bs) ≡ true
absent_without n [] = refl
absent_without n (b ∷ bs) =
    elim (cases_Bool (eqb b.number n)) [
      | inl e ↦ rw e (absent_without n bs)
      | inr e ↦ rw (e, e) (absent_without n bs)
    ]

sn_changes : (n many : ℕ) (s : Store) → Fit s → is_ok (create_answer s.blocks n many) ≡ true → phases (step (SN n many) s).blocks (step (SN n many) s).records n ≡ Some (replicate many blank)
sn_changes n many s f e =
    let c = created s.blocks n many e in
    let u = reserved s.blocks in
    let r : reserved s.blocks ≡ length (take (reserved s.blocks) s.records) = simp length-take (omega (arith, f.1, f.2)) in
    let same : eqb n n ≡ true = eq-eqb n n refl in
    rw e
    (phases_append n s.blocks (record { number = n; reserve = many } ∷ []) (take u s.records) (replicate many blank ++ drop (u + many) s.records) r
    ∙ rw (phases_absent s.blocks (take u s.records) n c.1, same, take_at (replicate many blank) (drop (u + many) s.records) many (length-replicate many blank)))

se_changes : (n : ℕ) (s : Store) → phases (step (SE (Some n)) s).blocks (step (SE (Some n)) s).records n ≡ None
se_changes n s = phases_absent (without n s.blocks) (erased_records s.blocks (Some n) s.records) n (absent_without n s.blocks)

sp_part : (bs : List Block) (m : List Phase) (np : ℕ) (p : Phase) → reserved bs ≤ length m → (r : Option Span) → Within bs r → part r (rewritten (in_span r np) p m) ≡ with_phase (part r m) np p
sp_part bs m np p l None w = refl
sp_part bs m np p l (Some s) w =
    let k : length (take s.reserve (drop s.offset m)) ≡ s.reserve = simp (length-take, length-drop) (omega arith) in
    rw k (elim (cases_Bool (leb 1 np && leb np s.reserve)) [
      | inl e ↦
          let q = and_parts (leb 1 np) (leb np s.reserve) e in
          let low : 1 ≤ np = leb-true _ _ q.0 in
          let high : np ≤ s.reserve = leb-true _ _ q.1 in
          rw e (ap Some (ap (take s.reserve) (drop-set-add s.offset m (np - 1) p) ∙ take-set-lt s.reserve (drop s.offset m) (np - 1) p (omega arith)))
      | inr e ↦ rw e
    ])

pub changes : Changes
changes s n f = (
  λ many e. sn_changes n many s f e,
  se_changes n s,
  refl,
  λ np p.
      phases_placed 0 0 s.blocks n (rewritten (located s.blocks n np) p s.records)
      ∙ sp_part s.blocks s.records np p (omega (arith, f.1, f.2)) (placed 0 0 s.blocks n) (within_placed s.blocks n)
      ∙ ap (λ r. with_phase r np p) (sym (phases_placed 0 0 s.blocks n s.records)),
)

span_reads : (bs : List Block) (m : List Phase) (np : ℕ) (p : Phase) → reserved bs ≤ length m → Written p ≡ true → (r : Option Span) → Within bs r → is_ok (in_span r np) ≡ true → read_answer (in_span r np) (rewritten (in_span r np) p m) ≡ Ok (Some p)
span_reads bs m np p l h None w e = absurd (false≢true e)
span_reads bs m np p l h (Some s) w e =
    elim (cases_Bool (leb 1 np && leb np s.reserve)) [
      | inl t ↦
          let q = and_parts _ _ t in
          let a : leb 1 np ≡ true = q.0 in
          let b : leb np s.reserve ≡ true = q.1 in
          let k : s.offset + (np - 1) < length m = omega (arith, leb-true _ _ a, leb-true _ _ b, w.1) in
          rw (t, get_or-set_same, h)
      | inr t ↦ absurd (false≢true (rw t at e))
    ]

pub reads_written : ReadsWhatWasWritten
reads_written s n np p f h e = span_reads s.blocks s.records np p (omega (arith, f.1, f.2)) h (placed 0 0 s.blocks n) (within_placed s.blocks n) e

pub examples : Examples
examples bs r a = (rw (a, r), rw (a, r))
