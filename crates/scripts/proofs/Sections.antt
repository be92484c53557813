-- The lines of a section told one after another.
use Rattle.std.proofs.Common.{◌≡◌, ℕ, ◌+◌, ◌-◌, ◌<◌, ◌≤◌, Bool, List, [], ◌∷◌, ◌++◌, length, map, take, drop, get_or, refl, sym, ap, ◌∙◌, subst, append_assoc, append-nil, add-one, arith}
use Rattle.std.proofs.Math.Seq.{drop-cons}
use Rattle.std.proofs.lemmas.List.{drop-drop, drop_all}
use Rattle.scripts.specs.declared.section.Entry.{Entry}
use Rattle.scripts.specs.declared.section.LineKind.{LineKind}
use Rattle.scripts.specs.declared.section.LineKind.TheVariants.{Calls, Ticks, Fault, State}
use Rattle.scripts.specs.declared.section.Section.{Section}
use Rattle.scripts.specs.Playbacks.{end_told}
use Rattle.scripts.specs.Playing.{cycle_of, under, after_calls}
use Rattle.scripts.specs.Replies.{echo_of}
use Rattle.scripts.specs.Sections.{Gathered, gathered, Reaches, Rises, after_first, gathered_told, section_told}
use Rattle.scripts.specs.Told.{Told, Adds}
use Rattle.scripts.specs.Told.Told.{line as told_line}
use Rattle.scripts.proofs.Playbacks.{after_more}
use Rattle.scripts.proofs.Told.{adds_then, adds_one}

pub reaches_le : (kind : LineKind) (n m : ℕ) → Reaches kind n m → n ≤ m
reaches_le Calls n m h = h
reaches_le Ticks n m h = h
reaches_le Fault n m h = omega (arith, h)
reaches_le State n m h = omega (arith, h)

pub rises_le : (n : ℕ) (gs : List Gathered) (all : ℕ) → Rises n gs all → n ≤ all
rises_le n [] all h = omega (arith, h)
rises_le n (g ∷ gs) all h = omega (arith, reaches_le g.1 n g.2 h.0, rises_le g.2 gs all h.1)

-- what is told of a section so far, these lines being left
abbrev pub SoFar : Section → ℕ → List Gathered → List ℕ → List ℕ → Type 0
SoFar s k gs a b = (told : List Told) × (section_told s ≡ told ++ gathered_told (cycle_of s.output) k (after_first s k) gs (drop k s.calls.items)) × Adds told a b

one_more : (s : Section) (k : ℕ) (g : Gathered) (gs : List Gathered) (a b c d : List ℕ) → Reaches g.1 k g.2 → SoFar s k (g ∷ gs) a b → c ≡ b ++ echo_of g.0
    → Adds (under (cycle_of s.output) g.1 (take (g.2 - k) (drop k s.calls.items)) (after_first s k)) c d → SoFar s g.2 gs a d
one_more s k g gs a b c d r t e x =
    let le : k ≤ g.2 = reaches_le g.1 k g.2 r in
    let m : k + (g.2 - k) ≡ g.2 = omega arith in
    let now : List Told = told_line g.0 ∷ under (cycle_of s.output) g.1 (take (g.2 - k) (drop k s.calls.items)) (after_first s k) in
    let st : after_first s g.2 ≡ after_calls (cycle_of s.output) (take (g.2 - k) (drop k s.calls.items)) (after_first s k) = ap (after_first s) (sym m) ∙ after_more s k (g.2 - k) in
    let ds : drop g.2 s.calls.items ≡ drop (g.2 - k) (drop k s.calls.items) = ap (λ n. drop n s.calls.items) (sym m) ∙ sym (drop-drop (g.2 - k) k s.calls.items) in (
      t.0 ++ now,
      t.1 ∙ ap (λ cs. t.0 ++ (now ++ gathered_told (cycle_of s.output) g.2 (after_calls (cycle_of s.output) (take (g.2 - k) (drop k s.calls.items)) (after_first s k)) gs cs)) (sym ds)
          ∙ ap (λ u. t.0 ++ (now ++ gathered_told (cycle_of s.output) g.2 u gs (drop g.2 s.calls.items))) (sym st)
          ∙ sym (append_assoc t.0 now (gathered_told (cycle_of s.output) g.2 (after_first s g.2) gs (drop g.2 s.calls.items))),
      adds_then t.0 now a b d t.2 (adds_then (told_line g.0 ∷ []) (under (cycle_of s.output) g.1 (take (g.2 - k) (drop k s.calls.items)) (after_first s k)) b c d (adds_one (told_line g.0) (echo_of g.0) b c refl e) x),
    )

-- the lines that are left from one on
pub rest_from : (s : Section) (items : List Entry) (i : ℕ) (d : Entry) → items ≡ s.entries.items → i < length items → map gathered (drop i s.entries.items) ≡ gathered (get_or items i d) ∷ map gathered (drop (i + 1) s.entries.items)
rest_from s items i d e h =
    ap (λ xs. map gathered (drop i xs)) (sym e) ∙ ap (map gathered) (drop-cons items i d h) ∙ ap (λ n. gathered (get_or items i d) ∷ map gathered (drop n items)) (sym (add-one i)) ∙ ap (λ xs. gathered (get_or items i d) ∷ map gathered (drop (i + 1) xs)) e

pub line_more : (s r : Section) (k m : ℕ) (g : Gathered) (gs hs : List Gathered) (a b c d : List ℕ) → gs ≡ g ∷ hs → Rises k gs (length s.calls.items) → SoFar s k gs a b → c ≡ b ++ echo_of g.0 → r ≡ s
    → Adds (under (cycle_of r.output) g.1 (take (g.2 - k) (drop k r.calls.items)) (after_first r k)) c d → m ≡ g.2 → SoFar s m hs a d
line_more s r k m g gs hs a b c d l h t e f x n =
    let h' : Rises k (g ∷ hs) (length s.calls.items) = subst (λ (xs : List Gathered). Rises k xs (length s.calls.items)) l h in
    subst (λ (j : ℕ). SoFar s j hs a d) (sym n)
    (one_more s k g hs a b c d h'.0 (subst (λ (xs : List Gathered). SoFar s k xs a b) l t) e
    (subst (λ (u : Section). Adds (under (cycle_of u.output) g.1 (take (g.2 - k) (drop k u.calls.items)) (after_first u k)) c d) f x))

pub rises_more : (k m all : ℕ) (g : Gathered) (gs hs : List Gathered) → gs ≡ g ∷ hs → Rises k gs all → m ≡ g.2 → Rises m hs all
rises_more k m all g gs hs l h n =
    let h' : Rises k (g ∷ hs) all = subst (λ (xs : List Gathered). Rises k xs all) l h in
    subst (λ (j : ℕ). Rises j hs all) (sym n) h'.1

-- the entry that stands for one past the end
abbrev pub no_entry : Entry
no_entry = record { line = record { ref_ptr = (0, 0); now = [] }; kind = Calls; reached = 0 }

reaches_first : (k all : ℕ) (g : Gathered) (gs hs : List Gathered) → gs ≡ g ∷ hs → Rises k gs all → Reaches g.1 k g.2 × (g.2 ≤ all)
reaches_first k all g gs hs l h =
    let h' : Rises k (g ∷ hs) all = subst (λ (xs : List Gathered). Rises k xs all) l h in
    (h'.0, rises_le g.2 hs all h'.1)

pub first_within : (s r : Section) (k : ℕ) (e : Entry) (gs hs : List Gathered) → r ≡ s → gs ≡ gathered e ∷ hs → Rises k gs (length s.calls.items) → e.reached ≤ length r.calls.items
first_within s r k e gs hs f l h = subst (λ (t : Section). e.reached ≤ length t.calls.items) (sym f) (reaches_first k (length s.calls.items) (gathered e) gs hs l h).1

-- the whole section, where no line is left
pub all_lines : (s : Section) (k i : ℕ) (items : List Entry) (a b : List ℕ) → items ≡ s.entries.items → length items ≤ i → SoFar s k (map gathered (drop i s.entries.items)) a b → Adds (section_told s) a b
all_lines s k i items a b e h t =
    let n : drop i s.entries.items ≡ [] = ap (drop i) (sym e) ∙ drop_all i items h in
    let f : section_told s ≡ t.0 = t.1 ∙ ap (λ xs. t.0 ++ gathered_told (cycle_of s.output) k (after_first s k) (map gathered xs) (drop k s.calls.items)) n ∙ append-nil t.0 in
    subst (λ (xs : List Told). Adds xs a b) (sym f) t.2

pub and_end : (s : Section) (ended : Bool) (a b c : List ℕ) → Adds (section_told s) a b → Adds (end_told ended s) b c → Adds (section_told s ++ end_told ended s) a c
and_end s ended a b c x y = adds_then (section_told s) (end_told ended s) a b c x y
