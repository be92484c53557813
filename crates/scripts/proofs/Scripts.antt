-- A script line by line.
use Rattle.std.proofs.Common.{◌≡◌, ℕ, suc, ◌+◌, ◌-◌, ◌<◌, ◌≤◌, true, false, cond, List, [], ◌∷◌, ◌++◌, length, map, take, drop, get_or, Some, None, Option, Ok, Err, Result, nat_le, refl, sym, ap, ◌∙◌, subst, append_assoc, append-nil, add-one, arith}
use Rattle.std.proofs.lemmas.Bool.{cond-true, cond-false}
use Rattle.std.proofs.lemmas.List.{take-append-drop, take-append-le, drop-append-le, map-append, length-append, length-drop, drop_all}
use Rattle.std.proofs.lemmas.Bool.Decides.{nat_tests}
use Rattle.std.proofs.Math.Seq.{take-length, drop-cons}
use Rattle.std.specs.Borrow.{Bor}
use Rattle.faults.specs.declared.Fault.{Fault}
use Rattle.faults.specs.Faults.{wrong_address}
use Rattle.lines.specs.Addresses.{address_answer}
use Rattle.law.specs.declared.Call.{Call}
use Rattle.law.specs.Events.{event}
use Rattle.law.specs.History.{State, after}
use Rattle.module.specs.Machine.{module_device}
use Rattle.programs.specs.declared.output.Output.{Output}
use Rattle.scripts.specs.declared.expected.Expected.{Expected as Wanted}
use Rattle.scripts.specs.declared.line_error.LineError.{LineError}
use Rattle.scripts.specs.declared.line_error.LineError.TheVariants.{Expected, NoMemory}
use Rattle.scripts.specs.declared.section.LineKind.{LineKind}
use Rattle.scripts.specs.declared.section.Section.{Section}
use Rattle.scripts.specs.declared.step.Step.{Step}
use Rattle.scripts.specs.Asked.{Asked, asked, asked_in}
use Rattle.scripts.specs.Asked.Asked.{begins, sends, types, calls, ticks, fault, state}
use Rattle.scripts.specs.Calls.{calls_of, kind_of}
use Rattle.scripts.specs.Playbacks.{end_told as block_told}
use Rattle.scripts.specs.Playing.{Going, Outcome, cycle_of, new_module, under, after_calls, begun, goes_on, asked_done, read_done, onward, lines_told, end_told}
use Rattle.scripts.specs.Playing.Going.{nothing, going}
use Rattle.scripts.specs.Reading.{line_asks}
use Rattle.scripts.specs.Replies.{echo_of}
use Rattle.scripts.specs.Scripts.{going_of, pending, IsSound, all_told, Begins, GoesOn, LineTaken, GoesOnly}
use Rattle.scripts.specs.Sections.{Gathered, Reaches, Rises, IsWhole, Takes, Taken, lines_of, after_all, gathered_told, section_told}
use Rattle.scripts.specs.Texts.{refused_of}
use Rattle.scripts.specs.Told.{Told, Adds}
use Rattle.scripts.specs.Told.Told.{line as told_line, refused as told_refused}
use Rattle.scripts.proofs.Histories.{after_append}
use Rattle.scripts.proofs.Sections.{rises_le, reaches_le}
use Rattle.scripts.proofs.Told.{adds_none, adds_one, adds_then}

after_calls_append : (cycle : ℕ) (a b : List Call) (s : State (module_device cycle)) → after_calls cycle (a ++ b) s ≡ after_calls cycle b (after_calls cycle a s)
after_calls_append cycle a b s = ap (after (module_device cycle) s) (map-append event a b) ∙ after_append (module_device cycle) s (map event a) (map event b)

-- A LINE AT THE END OF A SECTION
rises_push : (n : ℕ) (gs : List Gathered) (all m : ℕ) (l : List ℕ) (kind : LineKind) → Rises n gs all → Reaches kind all m → Rises n (gs ++ (l, kind, m) ∷ []) m
rises_push n [] all m l kind h r = (subst (λ (j : ℕ). Reaches kind j m) (sym h) r, refl)
rises_push n (g ∷ gs) all m l kind h r = (h.0, rises_push g.2 gs all m l kind h.1 r)

-- the last line
told_last : (cycle n m : ℕ) (s : State (module_device cycle)) (cs made : List Call) (l : List ℕ) (kind : LineKind) → length cs ≡ 0 → m ≡ n + length made
    → gathered_told cycle n s ((l, kind, m) ∷ []) (cs ++ made) ≡ told_line l ∷ under cycle kind made (after_calls cycle cs s)
told_last cycle n m s [] made l kind h e =
    let k : m - n ≡ length made = omega arith in
    ap (λ j. told_line l ∷ (under cycle kind (take j made) s ++ [])) k ∙ ap (λ cs. told_line l ∷ (under cycle kind cs s ++ [])) (take-length made) ∙ ap (λ xs. told_line l ∷ xs) (append-nil (under cycle kind made s))
told_last cycle n m s (c ∷ cs) made l kind h e = absurd (omega arith)

told_push : (cycle n all m : ℕ) (s : State (module_device cycle)) (gs : List Gathered) (cs made : List Call) (l : List ℕ) (kind : LineKind) → Rises n gs all → all ≡ n + length cs → m ≡ all + length made
    → gathered_told cycle n s (gs ++ (l, kind, m) ∷ []) (cs ++ made) ≡ gathered_told cycle n s gs cs ++ told_line l ∷ under cycle kind made (after_calls cycle cs s)
told_push cycle n all m s [] cs made l kind h e f = told_last cycle n m s cs made l kind (omega (arith, h)) (omega (arith, h))
told_push cycle n all m s (g ∷ gs) cs made l kind h e f =
    let le : n ≤ g.2 = reaches_le g.1 n g.2 h.0 in
    let up : g.2 ≤ all = rises_le g.2 gs all h.1 in
    let k : g.2 - n ≤ length cs = omega arith in
    let front : take (g.2 - n) (cs ++ made) ≡ take (g.2 - n) cs = take-append-le (g.2 - n) cs made k in
    let back : drop (g.2 - n) (cs ++ made) ≡ drop (g.2 - n) cs ++ made = drop-append-le (g.2 - n) cs made k in
    let size : all ≡ g.2 + length (drop (g.2 - n) cs) = omega (arith, length-drop (g.2 - n) cs) in
    let rest = told_push cycle g.2 all m (after_calls cycle (take (g.2 - n) cs) s) gs (drop (g.2 - n) cs) made l kind h.1 size f in
    let same : after_calls cycle (drop (g.2 - n) cs) (after_calls cycle (take (g.2 - n) cs) s) ≡ after_calls cycle cs s =
    sym (after_calls_append cycle (take (g.2 - n) cs) (drop (g.2 - n) cs) s) ∙ ap (λ xs. after_calls cycle xs s) (take-append-drop (g.2 - n) cs) in
    ap (λ xs. told_line g.0 ∷ (under cycle g.1 xs s ++ gathered_told cycle g.2 (after_calls cycle xs s) (gs ++ (l, kind, m) ∷ []) (drop (g.2 - n) (cs ++ made)))) front
    ∙ ap (λ xs. told_line g.0 ∷ (under cycle g.1 (take (g.2 - n) cs) s ++ gathered_told cycle g.2 (after_calls cycle (take (g.2 - n) cs) s) (gs ++ (l, kind, m) ∷ []) xs)) back
    ∙ ap (λ xs. told_line g.0 ∷ (under cycle g.1 (take (g.2 - n) cs) s ++ xs)) rest
    ∙ ap (λ t. told_line g.0 ∷ (under cycle g.1 (take (g.2 - n) cs) s ++ (gathered_told cycle g.2 (after_calls cycle (take (g.2 - n) cs) s) gs (drop (g.2 - n) cs) ++ told_line l ∷ under cycle kind made t))) same
    ∙ ap (λ xs. told_line g.0 ∷ xs) (sym (append_assoc (under cycle g.1 (take (g.2 - n) cs) s) (gathered_told cycle g.2 (after_calls cycle (take (g.2 - n) cs) s) gs (drop (g.2 - n) cs)) (told_line l ∷ under cycle kind made (after_calls cycle cs s))))

fits_le : (m n : ℕ) → nat_le m n ≡ true → m ≤ n
fits_le m n e = grind (arith, nat_tests)

reaches_asked : (a : Asked) (n : ℕ) → Reaches (kind_of a) n (n + length (calls_of a))
reaches_asked (begins o ad) n = omega arith
reaches_asked (sends t) n = omega arith
reaches_asked (types t) n = omega arith
reaches_asked (calls c) n = omega arith
reaches_asked (ticks k) n = omega arith
reaches_asked fault n = omega arith
reaches_asked state n = omega arith

module _ (l : List ℕ) (a : Asked) (old new : Section) (w : IsWhole old) (fits : nat_le (length old.calls.items + length (calls_of a)) 20000000 ≡ true) (t : Takes l (kind_of a) (calls_of a) old new) where
  count : length new.calls.items ≡ length old.calls.items + length (calls_of a)
  count = ap length t.calls ∙ length-append old.calls.items (calls_of a)

  going_taken : going old.output (length old.calls.items + length (calls_of a)) (after_calls (cycle_of old.output) (calls_of a) (after_all old)) ≡ going_of (Some new)
  going_taken =
      ap (λ s. going old.output (length old.calls.items + length (calls_of a)) s) (sym (after_calls_append (cycle_of old.output) old.calls.items (calls_of a) (new_module old.output old.address)))
      ∙ ap (λ n. going old.output n (after_calls (cycle_of old.output) (old.calls.items ++ calls_of a) (new_module old.output old.address))) (sym (length-append old.calls.items (calls_of a)))
      ∙ ap (λ cs. going old.output (length cs) (after_calls (cycle_of old.output) cs (new_module old.output old.address))) (sym t.calls)
      ∙ ap (λ o. going o (length new.calls.items) (after_calls (cycle_of o) new.calls.items (new_module o old.address))) (sym t.output)
      ∙ ap (λ n. going new.output (length new.calls.items) (after_calls (cycle_of new.output) new.calls.items (new_module new.output n))) (sym t.address)

  told_taken : section_told new ≡ section_told old ++ told_line l ∷ under (cycle_of old.output) (kind_of a) (calls_of a) (after_all old)
  told_taken =
      ap (λ o. gathered_told (cycle_of o) 0 (new_module o new.address) (lines_of new) new.calls.items) t.output
      ∙ ap (λ n. gathered_told (cycle_of old.output) 0 (new_module old.output n) (lines_of new) new.calls.items) t.address
      ∙ ap (λ gs. gathered_told (cycle_of old.output) 0 (new_module old.output old.address) gs new.calls.items) t.lines
      ∙ ap (λ cs. gathered_told (cycle_of old.output) 0 (new_module old.output old.address) (lines_of old ++ (l, kind_of a, length new.calls.items) ∷ []) cs) t.calls
      ∙ told_push (cycle_of old.output) 0 (length old.calls.items) (length new.calls.items) (new_module old.output old.address) (lines_of old) old.calls.items (calls_of a) l (kind_of a) w.rises (omega arith) count

  whole_taken : IsWhole new
  whole_taken = record {
    address = subst (λ (n : ℕ). n ≤ 63) (sym t.address) w.address;
    rises = subst (λ (gs : List Gathered). Rises 0 gs (length new.calls.items)) (sym t.lines) (rises_push 0 (lines_of old) (length old.calls.items) (length new.calls.items) l (kind_of a) w.rises (subst (λ (n : ℕ). Reaches (kind_of a) (length old.calls.items) n) (sym count) (reaches_asked a (length old.calls.items))));
    few = subst (λ (n : ℕ). n ≤ 20000000) (sym count) (fits_le (length old.calls.items + length (calls_of a)) 20000000 fits);
  }

goes_taken : (l : List ℕ) (a : Asked) (old new : Section) → IsWhole old → nat_le (length old.calls.items + length (calls_of a)) 20000000 ≡ true → Takes l (kind_of a) (calls_of a) old new → GoesOn l a (Some old) (Some new) (Ok tt)
goes_taken l a old new w fits t = (
  told_line l ∷ under (cycle_of old.output) (kind_of a) (calls_of a) (after_all old),
  cond-true _ _ _ fits ∙ ap (λ g. Ok (g, told_line l ∷ under (cycle_of old.output) (kind_of a) (calls_of a) (after_all old))) (going_taken l a old new w fits t),
  told_taken l a old new w fits t,
  whole_taken l a old new w fits t,
)

pub went_on : (l : List ℕ) (a : Asked) (o : Option Section) (old new : Section) (r : Result (Unit {0}) LineError) → o ≡ Some old → IsSound o → Taken l a old new r → GoesOn l a o (Some new) r
went_on l a o old new (Ok u) is w h = subst (λ (x : Option Section). GoesOn l a x (Some new) (Ok u)) (sym is) (goes_taken l a old new (subst IsSound is w) h.0 h.1)
went_on l a o old new (Err (Expected e)) is w h =
    subst (λ (x : Option Section). GoesOn l a x (Some new) (Err (Expected e))) (sym is) (cond-false _ _ _ h.0 ∙ ap Err (sym h.1), ap Some h.2)
went_on l a o old new (Err NoMemory) is w h = tt

-- A `module` LINE
refused_answer : (n : ℕ) (f : Fault) → address_answer n ≡ Err f → (nat_le n 63 ≡ false) × (wrong_address ≡ f)
refused_answer n f e =
    (elim (nat_le n 63) as (λ b. cond b (Ok (tt {0})) (Err wrong_address) ≡ Err f → (b ≡ false) × (wrong_address ≡ f)) [
      | true ↦ λ k. let z : ◌≡◌ {A = Result (Unit {0}) Fault} (Ok (tt {0})) (Err f) = k in cc
      | false ↦ λ k. (refl, let z : ◌≡◌ {A = Result (Unit {0}) Fault} (Err wrong_address) (Err f) = k in cc)
    ]) e

taken_answer : (n : ℕ) (u : Unit {0}) → address_answer n ≡ Ok u → nat_le n 63 ≡ true
taken_answer n u e =
    (elim (nat_le n 63) as (λ b. cond b (Ok (tt {0})) (Err wrong_address) ≡ Ok u → b ≡ true) [
      | true ↦ λ k. refl
      | false ↦ λ k. let z : ◌≡◌ {A = Result (Unit {0}) Fault} (Err wrong_address) (Ok u) = k in cc
    ]) e

pub begins_refused : (l : List ℕ) (o : Output) (n : ℕ) (f : Fault) (r : Result (Unit {0}) Fault) (s : Option Section) (a b c d : List ℕ) → r ≡ address_answer n → r ≡ Err f
    → Adds (all_told s) a b → c ≡ b ++ echo_of l → d ≡ c ++ refused_of f → Begins l o n s None a d
begins_refused l o n f r s a b c d e k x y z =
    let h = refused_answer n f (sym e ∙ k) in
    let g : begun o n ≡ (nothing, told_refused wrong_address ∷ []) = cond-false _ _ _ h.0 in
    record {
      going = sym (ap (λ p. p.0) g);
      told = refl;
      sound = tt;
      transcript = subst (λ (xs : List Told). Adds (all_told s ++ told_line l ∷ xs) a d) (sym (ap (λ p. p.1) g))
          (adds_then (all_told s) (told_line l ∷ told_refused wrong_address ∷ []) a b d x
          (adds_then (told_line l ∷ []) (told_refused wrong_address ∷ []) b c d (adds_one (told_line l) (echo_of l) b c refl y)
          (adds_one (told_refused wrong_address) (refused_of wrong_address) c d refl (z ∙ ap (λ g. c ++ refused_of g) (sym h.1)))));
    }

pub begins_new : (l : List ℕ) (o : Output) (n : ℕ) (u : Unit {0}) (r : Result (Unit {0}) Fault) (s : Option Section) (new : Section) (a b c : List ℕ) → r ≡ address_answer n → r ≡ Ok u
    → going_of (Some new) ≡ going o 0 (new_module o n) → section_told new ≡ [] → (n ≤ 63 → IsWhole new)
    → Adds (all_told s) a b → c ≡ b ++ echo_of l → Begins l o n s (Some new) a c
begins_new l o n u r s new a b c e k i j w x y =
    let h = taken_answer n u (sym e ∙ k) in
    let g : begun o n ≡ (going o 0 (new_module o n), []) = cond-true _ _ _ h in
    record {
      going = i ∙ sym (ap (λ p. p.0) g);
      told = j;
      sound = w (fits_le n 63 h);
      transcript = subst (λ (xs : List Told). Adds (all_told s ++ told_line l ∷ xs) a c) (sym (ap (λ p. p.1) g))
          (adds_then (all_told s) (told_line l ∷ []) a b c x (adds_one (told_line l) (echo_of l) b c refl y));
    }

-- A LINE OF THE SCRIPT
pub passed_over : (l : List ℕ) (s : Option Section) (a : List ℕ) (x : Option Step) → asked_in (Ok x) ≡ line_asks l → x ≡ None → IsSound s → LineTaken l s s a a (Ok tt)
passed_over l s a x e k w =
    let n : Ok None ≡ line_asks l = subst (λ (y : Option Step). asked_in (Ok y) ≡ line_asks l) k e in
    ([], [], ap (λ r. read_done l r (going_of s)) (sym n), append-nil (pending s), adds_none a a refl, w)

ends_told : (s : Option Section) (xs : List Told) → pending s ++ (end_told (going_of s) ++ xs) ≡ (all_told s ++ xs) ++ []
ends_told None xs = sym (append-nil xs)
ends_told (Some s) xs = sym (append_assoc (section_told s) (block_told true s) xs) ∙ sym (append-nil ((section_told s ++ block_told true s) ++ xs))

pub began : (l : List ℕ) (old new : Option Section) (a b : List ℕ) (x : Option Step) (y : Step) (o : Output) (n : ℕ) → asked_in (Ok x) ≡ line_asks l → x ≡ Some y → asked y ≡ begins o n
    → Begins l o n old new a b → LineTaken l old new a b (Ok tt)
began l old new a b x y o n e k i h =
    let m : Ok (Some (asked y)) ≡ line_asks l = subst (λ (z : Option Step). asked_in (Ok z) ≡ line_asks l) k e in
    let j : Ok (Some (begins o n)) ≡ line_asks l = ap (λ z. Ok (Some z)) (sym i) ∙ m in (
      end_told (going_of old) ++ told_line l ∷ (begun o n).1,
      all_told old ++ told_line l ∷ (begun o n).1,
      ap (λ r. read_done l r (going_of old)) (sym j) ∙ ap (λ g. Ok (g, end_told (going_of old) ++ told_line l ∷ (begun o n).1)) (sym h.going),
      ends_told old (told_line l ∷ (begun o n).1) ∙ ap (λ xs. (all_told old ++ told_line l ∷ (begun o n).1) ++ xs) (sym h.told),
      h.transcript,
      h.sound,
    )

asked_goes : (l : List ℕ) (a : Asked) (g : Going) → GoesOnly a → asked_done l a g ≡ goes_on l a g
asked_goes l (begins o n) g h = absurd h
asked_goes l (sends t) g h = refl
asked_goes l (types t) g h = refl
asked_goes l (calls c) g h = refl
asked_goes l (ticks n) g h = refl
asked_goes l fault g h = refl
asked_goes l state g h = refl

pub gone_on : (l : List ℕ) (old new : Option Section) (a : List ℕ) (x : Option Step) (y : Step) (r : Result (Unit {0}) LineError) → asked_in (Ok x) ≡ line_asks l → x ≡ Some y → GoesOnly (asked y)
    → GoesOn l (asked y) old new r → LineTaken l old new a a r
gone_on l old new a x y (Ok u) e k o h =
    let m : Ok (Some (asked y)) ≡ line_asks l = subst (λ (z : Option Step). asked_in (Ok z) ≡ line_asks l) k e in
    (h.0, [], ap (λ r. read_done l r (going_of old)) (sym m) ∙ asked_goes l (asked y) (going_of old) o ∙ h.1, sym h.2, adds_none a a refl, h.3)
gone_on l old new a x y (Err (Expected w)) e k o h =
    let m : Ok (Some (asked y)) ≡ line_asks l = subst (λ (z : Option Step). asked_in (Ok z) ≡ line_asks l) k e in
    (ap (λ r. read_done l r (going_of old)) (sym m) ∙ asked_goes l (asked y) (going_of old) o ∙ h.0, h.1, refl)
gone_on l old new a x y (Err NoMemory) e k o h = tt

-- A SCRIPT
-- what is told of a script so far: these lines are left, of which the first has the number n
abbrev pub SoFar : Outcome → ℕ → Option Section → List (List ℕ) → List ℕ → List ℕ → Type 0
SoFar whole n s ls a b = (told : List Told) × (whole ≡ (told ++ (pending s ++ (lines_told n (going_of s) ls).0), (lines_told n (going_of s) ls).1)) × Adds told a b

pub line_told : (whole : Outcome) (n : ℕ) (old new : Option Section) (l : List ℕ) (ls : List (List ℕ)) (a b c : List ℕ) → SoFar whole n old (l ∷ ls) a b → LineTaken l old new b c (Ok tt) → SoFar whole (suc n) new ls a c
line_told whole n old new l ls a b c h k =
    let rest : Outcome = lines_told (suc n) (going_of new) ls in
    let e : lines_told n (going_of old) (l ∷ ls) ≡ (k.0 ++ rest.0, rest.1) = ap (λ r. onward n r (λ g. lines_told (suc n) g ls)) k.2 in
    let f : h.0 ++ (pending old ++ (k.0 ++ rest.0)) ≡ (h.0 ++ k.1) ++ (pending new ++ rest.0) =
    ap (λ xs. h.0 ++ xs) (sym (append_assoc (pending old) k.0 rest.0) ∙ ap (λ xs. xs ++ rest.0) k.3 ∙ append_assoc k.1 (pending new) rest.0) ∙ sym (append_assoc h.0 k.1 (pending new ++ rest.0)) in
    (h.0 ++ k.1, h.1 ∙ ap (λ r. (h.0 ++ (pending old ++ r.0), r.1)) e ∙ ap (λ xs. (xs, rest.1)) f, adds_then h.0 k.1 a b c h.2 k.4)

pub line_refused : (whole : Outcome) (n : ℕ) (w : Wanted) (old new : Option Section) (l : List ℕ) (ls : List (List ℕ)) (a b c d : List ℕ) → SoFar whole n old (l ∷ ls) a b → LineTaken l old new b c (Err (Expected w))
    → Adds (pending new) c d → (whole.1 ≡ Err (n, w)) × Adds whole.0 a d
line_refused whole n w old new l ls a b c d h k x =
    let e : lines_told n (going_of old) (l ∷ ls) ≡ ([], Err (n, w)) = ap (λ r. onward n r (λ g. lines_told (suc n) g ls)) k.0 in
    let f : whole ≡ (h.0 ++ pending new, Err (n, w)) = h.1 ∙ ap (λ r. (h.0 ++ (pending old ++ r.0), r.1)) e ∙ ap (λ xs. (h.0 ++ xs, Err (n, w))) (append-nil (pending old) ∙ ap pending (sym k.1)) in
    (ap (λ r. r.1) f, subst (λ (xs : List Told). Adds xs a d) (sym (ap (λ r. r.0) f)) (adds_then h.0 (pending new) a b d h.2 (subst (λ (y : List ℕ). Adds (pending new) y d) k.2 x)))

all_of : (s : Option Section) → pending s ++ end_told (going_of s) ≡ all_told s
all_of None = refl
all_of (Some s) = refl

pub script_ended : (whole : Outcome) (n : ℕ) (s : Option Section) (ls : List (List ℕ)) (a b c : List ℕ) → ls ≡ [] → SoFar whole n s ls a b → Adds (all_told s) b c → (whole.1 ≡ Ok tt) × Adds whole.0 a c
script_ended whole n s ls a b c z h x =
    let f : whole ≡ (h.0 ++ all_told s, Ok tt) = h.1 ∙ ap (λ xs. (h.0 ++ (pending s ++ (lines_told n (going_of s) xs).0), (lines_told n (going_of s) xs).1)) z ∙ ap (λ xs. (h.0 ++ xs, Ok tt)) (all_of s) in
    (ap (λ r. r.1) f, subst (λ (xs : List Told). Adds xs a c) (sym (ap (λ r. r.0) f)) (adds_then h.0 (all_told s) a b c h.2 x))

-- the lines that are left from one on
pub lines_from : (items : List (Bor (List ℕ))) (i : ℕ) (d : Bor (List ℕ)) → i < length items → map (λ b. b.now) (drop i items) ≡ (get_or items i d).now ∷ map (λ b. b.now) (drop (i + 1) items)
lines_from items i d h = ap (map (λ b. b.now)) (drop-cons items i d h) ∙ ap (λ n. (get_or items i d).now ∷ map (λ b. b.now) (drop n items)) (sym (add-one i))

pub told_at : (whole : Outcome) (n : ℕ) (old new : Option Section) (l : List ℕ) (rest ls : List (List ℕ)) (u : Unit {0}) (a b c : List ℕ) → rest ≡ l ∷ ls → SoFar whole n old rest a b → LineTaken l old new b c (Ok u) → SoFar whole (n + 1) new ls a c
told_at whole n old new l rest ls u a b c e h k =
    subst (λ (m : ℕ). SoFar whole m new ls a c) (sym (add-one n)) (line_told whole n old new l ls a b c (subst (λ (xs : List (List ℕ)). SoFar whole n old xs a b) e h) k)

pub refused_at : (whole : Outcome) (n : ℕ) (w : Wanted) (x : LineError) (old new : Option Section) (l : List ℕ) (rest ls : List (List ℕ)) (a b c d : List ℕ) → rest ≡ l ∷ ls → x ≡ Expected w → SoFar whole n old rest a b → LineTaken l old new b c (Err x)
    → Adds (pending new) c d → (whole.1 ≡ Err (n, w)) × Adds whole.0 a d
refused_at whole n w x old new l rest ls a b c d e i h k y =
    line_refused whole n w old new l ls a b c d (subst (λ (xs : List (List ℕ)). SoFar whole n old xs a b) e h) (subst (λ (z : LineError). LineTaken l old new b c (Err z)) i k) y

pub no_lines : (items : List (Bor (List ℕ))) (i : ℕ) → length items ≤ i → map (λ b. b.now) (drop i items) ≡ []
no_lines items i h = ap (map (λ b. b.now)) (drop_all i items h)
