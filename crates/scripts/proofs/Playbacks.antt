-- What the answers of a section tell.
use Rattle.std.proofs.Common.{◌≡◌, ℕ, suc, ◌+◌, ◌<◌, ◌≤◌, Bool, true, false, List, [], ◌∷◌, ◌++◌, length, map, take, drop, get_or, Option, Ok, Err, Result, OnOk, refl, sym, ap, ◌∙◌, subst, ℤ, pos, append_assoc, append-nil, arith}
use Rattle.std.proofs.Math.ListN.{get_or-map}
use Rattle.std.proofs.Math.Seq.{take-add, drop-cons}
use Rattle.std.proofs.lemmas.List.{take-append-drop, map-append, drop-map, take-map, take_more, drop-drop, length-map, length-take-le, length-drop}
use Rattle.faults.specs.declared.Fault.{Fault}
use Rattle.control.specs.States.{is_busy, Activity}
use Rattle.control.specs.States.Activity.{resting, moving, running}
use Rattle.law.specs.declared.Call.{Call}
use Rattle.law.specs.Events.{Event, event, Answer as Answered}
use Rattle.law.specs.Events.Event.{stopped, skipped, letter, ending, tick, levels, power_up}
use Rattle.law.specs.Events.Answer.{ticked}
use Rattle.law.specs.History.{State, next, answer, answers, after}
use Rattle.module.specs.States.{ModuleState, effects_of, ticked_state, step_of}
use Rattle.module.specs.Machine.{module_device}
use Rattle.history.specs.declared.answer.Answer.{Answer}
use Rattle.history.specs.Histories.{shown}
use Rattle.scripts.specs.declared.playback.Playback.{Playback}
use Rattle.scripts.specs.declared.section.Section.{Section}
use Rattle.scripts.specs.Calls.{one_tick}
use Rattle.scripts.specs.Playbacks.{IsPlayback, Knows, Answers}
use Rattle.scripts.specs.Playing.{cycle_of, busy_in, is_quiet, answer_told, calls_told, after_calls, answers_to, under}
use Rattle.scripts.specs.Sections.{start_of, after_first}
use Rattle.scripts.specs.Told.{Told, Adds}
use Rattle.scripts.specs.Told.Told.{after as told_after}
use Rattle.scripts.specs.Texts.{after_of}
use Rattle.scripts.specs.declared.section.LineKind.{LineKind}
use Rattle.scripts.specs.declared.section.LineKind.TheVariants.{Ticks}
use Rattle.scripts.proofs.Histories.{after_append, answer_at, take_answers}
use Rattle.scripts.proofs.Told.{adds_then, adds_one}

-- answers that are played again stay
pub played_again : (n : ℕ) (old new : List (Result Answer Fault)) (all : List Answered) → map shown old ≡ all → map shown (take n new) ≡ take n all → drop n new ≡ drop n old → map shown new ≡ all
played_again n old new all e f g =
    ap (map shown) (sym (take-append-drop n new)) ∙ map-append shown (take n new) (drop n new) ∙ ap (λ xs. xs ++ map shown (drop n new)) f ∙ ap (λ xs. take n all ++ map shown xs) g ∙ ap (λ xs. take n all ++ xs) (sym (drop-map shown n old) ∙ ap (drop n) e) ∙ take-append-drop n all

-- the answers of the first calls
pub first_answers : (s : Section) (n : ℕ) → answers_to (cycle_of s.output) (take n s.calls.items) (start_of s) ≡ take n (answers_to (cycle_of s.output) s.calls.items (start_of s))
first_answers s n = ap (answers (module_device (cycle_of s.output)) (start_of s)) (sym (take-map event n s.calls.items)) ∙ sym (take_answers (module_device (cycle_of s.output)) n (start_of s) (map event s.calls.items))

-- at rest a tick makes no step and begins nothing
rest_ticks : (m : ModuleState) (a : Activity) → m.control.activity ≡ a → is_busy a ≡ false → (step_of (effects_of m) m.axis ≡ pos 0) × (is_busy (ticked_state m).control.activity ≡ false)
unfolding ticked_state
rest_ticks m resting e h = (rw e refl, rw e refl)
rest_ticks m (moving mo) e h = let f : true ≡ false = h in cc
rest_ticks m (running r) e h = let f : true ≡ false = h in cc

quiet : (step : ℤ) (busy : Bool) → step ≡ pos 0 → busy ≡ false → is_quiet false step busy ≡ true
quiet step busy e f = rw (e, f) refl

begins_nothing : (cycle : ℕ) (s : State (module_device cycle)) (e : Event) (step : ℤ) (busy : Bool) → answer (module_device cycle) s e ≡ ticked step busy → busy_in cycle s ≡ false → is_quiet false step busy ≡ true
begins_nothing cycle s (stopped f) step busy a h = cc
begins_nothing cycle s skipped step busy a h = cc
begins_nothing cycle s (letter x) step busy a h = cc
begins_nothing cycle s ending step busy a h = cc
begins_nothing cycle s tick step busy a h =
    let r = rest_ticks s.core.rest s.core.rest.control.activity refl h in
    let m : step_of (effects_of s.core.rest) s.core.rest.axis ≡ step = cc in
    let n : is_busy (ticked_state s.core.rest).control.activity ≡ busy = cc in
    quiet step busy (sym m ∙ r.0) (sym n ∙ r.1)
begins_nothing cycle s (levels v) step busy a h = cc
begins_nothing cycle s power_up step busy a h = cc

pub was_busy : (cycle : ℕ) (s : State (module_device cycle)) (step : ℤ) (busy : Bool) → Answers cycle s (ticked step busy) → is_quiet false step busy ≡ false → true ≡ busy_in cycle s
was_busy cycle s step busy a q =
    (elim (busy_in cycle s) as (λ b. busy_in cycle s ≡ b → true ≡ b) [
      | true ↦ λ e. refl
      | false ↦ λ e. let k = begins_nothing cycle s a.0 step busy a.1 e in cc
    ]) refl

-- the next call of a section, and the state after it
abbrev pub call_at : Section → ℕ → Call
call_at s k = get_or s.calls.items k one_tick

pub after_one : (s : Section) (k : ℕ) → k < length s.calls.items → after_first s (k + 1) ≡ next (module_device (cycle_of s.output)) (after_first s k) (event (call_at s k))
after_one s k h =
    ap (λ cs. after (module_device (cycle_of s.output)) (start_of s) (map event cs)) (take_more s.calls.items k one_tick h)
    ∙ ap (after (module_device (cycle_of s.output)) (start_of s)) (map-append event (take k s.calls.items) (call_at s k ∷ []))
    ∙ after_append (module_device (cycle_of s.output)) (start_of s) (map event (take k s.calls.items)) (event (call_at s k) ∷ [])

pub next_answer : (s : Section) (p : Playback) (r : Result Answer Fault) → IsPlayback s p → p.told < length s.calls.items → r ≡ get_or p.answers.items p.told r → answer (module_device (cycle_of s.output)) (after_first s p.told) (event (call_at s p.told)) ≡ shown r
next_answer s p r i h e =
    let long : p.told < length (map event s.calls.items) = rw length-map h in
    let a = answer_at (module_device (cycle_of s.output)) p.told (start_of s) (map event s.calls.items) (shown r) (event one_tick) long in
    let t : take p.told (map event s.calls.items) ≡ map event (take p.told s.calls.items) = take-map event p.told s.calls.items in
    let g : get_or (map event s.calls.items) p.told (event one_tick) ≡ event (call_at s p.told) = get_or-map event s.calls.items p.told one_tick in
    let u : get_or (map shown p.answers.items) p.told (shown r) ≡ shown (get_or p.answers.items p.told r) = get_or-map shown p.answers.items p.told r in
    sym (ap shown e ∙ sym u ∙ ap (λ xs. get_or xs p.told (shown r)) i.answers ∙ a ∙ ap (λ xs. answer (module_device (cycle_of s.output)) (after (module_device (cycle_of s.output)) (start_of s) xs) (get_or (map event s.calls.items) p.told (event one_tick))) t ∙ ap (answer (module_device (cycle_of s.output)) (after_first s p.told)) g)

pub told_one : (s : Section) (p : Playback) (r : Result Answer Fault) (n : ℕ) (old new : List ℕ) → IsPlayback s p → p.told < length s.calls.items → r ≡ get_or p.answers.items p.told r
    → Adds (answer_told n (busy_in (cycle_of s.output) (after_first s p.told)) (shown r)) old new
    → Adds (calls_told (cycle_of s.output) n (after_first s p.told) (map event (take 1 (drop p.told s.calls.items)))) old new
told_one s p r n old new i h e a =
    let d : drop p.told s.calls.items ≡ call_at s p.told ∷ drop (suc p.told) s.calls.items = drop-cons s.calls.items p.told one_tick h in
    let f : answer_told n (busy_in (cycle_of s.output) (after_first s p.told)) (shown r) ≡ calls_told (cycle_of s.output) n (after_first s p.told) (map event (take 1 (call_at s p.told ∷ drop (suc p.told) s.calls.items))) =
    ap (answer_told n (busy_in (cycle_of s.output) (after_first s p.told))) (sym (next_answer s p r i h e)) ∙ sym (append-nil _) in
    subst (λ (xs : List Told). Adds xs old new) (f ∙ ap (λ cs. calls_told (cycle_of s.output) n (after_first s p.told) (map event (take 1 cs))) (sym d)) a

pub calls_told_append : (cycle n : ℕ) (s : State (module_device cycle)) (h k : List Event) → calls_told cycle n s (h ++ k) ≡ calls_told cycle n s h ++ calls_told cycle (n + length h) (after (module_device cycle) s h) k
calls_told_append cycle n s [] k = let z : n ≡ n + 0 = omega arith in ap (λ m. calls_told cycle m s k) z
calls_told_append cycle n s (e ∷ h) k =
    let z : suc n + length h ≡ n + suc (length h) = omega arith in
    ap (λ xs. answer_told n (busy_in cycle s) (answer (module_device cycle) s e) ++ xs) (calls_told_append cycle (suc n) (next (module_device cycle) s e) h k ∙ ap (λ m. calls_told cycle (suc n) (next (module_device cycle) s e) h ++ calls_told cycle m (after (module_device cycle) (next (module_device cycle) s e) h) k) z)
    ∙ sym (append_assoc (answer_told n (busy_in cycle s) (answer (module_device cycle) s e)) (calls_told cycle (suc n) (next (module_device cycle) s e) h) (calls_told cycle (n + suc (length h)) (after (module_device cycle) (next (module_device cycle) s e) h) k))

-- the state after more calls
pub after_more : (s : Section) (k n : ℕ) → after_first s (k + n) ≡ after_calls (cycle_of s.output) (take n (drop k s.calls.items)) (after_first s k)
after_more s k n =
    ap (λ cs. after (module_device (cycle_of s.output)) (start_of s) (map event cs)) (take-add k n s.calls.items)
    ∙ ap (after (module_device (cycle_of s.output)) (start_of s)) (map-append event (take k s.calls.items) (take n (drop k s.calls.items)))
    ∙ after_append (module_device (cycle_of s.output)) (start_of s) (map event (take k s.calls.items)) (map event (take n (drop k s.calls.items)))

-- the calls of a line, one more of them being told
pub told_more : (s : Section) (k i : ℕ) (a b c : List ℕ) → k + i < length s.calls.items
    → Adds (calls_told (cycle_of s.output) 1 (after_first s k) (map event (take i (drop k s.calls.items)))) a b
    → Adds (calls_told (cycle_of s.output) (i + 1) (after_first s (k + i)) (map event (take 1 (drop (k + i) s.calls.items)))) b c
    → Adds (calls_told (cycle_of s.output) 1 (after_first s k) (map event (take (i + 1) (drop k s.calls.items)))) a c
told_more s k i a b c h x y =
    let size : length (map event (take i (drop k s.calls.items))) ≡ i = length-map (take i (drop k s.calls.items)) event ∙ length-take-le i (drop k s.calls.items) (omega (arith, length-drop k s.calls.items)) in
    let n : i + 1 ≡ 1 + length (map event (take i (drop k s.calls.items))) = omega (arith, size) in
    let e : calls_told (cycle_of s.output) 1 (after_first s k) (map event (take (i + 1) (drop k s.calls.items)))
    ≡ calls_told (cycle_of s.output) 1 (after_first s k) (map event (take i (drop k s.calls.items))) ++ calls_told (cycle_of s.output) (i + 1) (after_first s (k + i)) (map event (take 1 (drop (k + i) s.calls.items))) =
    ap (λ cs. calls_told (cycle_of s.output) 1 (after_first s k) (map event cs)) (take-add i 1 (drop k s.calls.items))
    ∙ ap (calls_told (cycle_of s.output) 1 (after_first s k)) (map-append event (take i (drop k s.calls.items)) (take 1 (drop i (drop k s.calls.items))))
    ∙ calls_told_append (cycle_of s.output) 1 (after_first s k) (map event (take i (drop k s.calls.items))) (map event (take 1 (drop i (drop k s.calls.items))))
    ∙ ap (λ cs. calls_told (cycle_of s.output) 1 (after_first s k) (map event (take i (drop k s.calls.items))) ++ calls_told (cycle_of s.output) (1 + length (map event (take i (drop k s.calls.items)))) (after (module_device (cycle_of s.output)) (after_first s k) (map event (take i (drop k s.calls.items)))) (map event (take 1 cs))) (drop-drop i k s.calls.items)
    ∙ ap (λ m. calls_told (cycle_of s.output) 1 (after_first s k) (map event (take i (drop k s.calls.items))) ++ calls_told (cycle_of s.output) m (after (module_device (cycle_of s.output)) (after_first s k) (map event (take i (drop k s.calls.items)))) (map event (take 1 (drop (k + i) s.calls.items)))) (sym n)
    ∙ ap (λ t. calls_told (cycle_of s.output) 1 (after_first s k) (map event (take i (drop k s.calls.items))) ++ calls_told (cycle_of s.output) (i + 1) t (map event (take 1 (drop (k + i) s.calls.items)))) (sym (after_more s k i)) in
    subst (λ (xs : List Told). Adds xs a c) (sym e) (adds_then _ _ a b c x y)

-- a section after another call is told
pub advanced : (s : Section) (p q : Playback) (b : Option Bool) → IsPlayback s p → p.told < length s.calls.items → q ≡ record p { answers = q.answers } → IsPlayback s q
    → Knows b (busy_in (cycle_of s.output) (next (module_device (cycle_of s.output)) (after_first s p.told) (event (call_at s p.told))))
    → IsPlayback s (record q { told = q.told + 1; busy = b })
advanced s p q b i h e j k =
    let t : q.told ≡ p.told = ap (λ (r : Playback). r.told) e in
    record {
      section = j.section;
      address = j.address;
      all = j.all;
      answers = j.answers;
      told = omega arith;
      busy = subst (λ (n : ℕ). Knows b (busy_in (cycle_of s.output) (after_first s (n + 1)))) (sym t) (subst (λ (m : State (module_device (cycle_of s.output))). Knows b (busy_in (cycle_of s.output) m)) (sym (after_one s p.told h)) k);
    }

-- the same of a section and a count that are these
pub told_more_at : (s r : Section) (k n i : ℕ) (a b c : List ℕ) → r ≡ s → n ≡ k + i → k + i < length s.calls.items
    → Adds (calls_told (cycle_of s.output) 1 (after_first s k) (map event (take i (drop k s.calls.items)))) a b
    → Adds (calls_told (cycle_of r.output) (i + 1) (after_first r n) (map event (take 1 (drop n r.calls.items)))) b c
    → Adds (calls_told (cycle_of s.output) 1 (after_first s k) (map event (take (i + 1) (drop k s.calls.items)))) a c
told_more_at s r k n i a b c e f h x y =
    told_more s k i a b c h x
    (subst (λ (t : Section). Adds (calls_told (cycle_of t.output) (i + 1) (after_first t (k + i)) (map event (take 1 (drop (k + i) t.calls.items)))) b c) e
    (subst (λ (m : ℕ). Adds (calls_told (cycle_of r.output) (i + 1) (after_first r m) (map event (take 1 (drop m r.calls.items)))) b c) f y))

-- what a call that may fail for want of memory leaves
pub on_ok_both : {T E P Q R : Type 0} (r : Result T E) → (P → Q → R) → OnOk r P → OnOk r Q → OnOk r R
on_ok_both (Ok x) f p q = f p q
on_ok_both (Err e) f p q = tt

-- a line of ticks
pub ticks_told : (s : Section) (k n : ℕ) (busy : Bool) (a b c : List ℕ) → k + n ≤ length s.calls.items
    → Adds (calls_told (cycle_of s.output) 1 (after_first s k) (map event (take n (drop k s.calls.items)))) a b
    → busy ≡ busy_in (cycle_of s.output) (after_first s (k + n)) → c ≡ b ++ after_of n busy
    → Adds (under (cycle_of s.output) Ticks (take n (drop k s.calls.items)) (after_first s k)) a c
ticks_told s k n busy a b c h x e f =
    let size : length (take n (drop k s.calls.items)) ≡ n = length-take-le n (drop k s.calls.items) (omega (arith, length-drop k s.calls.items)) in
    let g : busy ≡ busy_in (cycle_of s.output) (after_calls (cycle_of s.output) (take n (drop k s.calls.items)) (after_first s k)) = e ∙ ap (busy_in (cycle_of s.output)) (after_more s k n) in
    subst (λ (m : ℕ). Adds (calls_told (cycle_of s.output) 1 (after_first s k) (map event (take n (drop k s.calls.items))) ++ told_after m (busy_in (cycle_of s.output) (after_calls (cycle_of s.output) (take n (drop k s.calls.items)) (after_first s k))) ∷ []) a c) (sym size)
    (subst (λ (d : Bool). Adds (calls_told (cycle_of s.output) 1 (after_first s k) (map event (take n (drop k s.calls.items))) ++ told_after n d ∷ []) a c) g
    (adds_then _ _ a b c x (adds_one (told_after n busy) (after_of n busy) b c refl f)))

pub ticks_told_at : (s r : Section) (kind : LineKind) (k m n : ℕ) (busy : Bool) (a b c : List ℕ) → kind ≡ Ticks → r ≡ s → m ≡ k + n → k + n ≤ length s.calls.items
    → Adds (calls_told (cycle_of s.output) 1 (after_first s k) (map event (take n (drop k s.calls.items)))) a b
    → busy ≡ busy_in (cycle_of r.output) (after_first r m) → c ≡ b ++ after_of n busy
    → Adds (under (cycle_of s.output) kind (take n (drop k s.calls.items)) (after_first s k)) a c
ticks_told_at s r kind k m n busy a b c i e f h x y z =
    subst (λ (l : LineKind). Adds (under (cycle_of s.output) l (take n (drop k s.calls.items)) (after_first s k)) a c) (sym i)
    (ticks_told s k n busy a b c h x
    (subst (λ (t : Section). busy ≡ busy_in (cycle_of t.output) (after_first t (k + n))) e (subst (λ (j : ℕ). busy ≡ busy_in (cycle_of r.output) (after_first r j)) f y)) z)
