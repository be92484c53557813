-- What is noted of a run while it goes on comes to its rows.
use Rattle.std.proofs.Common.{◌≡◌, ℕ, zero, suc, ◌+◌, ◌-◌, ◌<◌, Bool, true, false, cond, eqb, ltb, List, [], ◌∷◌, ◌++◌, length, take, drop, ℤ, pos, ◌+ℤ◌, Some, None, Option, is_some, refl, sym, ap, ◌∙◌, subst, arith}
use Rattle.std.specs.Prelude.{unwrap_or}
use Rattle.std.specs.Option.{option_map, option_to_list, option_and_then}
use Rattle.std.proofs.lemmas.Int.{ints}
use Rattle.std.proofs.lemmas.Bool.{cond_both, and_parts, eqb-true, ltb-true, ltb-false}
use Rattle.std.proofs.lemmas.Grind.{common_steps}
use Rattle.std.proofs.lemmas.List.Sums.{sum_by-cons}
use Rattle.std.proofs.lemmas.List.{append-nil}
use Rattle.std.proofs.Math.Seq.{take-nil, drop-nil}
use Rattle.phases.specs.declared.phase.Phase.{Phase}
use Rattle.phases.specs.declared.phase.Position.{Position}
use Rattle.law.specs.Events.Event.{tick}
use Rattle.law.specs.History.{State, next}
use Rattle.module.specs.Machine.{module_device}
use Rattle.history.specs.Hosts.{phase_in}
use Rattle.runs.specs.declared.row.Row.{Row}
use Rattle.runs.specs.Ticks.{run_for}
use Rattle.runs.specs.Rows.{entered_in, step_in, ticks_on, steps_in, phase_entered, phases_entered, same_place, together, before, merged, rows_of, listed, times_in, left_out_of}
use Rattle.runs.specs.Notes.{Noted, nothing, completed, begun_row, once_more, entering, counted, with_tick, entered_by, ticked}

-- ---- rows put together

together_assoc : (a b x : Row) → together a (together b x) ≡ together (together a b) x
together_assoc a b x =
    let times : a.times + (b.times + x.times) ≡ a.times + b.times + x.times = omega arith in
    let ticks : a.ticks + (b.ticks + x.ticks) ≡ a.ticks + b.ticks + x.ticks = omega arith in
    let steps : a.steps +ℤ (b.steps +ℤ x.steps) ≡ a.steps +ℤ b.steps +ℤ x.steps = omega (arith, ints) in
    λ i. record { at = a.at; times = times i; entered = a.entered; ticks = ticks i; steps = steps i; counter = x.counter; outputs = a.outputs }

before_both : (r v x : Row) (rs : List Row) → same_place r.at v.at ≡ true → (b : Bool) →
    before r (cond b (together v x ∷ rs) (v ∷ x ∷ rs)) ≡ cond b (together (together r v) x ∷ rs) (together r v ∷ x ∷ rs)
before_both r v x rs h true = ap (λ c. cond c (together r (together v x) ∷ rs) (r ∷ together v x ∷ rs)) h ∙ ap (λ y. y ∷ rs) (together_assoc r v x)
before_both r v x rs h false = ap (λ c. cond c (together r v ∷ x ∷ rs) (r ∷ v ∷ x ∷ rs)) h

-- two rows of one place are put together, whatever comes after
before_same : (r v : Row) → r.at ≡ v.at → same_place r.at v.at ≡ true → (rs : List Row) → before r (before v rs) ≡ before (together r v) rs
before_same r v e h [] = ap (λ c. cond c (together r v ∷ []) (r ∷ v ∷ [])) h
before_same r v e h (x ∷ rs) =
    before_both r v x rs h (same_place v.at x.at)
    ∙ ap (λ q. cond (same_place q x.at) (together (together r v) x ∷ rs) (together r v ∷ x ∷ rs)) (sym e)

before_apart : (r v x : Row) (rs : List Row) → same_place r.at v.at ≡ false → (b : Bool) →
    before r (cond b (together v x ∷ rs) (v ∷ x ∷ rs)) ≡ r ∷ cond b (together v x ∷ rs) (v ∷ x ∷ rs)
before_apart r v x rs h true = ap (λ c. cond c (together r (together v x) ∷ rs) (r ∷ together v x ∷ rs)) h
before_apart r v x rs h false = ap (λ c. cond c (together r v ∷ x ∷ rs) (r ∷ v ∷ x ∷ rs)) h

-- rows of two places stay apart
before_other : (r v : Row) → same_place r.at v.at ≡ false → (rs : List Row) → before r (before v rs) ≡ r ∷ before v rs
before_other r v h [] = ap (λ c. cond c (together r v ∷ []) (r ∷ v ∷ [])) h
before_other r v h (x ∷ rs) = before_apart r v x rs h (same_place v.at x.at)

same_place_is : (q r : Position) → same_place q r ≡ true → q ≡ r
same_place_is q r h =
    let both = and_parts (eqb q.sequence r.sequence) (eqb q.phase r.phase) h in
    let one = eqb-true q.sequence r.sequence both.0 in
    let two = eqb-true q.phase r.phase both.1 in
    λ i. record { sequence = one i; phase = two i }

-- ---- what is listed in the end, where these rows come after those that are noted

abbrev pub listing : Noted → List Row → List Row × ℕ
listing n rs = (n.rows ++ take (1000 - length n.rows) rs, n.left_out + times_in (drop (1000 - length n.rows) rs))

room : (rows : List Row) (r : Row) → length rows < 1000 → 1000 - length rows ≡ suc (1000 - length (rows ++ r ∷ []))
room rows r h = grind (arith, common_steps)

listing_room : (rows rs : List Row) (lo : ℕ) (r : Row) (k : ℕ) → length rows < 1000 → 1000 - length rows ≡ k →
    listing (record { rows = rows ++ r ∷ []; left_out = lo; last = None; going = false }) rs ≡ (rows ++ take k (r ∷ rs), lo + times_in (drop k (r ∷ rs)))
listing_room rows rs lo r k h e =
    let d = 1000 - length (rows ++ r ∷ []) in
    let front : (rows ++ r ∷ []) ++ take d rs ≡ rows ++ take (suc d) (r ∷ rs) = grind (arith, common_steps) in
    let back : lo + times_in (drop d rs) ≡ lo + times_in (drop (suc d) (r ∷ rs)) = refl in
    let is : suc d ≡ k = sym (room rows r h) ∙ e in
    (λ i. (front i, back i)) ∙ ap (λ m. (rows ++ take m (r ∷ rs), lo + times_in (drop m (r ∷ rs)))) is

listing_full : (rows rs : List Row) (lo : ℕ) (r : Row) (k : ℕ) → k ≡ 0 →
    ◌≡◌ {A = List Row × ℕ} (rows ++ take k rs, lo + r.times + times_in (drop k rs)) (rows ++ take k (r ∷ rs), lo + times_in (drop k (r ∷ rs)))
listing_full rows rs lo r k e =
    let out : lo + r.times + times_in rs ≡ lo + times_in (r ∷ rs) = omega (arith, sum_by-cons (λ (x : Row). x.times) r rs) in
    subst (λ m. ◌≡◌ {A = List Row × ℕ} (rows ++ take m rs, lo + r.times + times_in (drop m rs)) (rows ++ take m (r ∷ rs), lo + times_in (drop m (r ∷ rs)))) (sym e) (λ i. (rows ++ [], out i))

completed_listing : (n : Noted) (r : Row) (rs : List Row) → listing (completed n (Some r)) rs ≡ listing n (r ∷ rs)
completed_listing n r rs =
    cond_both (ltb (length n.rows) 1000) _ _ (λ (m : Noted). listing m rs ≡ listing n (r ∷ rs))
    (λ t. listing_room n.rows rs n.left_out r (1000 - length n.rows) (ltb-true (length n.rows) 1000 t) refl)
    (λ f. let full = ltb-false (length n.rows) 1000 f in listing_full n.rows rs n.left_out r (1000 - length n.rows) (omega arith))

-- ---- the row of the phase that goes on, from a state with so many ticks left

module _ (y : ℕ) where
  abbrev pub after_tick : State (module_device y) → State (module_device y)
  after_tick s = next (module_device y) s tick

  abbrev pub counter_in : State (module_device y) → ℤ
  counter_in s = s.core.rest.axis.counter

  run_for_next : (n : ℕ) (s : State (module_device y)) → run_for y n (after_tick s) ≡ after_tick (run_for y n s)
  run_for_next zero s = refl
  run_for_next (suc n) s = ap after_tick (run_for_next n s)

  abbrev ticked_row : State (module_device y) → Row → Row
  ticked_row s r = counted (step_in y s) (counter_in (after_tick s)) r

  abbrev pub extended : ℕ → State (module_device y) → Row → Row
  extended zero s r = r
  extended (suc left) s r = cond (is_some (entered_in y s)) r (extended left (after_tick s) (ticked_row s r))

  abbrev grown : ℕ → State (module_device y) → Row → Row
  grown d s r = record r { ticks = r.ticks + d; steps = r.steps +ℤ steps_in y d s; counter = counter_in (run_for y d s) }

  grown_by_none : (s : State (module_device y)) (r : Row) → r.counter ≡ counter_in s → r ≡ grown 0 s r
  grown_by_none s r e =
      let ticks : r.ticks ≡ r.ticks + 0 = omega arith in
      let steps : r.steps ≡ r.steps +ℤ pos 0 = omega (arith, ints) in
      λ i. record r { ticks = ticks i; steps = steps i; counter = e i }

  grown_by_more : (d : ℕ) (s : State (module_device y)) (r : Row) → grown d (after_tick s) (ticked_row s r) ≡ grown (suc d) s r
  grown_by_more d s r =
      let later = after_tick s in
      let ticks : r.ticks + 1 + d ≡ r.ticks + suc d = omega arith in
      let steps : r.steps +ℤ step_in y s +ℤ steps_in y d later ≡ r.steps +ℤ (step_in y s +ℤ steps_in y d later) = omega (arith, ints) in
      let counter : counter_in (run_for y d later) ≡ counter_in (run_for y (suc d) s) = ap counter_in (run_for_next d s) in
      λ i. record r { ticks = ticks i; steps = steps i; counter = counter i }

  extended_at : (left : ℕ) (s : State (module_device y)) (r : Row) → r.counter ≡ counter_in s →
      extended left (after_tick s) (ticked_row s r) ≡ grown (ticks_on y left (after_tick s)) (after_tick s) (ticked_row s r) →
      (b : Bool) → cond b r (extended left (after_tick s) (ticked_row s r)) ≡ grown (cond b 0 (suc (ticks_on y left (after_tick s)))) s r
  extended_at left s r e h true = grown_by_none s r e
  extended_at left s r e h false = h ∙ grown_by_more (ticks_on y left (after_tick s)) s r

  extended_is : (left : ℕ) (s : State (module_device y)) (r : Row) → r.counter ≡ counter_in s → extended left s r ≡ grown (ticks_on y left s) s r
  extended_is zero s r e = grown_by_none s r e
  extended_is (suc left) s r e = extended_at left s r e (extended_is left (after_tick s) (ticked_row s r) refl) (is_some (entered_in y s))

  new_row : (left number : ℕ) (s : State (module_device y)) (at : Position) (p : Phase) →
      extended left (after_tick s) (ticked_row s (begun_row at number (unwrap_or p.outputs s.core.rest.control.outputs))) ≡ phase_entered y left number s at p
  new_row left number s at p =
      let r = begun_row at number (unwrap_or p.outputs s.core.rest.control.outputs) in
      let d = ticks_on y left (after_tick s) in
      let ticks : 0 + suc d ≡ suc d = omega arith in
      let steps : pos 0 +ℤ steps_in y (suc d) s ≡ steps_in y (suc d) s = omega (arith, ints) in
      extended_is left (after_tick s) (ticked_row s r) refl ∙ grown_by_more d s r
      ∙ (λ i. record (phase_entered y left number s at p) { ticks = ticks i; steps = steps i })

  more_row : (left number : ℕ) (s : State (module_device y)) (at : Position) (p : Phase) (r : Row) →
      extended left (after_tick s) (ticked_row s (once_more r)) ≡ together r (phase_entered y left number s at p)
  more_row left number s at p r =
      let d = ticks_on y left (after_tick s) in
      extended_is left (after_tick s) (ticked_row s (once_more r)) refl ∙ grown_by_more d s (once_more r)

  -- ---- what is noted, and what is still to come in so many ticks

  abbrev pub last_row : ℕ → State (module_device y) → Bool → Option Row → Option Row
  last_row left s going last = option_map (λ r. cond going (extended left s r) r) last

  abbrev pub in_the_end : ℕ → ℕ → State (module_device y) → Noted → List Row × ℕ
  in_the_end left number s n = listing n (merged (option_to_list (last_row left s n.going n.last) ++ phases_entered y left number s))

  module _ (left number : ℕ) (s : State (module_device y)) where
    -- the same, where the next tick enters that place, or none
    abbrev upcoming_rows : Option Position → List Row
    upcoming_rows o = option_to_list (option_and_then (λ at. option_map (phase_entered y left number s at) (phase_in y s at)) o)

    abbrev from_here : Noted → Option Position → List Row × ℕ
    from_here n o =
        listing n (merged (option_to_list (option_map (λ r. cond n.going (cond (is_some o) r (extended left (after_tick s) (ticked_row s r))) r) n.last)
        ++ (upcoming_rows o ++ phases_entered y left (suc number) (after_tick s))))

    abbrev one_on : Noted → Option Position → Noted
    one_on n o = with_tick (entered_by y s n number o) (step_in y s) (counter_in (after_tick s))

    whole : (n : Noted) (going : Bool) (r : Row) (rs : List Row) → listing n (before r rs) ≡ listing n (before (cond going r r) rs)
    whole n true r rs = refl
    whole n false r rs = refl

    -- a tick of the phase that goes on
    on_kept : (rows : List Row) (lo : ℕ) (last : Option Row) (going : Bool) →
        let n : Noted = record { rows = rows; left_out = lo; last = last; going = going } in
        in_the_end left (suc number) (after_tick s) (one_on n None) ≡ from_here n None
    on_kept rows lo None true = refl
    on_kept rows lo None false = refl
    on_kept rows lo (Some r) true = refl
    on_kept rows lo (Some r) false = refl

    -- a tick that enters a phase
    enters_kept : (rows : List Row) (lo : ℕ) (last : Option Row) (going : Bool) (at : Position) (o : Option Phase) →
        let n : Noted = record { rows = rows; left_out = lo; last = last; going = going } in
        in_the_end left (suc number) (after_tick s) (with_tick (entering n number at o s.core.rest.control.outputs) (step_in y s) (counter_in (after_tick s)))
        ≡ listing n (merged (option_to_list (option_map (λ r. cond going r r) last)
        ++ (option_to_list (option_map (phase_entered y left number s at) o) ++ phases_entered y left (suc number) (after_tick s))))
    enters_kept rows lo None going at None = refl
    enters_kept rows lo (Some r) true at None = refl
    enters_kept rows lo (Some r) false at None = refl
    enters_kept rows lo None going at (Some p) =
        ap (λ x. listing (record { rows = rows; left_out = lo; last = None; going = true }) (before x (merged (phases_entered y left (suc number) (after_tick s))))) (new_row left number s at p)
    enters_kept rows lo (Some r) going at (Some p) =
        let v = phase_entered y left number s at p in
        let rs = merged (phases_entered y left (suc number) (after_tick s)) in
        let n : Noted = record { rows = rows; left_out = lo; last = Some r; going = going } in
        let first = ticked_row s (begun_row at number (unwrap_or p.outputs s.core.rest.control.outputs)) in
        cond_both (same_place r.at at)
        (record n { last = Some (once_more r); going = true })
        (record (completed n (Some r)) { last = Some (begun_row at number (unwrap_or p.outputs s.core.rest.control.outputs)); going = true })
        (λ (m : Noted). in_the_end left (suc number) (after_tick s) (with_tick m (step_in y s) (counter_in (after_tick s))) ≡ listing n (merged (option_to_list (option_map (λ r. cond going r r) (Some r)) ++ (v ∷ phases_entered y left (suc number) (after_tick s)))))
        (λ h.
        ap (λ x. listing n (before x rs)) (more_row left number s at p r)
        ∙ ap (listing n) (sym (before_same r v (same_place_is r.at at h) h rs)) ∙ whole n going r (before v rs))
        (λ h.
        ap (λ x. listing (completed n (Some r)) (before x rs)) (new_row left number s at p)
        ∙ completed_listing n r (before v rs)
        ∙ ap (listing n) (sym (before_other r v h rs)) ∙ whole n going r (before v rs))

    one_kept : (n : Noted) (o : Option Position) → in_the_end left (suc number) (after_tick s) (one_on n o) ≡ from_here n o
    one_kept n None = on_kept n.rows n.left_out n.last n.going
    one_kept n (Some at) = enters_kept n.rows n.left_out n.last n.going at (phase_in y s at)

  -- a tick changes nothing of what is listed in the end
  pub tick_kept : (left number : ℕ) (s : State (module_device y)) (n : Noted) →
      in_the_end left (suc number) (after_tick s) (ticked y s number n) ≡ in_the_end (suc left) number s n
  tick_kept left number s n = one_kept left number s n (entered_in y s)

  nothing_more : (n : Noted) → ◌≡◌ {A = List Row × ℕ} (n.rows, n.left_out) (listing n [])
  nothing_more n =
      let k = 1000 - length n.rows in
      let rows : n.rows ≡ n.rows ++ take k [] = sym (append-nil n.rows) ∙ ap (λ rs. n.rows ++ rs) (sym (take-nil {A = Row} k)) in
      let zero : times_in [] ≡ 0 = refl in
      let out : n.left_out ≡ n.left_out + times_in (drop k []) = subst (λ rs. n.left_out ≡ n.left_out + times_in rs) (sym (drop-nil {A = Row} k)) (omega (arith, zero)) in
      λ i. (rows i, out i)

  ended_with : (number : ℕ) (s : State (module_device y)) (rows : List Row) (lo : ℕ) (last : Option Row) (going : Bool) →
      let n : Noted = record { rows = rows; left_out = lo; last = last; going = going } in
      ◌≡◌ {A = List Row × ℕ} ((completed n last).rows, (completed n last).left_out) (in_the_end 0 number s n)
  ended_with number s rows lo None going = nothing_more (record { rows = rows; left_out = lo; last = None; going = going })
  ended_with number s rows lo (Some r) true =
      let n : Noted = record { rows = rows; left_out = lo; last = Some r; going = true } in
      nothing_more (completed n (Some r)) ∙ completed_listing n r []
  ended_with number s rows lo (Some r) false =
      let n : Noted = record { rows = rows; left_out = lo; last = Some r; going = false } in
      nothing_more (completed n (Some r)) ∙ completed_listing n r []

  -- what is noted at the end are the rows of the run
  pub rows_noted : (ticks : ℕ) (s e : State (module_device y)) (n : Noted) → in_the_end 0 (suc ticks) e n ≡ in_the_end (ticks + 0) 1 s nothing →
      ((completed n n.last).rows ≡ listed (rows_of y ticks s)) × ((completed n n.last).left_out ≡ left_out_of (rows_of y ticks s))
  rows_noted ticks s e n h =
      let none : ticks + 0 ≡ ticks = omega arith in
      let whole = ended_with (suc ticks) e n.rows n.left_out n.last n.going ∙ h ∙ ap (λ k. in_the_end k 1 s nothing) none in
      let out : 0 + left_out_of (rows_of y ticks s) ≡ left_out_of (rows_of y ticks s) = omega arith in
      (ap (λ (p : List Row × ℕ). p.0) whole, ap (λ (p : List Row × ℕ). p.1) whole ∙ out)
