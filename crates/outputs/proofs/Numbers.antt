-- The number of a dry-run output and its place.
use Rattle.std.proofs.Common.{◌≡◌, ℕ, zero, suc, ◌^◌, ◌<◌, Bool, true, false, List, [], ◌∷◌, ℤ, pos, negsuc, ◌+ℤ◌, ◌≤ℤ◌, refl, sym, ap, ◌∙◌, arith}
use Rattle.std.proofs.lemmas.Int.{by_lt_z}
use borrow.Author.Differences.{ints}
use Rattle.steps.specs.declared.direction.Direction.{Direction}
use Rattle.steps.specs.declared.direction.Direction.TheVariants.{Forward, Back}
use Rattle.steps.specs.Directions.{one_step}
use Rattle.steps.specs.Wrap.{modulo24, wrapped24}
use Rattle.steps.proofs.Wrap.{wrapped_modulo, wrapped_fits, wrapped_up, wrapped_down}
use Rattle.outputs.specs.Meaning.{Meaning, moved, stepped}
use Rattle.outputs.specs.DryRuns.{numbered, place_of_number}
use Rattle.outputs.specs.Requests.{after, answers, displacement}
use Rattle.outputs.specs.declared.request.Request.{Request}
use Rattle.outputs.specs.declared.request.Request.TheVariants as ask

pub place_modulo : (z : ℤ) → pos (place_of_number z) ≡ modulo24 z
unfolding modulo24
place_modulo (pos a) = refl
place_modulo (negsuc a) = refl

-- a place is a number that is its own place
pub own_place : (p : ℕ) → p < 2 ^ 24 → p ≡ place_of_number (pos p)
unfolding modulo24
own_place p below = omega arith

-- the number is the place, wrapped
pub number_of_place : (n : ℤ) → negsuc 8388607 ≤ℤ n → n ≤ℤ pos 8388607 → n ≡ wrapped24 (pos (place_of_number n))
number_of_place n low high = sym (ap wrapped24 (place_modulo n) ∙ (wrapped_modulo n ∙ wrapped_fits n low high))

-- the next number is at the next place
next_place : (d : Direction) (n : ℤ) → place_of_number (n +ℤ one_step d) ≡ moved d (place_of_number n)
unfolding modulo24
next_place Forward (pos a) = omega arith
next_place Forward (negsuc zero) = refl
next_place Forward (negsuc (suc a)) =
    let e : negsuc (suc a) +ℤ one_step Forward ≡ negsuc a = omega (arith, ints) in
    ap place_of_number e ∙ omega arith
next_place Back (pos zero) = refl
next_place Back (pos (suc a)) =
    let e : pos (suc a) +ℤ one_step Back ≡ pos a = omega (arith, ints) in
    ap place_of_number e ∙ omega arith
next_place Back (negsuc a) = omega arith

-- wrapping the next number leaves its place
place_of_wrapped : (d : Direction) (n : ℤ) → negsuc 8388607 ≤ℤ n → n ≤ℤ pos 8388607 → place_of_number (wrapped24 (n +ℤ one_step d)) ≡ place_of_number (n +ℤ one_step d)
unfolding wrapped24 modulo24
place_of_wrapped Forward n low high =
    by_lt_z n (pos 8388607) (λ h. ap place_of_number (wrapped_up n low (omega (arith, ints))))
    (λ h. let e : n ≡ pos 8388607 = omega (arith, ints) in rw e refl)
place_of_wrapped Back n low high =
    by_lt_z (negsuc 8388607) n (λ h. ap place_of_number (wrapped_down n (omega (arith, ints)) high))
    (λ h. let e : n ≡ negsuc 8388607 = omega (arith, ints) in rw e refl)

-- the place that a number gives, with this power
abbrev pub at : Bool → ℤ → Meaning
at power n = record { place = place_of_number n; power = power }

pub step_meaning : (d : Direction) (power : Bool) (n : ℤ) → negsuc 8388607 ≤ℤ n → n ≤ℤ pos 8388607 → at power (numbered d power n) ≡ stepped d (at power n)
step_meaning d true n low high = ap (λ p. let m : Meaning = record { place = p; power = true } in m) (place_of_wrapped d n low high ∙ next_place d n)
step_meaning d false n low high = refl

-- the place after a list of requests is that of the number which the steps that were made lead to
pub displaced : (cycle : ℕ) (rs : List Request) (p : ℕ) (power : Bool) (n : ℤ) → p ≡ place_of_number n
    → (after rs (record { place = p; power = power })).place ≡ place_of_number (n +ℤ displacement rs (answers cycle rs (record { place = p; power = power })))
displaced cycle [] p power n e = let s : n ≡ n +ℤ pos 0 = omega (arith, ints) in e ∙ ap place_of_number s
displaced cycle (ask.Step d ∷ rs) p true n e =
    let m : Meaning = record { place = moved d p; power = true } in
    let s : n +ℤ one_step d +ℤ displacement rs (answers cycle rs m) ≡ n +ℤ (one_step d +ℤ displacement rs (answers cycle rs m)) = omega (arith, ints) in
    displaced cycle rs (moved d p) true (n +ℤ one_step d) (ap (moved d) e ∙ sym (next_place d n)) ∙ ap place_of_number s
displaced cycle (ask.Step d ∷ rs) p false n e = displaced cycle rs p false n e
displaced cycle (ask.SetPower on ∷ rs) p power n e = displaced cycle rs p on n e
displaced cycle (ask.Place ∷ rs) p power n e = displaced cycle rs p power n e
displaced cycle (ask.Power ∷ rs) p power n e = displaced cycle rs p power n e
displaced cycle (ask.Cycle ∷ rs) p power n e = displaced cycle rs p power n e
