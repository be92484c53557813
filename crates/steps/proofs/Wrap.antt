-- Numbers modulo 2^24, and wrapped to 24 bits.
use Rattle.std.proofs.Common.{◌≡◌, ℕ, suc, ◌+◌, ◌-◌, ◌*◌, ◌/◌, ◌%◌, ◌^◌, ◌<◌, ℤ, pos, negsuc, ◌+ℤ◌, ◌-ℤ◌, ◌≤ℤ◌, sym, refl, ap, ◌∙◌, arith}
use borrow.Author.Differences.{ints}
use Rattle.steps.specs.Wrap.{modulo24, wrapped24}

-- z and its remainder r differ by whole turns: t turns down, u turns up
record Turns (z : ℤ) : Type 0 where
  r : ℕ
  t : ℕ
  u : ℕ
  is : modulo24 z ≡ pos r
  small : r < 16777216
  sum : z +ℤ pos (16777216 * u) ≡ pos (r + 16777216 * t)

turns : (z : ℤ) → Turns z
unfolding modulo24
turns (pos a) = record { r = a % 16777216; t = a / 16777216; u = 0; is = refl; small = omega arith; sum = omega (arith, ints) }
turns (negsuc a) =
    record { r = 16777216 - 1 - a % 16777216; t = 0; u = suc (a / 16777216); is = refl; small = omega arith; sum = omega (arith, ints) }

-- numbers that differ by whole turns have one remainder
same_remainder : (y z : ℤ) (t u : ℕ) → y +ℤ pos (16777216 * t) ≡ z +ℤ pos (16777216 * u) → modulo24 y ≡ modulo24 z
same_remainder y z t u e =
    let p = turns y in let q = turns z in
    let same : p.r ≡ q.r = omega (arith, ints) in
    p.is ∙ (ap pos same ∙ sym q.is)

-- a number may be wrapped, or taken modulo 2^24, on the way
pub wrapped_step : (x d : ℤ) → wrapped24 (wrapped24 x +ℤ d) ≡ wrapped24 (x +ℤ d)
unfolding wrapped24
wrapped_step x d =
    let p = turns (x +ℤ pos 8388608) in
    ap (λ z. z -ℤ pos 8388608)
    (same_remainder (modulo24 (x +ℤ pos 8388608) -ℤ pos 8388608 +ℤ d +ℤ pos 8388608) (x +ℤ d +ℤ pos 8388608) p.t p.u
    (rw p.is (omega (arith, ints))))

-- a number may be taken modulo 2^24 first
pub wrapped_modulo : (z : ℤ) → wrapped24 (modulo24 z) ≡ wrapped24 z
unfolding wrapped24
wrapped_modulo z =
    let p = turns z in
    ap (λ z. z -ℤ pos 8388608)
    (same_remainder (modulo24 z +ℤ pos 8388608) (z +ℤ pos 8388608) p.t p.u (rw p.is (omega (arith, ints))))

pub wrapped_place : (v y q : ℤ) → wrapped24 (v +ℤ modulo24 y -ℤ q) ≡ wrapped24 (v +ℤ y -ℤ q)
unfolding wrapped24
wrapped_place v y q =
    let p = turns y in
    ap (λ z. z -ℤ pos 8388608)
    (same_remainder (v +ℤ modulo24 y -ℤ q +ℤ pos 8388608) (v +ℤ y -ℤ q +ℤ pos 8388608) p.t p.u
    (rw p.is (omega (arith, ints))))

-- the number taken away may be taken modulo 2^24 first
pub wrapped_less : (x y : ℤ) → wrapped24 (x -ℤ modulo24 y) ≡ wrapped24 (x -ℤ y)
unfolding wrapped24
wrapped_less x y =
    let p = turns y in
    ap (λ z. z -ℤ pos 8388608)
    (same_remainder (x -ℤ modulo24 y +ℤ pos 8388608) (x -ℤ y +ℤ pos 8388608) p.u p.t
    (rw p.is (omega (arith, ints))))

-- one place back is the whole turn but one forward
pub modulo_turn : (p : ℕ) → pos ((p + (2 ^ 24 - 1)) % 2 ^ 24) ≡ modulo24 (pos p +ℤ negsuc 0)
unfolding modulo24
modulo_turn p = same_remainder (pos (p + 16777215)) (pos p +ℤ negsuc 0) 0 1 (omega (arith, ints))

pub wrapped_fits : (z : ℤ) → negsuc 8388607 ≤ℤ z → z ≤ℤ pos 8388607 → wrapped24 z ≡ z
unfolding wrapped24
wrapped_fits z low high =
    let p = turns (z +ℤ pos 8388608) in rw p.is (omega (arith, ints))

pub wrapped_range : (z : ℤ) → (negsuc 8388607 ≤ℤ wrapped24 z) × (wrapped24 z ≤ℤ pos 8388607)
unfolding wrapped24
wrapped_range z =
    let p = turns (z +ℤ pos 8388608) in rw p.is (omega (arith, ints), omega (arith, ints))

pub wrapped_twice : (z : ℤ) → wrapped24 (wrapped24 z) ≡ wrapped24 z
wrapped_twice z = wrapped_fits (wrapped24 z) (wrapped_range z).0 (wrapped_range z).1

-- what a program that counts by one does: at the upper end it goes on at the lower one, and the other way round
pub wrapped_up : (z : ℤ) → negsuc 8388607 ≤ℤ z → z ≤ℤ pos 8388606 → wrapped24 (z +ℤ pos 1) ≡ z +ℤ pos 1
wrapped_up z low high = wrapped_fits (z +ℤ pos 1) (omega (arith, ints)) (omega (arith, ints))

pub wrapped_down : (z : ℤ) → negsuc 8388606 ≤ℤ z → z ≤ℤ pos 8388607 → wrapped24 (z -ℤ pos 1) ≡ z -ℤ pos 1
wrapped_down z low high = wrapped_fits (z -ℤ pos 1) (omega (arith, ints)) (omega (arith, ints))

pub wrapped_top : wrapped24 (pos 8388607 +ℤ pos 1) ≡ negsuc 8388607
unfolding wrapped24 modulo24
wrapped_top = refl

pub wrapped_bottom : wrapped24 (negsuc 8388607 -ℤ pos 1) ≡ pos 8388607
unfolding wrapped24 modulo24
wrapped_bottom = refl
