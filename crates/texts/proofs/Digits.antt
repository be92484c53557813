-- Numbers are read as they are written.
use Rattle.std.proofs.Common.{◌≡◌, ℕ, zero, suc, ◌+◌, ◌*◌, ◌/◌, ◌%◌, ◌^◌, ◌<◌, ◌≤◌, Bool, true, false, cond, List, [], ◌∷◌, ◌++◌, Some, None, codes, Option, ap, ◌∙◌, pow-suc, arith}
use Rattle.std.proofs.lemmas.Bool.{cond-true, ne_eqb, and_left}
use Rattle.std.proofs.lemmas.Bool.Decides.{nat_tests}
use Rattle.std.specs.Str.{bytes_eq}
use Rattle.words.specs.Numbers.{is_digit, digit_value, value_from, value_of}
use Rattle.words.proofs.Spaced.{Solid, solid_push}
use Rattle.words.proofs.Values.{value_long}
use Rattle.replies.specs.Replies.{digits_of, hex_digit, hex_of}
use Rattle.replies.proofs.Writes.{length_digits}

digit_ten : (d : ℕ) → d < 10 → is_digit 10 (48 + d) ≡ true
digit_ten d h = grind (arith, nat_tests)

digit_value_lem : (d : ℕ) → d < 10 → digit_value (48 + d) ≡ d
digit_value_lem d h = grind (arith, nat_tests)

under : (b : Bool) (x y : Option ℕ) (k r : ℕ) → (x ≡ Some k → y ≡ Some r) → cond b x None ≡ Some k → cond b y None ≡ Some r
under true x y k r f e = f e
under false x y k r f e = cc

-- one digit after those that are read
value_push : (m k d : ℕ) (xs : List ℕ) → d < 10 → value_from 10 m xs ≡ Some k → value_from 10 m (xs ++ (48 + d) ∷ []) ≡ Some (k * 10 + d)
value_push m k d [] h e = cond-true _ _ _ (digit_ten d h) ∙ (let same : m ≡ k = cc in ap Some (omega (arith, digit_value_lem d h, same)))
value_push m k d (c ∷ cs) h e = under (is_digit 10 c) (value_from 10 (m * 10 + digit_value c) cs) _ k _ (value_push (m * 10 + digit_value c) k d cs h) e

value_digits : (w n : ℕ) → n < 10 ^ w → value_from 10 0 (digits_of w n) ≡ Some n
unfolding digits_of
value_digits zero n h = ap Some (omega arith)
value_digits (suc w) n h =
    let p = pow-suc 10 w in
    value_push 0 (n / 10) (n % 10) (digits_of w (n / 10)) (omega arith) (value_digits w (n / 10) (omega arith)) ∙ ap Some (omega arith)

pub digits_read : (w n : ℕ) → n < 10 ^ w → 1 ≤ w → w ≤ 10 → value_of 10 10 (digits_of w n) ≡ Some n
digits_read w n h k l = value_long 10 10 (digits_of w n) (omega (arith, length_digits w n)) (omega (arith, length_digits w n)) ∙ value_digits w n h

pub digits_solid : (w n : ℕ) → Solid (digits_of w n)
unfolding digits_of
digits_solid zero n = tt
digits_solid (suc w) n = solid_push (digits_of w (n / 10)) _ (digits_solid w (n / 10)) (λ e. omega arith)

-- two digits are not XX
pub digits_not_xx : (n : ℕ) → bytes_eq (digits_of 2 n) (codes "XX") ≡ false
unfolding digits_of
digits_not_xx n = and_left _ _ (ne_eqb (48 + n / 10 % 10) 88 (λ e. omega arith))

hex_digit_lem : (v : ℕ) → v < 16 → is_digit 16 (hex_digit v) ≡ true
hex_digit_lem v h = grind (arith, nat_tests)

hex_value : (v : ℕ) → v < 16 → digit_value (hex_digit v) ≡ v
hex_value v h = grind (arith, nat_tests)

hex_letter : (v : ℕ) → v < 16 → hex_digit v < 71
hex_letter v h = grind (arith, nat_tests)

hex_solid_digit : (v : ℕ) → 48 ≤ hex_digit v
hex_solid_digit v = grind (arith, nat_tests)

pub hex_read : (n : ℕ) → n < 256 → value_of 16 8 (hex_of n) ≡ Some n
hex_read n h =
    let a : n / 16 < 16 = omega arith in
    let b : n % 16 < 16 = omega arith in
    cond-true _ _ _ (hex_digit_lem (n / 16) a) ∙ cond-true _ _ _ (hex_digit_lem (n % 16) b) ∙ ap Some (omega (arith, hex_value (n / 16) a, hex_value (n % 16) b))

pub hex_solid : (n : ℕ) → Solid (hex_of n)
hex_solid n = (λ e. omega (arith, hex_solid_digit (n / 16)), (λ e. omega (arith, hex_solid_digit (n % 16)), tt))

pub hex_not_xx : (n : ℕ) → n < 256 → bytes_eq (hex_of n) (codes "XX") ≡ false
hex_not_xx n h = let a : n / 16 < 16 = omega arith in and_left _ _ (ne_eqb (hex_digit (n / 16)) 88 (λ e. omega (arith, hex_letter (n / 16) a)))
