-- Marks are read as they are written.
use Rattle.std.proofs.Common.{◌≡◌, ℕ, zero, suc, ◌/◌, ◌%◌, ◌^◌, ◌<◌, ◌≤◌, true, length, Some, refl, ap, ◌∙◌, pow-suc, arith}
use lib.Bits.{bit_and, and_step, and_le_l}
use Rattle.std.proofs.lemmas.Bool.{cond-true, eq-eqb, eqb-true, and_from}
use Rattle.std.proofs.lemmas.Bool.Decides.{nat_tests}
use Rattle.words.proofs.Spaced.{Solid}
use Rattle.fields.specs.Fields.{is_mark, named_by, level_by, named_of, levels_of, are_marks, inputs_of}
use Rattle.phases.specs.Phases.{LevelsFit}
use Rattle.texts.specs.Texts.{mark, marks}

mark_is : (a b : ℕ) → is_mark (mark a b) ≡ true
mark_is a b = grind (arith, nat_tests)

mark_named : (a b : ℕ) → a < 2 → named_by (mark a b) ≡ a
mark_named a b h = grind (arith, nat_tests)

mark_level : (a b : ℕ) → a < 2 → b < 2 → b ≤ a → level_by (mark a b) ≡ b
mark_level a b h k l = grind (arith, nat_tests)

mark_solid : (a b : ℕ) → 48 ≤ mark a b
mark_solid a b = grind (arith, nat_tests)

marks_length : (w n l : ℕ) → length (marks w n l) ≡ w
unfolding marks
marks_length zero n l = refl
marks_length (suc w) n l = ap suc (marks_length w (n / 2) (l / 2))

marks_are : (w n l : ℕ) → are_marks (marks w n l) ≡ true
unfolding marks
marks_are zero n l = refl
marks_are (suc w) n l = and_from _ _ (mark_is (n % 2) (l % 2)) (marks_are w (n / 2) (l / 2))

pub marks_solid : (w n l : ℕ) → Solid (marks w n l)
unfolding marks
marks_solid zero n l = tt
marks_solid (suc w) n l = (λ e. omega (arith, mark_solid (n % 2) (l % 2)), marks_solid w (n / 2) (l / 2))

marks_named : (w n l : ℕ) → n < 2 ^ w → named_of (marks w n l) ≡ n
unfolding marks
marks_named zero n l h = omega arith
marks_named (suc w) n l h =
    let p = pow-suc 2 w in
    omega (arith, marks_named w (n / 2) (l / 2) (omega arith), mark_named (n % 2) (l % 2) (omega arith))

marks_levels : (w n l : ℕ) → n < 2 ^ w → bit_and n l ≡ l → levels_of (marks w n l) ≡ l
unfolding marks
marks_levels zero n l h e = omega (arith, and_le_l n l)
marks_levels (suc w) n l h e =
    let p = pow-suc 2 w in
    let s = and_step n l in
    let half : bit_and (n / 2) (l / 2) ≡ l / 2 = omega arith in
    let less : l % 2 ≤ n % 2 = omega arith in
    omega (arith, marks_levels w (n / 2) (l / 2) (omega arith) half, mark_level (n % 2) (l % 2) (omega arith) (omega arith) less)

pub marks_read : (n l : ℕ) → n < 256 → LevelsFit (record { named = n; levels = l }) ≡ true → inputs_of (marks 8 n l) ≡ Some (record { named = n; levels = l })
marks_read n l h f =
    cond-true _ _ _ (and_from _ _ (eq-eqb _ _ (marks_length 8 n l)) (marks_are 8 n l))
    ∙ (λ i. Some (record { named = marks_named 8 n l (omega arith) i; levels = marks_levels 8 n l (omega arith) (eqb-true _ _ f) i }))
