-- Phases that `==` takes for equal are equal.
use Rattle.std.proofs.Common.{◌≡◌, ℕ, ℤ, true, false, refl, ap, rules, Some, None, Option, Bool, ◌&&◌, nat_eq}
use Rattle.std.proofs.lemmas.Bool.{and_parts}
use Rattle.std.specs.Option.{option_eq}
use Rattle.std.specs.Ordering.{int_eq}
use Rattle.std.proofs.Math.Bool.{beq}
use Rattle.steps.specs.declared.direction.Direction.{Direction}
use Rattle.steps.specs.contracts.direction.DirectionPartialEq.TheImpl as direction_impl
use Rattle.phases.specs.declared.phase.Phase.{Phase}
use Rattle.phases.specs.declared.phase.Nature.{Nature}
use Rattle.phases.specs.declared.phase.Inputs.{Inputs}
use Rattle.phases.specs.declared.phase.Link.{Link}
use Rattle.phases.specs.declared.phase.Link.TheVariants as link
use Rattle.phases.specs.contracts.phase.PhasePartialEq.TheImpl as phase_impl
use Rattle.phases.specs.contracts.phase.NaturePartialEq.TheImpl as nature_impl
use Rattle.phases.specs.contracts.phase.InputsPartialEq.TheImpl as inputs_impl

written_same : (a b : Bool) → beq a b ≡ true → a ≡ b
written_same a b e = search (rules, e)

direction_same : (a b : Direction) → direction_impl.ghosts.eq a b ≡ true → a ≡ b
direction_same a b e = search (rules, e)

nature_same : (a b : Nature) → nature_impl.ghosts.eq a b ≡ true → a ≡ b
nature_same a b e = search (rules, e)

set_point_same : (a b : ℤ) → int_eq a b ≡ true → a ≡ b
set_point_same a b e = search (rules, e)

number_same : (a b : ℕ) → nat_eq a b ≡ true → a ≡ b
number_same a b e = search (rules, e)

inputs_same : (a b : Inputs) → inputs_impl.ghosts.eq a b ≡ true → a ≡ b
inputs_same a b e = search (rules, e)

-- what the derived `==` of links answers
module _ (eq : Link ℕ → Link ℕ → Bool) (ss : (n m : ℕ) → eq (link.Sequence n) (link.Sequence m) ≡ nat_eq n m) (sq : (n m : ℕ) → eq (link.Sequence n) (link.SubSequence m) ≡ false) (qs : (n m : ℕ) → eq (link.SubSequence n) (link.Sequence m) ≡ false) (qq : (n m : ℕ) → eq (link.SubSequence n) (link.SubSequence m) ≡ nat_eq n m) where
  link_same : (a b : Link ℕ) → eq a b ≡ true → a ≡ b
  link_same (link.Sequence n) (link.Sequence m) e = ap link.Sequence (search (rules, e, ss n m))
  link_same (link.Sequence n) (link.SubSequence m) e = cc (sq n m)
  link_same (link.SubSequence n) (link.Sequence m) e = cc (qs n m)
  link_same (link.SubSequence n) (link.SubSequence m) e = ap link.SubSequence (search (rules, e, qq n m))

option_same : {A : Type 0} (eq : A → A → Bool) → ((x y : A) → eq x y ≡ true → x ≡ y) → (a b : Option A) → option_eq eq a b ≡ true → a ≡ b
option_same eq h None None e = refl
option_same eq h None (Some n) e = cc
option_same eq h (Some n) None e = cc
option_same eq h (Some n) (Some m) e = ap Some (h n m e)

-- what `==` compares, field by field
module _ (link_eq : Link ℕ → Link ℕ → Bool) where
  tests : Phase → Phase → Bool
  tests a b =
      beq a.written b.written
      && (direction_impl.ghosts.eq a.direction b.direction
      && (nature_impl.ghosts.eq a.nature b.nature
      && (int_eq a.set_point b.set_point
      && (option_eq link_eq a.link b.link
      && (inputs_impl.ghosts.eq a.inputs b.inputs && (option_eq nat_eq a.next b.next && option_eq nat_eq a.outputs b.outputs))))))

-- phases with equal fields are equal
module _ (a b : Phase) (written : a.written ≡ b.written) (direction : a.direction ≡ b.direction) (nature : a.nature ≡ b.nature) (set_point : a.set_point ≡ b.set_point) (link : a.link ≡ b.link) (inputs : a.inputs ≡ b.inputs) (next : a.next ≡ b.next) (outputs : a.outputs ≡ b.outputs) where
  fields_are : a ≡ b
  fields_are = λ i. record {
    written = written i;
    direction = direction i;
    nature = nature i;
    set_point = set_point i;
    link = link i;
    inputs = inputs i;
    next = next i;
    outputs = outputs i;
  }

same_tests : (f : Link ℕ → Link ℕ → Bool) → ((x y : Link ℕ) → f x y ≡ true → x ≡ y) → (a b : Phase) → tests f a b ≡ true → a ≡ b
unfolding tests
same_tests f h a b e =
    let e1 = and_parts (beq a.written b.written) _ e in
    let e2 = and_parts (direction_impl.ghosts.eq a.direction b.direction) _ e1.1 in
    let e3 = and_parts (nature_impl.ghosts.eq a.nature b.nature) _ e2.1 in
    let e4 = and_parts (int_eq a.set_point b.set_point) _ e3.1 in
    let e5 = and_parts (option_eq f a.link b.link) _ e4.1 in
    let e6 = and_parts (inputs_impl.ghosts.eq a.inputs b.inputs) _ e5.1 in
    let e7 = and_parts (option_eq nat_eq a.next b.next) (option_eq nat_eq a.outputs b.outputs) e6.1 in
    fields_are a b (written_same _ _ e1.0) (direction_same _ _ e2.0) (nature_same _ _ e3.0) (set_point_same _ _ e4.0) (option_same f h _ _ e5.0) (inputs_same _ _ e6.0) (option_same nat_eq number_same _ _ e7.0) (option_same nat_eq number_same _ _ e7.1)

pub phase_same : (a b : Phase) → phase_impl.ghosts.eq a b ≡ true → a ≡ b
unfolding tests
phase_same a b e = same_tests _ (link_same _ (λ n m. refl) (λ n m. refl) (λ n m. refl) (λ n m. refl)) a b e
