-- The text of a phase reads as the same phase.
use Rattle.std.proofs.Common.{◌≡◌, ℕ, suc, ◌≤◌, true, ◌&&◌, leb, List, [], ◌∷◌, ◌++◌, ℤ, pos, negsuc, nat_abs, IfSome, Some, None, Ok, codes, Option, sym, refl, ap, ◌∙◌, arith}
use Rattle.std.specs.Option.{option_map}
use Rattle.std.proofs.lemmas.Bool.{cond-true, cond-false, and_parts, and_from, le-leb, leb-true}
use Rattle.std.proofs.lemmas.Bool.Decides.{nat_tests}
use Rattle.faults.specs.Faults.{and_then, past_limit, no_such_phase}
use Rattle.words.specs.Numbers.{value_of}
use Rattle.words.specs.Readings.{end}
use Rattle.words.specs.Tags.{past_field}
use Rattle.words.proofs.Spaced.{Solid, AllSolid, words_spaced}
use Rattle.replies.specs.Replies.{digits_of}
use Rattle.phases.specs.declared.phase.Inputs.{Inputs}
use Rattle.phases.specs.declared.phase.Link.{Link}
use Rattle.phases.specs.declared.phase.Link.TheVariants as link
use Rattle.phases.specs.declared.phase.Nature.{Nature}
use Rattle.phases.specs.declared.phase.Nature.TheVariants.{Relative}
use Rattle.phases.specs.declared.phase.Phase.{Phase}
use Rattle.phases.specs.declared.phase.Position.{Position}
use Rattle.steps.specs.declared.direction.Direction.{Direction}
use Rattle.steps.specs.declared.direction.Direction.TheVariants.{Forward, Back}
use Rattle.fields.specs.declared.fields.RawPosition.{RawPosition}
use Rattle.fields.specs.declared.fields.Amount.{Amount}
use Rattle.fields.specs.declared.fields.Options.{Options}
use Rattle.fields.specs.declared.fields.Action.{Action}
use Rattle.texts.specs.ReadBack.{Bytes, ReadsBack}
use Rattle.fields.specs.Fields.{direction_word, direction_of, set_point_of, inputs_of, amount_of, hexadecimal_of, sequence_of, sub_sequence_of, link_in, past_link, inputs_in, next_in, outputs_in, position_in, action_in, options_in, past_options, sp_form}
use Rattle.phases.specs.Phases.{letters_of, nature_of, Written, InLimits, SetPointFits, LinkFits, NextFits, LevelsFit}
use Rattle.texts.specs.Texts.{set_point_word, link_tag, link_word, number_word, outputs_word, action_words, option_words, phase_words}
use Rattle.fields.specs.Values.{limited, within, position_values, set_point_value, link_value, next_value, outputs_value, record_values, sp_values}
use Rattle.texts.proofs.Digits.{digits_read, digits_solid, digits_not_xx, hex_read, hex_solid, hex_not_xx}
use Rattle.phases.proofs.Limits.{set_point_small}
use Rattle.texts.proofs.MarksBack.{marks_read, marks_solid}

-- what the words of a record say, before their values are tested
raw_link : Option (Link ℕ) → Option (Link Amount)
raw_link None = None
raw_link (Some (link.Sequence n)) = Some (link.Sequence (record { value = n; at = 8 }))
raw_link (Some (link.SubSequence n)) = Some (link.SubSequence (record { value = n; at = 8 }))

raw_amount : ℕ → Option ℕ → Option Amount
raw_amount i None = None
raw_amount i (Some n) = Some (record { value = n; at = i })

raw_action : Phase → Action
raw_action p = record { direction = p.direction; nature = p.nature; set_point = p.set_point }

raw_options : Phase → Options
raw_options p = record { link = raw_link p.link; inputs = p.inputs; next = raw_amount 12 p.next; outputs = raw_amount 14 p.outputs }

-- a field by its words
direction_read : (d : Direction) → direction_of (direction_word d) ≡ Some d
direction_read Forward = refl
direction_read Back = refl

nature_read : (k : Nature) → nature_of (letters_of k) ≡ Some k
nature_read Relative = refl
nature_read _ = refl

set_point_read : (z : ℤ) → nat_abs z ≤ 8388606 → set_point_of (set_point_word z) ≡ Some z
set_point_read (pos n) h = let e = digits_read 7 n (omega arith) (omega arith) (omega arith) in rw e
set_point_read (negsuc n) h = let e = digits_read 7 (suc n) (omega arith) (omega arith) (omega arith) in rw e

two_read : (n : ℕ) → n ≤ 99 → value_of 10 10 (digits_of 2 n) ≡ Some n
two_read n h = digits_read 2 n (omega arith) (omega arith) (omega arith)

next_small : (n : ℕ) → NextFits (Some n) ≡ true → n ≤ 99
next_small n e = grind (arith, nat_tests)

next_read : (o : Option ℕ) → NextFits o ≡ true → amount_of 12 (number_word o) ≡ Some (raw_amount 12 o)
unfolding raw_amount
next_read None e = refl
next_read (Some n) e = let r = two_read n (next_small n e) in cond-false _ _ _ (digits_not_xx n) ∙ rw r

outputs_read : (o : Option ℕ) → IfSome o (λ n. n ≤ 255) → hexadecimal_of 14 (outputs_word o) ≡ Some (raw_amount 14 o)
unfolding raw_amount
outputs_read None h = refl
outputs_read (Some n) h = let r = hex_read n (omega arith) in cond-false _ _ _ (hex_not_xx n (omega arith)) ∙ rw r

sequence_small : (n : ℕ) → (leb 1 n && leb n 99) ≡ true → n ≤ 99
sequence_small n e = leb-true _ _ (and_parts _ _ e).1

number_read : (n : ℕ) → n ≤ 99 → amount_of 8 (digits_of 2 n) ≡ Some (Some (record { value = n; at = 8 }))
number_read n h = let r = two_read n h in cond-false _ _ _ (digits_not_xx n) ∙ rw r

sequence_read : (n : ℕ) → n ≤ 99 → sequence_of 8 (digits_of 2 n) ≡ Some (Some (link.Sequence (record { value = n; at = 8 })))
sequence_read n h = ap (option_map (option_map link.Sequence)) (number_read n h)

sub_sequence_read : (n : ℕ) → n ≤ 99 → sub_sequence_of 8 (digits_of 2 n) ≡ Some (Some (link.SubSequence (record { value = n; at = 8 })))
sub_sequence_read n h = let r = two_read n h in rw r

-- the parts of a phase by their words
position_of : (a b : List ℕ) (n p : ℕ) (ws : List (List ℕ)) → value_of 10 10 a ≡ Some n → value_of 10 10 b ≡ Some p → position_in (a ∷ b ∷ ws, 2) ≡ Ok (record { sequence = n; phase = p })
unfolding position_in
position_of a b n p ws e f = rw (e, f)

action_of : (a b c : List ℕ) (d : Direction) (k : Nature) (z : ℤ) (ws : List (List ℕ)) → direction_of a ≡ Some d → nature_of b ≡ Some k → set_point_of c ≡ Some z → action_in (a ∷ b ∷ c ∷ ws, 4) ≡ Ok (record { direction = d; nature = k; set_point = z })
unfolding action_in
action_of a b c d k z ws e f g = rw (e, f, g)

module _ (l m n o : List ℕ) (e : Inputs) (f g : Option Amount) (has_e : inputs_of m ≡ Some e) (has_f : amount_of 12 n ≡ Some f) (has_g : hexadecimal_of 14 o ≡ Some g) where
  options_sequence : (k : Option (Link Amount)) → sequence_of 8 l ≡ Some k → options_in (codes "NL" ∷ l ∷ codes "NE" ∷ m ∷ codes "NS" ∷ n ∷ codes "NO" ∷ o ∷ [], 7) ≡ Ok (record { link = k; inputs = e; next = f; outputs = g })
  unfolding options_in link_in past_link inputs_in next_in outputs_in past_field
  options_sequence k h = rw (h, has_e, has_f, has_g)

  options_sub_sequence : (k : Option (Link Amount)) → sub_sequence_of 8 l ≡ Some k → options_in (codes "NQ" ∷ l ∷ codes "NE" ∷ m ∷ codes "NS" ∷ n ∷ codes "NO" ∷ o ∷ [], 7) ≡ Ok (record { link = k; inputs = e; next = f; outputs = g })
  unfolding options_in link_in past_link inputs_in next_in outputs_in past_field
  options_sub_sequence k h = rw (h, has_e, has_f, has_g)

module _ (m n o : List ℕ) (e : Inputs) (f g : Option Amount) (has_e : inputs_of m ≡ Some e) (has_f : amount_of 12 n ≡ Some f) (has_g : hexadecimal_of 14 o ≡ Some g) where
  options_by : (k : Option (Link ℕ)) → LinkFits k ≡ true → options_in (link_tag k ∷ link_word k ∷ codes "NE" ∷ m ∷ codes "NS" ∷ n ∷ codes "NO" ∷ o ∷ [], 7) ≡ Ok (record { link = raw_link k; inputs = e; next = f; outputs = g })
  unfolding raw_link
  options_by None h = options_sequence (codes "XX") m n o e f g has_e has_f has_g None refl
  options_by (Some (link.Sequence k)) h = options_sequence (digits_of 2 k) m n o e f g has_e has_f has_g _ (sequence_read k (sequence_small k h))
  options_by (Some (link.SubSequence k)) h = options_sub_sequence (digits_of 2 k) m n o e f g has_e has_f has_g _ (sub_sequence_read k (sequence_small k h))

ends : (k : Option (Link ℕ)) (l m n o : List ℕ) → end (past_options (link_tag k ∷ l ∷ codes "NE" ∷ m ∷ codes "NS" ∷ n ∷ codes "NO" ∷ o ∷ [], 7)) ≡ Ok tt
unfolding past_options past_link past_field
ends None l m n o = refl
ends (Some (link.Sequence k)) l m n o = refl
ends (Some (link.SubSequence k)) l m n o = refl

sp_of : (a b d k c : List ℕ) (A : RawPosition) (M : Action) (C : Options) (tail : List (List ℕ)) → position_in (a ∷ b ∷ d ∷ k ∷ c ∷ tail, 2) ≡ Ok A → action_in (d ∷ k ∷ c ∷ tail, 4) ≡ Ok M → options_in (tail, 7) ≡ Ok C → end (past_options (tail, 7)) ≡ Ok tt → sp_form (a ∷ b ∷ d ∷ k ∷ c ∷ tail, 2) ≡ Ok (record { at = A; action = M; options = C })
sp_of a b d k c A M C tail e f g h = rw (e, f, g, h)

-- the values are within their limits
within_read : (low high : ℕ) (f : _) (n : ℕ) → low ≤ n → n ≤ high → within low high f n ≡ Ok n
unfolding limited
within_read low high f n h k = cond-true _ _ _ (and_from _ _ (le-leb _ _ h) (le-leb _ _ k))

link_tested : (k : Option (Link ℕ)) → LinkFits k ≡ true → link_value (raw_link k) ≡ Ok k
unfolding raw_link link_value limited
link_tested None e = refl
link_tested (Some (link.Sequence n)) e = rw e
link_tested (Some (link.SubSequence n)) e = rw e

next_tested : (o : Option ℕ) → NextFits o ≡ true → next_value (raw_amount 12 o) ≡ Ok o
unfolding raw_amount next_value
next_tested None e = refl
next_tested (Some n) e = rw e

outputs_tested : (o : Option ℕ) → IfSome o (λ n. n ≤ 255) → outputs_value (raw_amount 14 o) ≡ Ok o
unfolding raw_amount outputs_value
outputs_tested None h = refl
outputs_tested (Some n) h = ap (λ r. and_then r (λ k. Ok (Some k))) (within_read 0 255 _ n (omega arith) h)

position_tested : (ns np : ℕ) → (1 ≤ ns) × (ns ≤ 99) → (1 ≤ np) × (np ≤ 50) → position_values (record { sequence = ns; phase = np }) ≡ Ok (record { sequence = ns; phase = np })
unfolding position_values
position_tested ns np h k =
    ap (λ r. and_then r (λ s. and_then (within 1 50 (no_such_phase 3) np) (λ p. Ok (record { sequence = s; phase = p })))) (within_read 1 99 (past_limit 2) ns h.0 h.1)
    ∙ ap (λ r. and_then r (λ p. Ok (record { sequence = ns; phase = p }))) (within_read 1 50 (no_such_phase 3) np k.0 k.1)

-- the parts of what it says that a record is written
module _ (p : Phase) (w : Written p ≡ true) where
  flag : p.written ≡ true
  flag = (and_parts _ _ w).0

  limits : InLimits p ≡ true
  limits = (and_parts p.written (InLimits p) w).1

  set_point_fits : SetPointFits p.nature p.set_point ≡ true
  set_point_fits = (and_parts _ _ limits).0

  rest : (LinkFits p.link && (NextFits p.next && LevelsFit p.inputs)) ≡ true
  rest = (and_parts (SetPointFits p.nature p.set_point) _ limits).1

  link_fits : LinkFits p.link ≡ true
  link_fits = (and_parts _ _ rest).0

  last : (NextFits p.next && LevelsFit p.inputs) ≡ true
  last = (and_parts (LinkFits p.link) _ rest).1

  next_fits : NextFits p.next ≡ true
  next_fits = (and_parts _ _ last).0

  levels_fit : LevelsFit p.inputs ≡ true
  levels_fit = (and_parts (NextFits p.next) _ last).1

record_of : (m : Action) (c : Options) (z : ℤ) (l : Option (Link ℕ)) (f o : Option ℕ) → set_point_value m ≡ Ok z → link_value c.link ≡ Ok l → next_value c.next ≡ Ok f → outputs_value c.outputs ≡ Ok o → record_values m c ≡ Ok (record { written = true; direction = m.direction; nature = m.nature; set_point = z; link = l; inputs = c.inputs; next = f; outputs = o })
unfolding record_values
record_of m c z l f o e g h k = rw (e, g, h, k)

record_tested : (p : Phase) → Bytes p → Written p ≡ true → record_values (raw_action p) (raw_options p) ≡ Ok p
unfolding raw_action raw_options set_point_value
record_tested p b w =
    record_of (raw_action p) (raw_options p) p.set_point p.link p.next p.outputs
    (cond-true _ _ _ (set_point_fits p w)) (link_tested p.link (link_fits p w)) (next_tested p.next (next_fits p w)) (outputs_tested p.outputs b.1)
    ∙ (λ i. Ok (record { written = sym (flag p w) i; direction = p.direction; nature = p.nature; set_point = p.set_point; link = p.link; inputs = p.inputs; next = p.next; outputs = p.outputs }))

values_of : (A : RawPosition) (m : Action) (c : Options) (at : Position) (p : Phase) → position_values A ≡ Ok at → record_values m c ≡ Ok p → sp_values (record { at = A; action = m; options = c }) ≡ Ok (at, p)
unfolding sp_values
values_of A m c at p e f = rw (e, f)

form_read : (ns np : ℕ) (p : Phase) → ns ≤ 99 → np ≤ 99 → Bytes p → Written p ≡ true → sp_form (phase_words ns np p, 2) ≡ Ok (record { at = record { sequence = ns; phase = np }; action = raw_action p; options = raw_options p })
unfolding raw_action raw_options action_words option_words
form_read ns np p h k b w =
    let inputs = marks_read p.inputs.named p.inputs.levels (omega (arith, b.0)) (levels_fit p w) in
    sp_of _ _ _ _ _ _ _ _ (option_words p)
    (position_of _ _ ns np _ (two_read ns h) (two_read np k))
    (action_of _ _ _ p.direction p.nature p.set_point _ (direction_read p.direction) (nature_read p.nature) (set_point_read p.set_point (set_point_small p.nature p.set_point (set_point_fits p w))))
    (options_by _ _ _ _ _ _ inputs (next_read p.next (next_fits p w)) (outputs_read p.outputs b.1) p.link (link_fits p w))
    (ends p.link _ _ _ _)

-- no word has a space
direction_solid : (d : Direction) → Solid (direction_word d)
direction_solid Forward = (λ e. omega arith, (λ e. omega arith, tt))
direction_solid Back = (λ e. omega arith, (λ e. omega arith, tt))

nature_solid : (k : Nature) → Solid (letters_of k)
nature_solid Relative = (λ e. omega arith, (λ e. omega arith, tt))
nature_solid _ = (λ e. omega arith, (λ e. omega arith, tt))

set_point_solid : (z : ℤ) → Solid (set_point_word z)
set_point_solid (pos n) = (λ e. omega arith, (λ e. omega arith, digits_solid 7 n))
set_point_solid (negsuc n) = (λ e. omega arith, (λ e. omega arith, digits_solid 7 (suc n)))

letters_solid : (a b : ℕ) → 33 ≤ a → 33 ≤ b → Solid (a ∷ b ∷ [])
letters_solid a b h k = (λ e. omega arith, (λ e. omega arith, tt))

tag_solid : (k : Option (Link ℕ)) → Solid (link_tag k)
tag_solid None = letters_solid _ _ (omega arith) (omega arith)
tag_solid (Some (link.Sequence n)) = letters_solid _ _ (omega arith) (omega arith)
tag_solid (Some (link.SubSequence n)) = letters_solid _ _ (omega arith) (omega arith)

link_solid : (k : Option (Link ℕ)) → Solid (link_word k)
link_solid None = letters_solid _ _ (omega arith) (omega arith)
link_solid (Some (link.Sequence n)) = digits_solid 2 n
link_solid (Some (link.SubSequence n)) = digits_solid 2 n

next_solid : (o : Option ℕ) → Solid (number_word o)
next_solid None = letters_solid _ _ (omega arith) (omega arith)
next_solid (Some n) = digits_solid 2 n

outputs_solid : (o : Option ℕ) → Solid (outputs_word o)
outputs_solid None = letters_solid _ _ (omega arith) (omega arith)
outputs_solid (Some n) = hex_solid n

all_solid : (ns np : ℕ) (p : Phase) → AllSolid (phase_words ns np p)
unfolding action_words option_words
all_solid ns np p = (
  digits_solid 2 ns,
  (
    digits_solid 2 np,
    (
      direction_solid p.direction,
      (
        nature_solid p.nature,
        (
          set_point_solid p.set_point,
          (
            tag_solid p.link,
            (
              link_solid p.link,
              (
                letters_solid 78 69 (omega arith) (omega arith),
                (
                  marks_solid 8 p.inputs.named p.inputs.levels,
                  (letters_solid 78 83 (omega arith) (omega arith), (next_solid p.next, (letters_solid 78 79 (omega arith) (omega arith), (outputs_solid p.outputs, tt)))),
                ),
              ),
            ),
          ),
        ),
      ),
    ),
  ),
)

pub reads_back : ReadsBack
reads_back at p b h k w =
    ap (λ ws. and_then (sp_form (ws, 2)) sp_values) (words_spaced (digits_of 2 at.sequence) (digits_of 2 at.phase ∷ (action_words p ++ option_words p)) (all_solid at.sequence at.phase p))
    ∙ ap (λ r. and_then r sp_values) (form_read at.sequence at.phase p h.1 (omega (arith, k.1)) b w)
    ∙ values_of _ _ _ at p (position_tested at.sequence at.phase h k) (record_tested p b w)
