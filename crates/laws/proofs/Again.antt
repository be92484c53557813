-- SP takes a read-back text as the same record.
use Rattle.std.proofs.Common.{◌≡◌, ℕ, suc, ◌+◌, ◌/◌, ◌%◌, ◌≤◌, true, false, ◌&&◌, ◌||◌, eqb, List, [], ◌∷◌, ◌++◌, map, length, drop, ℤ, pos, negsuc, Some, None, Ok, codes, Option, Result, slice_index_or, slice_set, inl, sym, refl, ap, ◌∙◌, subst, arith}
use Rattle.std.proofs.lemmas.Bool.{cond-true, cond-false, lt-leb, eq-eqb}
use Rattle.std.proofs.lemmas.List.{length-append, set-get_or}
use Rattle.faults.specs.declared.Fault.{Fault}
use Rattle.faults.specs.Faults.{and_then}
use Rattle.faults.proofs.Results.{then_ok}
use Rattle.steps.specs.declared.direction.Direction.{Direction}
use Rattle.steps.specs.declared.direction.Direction.TheVariants.{Forward, Back}
use Rattle.words.specs.Words.{words, spaced}
use Rattle.lines.specs.declared.line.Addressee.TheVariants as to
use Rattle.lines.specs.Characters.{Character, any_damaged, bytes_of, addressee_of, received}
use Rattle.lines.specs.Lines.{kept_of, addressee_in}
use Rattle.lines.proofs.KeptOf.{kept_addressee, kept_text}
use Rattle.replies.specs.Replies.{digits_of}
use Rattle.phases.specs.declared.phase.Link.{Link}
use Rattle.phases.specs.declared.phase.Link.TheVariants as link
use Rattle.phases.specs.declared.phase.Nature.{Nature}
use Rattle.phases.specs.declared.phase.Nature.TheVariants.{Relative}
use Rattle.phases.specs.declared.phase.Phase.{Phase}
use Rattle.phases.specs.declared.phase.Position.{Position}
use Rattle.phases.specs.Phases.{letters_of, blank}
use Rattle.fields.specs.declared.fields.RawPhase.{RawPhase}
use Rattle.fields.specs.Fields.{direction_word, sp_form}
use Rattle.fields.specs.Values.{sp_values}
use Rattle.texts.specs.Texts.{set_point_word, link_tag, link_word, number_word, outputs_word, marks, action_words, option_words, phase_words, phase_text}
use Rattle.texts.proofs.ReadBack.{reads_back}
use Rattle.store.specs.Records.{located, rewritten}
use Rattle.store.specs.Stores.{Store}
use Rattle.store.specs.Keeps.{SP, step}
use Rattle.orders.specs.declared.command.Command.{Command}
use Rattle.orders.specs.declared.command.Command.TheVariants as c
use Rattle.orders.specs.declared.order.Order.TheVariants as o
use Rattle.orders.specs.declared.order.Situation.{Situation}
use Rattle.orders.specs.declared.order.Judgement.{Judgement}
use Rattle.orders.specs.declared.order.Judgement.TheVariants.{Own}
use Rattle.orders.specs.Reading.{read_from, command_after}
use Rattle.orders.specs.State.{state_row}
use Rattle.orders.specs.Values.{with_value, order_of}
use Rattle.orders.specs.Judged.{by_rows, judged_to}
use Rattle.control.specs.States.{situation}
use Rattle.law.specs.Events.Event.{ending}
use Rattle.law.specs.History.{next, answer}
use Rattle.module.specs.Lines.{judged_line}
use Rattle.module.specs.Machine.{module_device}
use Rattle.laws.specs.Answered.{AnsweredAs}
use Rattle.laws.specs.Memory.{store_in, sp_line, StoresItAgain}
use Rattle.laws.proofs.Answered.{answers_by_address}
use Rattle.laws.proofs.Done.{accepted_is_done}

-- ---- the length of the line

nature_length : (n : Nature) → length (letters_of n) ≡ 2
nature_length Relative = refl
nature_length _ = refl

direction_length : (d : Direction) → length (direction_word d) ≡ 2
direction_length Forward = refl
direction_length Back = refl

set_point_length : (z : ℤ) → length (set_point_word z) ≡ 9
unfolding digits_of
set_point_length (pos n) = refl
set_point_length (negsuc n) = refl

tag_length : (l : Option (Link ℕ)) → length (link_tag l) ≡ 2
tag_length None = refl
tag_length (Some (link.Sequence n)) = refl
tag_length (Some (link.SubSequence n)) = refl

link_length : (l : Option (Link ℕ)) → length (link_word l) ≡ 2
unfolding digits_of
link_length None = refl
link_length (Some (link.Sequence n)) = refl
link_length (Some (link.SubSequence n)) = refl

number_length : (o : Option ℕ) → length (number_word o) ≡ 2
unfolding digits_of
number_length None = refl
number_length (Some n) = refl

outputs_length : (o : Option ℕ) → length (outputs_word o) ≡ 2
outputs_length None = refl
outputs_length (Some n) = refl

marks_length : (n l : ℕ) → length (marks 8 n l) ≡ 8
unfolding marks
marks_length n l = refl

two_length : (n : ℕ) → length (digits_of 2 n) ≡ 2
unfolding digits_of
two_length n = refl

-- the length of words with a space between each two, by the lengths of the words
abbrev Sizes : List ℕ → List (List ℕ) → Type 0
Sizes [] ws = ws ≡ []
Sizes (k ∷ ks) [] = ⊥
Sizes (k ∷ ks) (w ∷ ws) = (length w ≡ k) × Sizes ks ws

abbrev total : List ℕ → ℕ
total [] = 0
total (k ∷ []) = k
total (k ∷ j ∷ ks) = k + suc (total (j ∷ ks))

spaced_length : (ks : List ℕ) (ws : List (List ℕ)) → Sizes ks ws → length (spaced ws) ≡ total ks
spaced_length [] ws h = ap (λ x. length (spaced x)) h
spaced_length (k ∷ []) [] h = absurd h
spaced_length (k ∷ []) (w ∷ ws) h = ap (λ x. length (spaced (w ∷ x))) h.1 ∙ h.0
spaced_length (k ∷ j ∷ ks) [] h = absurd h
spaced_length (k ∷ j ∷ ks) (w ∷ []) h = absurd h.1
spaced_length (k ∷ j ∷ ks) (w ∷ v ∷ ws) h = length-append w (32 ∷ spaced (v ∷ ws)) ∙ (λ i. h.0 i + suc (spaced_length (j ∷ ks) (v ∷ ws) h.1 i))

phase_length : (ns np : ℕ) (p : Phase) → length (phase_text ns np p) ≡ 51
unfolding action_words option_words
phase_length ns np p =
    spaced_length (2 ∷ 2 ∷ 2 ∷ 2 ∷ 9 ∷ 2 ∷ 2 ∷ 2 ∷ 8 ∷ 2 ∷ 2 ∷ 2 ∷ 2 ∷ []) (phase_words ns np p) (
      two_length ns,
      (
        two_length np,
        (
          direction_length p.direction,
          (
            nature_length p.nature,
            (
              set_point_length p.set_point,
              (
                tag_length p.link,
                (link_length p.link, (refl, (marks_length p.inputs.named p.inputs.levels, (refl, (number_length p.next, (refl, (outputs_length p.outputs, refl))))))),
              ),
            ),
          ),
        ),
      ),
    )

-- ---- whom it is for, and what it says

module _ (t : List ℕ) where
  abbrev whole : List Character
  whole = map (λ b. (b, false)) t

whole_undamaged : (t : List ℕ) → any_damaged (whole t) ≡ false
whole_undamaged [] = refl
whole_undamaged (b ∷ t) = whole_undamaged t

whole_bytes : (t : List ℕ) → bytes_of (whole t) ≡ t
whole_bytes [] = refl
whole_bytes (b ∷ t) = ap (λ u. b ∷ u) (whole_bytes t)

whole_length : (t : List ℕ) → length (whole t) ≡ length t
whole_length [] = refl
whole_length (b ∷ t) = ap suc (whole_length t)

addressed : (a : ℕ) (t : List ℕ) → a ≤ 63 → addressee_of a (whole (digits_of 2 a ++ t)) ≡ to.Own
unfolding digits_of
addressed a t h =
    let e : (eqb (48 + a / 10 % 10) (48 + a / 10) && eqb (48 + a % 10) (48 + a % 10)) ≡ true = λ i. eq-eqb (48 + a / 10 % 10) (48 + a / 10) (omega arith) i && eq-eqb (48 + a % 10) (48 + a % 10) refl i in
    cond-true _ _ _ e

text_is : (a : ℕ) (t : List ℕ) → length t ≤ 62 → received 2 (whole (digits_of 2 a ++ t)) ≡ Ok t
unfolding digits_of
text_is a t h =
    let n : length (whole (digits_of 2 a ++ t)) ≡ suc (suc (length t)) = whole_length (digits_of 2 a ++ t) in
    cond-false _ _ _ (λ i. whole_undamaged (digits_of 2 a ++ t) i || lt-leb 65 (length (whole (digits_of 2 a ++ t))) (omega arith) i)
    ∙ ap (λ u. Ok (drop 2 u)) (whole_bytes (digits_of 2 a ++ t))

-- it says SP, with the words of the text
sp_read : (t : List ℕ) (raw : RawPhase) → sp_form (words t, 2) ≡ Ok raw → read_from false (words (codes "SP " ++ t)) ≡ Ok (c.Write raw)
unfolding read_from
sp_read t raw e = ap (λ (r : Result RawPhase Fault). and_then r (λ p. Ok (c.Write p))) e

command_is : (a : ℕ) (at : Position) (p : Phase) (raw : RawPhase) → sp_form (words (phase_text at.sequence at.phase p), 2) ≡ Ok raw →
    command_after 2 false (kept_of (sp_line a at p)) ≡ Ok (c.Write raw)
unfolding command_after
command_is a at p raw e =
    let t = codes "SP " ++ phase_text at.sequence at.phase p in
    let n : length t ≤ 62 = omega (arith, phase_length at.sequence at.phase p) in
    ap (λ r. and_then r (λ u. read_from false (words u))) (kept_text 2 (kept_of (sp_line a at p)) (sp_line a at p) refl ∙ text_is a t n)
    ∙ sp_read (phase_text at.sequence at.phase p) raw e

-- ---- what it does

module _ (sit : Situation) (s : Store) (at : Position) (p : Phase) where
  order_is : (raw : RawPhase) (i : ℕ) → sp_values raw ≡ Ok (at, p) → located s.blocks at.sequence at.phase ≡ Ok i → order_of sit s (c.Write raw) ≡ Ok (o.Write i p)
  order_is raw i e f =
      ap (λ r. and_then r (λ (a : Position × Phase). with_value (located s.blocks a.0.sequence a.0.phase) (λ n. o.Write n a.1))) e
      ∙ ap (λ r. with_value r (λ n. o.Write n p)) f

  judged_is : (raw : RawPhase) (i : ℕ) → sit.address ≤ 63 → sit.busy ≡ false → sp_form (words (phase_text at.sequence at.phase p), 2) ≡ Ok raw → order_of sit s (c.Write raw) ≡ Ok (o.Write i p) →
      judged_to (addressee_in sit.address (kept_of (sp_line sit.address at p))) sit s (kept_of (sp_line sit.address at p)) ≡ Own (Ok (o.Write i p))
  judged_is raw i h b e f =
      let k = kept_of (sp_line sit.address at p) in
      ap (λ a. judged_to a sit s k) (kept_addressee sit.address k (sp_line sit.address at p) refl ∙ addressed sit.address (codes "SP " ++ phase_text at.sequence at.phase p) h)
      ∙ ap (λ (r : Result Command Fault). Own (and_then r (by_rows sit s))) (command_is sit.address at p raw e)
      ∙ ap (λ x. Own (and_then (state_row x (c.Write raw)) (λ _. order_of sit s (c.Write raw)))) b
      ∙ ap Own f

  written_again : (i : ℕ) (q : Position) (t : Store) → slice_index_or s.records i blank ≡ p → located s.blocks q.sequence q.phase ≡ Ok i → t ≡ step (SP q.sequence q.phase p) s → t ≡ s
  written_again i q t r f e =
      e
      ∙ (λ j. record { blocks = s.blocks; records = rewritten (f j) p s.records })
      ∙ (λ j. record { blocks = s.blocks; records = slice_set s.records i (sym r j) })
      ∙ (λ j. record { blocks = s.blocks; records = set-get_or s.records i blank j })

pub stores_it_again : StoresItAgain
stores_it_again cycle s at p small rest n f found w b line =
    let r = s.core.rest in
    let m = store_in cycle s in
    let sit = situation r.control in
    let u = then_ok (sp_form (words (phase_text at.sequence at.phase p), 2)) sp_values (at, p) (reads_back at p b n f w) in
    let v = then_ok (located m.blocks at.sequence at.phase) _ (o.ReadPhase at p) found in
    let same : slice_index_or m.records v.0 blank ≡ p = cc v.1.1 in
    let j : judged_line r s.line ≡ Own (Ok (o.Write v.0 p)) =
    ap (judged_line r) line ∙ judged_is sit m at p u.0 v.0 small rest u.1.0 (order_is sit m at p u.0 v.0 u.1.1 v.1.0) in
    let d = (accepted_is_done cycle s (o.Write v.0 p) (inl j)).store in (
      subst (λ (x : Judgement). AnsweredAs x (answer (module_device cycle) s ending)) j (answers_by_address cycle s) refl,
      written_again sit m at p v.0 d.0 (store_in cycle (next (module_device cycle) s ending)) same d.1 d.2,
    )
