use Rattle.std.proofs.Common.{◌≡◌, ◌+◌, ◌-◌, true, false, length, drop, ◌∷◌, [], ◌++◌, sym, ap, ◌∙◌, arith}
use Rattle.std.proofs.lemmas.Iterator.Adapters.{YieldsList-from_rev_slice}
use Rattle.std.proofs.lemmas.Iterator.Consumers.{YieldsList-end}
use Rattle.std.proofs.lemmas.List.{length-reverse, length_push}
use Rattle.std.proofs.lemmas.Bool.{and_from, and_right, cond-false}
use Rattle.fields.specs.Fields.{is_mark, named_by, level_by, named_of, levels_of, are_marks}
use Rattle.fields.proofs.Marks.{turn_back, named_le, level_le, named_below, levels_below, named_back, levels_back, marks_back, mark_bad, mark_read, mark_refused, inputs_read}
use Rattle.fields.proofs.fields.inputs_from.Goals as goal

pub returns-in_err-named : goal.returns-in_err-named
returns-in_err-named c =
    let s = c.args.marks.now in
    let t = turn_back c.args.marks.now c.requires (YieldsList-from_rev_slice c.args.marks.now cc) c.loop-mark.yielded c.loop-mark.mark-iterator c.loop-mark.yielded_by c.next.result c.next.new.self c.in-Some.mark c.in-Some.is c.next.ensures.steps in
    let bad : are_marks s ≡ false = mark_bad s (length c.loop-mark.yielded) c.in-Some.mark.now c.requires t.0 t.1 (mark_refused _ _ (sym c.mark_of.ensures ∙ c.in_err-named.was)) in
    c.from_residual.ensures ∙ sym (cond-false _ _ _ (and_right _ _ bad))

pub overflow_mul-inputs : goal.overflow_mul-inputs
overflow_mul-inputs c =
    let t = turn_back c.args.marks.now c.requires (YieldsList-from_rev_slice c.args.marks.now cc) c.loop-mark.yielded c.loop-mark.mark-iterator c.loop-mark.yielded_by c.next.result c.next.new.self c.in-Some.mark c.in-Some.is c.next.ensures.steps in
    omega (arith, t, named_below c.args.marks.now (8 - length c.loop-mark.yielded) c.requires (omega (arith, t)))

pub overflow_add-inputs : goal.overflow_add-inputs
overflow_add-inputs c =
    let t = turn_back c.args.marks.now c.requires (YieldsList-from_rev_slice c.args.marks.now cc) c.loop-mark.yielded c.loop-mark.mark-iterator c.loop-mark.yielded_by c.next.result c.next.new.self c.in-Some.mark c.in-Some.is c.next.ensures.steps in
    omega (arith, t, mark_read _ _ _ _ _ (sym c.mark_of.ensures ∙ c.in_ok-named.was), named_le c.in-Some.mark.now, named_below c.args.marks.now (8 - length c.loop-mark.yielded) c.requires (omega (arith, t)))

pub overflow_mul-inputs-in-loop-mark : goal.overflow_mul-inputs-in-loop-mark
overflow_mul-inputs-in-loop-mark c =
    let t = turn_back c.args.marks.now c.requires (YieldsList-from_rev_slice c.args.marks.now cc) c.loop-mark.yielded c.loop-mark.mark-iterator c.loop-mark.yielded_by c.next.result c.next.new.self c.in-Some.mark c.in-Some.is c.next.ensures.steps in
    omega (arith, t, levels_below c.args.marks.now (8 - length c.loop-mark.yielded) c.requires (omega (arith, t)))

pub overflow_add-inputs-in-loop-mark : goal.overflow_add-inputs-in-loop-mark
overflow_add-inputs-in-loop-mark c =
    let t = turn_back c.args.marks.now c.requires (YieldsList-from_rev_slice c.args.marks.now cc) c.loop-mark.yielded c.loop-mark.mark-iterator c.loop-mark.yielded_by c.next.result c.next.new.self c.in-Some.mark c.in-Some.is c.next.ensures.steps in
    omega (arith, t, mark_read _ _ _ _ _ (sym c.mark_of.ensures ∙ c.in_ok-named.was), level_le c.in-Some.mark.now, levels_below c.args.marks.now (8 - length c.loop-mark.yielded) c.requires (omega (arith, t)))

pub loop-mark-preserved : goal.loop-mark-preserved
loop-mark-preserved c =
    let s = c.args.marks.now in
    let k = length c.loop-mark.yielded in
    let m = c.in-Some.mark.now in
    let t = turn_back c.args.marks.now c.requires (YieldsList-from_rev_slice c.args.marks.now cc) c.loop-mark.yielded c.loop-mark.mark-iterator c.loop-mark.yielded_by c.next.result c.next.new.self c.in-Some.mark c.in-Some.is c.next.ensures.steps in
    let f : (is_mark m ≡ true) × (c.in_ok-named.named ≡ named_by m) × (c.in_ok-named.level ≡ level_by m) = mark_read _ _ _ _ _ (sym c.mark_of.ensures ∙ c.in_ok-named.was) in
    let more : length (c.loop-mark.yielded ++ c.in-Some.mark ∷ []) ≡ k + 1 = length_push _ _ in
    record {
      can = tt;
      finite = tt;
      few = omega (arith, more, t);
      named = omega (arith, f.1, c.loop-mark.invariant.named, named_back s k m c.requires t.0 t.1, ap (λ n. named_of (drop (8 - n) s)) more);
      levels = omega (arith, f.1, c.loop-mark.invariant.levels, levels_back s k m c.requires t.0 t.1, ap (λ n. levels_of (drop (8 - n) s)) more);
      marks = ap (λ n. are_marks (drop (8 - n) s)) more ∙ marks_back s k m c.requires t.0 t.1 ∙ and_from _ _ f.0 c.loop-mark.invariant.marks;
    }

pub returns : goal.returns
returns c =
    let s = c.args.marks.now in
    let i = c.loop-mark.inputs in
    let e = YieldsList-end (YieldsList-from_rev_slice s cc) c.loop-mark.yielded c.loop-mark.mark-iterator c.loop-mark.yielded_by c.next.result c.next.new.self c.in-None.is c.next.ensures.steps in
    let all : 8 - length c.loop-mark.yielded ≡ 0 = omega (arith, e.1, length-reverse s) in
    let named : i.named ≡ named_of s = c.loop-mark.invariant.named ∙ ap (λ n. named_of (drop n s)) all in
    let levels : i.levels ≡ levels_of s = c.loop-mark.invariant.levels ∙ ap (λ n. levels_of (drop n s)) all in
    let good : are_marks s ≡ true = sym (ap (λ n. are_marks (drop n s)) all) ∙ c.loop-mark.invariant.marks in
    inputs_read s i c.requires named levels good
