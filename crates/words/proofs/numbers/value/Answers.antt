use Rattle.std.proofs.Common.{◌≡◌, ◌+◌, ◌*◌, ◌^◌, ◌<◌, get_or, drop, sym, ap, ◌∙◌, arith, false-eqb}
use Rattle.words.specs.Numbers.{digit_value, value_from}
use Rattle.words.proofs.Values.{value_more, value_stop, value_all, value_long, digit_below, some_then, none_then, grown, within, within_le}
use Rattle.words.proofs.numbers.value.Goals as goal
use Rattle.words.proofs.numbers.value.Goals.{After-from-in-loop-c}

-- the number with its next digit
more : (c : After-from-in-loop-c) → c.loop-c.n * c.from.result + c.from-in-loop-c.result < 16 ^ (c.loop-c.c-index + 1)
more c =
    let f = some_then _ _ _ (sym c.in_ok-digit.ensures) in
    grown _ _ _ _ c.loop-c.invariant.0 (omega arith) (omega (arith, digit_below c.args.base (get_or c.args.text.now c.loop-c.c-index 0) f.0, f.1))

pub overflow_mul-n : goal.overflow_mul-n
overflow_mul-n c = omega (arith, grown c.loop-c.n c.from.result 0 c.loop-c.c-index c.loop-c.invariant.0 (omega arith) (omega arith), within c.loop-c.c-index (omega arith))

pub returns-in_err-digit : goal.returns-in_err-digit
returns-in_err-digit c =
    let w = c.args.text.now in
    let stop = value_stop c.args.base c.loop-c.n w c.loop-c.c-index c.loop-c-test.true (none_then _ _ (sym c.in_err-digit.ensures)) in
    record { value = c.from_residual.ensures ∙ sym stop ∙ c.loop-c.invariant.1 ∙ sym (value_long c.args.base c.args.most w (omega arith) (omega arith)); below = rw c.from_residual.ensures tt }

pub overflow_add-n : goal.overflow_add-n
overflow_add-n c = omega (arith, more c, within c.loop-c.c-index (omega arith))

pub loop-c-preserved : goal.loop-c-preserved
loop-c-preserved c =
    let w = c.args.text.now in
    let i = c.loop-c.c-index in
    let f = some_then _ _ _ (sym c.in_ok-digit.ensures) in
    let same : c.loop-c.n * c.from.result + c.from-in-loop-c.result ≡ c.loop-c.n * c.args.base + digit_value (get_or w i 0) =
    ap (λ b. c.loop-c.n * b + c.from-in-loop-c.result) c.from.ensures ∙ ap (λ v. c.loop-c.n * c.args.base + v) (c.from-in-loop-c.ensures ∙ sym f.1) in
    (more c, ap (λ m. value_from c.args.base m (drop (i + 1) w)) same ∙ sym (value_more c.args.base c.loop-c.n w i c.loop-c-test.true f.0) ∙ c.loop-c.invariant.1)

pub returns : goal.returns
returns c =
    let w = c.args.text.now in
    record { value = sym (value_all c.args.base c.loop-c.n w c.loop-c.c-index c.loop-c-test.false) ∙ c.loop-c.invariant.1 ∙ sym (value_long c.args.base c.args.most w (omega (arith, false-eqb _ 0 c.if-is_empty.ensures)) (omega arith)); below = omega (arith, within_le c.loop-c.c-index (omega arith)) }
