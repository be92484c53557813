use Rattle.std.proofs.Common.{◌≡◌, ℕ, [], drop, IfOk, subst, sym, ap, ◌∙◌, arith}
use Rattle.std.proofs.lemmas.List.{drop_all}
use Rattle.history.specs.Hosts.{state_of}
use Rattle.sheet.specs.Exchanges.{Sent, fresh, bytes_sent}
use Rattle.sheet.specs.Readings.{progress}
use Rattle.sheet.specs.Telling.{Tells}
use Rattle.sheet.proofs.reading.read_text.Goals as goal

pub returns : goal.returns
returns g c =
    let y = g.O.StepOutput.CYCLE in
    let bs = c.args.bytes.now in
    let over : drop c.loop-byte.byte-index bs ≡ [] = drop_all c.loop-byte.byte-index bs (omega arith) in
    let end : progress y c.loop-byte.reading ≡ bytes_sent y (fresh y (state_of y c.args.host)) bs = sym (ap (bytes_sent y (progress y c.loop-byte.reading)) over) ∙ c.loop-byte.invariant.0 in
    let P : Sent y → Type 0 = λ t. IfOk c.finish.result (λ s. Tells y c.args.address t s) in
    let Q : ℕ → Type 0 = λ a. IfOk c.finish.result (λ s. Tells y a (progress y c.loop-byte.reading) s) in
    subst P end (subst Q c.loop-byte.invariant.2 (c.finish.ensures c.loop-byte.invariant.1))
