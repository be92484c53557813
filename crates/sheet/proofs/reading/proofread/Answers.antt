use Rattle.std.proofs.Common.{◌≡◌, true, false, length, vec_items, eqb, subst, ◌∙◌, arith, rules}
use Rattle.std.specs.Prelude.{◌&&◌}
use Rattle.std.proofs.lemmas.Bool.{and_from}
use Rattle.std.proofs.lemmas.Grind.{common_steps}
use Rattle.lines.specs.Lines.{kept}
use Rattle.law.specs.History.{State}
use Rattle.module.specs.Machine.{module_device}
use Rattle.sheet.specs.Exchanges.{fresh, bytes_sent}
use Rattle.sheet.specs.Telling.{Tells}
use Rattle.sheet.proofs.Lines.{told_all, told_empty}
use Rattle.sheet.proofs.reading.proofread.Goals as goal

pub returns-clause-tells : goal.returns-clause-tells
returns-clause-tells g c =
    let y = g.O.StepOutput.CYCLE in
    let P : State (module_device y) → Type 0 = λ s. Tells y c.args.address (bytes_sent y (fresh y s) c.args.bytes.now) c.in-Ok-read_text.sheet in
    subst P c.in-Ok.ensures.state c.in-Ok-read_text.ensures

pub returns-clause-lines : goal.returns-clause-lines
returns-clause-lines g c = told_all g.O.StepOutput.CYCLE c.args.address (g.O.StepOutput.meaning c.args.output) c.args.bytes.now _ (returns-clause-tells g c)

pub returns-then-not-is_unfinished-clause-refused : goal.returns-then-not-is_unfinished-clause-refused
returns-then-not-is_unfinished-clause-refused g c =
    let y = g.O.StepOutput.CYCLE in
    let s = c.in-Ok-read_text.sheet in
    let P : State (module_device y) → Type 0 = λ t. Tells y c.args.address (bytes_sent y (fresh y t) c.args.bytes.now) s in
    let lines = told_all y c.args.address (g.O.StepOutput.meaning c.args.output) c.args.bytes.now s (subst P c.in-Ok.ensures.state c.in-Ok-read_text.ensures) in
    let none : eqb (length (vec_items s.entries)) 0 ≡ true = grind (arith, common_steps) in
    let held : eqb (length (kept s.held).characters) 0 ≡ true = grind (arith, common_steps) in
    (search rules, search rules, told_empty c.args.bytes.now s lines ∙ and_from _ _ none held)

pub returns-clause-holds_some : goal.returns-clause-holds_some
returns-clause-holds_some g c =
    let s = c.in-Ok-read_text.sheet in
    let some : (eqb (length (vec_items s.entries)) 0 && eqb (length (kept s.held).characters) 0) ≡ false = grind (arith, common_steps) in
    told_empty c.args.bytes.now s (returns-clause-lines g c) ∙ some
