use Rattle.std.proofs.Common.{◌≡◌, List, [], drop, subst, sym, refl, arith}
use Rattle.std.proofs.lemmas.List.{append-nil, drop_all}
use Rattle.history.specs.Hosts.{state_of}
use Rattle.sheet.specs.declared.shelf.IntendedPhase.{IntendedPhase}
use Rattle.sheet.specs.declared.verdict.ShelfPhase.{ShelfPhase}
use Rattle.sheet.specs.ReadBack.{Compared}
use Rattle.sheet.proofs.reading.compare.Goals as goal

pub returns-clause-compared : goal.returns-clause-compared
returns-clause-compared g c =
    let y = g.O.StepOutput.CYCLE in
    let ms = c.args.shelf.now in
    let P : List ShelfPhase → Type 0 = λ ps. Compared y (state_of y c.args.host.now) ms ps in
    let Q : List IntendedPhase → Type 0 = λ rest. Compared y (state_of y c.loop-intended.host) rest [] in
    let over : drop c.loop-intended.intended-index ms ≡ [] = drop_all c.loop-intended.intended-index ms (omega arith) in
    subst P (append-nil c.loop-intended.compared.items) (c.loop-intended.invariant.0 [] (subst Q (sym over) refl))
