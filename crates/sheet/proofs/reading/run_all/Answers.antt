use Rattle.std.proofs.Common.{◌≡◌, List, [], drop, subst, sym, refl, arith}
use Rattle.std.proofs.lemmas.List.{append-nil, drop_all}
use Rattle.store.specs.declared.directory.Block.{Block}
use Rattle.history.specs.Hosts.{state_of}
use Rattle.runs.specs.declared.report.Report.{Report}
use Rattle.runs.specs.Runs.{RunInTurn}
use Rattle.sheet.specs.Telling.{numbers_in}
use Rattle.sheet.proofs.reading.run_all.Goals as goal

pub returns : goal.returns
returns g c =
    let y = g.O.StepOutput.CYCLE in
    let bs = c.args.blocks.now in
    let P : List Report → Type 0 = λ rs. RunInTurn y (state_of y c.args.host.now) (numbers_in bs) rs in
    let Q : List Block → Type 0 = λ rest. RunInTurn y (state_of y c.loop-block.host) (numbers_in rest) [] in
    let over : drop c.loop-block.block-index bs ≡ [] = drop_all c.loop-block.block-index bs (omega arith) in
    subst P (append-nil c.loop-block.reports.items) (c.loop-block.invariant [] (subst Q (sym over) refl))
