use Rattle.std.proofs.Common.{subst, sym}
use Rattle.lines.specs.Lines.{kept}
use Rattle.store.specs.Stores.{store}
use Rattle.orders.specs.Judged.{ShownOf}
use Rattle.orders.proofs.Accepted.{judged_shown}
use Rattle.orders.proofs.rows.judge.Goals as goal

pub returns-in-Own-clause-admitted : goal.returns-in-Own-clause-admitted
returns-in-Own-clause-admitted c =
    let s = store c.args.store.now in
    subst (ShownOf c.args.at s) (sym c.judge_from.ensures) (judged_shown c.args.at s 2 _ (kept c.args.line.now))

pub returns-in-Broadcast-clause-admitted : goal.returns-in-Broadcast-clause-admitted
returns-in-Broadcast-clause-admitted c =
    let s = store c.args.store.now in
    subst (ShownOf c.args.at s) (sym c.judge_from-in-Broadcast.ensures) (judged_shown c.args.at s 0 _ (kept c.args.line.now))
