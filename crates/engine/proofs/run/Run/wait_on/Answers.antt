use Rattle.std.proofs.Common.{rules, ◌≡◌}
use Rattle.engine.specs.Effects.{nothing}
use Rattle.engine.proofs.run.Run.wait_on.Goals as goal

pub returns-then-ticks-le1 : goal.returns-then-ticks-le1
returns-then-ticks-le1 c =
    let e : c.default.result ≡ nothing = search rules in rw (← e) (search rules)
