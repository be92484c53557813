use Rattle.std.proofs.Common.{None, sym, ap, arith}
use Rattle.engine.specs.Stacks.{latest, earlier}
use Rattle.engine.proofs.Stacks.{pop_stack}
use Rattle.engine.proofs.returns.Returns.pop.Goals as goal

pub returns : goal.returns
returns c =
    let e = pop_stack c.args.self.now.places c.args.self.now.depth None (omega arith) (omega arith) in
    record { answer = sym (ap latest e); after = sym (ap earlier e) }
