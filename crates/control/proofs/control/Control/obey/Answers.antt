use Rattle.std.proofs.Common.{subst, arith}
use Rattle.orders.specs.Judged.{Shown}
use Rattle.store.proofs.Located.{located_within}
use Rattle.control.specs.States.{state, store_of, situation}
use Rattle.control.proofs.control.Control.obey.Goals as goal

pub write-requires : goal.write-requires
write-requires c =
    let s = state c.args.self.now in
    let q = subst (Shown (situation s) (store_of s c.args.records.now)) c.in-Write.is c.requires.shown in
    omega (arith, located_within s.blocks q.0.sequence q.0.phase c.in-Write.index c.args.self.now.directory.room q.1, c.requires.length)
