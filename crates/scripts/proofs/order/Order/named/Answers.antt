-- The long words, byte by byte.
use Rattle.std.proofs.Common.{◌≡◌, codes, arith}
use Rattle.std.proofs.lemmas.Slice.Eq.{text_from_reads}
use Rattle.scripts.proofs.order.Order.named.Goals as goal

pub returns-in-module : goal.returns-in-module
returns-in-module c =
    let e : c.args.word.now ≡ codes "module" = text_from_reads c.args.word.now (codes "module") (omega arith) (omega arith, (omega arith, (omega arith, (omega arith, (omega arith, (omega arith, tt)))))) in
    rw e

pub returns-in-levels : goal.returns-in-levels
returns-in-levels c =
    let e : c.args.word.now ≡ codes "levels" = text_from_reads c.args.word.now (codes "levels") (omega arith) (omega arith, (omega arith, (omega arith, (omega arith, (omega arith, (omega arith, tt)))))) in
    rw e

pub returns-in-112 : goal.returns-in-112
returns-in-112 c =
    let e : c.args.word.now ≡ codes "power-up" = text_from_reads c.args.word.now (codes "power-up") (omega arith) (omega arith, (omega arith, (omega arith, (omega arith, (omega arith, (omega arith, (omega arith, (omega arith, tt)))))))) in
    rw e
