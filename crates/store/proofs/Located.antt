-- The record of a phase lies within the memory.
use Rattle.std.proofs.Common.{◌≡◌, ℕ, ◌+◌, ◌-◌, ◌<◌, ◌≤◌, ◌&&◌, leb, List, Some, None, Ok, Option, subst, arith}
use Rattle.std.proofs.lemmas.Bool.{and_parts, leb-true}
use Rattle.faults.specs.Faults.{past_reserve}
use Rattle.faults.proofs.Results.{tested}
use Rattle.store.specs.declared.directory.Block.{Block}
use Rattle.store.specs.declared.directory.Span.{Span}
use Rattle.store.specs.Blocks.{reserved, placed, Within}
use Rattle.store.specs.Records.{in_span, located}
use Rattle.store.proofs.Sound.{within_placed}

span_within : (bs : List Block) (r : Option Span) (np i : ℕ) → reserved bs ≤ 414 → Within bs r → in_span r np ≡ Ok i → i < 414
span_within bs None np i l w e = cc
span_within bs (Some s) np i l w e =
    let t = tested (leb 1 np && leb np s.reserve) (s.offset + (np - 1)) i past_reserve e in
    let h = and_parts (leb 1 np) (leb np s.reserve) t.0 in
    subst (λ x. x < 414) t.1 (omega (arith, leb-true 1 np h.0, leb-true np s.reserve h.1, w.1, l))

pub located_within : (bs : List Block) (n np i : ℕ) → reserved bs ≤ 414 → located bs n np ≡ Ok i → i < 414
located_within bs n np i l e = span_within bs (placed 0 0 bs n) np i l (within_placed bs n) e
