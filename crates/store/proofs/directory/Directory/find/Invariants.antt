use Rattle.std.proofs.Common.{◌≡◌, ◌+◌, drop}
use Rattle.store.specs.Blocks.{reserved, placed}
use Rattle.store.proofs.directory.Directory.find.Given as goal

-- what is left of the directory answers what the whole of it does
abbrev pub invariant-loop-index : goal.invariant-loop-index
invariant-loop-index l =
    (placed l.index l.offset (drop l.index l.block-items) l.number ≡ placed 0 0 l.block-items l.number)
    × (l.offset + reserved (drop l.index l.block-items) ≡ reserved l.block-items)
