-- The sequences in order of creation.
use Rattle.std.specs.List.{list_all}
use Rattle.std.specs.Prelude.{ℕ, ◌+◌, ◌<◌, ◌≤◌, Bool, true, cond, not, ◌&&◌, List, [], ◌∷◌, length, Some, None, Option, ◌==◌}
use Rattle.store.specs.declared.directory.Block.{Block}
use Rattle.store.specs.declared.directory.Span.{Span}
use Rattle.phases.specs.Phases.{SequenceNumber}

abbrev pub reserved : List Block → ℕ
reserved [] = 0
reserved (b ∷ bs) = b.reserve + reserved bs

-- where the sequence n lies, if these blocks begin at that place in the directory and at that record
abbrev pub placed : ℕ → ℕ → List Block → ℕ → Option Span
placed index offset [] n = None
placed index offset (b ∷ bs) n =
    cond (b.number == n)
    (Some (record { index = index; offset = offset; reserve = b.reserve }))
    (placed (index + 1) (offset + b.reserve) bs n)

abbrev pub absent : ℕ → List Block → Bool
absent n bs = list_all (λ b. not (b.number == n)) bs

-- each number is a sequence's, and no two are the same
abbrev pub sound : List Block → Bool
sound [] = true
sound (b ∷ bs) = SequenceNumber b.number && (absent b.number bs && sound bs)

-- a sequence lies within the directory and within the reserved records
abbrev pub Within : List Block → Option Span → Type 0
Within bs None = Unit {0}
Within bs (Some s) = (s.index < length bs) × (s.offset + s.reserve ≤ reserved bs)
