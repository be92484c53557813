-- What SN, SE, SP and RS make of the directory and of the records.
use Rattle.std.specs.Prelude.{ℕ, ◌+◌, ◌-◌, Bool, cond, not, ◌&&◌, List, [], ◌∷◌, ◌++◌, length, take, drop, replicate, Some, None, Ok, Err, filter, Option, Result, ◌==◌, nat_le, slice_index_or, slice_set}
use Rattle.store.specs.declared.directory.Block.{Block}
use Rattle.store.specs.declared.directory.Span.{Span}
use Rattle.faults.specs.declared.Fault.{Fault}
use Rattle.faults.specs.Faults.{and_then, past_limit, no_such_phase, no_sequence, sequence_exists, memory_full, past_reserve, wrong_memory}
use Rattle.phases.specs.declared.phase.Phase.{Phase}
use Rattle.phases.specs.declared.phase.Position.{Position}
use Rattle.phases.specs.Phases.{SequenceNumber, blank, Written}
use Rattle.store.specs.Blocks.{reserved, placed, absent}

-- the records with `many` of them blanked, from `from` on
abbrev pub blanked : ℕ → ℕ → List Phase → List Phase
blanked from many m = take from m ++ (replicate many blank ++ drop (from + many) m)

-- the records with the gap of `many` at `from` closed: those after it move up, and the last of the `used` ones are blanked
abbrev pub closed : ℕ → ℕ → ℕ → List Phase → List Phase
closed from many used m = take from m ++ (drop (from + many) (take used m) ++ (replicate many blank ++ drop used m))

-- the lent memory has 414 records
abbrev pub lent : List Phase → Result (Unit {0}) Fault
lent m = cond (length m == 414) (Ok tt) (Err wrong_memory)

-- SN
abbrev pub appended : List Block → ℕ → ℕ → List Block
appended bs n many = bs ++ (record { number = n; reserve = many } ∷ [])

-- a sequence reserves 1 to 50 records
abbrev pub ReserveFits : ℕ → Bool
ReserveFits many = nat_le 1 many && nat_le many 50

-- 1, then 2; then 4 where the sequence exists, then 5 where the reserved phases and these pass 414
abbrev pub create_answer : List Block → ℕ → ℕ → Result (Unit {0}) Fault
create_answer bs n many =
    cond (not (SequenceNumber n)) (Err (past_limit 2))
    (cond (not (ReserveFits many)) (Err (no_such_phase 3))
    (cond (not (absent n bs)) (Err sequence_exists)
    (cond (nat_le (reserved bs + many) 414) (Ok tt) (Err memory_full))))

abbrev pub without : ℕ → List Block → List Block
without n bs = filter (λ b. not (b.number == n)) bs

-- what is left where all sequences are erased, or one
abbrev pub erased_blocks : List Block → Option ℕ → List Block
erased_blocks bs None = []
erased_blocks bs (Some n) = without n bs

abbrev pub gap_closed : Option Span → ℕ → List Phase → List Phase
gap_closed None used m = m
gap_closed (Some s) used m = closed s.offset s.reserve used m

abbrev pub erased_records : List Block → Option ℕ → List Phase → List Phase
erased_records bs None m = blanked 0 (reserved bs) m
erased_records bs (Some n) m = gap_closed (placed 0 0 bs n) (reserved bs) m

-- SP and RS: the record of phase np of the sequence n
abbrev pub in_span : Option Span → ℕ → Result ℕ Fault
in_span None np = Err no_sequence
in_span (Some s) np = cond (nat_le 1 np && nat_le np s.reserve) (Ok (s.offset + (np - 1))) (Err past_reserve)

abbrev pub located : List Block → ℕ → ℕ → Result ℕ Fault
located bs n np = in_span (placed 0 0 bs n) np

abbrev pub rewritten : Result ℕ Fault → Phase → List Phase → List Phase
rewritten (Ok at) p m = slice_set m at p
rewritten (Err f) p m = m

abbrev pub shown : Phase → Option Phase
shown p = cond (Written p) (Some p) None

-- RS
abbrev pub read_answer : Result ℕ Fault → List Phase → Result (Option Phase) Fault
read_answer (Ok at) m = Ok (shown (slice_index_or m at blank))
read_answer (Err f) m = Err f

abbrev pub written : Result (Option Phase) Fault → Option Phase
written (Ok p) = p
written (Err f) = None

-- the written phase at a position, if there is one; other than 414 records hold none
abbrev pub phase_at : List Block → List Phase → Position → Option Phase
phase_at bs m at = written (and_then (lent m) (λ _. read_answer (located bs at.sequence at.phase) m))
