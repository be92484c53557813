-- What the store means: each sequence has its phases, and a command that does not name a sequence leaves them.
use Rattle.std.specs.Prelude.{◌≡◌, ℕ, ◌-◌, ◌≤◌, true, cond, ◌&&◌, List, [], ◌∷◌, length, take, drop, replicate, is_ok, Some, None, Ok, Err, Option, Result, ◌==◌, ◌≢◌, nat_le, slice_index_or, slice_set}
use Rattle.std.specs.List.{AllByRecursion}
use Rattle.store.specs.declared.directory.Block.{Block}
use Rattle.faults.specs.declared.Fault.{Fault}
use Rattle.faults.specs.Faults.{no_sequence, past_reserve, memory_full}
use Rattle.phases.specs.declared.phase.Phase.{Phase}
use Rattle.phases.specs.Phases.{blank, Written}
use Rattle.store.specs.Blocks.{reserved, sound, absent}
use Rattle.store.specs.Stores.{Store}
use Rattle.store.specs.Records.{appended, blanked, create_answer, erased_blocks, erased_records, located, rewritten, read_answer, shown}

-- the phases of the sequence n, where the sequences lie one after the other
abbrev pub phases : List Block → List Phase → ℕ → Option (List Phase)
phases [] m n = None
phases (b ∷ bs) m n = cond (b.number == n) (Some (take b.reserve m)) (phases bs (drop b.reserve m) n)

-- the numbers are apart, and what is reserved lies within the 414 records
abbrev pub Fit : Store → Type 0
Fit s = (sound s.blocks ≡ true) × (reserved s.blocks ≤ 414) × (length s.records ≡ 414)

pub data Command : Type 0 where
  SN : ℕ → ℕ → Command
  SE : Option ℕ → Command
  SP : ℕ → ℕ → Phase → Command

abbrev pub step : Command → Store → Store
step (SN n many) s =
    cond (is_ok (create_answer s.blocks n many))
    (record { blocks = appended s.blocks n many; records = blanked (reserved s.blocks) many s.records })
    s
step (SE n) s = record { blocks = erased_blocks s.blocks n; records = erased_records s.blocks n s.records }
step (SP n np p) s = record { blocks = s.blocks; records = rewritten (located s.blocks n np) p s.records }

abbrev pub run : List Command → Store → Store
run [] s = s
run (c ∷ cs) s = run cs (step c s)

-- the command names another sequence, and not all of them
abbrev pub Spares : ℕ → Command → Type 0
Spares n (SN other many) = other ≡ n → ⊥
Spares n (SE None) = ⊥
Spares n (SE (Some other)) = other ≢ n
Spares n (SP other np p) = other ≡ n → ⊥

-- whatever is done to the others, a sequence keeps every phase
abbrev pub Keeps : Type 0
Keeps = (cs : List Command) (s : Store) (n : ℕ) → Fit s → AllByRecursion (Spares n) cs → phases (run cs s).blocks (run cs s).records n ≡ phases s.blocks s.records n

-- phase np of a sequence, as RS tells it
abbrev pub told : Option (List Phase) → ℕ → Result (Option Phase) Fault
told None np = Err no_sequence
told (Some ps) np = cond (nat_le 1 np && nat_le np (length ps)) (Ok (shown (slice_index_or ps (np - 1) blank))) (Err past_reserve)

-- RS tells a sequence's phases, and depends on nothing else
abbrev pub Tells : Type 0
Tells = (s : Store) (n np : ℕ) → Fit s → read_answer (located s.blocks n np) s.records ≡ told (phases s.blocks s.records n) np

abbrev pub with_phase : Option (List Phase) → ℕ → Phase → Option (List Phase)
with_phase None np p = None
with_phase (Some ps) np p = Some (cond (nat_le 1 np && nat_le np (length ps)) (slice_set ps (np - 1) p) ps)

-- SN makes the sequence that it names blank, SE takes it away, or every one, SP changes one phase of it
abbrev pub Changes : Type 0
Changes =
    (s : Store) (n : ℕ) → Fit s →
    ((many : ℕ) → is_ok (create_answer s.blocks n many) ≡ true → phases (step (SN n many) s).blocks (step (SN n many) s).records n ≡ Some (replicate many blank))
    × (phases (step (SE (Some n)) s).blocks (step (SE (Some n)) s).records n ≡ None)
    × (phases (step (SE None) s).blocks (step (SE None) s).records n ≡ None)
    × ((np : ℕ) (p : Phase) → phases (step (SP n np p) s).blocks (step (SP n np p) s).records n ≡ with_phase (phases s.blocks s.records n) np p)

-- a phase that was written is what is read of its place afterwards
abbrev pub ReadsWhatWasWritten : Type 0
ReadsWhatWasWritten =
    (s : Store) (n np : ℕ) (p : Phase) → Fit s → Written p ≡ true → is_ok (located s.blocks n np) ≡ true →
    read_answer (located s.blocks n np) (rewritten (located s.blocks n np) p s.records) ≡ Ok (Some p)

-- the examples: with 400 phases reserved, creating sequence 9 with 14 is accepted, and with 15 gets 5
abbrev pub Examples : Type 0
Examples =
    (bs : List Block) → reserved bs ≡ 400 → absent 9 bs ≡ true →
    (create_answer bs 9 14 ≡ Ok tt) × (create_answer bs 9 15 ≡ Err memory_full)
