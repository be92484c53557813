-- Where a run goes once its phase is over.
use Rattle.std.specs.Prelude.{ℕ, Bool, cond, List, [], ◌∷◌, length, is_some, Some, None, Ok, Err, Option, Result, ◌==◌, bit_and, bit_xor, nat_lt}
use Rattle.faults.specs.declared.Fault.{Fault}
use Rattle.faults.specs.declared.Cause.{Cause}
use Rattle.faults.specs.declared.Cause.TheVariants.{NoSequence, TooManyOpen}
use Rattle.faults.specs.declared.Place.TheVariants as place
use Rattle.phases.specs.declared.phase.Phase.{Phase}
use Rattle.phases.specs.declared.phase.Link.{Link}
use Rattle.phases.specs.declared.phase.Link.TheVariants as link
use Rattle.store.specs.declared.directory.Block.{Block}
use Rattle.store.specs.Blocks.{placed}
use Rattle.engine.specs.declared.effects.Effects.{Effects}
use Rattle.phases.specs.declared.phase.Position.{Position}
use Rattle.engine.specs.Positions.{first_of, following, next_of}
use Rattle.engine.specs.Surroundings.{Program, Moment}
use Rattle.engine.specs.Effects.{with_fault}
use Rattle.engine.specs.Progress.{Progress, Outcome, entering, with_returns}

abbrev pub run_fault : Cause → Fault
run_fault c = record { cause = c; place = place.Run; word = None }

-- 3: the linked sequence is absent
abbrev pub link_absent : Fault
link_absent = run_fault NoSequence

-- 10: a fifth sub-sequence would be open
abbrev pub too_many_open : Fault
too_many_open = run_fault TooManyOpen

-- every 0 and 1 of NE agrees with the levels
abbrev pub agrees : Phase → ℕ → Bool
agrees p levels = bit_and (bit_xor levels p.inputs.levels) p.inputs.named == 0

abbrev pub exists : List Block → ℕ → Bool
exists bs n = is_some (placed 0 0 bs n)

abbrev pub found_first : List Block → ℕ → Result Position Fault
found_first bs n = cond (exists bs n) (Ok (first_of n)) (Err link_absent)

-- one more sub-sequence can be open while fewer than four are
abbrev pub one_more : List (Option Position) → Result (Unit {0}) Fault
one_more calls = cond (nat_lt (length calls) 4) (Ok tt) (Err too_many_open)

-- the phase is entered in the next tick
abbrev pub goes_on : Progress → Option Position → Option Progress
goes_on c None = None
goes_on c (Some q) = Some (record c { at = q; state = entering })

-- NL and NQ go to phase 1 of the linked sequence, and NQ opens a sub-sequence; an absent sequence comes before a fifth open one
abbrev pub linked : List Block → Progress → Option Position → Option (Link ℕ) → Result (Option Progress) Fault
linked bs c next None = Ok (goes_on c next)
linked bs c next (Some (link.Sequence n)) = cond (exists bs n) (Ok (goes_on c (Some (first_of n)))) (Err link_absent)
linked bs c next (Some (link.SubSequence n)) =
    cond (exists bs n)
    (cond (nat_lt (length c.returns) 4) (Ok (goes_on (with_returns c (next ∷ c.returns)) (Some (first_of n)))) (Err too_many_open))
    (Err link_absent)

-- NE is tested; where it does not agree, neither the link nor NS counts
abbrev pub leaves : Program → Moment → Progress → Phase → Result (Option Progress) Fault
leaves g t c p =
    cond (agrees p t.levels)
    (linked g.blocks c (next_of c.at p.next) p.link)
    (Ok (goes_on c (Some (following c.at))))

-- with a fault the run is over
abbrev pub phase_ended : Effects → Result (Option Progress) Fault → Outcome
phase_ended e (Ok rest) = record { effects = e; rest = rest }
phase_ended e (Err fault) = record { effects = with_fault e fault; rest = None }

-- the latest open sub-sequence returns; without one the run ends
abbrev pub returns_from : Progress → List (Option Position) → Option Progress
returns_from c [] = None
returns_from c (next ∷ earlier) = goes_on (with_returns c earlier) next
