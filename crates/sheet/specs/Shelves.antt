-- The shelf as a list of the phases that are meant.
use Rattle.std.specs.Prelude.{ℕ, Bool, true, false, not, cond, ◌&&◌, List, [], ◌∷◌, ◌++◌, Some, None, Ok, Err, Option, Result, ◌==◌, nat_le, slice_set, filter, position}
use Rattle.faults.specs.declared.Fault.{Fault}
use Rattle.phases.specs.declared.phase.Position.{Position}
use Rattle.sheet.specs.declared.shelf.IntendedPhase.{IntendedPhase}
use Rattle.sheet.specs.declared.shelf.Step.{Step}
use Rattle.sheet.specs.declared.shelf.Step.TheVariants.{Put, TakeOff}

-- a number from 1 to h
abbrev pub number_to : ℕ → Result ℕ Fault → Option ℕ
number_to h (Ok n) = cond (nat_le 1 n && nat_le n h) (Some n) None
number_to h (Err e) = None

abbrev pub same_number : Option ℕ → Option ℕ → Bool
same_number (Some x) (Some y) = x == y
same_number _ _ = false

-- the position of a phase that has both numbers
abbrev pub position_in : Option ℕ → Option ℕ → Option Position
position_in (Some n) (Some k) = Some (record { sequence = n; phase = k })
position_in _ _ = None

abbrev pub position_of : IntendedPhase → Option Position
position_of p = position_in p.sequence p.phase

-- the same phase of the same sequence
abbrev pub same_place : IntendedPhase → IntendedPhase → Bool
same_place p q = same_number p.sequence q.sequence && same_number p.phase q.phase

-- erasing all takes the phase off, and so does erasing its sequence
abbrev pub erases : Option ℕ → IntendedPhase → Bool
erases None p = true
erases (Some n) p = same_number p.sequence (Some n)

-- where the first phase of the same sequence and number stands
abbrev pub place_of : IntendedPhase → List IntendedPhase → Option ℕ
place_of p qs = position (λ q. same_place q p) qs

abbrev pub put_at : Option ℕ → IntendedPhase → List IntendedPhase → List IntendedPhase
put_at None p qs = qs ++ p ∷ []
put_at (Some i) p qs = slice_set qs i p

-- a phase put in the place of the one of the same sequence and number, or at the end
abbrev pub replaced : IntendedPhase → List IntendedPhase → List IntendedPhase
replaced p qs = put_at (place_of p qs) p qs

-- what erasing a sequence, or all, leaves
abbrev pub kept_of : Option ℕ → List IntendedPhase → List IntendedPhase
kept_of n qs = filter (λ q. not (erases n q)) qs

abbrev pub stepped : Option Step → List IntendedPhase → List IntendedPhase
stepped (Some (Put p)) qs = replaced p qs
stepped (Some (TakeOff n)) qs = kept_of n qs
stepped None qs = qs
