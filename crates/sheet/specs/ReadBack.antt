-- The shelf against the module: what RS tells of each phase that is meant.
use Rattle.std.specs.Prelude.{◌≡◌, ◌-◌, ℕ, List, [], ◌∷◌, ◌++◌, length, take, drop, codes, Some, None, Ok, Err, Option, Result, is_ok, if◌then◌else◌}
use Rattle.std.specs.Option.{option_and_then}
use Rattle.faults.specs.declared.Fault.{Fault}
use Rattle.faults.specs.Faults.{and_then}
use Rattle.lines.specs.Addresses.{address_answer}
use Rattle.words.specs.Words.{words}
use Rattle.phases.specs.declared.phase.Phase.{Phase}
use Rattle.phases.specs.declared.phase.Position.{Position}
use Rattle.fields.specs.Fields.{sp_form}
use Rattle.fields.specs.Values.{sp_values}
use Rattle.replies.specs.Replies.{digits_of}
use Rattle.law.specs.Events.{Answer}
use Rattle.law.specs.Events.Answer.{reply}
use Rattle.law.specs.History.{State}
use Rattle.module.specs.Machine.{module_device}
use Rattle.history.specs.Hosts.{set_anew, after_own, own_reply}
use Rattle.sheet.specs.declared.shelf.IntendedPhase.{IntendedPhase}
use Rattle.sheet.specs.declared.verdict.ShelfPhase.{ShelfPhase}
use Rattle.sheet.specs.Shelves.{position_of}
use Rattle.sheet.specs.Verdicts.{Judged}

-- a reply without its address, its letters and its end
abbrev pub unframed : List ℕ → List ℕ
unframed t = take (length t - 7) (drop 5 t)

abbrev pub record_of : Result (Position × Phase) Fault → Option Phase
record_of (Ok p) = Some p.1
record_of (Err f) = None

-- the phase that a reply to RS tells, as SP takes its words; none where it tells no phase
abbrev pub phase_told : List ℕ → Option Phase
phase_told t = record_of (and_then (sp_form (words (unframed t), 1)) sp_values)

abbrev pub reply_text : Answer → List ℕ
reply_text (reply t) = t
reply_text _ = []

-- RS, the sequence and the phase, in two digits each
abbrev pub rs_line : Position → List ℕ
rs_line at = codes "RS " ++ digits_of 2 at.sequence ++ codes " " ++ digits_of 2 at.phase

-- what a module reads back, and the module then
abbrev pub read_back : (cycle : ℕ) → State (module_device cycle) → Position → Option Phase
read_back cycle s at = phase_told (reply_text (own_reply cycle (rs_line at) s))

abbrev pub after_reading : (cycle : ℕ) → State (module_device cycle) → Option Position → State (module_device cycle)
after_reading cycle s None = s
after_reading cycle s (Some at) = after_own cycle (rs_line at) s

-- each phase that is meant is held against what the module reads back in its place, one after the other; and the module then
abbrev pub Compared : (cycle : ℕ) → State (module_device cycle) → List IntendedPhase → List ShelfPhase → Type 0
Compared cycle s [] ps = ps ≡ []
Compared cycle s (m ∷ ms) [] = ⊥
Compared cycle s (m ∷ ms) (p ∷ ps) =
    (p.intended ≡ m)
    × Judged m.record (option_and_then (read_back cycle s) (position_of m)) p.verdict
    × Compared cycle (after_reading cycle s (position_of m)) ms ps

abbrev pub after_shelf : (cycle : ℕ) → State (module_device cycle) → List IntendedPhase → State (module_device cycle)
after_shelf cycle s [] = s
after_shelf cycle s (m ∷ ms) = after_shelf cycle (after_reading cycle s (position_of m)) ms

-- the module after the file: its unfinished line is dropped, as where its address is set anew, and what goes on is ended by GR
abbrev pub settled : (cycle : ℕ) → ℕ → State (module_device cycle) → State (module_device cycle)
settled cycle a s = after_own cycle (codes "GR") (if is_ok (address_answer a) then set_anew cycle a s else s)
