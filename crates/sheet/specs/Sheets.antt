-- The counts of a proof sheet, and when it is clean.
use Rattle.std.specs.Prelude.{ℕ, Bool, not, ◌&&◌, List, length, vec_items, vec_len, ◌==◌, count_by, is_some}
use Rattle.std.specs.List.{list_all}
use Rattle.lines.specs.Lines.{kept}
use Rattle.sheet.specs.declared.entry.Entry.{Entry}
use Rattle.sheet.specs.declared.verdict.ShelfPhase.{ShelfPhase}
use Rattle.sheet.specs.declared.sheet.Sheet.{Sheet}
use Rattle.sheet.specs.Outcomes.{is_refused}
use Rattle.runs.specs.declared.report.Report.{Report}
use Rattle.runs.specs.Runs.{fault_in}
use Rattle.sheet.specs.Verdicts.{is_stored}

abbrev pub refused_in : List Entry → ℕ
refused_in es = count_by (λ e. is_refused e.outcome) es

abbrev pub stored_in : List ShelfPhase → ℕ
stored_in ps = count_by (λ p. is_stored p.verdict) ps

-- the file ends in the middle of a line
abbrev pub is_unfinished : Sheet → Bool
is_unfinished s = not (length (kept s.held).characters == 0)

-- the runs that a fault ended
abbrev pub faults_in : List Report → ℕ
faults_in rs = count_by (λ r. is_some (fault_in r.ending)) rs

-- each sequence was started
abbrev pub all_started : List Report → Bool
all_started rs = list_all (λ r. r.started) rs

-- no line is refused, none is unfinished, each phase is stored as on the shelf, each sequence was started, and no run was ended by a fault
abbrev pub is_clean : Sheet → Bool
is_clean s =
    refused_in (vec_items s.entries) == 0
    && (not (is_unfinished s) && (stored_in (vec_items s.shelf) == vec_len s.shelf && (all_started (vec_items s.runs) && faults_in (vec_items s.runs) == 0)))
