-- What passes between the host and the module while a file is sent.
use Rattle.std.specs.Prelude.{ℕ, ◌+◌, false, cond, length, List, [], ◌∷◌, ◌++◌, map, ◌==◌}
use Rattle.lines.specs.Lines.{Kept, kept}
use Rattle.law.specs.Events.{received}
use Rattle.law.specs.History.{State, next}
use Rattle.module.specs.Lines.{judged_line}
use Rattle.module.specs.Machine.{module_device}
use Rattle.history.specs.Histories.{told as reply_text}
use Rattle.sheet.specs.declared.entry.Entry.{Entry}
use Rattle.sheet.specs.declared.entry.LineOutcome.{LineOutcome}
use Rattle.sheet.specs.Outcomes.{outcome_of}

-- a line with its number in the file, what becomes of it, and the reply
pub record Exchange : Type 0 where
  pub number : ℕ
  pub line : Kept
  pub outcome : LineOutcome
  pub reply : List ℕ

-- the line that a module in this state holds, where it ends now
abbrev pub exchange : (cycle : ℕ) → ℕ → State (module_device cycle) → Exchange
exchange cycle n s = record { number = n; line = s.line; outcome = outcome_of (judged_line s.core.rest s.line); reply = ((module_device cycle).finish s.core s.line).1 }

-- the lines that have ended so far, and the module after them
pub record Sent (cycle : ℕ) : Type 0 where
  pub exchanges : List Exchange
  pub state : State (module_device cycle)

-- a module to which nothing has been sent
abbrev pub fresh : (cycle : ℕ) → State (module_device cycle) → Sent cycle
fresh cycle s = record { exchanges = []; state = s }

-- a byte more, undamaged: 0Dh ends the line
abbrev pub byte_sent : (cycle : ℕ) → Sent cycle → ℕ → Sent cycle
byte_sent cycle t b =
    record {
      exchanges = t.exchanges ++ cond (b == 13) (exchange cycle (length t.exchanges + 1) t.state ∷ []) [];
      state = next (module_device cycle) t.state (received b false);
    }

abbrev pub bytes_sent : (cycle : ℕ) → Sent cycle → List ℕ → Sent cycle
bytes_sent cycle t [] = t
bytes_sent cycle t (b ∷ bs) = bytes_sent cycle (byte_sent cycle t b) bs

-- what the entries of a sheet tell
abbrev pub exchange_of : Entry → Exchange
exchange_of e = record { number = e.number; line = kept e.line; outcome = e.outcome; reply = reply_text e.reply }

abbrev pub exchanges_of : List Entry → List Exchange
exchanges_of es = map exchange_of es
