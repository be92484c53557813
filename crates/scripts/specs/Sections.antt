-- The section of a script that plays on one module.
use Rattle.std.specs.Prelude.{◌≡◌, ℕ, ◌+◌, ◌-◌, ◌≤◌, true, false, List, [], ◌∷◌, ◌++◌, length, map, take, drop, Ok, Err, Result, nat_le}
use Rattle.law.specs.declared.Call.{Call}
use Rattle.law.specs.History.{State as Module}
use Rattle.module.specs.Machine.{module_device}
use Rattle.scripts.specs.declared.expected.Expected.TheVariants.{FewerCalls}
use Rattle.scripts.specs.declared.line_error.LineError.{LineError}
use Rattle.scripts.specs.declared.line_error.LineError.TheVariants.{Expected, NoMemory}
use Rattle.scripts.specs.declared.section.Entry.{Entry}
use Rattle.scripts.specs.declared.section.LineKind.{LineKind}
use Rattle.scripts.specs.declared.section.LineKind.TheVariants.{Calls, Ticks, Fault, State}
use Rattle.scripts.specs.declared.section.Section.{Section}
use Rattle.scripts.specs.Asked.{Asked}
use Rattle.scripts.specs.Calls.{calls_of, kind_of}
use Rattle.scripts.specs.Playing.{cycle_of, new_module, after_calls, under}
use Rattle.scripts.specs.Told.{Told}
use Rattle.scripts.specs.Told.Told.{line as told_line}

-- a line that is gathered: its bytes, what is told under it, and how many calls have been made with it
abbrev pub Gathered : Type 0
Gathered = List ℕ × LineKind × ℕ

abbrev pub gathered : Entry → Gathered
gathered e = (e.line.now, e.kind, e.reached)

abbrev pub lines_of : Section → List Gathered
lines_of s = map gathered s.entries.items

-- a line makes calls or none, n calls having been made before it and m then
abbrev pub Reaches : LineKind → ℕ → ℕ → Type 0
Reaches Calls n m = n ≤ m
Reaches Ticks n m = n ≤ m
Reaches Fault n m = m ≡ n
Reaches State n m = m ≡ n

-- the counts rise up to the number of all calls
abbrev pub Rises : ℕ → List Gathered → ℕ → Type 0
Rises n [] all = n ≡ all
Rises n (g ∷ gs) all = Reaches g.1 n g.2 × Rises g.2 gs all

pub record IsWhole (s : Section) : Type 0 where
  pub address : s.address ≤ 63
  pub rises : Rises 0 (lines_of s) (length s.calls.items)
  pub few : length s.calls.items ≤ 20000000

-- the module of a section, new and after some of its calls
abbrev pub start_of : (s : Section) → Module (module_device (cycle_of s.output))
start_of s = new_module s.output s.address

abbrev pub after_first : (s : Section) → ℕ → Module (module_device (cycle_of s.output))
after_first s n = after_calls (cycle_of s.output) (take n s.calls.items) (start_of s)

abbrev pub after_all : (s : Section) → Module (module_device (cycle_of s.output))
after_all s = after_calls (cycle_of s.output) s.calls.items (start_of s)

-- what is told of lines that are gathered, n calls having been made before the first of them
abbrev pub gathered_told : (cycle : ℕ) → ℕ → Module (module_device cycle) → List Gathered → List Call → List Told
gathered_told cycle n s [] calls = []
gathered_told cycle n s (g ∷ gs) calls =
    told_line g.0 ∷ (under cycle g.1 (take (g.2 - n) calls) s ++ gathered_told cycle g.2 (after_calls cycle (take (g.2 - n) calls) s) gs (drop (g.2 - n) calls))

abbrev pub section_told : Section → List Told
section_told s = gathered_told (cycle_of s.output) 0 (start_of s) (lines_of s) s.calls.items

-- a line with its calls at the end of a section
pub record Takes (line : List ℕ) (kind : LineKind) (made : List Call) (old new : Section) : Type 0 where
  pub output : new.output ≡ old.output
  pub address : new.address ≡ old.address
  pub calls : new.calls.items ≡ old.calls.items ++ made
  pub lines : lines_of new ≡ lines_of old ++ (line, kind, length new.calls.items) ∷ []

-- a line that asks for something is taken, or refused where the calls would be more than 20,000,000, or there is not enough memory
abbrev pub Taken : List ℕ → Asked → Section → Section → Result (Unit {0}) LineError → Type 0
Taken l a old new (Ok u) = (nat_le (length old.calls.items + length (calls_of a)) 20000000 ≡ true) × Takes l (kind_of a) (calls_of a) old new
Taken l a old new (Err (Expected e)) = (nat_le (length old.calls.items + length (calls_of a)) 20000000 ≡ false) × (e ≡ FewerCalls) × (new ≡ old)
Taken l a old new (Err NoMemory) = Unit {0}
