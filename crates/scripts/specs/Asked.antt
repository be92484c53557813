-- What a line of a script asks for.
use Rattle.std.specs.Prelude.{ℕ, List, Some, None, Ok, Err, Option, Result}
use Rattle.law.specs.declared.Call.{Call}
use Rattle.programs.specs.declared.output.Output.{Output}
use Rattle.scripts.specs.declared.expected.Expected.{Expected}
use Rattle.scripts.specs.declared.step.Step.{Step}
use Rattle.scripts.specs.declared.step.Step.TheVariants as step

pub data Asked : Type 0 where
  begins : Output → ℕ → Asked  -- a module over this output, at this address
  sends : List ℕ → Asked  -- these characters, then 0Dh
  types : List ℕ → Asked  -- these characters alone
  calls : Call → Asked  -- one call
  ticks : ℕ → Asked  -- so many ticks
  fault : Asked  -- the fault record
  state : Asked  -- what the module is

abbrev pub asked : Step → Asked
asked (step.Module output address) = begins output address
asked (step.Send text) = sends text.now
asked (step.Type text) = types text.now
asked (step.Once call) = calls call
asked (step.Ticks count) = ticks count
asked step.Fault = fault
asked step.State = state

-- what is read of a line: nothing of one that is passed over
abbrev pub asked_in : Result (Option Step) Expected → Result (Option Asked) Expected
asked_in (Ok None) = Ok None
asked_in (Ok (Some s)) = Ok (Some (asked s))
asked_in (Err e) = Err e

-- the same of a line of words
abbrev pub asked_by : Result Step Expected → Result Asked Expected
asked_by (Ok s) = Ok (asked s)
asked_by (Err e) = Err e

-- the same of what stands behind a first word
abbrev pub asked_of : Option Step → Option Asked
asked_of None = None
asked_of (Some s) = Some (asked s)
