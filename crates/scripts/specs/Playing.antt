-- What is told under the lines of a script.
use Rattle.std.specs.Prelude.{◌≡◌, ℕ, suc, ◌+◌, Bool, cond, not, ◌&&◌, List, [], ◌∷◌, ◌++◌, length, map, replicate, ℤ, pos, Some, None, Ok, Err, Option, Result, ◌==◌, nat_le}
use Rattle.std.specs.List.{slice_split}
use Rattle.std.specs.Ordering.{int_eq}
use Rattle.phases.specs.Phases.{blank}
use Rattle.outputs.specs.Meaning.{initial}
use Rattle.outputs.specs.Patterns.{full_cycle, half_cycle}
use Rattle.outputs.specs.Pulses.{pulse_cycle}
use Rattle.outputs.specs.DryRuns.{dry_cycle}
use Rattle.faults.specs.Faults.{wrong_address}
use Rattle.control.specs.States.{is_busy}
use Rattle.law.specs.declared.Call.{Call}
use Rattle.law.specs.Events.{Event, Answer, event}
use Rattle.law.specs.Events.Answer.{refused, reply, ticked, done}
use Rattle.law.specs.History.{State as Module, next, answer, answers, after}
use Rattle.module.specs.Machine.{module_device}
use Rattle.history.specs.Histories.{started}
use Rattle.programs.specs.declared.output.Output.{Output}
use Rattle.programs.specs.declared.output.Output.TheVariants.{Full, Half, Pulse, Dry}
use Rattle.scripts.specs.declared.error.ScriptError.{ScriptError}
use Rattle.scripts.specs.declared.error.ScriptError.TheVariants.{Line, NoMemory}
use Rattle.scripts.specs.declared.expected.Expected.{Expected}
use Rattle.scripts.specs.declared.expected.Expected.TheVariants.{FirstModule, FewerCalls}
use Rattle.scripts.specs.Asked.{Asked}
use Rattle.scripts.specs.Asked.Asked.{begins}
use Rattle.scripts.specs.Calls.{calls_of, kind_of}
use Rattle.scripts.specs.declared.section.LineKind.{LineKind}
use Rattle.scripts.specs.declared.section.LineKind.TheVariants.{Calls, Ticks, Fault, State}
use Rattle.scripts.specs.Reading.{line_asks}
use Rattle.scripts.specs.Told.{Told, Adds}
use Rattle.scripts.specs.Told.Told.{line as told_line, reply as told_reply, tick as told_tick, after as told_after, refused as told_refused, fault as told_fault, block as told_block}

-- the steps after which the lines of an output repeat
abbrev pub cycle_of : Output → ℕ
cycle_of Full = full_cycle
cycle_of Half = half_cycle
cycle_of Pulse = pulse_cycle
cycle_of Dry = dry_cycle

-- a new module over an output and an unwritten memory, set to its address
abbrev pub new_module : (o : Output) → ℕ → Module (module_device (cycle_of o))
new_module o address = started (cycle_of o) address initial (replicate 414 blank)

-- a tick without a step that leaves the module as busy as it was
abbrev pub is_quiet : Bool → ℤ → Bool → Bool
is_quiet busy step now = int_eq step (pos 0) && cond busy now (not now)

-- what is told of a call's answer, by the number of the call in its line and whether the module was busy before: a refusal, a reply
-- that is not empty, a tick that is not quiet
abbrev pub answer_told : ℕ → Bool → Answer → List Told
answer_told n busy (refused f) = told_refused f ∷ []
answer_told n busy (reply r) = cond (length r == 0) [] (told_reply r ∷ [])
answer_told n busy (ticked step now) = cond (is_quiet busy step now) [] (told_tick n step now ∷ [])
answer_told n busy done = []

module _ (cycle : ℕ) where
  -- whether a movement or a sequence runs
  abbrev pub busy_in : Module (module_device cycle) → Bool
  busy_in s = is_busy s.core.rest.control.activity

  -- what is told of these calls, the first of which has the number n in its line
  abbrev pub calls_told : ℕ → Module (module_device cycle) → List Event → List Told
  calls_told n s [] = []
  calls_told n s (e ∷ h) = answer_told n (busy_in s) (answer (module_device cycle) s e) ++ calls_told (suc n) (next (module_device cycle) s e) h

  -- the module after these calls
  abbrev pub after_calls : List Call → Module (module_device cycle) → Module (module_device cycle)
  after_calls calls s = after (module_device cycle) s (map event calls)

  -- what these calls answer
  abbrev pub answers_to : List Call → Module (module_device cycle) → List Answer
  answers_to calls s = answers (module_device cycle) s (map event calls)

  -- what is told under a line that makes these calls: their answers, and the end of a line of ticks; or the fault record; or what the
  -- module is
  abbrev pub under : LineKind → List Call → Module (module_device cycle) → List Told
  under Calls calls s = calls_told 1 s (map event calls)
  under Ticks calls s = calls_told 1 s (map event calls) ++ told_after (length calls) (busy_in (after_calls calls s)) ∷ []
  under Fault calls s = told_fault s.core.fault ∷ []
  under State calls s = told_block cycle s ∷ []

-- the module that a script plays on, if it does: its output, how many calls it has had, and what it is
pub data Going : Type 0 where
  nothing : Going
  going : (o : Output) → ℕ → Module (module_device (cycle_of o)) → Going

-- what is told where a module ends
abbrev pub end_told : Going → List Told
end_told nothing = []
end_told (going o n s) = told_block (cycle_of o) s ∷ []

-- the module that a `module` line begins, and what is told under it
abbrev pub begun : Output → ℕ → Going × List Told
begun o a = cond (nat_le a 63) (going o 0 (new_module o a), []) (nothing, told_refused wrong_address ∷ [])

-- the module goes on with a line, if it then has had at most 20,000,000 calls
abbrev pub goes_on : List ℕ → Asked → Going → Result (Going × List Told) Expected
goes_on l a nothing = Err FirstModule
goes_on l a (going o n s) =
    cond (nat_le (n + length (calls_of a)) 20000000) (Ok (going o (n + length (calls_of a)) (after_calls (cycle_of o) (calls_of a) s), told_line l ∷ under (cycle_of o) (kind_of a) (calls_of a) s)) (Err FewerCalls)

-- a line that asks for something
abbrev pub asked_done : List ℕ → Asked → Going → Result (Going × List Told) Expected
asked_done l (begins o a) g = Ok ((begun o a).0, end_told g ++ told_line l ∷ (begun o a).1)
asked_done l a g = goes_on l a g

-- a line, as it is read; one that is passed over is not told
abbrev pub read_done : List ℕ → Result (Option Asked) Expected → Going → Result (Going × List Told) Expected
read_done l (Ok None) g = Ok (g, [])
read_done l (Ok (Some a)) g = asked_done l a g
read_done l (Err e) g = Err e

abbrev pub line_done : List ℕ → Going → Result (Going × List Told) Expected
line_done l g = read_done l (line_asks l) g

-- what a whole script tells, and the number of the line that ended it with what was expected there
abbrev pub Outcome : Type 0
Outcome = List Told × Result (Unit {0}) (ℕ × Expected)

abbrev pub onward : ℕ → Result (Going × List Told) Expected → (Going → Outcome) → Outcome
onward n (Err e) more = ([], Err (n, e))
onward n (Ok (g, told)) more = (told ++ (more g).0, (more g).1)

-- the lines of a script, of which the first has the number n
abbrev pub lines_told : ℕ → Going → List (List ℕ) → Outcome
lines_told n g [] = (end_told g, Ok tt)
lines_told n g (l ∷ ls) = onward n (line_done l g) (λ h. lines_told (suc n) h ls)

-- 0Ah ends a line
abbrev pub script_told : List ℕ → Outcome
script_told text = lines_told 1 nothing (slice_split (λ b. b == 10) text)

-- how a script was played: a script is played to its end or up to the line that is not understood, or there is not enough memory
abbrev pub Transcribed : Outcome → List ℕ → List ℕ → Result (Unit {0}) ScriptError → Type 0
Transcribed o old new (Ok u) = (o.1 ≡ Ok tt) × Adds o.0 old new
Transcribed o old new (Err (Line n e)) = (o.1 ≡ Err (n, e)) × Adds o.0 old new
Transcribed o old new (Err NoMemory) = Unit {0}
