-- A section that is being told.
use Rattle.std.specs.Prelude.{◌≡◌, ℕ, ◌≤◌, Bool, cond, List, [], ◌∷◌, length, map, Some, None, Option}
use Rattle.law.specs.Events.{Event, Answer}
use Rattle.law.specs.History.{State, next, answer}
use Rattle.module.specs.Machine.{module_device}
use Rattle.history.specs.Histories.{shown}
use Rattle.scripts.specs.declared.playback.Playback.{Playback}
use Rattle.scripts.specs.declared.section.Section.{Section}
use Rattle.scripts.specs.Playing.{cycle_of, answers_to, busy_in}
use Rattle.scripts.specs.Sections.{start_of, after_first, after_all}
use Rattle.scripts.specs.Told.{Told}
use Rattle.scripts.specs.Told.Told.{block}

-- whether the module is busy, where that is known
abbrev pub Knows : Option Bool → Bool → Type 0
Knows None busy = Unit {0}
Knows (Some b) busy = b ≡ busy

-- the answers are those of all calls of this section
pub record IsPlayback (s : Section) (p : Playback) : Type 0 where
  pub section : p.section.now ≡ s
  pub address : s.address ≤ 63
  pub all : length p.answers.items ≡ length s.calls.items
  pub answers : map shown p.answers.items ≡ answers_to (cycle_of s.output) s.calls.items (start_of s)
  pub told : p.told ≤ length s.calls.items
  pub busy : Knows p.busy (busy_in (cycle_of s.output) (after_first s p.told))

-- the answer of a module in this state to some call, and whether the module is busy after the call, where that is known
abbrev pub Answers : (cycle : ℕ) → State (module_device cycle) → Answer → Type 0
Answers cycle s a = (e : Event) × (answer (module_device cycle) s e ≡ a)

abbrev pub KnowsAfter : (cycle : ℕ) → State (module_device cycle) → Answer → Option Bool → Type 0
KnowsAfter cycle s a busy = (e : Event) → answer (module_device cycle) s e ≡ a → Knows busy (busy_in cycle (next (module_device cycle) s e))

-- the end block, if the script ends the module
abbrev pub end_told : Bool → Section → List Told
end_told ended s = cond ended (block (cycle_of s.output) (after_all s) ∷ []) []
