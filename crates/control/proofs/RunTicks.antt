-- A tick of a run on the module: what the run answers, by the counter as the code has it.
use Rattle.std.proofs.Common.{◌≡◌, ℕ, List, ℤ, Option, to_z, of_z, FitsSigned, sym, ap, ◌∙◌, unwrap_or, w32}
use Rattle.std.proofs.lemmas.Int.{to_z-of_z}
use Rattle.phases.specs.declared.phase.Phase.{Phase}
use Rattle.engine.specs.Progress.{Outcome, Progress}
use Rattle.engine.specs.Ticks.{tick}
use Rattle.control.specs.States.{State, runs_on}
use Rattle.control.specs.Ticks.{run_outcome, run_ticked}

-- the counter passes through 32 bits as it is
pub outcome_as_told : (s : State) (m : List Phase) (z : ℤ) (r : Progress) (o : Outcome) → FitsSigned w32 z →
    o ≡ tick (record { blocks = s.blocks; records = m; values = s.settings.values }) (record { counter = to_z w32 (of_z w32 z); levels = s.levels }) r →
    o ≡ run_outcome s m z r
unfolding run_outcome
outcome_as_told s m z r o f e =
    e ∙ ap (λ y. tick (record { blocks = s.blocks; records = m; values = s.settings.values }) (record { counter = y; levels = s.levels }) r) (to_z-of_z w32 z f)

-- the outputs that the tick sets, and the run that is left
pub state_left : (s : State) (o p : Outcome) (n : ℕ) (rest : Option Progress) → o ≡ p → n ≡ unwrap_or o.effects.outputs s.outputs → o.rest ≡ rest →
    runs_on (record s { outputs = n }) rest ≡ run_ticked s p
state_left s o p n rest e u r =
    ap (λ k. runs_on (record s { outputs = k }) rest) u
    ∙ ap (λ q. runs_on (record s { outputs = unwrap_or o.effects.outputs s.outputs }) q) (sym r)
    ∙ ap (run_ticked s) e
