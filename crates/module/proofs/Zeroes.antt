-- A tick zeroes the counter exactly where it enters NZ.
use Rattle.std.proofs.Common.{◌≡◌, ℕ, Bool, true, false, cond, List, ℤ, Some, None, Ok, Err, Option, Result, refl, ◌∙◌, rules, nat_le}
use Rattle.std.specs.Option.{option_and_then}
use Rattle.faults.specs.declared.Fault.{Fault}
use Rattle.phases.specs.declared.phase.Phase.{Phase}
use Rattle.phases.specs.declared.phase.Nature.{Nature}
use Rattle.store.specs.Records.{phase_at}
use Rattle.motion.specs.Motions.{Motion, tick_step, tick_rest}
use Rattle.engine.specs.declared.effects.Effects.{Effects}
use Rattle.engine.specs.Effects.{step_only, nothing}
use Rattle.engine.specs.Entering.{zeroes, entered, sets_movement, starts, enters}
use Rattle.engine.specs.Leaving.{leaves, phase_ended}
use Rattle.engine.specs.Progress.{Progress, Outcome, PhaseState, entering, moving, waiting, to_enter}
use Rattle.engine.specs.Surroundings.{Program, Moment}
use Rattle.engine.specs.Ticks.{moved, waited, state_tick}
use Rattle.control.specs.States.{State, Activity, resting, moving as in_movement, running, upcoming_in}
use Rattle.control.specs.Ticks.{run_outcome, tick_effects}
use Rattle.module.specs.States.{ModuleState, effects_of}
use Rattle.module.specs.Counter.{entered_next, is_nz, zeroing}

choose : {A : Type 0} (P : A → Type 0) (b : Bool) (x y : A) → P x → P y → P (cond b x y)
choose P true x y p q = p
choose P false x y p q = q

ended_zeroes : (e : Effects) (r : Result (Option Progress) Fault) → (phase_ended e r).effects.zero_counter ≡ e.zero_counter
ended_zeroes e (Ok c) = refl
ended_zeroes e (Err f) = refl

nz_zeroes : (n : Nature) → zeroes n ≡ is_nz n
nz_zeroes n = search rules

module _ (g : Program) (t : Moment) (c : Progress) where
  set_zeroes : (p : Phase) (m : Option Motion) → (sets_movement g t c p m).effects.zero_counter ≡ is_nz p.nature
  set_zeroes p None = ended_zeroes (entered p) (leaves g t c p) ∙ nz_zeroes p.nature
  set_zeroes p (Some m) = nz_zeroes p.nature

  starts_zeroes : (p : Phase) (n : Nature) → (starts g t c p n).effects.zero_counter ≡ is_nz p.nature
  starts_zeroes p n = search (rules, set_zeroes, nz_zeroes, ended_zeroes)

  enters_zeroes : (o : Option Phase) → (enters g t c o).effects.zero_counter ≡ zeroing o
  enters_zeroes None = refl
  enters_zeroes (Some p) = starts_zeroes p p.nature

  moved_zeroes : (p : Phase) (m : Motion) (rest : Option Motion) → (moved g t c p m rest).effects.zero_counter ≡ false
  moved_zeroes p m (Some rest) = refl
  moved_zeroes p m None = choose (λ (o : Outcome). o.effects.zero_counter ≡ false) m.stopping _ _ refl (ended_zeroes (step_only (tick_step m)) (leaves g t c p))

  waited_zeroes : (p : Phase) (n : ℕ) → (waited g t c p n).effects.zero_counter ≡ false
  waited_zeroes p n = choose (λ (o : Outcome). o.effects.zero_counter ≡ false) (nat_le n 1) _ _ (ended_zeroes nothing (leaves g t c p)) refl

  state_zeroes : (a : PhaseState) → (state_tick g t c a).effects.zero_counter ≡ zeroing (option_and_then (phase_at g.blocks g.records) (to_enter a c.at))
  state_zeroes entering = enters_zeroes (phase_at g.blocks g.records c.at)
  state_zeroes (moving p m) = moved_zeroes p m (tick_rest m)
  state_zeroes (waiting p n) = waited_zeroes p n

doing_zeroes : (s : State) (m : List Phase) (z : ℤ) (d : Activity) → (tick_effects s m z d).zero_counter ≡ zeroing (option_and_then (phase_at s.blocks m) (upcoming_in d))
unfolding run_outcome
doing_zeroes s m z resting = refl
doing_zeroes s m z (in_movement mo) = refl
doing_zeroes s m z (running c) = state_zeroes (record { blocks = s.blocks; records = m; values = s.settings.values }) (record { counter = z; levels = s.levels }) c c.state

pub tick_zeroes : (r : ModuleState) → (effects_of r).zero_counter ≡ zeroing (entered_next r)
tick_zeroes r = doing_zeroes r.control r.records r.axis.counter r.control.activity
