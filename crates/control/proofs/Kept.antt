-- What holds of a state through the start, the course and the end of what goes on, which set the outputs and the activity alone.
use Rattle.std.proofs.Common.{◌≡◌, ℕ, List, ℤ, Some, None, Option, refl, rules}
use Rattle.phases.specs.declared.phase.Phase.{Phase}
use Rattle.motion.specs.Motions.{Motion, begun, stopped, tick_rest}
use Rattle.motion.specs.declared.distance.Distance.{Distance as Steps}
use Rattle.engine.specs.Progress.{Progress}
use Rattle.engine.specs.Ticks.{started, slow_stop}
use Rattle.orders.specs.declared.order.Order.{Order}
use Rattle.control.specs.States.{State, Activity, resting, moving, running, with_activity, ended, moves_on, runs_on}
use Rattle.control.specs.Ticks.{run_outcome, ticked}
use Rattle.control.specs.Obeyed.{moves_to, slowed, cut_off, restarted, obeyed}

pub record Through (s : State) (P : State → Type 0) : Type 0 where
  pub stays : P s
  pub at_rest : P (ended s)
  pub in_movement : (m : Motion) → P (with_activity s (moving m))
  pub in_run : (n : ℕ) (r : Progress) → P (record s { outputs = n; activity = running r })

module _ {s : State} {P : State → Type 0} (h : Through s P) where
  on_movement : (m : Option Motion) → P (moves_on s m)
  on_movement None = h.at_rest
  on_movement (Some m) = h.in_movement m

  on_run : (n : ℕ) (r : Option Progress) → P (runs_on (record s { outputs = n }) r)
  on_run n None = h.at_rest
  on_run n (Some r) = h.in_run n r

  pub through_start : (d : Steps) → P (moves_to s d)
  unfolding moves_to
  through_start d = on_movement (begun s.settings.values None d.direction d.steps _)

  pub through_stop : (a : Activity) → P (slowed s a)
  through_stop resting = h.stays
  through_stop (moving m) = on_movement (stopped m)
  through_stop (running r) = on_run s.outputs (slow_stop r)

  pub through_cut : (a : Activity) → P (cut_off s a)
  through_cut resting = h.stays
  through_cut (moving m) = h.at_rest
  through_cut (running r) = h.at_rest

  pub through_restart : (c : Option ℕ) → P (restarted s c)
  through_restart None = h.at_rest
  through_restart (Some n) = h.in_run 255 (started n)

  pub through_tick : (m : List Phase) (counter : ℤ) (a : Activity) → P (ticked s m counter a)
  through_tick m counter resting = h.stays
  through_tick m counter (moving mo) = on_movement (tick_rest mo)
  through_tick m counter (running r) = on_run _ (run_outcome s m counter r).rest

-- no order and no tick changes the address
addressed : (s : State) → Through s (λ t. t.address ≡ s.address)
addressed s = record { stays = refl; at_rest = refl; in_movement = λ m. refl; in_run = λ n r. refl }

pub restarted_address : (s : State) (c : Option ℕ) → (restarted s c).address ≡ s.address
restarted_address s c = through_restart (addressed s) c

pub obeyed_address : (s : State) (m : List Phase) (counter : ℤ) (o : Order) → (obeyed s m counter o).state.address ≡ s.address
obeyed_address s m counter o = search (rules, through_start (addressed s), through_stop (addressed s), through_cut (addressed s), through_restart (addressed s))

pub ticked_address : (s : State) (m : List Phase) (counter : ℤ) (a : Activity) → (ticked s m counter a).address ≡ s.address
ticked_address s m counter a = through_tick (addressed s) m counter a
