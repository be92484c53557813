-- What the law of histories asks of a device, call by call, and the theorem.
use Rattle.std.proofs.Common.{◌≡◌, ℕ, true, false, List, [], ℤ, pos, ◌+ℤ◌, Some, None}
use Rattle.law.specs.Events.{Event, for_module}
use Rattle.lines.specs.Characters.{Character}
use Rattle.law.specs.Device.{Device}
use Rattle.law.specs.History.{line_of}
use Rattle.law.specs.Law.{Law, besides_fault}
use Rattle.steps.specs.Wrap.{modulo24, wrapped24}

-- `Sound` is a fact of the core that every call keeps, such as that the counter has 24 bits; `λ c. Unit {0}` where none is needed.
pub record Lawful (D : Device) (Sound : D.Core → Type 0) : Type 0 where
  pub sound_finish : (c : D.Core) (l : D.Line) → Sound c → Sound (D.finish c l).0
  pub sound_tick : (c : D.Core) → Sound c → Sound (D.tick c).0
  pub sound_levels : (c : D.Core) (v : ℕ) → Sound c → Sound (D.set_levels c v)
  pub sound_restart : (c : D.Core) → Sound c → Sound (D.restart c)
  -- (a) a stranger's line leaves the core as it is and is not answered
  pub ignores_strangers : (c : D.Core) (line : List Character) → Sound c → for_module (D.address c) line ≡ false →
      D.finish c (line_of D line) ≡ (c, [])
  -- the address stays
  pub address_finish : (c : D.Core) (l : D.Line) → D.address (D.finish c l).0 ≡ D.address c
  pub address_tick : (c : D.Core) → D.address (D.tick c).0 ≡ D.address c
  pub address_levels : (c : D.Core) (v : ℕ) → D.address (D.set_levels c v) ≡ D.address c
  pub address_restart : (c : D.Core) → D.address (D.restart c) ≡ D.address c
  -- (b) a refused line changes the fault record alone
  pub refused_keeps : (c : D.Core) (l : D.Line) → Sound c → D.refuses c l ≡ true → D.rest (D.finish c l).0 ≡ D.rest c
  -- the fault record decides nothing but what RX tells
  pub rest_finish : (c c' : D.Core) (l : D.Line) → D.rest c ≡ D.rest c' →
      D.rest (D.finish c l).0 ≡ D.rest (D.finish c' l).0
  pub rest_reply : (c c' : D.Core) (l : D.Line) → D.rest c ≡ D.rest c' →
      besides_fault (D.finish c l).1 ≡ besides_fault (D.finish c' l).1
  pub rest_tick : (c c' : D.Core) → D.rest c ≡ D.rest c' → D.rest (D.tick c).0 ≡ D.rest (D.tick c').0
  pub rest_step : (c c' : D.Core) → D.rest c ≡ D.rest c' → (D.tick c).1 ≡ (D.tick c').1
  pub rest_busy : (c c' : D.Core) → D.rest c ≡ D.rest c' → (D.tick c).2 ≡ (D.tick c').2
  pub rest_levels : (c c' : D.Core) (v : ℕ) → D.rest c ≡ D.rest c' →
      D.rest (D.set_levels c v) ≡ D.rest (D.set_levels c' v)
  pub rest_restart : (c c' : D.Core) → D.rest c ≡ D.rest c' → D.rest (D.restart c) ≡ D.rest (D.restart c')
  -- (c) a finished line that sets the counter sets it to a number of 24 bits; any other leaves counter and place
  pub set_value : (c : D.Core) (l : D.Line) (v : ℤ) → Sound c → D.sets c l ≡ Some v → D.counter (D.finish c l).0 ≡ v
  pub set_fits : (c : D.Core) (l : D.Line) (v : ℤ) → Sound c → D.sets c l ≡ Some v → wrapped24 v ≡ v
  pub unset_counter : (c : D.Core) (l : D.Line) → Sound c → D.sets c l ≡ None → D.counter (D.finish c l).0 ≡ D.counter c
  pub unset_place : (c : D.Core) (l : D.Line) → Sound c → D.sets c l ≡ None → D.place (D.finish c l).0 ≡ D.place c
  -- a tick zeroes the counter, or counts the step that it makes
  pub zeroed : (c : D.Core) → Sound c → D.zeroes c ≡ true → D.counter (D.tick c).0 ≡ pos 0
  pub step_counter : (c : D.Core) → Sound c → D.zeroes c ≡ false →
      D.counter (D.tick c).0 ≡ wrapped24 (D.counter c +ℤ (D.tick c).1)
  pub step_place : (c : D.Core) → Sound c → D.zeroes c ≡ false →
      pos (D.place (D.tick c).0) ≡ modulo24 (pos (D.place c) +ℤ (D.tick c).1)
  pub levels_counter : (c : D.Core) (v : ℕ) → D.counter (D.set_levels c v) ≡ D.counter c
  pub levels_place : (c : D.Core) (v : ℕ) → D.place (D.set_levels c v) ≡ D.place c
  pub restart_counter : (c : D.Core) → D.counter (D.restart c) ≡ pos 0

-- The law holds of every history of every such device that begins sound and with the counter at 0.
-- (It speaks of all devices, so it is no statement of `Type 0`, and no contract can name it: a contract names `Law` at one device.)
abbrev pub HistoriesLawful : Type 1
HistoriesLawful =
    (D : Device) (Sound : D.Core → Type 0) → Lawful D Sound → (start : D.Core) → Sound start → D.counter start ≡ pos 0 → (h : List Event) → Law D start h
