-- A module on the line, by what its calls do: the law of histories is stated and proved over every one of these.
use Rattle.std.specs.Prelude.{ℕ, Bool, List, ℤ, Option}
use Rattle.lines.specs.Characters.{Character}

pub record Device : Type 1 where
  -- all that is compared at a history's end, the fault record too, with the phase memory and the meaning of the step output
  pub Core : Type 0
  -- the unfinished line
  pub Line : Type 0
  pub empty : Line
  pub push : Line → Character → Line
  pub address : Core → ℕ
  -- a line that has come to its end: what it does, and the reply
  pub finish : Core → Line → Core × List ℕ
  -- is it an own line or a broadcast that is stopped at the receiver, reader, state, values or store?
  pub refuses : Core → Line → Bool
  pub tick : Core → Core × ℤ × Bool
  pub set_levels : Core → ℕ → Core
  pub restart : Core → Core
  -- all of the core but the fault record
  pub Rest : Type 0
  pub rest : Core → Rest
  -- the counter, and the step output's place
  pub counter : Core → ℤ
  pub place : Core → ℕ
  -- what a finished line sets the counter to, if it sets it (MR, DI, DP); whether the next tick zeroes it (NZ)
  pub sets : Core → Line → Option ℤ
  pub zeroes : Core → Bool
