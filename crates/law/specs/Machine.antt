-- A device whose fault record stands apart: what a finished line and a tick do is decided without it.
use Rattle.std.specs.Prelude.{ℕ, Bool, true, false, cond, List, [], ℤ, Some, None, Option}
use Rattle.lines.specs.Characters.{Character}
use Rattle.law.specs.Device.{Device}

-- The reply to an accepted line: a text, or what is told of the fault record as it was (RX).
pub data Reply : Type 0 where
  text : List ℕ → Reply
  fault_record : Reply

-- What a finished line comes to.
pub data Outcome (Rest Fault : Type 0) : Type 0 where
  ignored : Outcome Rest Fault  -- a stranger's line
  accepted : Rest → Bool → Reply → Outcome Rest Fault  -- what it leaves, whether the fault record is cleared (MR, RX), and the reply
  refused : Fault → List ℕ → Outcome Rest Fault  -- the fault to keep, and the reply

pub record Machine : Type 1 where
  pub Rest : Type 0
  pub Fault : Type 0
  pub no_fault : Fault
  pub Line : Type 0
  pub empty : Line
  pub push : Line → Character → Line
  pub address : Rest → ℕ
  pub outcome : Rest → Line → Outcome Rest Fault
  pub fault_text : Rest → Fault → List ℕ
  -- the rest after a tick, the step made, whether busy, and the fault that ends a run
  pub tick : Rest → Rest × ℤ × Bool × Option Fault
  pub set_levels : Rest → ℕ → Rest
  pub restart : Rest → Rest
  pub counter : Rest → ℤ
  pub place : Rest → ℕ
  pub sets : Rest → Line → Option ℤ
  pub zeroes : Rest → Bool

-- the machine with its fault record
pub record WithFault (M : Machine) : Type 0 where
  pub rest : M.Rest
  pub fault : M.Fault

abbrev pub keep : (M : Machine) → M.Rest → M.Fault → WithFault M
keep M r f = record { rest = r; fault = f }

abbrev pub reply_text : (M : Machine) → M.Rest → M.Fault → Reply → List ℕ
reply_text M r f (text t) = t
reply_text M r f fault_record = M.fault_text r f

abbrev pub done_by : (M : Machine) → WithFault M → Outcome M.Rest M.Fault → WithFault M × List ℕ
done_by M c ignored = (c, [])
done_by M c (accepted r clears reply) = (keep M r (cond clears M.no_fault c.fault), reply_text M r c.fault reply)
done_by M c (refused f reply) = (keep M c.rest f, reply)

abbrev pub is_refused : {Rest Fault : Type 0} → Outcome Rest Fault → Bool
is_refused (refused f reply) = true
is_refused _ = false

abbrev pub latest : {F : Type 0} → F → Option F → F
latest old None = old
latest old (Some f) = f

abbrev pub device : Machine → Device
device M = record {
  Core = WithFault M;
  Line = M.Line;
  empty = M.empty;
  push = M.push;
  address = λ c. M.address c.rest;
  finish = λ c l. done_by M c (M.outcome c.rest l);
  refuses = λ c l. is_refused (M.outcome c.rest l);
  tick = λ c. (keep M (M.tick c.rest).0 (latest c.fault (M.tick c.rest).3), (M.tick c.rest).1, (M.tick c.rest).2);
  set_levels = λ c v. keep M (M.set_levels c.rest v) c.fault;
  restart = λ c. keep M (M.restart c.rest) M.no_fault;
  Rest = M.Rest;
  rest = λ c. c.rest;
  counter = λ c. M.counter c.rest;
  place = λ c. M.place c.rest;
  sets = λ c l. M.sets c.rest l;
  zeroes = λ c. M.zeroes c.rest;
}
