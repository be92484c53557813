-- What a transcript tells, and the bytes that tell it.
use Rattle.std.specs.Prelude.{◌≡◌, ℕ, Bool, List, [], ◌∷◌, ◌++◌, ℤ, Option}
use Rattle.faults.specs.declared.Fault.{Fault}
use Rattle.law.specs.History.{State}
use Rattle.module.specs.Machine.{module_device}
use Rattle.scripts.specs.Replies.{echo_of, reply_of}
use Rattle.scripts.specs.Texts.{tick_of, after_of, refused_of, fault_of}

pub data Told : Type 0 where
  line : List ℕ → Told  -- a line of the script
  reply : List ℕ → Told  -- a reply
  tick : ℕ → ℤ → Bool → Told  -- a tick of a line by its number, the step, and whether the module is still busy
  after : ℕ → Bool → Told  -- the end of a line of so many ticks, and whether the module is busy then
  refused : Fault → Told  -- a call refused for an error of the caller
  fault : Option Fault → Told  -- the fault record
  block : (cycle : ℕ) → State (module_device cycle) → Told  -- what the module is

-- the bytes that tell it; the wording of what the module is stands open
abbrev pub Shows : Told → List ℕ → Type 0
Shows (line l) t = t ≡ echo_of l
Shows (reply r) t = t ≡ reply_of r
Shows (tick number step busy) t = t ≡ tick_of number step busy
Shows (after count busy) t = t ≡ after_of count busy
Shows (refused f) t = t ≡ refused_of f
Shows (fault f) t = t ≡ fault_of f
Shows (block cycle s) t = Unit {0}

-- these items and no others, in this order
abbrev pub Tells : List Told → List ℕ → Type 0
Tells [] t = t ≡ []
Tells (x ∷ xs) t = (a : List ℕ) × (b : List ℕ) × (t ≡ a ++ b) × Shows x a × Tells xs b

-- bytes with these items added at their end
abbrev pub Adds : List Told → List ℕ → List ℕ → Type 0
Adds xs old new = (t : List ℕ) × (new ≡ old ++ t) × Tells xs t

-- bytes with some more at their end
abbrev pub Extends : List ℕ → List ℕ → Type 0
Extends old new = (t : List ℕ) × (new ≡ old ++ t)
