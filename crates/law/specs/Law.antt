-- The law of whole histories.
use Rattle.std.specs.Prelude.{◌≡◌, ℕ, Bool, true, false, cond, ◌&&◌, List, [], ◌∷◌, map, take, pos, ◌+ℤ◌, ◌-ℤ◌, ◌==◌, slice_index}
use Rattle.steps.specs.Wrap.{wrapped24}
use Rattle.law.specs.Events.{Event, Answer}
use Rattle.law.specs.Events.Answer.{refused, reply, ticked, done}
use Rattle.law.specs.Device.{Device}
use Rattle.law.specs.History.{State, at, after, answers, those, stay_without_strangers, stay_without_refused, Setting, last_set}

-- The answers that tell something: the replies that are not empty, and those of the ticks.
abbrev pub tells : Answer → Bool
tells (refused fault) = false
tells (reply []) = false
tells (reply (b ∷ bs)) = true
tells (ticked step busy) = true
tells done = false

abbrev pub told : List Answer → List Answer
told [] = []
told (x ∷ xs) = cond (tells x) (x ∷ told xs) (told xs)

-- What RX tells is not compared: of a reply with the letters EE after the address only these four characters are.
abbrev pub besides_fault : List ℕ → List ℕ
besides_fault bytes = cond (slice_index bytes 2 == 69 && slice_index bytes 3 == 69) (take 4 bytes) bytes

abbrev pub besides_rx : Answer → Answer
besides_rx (refused fault) = refused fault
besides_rx (reply bytes) = reply (besides_fault bytes)
besides_rx (ticked step busy) = ticked step busy
besides_rx done = done

-- A module made new has no unfinished line. Its history's calls, answers and end:
abbrev pub new : (D : Device) → D.Core → State D
new D start = at D start D.empty

abbrev pub at_end : (D : Device) → D.Core → List Event → D.Core
at_end D start h = (after D (new D start) h).core

abbrev pub all_answers : (D : Device) → D.Core → List Event → List Answer
all_answers D start h = answers D (new D start) h

-- the marks of the calls that stay once strangers' lines are struck out, and once the chosen refused lines are
abbrev pub no_strangers : (D : Device) → D.Core → List Event → List Bool
no_strangers D start h = stay_without_strangers (D.address start) [] h

abbrev pub no_refused : (D : Device) → D.Core → (ℕ → Bool) → List Event → List Bool
no_refused D start chosen h = stay_without_refused D chosen 0 (new D start) h

-- making sets the counter to 0
abbrev pub latest_setting : (D : Device) → D.Core → List Event → Setting
latest_setting D start h = last_set D (new D start) (record { value = pos 0; place_then = D.place start }) h

-- THE LAW of a history h of a module that begins with this core.
pub record Law (D : Device) (start : D.Core) (h : List Event) : Type 0 where
  -- (a) Take a second history that is the same once strangers' lines are struck out of both. Then the calls left have the
  -- same answers, all replies and all ticks' answers are the same, and so is the core at the end.
  pub strangers : (h' : List Event) →
      those (no_strangers D start h) h ≡ those (no_strangers D start h') h' →
      (those (no_strangers D start h) (all_answers D start h) ≡ those (no_strangers D start h') (all_answers D start h'))
      × (told (all_answers D start h) ≡ told (all_answers D start h'))
      × (at_end D start h ≡ at_end D start h')
  -- (b) Strike out any refused lines. Every answer that is left stays the same, apart from what RX tells, and so does the
  -- core at the end, apart from the fault record.
  pub refusals : (chosen : ℕ → Bool) →
      (map besides_rx (those (no_refused D start chosen h) (all_answers D start h))
      ≡ map besides_rx (all_answers D start (those (no_refused D start chosen h) h)))
      × (D.rest (at_end D start h) ≡ D.rest (at_end D start (those (no_refused D start chosen h) h)))
  -- (c) The counter is the value last set, plus the step output's place now, less its place then, wrapped to 24 bits.
  pub counts :
      D.counter (at_end D start h)
      ≡ wrapped24 (((latest_setting D start h).value +ℤ pos (D.place (at_end D start h)))
      -ℤ pos (latest_setting D start h).place_then)
