-- What a step output answers to requests, one by one and in a list.
use Rattle.std.specs.Prelude.{ℕ, true, List, [], ◌∷◌, ℤ, pos, ◌+ℤ◌}
use Rattle.steps.specs.Directions.{one_step}
use Rattle.outputs.specs.Meaning.{Meaning, stepped, switched}
use Rattle.outputs.specs.declared.request.Request.{Request}
use Rattle.outputs.specs.declared.request.Request.TheVariants as ask
use Rattle.outputs.specs.declared.request.Answer.{Answer}
use Rattle.outputs.specs.declared.request.Answer.TheVariants as told

-- The place and the power after a request: those of a step or of a switch of power, and after a question those before it.
abbrev pub meaning_after : Request → Meaning → Meaning
meaning_after (ask.Step d) m = stepped d m
meaning_after (ask.SetPower on) m = switched on m
meaning_after ask.Place m = m
meaning_after ask.Power m = m
meaning_after ask.Cycle m = m

-- What an output with this cycle, place and power answers: to a step, whether it is made, which it is with power on; to a switch of
-- power, that it is switched; to a question, what is asked for.
abbrev pub answer_of : ℕ → Request → Meaning → Answer
answer_of cycle (ask.Step d) m = told.Made m.power
answer_of cycle (ask.SetPower on) m = told.Switched
answer_of cycle ask.Place m = told.Place m.place
answer_of cycle ask.Power m = told.Power m.power
answer_of cycle ask.Cycle m = told.Cycle cycle

-- The place and the power after all requests of a list, from the first to the last.
abbrev pub after : List Request → Meaning → Meaning
after [] m = m
after (r ∷ rs) m = after rs (meaning_after r m)

-- The answers to the requests of a list, from the first to the last, one to each.
abbrev pub answers : ℕ → List Request → Meaning → List Answer
answers cycle [] m = []
answers cycle (r ∷ rs) m = answer_of cycle r m ∷ answers cycle rs (meaning_after r m)

-- Among the steps that are answered as made: those forward less those back.
abbrev pub displacement : List Request → List Answer → ℤ
displacement (ask.Step d ∷ rs) (told.Made true ∷ xs) = one_step d +ℤ displacement rs xs
displacement (r ∷ rs) (x ∷ xs) = displacement rs xs
displacement rs xs = pos 0
