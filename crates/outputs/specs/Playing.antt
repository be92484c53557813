-- A list of requests that is played on an output, with its answers in a room that is lent.
use Rattle.std.specs.Prelude.{◌≡◌, ℕ, Bool, ◌&&◌, codes, List, length, take, drop, nat_le}
use Rattle.outputs.specs.Meaning.{Meaning}
use Rattle.outputs.specs.Requests.{after, answers}
use Rattle.outputs.specs.declared.request.Request.{Request}
use Rattle.outputs.specs.declared.request.Answer.{Answer}

-- Each of two rooms is at least as long as the list of requests, by their lengths.
abbrev pub has_room : ℕ → ℕ → ℕ → Bool
has_room requests dry_room pulse_room = nat_le requests dry_room && nat_le requests pulse_room

-- What is said where a room is too short.
abbrev pub no_room_text : List ℕ
no_room_text = codes "a room for answers is shorter than the list of requests"

-- An output with this cycle has played the list: its place and its power are those after all requests, the answers stand in the
-- room from its front, and the room beyond them is as before.
pub record Played (cycle : ℕ) (requests : List Request) (old new : Meaning) (before filled : List Answer) : Type 0 where
  pub meaning : new ≡ after requests old
  pub told : take (length requests) filled ≡ answers cycle requests old
  pub beyond : drop (length requests) filled ≡ drop (length requests) before

-- Two outputs have given the same answers to the list, and are left with equal place and power.
pub record AnswerAlike (requests : List Request) (first second : Meaning) (first_room second_room : List Answer) : Type 0 where
  pub answers : take (length requests) first_room ≡ take (length requests) second_room
  pub meaning : first ≡ second
