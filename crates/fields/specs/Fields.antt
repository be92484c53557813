-- What the words of a phase say.
use Rattle.std.specs.Prelude.{ℕ, ◌+◌, ◌*◌, Bool, true, cond, ◌&&◌, ◌||◌, List, [], ◌∷◌, length, drop, ℤ, Some, None, Ok, codes, find, Option, Result, ◌==◌, slice_index}
use Rattle.faults.specs.Faults.{and_then}
use Rattle.std.specs.Option.{option_map}
use Rattle.std.specs.Str.{bytes_eq}
use Rattle.faults.specs.declared.Fault.{Fault}
use Rattle.words.specs.Numbers.{value_of, signed_of}
use Rattle.words.specs.declared.word.Word.{Word}
use Rattle.words.specs.declared.word.Word.TheVariants.{Number, Hexadecimal}
use Rattle.words.specs.Readings.{by, field_by, unsigned, end}
use Rattle.words.specs.Tags.{is_tag, past_field}
use Rattle.words.specs.Words.{Ahead, upcoming, past}
use Rattle.phases.specs.declared.phase.Nature.{Nature}
use Rattle.phases.specs.Phases.{nature_of}
use Rattle.steps.specs.declared.direction.Direction.{Direction}
use Rattle.steps.specs.declared.direction.Direction.TheVariants.{Forward, Back}
use Rattle.steps.specs.Directions.{direction_sign}
use Rattle.fields.specs.declared.fields.RawPosition.{RawPosition}
use Rattle.fields.specs.declared.fields.Amount.{Amount}
use Rattle.fields.specs.declared.fields.Options.{Options}
use Rattle.phases.specs.declared.phase.Inputs.{Inputs}
use Rattle.phases.specs.declared.phase.Link.{Link}
use Rattle.phases.specs.declared.phase.Link.TheVariants as link
use Rattle.fields.specs.declared.fields.Action.{Action}
use Rattle.fields.specs.declared.fields.RawPhase.{RawPhase}

-- S and the sign of a direction
abbrev pub direction_word : Direction → List ℕ
direction_word direction = 83 ∷ direction_sign direction ∷ []

abbrev pub direction_of : List ℕ → Option Direction
direction_of w = find (λ d. bytes_eq w (direction_word d)) (Forward ∷ Back ∷ [])

-- C and a number
abbrev pub set_point_of : List ℕ → Option ℤ
set_point_of w = cond (slice_index w 0 == 67) (signed_of (drop 1 w)) None

-- a mark is 0, 1 or X; X names no input, and 1 asks for the high level
abbrev pub is_mark : ℕ → Bool
is_mark m = m == 48 || (m == 49 || m == 88)

abbrev pub named_by : ℕ → ℕ
named_by m = cond (m == 88) 0 1

abbrev pub level_by : ℕ → ℕ
level_by m = cond (m == 49) 1 0

-- the inputs that marks name, and the levels that they ask for, input 1 first and as bit 0
abbrev pub named_of : List ℕ → ℕ
named_of [] = 0
named_of (m ∷ ms) = 2 * named_of ms + named_by m

abbrev pub levels_of : List ℕ → ℕ
levels_of [] = 0
levels_of (m ∷ ms) = 2 * levels_of ms + level_by m

abbrev pub are_marks : List ℕ → Bool
are_marks [] = true
are_marks (m ∷ ms) = is_mark m && are_marks ms

abbrev pub inputs_of : List ℕ → Option Inputs
inputs_of w = cond (length w == 8 && are_marks w) (Some (record { named = named_of w; levels = levels_of w })) None

-- a number with the number of its word
abbrev pub placed : ℕ → Option ℕ → Option Amount
placed i v = option_map (λ n. record { value = n; at = i }) v

-- a number at word i, or XX for none
abbrev pub amount_of : ℕ → List ℕ → Option (Option Amount)
amount_of i w = cond (bytes_eq w (codes "XX")) (Some None) (option_map Some (placed i (value_of 10 10 w)))

abbrev pub hexadecimal_of : ℕ → List ℕ → Option (Option Amount)
hexadecimal_of i w = cond (bytes_eq w (codes "XX")) (Some None) (option_map Some (placed i (value_of 16 8 w)))

-- the same of a word, by the base of its sort
abbrev pub amount_by : ℕ → Word → Option (Option Amount)
amount_by i (Number t) = amount_of i t.now
amount_by i (Hexadecimal t) = hexadecimal_of i t.now
amount_by i _ = None

-- the sequence of a link at word i: after NL it may be XX, after NQ it may not
abbrev pub sequence_of : ℕ → List ℕ → Option (Option (Link Amount))
sequence_of i w = option_map (option_map link.Sequence) (amount_of i w)

abbrev pub sub_sequence_of : ℕ → List ℕ → Option (Option (Link Amount))
sub_sequence_of i w = option_map (λ n. Some (link.SubSequence n)) (placed i (value_of 10 10 w))

-- the fields of a phase; one that is left out says what XX or eight X say
abbrev pub direction_in : Ahead → Result Direction Fault
direction_in s = by direction_of (upcoming s) s.1

abbrev pub nature_in : Ahead → Result Nature Fault
nature_in s = by nature_of (upcoming s) s.1

abbrev pub set_point_in : Ahead → Result ℤ Fault
set_point_in s = by set_point_of (upcoming s) s.1

unfoldable pub link_in : Ahead → Result (Option (Link Amount)) Fault
link_in s =
    cond (is_tag (codes "NL") (upcoming s)) (by (sequence_of (past s).1) (upcoming (past s)) (past s).1) (
    field_by (codes "NQ") (sub_sequence_of (past s).1) None s)

unfoldable pub past_link : Ahead → Ahead
past_link s = cond (is_tag (codes "NL") (upcoming s)) (past (past s)) (past_field (codes "NQ") s)

unfoldable pub inputs_in : Ahead → Result Inputs Fault
inputs_in s = field_by (codes "NE") inputs_of (record { named = 0; levels = 0 }) s

unfoldable pub next_in : Ahead → Result (Option Amount) Fault
next_in s = field_by (codes "NS") (amount_of (past s).1) None s

unfoldable pub outputs_in : Ahead → Result (Option Amount) Fault
outputs_in s = field_by (codes "NO") (hexadecimal_of (past s).1) None s

-- the sequence and the phase
unfoldable pub position_in : Ahead → Result RawPosition Fault
position_in s = and_then (unsigned s) (λ n. and_then (unsigned (past s)) (λ p. Ok (record { sequence = n; phase = p })))

-- what the phase does
unfoldable pub action_in : Ahead → Result Action Fault
action_in s = and_then (direction_in s) (λ d. and_then (nature_in (past s)) (λ k. and_then (set_point_in (past (past s))) (λ c. Ok (record { direction = d; nature = k; set_point = c }))))

-- how the run goes on, each field optional
unfoldable pub options_in : Ahead → Result Options Fault
options_in s =
    and_then (link_in s) (λ l.
    and_then (inputs_in (past_link s)) (λ e.
    and_then (next_in (past_field (codes "NE") (past_link s))) (λ f.
    and_then (outputs_in (past_field (codes "NS") (past_field (codes "NE") (past_link s)))) (λ o.
    Ok (record { link = l; inputs = e; next = f; outputs = o })))))

unfoldable pub past_options : Ahead → Ahead
past_options s = past_field (codes "NO") (past_field (codes "NS") (past_field (codes "NE") (past_link s)))

-- SP: the words of a phase, from the sequence's number on
abbrev pub sp_form : Ahead → Result RawPhase Fault
sp_form s =
    and_then (position_in s) (λ a.
    and_then (action_in (past (past s))) (λ m.
    and_then (options_in (past (past (past (past (past s)))))) (λ c.
    and_then (end (past_options (past (past (past (past (past s))))))) (λ _.
    Ok (record { at = a; action = m; options = c })))))
