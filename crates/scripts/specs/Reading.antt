-- What a line of a script asks for, by its words.
use Rattle.std.specs.Prelude.{ℕ, min, Bool, true, false, cond, ◌||◌, List, [], codes, Some, None, Ok, Err, Option, Result, nat_le}
use Rattle.std.specs.Option.{option_map, option_and_then, ok_or, unwrap_or}
use Rattle.std.specs.Str.{bytes_eq}
use Rattle.law.specs.declared.Action.{Action}
use Rattle.law.specs.declared.Action.TheVariants as action
use Rattle.law.specs.declared.Call.{Call}
use Rattle.programs.specs.Outputs.{output_named}
use Rattle.scripts.specs.declared.expected.Expected.{Expected}
use Rattle.scripts.specs.declared.expected.Expected.TheVariants as expected
use Rattle.scripts.specs.Asked.{Asked}
use Rattle.scripts.specs.Asked.Asked.{begins, sends, types, calls, ticks, fault, state}
use Rattle.scripts.specs.Cut.{first_word, behind}
use Rattle.scripts.specs.Numbers.{decimal_of, hexadecimal_of}
use Rattle.scripts.specs.declared.order.Order.{Order}
use Rattle.scripts.specs.declared.order.Order.TheVariants as order
use Rattle.scripts.specs.Orders.{order_named}
use Rattle.scripts.specs.PassedOver.{blank, comment}

-- a call that is lent so many records
abbrev pub lending : ℕ → Action → Call
lending records a = record { lent = records; action = a }

-- a character call: a byte, whether it is damaged, and the size of the reply buffer
abbrev pub character : ℕ → ℕ → Bool → Action
character room byte damaged = action.Character (record { byte = byte; damaged = damaged }) room

-- `damaged` or nothing behind a byte
abbrev pub damage_of : Option (List ℕ) → Option Bool
damage_of None = Some false
damage_of (Some t) = cond (bytes_eq t (codes "damaged")) (Some true) None

-- HH or HH damaged
abbrev pub character_of : ℕ → List ℕ → Option Action
character_of room t = option_and_then (λ byte. option_map (character room byte) (damage_of (behind t))) (hexadecimal_of (first_word t))

-- HH
abbrev pub levels_of : List ℕ → Option Action
levels_of t = option_map action.Levels (hexadecimal_of t)

-- N HH or N HH damaged, the reply buffer having N bytes
abbrev pub room_of : List ℕ → Option Action
room_of t = option_and_then (λ more. option_and_then (λ room. character_of room more) (decimal_of (first_word t))) (behind t)

-- tick, power-up, levels HH, byte HH or byte HH damaged
abbrev pub action_of : Option Order → Option (List ℕ) → Option Action
action_of (Some order.Tick) None = Some action.Tick
action_of (Some order.PowerUp) None = Some action.PowerUp
action_of (Some order.Levels) (Some t) = levels_of t
action_of (Some order.Byte) (Some t) = character_of 80 t
action_of o t = None

-- more records than the memory has are lent as none, since either is refused
abbrev pub lent_of : ℕ → ℕ
lent_of n = cond (nat_le n 414) n 0

-- N and one of these
abbrev pub lent_call : List ℕ → Option Call
lent_call t = option_and_then (λ more. option_and_then (λ n. option_map (lending (lent_of n)) (action_of (order_named (first_word more)) (behind more))) (decimal_of (first_word t))) (behind t)

-- an output and an address; one above 255 counts as that
abbrev pub module_of : List ℕ → Option Asked
module_of t = option_and_then (λ output. option_and_then (λ a. option_map (λ n. begins output (min n 255)) (decimal_of a)) (behind t)) (output_named (first_word t))

-- N, at most 20,000,000
abbrev pub ticks_of : List ℕ → Option Asked
ticks_of t = option_and_then (λ n. cond (nat_le n 20000000) (Some (ticks n)) None) (decimal_of t)

-- nothing behind a word that stands alone
abbrev pub alone : Asked → Option (List ℕ) → Result Asked Expected
alone a None = Ok a
alone a (Some t) = Err expected.Alone

-- one call, which is lent the whole memory but behind `lent`
abbrev pub whole : Option Action → Option Call
whole a = option_map (lending 414) a

abbrev pub one_call : Option Call → Expected → Result Asked Expected
one_call c e = ok_or (option_map calls c) e

-- what an order asks for with what stands behind it
abbrev pub order_asks : Order → Option (List ℕ) → Result Asked Expected
order_asks order.Module t = ok_or (option_and_then module_of t) expected.Module
order_asks order.Send t = Ok (sends (unwrap_or t []))
order_asks order.Type t = Ok (types (unwrap_or t []))
order_asks order.Byte t = one_call (whole (option_and_then (character_of 80) t)) expected.Byte
order_asks order.Tick t = ok_or (option_and_then ticks_of t) expected.Ticks
order_asks order.Levels t = one_call (whole (option_and_then levels_of t)) expected.Levels
order_asks order.PowerUp t = alone (calls (lending 414 action.PowerUp)) t
order_asks order.Room t = one_call (whole (option_and_then room_of t)) expected.Room
order_asks order.Lent t = one_call (option_and_then lent_call t) expected.Lent
order_asks order.Fault t = alone fault t
order_asks order.State t = alone state t

abbrev pub words_ask : Option Order → Option (List ℕ) → Result Asked Expected
words_ask None t = Err expected.Order
words_ask (Some o) t = order_asks o t

-- a line of words asks for something or is not understood
abbrev pub some_asked : Result Asked Expected → Result (Option Asked) Expected
some_asked (Ok a) = Ok (Some a)
some_asked (Err e) = Err e

-- what a line asks for: a comment or a line of blanks for nothing
abbrev pub line_asks : List ℕ → Result (Option Asked) Expected
line_asks l = cond (comment l || blank l) (Ok None) (some_asked (words_ask (order_named (first_word l)) (behind l)))
