-- The texts of the answers: each ends with 0Dh 11h, and begins with the address in two digits where it tells something.
use Rattle.std.specs.Prelude.{ℕ, cond, List, [], ◌∷◌, ◌++◌, ℤ, Some, None, codes, Option, nat_lt}
use Rattle.steps.specs.declared.direction.Direction.{Direction}
use Rattle.steps.specs.Directions.{direction_sign}
use Rattle.faults.specs.declared.Fault.{Fault}
use Rattle.faults.specs.Faults.{number_of}
use Rattle.motion.specs.Values.{Values}
use Rattle.motion.specs.Settings.{Settings}
use Rattle.replies.specs.Replies.{ending, digits_of, signed_of, hex_of}

-- the two speeds and the slope in five digits each: 00500 02000 01000
unfoldable pub speeds_words : Values → List ℕ
speeds_words v = digits_of 5 v.start_speed ++ (32 ∷ (digits_of 5 v.plateau_speed ++ (32 ∷ digits_of 5 v.slope_time)))

-- the distance in six digits, and the direction: 000000 +
unfoldable pub distance_words : ℕ → Direction → List ℕ
distance_words distance direction = digits_of 6 distance ++ (32 ∷ direction_sign direction ∷ [])

-- 00EL 00500 02000 01000 000000 +: the address, the start speed, the plateau speed, the slope, the distance and the direction
unfoldable pub parameters_text : ℕ → Settings → List ℕ
parameters_text address s =
    digits_of 2 address ++ (codes "EL " ++ (speeds_words s.values ++ (32 ∷ (distance_words s.distance s.direction ++ ending))))

-- the counter as a sign and seven digits: +0000000
unfoldable pub counter_word : ℤ → List ℕ
counter_word counter = signed_of 7 counter

-- 00EP +0000000 00 FF: the address, the counter, the input levels and the outputs in two hexadecimal digits each
unfoldable pub position_text : ℕ → ℤ → ℕ → ℕ → List ℕ
position_text address counter levels outputs =
    digits_of 2 address ++ (codes "EP " ++ (counter_word counter ++ (32 ∷ (hex_of levels ++ (32 ∷ (hex_of outputs ++ ending))))))

-- 00EV 10 00000004: the address, the version 10, and the cycle in eight digits
unfoldable pub version_text : ℕ → ℕ → List ℕ
version_text address cycle = digits_of 2 address ++ (codes "EV 10 " ++ (digits_of 8 cycle ++ ending))

-- the number of decimal digits of a number below 1000
abbrev pub digits_in : ℕ → ℕ
digits_in n = cond (nat_lt n 10) 1 (cond (nat_lt n 100) 2 3)

-- N for no fault, else the number of its cause without zeros in front
unfoldable pub fault_word : Option Fault → List ℕ
fault_word None = codes "N"
fault_word (Some fault) = digits_of (digits_in (number_of fault.cause)) (number_of fault.cause)

-- 00EE N: the address, and the fault last kept
unfoldable pub fault_text : ℕ → Option Fault → List ℕ
fault_text address fault = digits_of 2 address ++ (codes "EE " ++ (fault_word fault ++ ending))

-- 06h 11h: a line is accepted
unfoldable pub acknowledged : List ℕ
acknowledged = 6 ∷ 17 ∷ []

-- 15h 11h: a line is refused
unfoldable pub refused : List ℕ
refused = 21 ∷ 17 ∷ []
