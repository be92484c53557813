-- The read-back text of a phase, and the reply that carries it.
use Rattle.std.specs.Prelude.{ℕ, zero, suc, ◌/◌, ◌%◌, cond, List, [], ◌∷◌, ◌++◌, ℤ, Some, None, codes, Option, ◌==◌}
use Rattle.std.specs.Option.{option_map}
use Rattle.words.specs.Words.{spaced}
use Rattle.replies.specs.Replies.{ending, digits_of, signed_of, hex_of}
use Rattle.phases.specs.declared.phase.Link.{Link}
use Rattle.phases.specs.declared.phase.Link.TheVariants as link
use Rattle.phases.specs.declared.phase.Phase.{Phase}
use Rattle.phases.specs.Phases.{Written, letters_of, number_of}
use Rattle.fields.specs.Fields.{direction_word}

-- C, a sign and seven digits
abbrev pub set_point_word : ℤ → List ℕ
set_point_word z = 67 ∷ signed_of 7 z

-- NL or NQ, and NL without a link
abbrev pub link_tag : Option (Link ℕ) → List ℕ
link_tag (Some (link.SubSequence n)) = codes "NQ"
link_tag _ = codes "NL"

-- a number in two digits, and XX for none
abbrev pub number_word : Option ℕ → List ℕ
number_word None = codes "XX"
number_word (Some n) = digits_of 2 n

-- the number of the linked sequence, and XX without a link
abbrev pub link_word : Option (Link ℕ) → List ℕ
link_word link = number_word (option_map number_of link)

-- X where the input is not named, else the wanted level
abbrev pub mark : ℕ → ℕ → ℕ
mark named level = cond (named == 0) 88 (cond (level == 0) 48 49)

-- a mark for each of w inputs, input 1 first, which is bit 0
unfoldable pub marks : ℕ → ℕ → ℕ → List ℕ
marks zero named levels = []
marks (suc w) named levels = mark (named % 2) (levels % 2) ∷ marks w (named / 2) (levels / 2)

-- outputs in two hexadecimal digits, and XX for none
abbrev pub outputs_word : Option ℕ → List ℕ
outputs_word None = codes "XX"
outputs_word (Some n) = hex_of n

-- the words of a phase, each field with its tag
unfoldable pub action_words : Phase → List (List ℕ)
action_words p = direction_word p.direction ∷ letters_of p.nature ∷ set_point_word p.set_point ∷ []

unfoldable pub option_words : Phase → List (List ℕ)
option_words p = link_tag p.link ∷ link_word p.link ∷ codes "NE" ∷ marks 8 p.inputs.named p.inputs.levels ∷ codes "NS" ∷ number_word p.next ∷ codes "NO" ∷ outputs_word p.outputs ∷ []

abbrev pub phase_words : ℕ → ℕ → Phase → List (List ℕ)
phase_words ns np p = digits_of 2 ns ∷ digits_of 2 np ∷ (action_words p ++ option_words p)

-- the text of phase np of the sequence ns
abbrev pub phase_text : ℕ → ℕ → Phase → List ℕ
phase_text ns np p = spaced (phase_words ns np p)

-- what RS tells of the record that it finds
unfoldable pub rs_found : ℕ → ℕ → Phase → List ℕ
rs_found ns np p = cond (Written p) (phase_text ns np p) (codes "X")

-- the answer to RS at the address a
unfoldable pub rs_text : ℕ → ℕ → ℕ → Phase → List ℕ
rs_text a ns np p = digits_of 2 a ++ codes "ES " ++ rs_found ns np p ++ ending
