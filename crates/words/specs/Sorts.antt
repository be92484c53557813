-- The sorts of words.
use Rattle.std.specs.Prelude.{ℕ, List, Some, None, Option}
use Rattle.words.specs.Numbers.{value_of}
use Rattle.words.specs.declared.word.Word.{Word}
use Rattle.words.specs.declared.word.Word.TheVariants.{Command, Number, Hexadecimal, Marks, Tag}

-- the characters of a word of one sort, and none of the others
abbrev pub command_text : Word → Option (List ℕ)
command_text (Command t) = Some t.now
command_text _ = None

abbrev pub number_text : Word → Option (List ℕ)
number_text (Number t) = Some t.now
number_text _ = None

abbrev pub marks_text : Word → Option (List ℕ)
marks_text (Marks t) = Some t.now
marks_text _ = None

abbrev pub tag_text : Word → Option (List ℕ)
tag_text (Tag t) = Some t.now
tag_text _ = None

-- the characters of a word that may be missing
abbrev pub text_of : (Word → Option (List ℕ)) → Option Word → Option (List ℕ)
text_of text None = None
text_of text (Some w) = text w

-- what a word that is taken for a number says, by the base of its sort
abbrev pub number_in : Word → Option ℕ
number_in (Number t) = value_of 10 10 t.now
number_in (Hexadecimal t) = value_of 16 8 t.now
number_in _ = None
