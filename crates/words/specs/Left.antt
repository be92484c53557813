-- What a reader has ahead of it.
use Rattle.std.specs.Prelude.{ℕ, List, [], Some, None, Option}
use Rattle.std.specs.Borrow.{Bor}
use Rattle.words.specs.declared.reader.Reader.{Reader}
use Rattle.words.specs.Words.{words, Ahead}

-- the words of what is left of a line; None is left after the last word
abbrev pub left_in : Option (Bor (List ℕ)) → List (List ℕ)
left_in None = []
left_in (Some rest) = words rest.now

-- the words that it has not read yet
abbrev pub left : Reader → List (List ℕ)
left r = left_in r.rest

-- these words, and the number of the first of them
abbrev pub ahead : Reader → Ahead
ahead r = (left r, r.next)
