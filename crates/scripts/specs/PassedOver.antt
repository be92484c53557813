-- The lines of a script that are passed over.
use Rattle.std.specs.Prelude.{ℕ, Bool, not, ◌&&◌, List, length, ◌==◌, slice_index}
use Rattle.std.specs.List.{list_all}

-- nothing but blanks
abbrev pub blank : List ℕ → Bool
blank l = list_all (λ c. c == 32) l

abbrev pub comment : List ℕ → Bool
comment l = not (length l == 0) && slice_index l 0 == 35
