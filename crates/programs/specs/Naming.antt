-- The words of a command line.
use Rattle.std.specs.Prelude.{ℕ, Bool, cond, ◌&&◌, codes, List, length, ◌==◌, nat_le, slice_index}
use Rattle.std.specs.Str.{bytes_eq}

-- a word of - and more is an option; - alone is standard input
abbrev pub is_option : List ℕ → Bool
is_option w = nat_le 2 (length w) && slice_index w 0 == 45

-- a file's name as it is printed
abbrev pub name_of : List ℕ → List ℕ
name_of file = cond (bytes_eq file (codes "-")) (codes "standard input") file
