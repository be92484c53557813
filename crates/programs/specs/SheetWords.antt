-- What the words after `proofread` ask for.
use Rattle.std.specs.Prelude.{ℕ, cond, List, [], ◌∷◌, map, codes, string_bytes, String, Some, None, Ok, Err, Option, Result, is_some}
use Rattle.std.specs.Option.{option_map_or}
use Rattle.std.specs.Str.{bytes_eq}
use Rattle.std.specs.declared.alloc.Global.{Global}
use Rattle.programs.specs.Addresses.{module_address}
use Rattle.programs.specs.Naming.{is_option}
use Rattle.programs.specs.Outputs.{output_named}
use Rattle.programs.specs.declared.output.Output.{Output}
use Rattle.programs.specs.declared.output.Output.TheVariants.{Full}
use Rattle.programs.specs.declared.request.Request.{Request}
use Rattle.programs.specs.declared.request.Request.TheVariants.{Usage, Work}
use Rattle.programs.specs.declared.request.WrongUse.{WrongUse}
use Rattle.programs.specs.declared.request.WrongUse.TheVariants as wrong
use Rattle.programs.specs.declared.sheet_arguments.SheetRequest.{SheetRequest}

-- the usage; a sheet, of a file at an address over an output; or a word, or the lack of one, that cannot be followed
pub data Asked : Type 0 where
  usage : Asked
  sheet : ℕ → Output → List ℕ → Asked
  no_such_address : List ℕ → Asked
  address_lacks : Asked
  no_such_output : List ℕ → Asked
  output_lacks : Asked
  no_such_option : List ℕ → Asked
  second_file : List ℕ → Asked
  file_lacks : Asked

-- what the words so far have named
pub record Named : Type 0 where
  pub address : ℕ
  pub output : Output
  pub file : Option (List ℕ)

abbrev pub nothing_named : Named
nothing_named = record { address = 0; output = Full; file = None }

-- at the end of the words a file is named
abbrev pub sheet_of : Named → Option (List ℕ) → Asked
sheet_of n None = file_lacks
sheet_of n (Some file) = sheet n.address n.output file

-- the next word is an option or a file; or it is the one that belongs to --address, or to --output
pub data Due : Type 0 where
  any : Due
  address : Due
  output : Due

-- the words are read in order, and the first that settles it does: --help, or one that cannot be followed
abbrev pub asked : Due → Named → List (List ℕ) → Asked
asked any n [] = sheet_of n n.file
asked address n [] = address_lacks
asked output n [] = output_lacks
asked address n (w ∷ ws) = option_map_or (λ a. asked any (record n { address = a }) ws) (module_address w) (no_such_address w)
asked output n (w ∷ ws) = option_map_or (λ o. asked any (record n { output = o }) ws) (output_named w) (no_such_output w)
asked any n (w ∷ ws) =
    cond (bytes_eq w (codes "--help")) usage
    (cond (bytes_eq w (codes "--address")) (asked address n ws)
    (cond (bytes_eq w (codes "--output")) (asked output n ws)
    (cond (is_option w) (no_such_option w)
    (cond (is_some n.file) (second_file w) (asked any (record n { file = Some w }) ws)))))

-- no word asks for the usage
abbrev pub asked_by : List (List ℕ) → Asked
asked_by [] = usage
asked_by (w ∷ ws) = asked any nothing_named (w ∷ ws)

abbrev pub texts : List (String Global) → List (List ℕ)
texts ws = map (λ w. string_bytes w) ws

-- what an answer of the program means
abbrev pub answered : Result (Request SheetRequest) WrongUse → Asked
answered (Ok Usage) = usage
answered (Ok (Work r)) = sheet r.address r.output r.file.now
answered (Err (wrong.Address w)) = no_such_address w.now
answered (Err wrong.NoAddress) = address_lacks
answered (Err (wrong.Output w)) = no_such_output w.now
answered (Err wrong.NoOutput) = output_lacks
answered (Err (wrong.Option w)) = no_such_option w.now
answered (Err (wrong.TwoFiles w)) = second_file w.now
answered (Err wrong.NoFile) = file_lacks
