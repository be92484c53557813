-- What the arguments of a program ask for.
use Rattle.std.specs.Prelude.{◌≡◌, ◌≢◌, ◌≤◌, List, find, codes, string_bytes, String, IsNone, IsSomeAnd, Option, Ok, Err, Result}
use Rattle.std.specs.Borrow.{Bor}
use Rattle.std.specs.declared.alloc.Global.{Global}
use Rattle.programs.specs.Naming.{is_option}
use Rattle.programs.specs.declared.request.Request.{Request}
use Rattle.programs.specs.declared.request.Request.TheVariants.{Usage, Work}
use Rattle.programs.specs.declared.request.WrongUse.{WrongUse}
use Rattle.programs.specs.declared.request.WrongUse.TheVariants as wrong
use Rattle.programs.specs.declared.sheet_arguments.SheetRequest.{SheetRequest}

-- the address of a module that a file is sent to is one that a module has
abbrev pub AddressFits : Request SheetRequest → Type 0
AddressFits Usage = Unit {0}
AddressFits (Work r) = r.address ≤ 63

-- the first option among the words
abbrev pub first_option : List (String Global) → Option (String Global)
first_option ws = find (λ w. is_option (string_bytes w)) ws

-- what words ask for whose first option decides: the usage by --help, which is the only option; without one, work on all of them
abbrev pub AskedBy : List (String Global) → Result (Request (Bor (List (String Global)))) WrongUse → Type 0
AskedBy ws (Ok Usage) = IsSomeAnd (first_option ws) (λ w. string_bytes w ≡ codes "--help")
AskedBy ws (Ok (Work files)) = IsNone (first_option ws) × (files.now ≡ ws)
AskedBy ws (Err (wrong.Option text)) = IsSomeAnd (first_option ws) (λ w. (string_bytes w ≡ text.now) × (text.now ≢ codes "--help"))
AskedBy ws (Err e) = ⊥

-- what was asked for is done: the usage is told, or the work is done
abbrev pub Followed : {T : Type 0} → Result (Request T) WrongUse → (T → Type 0) → Type 0
Followed (Ok Usage) Done = Unit {0}
Followed (Ok (Work t)) Done = Done t
Followed (Err e) Done = ⊥
