-- Why no proof sheet can be made of a file.
use Rattle.std.specs.Prelude.{◌≡◌, ℕ, true, false, List, nat_le}
use Rattle.sheet.specs.declared.unreadable.Unreadable.{Unreadable}
use Rattle.sheet.specs.declared.unreadable.Unreadable.TheVariants.{WrongAddress, NotText, Empty, NoMemory}
use Rattle.sheet.specs.Characters.{AllText, FirstStray}
use Rattle.sheet.specs.Files.{is_empty}

-- An address above 63 comes first; then the first byte that is no text, which is told; then, of a file that is text, that it holds no line.
-- Nothing is said of when there is not enough memory.
abbrev pub Explained : ℕ → List ℕ → Unreadable → Type 0
Explained a bs WrongAddress = nat_le a 63 ≡ false
Explained a bs (NotText i b) = (nat_le a 63 ≡ true) × FirstStray bs i b
Explained a bs NoMemory = (nat_le a 63 ≡ true) × AllText bs
Explained a bs Empty = (nat_le a 63 ≡ true) × AllText bs × (is_empty bs ≡ true)
