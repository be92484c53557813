-- What a record of the phase memory means.
use Rattle.std.specs.Prelude.{ℕ, Bool, true, false, ◌&&◌, ◌||◌, List, [], ◌∷◌, ℤ, pos, codes, Option, ◌==◌, bit_and, find, nat_le}
use Rattle.std.specs.Str.{bytes_eq}
use Rattle.std.specs.declared.option.Option.TheVariants as option
use Rattle.steps.specs.declared.direction.Direction.TheVariants.{Forward}
use Rattle.steps.specs.Limits.{between, is_position}
use Rattle.phases.specs.declared.phase.Nature.{Nature}
use Rattle.phases.specs.declared.phase.Nature.TheVariants.{Relative, Origin, Absolute, ConstantSpeed, Wait, ZeroCounter, PlateauSpeed, PowerOn, PowerOff}
use Rattle.phases.specs.declared.phase.Inputs.{Inputs}
use Rattle.phases.specs.declared.phase.Link.{Link}
use Rattle.phases.specs.declared.phase.Link.TheVariants as link
use Rattle.phases.specs.declared.phase.Phase.{Phase}

-- the two letters of a nature, in a line and in a read-back text
abbrev pub letters_of : Nature → List ℕ
letters_of Relative = codes "NP"
letters_of Origin = codes "NH"
letters_of Absolute = codes "NX"
letters_of ConstantSpeed = codes "NV"
letters_of Wait = codes "NW"
letters_of ZeroCounter = codes "NZ"
letters_of PlateauSpeed = codes "NC"
letters_of PowerOn = codes "NT"
letters_of PowerOff = codes "NU"

abbrev pub natures : List Nature
natures = Relative ∷ Origin ∷ Absolute ∷ ConstantSpeed ∷ Wait ∷ ZeroCounter ∷ PlateauSpeed ∷ PowerOn ∷ PowerOff ∷ []

-- the nature that has these letters
abbrev pub nature_of : List ℕ → Option Nature
nature_of w = find (λ k. bytes_eq w (letters_of k)) natures

-- the limits of the set point, by nature
abbrev pub SetPointFits : Nature → ℤ → Bool
SetPointFits Relative z = between (pos 0) (pos 999998) z
SetPointFits ConstantSpeed z = between (pos 0) (pos 999998) z
SetPointFits Absolute z = is_position z
SetPointFits Wait z = between (pos 1) (pos 65000) z
SetPointFits PlateauSpeed z = between (pos 20) (pos 20000) z
SetPointFits _ z = between (pos 0) (pos 0) z

abbrev pub SequenceNumber : ℕ → Bool
SequenceNumber n = nat_le 1 n && nat_le n 99

-- the number of the linked sequence
abbrev pub number_of : Link ℕ → ℕ
number_of (link.Sequence n) = n
number_of (link.SubSequence n) = n

abbrev pub LinkFits : Option (Link ℕ) → Bool
LinkFits option.None = true
LinkFits (option.Some l) = SequenceNumber (number_of l)

abbrev pub NextFits : Option ℕ → Bool
NextFits option.None = true
NextFits (option.Some n) = (nat_le 1 n && nat_le n 50) || n == 54

-- only named inputs have a wanted level
abbrev pub LevelsFit : Inputs → Bool
LevelsFit i = bit_and i.named i.levels == i.levels

abbrev pub InLimits : Phase → Bool
InLimits p = SetPointFits p.nature p.set_point && (LinkFits p.link && (NextFits p.next && LevelsFit p.inputs))

-- what counts as written: the mark says so, and no field is beyond its limits
abbrev pub Written : Phase → Bool
Written p = p.written && InLimits p

abbrev pub blank : Phase
blank = record {
  written = false;
  direction = Forward;
  nature = Relative;
  set_point = pos 0;
  link = option.None;
  inputs = record { named = 0; levels = 0 };
  next = option.None;
  outputs = option.None;
}
