-- The first four characters of a fault's text: the digits of the address and the letters E E.
use Rattle.std.proofs.Common.{◌≡◌, ℕ, get_or, take, Option, refl}
use Rattle.faults.specs.declared.Fault.{Fault}
use Rattle.replies.specs.Replies.{digits_of}
use Rattle.questions.specs.Questions.{fault_text}

pub fault_address : (a : ℕ) (f : Option Fault) → take 2 (fault_text a f) ≡ digits_of 2 a
unfolding fault_text digits_of
fault_address a f = refl

pub fault_first_letter : (a : ℕ) (f : Option Fault) → get_or (fault_text a f) 2 0 ≡ 69
unfolding fault_text digits_of
fault_first_letter a f = refl

pub fault_second_letter : (a : ℕ) (f : Option Fault) → get_or (fault_text a f) 3 0 ≡ 69
unfolding fault_text digits_of
fault_second_letter a f = refl
