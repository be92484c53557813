-- What a success says of the parts that it came by.
use Rattle.std.proofs.Common.{◌≡◌, Bool, true, false, cond, Ok, Err, Result, refl}
use Rattle.faults.specs.declared.Fault.{Fault}
use Rattle.faults.specs.Faults.{and_then}

-- a reading that succeeds has succeeded in its first part
pub then_ok : {A B : Type 0} (r : Result A Fault) (f : A → Result B Fault) (b : B) → and_then r f ≡ Ok b → (a : A) × ((r ≡ Ok a) × (f a ≡ Ok b))
then_ok (Ok x) f b e = (x, (refl, e))
then_ok (Err x) f b e = cc

-- a value that is taken has passed its test
pub tested : {A : Type 0} (b : Bool) (x y : A) (f : Fault) → ◌≡◌ {A = Result A Fault} (cond b (Ok x) (Err f)) (Ok y) → (b ≡ true) × (x ≡ y)
tested true x y f e = (refl, cc)
tested false x y f e = cc
