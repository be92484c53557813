-- A history call by call, over any device.
use Rattle.std.proofs.Common.{◌≡◌, ℕ, zero, suc, ◌<◌, List, [], ◌∷◌, ◌++◌, length, take, get_or, refl, ap, arith}
use Rattle.law.specs.Device.{Device}
use Rattle.law.specs.Events.{Event, Answer}
use Rattle.law.specs.History.{State, next, answer, answers, after}

module _ (D : Device) where
  pub after_append : (s : State D) (h k : List Event) → after D s (h ++ k) ≡ after D (after D s h) k
  after_append s [] k = refl
  after_append s (e ∷ h) k = after_append (next D s e) h k

  pub length_answers : (s : State D) (h : List Event) → length (answers D s h) ≡ length h
  length_answers s [] = refl
  length_answers s (e ∷ h) = ap suc (length_answers (next D s e) h)

  pub answers_append : (s : State D) (h k : List Event) → answers D s (h ++ k) ≡ answers D s h ++ answers D (after D s h) k
  answers_append s [] k = refl
  answers_append s (e ∷ h) k = ap (λ xs. answer D s e ∷ xs) (answers_append (next D s e) h k)

  pub take_answers : (n : ℕ) (s : State D) (h : List Event) → take n (answers D s h) ≡ answers D s (take n h)
  take_answers zero s h = refl
  take_answers (suc n) s [] = refl
  take_answers (suc n) s (e ∷ h) = ap (λ xs. answer D s e ∷ xs) (take_answers n (next D s e) h)

  -- the answer of a call
  pub answer_at : (n : ℕ) (s : State D) (h : List Event) (x : Answer) (e : Event) → n < length h → get_or (answers D s h) n x ≡ answer D (after D s (take n h)) (get_or h n e)
  answer_at n s [] x e k = absurd (omega arith)
  answer_at zero s (f ∷ h) x e k = refl
  answer_at (suc n) s (f ∷ h) x e k = answer_at n (next D s f) h x e (omega arith)
