-- Items told one after another.
use Rattle.std.proofs.Common.{◌≡◌, ℕ, List, [], ◌∷◌, ◌++◌, refl, sym, ap, ◌∙◌, subst, append_assoc, append-nil}
use Rattle.law.specs.History.{State}
use Rattle.module.specs.Machine.{module_device}
use Rattle.scripts.specs.Told.Told.{block}
use Rattle.scripts.specs.Told.{Told, Shows, Tells, Adds, Extends}

tells_append : (xs ys : List Told) (s t : List ℕ) → Tells xs s → Tells ys t → Tells (xs ++ ys) (s ++ t)
tells_append [] ys s t e k = subst (λ (u : List ℕ). Tells ys (u ++ t)) (sym e) k
tells_append (x ∷ xs) ys s t h k = (h.0, h.1 ++ t, ap (λ u. u ++ t) h.2 ∙ append_assoc h.0 h.1 t, h.3, tells_append xs ys h.1 t h.4 k)

pub adds_none : (old new : List ℕ) → new ≡ old → Adds [] old new
adds_none old new e = ([], e ∙ sym (append-nil old), refl)

pub adds_one : (x : Told) (t old new : List ℕ) → Shows x t → new ≡ old ++ t → Adds (x ∷ []) old new
adds_one x t old new h e = (t, e, (t, [], sym (append-nil t), h, refl))

pub adds_block : (cycle : ℕ) (s : State (module_device cycle)) (old new : List ℕ) → Extends old new → Adds (block cycle s ∷ []) old new
adds_block cycle s old new h = adds_one (block cycle s) h.0 old new tt h.1

pub adds_then : (xs ys : List Told) (a b c : List ℕ) → Adds xs a b → Adds ys b c → Adds (xs ++ ys) a c
adds_then xs ys a b c h k = (h.0 ++ k.0, k.1 ∙ ap (λ u. u ++ k.0) h.1 ∙ append_assoc a h.0 k.0, tells_append xs ys h.0 k.0 h.2 k.2)

pub extends_add : (t a b : List ℕ) → b ≡ a ++ t → Extends a b
extends_add t a b e = (t, e)

pub extends_none : (a b : List ℕ) → b ≡ a → Extends a b
extends_none a b e = ([], e ∙ sym (append-nil a))

pub extends_then : (a b c : List ℕ) → Extends a b → Extends b c → Extends a c
extends_then a b c h k = (h.0 ++ k.0, k.1 ∙ ap (λ u. u ++ k.0) h.1 ∙ append_assoc a h.0 k.0)
