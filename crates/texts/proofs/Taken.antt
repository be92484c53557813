-- What SP takes counts as written.
use Rattle.std.proofs.Common.{◌≡◌, ℕ, ◌+◌, ◌*◌, ◌/◌, ◌≤◌, Bool, true, false, cond, List, [], ◌∷◌, Some, None, Ok, codes, Option, Result, sym, refl, ap, ap₂, ◌∙◌, subst, arith}
use lib.Bits.{bit_and, and_step}
use Rattle.faults.proofs.Results.{then_ok, tested}
use Rattle.std.proofs.lemmas.Bool.{eq-eqb, and_from}
use Rattle.std.proofs.lemmas.Bool.Decides.{nat_tests}
use Rattle.std.proofs.lemmas.Option.{cond_some}
use Rattle.std.specs.Option.{ok_or}
use Rattle.faults.specs.declared.Fault.{Fault}
use Rattle.words.specs.Readings.{by, end}
use Rattle.words.specs.Tags.{is_tag, past_field}
use Rattle.words.specs.Words.{Ahead, words, upcoming, past}
use Rattle.phases.specs.declared.phase.Inputs.{Inputs}
use Rattle.phases.specs.declared.phase.Link.{Link}
use Rattle.phases.specs.declared.phase.Link.TheVariants as link
use Rattle.phases.specs.declared.phase.Phase.{Phase}
use Rattle.phases.specs.declared.phase.Position.{Position}
use Rattle.phases.specs.Phases.{Written, SetPointFits, LinkFits, NextFits, LevelsFit}
use Rattle.fields.specs.declared.fields.Amount.{Amount}
use Rattle.fields.specs.declared.fields.Options.{Options}
use Rattle.fields.specs.declared.fields.Action.{Action}
use Rattle.fields.specs.declared.fields.RawPhase.{RawPhase}
use Rattle.fields.specs.Fields.{named_by, level_by, named_of, levels_of, inputs_of, link_in, past_link, inputs_in, next_in, outputs_in, position_in, action_in, options_in, past_options, sp_form}
use Rattle.fields.proofs.Marks.{named_le}
use Rattle.fields.specs.Values.{limited, position_values, set_point_value, link_value, next_value, outputs_value, record_values, sp_values}
use Rattle.texts.specs.ReadBack.{TakesWritten}

said : {A : Type 0} (o : Option A) (f : Fault) (a : A) → ok_or o f ≡ Ok a → o ≡ Some a
said None f a e = cc
said (Some x) f a e = cc

level_le : (m : ℕ) → level_by m ≤ named_by m
level_le m = grind (arith, nat_tests)

marks_fit : (ms : List ℕ) → bit_and (named_of ms) (levels_of ms) ≡ levels_of ms
marks_fit [] = refl
marks_fit (m ∷ ms) =
    let n = 2 * named_of ms + named_by m in
    let l = 2 * levels_of ms + level_by m in
    let a = named_le m in
    let b = level_le m in
    let h : bit_and (n / 2) (l / 2) ≡ bit_and (named_of ms) (levels_of ms) = ap₂ bit_and (omega arith) (omega arith) in
    omega (arith, and_step n l, h, marks_fit ms)

inputs_fit : (w : List ℕ) (e : Inputs) → inputs_of w ≡ Some e → LevelsFit e ≡ true
inputs_fit w e h = subst (λ (i : Inputs). LevelsFit i ≡ true) (cond_some _ _ e h).1 (eq-eqb _ _ (marks_fit w))

by_fit : (o : Option (List ℕ)) (i : ℕ) (e : Inputs) → by inputs_of o i ≡ Ok e → LevelsFit e ≡ true
by_fit None i e h = cc
by_fit (Some w) i e h = inputs_fit w e (said _ _ e h)

either_fit : (b : Bool) (o : Option (List ℕ)) (i : ℕ) (e : Inputs) → cond b (by inputs_of o i) (Ok (record { named = 0; levels = 0 })) ≡ Ok e → LevelsFit e ≡ true
either_fit true o i e h = by_fit o i e h
either_fit false o i e h =
    let same : ◌≡◌ {A = Inputs} (record { named = 0; levels = 0 }) e = cc in
    ap LevelsFit (sym same)

options_fit : (s : Ahead) (c : Options) → options_in s ≡ Ok c → LevelsFit c.inputs ≡ true
unfolding options_in inputs_in
options_fit s c h =
    let l = then_ok (link_in s) _ c h in
    let e = then_ok (inputs_in (past_link s)) _ c l.1.1 in
    let f = then_ok (next_in (past_field (codes "NE") (past_link s))) _ c e.1.1 in
    let o = then_ok (outputs_in (past_field (codes "NS") (past_field (codes "NE") (past_link s)))) _ c f.1.1 in
    let same : e.0 ≡ c.inputs = (let k = o.1.1 in cc) in
    subst (λ (i : Inputs). LevelsFit i ≡ true) same (either_fit (is_tag (codes "NE") (upcoming (past_link s))) (upcoming (past (past_link s))) (past (past_link s)).1 e.0 e.1.0)

form_fit : (s : Ahead) (r : RawPhase) → sp_form s ≡ Ok r → LevelsFit r.options.inputs ≡ true
form_fit s r h =
    let u = past (past (past (past (past s)))) in
    let a = then_ok (position_in s) _ r h in
    let m = then_ok (action_in (past (past s))) _ r a.1.1 in
    let c = then_ok (options_in u) _ r m.1.1 in
    let e = then_ok (end (past_options u)) _ r c.1.1 in
    let same : c.0 ≡ r.options = (let k = e.1.1 in cc) in
    subst (λ (d : Options). LevelsFit d.inputs ≡ true) same (options_fit u c.0 c.1.0)

link_fit : (k : Option (Link Amount)) (l : Option (Link ℕ)) → link_value k ≡ Ok l → LinkFits l ≡ true
unfolding link_value limited
link_fit None l h = let same : ◌≡◌ {A = Option (Link ℕ)} None l = cc in ap LinkFits (sym same)
link_fit (Some (link.Sequence a)) l h =
    let n = then_ok _ _ l h in
    let t = tested _ a.value n.0 _ n.1.0 in
    let same : ◌≡◌ {A = Option (Link ℕ)} (Some (link.Sequence a.value)) l = ap (λ m. Some (link.Sequence m)) t.1 ∙ (let k = n.1.1 in cc) in
    subst (λ (q : Option (Link ℕ)). LinkFits q ≡ true) same t.0
link_fit (Some (link.SubSequence a)) l h =
    let n = then_ok _ _ l h in
    let t = tested _ a.value n.0 _ n.1.0 in
    let same : ◌≡◌ {A = Option (Link ℕ)} (Some (link.SubSequence a.value)) l = ap (λ m. Some (link.SubSequence m)) t.1 ∙ (let k = n.1.1 in cc) in
    subst (λ (q : Option (Link ℕ)). LinkFits q ≡ true) same t.0

next_fit : (a : Option Amount) (o : Option ℕ) → next_value a ≡ Ok o → NextFits o ≡ true
unfolding next_value
next_fit None o h = let same : ◌≡◌ {A = Option ℕ} None o = cc in ap NextFits (sym same)
next_fit (Some a) o h = let t = tested _ (Some a.value) o _ h in subst (λ (q : Option ℕ). NextFits q ≡ true) t.1 t.0

record_fit : (m : Action) (c : Options) (p : Phase) → LevelsFit c.inputs ≡ true → record_values m c ≡ Ok p → Written p ≡ true
unfolding record_values set_point_value
record_fit m c p w h =
    let z = then_ok (set_point_value m) _ p h in
    let l = then_ok (link_value c.link) _ p z.1.1 in
    let f = then_ok (next_value c.next) _ p l.1.1 in
    let o = then_ok (outputs_value c.outputs) _ p f.1.1 in
    let t = tested _ m.set_point z.0 _ z.1.0 in
    let s : SetPointFits m.nature z.0 ≡ true = ap (SetPointFits m.nature) (sym t.1) ∙ t.0 in
    let q : Phase = record { written = true; direction = m.direction; nature = m.nature; set_point = z.0; link = l.0; inputs = c.inputs; next = f.0; outputs = o.0 } in
    let same : q ≡ p = (let k = o.1.1 in cc) in
    subst (λ (r : Phase). Written r ≡ true) same (and_from _ _ s (and_from _ _ (link_fit _ _ l.1.0) (and_from _ _ (next_fit _ _ f.1.0) w)))

second : (a at : Position) (q p : Phase) → ◌≡◌ {A = Result (Position × Phase) Fault} (Ok (a, q)) (Ok (at, p)) → q ≡ p
second a at q p h = let same : ◌≡◌ {A = Position × Phase} (a, q) (at, p) = cc in ap (λ (t : Position × Phase). t.1) same

-- what the words of SP say, once its values are within their limits
pub values_written : (s : Ahead) (r : RawPhase) (at : Position) (p : Phase) → sp_form s ≡ Ok r → sp_values r ≡ Ok (at, p) → Written p ≡ true
unfolding sp_values
values_written s r at p f h =
    let a = then_ok (position_values r.at) _ (at, p) h in
    let q = then_ok (record_values r.action r.options) _ (at, p) a.1.1 in
    let same : q.0 ≡ p = second a.0 at q.0 p q.1.1 in
    subst (λ (x : Phase). Written x ≡ true) same (record_fit r.action r.options q.0 (form_fit s r f) q.1.0)

pub takes_written : TakesWritten
takes_written t at p h =
    let r = then_ok (sp_form (words t, 2)) _ (at, p) h in
    values_written (words t, 2) r.0 at p r.1.0 r.1.1
