use Rattle.std.proofs.Common.{◌≡◌, ◌+◌, ◌<◌, [], ◌∷◌, ◌++◌, length, take, drop, pos, ◌+ℤ◌, sym, ap, ap₂, ◌∙◌, append_assoc, append-nil, arith}
use Rattle.std.proofs.lemmas.List.{take_more_set, at_drop_more, at_drop_all, drop-set-lt}
use Rattle.steps.specs.Wrap.{modulo24}
use Rattle.outputs.specs.Requests.{after, answers, displacement}
use Rattle.outputs.proofs.Numbers.{displaced, own_place, place_modulo}
use Rattle.outputs.proofs.playing.play.Goals as goal

pub loop-i-preserved : goal.loop-i-preserved
loop-i-preserved g c =
    let y = g.O.StepOutput.CYCLE in
    let m = g.O.StepOutput.meaning c.loop-i.output in
    let rs = c.args.requests.now in
    let i = c.loop-i.i in
    let more : i < length rs = c.loop-i-test.true in
    let room : i < length c.loop-i.room = omega arith in
    record {
      meaning = ap (after (drop (i + 1) rs)) c.make.ensures.meaning ∙ (sym (at_drop_more (λ xs. after xs m) rs i _ more) ∙ c.loop-i.invariant.meaning);
      told =
          ap (λ xs. xs ++ answers y (drop (i + 1) rs) (g.O.StepOutput.meaning c.make.new.output)) (take_more_set c.loop-i.room i c.make.result room)
          ∙ (append_assoc (take i c.loop-i.room) (c.make.result ∷ []) _
          ∙ (ap (λ xs. take i c.loop-i.room ++ xs)
          (ap₂ (λ x k. x ∷ answers y (drop (i + 1) rs) k) c.make.ensures.answer c.make.ensures.meaning ∙ sym (at_drop_more (λ xs. answers y xs m) rs i _ more))
          ∙ c.loop-i.invariant.told));
      beyond = drop-set-lt (length rs) c.loop-i.room i c.make.result more ∙ c.loop-i.invariant.beyond;
    }

pub returns-clause-played : goal.returns-clause-played
returns-clause-played g c =
    let y = g.O.StepOutput.CYCLE in
    let m = g.O.StepOutput.meaning c.loop-i.output in
    let rs = c.args.requests.now in
    let i = c.loop-i.i in
    let done : i ≡ length rs = omega arith in
    record {
      meaning = sym (at_drop_all (λ xs. after xs m) rs i c.loop-i-test.false) ∙ c.loop-i.invariant.meaning;
      told =
          ap (λ n. take n c.loop-i.room) (sym done)
          ∙ (sym (append-nil (take i c.loop-i.room))
          ∙ (ap (λ xs. take i c.loop-i.room ++ xs) (sym (at_drop_all (λ xs. answers y xs m) rs i c.loop-i-test.false)) ∙ c.loop-i.invariant.told));
      beyond = c.loop-i.invariant.beyond;
    }

pub returns-clause-place : goal.returns-clause-place
returns-clause-place g c =
    let o = c.args.output.now in
    let m = g.O.StepOutput.meaning o in
    let rs = c.args.requests.now in
    let played = returns-clause-played g c in
    ap (λ k. pos k.place) played.meaning
    ∙ (ap pos (displaced g.O.StepOutput.CYCLE rs m.place m.power (pos m.place) (own_place m.place (g.met.O.StepOutput.bounded o)))
    ∙ (place_modulo _ ∙ ap (λ xs. modulo24 (pos m.place +ℤ displacement rs xs)) (sym played.told)))
