-- The answers that are played again stay as they are.
use Rattle.std.proofs.Common.{refl, ap, ◌∙◌, drop, length, map}
use Rattle.std.proofs.lemmas.List.{take_at}
use Rattle.history.specs.Histories.{shown}
use Rattle.scripts.proofs.Playbacks.{played_again, first_answers, on_ok_both}
use Rattle.scripts.proofs.playback.Playback.state.Goals as goal

pub returns-clause-playback : goal.returns-clause-playback
returns-clause-playback c =
    let w = take_at c.play_first.new.answers (drop (length c.play_first.new.answers) c.args.self.now.answers.items) c.args.self.now.answers.len (c.play_first.auto.answers ∙ c.as_mut_slice.ensures.len) in
    on_ok_both c.play_first.result
    (λ f g. record {
      section = refl;
      address = c.requires.address;
      all = ap length w ∙ c.play_first.auto.answers ∙ ap length c.as_mut_slice.ensures.value ∙ c.requires.all;
      answers = ap (map shown) w ∙ played_again c.args.self.now.told c.args.self.now.answers.items c.play_first.new.answers _ c.requires.answers (f ∙ first_answers c.args.self.now.section.now c.args.self.now.told) (g ∙ ap (drop c.args.self.now.told) c.as_mut_slice.ensures.value);
      told = c.requires.told;
      busy = c.requires.busy;
    })
    c.play_first.ensures.answers c.play_first.ensures.beyond
