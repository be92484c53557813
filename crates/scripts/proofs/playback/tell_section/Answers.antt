-- One line more is told, and at the end all are.
use Rattle.std.proofs.Common.{get_or, ap, ◌∙◌, subst}
use Rattle.scripts.specs.declared.section.Section.{Section}
use Rattle.scripts.specs.Playbacks.{IsPlayback}
use Rattle.std.proofs.lemmas.Result.{on_ok_weaker}
use Rattle.scripts.proofs.Sections.{rest_from, line_more, rises_more, no_entry, first_within, all_lines, and_end}
use Rattle.scripts.proofs.playback.tell_section.Goals as goal

pub tell_under-requires-clause-more : goal.tell_under-requires-clause-more
tell_under-requires-clause-more c =
    first_within c.args.section.now c.loop-entry.playback.section.now c.loop-entry.playback.told (get_or c.as_slice-entry-items.result.now c.loop-entry.entry-index no_entry) _ _ c.loop-entry.invariant.section
    (rest_from c.args.section.now c.as_slice-entry-items.result.now c.loop-entry.entry-index no_entry c.as_slice-entry-items.ensures.value c.loop-entry-test.true) c.loop-entry.invariant.rises

pub loop-entry-preserved : goal.loop-entry-preserved
loop-entry-preserved c =
    let l = rest_from c.args.section.now c.as_slice-entry-items.result.now c.loop-entry.entry-index _ c.as_slice-entry-items.ensures.value c.loop-entry-test.true in
    record {
      section = ap (λ b. b.now) c.in_ok-tell_under.ensures.section ∙ c.loop-entry.invariant.section;
      playback = subst (λ (s : Section). IsPlayback s c.tell_under.new.self) c.loop-entry.invariant.section c.in_ok-tell_under.ensures.playback;
      rises = rises_more _ _ _ _ _ _ l c.loop-entry.invariant.rises c.in_ok-tell_under.ensures.told;
      transcript = line_more c.args.section.now c.loop-entry.playback.section.now c.loop-entry.playback.told c.tell_under.new.self.told _ _ _ _ _ _ _ l c.loop-entry.invariant.rises c.loop-entry.invariant.transcript c.in_ok-echo.ensures c.loop-entry.invariant.section c.in_ok-tell_under.ensures.transcript c.in_ok-tell_under.ensures.told;
    }

pub returns : goal.returns
returns c =
    on_ok_weaker c.tell_end.result
    (λ x. and_end c.args.section.now c.args.ended _ _ _ (all_lines c.args.section.now c.loop-entry.playback.told c.loop-entry.entry-index c.as_slice-entry-items.result.now _ _ c.as_slice-entry-items.ensures.value c.loop-entry-test.false c.loop-entry.invariant.transcript) x)
    c.tell_end.ensures
