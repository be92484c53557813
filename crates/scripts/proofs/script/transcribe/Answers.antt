-- One line more is taken, one is refused, or none is left.
use Rattle.std.proofs.Common.{◌+◌, [], get_or, sym, ap, ◌∙◌}
use Rattle.scripts.specs.declared.line_error.LineError.TheVariants.{Expected}
use Rattle.scripts.specs.Playing.{script_told}
use Rattle.scripts.proofs.Scripts.{lines_from, told_at, refused_at, script_ended, no_lines}
use Rattle.scripts.proofs.script.transcribe.Goals as goal

pub returns-in-Err-Expected : goal.returns-in-Err-Expected
returns-in-Err-Expected c =
    refused_at (script_told c.args.text.now) (c.loop-i.i + 1) _ c.in-Err-Expected.field-0 c.loop-i.script.section c.take.new.self.section (get_or c.deref-line-items.result.now c.loop-i.i (record { ref_ptr = (0, 0); now = [] })).now _ _ _ _ _ _
    (lines_from c.deref-line-items.result.now c.loop-i.i (record { ref_ptr = (0, 0); now = [] }) c.loop-i-test.true) (c.in-Err-Expected.field-0-is ∙ ap Expected (sym c.in-Err-Expected.expected-is)) c.loop-i.invariant.transcript c.in-Err-Expected.ensures c.in_ok-tell-in-Err-Expected.ensures

pub loop-i-preserved : goal.loop-i-preserved
loop-i-preserved c = record {
  sound = c.in-Ok.ensures.5;
  transcript = told_at (script_told c.args.text.now) (c.loop-i.i + 1) c.loop-i.script.section c.take.new.self.section (get_or c.deref-line-items.result.now c.loop-i.i (record { ref_ptr = (0, 0); now = [] })).now _ _ c.in-Ok.field-0 _ _ _
      (lines_from c.deref-line-items.result.now c.loop-i.i (record { ref_ptr = (0, 0); now = [] }) c.loop-i-test.true) c.loop-i.invariant.transcript c.in-Ok.ensures;
}

pub returns : goal.returns
returns c = script_ended (script_told c.args.text.now) (c.loop-i.i + 1) c.loop-i.script.section _ _ _ _ (no_lines c.deref-line-items.result.now c.loop-i.i c.loop-i-test.false) c.loop-i.invariant.transcript c.in_ok-tell.ensures
