use Rattle.phases.specs.Phases.{blank}
use Rattle.store.proofs.Moves.{gap_closes}
use Rattle.store.proofs.directory.edits.close_gap.Goals as goal

pub returns : goal.returns
returns c =
    gap_closes c.args.from c.args.many c.args.used c.args.records.now c.rotate_left.new.self
    c.requires.0 c.requires.1 c.rotate_left.ensures.after blank c.blank_out.new.records c.blank_out.ensures
