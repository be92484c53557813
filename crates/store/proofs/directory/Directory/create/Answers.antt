use Rattle.std.proofs.Common.{is_ok, ap, arith}
use Rattle.store.specs.Directories.{sequences}
use Rattle.store.proofs.Asked.{created}
use Rattle.store.proofs.Sound.{sound_push}
use Rattle.store.proofs.directory.Directory.create.Goals as goal

pub blank_out-requires : goal.blank_out-requires
blank_out-requires c =
    let f = created (sequences c.args.self.now) c.args.block.number c.args.block.reserve (ap is_ok c.requires.accepted) in
    omega (arith, f.2, c.requires.length)

pub append-requires : goal.append-requires
append-requires c =
    let d = c.args.self.now in
    let f = created (sequences d) c.args.block.number c.args.block.reserve (ap is_ok c.requires.accepted) in
    record {
      room = f.2;
      apart = sound_push (sequences d) c.args.block d.apart f.0 f.1;
    }
