use Rattle.std.proofs.Common.{map}
use Rattle.vb_outer.specs.Place.{held}
use Rattle.vb_outer.proofs.NamedFiles.{each_told}
use Rattle.vb_outer.proofs.mem_shelf.MemShelf.make.Goals as goal

pub returns-clause-told : goal.returns-clause-told
returns-clause-told c = each_told (map held c.args.files.items) c.requires.differ
