use Rattle.std.proofs.Common.{◌≡◌, map, drop}
use Rattle.vb_outer.specs.MemShelf.{file_named}
use Rattle.vb_outer.specs.Place.{held}
use Rattle.vb_outer.proofs.mem_shelf.find_file.Given as goal

-- the file of that name is the one among the files that are left
abbrev pub invariant-loop-index : goal.invariant-loop-index
invariant-loop-index l =
    file_named (map held l.files) l.name ≡ file_named (map held (drop l.index l.files)) l.name
