-- The tests so far, and then those of the fields that are left.
use Rattle.std.proofs.Common.{◌≡◌, drop}
use Rattle.boogie_tree.specs.Whole.{stmts_of}
use Rattle.enc_expr.specs.Code.{join}
use Rattle.enc_expr.specs.Place.{maps_of}
use Rattle.enc_block.specs.Encoding.{unheld_code}
use Rattle.enc_block.proofs.creations.unheld.Given as goal

abbrev pub invariant-loop-i : goal.invariant-loop-i
invariant-loop-i l =
    join (stmts_of l.block.items) (unheld_code (maps_of l.now) l.reference (drop l.i l.fields) l.i) ≡ join (stmts_of l.fn.block.items) (unheld_code (maps_of l.fn.now) l.fn.reference l.fn.fields 0)
