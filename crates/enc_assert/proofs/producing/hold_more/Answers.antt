use Rattle.std.proofs.Common.{ap}
use Rattle.std.proofs.lemmas.Result.{on_ok_weaker}
use Rattle.boogie_tree.specs.Whole.{stmts_of}
use Rattle.enc_expr.specs.Place.{maps_of}
use Rattle.enc_expr.specs.View.{atom_of}
use Rattle.enc_expr.proofs.BlockLaws.{added}
use Rattle.enc_assert.specs.Access.{target_of}
use Rattle.enc_assert.proofs.EmittedRows.{place_more, part_more}
use Rattle.enc_assert.proofs.producing.hold_more.Goals as goal

pub returns-in_ok-assume_limit-in-Field : goal.returns-in_ok-assume_limit-in-Field
returns-in_ok-assume_limit-in-Field c =
    on_ok_weaker c.add-in-Field.result (λ h. place_more (maps_of c.args.now.now) (atom_of c.args.scale) (atom_of c.args.amount) (target_of c.args.target.now) c.held_in-held.result c.held_in-held.ensures
    _ (atom_of c.in-Field.receiver) (stmts_of c.args.block.now.items) (stmts_of c.add.new.items.items) (stmts_of c.add_to.new.block.items) _ (ap target_of c.in-Field.is)
    (added c.args.block.now.items _ c.in_ok-add-in-Field.ensures c.in_ok-assume_some-in-Field.ensures) c.in_ok-add_to-in-Field.ensures
    (added c.add_to.new.block.items _ h c.in_ok-assume_limit-in-Field.ensures)) c.add-in-Field.ensures

pub returns-in-Instance : goal.returns-in-Instance
returns-in-Instance c =
    on_ok_weaker c.add_to-in-Instance.result (λ h. part_more (maps_of c.args.now.now) (atom_of c.args.scale) (atom_of c.args.amount) (target_of c.args.target.now) c.held_in-held.result c.held_in-held.ensures
    _ _ _ (stmts_of c.args.block.now.items) _ (ap target_of c.in-Instance.is) c.deref.ensures.value h) c.add_to-in-Instance.ensures
