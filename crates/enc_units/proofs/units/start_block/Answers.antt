-- One part after the other.
use Rattle.std.proofs.Common.{◌∙◌, ap}
use Rattle.enc_expr.specs.Code.{join}
use Rattle.enc_expr.proofs.BlockLaws.{all_added}
use Rattle.enc_fold.specs.Saved.{copy_held}
use Rattle.enc_block.specs.Encoding.{keep_old}
use Rattle.enc_block.specs.View.{home_of}
use Rattle.enc_units.proofs.units.start_block.Goals as goal

pub returns : goal.returns
returns c =
    let home = home_of c.args.home.now in
    all_added c.add_all.new.items.items c.in_ok-copy_state.field-0.items c.in_ok-add_all-2.ensures c.in_ok-copy_state.ensures
    ∙ ap (λ xs. join xs (keep_old home)) (all_added c.in_ok-block.block.items c.in_ok-copy_held.field-0.items c.in_ok-add_all.ensures c.in_ok-copy_held.ensures ∙ ap (λ xs. join xs (copy_held home.now home.nothing)) c.in_ok-block.ensures)
