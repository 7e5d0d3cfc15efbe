-- One test after the other.
use Rattle.std.proofs.Common.{◌∙◌, ap}
use Rattle.vb_value.specs.Layout.{Layout}
use Rattle.boogie_tree.specs.Stmt as s
use Rattle.boogie_tree.specs.Whole.{stmts_of}
use Rattle.enc_expr.specs.Code.{join}
use Rattle.enc_expr.proofs.BlockLaws.{then_added}
use Rattle.enc_block.specs.Encoding.{unnamed_code, unheld_code, unstored_code}
use Rattle.enc_block.specs.View.{home_of}
use Rattle.enc_block.proofs.creations.fresh_reference.Goals as goal

pub returns : goal.returns
returns c =
    let home = home_of c.args.home.now in let r = c.args.reference in let fields = c.args.layout.now.fields in
    let rest = join (unnamed_code home r c.args.refs.now) (join (unheld_code home.now r fields 0) (unstored_code home.now r fields 0)) in
    then_added (stmts_of c.in_ok-block.block.items) (unnamed_code home r c.args.refs.now) _ c.in_ok-unnamed.ensures
    (then_added (stmts_of c.unnamed.new.block.items) (unheld_code home.now r fields 0) _
    (c.in_ok-unheld.ensures ∙ ap (λ us. join (stmts_of c.unnamed.new.block.items) (unheld_code home.now r us 0)) (c.deref.ensures.value ∙ ap (λ (l : Layout). l.fields) c.layout.view_is))
    (c.in_ok-unstored.ensures ∙ ap (λ us. join (stmts_of c.unheld.new.block.items) (unstored_code home.now r us 0)) (c.deref-2.ensures.value ∙ ap (λ (l : Layout). l.fields) c.layout.view_is)))
    ∙ ap (λ xs. join (stmts_of xs) rest) c.in_ok-block.ensures.items ∙ ap (λ x. s.first (s.Havoc r) (s.first (s.Assume x) rest)) c.in_ok-set.ensures
