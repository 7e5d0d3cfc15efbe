-- A variable stands for itself, and any other operand gets a new local.
use Rattle.std.proofs.Common.{◌∙◌, refl, ap, sym}
use Rattle.std.proofs.lemmas.Result.{on_ok_weaker}
use Rattle.boogie_tree.specs.Stmt as s
use Rattle.boogie_tree.specs.Whole.{expr_of}
use Rattle.enc_expr.specs.Pieces.{variable_in}
use Rattle.enc_expr.specs.Emits.{emit_of}
use Rattle.enc_expr.specs.View.{seen, located_of}
use Rattle.enc_expr.proofs.BlockLaws.{added}
use Rattle.enc_expr.proofs.EmittedParts.{variable_located, other_located}
use Rattle.enc_expr.proofs.operands.Located.locate.Goals as goal

pub returns-in-Some : goal.returns-in-Some
returns-in-Some c =
    on_ok_weaker c.add.result (λ h. variable_located (seen c.args.x) (expr_of c.args.x.expr.value) c.in-Some.local (emit_of c.args.out.now) (located_of c.args.self.now) _
    (ap (λ a. variable_in (expr_of a)) (sym c.deref.ensures) ∙ sym c.variable_in.ensures ∙ c.in-Some.is) h refl) c.add.ensures

pub returns : goal.returns
returns c =
    on_ok_weaker c.add-3.result (λ h. other_located (seen c.args.x) (expr_of c.args.x.expr.value) c.in_ok-local.local (emit_of c.args.out.now) (emit_of c.fresh_scalar.new.self) (located_of c.args.self.now) _
    (ap (λ a. variable_in (expr_of a)) (sym c.deref.ensures) ∙ sym c.variable_in.ensures ∙ c.in_default.is) c.in_ok-local.ensures h
    (added c.args.self.now.sets.items _ c.in_ok-add.ensures (ap (λ a. s.Assign c.in_ok-local.local (expr_of a)) c.into_inner.ensures))) c.add-3.ensures
