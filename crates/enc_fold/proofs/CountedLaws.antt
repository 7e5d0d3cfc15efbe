-- The code of folding and unfolding declares what it says.
use Rattle.std.proofs.Common.{ℕ, List, None}
use Rattle.vb_base.specs.declared.labels.Kind.TheVariants as kind
use Rattle.viper_core.specs.Expr as e
use Rattle.viper_core.specs.Stmt.{FoldStmt}
use Rattle.boogie_tree.specs.Expr as t
use Rattle.boogie_tree.specs.Stmt as s
use Rattle.boogie_tree.specs.Values.{plain_type}
use Rattle.boogie_tree.specs.declared.exprs.BBase.TheVariants as base
use Rattle.enc_expr.specs.Place.{Place, with_now, with_vars}
use Rattle.enc_expr.specs.Kinds.{Kinds, body_kinds}
use Rattle.enc_expr.specs.Code.{join, declares, puts}
use Rattle.enc_expr.specs.Pieces.{atomic, located, index, label, one_real, check_positive}
use Rattle.enc_expr.specs.Encoding.{code, codes, taking, fill_instance_code}
use Rattle.enc_expr.specs.Plain.{content_expr}
use Rattle.enc_expr.proofs.Simulated.{IsCounted}
use Rattle.enc_expr.proofs.CodeLaws.{then_counted, declares_counted, puts_counted, atomic_counted, located_counted, code_counted, codes_counted, body_counted}
use Rattle.enc_assert.specs.Encoding.{consume_code}
use Rattle.enc_assert.proofs.WrittenLaws.{consume_counted}
use Rattle.enc_fold.specs.Saved.{saving}
use Rattle.enc_fold.specs.Encoding.{closing_code, fold_code, unfold_code}
use Rattle.enc_fold.proofs.SavedLaws.{saving_counted}

pub closing_counted : (k : Kinds) (p : Place) (q : ℕ) (body : e.Assertion) (args : List ℕ) (amount : t.BExpr) → IsCounted (closing_code k p q body args amount)
closing_counted k p q body args amount =
    then_counted (saving k.layout p.now) _ (saving_counted k.layout p.now) (λ start.
    then_counted (consume_code (body_kinds k q) (with_vars args (with_now start p)) p.now None amount body) _ (consume_counted (body_kinds k q) (with_vars args (with_now start p)) p.now None amount body) (λ u.
    then_counted (declares (plain_type base.Snap)) _ (declares_counted (plain_type base.Snap)) (λ c.
    puts_counted None (s.first (s.Assign c (content_expr (body_kinds k q) (with_vars args (with_now start p)) body)) (fill_instance_code p one_real q (index args) amount c)))))

pub fold_counted : (k : Kinds) (p : Place) (f : FoldStmt) (body : e.Assertion) → IsCounted (fold_code k p f body)
fold_counted k p f body =
    then_counted (codes k p None f.args) _ (codes_counted k p None f.args) (λ xs. then_counted (code k p None f.amount) _ (code_counted k p None f.amount) (λ m.
    then_counted (located xs) _ (located_counted xs) (λ l. then_counted (atomic m) _ (atomic_counted m) (λ a.
    then_counted (puts None (join l.sets (join a.sets (check_positive (label p f.place kind.Amount) a.expr)))) _ (puts_counted None (join l.sets (join a.sets (check_positive (label p f.place kind.Amount) a.expr)))) (λ u.
    closing_counted k p f.predicate body l.locals a.expr)))))

pub unfold_counted : (k : Kinds) (p : Place) (f : FoldStmt) (body : e.Assertion) → IsCounted (unfold_code k p f body)
unfold_counted k p f body =
    then_counted (codes k p None f.args) _ (codes_counted k p None f.args) (λ xs. then_counted (code k p None f.amount) _ (code_counted k p None f.amount) (λ m.
    then_counted (located xs) _ (located_counted xs) (λ l. then_counted (atomic m) _ (atomic_counted m) (λ a.
    then_counted (declares (plain_type base.Snap)) _ (declares_counted (plain_type base.Snap)) (λ from.
    then_counted (puts None (join l.sets (join a.sets (taking p p.now s.skip f.predicate (index l.locals) a.expr from f.place)))) _ (puts_counted None (join l.sets (join a.sets (taking p p.now s.skip f.predicate (index l.locals) a.expr from f.place)))) (λ u.
    body_counted (body_kinds k f.predicate) (with_vars l.locals p) None a.expr body from))))))
