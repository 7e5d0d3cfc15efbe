-- The code of folding and unfolding an instance, whose predicate has this body.
use Rattle.std.specs.Prelude.{⊤, ℕ, List, None}
use Rattle.vb_base.specs.declared.labels.Kind.TheVariants as kind
use Rattle.viper_core.specs.Expr as e
use Rattle.viper_core.specs.Stmt.{FoldStmt}
use Rattle.boogie_tree.specs.Expr as t
use Rattle.boogie_tree.specs.Stmt as s
use Rattle.boogie_tree.specs.declared.exprs.BBase.TheVariants as base
use Rattle.boogie_tree.specs.Values.{plain_type}
use Rattle.enc_expr.specs.Place.{Place, with_now, with_vars}
use Rattle.enc_expr.specs.Kinds.{Kinds, body_kinds}
use Rattle.enc_expr.specs.Code.{Emitting, join, then_emit, declares, puts}
use Rattle.enc_expr.specs.Pieces.{atomic, located, index, label, one_real, check_positive}
use Rattle.enc_expr.specs.Encoding.{code, codes, body_code, taking, fill_instance_code}
use Rattle.enc_expr.specs.Plain.{content_expr}
use Rattle.enc_assert.specs.Encoding.{consume_code}
use Rattle.enc_fold.specs.Saved.{saving}

-- ---- fold

-- Once the arguments are in locals and the amount is an atom: the body is read in the state as it was, and consumed. Then the
-- instance takes what the body contained, and so much more of it is held. Where some of it is still held, it contains just that.
abbrev pub closing_code : Kinds → Place → ℕ → e.Assertion → List ℕ → t.BExpr → Emitting ⊤
closing_code k p q body args amount =
    then_emit (saving k.layout p.now) (λ start.
    then_emit (consume_code (body_kinds k q) (with_vars args (with_now start p)) p.now None amount body) (λ u.
    then_emit (declares (plain_type base.Snap)) (λ c.
    puts None (s.first (s.Assign c (content_expr (body_kinds k q) (with_vars args (with_now start p)) body)) (fill_instance_code p one_real q (index args) amount c)))))

abbrev pub fold_code : Kinds → Place → FoldStmt → e.Assertion → Emitting ⊤
fold_code k p f body =
    then_emit (codes k p None f.args) (λ xs. then_emit (code k p None f.amount) (λ m. then_emit (located xs) (λ l. then_emit (atomic m) (λ a.
    then_emit (puts None (join l.sets (join a.sets (check_positive (label p f.place kind.Amount) a.expr)))) (λ u.
    closing_code k p f.predicate body l.locals a.expr)))))

-- ---- unfold

-- The instance is taken from the present state, and its body is produced there from what it contained.
abbrev pub unfold_code : Kinds → Place → FoldStmt → e.Assertion → Emitting ⊤
unfold_code k p f body =
    then_emit (codes k p None f.args) (λ xs. then_emit (code k p None f.amount) (λ m. then_emit (located xs) (λ l. then_emit (atomic m) (λ a.
    then_emit (declares (plain_type base.Snap)) (λ from.
    then_emit (puts None (join l.sets (join a.sets (taking p p.now s.skip f.predicate (index l.locals) a.expr from f.place)))) (λ u.
    body_code (body_kinds k f.predicate) (with_vars l.locals p) None a.expr body from))))))
