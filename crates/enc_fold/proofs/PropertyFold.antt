-- The code of saving, folding and unfolding has what its parts have, with at most so many brackets.
use Rattle.std.proofs.Common.{◌≤◌, ℕ, List, None, arith}
use Rattle.vb_base.specs.declared.labels.Kind.TheVariants as kind
use Rattle.vb_value.specs.Layout.{Layout}
use Rattle.viper_core.specs.Expr as e
use Rattle.viper_core.specs.Stmt.{FoldStmt}
use Rattle.boogie_tree.specs.Expr as t
use Rattle.boogie_tree.specs.Stmt as s
use Rattle.boogie_tree.specs.Values.{plain_type}
use Rattle.boogie_tree.specs.declared.exprs.BBase.TheVariants as base
use Rattle.moves.specs.Maps.{state_types}
use Rattle.enc_expr.specs.Place.{Maps, Place, with_now, with_vars}
use Rattle.enc_expr.specs.Kinds.{Kinds, body_kinds}
use Rattle.enc_expr.specs.Code.{join, gives}
use Rattle.enc_expr.specs.Pieces.{Operand, index, label, one_real, check_positive}
use Rattle.enc_expr.specs.Encoding.{code, codes, body_code, copies, copy_state, maps_from, taking, fill_instance_code}
use Rattle.enc_expr.specs.Plain.{content_expr}
use Rattle.enc_expr.proofs.Property.{Property}
use Rattle.enc_expr.proofs.PropertyPieces.{copies_have, copy_state_has, index_has, check_positive_has, taking_has, fill_instance_has, Any, AreAll, IsCode, gives_has, then_has, declares_has, declares_all_has, bare_has, atomic_has, located_has}
use Rattle.enc_assert.specs.Encoding.{consume_code}
use Rattle.enc_fold.specs.Saved.{held_types, held_from, copy_held, saving, copying}
use Rattle.enc_fold.specs.Encoding.{closing_code, fold_code, unfold_code}

module _ (K : Property) where
  -- ---- copies

  pub copy_held_has : (m l : Maps) → K.block 0 (copy_held m l)
  copy_held_has m l = K.joined (copies m.mask l.mask 0) (copies m.amount l.amount 0) (copies_have K m.mask l.mask 0) (copies_have K m.amount l.amount 0)

  module _ (top : ℕ) where
    pub saving_has : (layout : Layout) (m : Maps) → IsCode K top Any (saving layout m)
    saving_has layout m = then_has K top (declares_all_has K top (held_types layout)) (λ n any. then_has K top {go = λ u. gives (held_from layout m n)}
        (bare_has K top (copy_held (held_from layout m n) m) (K.more_in_block (copy_held_has (held_from layout m n) m) (omega arith))) (λ u any. gives_has K top {x = held_from layout m n} tt))

    pub copying_has : (layout : Layout) (m : Maps) → IsCode K top Any (copying layout m)
    copying_has layout m = then_has K top (declares_all_has K top (state_types layout)) (λ n any. then_has K top {go = λ u. gives (maps_from layout n)}
        (bare_has K top (copy_state (maps_from layout n) m) (K.more_in_block (copy_state_has K (maps_from layout n) m) (omega arith))) (λ u any. gives_has K top {x = maps_from layout n} tt))

    -- ---- folding and unfolding

    module _ (k : Kinds) (p : Place) (f : FoldStmt) (body : e.Assertion) (d : ℕ) (three : 3 ≤ top) (few : d ≤ top) (args : IsCode K top (AreAll K d) (codes k p None f.args))
        (amount : IsCode K top (λ (x : Operand). K.expr d x.expr) (code k p None f.amount)) where
      module _ (consumed : (start : Maps) (is : List ℕ) (q : t.BExpr) → K.expr 0 q → IsCode K top Any (consume_code (body_kinds k f.predicate) (with_vars is (with_now start p)) p.now None q body))
          (content : (start : Maps) (is : List ℕ) → K.expr top (content_expr (body_kinds k f.predicate) (with_vars is (with_now start p)) body)) where
        closing_has : (is : List ℕ) (q : t.BExpr) → K.expr 0 q → IsCode K top Any (closing_code k p f.predicate body is q)
        closing_has is q h = then_has K top (saving_has k.layout p.now) (λ start any. then_has K top {P = Any} (consumed start is q h) (λ u any. then_has K top (declares_has K top (plain_type base.Snap)) (λ x any.
            bare_has K top (s.first (s.Assign x (content_expr (body_kinds k f.predicate) (with_vars is (with_now start p)) body)) (fill_instance_code p one_real f.predicate (index is) q x))
            (K.more_in_block (K.first (K.assign (content start is)) (fill_instance_has K p one_real f.predicate (index is) q x K.one_real (index_has K is) h)) (omega (arith, three))))))

        pub fold_has : IsCode K top Any (fold_code k p f body)
        fold_has = then_has K top args (λ xs i. then_has K top amount (λ m j. then_has K top (located_has K top d xs i) (λ l h. then_has K top (atomic_has K top d m j) (λ a c.
            let check = check_positive (label p f.place kind.Amount) a.expr in
            then_has K top {go = λ u. closing_code k p f.predicate body l.locals a.expr} (bare_has K top (join l.sets (join a.sets check)) (K.joined l.sets (join a.sets check) (K.more_in_block h few) (K.joined a.sets check (K.more_in_block c.sets few)
            (K.more_in_block (check_positive_has K (label p f.place kind.Amount) a.expr c.expr) (omega (arith, three)))))) (λ u any. closing_has l.locals a.expr c.expr)))))

      pub unfold_has : ((is : List ℕ) (q : t.BExpr) (from : ℕ) → K.expr 0 q → IsCode K top Any (body_code (body_kinds k f.predicate) (with_vars is p) None q body from)) → IsCode K top Any (unfold_code k p f body)
      unfold_has produced = then_has K top args (λ xs i. then_has K top amount (λ m j. then_has K top (located_has K top d xs i) (λ l h. then_has K top (atomic_has K top d m j) (λ a c.
          then_has K top (declares_has K top (plain_type base.Snap)) (λ from any.
          let take = taking p p.now s.skip f.predicate (index l.locals) a.expr from f.place in
          then_has K top {go = λ u. body_code (body_kinds k f.predicate) (with_vars l.locals p) None a.expr body from}
          (bare_has K top (join l.sets (join a.sets take)) (K.joined l.sets (join a.sets take) (K.more_in_block h few) (K.joined a.sets take (K.more_in_block c.sets few)
          (K.more_in_block (taking_has K p p.now s.skip f.predicate (index l.locals) a.expr from f.place K.skip (index_has K l.locals) c.expr) (omega (arith, three)))))) (λ u any. produced l.locals a.expr from c.expr))))))
