-- The code of what is well-typed asks of the types of variables what the locals of its place tell.
use Rattle.std.proofs.Common.{◌≡◌, ◌∙◌, List, ◌∷◌, map, None, refl, sym, ap}
use Rattle.std.proofs.lemmas.Option.{get_or_from_slice_get}
use Rattle.vb_base.specs.declared.labels.Kind.TheVariants as kind
use Rattle.vb_value.specs.declared.values.Ty.{Ty}
use Rattle.vb_value.specs.declared.values.Ty.TheVariants as ty
use Rattle.viper_core.specs.Expr as e
use Rattle.viper_core.specs.Stmt.{FoldStmt}
use Rattle.viper_core.specs.Typing as y
use Rattle.viper_core.specs.Typing.{Context, IsFold, Opens}
use Rattle.viper_meaning.proofs.FoldLaws.{body_found}
use Rattle.boogie_tree.specs.Expr as t
use Rattle.boogie_tree.specs.Program.{BType}
use Rattle.boogie_tree.specs.Stmt as s
use Rattle.boogie_tree.specs.Values.{plain_type}
use Rattle.boogie_tree.specs.declared.exprs.BBase.TheVariants as base
use Rattle.moves.specs.Scalars.{base_for}
use Rattle.enc_expr.specs.Place.{Place, number, with_now, with_vars}
use Rattle.enc_expr.specs.Kinds.{Kinds, kinds_in, body_kinds}
use Rattle.enc_expr.specs.Code.{Guard, join, gives, then_emit, declares, puts}
use Rattle.enc_expr.specs.Encoding.{read_code, code, unfolding_code, codes, body_code, opening_code, taking}
use Rattle.enc_expr.specs.Operators.{binary_code, chosen_operand, choose_code}
use Rattle.enc_expr.specs.Pieces.{atomic, located, index, label, check_positive}
use Rattle.enc_expr.specs.ReadOff.{value_type, HasNumbers}
use Rattle.enc_expr.specs.Typed.{HasPlaceTypes}
use Rattle.enc_expr.proofs.ReadOffLaws.{AreNamed, variables_read}
use Rattle.enc_fold.specs.Encoding.{closing_code, fold_code, unfold_code}
use Rattle.enc_fold.specs.Calls.{kinds_for, with_body, fold_call, unfold_call}

abbrev named_kinds : Context → List Ty → Kinds
named_kinds c vs = record { vars = vs; layout = c.program.layout }

mutual
  code_named : (c : Context) (vs : List Ty) (p : Place) (g : Guard) (a : e.Expr) (u : Ty) → y.HasType c a u → AreNamed c vs → code (named_kinds c vs) p g a ≡ code (kinds_in c) p g a
  code_named c vs p g (e.Var x) u (y.variable visible there) named =
      ap (λ (w : Ty). gives (record { expr = t.Var (number p.vars x); base = base_for w })) (named x u visible there ∙ sym (get_or_from_slice_get c.vars x u ty.Int there))
  code_named c vs p g (e.Int n) _ (y.literal l) named = refl
  code_named c vs p g (e.Bool q) _ y.truth named = refl
  code_named c vs p g e.Null _ y.null named = refl
  code_named c vs p g (e.Part q) _ (y.part l) named = refl
  code_named c vs p g (e.Neg a) u (y.negative h counts) named = λ i. then_emit (code_named c vs p g a u h named i) (λ x. gives (record { expr = t.Neg x.expr; base = x.base }))
  code_named c vs p g (e.Not a) _ (y.negation h) named = λ i. then_emit (code_named c vs p g a ty.Bool h named i) (λ x. gives (record { expr = t.Not x.expr; base = base.Bool }))
  code_named c vs p g (e.Bin o a d at) u (y.binary {left = v} {right = w} h k typed) named =
      λ i. binary_code p g o at (code_named c vs p g a v h named i) (λ m. code_named c vs p m d w k named i)
  code_named c vs p g (e.Choose a d f) u (y.choice h k l) named = λ i. then_emit (code_named c vs p g a ty.Bool h named i) (λ x.
      choose_code g x.expr (λ m. code_named c vs p m d u k named i) (λ m. code_named c vs p m f u l named i) chosen_operand)
  code_named c vs p g (e.Field a f at) u (y.field h there) named = λ i. then_emit (code_named c vs p g a ty.Ref h named i) (read_code (kinds_in c) p g f at)
  code_named c vs p g (e.Old a) u (y.old allowed h) named = code_named c vs (with_now p.old p) g a u h named
  code_named c vs p g (e.Unfolding o) u (y.unfolded outside h) named = unfolding_named c vs p g o u h named

  unfolding_named : (c : Context) (vs : List Ty) (p : Place) (g : Guard) (o : e.Opened) (u : Ty) → Opens c o u → AreNamed c vs → unfolding_code (named_kinds c vs) p g o ≡ unfolding_code (kinds_in c) p g o
  unfolding_named c vs p g (e.opened q args amount body inner at) u (y.opens d there has_body h k l) named =
      λ i. then_emit (codes_named c vs p g args d.params h named i) (λ xs. then_emit (code_named c vs p g amount ty.Perm k named i) (λ m.
      then_emit (located xs) (λ z. then_emit (atomic m) (λ a. opening_code c.program.layout p g q at z a (λ own from.
      then_emit (body_code (body_kinds (kinds_in c) q) (with_now own (with_vars z.locals p)) g a.expr body from) (λ w. code_named c vs (with_now own p) g inner u l named i))))))

  codes_named : (c : Context) (vs : List Ty) (p : Place) (g : Guard) (xs : e.Exprs) (us : List Ty) → y.HaveTypes c xs us → AreNamed c vs → codes (named_kinds c vs) p g xs ≡ codes (kinds_in c) p g xs
  codes_named c vs p g e.none _ y.nothing named = refl
  codes_named c vs p g (e.more a rest) _ (y.also {u = u} {us = us} h k) named = λ i. then_emit (code_named c vs p g a u h named i) (λ x. then_emit (codes_named c vs p g rest us k named i) (λ xs. gives (x ∷ xs)))

module _ (c : Context) (p : Place) (ts : List BType) (h : HasPlaceTypes c p ts) (many : HasNumbers c p) (f : FoldStmt) (typed : IsFold c f) where
  fold_named : fold_code (kinds_for ts c.program.layout p) p f typed.body ≡ fold_code (kinds_in c) p f typed.body
  fold_named = λ i. then_emit (codes_named c (map (value_type ts) p.vars) p None f.args typed.predicate.params typed.args (variables_read c p ts h many) i) (λ xs.
      then_emit (code_named c (map (value_type ts) p.vars) p None f.amount ty.Perm typed.amount (variables_read c p ts h many) i) (λ m. then_emit (located xs) (λ l. then_emit (atomic m) (λ a.
      then_emit (puts None (join l.sets (join a.sets (check_positive (label p f.place kind.Amount) a.expr)))) (λ u. closing_code (kinds_in c) p f.predicate typed.body l.locals a.expr)))))

  unfold_named : unfold_code (kinds_for ts c.program.layout p) p f typed.body ≡ unfold_code (kinds_in c) p f typed.body
  unfold_named = λ i. then_emit (codes_named c (map (value_type ts) p.vars) p None f.args typed.predicate.params typed.args (variables_read c p ts h many) i) (λ xs.
      then_emit (code_named c (map (value_type ts) p.vars) p None f.amount ty.Perm typed.amount (variables_read c p ts h many) i) (λ m. then_emit (located xs) (λ l. then_emit (atomic m) (λ a.
      then_emit (declares (plain_type base.Snap)) (λ from.
      then_emit (puts None (join l.sets (join a.sets (taking p p.now s.skip f.predicate (index l.locals) a.expr from f.place)))) (λ u.
      body_code (body_kinds (kinds_in c) f.predicate) (with_vars l.locals p) None a.expr typed.body from))))))

  pub fold_read : fold_call ts c.program p f ≡ fold_code (kinds_in c) p f typed.body
  fold_read = ap (λ o. with_body o (fold_code (kinds_for ts c.program.layout p) p f)) (body_found c f typed) ∙ fold_named

  pub unfold_read : unfold_call ts c.program p f ≡ unfold_code (kinds_in c) p f typed.body
  unfold_read = ap (λ o. with_body o (unfold_code (kinds_for ts c.program.layout p) p f)) (body_found c f typed) ∙ unfold_named
