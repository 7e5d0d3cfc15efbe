-- The code of folding and unfolding is well-typed, and the maps that it declares have indices of key types.
use Rattle.std.proofs.Common.{◌≡◌, ◌≢◌, ◌+◌, ◌++◌, ℕ, Bool as Truth, true, false, List, All, length, map, if◌then◌else◌, Some, None, slice_get, refl, sym, ap, subst, ◌∙◌}
use Rattle.std.proofs.lemmas.List.{length-map as mapped_length}
use Rattle.std.proofs.lemmas.List.Elements.{All-head, All-tail, All-append}
use Rattle.std.proofs.lemmas.Option.{get_or_from_slice_get}
use Rattle.lemmas.proofs.Lists.{all_left, all_right}
use Rattle.vb_base.specs.declared.labels.Kind.TheVariants as kind
use Rattle.vb_value.specs.Layout.{Layout}
use Rattle.vb_value.specs.declared.values.Ty.{Ty}
use Rattle.vb_value.specs.declared.values.Ty.TheVariants as ty
use Rattle.viper_core.specs.Expr as e
use Rattle.viper_core.specs.Formed.{IsFormed, IsTypedProgram, predicate_context}
use Rattle.viper_core.specs.Program.{Program, Predicate}
use Rattle.viper_core.specs.Stmt.{FoldStmt}
use Rattle.viper_core.specs.Typing as y
use Rattle.viper_core.specs.Typing.{Context, IsAmount, IsAssertion, IsFold, value_type, allows_old, is_outside_predicates}
use Rattle.viper_core.specs.declared.exprs.Op.{Op}
use Rattle.viper_core.specs.declared.exprs.Op.TheVariants as o
use Rattle.viper_core.proofs.FormedLaws.{predicate_of_typed, predicate_body_of_typed}
use Rattle.viper_meaning.specs.Operators.{Class, Lazy, Division, Plain, class_of}
use Rattle.viper_meaning.proofs.TypedLaws.{keys_at}
use Rattle.boogie_tree.specs.Expr as t
use Rattle.boogie_tree.specs.Program.{BType}
use Rattle.boogie_tree.specs.Stmt as s
use Rattle.boogie_tree.specs.Values.{plain_type, is_key, AreKeys}
use Rattle.boogie_tree.specs.declared.exprs.BBase.TheVariants as base
use Rattle.boogie_tree.specs.declared.exprs.BOp.TheVariants as op
use Rattle.boogie_meaning.specs.Programs.{HaveKeys}
use Rattle.boogie_meaning.specs.Types as b
use Rattle.boogie_meaning.specs.Types.{HasType, HaveTypes}
use Rattle.moves.specs.Maps.{heap_type, content_type, mask_type, amount_type, index_types}
use Rattle.moves.specs.Scalars.{base_for}
use Rattle.enc_expr.specs.Place.{Maps, Place, number, with_now, with_vars}
use Rattle.enc_expr.specs.Kinds.{Kinds, kinds_in, type_at, body_kinds}
use Rattle.enc_expr.specs.Code.{join}
use Rattle.enc_expr.specs.Pieces.{Operand, index, label, at_one, zero_real, one_real, is_one, check_positive}
use Rattle.enc_expr.specs.Encoding.{body_code, taking, leaf, fill_instance_code}
use Rattle.enc_expr.specs.Plain.{plain_by, plain, plain_more, plain_index, plain_amount, contained_by, content_expr}
use Rattle.enc_expr.specs.Coupling.{AreLocals}
use Rattle.enc_expr.specs.Typed.{HasStateTypes, HasPlaceTypes, IsOperand, IsTypedPiece}
use Rattle.enc_expr.proofs.BaseLaws.{lazy_types, divisor_type}
use Rattle.enc_expr.proofs.KeyedCode.{IsKeyed, states_keyed, gives_keyed, then_keyed, plain_keyed, puts_keyed, atomic_keyed, located_keyed, code_keyed, codes_keyed, body_keyed, all_keyed}
use Rattle.enc_expr.proofs.TypedPieces.{IsTypedCode, Any, join_typed, gives_typed, then_typed, declares_typed, declares_all_typed, puts_typed, atomic_typed, AreVariables, located_typed, index_typed, variable_at, at_typed, first_locals, rest_locals, each_local, all_copied}
use Rattle.enc_expr.proofs.TypedForms.{own_type, operand_typed, taking_typed, quotient_typed, check_positive_typed, leaf_typed, at_one_typed, fill_instance_typed}
use Rattle.enc_expr.proofs.TypedCode.{code_typed, codes_typed, body_typed, more_place_types, negated_typed}
use Rattle.enc_assert.specs.Encoding.{consume_code}
use Rattle.enc_assert.proofs.WalkLaws.{consume_blocks, consume_walks}
use Rattle.enc_assert.proofs.TypedAssertions.{consume_blocks_typed, walk_typed, walk_keyed, held_types as held_of, piece_typed}
use Rattle.enc_fold.specs.Saved.{held_types, held_from, copy_held, saving}
use Rattle.enc_fold.specs.Encoding.{closing_code, fold_code, unfold_code}
use Rattle.enc_fold.proofs.ClosingLaws.{kinds_of_body}

-- ---- values without checks

module _ (ts : List BType) where
  by_class : (q : Class) (f : Op) (x z : Operand) (v w u : Ty) → class_of f ≡ q → value_type f v w ≡ Some u → IsOperand ts v x → IsOperand ts w z → IsOperand ts u (plain_by q f x z)
  by_class Lazy f x z v w u class typed h i =
      let types = lazy_types f v w u class typed in
      subst (λ u. IsOperand ts u (plain_by Lazy f x z)) (sym types.2) (lazily f class (subst (λ v. IsOperand ts v x) types.0 h) (subst (λ w. IsOperand ts w z) types.1 i))
    where
      lazily : (f : Op) → class_of f ≡ Lazy → IsOperand ts ty.Bool x → IsOperand ts ty.Bool z → IsOperand ts ty.Bool (plain_by Lazy f x z)
      lazily o.And class h i = record { typed = b.binary refl h.typed i.typed; base = refl }
      lazily o.Or class h i = record { typed = b.binary refl h.typed i.typed; base = refl }
      lazily o.Implies class h i = record { typed = b.binary refl h.typed i.typed; base = refl }
      lazily f class h i = absurd cc
  by_class Division f x z v w u class typed h i =
      let int = divisor_type f v w u class typed in
      quotient_typed ts f x z.expr v u class (subst (λ w. value_type f v w ≡ Some u) int typed) h (subst (λ w. HasType ts None z.expr (base_for w)) int i.typed)
  by_class Plain f x z v w u class typed h i = operand_typed ts f x z v w u class typed h i

module _ (ts : List BType) (c : Context) (p : Place) (h : HasPlaceTypes c p ts) (inside : allows_old c.site ≡ false) (closed : is_outside_predicates c.site ≡ false) where
  pub plain_typed : (a : e.Expr) (u : Ty) → y.HasType c a u → IsOperand ts u (plain (kinds_in c) p a)
  plain_typed (e.Var x) u (y.variable visible there) = record { typed = b.var (h.vars x u visible there); base = ap base_for (get_or_from_slice_get c.vars x u ty.Int there) }
  plain_typed (e.Int n) _ (y.literal l) = record { typed = b.int; base = refl }
  plain_typed (e.Bool q) _ y.truth = record { typed = b.bool; base = refl }
  plain_typed e.Null _ y.null = record { typed = b.null; base = refl }
  plain_typed (e.Part q) _ (y.part l) = record { typed = b.real; base = refl }
  plain_typed (e.Neg a) u (y.negative i counts) = negated_typed ts u (plain (kinds_in c) p a) counts (plain_typed a u i)
  plain_typed (e.Not a) _ (y.negation i) = record { typed = b.not_ (plain_typed a ty.Bool i).typed; base = refl }
  plain_typed (e.Bin f a d at) u (y.binary {left = v} {right = w} i j typed) = by_class ts (class_of f) f (plain (kinds_in c) p a) (plain (kinds_in c) p d) v w u refl typed (plain_typed a v i) (plain_typed d w j)
  plain_typed (e.Choose a d f) u (y.choice i j k) = record { typed = b.choose (plain_typed a ty.Bool i).typed (plain_typed d u j).typed (plain_typed f u k).typed; base = (plain_typed d u j).base }
  plain_typed (e.Field a f at) u (y.field i there) = record {
    typed = at_one_typed ts (number p.now.heap f) (base_for u) (plain (kinds_in c) p a).expr (h.now.heap f u there) (plain_typed a ty.Ref i).typed;
    base = ap base_for (get_or_from_slice_get c.program.layout.fields f u ty.Int there);
  }
  plain_typed (e.Old a) u (y.old allowed i) = absurd cc
  plain_typed (e.Unfolding q) u (y.unfolded outside i) = absurd cc

  -- parameters of predicates are no permissions, so they are indices
  base_is_key : (u : Ty) → u ≢ ty.Perm → is_key (base_for u) ≡ true
  base_is_key ty.Int h = refl
  base_is_key ty.Bool h = refl
  base_is_key ty.Ref h = refl
  base_is_key ty.Perm h = absurd (h refl)

  more_typed : (xs : e.Exprs) (us : List Ty) → All (λ u. u ≢ ty.Perm) us → y.HaveTypes c xs us → HaveTypes ts None (plain_more (kinds_in c) p xs) (map base_for us)
  more_typed e.none _ keys y.nothing = b.none
  more_typed (e.more a rest) _ keys (y.also {u = u} {us = us} i j) =
      b.more (base_is_key u (All-head (λ w. w ≢ ty.Perm) u us keys)) (plain_typed a u i).typed (more_typed rest us (All-tail (λ w. w ≢ ty.Perm) u us keys) j)

  index_of : (xs : e.Exprs) (us : List Ty) → All (λ u. u ≢ ty.Perm) us → y.HaveTypes c xs us → HaveTypes ts None (plain_index (kinds_in c) p xs) (index_types us)
  index_of e.none _ keys y.nothing = b.more refl b.int b.none
  index_of (e.more a rest) _ keys (y.also i j) = more_typed (e.more a rest) _ keys (y.also i j)

  amount_typed : (m : e.Amt) → IsAmount c m → HasType ts None (plain_amount (kinds_in c) p m) base.Real
  amount_typed (e.Is a) (y.amount i) = (plain_typed a ty.Perm i).typed
  amount_typed e.Wildcard (y.wildcard outside) = b.real

  contained_typed : (x z : t.BExpr) → HasType ts None x base.Real → HasType ts None z base.Snap → HasType ts None (contained_by x z) base.Snap
  contained_typed x z i j = by_literal (is_one x)
    where
      by_literal : (one : Truth) → HasType ts None (if one then z else t.If (t.Bin op.Gt x zero_real) z t.Unit) base.Snap
      by_literal true = j
      by_literal false = b.choose (b.binary refl i b.real) j b.unit

  pub content_typed : IsFormed c.program → (a : e.Assertion) → IsAssertion c a → HasType ts None (content_expr (kinds_in c) p a) base.Snap
  content_typed formed (e.Fact a at) (y.fact i) = b.unit
  content_typed formed (e.Acc a f m at) (y.access {u = u} i there j) =
      let w = type_at c.program.layout.fields f in let is_type : w ≡ u = get_or_from_slice_get c.program.layout.fields f u ty.Int there in
      contained_typed (plain_amount (kinds_in c) p m) (leaf w (at_one (number p.now.heap f) (plain (kinds_in c) p a).expr)) (amount_typed m j) (leaf_typed ts w (at_one (number p.now.heap f) (plain (kinds_in c) p a).expr)
      (at_one_typed ts (number p.now.heap f) (base_for w) (plain (kinds_in c) p a).expr (h.now.heap f w (there ∙ ap (λ (u : Ty). Some u) (sym is_type))) (plain_typed a ty.Ref i).typed))
  content_typed formed (e.Inst q args m at) (y.instance d there i j) =
      contained_typed (plain_amount (kinds_in c) p m) (t.At (number p.now.content q) (plain_index (kinds_in c) p args)) (amount_typed m j)
      (at_typed ts d.params (number p.now.content q) base.Snap (plain_index (kinds_in c) p args) (h.now.content q d.params (keys_at c formed q d there)) (index_of args d.params (predicate_of_typed c.program formed.typed q d there).params i))
  content_typed formed (e.And a d) (y.both i j) = b.pair (content_typed formed a i) (content_typed formed d j)
  content_typed formed (e.Implies a d) (y.implied i j) = b.choose (plain_typed a ty.Bool i).typed (content_typed formed d j) b.unit
  content_typed formed (e.ChooseAssertion a d f) (y.chosen i j k) = b.choose (plain_typed a ty.Bool i).typed (content_typed formed d j) (content_typed formed f k)

-- ---- copies

module _ (ts : List BType) (layout : Layout) (m : Maps) (h : HasStateTypes layout m ts) where
  held_from_types : (n : ℕ) → AreLocals ts n (held_types layout) → HasStateTypes layout (held_from layout m n) ts
  held_from_types n l = record {
    heap = h.heap;
    mask = λ f u there. each_local ts n mask_type layout.fields f u (first_locals ts n (map mask_type layout.fields) (map amount_type layout.keys) l) there;
    amount = λ q us there. each_local ts (n + length layout.fields) amount_type layout.keys q us
        (subst (λ i. AreLocals ts i (map amount_type layout.keys)) (ap (λ (k : ℕ). n + k) (mapped_length layout.fields mask_type)) (rest_locals ts n (map mask_type layout.fields) (map amount_type layout.keys) l)) there;
    content = h.content;
  }

  pub saving_typed : IsTypedCode ts (λ (start : Maps). HasStateTypes layout start ts) (saving layout m)
  saving_typed =
      then_typed ts (declares_all_typed ts (held_types layout)) (λ n l. let own = held_from_types n l in
      then_typed ts (puts_typed ts None (copy_held (held_from layout m n) m) tt (join_typed ts (all_copied ts mask_type layout.fields n m.mask own.mask h.mask) (all_copied ts amount_type layout.keys (n + length layout.fields) m.amount own.amount h.amount)))
      (λ u any. gives_typed ts own))

-- ---- folding

module _ (ts : List BType) (c : Context) (p : Place) (formed : IsFormed c.program) (f : FoldStmt) (typed : IsFold c f) (h : HasPlaceTypes c p ts) where
  abbrev k : Kinds
  k = kinds_in c

  abbrev d : Predicate
  d = typed.predicate

  keys : slice_get c.program.layout.keys f.predicate ≡ Some d.params
  keys = keys_at c formed f.predicate d typed.exists

  no_perm : All (λ u. u ≢ ty.Perm) d.params
  no_perm = (predicate_of_typed c.program formed.typed f.predicate d typed.exists).params

  body_is : IsAssertion (predicate_context c.program d) typed.body
  body_is = predicate_body_of_typed c.program formed.typed f.predicate d typed.body typed.exists typed.has_body

  -- where the body is read
  reading : (m : Maps) (is : List ℕ) → HasStateTypes c.program.layout m ts → AreVariables ts d.params is → HasPlaceTypes (predicate_context c.program d) (with_vars is (with_now m p)) ts
  reading m is now vars = record { vars = λ x u visible there. variable_at ts d.params is x u vars there; now = now; old = h.old }

  closing_typed : (is : List ℕ) (amount : t.BExpr) → AreVariables ts d.params is → HasType ts None amount base.Real → IsTypedCode ts Any (closing_code k p f.predicate typed.body is amount)
  closing_typed is amount vars perm =
      then_typed ts (saving_typed ts c.program.layout p.now h.now) (λ start own.
      let place = with_vars is (with_now start p) in let at = reading start is own vars in
      then_typed ts (subst (λ o. IsTypedCode ts Any (consume_code o place p.now None amount typed.body)) (kinds_of_body c f.predicate d keys)
      (subst (IsTypedCode ts Any) (sym (consume_walks (kinds_in (predicate_context c.program d)) place amount p.now None typed.body))
      (walk_typed ts (predicate_context c.program d) place (consume_blocks place p.now amount) formed at (consume_blocks_typed ts c.program.layout place p.now amount (held_of ts c.program.layout p.now h.now) perm) None typed.body body_is tt))) (λ u any.
      then_typed ts (declares_typed ts (plain_type base.Snap)) (λ x there.
      let content = content_expr (body_kinds k f.predicate) place typed.body in
      let snap : HasType ts None content base.Snap = subst (λ o. HasType ts None (content_expr o place typed.body) base.Snap) (kinds_of_body c f.predicate d keys)
      (content_typed ts (predicate_context c.program d) place at refl refl formed typed.body body_is) in
      puts_typed ts None (s.first (s.Assign x content) (fill_instance_code p one_real f.predicate (index is) amount x)) tt (b.first (b.assign there (b.value snap))
      (fill_instance_typed ts c.program.layout p one_real d.params f.predicate (index is) amount x h.now keys b.real (index_typed ts d.params is no_perm vars) perm there)))))

  pub fold_code_typed : IsTypedCode ts Any (fold_code k p f typed.body)
  fold_code_typed =
      then_typed ts (codes_typed ts c p None f.args d.params formed typed.args h tt) (λ xs i. then_typed ts (code_typed ts c p None f.amount ty.Perm formed typed.amount h tt) (λ m j.
      then_typed ts (located_typed ts i) (λ l r. then_typed ts (atomic_typed ts m (own_type ts j)) (λ a q.
      let real : HasType ts None a.expr base.Real = subst (HasType ts None a.expr) j.base q.typed in
      then_typed ts (puts_typed ts None (join l.sets (join a.sets (check_positive (label p f.place kind.Amount) a.expr))) tt
      (join_typed ts r.sets (join_typed ts q.sets (check_positive_typed ts (label p f.place kind.Amount) a.expr real)))) (λ u any. closing_typed l.locals a.expr r.typed real)))))

  pub unfold_code_typed : IsTypedCode ts Any (unfold_code k p f typed.body)
  unfold_code_typed =
      then_typed ts (codes_typed ts c p None f.args d.params formed typed.args h tt) (λ xs i. then_typed ts (code_typed ts c p None f.amount ty.Perm formed typed.amount h tt) (λ m j.
      then_typed ts (located_typed ts i) (λ l r. then_typed ts (atomic_typed ts m (own_type ts j)) (λ a q.
      let real : HasType ts None a.expr base.Real = subst (HasType ts None a.expr) j.base q.typed in
      then_typed ts (declares_typed ts (plain_type base.Snap)) (λ from there.
      then_typed ts (puts_typed ts None (join l.sets (join a.sets (taking p p.now s.skip f.predicate (index l.locals) a.expr from f.place))) tt (join_typed ts r.sets (join_typed ts q.sets
      (taking_typed ts c.program.layout p p.now s.skip d.params f.predicate (index l.locals) a.expr from f.place h.now h.now keys b.skip (index_typed ts d.params l.locals no_perm r.typed) real there)))) (λ u any.
      subst (λ o. IsTypedCode ts Any (body_code o (with_vars l.locals p) None a.expr typed.body from)) (kinds_of_body c f.predicate d keys)
      (body_typed ts (predicate_context c.program d) (with_vars l.locals p) None a.expr typed.body from formed body_is (reading p.now l.locals h.now r.typed) tt real there)))))))

-- ---- the types of indices

-- those of masks and amounts are among those of all maps
held_keyed : (p : Program) → IsTypedProgram p → HaveKeys (held_types p.layout)
held_keyed p typed =
    let heaps = map heap_type p.layout.fields in let masks = map mask_type p.layout.fields in let amounts = map amount_type p.layout.keys in let contents = map content_type p.layout.keys in
    let three : All (λ (u : BType). AreKeys u.keys) (heaps ++ masks ++ amounts) = all_left (λ (u : BType). AreKeys u.keys) (heaps ++ masks ++ amounts) contents (states_keyed p typed) in
    All-append (λ (u : BType). AreKeys u.keys) masks amounts
    (all_right (λ (u : BType). AreKeys u.keys) heaps masks (all_left (λ (u : BType). AreKeys u.keys) (heaps ++ masks) amounts three)) (all_right (λ (u : BType). AreKeys u.keys) (heaps ++ masks) amounts three)

saving_keyed : (p : Program) (m : Maps) → IsTypedProgram p → IsKeyed (saving p.layout m)
saving_keyed p m typed =
    then_keyed (all_keyed (held_types p.layout) (held_keyed p typed)) (λ n. then_keyed (puts_keyed None (copy_held (held_from p.layout m n) m)) (λ u. gives_keyed (held_from p.layout m n)))

pub fold_keyed : (c : Context) (p : Place) (f : FoldStmt) (body : e.Assertion) → IsFormed c.program → IsKeyed (fold_code (kinds_in c) p f body)
fold_keyed c p f body formed =
    let k = kinds_in c in let keys = states_keyed c.program formed.typed in
    then_keyed (codes_keyed k p None f.args keys) (λ xs. then_keyed (code_keyed k p None f.amount keys) (λ m. then_keyed (located_keyed xs) (λ l. then_keyed (atomic_keyed m) (λ a.
    then_keyed (puts_keyed None (join l.sets (join a.sets (check_positive (label p f.place kind.Amount) a.expr)))) (λ u.
    then_keyed (saving_keyed c.program p.now formed.typed) (λ start.
    let place = with_vars l.locals (with_now start p) in
    then_keyed (subst IsKeyed (sym (consume_walks (body_kinds k f.predicate) place a.expr p.now None body)) (walk_keyed (body_kinds k f.predicate) place (consume_blocks place p.now a.expr) None body keys)) (λ u.
    then_keyed (plain_keyed base.Snap) (λ x.
    puts_keyed None (s.first (s.Assign x (content_expr (body_kinds k f.predicate) place body)) (fill_instance_code p one_real f.predicate (index l.locals) a.expr x))))))))))

pub unfold_keyed : (c : Context) (p : Place) (f : FoldStmt) (body : e.Assertion) → IsFormed c.program → IsKeyed (unfold_code (kinds_in c) p f body)
unfold_keyed c p f body formed =
    let k = kinds_in c in let keys = states_keyed c.program formed.typed in
    then_keyed (codes_keyed k p None f.args keys) (λ xs. then_keyed (code_keyed k p None f.amount keys) (λ m. then_keyed (located_keyed xs) (λ l. then_keyed (atomic_keyed m) (λ a.
    then_keyed (plain_keyed base.Snap) (λ from. then_keyed (puts_keyed None (join l.sets (join a.sets (taking p p.now s.skip f.predicate (index l.locals) a.expr from f.place)))) (λ u.
    body_keyed (body_kinds k f.predicate) (with_vars l.locals p) None a.expr body from keys))))))

-- ---- what is promised

pub fold_typed : (c : Context) (p : Place) (f : FoldStmt) (ts : List BType) → IsFormed c.program → (typed : IsFold c f) → HasPlaceTypes c p ts → IsTypedPiece ts (fold_code (kinds_in c) p f typed.body (length ts))
fold_typed c p f ts formed typed h =
    let m = fold_code (kinds_in c) p f typed.body in let us = (m (length ts)).locals in
    piece_typed ts m (fold_keyed c p f typed.body formed) (fold_code_typed (ts ++ us) c p formed f typed (more_place_types ts us c p h))

pub unfold_typed : (c : Context) (p : Place) (f : FoldStmt) (ts : List BType) → IsFormed c.program → (typed : IsFold c f) → HasPlaceTypes c p ts → IsTypedPiece ts (unfold_code (kinds_in c) p f typed.body (length ts))
unfold_typed c p f ts formed typed h =
    let m = unfold_code (kinds_in c) p f typed.body in let us = (m (length ts)).locals in
    piece_typed ts m (unfold_keyed c p f typed.body formed) (unfold_code_typed (ts ++ us) c p formed f typed (more_place_types ts us c p h))
