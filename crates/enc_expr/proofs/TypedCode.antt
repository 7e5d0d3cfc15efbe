-- What the code of an expression, or of producing a body, writes is well-typed among the locals that it declares and those that
-- its place names.
use Rattle.std.proofs.Common.{◌≡◌, ℕ, ◌+◌, List, [], ◌∷◌, ◌++◌, Some, None, slice_get, length, refl, ap, sym, subst, append-nil, append_assoc, length-append, arith}
use Rattle.std.proofs.lemmas.Option.{get_or_from_slice_get}
use Rattle.vb_value.specs.Layout.{Layout}
use Rattle.vb_value.specs.declared.values.Ty.{Ty}
use Rattle.vb_value.specs.declared.values.Ty.TheVariants as ty
use Rattle.viper_core.specs.Expr as e
use Rattle.viper_core.specs.Formed.{IsFormed, predicate_context}
use Rattle.viper_core.specs.Program.{Predicate}
use Rattle.viper_core.specs.Typing as y
use Rattle.std.specs.Prelude.{IsTrue}
use Rattle.lemmas.proofs.Lists.{get_middle, there_left}
use Rattle.viper_core.specs.Typing.{Context, IsAssertion, IsAmount, Opens}
use Rattle.viper_core.proofs.FormedLaws.{predicate_of_typed, predicate_body_of_typed}
use Rattle.viper_meaning.proofs.TypedLaws.{keys_at}
use Rattle.boogie_tree.specs.Expr as t
use Rattle.boogie_tree.specs.Stmt as s
use Rattle.boogie_tree.specs.Program.{BType}
use Rattle.boogie_tree.specs.declared.exprs.BBase.TheVariants as base
use Rattle.boogie_tree.specs.Values.{plain_type}
use Rattle.boogie_meaning.specs.Types as b
use Rattle.boogie_meaning.specs.Types.{HasType}
use Rattle.enc_expr.specs.Place.{Maps, Place, with_now, with_vars}
use Rattle.moves.specs.Scalars.{base_for}
use Rattle.moves.specs.Maps.{state_types}
use Rattle.enc_expr.specs.Kinds.{Kinds, kinds_in, body_kinds}
use Rattle.enc_expr.specs.Code.{Guard, join, puts}
use Rattle.enc_expr.specs.Pieces.{Operand, Atom, Located, one, index}
use Rattle.enc_expr.specs.Operators.{chosen_operand}
use Rattle.enc_expr.specs.Encoding.{code, unfolding_code, codes, amount_code, body_code, is_unit, maps_from, copy_state, taking, pair_code}
use Rattle.enc_expr.specs.Coupling.{AreLocals}
use Rattle.enc_expr.specs.Typed.{HasStateTypes, HasPlaceTypes, HasGuardType, IsOperand, AreOperands, none, more, IsTypedPiece, IsTypedExpression}
use Rattle.enc_expr.proofs.KeyedCode.{states_keyed, code_keyed, body_keyed}
use Rattle.enc_expr.proofs.TypedPieces.{IsTypedCode, Any, join_typed, gives_typed, then_typed, declares_typed, declares_all_typed, puts_typed, atomic_typed, AreVariables, located_typed, variable_at, index_typed, own_types, copy_state_typed}
use Rattle.enc_expr.proofs.TypedMore.{type_with_more}
use Rattle.enc_expr.proofs.TypedForms.{own_type, binary_typed, choose_typed, chosen_typed, read_typed, only_unit_typed, fact_typed, pair_typed, acc_typed, instance_typed, taking_typed}

module _ (ts : List BType) where
  -- what is negated is a number
  pub negated_typed : (u : Ty) (x : Operand) → IsTrue (y.is_number u) → IsOperand ts u x → IsOperand ts u (record { expr = t.Neg x.expr; base = x.base })
  negated_typed ty.Int x h i = record { typed = b.neg refl i.typed; base = i.base }
  negated_typed ty.Perm x h i = record { typed = b.neg refl i.typed; base = i.base }
  negated_typed ty.Bool x h i = absurd cc
  negated_typed ty.Ref x h i = absurd cc

  -- the place of a body, in maps that it may change
  body_place : (c : Context) (d : Predicate) (p : Place) (m : Maps) (is : List ℕ) → HasPlaceTypes c p ts → HasStateTypes c.program.layout m ts → AreVariables ts d.params is →
      HasPlaceTypes (predicate_context c.program d) (with_now m (with_vars is p)) ts
  body_place c d p m is h own vars = record { vars = λ x u visible there. variable_at ts d.params is x u vars there; now = own; old = h.old }

  mutual
    pub code_typed : (c : Context) (p : Place) (g : Guard) (a : e.Expr) (u : Ty) → IsFormed c.program → y.HasType c a u → HasPlaceTypes c p ts → HasGuardType g ts → IsTypedCode ts (IsOperand ts u) (code (kinds_in c) p g a)
    code_typed c p g (e.Var x) u formed (y.variable visible there) h guard = gives_typed ts (record { typed = b.var (h.vars x u visible there); base = ap base_for (get_or_from_slice_get c.vars x u ty.Int there) })
    code_typed c p g (e.Int n) _ formed (y.literal l) h guard = gives_typed ts (record { typed = b.int; base = refl })
    code_typed c p g (e.Bool q) _ formed y.truth h guard = gives_typed ts (record { typed = b.bool; base = refl })
    code_typed c p g e.Null _ formed y.null h guard = gives_typed ts (record { typed = b.null; base = refl })
    code_typed c p g (e.Part q) _ formed (y.part l) h guard = gives_typed ts (record { typed = b.real; base = refl })
    code_typed c p g (e.Neg a) u formed (y.negative i counts) h guard = then_typed ts (code_typed c p g a u formed i h guard) (λ x k. gives_typed ts (negated_typed u x counts k))
    code_typed c p g (e.Not a) _ formed (y.negation i) h guard = then_typed ts (code_typed c p g a ty.Bool formed i h guard) (λ x k. gives_typed ts (record { typed = b.not_ k.typed; base = refl }))
    code_typed c p g (e.Bin o a d at) u formed (y.binary {left = v} {right = w} i j typed) h guard = binary_typed ts p g o at (code (kinds_in c) p g a) (λ k. code (kinds_in c) p k d) v w u typed guard
        (code_typed c p g a v formed i h guard) (λ k l. code_typed c p k d w formed j h l)
    code_typed c p g (e.Choose a d f) u formed (y.choice i j k) h guard = then_typed ts (code_typed c p g a ty.Bool formed i h guard) (λ x l.
        choose_typed ts g x.expr (λ m. code (kinds_in c) p m d) (λ m. code (kinds_in c) p m f) chosen_operand guard l.typed (λ m n. code_typed c p m d u formed j h n) (λ m n. code_typed c p m f u formed k h n)
        (λ m v w n q r. chosen_typed ts u m v w n q r))
    code_typed c p g (e.Field a f at) u formed (y.field i there) h guard = then_typed ts (code_typed c p g a ty.Ref formed i h guard) (λ x k. read_typed ts c p g f at x u guard h.now there k)
    code_typed c p g (e.Old a) u formed (y.old allowed i) h guard = code_typed c (with_now p.old p) g a u formed i (record { vars = h.vars; now = h.old; old = h.old }) guard
    code_typed c p g (e.Unfolding o) u formed (y.unfolded outside i) h guard = unfolding_typed c p g o u formed i h guard

    pub unfolding_typed : (c : Context) (p : Place) (g : Guard) (o : e.Opened) (u : Ty) → IsFormed c.program → Opens c o u → HasPlaceTypes c p ts → HasGuardType g ts → IsTypedCode ts (IsOperand ts u) (unfolding_code (kinds_in c) p g o)
    unfolding_typed c p g (e.opened q args amount body inner at) u formed (y.opens d there has_body i j k) h guard = then_typed ts (codes_typed c p g args d.params formed i h guard) (λ xs xs_typed.
        then_typed ts (code_typed c p g amount ty.Perm formed j h guard) (λ m m_typed. then_typed ts (located_typed ts xs_typed) (λ l l_typed. then_typed ts (atomic_typed ts m (own_type ts m_typed)) (λ a a_typed.
        then_typed ts (declares_all_typed ts (state_types c.program.layout)) (λ n own. then_typed ts (declares_typed ts (plain_type base.Snap)) (λ from snap.
        let real : HasType ts None a.expr base.Real = subst (HasType ts None a.expr) m_typed.base a_typed.typed in
        let maps : HasStateTypes c.program.layout (maps_from c.program.layout n) ts = own_types ts c.program.layout n own in
        then_typed ts (puts_typed ts g (opening l a n from) guard (join_typed ts l_typed.sets (join_typed ts a_typed.sets (taking_typed ts c.program.layout p (maps_from c.program.layout n)
        (copy_state (maps_from c.program.layout n) p.now) d.params q (index l.locals) a.expr from at h.now maps (keys_at c formed q d there)
        (copy_state_typed ts c.program.layout n p.now maps h.now) (index_typed ts d.params l.locals (predicate_of_typed c.program formed.typed q d there).params l_typed.typed) real snap)))) (λ z w.
        then_typed ts (subst (λ (o : Kinds). IsTypedCode ts Any (body_code o (with_now (maps_from c.program.layout n) (with_vars l.locals p)) g a.expr body from)) same_kinds
        (body_typed (predicate_context c.program d) (with_now (maps_from c.program.layout n) (with_vars l.locals p)) g a.expr body from formed (predicate_body_of_typed c.program formed.typed q d body there has_body)
        (body_place c d p (maps_from c.program.layout n) l.locals h maps l_typed.typed) guard real snap)) (λ z w.
        code_typed c (with_now (maps_from c.program.layout n) p) g inner u formed k (record { vars = h.vars; now = maps; old = h.old }) guard))))))))
      where
        opening : Located → Atom → ℕ → ℕ → s.BStmts
        opening l a n from = join l.sets (join a.sets (taking p (maps_from c.program.layout n) (copy_state (maps_from c.program.layout n) p.now) q (index l.locals) a.expr from at))

        same_kinds : kinds_in (predicate_context c.program d) ≡ body_kinds (kinds_in c) q
        same_kinds = ap (λ (us : List Ty). record { vars = us; layout = c.program.layout }) (sym (get_or_from_slice_get c.program.layout.keys q d.params [] (keys_at c formed q d there)))

    pub codes_typed : (c : Context) (p : Place) (g : Guard) (xs : e.Exprs) (us : List Ty) → IsFormed c.program → y.HaveTypes c xs us → HasPlaceTypes c p ts → HasGuardType g ts → IsTypedCode ts (AreOperands ts us) (codes (kinds_in c) p g xs)
    codes_typed c p g e.none _ formed y.nothing h guard = gives_typed ts none
    codes_typed c p g (e.more a rest) _ formed (y.also {u = u} {us = us} i j) h guard = then_typed ts (code_typed c p g a u formed i h guard) (λ x k. then_typed ts (codes_typed c p g rest us formed j h guard) (λ xs l. gives_typed ts (more k l)))

    pub amount_typed : (c : Context) (p : Place) (g : Guard) (m : e.Amt) → IsFormed c.program → IsAmount c m → HasPlaceTypes c p ts → HasGuardType g ts → IsTypedCode ts (IsOperand ts ty.Perm) (amount_code (kinds_in c) p g m)
    amount_typed c p g (e.Is a) formed (y.amount i) h guard = code_typed c p g a ty.Perm formed i h guard
    amount_typed c p g e.Wildcard formed (y.wildcard outside) h guard = gives_typed ts (record { typed = b.real; base = refl })

    pub body_typed : (c : Context) (p : Place) (g : Guard) (scale : t.BExpr) (a : e.Assertion) (from : ℕ) → IsFormed c.program → IsAssertion c a → HasPlaceTypes c p ts → HasGuardType g ts → HasType ts None scale base.Real →
        slice_get ts from ≡ Some (plain_type base.Snap) → IsTypedCode ts Any (body_code (kinds_in c) p g scale a from)
    body_typed c p g scale (e.Fact a at) from formed (y.fact i) h guard scaled l = then_typed ts (code_typed c p g a ty.Bool formed i h guard) (λ x k.
        puts_typed ts g (s.first (s.Assume (is_unit from)) (one (s.Assume x.expr))) guard (fact_typed ts from x.expr l k.typed))
    body_typed c p g scale (e.Acc a f m at) from formed (y.access {u = u} i there j) h guard scaled l = then_typed ts (code_typed c p g a ty.Ref formed i h guard) (λ x k.
        then_typed ts (amount_typed c p g m formed j h guard) (λ q n. acc_typed ts c p g scale f at from x q u guard h.now there scaled l k n))
    body_typed c p g scale (e.Inst q args m at) from formed (y.instance d there i j) h guard scaled l = then_typed ts (codes_typed c p g args d.params formed i h guard) (λ xs k.
        then_typed ts (amount_typed c p g m formed j h guard) (λ x n. instance_typed ts c.program.layout p g scale q at from xs x d.params guard h.now (keys_at c formed q d there) (predicate_of_typed c.program formed.typed q d there).params scaled l k n))
    body_typed c p g scale (e.And a d) from formed (y.both i j) h guard scaled l = then_typed ts (declares_typed ts (plain_type base.Snap)) (λ m k. then_typed ts (declares_typed ts (plain_type base.Snap)) (λ r n.
        then_typed ts (puts_typed ts g (pair_code from m r) guard (pair_typed ts from m r l k n)) (λ z w. then_typed ts (body_typed c p g scale a m formed i h guard scaled k) (λ z w. body_typed c p g scale d r formed j h guard scaled n))))
    body_typed c p g scale (e.Implies a d) from formed (y.implied i j) h guard scaled l = then_typed ts (code_typed c p g a ty.Bool formed i h guard) (λ x k.
        choose_typed ts g x.expr (λ m. body_code (kinds_in c) p m scale d from) (λ m. puts m (one (s.Assume (is_unit from)))) (λ m v w. tt) guard k.typed (λ m n. body_typed c p m scale d from formed j h n scaled l)
        (λ m n. puts_typed ts m (one (s.Assume (is_unit from))) n (only_unit_typed ts from l)) (λ m v w n q r. tt))
    body_typed c p g scale (e.ChooseAssertion a d f) from formed (y.chosen i j k) h guard scaled l = then_typed ts (code_typed c p g a ty.Bool formed i h guard) (λ x n.
        choose_typed ts g x.expr (λ m. body_code (kinds_in c) p m scale d from) (λ m. body_code (kinds_in c) p m scale f from) (λ m v w. tt) guard n.typed (λ m q. body_typed c p m scale d from formed j h q scaled l)
        (λ m q. body_typed c p m scale f from formed k h q scaled l) (λ m v w q r z. tt))

-- ---- after the locals that there are

-- new locals stand behind those that there are
pub new_locals : (ts us : List BType) → AreLocals (ts ++ us) (length ts) us
new_locals ts [] = tt
new_locals ts (u ∷ us) = (get_middle ts u us, subst (λ (n : ℕ). AreLocals (ts ++ u ∷ us) n us) longer (subst (λ (l : List BType). AreLocals l (length (ts ++ u ∷ [])) us) (append_assoc ts (u ∷ []) us) (new_locals (ts ++ u ∷ []) us)))
  where
    longer : length (ts ++ u ∷ []) ≡ length ts + 1
    longer = simp length-append (omega arith)

-- and those keep their types
pub more_state_types : (ts us : List BType) (layout : Layout) (m : Maps) → HasStateTypes layout m ts → HasStateTypes layout m (ts ++ us)
more_state_types ts us layout m h = record {
  heap = λ f u there. there_left ts us _ _ (h.heap f u there);
  mask = λ f u there. there_left ts us _ _ (h.mask f u there);
  amount = λ q ks there. there_left ts us _ _ (h.amount q ks there);
  content = λ q ks there. there_left ts us _ _ (h.content q ks there);
}

pub more_place_types : (ts us : List BType) (c : Context) (p : Place) → HasPlaceTypes c p ts → HasPlaceTypes c p (ts ++ us)
more_place_types ts us c p h = record {
  vars = λ x u visible there. there_left ts us _ _ (h.vars x u visible there);
  now = more_state_types ts us c.program.layout p.now h.now;
  old = more_state_types ts us c.program.layout p.old h.old;
}

pub more_guard_type : (ts us : List BType) (g : Guard) → HasGuardType g ts → HasGuardType g (ts ++ us)
more_guard_type ts us None h = tt
more_guard_type ts us (Some i) h = there_left ts us i _ h

-- what is written for an expression, and for a body, among all locals
pub expression_typed : (c : Context) (p : Place) (g : Guard) (a : e.Expr) (u : Ty) (ts : List BType) → IsFormed c.program → y.HasType c a u → HasPlaceTypes c p ts → HasGuardType g ts →
    IsTypedExpression ts u (code (kinds_in c) p g a (length ts))
expression_typed c p g a u ts formed typed h guard =
    let m = code (kinds_in c) p g a (length ts) in
    let k = code_typed (ts ++ m.locals) c p g a u formed typed (more_place_types ts m.locals c p h) (more_guard_type ts m.locals g guard) in
    let l : AreLocals (ts ++ m.locals) (length ts) (m.locals ++ []) = subst (λ (us : List BType). AreLocals (ts ++ m.locals) (length ts) us) (sym (append-nil m.locals)) (new_locals ts m.locals) in
    record { piece = record { keys = (code_keyed (kinds_in c) p g a (states_keyed c.program formed.typed)).keys (length ts); stmts = k.stmts (length ts) [] l }; value = k.value (length ts) [] l }

pub filling_typed : (c : Context) (p : Place) (g : Guard) (scale : t.BExpr) (a : e.Assertion) (from : ℕ) (ts : List BType) → IsFormed c.program → IsAssertion c a → HasPlaceTypes c p ts → HasGuardType g ts →
    HasType ts None scale base.Real → slice_get ts from ≡ Some (plain_type base.Snap) → IsTypedPiece ts (body_code (kinds_in c) p g scale a from (length ts))
filling_typed c p g scale a from ts formed typed h guard scaled there =
    let m = body_code (kinds_in c) p g scale a from (length ts) in
    let k = body_typed (ts ++ m.locals) c p g scale a from formed typed (more_place_types ts m.locals c p h) (more_guard_type ts m.locals g guard) (type_with_more ts m.locals scaled) (there_left ts m.locals from _ there) in
    record {
      keys = (body_keyed (kinds_in c) p g scale a from (states_keyed c.program formed.typed)).keys (length ts);
      stmts = k.stmts (length ts) [] (subst (λ (us : List BType). AreLocals (ts ++ m.locals) (length ts) us) (sym (append-nil m.locals)) (new_locals ts m.locals));
    }
