-- The code of producing and consuming an assertion is well-typed, and the maps that it declares have indices of key types.
use Rattle.std.specs.Bool.{⊤}
use Rattle.std.proofs.Common.{◌≡◌, ℕ, List, [], ◌++◌, Some, None, slice_get, length, sym, subst, append-nil}
use Rattle.lemmas.proofs.Lists.{there_left}
use Rattle.vb_base.specs.declared.places.Pos.{Pos}
use Rattle.vb_value.specs.Layout.{Layout}
use Rattle.vb_value.specs.declared.values.Ty.TheVariants as ty
use Rattle.viper_core.specs.Expr as e
use Rattle.viper_core.specs.Formed.{IsFormed}
use Rattle.viper_core.specs.Typing as y
use Rattle.viper_core.specs.Typing.{Context, IsAssertion}
use Rattle.viper_core.proofs.FormedLaws.{predicate_of_typed}
use Rattle.viper_meaning.proofs.TypedLaws.{keys_at}
use Rattle.boogie_tree.specs.Expr as t
use Rattle.boogie_tree.specs.Program.{BType}
use Rattle.boogie_tree.specs.declared.exprs.BBase.TheVariants as base
use Rattle.boogie_tree.specs.Values.{plain_type}
use Rattle.boogie_meaning.specs.Programs.{HaveKeys}
use Rattle.boogie_meaning.specs.Types as b
use Rattle.boogie_meaning.specs.Types.{HasType, IsTyped}
use Rattle.enc_expr.specs.Place.{Maps, Place}
use Rattle.moves.specs.Maps.{state_types}
use Rattle.enc_expr.specs.Kinds.{Kinds, kinds_in}
use Rattle.enc_expr.specs.Code.{Emitting, join, Guard}
use Rattle.enc_expr.specs.Pieces.{Operand}
use Rattle.enc_expr.specs.Coupling.{AreLocals}
use Rattle.enc_expr.specs.Typed.{HasStateTypes, HasPlaceTypes, HasGuardType, IsOperand, IsTypedPiece}
use Rattle.enc_expr.proofs.KeyedCode.{IsKeyed, states_keyed, code_keyed, gives_keyed, then_keyed, plain_keyed, puts_keyed, guards_keyed, atomic_keyed, located_keyed, choose_keyed, codes_keyed, amount_keyed}
use Rattle.enc_expr.proofs.TypedPieces.{IsTypedCode, Any, join_typed, one_typed, then_typed, declares_typed, puts_typed, guards_typed, atomic_typed}
use Rattle.enc_expr.proofs.TypedForms.{own_type, choose_typed}
use Rattle.enc_expr.proofs.TypedCode.{code_typed, codes_typed, amount_typed, new_locals, more_place_types, more_guard_type}
use Rattle.enc_expr.proofs.TypedMore.{type_with_more}
use Rattle.enc_assert.specs.Target.{AccessTarget, Field, Instance, Aimed}
use Rattle.enc_assert.specs.Encoding.{field_target, instance_target, produce_code, consume_code}
use Rattle.enc_assert.specs.Typed.{HasHeldTypes}
use Rattle.enc_assert.proofs.TypedTargets.{IsTypedTarget, IsTypedAim, field_typed, instance_typed, gives_code_typed, gives_some_typed, takes_code_typed, takes_some_typed}
use Rattle.enc_assert.proofs.WalkLaws.{Blocks, amount_walk, walk, produce_blocks, consume_blocks, produce_walks, consume_walks}

-- ---- types

module _ (ts : List BType) (layout : Layout) where
  pub record AreTypedBlocks (w : Blocks) : Type 0 where
    pub fact : (at : Pos) (x : t.BExpr) → HasType ts None x base.Bool → IsTyped ts (w.fact at x)
    pub written : (at : Pos) (x : AccessTarget) (q : t.BExpr) → IsTypedTarget ts layout x → HasType ts None q base.Real → IsTyped ts (w.written at x q)
    pub chosen : (at : Pos) (x : AccessTarget) (i : ℕ) → IsTypedTarget ts layout x → slice_get ts i ≡ Some (plain_type base.Real) → IsTyped ts (w.chosen at x i)

  pub produce_blocks_typed : (p : Place) (scale : t.BExpr) → HasHeldTypes layout p.now ts → HasType ts None scale base.Real → AreTypedBlocks (produce_blocks p scale)
  produce_blocks_typed p scale h k = record {
    fact = λ at x i. one_typed ts (b.assume_ i);
    written = λ at x q i l. gives_code_typed ts layout p scale at x q h k i l;
    chosen = λ at x w i l. gives_some_typed ts layout p scale x w h k i l;
  }

  pub consume_blocks_typed : (p : Place) (left : Maps) (scale : t.BExpr) → HasHeldTypes layout left ts → HasType ts None scale base.Real → AreTypedBlocks (consume_blocks p left scale)
  consume_blocks_typed p left scale h k = record {
    fact = λ at x i. one_typed ts (b.assert_ i);
    written = λ at x q i l. takes_code_typed ts layout p left scale at x q h k i l;
    chosen = λ at x w i l. takes_some_typed ts layout p left at x w h i l;
  }

  amount_walk_typed : (w : Blocks) (g : Guard) (at : Pos) (m : e.Amt) (y : Operand) (x : Aimed) → AreTypedBlocks w → HasGuardType g ts → IsOperand ts ty.Perm y → IsTypedAim ts layout x → IsTypedCode ts Any (amount_walk w g at m y x)
  amount_walk_typed w g at (e.Is a) y x blocks guard h i = then_typed ts (atomic_typed ts y (own_type ts h)) (λ q k. let real : HasType ts None q.expr base.Real = subst (HasType ts None q.expr) h.base k.typed in
      puts_typed ts g (join x.sets (join q.sets (w.written at x.target q.expr))) guard (join_typed ts i.sets (join_typed ts k.sets (blocks.written at x.target q.expr i.target real))))
  amount_walk_typed w g at e.Wildcard y x blocks guard h i = then_typed ts (declares_typed ts (plain_type base.Real)) (λ j k.
      puts_typed ts g (join x.sets (w.chosen at x.target j)) guard (join_typed ts i.sets (blocks.chosen at x.target j i.target k)))

module _ (ts : List BType) (c : Context) (p : Place) (w : Blocks) (formed : IsFormed c.program) (h : HasPlaceTypes c p ts) (blocks : AreTypedBlocks ts c.program.layout w) where
  pub walk_typed : (g : Guard) (a : e.Assertion) → IsAssertion c a → HasGuardType g ts → IsTypedCode ts Any (walk (kinds_in c) p w g a)
  walk_typed g (e.Fact a at) (y.fact i) guard = then_typed ts (code_typed ts c p g a ty.Bool formed i h guard) (λ x k. puts_typed ts g (w.fact at x.expr) guard (blocks.fact at x.expr k.typed))
  walk_typed g (e.Acc a f m at) (y.access {u = u} i there j) guard = then_typed ts (code_typed ts c p g a ty.Ref formed i h guard) (λ x k. then_typed ts (amount_typed ts c p g m formed j h guard) (λ z l.
      then_typed ts (field_typed ts c.program.layout f u x there k) (λ o n. amount_walk_typed ts c.program.layout w g at m z o blocks guard l n)))
  walk_typed g (e.Inst q args m at) (y.instance d there i j) guard = then_typed ts (codes_typed ts c p g args d.params formed i h guard) (λ xs k. then_typed ts (amount_typed ts c p g m formed j h guard) (λ z l.
      then_typed ts (instance_typed ts c.program.layout q d.params xs (keys_at c formed q d there) (predicate_of_typed c.program formed.typed q d there).params k) (λ o n. amount_walk_typed ts c.program.layout w g at m z o blocks guard l n)))
  walk_typed g (e.And a d) (y.both i j) guard = then_typed ts (walk_typed g a i guard) (λ u any. walk_typed g d j guard)
  walk_typed g (e.Implies a d) (y.implied i j) guard = then_typed ts (code_typed ts c p g a ty.Bool formed i h guard) (λ x k. then_typed ts (guards_typed ts g x.expr guard k.typed) (λ m l. walk_typed (Some m) d j l))
  walk_typed g (e.ChooseAssertion a d f) (y.chosen i j k) guard = then_typed ts (code_typed ts c p g a ty.Bool formed i h guard) (λ x l.
      choose_typed ts g x.expr (λ m. walk (kinds_in c) p w m d) (λ m. walk (kinds_in c) p w m f) (λ m u v. tt) guard l.typed (λ m n. walk_typed m d j n) (λ m n. walk_typed m f k n) (λ m u v n q r. tt))

-- ---- the types of indices

field_keyed : (f : ℕ) (x : Operand) → IsKeyed (field_target f x)
field_keyed f x = then_keyed (atomic_keyed x) (λ r. gives_keyed (record { target = Field f r.expr; sets = r.sets }))

instance_keyed : (q : ℕ) (xs : List Operand) → IsKeyed (instance_target q xs)
instance_keyed q xs = then_keyed (located_keyed xs) (λ l. gives_keyed (record { target = Instance q l.locals; sets = l.sets }))

amount_walk_keyed : (w : Blocks) (g : Guard) (at : Pos) (m : e.Amt) (y : Operand) (x : Aimed) → IsKeyed (amount_walk w g at m y x)
amount_walk_keyed w g at (e.Is a) y x = then_keyed (atomic_keyed y) (λ q. puts_keyed g (join x.sets (join q.sets (w.written at x.target q.expr))))
amount_walk_keyed w g at e.Wildcard y x = then_keyed (plain_keyed base.Real) (λ i. puts_keyed g (join x.sets (w.chosen at x.target i)))

pub walk_keyed : (k : Kinds) (p : Place) (w : Blocks) (g : Guard) (a : e.Assertion) → HaveKeys (state_types k.layout) → IsKeyed (walk k p w g a)
walk_keyed k p w g (e.Fact a at) h = then_keyed (code_keyed k p g a h) (λ x. puts_keyed g (w.fact at x.expr))
walk_keyed k p w g (e.Acc a f m at) h = then_keyed (code_keyed k p g a h) (λ x. then_keyed (amount_keyed k p g m h) (λ y. then_keyed (field_keyed f x) (λ o. amount_walk_keyed w g at m y o)))
walk_keyed k p w g (e.Inst q args m at) h = then_keyed (codes_keyed k p g args h) (λ xs. then_keyed (amount_keyed k p g m h) (λ y. then_keyed (instance_keyed q xs) (λ o. amount_walk_keyed w g at m y o)))
walk_keyed k p w g (e.And a d) h = then_keyed (walk_keyed k p w g a h) (λ u. walk_keyed k p w g d h)
walk_keyed k p w g (e.Implies a d) h = then_keyed (code_keyed k p g a h) (λ x. then_keyed (guards_keyed g x.expr) (λ m. walk_keyed k p w (Some m) d h))
walk_keyed k p w g (e.ChooseAssertion a d f) h = then_keyed (code_keyed k p g a h) (λ x.
    choose_keyed g x.expr (λ m. walk k p w m d) (λ m. walk k p w m f) (λ m u v. tt) (λ m. walk_keyed k p w m d h) (λ m. walk_keyed k p w m f h))

-- ---- behind the locals that there are

pub more_held_types : (ts us : List BType) (layout : Layout) (m : Maps) → HasHeldTypes layout m ts → HasHeldTypes layout m (ts ++ us)
more_held_types ts us layout m h = record { mask = λ f u there. there_left ts us _ _ (h.mask f u there); amount = λ q ks there. there_left ts us _ _ (h.amount q ks there) }

-- of a state whose other maps have their types too
pub held_types : (ts : List BType) (layout : Layout) (m : Maps) → HasStateTypes layout m ts → HasHeldTypes layout m ts
held_types ts layout m h = record { mask = h.mask; amount = h.amount }

-- what is well-typed among all locals is a piece behind those that there are
pub piece_typed : (ts : List BType) (m : Emitting ⊤) → IsKeyed m → IsTypedCode (ts ++ (m (length ts)).locals) Any m → IsTypedPiece ts (m (length ts))
piece_typed ts m keyed h = let us = (m (length ts)).locals in
    record { keys = keyed.keys (length ts); stmts = h.stmts (length ts) [] (subst (λ (ws : List BType). AreLocals (ts ++ us) (length ts) ws) (sym (append-nil us)) (new_locals ts us)) }

walk_piece : (c : Context) (p : Place) (w : Blocks) (g : Guard) (a : e.Assertion) (ts : List BType) → IsFormed c.program → IsAssertion c a → HasPlaceTypes c p ts → HasGuardType g ts →
    ((us : List BType) → AreTypedBlocks (ts ++ us) c.program.layout w) → IsTypedPiece ts (walk (kinds_in c) p w g a (length ts))
walk_piece c p w g a ts formed typed h guard blocks = let m = walk (kinds_in c) p w g a in let us = (m (length ts)).locals in
    piece_typed ts m (walk_keyed (kinds_in c) p w g a (states_keyed c.program formed.typed)) (walk_typed (ts ++ us) c p w formed (more_place_types ts us c p h) (blocks us) g a typed (more_guard_type ts us g guard))

-- ---- what is promised

pub produce_typed : (c : Context) (p : Place) (g : Guard) (scale : t.BExpr) (a : e.Assertion) (ts : List BType) → IsFormed c.program → IsAssertion c a → HasPlaceTypes c p ts → HasGuardType g ts →
    HasType ts None scale base.Real → IsTypedPiece ts (produce_code (kinds_in c) p g scale a (length ts))
produce_typed c p g scale a ts formed typed h guard scales = let now = held_types ts c.program.layout p.now h.now in
    subst (λ (m : Emitting ⊤). IsTypedPiece ts (m (length ts))) (sym (produce_walks (kinds_in c) p scale g a)) (walk_piece c p (produce_blocks p scale) g a ts formed typed h guard
    (λ us. produce_blocks_typed (ts ++ us) c.program.layout p scale (more_held_types ts us c.program.layout p.now now) (type_with_more ts us scales)))

pub consume_typed : (c : Context) (p : Place) (left : Maps) (g : Guard) (scale : t.BExpr) (a : e.Assertion) (ts : List BType) → IsFormed c.program → IsAssertion c a → HasPlaceTypes c p ts →
    HasHeldTypes c.program.layout left ts → HasGuardType g ts → HasType ts None scale base.Real → IsTypedPiece ts (consume_code (kinds_in c) p left g scale a (length ts))
consume_typed c p left g scale a ts formed typed h held guard scales =
    subst (λ (m : Emitting ⊤). IsTypedPiece ts (m (length ts))) (sym (consume_walks (kinds_in c) p scale left g a)) (walk_piece c p (consume_blocks p left scale) g a ts formed typed h guard
    (λ us. consume_blocks_typed (ts ++ us) c.program.layout p left scale (more_held_types ts us c.program.layout left held) (type_with_more ts us scales)))
