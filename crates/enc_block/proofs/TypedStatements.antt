-- The code of statements is well-typed, and the maps that it declares have indices of key types.
use Rattle.std.specs.Bool.{⊤}
use Rattle.std.specs.Prelude.{true, false}
use Rattle.std.proofs.Common.{◌≡◌, ◌<◌, ◌+◌, ◌++◌, ◌∙◌, ℕ, zero, suc, List, [], ◌∷◌, All, Some, None, length, map, take, slice_get, refl, sym, ap, subst, append_assoc, arith}
use Rattle.std.proofs.lemmas.List.Elements.{All-nil, All-cons, All-head, All-tail}
use Rattle.std.proofs.lemmas.Option.{get_or_from_slice_get}
use Rattle.enc_block.proofs.BlockLaws.{refs_typed}
use Rattle.vb_base.specs.declared.places.Pos.{Pos}
use Rattle.vb_value.specs.Layout.{Layout}
use Rattle.vb_value.specs.declared.values.Ty.{Ty}
use Rattle.vb_value.specs.declared.values.Ty.TheVariants as ty
use Rattle.viper_core.specs.Expr as e
use Rattle.viper_core.specs.Formed.{IsFormed, precondition_context, postcondition_context}
use Rattle.viper_core.specs.Part.{cut}
use Rattle.viper_core.specs.Program.{Method}
use Rattle.viper_core.specs.Scope.{Scope}
use Rattle.viper_core.specs.Stmt as v
use Rattle.viper_core.specs.Typing as y
use Rattle.viper_core.specs.Typing.{Context, MethodContext, inside, IsVariable, IsAssertion, Receive, AreTargets, IsStmt, AreStmts, params_of, returns_of}
use Rattle.viper_core.proofs.CutLaws.{preconditions_cut, postconditions_cut}
use Rattle.viper_core.proofs.TargetLaws.{targets_exist}
use Rattle.viper_meaning.proofs.StatementFitsLaws.{take_both}
use Rattle.boogie_tree.specs.Expr as t
use Rattle.boogie_tree.specs.Program.{BType}
use Rattle.boogie_tree.specs.Stmt as s
use Rattle.boogie_tree.specs.Values.{plain_type, is_key, AreKeys}
use Rattle.boogie_tree.specs.declared.exprs.BBase.{BBase}
use Rattle.boogie_tree.specs.declared.exprs.BBase.TheVariants as base
use Rattle.boogie_meaning.specs.Programs.{HaveKeys}
use Rattle.boogie_meaning.specs.Types as b
use Rattle.boogie_meaning.specs.Types.{HasType, IsTyped}
use Rattle.moves.specs.Maps.{heap_type, mask_type, amount_type, content_type, state_types}
use Rattle.moves.specs.Scalars.{variable_type}
use Rattle.enc_expr.specs.Place.{Maps, Place, number, with_now, HasSizes}
use Rattle.enc_expr.specs.Kinds.{Kinds, kinds_in, type_at}
use Rattle.enc_expr.specs.Code.{Emitting, join}
use Rattle.enc_expr.specs.Coupling.{AreLocals}
use Rattle.enc_expr.specs.Encoding.{copies, copy_state, maps_from}
use Rattle.enc_expr.specs.Pieces.{Operand, at_one, one, one_real}
use Rattle.enc_expr.specs.Typed.{HasStateTypes, HasPlaceTypes, AreOperands, none, more}
use Rattle.enc_expr.proofs.KeyedCode.{states_keyed}
use Rattle.enc_expr.proofs.TypedPieces.{IsTypedCode, Any, join_typed, one_typed, gives_typed, then_typed, declares_typed, declares_all_typed, puts_typed, atomic_typed, AreVariables, variable_at, own_types, copy_state_typed}
use Rattle.enc_expr.proofs.TypedForms.{own_type}
use Rattle.enc_expr.proofs.TypedCode.{code_typed, codes_typed}
use Rattle.enc_assert.specs.Encoding.{produce_code, consume_code, forget_code}
use Rattle.enc_assert.specs.Typed.{HasHeldTypes}
use Rattle.enc_assert.proofs.ForgetCode.{forget_code_typed}
use Rattle.enc_assert.proofs.TypedAssertions.{produce_blocks_typed, consume_blocks_typed, walk_typed, held_types}
use Rattle.enc_assert.proofs.WalkLaws.{produce_blocks, consume_blocks, produce_walks, consume_walks}
use Rattle.enc_fold.specs.Encoding.{fold_code, unfold_code}
use Rattle.enc_fold.specs.Saved.{copy_held, copying}
use Rattle.viper_meaning.proofs.FoldLaws.{body_found}
use Rattle.enc_fold.proofs.TypedFold.{saving_typed, fold_code_typed, unfold_code_typed}
use Rattle.enc_block.specs.Home.{Home, place}
use Rattle.enc_block.specs.Encoding.{produce_all_code, consume_all_code, exhale_code, assert_code, branching, stop, havoc_code, any_state_code, write_checks, write_code, unnamed_code, unheld_code, unstored_at, unstored_code, fresh_tests, created_field, created_code, new_code, fixed, called_code, call_code, guard_code, turn_code, after_code, loop_code, assign_code, with_body, with_method, stmt_code, block_code}
use Rattle.enc_block.specs.Typed.{HasHomeTypes}

-- ---- copies

module _ (ts : List BType) where
  -- maps of the same types, from number j on
  copies_typed : {X : Type 0} (f : X → BType) (us : List X) (xs ys : List ℕ) (j : ℕ) → length xs ≡ length us → ((i : ℕ) (u : X) → slice_get us i ≡ Some u → slice_get ts (number xs i) ≡ Some (f u)) →
      ((i l : ℕ) (u : X) → l ≡ i + j → slice_get us i ≡ Some u → slice_get ts (number ys l) ≡ Some (f u)) → IsTyped ts (copies xs ys j)
  copies_typed f [] [] ys j same h k = b.skip
  copies_typed f [] (x ∷ xs) ys j same h k = absurd (omega (arith, same))
  copies_typed f (u ∷ us) [] ys j same h k = absurd (omega (arith, same))
  copies_typed f (u ∷ us) (x ∷ xs) ys j same h k =
      b.first (b.assign (h 0 u refl) (b.whole (k 0 j u (omega arith) refl)))
      (copies_typed f us xs ys (j + 1) (omega (arith, same)) (λ i w there. h (suc i) w there) (λ i l w shift there. k (suc i) l w (omega (arith, shift)) there))

  each_copied : {X : Type 0} (f : X → BType) (us : List X) (xs ys : List ℕ) → length xs ≡ length us → ((i : ℕ) (u : X) → slice_get us i ≡ Some u → slice_get ts (number xs i) ≡ Some (f u)) →
      ((i : ℕ) (u : X) → slice_get us i ≡ Some u → slice_get ts (number ys i) ≡ Some (f u)) → IsTyped ts (copies xs ys 0)
  each_copied f us xs ys same h k = copies_typed f us xs ys 0 same h (λ i l u shift there. k l u (ap (slice_get us) (omega (arith, shift)) ∙ there))

  pub held_copied : (layout : Layout) (m l : Maps) → HasSizes layout m → HasHeldTypes layout m ts → HasHeldTypes layout l ts → IsTyped ts (copy_held m l)
  held_copied layout m l sizes h k = join_typed ts (each_copied mask_type layout.fields m.mask l.mask sizes.mask h.mask k.mask) (each_copied amount_type layout.keys m.amount l.amount sizes.amount h.amount k.amount)

  pub state_copied : (layout : Layout) (m l : Maps) → HasSizes layout m → HasStateTypes layout m ts → HasStateTypes layout l ts → IsTyped ts (copy_state m l)
  state_copied layout m l sizes h k =
      join_typed ts (each_copied heap_type layout.fields m.heap l.heap sizes.heap h.heap k.heap) (join_typed ts (each_copied mask_type layout.fields m.mask l.mask sizes.mask h.mask k.mask)
      (join_typed ts (each_copied amount_type layout.keys m.amount l.amount sizes.amount h.amount k.amount) (each_copied content_type layout.keys m.content l.content sizes.content h.content k.content)))

  copying_typed : (layout : Layout) (m : Maps) → HasStateTypes layout m ts → IsTypedCode ts (λ (before : Maps). HasStateTypes layout before ts) (copying layout m)
  copying_typed layout m h = then_typed ts (declares_all_typed ts (state_types layout)) (λ n l. let own = own_types ts layout n l in
      then_typed ts (puts_typed ts None (copy_state (maps_from layout n) m) tt (copy_state_typed ts layout n m own h)) (λ u any. gives_typed ts own))

  -- ---- arguments

  fixed_typed : {us : List Ty} {xs : List Operand} → AreOperands ts us xs → IsTypedCode ts (AreVariables ts us) (fixed xs)
  fixed_typed none = gives_typed ts tt
  fixed_typed (more {u = u} {us = us} {x = x} {xs = xs} h hs) =
      then_typed ts (declares_typed ts (plain_type x.base)) (λ i l. then_typed ts (puts_typed ts None (one (s.Assign i x.expr)) tt (one_typed ts (b.assign l (b.value (own_type ts h))))) (λ n any.
      then_typed ts (fixed_typed hs) (λ is k.
      let all : AreVariables ts (u ∷ us) (i ∷ is) = (l ∙ ap (λ (w : BBase). Some (plain_type w)) h.base, k) in gives_typed ts {x = i ∷ is} all)))

  variables_append : (us ws : List Ty) (is js : List ℕ) → AreVariables ts us is → AreVariables ts ws js → AreVariables ts (us ++ ws) (is ++ js)
  variables_append [] ws [] js h k = k
  variables_append (u ∷ us) ws (i ∷ is) js h k = (h.0, variables_append us ws is js h.1 k)
  variables_append [] ws (i ∷ is) js h k = elim h [ ]
  variables_append (u ∷ us) ws [] js h k = elim h [ ]

  -- ---- blocks

  pub branching_typed : (kind : s.BStmts → s.BStmts → s.BStmt) (m o : Emitting ⊤) → ((xs ys : s.BStmts) → IsTyped ts xs → IsTyped ts ys → b.IsTypedStmt ts (kind xs ys)) → IsTypedCode ts Any m → IsTypedCode ts Any o →
      IsTypedCode ts Any (branching kind m o)
  branching_typed kind m o both first second = record {
    stmts = λ n rest l. let whole = shared n rest l in one_typed ts (both (m n).stmts (o (m n).next).stmts (first.stmts n _ whole) (second.stmts (m n).next rest (first.next n _ whole)));
    value = λ n rest l. tt;
    next = λ n rest l. second.next (m n).next rest (first.next n _ (shared n rest l));
  }
    where
      shared : (n : ℕ) (rest : List BType) → AreLocals ts n (((m n).locals ++ (o (m n).next).locals) ++ rest) → AreLocals ts n ((m n).locals ++ ((o (m n).next).locals ++ rest))
      shared n rest l = subst (AreLocals ts n) (append_assoc (m n).locals (o (m n).next).locals rest) l

  at_one_typed : (m : ℕ) (w : BBase) (x : t.BExpr) → slice_get ts m ≡ Some (record { keys = base.Ref ∷ []; base = w }) → HasType ts None x base.Ref → HasType ts None (at_one m x) w
  at_one_typed m w x there ref = b.at there (b.more refl ref b.none)

  pub stopped : IsTypedCode ts Any stop
  stopped = puts_typed ts None (one (s.Assume (t.Bool false))) tt (one_typed ts (b.assume_ b.bool))

-- ---- clauses at a place

module _ (ts : List BType) (c : Context) (p : Place) (formed : IsFormed c.program) (at : HasPlaceTypes c p ts) where
  pub produced : (a : e.Assertion) → IsAssertion c a → IsTypedCode ts Any (produce_code (kinds_in c) p None one_real a)
  produced a i =
      subst (IsTypedCode ts Any) (sym (produce_walks (kinds_in c) p one_real None a))
      (walk_typed ts c p (produce_blocks p one_real) formed at (produce_blocks_typed ts c.program.layout p one_real (held_types ts c.program.layout p.now at.now) b.real) None a i tt)

  pub all_produced : (xs : List e.Assertion) → All (IsAssertion c) xs → IsTypedCode ts Any (produce_all_code (kinds_in c) p xs)
  all_produced [] h = gives_typed ts tt
  all_produced (a ∷ rest) h = then_typed ts (produced a (All-head (IsAssertion c) a rest h)) (λ u any. all_produced rest (All-tail (IsAssertion c) a rest h))

  module _ (left : Maps) (held : HasHeldTypes c.program.layout left ts) where
    consumed : (a : e.Assertion) → IsAssertion c a → IsTypedCode ts Any (consume_code (kinds_in c) p left None one_real a)
    consumed a i =
        subst (IsTypedCode ts Any) (sym (consume_walks (kinds_in c) p one_real left None a))
        (walk_typed ts c p (consume_blocks p left one_real) formed at (consume_blocks_typed ts c.program.layout p left one_real held b.real) None a i tt)

    all_consumed : (xs : List e.Assertion) → All (IsAssertion c) xs → IsTypedCode ts Any (consume_all_code (kinds_in c) p left xs)
    all_consumed [] h = gives_typed ts tt
    all_consumed (a ∷ rest) h = then_typed ts (consumed a (All-head (IsAssertion c) a rest h)) (λ u any. all_consumed rest (All-tail (IsAssertion c) a rest h))

-- ---- the tests of a new object

pub reference : AreKeys (base.Ref ∷ [])
reference = All-cons (λ w. is_key w ≡ true) base.Ref [] refl (All-nil (λ w. is_key w ≡ true))

module _ (ts : List BType) (r : ℕ) (there : slice_get ts r ≡ Some (plain_type base.Ref)) (m : Maps) where
  unheld_typed : (us : List Ty) (i : ℕ) → ((j l : ℕ) (u : Ty) → l ≡ j + i → slice_get us j ≡ Some u → slice_get ts (number m.mask l) ≡ Some (mask_type u)) → IsTyped ts (unheld_code m r us i)
  unheld_typed [] i h = b.skip
  unheld_typed (u ∷ us) i h =
      b.first (b.assume_ (b.binary refl (at_one_typed ts (number m.mask i) base.Real (t.Var r) (h 0 i u (omega arith) refl) (b.var there)) b.real))
      (unheld_typed us (i + 1) (λ j l w shift is. h (suc j) l w (omega (arith, shift)) is))

  at_typed : (u : Ty) (i : ℕ) → slice_get ts (number m.mask i) ≡ Some (mask_type u) → slice_get ts (number m.heap i) ≡ Some (heap_type u) → IsTyped ts (unstored_at u m r i)
  at_typed ty.Ref i mask heap = one_typed ts (b.assume_ (b.forall_ reference (b.binary refl (b.binary refl (b.at_bound mask) b.real) (b.binary refl (b.at_bound heap) (b.var there)))))
  at_typed ty.Int i mask heap = b.skip
  at_typed ty.Bool i mask heap = b.skip
  at_typed ty.Perm i mask heap = b.skip

  unstored_typed : (us : List Ty) (i : ℕ) →
      ((j l : ℕ) (u : Ty) → l ≡ j + i → slice_get us j ≡ Some u → (slice_get ts (number m.mask l) ≡ Some (mask_type u)) × (slice_get ts (number m.heap l) ≡ Some (heap_type u))) → IsTyped ts (unstored_code m r us i)
  unstored_typed [] i h = b.skip
  unstored_typed (u ∷ us) i h =
      join_typed ts (at_typed u i (h 0 i u (omega arith) refl).0 (h 0 i u (omega arith) refl).1) (unstored_typed us (i + 1) (λ j l w shift is. h (suc j) l w (omega (arith, shift)) is))

-- some field has this number
field_at : (us : List Ty) (f : ℕ) → f < length us → (u : Ty) × (slice_get us f ≡ Some u)
field_at [] f low = absurd (omega (arith, low))
field_at (u ∷ us) zero low = (u, refl)
field_at (u ∷ us) (suc f) low = field_at us f (omega (arith, low))

-- ---- at a home

module _ (ts : List BType) (c : Context) (h : Home) (formed : IsFormed c.program) (types : HasHomeTypes c.vars c.program.layout h ts) where
  abbrev layout : Layout
  layout = c.program.layout

  abbrev k : Kinds
  k = kinds_in c

  keys : HaveKeys (state_types layout)
  keys = states_keyed c.program formed.typed

  pub at_place : (at : Pos) → HasPlaceTypes c (place h at) ts
  at_place at = record { vars = λ x u visible there. types.vars x u there; now = types.now; old = types.old }

  now_held : HasHeldTypes layout h.now ts
  now_held = held_types ts layout h.now types.now

  forgotten : IsTypedCode ts Any (forget_code layout h.now)
  forgotten = forget_code_typed ts layout h.now keys types.now

  exhaled : (at : Pos) (xs : List e.Assertion) → All (IsAssertion c) xs → IsTypedCode ts Any (exhale_code k h at xs)
  exhaled at [] all = forgotten
  exhaled at (a ∷ rest) all =
      then_typed ts (saving_typed ts layout h.now types.now) (λ start own.
      then_typed ts (all_consumed ts c (with_now start (place h at)) formed (record { vars = λ x u visible there. types.vars x u there; now = own; old = types.old }) h.now now_held (a ∷ rest) all) (λ u any. forgotten))

  pub asserted : (at : Pos) (xs : List e.Assertion) → All (IsAssertion c) xs → IsTypedCode ts Any (assert_code k h at xs)
  asserted at [] all = gives_typed ts tt
  asserted at (a ∷ rest) all =
      then_typed ts (saving_typed ts layout h.now types.now) (λ left own. all_consumed ts c (place h at) formed (at_place at) left (held_types ts layout left own) (a ∷ rest) all)

  pub emptied : IsTypedCode ts Any (any_state_code layout h)
  emptied = then_typed ts (puts_typed ts None (copy_held h.now h.nothing) tt (held_copied ts layout h.now h.nothing types.sizes now_held types.nothing)) (λ u any. forgotten)

  pub given : (at : Pos) (xs : List e.Assertion) → All (IsAssertion c) xs → IsTypedCode ts Any (produce_all_code k (place h at) xs)
  given at xs all = all_produced ts c (place h at) formed (at_place at) xs all

  written : (at : Pos) (a : e.Expr) (f : ℕ) (name : Pos) (d : e.Expr) (u : Ty) → y.HasType c a ty.Ref → slice_get layout.fields f ≡ Some u → y.HasType c d u → IsTypedCode ts Any (write_code k (place h at) a f name d)
  written at a f name d u i there j =
      then_typed ts (code_typed ts c (place h at) None a ty.Ref formed i (at_place at) tt) (λ x xi. then_typed ts (code_typed ts c (place h at) None d u formed j (at_place at) tt) (λ z zi.
      then_typed ts (atomic_typed ts x (own_type ts xi)) (λ r ri. let ref : HasType ts None r.expr base.Ref = subst (HasType ts None r.expr) xi.base ri.typed in
      puts_typed ts None (join r.sets (join (write_checks (place h at) f name r.expr) (one (s.Put (number h.now.heap f) (t.more r.expr t.none) z.expr)))) tt (join_typed ts ri.sets
      (join_typed ts (b.first (b.assert_ (b.binary refl ref b.null)) (one_typed ts (b.assert_ (b.binary refl (at_one_typed ts (number h.now.mask f) base.Real r.expr (types.now.mask f u there) ref) b.real))))
      (one_typed ts (b.put (types.now.heap f u there) (b.more refl ref b.none) zi.typed)))))))

  -- ---- new objects

  unnamed_typed : (r : ℕ) (refs : List ℕ) → slice_get ts r ≡ Some (plain_type base.Ref) → All (λ x. slice_get c.vars x ≡ Some ty.Ref) refs → IsTyped ts (unnamed_code h r refs)
  unnamed_typed r [] there all = b.skip
  unnamed_typed r (x ∷ xs) there all =
      b.first (b.assume_ (b.binary refl (b.var there) (b.var (types.vars x ty.Ref (All-head (λ x. slice_get c.vars x ≡ Some ty.Ref) x xs all)))))
      (unnamed_typed r xs there (All-tail (λ x. slice_get c.vars x ≡ Some ty.Ref) x xs all))

  fresh_typed : (r : ℕ) (refs : List ℕ) → slice_get ts r ≡ Some (plain_type base.Ref) → All (λ x. slice_get c.vars x ≡ Some ty.Ref) refs → IsTyped ts (fresh_tests layout h r refs)
  fresh_typed r refs there all =
      b.first (b.assume_ (b.binary refl (b.var there) b.null)) (join_typed ts (unnamed_typed r refs there all)
      (join_typed ts (unheld_typed ts r there h.now layout.fields 0 (λ j l u shift is. types.now.mask l u (ap (slice_get layout.fields) (omega (arith, shift)) ∙ is)))
      (unstored_typed ts r there h.now layout.fields 0 (λ j l u shift is. let at_l : slice_get layout.fields l ≡ Some u = ap (slice_get layout.fields) (omega (arith, shift)) ∙ is in (types.now.mask l u at_l, types.now.heap l u at_l)))))

  created_typed : (r : ℕ) (fs : List ℕ) → slice_get ts r ≡ Some (plain_type base.Ref) → All (λ f. f < length c.program.fields) fs → IsTypedCode ts Any (created_code layout h r fs)
  created_typed r [] there all = gives_typed ts tt
  created_typed r (f ∷ fs) there all =
      let low : f < length layout.fields = omega (arith, All-head (λ f. f < length c.program.fields) f fs all, formed.typed.layout.fields) in
      let u = (field_at layout.fields f low).0 in let is_u : slice_get layout.fields f ≡ Some u = (field_at layout.fields f low).1 in
      let w = type_at layout.fields f in let is_w : slice_get layout.fields f ≡ Some w = is_u ∙ ap (λ (z : Ty). Some z) (sym (get_or_from_slice_get layout.fields f u ty.Int is_u)) in
      then_typed ts (declares_typed ts (variable_type w)) (λ value at_value. then_typed ts (puts_typed ts None (created_field h r f value) tt (b.first (b.havoc at_value)
      (b.first (b.put (types.now.heap f w is_w) (b.more refl (b.var there) b.none) (b.var at_value)) (one_typed ts (b.put (types.now.mask f w is_w) (b.more refl (b.var there) b.none) b.real))))) (λ n any.
      created_typed r fs there (All-tail (λ f. f < length c.program.fields) f fs all)))

  new_typed : (x : ℕ) (fields refs : List ℕ) → slice_get c.vars x ≡ Some ty.Ref → All (λ f. f < length c.program.fields) fields → All (λ x. slice_get c.vars x ≡ Some ty.Ref) refs → IsTypedCode ts Any (new_code k h x fields refs)
  new_typed x fields refs at_x exist all =
      then_typed ts (declares_typed ts (plain_type base.Ref)) (λ r there. then_typed ts (puts_typed ts None (s.first (s.Havoc r) (fresh_tests layout h r refs)) tt (b.first (b.havoc there) (fresh_typed r refs there all))) (λ u any.
      then_typed ts (created_typed r fields there exist) (λ u any. puts_typed ts None (one (s.Assign (number h.vars x) (t.Var r))) tt (one_typed ts (b.assign (types.vars x ty.Ref at_x) (b.whole there))))))

  -- ---- variables

  assigned : (at : Pos) (x : ℕ) (a : e.Expr) (u : Ty) → slice_get c.vars x ≡ Some u → y.HasType c a u → IsTypedCode ts Any (assign_code k h at x a)
  assigned at x a u there i =
      then_typed ts (code_typed ts c (place h at) None a u formed i (at_place at) tt) (λ z zi. puts_typed ts None (one (s.Assign (number h.vars x) z.expr)) tt (one_typed ts (b.assign (types.vars x u there) (b.value zi.typed))))

  havoc_typed : (xs : List ℕ) → All (λ x. (u : Ty) × (slice_get c.vars x ≡ Some u)) xs → IsTyped ts (havoc_code h xs)
  havoc_typed [] all = b.skip
  havoc_typed (x ∷ xs) all =
      let first = All-head (λ x. (u : Ty) × (slice_get c.vars x ≡ Some u)) x xs all in
      b.first (b.havoc (types.vars x first.0 first.1)) (havoc_typed xs (All-tail (λ x. (u : Ty) × (slice_get c.vars x ≡ Some u)) x xs all))

  -- ---- loops

  guarded : (at : Pos) (guard : e.Expr) (side : t.BExpr → t.BExpr) → y.HasType c guard ty.Bool → ((x : t.BExpr) → HasType ts None x base.Bool → HasType ts None (side x) base.Bool) → IsTypedCode ts Any (guard_code k h at guard side)
  guarded at guard side i sided =
      then_typed ts (code_typed ts c (place h at) None guard ty.Bool formed i (at_place at) tt) (λ x xi. puts_typed ts None (one (s.Assume (side x.expr))) tt (one_typed ts (b.assume_ (sided x.expr xi.typed))))

  loop_typed : (at : Pos) (guard : e.Expr) (invariants : List e.Assertion) (body : Emitting ⊤) (turn : Pos) (targets : List ℕ) → y.HasType c guard ty.Bool → All (IsAssertion c) invariants → IsTypedCode ts Any body →
      All (λ x. (u : Ty) × (slice_get c.vars x ≡ Some u)) targets → IsTypedCode ts Any (loop_code k h at guard invariants body turn targets)
  loop_typed at guard invariants body turn targets i all inner exist =
      then_typed ts (exhaled at invariants all) (λ u any. then_typed ts (puts_typed ts None (havoc_code h targets) tt (havoc_typed targets exist)) (λ u any.
      branching_typed ts s.Either (turn_code k h at guard invariants body turn) (after_code k h at guard invariants) (λ xs ys l m. b.either l m)
      (then_typed ts emptied (λ u any. then_typed ts (given at invariants all) (λ u any. then_typed ts (guarded at guard (λ x. x) i (λ x l. l)) (λ u any. then_typed ts inner (λ u any. then_typed ts (asserted turn invariants all) (λ u any. stopped ts))))))
      (then_typed ts (given at invariants all) (λ u any. guarded at guard t.Not i (λ x l. b.not_ l)))))

  -- ---- calls

  module _ (at : Pos) (targets : List ℕ) (n : ℕ) (callee : Method) (exists : slice_get c.program.methods n ≡ Some callee) (results : AreVariables ts (returns_of callee) (map (number h.vars) targets))
      (exist : All (λ x. (u : Ty) × (slice_get c.vars x ≡ Some u)) targets) where
    called_typed : (args : List ℕ) (before : Maps) → AreVariables ts (params_of callee) args → HasStateTypes layout before ts → IsTypedCode ts Any (called_code layout h at targets callee args before)
    called_typed args before vars copied =
        let all : AreVariables ts (take (callee.params + callee.returns) callee.vars) (args ++ map (number h.vars) targets) =
        subst (λ us. AreVariables ts us (args ++ map (number h.vars) targets)) (take_both callee.params callee.returns callee.vars) (variables_append ts (params_of callee) (returns_of callee) args (map (number h.vars) targets) vars results) in
        then_typed ts (all_consumed ts (cut (precondition_context c.program callee) callee.params) (record { vars = args; now = before; old = h.old; at = at }) formed
        (record { vars = λ x u visible there. variable_at ts (params_of callee) args x u vars there; now = copied; old = types.old }) h.now now_held callee.preconditions (λ i a within. (preconditions_cut c.program formed n callee exists i a within).typed)) (λ u any.
        then_typed ts forgotten (λ u any. then_typed ts (puts_typed ts None (havoc_code h targets) tt (havoc_typed targets exist)) (λ u any.
        all_produced ts (cut (postcondition_context c.program callee) (callee.params + callee.returns)) (record { vars = args ++ map (number h.vars) targets; now = h.now; old = before; at = at }) formed
        (record { vars = λ x u visible there. variable_at ts (take (callee.params + callee.returns) callee.vars) (args ++ map (number h.vars) targets) x u all there; now = types.now; old = copied }) callee.postconditions
        (λ i a within. (postconditions_cut c.program formed n callee exists i a within).typed))))

    call_typed : (args : e.Exprs) → y.HaveTypes c args (params_of callee) → IsTypedCode ts Any (call_code k h at targets callee args)
    call_typed args i =
        then_typed ts (codes_typed ts c (place h at) None args (params_of callee) formed i (at_place at) tt) (λ xs xi. then_typed ts (fixed_typed ts xi) (λ fixed vars.
        then_typed ts (copying_typed ts layout h.now types.now) (λ before copied. called_typed fixed before vars copied)))

-- ---- statements

module _ (ts : List BType) (m : MethodContext) (h : Home) (formed : IsFormed m.program) (types : HasHomeTypes m.vars m.program.layout h ts) where
  abbrev kinds : Kinds
  kinds = record { vars = m.vars; layout = m.program.layout }

  targets_typed : {sc : Scope} {xs : List ℕ} {us : List Ty} → AreTargets m sc xs us → AreVariables ts us (map (number h.vars) xs) × All (IsVariable m) xs
  targets_typed y.nothing = (tt, All-nil (IsVariable m))
  targets_typed (y.also {x = x} {xs = xs} {u = u} target rest) = ((types.vars x u target.typed, (targets_typed rest).0), All-cons (IsVariable m) x xs (u, target.typed) (targets_typed rest).1)

  received_typed : {sc : Scope} {xs : List ℕ} {us : List Ty} → Receive m sc xs us → AreVariables ts us (map (number h.vars) xs) × All (IsVariable m) xs
  received_typed (y.assigned targets differ) = targets_typed targets
  received_typed (y.declared {x = x} {u = u} fresh there) = ((types.vars x u there, tt), All-cons (IsVariable m) x [] (u, there) (All-nil (IsVariable m)))

  one_received : {sc : Scope} (x : ℕ) → Receive m sc (x ∷ []) (ty.Ref ∷ []) → slice_get m.vars x ≡ Some ty.Ref
  one_received x (y.assigned (y.also target rest) differ) = target.typed
  one_received x (y.declared fresh there) = there

  mutual
    pub stmt_typed : {sc : Scope} (a : v.Stmt) → IsStmt m sc a → IsTypedCode ts Any (stmt_code m.program kinds h a)
    stmt_typed (v.Var at x None) (y.declares {u = u} fresh there) = puts_typed ts None (one (s.Havoc (number h.vars x))) tt (one_typed ts (b.havoc (types.vars x u there)))
    stmt_typed {sc} (v.Var at x (Some a)) (y.initial {u = u} fresh there i) = assigned ts (inside m sc) h formed types at x a u there i
    stmt_typed {sc} (v.Assign at x a) (y.assigns {u = u} target i) = assigned ts (inside m sc) h formed types at x a u target.typed i
    stmt_typed {sc} (v.Write at a f name d) (y.writes {u = u} i there j) = written ts (inside m sc) h formed types at a f name d u i there j
    stmt_typed {sc} (v.New at x fields refs) (y.creates receive are same) =
        new_typed ts (inside m sc) h formed types x fields refs (one_received x receive) are.exist (subst (All (λ x. slice_get m.vars x ≡ Some ty.Ref)) (sym same) (refs_typed m.vars sc.visible))
    stmt_typed {sc} (v.Call at xs n args) (y.calls callee exists i receive) =
        let results = received_typed receive in
        subst (λ o. IsTypedCode ts Any (with_method o (λ callee. call_code kinds h at xs callee args))) (sym exists) (call_typed ts (inside m sc) h formed types at xs n callee exists results.0 results.1 args i)
    stmt_typed {sc} (v.Inhale at a) (y.inhales i) = produced ts (inside m sc) (place h at) formed (at_place ts (inside m sc) h formed types at) a i
    stmt_typed {sc} (v.Exhale at a) (y.exhales i) = exhaled ts (inside m sc) h formed types at (a ∷ []) (All-cons (IsAssertion (inside m sc)) a [] i (All-nil (IsAssertion (inside m sc))))
    stmt_typed {sc} (v.Assert at a) (y.asserts i) = asserted ts (inside m sc) h formed types at (a ∷ []) (All-cons (IsAssertion (inside m sc)) a [] i (All-nil (IsAssertion (inside m sc))))
    stmt_typed {sc} (v.Fold f) (y.folds i) =
        subst (λ o. IsTypedCode ts Any (with_body o (fold_code kinds (place h f.at) f))) (sym (body_found (inside m sc) f i)) (fold_code_typed ts (inside m sc) (place h f.at) formed f i (at_place ts (inside m sc) h formed types f.at))
    stmt_typed {sc} (v.Unfold f) (y.unfolds i) =
        subst (λ o. IsTypedCode ts Any (with_body o (unfold_code kinds (place h f.at) f))) (sym (body_found (inside m sc) f i)) (unfold_code_typed ts (inside m sc) (place h f.at) formed f i (at_place ts (inside m sc) h formed types f.at))
    stmt_typed {sc} (v.If at a first second) (y.branches i js ks) =
        then_typed ts (code_typed ts (inside m sc) (place h at) None a ty.Bool formed i (at_place ts (inside m sc) h formed types at) tt) (λ x xi.
        branching_typed ts (s.If x.expr) (block_code m.program kinds h first) (block_code m.program kinds h second) (λ xs ys l o. b.if_ xi.typed l o) (block_typed first js) (block_typed second ks))
    stmt_typed {sc} (v.While (v.loop at guard invariants body turn targets)) (y.loops i all js same) =
        loop_typed ts (inside m sc) h formed types at guard invariants (block_code m.program kinds h body) turn targets i all (block_typed body js) (targets_exist js same)

    pub block_typed : {sc : Scope} (xs : v.Stmts) → AreStmts m sc xs → IsTypedCode ts Any (block_code m.program kinds h xs)
    block_typed v.skip y.ends = gives_typed ts tt
    block_typed (v.next a rest) (y.goes_on i js) = then_typed ts (stmt_typed a i) (λ u any. block_typed rest js)
