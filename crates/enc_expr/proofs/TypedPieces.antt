-- Each way of writing code writes what is well-typed.
use Rattle.std.proofs.Common.{◌≡◌, ◌≢◌, ◌+◌, ℕ, zero, suc, Bool, true, false, List, [], ◌∷◌, ◌++◌, Some, None, length, slice_get, option_map, map, All, refl, ap, ◌∙◌, subst, append_assoc, length-append, arith, if◌then◌else◌}
use Rattle.std.proofs.lemmas.List.{length-map}
use Rattle.std.proofs.lemmas.List.Elements.{All-head, All-tail}
use Rattle.std.specs.Prelude.{⊤}
use Rattle.std.specs.List.{range_with_len}
use Rattle.vb_value.specs.Layout.{Layout}
use Rattle.vb_value.specs.declared.values.Ty.{Ty}
use Rattle.vb_value.specs.declared.values.Ty.TheVariants as ty
use Rattle.boogie_tree.specs.Expr as t
use Rattle.boogie_tree.specs.Stmt as s
use Rattle.boogie_tree.specs.Stmt.{BStmts}
use Rattle.boogie_tree.specs.Program.{BType}
use Rattle.boogie_tree.specs.declared.exprs.BBase.{BBase}
use Rattle.boogie_tree.specs.declared.exprs.BBase.TheVariants as base
use Rattle.boogie_tree.specs.Values.{plain_type, is_key}
use Rattle.boogie_meaning.specs.Types as b
use Rattle.boogie_meaning.specs.Types.{HasType, HaveTypes, IsTyped}
use Rattle.enc_expr.specs.Place.{Maps, number}
use Rattle.moves.specs.Scalars.{base_for, variable_type}
use Rattle.moves.specs.Maps.{index_types, heap_type, mask_type, amount_type, content_type, state_types}
use Rattle.enc_expr.specs.Code.{Emitting, join, gives, then_emit, declares, declares_all, Guard, guarded, under, puts, guards}
use Rattle.enc_expr.specs.Pieces.{Operand, Atom, Located, is_atom, in_local, atomic, located_from, located, variables, index}
use Rattle.enc_expr.specs.Coupling.{AreLocals}
use Rattle.enc_expr.specs.Encoding.{maps_from, copies, copy_state}
use Rattle.enc_expr.specs.Typed.{HasStateTypes, HasGuardType, IsOperand, AreOperands, none, more}

-- Among these locals the statements are well-typed, and what is handed on has the property.
pub record IsTypedCode (ts : List BType) {X : Type 0} (P : X → Type 0) (m : Emitting X) : Type 0 where
  pub stmts : (n : ℕ) (rest : List BType) → AreLocals ts n ((m n).locals ++ rest) → IsTyped ts (m n).stmts
  pub value : (n : ℕ) (rest : List BType) → AreLocals ts n ((m n).locals ++ rest) → P (m n).value
  pub next : (n : ℕ) (rest : List BType) → AreLocals ts n ((m n).locals ++ rest) → AreLocals ts (m n).next rest

abbrev pub Any : {X : Type 0} → X → Type 0
Any x = ⊤

module _ (ts : List BType) where
  pub join_typed : {xs ys : BStmts} → IsTyped ts xs → IsTyped ts ys → IsTyped ts (join xs ys)
  join_typed b.skip i = i
  join_typed (b.first h hs) i = b.first h (join_typed hs i)

  pub one_typed : {x : s.BStmt} → b.IsTypedStmt ts x → IsTyped ts (s.first x s.skip)
  one_typed h = b.first h b.skip

  pub guarded_typed : (g : Guard) (xs : BStmts) → HasGuardType g ts → IsTyped ts xs → IsTyped ts (guarded g xs)
  guarded_typed None xs h i = i
  guarded_typed (Some g) s.skip h i = i
  guarded_typed (Some g) (s.first x xs) h i = one_typed (b.if_ (b.var h) i b.skip)

  pub under_typed : (g : Guard) (x : t.BExpr) → HasGuardType g ts → HasType ts None x base.Bool → HasType ts None (under g x) base.Bool
  under_typed None x h i = i
  under_typed (Some g) x h i = b.binary refl (b.var h) i

  -- ---- by the ways of writing

  pub gives_typed : {X : Type 0} {P : X → Type 0} {x : X} → P x → IsTypedCode ts P (gives x)
  gives_typed h = record { stmts = λ n rest l. b.skip; value = λ n rest l. h; next = λ n rest l. l }

  pub then_typed : {X Y : Type 0} {P : X → Type 0} {Q : Y → Type 0} {m : Emitting X} {go : X → Emitting Y} → IsTypedCode ts P m → ((x : X) → P x → IsTypedCode ts Q (go x)) → IsTypedCode ts Q (then_emit m go)
  then_typed {m = m} {go = go} h g = record {
    stmts = λ n rest l. let k = shared n rest l in join_typed (h.stmts n _ k) ((g _ (h.value n _ k)).stmts _ rest (h.next n _ k));
    value = λ n rest l. let k = shared n rest l in (g _ (h.value n _ k)).value _ rest (h.next n _ k);
    next = λ n rest l. let k = shared n rest l in (g _ (h.value n _ k)).next _ rest (h.next n _ k);
  }
    where
      shared : (n : ℕ) (rest : List BType) → AreLocals ts n ((then_emit m go n).locals ++ rest) → AreLocals ts n ((m n).locals ++ ((go (m n).value (m n).next).locals ++ rest))
      shared n rest l = subst (AreLocals ts n) (append_assoc (m n).locals (go (m n).value (m n).next).locals rest) l

  pub declares_typed : (u : BType) → IsTypedCode ts (λ i. slice_get ts i ≡ Some u) (declares u)
  declares_typed u = record { stmts = λ n rest l. b.skip; value = λ n rest l. l.0; next = λ n rest l. l.1 }

  pub first_locals : (n : ℕ) (us ws : List BType) → AreLocals ts n (us ++ ws) → AreLocals ts n us
  first_locals n [] ws l = tt
  first_locals n (u ∷ us) ws l = (l.0, first_locals (n + 1) us ws l.1)

  pub rest_locals : (n : ℕ) (us ws : List BType) → AreLocals ts n (us ++ ws) → AreLocals ts (n + length us) ws
  rest_locals n [] ws l = subst (λ (i : ℕ). AreLocals ts i ws) (omega arith) l
  rest_locals n (u ∷ us) ws l = subst (λ (i : ℕ). AreLocals ts i ws) (omega arith) (rest_locals (n + 1) us ws l.1)

  pub declares_all_typed : (us : List BType) → IsTypedCode ts (λ i. AreLocals ts i us) (declares_all us)
  declares_all_typed us = record { stmts = λ n rest l. b.skip; value = λ n rest l. first_locals n us rest l; next = λ n rest l. rest_locals n us rest l }

  pub puts_typed : (g : Guard) (xs : BStmts) → HasGuardType g ts → IsTyped ts xs → IsTypedCode ts Any (puts g xs)
  puts_typed g xs h i = record { stmts = λ n rest l. guarded_typed g xs h i; value = λ n rest l. tt; next = λ n rest l. l }

  pub guards_typed : (g : Guard) (x : t.BExpr) → HasGuardType g ts → HasType ts None x base.Bool → IsTypedCode ts (λ h. slice_get ts h ≡ Some (plain_type base.Bool)) (guards g x)
  guards_typed g x h i = record { stmts = λ n rest l. one_typed (b.assign l.0 (b.value (under_typed g x h i))); value = λ n rest l. l.0; next = λ n rest l. l.1 }

  -- ---- operands in locals

  -- an atom of this type, and the statement that sets it
  pub record IsTypedAtom (u : BBase) (a : Atom) : Type 0 where
    pub typed : HasType ts None a.expr u
    pub sets : IsTyped ts a.sets

  in_local_typed : (x : Operand) → HasType ts None x.expr x.base → IsTypedCode ts (IsTypedAtom x.base) (in_local x)
  in_local_typed x h = then_typed (declares_typed (plain_type x.base)) (λ i l. gives_typed (record { typed = b.var l; sets = one_typed (b.assign l (b.value h)) }))

  pub atomic_typed : (x : Operand) → HasType ts None x.expr x.base → IsTypedCode ts (IsTypedAtom x.base) (atomic x)
  atomic_typed x h = either (is_atom x.expr)
    where
      either : (q : Bool) → IsTypedCode ts (IsTypedAtom x.base) (λ n. if q then gives (record { expr = x.expr; sets = s.skip }) n else in_local x n)
      either true = gives_typed (record { typed = h; sets = b.skip })
      either false = in_local_typed x h

  -- ---- arguments in locals

  -- a local for each, of its type
  abbrev pub AreVariables : List Ty → List ℕ → Type 0
  AreVariables [] [] = ⊤
  AreVariables (u ∷ us) (i ∷ is) = (slice_get ts i ≡ Some (variable_type u)) × AreVariables us is
  AreVariables _ _ = ⊥

  pub record AreTypedLocals (us : List Ty) (l : Located) : Type 0 where
    pub typed : AreVariables us l.locals
    pub sets : IsTyped ts l.sets

  variables_append : (us ws : List Ty) (is js : List ℕ) → AreVariables us is → AreVariables ws js → AreVariables (us ++ ws) (is ++ js)
  variables_append [] ws [] js h k = k
  variables_append (u ∷ us) ws (i ∷ is) js h k = (h.0, variables_append us ws is js h.1 k)
  variables_append [] ws (i ∷ is) js h k = elim h [ ]
  variables_append (u ∷ us) ws [] js h k = elim h [ ]

  located_from_typed : (u : Ty) (x : Operand) (e : t.BExpr) → IsOperand ts u x → HasType ts None e (base_for u) → IsTypedCode ts (AreTypedLocals (u ∷ [])) (located_from x e)
  located_from_typed u x (t.Var i) h (b.var l) = gives_typed (record { typed = (l, tt); sets = b.skip })
  located_from_typed u x e h k = new_local u x h
    where
      new_local : (u : Ty) (x : Operand) → IsOperand ts u x →
          IsTypedCode ts (AreTypedLocals (u ∷ [])) (then_emit (declares (plain_type x.base)) (λ i. gives (record { locals = i ∷ []; sets = s.first (s.Assign i x.expr) s.skip })))
      new_local u x h = then_typed (declares_typed (plain_type x.base)) (λ i l. let k : slice_get ts i ≡ Some (variable_type u) = l ∙ ap (λ (w : BBase). Some (plain_type w)) h.base in
          gives_typed (record { typed = (k, tt); sets = one_typed (b.assign k (b.value h.typed)) }))

  pub located_typed : {us : List Ty} {xs : List Operand} → AreOperands ts us xs → IsTypedCode ts (AreTypedLocals us) (located xs)
  located_typed none = gives_typed (record { typed = tt; sets = b.skip })
  located_typed (more {u = u} {us = us} {x = x} h hs) = then_typed (located_from_typed u x x.expr h h.typed) (λ a k. then_typed (located_typed hs) (λ l i.
      gives_typed (record { typed = variables_append (u ∷ []) us a.locals l.locals k.typed i.typed; sets = join_typed k.sets i.sets })))

  -- parameters of predicates are no permissions, so they are indices
  base_is_key : (u : Ty) → u ≢ ty.Perm → is_key (base_for u) ≡ true
  base_is_key ty.Int h = refl
  base_is_key ty.Bool h = refl
  base_is_key ty.Ref h = refl
  base_is_key ty.Perm h = absurd (h refl)

  variables_typed : (us : List Ty) (is : List ℕ) → All (λ u. u ≢ ty.Perm) us → AreVariables us is → HaveTypes ts None (variables is) (map base_for us)
  variables_typed [] [] h k = b.none
  variables_typed (u ∷ us) (i ∷ is) h k = b.more (base_is_key u (All-head (λ w. w ≢ ty.Perm) u us h)) (b.var k.0) (variables_typed us is (All-tail (λ w. w ≢ ty.Perm) u us h) k.1)
  variables_typed [] (i ∷ is) h k = elim k [ ]
  variables_typed (u ∷ us) [] h k = elim k [ ]

  pub index_typed : (us : List Ty) (is : List ℕ) → All (λ u. u ≢ ty.Perm) us → AreVariables us is → HaveTypes ts None (index is) (index_types us)
  index_typed [] [] h k = b.more refl b.int b.none
  index_typed (u ∷ us) (i ∷ is) h k = variables_typed (u ∷ us) (i ∷ is) h k
  index_typed [] (i ∷ is) h k = elim k [ ]
  index_typed (u ∷ us) [] h k = elim k [ ]

  -- the local of one of them
  pub variable_at : (us : List Ty) (is : List ℕ) (x : ℕ) (u : Ty) → AreVariables us is → slice_get us x ≡ Some u → slice_get ts (number is x) ≡ Some (variable_type u)
  variable_at (w ∷ us) (i ∷ is) zero u k h = k.0 ∙ ap (λ o. option_map variable_type o) h
  variable_at (w ∷ us) (i ∷ is) (suc x) u k h = variable_at us is x u k.1 h
  variable_at [] is x u k h = absurd cc
  variable_at (w ∷ us) [] x u k h = elim k [ ]

  -- ---- maps at an index

  pub at_typed : (us : List Ty) (i : ℕ) (w : BBase) (es : t.BExprs) → slice_get ts i ≡ Some (record { keys = index_types us; base = w }) → HaveTypes ts None es (index_types us) → HasType ts None (t.At i es) w
  at_typed [] i w es l h = b.at l h
  at_typed (u ∷ us) i w es l h = b.at l h

  pub put_typed : (us : List Ty) (i : ℕ) (w : BBase) (es : t.BExprs) (x : t.BExpr) → slice_get ts i ≡ Some (record { keys = index_types us; base = w }) → HaveTypes ts None es (index_types us) →
      HasType ts None x w → b.IsTypedStmt ts (s.Put i es x)
  put_typed [] i w es x l h k = b.put l h k
  put_typed (u ∷ us) i w es x l h k = b.put l h k

  -- ---- the maps of a state

  pub at_local : (n : ℕ) (us : List BType) (i : ℕ) (u : BType) → AreLocals ts n us → slice_get us i ≡ Some u → slice_get ts (n + i) ≡ Some u
  at_local n (w ∷ us) zero u l h = subst (λ (j : ℕ). slice_get ts j ≡ Some u) (omega arith) (l.0 ∙ h)
  at_local n (w ∷ us) (suc i) u l h = subst (λ (j : ℕ). slice_get ts j ≡ Some u) (omega arith) (at_local (n + 1) us i u l.1 h)
  at_local n [] i u l h = absurd cc

  -- locals with these types, for each of a list
  pub each_local : {X : Type 0} (n : ℕ) (f : X → BType) (xs : List X) (i : ℕ) (x : X) → AreLocals ts n (map f xs) → slice_get xs i ≡ Some x → slice_get ts (number (range_with_len n (length xs)) i) ≡ Some (f x)
  each_local n f (y ∷ xs) zero x l h = l.0 ∙ ap (λ o. option_map f o) h
  each_local n f (y ∷ xs) (suc i) x l h = each_local (n + 1) f xs i x l.1 h
  each_local n f [] i x l h = absurd cc

  -- the maps from here on have the types of a state
  pub own_types : (layout : Layout) (n : ℕ) → AreLocals ts n (state_types layout) → HasStateTypes layout (maps_from layout n) ts
  own_types layout n l = record {
    heap = λ f u h. each_local n heap_type layout.fields f u (first_locals n heaps masks l2) h;
    mask = λ f u h. each_local (n + fields) mask_type layout.fields f u (subst (λ (j : ℕ). AreLocals ts j masks) two (rest_locals n heaps masks l2)) h;
    amount = λ q us h. each_local (n + fields + fields) amount_type layout.keys q us (subst (λ (j : ℕ). AreLocals ts j amounts) three (rest_locals n (heaps ++ masks) amounts l3)) h;
    content = λ q us h. each_local (n + fields + fields + predicates) content_type layout.keys q us (subst (λ (j : ℕ). AreLocals ts j contents) four (rest_locals n (heaps ++ masks ++ amounts) contents l)) h;
  }
    where
      fields : ℕ
      fields = length layout.fields

      predicates : ℕ
      predicates = length layout.keys

      heaps : List BType
      heaps = map heap_type layout.fields

      masks : List BType
      masks = map mask_type layout.fields

      amounts : List BType
      amounts = map amount_type layout.keys

      contents : List BType
      contents = map content_type layout.keys

      l3 : AreLocals ts n (heaps ++ masks ++ amounts)
      l3 = first_locals n (heaps ++ masks ++ amounts) contents l

      l2 : AreLocals ts n (heaps ++ masks)
      l2 = first_locals n (heaps ++ masks) amounts l3

      two : n + length heaps ≡ n + fields
      two = simp (length-map) (omega arith)

      three : n + length (heaps ++ masks) ≡ n + fields + fields
      three = simp (length-append, length-map) (omega arith)

      four : n + length (heaps ++ masks ++ amounts) ≡ n + fields + fields + predicates
      four = simp (length-append, length-map) (omega arith)

  -- maps of the same types are copied, from number j on
  pub each_copied : {X : Type 0} (f : X → BType) (xs : List X) (a : ℕ) (ys : List ℕ) (j : ℕ) →
      ((i : ℕ) (x : X) → slice_get xs i ≡ Some x → slice_get ts (number (range_with_len a (length xs)) i) ≡ Some (f x)) →
      ((i l : ℕ) (x : X) → l ≡ i + j → slice_get xs i ≡ Some x → slice_get ts (number ys l) ≡ Some (f x)) → IsTyped ts (copies (range_with_len a (length xs)) ys j)
  each_copied f [] a ys j h k = b.skip
  each_copied f (x ∷ xs) a ys j h k =
      b.first (b.assign (h 0 x refl) (b.whole (k 0 j x (omega arith) refl))) (each_copied f xs (a + 1) ys (j + 1) (λ i z e. h (suc i) z e) (λ i l z same e. k (suc i) l z (omega (arith, same)) e))

  pub all_copied : {X : Type 0} (f : X → BType) (xs : List X) (a : ℕ) (ys : List ℕ) →
      ((i : ℕ) (x : X) → slice_get xs i ≡ Some x → slice_get ts (number (range_with_len a (length xs)) i) ≡ Some (f x)) →
      ((i : ℕ) (x : X) → slice_get xs i ≡ Some x → slice_get ts (number ys i) ≡ Some (f x)) → IsTyped ts (copies (range_with_len a (length xs)) ys 0)
  all_copied f xs a ys h k = each_copied f xs a ys 0 h (λ i l x same e. k l x (ap (slice_get xs) (omega (arith, same)) ∙ e))

  pub copy_state_typed : (layout : Layout) (n : ℕ) (m : Maps) → HasStateTypes layout (maps_from layout n) ts → HasStateTypes layout m ts → IsTyped ts (copy_state (maps_from layout n) m)
  copy_state_typed layout n m h k = join_typed (all_copied heap_type layout.fields _ m.heap h.heap k.heap) (join_typed (all_copied mask_type layout.fields _ m.mask h.mask k.mask)
      (join_typed (all_copied amount_type layout.keys _ m.amount h.amount k.amount) (all_copied content_type layout.keys _ m.content h.content k.content)))
