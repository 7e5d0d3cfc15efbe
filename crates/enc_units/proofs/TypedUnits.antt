-- The code of units is well-typed, behind their fixed locals.
use Rattle.std.specs.Option.{IfSome}
use Rattle.std.proofs.Common.{◌≡◌, ◌∙◌, ◌+◌, ◌++◌, ℕ, suc, List, [], ◌∷◌, Option, Some, None, length, length-append, map, slice_get, refl, ap, arith}
use Rattle.std.proofs.lemmas.List.{length-map}
use Rattle.std.proofs.lemmas.List.Elements.{All-head, All-tail}
use Rattle.std.proofs.lemmas.Option.{slice_get_within}
use Rattle.lemmas.proofs.Lists.{there_left, mapped_at}
use Rattle.vb_value.specs.declared.values.Ty.{Ty}
use Rattle.vb_value.specs.declared.values.Ty.TheVariants as ty
use Rattle.viper_core.specs.Formed.{IsFormed, IsMethod, IsBody, predicate_context, precondition_context, postcondition_context, method_frame}
use Rattle.viper_core.specs.Program.{Program, Method, Body}
use Rattle.viper_core.specs.declared.programs.Unit.{Unit}
use Rattle.viper_core.specs.declared.programs.Unit.TheVariants as unit
use Rattle.viper_core.proofs.FormedLaws.{predicate_body_of_typed}
use Rattle.boogie_tree.specs.Program.{BType}
use Rattle.boogie_tree.specs.Stmt as s
use Rattle.boogie_tree.specs.Values.{AreKeys, map_type}
use Rattle.boogie_tree.specs.declared.exprs.BBase.TheVariants as base
use Rattle.boogie_meaning.specs.Patterns.{zero_code}
use Rattle.boogie_meaning.specs.Programs.{HaveKeys}
use Rattle.boogie_meaning.specs.Types as b
use Rattle.boogie_meaning.specs.Types.{HasType, IsTyped}
use Rattle.moves.specs.Maps.{index_types, heap_type, mask_type, amount_type, content_type, state_types}
use Rattle.moves.specs.Scalars.{base_for, variable_type}
use Rattle.enc_expr.specs.Front.{types_of, front_types}
use Rattle.enc_expr.specs.Locals.{types_of_others, fixed_types}
use Rattle.enc_expr.specs.Place.{Heap, Mask, Amount, Content}
use Rattle.enc_expr.specs.Typed.{IsTypedPiece}
use Rattle.enc_expr.proofs.CopyLaws.{number_range}
use Rattle.enc_expr.proofs.KeyedCode.{IsKeyed, states_keyed, then_keyed, puts_keyed}
use Rattle.enc_expr.proofs.TypedPieces.{IsTypedCode, Any, join_typed, then_typed, puts_typed, own_types}
use Rattle.enc_assert.proofs.TypedAssertions.{held_types, piece_typed}
use Rattle.enc_block.specs.Encoding.{keep_old, check_code, ending_code, either_code, method_code}
use Rattle.enc_block.specs.Home.{Home, place, nothing_held}
use Rattle.enc_block.specs.Typed.{HasHomeTypes}
use Rattle.enc_units.specs.Units.{first_mask, first_old, zero_mask, first_further, home_of, zeros_code, default_code, defaults_code, start_code, kinds_with, unit_code}
use Rattle.enc_units.proofs.ExactLaws.{are_locals}
use Rattle.enc_block.proofs.KeyedStatements.{all_first, all_rest, branching_keyed, stop_keyed, produced_keyed, all_produced_keyed, asserted_keyed, emptied_keyed, block_keyed}
use Rattle.enc_units.proofs.StartLaws.{at_same}
use Rattle.enc_block.proofs.TypedStatements.{held_copied, state_copied, branching_typed, stopped, produced, at_place, asserted, emptied, given, block_typed, reference}
use Rattle.enc_units.proofs.UnitCode.{IsUnit, is_method, is_predicate, unit_is, method_vars, predicate_vars, of_method, of_predicate}
use Rattle.enc_units.proofs.UnitHomeLaws.{get_from, number_same, now_is, heap_is, content_is, zero_is, zero_amount_is, further_is, front_length, now_sizes, old_sizes, home_is_home, zeros_on, old_on, held_on}

abbrev has_keys : BType → Type 0
has_keys u = AreKeys u.keys

-- ---- the fixed locals are a home of their types

module _ (p : Program) (u : Unit) where
  abbrev fields : ℕ
  fields = length p.layout.fields

  abbrev predicates : ℕ
  predicates = length p.layout.keys

  -- masks and amounts
  held_there : (i : ℕ) (w : BType) → slice_get (map mask_type p.layout.fields ++ map amount_type p.layout.keys) i ≡ Some w → slice_get (fixed_types p u) (first_mask p u + i) ≡ Some w
  held_there i w there =
      get_from (front_types p u) (held_on p u) (first_mask p u) (first_mask p u + i) i w (front_length p u) refl (there_left (map mask_type p.layout.fields ++ map amount_type p.layout.keys) (old_on p u) i w there)

  mask_there : (f : ℕ) (w : Ty) → slice_get p.layout.fields f ≡ Some w → slice_get (fixed_types p u) (first_mask p u + f) ≡ Some (mask_type w)
  mask_there f w there = held_there f (mask_type w) (there_left (map mask_type p.layout.fields) (map amount_type p.layout.keys) f (mask_type w) (mapped_at mask_type p.layout.fields f w there))

  amount_there : (q : ℕ) (ws : List Ty) → slice_get p.layout.keys q ≡ Some ws → slice_get (fixed_types p u) (first_mask p u + fields + q) ≡ Some (amount_type ws)
  amount_there q ws there =
      at_same (fixed_types p u) (first_mask p u + fields + q) (first_mask p u + (fields + q)) (amount_type ws) (omega arith)
      (held_there (fields + q) (amount_type ws) (get_from (map mask_type p.layout.fields) (map amount_type p.layout.keys) fields (fields + q) q (amount_type ws) (length-map p.layout.fields mask_type) refl
      (mapped_at amount_type p.layout.keys q ws there)))

  -- the old state
  old_there : (i : ℕ) (w : BType) → slice_get (state_types p.layout) i ≡ Some w → slice_get (fixed_types p u) (first_old p u + i) ≡ Some w
  old_there i w there =
      let n = fields + predicates in
      get_from (front_types p u) (held_on p u) (first_mask p u) (first_old p u + i) (n + i) w (front_length p u) (omega arith)
      (get_from (map mask_type p.layout.fields ++ map amount_type p.layout.keys) (old_on p u) n (n + i) i w held_length refl (there_left (state_types p.layout) (zeros_on p u) i w there))
    where
      held_length : length (map mask_type p.layout.fields ++ map amount_type p.layout.keys) ≡ fields + predicates
      held_length = omega (arith, length-append (map mask_type p.layout.fields) (map amount_type p.layout.keys), length-map p.layout.fields mask_type, length-map p.layout.keys amount_type)

  module _ (us : List BType) where
    abbrev ts : List BType
    ts = fixed_types p u ++ us

    abbrev h : Home
    h = home_of p u

    more : (i : ℕ) (w : BType) → slice_get (fixed_types p u) i ≡ Some w → slice_get ts i ≡ Some w
    more i w there = there_left (fixed_types p u) us i w there

    pub home_types : (vars : List Ty) → types_of p u ++ types_of_others p u ≡ vars → HasHomeTypes vars p.layout h ts
    home_types vars are = record {
      vars = (home_is_home p u vars are (nothing_held p.layout) us).types;
      sizes = now_sizes p u;
      old_sizes = old_sizes p u;
      now = record {
        heap = λ f w there. ap (slice_get ts) (now_is p u (Heap f) (slice_get_within p.layout.fields f w there)) ∙ more (length (types_of p u) + f) (heap_type w) (heap_is p u f w there);
        mask = λ f w there. ap (slice_get ts) (now_is p u (Mask f) (slice_get_within p.layout.fields f w there)) ∙ more (first_mask p u + f) (mask_type w) (mask_there f w there);
        amount = λ q ws there. ap (slice_get ts) (now_is p u (Amount q) (slice_get_within p.layout.keys q ws there)) ∙ more (first_mask p u + fields + q) (amount_type ws) (amount_there q ws there);
        content = λ q ws there. ap (slice_get ts) (now_is p u (Content q) (slice_get_within p.layout.keys q ws there)) ∙ more (length (types_of p u) + fields + q) (content_type ws) (content_is p u q ws there);
      };
      old = own_types ts p.layout (first_old p u) (are_locals ts (first_old p u) (state_types p.layout) (λ i w there. more (first_old p u + i) w (old_there i w there)));
      nothing = record {
        mask = λ f w there. ap (slice_get ts) (number_same fields (zero_mask p u) f (slice_get_within p.layout.fields f w there)) ∙ more (zero_mask p u) (mask_type w) (zero_is p u);
        amount = λ q ws there. ap (slice_get ts) (number_range (zero_mask p u + 1) predicates q (slice_get_within p.layout.keys q ws there)) ∙ more (zero_mask p u + 1 + q) (amount_type ws) (zero_amount_is p u q ws there);
      };
    }

    -- ---- how the code begins

    zero_typed : (ws : List Ty) (i : ℕ) → AreKeys (index_types ws) → slice_get ts i ≡ Some (amount_type ws) → b.IsTypedStmt ts (zero_code (index_types ws) i)
    zero_typed [] i keyed there = b.assume_ (b.forall_ keyed (b.binary refl (b.at_bound there) b.real))
    zero_typed (w ∷ ws) i keyed there = b.assume_ (b.forall_ keyed (b.binary refl (b.at_bound there) b.real))

    zeros_typed : (keys : List (List Ty)) (i : ℕ) → HaveKeys (map amount_type keys) → ((q : ℕ) (ws : List Ty) → slice_get keys q ≡ Some ws → slice_get ts (i + q) ≡ Some (amount_type ws)) → IsTyped ts (zeros_code i keys)
    zeros_typed [] i keyed there = b.skip
    zeros_typed (ws ∷ keys) i keyed there =
        b.first (zero_typed ws i (All-head has_keys (amount_type ws) (map amount_type keys) keyed) (at_same ts i (i + 0) (amount_type ws) (omega arith) (there 0 ws refl)))
        (zeros_typed keys (i + 1) (All-tail has_keys (amount_type ws) (map amount_type keys) keyed) (λ q zs is. at_same ts (i + 1 + q) (i + suc q) (amount_type zs) (omega arith) (there (suc q) zs is)))

    default_typed : (w : Ty) → HasType ts None (default_code w) (base_for w)
    default_typed ty.Int = b.int
    default_typed ty.Bool = b.bool
    default_typed ty.Ref = b.null
    default_typed ty.Perm = b.real

    defaults_typed : (ws : List Ty) (i : ℕ) → ((c : ℕ) (w : Ty) → slice_get ws c ≡ Some w → slice_get ts (i + c) ≡ Some (variable_type w)) → IsTyped ts (defaults_code i ws)
    defaults_typed [] i there = b.skip
    defaults_typed (w ∷ ws) i there =
        b.first (b.assign (at_same ts i (i + 0) (variable_type w) (omega arith) (there 0 w refl)) (b.value (default_typed w)))
        (defaults_typed ws (i + 1) (λ c z is. at_same ts (i + 1 + c) (i + suc c) (variable_type z) (omega arith) (there (suc c) z is)))

    start_typed : HaveKeys (map amount_type p.layout.keys) → (vars : List Ty) → types_of p u ++ types_of_others p u ≡ vars → IsTyped ts (start_code p u)
    start_typed keyed vars are =
        let types = home_types vars are in
        b.first (b.assume_ (b.forall_ reference (b.binary refl (b.at_bound (more (zero_mask p u) (map_type base.Ref [] base.Real) (zero_is p u))) b.real)))
        (join_typed ts (zeros_typed p.layout.keys (zero_mask p u + 1) keyed (λ q ws there. more (zero_mask p u + 1 + q) (amount_type ws) (zero_amount_is p u q ws there)))
        (join_typed ts (defaults_typed (types_of_others p u) (first_further p u) (λ c w there. more (first_further p u + c) (variable_type w) (further_is p u c w there)))
        (join_typed ts (held_copied ts p.layout h.now h.nothing types.sizes (held_types ts p.layout h.now types.now) types.nothing) (state_copied ts p.layout h.old h.now types.old_sizes types.old types.now))))

-- ---- methods

module _ (ts : List BType) (p : Program) (formed : IsFormed p) (h : Home) (m : Method) (is_method : IsMethod p m) (types : HasHomeTypes m.vars p.layout h ts) where
  check_typed : IsTypedCode ts Any (check_code (kinds_with p m.vars) h m)
  check_typed =
      let c = postcondition_context p m in
      then_typed ts (emptied ts c h formed types) (λ u any. then_typed ts (given ts c h formed types m.name_at m.postconditions is_method.postconditions) (λ u any. stopped ts))

  ending_typed : (body : Body) → IsBody p m body → IsTypedCode ts Any (ending_code p (kinds_with p m.vars) h m body)
  ending_typed body is =
      then_typed ts (block_typed ts (method_frame p m) h formed types body.stmts is.stmts) (λ u any. asserted ts (postcondition_context p m) h formed types body.turn m.postconditions is_method.postconditions)

  either_typed : (o : Option Body) → IfSome o (IsBody p m) → IsTypedCode ts Any (either_code p (kinds_with p m.vars) h m o)
  either_typed None is = check_typed
  either_typed (Some body) is =
      branching_typed ts s.Either (ending_code p (kinds_with p m.vars) h m body) (check_code (kinds_with p m.vars) h m) (λ xs ys l o. b.either l o) (ending_typed body is) check_typed

  method_typed : IsTypedCode ts Any (method_code p (kinds_with p m.vars) h m)
  method_typed =
      then_typed ts (given ts (precondition_context p m) h formed types m.at m.preconditions is_method.preconditions) (λ u any.
      then_typed ts (puts_typed ts None (keep_old h) tt (state_copied ts p.layout h.old h.now types.old_sizes types.old types.now)) (λ u any. either_typed m.body is_method.body))

-- ---- indices of key types

module _ (p : Program) (formed : IsFormed p) (h : Home) where
  keys : HaveKeys (state_types p.layout)
  keys = states_keyed p formed.typed

  module _ (m : Method) where
    check_keyed : IsKeyed (check_code (kinds_with p m.vars) h m)
    check_keyed = let k = kinds_with p m.vars in then_keyed (emptied_keyed k keys h) (λ u. then_keyed (all_produced_keyed k keys (place h m.name_at) m.postconditions) (λ u. stop_keyed))

    ending_keyed : (body : Body) → IsKeyed (ending_code p (kinds_with p m.vars) h m body)
    ending_keyed body = then_keyed (block_keyed (method_frame p m) h formed body.stmts) (λ u. asserted_keyed (kinds_with p m.vars) keys h body.turn m.postconditions)

    either_keyed : (o : Option Body) → IsKeyed (either_code p (kinds_with p m.vars) h m o)
    either_keyed None = check_keyed
    either_keyed (Some body) = branching_keyed s.Either (ending_code p (kinds_with p m.vars) h m body) (check_code (kinds_with p m.vars) h m) (ending_keyed body) check_keyed

    method_keyed : IsKeyed (method_code p (kinds_with p m.vars) h m)
    method_keyed = then_keyed (all_produced_keyed (kinds_with p m.vars) keys (place h m.at) m.preconditions) (λ u. then_keyed (puts_keyed None (keep_old h)) (λ u. either_keyed m.body))

-- ---- units

module _ (p : Program) (formed : IsFormed p) where
  amounts_keyed : HaveKeys (map amount_type p.layout.keys)
  amounts_keyed =
      let heaps = map heap_type p.layout.fields in let masks = map mask_type p.layout.fields in let amounts = map amount_type p.layout.keys in let contents = map content_type p.layout.keys in
      all_rest (heaps ++ masks) amounts (all_first (heaps ++ masks ++ amounts) contents (states_keyed p formed.typed))

  unit_typed : (us : List BType) (u : Unit) → IsUnit p u → IsTypedCode (fixed_types p u ++ us) Any (unit_code p u)
  unit_typed us w (is_method k m exists formed_method) =
      let u = unit.Method k in let ts = fixed_types p u ++ us in let vars = method_vars p k m exists in
      then_typed ts (puts_typed ts None (start_code p u) tt (start_typed p u us amounts_keyed m.vars vars)) (λ x any.
      of_method p (IsTypedCode ts Any) k m exists (method_typed ts p formed (home_of p u) m formed_method (home_types p u us m.vars vars)))
  unit_typed us w (is_predicate k d body exists has formed_predicate) =
      let u = unit.Predicate k in let ts = fixed_types p u ++ us in let vars = predicate_vars p k d exists in let c = predicate_context p d in
      then_typed ts (puts_typed ts None (start_code p u) tt (start_typed p u us amounts_keyed d.params vars)) (λ x any.
      of_predicate p (IsTypedCode ts Any) k d body exists has
      (produced ts c (place (home_of p u) d.at) formed (at_place ts c (home_of p u) formed (home_types p u us d.params vars) d.at) body (predicate_body_of_typed p formed.typed k d body exists has)))

  unit_keyed : (u : Unit) → IsUnit p u → IsKeyed (unit_code p u)
  unit_keyed w (is_method k m exists formed_method) =
      then_keyed (puts_keyed None (start_code p (unit.Method k))) (λ x. of_method p IsKeyed k m exists (method_keyed p formed (home_of p (unit.Method k)) m))
  unit_keyed w (is_predicate k d body exists has formed_predicate) =
      then_keyed (puts_keyed None (start_code p (unit.Predicate k))) (λ x.
      of_predicate p IsKeyed k d body exists has (produced_keyed (kinds_with p d.params) (states_keyed p formed.typed) (place (home_of p (unit.Predicate k)) d.at) body))

  pub unit_is_typed : (n : ℕ) (u : Unit) → slice_get p.units n ≡ Some u → IsTypedPiece (fixed_types p u) (unit_code p u (length (fixed_types p u)))
  unit_is_typed n u there =
      let is = unit_is p formed n u there in
      piece_typed (fixed_types p u) (unit_code p u) (unit_keyed u is) (unit_typed (unit_code p u (length (fixed_types p u))).locals u is)
