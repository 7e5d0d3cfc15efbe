-- What names stand for in a file is what its program has at their numbers.
use Rattle.std.proofs.Common.{◌≡◌, ◌∙◌, ℕ, zero, suc, Option, Some, None, List, [], ◌∷◌, ◌++◌, length, map, take, drop, slice_get, is_some, refl, sym, ap, subst, append_assoc, append-nil}
use Rattle.std.proofs.lemmas.List.{length-map, take_at, drop_at}
use Rattle.std.proofs.lemmas.Option.{same_Some}
use Rattle.vb_base.specs.declared.places.Pos.{Pos}
use Rattle.vb_value.specs.declared.values.Ty.{Ty}
use Rattle.viper_core.specs.Expr as e
use Rattle.viper_core.specs.Program as p
use Rattle.viper_core.specs.Typing.{params_of, returns_of}
use Rattle.viper_syntax.specs.Term as t
use Rattle.viper_syntax.specs.Decl as d
use Rattle.viper_syntax.specs.declared.stmts.Named.{Named}
use Rattle.viper_syntax.specs.declared.stmts.Formal.{Formal}
use Rattle.viper_scope.specs.declared.context.Role.{Role}
use Rattle.viper_scope.specs.declared.context.Role.TheVariants as role
use Rattle.viper_scope.specs.Context.{World, Signature, MethodSignature, find, numbered, field_in, method_in}
use Rattle.viper_scope.specs.Types.{declared_type}
use Rattle.viper_types.specs.Declaring.{Declared, locals}
use Rattle.viper_types.specs.Program as r
use Rattle.viper_types.specs.Program.{AreNamed, no_names, one_name, IsPredicateBody, IsPredicate, predicate_of, IsMethod, method_of, AreDeclared, no_decls, one_decl}
use Rattle.viper_types.proofs.TermTypes.{HasPredicate, HasMethod, Describes}
use Rattle.viper_types.proofs.BodyLaws.{numbered_is, predicate_is}
use Rattle.viper_types.proofs.FormalScopes.{formals_vars}
use Rattle.viper_types.proofs.StmtTypes.{type_is}
use Rattle.viper_types.proofs.Assembled.{field_types, predicates_in, methods_in, body_in}

-- ---- signatures

abbrev pub signature : p.Predicate → Signature
signature q = record { params = q.params; has_body = is_some q.body }

abbrev pub method_signature : p.Method → MethodSignature
method_signature m = record { params = params_of m; returns = returns_of m }

same_body : {w : World} {sc : _} {body : Option t.Term} {b : Option e.Assertion} → IsPredicateBody w sc body b → is_some body ≡ is_some b
same_body r.no_body = refl
same_body (r.body_of h) = refl

same_signature : {w : World} {at : Pos} {x : Named} {params : List Formal} {body : Option t.Term} {q : p.Predicate} → IsPredicate w at x params body q →
    ◌≡◌ {A = Signature} (record { params = map declared_type params; has_body = is_some body }) (signature q)
same_signature {params = params} (predicate_of h b) =
    ap (λ has. let s : Signature = record { params = map declared_type params; has_body = has } in s) (same_body b)

-- the front, and what follows it
fronts : (m n : ℕ) (xs ys zs all : List Ty) → length xs ≡ m → length ys ≡ n → all ≡ (xs ++ ys) ++ zs → (take m all ≡ xs) × (take n (drop m all) ≡ ys)
fronts m n xs ys zs all i k is =
    let moved : all ≡ xs ++ (ys ++ zs) = is ∙ append_assoc xs ys zs in (
      ap (λ us. take m us) moved ∙ take_at xs (ys ++ zs) m i,
      ap (λ us. take n (drop m us)) moved ∙ ap (λ us. take n us) (drop_at xs (ys ++ zs) m i) ∙ take_at ys zs n k,
    )

same_method : {w : World} {bodies : List (Option e.Assertion)} {m : d.SMethod} {q : p.Method} → IsMethod w bodies m q →
    ◌≡◌ {A = MethodSignature} (record { params = map declared_type m.params; returns = map declared_type m.returns }) (method_signature q)
same_method {m = m} (method_of {ps = ps} {fr = fr} hp hr hc hb) =
    let params = map declared_type m.params in
    let returns = map declared_type m.returns in
    let vars : fr.vars ≡ params ++ returns = formals_vars hr ∙ ap (λ us. us ++ returns) (formals_vars hp) in
    let both = fronts (length m.params) (length m.returns) params returns (locals m.body) (fr.vars ++ locals m.body) (length-map m.params declared_type)
    (length-map m.returns declared_type) (ap (λ us. us ++ locals m.body) vars) in
    ap (λ us. let s : MethodSignature = record { params = us; returns = returns } in s) (sym both.0) ∙
    ap (λ us. let s : MethodSignature = record { params = take (length m.params) (fr.vars ++ locals m.body); returns = us } in s) (sym both.1)

-- ---- the world of a file

pub world_fields : {w v u : World} {bodies : List (Option e.Assertion)} {ds : List d.Decl} {xs : List Declared} → AreNamed w ds v → AreDeclared u bodies ds xs →
    v.fields ≡ w.fields ++ field_types xs
world_fields {w = w} no_names no_decls = sym (append-nil w.fields)
world_fields {w = w} (one_name i more) (one_decl {xs = xs} (r.field {f = f} {u = u} is) hs) =
    world_fields more hs ∙ append_assoc w.fields (declared_type f ∷ []) (field_types xs) ∙ ap (λ x. w.fields ++ x ∷ field_types xs) (type_is f u is)
world_fields (one_name i more) (one_decl (r.predicate h) hs) = world_fields more hs
world_fields (one_name i more) (one_decl (r.method h) hs) = world_fields more hs

pub world_predicates : {w v u : World} {bodies : List (Option e.Assertion)} {ds : List d.Decl} {xs : List Declared} → AreNamed w ds v → AreDeclared u bodies ds xs →
    v.predicates ≡ w.predicates ++ map signature (predicates_in xs)
world_predicates {w = w} no_names no_decls = sym (append-nil w.predicates)
world_predicates (one_name i more) (one_decl (r.field is) hs) = world_predicates more hs
world_predicates {w = w} (one_name i more) (one_decl {xs = xs} (r.predicate {q = q} h) hs) =
    let rest = map signature (predicates_in xs) in
    world_predicates more hs ∙ append_assoc w.predicates (_ ∷ []) rest ∙ ap (λ s. w.predicates ++ s ∷ rest) (same_signature h)
world_predicates (one_name i more) (one_decl (r.method h) hs) = world_predicates more hs

pub world_methods : {w v u : World} {bodies : List (Option e.Assertion)} {ds : List d.Decl} {xs : List Declared} → AreNamed w ds v → AreDeclared u bodies ds xs →
    v.methods ≡ w.methods ++ map method_signature (methods_in xs)
world_methods {w = w} no_names no_decls = sym (append-nil w.methods)
world_methods (one_name i more) (one_decl (r.field is) hs) = world_methods more hs
world_methods (one_name i more) (one_decl (r.predicate h) hs) = world_methods more hs
world_methods {w = w} (one_name i more) (one_decl {xs = xs} (r.method {q = q} h) hs) =
    let rest = map method_signature (methods_in xs) in
    world_methods more hs ∙ append_assoc w.methods (_ ∷ []) rest ∙ ap (λ s. w.methods ++ s ∷ rest) (same_method h)

-- ---- what stands at a number

listed_at : {X : Type 0} (xs : List X) (m n : ℕ) (x : X) → numbered m (slice_get xs m) ≡ Some (n, x) → slice_get xs n ≡ Some x
listed_at xs m n x h = let is = numbered_is m n x (slice_get xs m) h in subst (λ k. slice_get xs k ≡ Some x) is.0 is.1

field_there : (us : List Ty) (o : Option Role) (n : ℕ) (u : Ty) → field_in us o ≡ Some (n, u) → slice_get us n ≡ Some u
field_there us None n u h = absurd (cc)
field_there us (Some (role.Field m)) n u h = listed_at us m n u h
field_there us (Some (role.Predicate m)) n u h = absurd (cc)
field_there us (Some (role.Method m)) n u h = absurd (cc)

method_there : (ss : List MethodSignature) (o : Option Role) (n : ℕ) (s : MethodSignature) → method_in ss o ≡ Some (n, s) → slice_get ss n ≡ Some s
method_there ss None n s h = absurd (cc)
method_there ss (Some (role.Field m)) n s h = absurd (cc)
method_there ss (Some (role.Predicate m)) n s h = absurd (cc)
method_there ss (Some (role.Method m)) n s h = listed_at ss m n s h

-- what a list of images has at a number
mapped : {X Y : Type 0} (f : X → Y) (xs : List X) (n : ℕ) (y : Y) → slice_get (map f xs) n ≡ Some y → (x : X) × (slice_get xs n ≡ Some x) × (f x ≡ y)
mapped f [] n y h = absurd (cc)
mapped f (x ∷ xs) zero y h = (x, refl, same_Some _ _ h)
mapped f (x ∷ xs) (suc n) y h = mapped f xs n y h

has_predicate : (q : p.Program) (n : ℕ) (s : Signature) → slice_get (map signature q.predicates) n ≡ Some s → HasPredicate q n s
has_predicate q n s h =
    let is = mapped signature q.predicates n s h in
    record { predicate = is.0; there = is.1; params = ap (λ (r : Signature). r.params) is.2; has_body = sym (ap (λ (r : Signature). r.has_body) is.2) }

has_method : (q : p.Program) (n : ℕ) (s : MethodSignature) → slice_get (map method_signature q.methods) n ≡ Some s → HasMethod q n s
has_method q n s h =
    let is = mapped method_signature q.methods n s h in
    record { method = is.0; there = is.1; params = ap (λ (r : MethodSignature). r.params) is.2; returns = ap (λ (r : MethodSignature). r.returns) is.2 }

same_there : (ds : List p.Predicate) (n : ℕ) (b : e.Assertion) (q : p.Predicate) → slice_get (map body_in ds) n ≡ Some (Some b) → slice_get ds n ≡ Some q → q.body ≡ Some b
same_there ds n b q h i =
    let is = mapped body_in ds n (Some b) h in
    let same : is.0 ≡ q = same_Some _ _ (sym is.1 ∙ i) in
    sym (ap (λ (d : p.Predicate). d.body) same) ∙ is.2

pub describes : (w : World) (bodies : List (Option e.Assertion)) (q : p.Program) → w.fields ≡ q.layout.fields → w.predicates ≡ map signature q.predicates →
    w.methods ≡ map method_signature q.methods → bodies ≡ map body_in q.predicates → length q.layout.fields ≡ length q.fields →
    Describes w bodies q
describes w bodies q fields predicates methods same many = record {
  field = λ x n u i. subst (λ us. slice_get us n ≡ Some u) fields (field_there w.fields (find w.roles x) n u i);
  predicate = λ x n s i. has_predicate q n s (subst (λ ss. slice_get ss n ≡ Some s) predicates (predicate_is w.predicates (find w.roles x) n s i));
  method = λ x n s i. has_method q n s (subst (λ ss. slice_get ss n ≡ Some s) methods (method_there w.methods (find w.roles x) n s i));
  body = λ n b d i k. same_there q.predicates n b d (subst (λ bs. slice_get bs n ≡ Some (Some b)) same i) k;
  world_fields = ap (λ us. length us) fields ∙ many;
  layout_fields = many;
}
