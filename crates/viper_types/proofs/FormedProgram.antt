-- A typed program is formed, but for its weight.
use Rattle.std.proofs.Common.{◌≡◌, ◌∙◌, ℕ, ◌+◌, ◌<◌, ◌≤◌, ◌^◌, Option, List, [], ◌∷◌, ◌++◌, All, length, map, refl, sym, ap, subst, arith, append_assoc, length-append}
use Rattle.std.specs.List.{AllByRecursion}
use Rattle.std.proofs.lemmas.List.Elements.{All-head, All-from_recursion}
use Rattle.lemmas.proofs.Lists.{all_left, all_right}
use Rattle.viper_core.specs.Expr as e
use Rattle.viper_core.specs.Formed as g
use Rattle.viper_core.specs.Formed.{AreNames, IsTypedProgram}
use Rattle.viper_core.specs.Program as p
use Rattle.viper_syntax.specs.Decl as d
use Rattle.viper_scope.specs.Context.{World}
use Rattle.viper_scope.specs.Naming.{no_world}
use Rattle.viper_types.specs.Declaring.{Declared, no_program, assembled}
use Rattle.viper_syntax.specs.Good.{HasLiterals, decl_terms, decls_terms, decl_names, decls_names, IsGoodSource}
use Rattle.viper_types.specs.Program as r
use Rattle.viper_types.specs.Program.{AreNamed, IsPredicate, predicate_of, IsMethod, method_of, AreDeclared, no_decls, one_decl, bodies_in, IsProgram, program_of}
use Rattle.viper_types.proofs.TermTypes.{Describes}
use Rattle.viper_types.proofs.GoodLists.{IsShallow}
use Rattle.viper_types.proofs.NamesApart.{Apart, IsNew, decl_bytes, decls_apart, differ_from_apart, all_among, apart_among}
use Rattle.viper_types.proofs.PredicateFormed.{IsName, IsGoodDecl, predicate_is_formed}
use Rattle.viper_types.proofs.MethodFormed.{method_is_formed}
use Rattle.viper_types.proofs.Assembled.{field_names, predicates_in, methods_in, body_in, predicate_name, method_name, names_by_kind, bodies_are, has_fields, has_field_types, has_predicates, has_methods, has_layout, has_units, global_names_are}
use Rattle.viper_types.proofs.WorldLaws.{signature, method_signature, world_fields, world_predicates, world_methods, describes}

-- ---- what the parser promises, of each declaration

good_decls : (ds : List d.Decl) → All IsShallow (decls_terms ds) → All HasLiterals (decls_terms ds) → All IsName (decls_names ds) → length (decls_names ds) < 2 ^ 32 →
    AllByRecursion IsGoodDecl ds
good_decls [] shallow literals names few = tt
good_decls (a ∷ rest) shallow literals names few =
    let count : length (decls_names (a ∷ rest)) ≡ length (decl_names a) + length (decls_names rest) = length-append (decl_names a) (decls_names rest) in (
      record {
        shallow = all_left IsShallow (decl_terms a) (decls_terms rest) shallow;
        literals = all_left HasLiterals (decl_terms a) (decls_terms rest) literals;
        names = all_left IsName (decl_names a) (decls_names rest) names;
        few = omega (arith, few, count);
      },
      good_decls rest (all_right IsShallow (decl_terms a) (decls_terms rest) shallow) (all_right HasLiterals (decl_terms a) (decls_terms rest) literals)
          (all_right IsName (decl_names a) (decls_names rest) names) (omega (arith, few, count)),
    )

-- ---- names of the shared space

-- a declaration's own name is the first that it declares
own_name : (a : d.Decl) → All IsName (decl_names a) → IsName (decl_bytes a)
own_name (d.Field f) h = All-head IsName f.name.name [] h
own_name (d.Predicate at x params body) h = All-head IsName x.name _ h
own_name (d.Method m) h = All-head IsName m.name.name _ h

own_names : (ds : List d.Decl) → AllByRecursion IsGoodDecl ds → AllByRecursion IsName (map decl_bytes ds)
own_names [] good = tt
own_names (a ∷ rest) good = (own_name a good.0.names, own_names rest good.1)

named_predicate : {w : World} {at : _} {x : _} {params : _} {body : _} {q : p.Predicate} → IsPredicate w at x params body q → q.name ≡ x.name
named_predicate (predicate_of h b) = refl

named_method : {w : World} {bodies : List (Option e.Assertion)} {m : d.SMethod} {q : p.Method} → IsMethod w bodies m q → q.name ≡ m.name.name
named_method (method_of hp hr hc hb) = refl

-- what holds of a method's name too
with_method : (P : List ℕ → Type 0) (fs ps ms : List (List ℕ)) (x : List ℕ) → AllByRecursion P (fs ++ (ps ++ ms)) → P x → AllByRecursion P (fs ++ (ps ++ x ∷ ms))
with_method P fs ps ms x h i =
    subst (AllByRecursion P) (append_assoc fs ps (x ∷ ms)) (all_among P (fs ++ ps) ms x (subst (AllByRecursion P) (sym (append_assoc fs ps ms)) h) i)

apart_method : (fs ps ms : List (List ℕ)) (x : List ℕ) → Apart (fs ++ (ps ++ ms)) → IsNew x (fs ++ (ps ++ ms)) → Apart (fs ++ (ps ++ x ∷ ms))
apart_method fs ps ms x h i =
    let moved = sym (append_assoc fs ps ms) in
    subst Apart (append_assoc fs ps (x ∷ ms)) (apart_among (fs ++ ps) ms x (subst Apart moved h) (subst (IsNew x) moved i))

all_kinds : {w : World} {bodies : List (Option e.Assertion)} {ds : List d.Decl} {xs : List Declared} (P : List ℕ → Type 0) → AreDeclared w bodies ds xs →
    AllByRecursion P (map decl_bytes ds) →
    AllByRecursion P (names_by_kind xs)
all_kinds P no_decls h = tt
all_kinds P (one_decl (r.field is) hs) h = (h.0, all_kinds P hs h.1)
all_kinds P (one_decl {xs = xs} (r.predicate {q = q} i) hs) h =
    all_among P (field_names xs) (map predicate_name (predicates_in xs) ++ map method_name (methods_in xs)) q.name (all_kinds P hs h.1)
    (subst P (sym (named_predicate i)) h.0)
all_kinds P (one_decl {xs = xs} (r.method {q = q} i) hs) h =
    with_method P (field_names xs) (map predicate_name (predicates_in xs)) (map method_name (methods_in xs)) q.name (all_kinds P hs h.1)
    (subst P (sym (named_method i)) h.0)

kinds_apart : {w : World} {bodies : List (Option e.Assertion)} {ds : List d.Decl} {xs : List Declared} → AreDeclared w bodies ds xs → Apart (map decl_bytes ds) →
    Apart (names_by_kind xs)
kinds_apart no_decls h = tt
kinds_apart (one_decl {xs = xs} (r.field {f = f} is) hs) h = (all_kinds _ hs h.0, kinds_apart hs h.1)
kinds_apart (one_decl {xs = xs} (r.predicate {q = q} i) hs) h =
    apart_among (field_names xs) (map predicate_name (predicates_in xs) ++ map method_name (methods_in xs)) q.name (kinds_apart hs h.1)
    (subst (λ x. IsNew x (names_by_kind xs)) (sym (named_predicate i)) (all_kinds _ hs h.0))
kinds_apart (one_decl {xs = xs} (r.method {q = q} i) hs) h =
    apart_method (field_names xs) (map predicate_name (predicates_in xs)) (map method_name (methods_in xs)) q.name (kinds_apart hs h.1)
    (subst (λ x. IsNew x (names_by_kind xs)) (sym (named_method i)) (all_kinds _ hs h.0))

-- ---- how many there are

few_of_each : {w : World} {bodies : List (Option e.Assertion)} {ds : List d.Decl} {xs : List Declared} → AreDeclared w bodies ds xs →
    length (field_names xs) + length (predicates_in xs) + length (methods_in xs) ≤ length (decls_names ds)
few_of_each no_decls = omega arith
few_of_each (one_decl {a = a} {rest = rest} (r.field is) hs) = omega (arith, few_of_each hs, length-append (decl_names a) (decls_names rest))
few_of_each (one_decl {a = a} {rest = rest} (r.predicate i) hs) = omega (arith, few_of_each hs, length-append (decl_names a) (decls_names rest))
few_of_each (one_decl {a = a} {rest = rest} (r.method i) hs) = omega (arith, few_of_each hs, length-append (decl_names a) (decls_names rest))

-- ---- predicates and methods

predicates_are_formed : {w : World} {bodies : List (Option e.Assertion)} {ds : List d.Decl} {xs : List Declared} (q : p.Program) → Describes w bodies q →
    AreDeclared w bodies ds xs → AllByRecursion IsGoodDecl ds →
    AllByRecursion (g.IsPredicate q) (predicates_in xs)
predicates_are_formed q z no_decls good = tt
predicates_are_formed q z (one_decl (r.field is) hs) good = predicates_are_formed q z hs good.1
predicates_are_formed {w} {bodies} q z (one_decl (r.predicate h) hs) good = (predicate_is_formed w bodies q z h good.0, predicates_are_formed q z hs good.1)
predicates_are_formed q z (one_decl (r.method h) hs) good = predicates_are_formed q z hs good.1

methods_are_formed : {w : World} {bodies : List (Option e.Assertion)} {ds : List d.Decl} {xs : List Declared} (q : p.Program) → Describes w bodies q →
    AreDeclared w bodies ds xs → AllByRecursion IsGoodDecl ds →
    AllByRecursion (g.IsMethod q) (methods_in xs)
methods_are_formed q z no_decls good = tt
methods_are_formed q z (one_decl (r.field is) hs) good = methods_are_formed q z hs good.1
methods_are_formed q z (one_decl (r.predicate h) hs) good = methods_are_formed q z hs good.1
methods_are_formed {w} {bodies} q z (one_decl (r.method h) hs) good = (method_is_formed w bodies q z h good.0, methods_are_formed q z hs good.1)

-- ---- programs

pub described : {w : World} {ds : List d.Decl} {xs : List Declared} → AreNamed no_world ds w → AreDeclared w (bodies_in xs) ds xs →
    Describes w (bodies_in xs) (assembled no_program xs)
described {w} {ds} {xs} named declared =
    let q = assembled no_program xs in
    let predicates = has_predicates no_program xs in
    describes w (bodies_in xs) q (world_fields named declared ∙ sym (has_field_types no_program xs))
    (world_predicates named declared ∙ sym (ap (map signature) predicates))
    (world_methods named declared ∙ sym (ap (map method_signature) (has_methods no_program xs)))
    (bodies_are xs ∙ sym (ap (map body_in) predicates))
    (has_layout xs).fields

assembled_is_formed : {w : World} {xs : List Declared} (ds : List d.Decl) → AllByRecursion IsGoodDecl ds → length (decls_names ds) < 2 ^ 32 → AreNamed no_world ds w → AreDeclared w (bodies_in xs) ds xs →
    IsTypedProgram (assembled no_program xs)
assembled_is_formed {w} {xs} ds good few named declared =
    let q = assembled no_program xs in
    let z = described named declared in
    let all_names : AllByRecursion IsName (names_by_kind xs) = all_kinds IsName declared (own_names ds good) in
    let fields = ap (λ ns. length ns) (has_fields no_program xs) in
    let predicates = ap (λ qs. length qs) (has_predicates no_program xs) in
    let methods = ap (λ ms. length ms) (has_methods no_program xs) in
    record {
      names = subst AreNames (sym (global_names_are xs)) (record {
        names = All-from_recursion IsName (names_by_kind xs) all_names;
        differ = differ_from_apart (names_by_kind xs) (kinds_apart declared (decls_apart named).1);
      });
      layout = has_layout xs;
      units = has_units xs;
      few = record {
        fields = omega (arith, few, few_of_each declared, fields);
        predicates = omega (arith, few, few_of_each declared, predicates);
        methods = omega (arith, few, few_of_each declared, methods);
      };
      predicates =
          subst (λ qs. All (g.IsPredicate q) qs) (sym (has_predicates no_program xs))
          (All-from_recursion (g.IsPredicate q) (predicates_in xs) (predicates_are_formed q z declared good));
      methods =
          subst (λ ms. All (g.IsMethod q) ms) (sym (has_methods no_program xs))
          (All-from_recursion (g.IsMethod q) (methods_in xs) (methods_are_formed q z declared good));
    }

pub typed_program_is_formed : {source : d.SourceProgram} {q : p.Program} → IsGoodSource source → IsProgram source q → IsTypedProgram q
typed_program_is_formed {source} good (program_of named declared) =
    let ds = source.decls in
    assembled_is_formed ds (good_decls ds good.shallow good.literals good.names.declared good.few) good.few named declared
