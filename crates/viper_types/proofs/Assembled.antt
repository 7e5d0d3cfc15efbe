-- What the declarations of a file become in its program.
use Rattle.std.proofs.Common.{◌≡◌, ◌∙◌, ℕ, suc, ◌+◌, Bool, true, false, Option, List, [], ◌∷◌, ◌++◌, length, map, is_some, if◌then◌else◌, refl, sym, ap, append_assoc, append-nil}
use Rattle.std.specs.List.{range_with_len}
use Rattle.std.proofs.lemmas.List.{length_push}
use Rattle.vb_value.specs.declared.values.Ty.{Ty}
use Rattle.viper_core.specs.Expr as e
use Rattle.viper_core.specs.Formed.{below, methods_among, predicates_among, with_body_from, global_names, HasLayout, HasUnits}
use Rattle.viper_core.specs.Program as p
use Rattle.viper_core.specs.declared.programs.Unit as unit
use Rattle.viper_core.specs.declared.programs.Unit.TheVariants as one
use Rattle.viper_types.specs.Declaring.{Declared, FieldOf, PredicateOf, MethodOf, no_program, predicate_units, with_declared, assembled}
use Rattle.viper_types.specs.Program.{bodies_in}

-- ---- the declarations of each kind, in order

abbrev pub field_names : List Declared → List (List ℕ)
field_names [] = []
field_names (FieldOf x u ∷ xs) = x ∷ field_names xs
field_names (PredicateOf q ∷ xs) = field_names xs
field_names (MethodOf m ∷ xs) = field_names xs

abbrev pub field_types : List Declared → List Ty
field_types [] = []
field_types (FieldOf x u ∷ xs) = u ∷ field_types xs
field_types (PredicateOf q ∷ xs) = field_types xs
field_types (MethodOf m ∷ xs) = field_types xs

abbrev pub predicates_in : List Declared → List p.Predicate
predicates_in [] = []
predicates_in (FieldOf x u ∷ xs) = predicates_in xs
predicates_in (PredicateOf q ∷ xs) = q ∷ predicates_in xs
predicates_in (MethodOf m ∷ xs) = predicates_in xs

abbrev pub methods_in : List Declared → List p.Method
methods_in [] = []
methods_in (FieldOf x u ∷ xs) = methods_in xs
methods_in (PredicateOf q ∷ xs) = methods_in xs
methods_in (MethodOf m ∷ xs) = m ∷ methods_in xs

abbrev pub params_in : p.Predicate → List Ty
params_in q = q.params

abbrev pub body_in : p.Predicate → Option e.Assertion
body_in q = q.body

pub bodies_are : (xs : List Declared) → bodies_in xs ≡ map body_in (predicates_in xs)
bodies_are [] = refl
bodies_are (FieldOf x u ∷ xs) = bodies_are xs
bodies_are (PredicateOf q ∷ xs) = ap (λ bs. q.body ∷ bs) (bodies_are xs)
bodies_are (MethodOf m ∷ xs) = bodies_are xs

pub as_many_types : (xs : List Declared) → length (field_types xs) ≡ length (field_names xs)
as_many_types [] = refl
as_many_types (FieldOf x u ∷ xs) = ap (λ n. suc n) (as_many_types xs)
as_many_types (PredicateOf q ∷ xs) = as_many_types xs
as_many_types (MethodOf m ∷ xs) = as_many_types xs

-- ---- each part of the program

pub has_fields : (g : p.Program) (xs : List Declared) → (assembled g xs).fields ≡ g.fields ++ field_names xs
has_fields g [] = sym (append-nil g.fields)
has_fields g (FieldOf x u ∷ xs) = has_fields (with_declared g (FieldOf x u)) xs ∙ append_assoc g.fields (x ∷ []) (field_names xs)
has_fields g (PredicateOf q ∷ xs) = has_fields (with_declared g (PredicateOf q)) xs
has_fields g (MethodOf m ∷ xs) = has_fields (with_declared g (MethodOf m)) xs

pub has_field_types : (g : p.Program) (xs : List Declared) → (assembled g xs).layout.fields ≡ g.layout.fields ++ field_types xs
has_field_types g [] = sym (append-nil g.layout.fields)
has_field_types g (FieldOf x u ∷ xs) = has_field_types (with_declared g (FieldOf x u)) xs ∙ append_assoc g.layout.fields (u ∷ []) (field_types xs)
has_field_types g (PredicateOf q ∷ xs) = has_field_types (with_declared g (PredicateOf q)) xs
has_field_types g (MethodOf m ∷ xs) = has_field_types (with_declared g (MethodOf m)) xs

has_keys : (g : p.Program) (xs : List Declared) → (assembled g xs).layout.keys ≡ g.layout.keys ++ map params_in (predicates_in xs)
has_keys g [] = sym (append-nil g.layout.keys)
has_keys g (FieldOf x u ∷ xs) = has_keys (with_declared g (FieldOf x u)) xs
has_keys g (PredicateOf q ∷ xs) = has_keys (with_declared g (PredicateOf q)) xs ∙ append_assoc g.layout.keys (q.params ∷ []) (map params_in (predicates_in xs))
has_keys g (MethodOf m ∷ xs) = has_keys (with_declared g (MethodOf m)) xs

pub has_predicates : (g : p.Program) (xs : List Declared) → (assembled g xs).predicates ≡ g.predicates ++ predicates_in xs
has_predicates g [] = sym (append-nil g.predicates)
has_predicates g (FieldOf x u ∷ xs) = has_predicates (with_declared g (FieldOf x u)) xs
has_predicates g (PredicateOf q ∷ xs) = has_predicates (with_declared g (PredicateOf q)) xs ∙ append_assoc g.predicates (q ∷ []) (predicates_in xs)
has_predicates g (MethodOf m ∷ xs) = has_predicates (with_declared g (MethodOf m)) xs

pub has_methods : (g : p.Program) (xs : List Declared) → (assembled g xs).methods ≡ g.methods ++ methods_in xs
has_methods g [] = sym (append-nil g.methods)
has_methods g (FieldOf x u ∷ xs) = has_methods (with_declared g (FieldOf x u)) xs
has_methods g (PredicateOf q ∷ xs) = has_methods (with_declared g (PredicateOf q)) xs
has_methods g (MethodOf m ∷ xs) = has_methods (with_declared g (MethodOf m)) xs ∙ append_assoc g.methods (m ∷ []) (methods_in xs)

pub has_layout : (xs : List Declared) → HasLayout (assembled no_program xs)
has_layout xs = record {
  fields = ap (λ us. length us) (has_field_types no_program xs) ∙ as_many_types xs ∙ sym (ap (λ ns. length ns) (has_fields no_program xs));
  keys = has_keys no_program xs ∙ sym (ap (λ qs. map params_in qs) (has_predicates no_program xs));
}

-- ---- units

methods_among_both : (us vs : List unit.Unit) → methods_among (us ++ vs) ≡ methods_among us ++ methods_among vs
methods_among_both [] vs = refl
methods_among_both (one.Method n ∷ us) vs = ap (λ ns. n ∷ ns) (methods_among_both us vs)
methods_among_both (one.Predicate n ∷ us) vs = methods_among_both us vs

predicates_among_both : (us vs : List unit.Unit) → predicates_among (us ++ vs) ≡ predicates_among us ++ predicates_among vs
predicates_among_both [] vs = refl
predicates_among_both (one.Method n ∷ us) vs = predicates_among_both us vs
predicates_among_both (one.Predicate n ∷ us) vs = ap (λ ns. n ∷ ns) (predicates_among_both us vs)

no_method_unit : (b : Bool) (n : ℕ) → methods_among (if b then one.Predicate n ∷ [] else []) ≡ []
no_method_unit true n = refl
no_method_unit false n = refl

method_units : (g : p.Program) (xs : List Declared) →
    methods_among (assembled g xs).units ≡ methods_among g.units ++ range_with_len (length g.methods) (length (methods_in xs))
method_units g [] = sym (append-nil (methods_among g.units))
method_units g (FieldOf x u ∷ xs) = method_units (with_declared g (FieldOf x u)) xs
method_units g (PredicateOf q ∷ xs) =
    let n = length g.predicates in
    let rest = range_with_len (length g.methods) (length (methods_in xs)) in
    method_units (with_declared g (PredicateOf q)) xs ∙ ap (λ ns. ns ++ rest) (methods_among_both g.units (predicate_units q n)) ∙
    ap (λ ns. (methods_among g.units ++ ns) ++ rest) (no_method_unit (is_some q.body) n) ∙ ap (λ ns. ns ++ rest) (append-nil (methods_among g.units))
method_units g (MethodOf m ∷ xs) =
    let n = length g.methods in
    let k = length (methods_in xs) in
    method_units (with_declared g (MethodOf m)) xs ∙ ap (λ ns. ns ++ range_with_len (length (g.methods ++ m ∷ [])) k) (methods_among_both g.units (one.Method n ∷ [])) ∙
    ap (λ i. (methods_among g.units ++ n ∷ []) ++ range_with_len i k) (length_push g.methods m) ∙
    append_assoc (methods_among g.units) (n ∷ []) (range_with_len (n + 1) k)

first_unit : (b : Bool) (n : ℕ) (ns : List ℕ) →
    predicates_among (if b then one.Predicate n ∷ [] else []) ++ ns ≡ (if b then n ∷ ns else ns)
first_unit true n ns = refl
first_unit false n ns = refl

predicate_units_are : (g : p.Program) (xs : List Declared) →
    predicates_among (assembled g xs).units ≡ predicates_among g.units ++ with_body_from (length g.predicates) (predicates_in xs)
predicate_units_are g [] = sym (append-nil (predicates_among g.units))
predicate_units_are g (FieldOf x u ∷ xs) = predicate_units_are (with_declared g (FieldOf x u)) xs
predicate_units_are g (PredicateOf q ∷ xs) =
    let n = length g.predicates in
    let rest = predicates_in xs in
    let here = predicates_among (predicate_units q n) in
    predicate_units_are (with_declared g (PredicateOf q)) xs ∙
    ap (λ ns. ns ++ with_body_from (length (g.predicates ++ q ∷ [])) rest) (predicates_among_both g.units (predicate_units q n)) ∙
    ap (λ i. (predicates_among g.units ++ here) ++ with_body_from i rest) (length_push g.predicates q) ∙
    append_assoc (predicates_among g.units) here (with_body_from (n + 1) rest) ∙
    ap (λ ns. predicates_among g.units ++ ns) (first_unit (is_some q.body) n (with_body_from (n + 1) rest))
predicate_units_are g (MethodOf m ∷ xs) =
    let rest = with_body_from (length g.predicates) (predicates_in xs) in
    predicate_units_are (with_declared g (MethodOf m)) xs ∙ ap (λ ns. ns ++ rest) (predicates_among_both g.units (one.Method (length g.methods) ∷ [])) ∙
    ap (λ ns. ns ++ rest) (append-nil (predicates_among g.units))

pub has_units : (xs : List Declared) → HasUnits (assembled no_program xs)
has_units xs = record {
  methods = method_units no_program xs ∙ sym (ap (λ ms. below (length ms)) (has_methods no_program xs));
  predicates = predicate_units_are no_program xs ∙ sym (ap (λ qs. with_body_from 0 qs) (has_predicates no_program xs));
}

-- ---- names of the shared space

abbrev pub predicate_name : p.Predicate → List ℕ
predicate_name q = q.name

abbrev pub method_name : p.Method → List ℕ
method_name m = m.name

-- those of each kind
abbrev pub names_by_kind : List Declared → List (List ℕ)
names_by_kind xs = field_names xs ++ (map predicate_name (predicates_in xs) ++ map method_name (methods_in xs))

pub global_names_are : (xs : List Declared) → global_names (assembled no_program xs) ≡ names_by_kind xs
global_names_are xs =
    let fields = (assembled no_program xs).fields in
    let predicates = (assembled no_program xs).predicates in
    let methods = (assembled no_program xs).methods in
    append_assoc fields (map predicate_name predicates) (map method_name methods) ∙
    ap (λ ns. ns ++ (map predicate_name predicates ++ map method_name methods)) (has_fields no_program xs) ∙
    ap (λ qs. field_names xs ++ (map predicate_name qs ++ map method_name methods)) (has_predicates no_program xs) ∙
    ap (λ ms. field_names xs ++ (map predicate_name (predicates_in xs) ++ map method_name ms)) (has_methods no_program xs)
