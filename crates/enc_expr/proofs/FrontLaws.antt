-- The names of the locals that hold an opening are names, no two of them are the same, and each has a type.
use Rattle.std.proofs.Common.{◌≡◌, ◌≢◌, ◌∙◌, ◌+◌, ℕ, suc, Bool, true, false, ◌&&◌, not, List, [], ◌∷◌, ◌++◌, map, All, Contains, IsTrue, Option, Some, None, length, length-append, slice_get, slice_index_or, refl, sym, ap, subst, arith}
use Rattle.std.proofs.lemmas.Bool.{and_parts}
use Rattle.std.proofs.lemmas.List.{length-map, length-take-le, get_or_append_left, get_or-append-add}
use Rattle.std.proofs.lemmas.List.Elements.{All-nil, All-cons, All-head, All-tail, All-append, All-map, All-weaker}
use Rattle.std.proofs.lemmas.List.Kept.{AllPairs-cons}
use Rattle.std.specs.List.{list_all}
use Rattle.viper_core.proofs.PartLaws.{at_least}
use Rattle.lemmas.proofs.Lists.{drop_two}
use Rattle.vb_base.specs.Names.{is_name_start, is_name_byte, is_name, is_word, is_viper_name, NamesDiffer}
use Rattle.viper_core.specs.Formed.{AreNames, IsFormed, IsTypedProgram, method_scope}
use Rattle.viper_core.specs.Program.{Program, Predicate, Method}
use Rattle.viper_core.specs.declared.programs.Unit.{Unit}
use Rattle.viper_core.specs.declared.programs.Unit.TheVariants as unit
use Rattle.viper_core.proofs.FormedLaws.{predicate_of_typed, method_of_typed}
use Rattle.moves.specs.Scalars.{variable_type}
use Rattle.moves.specs.Maps.{heap_type, content_type}
use Rattle.enc_expr.specs.Front.{variable_name, heap_name, content_name, names_of_method, names_of_predicate, types_of_method, types_of_predicate, names_of, types_of, HasFront}

-- ---- names that differ

pub differ_left : (xs ys : List (List ℕ)) → NamesDiffer (xs ++ ys) → NamesDiffer xs
differ_left xs ys h i j d below within e =
    h i j d below (omega (arith, within, length-append xs ys))
    (get_or_append_left xs ys d i (omega (arith, below, within)) ∙ (e ∙ sym (get_or_append_left xs ys d j within)))

pub differ_right : (xs ys : List (List ℕ)) → NamesDiffer (xs ++ ys) → NamesDiffer ys
differ_right xs ys h i j d below within e =
    h (length xs + i) (length xs + j) d (omega (arith, below)) (omega (arith, within, length-append xs ys))
    (get_or-append-add xs ys i d ∙ (e ∙ sym (get_or-append-add xs ys j d)))

pub all_left : (P : List ℕ → Type 0) (xs ys : List (List ℕ)) → All P (xs ++ ys) → All P xs
all_left P xs ys h k d within = subst P (get_or_append_left xs ys d k within) (h k d (omega (arith, within, length-append xs ys)))

pub all_right : (P : List ℕ → Type 0) (xs ys : List (List ℕ)) → All P (xs ++ ys) → All P ys
all_right P xs ys h k d within = subst P (get_or-append-add xs ys k d) (h (length xs + k) d (omega (arith, within, length-append xs ys)))

pub no_names : NamesDiffer []
no_names i j d below within = absurd (omega (arith, within))

pub first_differs : (x : List ℕ) (xs : List (List ℕ)) → NamesDiffer (x ∷ xs) → All (λ y. x ≢ y) xs
first_differs x xs h k d within = h 0 (suc k) d (omega arith) (omega (arith, within))

pub rest_differ : (x : List ℕ) (xs : List (List ℕ)) → NamesDiffer (x ∷ xs) → NamesDiffer xs
rest_differ x xs h i j d below within = h (suc i) (suc j) d (omega (arith, below)) (omega (arith, within))

pub map_differ : (f : List ℕ → List ℕ) → ((x y : List ℕ) → f x ≡ f y → x ≡ y) → (xs : List (List ℕ)) → NamesDiffer xs → NamesDiffer (map f xs)
map_differ f same [] h = no_names
map_differ f same (x ∷ xs) h = AllPairs-cons (λ a b. a ≢ b) (f x) (map f xs)
    (All-map (λ y. f x ≢ y) f xs (All-weaker (λ y. x ≢ y) (λ y. f x ≢ f y) (λ y other e. other (same x y e)) xs (first_differs x xs h)))
    (map_differ f same xs (rest_differ x xs h))

pub append_differ : (P Q : List ℕ → Type 0) → ((x y : List ℕ) → P x → Q y → x ≢ y) → (xs ys : List (List ℕ)) → All P xs → All Q ys → NamesDiffer xs → NamesDiffer ys → NamesDiffer (xs ++ ys)
append_differ P Q apart [] ys ps qs h k = k
append_differ P Q apart (x ∷ xs) ys ps qs h k = AllPairs-cons (λ a b. a ≢ b) x (xs ++ ys)
    (All-append (λ y. x ≢ y) xs ys (first_differs x xs h) (All-weaker Q (λ y. x ≢ y) (λ y q. apart x y (All-head P x xs ps) q) ys qs))
    (append_differ P Q apart xs ys (All-tail P x xs ps) qs (rest_differ x xs h) k)

-- ---- the form

start_is_byte : (b : ℕ) → is_name_start b ≡ true → is_name_byte b ≡ true
start_is_byte b h = rw h refl

pub bytes_of_name : (x : List ℕ) → is_name x ≡ true → list_all is_name_byte x ≡ true
bytes_of_name [] h = refl
bytes_of_name (b ∷ x) h = let parts = and_parts (is_name_start b) (list_all is_name_byte x) h in
    subst (λ (q : Bool). (q && list_all is_name_byte x) ≡ true) (sym (start_is_byte b parts.0)) parts.1

with_true : (b : Bool) → b ≡ true → (b && true) ≡ true
with_true true h = refl
with_true false h = absurd cc

variable_is_name : (x : List ℕ) → IsTrue (is_viper_name x) → IsTrue (is_viper_name (variable_name x))
unfolding is_word
variable_is_name x h = with_true (list_all is_name_byte x) (bytes_of_name x (and_parts (is_name x) (not (is_word x)) h).0)

heap_is_name : (x : List ℕ) → IsTrue (is_viper_name x) → IsTrue (is_viper_name (heap_name x))
unfolding is_word
heap_is_name x h = with_true (list_all is_name_byte x) (bytes_of_name x (and_parts (is_name x) (not (is_word x)) h).0)

content_is_name : (x : List ℕ) → IsTrue (is_viper_name x) → IsTrue (is_viper_name (content_name x))
unfolding is_word
content_is_name x h = with_true (list_all is_name_byte x) (bytes_of_name x (and_parts (is_name x) (not (is_word x)) h).0)

-- what tells the kind
abbrev begins : ℕ → List ℕ → Type 0
begins b x = slice_index_or x 0 0 ≡ b

kinds_apart : (a b : ℕ) → a ≢ b → (x y : List ℕ) → begins a x → begins b y → x ≢ y
kinds_apart a b other x y h k e = other (sym h ∙ (ap (λ (z : List ℕ). slice_index_or z 0 0) e ∙ k))

marked_at : (a : ℕ) (x : List ℕ) → Contains (a ∷ 36 ∷ x) 36
marked_at a x = (1, omega arith, refl)

-- ---- the names of a program

no_list : AreNames []
no_list = record { names = All-nil (λ x. IsTrue (is_viper_name x)); differ = no_names }

method_names : (p : Program) → IsTypedProgram p → (n : ℕ) (o : Option Method) → slice_get p.methods n ≡ o → AreNames (names_of_method o)
method_names p h n None is = no_list
method_names p h n (Some m) is = (method_of_typed p h n m is).names

predicate_names : (p : Program) → IsTypedProgram p → (n : ℕ) (o : Option Predicate) → slice_get p.predicates n ≡ o → AreNames (names_of_predicate o)
predicate_names p h n None is = no_list
predicate_names p h n (Some d) is = (predicate_of_typed p h n d is).names

unit_names : (p : Program) → IsTypedProgram p → (u : Unit) → AreNames (names_of p u)
unit_names p h (unit.Method n) = method_names p h n (slice_get p.methods n) refl
unit_names p h (unit.Predicate n) = predicate_names p h n (slice_get p.predicates n) refl

-- ---- as many types

method_as_many : (p : Program) → IsTypedProgram p → (n : ℕ) (o : Option Method) → slice_get p.methods n ≡ o → length (types_of_method o) ≡ length (names_of_method o)
method_as_many p h n None is = refl
method_as_many p h n (Some m) is = let formed = method_of_typed p h n m is in
    length-take-le (m.params + m.returns) m.vars (omega (arith, formed.variables, at_least (method_scope m) m.body)) ∙ sym formed.as_many

predicate_as_many : (p : Program) → IsTypedProgram p → (n : ℕ) (o : Option Predicate) → slice_get p.predicates n ≡ o → length (types_of_predicate o) ≡ length (names_of_predicate o)
predicate_as_many p h n None is = refl
predicate_as_many p h n (Some d) is = sym (predicate_of_typed p h n d is).as_many

unit_as_many : (p : Program) → IsTypedProgram p → (u : Unit) → length (types_of p u) ≡ length (names_of p u)
unit_as_many p h (unit.Method n) = method_as_many p h n (slice_get p.methods n) refl
unit_as_many p h (unit.Predicate n) = predicate_as_many p h n (slice_get p.predicates n) refl

lengths : {X Y Z U : Type 0} (xs : List X) (ys : List Y) (zs : List Z) (f : X → U) (g : Y → U) (k : Z → U) → length (map f xs ++ map g ys ++ map k zs) ≡ length xs + length ys + length zs
lengths xs ys zs f g k = omega (arith, length-append (map f xs ++ map g ys) (map k zs), length-append (map f xs) (map g ys), length-map xs f, length-map ys g, length-map zs k)

abbrev is_name_of : List ℕ → Type 0
is_name_of x = IsTrue (is_viper_name x)

abbrev has_mark : List ℕ → Type 0
has_mark x = Contains x 36

-- ---- what is promised

pub front : (p : Program) (u : Unit) → IsFormed p → HasFront p u
front p u h = record {
  names = record {
    names = All-append is_name_of (vars ++ heaps) contents (All-append is_name_of vars heaps (All-map is_name_of variable_name (names_of p u) (All-weaker is_name_of (λ x. is_name_of (variable_name x)) variable_is_name (names_of p u) own.names))
        (All-map is_name_of heap_name p.fields (All-weaker is_name_of (λ x. is_name_of (heap_name x)) heap_is_name p.fields field_names)))
        (All-map is_name_of (λ (d : Predicate). content_name d.name) p.predicates predicate_forms);
    differ = append_differ (λ x. slice_index_or x 0 0 ≢ 99) (begins 99) (λ x y other k e. other (ap (λ (z : List ℕ). slice_index_or z 0 0) e ∙ k)) (vars ++ heaps) contents
        (All-append (λ x. slice_index_or x 0 0 ≢ 99) vars heaps (All-map (λ x. slice_index_or x 0 0 ≢ 99) variable_name (names_of p u) (λ k d within. λ e. absurd (omega (arith, e))))
        (All-map (λ x. slice_index_or x 0 0 ≢ 99) heap_name p.fields (λ k d within. λ e. absurd (omega (arith, e)))))
        (All-map (begins 99) (λ (d : Predicate). content_name d.name) p.predicates (λ k d within. refl))
        (append_differ (begins 118) (begins 104) (kinds_apart 118 104 (λ e. absurd (omega (arith, e)))) vars heaps (All-map (begins 118) variable_name (names_of p u) (λ k d within. refl)) (All-map (begins 104) heap_name p.fields (λ k d within. refl))
        (map_differ variable_name (drop_two 118 36) (names_of p u) own.differ) (map_differ heap_name (drop_two 104 36) p.fields fields_differ))
        (subst NamesDiffer (maps_twice p.predicates) (map_differ content_name (drop_two 99 36) predicates predicates_differ));
  };
  marked = All-append has_mark (vars ++ heaps) contents (All-append has_mark vars heaps (All-map has_mark variable_name (names_of p u) (λ k d within. marked_at 118 _)) (All-map has_mark heap_name p.fields (λ k d within. marked_at 104 _)))
      (All-map has_mark (λ (d : Predicate). content_name d.name) p.predicates (λ k d within. marked_at 99 _));
  as_many = let kept = h.typed.layout in omega (
    arith,
    lengths (types_of p u) p.layout.fields p.layout.keys variable_type heap_type content_type,
    lengths (names_of p u) p.fields p.predicates variable_name heap_name (λ (d : Predicate). content_name d.name),
    unit_as_many p h.typed u,
    kept.fields,
    ap length kept.keys,
    length-map p.predicates (λ (d : Predicate). d.params),
  );
}
  where
    vars : List (List ℕ)
    vars = map variable_name (names_of p u)

    heaps : List (List ℕ)
    heaps = map heap_name p.fields

    contents : List (List ℕ)
    contents = map (λ (d : Predicate). content_name d.name) p.predicates

    predicates : List (List ℕ)
    predicates = map (λ (d : Predicate). d.name) p.predicates

    own : AreNames (names_of p u)
    own = unit_names p h.typed u

    field_names : All (λ x. IsTrue (is_viper_name x)) p.fields
    field_names = all_left (λ x. IsTrue (is_viper_name x)) p.fields (map (λ (d : Predicate). d.name) p.predicates)
        (all_left (λ x. IsTrue (is_viper_name x)) (p.fields ++ map (λ (d : Predicate). d.name) p.predicates) (map (λ (m : Method). m.name) p.methods) h.typed.names.names)

    fields_differ : NamesDiffer p.fields
    fields_differ = differ_left p.fields (map (λ (d : Predicate). d.name) p.predicates)
        (differ_left (p.fields ++ map (λ (d : Predicate). d.name) p.predicates) (map (λ (m : Method). m.name) p.methods) h.typed.names.differ)

    predicates_differ : NamesDiffer (map (λ (d : Predicate). d.name) p.predicates)
    predicates_differ = differ_right p.fields (map (λ (d : Predicate). d.name) p.predicates)
        (differ_left (p.fields ++ map (λ (d : Predicate). d.name) p.predicates) (map (λ (m : Method). m.name) p.methods) h.typed.names.differ)

    maps_twice : (ds : List Predicate) → map content_name (map (λ (d : Predicate). d.name) ds) ≡ map (λ (d : Predicate). content_name d.name) ds
    maps_twice [] = refl
    maps_twice (d ∷ ds) = ap (λ (xs : List (List ℕ)). content_name d.name ∷ xs) (maps_twice ds)

    predicate_forms : All (λ (d : Predicate). IsTrue (is_viper_name (content_name d.name))) p.predicates
    predicate_forms = each_form p.predicates (All-weaker (λ x. IsTrue (is_viper_name x)) (λ x. IsTrue (is_viper_name (content_name x))) content_is_name (map (λ (d : Predicate). d.name) p.predicates)
        (all_right (λ x. IsTrue (is_viper_name x)) p.fields (map (λ (d : Predicate). d.name) p.predicates)
        (all_left (λ x. IsTrue (is_viper_name x)) (p.fields ++ map (λ (d : Predicate). d.name) p.predicates) (map (λ (m : Method). m.name) p.methods) h.typed.names.names)))
      where
        each_form : (ds : List Predicate) → All (λ x. IsTrue (is_viper_name (content_name x))) (map (λ (d : Predicate). d.name) ds) → All (λ (d : Predicate). IsTrue (is_viper_name (content_name d.name))) ds
        each_form [] h = All-nil (λ (d : Predicate). IsTrue (is_viper_name (content_name d.name)))
        each_form (d ∷ ds) h = All-cons (λ (d : Predicate). IsTrue (is_viper_name (content_name d.name))) d ds (All-head (λ x. IsTrue (is_viper_name (content_name x))) d.name (map (λ (d : Predicate). d.name) ds) h)
            (each_form ds (All-tail (λ x. IsTrue (is_viper_name (content_name x))) d.name (map (λ (d : Predicate). d.name) ds) h))
