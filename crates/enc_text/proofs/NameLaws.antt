-- The names of the locals of a procedure are free, and no two of them are the same.
use Rattle.std.proofs.Common.{◌≡◌, ◌≢◌, ◌∙◌, ◌+◌, ◌≤◌, ◌<◌, ◌^◌, ◌==◌, ℕ, suc, true, false, not, if◌then◌else◌, IsTrue, List, [], ◌∷◌, ◌++◌, map, All, Option, Some, None, get_or, slice_get, slice_index_or, length, length-append, refl, sym, ap, subst, arith}
use Rattle.std.specs.Fmt.{decimal}
use Rattle.std.proofs.lemmas.Bool.{and_parts}
use Rattle.std.proofs.lemmas.Fmt.{decimal_injective}
use Rattle.std.proofs.lemmas.List.Elements.{All-nil, All-cons, All-head, All-tail, All-append, All-map, All-weaker}
use Rattle.std.proofs.lemmas.List.Kept.{AllPairs-cons}
use Rattle.std.proofs.lemmas.List.{length-map, length-drop}
use Rattle.std.specs.List.{list_all}
use Rattle.viper_core.proofs.PartLaws.{at_least}
use Rattle.lemmas.proofs.Lists.{drop_two}
use Rattle.vb_base.specs.Names.{is_name, is_name_byte, is_word, is_viper_name, NamesDiffer}
use Rattle.vb_value.specs.declared.values.Ty.{Ty}
use Rattle.viper_core.specs.Formed.{IsFormed, IsTypedProgram, method_scope}
use Rattle.viper_core.specs.Program.{Program, Predicate, Method}
use Rattle.viper_core.specs.declared.programs.Unit.{Unit}
use Rattle.viper_core.specs.declared.programs.Unit.TheVariants as unit
use Rattle.viper_core.proofs.FormedLaws.{method_of_typed}
use Rattle.boogie_tree.specs.Program.{BType, Local}
use Rattle.boogie_tree.specs.declared.exprs.BBase.TheVariants as base
use Rattle.boogie_tree.specs.Values.{is_key, AreKeys, map_type}
use Rattle.boogie_meaning.specs.Programs.{HaveKeys}
use Rattle.boogie_grammar.specs.Grammar.{local_names}
use Rattle.boogie_grammar.specs.Printed.{bound_name}
use Rattle.boogie_grammar.specs.Words.{is_reserved}
use Rattle.boogie_grammar.proofs.WrittenRows.{bound_form}
use Rattle.boogie_print.specs.Printable.{IsFreeName, FitsLocal}
use Rattle.moves.specs.Scalars.{variable_type}
use Rattle.moves.specs.Maps.{heap_type, mask_type, amount_type, content_type}
use Rattle.enc_expr.specs.Emits.{temporary, temporaries}
use Rattle.enc_expr.specs.Front.{variable_name, heap_name, content_name, names_of, types_of, front_names, front_types}
use Rattle.enc_expr.specs.Locals.{mask_name, amount_name, old_heap_name, old_mask_name, old_amount_name, old_content_name, zero_name, other_name, predicate_names, first_of_method, others_of_method, first_other, types_of_others, names_from, state_names, old_names, zero_names, fixed_names, fixed_types, named, locals_of_unit}
use Rattle.enc_expr.proofs.FrontLaws.{front, differ_left, differ_right, all_left, all_right, no_names, first_differs, rest_differ, map_differ, append_differ, bytes_of_name}
use Rattle.enc_expr.proofs.KeyedCode.{states_keyed}

abbrev has_keys : BType → Type 0
has_keys u = AreKeys u.keys

-- ---- temporaries

two_temporaries : (m n : ℕ) (u w : BType) → m < n → n < 2 ^ 64 → (temporary m u).name ≢ (temporary n w).name
two_temporaries m n u w below small e = let same = decimal_injective m n (omega (arith, below, small)) small (drop_two 116 36 (decimal m) (decimal n) e) in omega (arith, below, same)

temporary_free : (n : ℕ) (u : BType) → n < 2 ^ 64 → IsFreeName (temporary n u).name
temporary_free n u small = record { form = bound_form n small; free = refl }

temporaries_fit : (n : ℕ) (us : List BType) → HaveKeys us → n + length us ≤ 2 ^ 64 → All FitsLocal (temporaries n us)
temporaries_fit n [] h small = All-nil FitsLocal
temporaries_fit n (u ∷ us) h small = All-cons FitsLocal (temporary n u) (temporaries (n + 1) us)
    (record { name = temporary_free n u (omega (arith, small)); keys = All-head has_keys u us h })
    (temporaries_fit (n + 1) us (All-tail has_keys u us h) (omega (arith, small)))

later_differ : (m n : ℕ) (u : BType) (us : List BType) → m < n → n + length us ≤ 2 ^ 64 → All (λ y. (temporary m u).name ≢ y) (local_names (temporaries n us))
later_differ m n u [] below small = All-nil (λ y. (temporary m u).name ≢ y)
later_differ m n u (w ∷ us) below small = All-cons (λ y. (temporary m u).name ≢ y) (temporary n w).name (local_names (temporaries (n + 1) us))
    (two_temporaries m n u w below (omega (arith, small))) (later_differ m (n + 1) u us (omega (arith, below)) (omega (arith, small)))

temporaries_differ : (n : ℕ) (us : List BType) → n + length us ≤ 2 ^ 64 → NamesDiffer (local_names (temporaries n us))
temporaries_differ n [] small = no_names
temporaries_differ n (u ∷ us) small = AllPairs-cons (λ a b. a ≢ b) (temporary n u).name (local_names (temporaries (n + 1) us))
    (later_differ n (n + 1) u us (omega arith) (omega (arith, small))) (temporaries_differ (n + 1) us (omega (arith, small)))

-- ---- behind other names

abbrev is_other : List ℕ → Type 0
is_other x = slice_index_or x 0 0 ≢ 116

others_differ : (x : List ℕ) → is_other x → (n : ℕ) (us : List BType) → All (λ y. x ≢ y) (local_names (temporaries n us))
others_differ x h n [] = All-nil (λ y. x ≢ y)
others_differ x h n (u ∷ us) = All-cons (λ y. x ≢ y) (temporary n u).name (local_names (temporaries (n + 1) us)) (λ e. h (ap (λ (z : List ℕ). slice_index_or z 0 0) e)) (others_differ x h (n + 1) us)

all_differ : (xs : List (List ℕ)) (n : ℕ) (us : List BType) → NamesDiffer xs → All is_other xs → n + length us ≤ 2 ^ 64 → NamesDiffer (xs ++ local_names (temporaries n us))
all_differ [] n us h other small = temporaries_differ n us small
all_differ (x ∷ xs) n us h other small = AllPairs-cons (λ a b. a ≢ b) x (xs ++ local_names (temporaries n us))
    (All-append (λ y. x ≢ y) xs (local_names (temporaries n us)) (first_differs x xs h) (others_differ x (All-head is_other x xs other) n us))
    (all_differ xs n us (rest_differ x xs h) (All-tail is_other x xs other) small)

-- ---- locals of names and types

names_of_named : (xs : List (List ℕ)) (us : List BType) → length us ≡ length xs → local_names (named xs us) ≡ xs
names_of_named [] us e = refl
names_of_named (x ∷ xs) [] e = absurd (omega (arith, e))
names_of_named (x ∷ xs) (u ∷ us) e = ap (λ (l : List (List ℕ)). x ∷ l) (names_of_named xs us (omega (arith, e)))

pub length_named : (xs : List (List ℕ)) (us : List BType) → length us ≡ length xs → length (named xs us) ≡ length us
length_named [] us e = sym e
length_named (x ∷ xs) [] e = refl
length_named (x ∷ xs) (u ∷ us) e = ap suc (length_named xs us (omega (arith, e)))

named_fit : (xs : List (List ℕ)) (us : List BType) → All IsFreeName xs → HaveKeys us → All FitsLocal (named xs us)
named_fit [] us h k = All-nil FitsLocal
named_fit (x ∷ xs) [] h k = All-nil FitsLocal
named_fit (x ∷ xs) (u ∷ us) h k = All-cons FitsLocal (record { name = x; ty = u }) (named xs us) (record { name = All-head IsFreeName x xs h; keys = All-head has_keys u us k })
    (named_fit xs us (All-tail IsFreeName x xs h) (All-tail has_keys u us k))

names_append : (ls ms : List Local) → local_names (ls ++ ms) ≡ local_names ls ++ local_names ms
names_append [] ms = refl
names_append (l ∷ ls) ms = ap (λ (xs : List (List ℕ)). l.name ∷ xs) (names_append ls ms)

-- ---- kinds, by the first letters of a name

abbrev rank_of : ℕ → ℕ → ℕ
rank_of a b =
    if a == 118 then 0 else if a == 104 then 1 else if a == 99 then 2 else if a == 109 then 3 else if a == 97 then 4 else
    if a == 111 then (if b == 104 then 5 else if b == 109 then 6 else if b == 97 then 7 else 8) else if a == 122 then 9 else if a == 108 then 10 else if a == 116 then 11 else 12

abbrev rank : List ℕ → ℕ
rank x = rank_of (slice_index_or x 0 0) (slice_index_or x 1 0)

pub record IsBetween (low high : ℕ) (x : List ℕ) : Type 0 where
  least : low ≤ rank x
  most : rank x < high

is_between : (low high : ℕ) (x : List ℕ) (r : ℕ) → rank x ≡ r → low ≤ r → r < high → IsBetween low high x
is_between low high x r is below above = record { least = omega (arith, is, below); most = omega (arith, is, above) }

abbrev is_bytes : List ℕ → Type 0
is_bytes x = list_all is_name_byte x ≡ true

-- names of some kinds, with the types of their locals
pub record AreGood (low high : ℕ) (xs : List (List ℕ)) (us : List BType) : Type 0 where
  pub ranks : All (IsBetween low high) xs
  pub free : All IsFreeName xs
  pub differ : NamesDiffer xs
  pub keyed : HaveKeys us
  pub as_many : length us ≡ length xs

both_good : (a b c : ℕ) {xs ys : List (List ℕ)} {us ws : List BType} → a ≤ b → b ≤ c → AreGood a b xs us → AreGood b c ys ws → AreGood a c (xs ++ ys) (us ++ ws)
both_good a b c {xs} {ys} {us} {ws} below above h k = record {
  ranks = All-append (IsBetween a c) xs ys
      (All-weaker (IsBetween a b) (IsBetween a c) (λ x i. record { least = i.least; most = let m = i.most in omega (arith, m, above) }) xs h.ranks)
      (All-weaker (IsBetween b c) (IsBetween a c) (λ x i. record { least = let l = i.least in omega (arith, l, below); most = i.most }) ys k.ranks);
  free = All-append IsFreeName xs ys h.free k.free;
  differ = append_differ (IsBetween a b) (IsBetween b c) (λ x y i j e. let m = i.most in let l = j.least in let same : rank x ≡ rank y = ap rank e in omega (arith, m, l, same)) xs ys h.ranks k.ranks h.differ k.differ;
  keyed = All-append has_keys us ws h.keyed k.keyed;
  as_many = omega (arith, length-append us ws, length-append xs ys, h.as_many, k.as_many);
}

-- a name and a type for each field or predicate
group_good : {T : Type 0} (j : ℕ) (f : List ℕ → List ℕ) (g : T → BType) (xs : List (List ℕ)) (ts : List T) → ((x : List ℕ) → rank (f x) ≡ j) → ((x y : List ℕ) → f x ≡ f y → x ≡ y) →
    ((x : List ℕ) → is_bytes x → IsFreeName (f x)) → All is_bytes xs → NamesDiffer xs → HaveKeys (map g ts) → length ts ≡ length xs → AreGood j (j + 1) (map f xs) (map g ts)
group_good j f g xs ts ranked same free bytes differ keyed many = record {
  ranks = All-map (IsBetween j (j + 1)) f xs (λ k d within. is_between j (j + 1) (f (get_or xs k d)) j (ranked (get_or xs k d)) (omega arith) (omega arith));
  free = All-map IsFreeName f xs (All-weaker is_bytes (λ x. IsFreeName (f x)) free xs bytes);
  differ = map_differ f same xs differ;
  keyed = keyed;
  as_many = omega (arith, length-map ts g, length-map xs f, many);
}

drop_one_more : (a b c : ℕ) (x y : List ℕ) → (a ∷ b ∷ c ∷ x) ≡ (a ∷ b ∷ c ∷ y) → x ≡ y
drop_one_more a b c x y e = cc

-- ---- the other variables of a method

two_others : (m n : ℕ) → m < n → n < 2 ^ 64 → other_name m ≢ other_name n
two_others m n below small e = let same = decimal_injective m n (omega (arith, below, small)) small (drop_two 108 36 (decimal m) (decimal n) e) in omega (arith, below, same)

others_later : (m n : ℕ) (us : List Ty) → m < n → n + length us ≤ 2 ^ 64 → All (λ y. other_name m ≢ y) (names_from n us)
others_later m n [] below small = All-nil (λ y. other_name m ≢ y)
others_later m n (u ∷ us) below small = All-cons (λ y. other_name m ≢ y) (other_name n) (names_from (n + 1) us) (two_others m n below (omega (arith, small)))
    (others_later m (n + 1) us (omega (arith, below)) (omega (arith, small)))

plain_keys : (u : Ty) → AreKeys (variable_type u).keys
plain_keys u = All-nil (λ w. is_key w ≡ true)

others_good : (n : ℕ) (us : List Ty) → n + length us ≤ 2 ^ 64 → AreGood 10 11 (names_from n us) (map variable_type us)
others_good n [] small = record { ranks = All-nil (IsBetween 10 11); free = All-nil IsFreeName; differ = no_names; keyed = All-nil has_keys; as_many = refl }
others_good n (u ∷ us) small =
    let rest = others_good (n + 1) us (omega (arith, small)) in
    let name = other_name n in
    let names = names_from (n + 1) us in
    record {
      ranks = All-cons (IsBetween 10 11) name names (is_between 10 11 name 10 refl (omega arith) (omega arith)) rest.ranks;
      free = All-cons IsFreeName name names (record { form = bound_form n (omega (arith, small)); free = refl }) rest.free;
      differ = AllPairs-cons (λ a b. a ≢ b) name names (others_later n (n + 1) us (omega arith) (omega (arith, small))) rest.differ;
      keyed = All-cons has_keys (variable_type u) (map variable_type us) (plain_keys u) rest.keyed;
      as_many = ap suc rest.as_many;
    }

few_others : (p : Program) (u : Unit) → IsTypedProgram p → first_other p u + length (types_of_others p u) ≤ 2 ^ 64
few_others p (unit.Method n) h = of_method (slice_get p.methods n) refl
  where
    of_method : (o : Option Method) → slice_get p.methods n ≡ o → first_of_method o + length (others_of_method o) ≤ 2 ^ 64
    of_method None is = omega arith
    of_method (Some m) is =
        let formed = method_of_typed p h n m is in
        omega (arith, formed.few, formed.variables, at_least (method_scope m) m.body, length-drop (m.params + m.returns) m.vars)
few_others p (unit.Predicate n) h = omega arith

-- ---- types of maps

reference : AreKeys (base.Ref ∷ [])
reference = All-cons (λ w. is_key w ≡ true) base.Ref [] refl (All-nil (λ w. is_key w ≡ true))

types_left : (us ws : List BType) → HaveKeys (us ++ ws) → HaveKeys us
types_left [] ws h = All-nil has_keys
types_left (u ∷ us) ws h = All-cons has_keys u us (All-head has_keys u (us ++ ws) h) (types_left us ws (All-tail has_keys u (us ++ ws) h))

types_right : (us ws : List BType) → HaveKeys (us ++ ws) → HaveKeys ws
types_right [] ws h = h
types_right (u ∷ us) ws h = types_right us ws (All-tail has_keys u (us ++ ws) h)

-- ---- all that have a name of their own

module _ (p : Program) (formed : IsFormed p) where
  abbrev predicates : List (List ℕ)
  predicates = predicate_names p

  heap_keys : HaveKeys (map heap_type p.layout.fields)
  heap_keys = All-map has_keys heap_type p.layout.fields (λ k d within. reference)

  mask_keys : HaveKeys (map mask_type p.layout.fields)
  mask_keys = All-map has_keys mask_type p.layout.fields (λ k d within. reference)

  amount_keys : HaveKeys (map amount_type p.layout.keys)
  amount_keys = types_right (map heap_type p.layout.fields ++ map mask_type p.layout.fields) (map amount_type p.layout.keys)
      (types_left (map heap_type p.layout.fields ++ map mask_type p.layout.fields ++ map amount_type p.layout.keys) (map content_type p.layout.keys) (states_keyed p formed.typed))

  content_keys : HaveKeys (map content_type p.layout.keys)
  content_keys = types_right (map heap_type p.layout.fields ++ map mask_type p.layout.fields ++ map amount_type p.layout.keys) (map content_type p.layout.keys) (states_keyed p formed.typed)

  abbrev is_viper : List ℕ → Type 0
  is_viper x = IsTrue (is_viper_name x)

  bytes_in : (x : List ℕ) → is_viper x → is_bytes x
  bytes_in x h = bytes_of_name x (and_parts (is_name x) (not (is_word x)) h).0

  some_byte : (x : List ℕ) → is_viper x → [] ≢ x
  some_byte [] h e = absurd cc
  some_byte (b ∷ x) h e = absurd cc

  abbrev methods : List (List ℕ)
  methods = map (λ (m : Method). m.name) p.methods

  field_viper : All is_viper p.fields
  field_viper = all_left is_viper p.fields predicates (all_left is_viper (p.fields ++ predicates) methods formed.typed.names.names)

  predicate_viper : All is_viper predicates
  predicate_viper = all_right is_viper p.fields predicates (all_left is_viper (p.fields ++ predicates) methods formed.typed.names.names)

  field_bytes : All is_bytes p.fields
  field_bytes = All-weaker is_viper is_bytes bytes_in p.fields field_viper

  predicate_bytes : All is_bytes predicates
  predicate_bytes = All-weaker is_viper is_bytes bytes_in predicates predicate_viper

  fields_differ : NamesDiffer p.fields
  fields_differ = differ_left p.fields predicates (differ_left (p.fields ++ predicates) methods formed.typed.names.differ)

  predicates_differ : NamesDiffer predicates
  predicates_differ = differ_right p.fields predicates (differ_left (p.fields ++ predicates) methods formed.typed.names.differ)

  fields_many : length p.layout.fields ≡ length p.fields
  fields_many = formed.typed.layout.fields

  keys_many : length p.layout.keys ≡ length predicates
  keys_many = ap length formed.typed.layout.keys ∙ (length-map p.predicates (λ (d : Predicate). d.params) ∙ sym (length-map p.predicates (λ (d : Predicate). d.name)))

  state_good : AreGood 3 5 (state_names p) (map mask_type p.layout.fields ++ map amount_type p.layout.keys)
  state_good = both_good 3 4 5 (omega arith) (omega arith)
      (group_good 3 mask_name mask_type p.fields p.layout.fields (λ x. refl) (drop_two 109 36) (λ x h. record { form = h; free = refl }) field_bytes fields_differ mask_keys fields_many)
      (group_good 4 amount_name amount_type predicates p.layout.keys (λ x. refl) (drop_two 97 36) (λ x h. record { form = h; free = refl }) predicate_bytes predicates_differ amount_keys keys_many)

  old_good : AreGood 5 9 (old_names p) (map heap_type p.layout.fields ++ map mask_type p.layout.fields ++ map amount_type p.layout.keys ++ map content_type p.layout.keys)
  old_good = both_good 5 8 9 (omega arith) (omega arith) (both_good 5 7 8 (omega arith) (omega arith) (both_good 5 6 7 (omega arith) (omega arith)
      (group_good 5 old_heap_name heap_type p.fields p.layout.fields (λ x. refl) (drop_one_more 111 104 36) (λ x h. record { form = h; free = refl }) field_bytes fields_differ heap_keys fields_many)
      (group_good 6 old_mask_name mask_type p.fields p.layout.fields (λ x. refl) (drop_one_more 111 109 36) (λ x h. record { form = h; free = refl }) field_bytes fields_differ mask_keys fields_many))
      (group_good 7 old_amount_name amount_type predicates p.layout.keys (λ x. refl) (drop_one_more 111 97 36) (λ x h. record { form = h; free = refl }) predicate_bytes predicates_differ amount_keys keys_many))
      (group_good 8 old_content_name content_type predicates p.layout.keys (λ x. refl) (drop_one_more 111 99 36) (λ x h. record { form = h; free = refl }) predicate_bytes predicates_differ content_keys keys_many)

  -- the name without letters, and those of the predicates
  zero_good : AreGood 9 10 (zero_names p) (map_type base.Ref [] base.Real ∷ map amount_type p.layout.keys)
  zero_good = record {
    ranks = All-map (IsBetween 9 10) zero_name ([] ∷ predicates) (λ k d within. is_between 9 10 (zero_name (get_or ([] ∷ predicates) k d)) 9 refl (omega arith) (omega arith));
    free = All-map IsFreeName zero_name ([] ∷ predicates) (All-cons (λ x. IsFreeName (zero_name x)) [] predicates (record { form = refl; free = refl })
        (All-weaker is_bytes (λ x. IsFreeName (zero_name x)) (λ x h. record { form = h; free = refl }) predicates predicate_bytes));
    differ = map_differ zero_name (drop_two 122 36) ([] ∷ predicates) (AllPairs-cons (λ a b. a ≢ b) [] predicates (All-weaker is_viper (λ x. [] ≢ x) some_byte predicates predicate_viper) predicates_differ);
    keyed = All-cons has_keys (map_type base.Ref [] base.Real) (map amount_type p.layout.keys) reference amount_keys;
    as_many = omega (arith, length-map p.layout.keys amount_type, length-map predicates zero_name, keys_many);
  }

  -- ---- those of an opening

  abbrev is_not_reserved : List ℕ → Type 0
  is_not_reserved x = is_reserved x ≡ false

  module _ (u : Unit) where
    of_front : (P : List ℕ → Type 0) → ((x : List ℕ) → P (variable_name x)) → ((x : List ℕ) → P (heap_name x)) → ((x : List ℕ) → P (content_name x)) → All P (front_names p u)
    of_front P v h c = All-append P (map variable_name (names_of p u) ++ map heap_name p.fields) (map (λ (d : Predicate). content_name d.name) p.predicates)
        (All-append P (map variable_name (names_of p u)) (map heap_name p.fields) (All-map P variable_name (names_of p u) (λ k d within. v (get_or (names_of p u) k d))) (All-map P heap_name p.fields (λ k d within. h (get_or p.fields k d))))
        (All-map P (λ (d : Predicate). content_name d.name) p.predicates (λ k d within. c (get_or p.predicates k d).name))

    front_free : All IsFreeName (front_names p u)
    front_free k d within = record {
      form = (and_parts (is_name (get_or (front_names p u) k d)) (not (is_word (get_or (front_names p u) k d))) ((front p u formed).names.names k d within)).0;
      free = of_front is_not_reserved (λ x. refl) (λ x. refl) (λ x. refl) k d within;
    }

    front_keyed : HaveKeys (front_types p u)
    front_keyed = All-append has_keys (map variable_type (types_of p u) ++ map heap_type p.layout.fields) (map content_type p.layout.keys)
        (All-append has_keys (map variable_type (types_of p u)) (map heap_type p.layout.fields) (All-map has_keys variable_type (types_of p u) (λ k d within. All-nil (λ w. is_key w ≡ true))) heap_keys) content_keys

    front_good : AreGood 0 3 (front_names p u) (front_types p u)
    front_good = record {
      ranks = of_front (IsBetween 0 3) (λ x. is_between 0 3 (variable_name x) 0 refl (omega arith) (omega arith)) (λ x. is_between 0 3 (heap_name x) 1 refl (omega arith) (omega arith)) (λ x. is_between 0 3 (content_name x) 2 refl (omega arith) (omega arith));
      free = front_free;
      differ = (front p u formed).names.differ;
      keyed = front_keyed;
      as_many = (front p u formed).as_many;
    }

pub fixed_good : (p : Program) (u : Unit) → IsFormed p → AreGood 0 11 (fixed_names p u) (fixed_types p u)
fixed_good p u formed = both_good 0 3 11 (omega arith) (omega arith) (front_good p formed u) (both_good 3 5 11 (omega arith) (omega arith) (state_good p formed) (both_good 5 9 11 (omega arith) (omega arith) (old_good p formed)
    (both_good 9 10 11 (omega arith) (omega arith) (zero_good p formed) (others_good (first_other p u) (types_of_others p u) (few_others p u formed.typed)))))

fixed_other : (p : Program) (u : Unit) → IsFormed p → All is_other (fixed_names p u)
fixed_other p u formed = All-weaker (IsBetween 0 11) is_other (λ x i e. let m = i.most in let r : rank x ≡ 11 = ap (λ a. rank_of a (slice_index_or x 1 0)) e in omega (arith, m, r)) (fixed_names p u) (fixed_good p u formed).ranks

-- ---- what is promised

few_locals : (p : Program) (u : Unit) (us : List BType) → length (fixed_types p u ++ us) ≤ 2 ^ 64 → length (fixed_types p u) + length us ≤ 2 ^ 64
few_locals p u us small = omega (arith, small, length-append (fixed_types p u) us)

names_of_unit : (p : Program) (u : Unit) (us : List BType) → IsFormed p → local_names (locals_of_unit p u us) ≡ fixed_names p u ++ local_names (temporaries (length (fixed_types p u)) us)
names_of_unit p u us formed = names_append (named (fixed_names p u) (fixed_types p u)) (temporaries (length (fixed_types p u)) us) ∙
    ap (λ (xs : List (List ℕ)). xs ++ local_names (temporaries (length (fixed_types p u)) us)) (names_of_named (fixed_names p u) (fixed_types p u) (fixed_good p u formed).as_many)

pub locals_fit : (p : Program) (u : Unit) (us : List BType) → IsFormed p → HaveKeys us → length (fixed_types p u ++ us) ≤ 2 ^ 64 → All FitsLocal (locals_of_unit p u us)
locals_fit p u us formed keyed small =
    let good = fixed_good p u formed in
    All-append FitsLocal (named (fixed_names p u) (fixed_types p u)) (temporaries (length (fixed_types p u)) us) (named_fit (fixed_names p u) (fixed_types p u) good.free good.keyed)
    (temporaries_fit (length (fixed_types p u)) us keyed (few_locals p u us small))

pub locals_differ : (p : Program) (u : Unit) (us : List BType) → IsFormed p → length (fixed_types p u ++ us) ≤ 2 ^ 64 → NamesDiffer (local_names (locals_of_unit p u us))
locals_differ p u us formed small =
    subst NamesDiffer (sym (names_of_unit p u us formed)) (all_differ (fixed_names p u) (length (fixed_types p u)) us (fixed_good p u formed).differ (fixed_other p u formed) (few_locals p u us small))

-- no name that a `forall` binds
abbrev is_unbound : List ℕ → Type 0
is_unbound x = (n : ℕ) → x ≢ bound_name n

temporaries_unbound : (n : ℕ) (us : List BType) → All is_unbound (local_names (temporaries n us))
temporaries_unbound n [] = All-nil is_unbound
temporaries_unbound n (u ∷ us) = All-cons is_unbound (temporary n u).name (local_names (temporaries (n + 1) us)) (λ m e. let r : 11 ≡ 12 = ap rank e in omega (arith, r)) (temporaries_unbound (n + 1) us)

pub locals_unbound : (p : Program) (u : Unit) (us : List BType) → IsFormed p → All is_unbound (local_names (locals_of_unit p u us))
locals_unbound p u us formed =
    subst (All is_unbound) (sym (names_of_unit p u us formed)) (All-append is_unbound (fixed_names p u) (local_names (temporaries (length (fixed_types p u)) us))
    (All-weaker (IsBetween 0 11) is_unbound (λ x i n e. let m = i.most in let r : rank x ≡ 12 = ap rank e in omega (arith, m, r)) (fixed_names p u) (fixed_good p u formed).ranks)
    (temporaries_unbound (length (fixed_types p u)) us))
