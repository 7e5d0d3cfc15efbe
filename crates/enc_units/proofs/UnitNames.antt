-- The names of units: they are names of Boogie, none of them is reserved, and no two units of a formed program have one name.
use Rattle.std.proofs.Common.{◌≡◌, ◌∙◌, ◌+◌, ◌≤◌, ◌++◌, ◌⊎◌, inl, inr, ℕ, zero, suc, true, not, IsTrue, List, [], ◌∷◌, map, length, Option, Some, None, is_some, slice_get, slice_index_or, codes, refl, sym, ap, subst, cond, arith}
use Rattle.std.proofs.lemmas.Bool.{and_parts}
use Rattle.std.proofs.lemmas.List.FromFn.{length-range_with_len, get_or-range_with_len}
use Rattle.std.proofs.lemmas.Option.{slice_get-map, slice_get_within, get_or_from_slice_get}
use Rattle.std.specs.List.{list_all}
use Rattle.std.specs.Option.{option_map}
use Rattle.lemmas.proofs.Lists.{drop_two, at_item, there_right, there_left}
use Rattle.vb_base.specs.Names.{is_name, is_name_byte, is_word, is_viper_name}
use Rattle.vb_base.proofs.NameLaws.{place_of_name}
use Rattle.viper_core.specs.Expr.{Assertion}
use Rattle.viper_core.specs.Formed.{IsFormed, methods_among, predicates_among, with_body_from, below, global_names}
use Rattle.viper_core.specs.Program.{Program, Predicate, Method}
use Rattle.viper_core.specs.declared.programs.Unit.{Unit}
use Rattle.viper_core.specs.declared.programs.Unit.TheVariants as u
use Rattle.boogie_print.specs.Printable.{IsFreeName}
use Rattle.enc_expr.proofs.FrontLaws.{bytes_of_name}
use Rattle.enc_locals.specs.Procedure.{name_of_method, name_of_predicate, unit_name}
use Rattle.enc_units.proofs.UnitCode.{IsUnit, is_method, is_predicate}

-- ---- each number stands once among the units of its kind

-- no number stands twice
record IsOnce (ns : List ℕ) : Type 0 where
  once : (a b k : ℕ) → slice_get ns a ≡ Some k → slice_get ns b ≡ Some k → a ≡ b

later_once : (n : ℕ) (ns : List ℕ) → IsOnce (n ∷ ns) → IsOnce ns
later_once n ns h = record { once = λ a b k e f. omega (arith, h.once (suc a) (suc b) k e f) }

not_again : (n k : ℕ) (ns : List ℕ) → IsOnce (n ∷ ns) → n ≡ k → (i : ℕ) × (slice_get ns i ≡ Some k) → ⊥
not_again n k ns h same there = omega (arith, h.once 0 (suc there.0) k (ap (λ x. Some x) same) there.1)

below_at : (m i k : ℕ) → slice_get (below m) i ≡ Some k → k ≡ i
below_at m i k is =
    let within = slice_get_within (below m) i k is in
    let at = get_or_from_slice_get (below m) i k 0 is in
    omega (arith, within, at, length-range_with_len 0 m, get_or-range_with_len 0 m i 0)

below_once : (m : ℕ) → IsOnce (below m)
below_once m = record { once = λ a b k e f. omega (arith, below_at m a k e, below_at m b k f) }

-- a number that is the first, or one of the others
pub first_or_later : (n k : ℕ) (body : Option Assertion) (rest : List ℕ) (i : ℕ) → slice_get (cond (is_some body) (n ∷ rest) rest) i ≡ Some k → (n ≡ k) ⊎ ((j : ℕ) × (slice_get rest j ≡ Some k))
first_or_later n k None rest i is = inr (i, is)
first_or_later n k (Some a) rest zero is = let same : n ≡ k = cc in inl same
first_or_later n k (Some a) rest (suc i) is = inr (i, is)

later_more : (n k : ℕ) (rest : List ℕ) → ((j : ℕ) → slice_get rest j ≡ Some k → n + 1 ≤ k) → (n ≡ k) ⊎ ((j : ℕ) × (slice_get rest j ≡ Some k)) → n ≤ k
later_more n k rest h (inl same) = omega (arith, same)
later_more n k rest h (inr there) = let after = h there.0 there.1 in omega (arith, after)

body_after : (n : ℕ) (ds : List Predicate) (i k : ℕ) → slice_get (with_body_from n ds) i ≡ Some k → n ≤ k
body_after n [] i k is = absurd (cc)
body_after n (d ∷ ds) i k is = later_more n k (with_body_from (n + 1) ds) (λ j e. body_after (n + 1) ds j k e) (first_or_later n k d.body (with_body_from (n + 1) ds) i is)

one_more_once : (n : ℕ) (body : Option Assertion) (rest : List ℕ) → IsOnce rest → ((j : ℕ) → slice_get rest j ≡ Some n → n + 1 ≤ n) → IsOnce (cond (is_some body) (n ∷ rest) rest)
one_more_once n None rest h after = h
one_more_once n (Some a) rest h after = record { once = at }
  where
    at : (a b k : ℕ) → slice_get (n ∷ rest) a ≡ Some k → slice_get (n ∷ rest) b ≡ Some k → a ≡ b
    at zero zero k e f = refl
    at zero (suc b) k e f = let same : n ≡ k = cc in absurd (omega (arith, after b (f ∙ ap (λ x. Some x) (sym same))))
    at (suc a) zero k e f = let same : n ≡ k = cc in absurd (omega (arith, after a (e ∙ ap (λ x. Some x) (sym same))))
    at (suc a) (suc b) k e f = ap suc (h.once a b k e f)

bodies_once : (n : ℕ) (ds : List Predicate) → IsOnce (with_body_from n ds)
bodies_once n [] = record { once = λ a b k e f. absurd (cc) }
bodies_once n (d ∷ ds) = one_more_once n d.body (with_body_from (n + 1) ds) (bodies_once (n + 1) ds) (λ j e. body_after (n + 1) ds j n e)

-- so a method and a predicate is one unit

pub method_among : (us : List Unit) (n k : ℕ) → slice_get us n ≡ Some (u.Method k) → (i : ℕ) × (slice_get (methods_among us) i ≡ Some k)
method_among [] n k is = absurd (cc)
method_among (u.Method j ∷ us) zero k is = let same : j ≡ k = cc in (0, ap (λ x. Some x) same)
method_among (u.Predicate j ∷ us) zero k is = absurd (cc)
method_among (u.Method j ∷ us) (suc n) k is = let (i, e) = method_among us n k is in (suc i, e)
method_among (u.Predicate j ∷ us) (suc n) k is = method_among us n k is

pub predicate_among : (us : List Unit) (n k : ℕ) → slice_get us n ≡ Some (u.Predicate k) → (i : ℕ) × (slice_get (predicates_among us) i ≡ Some k)
predicate_among [] n k is = absurd (cc)
predicate_among (u.Method j ∷ us) zero k is = absurd (cc)
predicate_among (u.Predicate j ∷ us) zero k is = let same : j ≡ k = cc in (0, ap (λ x. Some x) same)
predicate_among (u.Method j ∷ us) (suc n) k is = predicate_among us n k is
predicate_among (u.Predicate j ∷ us) (suc n) k is = let (i, e) = predicate_among us n k is in (suc i, e)

method_once : (us : List Unit) → IsOnce (methods_among us) → (i j k : ℕ) → slice_get us i ≡ Some (u.Method k) → slice_get us j ≡ Some (u.Method k) → i ≡ j
method_once [] h i j k e f = absurd (cc)
method_once (u.Method c ∷ us) h zero zero k e f = refl
method_once (u.Method c ∷ us) h zero (suc j) k e f = let same : c ≡ k = cc in absurd (not_again c k (methods_among us) h same (method_among us j k f))
method_once (u.Method c ∷ us) h (suc i) zero k e f = let same : c ≡ k = cc in absurd (not_again c k (methods_among us) h same (method_among us i k e))
method_once (u.Method c ∷ us) h (suc i) (suc j) k e f = ap suc (method_once us (later_once c (methods_among us) h) i j k e f)
method_once (u.Predicate c ∷ us) h zero j k e f = absurd (cc)
method_once (u.Predicate c ∷ us) h (suc i) zero k e f = absurd (cc)
method_once (u.Predicate c ∷ us) h (suc i) (suc j) k e f = ap suc (method_once us h i j k e f)

predicate_once : (us : List Unit) → IsOnce (predicates_among us) → (i j k : ℕ) → slice_get us i ≡ Some (u.Predicate k) → slice_get us j ≡ Some (u.Predicate k) → i ≡ j
predicate_once [] h i j k e f = absurd (cc)
predicate_once (u.Predicate c ∷ us) h zero zero k e f = refl
predicate_once (u.Predicate c ∷ us) h zero (suc j) k e f = let same : c ≡ k = cc in absurd (not_again c k (predicates_among us) h same (predicate_among us j k f))
predicate_once (u.Predicate c ∷ us) h (suc i) zero k e f = let same : c ≡ k = cc in absurd (not_again c k (predicates_among us) h same (predicate_among us i k e))
predicate_once (u.Predicate c ∷ us) h (suc i) (suc j) k e f = ap suc (predicate_once us (later_once c (predicates_among us) h) i j k e f)
predicate_once (u.Method c ∷ us) h zero j k e f = absurd (cc)
predicate_once (u.Method c ∷ us) h (suc i) zero k e f = absurd (cc)
predicate_once (u.Method c ∷ us) h (suc i) (suc j) k e f = ap suc (predicate_once us h i j k e f)

-- ---- a name stands at one place of the shared space

-- a method's name is none of a predicate
kinds_differ : (x y : List ℕ) → codes "M$" ++ x ≡ codes "P$" ++ y → ⊥
kinds_differ x y same = let first = ap (λ (z : List ℕ). slice_index_or z 0 0) same in omega (arith, first)

module _ (p : Program) (formed : IsFormed p) where
  abbrev predicate_names : List (List ℕ)
  predicate_names = map (λ (d : Predicate). d.name) p.predicates

  abbrev method_names : List (List ℕ)
  method_names = map (λ (m : Method). m.name) p.methods

  method_there : (k : ℕ) (m : Method) → slice_get p.methods k ≡ Some m → slice_get (global_names p) (length (p.fields ++ predicate_names) + k) ≡ Some m.name
  method_there k m exists =
      there_right (p.fields ++ predicate_names) method_names k ∙ (slice_get-map (λ (m : Method). m.name) p.methods k ∙ ap (option_map (λ (m : Method). m.name)) exists)

  predicate_there : (k : ℕ) (d : Predicate) → slice_get p.predicates k ≡ Some d → slice_get (global_names p) (length p.fields + k) ≡ Some d.name
  predicate_there k d exists =
      there_left (p.fields ++ predicate_names) method_names (length p.fields + k) d.name
      (there_right p.fields predicate_names k ∙ (slice_get-map (λ (d : Predicate). d.name) p.predicates k ∙ ap (option_map (λ (d : Predicate). d.name)) exists))

  -- ---- names are free

  bytes_at : (i : ℕ) (x : List ℕ) → slice_get (global_names p) i ≡ Some x → list_all is_name_byte x ≡ true
  bytes_at i x there =
      let viper = at_item (λ x. IsTrue (is_viper_name x)) (global_names p) formed.typed.names.names i x there in bytes_of_name x (and_parts (is_name x) (not (is_word x)) viper).0

  method_free : (x : List ℕ) → list_all is_name_byte x ≡ true → IsFreeName (codes "M$" ++ x)
  method_free x bytes = record { form = bytes; free = refl }

  predicate_free : (x : List ℕ) → list_all is_name_byte x ≡ true → IsFreeName (codes "P$" ++ x)
  predicate_free x bytes = record { form = bytes; free = refl }

  pub name_free : (w : Unit) → IsUnit p w → IsFreeName (unit_name p w)
  name_free w (is_method k m exists formed_method) =
      subst (λ q. IsFreeName (name_of_method q)) (sym exists) (method_free m.name (bytes_at (length (p.fields ++ predicate_names) + k) m.name (method_there k m exists)))
  name_free w (is_predicate k d body exists has formed_predicate) =
      subst (λ q. IsFreeName (name_of_predicate q)) (sym exists) (predicate_free d.name (bytes_at (length p.fields + k) d.name (predicate_there k d exists)))

  -- ---- and differ

  pub unit_once : (w : Unit) (i j : ℕ) → slice_get p.units i ≡ Some w → slice_get p.units j ≡ Some w → i ≡ j
  unit_once (u.Method k) i j e f = method_once p.units (subst IsOnce (sym formed.typed.units.methods) (below_once (length p.methods))) i j k e f
  unit_once (u.Predicate k) i j e f = predicate_once p.units (subst IsOnce (sym formed.typed.units.predicates) (bodies_once 0 p.predicates)) i j k e f

  one_method : (k l : ℕ) (m o : Method) → slice_get p.methods k ≡ Some m → slice_get p.methods l ≡ Some o → m.name ≡ o.name → u.Method k ≡ u.Method l
  one_method k l m o e f same =
      let at = place_of_name (global_names p) formed.typed.names.differ (length (p.fields ++ predicate_names) + k) (length (p.fields ++ predicate_names) + l) o.name
      (method_there k m e ∙ ap (λ x. Some x) same) (method_there l o f) in
      ap u.Method (omega (arith, at))

  one_predicate : (k l : ℕ) (d c : Predicate) → slice_get p.predicates k ≡ Some d → slice_get p.predicates l ≡ Some c → d.name ≡ c.name → u.Predicate k ≡ u.Predicate l
  one_predicate k l d c e f same =
      let at = place_of_name (global_names p) formed.typed.names.differ (length p.fields + k) (length p.fields + l) c.name (predicate_there k d e ∙ ap (λ x. Some x) same) (predicate_there l c f) in
      ap u.Predicate (omega (arith, at))

  same_unit : (w v : Unit) → IsUnit p w → IsUnit p v → unit_name p w ≡ unit_name p v → w ≡ v
  same_unit w v (is_method k m e a) (is_method l o f b) same =
      one_method k l m o e f (drop_two 77 36 m.name o.name (sym (ap name_of_method e) ∙ (same ∙ ap name_of_method f)))
  same_unit w v (is_predicate k d a e h b) (is_predicate l c i f j r) same =
      one_predicate k l d c e f (drop_two 80 36 d.name c.name (sym (ap name_of_predicate e) ∙ (same ∙ ap name_of_predicate f)))
  same_unit w v (is_method k m e a) (is_predicate l c i f j r) same =
      absurd (kinds_differ m.name c.name (sym (ap name_of_method e) ∙ (same ∙ ap name_of_predicate f)))
  same_unit w v (is_predicate k d a e h b) (is_method l o f r) same =
      absurd (kinds_differ o.name d.name (sym (ap name_of_method f) ∙ (sym same ∙ ap name_of_predicate e)))

  pub one_unit : (i j : ℕ) (w v : Unit) → slice_get p.units i ≡ Some w → slice_get p.units j ≡ Some v → IsUnit p w → IsUnit p v → unit_name p w ≡ unit_name p v → i ≡ j
  one_unit i j w v e f is other same = let units : w ≡ v = same_unit w v is other same in unit_once v i j (e ∙ ap (λ x. Some x) units) f
