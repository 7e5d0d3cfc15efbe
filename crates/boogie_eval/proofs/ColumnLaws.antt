-- Columns and their keys.
use denote.Ref.{Bor}
use Rattle.std.proofs.Common.{◌≡◌, refl, sym, ap, ◌∙◌, subst, ℕ, zero, suc, ◌+◌, ◌<◌, Bool as Truth, true, false, ◌||◌, Some, List, [], ◌∷◌, ◌++◌, drop, take, length, get_or, append_assoc, slice_get}
use Rattle.std.proofs.Math.Numerals.{add-one}
use Rattle.std.proofs.Math.Seq.{drop-cons}
use Rattle.std.proofs.lemmas.List.{append-nil, take-append-drop}
use Rattle.std.proofs.lemmas.List.Elements.{All-head, All-push, All-tail}
use Rattle.std.proofs.lemmas.List.Sorted.{list_any-IsPermutation}
use Rattle.std.specs.List.{list_all, list_any}
use Rattle.std.specs.List.Sorted.{IsPermutation}
use Rattle.std.specs.Map.{keys_of}
use Rattle.std.specs.Ordering.{on}
use Rattle.lemmas.proofs.Tests.{or_assoc}
use Rattle.sparse.specs.Map.{Map, borrowed, get, keys, IsReduced}
use Rattle.sparse.proofs.MapLaws.{get-keys}
use Rattle.sparse.proofs.MeaningLaws.{get-meaning_of, IsMeaning-on}
use Rattle.vb_value.specs.Key.{key_cmp}
use Rattle.vb_value.specs.KeyOrder.{key_cmp_total}
use Rattle.boogie_tree.specs.Expr as t
use Rattle.boogie_tree.specs.Value as v
use Rattle.boogie_tree.specs.Whole.{scalar_of}
use Rattle.boogie_tree.specs.Values.{are_keys}
use Rattle.boogie_tree.specs.declared.exprs.BBase.{BBase}
use Rattle.boogie_tree.specs.declared.exprs.BBase.TheVariants as base
use Rattle.boogie_tree.specs.declared.values.BScalar.{BScalar}
use Rattle.boogie_meaning.specs.Decided.{same_key, is_listed, finds}
use Rattle.boogie_meaning.specs.Ends.{Is, then_with}
use Rattle.boogie_meaning.specs.Marked.{keys_in, marked, marked_in}
use Rattle.boogie_meaning.specs.Value.{the_map}
use Rattle.boogie_eval.specs.Columns.{numbers_in, numbers_in_all, keys_of_maps, entries_in, keys_of_columns, IsColumn, AreColumns, HasColumn, StandsIn}
use Rattle.boogie_eval.specs.Searched.{is_bool}
use Rattle.boogie_eval.specs.View.{map_of}
use Rattle.boogie_eval.specs.declared.eval_columns.Column.{Column}
use Rattle.boogie_eval.proofs.BorrowedLaws.{pushed}

-- ---- lists of keys

or_turns : (p q : Truth) → (p || q) ≡ (q || p)
or_turns true true = refl
or_turns true false = refl
or_turns false true = refl
or_turns false false = refl

listed_both : (xs ys : List v.Key) (k : v.Key) → is_listed (xs ++ ys) k ≡ (is_listed xs k || is_listed ys k)
listed_both [] ys k = refl
listed_both (x ∷ xs) ys k = ap (λ b. same_key k x || b) (listed_both xs ys k) ∙ sym (or_assoc (same_key k x) (is_listed xs k) (is_listed ys k))

-- ---- the keys that are marked are those of the maps of these numbers

both_maps : (env : List v.BValue) (ms ns : List ℕ) → keys_of_maps env (ms ++ ns) ≡ keys_of_maps env ms ++ keys_of_maps env ns
both_maps env [] ns = refl
both_maps env (m ∷ ms) ns = ap (λ ks. keys_in (the_map env m) ++ ks) (both_maps env ms ns) ∙ sym (append_assoc (keys_in (the_map env m)) (keys_of_maps env ms) (keys_of_maps env ns))

mutual
  pub marked_by : (env : List v.BValue) (a : t.BExpr) → keys_of_maps env (numbers_in a) ≡ marked a env
  marked_by env (t.Neg a) = marked_by env a
  marked_by env (t.Not a) = marked_by env a
  marked_by env (t.Bin o x y) = both_maps env (numbers_in x) (numbers_in y) ∙ (λ i. marked_by env x i ++ marked_by env y i)
  marked_by env (t.If c x y) =
      both_maps env (numbers_in c) (numbers_in x ++ numbers_in y) ∙ (λ i. marked_by env c i ++ both_maps env (numbers_in x) (numbers_in y) i)
      ∙ (λ i. marked c env ++ (marked_by env x i ++ marked_by env y i))
  marked_by env (t.ToReal a) = marked_by env a
  marked_by env (t.SInt a) = marked_by env a
  marked_by env (t.SBool a) = marked_by env a
  marked_by env (t.SRef a) = marked_by env a
  marked_by env (t.SPerm a) = marked_by env a
  marked_by env (t.Pair x y) = both_maps env (numbers_in x) (numbers_in y) ∙ (λ i. marked_by env x i ++ marked_by env y i)
  marked_by env (t.At m es) = marked_in_by env es
  marked_by env (t.AtBound m) = append-nil (keys_in (the_map env m))
  marked_by env (t.Var i) = refl
  marked_by env (t.Int n) = refl
  marked_by env (t.Real n) = refl
  marked_by env (t.Bool p) = refl
  marked_by env t.Null = refl
  marked_by env t.Unit = refl
  marked_by env (t.Forall us a) = refl

  marked_in_by : (env : List v.BValue) (es : t.BExprs) → keys_of_maps env (numbers_in_all es) ≡ marked_in es env
  marked_in_by env t.none = refl
  marked_in_by env (t.more a es) = both_maps env (numbers_in a) (numbers_in_all es) ∙ (λ i. marked_by env a i ++ marked_in_by env es i)

-- ---- a column of a map

pub values_mean : (m : Map v.Key BScalar) → IsReduced key_cmp (on scalar_of v.same_scalar) m → (i : ℕ) (e : v.Key × BScalar) → slice_get m.entries i ≡ Some e → get key_cmp (map_of m) e.0 ≡ scalar_of e.1
values_mean m r i e h =
    get-meaning_of (IsMeaning-on (λ k. k) scalar_of key_cmp v.same_scalar) m e.0 ∙ ap scalar_of (here (key_here m.entries i h))
  where
    key_here : (es : List (v.Key × BScalar)) (i : ℕ) → slice_get es i ≡ Some e → slice_get (keys_of es) i ≡ Some e.0
    key_here [] i h = cc
    key_here (d ∷ es) zero h = let same : d ≡ e = cc in ap (λ x. Some x.0) same
    key_here (d ∷ es) (suc i) h = key_here es i h

    here : slice_get (keys m) i ≡ Some e.0 → get key_cmp m e.0 ≡ e.1
    here k = let both : Some (e.0, get key_cmp m e.0) ≡ Some e = sym (get-keys key_cmp_total m r i e.0 k) ∙ h in let same : (e.0, get key_cmp m e.0) ≡ e = cc in ap (λ x. x.1) same

pub is_column : (env : List v.BValue) (c : Column) (n : ℕ) (m : Map v.Key v.BScalar) → c.number ≡ n → the_map env n ≡ Is m → keys_of (entries_in c) ≡ keys m →
    ((i : ℕ) (e : v.Key × BScalar) → slice_get (entries_in c) i ≡ Some e → get key_cmp m e.0 ≡ scalar_of e.1) → IsColumn env c
is_column env c n m number there same_keys same_values =
    let here : the_map env c.number ≡ Is m = ap (λ i. the_map env i) number ∙ there in
    record {
      keys = same_keys ∙ sym (ap keys_in here);
      values = λ i e h. ap (λ t. then_with t (λ x. Is (get key_cmp x e.0))) here ∙ ap Is (same_values i e h);
    }

-- ---- columns and the maps of an environment

module _ (env : List v.BValue) where
  at_column : (cs : List Column) (i : ℕ) (c : Column) → AreColumns env cs → slice_get cs i ≡ Some c → IsColumn env c
  at_column [] i c h e = cc
  at_column (d ∷ cs) zero c h e = let same : d ≡ c = cc in subst (IsColumn env) same (All-head (IsColumn env) d cs h)
  at_column (d ∷ cs) (suc i) c h e = at_column cs i c (All-tail (IsColumn env) d cs h) e

  -- a map that has a column adds no key
  or_more : (p q r : Truth) → (p ≡ true → r ≡ true) → (p ≡ true → (q || r) ≡ true)
  or_more p true r f h = refl
  or_more p false r f h = f h

  or_first : (q r : Truth) → q ≡ true → (q || r) ≡ true
  or_first true r h = refl
  or_first false r h = absurd (cc)

  in_columns : (cs : List Column) (i : ℕ) (c : Column) (k : v.Key) → slice_get cs i ≡ Some c → is_listed (keys_of (entries_in c)) k ≡ true → is_listed (keys_of_columns cs) k ≡ true
  in_columns [] i c k e h = cc
  in_columns (d ∷ cs) zero c k e h =
      let same : d ≡ c = cc in
      listed_both (keys_of (entries_in d)) (keys_of_columns cs) k ∙ or_first (is_listed (keys_of (entries_in d)) k) (is_listed (keys_of_columns cs) k) (ap (λ x. is_listed (keys_of (entries_in x)) k) same ∙ h)
  in_columns (d ∷ cs) (suc i) c k e h =
      listed_both (keys_of (entries_in d)) (keys_of_columns cs) k
      ∙ or_more (is_listed (keys_of (entries_in c)) k) (is_listed (keys_of (entries_in d)) k) (is_listed (keys_of_columns cs) k) (in_columns cs i c k e) h

  absorbed : (p q : Truth) → (p ≡ true → q ≡ true) → q ≡ (p || q)
  absorbed true q f = f refl
  absorbed false q f = refl

  pub nothing_new : (cs : List Column) (n : ℕ) (k : v.Key) → AreColumns env cs → HasColumn cs n → is_listed (keys_of_columns cs) k ≡ (is_listed (keys_in (the_map env n)) k || is_listed (keys_of_columns cs) k)
  nothing_new cs n k h (i, c, e, same) =
      absorbed (is_listed (keys_in (the_map env n)) k) (is_listed (keys_of_columns cs) k)
      (λ l. in_columns cs i c k e (ap (λ ks. is_listed ks k) ((at_column cs i c h e).keys ∙ ap (λ m. keys_in (the_map env m)) same) ∙ l))

  -- what stands in a column is the map's value
  pub stands_is : (cs : List Column) (n : ℕ) (k : v.Key) (x : BScalar) → AreColumns env cs → StandsIn cs n k x → then_with (the_map env n) (λ m. Is (get key_cmp m k)) ≡ Is (scalar_of x)
  stands_is cs n k x h (i, j, c, e, same, there) =
      ap (λ m. then_with (the_map env m) (λ y. Is (get key_cmp y k))) (sym same) ∙ (at_column cs i c h e).values j (k, x) there

-- ---- the numbers of the maps in another order

listed_any : (env : List v.BValue) (ns : List ℕ) (k : v.Key) → is_listed (keys_of_maps env ns) k ≡ list_any (λ n. is_listed (keys_in (the_map env n)) k) ns
listed_any env [] k = refl
listed_any env (n ∷ ns) k = listed_both (keys_in (the_map env n)) (keys_of_maps env ns) k ∙ ap (λ b. is_listed (keys_in (the_map env n)) k || b) (listed_any env ns k)

pub in_any_order : (env : List v.BValue) (ms ns : List ℕ) (k : v.Key) → IsPermutation ms ns → is_listed (keys_of_maps env ns) k ≡ is_listed (keys_of_maps env ms) k
in_any_order env ms ns k moved =
    listed_any env ns k ∙ sym (list_any-IsPermutation (λ n. is_listed (keys_in (the_map env n)) k) ms ns moved) ∙ sym (listed_any env ms k)

-- ---- columns in two parts, and one more

columns_both : (cs ds : List Column) (k : v.Key) → is_listed (keys_of_columns (cs ++ ds)) k ≡ (is_listed (keys_of_columns cs) k || is_listed (keys_of_columns ds) k)
columns_both [] ds k = refl
columns_both (c ∷ cs) ds k =
    listed_both (keys_of (entries_in c)) (keys_of_columns (cs ++ ds)) k ∙ ap (λ b. is_listed (keys_of (entries_in c)) k || b) (columns_both cs ds k)
    ∙ sym (or_assoc (is_listed (keys_of (entries_in c)) k) (is_listed (keys_of_columns cs) k) (is_listed (keys_of_columns ds) k))
    ∙ ap (λ b. b || is_listed (keys_of_columns ds) k) (sym (listed_both (keys_of (entries_in c)) (keys_of_columns cs) k))

pub columns_halved : (cs : List Column) (n : ℕ) (k : v.Key) → (is_listed (keys_of_columns (take n cs)) k || is_listed (keys_of_columns (drop n cs)) k) ≡ is_listed (keys_of_columns cs) k
columns_halved cs n k = sym (columns_both (take n cs) (drop n cs) k) ∙ ap (λ ds. is_listed (keys_of_columns ds) k) (take-append-drop n cs)

-- the keys with one more column
pub one_column : (cs : List Column) (c : Column) (k : v.Key) → is_listed (keys_of_columns (cs ++ c ∷ [])) k ≡ (is_listed (keys_of (entries_in c)) k || is_listed (keys_of_columns cs) k)
one_column cs c k =
    columns_both cs (c ∷ []) k ∙ ap (λ b. is_listed (keys_of_columns cs) k || b) (ap (λ ks. is_listed ks k) (append-nil (keys_of (entries_in c))))
    ∙ or_turns (is_listed (keys_of_columns cs) k) (is_listed (keys_of (entries_in c)) k)

pub one_more_column : (env : List v.BValue) (cs ds : List Column) (c : Column) → ds ≡ cs ++ c ∷ [] → AreColumns env cs → IsColumn env c → AreColumns env ds
one_more_column env cs ds c is before here = subst (AreColumns env) (sym is) (All-push (IsColumn env) cs c before here)

-- ---- types of which not all are bool

either_same : (p q r : Truth) → p ≡ r → q ≡ r → (p || q) ≡ r
either_same p q true h g = rw h refl
either_same p q false h g = rw h g

pub others_are_keys : (us : List BBase) (test : v.Key → Truth) → list_all is_bool us ≡ false → finds us test ≡ are_keys us
others_are_keys [] test h = absurd (cc)
others_are_keys (base.Int ∷ us) test h = refl
others_are_keys (base.Bool ∷ us) test h = either_same _ _ (are_keys us) (others_are_keys us _ h) (others_are_keys us _ h)
others_are_keys (base.Ref ∷ us) test h = refl
others_are_keys (base.Real ∷ us) test h = refl
others_are_keys (base.Snap ∷ us) test h = refl

pub bools_are_keys : (us : List BBase) → list_all is_bool us ≡ true → are_keys us ≡ true
bools_are_keys [] h = refl
bools_are_keys (base.Int ∷ us) h = absurd (cc)
bools_are_keys (base.Bool ∷ us) h = bools_are_keys us h
bools_are_keys (base.Ref ∷ us) h = absurd (cc)
bools_are_keys (base.Real ∷ us) h = absurd (cc)
bools_are_keys (base.Snap ∷ us) h = absurd (cc)

-- ---- lists of keys that are made one after another

or_moves : (b s d r : Truth) → ((b || (s || d)) || r) ≡ ((b || d) || (s || r))
or_moves true s d r = refl
or_moves false true true r = refl
or_moves false true false r = refl
or_moves false false d r = refl

-- a key comes behind those that were copied, and stays in its place or is passed
pub merged_more : (k key : v.Key) (b0 d0 b1 d1 d2 rest0 rest1 : List v.Key) (all : Truth) → b1 ++ d1 ≡ b0 ++ d0 → (same_key k key || is_listed d2 k) ≡ (same_key k key || is_listed d1 k) → rest0 ≡ key ∷ rest1 →
    (is_listed (b0 ++ d0) k || is_listed rest0 k) ≡ all → (is_listed ((b1 ++ key ∷ []) ++ d2) k || is_listed rest1 k) ≡ all
merged_more k key b0 d0 b1 d1 d2 rest0 rest1 all copied passed first so_far =
    ap (λ ks. is_listed ks k || is_listed rest1 k) (append_assoc b1 (key ∷ []) d2) ∙ ap (λ t. t || is_listed rest1 k) (listed_both b1 (key ∷ d2) k ∙ ap (λ t. is_listed b1 k || t) passed)
    ∙ or_moves (is_listed b1 k) (same_key k key) (is_listed d1 k) (is_listed rest1 k)
    ∙ (λ i. (sym (listed_both b1 d1 k) ∙ ap (λ ks. is_listed ks k) copied) i || is_listed (sym first i) k) ∙ so_far

-- the keys of one more list
pub one_more_list : (l e r all more : Truth) → all ≡ (l || (e || r)) → more ≡ (e || l) → all ≡ (more || r)
one_more_list l e r all more so_far is = so_far ∙ sym (or_assoc l e r) ∙ ap (λ t. t || r) (or_turns l e ∙ sym is)

-- a key is listed once more, or once less, where it is listed anyway
pub passed_key : (k key other : v.Key) (ks rest : List v.Key) → other ≡ key → ks ≡ other ∷ rest → (same_key k key || is_listed rest k) ≡ (same_key k key || is_listed ks k)
passed_key k key other ks rest same first =
    twice (same_key k key) (is_listed rest k) ∙ (λ i. same_key k key || (same_key k (sym same i) || is_listed rest k)) ∙ ap (λ xs. same_key k key || is_listed xs k) (sym first)
  where
    twice : (s r : Truth) → (s || r) ≡ (s || (s || r))
    twice true r = refl
    twice false r = refl

-- nothing is left of one of two lists
pub all_merged : (k : v.Key) (found rest : List v.Key) (all : Truth) → rest ≡ [] → (is_listed found k || is_listed rest k) ≡ all → is_listed found k ≡ all
all_merged k found rest all none so_far = sym (or_none (is_listed found k)) ∙ ap (λ ks. is_listed found k || is_listed ks k) (sym none) ∙ so_far
  where
    or_none : (p : Truth) → (p || false) ≡ p
    or_none true = refl
    or_none false = refl

-- the keys of a column that are made one after another
pub one_more_key : (es : List (v.Key × BScalar)) (i : ℕ) (e : v.Key × BScalar) (xs ys : List (Bor v.Key)) (x : Bor v.Key) (all : List v.Key) → drop i es ≡ e ∷ drop (i + 1) es → ys ≡ xs ++ x ∷ [] → x.now ≡ e.0 →
    borrowed xs ++ keys_of (drop i es) ≡ all → borrowed ys ++ keys_of (drop (i + 1) es) ≡ all
one_more_key es i e xs ys x all first is same so_far =
    ap (λ ks. ks ++ keys_of (drop (i + 1) es)) (pushed xs ys x is) ∙ append_assoc (borrowed xs) (x.now ∷ []) (keys_of (drop (i + 1) es))
    ∙ (λ j. borrowed xs ++ (same j ∷ keys_of (drop (i + 1) es))) ∙ ap (λ ds. borrowed xs ++ keys_of ds) (sym first) ∙ so_far

pub no_more_keys : (rest : List (v.Key × BScalar)) (xs : List (Bor v.Key)) (all : List v.Key) → rest ≡ [] → borrowed xs ++ keys_of rest ≡ all → borrowed xs ≡ all
no_more_keys rest xs all none so_far = sym (append-nil (borrowed xs)) ∙ ap (λ ds. borrowed xs ++ keys_of ds) (sym none) ∙ so_far

-- the keys of the maps of these numbers, with one number more
pub one_more_number : (env : List v.BValue) (ns : List ℕ) (i : ℕ) (k : v.Key) (so_far all more : Truth) → i < length ns → all ≡ (so_far || is_listed (keys_of_maps env (drop i ns)) k) →
    more ≡ (is_listed (keys_in (the_map env (get_or ns i 0))) k || so_far) → all ≡ (more || is_listed (keys_of_maps env (drop (i + 1) ns)) k)
one_more_number env ns i k so_far all more lt is added =
    let n = get_or ns i 0 in
    let next : drop i ns ≡ n ∷ drop (i + 1) ns = rw add-one (drop-cons ns i 0 lt) in
    let rest = drop (i + 1) ns in
    one_more_list so_far (is_listed (keys_in (the_map env n)) k) (is_listed (keys_of_maps env rest) k) all more
    (is ∙ ap (λ b. so_far || b) (ap (λ ms. is_listed (keys_of_maps env ms) k) next ∙ listed_both (keys_in (the_map env n)) (keys_of_maps env rest) k)) added
