-- The names of the generated programs: all differ, and each is found.
use Rattle.std.proofs.Common.{◌≡◌, ◌∙◌, refl, sym, ap, subst, ℕ, zero, suc, ◌<◌, ◌≤◌, ◌⊎◌, inl, inr, Bool, true, false, cond, not, arith, Some, None, is_some, List, [], ◌∷◌, ◌++◌, length, drop, slice_get}
use Rattle.std.specs.Prelude.{◌==◌}
use Rattle.std.specs.Cmp.Lexicographic.{pointwise}
use Rattle.std.proofs.lemmas.Bool.{cases_lt, false_from_ne_true}
use Rattle.std.proofs.lemmas.Fmt.{decimal_injective}
use Rattle.std.proofs.lemmas.List.{length_push}
use Rattle.std.proofs.lemmas.Slice.Eq.{bytes_eq-Decides}
use Rattle.vb_base.specs.Limits.{max_made_methods}
use Rattle.vb_base.specs.declared.places.Pos.{Pos}
use Rattle.vb_value.specs.declared.values.Ty.TheVariants as ty
use Rattle.viper_syntax.specs.Decl as d
use Rattle.viper_scope.specs.declared.rules.Rule.TheVariants as rule
use Rattle.viper_scope.specs.declared.context.Role.{Role}
use Rattle.viper_scope.specs.declared.context.Role.TheVariants as role
use Rattle.viper_scope.specs.Outcome.{Found, then_typed, obeys}
use Rattle.viper_scope.specs.Context.{World, MethodSignature, find, method_at, method_in, numbered}
use Rattle.viper_scope.specs.Naming.{decl_name, is_new, with_decl, naming, no_world}
use Rattle.vb_gen_laws.proofs.Trees.{behind, f_name, m_name, field_toks, method_tree, methods_toks, methods_trees, source_of}

-- ---- the world after the field and some methods

abbrev pub signature : MethodSignature
signature = record { params = ty.Ref ∷ []; returns = ty.Int ∷ [] }

abbrev pub signatures : ℕ → List MethodSignature
signatures zero = []
signatures (suc i) = signatures i ++ signature ∷ []

abbrev Roles : Type 0
Roles = List (List ℕ × Role)

abbrev pub method_roles : ℕ → Roles
method_roles zero = []
method_roles (suc i) = method_roles i ++ (m_name (suc i), role.Method i) ∷ []

-- a world that begins with the field
abbrev pub world : Roles → List MethodSignature → World
world roles methods = record { roles = (f_name, role.Field 0) ∷ roles; fields = ty.Int ∷ []; predicates = []; methods = methods }

abbrev pub world_of : ℕ → World
world_of n = world (method_roles n) (signatures n)

signature_count : (n : ℕ) → length (signatures n) ≡ n
signature_count zero = refl
signature_count (suc i) = length_push (signatures i) signature ∙ omega (arith, signature_count i)

-- ---- names

name_injective : (i j : ℕ) → i ≤ max_made_methods → j ≤ max_made_methods → m_name i ≡ m_name j → i ≡ j
name_injective i j small few e = decimal_injective i j (omega arith) (omega arith) (ap (λ l. drop 1 l) e)

abbrev same : List ℕ → List ℕ → Bool
same x y = pointwise ◌==◌ x y

names_differ : (i j : ℕ) → i ≤ max_made_methods → j ≤ max_made_methods → (i ≡ j → ⊥) → same (m_name i) (m_name j) ≡ false
names_differ i j small few differ = false_from_ne_true _ (λ e. differ (name_injective i j small few ((bytes_eq-Decides (m_name i) (m_name j)).0 e)))

name_same : (i : ℕ) → same (m_name i) (m_name i) ≡ true
name_same i = (bytes_eq-Decides (m_name i) (m_name i)).1 refl

-- ---- look-ups

find_push : (roles : Roles) (y : List ℕ) (v : Role) (x : List ℕ) → find roles x ≡ None → find (roles ++ (y, v) ∷ []) x ≡ cond (same x y) (Some v) None
find_push [] y v x h = refl
find_push (e ∷ roles) y v x h = by_case (same x e.0) h (find_push roles y v x) where
  by_case : (b : Bool) → cond b (Some e.1) (find roles x) ≡ None → (find roles x ≡ None → find (roles ++ (y, v) ∷ []) x ≡ cond (same x y) (Some v) None) →
      cond b (Some e.1) (find (roles ++ (y, v) ∷ []) x) ≡ cond (same x y) (Some v) None
  by_case true k go = cc
  by_case false k go = go k

find_kept : (roles more : Roles) (v : Role) (x : List ℕ) → find roles x ≡ Some v → find (roles ++ more) x ≡ Some v
find_kept [] more v x h = cc
find_kept (e ∷ roles) more v x h = by_case (same x e.0) h (find_kept roles more v x) where
  by_case : (b : Bool) → cond b (Some e.1) (find roles x) ≡ Some v → (find roles x ≡ Some v → find (roles ++ more) x ≡ Some v) → cond b (Some e.1) (find (roles ++ more) x) ≡ Some v
  by_case true k go = k
  by_case false k go = go k

new_name : (i j : ℕ) → i < j → j ≤ max_made_methods → find (method_roles i) (m_name j) ≡ None
new_name zero j lt few = refl
new_name (suc i) j lt few =
    find_push (method_roles i) (m_name (suc i)) (role.Method i) (m_name j) (new_name i j (omega arith) few) ∙
    rw (names_differ j (suc i) few (omega arith) (λ e. omega arith)) refl

found_name : (n i : ℕ) → i < n → n ≤ max_made_methods → find (method_roles n) (m_name (suc i)) ≡ Some (role.Method i)
found_name zero i lt few = absurd (omega arith)
found_name (suc n) i lt few = by_case (cases_lt i n) (found_name n i) where
  by_case : (i < n) ⊎ (n ≤ i) → (i < n → n ≤ max_made_methods → find (method_roles n) (m_name (suc i)) ≡ Some (role.Method i)) → find (method_roles (suc n)) (m_name (suc i)) ≡ Some (role.Method i)
  by_case (inl below) go = find_kept (method_roles n) ((m_name (suc n), role.Method n) ∷ []) (role.Method i) (m_name (suc i)) (go below (omega arith))
  by_case (inr above) go =
      let last : i ≡ n = omega arith in
      subst (λ k. find (method_roles (suc n)) (m_name (suc k)) ≡ Some (role.Method k)) (sym last)
      (find_push (method_roles n) (m_name (suc n)) (role.Method n) (m_name (suc n)) (new_name n (suc n) (omega arith) few) ∙ rw (name_same (suc n)) refl)

-- ---- signatures

pub slice_get_left : {X : Type 0} (xs ys : List X) (i : ℕ) {x : X} → slice_get xs i ≡ Some x → slice_get (xs ++ ys) i ≡ Some x
slice_get_left [] ys i h = cc
slice_get_left (y ∷ xs) ys zero h = h
slice_get_left (y ∷ xs) ys (suc i) h = slice_get_left xs ys i h

pub slice_get_seam : {X : Type 0} (xs : List X) (x : X) → slice_get (xs ++ x ∷ []) (length xs) ≡ Some x
slice_get_seam [] x = refl
slice_get_seam (y ∷ xs) x = slice_get_seam xs x

signature_at : (n i : ℕ) → i < n → slice_get (signatures n) i ≡ Some signature
signature_at zero i lt = absurd (omega arith)
signature_at (suc n) i lt = by_case (cases_lt i n) (signature_at n i) where
  by_case : (i < n) ⊎ (n ≤ i) → (i < n → slice_get (signatures n) i ≡ Some signature) → slice_get (signatures (suc n)) i ≡ Some signature
  by_case (inl below) go = slice_get_left (signatures n) (signature ∷ []) i (go below)
  by_case (inr above) go = let last : i ≡ length (signatures n) = omega (arith, signature_count n) in rw last (slice_get_seam (signatures n) signature)

-- a call finds the method of its name
pub callee : (n i : ℕ) → i < n → n ≤ max_made_methods → method_at (world_of n) (m_name (suc i)) ≡ Some (i, signature)
callee n i lt few = ap (λ r. method_in (signatures n) r) (found_name n i lt few) ∙ ap (λ s. numbered i s) (signature_at n i lt)

-- ---- all names are gone through

naming_append : (w : World) (xs ys : List d.Decl) → naming w (xs ++ ys) ≡ then_typed (naming w xs) (λ v. naming v ys)
naming_append w [] ys = refl
naming_append w (x ∷ xs) ys = by_case (is_new w x) (naming_append (with_decl w x) xs ys) where
  by_case : (b : Bool) → naming (with_decl w x) (xs ++ ys) ≡ then_typed (naming (with_decl w x) xs) (λ v. naming v ys) →
      obeys b (decl_name x).pos rule.DeclaredTwice (naming (with_decl w x) (xs ++ ys)) ≡ then_typed (obeys b (decl_name x).pos rule.DeclaredTwice (naming (with_decl w x) xs)) (λ v. naming v ys)
  by_case true h = h
  by_case false h = refl

with_method : (q : ℕ → Pos) (i : ℕ) → with_decl (world_of i) (d.Method (method_tree q (suc i))) ≡ world_of (suc i)
with_method q i = ap (λ k. world (method_roles i ++ (m_name (suc i), role.Method k) ∷ []) (signatures (suc i))) (signature_count i)

one_named : (q : ℕ → Pos) (i : ℕ) → suc i ≤ max_made_methods → naming (world_of i) (d.Method (method_tree q (suc i)) ∷ []) ≡ Found (world_of (suc i))
one_named q i few =
    ap (λ r. obeys (not (is_some r)) (q 1) rule.DeclaredTwice (Found (with_decl (world_of i) (d.Method (method_tree q (suc i)))))) (new_name i (suc i) (omega arith) few) ∙
    ap (λ w. Found w) (with_method q i)

methods_named : (q : ℕ → Pos) (n : ℕ) → n ≤ max_made_methods → naming (world_of 0) (methods_trees q n) ≡ Found (world_of n)
methods_named q zero few = refl
methods_named q (suc i) few =
    let m : d.Decl = d.Method (method_tree (behind q (methods_toks i)) (suc i)) in
    naming_append (world_of 0) (methods_trees q i) (m ∷ []) ∙ ap (λ j. then_typed j (λ v. naming v (m ∷ []))) (methods_named q i (omega arith)) ∙
    one_named (behind q (methods_toks i)) i few

pub all_named : (p : ℕ → Pos) (n : ℕ) → n ≤ max_made_methods → naming no_world (source_of p n).decls ≡ Found (world_of n)
all_named p n few = methods_named (behind p field_toks) n few
