-- Names that are declared one after the other, none of them twice.
use Rattle.std.proofs.Common.{◌≡◌, ◌≢◌, ◌==◌, ℕ, Bool, true, false, cond, Option, Some, None, List, [], ◌∷◌, ◌++◌, map, refl, sym, subst, arith}
use Rattle.std.specs.Cmp.Lexicographic.{pointwise, other_text}
use Rattle.std.specs.List.{AllByRecursion}
use Rattle.std.proofs.lemmas.List.Elements.{All-from_recursion}
use Rattle.std.proofs.lemmas.List.Kept.{AllPairs-cons}
use Rattle.vb_base.specs.Names.{NamesDiffer}
use Rattle.viper_syntax.specs.Decl as d
use Rattle.viper_syntax.specs.declared.stmts.Formal.{Formal}
use Rattle.viper_scope.specs.declared.context.Role.{Role}
use Rattle.viper_scope.specs.Context.{World, find}
use Rattle.viper_types.specs.Frame.{MethodVariables}
use Rattle.viper_scope.specs.Naming.{decl_name, with_decl}
use Rattle.viper_types.specs.Declaring.{name_of}
use Rattle.viper_types.specs.Program.{AreNamed, no_names, one_name, AreFormals, no_formals, one_formal}

-- a name that is none of these
abbrev pub IsNew : List ℕ → List (List ℕ) → Type 0
IsNew x xs = AllByRecursion (λ y. x ≢ y) xs

-- no name twice
abbrev pub Apart : List (List ℕ) → Type 0
Apart [] = Unit {0}
Apart (x ∷ xs) = IsNew x xs × Apart xs

pub differ_from_apart : (xs : List (List ℕ)) → Apart xs → NamesDiffer xs
differ_from_apart [] h = λ i j d lt lt'. absurd (omega (arith, lt'))
differ_from_apart (x ∷ xs) h = AllPairs-cons (λ a b. a ≢ b) x xs (All-from_recursion (λ y. x ≢ y) xs h.0) (differ_from_apart xs h.1)

-- what holds of all, with one more among them

pub all_among : {X : Type 0} (P : X → Type 0) (xs ys : List X) (x : X) → AllByRecursion P (xs ++ ys) → P x → AllByRecursion P (xs ++ x ∷ ys)
all_among P [] ys x h i = (i, h)
all_among P (y ∷ xs) ys x h i = (h.0, all_among P xs ys x h.1 i)

pub apart_among : (xs ys : List (List ℕ)) (x : List ℕ) → Apart (xs ++ ys) → IsNew x (xs ++ ys) → Apart (xs ++ x ∷ ys)
apart_among [] ys x h i = (i, h)
apart_among (y ∷ xs) ys x h i = (all_among (λ z. y ≢ z) xs ys x h.0 (λ is. i.0 (sym is)), apart_among xs ys x h.1 i.1)

pub all_both : {X : Type 0} (P Q : X → Type 0) (xs : List X) → AllByRecursion (λ x. P x × Q x) xs → AllByRecursion P xs × AllByRecursion Q xs
all_both P Q [] h = (tt, tt)
all_both P Q (x ∷ xs) h = let rest = all_both P Q xs h.1 in ((h.0.0, rest.0), (h.0.1, rest.1))

pub all_weaker : {X : Type 0} (P Q : X → Type 0) (xs : List X) → ((x : X) → P x → Q x) → AllByRecursion P xs → AllByRecursion Q xs
all_weaker P Q [] f h = tt
all_weaker P Q (x ∷ xs) f h = (f x h.0, all_weaker P Q xs f h.1)

-- names that stand for nothing yet

abbrev pub IsUnknown : {X : Type 0} → List (List ℕ × X) → List ℕ → Type 0
IsUnknown entries y = find entries y ≡ None

none_of_two : {X : Type 0} (b : Bool) (x : X) (o : Option X) → cond b (Some x) o ≡ None → (b ≡ false) × (o ≡ None)
none_of_two true x o h = absurd (cc)
none_of_two false x o h = (refl, h)

known_later : {X : Type 0} (b : Bool) (x : X) (o : Option X) → b ≡ false → o ≡ None → cond b (Some x) o ≡ None
known_later true x o h i = absurd (cc)
known_later false x o h i = i

unknown_before : {X : Type 0} (entries : List (List ℕ × X)) (x : List ℕ) (v : X) (y : List ℕ) → IsUnknown (entries ++ (x, v) ∷ []) y →
    IsUnknown entries y × (x ≢ y)
unknown_before [] x v y h = let parts = none_of_two (pointwise ◌==◌ y x) v None h in (refl, λ is. other_text y x (sym parts.0) (sym is))
unknown_before (e ∷ entries) x v y h =
    let parts = none_of_two (pointwise ◌==◌ y e.0) e.1 (find (entries ++ (x, v) ∷ []) y) h in
    let rest = unknown_before entries x v y parts.1 in
    (known_later (pointwise ◌==◌ y e.0) e.1 (find entries y) parts.0 rest.0, rest.1)

-- one more name
one_more : {X : Type 0} (entries : List (List ℕ × X)) (x : List ℕ) (v : X) (xs : List (List ℕ)) → IsUnknown entries x →
    AllByRecursion (IsUnknown (entries ++ (x, v) ∷ [])) xs → Apart xs →
    AllByRecursion (IsUnknown entries) (x ∷ xs) × Apart (x ∷ xs)
one_more entries x v xs i h apart =
    let parts = all_both (IsUnknown entries) (λ y. x ≢ y) xs
    (all_weaker (IsUnknown (entries ++ (x, v) ∷ [])) (λ y. IsUnknown entries y × (x ≢ y)) xs (λ y known. unknown_before entries x v y known) h) in
    ((i, parts.0), (parts.1, apart))

-- ---- formals

pub formals_apart : {allows_perm is_parameter : Bool} {fr gr : MethodVariables} {fs : List Formal} (rest : List (List ℕ)) →
    AreFormals allows_perm is_parameter fr fs gr → AllByRecursion (IsUnknown gr.scope) rest → Apart rest →
    AllByRecursion (IsUnknown fr.scope) (map name_of fs ++ rest) × Apart (map name_of fs ++ rest)
formals_apart rest no_formals h apart = (h, apart)
formals_apart rest (one_formal {fr = fr} {f = f} {fs = fs} i is allowed more) h apart =
    let others = formals_apart rest more h apart in one_more fr.scope f.name.name _ (map name_of fs ++ rest) i others.0 others.1

-- ---- declarations

abbrev pub decl_bytes : d.Decl → List ℕ
decl_bytes a = (decl_name a).name

more_roles : (w : World) (a : d.Decl) → (r : Role) × ((with_decl w a).roles ≡ w.roles ++ (decl_bytes a, r) ∷ [])
more_roles w (d.Field f) = (_, refl)
more_roles w (d.Predicate at x params body) = (_, refl)
more_roles w (d.Method m) = (_, refl)

pub decls_apart : {w v : World} {ds : List d.Decl} → AreNamed w ds v → AllByRecursion (IsUnknown w.roles) (map decl_bytes ds) × Apart (map decl_bytes ds)
decls_apart no_names = (tt, tt)
decls_apart (one_name {w = w} {a = a} {rest = rest} i more) =
    let others = decls_apart more in
    let role = more_roles w a in
    one_more w.roles (decl_bytes a) role.0 (map decl_bytes rest) i
    (subst (λ roles. AllByRecursion (IsUnknown roles) (map decl_bytes rest)) role.1 others.0) others.1
