-- No line that is written has a byte that ends it.
use Rattle.std.proofs.Common.{◌≡◌, ◌∙◌, refl, sym, subst, arith, ℕ, zero, suc, ◌+◌, ◌^◌, ◌==◌, ◌<◌, Bool as Truth, true, false, List, [], ◌∷◌, ◌++◌, length, length-append, codes, append-nil}
use Rattle.std.specs.Prelude.{⊤}
use Rattle.std.specs.Char.{is_ascii_digit}
use Rattle.std.specs.Fmt.{decimal, signed_decimal}
use Rattle.std.specs.List.{list_all}
use Rattle.std.proofs.lemmas.Bool.{and_from, and_parts, or_left, ne_eqb, eqb-true, not_from_false, leb-true}
use Rattle.std.proofs.lemmas.List.Folds.{list_all-append}
use Rattle.vb_base.specs.declared.labels.Kind.{Kind}
use Rattle.vb_base.specs.declared.labels.Kind.TheVariants as kind
use Rattle.vb_base.specs.declared.labels.Label.{Label}
use Rattle.vb_base.specs.declared.places.Pos.{Pos}
use Rattle.vb_base.specs.Labels.{text_of, place_text, kind_text}
use Rattle.vb_base.specs.Names.{is_name, is_name_start, is_name_byte}
use Rattle.boogie_tree.specs.Expr as t
use Rattle.boogie_tree.specs.Fits.{FitsExpr, FitExprs}
use Rattle.boogie_tree.specs.Literals.{IsLiteral}
use Rattle.boogie_tree.specs.Program.{BType}
use Rattle.boogie_tree.specs.declared.exprs.BBase.{BBase}
use Rattle.boogie_tree.specs.declared.exprs.BBase.TheVariants as base
use Rattle.boogie_tree.specs.declared.exprs.BOp.{BOp}
use Rattle.boogie_tree.specs.declared.exprs.BOp.TheVariants as op
use Rattle.boogie_grammar.specs.Pieces.{is_in_line}
use Rattle.boogie_grammar.specs.Printed.{Naming, name_at, base_text, operator_text, truth_text, free_name, bound_names, under, names_text, binders_text, expr_text, exprs_text, bases_text, keys_text, type_text}
use Rattle.boogie_print.specs.Short.{ShortExpr, ShortExprs}
use Rattle.boogie_print.proofs.FreshLaws.{free_form}
use Rattle.boogie_formula_text.specs.Names.{variable_name, definition_name, numbered, names_in_scope}
use Rattle.boogie_formula_text.specs.Printed.{scope_naming}
use Rattle.boogie_formula_text.proofs.ScopeNames.{digits_only}

-- no byte of it ends a line
abbrev pub Clean : List ℕ → Type 0
Clean bytes = list_all is_in_line bytes ≡ true

pub both : (xs ys : List ℕ) → Clean xs → Clean ys → Clean (xs ++ ys)
both xs ys h k = list_all-append is_in_line xs ys ∙ and_from _ _ h k

-- ---- numbers and labels

digits_clean : (ds : List ℕ) → list_all is_ascii_digit ds ≡ true → Clean ds
digits_clean [] h = refl
digits_clean (d ∷ ds) h =
    let parts = and_parts (is_ascii_digit d) (list_all is_ascii_digit ds) h in
    let range = and_parts _ _ parts.0 in
    let le = leb-true 48 d range.0 in
    and_from _ _ (not_from_false _ (ne_eqb d 10 (λ e. omega (arith, e, le)))) (digits_clean ds parts.1)

pub decimal_clean : (n : ℕ) → n < 10 ^ 64 → Clean (decimal n)
decimal_clean n small = digits_clean (decimal n) (digits_only n small)

place_clean : (p : Pos) → Clean (place_text p)
place_clean p =
    both (decimal p.line ++ codes ":") (decimal p.col)
    (both (decimal p.line) (codes ":") (decimal_clean p.line (omega (arith, p.line_in_range.1))) refl)
    (decimal_clean p.col (omega (arith, p.col_in_range.1)))

kind_clean : (k : Kind) → Clean (kind_text k)
kind_clean kind.Null = refl
kind_clean kind.Perm = refl
kind_clean kind.Fact = refl
kind_clean kind.Div = refl
kind_clean kind.Negative = refl
kind_clean kind.Amount = refl

pub label_clean : (l : Label) → Clean (text_of l)
label_clean l =
    let at = place_clean l.at in
    let part = place_clean l.part in
    both (place_text l.at ++ codes " " ++ place_text l.part ++ codes " ") (kind_text l.kind)
    (both (place_text l.at ++ codes " " ++ place_text l.part) (codes " ")
    (both (place_text l.at ++ codes " ") (place_text l.part) (both (place_text l.at) (codes " ") at refl) part) refl)
    (kind_clean l.kind)

-- ---- names and types

byte_clean : (b : ℕ) (c : Truth) → (b == 10) ≡ c → is_name_byte b ≡ true → is_in_line b ≡ true
byte_clean b true e h = let wrong : is_name_byte 10 ≡ true = subst (λ z. is_name_byte z ≡ true) (eqb-true b 10 e) h in absurd (cc)
byte_clean b false e h = not_from_false _ e

bytes_clean : (bytes : List ℕ) → list_all is_name_byte bytes ≡ true → Clean bytes
bytes_clean [] h = refl
bytes_clean (b ∷ bytes) h =
    let parts = and_parts (is_name_byte b) (list_all is_name_byte bytes) h in
    and_from _ _ (byte_clean b (b == 10) refl parts.0) (bytes_clean bytes parts.1)

pub name_bytes : (name : List ℕ) → is_name name ≡ true → list_all is_name_byte name ≡ true
name_bytes [] h = refl
name_bytes (b ∷ bytes) h =
    let parts = and_parts (is_name_start b) (list_all is_name_byte bytes) h in
    and_from _ _ (or_left _ _ (or_left _ _ parts.0)) parts.1

pub name_clean : (name : List ℕ) → is_name name ≡ true → Clean name
name_clean name h = bytes_clean name (name_bytes name h)

base_clean : (u : BBase) → Clean (base_text u)
base_clean base.Int = refl
base_clean base.Bool = refl
base_clean base.Ref = refl
base_clean base.Real = refl
base_clean base.Snap = refl

operator_clean : (o : BOp) → Clean (operator_text o)
operator_clean op.Iff = refl
operator_clean op.Implies = refl
operator_clean op.Or = refl
operator_clean op.And = refl
operator_clean op.Eq = refl
operator_clean op.Ne = refl
operator_clean op.Lt = refl
operator_clean op.Le = refl
operator_clean op.Gt = refl
operator_clean op.Ge = refl
operator_clean op.Add = refl
operator_clean op.Sub = refl
operator_clean op.Mul = refl
operator_clean op.Divide = refl
operator_clean op.IntDiv = refl
operator_clean op.IntMod = refl

truth_clean : (b : Truth) → Clean (truth_text b)
truth_clean true = refl
truth_clean false = refl

bases_clean : (before : List ℕ) → Clean before → (us : List BBase) → Clean (bases_text before us)
bases_clean before h [] = refl
bases_clean before h (u ∷ us) =
    both (before ++ base_text u) (bases_text (codes ", ") us) (both before (base_text u) h (base_clean u)) (bases_clean (codes ", ") refl us)

keys_clean : (us : List BBase) → Clean (keys_text us)
keys_clean [] = refl
keys_clean (u ∷ us) = both (codes "[" ++ bases_text [] (u ∷ us)) (codes "]") (both (codes "[") (bases_text [] (u ∷ us)) refl (bases_clean [] refl (u ∷ us))) refl

pub type_clean : (u : BType) → Clean (type_text u)
type_clean u = both (keys_text u.keys) (base_text u.base) (keys_clean u.keys) (base_clean u.base)

-- each of these names
abbrev CleanNames : List (List ℕ) → Type 0
CleanNames names = (i : ℕ) → Clean (name_at names i)

numbered_clean : (name : ℕ → List ℕ) → ((k : ℕ) → k < 10 ^ 64 → Clean (name k)) → (n k : ℕ) (more : List (List ℕ)) → k + n < 2 ^ 64 → CleanNames more →
    CleanNames (numbered name k n ++ more)
numbered_clean name h zero k more small rest i = rest i
numbered_clean name h (suc n) k more small rest zero = h k (omega (arith, small))
numbered_clean name h (suc n) k more small rest (suc i) = numbered_clean name h n (k + 1) more (omega (arith, small)) rest i

none_clean : CleanNames []
none_clean i = refl

pub scope_clean : (n k : ℕ) → n < 2 ^ 63 → k < 2 ^ 63 → CleanNames (names_in_scope n k)
scope_clean n k few some =
    numbered_clean variable_name (λ j lt. decimal_clean j lt) n 1 (numbered definition_name 1 k) (omega (arith, few)) (second k some) where
      second : (k : ℕ) → k < 2 ^ 63 → CleanNames (numbered definition_name 1 k)
      second k some =
          subst CleanNames (append-nil (numbered definition_name 1 k))
          (numbered_clean definition_name (λ j lt. decimal_clean j lt) k 1 [] (omega (arith, some)) none_clean)

-- ---- bound variables

abbrev AllClean : List (List ℕ) → Type 0
AllClean [] = ⊤
AllClean (x ∷ xs) = Clean x × AllClean xs

bound_clean : (us : List BBase) (chosen : List (List ℕ)) → length chosen + length us < 2 ^ 64 → AllClean (bound_names [] chosen us)
bound_clean [] chosen small = tt
bound_clean (u ∷ us) chosen small =
    let l = length-append chosen (free_name chosen ∷ []) in
    (name_clean (free_name chosen) (free_form chosen (omega (arith, small))), bound_clean us (chosen ++ (free_name chosen ∷ [])) (omega (arith, l, small)))

names_clean : (before : List ℕ) → Clean before → (xs : List (List ℕ)) → AllClean xs → Clean (names_text before xs)
names_clean before h [] all = refl
names_clean before h (x ∷ xs) all = both (before ++ x) (names_text (codes ", ") xs) (both before x h all.0) (names_clean (codes ", ") refl xs all.1)

binders_clean : (before : List ℕ) → Clean before → (xs : List (List ℕ)) (us : List BBase) → AllClean xs → Clean (binders_text before xs us)
binders_clean before h [] us all = refl
binders_clean before h (x ∷ xs) [] all = refl
binders_clean before h (x ∷ xs) (u ∷ us) all =
    both (before ++ x ++ codes ": " ++ base_text u) (binders_text (codes ", ") xs us)
    (both (before ++ x ++ codes ": ") (base_text u) (both (before ++ x) (codes ": ") (both before x h all.0) refl) (base_clean u))
    (binders_clean (codes ", ") refl xs us all.1)

-- ---- expressions

number_clean : (n : _) → IsLiteral n → Clean (signed_decimal n)
number_clean n h = subst (λ m. Clean (signed_decimal m)) (sym h.is) (decimal_clean h.natural (let le = h.within in omega (arith, le)))

record CleanNaming (x : Naming) : Type 0 where
  locals : CleanNames x.locals
  taken : x.taken ≡ []
  bound : AllClean x.bound

under_clean : (x : Naming) (us : List BBase) → CleanNaming x → length us < 2 ^ 63 → CleanNaming (under x us)
under_clean x us h small = record {
  locals = h.locals;
  taken = h.taken;
  bound = subst (λ l. AllClean (bound_names l [] us)) (sym h.taken) (bound_clean us [] (omega (arith, small)));
}

pub between : (front text behind : List ℕ) → Clean front → Clean text → Clean behind → Clean (front ++ text ++ behind)
between front text behind h k l = both (front ++ text) behind (both front text h k) l

mutual
  expr_clean : (x : Naming) (n : ℕ) (b : Truth) → CleanNaming x → (e : t.BExpr) → FitsExpr n b e → ShortExpr e → Clean (expr_text x e)
  expr_clean x n b c (t.Var i) h s = c.locals i
  expr_clean x n b c (t.Int k) h s = number_clean k h
  expr_clean x n b c (t.Real k) h s = both (signed_decimal k) (codes ".0") (number_clean k h) refl
  expr_clean x n b c (t.Bool p) h s = truth_clean p
  expr_clean x n b c t.Null h s = refl
  expr_clean x n b c t.Unit h s = refl
  expr_clean x n b c (t.Neg a) h s = between (codes "(- ") (expr_text x a) (codes ")") refl (expr_clean x n b c a h s) refl
  expr_clean x n b c (t.Not a) h s = between (codes "(! ") (expr_text x a) (codes ")") refl (expr_clean x n b c a h s) refl
  expr_clean x n b c (t.Bin o a d) h s =
      let first = both (codes "(" ++ expr_text x a) (codes " ") (both (codes "(") (expr_text x a) refl (expr_clean x n b c a h.0 s.0)) refl in
      let op = both (codes "(" ++ expr_text x a ++ codes " ") (operator_text o) first (operator_clean o) in
      between (codes "(" ++ expr_text x a ++ codes " " ++ operator_text o ++ codes " ") (expr_text x d) (codes ")")
      (both (codes "(" ++ expr_text x a ++ codes " " ++ operator_text o) (codes " ") op refl) (expr_clean x n b c d h.1 s.1) refl
  expr_clean x n b c (t.If a d e) h s =
      let first = between (codes "(if ") (expr_text x a) (codes " then ") refl (expr_clean x n b c a h.0 s.0) refl in
      let second = between (codes "(if " ++ expr_text x a ++ codes " then ") (expr_text x d) (codes " else ") first (expr_clean x n b c d h.1 s.1) refl in
      between (codes "(if " ++ expr_text x a ++ codes " then " ++ expr_text x d ++ codes " else ") (expr_text x e) (codes ")") second (expr_clean x n b c e h.2 s.2) refl
  expr_clean x n b c (t.Forall us a) h s =
      let inner = under_clean x us c s.0 in
      let names = binders_text [] (bound_names x.taken [] us) us in
      let head = between (codes "(forall ") names (codes " :: ") refl (binders_clean [] refl (bound_names x.taken [] us) us inner.bound) refl in
      between (codes "(forall " ++ names ++ codes " :: ") (expr_text (under x us) a) (codes ")") head (expr_clean (under x us) n true inner a h.3 s.1) refl
  expr_clean x n b c (t.ToReal a) h s = between (codes "real(") (expr_text x a) (codes ")") refl (expr_clean x n b c a h s) refl
  expr_clean x n b c (t.SInt a) h s = between (codes "sInt(") (expr_text x a) (codes ")") refl (expr_clean x n b c a h s) refl
  expr_clean x n b c (t.SBool a) h s = between (codes "sBool(") (expr_text x a) (codes ")") refl (expr_clean x n b c a h s) refl
  expr_clean x n b c (t.SRef a) h s = between (codes "sRef(") (expr_text x a) (codes ")") refl (expr_clean x n b c a h s) refl
  expr_clean x n b c (t.SPerm a) h s = between (codes "sPerm(") (expr_text x a) (codes ")") refl (expr_clean x n b c a h s) refl
  expr_clean x n b c (t.Pair a d) h s =
      let first = between (codes "sPair(") (expr_text x a) (codes ", ") refl (expr_clean x n b c a h.0 s.0) refl in
      between (codes "sPair(" ++ expr_text x a ++ codes ", ") (expr_text x d) (codes ")") first (expr_clean x n b c d h.1 s.1) refl
  expr_clean x n b c (t.At i es) h s =
      between (name_at x.locals i ++ codes "[") (exprs_text x [] es) (codes "]") (both (name_at x.locals i) (codes "[") (c.locals i) refl)
      (exprs_clean x n b c [] refl es h.2 s) refl
  expr_clean x n b c (t.AtBound i) h s =
      between (name_at x.locals i ++ codes "[") (names_text [] x.bound) (codes "]") (both (name_at x.locals i) (codes "[") (c.locals i) refl)
      (names_clean [] refl x.bound c.bound) refl

  exprs_clean : (x : Naming) (n : ℕ) (b : Truth) → CleanNaming x → (before : List ℕ) → Clean before → (es : t.BExprs) → FitExprs n b es → ShortExprs es →
      Clean (exprs_text x before es)
  exprs_clean x n b c before h t.none fit s = refl
  exprs_clean x n b c before h (t.more a es) fit s =
      both (before ++ expr_text x a) (exprs_text x (codes ", ") es) (both before (expr_text x a) h (expr_clean x n b c a fit.0 s.0))
      (exprs_clean x n b c (codes ", ") refl es fit.1 s.1)

scope_naming_clean : (n k : ℕ) → n < 2 ^ 63 → k < 2 ^ 63 → CleanNaming (scope_naming n k)
scope_naming_clean n k few some = record { locals = scope_clean n k few some; taken = refl; bound = tt }

pub scalar_clean : (n k : ℕ) → n < 2 ^ 63 → k < 2 ^ 63 → (e : t.BExpr) → FitsExpr (n + k) false e → ShortExpr e → Clean (expr_text (scope_naming n k) e)
scalar_clean n k few some e h s = expr_clean (scope_naming n k) (n + k) false (scope_naming_clean n k few some) e h s
