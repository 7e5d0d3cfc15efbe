-- Whether a literal is what the text of an expression says, where names of the conditions are told to be literals. A connective or
-- a comparison is put by `&&`, `==`, `<=` and the sign of the literal.
use Rattle.std.specs.Prelude.{◌==◌, ℕ, ℤ, Bool as Truth, true, false, not, ◌&&◌, ◌||◌, List, [], ◌∷◌, Option, Some, None, slice_get, if◌then◌else◌}
use Rattle.std.specs.Bool.{beq}
use Rattle.std.specs.Ordering.{int_eq}
use Rattle.boogie_tree.specs.Program.{BType}
use Rattle.boogie_tree.specs.declared.exprs.BBase.TheVariants as base
use Rattle.boogie_tree.specs.declared.exprs.BOp.{BOp}
use Rattle.boogie_tree.specs.declared.exprs.BOp.TheVariants as op
use Rattle.boogie_meaning.specs.Types.{is_base}
use Rattle.boogie_formula.specs.Formula as f
use Rattle.boogie_formula.specs.Formula.{FExpr, FExprs}
use Rattle.boogie_formula.specs.Types.{fbase, fbases}
use Rattle.boogie_types.specs.Typed.{are_bases}
use Rattle.cert_terms.specs.Literals.{turned}
use Rattle.cert_terms.specs.Terms.{operand, operands}
use Rattle.cert_terms.specs.declared.terms.ClauseLiteral.{ClauseLiteral}
use Rattle.cert_terms.specs.declared.terms.CertificateTerm.{CertificateTerm}
use Rattle.cert_terms.specs.declared.terms.CertificateTerm.TheVariants as term

-- the terms so far, and what names are told to be
pub record Told : Type 0 where
  pub terms : List CertificateTerm
  pub types : List BType
  -- the literal that a name of the conditions is told to be, where it is
  pub aliases : List (Option ClauseLiteral)
  -- the keys that stand for the names that a `forall` binds, inside of one
  pub keys : Option (List ClauseLiteral)

-- ---- literals

abbrev pub same_literal : ClauseLiteral → ClauseLiteral → Truth
same_literal a b = (a.name == b.name) && beq a.negated b.negated

abbrev pub same_literals : List ClauseLiteral → List ClauseLiteral → Truth
same_literals [] [] = true
same_literals (a ∷ as') (b ∷ bs) = same_literal a b && same_literals as' bs
same_literals _ _ = false

abbrev pub plainly : ℕ → ClauseLiteral
plainly n = record { name = n; negated = false }

abbrev pub is_bool : Told → ClauseLiteral → Truth
is_bool t l = is_base (fbase t.types (operand l)) base.Bool

-- ---- names

abbrev pub is_same : ℕ → Option CertificateTerm → Truth
is_same i (Some (term.Same j)) = j == i
is_same i _ = false

abbrev pub is_alias : Option (Option ClauseLiteral) → ClauseLiteral → Truth
is_alias (Some (Some a)) l = same_literal a l
is_alias _ l = false

-- the literal is the name, a term that is the same, or what the name is told to be
abbrev pub is_name : Told → ℕ → ClauseLiteral → Truth
is_name t i l = (not l.negated && ((l.name == i) || is_same i (slice_get t.terms l.name))) || is_alias (slice_get t.aliases i) l

-- ---- operators

-- the operator by which another one is put
abbrev pub core : BOp → BOp
core op.Or = op.And
core op.Implies = op.And
core op.Ne = op.Eq
core op.Iff = op.Eq
core op.Lt = op.Le
core op.Gt = op.Le
core op.Ge = op.Le
core o = o

-- whether it is put by a negation
abbrev pub is_turned : BOp → Truth
is_turned op.Or = true
is_turned op.Implies = true
is_turned op.Ne = true
is_turned op.Lt = true
is_turned op.Gt = true
is_turned _ = false

-- the left and the right side, by those of the term
abbrev pub left_of : BOp → ClauseLiteral → ClauseLiteral → ClauseLiteral
left_of op.Or x y = turned x
left_of op.Lt x y = y
left_of op.Ge x y = y
left_of _ x y = x

abbrev pub right_of : BOp → ClauseLiteral → ClauseLiteral → ClauseLiteral
right_of op.Or x y = turned y
right_of op.Implies x y = turned y
right_of op.Lt x y = x
right_of op.Ge x y = x
right_of _ x y = y

abbrev pub same_op : BOp → BOp → Truth
same_op op.Iff op.Iff = true
same_op op.Implies op.Implies = true
same_op op.Or op.Or = true
same_op op.And op.And = true
same_op op.Eq op.Eq = true
same_op op.Ne op.Ne = true
same_op op.Lt op.Lt = true
same_op op.Le op.Le = true
same_op op.Gt op.Gt = true
same_op op.Ge op.Ge = true
same_op op.Add op.Add = true
same_op op.Sub op.Sub = true
same_op op.Mul op.Mul = true
same_op op.Divide op.Divide = true
same_op op.IntDiv op.IntDiv = true
same_op op.IntMod op.IntMod = true
same_op _ _ = false

-- `<==>` is of truth values
abbrev pub suits : Told → BOp → ClauseLiteral → Truth
suits t op.Iff x = is_bool t x
suits t _ x = true

-- ---- shapes of terms

-- the term that a literal is, if it is no negation
abbrev pub own : Told → ClauseLiteral → Option CertificateTerm
own t l = if l.negated then None else slice_get t.terms l.name

abbrev pub is_int : ℤ → Option CertificateTerm → Truth
is_int n (Some (term.Int m)) = int_eq m n
is_int n _ = false

abbrev pub is_real : ℤ → Option CertificateTerm → Truth
is_real n (Some (term.Real m)) = int_eq m n
is_real n _ = false

abbrev pub is_truth : Truth → Option CertificateTerm → Truth
is_truth p (Some (term.Bool q)) = beq q p
is_truth p _ = false

abbrev pub is_null : Option CertificateTerm → Truth
is_null (Some term.Null) = true
is_null _ = false

abbrev pub is_unit : Option CertificateTerm → Truth
is_unit (Some term.Unit) = true
is_unit _ = false

abbrev pub of_neg : Option CertificateTerm → Option ClauseLiteral
of_neg (Some (term.Neg x)) = Some x
of_neg _ = None

abbrev pub of_real : Option CertificateTerm → Option ClauseLiteral
of_real (Some (term.ToReal x)) = Some x
of_real _ = None

abbrev pub of_s_int : Option CertificateTerm → Option ClauseLiteral
of_s_int (Some (term.SInt x)) = Some x
of_s_int _ = None

abbrev pub of_s_bool : Option CertificateTerm → Option ClauseLiteral
of_s_bool (Some (term.SBool x)) = Some x
of_s_bool _ = None

abbrev pub of_s_ref : Option CertificateTerm → Option ClauseLiteral
of_s_ref (Some (term.SRef x)) = Some x
of_s_ref _ = None

abbrev pub of_s_perm : Option CertificateTerm → Option ClauseLiteral
of_s_perm (Some (term.SPerm x)) = Some x
of_s_perm _ = None

abbrev pub one_text : Option ClauseLiteral → (ClauseLiteral → Truth) → Truth
one_text (Some x) go = go x
one_text None go = false

abbrev pub pair_text : Option CertificateTerm → (ClauseLiteral → ClauseLiteral → Truth) → Truth
pair_text (Some (term.Pair x y)) go = go x y
pair_text _ go = false

abbrev pub bin_text : BOp → Option CertificateTerm → (ClauseLiteral → ClauseLiteral → Truth) → Truth
bin_text o (Some (term.Bin p x y)) go = same_op p o && go x y
bin_text o _ go = false

abbrev pub if_text : Option CertificateTerm → (ClauseLiteral → ClauseLiteral → ClauseLiteral → Truth) → Truth
if_text (Some (term.If x y z)) go = go x y z
if_text _ go = false

abbrev pub at_text : Option CertificateTerm → (ℕ → List ClauseLiteral → Truth) → Truth
at_text (Some (term.At n ks)) go = go n ks.items
at_text _ go = false

abbrev pub put_text : Option CertificateTerm → (ℕ → List ClauseLiteral → ClauseLiteral → Truth) → Truth
put_text (Some (term.Put n ks x)) go = go n ks.items x
put_text _ go = false

abbrev pub same_keys : Option (List ClauseLiteral) → List ClauseLiteral → Truth
same_keys (Some qs) ks = same_literals qs ks
same_keys None ks = false

-- ---- texts

-- of an expression without parts
abbrev pub leaf_text : Told → FExpr → ClauseLiteral → Truth
leaf_text t (f.Int n) l = is_int n (own t l)
leaf_text t (f.Real n) l = is_real n (own t l)
leaf_text t (f.Bool p) l = is_truth (if l.negated then not p else p) (slice_get t.terms l.name)
leaf_text t f.Null l = is_null (own t l)
leaf_text t f.Unit l = is_unit (own t l)
leaf_text t e l = false

abbrev mutual
  -- of an expression that is no map
  pub is_text : Told → FExpr → ClauseLiteral → Truth
  is_text t (f.Var i) l = is_name t i l
  is_text t (f.Int n) l = is_int n (own t l)
  is_text t (f.Real n) l = is_real n (own t l)
  is_text t (f.Bool p) l = is_truth (if l.negated then not p else p) (slice_get t.terms l.name)
  is_text t f.Null l = is_null (own t l)
  is_text t f.Unit l = is_unit (own t l)
  is_text t (f.Neg a) l = one_text (of_neg (own t l)) (λ x. is_text t a x)
  is_text t (f.Not a) l = is_bool t l && is_text t a (turned l)
  is_text t (f.Bin o a b) l =
      beq l.negated (is_turned o) && bin_text (core o) (slice_get t.terms l.name) (λ x y. suits t o x && (is_text t a (left_of o x y) && is_text t b (right_of o x y)))
  is_text t (f.If c a b) l = if_text (own t l) (λ x y z. is_text t c x && (is_text t a y && is_text t b z))
  is_text t (f.Forall us a) l = false
  is_text t (f.ToReal a) l = one_text (of_real (own t l)) (λ x. is_text t a x)
  is_text t (f.SInt a) l = one_text (of_s_int (own t l)) (λ x. is_text t a x)
  is_text t (f.SBool a) l = one_text (of_s_bool (own t l)) (λ x. is_text t a x)
  is_text t (f.SRef a) l = one_text (of_s_ref (own t l)) (λ x. is_text t a x)
  is_text t (f.SPerm a) l = one_text (of_s_perm (own t l)) (λ x. is_text t a x)
  is_text t (f.Pair a b) l = pair_text (own t l) (λ x y. is_text t a x && is_text t b y)
  is_text t (f.At m es) l = at_text (own t l) (λ n ks. is_name t m (plainly n) && are_texts t es ks)
  is_text t (f.AtBound m) l = at_text (own t l) (λ n ks. is_name t m (plainly n) && same_keys t.keys ks)
  is_text t (f.With m es e) l = false

  pub are_texts : Told → FExprs → List ClauseLiteral → Truth
  are_texts t f.none [] = true
  are_texts t (f.more a es) (k ∷ ks) = is_text t a k && are_texts t es ks
  are_texts t _ _ = false

-- of a definition, which may be a map
abbrev pub is_whole : Told → FExpr → ClauseLiteral → Truth
is_whole t (f.Var i) l = is_name t i l
is_whole t (f.If c a b) l = if_text (own t l) (λ x y z. is_text t c x && (is_whole t a y && is_whole t b z))
is_whole t (f.With m es e) l = put_text (own t l) (λ n ks x. is_whole t m (plainly n) && (are_texts t es ks && is_text t e x))
is_whole t e l = is_text t e l

-- of the definition of this name; one that is a `forall` is just its name
abbrev pub is_told : Told → ℕ → FExpr → ClauseLiteral → Truth
is_told t i (f.Forall us a) l = is_name t i l
is_told t i e l = is_whole t e l

-- of the body of a definition that is a `forall`, at keys of its types
abbrev pub is_instance : Told → FExpr → List ClauseLiteral → ClauseLiteral → Truth
is_instance t (f.Forall us a) ks l = are_bases (fbases t.types (operands ks)) us && is_text t a l
is_instance t e ks l = false
