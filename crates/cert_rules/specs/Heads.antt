-- Terms as an operator or a constructor over parts that are no maps.
use Rattle.std.specs.Prelude.{◌≡◌, ℕ, slice_get, Option, Some, None, List, [], ◌∷◌, Bool as Truth, true, false}
use Rattle.sparse.specs.Map.{get}
use Rattle.vb_value.specs.Bound.{Unbounded}
use Rattle.vb_value.specs.Content as content
use Rattle.vb_value.specs.Key.{key_cmp}
use Rattle.boogie_tree.specs.Value.{Key, BScalar, Snap, BValue}
use Rattle.boogie_meaning.specs.Ends.{End, Is, Wrong, then_with}
use Rattle.boogie_meaning.specs.Operators.{part_of, binary, negative, real_from, leaf_int, leaf_bool, leaf_ref, leaf_perm, pair_of}
use Rattle.boogie_meaning.specs.Value.{the_map}
use Rattle.cert_terms.specs.declared.terms.ClauseLiteral.{ClauseLiteral}
use Rattle.cert_terms.specs.declared.terms.CertificateTerm.{CertificateTerm}
use Rattle.cert_terms.specs.declared.terms.CertificateTerm.TheVariants as term
use Rattle.cert_rules.specs.Reasons.{IsNamed}
use Rattle.cert_rules.specs.declared.heads.TermHead.{TermHead}
use Rattle.cert_rules.specs.declared.heads.TermHead.TheVariants as head

-- what a term is but for its parts
abbrev pub head_of : CertificateTerm → Option TermHead
head_of (term.Neg a) = Some head.Neg
head_of (term.ToReal a) = Some head.ToReal
head_of (term.Bin o a b) = Some (head.Bin o)
head_of (term.At m ks) = Some (head.At m)
head_of term.Unit = Some head.Unit
head_of (term.SInt a) = Some head.SInt
head_of (term.SBool a) = Some head.SBool
head_of (term.SRef a) = Some head.SRef
head_of (term.SPerm a) = Some head.SPerm
head_of (term.Pair a b) = Some head.Pair
head_of _ = None

-- its parts, from left to right
abbrev pub parts_of : CertificateTerm → List ClauseLiteral
parts_of (term.Neg a) = a ∷ []
parts_of (term.ToReal a) = a ∷ []
parts_of (term.Bin o a b) = a ∷ b ∷ []
parts_of (term.At m ks) = ks.items
parts_of (term.SInt a) = a ∷ []
parts_of (term.SBool a) = a ∷ []
parts_of (term.SRef a) = a ∷ []
parts_of (term.SPerm a) = a ∷ []
parts_of (term.Pair a b) = a ∷ b ∷ []
parts_of _ = []

-- the key of these values
abbrev pub key_of : List (End BScalar) → End Key
key_of [] = Is []
key_of (e ∷ es) = then_with e (λ v. then_with (part_of v) (λ p. then_with (key_of es) (λ k. Is (p ∷ k))))

-- the value that it makes of those of its parts
abbrev pub applied : List BValue → TermHead → List (End BScalar) → End BScalar
applied values head.Neg (a ∷ []) = then_with a negative
applied values head.ToReal (a ∷ []) = then_with a real_from
applied values (head.Bin o) (a ∷ b ∷ []) = binary Unbounded o a b
applied values (head.At m) ks = then_with (key_of ks) (λ k. then_with (the_map values m) (λ n. Is (get key_cmp n k)))
applied values head.Unit [] = Is (Snap content.Unit)
applied values head.SInt (a ∷ []) = then_with a leaf_int
applied values head.SBool (a ∷ []) = then_with a leaf_bool
applied values head.SRef (a ∷ []) = then_with a leaf_ref
applied values head.SPerm (a ∷ []) = then_with a leaf_perm
applied values head.Pair (a ∷ b ∷ []) = then_with a (λ v. then_with b (λ w. pair_of Unbounded v w))
applied values _ _ = Wrong

-- it makes a content
abbrev pub is_constructor : TermHead → Truth
is_constructor head.Unit = true
is_constructor head.SInt = true
is_constructor head.SBool = true
is_constructor head.SRef = true
is_constructor head.SPerm = true
is_constructor head.Pair = true
is_constructor _ = false

-- the literal is a term with this head and these parts
pub record IsMade (terms : List CertificateTerm) (l : ClauseLiteral) (h : TermHead) (ps : List ClauseLiteral) : Type 0 where
  pub term : CertificateTerm
  pub named : IsNamed terms l term
  pub head : head_of term ≡ Some h
  pub parts : parts_of term ≡ ps

-- the literal is made by a constructor, of these parts
pub record IsConstructed (terms : List CertificateTerm) (l : ClauseLiteral) (h : TermHead) (ps : List ClauseLiteral) : Type 0 where
  pub made : IsMade terms l h ps
  pub constructor : is_constructor h ≡ true

-- the part of this number of what a constructor makes
pub record IsPart (terms : List CertificateTerm) (l : ClauseLiteral) (i : ℕ) (p : ClauseLiteral) : Type 0 where
  pub head : TermHead
  pub parts : List ClauseLiteral
  pub constructed : IsConstructed terms l head parts
  pub is_there : slice_get parts i ≡ Some p
