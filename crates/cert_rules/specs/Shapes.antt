-- The forms of terms that the reasons look for.
use Rattle.std.specs.Prelude.{⊤, ◌≡◌, ◌⊎◌, pos, false, List, Some, slice_get}
use Rattle.boogie_tree.specs.Program.{BType}
use Rattle.boogie_tree.specs.declared.exprs.BOp.{BOp}
use Rattle.boogie_tree.specs.declared.exprs.BOp.TheVariants as op
use Rattle.cert_terms.specs.Terms.{IsTruth}
use Rattle.cert_terms.specs.declared.terms.ClauseLiteral.{ClauseLiteral}
use Rattle.cert_terms.specs.declared.terms.CertificateTerm.{CertificateTerm}
use Rattle.cert_terms.specs.declared.terms.CertificateTerm.TheVariants as term

-- a name as it is, and not its negation, which is this term
pub record IsTerm (terms : List CertificateTerm) (l : ClauseLiteral) (t : CertificateTerm) : Type 0 where
  pub plain : l.negated ≡ false
  pub is_there : slice_get terms l.name ≡ Some t

-- the operator between these two
abbrev pub IsBin : List CertificateTerm → ClauseLiteral → BOp → ClauseLiteral → ClauseLiteral → Type 0
IsBin terms l o a b = IsTerm terms l (term.Bin o a b)

-- the literal 0 of a number's type
abbrev pub IsZero : List CertificateTerm → ClauseLiteral → Type 0
IsZero terms l = IsTerm terms l (term.Int (pos 0)) ⊎ IsTerm terms l (term.Real (pos 0))

-- a quotient or a remainder
abbrev pub IsDivision : BOp → Type 0
IsDivision op.Divide = ⊤
IsDivision op.IntDiv = ⊤
IsDivision op.IntMod = ⊤
IsDivision _ = ⊥

-- a sum or a difference
abbrev pub IsAdditive : BOp → Type 0
IsAdditive op.Add = ⊤
IsAdditive op.Sub = ⊤
IsAdditive _ = ⊥

-- (a * b) + (c * d), or the same with another operator between the products
pub record IsOfProducts (terms : List CertificateTerm) (l : ClauseLiteral) (o : BOp) (a b c d : ClauseLiteral) : Type 0 where
  pub left : ClauseLiteral
  pub right : ClauseLiteral
  pub whole : IsBin terms l o left right
  pub first : IsBin terms left op.Mul a b
  pub second : IsBin terms right op.Mul c d

-- (a * d) + (b * c) and (a * c) + (b * d)
pub record AreCrossed (terms : List CertificateTerm) (l m : ClauseLiteral) (a b c d : ClauseLiteral) : Type 0 where
  pub less : IsOfProducts terms l op.Add a d b c
  pub more : IsOfProducts terms m op.Add a c b d

-- a truth that compares b with 0, which stands on the right
pub record IsTested (terms : List CertificateTerm) (types : List BType) (l : ClauseLiteral) (o : BOp) (b : ClauseLiteral) : Type 0 where
  pub truth : IsTruth types l
  pub zero : ClauseLiteral
  pub whole : IsBin terms l o b zero
  pub is_zero : IsZero terms zero

-- (a / b) * b
pub record IsQuotient (terms : List CertificateTerm) (l a b : ClauseLiteral) : Type 0 where
  pub left : ClauseLiteral
  pub whole : IsBin terms l op.Mul left b
  pub quotient : IsBin terms left op.Divide a b

-- (b * (a div b)) + (a mod b)
pub record IsEuclidean (terms : List CertificateTerm) (l a b : ClauseLiteral) : Type 0 where
  pub left : ClauseLiteral
  pub right : ClauseLiteral
  pub quotient : ClauseLiteral
  pub whole : IsBin terms l op.Add left right
  pub product : IsBin terms left op.Mul b quotient
  pub divided : IsBin terms quotient op.IntDiv a b
  pub rest : IsBin terms right op.IntMod a b

-- a * (b * c)
pub record IsNested (terms : List CertificateTerm) (l : ClauseLiteral) (a b c : ClauseLiteral) : Type 0 where
  pub right : ClauseLiteral
  pub whole : IsBin terms l op.Mul a right
  pub second : IsBin terms right op.Mul b c

-- real(a) * real(b)
pub record IsOfReals (terms : List CertificateTerm) (l : ClauseLiteral) (a b : ClauseLiteral) : Type 0 where
  pub left : ClauseLiteral
  pub right : ClauseLiteral
  pub whole : IsBin terms l op.Mul left right
  pub first : IsTerm terms left (term.ToReal a)
  pub second : IsTerm terms right (term.ToReal b)

-- two sides that are equal by a law of products
pub data IsRing (terms : List CertificateTerm) (l r : ClauseLiteral) : Type 0 where
  -- a * b and b * a
  commutes : {a b : ClauseLiteral} → IsBin terms l op.Mul a b → IsBin terms r op.Mul b a → IsRing terms l r
  -- (a * b) * c and a * (b * c)
  associates : {m a b c : ClauseLiteral} → IsBin terms l op.Mul m c → IsBin terms m op.Mul a b → IsNested terms r a b c → IsRing terms l r
  -- (a + b) * c and (a * c) + (b * c), or the same with -
  distributes : {m a b c : ClauseLiteral} {o : BOp} → IsAdditive o → IsBin terms l op.Mul m c → IsBin terms m o a b → IsOfProducts terms r o a c b c → IsRing terms l r
  -- real(a * b) and real(a) * real(b)
  whole : {m a b : ClauseLiteral} → IsTerm terms l (term.ToReal m) → IsBin terms m op.Mul a b → IsOfReals terms r a b → IsRing terms l r
