-- Terms of a certificate, and the laws that it shows. A certificate adds names to those of a procedure's conditions, each for a
-- term over the names before it. What it shows is a clause: at all values of the variables one of its literals is true.
use Rattle.std.specs.Prelude.{◌≡◌, ℕ, true, List, [], ◌∷◌, Option, Some, None, slice_get, if◌then◌else◌}
use Rattle.boogie_tree.specs.Program.{BType}
use Rattle.boogie_tree.specs.Value.{BValue, Bool}
use Rattle.boogie_tree.specs.Values.{IsEnvironment}
use Rattle.boogie_tree.specs.declared.exprs.BBase.TheVariants as base
use Rattle.boogie_meaning.specs.Ends.{Is, found}
use Rattle.boogie_formula.specs.Formula as f
use Rattle.boogie_formula.specs.Formula.{FExpr, FExprs}
use Rattle.boogie_formula.specs.Value.{fvalue, whole}
use Rattle.boogie_formula.specs.Types.{fbase}
use Rattle.cert_terms.specs.declared.terms.ClauseLiteral.{ClauseLiteral}
use Rattle.cert_terms.specs.declared.terms.CertificateTerm.{CertificateTerm}
use Rattle.cert_terms.specs.declared.terms.CertificateTerm.TheVariants as term

-- ---- terms

-- a name, or its negation
abbrev pub operand : ClauseLiteral → FExpr
operand l = if l.negated then f.Not (f.Var l.name) else f.Var l.name

-- such keys of a map
abbrev pub operands : List ClauseLiteral → FExprs
operands [] = f.none
operands (l ∷ ls) = f.more (operand l) (operands ls)

-- what a term says that its name is, unless the name is given
abbrev pub meaning : CertificateTerm → Option FExpr
meaning term.Given = None
meaning (term.Same n) = Some (f.Var n)
meaning (term.Bool p) = Some (f.Bool p)
meaning term.Null = Some f.Null
meaning term.Unit = Some f.Unit
meaning (term.Int n) = Some (f.Int n)
meaning (term.Real n) = Some (f.Real n)
meaning (term.Neg a) = Some (f.Neg (operand a))
meaning (term.Bin o a b) = Some (f.Bin o (operand a) (operand b))
meaning (term.If c a b) = Some (f.If (operand c) (operand a) (operand b))
meaning (term.ToReal a) = Some (f.ToReal (operand a))
meaning (term.SInt a) = Some (f.SInt (operand a))
meaning (term.SBool a) = Some (f.SBool (operand a))
meaning (term.SRef a) = Some (f.SRef (operand a))
meaning (term.SPerm a) = Some (f.SPerm (operand a))
meaning (term.Pair a b) = Some (f.Pair (operand a) (operand b))
meaning (term.At m ks) = Some (f.At m (operands ks.items))
meaning (term.Put m ks a) = Some (f.With (f.Var m) (operands ks.items) (operand a))

-- at these values of all names, each name has the value that its term says
pub record IsModel (terms : List CertificateTerm) (values : List BValue) : Type 0 where
  pub agrees : (n : ℕ) (t : CertificateTerm) (e : FExpr) → slice_get terms n ≡ Some t → meaning t ≡ Some e → whole e values ≡ found (slice_get values n)

-- ---- clauses

-- the literal is a truth value
abbrev pub IsTruth : List BType → ClauseLiteral → Type 0
IsTruth types l = fbase types (operand l) ≡ Some base.Bool

-- the literal is true at these values of all names
abbrev pub IsTrueIn : List BValue → ClauseLiteral → Type 0
IsTrueIn values l = fvalue (operand l) values ≡ Is (Bool true)

-- one literal of the clause is true
pub record HoldsIn (values : List BValue) (clause : List ClauseLiteral) : Type 0 where
  pub place : ℕ
  pub literal : ClauseLiteral
  pub is_there : slice_get clause place ≡ Some literal
  pub is_true : IsTrueIn values literal

-- the clause holds at all values of the names' types at which each name is what its term says
abbrev pub IsLaw : List CertificateTerm → List BType → List ClauseLiteral → Type 0
IsLaw terms types clause = (values : List BValue) → IsEnvironment types values → IsModel terms values → HoldsIn values clause
