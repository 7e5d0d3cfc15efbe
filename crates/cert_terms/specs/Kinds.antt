-- The type of a term by those of its parts.
use Rattle.std.specs.Prelude.{◌≡◌, List, Option, Some, None, slice_get}
use Rattle.boogie_tree.specs.Program.{BType}
use Rattle.boogie_tree.specs.declared.exprs.BBase.{BBase}
use Rattle.boogie_tree.specs.declared.exprs.BBase.TheVariants as base
use Rattle.boogie_meaning.specs.Types.{then_some, given, negated}
use Rattle.boogie_types.specs.Typed.{answer_at, pair_at, indexed_by}
use Rattle.boogie_formula.specs.Formula.{FExpr}
use Rattle.boogie_formula.specs.Types.{fbase, fbases, whole_type}
use Rattle.cert_terms.specs.declared.terms.CertificateTerm.{CertificateTerm}
use Rattle.cert_terms.specs.declared.terms.CertificateTerm.TheVariants as term
use Rattle.cert_terms.specs.Terms.{operand, operands, meaning}

-- the type of a term that is never a map
abbrev pub plain_kind : List BType → CertificateTerm → Option BBase
plain_kind ls (term.Bool p) = Some base.Bool
plain_kind ls term.Null = Some base.Ref
plain_kind ls term.Unit = Some base.Snap
plain_kind ls (term.Int n) = Some base.Int
plain_kind ls (term.Real n) = Some base.Real
plain_kind ls (term.Neg a) = then_some (fbase ls (operand a)) negated
plain_kind ls (term.Bin o a b) = answer_at o (fbase ls (operand a)) (fbase ls (operand b))
plain_kind ls (term.ToReal a) = then_some (fbase ls (operand a)) (given base.Int base.Real)
plain_kind ls (term.SInt a) = then_some (fbase ls (operand a)) (given base.Int base.Snap)
plain_kind ls (term.SBool a) = then_some (fbase ls (operand a)) (given base.Bool base.Snap)
plain_kind ls (term.SRef a) = then_some (fbase ls (operand a)) (given base.Ref base.Snap)
plain_kind ls (term.SPerm a) = then_some (fbase ls (operand a)) (given base.Real base.Snap)
plain_kind ls (term.Pair a b) = pair_at (fbase ls (operand a)) (fbase ls (operand b))
plain_kind ls (term.At m ks) = indexed_by (slice_get ls m) (fbases ls (operands ks.items))
plain_kind ls _ = None

-- what a term means, if anything is said of it, has this type
abbrev pub HasKind : List BType → CertificateTerm → BType → Type 0
HasKind ls x u = (e : FExpr) → meaning x ≡ Some e → whole_type ls e ≡ Some u
