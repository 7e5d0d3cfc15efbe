-- The types of the operands of a term that a table has.
use Rattle.std.proofs.Common.{◌≡◌, ℕ, Some, List, slice_get, refl, sym, ap, ◌∙◌}
use Rattle.boogie_tree.specs.Program.{BType}
use Rattle.boogie_tree.specs.Values.{plain_type}
use Rattle.boogie_tree.specs.declared.exprs.BBase.{BBase}
use Rattle.boogie_tree.specs.declared.exprs.BOp.{BOp}
use Rattle.boogie_meaning.specs.Types.{then_some, given, answer_of}
use Rattle.boogie_meaning.proofs.TypeLaws.{from_then, from_given}
use Rattle.boogie_formula.specs.Formula as f
use Rattle.boogie_formula.specs.Types.{fbase}
use Rattle.boogie_types.specs.Typed.{answer_at}
use Rattle.cert_terms.specs.Tables.{IsTable}
use Rattle.cert_terms.specs.Terms.{operand}
use Rattle.cert_terms.specs.declared.terms.ClauseLiteral.{ClauseLiteral}
use Rattle.cert_terms.specs.declared.terms.CertificateTerm.{CertificateTerm}
use Rattle.cert_terms.specs.declared.terms.CertificateTerm.TheVariants as term
use Rattle.cert_terms.proofs.MeaningLaws.{plain_operand}
use Rattle.cert_terms.proofs.TableLaws.{typed_there}

-- two operands of one type that the operator takes
pub record TakesBoth (types : List BType) (o : BOp) (a b : ClauseLiteral) : Type 0 where
  pub kind : BBase
  pub answer : BBase
  pub left : fbase types (operand a) ≡ Some kind
  pub right : fbase types (operand b) ≡ Some kind
  pub takes : answer_of o kind ≡ Some answer

pub bin_kind : (types : List BType) (o : BOp) (a b : ClauseLiteral) → fbase types (f.Bin o (operand a) (operand b)) ≡ answer_at o (fbase types (operand a)) (fbase types (operand b))
bin_kind types o a b = rw (plain_operand a, plain_operand b) refl

answer_parts : (types : List BType) (o : BOp) (a b : ClauseLiteral) (w : BBase) → answer_at o (fbase types (operand a)) (fbase types (operand b)) ≡ Some w → TakesBoth types o a b
answer_parts types o a b w h =
    let p = from_then (fbase types (operand a)) (λ u. then_some (fbase types (operand b)) (λ v. then_some (given u u v) (answer_of o))) w h in
    let q = from_then (fbase types (operand b)) (λ v. then_some (given p.0 p.0 v) (answer_of o)) w p.2 in
    let r = from_then (given p.0 p.0 q.0) (answer_of o) w q.2 in
    let g = from_given p.0 p.0 q.0 r.0 r.1 in
    record { kind = p.0; answer = w; left = p.1; right = q.1 ∙ ap Some g.0; takes = ap (answer_of o) g.1 ∙ r.2 }

-- the operands of an operator in a table have a type that it takes
pub bin_typed : (terms : List CertificateTerm) (types : List BType) → IsTable terms types → (n : ℕ) (o : BOp) (a b : ClauseLiteral) → slice_get terms n ≡ Some (term.Bin o a b) → TakesBoth types o a b
bin_typed terms types h n o a b l =
    let e = f.Bin o (operand a) (operand b) in
    let t = typed_there terms types h n (term.Bin o a b) e l refl in
    let k = from_then (fbase types e) (λ u. Some (plain_type u)) t.0 t.2 in
    answer_parts types o a b k.0 (sym (bin_kind types o a b) ∙ k.1)
