-- Tables as they are read.
use Rattle.std.proofs.Common.{◌≡◌, Some, Result, Ok, Err, IfOk, List, ◌∷◌, [], sym, subst}
use Rattle.boogie_tree.specs.Program.{BType}
use Rattle.boogie_formula.specs.Formula.{Conditions}
use Rattle.boogie_formula.specs.Types.{defined_types}
use Rattle.cert_terms.specs.Lawful.{terms_of, types_of, HasGrown}
use Rattle.cert_terms.specs.Tables.{Grows, Adds, givens}
use Rattle.cert_terms.specs.declared.faults.LineFault.{LineFault}
use Rattle.cert_terms.specs.declared.table.TermTable.{TermTable}
use Rattle.cert_terms.specs.declared.terms.CertificateTerm.{CertificateTerm}
use Rattle.cert_terms.proofs.GrowthLaws.{grows_itself, grows_on}
use Rattle.cert_check.specs.Shown.{IsTableOf}

pub grown_itself : (t : TermTable) → HasGrown t t
grown_itself t = grows_itself (terms_of t) (types_of t)

pub grown_by : (t t' : TermTable) (x : CertificateTerm) (u : BType) → Adds (terms_of t) (types_of t) x u (terms_of t') (types_of t') → HasGrown t t'
grown_by t t' x u h =
    record { terms = x ∷ []; types = u ∷ []; is_longer = h.terms; are_longer = h.types }

pub grown_on : (x : Conditions) (t t' : TermTable) → IsTableOf x (terms_of t) (types_of t) → HasGrown t t' → IsTableOf x (terms_of t') (types_of t')
grown_on x t t' h g = λ all is. grows_on (givens all) all (terms_of t) (types_of t) (terms_of t') (types_of t') (h all is) g

pub begun_table : (x : Conditions) (t : TermTable) (types : List BType) → ((all : List BType) → defined_types x.lets x.vars ≡ Some all → types ≡ all) → terms_of t ≡ givens types → types_of t ≡ types →
    IsTableOf x (terms_of t) (types_of t)
begun_table x t types h a b = λ all is.
    let same = h all is in
    subst (λ us. Grows (givens all) all us (types_of t)) (sym (subst (λ us. terms_of t ≡ givens us) same a))
    (subst (λ us. Grows (givens all) all (givens all) us) (sym (subst (λ us. types_of t ≡ us) same b)) (grows_itself (givens all) all))

pub begun_is : (x : Conditions) (r : Result TermTable LineFault) (types : List BType) → ((all : List BType) → defined_types x.lets x.vars ≡ Some all → types ≡ all) →
    IfOk r (λ t. terms_of t ≡ givens types) → IfOk r (λ t. types_of t ≡ types) → IfOk r (λ t. IsTableOf x (terms_of t) (types_of t))
begun_is x (Ok t) types h a b = begun_table x t types h a b
begun_is x (Err e) types h a b = a
