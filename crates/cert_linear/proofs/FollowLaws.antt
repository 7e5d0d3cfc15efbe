-- A sum follows from literals that are false, and where it cannot stand to 0 as it says, one of them is true.
use Rattle.std.proofs.Common.{ℕ, ◌<◌, arith, ℤ, pos, ◌<ℤ◌, All, List, [], ◌∷◌, ◌++◌}
use Rattle.std.proofs.lemmas.Int.{ints}
use Rattle.std.proofs.lemmas.List.Elements.{All-nil, All-cons, All-push, All-head, All-tail}
use Rattle.boogie_tree.specs.Program.{BType}
use Rattle.cert_terms.specs.declared.terms.ClauseLiteral.{ClauseLiteral}
use Rattle.cert_terms.specs.declared.terms.CertificateTerm.{CertificateTerm}
use Rattle.cert_terms.specs.Terms.{IsTruth, IsTrueIn, IsLaw}
use Rattle.cert_terms.specs.Literals.{turned}
use Rattle.cert_terms.proofs.LiteralLaws.{holds_unless_false}
use Rattle.cert_linear.specs.declared.rows.Product.{Product}
use Rattle.cert_linear.specs.declared.rows.LinearRow.{LinearRow}
use Rattle.cert_linear.specs.declared.rows.SumSign.{SumSign}
use Rattle.cert_linear.specs.Sums.{RowHolds, SumHolds}
use Rattle.cert_linear.specs.Numbers.{common, parts, IsRowOf, IsLawful, Follows}
use Rattle.cert_linear.proofs.PartLaws.{common_positive}

before_last : (P : ClauseLiteral → Type 0) (xs : List ClauseLiteral) (x : ClauseLiteral) → All P (xs ++ x ∷ []) → All P xs × P x
before_last P [] x h = (All-nil P, All-head P x [] h)
before_last P (y ∷ xs) x h =
    let rest = before_last P xs x (All-tail P y (xs ++ x ∷ []) h) in
    (All-cons P y xs (All-head P y (xs ++ x ∷ []) h) rest.0, rest.1)

module _ (terms : List CertificateTerm) (types : List BType) where
  -- a row with a weight makes one sum of another
  abbrev pub Adds : LinearRow → List Product → ℤ → SumSign → List Product → ℤ → SumSign → Type 0
  Adds r ps n s qs m t = (x : ℕ → ℤ) (d : ℤ) → SumHolds x d ps n s → RowHolds x d r → SumHolds x d qs m t

  pub follows_start : (ps : List Product) (n : ℤ) (s : SumSign) → ((x : ℕ → ℤ) (d : ℤ) → SumHolds x d ps n s) → Follows terms types [] ps n s
  follows_start ps n s h = record { truths = All-nil (IsTruth types); holds = λ values typed model all. h (parts values) (pos (common values)) }

  pub follows_literal : (clause : List ClauseLiteral) (l : ClauseLiteral) (r : LinearRow) (ps : List Product) (n : ℤ) (s : SumSign) (qs : List Product) (m : ℤ) (t : SumSign) →
      IsTruth types l → IsRowOf terms types l r → Adds r ps n s qs m t → Follows terms types clause ps n s → Follows terms types (clause ++ l ∷ []) qs m t
  follows_literal clause l r ps n s qs m t truth row adds h = record {
    truths = All-push (IsTruth types) clause l h.truths truth;
    holds = λ values typed model all.
        let both = before_last (λ k. IsTrueIn values (turned k)) clause l all in
        adds (parts values) (pos (common values)) (h.holds values typed model both.0) (row values typed model both.1);
  }

  pub follows_name : (clause : List ClauseLiteral) (r : LinearRow) (ps : List Product) (n : ℤ) (s : SumSign) (qs : List Product) (m : ℤ) (t : SumSign) →
      IsLawful terms types r → Adds r ps n s qs m t → Follows terms types clause ps n s → Follows terms types clause qs m t
  follows_name clause r ps n s qs m t row adds h = record {
    truths = h.truths;
    holds = λ values typed model all. adds (parts values) (pos (common values)) (h.holds values typed model all) (row values typed model);
  }

  -- a sum that cannot stand so
  pub law_from : (clause : List ClauseLiteral) (ps : List Product) (n : ℤ) (s : SumSign) → ((x : ℕ → ℤ) (d : ℤ) → pos 0 <ℤ d → SumHolds x d ps n s → ⊥) → Follows terms types clause ps n s → IsLaw terms types clause
  law_from clause ps n s none h values typed model =
      holds_unless_false values types typed clause h.truths
      (λ all. none (parts values) (pos (common values)) (above (common values) (common_positive types values typed)) (h.holds values typed model all))
    where
      above : (n : ℕ) → 0 < n → pos 0 <ℤ pos n
      above n h = omega (arith, ints)
