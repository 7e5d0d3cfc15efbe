-- What is noted at the end of a certificate.
use Rattle.std.proofs.Common.{◌≡◌, ◌⊎◌, inl, inr, ◌∙◌, ℕ, ◌+◌, ◌<◌, Bool as Truth, Option, List, [], ◌∷◌, ◌++◌, get_or, take, length, add-one, sym, ap, subst}
use Rattle.std.proofs.Math.Seq.{take-suc}
use Rattle.std.specs.BTreeMap.{BTreeMap}
use Rattle.std.specs.declared.alloc.Global.{Global}
use Rattle.std.specs.declared.vec.Vec.{Vec}
use Rattle.lemmas.proofs.Lists.{there_right}
use Rattle.boogie_formula.specs.declared.formulas.Fail.{Fail}
use Rattle.cert_terms.specs.Literals.{turned}
use Rattle.cert_terms.specs.declared.terms.ClauseLiteral.{ClauseLiteral}
use Rattle.cert_terms.proofs.KeptLaws.{kept_more}
use Rattle.cert_check.specs.Ends.{AreAlone, IsAlone, IsDenied, IsNoted, IsOpposed}

alone_longer : (clauses more : List (Vec ClauseLiteral Global)) (l : ClauseLiteral) → IsAlone clauses l → IsAlone (clauses ++ more) l
alone_longer clauses more l a =
    record { number = a.number; clause = a.clause; is_there = kept_more clauses more a.number a.clause a.is_there; items_are = a.items_are }

alone_last : (clauses : List (Vec ClauseLiteral Global)) (clause : Vec ClauseLiteral Global) (l : ClauseLiteral) → clause.items ≡ l ∷ [] → IsAlone (clauses ++ clause ∷ []) l
alone_last clauses clause l is =
    record { number = length clauses + 0; clause = clause; is_there = there_right clauses (clause ∷ []) 0; items_are = is }

one_more : (clauses : List (Vec ClauseLiteral Global)) (i : ℕ) (d : Vec ClauseLiteral Global) → i < length clauses → take (i + 1) clauses ≡ take i clauses ++ (get_or clauses i d ∷ [])
one_more clauses i d lt = rw (add-one) (take-suc clauses i d lt)

-- one more clause is more than a literal
pub alone_kept : (clauses : List (Vec ClauseLiteral Global)) (i : ℕ) (d : Vec ClauseLiteral Global) (units : BTreeMap ℕ Truth) → i < length clauses → AreAlone units (take i clauses) → AreAlone units (take (i + 1) clauses)
alone_kept clauses i d units lt h l n =
    subst (λ cs. IsAlone cs l) (sym (one_more clauses i d lt)) (alone_longer (take i clauses) (get_or clauses i d ∷ []) l (h l n))

-- one more clause is this literal
pub alone_noted : (clauses : List (Vec ClauseLiteral Global)) (i : ℕ) (d : Vec ClauseLiteral Global) (units new : BTreeMap ℕ Truth) (m : ClauseLiteral) → i < length clauses → AreAlone units (take i clauses) →
    (get_or clauses i d).items ≡ m ∷ [] → ((l : ClauseLiteral) → IsNoted new l → IsNoted units l ⊎ (l ≡ m)) → AreAlone new (take (i + 1) clauses)
alone_noted clauses i d units new m lt h is more l n = subst (λ cs. IsAlone cs l) (sym (one_more clauses i d lt)) (by (more l n))
  where
    by : IsNoted units l ⊎ (l ≡ m) → IsAlone (take i clauses ++ (get_or clauses i d ∷ [])) l
    by (inl o) = alone_longer (take i clauses) (get_or clauses i d ∷ []) l (h l o)
    by (inr e) = alone_last (take i clauses) (get_or clauses i d) l (is ∙ ap (λ x. x ∷ []) (sym e))

pub opposed_denied : (clauses : List (Vec ClauseLiteral Global)) (aliases : List (Option ClauseLiteral)) (units : BTreeMap ℕ Truth) (a : Fail) → AreAlone units clauses → IsOpposed units aliases a.name →
    IsDenied clauses aliases a
opposed_denied clauses aliases units a h o = record { literal = o.0; is_told = o.1; is_alone = h (turned o.0) o.2 }
