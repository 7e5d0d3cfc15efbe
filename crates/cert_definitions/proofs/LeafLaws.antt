-- The text of an expression without parts.
use Rattle.std.proofs.Common.{◌≡◌, List, [], Option, None, refl, sym, subst}
use Rattle.std.specs.declared.alloc.Global.{Global}
use Rattle.std.specs.declared.boxed.Box.{Box}
use Rattle.boogie_formula.specs.View.{fexpr_of}
use Rattle.boogie_formula.specs.declared.formulas.FExpr as expr
use Rattle.boogie_formula.specs.declared.formulas.FExpr.{out-FExpr, roll-FExpr, roll-out-FExpr}
use Rattle.boogie_formula.specs.declared.formulas.FExpr.TheOpen.{FExpr-F}
use Rattle.boogie_formula.specs.declared.formulas.FExpr.TheVariants.{rolls-Var, rolls-Int, rolls-Real, rolls-Bool, rolls-Null, rolls-Unit, rolls-Neg, rolls-Not, rolls-Bin, rolls-If, rolls-Forall, rolls-ToReal, rolls-SInt, rolls-SBool, rolls-SRef, rolls-SPerm, rolls-Pair, rolls-At, rolls-AtBound, rolls-With}
use Rattle.cert_terms.specs.declared.table.TermTable.{TermTable}
use Rattle.cert_terms.specs.declared.terms.ClauseLiteral.{ClauseLiteral}
use Rattle.cert_definitions.specs.Texts.{leaf_text, is_text}
use Rattle.cert_definitions.specs.View.{told_of}

-- the expression is none with parts, and no name
pub record IsOther (e : expr.FExpr) : Type 0 where
  pub is_no_Var : (x : _) → e ≡ expr.Var x → ⊥
  pub is_no_Neg : (x : Box expr.FExpr Global) → e ≡ expr.Neg x → ⊥
  pub is_no_Not : (x : Box expr.FExpr Global) → e ≡ expr.Not x → ⊥
  pub is_no_Bin : (x : _) → (y : Box expr.FExpr Global) → (z : Box expr.FExpr Global) → e ≡ expr.Bin x y z → ⊥
  pub is_no_If : (x : Box expr.FExpr Global) → (y : Box expr.FExpr Global) → (z : Box expr.FExpr Global) → e ≡ expr.If x y z → ⊥
  pub is_no_ToReal : (x : Box expr.FExpr Global) → e ≡ expr.ToReal x → ⊥
  pub is_no_SInt : (x : Box expr.FExpr Global) → e ≡ expr.SInt x → ⊥
  pub is_no_SBool : (x : Box expr.FExpr Global) → e ≡ expr.SBool x → ⊥
  pub is_no_SRef : (x : Box expr.FExpr Global) → e ≡ expr.SRef x → ⊥
  pub is_no_SPerm : (x : Box expr.FExpr Global) → e ≡ expr.SPerm x → ⊥
  pub is_no_Pair : (x : Box expr.FExpr Global) → (y : Box expr.FExpr Global) → e ≡ expr.Pair x y → ⊥
  pub is_no_At : (x : _) → (y : _) → e ≡ expr.At x y → ⊥
  pub is_no_AtBound : (x : _) → e ≡ expr.AtBound x → ⊥

module _ (table : TermTable) (aliases : List (Option ClauseLiteral)) (keys : Option (List ClauseLiteral)) (l : ClauseLiteral) where
  abbrev IsLeaf : expr.FExpr → Type 0
  IsLeaf e = leaf_text (told_of table [] None) (fexpr_of e) l ≡ is_text (told_of table aliases keys) (fexpr_of e) l

  leaf_in : (o : FExpr-F expr.FExpr) → IsOther (roll-FExpr o) → IsLeaf (roll-FExpr o)
  leaf_in (FExpr-F.Var x) h = absurd (h.is_no_Var x (rolls-Var x))
  leaf_in (FExpr-F.Int x) h = subst IsLeaf (sym (rolls-Int x)) refl
  leaf_in (FExpr-F.Real x) h = subst IsLeaf (sym (rolls-Real x)) refl
  leaf_in (FExpr-F.Bool x) h = subst IsLeaf (sym (rolls-Bool x)) refl
  leaf_in FExpr-F.Null h = subst IsLeaf (sym rolls-Null) refl
  leaf_in FExpr-F.Unit h = subst IsLeaf (sym rolls-Unit) refl
  leaf_in (FExpr-F.Neg x) h = absurd (h.is_no_Neg x (rolls-Neg x))
  leaf_in (FExpr-F.Not x) h = absurd (h.is_no_Not x (rolls-Not x))
  leaf_in (FExpr-F.Bin x y z) h = absurd (h.is_no_Bin x y z (rolls-Bin x y z))
  leaf_in (FExpr-F.If x y z) h = absurd (h.is_no_If x y z (rolls-If x y z))
  leaf_in (FExpr-F.Forall x y) h = subst IsLeaf (sym (rolls-Forall x y)) refl
  leaf_in (FExpr-F.ToReal x) h = absurd (h.is_no_ToReal x (rolls-ToReal x))
  leaf_in (FExpr-F.SInt x) h = absurd (h.is_no_SInt x (rolls-SInt x))
  leaf_in (FExpr-F.SBool x) h = absurd (h.is_no_SBool x (rolls-SBool x))
  leaf_in (FExpr-F.SRef x) h = absurd (h.is_no_SRef x (rolls-SRef x))
  leaf_in (FExpr-F.SPerm x) h = absurd (h.is_no_SPerm x (rolls-SPerm x))
  leaf_in (FExpr-F.Pair x y) h = absurd (h.is_no_Pair x y (rolls-Pair x y))
  leaf_in (FExpr-F.At x y) h = absurd (h.is_no_At x y (rolls-At x y))
  leaf_in (FExpr-F.AtBound x) h = absurd (h.is_no_AtBound x (rolls-AtBound x))
  leaf_in (FExpr-F.With x y z) h = subst IsLeaf (sym (rolls-With x y z)) refl

  pub leaf_is : (e : expr.FExpr) → IsOther e → IsLeaf e
  leaf_is e h = let same = roll-out-FExpr e in subst IsLeaf same (leaf_in (out-FExpr e) (subst IsOther (sym same) h))
