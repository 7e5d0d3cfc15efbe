-- What a reader of texts finds, as it goes over lists and nodes.
use Rattle.std.proofs.Common.{◌≡◌, ℕ, ◌-◌, ◌<◌, ◌≤◌, Bool as Truth, true, false, ◌&&◌, Option, Some, None, List, [], ◌∷◌, Vec, length, drop, length-drop, drop_of_length-le, nat_eq, refl, sym, ap, ◌∙◌, arith}
use Rattle.std.proofs.lemmas.Bool.{false_from_ne_true}
use Rattle.std.proofs.lemmas.Bool.Decides.{Decides-eqb}
use Rattle.std.specs.declared.alloc.Global.{Global}
use Rattle.std.specs.declared.boxed.Box.{Box}
use Rattle.boogie_tree.specs.declared.exprs.BOp.{BOp}
use Rattle.boogie_formula.specs.Formula as f
use Rattle.boogie_formula.specs.View.{fexpr_of, fexprs_of}
use Rattle.boogie_formula.specs.declared.formulas.FExpr as expr
use Rattle.boogie_formula.proofs.ViewLaws.{fexpr_of-At, fexpr_of-With}
use Rattle.cert_terms.specs.declared.terms.ClauseLiteral.{ClauseLiteral}
use Rattle.cert_terms.specs.declared.terms.CertificateTerm.{CertificateTerm}
use Rattle.cert_definitions.specs.Texts.{Told, same_literals, are_texts, bin_text}

-- ---- lists

same_ended-step : (n : ℕ) (ws d : List ClauseLiteral) → n ≤ length ws → length d ≡ length ws - n → same_literals [] d ≡ nat_eq n (length ws)
same_ended-step n ws [] h e = sym ((Decides-eqb n (length ws)).1 (omega (arith, h, e)))
same_ended-step n ws (w ∷ rest) h e = sym (false_from_ne_true (nat_eq n (length ws)) (λ t. let s = (Decides-eqb n (length ws)).0 t in absurd (omega (arith, h, e, s))))

-- no literal of the one list is left just where none of the other is
pub same_ended : (n : ℕ) (ws : List ClauseLiteral) → n ≤ length ws → same_literals [] (drop n ws) ≡ nat_eq n (length ws)
same_ended n ws h = same_ended-step n ws (drop n ws) h (length-drop n ws)

same_over-step : (d e : List ClauseLiteral) (n : ℕ) → n < length d → e ≡ [] → same_literals d e ≡ false
same_over-step [] e n h g = absurd (omega (arith, h))
same_over-step (x ∷ d) e n h g = rw g refl

-- one is left of the one list, and none of the other
pub same_over : (i n : ℕ) (xs ys : List ClauseLiteral) → i < length xs → length ys ≤ n → same_literals (drop i xs) (drop n ys) ≡ false
same_over i n xs ys h g = same_over-step (drop i xs) (drop n ys) 0 (omega (arith, length-drop i xs, h)) (drop_of_length-le ys g)

ended-step : (t : Told) (n : ℕ) (ws d : List ClauseLiteral) → n ≤ length ws → length d ≡ length ws - n → are_texts t f.none d ≡ nat_eq n (length ws)
ended-step t n ws [] h e = sym ((Decides-eqb n (length ws)).1 (omega (arith, h, e)))
ended-step t n ws (w ∷ rest) h e = sym (false_from_ne_true (nat_eq n (length ws)) (λ p. let s = (Decides-eqb n (length ws)).0 p in absurd (omega (arith, h, e, s))))

-- no text is left just where no literal is
pub texts_ended : (t : Told) (n : ℕ) (ws : List ClauseLiteral) → n ≤ length ws → are_texts t f.none (drop n ws) ≡ nat_eq n (length ws)
texts_ended t n ws h = ended-step t n ws (drop n ws) h (length-drop n ws)

-- ---- nodes

module _ {e : expr.FExpr} where
  pub at_is : {m : ℕ} (v : Vec expr.FExpr Global) {es : List expr.FExpr} → e ≡ expr.At m v → es ≡ v.items → fexpr_of e ≡ f.At m (fexprs_of es)
  at_is {m = m} v is same = ap fexpr_of is ∙ fexpr_of-At m v ∙ ap (λ es. f.At m (fexprs_of es)) (sym same)

  pub if_is : {a b c : expr.FExpr} {x y z : Box expr.FExpr Global} → e ≡ expr.If x y z → a ≡ x.value → b ≡ y.value → c ≡ z.value → fexpr_of e ≡ f.If (fexpr_of a) (fexpr_of b) (fexpr_of c)
  if_is is first second third = ap fexpr_of is ∙ (λ i. f.If (fexpr_of (sym first i)) (fexpr_of (sym second i)) (fexpr_of (sym third i)))

  pub with_is : {a b : expr.FExpr} (x : Box expr.FExpr Global) (v : Vec expr.FExpr Global) (y : Box expr.FExpr Global) {es : List expr.FExpr} →
      e ≡ expr.With x v y → a ≡ x.value → es ≡ v.items → b ≡ y.value → fexpr_of e ≡ f.With (fexpr_of a) (fexprs_of es) (fexpr_of b)
  with_is x v y is first same last =
      ap fexpr_of is ∙ fexpr_of-With x v y ∙ (λ i. f.With (fexpr_of (sym first i)) (fexprs_of (sym same i)) (fexpr_of (sym last i)))

-- ---- operators

pub signed_some : (p : Truth) (x : Option CertificateTerm) (y : CertificateTerm) (o : BOp) (go : ClauseLiteral → ClauseLiteral → Truth) → p ≡ true → x ≡ Some y → bin_text o (Some y) go ≡ (p && bin_text o x go)
signed_some p x y o go h g = rw h (ap (λ z. bin_text o z go) (sym g))

pub signed_none : (p : Truth) (x : Option CertificateTerm) (o : BOp) (go : ClauseLiteral → ClauseLiteral → Truth) → p ≡ true → x ≡ None → false ≡ (p && bin_text o x go)
signed_none p x o go h g = rw h (ap (λ z. bin_text o z go) (sym g))
