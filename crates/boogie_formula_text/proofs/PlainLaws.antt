-- An expression of a formula is that of one expression of a program at most.
use Rattle.std.proofs.Common.{◌≡◌, ◌∙◌, refl, sym, ap, Option, Some, None}
use Rattle.std.specs.Option.{option_map}
use Rattle.lemmas.proofs.Options.{some_same}
use Rattle.boogie_tree.specs.Expr as t
use Rattle.boogie_formula.specs.Formula as f
use Rattle.boogie_formula.specs.Formula.{FExpr, FExprs}
use Rattle.boogie_formula.specs.Value.{plain, plain_all, two, three}

-- ---- what is made of parts that are there

pub map_parts : {X Y : Type 0} (g : X → Y) (o : Option X) {b : Y} → option_map g o ≡ Some b → (x : X) × (o ≡ Some x) × (g x ≡ b)
map_parts g (Some x) e = (x, refl, cc)
map_parts g None e = absurd (cc)

pub two_parts : {X Y Z : Type 0} (g : X → Y → Z) (o : Option X) (p : Option Y) {b : Z} → two g o p ≡ Some b →
    (x : X) × (y : Y) × (o ≡ Some x) × (p ≡ Some y) × (g x y ≡ b)
two_parts g (Some x) p e = let h = map_parts (g x) p e in (x, h.0, refl, h.1, h.2)
two_parts g None p e = absurd (cc)

pub three_parts : {W X Y Z : Type 0} (g : W → X → Y → Z) (o : Option W) (p : Option X) (q : Option Y) {b : Z} → three g o p q ≡ Some b →
    (w : W) × (x : X) × (y : Y) × (o ≡ Some w) × (p ≡ Some x) × (q ≡ Some y) × (g w x y ≡ b)
three_parts g (Some w) p q e = let h = two_parts (g w) p q e in (w, h.0, h.1, refl, h.2, h.3, h.4)
three_parts g None p q e = absurd (cc)

-- ---- the expression of a formula that one of a program is

abbrev mutual
  inject : t.BExpr → FExpr
  inject (t.Var i) = f.Var i
  inject (t.Int n) = f.Int n
  inject (t.Real n) = f.Real n
  inject (t.Bool p) = f.Bool p
  inject t.Null = f.Null
  inject t.Unit = f.Unit
  inject (t.Neg a) = f.Neg (inject a)
  inject (t.Not a) = f.Not (inject a)
  inject (t.Bin o a b) = f.Bin o (inject a) (inject b)
  inject (t.If a b c) = f.If (inject a) (inject b) (inject c)
  inject (t.Forall us a) = f.Forall us (inject a)
  inject (t.ToReal a) = f.ToReal (inject a)
  inject (t.SInt a) = f.SInt (inject a)
  inject (t.SBool a) = f.SBool (inject a)
  inject (t.SRef a) = f.SRef (inject a)
  inject (t.SPerm a) = f.SPerm (inject a)
  inject (t.Pair a b) = f.Pair (inject a) (inject b)
  inject (t.At i es) = f.At i (inject_all es)
  inject (t.AtBound i) = f.AtBound i

  inject_all : t.BExprs → FExprs
  inject_all t.none = f.none
  inject_all (t.more a es) = f.more (inject a) (inject_all es)

one_part : (make : t.BExpr → t.BExpr) (form : FExpr → FExpr) (a : FExpr) {b : t.BExpr} → ((x : t.BExpr) → inject (make x) ≡ form (inject x)) →
    ((x : t.BExpr) → plain a ≡ Some x → inject x ≡ a) → option_map make (plain a) ≡ Some b → inject b ≡ form a
one_part make form a is same h = let p = map_parts make (plain a) h in ap inject (sym p.2) ∙ is p.0 ∙ ap form (same p.0 p.1)

mutual
  inject_plain : (e : FExpr) (b : t.BExpr) → plain e ≡ Some b → inject b ≡ e
  inject_plain (f.Var i) b h = ap inject (sym (some_same h))
  inject_plain (f.Int n) b h = ap inject (sym (some_same h))
  inject_plain (f.Real n) b h = ap inject (sym (some_same h))
  inject_plain (f.Bool p) b h = ap inject (sym (some_same h))
  inject_plain f.Null b h = ap inject (sym (some_same h))
  inject_plain f.Unit b h = ap inject (sym (some_same h))
  inject_plain (f.Neg a) b h = one_part t.Neg f.Neg a (λ x. refl) (inject_plain a) h
  inject_plain (f.Not a) b h = one_part t.Not f.Not a (λ x. refl) (inject_plain a) h
  inject_plain (f.Bin o x y) b h =
      let p = two_parts (t.Bin o) (plain x) (plain y) h in
      ap inject (sym p.4) ∙ ap (λ z. f.Bin o z (inject p.1)) (inject_plain x p.0 p.2) ∙ ap (f.Bin o x) (inject_plain y p.1 p.3)
  inject_plain (f.If c x y) b h =
      let p = three_parts t.If (plain c) (plain x) (plain y) h in
      ap inject (sym p.6) ∙ ap (λ z. f.If z (inject p.1) (inject p.2)) (inject_plain c p.0 p.3) ∙
      ap (λ z. f.If c z (inject p.2)) (inject_plain x p.1 p.4) ∙ ap (f.If c x) (inject_plain y p.2 p.5)
  inject_plain (f.Forall us a) b h = one_part (t.Forall us) (f.Forall us) a (λ x. refl) (inject_plain a) h
  inject_plain (f.ToReal a) b h = one_part t.ToReal f.ToReal a (λ x. refl) (inject_plain a) h
  inject_plain (f.SInt a) b h = one_part t.SInt f.SInt a (λ x. refl) (inject_plain a) h
  inject_plain (f.SBool a) b h = one_part t.SBool f.SBool a (λ x. refl) (inject_plain a) h
  inject_plain (f.SRef a) b h = one_part t.SRef f.SRef a (λ x. refl) (inject_plain a) h
  inject_plain (f.SPerm a) b h = one_part t.SPerm f.SPerm a (λ x. refl) (inject_plain a) h
  inject_plain (f.Pair x y) b h =
      let p = two_parts t.Pair (plain x) (plain y) h in
      ap inject (sym p.4) ∙ ap (λ z. f.Pair z (inject p.1)) (inject_plain x p.0 p.2) ∙ ap (f.Pair x) (inject_plain y p.1 p.3)
  inject_plain (f.At i es) b h =
      let p = map_parts (t.At i) (plain_all es) h in
      ap inject (sym p.2) ∙ ap (f.At i) (inject_plain_all es p.0 p.1)
  inject_plain (f.AtBound i) b h = ap inject (sym (some_same h))
  inject_plain (f.With m es e) b h = absurd (cc)

  inject_plain_all : (es : FExprs) (bs : t.BExprs) → plain_all es ≡ Some bs → inject_all bs ≡ es
  inject_plain_all f.none bs h = ap inject_all (sym (some_same h))
  inject_plain_all (f.more a es) bs h =
      let p = two_parts t.more (plain a) (plain_all es) h in
      ap inject_all (sym p.4) ∙ ap (λ z. f.more z (inject_all p.1)) (inject_plain a p.0 p.2) ∙ ap (f.more a) (inject_plain_all es p.1 p.3)

-- two expressions that are the same one of a program are the same
pub one_plain : (d e : FExpr) (b : t.BExpr) → plain d ≡ Some b → plain e ≡ Some b → d ≡ e
one_plain d e b h k = sym (inject_plain d b h) ∙ inject_plain e b k
