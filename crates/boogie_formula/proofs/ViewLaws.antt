-- The views of the variants that hold a `Vec`, where code builds or matches them.
use Rattle.std.proofs.Common.{◌≡◌, ◌∙◌, refl, ap, List, [], ◌∷◌, map, Vec}
use Rattle.std.specs.declared.alloc.Global.{Global}
use Rattle.boogie_formula.specs.Formula as f
use Rattle.boogie_formula.specs.View.{fexpr_of, fexpr_row, fexprs_of}
use Rattle.boogie_formula.specs.declared.formulas.FExpr as expr
use Rattle.boogie_formula.specs.declared.formulas.FExpr.TheBlock as eb

fexpr_row-items : {n : _} (k : expr.Row_of-FExpr n) → fexpr_row k ≡ fexprs_of (expr.items-the_row-FExpr n k)
fexpr_row-items expr.end_of-FExpr = refl
fexpr_row-items (expr.more_of-FExpr e rest) = ap (f.more (fexpr_of e)) (fexpr_row-items rest)

hidden_keys : (v : Vec expr.FExpr Global) → fexpr_row (eb.hidden-the_row-FExpr-0 v) ≡ fexprs_of v.items
hidden_keys v = fexpr_row-items (eb.hidden-the_row-FExpr-0 v) ∙ ap fexprs_of (expr.items_hidden-the_row-FExpr-0 v)

pub fexpr_of-At : (i : _) (v : Vec expr.FExpr Global) → fexpr_of (expr.At i v) ≡ f.At i (fexprs_of v.items)
fexpr_of-At i v = ap (f.At i) (hidden_keys v)

-- the items of a slice or a `Vec` are those of `fexprs` over the views
pub fexprs_of-map : (v : List expr.FExpr) → fexprs_of v ≡ f.fexprs (map fexpr_of v)
fexprs_of-map [] = refl
fexprs_of-map (e ∷ es) = ap (f.more (fexpr_of e)) (fexprs_of-map es)

pub fexpr_of-With : (m : _) (v : Vec expr.FExpr Global) (e : _) → fexpr_of (expr.With m v e) ≡ f.With (fexpr_of m.value) (fexprs_of v.items) (fexpr_of e.value)
fexpr_of-With m v e = ap (λ ks. f.With (fexpr_of m.value) ks (fexpr_of e.value)) (hidden_keys v)
