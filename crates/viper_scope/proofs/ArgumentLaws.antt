-- Arguments, as the code and as contracts see them.
use Rattle.std.proofs.Common.{◌≡◌, ◌∙◌, refl, ap, ◌==◌, List, [], ◌∷◌, length, map}
use Rattle.std.proofs.Math.Dec.{eqb-suc-suc, eqb-suc-zero, eqb-zero-suc}
use Rattle.vb_value.specs.declared.values.Ty.{Ty}
use Rattle.viper_core.specs.Expr as e
use Rattle.viper_core.specs.View.{expr_of, exprs_of}
use Rattle.viper_core.specs.declared.exprs.Expr.{Expr}
use Rattle.viper_scope.specs.Answers.{typing_of}
use Rattle.viper_scope.specs.Arguments.{as_many, exprs_in}

pub as_many-length : {X Y : Type 0} (xs : List X) (ys : List Y) → (length xs == length ys) ≡ as_many xs ys
as_many-length [] [] = refl
as_many-length [] (y ∷ ys) = eqb-zero-suc (length ys)
as_many-length (x ∷ xs) [] = eqb-suc-zero (length xs)
as_many-length (x ∷ xs) (y ∷ ys) = eqb-suc-suc (length xs) (length ys) ∙ as_many-length xs ys

pub as_many-map : {W X Y : Type 0} (f : W → X) (ws : List W) (ys : List Y) → as_many (map f ws) ys ≡ as_many ws ys
as_many-map f [] [] = refl
as_many-map f [] (y ∷ ys) = refl
as_many-map f (w ∷ ws) [] = refl
as_many-map f (w ∷ ws) (y ∷ ys) = as_many-map f ws ys

pub exprs_in-map : (xs : List (Expr × Ty)) → exprs_of (map (λ x. x.0) xs) ≡ exprs_in (map typing_of xs)
exprs_in-map [] = refl
exprs_in-map (x ∷ xs) = ap (e.more (expr_of x.0)) (exprs_in-map xs)
