-- What is written without checks, by the parts of a tree.
use Rattle.std.proofs.Common.{◌≡◌, ◌==◌, false, List, [], ◌∷◌, length, refl}
use Rattle.viper_core.specs.View.{exprs_of}
use Rattle.viper_core.specs.declared.exprs.Expr.{Expr}
use Rattle.enc_expr.specs.Place.{Place}
use Rattle.enc_expr.specs.Kinds.{Kinds}
use Rattle.enc_expr.specs.Plain.{plain_more, plain_index}

-- where there are arguments the index is theirs
pub index_is : (k : Kinds) (p : Place) (es : List Expr) → (length es == 0) ≡ false → plain_more k p (exprs_of es) ≡ plain_index k p (exprs_of es)
index_is k p [] some = absurd cc
index_is k p (e ∷ es) some = refl
