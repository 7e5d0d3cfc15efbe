-- What is written by calls that are handed a program, an instance to fold or unfold, and a place: the types of variables are read off
-- the locals of the place.
use Rattle.std.specs.Prelude.{⊤, List, map, Option, Some, None}
use Rattle.vb_value.specs.Layout.{Layout}
use Rattle.viper_core.specs.Expr as e
use Rattle.viper_core.specs.Program.{Program}
use Rattle.viper_core.specs.Stmt.{FoldStmt}
use Rattle.viper_meaning.specs.Contents.{body_of}
use Rattle.boogie_tree.specs.Program.{BType}
use Rattle.enc_expr.specs.Place.{Place}
use Rattle.enc_expr.specs.Kinds.{Kinds}
use Rattle.enc_expr.specs.Code.{Emitting, gives}
use Rattle.enc_expr.specs.ReadOff.{value_type}
use Rattle.enc_fold.specs.Encoding.{fold_code, unfold_code}

abbrev pub kinds_for : List BType → Layout → Place → Kinds
kinds_for ts layout p = record { vars = map (value_type ts) p.vars; layout = layout }

-- nothing is written for a predicate without a body, which no typed program folds
abbrev pub with_body : Option e.Assertion → (e.Assertion → Emitting ⊤) → Emitting ⊤
with_body (Some body) go = go body
with_body None go = gives tt

abbrev pub fold_call : List BType → Program → Place → FoldStmt → Emitting ⊤
fold_call ts program p f = with_body (body_of program f.predicate) (fold_code (kinds_for ts program.layout p) p f)

abbrev pub unfold_call : List BType → Program → Place → FoldStmt → Emitting ⊤
unfold_call ts program p f = with_body (body_of program f.predicate) (unfold_code (kinds_for ts program.layout p) p f)
