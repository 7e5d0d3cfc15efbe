-- What is written by calls that are handed a place alone: the types of variables, fields and predicates are read off its locals,
-- and a scale that is no atom is set in a new local first.
use Rattle.std.specs.Prelude.{⊤, ◌≡◌, ℕ, List, None, true}
use Rattle.vb_value.specs.Bound.{Bound}
use Rattle.vb_value.specs.Fraction.{Fraction, is_positive, IsProperFraction}
use Rattle.viper_core.specs.Expr as e
use Rattle.boogie_tree.specs.Expr as t
use Rattle.boogie_tree.specs.Program.{BType}
use Rattle.boogie_tree.specs.Value.{Real}
use Rattle.boogie_tree.specs.declared.exprs.BBase.TheVariants as base
use Rattle.boogie_meaning.specs.Ends.{Is}
use Rattle.boogie_meaning.specs.Quantified.{bvalue}
use Rattle.enc_expr.specs.Alike.{Agree}
use Rattle.enc_expr.specs.Code.{Emitting, gives, then_emit, puts}
use Rattle.enc_expr.specs.Coupling.{Env}
use Rattle.enc_expr.specs.Pieces.{atomic}
use Rattle.enc_expr.specs.Place.{Maps, Place}
use Rattle.enc_expr.specs.ReadOff.{kinds_at}
use Rattle.enc_assert.specs.Encoding.{produce_code, consume_code, forget_code}

-- a scale as an atom
abbrev pub scale_code : t.BExpr → Emitting t.BExpr
scale_code x = then_emit (atomic (record { expr = x; base = base.Real })) (λ a. then_emit (puts None a.sets) (λ u. gives a.expr))

-- by the types of the locals so far
abbrev pub produce_call : List BType → Place → t.BExpr → e.Assertion → Emitting ⊤
produce_call ts p scale a = then_emit (scale_code scale) (λ x. produce_code (kinds_at p ts) p None x a)

abbrev pub consume_call : List BType → Place → Maps → t.BExpr → e.Assertion → Emitting ⊤
consume_call ts p left scale a = then_emit (scale_code scale) (λ x. consume_code (kinds_at p ts) p left None x a)

abbrev pub forget_call : List BType → Place → Emitting ⊤
forget_call ts p = forget_code (kinds_at p ts).layout p.now

-- the expression has this value as long as the first n locals stay as they are, and the value is a scale
pub record IsScaling (b : Bound) (n : ℕ) (E : Env) (x : t.BExpr) (q : Fraction) : Type 0 where
  pub value : (F : Env) → Agree n E F → bvalue b x F ≡ Is (Real q)
  pub positive : is_positive q ≡ true
  pub proper : IsProperFraction b q
