-- The types of operators and literals (Viper tutorial, "Expressions and assertions").
use Rattle.std.specs.Prelude.{Bool, true, false, Option, Some, None, pos}
use Rattle.vb_value.specs.declared.values.Ty.{Ty}
use Rattle.vb_value.specs.declared.values.Ty.TheVariants as ty
use Rattle.vb_value.specs.Fraction.{whole}
use Rattle.viper_core.specs.Expr as e
use Rattle.viper_core.specs.declared.exprs.Op.{Op}
use Rattle.viper_core.specs.declared.exprs.Op.TheVariants as op
use Rattle.viper_syntax.specs.declared.tokens.Sign.{Sign}
use Rattle.viper_syntax.specs.declared.tokens.Sign.TheVariants as sign
use Rattle.viper_syntax.specs.declared.tokens.Word.{Word}
use Rattle.viper_syntax.specs.declared.tokens.Word.TheVariants as word

-- the operator of a binary sign
abbrev pub operator : Sign → Option Op
operator sign.Iff = Some op.Iff
operator sign.Implies = Some op.Implies
operator sign.Or = Some op.Or
operator sign.And = Some op.And
operator sign.Equal = Some op.Eq
operator sign.NotEqual = Some op.Ne
operator sign.Less = Some op.Lt
operator sign.AtMost = Some op.Le
operator sign.Greater = Some op.Gt
operator sign.AtLeast = Some op.Ge
operator sign.Plus = Some op.Add
operator sign.Minus = Some op.Sub
operator sign.Star = Some op.Mul
operator sign.Slash = Some op.Divide
operator sign.Backslash = Some op.IntDiv
operator sign.Percent = Some op.IntMod
operator _ = None

-- the literals that are words. `wildcard` is an amount and no expression.
abbrev pub literal : Word → Option (e.Expr × Ty)
literal word.True = Some (e.Bool true, ty.Bool)
literal word.False = Some (e.Bool false, ty.Bool)
literal word.Null = Some (e.Null, ty.Ref)
literal word.Write = Some (e.Part (whole (pos 1)), ty.Perm)
literal word.None = Some (e.Part (whole (pos 0)), ty.Perm)
literal _ = None

abbrev pub is_wildcard_word : Word → Bool
is_wildcard_word word.Wildcard = true
is_wildcard_word _ = false
