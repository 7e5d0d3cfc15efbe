-- The value of an expression, and what an assertion contains, as one expression of Boogie each, without any checks. Where the
-- assertion was consumed, all that counts of it has a value, so nothing has to be checked again.
use Rattle.std.specs.Prelude.{pos, if◌then◌else◌}
use Rattle.viper_core.specs.Expr as e
use Rattle.viper_core.specs.declared.exprs.Op.{Op}
use Rattle.viper_meaning.specs.Operators.{Class, Lazy, Division, Plain, class_of}
use Rattle.boogie_tree.specs.Expr as t
use Rattle.boogie_tree.specs.declared.exprs.BBase.TheVariants as base
use Rattle.boogie_tree.specs.declared.exprs.BOp.TheVariants as op
use Rattle.enc_expr.specs.Place.{Place, number, with_now}
use Rattle.moves.specs.Scalars.{base_for}
use Rattle.enc_expr.specs.Kinds.{Kinds, type_at}
use Rattle.enc_expr.specs.Pieces.{Operand, at_one, zero_real, is_one}
use Rattle.enc_expr.specs.Operators.{op_of, operand_of, quotient_operand}
use Rattle.enc_expr.specs.Encoding.{leaf}

-- ---- values

-- A lazy operator of Viper is one of Boogie, which looks at its right side just where Viper does.
abbrev pub plain_by : Class → Op → Operand → Operand → Operand
plain_by Lazy o x y = record { expr = t.Bin (op_of o) x.expr y.expr; base = base.Bool }
plain_by Division o x y = quotient_operand o x y.expr
plain_by Plain o x y = operand_of o x y

abbrev pub plain : Kinds → Place → e.Expr → Operand
plain k p (e.Var x) = record { expr = t.Var (number p.vars x); base = base_for (type_at k.vars x) }
plain k p (e.Int n) = record { expr = t.Int n; base = base.Int }
plain k p (e.Bool b) = record { expr = t.Bool b; base = base.Bool }
plain k p e.Null = record { expr = t.Null; base = base.Ref }
plain k p (e.Part q) = record { expr = t.Real q.num; base = base.Real }
plain k p (e.Neg a) = let x = plain k p a in record { expr = t.Neg x.expr; base = x.base }
plain k p (e.Not a) = record { expr = t.Not (plain k p a).expr; base = base.Bool }
plain k p (e.Bin o a b at) = plain_by (class_of o) o (plain k p a) (plain k p b)
plain k p (e.Choose c a b) = let x = plain k p a in record { expr = t.If (plain k p c).expr x.expr (plain k p b).expr; base = x.base }
plain k p (e.Field a f at) = record { expr = at_one (number p.now.heap f) (plain k p a).expr; base = base_for (type_at k.layout.fields f) }
plain k p (e.Old a) = plain k (with_now p.old p) a
-- no body of a predicate has one
plain k p (e.Unfolding (e.opened q args amount body inner at)) = plain k p inner

-- the arguments of an instance as the index of its map, which is 0 where there are none
abbrev pub plain_more : Kinds → Place → e.Exprs → t.BExprs
plain_more k p e.none = t.none
plain_more k p (e.more a rest) = t.more (plain k p a).expr (plain_more k p rest)

abbrev pub plain_index : Kinds → Place → e.Exprs → t.BExprs
plain_index k p e.none = t.more (t.Int (pos 0)) t.none
plain_index k p (e.more a rest) = plain_more k p (e.more a rest)

-- ---- contents

abbrev pub plain_amount : Kinds → Place → e.Amt → t.BExpr
plain_amount k p (e.Is a) = (plain k p a).expr
-- no body of a predicate has one
plain_amount k p e.Wildcard = zero_real

-- what is held by no positive amount contains nothing
abbrev pub contained_by : t.BExpr → t.BExpr → t.BExpr
contained_by q x = if is_one q then x else t.If (t.Bin op.Gt q zero_real) x t.Unit

abbrev pub content_expr : Kinds → Place → e.Assertion → t.BExpr
content_expr k p (e.Fact a at) = t.Unit
content_expr k p (e.Acc a f m at) = contained_by (plain_amount k p m) (leaf (type_at k.layout.fields f) (at_one (number p.now.heap f) (plain k p a).expr))
content_expr k p (e.Inst q args m at) = contained_by (plain_amount k p m) (t.At (number p.now.content q) (plain_index k p args))
content_expr k p (e.And a b) = t.Pair (content_expr k p a) (content_expr k p b)
content_expr k p (e.Implies c a) = t.If (plain k p c).expr (content_expr k p a) t.Unit
content_expr k p (e.ChooseAssertion c a b) = t.If (plain k p c).expr (content_expr k p a) (content_expr k p b)
