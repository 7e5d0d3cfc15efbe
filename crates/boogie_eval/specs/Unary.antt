-- The operators of one side, and pairs.
use Rattle.std.specs.Prelude.{◌+◌, nat_lt}
use Rattle.vb_base.specs.Limits.{max_content_nodes}
use Rattle.vb_value.specs.Bound.{Bounded}
use Rattle.vb_value.specs.Content.{Content, Pair, nodes}
use Rattle.boogie_tree.specs.Value.{BScalar, Snap}
use Rattle.boogie_meaning.specs.Ends.{End, fitting}
use Rattle.boogie_meaning.specs.Operators.{negative, negation, real_from, leaf_int, leaf_bool, leaf_ref, leaf_perm}
use Rattle.boogie_eval.specs.declared.eval_unary.Unary.{Unary}
use Rattle.boogie_eval.specs.declared.eval_unary.Unary.TheVariants as op

abbrev pub unary_of : Unary → BScalar → End BScalar
unary_of op.Neg = negative
unary_of op.Not = negation
unary_of op.ToReal = real_from
unary_of op.SInt = leaf_int
unary_of op.SBool = leaf_bool
unary_of op.SRef = leaf_ref
unary_of op.SPerm = leaf_perm

-- the pair of two contents, within the bound
abbrev pub pair_in : Content → Content → End BScalar
pair_in c d = fitting Bounded (nat_lt (nodes (Pair c d)) (max_content_nodes + 1)) (Snap (Pair c d))
