use Rattle.std.proofs.Common.{sym, ◌∙◌}
use Rattle.sparse.proofs.Ends.{default_above, put_above}
use Rattle.sparse.proofs.builder.append.Goals as goal

pub returns-then-eq-clause-same : goal.returns-then-eq-clause-same
returns-then-eq-clause-same g c =
    default_above g.met.K.Ord.total g.met.V.Eq.laws c.args.zero.now c.args.list.now.items c.args.key c.args.value c.requires (sym c.eq.ensures ∙ c.if-eq.true)

pub returns-clause-same : goal.returns-clause-same
returns-clause-same g c =
    put_above g.met.K.Ord.total g.met.V.Eq.laws c.args.zero.now c.args.list.now.items c.args.key c.args.value c.requires c.in_ok-new.field-0 c.in_ok-new.ensures.ok _ c.in_ok-push.ensures.items (sym c.eq.ensures ∙ c.if-eq.false)
