use Rattle.std.proofs.Common.{◌∙◌, length, sym, ap, subst}
use Rattle.boogie_wp.specs.Changes.{changed, Chosen}
use Rattle.boogie_wp.specs.View.{begun_of, builder_of}
use Rattle.boogie_wp.proofs.ChangeLaws.{changed_long, join_made}
use Rattle.boogie_wp.proofs.builder.ConditionsBuilder.join.Goals as goal

pub returns-clause-goes : goal.returns-clause-goes
returns-clause-goes c =
    let us = begun_of c.meet.new.self in
    let vs = changed c.args.first.changes.items us in
    let names = c.meet.new.self.names in
    let back = sym c.in_ok-choices.ensures.back in
    let choices = sym c.deref.ensures.value in
    let chosen = subst (λ xs. Chosen xs vs names.versions.items 0 c.deref.result.now) back (subst (Chosen us vs names.versions.items 0) choices c.in_ok-choices.ensures.chosen) in
    join_made c.args.n c.args.condition c.args.first.path (builder_of c.args.self.now) (builder_of c.meet.new.self) (builder_of c.merge.new.self) c.in_ok-name.name c.choices.new.self.versions.items vs
    (changed c.args.first.changes.items (begun_of c.args.self.now)) c.in_ok-name.ensures.goes c.in_ok-name.ensures.name
    (c.in_ok-merge.ensures.goes vs names.versions.items (changed_long c.args.first.changes.items us ∙ ap length back) (sym (changed_long names.changes.items names.versions.items) ∙ ap length back) chosen)
    (ap (changed c.args.first.changes.items) c.in_ok-name.ensures.begun)
