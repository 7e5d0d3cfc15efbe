-- The variants that hold a `Vec`.
use Rattle.std.proofs.Common.{rules, ◌∙◌, ap, ◌+◌}
use Rattle.viper_core.proofs.BudgetLaws.{leaves_at}
use Rattle.viper_syntax.specs.View.{term_of, terms_of, amount_of}
use Rattle.viper_syntax.proofs.ViewLaws.{term_of-Inst, term_of-Unfolding}
use Rattle.viper_scope.specs.Answers.{world_of}
use Rattle.viper_types.specs.Answers.{optional_bodies_of}
use Rattle.viper_scope.specs.Context.{predicate_at}
use Rattle.viper_types.specs.Copied.{opened_size, copied, copied_amount, copied_all}
use Rattle.viper_types.proofs.copied.+terms.Goals as goal

pub spend_term-returns-in-Inst : goal.spend_term-returns-in-Inst
spend_term-returns-in-Inst t c =
    leaves_at _ _ _ (copied_all (world_of c.args.world.now) (optional_bodies_of c.args.bodies.now) (terms_of c.in-Inst.args.items)) (ap (copied (world_of c.args.world.now) (optional_bodies_of c.args.bodies.now)) (ap term_of c.in-Inst.is ∙ term_of-Inst _ _ _)) (search rules)

pub spend_term-returns-in_err-left-in-Unfolding-2 : goal.spend_term-returns-in_err-left-in-Unfolding-2
spend_term-returns-in_err-left-in-Unfolding-2 t c =
    leaves_at _ _ _
    (opened_size (world_of c.args.world.now) (optional_bodies_of c.args.bodies.now) (predicate_at (world_of c.args.world.now) c.in-Unfolding.«unfolding».value.name.name) + copied_all (world_of c.args.world.now) (optional_bodies_of c.args.bodies.now) (terms_of c.in-Unfolding.«unfolding».value.args.items) + copied_amount (world_of c.args.world.now) (optional_bodies_of c.args.bodies.now) (amount_of c.in-Unfolding.«unfolding».value.amount) + copied (world_of c.args.world.now) (optional_bodies_of c.args.bodies.now) (term_of c.in-Unfolding.«unfolding».value.inner.value))
    (ap (copied (world_of c.args.world.now) (optional_bodies_of c.args.bodies.now)) (ap term_of c.in-Unfolding.is ∙ term_of-Unfolding c.in-Unfolding.«unfolding»)) (search rules)

pub spend_term-returns-in_err-left-in-Unfolding-3 : goal.spend_term-returns-in_err-left-in-Unfolding-3
spend_term-returns-in_err-left-in-Unfolding-3 t c =
    leaves_at _ _ _
    (opened_size (world_of c.args.world.now) (optional_bodies_of c.args.bodies.now) (predicate_at (world_of c.args.world.now) c.in-Unfolding.«unfolding».value.name.name) + copied_all (world_of c.args.world.now) (optional_bodies_of c.args.bodies.now) (terms_of c.in-Unfolding.«unfolding».value.args.items) + copied_amount (world_of c.args.world.now) (optional_bodies_of c.args.bodies.now) (amount_of c.in-Unfolding.«unfolding».value.amount) + copied (world_of c.args.world.now) (optional_bodies_of c.args.bodies.now) (term_of c.in-Unfolding.«unfolding».value.inner.value))
    (ap (copied (world_of c.args.world.now) (optional_bodies_of c.args.bodies.now)) (ap term_of c.in-Unfolding.is ∙ term_of-Unfolding c.in-Unfolding.«unfolding»)) (search rules)

pub spend_term-returns-in_ok-left-in-Unfolding-3 : goal.spend_term-returns-in_ok-left-in-Unfolding-3
spend_term-returns-in_ok-left-in-Unfolding-3 t c =
    leaves_at _ _ _
    (opened_size (world_of c.args.world.now) (optional_bodies_of c.args.bodies.now) (predicate_at (world_of c.args.world.now) c.in-Unfolding.«unfolding».value.name.name) + copied_all (world_of c.args.world.now) (optional_bodies_of c.args.bodies.now) (terms_of c.in-Unfolding.«unfolding».value.args.items) + copied_amount (world_of c.args.world.now) (optional_bodies_of c.args.bodies.now) (amount_of c.in-Unfolding.«unfolding».value.amount) + copied (world_of c.args.world.now) (optional_bodies_of c.args.bodies.now) (term_of c.in-Unfolding.«unfolding».value.inner.value))
    (ap (copied (world_of c.args.world.now) (optional_bodies_of c.args.bodies.now)) (ap term_of c.in-Unfolding.is ∙ term_of-Unfolding c.in-Unfolding.«unfolding»)) (search rules)
