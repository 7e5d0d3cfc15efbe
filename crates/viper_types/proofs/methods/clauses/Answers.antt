use Rattle.std.proofs.Common.{◌∙◌, ap, ◌∷◌, [], ◌+◌, drop, map}
use Rattle.std.proofs.lemmas.List.{map-append}
use Rattle.viper_syntax.specs.View.{clause_of, term_of}
use Rattle.viper_scope.specs.Answers.{world_of}
use Rattle.viper_scope.specs.Outcome.{prefixed}
use Rattle.viper_scope.proofs.Judged.{at_error}
use Rattle.viper_types.specs.Answers.{clause_typing_of, clause_typings_of, optional_bodies_of}
use Rattle.viper_types.specs.Declaring as j
use Rattle.viper_types.proofs.DeclLaws.{next_clause, no_clause}
use Rattle.viper_types.proofs.Steps.{prefixed_nothing, one_done, one_refused, all_done}
use Rattle.viper_types.proofs.methods.clauses.Goals as goal

pub loop-next-init : goal.loop-next-init
loop-next-init c =
    let all = j.clauses (world_of c.args.world.now) (optional_bodies_of c.args.bodies.now) c.args.params.now c.args.all.now (map clause_of c.args.clauses.now) in
    ap (λ done. prefixed (map clause_typing_of done) all) c.in_ok-typed.ensures.items ∙ prefixed_nothing all

pub loop-next-preserved : goal.loop-next-preserved
loop-next-preserved c =
    let w = world_of c.args.world.now in
    let bodies = optional_bodies_of c.args.bodies.now in
    let i = c.loop-next.next-index in
    let item = c.next-item.result in
    let done = c.loop-next.typed.items in
    let rest = j.clauses w bodies c.args.params.now c.args.all.now (map clause_of (drop (i + 1) c.args.clauses.now)) in
    ap (λ typed. prefixed typed rest) (ap (map clause_typing_of) c.in_ok-push.ensures.items ∙ map-append clause_typing_of done (c.in_ok-condition.condition ∷ [])) ∙
    one_done (map clause_typing_of done) (clause_typing_of c.in_ok-condition.condition) (j.clause_of w bodies c.args.params.now c.args.all.now item.word (term_of item.term)) _ rest _
    (next_clause w bodies c.args.params.now c.args.all.now c.args.clauses.now i item c.loop-next-test.true c.next-item.is) c.in_ok-condition.ensures c.loop-next.invariant

pub returns : goal.returns
returns c =
    all_done (clause_typings_of c.loop-next.typed) _ _
    (no_clause (world_of c.args.world.now) (optional_bodies_of c.args.bodies.now) c.args.params.now c.args.all.now c.args.clauses.now c.loop-next.next-index c.loop-next-test.false) c.loop-next.invariant

pub returns-in_err-condition : goal.returns-in_err-condition
returns-in_err-condition c =
    let w = world_of c.args.world.now in
    let bodies = optional_bodies_of c.args.bodies.now in
    let i = c.loop-next.next-index in
    let item = c.next-item.result in
    at_error clause_typings_of _ _ _ c.from_residual-in_err-condition.ensures.1
    (one_refused (clause_typings_of c.loop-next.typed) (j.clause_of w bodies c.args.params.now c.args.all.now item.word (term_of item.term)) _ _ _ c.in_err-condition.field-0.0
    (next_clause w bodies c.args.params.now c.args.all.now c.args.clauses.now i item c.loop-next-test.true c.next-item.is) c.in_err-condition.ensures c.loop-next.invariant)
