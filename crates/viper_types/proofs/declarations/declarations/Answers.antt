use Rattle.std.proofs.Common.{◌∙◌, ap, sym, map}
use Rattle.viper_syntax.specs.View.{decl_of}
use Rattle.viper_scope.specs.Answers.{world_of}
use Rattle.viper_scope.proofs.Judged.{at_error, refuses_along}
use Rattle.viper_types.specs.Answers.{declared_of, optional_bodies_of, parts_of}
use Rattle.viper_types.proofs.DeclLaws.{onto, onto_next, onto_refused, onto_end}
use Rattle.viper_types.proofs.declarations.declarations.Goals as goal

pub loop-decl-init : goal.loop-decl-init
loop-decl-init c = ap (λ g. onto c.args.lists (world_of c.args.world.now) (optional_bodies_of c.args.bodies.now) g (map decl_of c.args.decls.now)) c.new-parts.ensures

pub loop-decl-preserved : goal.loop-decl-preserved
loop-decl-preserved c =
    let l = c.loop-decl in
    onto_next c.args.lists (world_of c.args.world.now) (optional_bodies_of c.args.bodies.now) (parts_of l.parts) (parts_of c.add.new.self) c.args.decls.now l.decl-index c.decl-item.result
    (declared_of c.in_ok-declared.declared) c.loop-decl-test.true c.decl-item.is c.in_ok-declared.ensures c.in_ok-add.ensures ∙ l.invariant

pub returns : goal.returns
returns c =
    let l = c.loop-decl in
    sym l.invariant ∙ onto_end c.args.lists (world_of c.args.world.now) (optional_bodies_of c.args.bodies.now) (parts_of l.parts) c.args.decls.now l.decl-index c.loop-decl-test.false

pub returns-in_err-declared : goal.returns-in_err-declared
returns-in_err-declared c =
    let l = c.loop-decl in
    let f = c.in_err-declared.field-0.0 in
    at_error parts_of _ _ _ c.from_residual.ensures.1
    (refuses_along f (sym l.invariant)
    (onto_refused c.args.lists (world_of c.args.world.now) (optional_bodies_of c.args.bodies.now) (parts_of l.parts) c.args.decls.now l.decl-index c.decl-item.result f c.loop-decl-test.true c.decl-item.is c.in_err-declared.ensures))
