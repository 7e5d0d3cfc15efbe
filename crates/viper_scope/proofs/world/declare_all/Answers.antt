use Rattle.std.proofs.Common.{◌∙◌, refl, sym, true, false}
use Rattle.viper_scope.specs.Answers.{world_of}
use Rattle.viper_scope.proofs.NamingLaws.{newness, unknown, declared, second_name, all_declared}
use Rattle.viper_scope.proofs.world.declare_all.Goals as goal

pub loop-decl-init : goal.loop-decl-init
loop-decl-init c = refl

pub declare-requires : goal.declare-requires
declare-requires c =
    unknown (world_of c.loop-decl.world) c.decl-item.result c.decl_name-name.result.now c.find.result c.is_some.result c.decl_name-name.ensures c.find.ensures c.is_some.ensures c.if-is_some.false

pub loop-decl-preserved : goal.loop-decl-preserved
loop-decl-preserved c =
    let w = world_of c.loop-decl.world in
    let new = newness w c.decl-item.result c.decl_name-name.result.now _ _ false c.decl_name-name.ensures c.find.ensures c.is_some.ensures c.if-is_some.false in
    declared w (world_of c.declare.new.self) c.args.decls.now c.loop-decl.decl-index c.decl-item.result c.loop-decl-test.true c.decl-item.is new c.in_ok-declare.ensures ∙ c.loop-decl.invariant

pub returns-then-is_some : goal.returns-then-is_some
returns-then-is_some c =
    let w = world_of c.loop-decl.world in
    let name = c.decl_name-name in
    let old = newness w c.decl-item.result name.result.now _ _ true name.ensures c.find.ensures c.is_some.ensures c.if-is_some.true in
    sym c.loop-decl.invariant ∙ second_name w c.args.decls.now c.loop-decl.decl-index c.decl-item.result name.result.now c.loop-decl-test.true c.decl-item.is name.ensures old

pub returns : goal.returns
returns c = sym c.loop-decl.invariant ∙ all_declared (world_of c.loop-decl.world) c.args.decls.now c.loop-decl.decl-index c.loop-decl-test.false c.loop-decl.auto.decl-index-end
