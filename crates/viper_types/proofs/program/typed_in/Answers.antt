use Rattle.std.proofs.Common.{rules, ◌≡◌, ◌∙◌, ap, refl, map, true, is_none}
use Rattle.viper_syntax.specs.View.{decl_of, program_of as source_of}
use Rattle.viper_scope.specs.Answers.{world_of}
use Rattle.viper_types.specs.Answers.{optional_bodies_of}
use Rattle.viper_types.proofs.CheckLaws.{heavy_told}
use Rattle.viper_types.proofs.program.typed_in.Goals as goal

pub returns-then-is_none-clause-refused : goal.returns-then-is_none-clause-refused
returns-then-is_none-clause-refused c =
    let none : is_none c.spend_decls.result ≡ true = search rules in
    heavy_told (source_of c.args.source.now) (world_of c.args.world.now) c.heavy_fault.result (optional_bodies_of c.deref-2.result.now) c.spend_decls.result
    _ _ _ _ refl (ap (map decl_of) c.deref.ensures.value) (ap (map decl_of) c.deref-3.ensures.value) (ap (map decl_of) c.deref-then-is_none.ensures.value)
    c.requires (ap optional_bodies_of c.deref-2.ensures.value ∙ c.in_ok-bodies.ensures) c.spend_decls.ensures
    none c.heavy_fault.ensures
