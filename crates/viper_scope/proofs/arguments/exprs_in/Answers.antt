use Rattle.std.proofs.Common.{◌≡◌, ◌∙◌, ap, sym, map, rules}
use Rattle.viper_core.specs.View.{exprs_of}
use Rattle.viper_scope.specs.Outcome.{Found}
use Rattle.viper_scope.proofs.ArgumentLaws.{exprs_in-map}
use Rattle.viper_scope.proofs.arguments.exprs_in.Goals as goal

pub returns : goal.returns
returns c =
    let items : c.in_ok-collect.field-0.items ≡ map (λ x. x.0) c.args.typed.items = search rules in
    ap Found (sym (ap exprs_of items ∙ exprs_in-map c.args.typed.items))
