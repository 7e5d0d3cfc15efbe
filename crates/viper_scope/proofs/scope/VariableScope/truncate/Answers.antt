use Rattle.std.proofs.Common.{◌∙◌, ap, sym, take, length}
use Rattle.viper_scope.specs.Scope.{ref_variables}
use Rattle.viper_scope.proofs.ScopeLaws.{refs_taken}
use Rattle.viper_scope.proofs.scope.VariableScope.truncate.Goals as goal

pub invariant_of-self : goal.invariant_of-self
invariant_of-self c =
    let names = c.self.inside.names in
    c.truncate-2.ensures.items ∙ ap (λ ns. take c.args.to.refs ns) c.self.invariant ∙
    ap (λ n. take n (ref_variables names)) (c.requires ∙ ap (λ sc. length (ref_variables (take c.args.to.variables sc))) (sym c.self.view_is)) ∙
    refs_taken c.args.to.variables names ∙ ap ref_variables (sym c.truncate.ensures)
