use Rattle.std.proofs.Common.{rules, ◌≡◌, ◌∙◌, ap, sym, ◌++◌, ◌∷◌, [], true, false, cond, append-nil}
use Rattle.vb_value.specs.Value.{same_type}
use Rattle.vb_value.specs.declared.values.Ty.TheVariants as ty
use Rattle.viper_scope.specs.Scope.{ref_variables}
use Rattle.viper_scope.proofs.ScopeLaws.{refs_declared}
use Rattle.viper_scope.proofs.scope.VariableScope.declare.Goals as goal

pub invariant_of-self-then-eq : goal.invariant_of-self-then-eq
invariant_of-self-then-eq c =
    let v = c.args.variable in
    let is : same_type v.ty ty.Ref ≡ true = search rules in
    c.push_reserved.ensures.items ∙ ap (λ ns. ns ++ v.number ∷ []) (c.reserve.ensures.items ∙ c.self.invariant) ∙
    sym (refs_declared c.self.inside.names _ c.args.name.now v c.in_ok-declare.ensures.ok ∙ ap (λ b. ref_variables c.self.inside.names ++ cond b (v.number ∷ []) []) is)

pub invariant_of-self-else-eq : goal.invariant_of-self-else-eq
invariant_of-self-else-eq c =
    let v = c.args.variable in
    let is : same_type v.ty ty.Ref ≡ false = search rules in
    c.reserve.ensures.items ∙ c.self.invariant ∙
    sym (refs_declared c.self.inside.names _ c.args.name.now v c.in_ok-declare.ensures.ok ∙ ap (λ b. ref_variables c.self.inside.names ++ cond b (v.number ∷ []) []) is ∙ append-nil _)
