use Rattle.std.proofs.Common.{◌≡◌, ◌∙◌, ◌++◌, OnOk, List, ℕ, sym, ap, subst, append-nil}
use Rattle.boogie_formula_text.proofs.ScopeNames.{first_name, second_name, no_name}
use Rattle.boogie_formula_text.proofs.scopes.put_name.Goals as goal

pub returns-then-i-scope : goal.returns-then-i-scope
returns-then-i-scope c =
    subst (λ (x : List ℕ). OnOk c.put_variable.result (c.put_variable.new.out.items ≡ c.args.out.now.items ++ x))
    (sym (first_name c.args.scope.now.variables c.args.scope.now.definitions c.args.i c.if-i-scope.true)) c.put_variable.ensures

pub returns-then-behind-scope : goal.returns-then-behind-scope
returns-then-behind-scope c =
    subst (λ (x : List ℕ). OnOk c.put_definition.result (c.put_definition.new.out.items ≡ c.args.out.now.items ++ x))
    (sym (second_name c.args.scope.now.variables c.args.scope.now.definitions c.args.i c.if-i-scope.false c.if-behind-scope.true)) c.put_definition.ensures

pub returns : goal.returns
returns c =
    sym (ap (λ (x : List ℕ). c.args.out.now.items ++ x) (no_name c.args.scope.now.variables c.args.scope.now.definitions c.args.i c.if-i-scope.false c.if-behind-scope.false) ∙ append-nil c.args.out.now.items)
