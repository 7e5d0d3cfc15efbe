-- The typing of an `unfolding`, by its parts in order.
use Rattle.std.proofs.Common.{◌≡◌, refl, ℕ, List}
use Rattle.vb_base.specs.declared.places.Pos.{Pos}
use Rattle.vb_value.specs.declared.values.Ty.{Ty}
use Rattle.viper_core.specs.Expr as e
use Rattle.viper_syntax.specs.Term as t
use Rattle.viper_scope.specs.declared.rules.RuleFault.{RuleFault}
use Rattle.viper_scope.specs.declared.rules.RuleFault.TheVariants as fault
use Rattle.viper_scope.specs.Answers.{Refuses}
use Rattle.viper_scope.specs.Context.{Context, Signature}
use Rattle.viper_scope.specs.Outcome.{Found}
use Rattle.viper_scope.specs.Scope.{VariableScope}
use Rattle.viper_scope.specs.Arguments.{Typing}
use Rattle.viper_types.specs.Typing.{typing, arguments, permission, opening, opened_typing}

pub args_break : (c : Context) (sc : VariableScope) {u : t.Term} {x : List ℕ} {args : t.Terms} {m : t.Amount} {a : t.Term} {at name_at : Pos} {s : ℕ × Signature}
    (seen : t.Terms) (params : List Ty) (f : RuleFault) →
    u ≡ t.Unfolding x args m a at name_at → opening c x at name_at ≡ Found s → args ≡ seen → s.1.params ≡ params →
    Refuses (arguments c sc seen params name_at) f → Refuses (typing c sc u) f
args_break c sc seen params fault.Memory is opens same_args same_params h = tt
args_break c sc seen params (fault.Broken p r) is opens same_args same_params h = rw (is, opens, same_args, same_params, h) refl

pub amount_breaks : (c : Context) (sc : VariableScope) {u : t.Term} {x : List ℕ} {args : t.Terms} {m : t.Amount} {a : t.Term} {at name_at : Pos} {s : ℕ × Signature} {es : e.Exprs}
    (seen : t.Terms) (params : List Ty) (f : RuleFault) →
    u ≡ t.Unfolding x args m a at name_at → opening c x at name_at ≡ Found s → args ≡ seen → s.1.params ≡ params →
    arguments c sc seen params name_at ≡ Found es → Refuses (permission c sc m) f → Refuses (typing c sc u) f
amount_breaks c sc seen params fault.Memory is opens same_args same_params typed h = tt
amount_breaks c sc seen params (fault.Broken p r) is opens same_args same_params typed h = rw (is, opens, same_args, same_params, typed, h) refl

pub inner_breaks : (c : Context) (sc : VariableScope) {u : t.Term} {x : List ℕ} {args : t.Terms} {m : t.Amount} {a b : t.Term} {at name_at : Pos} {s : ℕ × Signature} {es : e.Exprs} {p : e.Expr}
    (seen : t.Terms) (params : List Ty) (f : RuleFault) →
    u ≡ t.Unfolding x args m a at name_at → opening c x at name_at ≡ Found s → args ≡ seen → s.1.params ≡ params →
    arguments c sc seen params name_at ≡ Found es → permission c sc m ≡ Found p → a ≡ b → Refuses (typing c sc b) f → Refuses (typing c sc u) f
inner_breaks c sc seen params fault.Memory is opens same_args same_params typed amount same h = tt
inner_breaks c sc seen params (fault.Broken p r) is opens same_args same_params typed amount same h = rw (is, opens, same_args, same_params, typed, amount, same, h) refl

pub unfolded : (c : Context) (sc : VariableScope) {u : t.Term} {x : List ℕ} {args : t.Terms} {m : t.Amount} {a b : t.Term} {at name_at : Pos} {s : ℕ × Signature} {es : e.Exprs} {p : e.Expr} {y : Typing}
    (seen : t.Terms) (params : List Ty) →
    u ≡ t.Unfolding x args m a at name_at → opening c x at name_at ≡ Found s → args ≡ seen → s.1.params ≡ params →
    arguments c sc seen params name_at ≡ Found es → permission c sc m ≡ Found p → a ≡ b → typing c sc b ≡ Found y →
    typing c sc u ≡ Found (opened_typing c s.0 es p y name_at)
unfolded c sc seen params is opens same_args same_params typed amount same inner = rw (is, opens, same_args, same_params, typed, amount, same, inner) refl
