-- How a function of the code answers what is judged: the value, or the first broken rule, or the lack of memory.
use Rattle.std.specs.Prelude.{◌≡◌, ℕ, Result, Ok, Err, List, map}
use Rattle.std.proofs.Common.{Bor}
use Rattle.std.specs.declared.vec.Vec.{Vec}
use Rattle.std.specs.declared.alloc.Global.{Global}
use Rattle.std.specs.Option.{option_map}
use Rattle.vb_value.specs.declared.values.Ty.{Ty}
use Rattle.viper_core.specs.Expr as e
use Rattle.viper_core.specs.View.{expr_of, exprs_of, assertion_of}
use Rattle.viper_core.specs.declared.exprs.Expr.{Expr}
use Rattle.viper_scope.specs.declared.context.PredicateSignature.{PredicateSignature}
use Rattle.viper_scope.specs.declared.context.MethodTypes.{MethodTypes}
use Rattle.viper_scope.specs.declared.context.World as world
use Rattle.viper_scope.specs.declared.context.Context as context
use Rattle.viper_scope.specs.declared.context.UnitPart.{UnitPart}
use Rattle.viper_scope.specs.declared.rules.RuleFault.{RuleFault}
use Rattle.viper_scope.specs.declared.rules.RuleFault.TheVariants as fault
use Rattle.viper_scope.specs.Arguments.{Typing}
use Rattle.viper_scope.specs.Outcome.{Judged, Found, Broken}
use Rattle.viper_scope.specs.Context.{Signature, MethodSignature, World, Context}
use Rattle.viper_scope.specs.Scope.{VariableScope}

abbrev pub Refuses : {X : Type 0} → Judged X → RuleFault → Type 0
Refuses j fault.Memory = Unit {0}
Refuses j (fault.Broken p r) = j ≡ Broken p r

-- `seen` is what a contract sees of the value
abbrev pub Answers : {X Y : Type 0} → (Y → X) → Judged X → Result Y RuleFault → Type 0
Answers seen j (Ok y) = j ≡ Found (seen y)
Answers seen j (Err f) = Refuses j f

-- views

abbrev pub typing_of : Expr × Ty → e.Expr × Ty
typing_of x = (expr_of x.0, x.1)

abbrev pub signature_of : PredicateSignature → Signature
signature_of s = record { params = s.params.items; has_body = s.has_body }

abbrev pub method_signature_of : MethodTypes → MethodSignature
method_signature_of s = record { params = s.params.items; returns = s.returns.items }

abbrev pub typings_of : Vec (Expr × Ty) Global → List Typing
typings_of v = map typing_of v.items

abbrev pub argument_exprs_of : Vec Expr Global → e.Exprs
argument_exprs_of v = exprs_of v.items

abbrev pub numbered_signature_of : ℕ × Bor PredicateSignature → ℕ × Signature
numbered_signature_of s = (s.0, signature_of s.1.now)

abbrev pub numbered_method_of : ℕ × Bor MethodTypes → ℕ × MethodSignature
numbered_method_of s = (s.0, method_signature_of s.1.now)

abbrev pub world_of : world.World → World
world_of w = record {
  roles = w.roles;
  fields = w.fields.items;
  predicates = map signature_of w.predicates.items;
  methods = map method_signature_of w.methods.items;
}

abbrev pub context_of : context.Context → Context
context_of c = record {
  world = world_of c.world.now;
  bodies = map (option_map assertion_of) c.bodies.now;
  part = c.part;
}

-- a part of a unit, with a scope behind a reference
abbrev pub seen_of : UnitPart × Bor VariableScope → UnitPart × VariableScope
seen_of s = (s.0, s.1.now)
