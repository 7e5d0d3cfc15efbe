use Rattle.std.proofs.Common.{◌≡◌, ◌∙◌, ap, sym, refl, ℕ, List, Some}
use Rattle.vb_base.specs.declared.places.Pos.{Pos}
use Rattle.vb_value.specs.declared.values.Ty.{Ty}
use Rattle.viper_core.specs.Expr as e
use Rattle.viper_core.proofs.ViewLaws.{assertion_of-Inst}
use Rattle.viper_syntax.specs.Term as t
use Rattle.viper_syntax.specs.View.{terms_of}
use Rattle.viper_scope.specs.Answers.{context_of}
use Rattle.viper_types.specs.Answers.{lent_amount_of}
use Rattle.viper_scope.specs.Context.{Context, Signature, predicate_at}
use Rattle.viper_scope.specs.Outcome.{Found}
use Rattle.viper_scope.specs.Scope.{VariableScope}
use Rattle.viper_types.specs.Typing.{arguments, amount, instance}
use Rattle.viper_types.proofs.assertions.instance.Goals as goal

instanced : (c : Context) (sc : VariableScope) (x : List ℕ) (args : t.Terms) (m : t.Amount) (at : Pos) (params : List Ty) {s : ℕ × Signature} {es : e.Exprs} {p : e.Amt} →
    Some s ≡ predicate_at c.world x → s.1.params ≡ params → arguments c sc args params at ≡ Found es → amount c sc m ≡ Found p →
    instance c sc x args m at ≡ Found (e.Inst s.0 es p at)
instanced c sc x args m at params is same typed share = rw (← is, same, typed, share) refl

pub returns : goal.returns
returns c =
    instanced (context_of c.args.context.now) c.args.scope.now c.args.name.now (terms_of c.args.args.now) (lent_amount_of c.args.share) c.args.at c.deref.result.now
    c.in-Some.ensures (sym c.deref.ensures.value) c.in_ok-args.ensures c.in_ok-share.ensures ∙
    ap Found (sym (assertion_of-Inst c.in-Some.predicate c.in_ok-args.args c.in_ok-share.share c.args.at))
