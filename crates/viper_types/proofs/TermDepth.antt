-- An expression or assertion is nested no deeper than the term that it is.
use Rattle.std.proofs.Common.{◌≡◌, ℕ, ◌+◌, ◌≤◌, max, List, Some, subst, arith}
use Rattle.std.proofs.lemmas.Option.{same_Some}
use Rattle.vb_value.specs.declared.values.Ty.{Ty}
use Rattle.viper_core.specs.Expr as e
use Rattle.viper_core.specs.Depth as g
use Rattle.viper_syntax.specs.Term as t
use Rattle.viper_syntax.specs.declared.tokens.Word.{Word}
use Rattle.viper_syntax.specs.declared.tokens.Word.TheVariants as word
use Rattle.viper_scope.specs.Context.{Context}
use Rattle.viper_types.specs.Operators.{literal}
use Rattle.viper_syntax.specs.Good.{depth, amount_depth, terms_depth}
use Rattle.viper_scope.specs.Scope.{VariableScope}
use Rattle.viper_types.specs.Typed as r
use Rattle.viper_types.specs.Typed.{Typed, TypedAll, Permission, IsAmount, IsInstance, Asserts}

literal_depth : (w : Word) (x : e.Expr × Ty) → literal w ≡ Some x → g.depth x.0 ≤ 1
literal_depth word.True x h = subst (λ z. g.depth z.0 ≤ 1) (same_Some _ _ h) (omega arith)
literal_depth word.False x h = subst (λ z. g.depth z.0 ≤ 1) (same_Some _ _ h) (omega arith)
literal_depth word.Null x h = subst (λ z. g.depth z.0 ≤ 1) (same_Some _ _ h) (omega arith)
literal_depth word.Write x h = subst (λ z. g.depth z.0 ≤ 1) (same_Some _ _ h) (omega arith)
literal_depth word.None x h = subst (λ z. g.depth z.0 ≤ 1) (same_Some _ _ h) (omega arith)
literal_depth _ x h = absurd (cc)

-- an amount that was left out is no deeper than any term
positive : (a : t.Term) → 1 ≤ depth a
positive (t.Name x at) = omega arith
positive (t.Number n at) = omega arith
positive (t.Constant w at) = omega arith
positive (t.Unary o a at) = omega arith
positive (t.Binary o a b at) = omega arith
positive (t.Choose a b c at) = omega arith
positive (t.Field a f at) = omega arith
positive (t.Old a at) = omega arith
positive (t.Acc a m at) = omega arith
positive (t.Inst x es at) = omega arith
positive (t.Unfolding x es m a at name_at) = omega arith

amount_is_shallow : (x : e.Expr) → g.amount_depth x ≤ g.depth x
amount_is_shallow (e.Part q) = omega arith
amount_is_shallow _ = omega arith

mutual
  pub expr_depth : {k : Context} {sc : VariableScope} {a : t.Term} {x : e.Expr} {u : Ty} → Typed k sc a x u → g.depth x ≤ depth a
  expr_depth (r.name i) = omega arith
  expr_depth r.number = omega arith
  expr_depth (r.constant {w = w} {a = a} {u = u} i) = literal_depth w (a, u) i
  expr_depth (r.negative h i) = omega (arith, expr_depth h)
  expr_depth (r.negation h) = omega (arith, expr_depth h)
  expr_depth (r.binary h h' i is) = omega (arith, expr_depth h, expr_depth h')
  expr_depth (r.choice h h' h2) = omega (arith, expr_depth h, expr_depth h', expr_depth h2)
  expr_depth (r.field h i) = omega (arith, expr_depth h)
  expr_depth (r.old i h) = omega (arith, expr_depth h)
  expr_depth (r.unfolding_in {a = a} allowed i has_body args m there inner) =
      omega (arith, exprs_depth args, permission_depth m, expr_depth inner, positive a)

  pub exprs_depth : {k : Context} {sc : VariableScope} {args : t.Terms} {es : e.Exprs} {us : List Ty} → TypedAll k sc args es us → g.depths es ≤ terms_depth args
  exprs_depth r.nothing = omega arith
  exprs_depth (r.also h hs) = omega (arith, expr_depth h, exprs_depth hs)

  permission_depth : {k : Context} {sc : VariableScope} {m : t.Amount} {x : e.Expr} → Permission k sc m x → g.depth x ≤ max 1 (amount_depth m)
  permission_depth r.full = omega arith
  permission_depth (r.part h) = omega (arith, expr_depth h)

-- an amount that was left out adds no level
pub permission_amount_depth : {k : Context} {sc : VariableScope} {m : t.Amount} {x : e.Expr} → Permission k sc m x → g.amount_depth x ≤ amount_depth m
permission_amount_depth r.full = omega arith
permission_amount_depth (r.part {x = x} h) = omega (arith, amount_is_shallow x, expr_depth h)

amt_depth : {k : Context} {sc : VariableScope} {m : t.Amount} {x : e.Amt} → IsAmount k sc m x → g.amt_depth x ≤ amount_depth m
amt_depth (r.fixed h) = permission_amount_depth h
amt_depth (r.wildcard i) = omega arith

instance_depth : {k : Context} {sc : VariableScope} {x : List ℕ} {args : t.Terms} {m : t.Amount} {at : _} {y : e.Assertion} → IsInstance k sc x args m at y →
    g.assertion_depth y ≤ 1 + max (terms_depth args) (amount_depth m)
instance_depth (r.of_predicate i args m) = omega (arith, exprs_depth args, amt_depth m)

pub assertion_depth : {k : Context} {sc : VariableScope} {a : t.Term} {x : e.Assertion} → Asserts k sc a x → g.assertion_depth x ≤ depth a
assertion_depth (r.fact i h) = expr_depth h
assertion_depth (r.and h h') = omega (arith, assertion_depth h, assertion_depth h')
assertion_depth (r.implies h h') = omega (arith, expr_depth h, assertion_depth h')
assertion_depth (r.choice h h' h2) = omega (arith, expr_depth h, assertion_depth h', assertion_depth h2)
assertion_depth (r.access h i m) = omega (arith, expr_depth h, amt_depth m)
assertion_depth (r.instance h) = omega (arith, instance_depth h)
assertion_depth (r.access_to_instance h) = omega (arith, instance_depth h)
