-- From a formed program to its parts, and from a part to those in it.
use Rattle.std.proofs.Common.{◌≡◌, ◌∙◌, ◌≤◌, ◌+◌, ℕ, zero, suc, max, List, [], ◌∷◌, Option, Some, None, All, slice_get, get_or, length, ap, arith}
use Rattle.std.proofs.lemmas.Option.{slice_get-get_or}
use Rattle.vb_base.specs.Limits.{max_term_depth}
use Rattle.vb_base.specs.declared.places.Pos.{Pos}
use Rattle.vb_value.specs.declared.values.Ty.{Ty}
use Rattle.vb_value.specs.declared.values.Ty.TheVariants as ty
use Rattle.viper_core.specs.declared.exprs.Op.{Op}
use Rattle.viper_core.specs.Depth.{depth, depths, amount_depth, assertion_depth, assertion_depths}
use Rattle.viper_core.specs.Expr as t
use Rattle.viper_core.specs.Formed.{predicate_context, precondition_context, postcondition_context, method_frame, method_scope, variables_of, IsMethod, IsFormed}
use Rattle.viper_core.specs.Part.{IsContext, IsPartExpr, ArePartExprs, IsPartOpened, OpensParts, IsPartAmount, IsPartAssertion, IsFrame, ArePartStmts}
use Rattle.viper_core.specs.Program.{Program, Predicate, Method, Body}
use Rattle.viper_core.specs.Scope.{Scope, stmts_scope}
use Rattle.viper_core.specs.Typing.{value_type, Context, HasType, negative, negation, binary, choice, field, old, unfolded, HaveTypes, also, Opens, opens, IsAmount, amount, IsAssertion, fact, access, instance, both, implied, chosen}
use Rattle.viper_core.proofs.FormedLaws.{at_some, predicate_of_typed, method_of_typed, predicate_body_of_typed, method_body_of_typed}
use Rattle.viper_core.proofs.ScopeLaws.{fresh-stmts_scope}
use Rattle.viper_core.proofs.UnitLaws.{below-lt}

-- ---- contexts

pub predicate_has_context : (p : Program) → IsFormed p → (k : ℕ) (d : Predicate) → slice_get p.predicates k ≡ Some d → IsContext (predicate_context p d)
predicate_has_context p h k d exists = record {
  program = h;
  visible = below-lt (length d.params);
  few = (predicate_of_typed p h.typed k d exists).few;
}

pub at_least : (sc : Scope) (b : Option Body) → sc.fresh ≤ variables_of sc b
at_least sc None = omega arith
at_least sc (Some b) = fresh-stmts_scope sc b.stmts

formals_within : (p : Program) (m : Method) → IsMethod p m → m.params + m.returns ≤ length m.vars
formals_within p m h = omega (arith, h.variables, at_least (method_scope m) m.body)

pub precondition_has_context : (p : Program) → IsFormed p → (k : ℕ) (m : Method) → slice_get p.methods k ≡ Some m → IsContext (precondition_context p m)
precondition_has_context p h k m exists =
    let formed = method_of_typed p h.typed k m exists in
    record {
      program = h;
      visible = λ x seen. omega (arith, below-lt m.params x seen, formals_within p m formed);
      few = formed.few;
    }

pub postcondition_has_context : (p : Program) → IsFormed p → (k : ℕ) (m : Method) → slice_get p.methods k ≡ Some m → IsContext (postcondition_context p m)
postcondition_has_context p h k m exists =
    let formed = method_of_typed p h.typed k m exists in
    record {
      program = h;
      visible = λ x seen. omega (arith, below-lt (m.params + m.returns) x seen, formals_within p m formed);
      few = formed.few;
    }

pub method_has_frame : (p : Program) → IsFormed p → (k : ℕ) (m : Method) → slice_get p.methods k ≡ Some m → IsFrame (method_frame p m) (method_scope m)
method_has_frame p h k m exists = record {
  program = h;
  params = omega arith;
  visible = below-lt (m.params + m.returns);
  few = (method_of_typed p h.typed k m exists).few;
}

-- ---- from a formed program

pub body_part : (p : Program) → IsFormed p → (k : ℕ) (d : Predicate) (a : t.Assertion) → slice_get p.predicates k ≡ Some d → d.body ≡ Some a → IsPartAssertion (predicate_context p d) a
body_part p h k d a exists has_body = record {
  context = predicate_has_context p h k d exists;
  typed = predicate_body_of_typed p h.typed k d a exists has_body;
  nested = at_some (λ b. assertion_depth b ≤ max_term_depth) d.body (predicate_of_typed p h.typed k d exists).nested a has_body;
}

depth_among : (clauses : List t.Assertion) (i : ℕ) (a : t.Assertion) → slice_get clauses i ≡ Some a → assertion_depth a ≤ assertion_depths clauses
depth_among [] i a is = absurd (cc)
depth_among (b ∷ rest) zero a is = let same : b ≡ a = cc in omega (arith, ap assertion_depth same)
depth_among (b ∷ rest) (suc i) a is = omega (arith, depth_among rest i a is)

pub clauses_parts : (c : Context) → IsContext c → (clauses : List t.Assertion) → All (IsAssertion c) clauses → assertion_depths clauses ≤ max_term_depth → All (IsPartAssertion c) clauses
clauses_parts c h clauses typed nested i d within = record {
  context = h;
  typed = typed i d within;
  nested = omega (arith, nested, depth_among clauses i (get_or clauses i d) (slice_get-get_or clauses i d within));
}

pub preconditions_parts : (p : Program) → IsFormed p → (k : ℕ) (m : Method) → slice_get p.methods k ≡ Some m → All (IsPartAssertion (precondition_context p m)) m.preconditions
preconditions_parts p h k m exists =
    let formed = method_of_typed p h.typed k m exists in
    clauses_parts (precondition_context p m) (precondition_has_context p h k m exists) m.preconditions formed.preconditions (omega (arith, formed.nested))

pub postconditions_parts : (p : Program) → IsFormed p → (k : ℕ) (m : Method) → slice_get p.methods k ≡ Some m → All (IsPartAssertion (postcondition_context p m)) m.postconditions
postconditions_parts p h k m exists =
    let formed = method_of_typed p h.typed k m exists in
    clauses_parts (postcondition_context p m) (postcondition_has_context p h k m exists) m.postconditions formed.postconditions (omega (arith, formed.nested))

pub stmts_parts : (p : Program) → IsFormed p → (k : ℕ) (m : Method) (b : Body) → slice_get p.methods k ≡ Some m → m.body ≡ Some b → ArePartStmts (method_frame p m) (method_scope m) b.stmts
stmts_parts p h k m b exists has_body =
    let body = method_body_of_typed p h.typed k m b exists has_body in
    let all : length m.vars ≡ (stmts_scope (method_scope m) b.stmts).fresh =
    (method_of_typed p h.typed k m exists).variables ∙ ap (variables_of (method_scope m)) has_body in
    record {
      frame = method_has_frame p h k m exists;
      typed = body.stmts;
      numbered = omega (arith, all);
      nested = body.nested;
      blocks = body.blocks;
    }

-- ---- from an expression to its parts

neg_typed : {c : Context} {a : t.Expr} {u : Ty} → HasType c (t.Neg a) u → HasType c a u
neg_typed (negative h i) = h

pub neg_part : {c : Context} {a : t.Expr} {u : Ty} → IsPartExpr c (t.Neg a) u → IsPartExpr c a u
neg_part h = record { context = h.context; typed = neg_typed h.typed; nested = omega (arith, h.nested) }

not_typed : {c : Context} {a : t.Expr} {u : Ty} → HasType c (t.Not a) u → HasType c a ty.Bool
not_typed (negation h) = h

pub not_part : {c : Context} {a : t.Expr} {u : Ty} → IsPartExpr c (t.Not a) u → IsPartExpr c a ty.Bool
not_part h = record { context = h.context; typed = not_typed h.typed; nested = omega (arith, h.nested) }

bin_typed : {c : Context} {o : Op} {a b : t.Expr} {at : Pos} {u : Ty} → HasType c (t.Bin o a b at) u →
    (left : Ty) × (right : Ty) × HasType c a left × HasType c b right × (value_type o left right ≡ Some u)
bin_typed (binary {left = left} {right = right} h i is) = (left, right, h, i, is)

pub bin_parts : {c : Context} {o : Op} {a b : t.Expr} {at : Pos} {u : Ty} → IsPartExpr c (t.Bin o a b at) u →
    (left : Ty) × (right : Ty) × IsPartExpr c a left × IsPartExpr c b right × (value_type o left right ≡ Some u)
bin_parts {c} {o} {a} {b} {at} {u} h =
    let typed = bin_typed h.typed in
    let first : IsPartExpr c a typed.0 = record { context = h.context; typed = typed.2; nested = omega (arith, h.nested) } in
    let second : IsPartExpr c b typed.1 = record { context = h.context; typed = typed.3; nested = omega (arith, h.nested) } in
    (typed.0, typed.1, first, second, typed.4)

choose_typed : {c : Context} {a b d : t.Expr} {u : Ty} → HasType c (t.Choose a b d) u → HasType c a ty.Bool × HasType c b u × HasType c d u
choose_typed (choice h i j) = (h, i, j)

pub choose_parts : {c : Context} {a b d : t.Expr} {u : Ty} → IsPartExpr c (t.Choose a b d) u → IsPartExpr c a ty.Bool × IsPartExpr c b u × IsPartExpr c d u
choose_parts {c} {a} {b} {d} {u} h =
    let typed = choose_typed h.typed in
    let condition : IsPartExpr c a ty.Bool = record { context = h.context; typed = typed.0; nested = omega (arith, h.nested) } in
    let first : IsPartExpr c b u = record { context = h.context; typed = typed.1; nested = omega (arith, h.nested) } in
    let second : IsPartExpr c d u = record { context = h.context; typed = typed.2; nested = omega (arith, h.nested) } in
    (condition, first, second)

field_typed : {c : Context} {a : t.Expr} {f : ℕ} {at : Pos} {u : Ty} → HasType c (t.Field a f at) u → (slice_get c.program.layout.fields f ≡ Some u) × HasType c a ty.Ref
field_typed (field h is) = (is, h)

pub field_part : {c : Context} {a : t.Expr} {f : ℕ} {at : Pos} {u : Ty} → IsPartExpr c (t.Field a f at) u → (slice_get c.program.layout.fields f ≡ Some u) × IsPartExpr c a ty.Ref
field_part {c} {a} {f} {at} {u} h =
    let typed = field_typed h.typed in
    let receiver : IsPartExpr c a ty.Ref = record { context = h.context; typed = typed.1; nested = omega (arith, h.nested) } in
    (typed.0, receiver)

old_typed : {c : Context} {a : t.Expr} {u : Ty} → HasType c (t.Old a) u → HasType c a u
old_typed (old z h) = h

pub old_part : {c : Context} {a : t.Expr} {u : Ty} → IsPartExpr c (t.Old a) u → IsPartExpr c a u
old_part h = record { context = h.context; typed = old_typed h.typed; nested = omega (arith, h.nested) }

unfolding_typed : {c : Context} {o : t.Opened} {u : Ty} → HasType c (t.Unfolding o) u → Opens c o u
unfolding_typed (unfolded z h) = h

pub unfolding_part : {c : Context} {o : t.Opened} {u : Ty} → IsPartExpr c (t.Unfolding o) u → IsPartOpened c o u
unfolding_part h = record { context = h.context; typed = unfolding_typed h.typed; nested = h.nested }

more_typed : {c : Context} {a : t.Expr} {rest : t.Exprs} {u : Ty} {us : List Ty} → HaveTypes c (t.more a rest) (u ∷ us) → HasType c a u × HaveTypes c rest us
more_typed (also h i) = (h, i)

pub more_parts : {c : Context} {a : t.Expr} {rest : t.Exprs} {u : Ty} {us : List Ty} → ArePartExprs c (t.more a rest) (u ∷ us) → IsPartExpr c a u × ArePartExprs c rest us
more_parts {c} {a} {rest} {u} {us} h =
    let typed = more_typed h.typed in
    let first : IsPartExpr c a u = record { context = h.context; typed = typed.0; nested = omega (arith, h.nested) } in
    let others : ArePartExprs c rest us = record { context = h.context; typed = typed.1; nested = omega (arith, h.nested) } in
    (first, others)

-- what is opened is the body of its predicate

opens_parts : {c : Context} {k : ℕ} {es : t.Exprs} {m : t.Expr} {a : t.Assertion} {e : t.Expr} {at : Pos} {u : Ty} → IsContext c → Opens c (t.opened k es m a e at) u →
    1 + max (depths es) (max (depth m) (depth e)) ≤ max_term_depth → OpensParts c k es m a e u
opens_parts {c} {k} {es} {m} {a} {e} {at} {u} z (opens d exists has_body args m_typed inner) nested = record {
  predicate = d;
  exists = exists;
  has_body = has_body;
  arguments = record { context = z; typed = args; nested = omega (arith, nested) };
  amount = record { context = z; typed = m_typed; nested = omega (arith, nested) };
  body = body_part c.program z.program k d a exists has_body;
  inner = record { context = z; typed = inner; nested = omega (arith, nested) };
}

pub opened_parts : {c : Context} {k : ℕ} {es : t.Exprs} {m : t.Expr} {a : t.Assertion} {e : t.Expr} {at : Pos} {u : Ty} → IsPartOpened c (t.opened k es m a e at) u → OpensParts c k es m a e u
opened_parts h = opens_parts h.context h.typed h.nested

-- ---- from an assertion to its parts

-- an amount that was left out adds no level, and is a level by itself
pub depth-amount : (e : t.Expr) → depth e ≤ max 1 (amount_depth e)
depth-amount (t.Part q) = omega arith
depth-amount (t.Var x) = omega arith
depth-amount (t.Int n) = omega arith
depth-amount (t.Bool b) = omega arith
depth-amount t.Null = omega arith
depth-amount (t.Neg a) = omega arith
depth-amount (t.Not a) = omega arith
depth-amount (t.Bin o a b at) = omega arith
depth-amount (t.Choose a b d) = omega arith
depth-amount (t.Field a f at) = omega arith
depth-amount (t.Old a) = omega arith
depth-amount (t.Unfolding o) = omega arith

amount_typed : {c : Context} {e : t.Expr} → IsAmount c (t.Is e) → HasType c e ty.Perm
amount_typed (amount h) = h

pub amount_part : {c : Context} {e : t.Expr} → IsPartAmount c (t.Is e) → IsPartExpr c e ty.Perm
amount_part {c} {e} h = record { context = h.context; typed = amount_typed h.typed; nested = omega (arith, h.nested, depth-amount e) }

fact_typed : {c : Context} {e : t.Expr} {at : Pos} → IsAssertion c (t.Fact e at) → HasType c e ty.Bool
fact_typed (fact h) = h

pub fact_part : {c : Context} {e : t.Expr} {at : Pos} → IsPartAssertion c (t.Fact e at) → IsPartExpr c e ty.Bool
fact_part h = record { context = h.context; typed = fact_typed h.typed; nested = h.nested }

acc_typed : {c : Context} {e : t.Expr} {f : ℕ} {m : t.Amt} {at : Pos} → IsAssertion c (t.Acc e f m at) →
    (u : Ty) × (slice_get c.program.layout.fields f ≡ Some u) × HasType c e ty.Ref × IsAmount c m
acc_typed (access {u = u} h is m) = (u, is, h, m)

pub acc_parts : {c : Context} {e : t.Expr} {f : ℕ} {m : t.Amt} {at : Pos} → IsPartAssertion c (t.Acc e f m at) →
    (u : Ty) × (slice_get c.program.layout.fields f ≡ Some u) × IsPartExpr c e ty.Ref × IsPartAmount c m
acc_parts {c} {e} {f} {m} {at} h =
    let typed = acc_typed h.typed in
    let receiver : IsPartExpr c e ty.Ref = record { context = h.context; typed = typed.2; nested = omega (arith, h.nested) } in
    let amount : IsPartAmount c m = record { context = h.context; typed = typed.3; nested = omega (arith, h.nested) } in
    (typed.0, typed.1, receiver, amount)

inst_typed : {c : Context} {k : ℕ} {es : t.Exprs} {m : t.Amt} {at : Pos} → IsAssertion c (t.Inst k es m at) →
    (d : Predicate) × (slice_get c.program.predicates k ≡ Some d) × HaveTypes c es d.params × IsAmount c m
inst_typed (instance d exists args m) = (d, exists, args, m)

pub inst_parts : {c : Context} {k : ℕ} {es : t.Exprs} {m : t.Amt} {at : Pos} → IsPartAssertion c (t.Inst k es m at) →
    (d : Predicate) × (slice_get c.program.predicates k ≡ Some d) × ArePartExprs c es d.params × IsPartAmount c m
inst_parts {c} {k} {es} {m} {at} h =
    let typed = inst_typed h.typed in
    let arguments : ArePartExprs c es (typed.0).params = record { context = h.context; typed = typed.2; nested = omega (arith, h.nested) } in
    let amount : IsPartAmount c m = record { context = h.context; typed = typed.3; nested = omega (arith, h.nested) } in
    (typed.0, typed.1, arguments, amount)

and_typed : {c : Context} {a b : t.Assertion} → IsAssertion c (t.And a b) → IsAssertion c a × IsAssertion c b
and_typed (both h i) = (h, i)

pub and_parts : {c : Context} {a b : t.Assertion} → IsPartAssertion c (t.And a b) → IsPartAssertion c a × IsPartAssertion c b
and_parts {c} {a} {b} h =
    let typed = and_typed h.typed in
    let first : IsPartAssertion c a = record { context = h.context; typed = typed.0; nested = omega (arith, h.nested) } in
    let second : IsPartAssertion c b = record { context = h.context; typed = typed.1; nested = omega (arith, h.nested) } in
    (first, second)

implies_typed : {c : Context} {e : t.Expr} {a : t.Assertion} → IsAssertion c (t.Implies e a) → HasType c e ty.Bool × IsAssertion c a
implies_typed (implied h i) = (h, i)

pub implies_parts : {c : Context} {e : t.Expr} {a : t.Assertion} → IsPartAssertion c (t.Implies e a) → IsPartExpr c e ty.Bool × IsPartAssertion c a
implies_parts {c} {e} {a} h =
    let typed = implies_typed h.typed in
    let condition : IsPartExpr c e ty.Bool = record { context = h.context; typed = typed.0; nested = omega (arith, h.nested) } in
    let side : IsPartAssertion c a = record { context = h.context; typed = typed.1; nested = omega (arith, h.nested) } in
    (condition, side)

choice_typed : {c : Context} {e : t.Expr} {a b : t.Assertion} → IsAssertion c (t.ChooseAssertion e a b) → HasType c e ty.Bool × IsAssertion c a × IsAssertion c b
choice_typed (chosen h i j) = (h, i, j)

pub choice_parts : {c : Context} {e : t.Expr} {a b : t.Assertion} → IsPartAssertion c (t.ChooseAssertion e a b) →
    IsPartExpr c e ty.Bool × IsPartAssertion c a × IsPartAssertion c b
choice_parts {c} {e} {a} {b} h =
    let typed = choice_typed h.typed in
    let condition : IsPartExpr c e ty.Bool = record { context = h.context; typed = typed.0; nested = omega (arith, h.nested) } in
    let first : IsPartAssertion c a = record { context = h.context; typed = typed.1; nested = omega (arith, h.nested) } in
    let second : IsPartAssertion c b = record { context = h.context; typed = typed.2; nested = omega (arith, h.nested) } in
    (condition, first, second)
