-- From the statements of a formed program to their parts.
use Rattle.std.proofs.Common.{◌≡◌, ◌≤◌, ◌⊎◌, inl, inr, ℕ, List, [], ◌∷◌, None, Some, All, slice_get, length, arith}
use Rattle.vb_base.specs.Limits.{max_term_depth}
use Rattle.vb_base.specs.declared.places.Pos.{Pos}
use Rattle.vb_value.specs.declared.values.Ty.{Ty}
use Rattle.vb_value.specs.declared.values.Ty.TheVariants as ty
use Rattle.viper_core.specs.Depth.{fold_depth}
use Rattle.viper_core.specs.Expr as t
use Rattle.viper_core.specs.Part.{IsContext, IsPartExpr, ArePartExprs, IsPartAssertion, FoldParts, IsFrame, IsPartStmt, ArePartStmts}
use Rattle.viper_core.specs.Program.{Method}
use Rattle.viper_core.specs.Scope.{Scope, after_block, scope_after, stmts_scope, refs_in, loop_targets}
use Rattle.viper_core.specs.Stmt as s
use Rattle.viper_core.specs.Typing.{Context, HasType, HaveTypes, IsAssertion, MethodContext, inside, IsTarget, also, Receive, assigned, declared, AreFields, params_of, returns_of, IsFold, IsStmt, declares, initial, assigns, writes, creates, calls, inhales, exhales, asserts, folds, unfolds, branches, loops, AreStmts, goes_on}
use Rattle.viper_core.proofs.PartLaws.{body_part, clauses_parts, depth-amount}
use Rattle.viper_core.proofs.ScopeLaws.{fresh-scope_after, fresh-stmts_scope, numbered-after_block, numbered-scope_after}

-- ---- scopes

pub inside_context : {m : MethodContext} {sc : Scope} → IsFrame m sc → sc.fresh ≤ length m.vars → IsContext (inside m sc)
inside_context h le = record { program = h.program; visible = λ x seen. omega (arith, le, h.visible x seen); few = h.few }

pub stmt_context : {m : MethodContext} {sc : Scope} {a : s.Stmt} → IsPartStmt m sc a → IsContext (inside m sc)
stmt_context {m} {sc} {a} h = inside_context h.frame (omega (arith, h.numbered, fresh-scope_after sc a))

frame_after : {m : MethodContext} {sc : Scope} (a : s.Stmt) → IsFrame m sc → IsFrame m (scope_after sc a)
frame_after {m} {sc} a h = record {
  program = h.program;
  params = omega (arith, h.params, fresh-scope_after sc a);
  visible = numbered-scope_after sc a h.visible;
  few = h.few;
}

frame_after_block : {m : MethodContext} {sc : Scope} (block : s.Stmts) → IsFrame m sc → IsFrame m (after_block sc (stmts_scope sc block))
frame_after_block {m} {sc} block h = record {
  program = h.program;
  params = omega (arith, h.params, fresh-stmts_scope sc block);
  visible = numbered-after_block sc (stmts_scope sc block) (fresh-stmts_scope sc block) h.visible;
  few = h.few;
}

-- ---- statements in a row

first_typed : {m : MethodContext} {sc : Scope} {a : s.Stmt} {rest : s.Stmts} → AreStmts m sc (s.next a rest) → IsStmt m sc a
first_typed (goes_on h i) = h

rest_typed : {m : MethodContext} {sc : Scope} {a : s.Stmt} {rest : s.Stmts} → AreStmts m sc (s.next a rest) → AreStmts m (scope_after sc a) rest
rest_typed (goes_on h i) = i

pub first_part : {m : MethodContext} {sc : Scope} {a : s.Stmt} {rest : s.Stmts} → ArePartStmts m sc (s.next a rest) → IsPartStmt m sc a
first_part {m} {sc} {a} {rest} h = record {
  frame = h.frame;
  typed = first_typed h.typed;
  numbered = omega (arith, h.numbered, fresh-stmts_scope (scope_after sc a) rest);
  nested = omega (arith, h.nested);
  blocks = omega (arith, h.blocks);
}

pub rest_part : {m : MethodContext} {sc : Scope} {a : s.Stmt} {rest : s.Stmts} → ArePartStmts m sc (s.next a rest) → ArePartStmts m (scope_after sc a) rest
rest_part {m} {sc} {a} {rest} h = record {
  frame = frame_after a h.frame;
  typed = rest_typed h.typed;
  numbered = h.numbered;
  nested = omega (arith, h.nested);
  blocks = omega (arith, h.blocks);
}

-- ---- branches and loops

condition_typed : {m : MethodContext} {sc : Scope} {at : Pos} {e : t.Expr} {a b : s.Stmts} → IsStmt m sc (s.If at e a b) → HasType (inside m sc) e ty.Bool
condition_typed (branches h i j) = h

then_typed : {m : MethodContext} {sc : Scope} {at : Pos} {e : t.Expr} {a b : s.Stmts} → IsStmt m sc (s.If at e a b) → AreStmts m sc a
then_typed (branches h i j) = i

else_typed : {m : MethodContext} {sc : Scope} {at : Pos} {e : t.Expr} {a b : s.Stmts} → IsStmt m sc (s.If at e a b) → AreStmts m (after_block sc (stmts_scope sc a)) b
else_typed (branches h i j) = j

pub condition_part : {m : MethodContext} {sc : Scope} {at : Pos} {e : t.Expr} {a b : s.Stmts} → IsPartStmt m sc (s.If at e a b) → IsPartExpr (inside m sc) e ty.Bool
condition_part h = record { context = stmt_context h; typed = condition_typed h.typed; nested = omega (arith, h.nested) }

pub then_part : {m : MethodContext} {sc : Scope} {at : Pos} {e : t.Expr} {a b : s.Stmts} → IsPartStmt m sc (s.If at e a b) → ArePartStmts m sc a
then_part {m} {sc} {at} {e} {a} {b} h = record {
  frame = h.frame;
  typed = then_typed h.typed;
  numbered = omega (arith, h.numbered, fresh-stmts_scope (after_block sc (stmts_scope sc a)) b);
  nested = omega (arith, h.nested);
  blocks = omega (arith, h.blocks);
}

pub else_part : {m : MethodContext} {sc : Scope} {at : Pos} {e : t.Expr} {a b : s.Stmts} → IsPartStmt m sc (s.If at e a b) → ArePartStmts m (after_block sc (stmts_scope sc a)) b
else_part {m} {sc} {at} {e} {a} {b} h = record {
  frame = frame_after_block a h.frame;
  typed = else_typed h.typed;
  numbered = h.numbered;
  nested = omega (arith, h.nested);
  blocks = omega (arith, h.blocks);
}

guard_typed : {m : MethodContext} {sc : Scope} {at turn : Pos} {e : t.Expr} {is : List t.Assertion} {body : s.Stmts} {targets : List ℕ} → IsStmt m sc (s.While (s.loop at e is body turn targets)) → HasType (inside m sc) e ty.Bool
guard_typed (loops h i j k) = h

invariants_typed : {m : MethodContext} {sc : Scope} {at turn : Pos} {e : t.Expr} {is : List t.Assertion} {body : s.Stmts} {targets : List ℕ} → IsStmt m sc (s.While (s.loop at e is body turn targets)) → All (IsAssertion (inside m sc)) is
invariants_typed (loops h i j k) = i

body_typed : {m : MethodContext} {sc : Scope} {at turn : Pos} {e : t.Expr} {is : List t.Assertion} {body : s.Stmts} {targets : List ℕ} → IsStmt m sc (s.While (s.loop at e is body turn targets)) → AreStmts m sc body
body_typed (loops h i j k) = j

targets_listed : {m : MethodContext} {sc : Scope} {at turn : Pos} {e : t.Expr} {is : List t.Assertion} {body : s.Stmts} {targets : List ℕ} → IsStmt m sc (s.While (s.loop at e is body turn targets)) → targets ≡ loop_targets sc body
targets_listed (loops h i j k) = k

pub turn_targets : {m : MethodContext} {sc : Scope} {at turn : Pos} {e : t.Expr} {is : List t.Assertion} {body : s.Stmts} {targets : List ℕ} → IsPartStmt m sc (s.While (s.loop at e is body turn targets)) → targets ≡ loop_targets sc body
turn_targets h = targets_listed h.typed

pub guard_part : {m : MethodContext} {sc : Scope} {at turn : Pos} {e : t.Expr} {is : List t.Assertion} {body : s.Stmts} {targets : List ℕ} → IsPartStmt m sc (s.While (s.loop at e is body turn targets)) →
    IsPartExpr (inside m sc) e ty.Bool
guard_part h = record { context = stmt_context h; typed = guard_typed h.typed; nested = omega (arith, h.nested) }

pub invariants_parts : {m : MethodContext} {sc : Scope} {at turn : Pos} {e : t.Expr} {is : List t.Assertion} {body : s.Stmts} {targets : List ℕ} → IsPartStmt m sc (s.While (s.loop at e is body turn targets)) →
    All (IsPartAssertion (inside m sc)) is
invariants_parts {m} {sc} {is = is} h = clauses_parts (inside m sc) (stmt_context h) is (invariants_typed h.typed) (omega (arith, h.nested))

pub turn_part : {m : MethodContext} {sc : Scope} {at turn : Pos} {e : t.Expr} {is : List t.Assertion} {body : s.Stmts} {targets : List ℕ} → IsPartStmt m sc (s.While (s.loop at e is body turn targets)) → ArePartStmts m sc body
turn_part h = record {
  frame = h.frame;
  typed = body_typed h.typed;
  numbered = h.numbered;
  nested = omega (arith, h.nested);
  blocks = omega (arith, h.blocks);
}

-- ---- other statements

declared_typed : {m : MethodContext} {sc : Scope} {at : Pos} {x : ℕ} → IsStmt m sc (s.Var at x None) → (u : Ty) × (x ≡ sc.fresh) × (slice_get m.vars x ≡ Some u)
declared_typed (declares {u = u} is found) = (u, is, found)

pub declared_part : {m : MethodContext} {sc : Scope} {at : Pos} {x : ℕ} → IsPartStmt m sc (s.Var at x None) → (u : Ty) × (x ≡ sc.fresh) × (slice_get m.vars x ≡ Some u)
declared_part h = declared_typed h.typed

initial_typed : {m : MethodContext} {sc : Scope} {at : Pos} {x : ℕ} {e : t.Expr} → IsStmt m sc (s.Var at x (Some e)) →
    (u : Ty) × (x ≡ sc.fresh) × (slice_get m.vars x ≡ Some u) × HasType (inside m sc) e u
initial_typed (initial {u = u} is found h) = (u, is, found, h)

pub initial_part : {m : MethodContext} {sc : Scope} {at : Pos} {x : ℕ} {e : t.Expr} → IsPartStmt m sc (s.Var at x (Some e)) →
    (u : Ty) × (x ≡ sc.fresh) × (slice_get m.vars x ≡ Some u) × IsPartExpr (inside m sc) e u
initial_part {m} {sc} {at} {x} {e} h =
    let typed = initial_typed h.typed in
    let part : IsPartExpr (inside m sc) e typed.0 = record { context = stmt_context h; typed = typed.3; nested = h.nested } in
    (typed.0, typed.1, typed.2, part)

assigned_typed : {m : MethodContext} {sc : Scope} {at : Pos} {x : ℕ} {e : t.Expr} → IsStmt m sc (s.Assign at x e) → (u : Ty) × IsTarget m sc x u × HasType (inside m sc) e u
assigned_typed (assigns {u = u} target h) = (u, target, h)

pub assigned_part : {m : MethodContext} {sc : Scope} {at : Pos} {x : ℕ} {e : t.Expr} → IsPartStmt m sc (s.Assign at x e) → (u : Ty) × IsTarget m sc x u × IsPartExpr (inside m sc) e u
assigned_part {m} {sc} {at} {x} {e} h =
    let typed = assigned_typed h.typed in
    let part : IsPartExpr (inside m sc) e typed.0 = record { context = stmt_context h; typed = typed.2; nested = h.nested } in
    (typed.0, typed.1, part)

written_typed : {m : MethodContext} {sc : Scope} {at place : Pos} {a b : t.Expr} {f : ℕ} → IsStmt m sc (s.Write at a f place b) →
    (u : Ty) × (slice_get m.program.layout.fields f ≡ Some u) × HasType (inside m sc) a ty.Ref × HasType (inside m sc) b u
written_typed (writes {u = u} h found i) = (u, found, h, i)

pub written_parts : {m : MethodContext} {sc : Scope} {at place : Pos} {a b : t.Expr} {f : ℕ} → IsPartStmt m sc (s.Write at a f place b) →
    (u : Ty) × (slice_get m.program.layout.fields f ≡ Some u) × IsPartExpr (inside m sc) a ty.Ref × IsPartExpr (inside m sc) b u
written_parts {m} {sc} {at} {place} {a} {b} {f} h =
    let typed = written_typed h.typed in
    let receiver : IsPartExpr (inside m sc) a ty.Ref = record { context = stmt_context h; typed = typed.2; nested = omega (arith, h.nested) } in
    let value : IsPartExpr (inside m sc) b typed.0 = record { context = stmt_context h; typed = typed.3; nested = omega (arith, h.nested) } in
    (typed.0, typed.1, receiver, value)

-- what receives one value is a variable of its type that may be assigned, or the next one
one_received : {m : MethodContext} {sc : Scope} {x : ℕ} {u : Ty} → Receive m sc (x ∷ []) (u ∷ []) → (slice_get m.vars x ≡ Some u) × (IsTarget m sc x u ⊎ (x ≡ sc.fresh))
one_received (assigned (also target rest) differ) = (target.typed, inl target)
one_received (declared is found) = (found, inr is)

created_typed : {m : MethodContext} {sc : Scope} {at : Pos} {x : ℕ} {fields refs : List ℕ} → IsStmt m sc (s.New at x fields refs) →
    Receive m sc (x ∷ []) (ty.Ref ∷ []) × AreFields m.program fields × (refs ≡ refs_in m.vars sc)
created_typed (creates into fields is) = (into, fields, is)

pub created_part : {m : MethodContext} {sc : Scope} {at : Pos} {x : ℕ} {fields refs : List ℕ} → IsPartStmt m sc (s.New at x fields refs) →
    (slice_get m.vars x ≡ Some ty.Ref) × (IsTarget m sc x ty.Ref ⊎ (x ≡ sc.fresh)) × AreFields m.program fields × (refs ≡ refs_in m.vars sc)
created_part h =
    let typed = created_typed h.typed in
    let target = one_received typed.0 in
    (target.0, target.1, typed.1, typed.2)

called_typed : {m : MethodContext} {sc : Scope} {at : Pos} {xs : List ℕ} {k : ℕ} {es : t.Exprs} → IsStmt m sc (s.Call at xs k es) →
    (callee : Method) × (slice_get m.program.methods k ≡ Some callee) × HaveTypes (inside m sc) es (params_of callee) × Receive m sc xs (returns_of callee)
called_typed (calls callee exists args into) = (callee, exists, args, into)

pub called_parts : {m : MethodContext} {sc : Scope} {at : Pos} {xs : List ℕ} {k : ℕ} {es : t.Exprs} → IsPartStmt m sc (s.Call at xs k es) →
    (callee : Method) × (slice_get m.program.methods k ≡ Some callee) × ArePartExprs (inside m sc) es (params_of callee) × Receive m sc xs (returns_of callee)
called_parts {m} {sc} {at} {xs} {k} {es} h =
    let typed = called_typed h.typed in
    let arguments : ArePartExprs (inside m sc) es (params_of typed.0) = record { context = stmt_context h; typed = typed.2; nested = h.nested } in
    (typed.0, typed.1, arguments, typed.3)

inhaled_typed : {m : MethodContext} {sc : Scope} {at : Pos} {a : t.Assertion} → IsStmt m sc (s.Inhale at a) → IsAssertion (inside m sc) a
inhaled_typed (inhales h) = h

pub inhaled_part : {m : MethodContext} {sc : Scope} {at : Pos} {a : t.Assertion} → IsPartStmt m sc (s.Inhale at a) → IsPartAssertion (inside m sc) a
inhaled_part h = record { context = stmt_context h; typed = inhaled_typed h.typed; nested = h.nested }

exhaled_typed : {m : MethodContext} {sc : Scope} {at : Pos} {a : t.Assertion} → IsStmt m sc (s.Exhale at a) → IsAssertion (inside m sc) a
exhaled_typed (exhales h) = h

pub exhaled_part : {m : MethodContext} {sc : Scope} {at : Pos} {a : t.Assertion} → IsPartStmt m sc (s.Exhale at a) → IsPartAssertion (inside m sc) a
exhaled_part h = record { context = stmt_context h; typed = exhaled_typed h.typed; nested = h.nested }

asserted_typed : {m : MethodContext} {sc : Scope} {at : Pos} {a : t.Assertion} → IsStmt m sc (s.Assert at a) → IsAssertion (inside m sc) a
asserted_typed (asserts h) = h

pub asserted_part : {m : MethodContext} {sc : Scope} {at : Pos} {a : t.Assertion} → IsPartStmt m sc (s.Assert at a) → IsPartAssertion (inside m sc) a
asserted_part h = record { context = stmt_context h; typed = asserted_typed h.typed; nested = h.nested }

-- the instance of a `fold` or `unfold`, whose body stands in the context of its predicate

fold_parts : {c : Context} {f : s.FoldStmt} → IsContext c → IsFold c f → fold_depth f ≤ max_term_depth → FoldParts c f
fold_parts {c} {f} h typed nested = record {
  predicate = typed.predicate;
  body = typed.body;
  exists = typed.exists;
  has_body = typed.has_body;
  arguments = record { context = h; typed = typed.args; nested = omega (arith, nested) };
  amount = record { context = h; typed = typed.amount; nested = omega (arith, nested, depth-amount f.amount) };
  opened = body_part c.program h.program f.predicate typed.predicate typed.body typed.exists typed.has_body;
}

folded_typed : {m : MethodContext} {sc : Scope} {f : s.FoldStmt} → IsStmt m sc (s.Fold f) → IsFold (inside m sc) f
folded_typed (folds h) = h

pub folded_parts : {m : MethodContext} {sc : Scope} {f : s.FoldStmt} → IsPartStmt m sc (s.Fold f) → FoldParts (inside m sc) f
folded_parts h = fold_parts (stmt_context h) (folded_typed h.typed) h.nested

unfolded_typed : {m : MethodContext} {sc : Scope} {f : s.FoldStmt} → IsStmt m sc (s.Unfold f) → IsFold (inside m sc) f
unfolded_typed (unfolds h) = h

pub unfolded_parts : {m : MethodContext} {sc : Scope} {f : s.FoldStmt} → IsPartStmt m sc (s.Unfold f) → FoldParts (inside m sc) f
unfolded_parts h = fold_parts (stmt_context h) (unfolded_typed h.typed) h.nested
