-- What statements copy is part of what they weigh: what the walk finds of a statement weighs no less than what was counted in it.
use Rattle.std.proofs.Common.{◌≡◌, ap, subst, ℕ, ◌+◌, ◌≤◌, Bool, true, false, cond, Option, Some, None, List, [], ◌∷◌, length, if◌then◌else◌, nat_le, nat_lt, arith, length-append}
use Rattle.std.specs.List.{range_with_len}
use Rattle.std.proofs.lemmas.List.FromFn.{length-range_with_len}
use Rattle.vb_base.specs.Limits.{max_block_depth, too_heavy}
use Rattle.vb_base.specs.declared.places.Pos.{Pos}
use Rattle.vb_value.specs.Value.{same_type}
use Rattle.vb_value.specs.declared.values.Ty.{Ty}
use Rattle.vb_value.specs.declared.values.Ty.TheVariants as ty
use Rattle.viper_core.specs.Stmt as core
use Rattle.viper_core.specs.Program as p
use Rattle.viper_core.specs.Size.{size, sizes, assertion_sizes}
use Rattle.viper_core.specs.Weight.{base_of, stmt_weight, stmts_weight, fold_weight}
use Rattle.viper_syntax.specs.Term as t
use Rattle.viper_syntax.specs.Stmt as s
use Rattle.viper_syntax.specs.declared.stmts.Named.{Named}
use Rattle.viper_syntax.specs.declared.stmts.Formal.{Formal}
use Rattle.viper_syntax.specs.declared.tokens.Word.{Word}
use Rattle.viper_syntax.specs.declared.tokens.Word.TheVariants as word
use Rattle.viper_scope.specs.declared.rules.Rule.TheVariants as rule
use Rattle.viper_scope.specs.declared.context.Variable.{Variable}
use Rattle.viper_scope.specs.Outcome.{Judged, Found, known}
use Rattle.viper_scope.specs.Context.{World, Context, method_at, nowhere}
use Rattle.viper_types.specs.Copied as k
use Rattle.viper_types.specs.Copied.{copied, copied_amount, copied_all, with_formal, copied_by_new, copied_by_rhs, copied_by_init, copied_by_terms, copied_by_fold, refs_after, copied_by, copied_by_block, copied_by_stmts, copied_by_arms, copied_by_arm, copied_by_else}
use Rattle.viper_scope.specs.Scope.{VariableScope, ref_variables}
use Rattle.viper_scope.specs.Arguments.{as_many, misfit}
use Rattle.viper_types.specs.Typing.{with_body, typing_all, permission, expected, arguments, asserting}
use Rattle.viper_scope.specs.Types.{declared_type}
use Rattle.viper_types.specs.Frame.{MethodVariables, declared_in_arms, declared_in_arm, frame_after, with_variable, with_hidden}
use Rattle.viper_types.specs.Stepping.{AssignedVariable, Branch, fresh, target, ref_target, call_targets, mistarget, new_fields, calling, calling_into_field, creating, target_place, declaring, setting, first_place, checking, folding, asserting_all, alone, nested, arm_count, stepping, blocking, stepping_all, branches, branch, otherwise}
use Rattle.viper_types.proofs.CopiedTerms.{any_told, typings_size, size_in, CoversExpr, CoversAssertion, typing_all_covers, expected_covers, arguments_covers, permission_covers, asserting_covers}
use Rattle.viper_scope.proofs.ScopeLaws.{refs_append}
use Rattle.viper_types.proofs.Tells.{Tells, tells, broken, tell_then, tell_so, tell_known, tell_obeys, tell_clear}

-- a program in which each part counts what was counted with
abbrev pub CountsAs : p.Program → World → Type 0
CountsAs q w = k.base_of w ≡ base_of q

-- ---- the Ref variables in scope

one_ref : (is_ref few : Bool) (n refs m : ℕ) → refs ≤ m → (if is_ref then (if few then refs + 1 else refs) else refs) ≤ m + length (cond is_ref (n ∷ []) [])
one_ref true true n refs m h = omega (arith, h)
one_ref true false n refs m h = omega (arith, h)
one_ref false few n refs m h = omega (arith, h)

pub variable_refs : (fr : MethodVariables) (f : Formal) (is_parameter : Bool) (refs : ℕ) → refs ≤ length (ref_variables fr.scope) →
    with_formal refs f ≤ length (ref_variables (with_variable fr f.name.name (declared_type f) is_parameter).scope)
variable_refs fr f is_parameter refs h =
    let v : Variable = record { number = length fr.vars; ty = declared_type f; is_parameter = is_parameter } in
    let more = cond (same_type (declared_type f) ty.Ref) (length fr.vars ∷ []) [] in
    omega (
      arith,
      one_ref (same_type (declared_type f) ty.Ref) (nat_lt refs too_heavy) (length fr.vars) refs (length (ref_variables fr.scope)) h,
      ap (λ ns. length ns) (refs_append fr.scope ((f.name.name, v) ∷ [])),
      length-append (ref_variables fr.scope) more,
    )

after_refs : (fr : MethodVariables) (a : s.SStmt) (refs : ℕ) → refs ≤ length (ref_variables fr.scope) → refs_after refs a ≤ length (ref_variables (frame_after fr a).scope)
after_refs fr (s.Var at f rhs) refs h = variable_refs fr f false refs h
after_refs fr (s.Assign xs rhs) refs h = h
after_refs fr (s.CallTo xs call) refs h = h
after_refs fr (s.Call call) refs h = h
after_refs fr (s.Check w at a) refs h = h
after_refs fr (s.Fold f) refs h = h
after_refs fr (s.Unfold f) refs h = h
after_refs fr (s.If arms other) refs h = h
after_refs fr (s.While at a is b) refs h = h

-- ---- terms, counted as the program counts

expected_weighs : (q : p.Program) (c : Context) → CountsAs q c.world → (sc : VariableScope) (u : Ty) (a : t.Term) →
    Tells (CoversExpr (base_of q) (copied c.world c.bodies a)) (expected c sc u a)
expected_weighs q c is sc u a = subst (λ b. Tells (CoversExpr b (copied c.world c.bodies a)) (expected c sc u a)) is (expected_covers c sc u a)

pub asserting_weighs : (q : p.Program) (c : Context) → CountsAs q c.world → (sc : VariableScope) (a : t.Term) →
    Tells (CoversAssertion (base_of q) (copied c.world c.bodies a)) (asserting c sc a)
asserting_weighs q c is sc a = subst (λ b. Tells (CoversAssertion b (copied c.world c.bodies a)) (asserting c sc a)) is (asserting_covers c sc a)

typing_all_weighs : (q : p.Program) (c : Context) → CountsAs q c.world → (sc : VariableScope) (args : t.Terms) →
    Tells (λ xs. copied_all c.world c.bodies args ≤ typings_size (base_of q) xs) (typing_all c sc args)
typing_all_weighs q c is sc args = subst (λ b. Tells (λ xs. copied_all c.world c.bodies args ≤ typings_size b xs) (typing_all c sc args)) is (typing_all_covers c sc args)

arguments_weigh : (q : p.Program) (c : Context) → CountsAs q c.world → (sc : VariableScope) (args : t.Terms) (us : List Ty) (at : Pos) →
    Tells (λ es. copied_all c.world c.bodies args ≤ sizes (base_of q) es) (arguments c sc args us at)
arguments_weigh q c is sc args us at = subst (λ b. Tells (λ es. copied_all c.world c.bodies args ≤ sizes b es) (arguments c sc args us at)) is (arguments_covers c sc args us at)

permission_weighs : (q : p.Program) (c : Context) → CountsAs q c.world → (sc : VariableScope) (m : t.Amount) →
    Tells (CoversExpr (base_of q) (copied_amount c.world c.bodies m)) (permission c sc m)
permission_weighs q c is sc m = subst (λ b. Tells (CoversExpr b (copied_amount c.world c.bodies m)) (permission c sc m)) is (permission_covers c sc m)

-- ---- statements that hold no block

calling_weighs : (q : p.Program) (c : Context) → CountsAs q c.world → (sc : VariableScope) (at : Pos) (vs : List AssignedVariable) (call : s.SCall) →
    Tells (λ x. copied_all c.world c.bodies (t.terms call.args) ≤ stmt_weight q x) (calling c sc at vs call)
calling_weighs q c is sc at vs call =
    tell_known (method_at c.world call.name.name) call.name.pos rule.UnknownName (λ m i. tell_then (typing_all_weighs q c is sc (t.terms call.args)) (λ xs h.
    tell_obeys (as_many xs m.1.params) call.name.pos rule.ArgumentCount (λ i1. tell_obeys (as_many vs m.1.returns) call.name.pos rule.TargetCount (λ i2.
    tell_clear (mistarget vs m.1.returns) rule.WrongType (λ i3. tell_clear (misfit (t.terms call.args) xs m.1.params) rule.WrongType (λ i4. tells (omega (arith, h, size_in (base_of q) xs))))))))

calling_into_field_told : (c : Context) (sc : VariableScope) (call : s.SCall) {P : core.Stmt → Type 0} → Tells P (calling_into_field c sc call)
calling_into_field_told c sc call =
    tell_known (method_at c.world call.name.name) call.name.pos rule.UnknownName (λ m i. tell_then (any_told (typing_all c sc (t.terms call.args))) (λ xs h.
    tell_obeys (as_many xs m.1.params) call.name.pos rule.ArgumentCount (λ i1. broken)))

fields_listed : (b : Bool) (n : ℕ) (i : Judged (List ℕ)) → Tells (λ ns. (if b then n else 0) ≤ length ns) (if b then Found (range_with_len 0 n) else i)
fields_listed true n i = tells (omega (arith, length-range_with_len 0 n))
fields_listed false n i = tell_so (any_told i) (λ ns h. omega arith)

creating_weighs : (q : p.Program) (w : World) (sc : VariableScope) (at : Pos) (n refs : ℕ) (new : s.SNew) → refs ≤ length (ref_variables sc) →
    Tells (λ x. copied_by_new w refs new ≤ stmt_weight q x) (creating true w sc at n new)
creating_weighs q w sc at n refs new r =
    tell_then (fields_listed new.every (length w.fields) (new_fields w [] new.fields)) (λ ns h. tells (omega (arith, h, r)))

declaring_weighs : (q : p.Program) (c : Context) → CountsAs q c.world → (fr : MethodVariables) (at : Pos) (v : AssignedVariable) (refs : ℕ) (rhs : Option s.SRhs) → refs ≤ length (ref_variables fr.scope) →
    Tells (λ x. copied_by_init c.world c.bodies refs rhs ≤ stmt_weight q x) (declaring true c fr at v rhs)
declaring_weighs q c is fr at v refs None r = tells (omega arith)
declaring_weighs q c is fr at v refs (Some (s.TermRhs a)) r = tell_then (expected_weighs q c is fr.scope v.ty a) (λ x h. tells (omega (arith, h)))
declaring_weighs q c is fr at v refs (Some (s.CallRhs call)) r = calling_weighs q c is fr.scope at (v ∷ []) call
declaring_weighs q c is fr at v refs (Some (s.NewRhs new)) r =
    tell_obeys (same_type v.ty ty.Ref) v.at rule.WrongType (λ i. creating_weighs q c.world fr.scope at v.number refs new r)

setting_weighs : (q : p.Program) (c : Context) → CountsAs q c.world → (sc : VariableScope) (refs : ℕ) (xs : List Named) (rhs : s.SRhs) → refs ≤ length (ref_variables sc) →
    Tells (λ x. copied_by_rhs c.world c.bodies refs rhs ≤ stmt_weight q x) (setting true c sc xs rhs)
setting_weighs q c is sc refs [] rhs r = broken
setting_weighs q c is sc refs (x ∷ []) (s.TermRhs a) r =
    tell_then (any_told (target sc x)) (λ v i. tell_then (expected_weighs q c is sc v.ty a) (λ y h. tells (omega (arith, h))))
setting_weighs q c is sc refs (x ∷ []) (s.CallRhs call) r = tell_then (any_told (target sc x)) (λ v i. calling_weighs q c is sc x.pos (v ∷ []) call)
setting_weighs q c is sc refs (x ∷ []) (s.NewRhs new) r = tell_then (any_told (ref_target sc x)) (λ v i. creating_weighs q c.world sc x.pos v.number refs new r)
setting_weighs q c is sc refs (x ∷ f ∷ fs) (s.TermRhs a) r =
    tell_then (any_told (target_place c sc x f fs)) (λ l i. tell_then (expected_weighs q c is sc l.ty a) (λ y h. tells (omega (arith, h))))
setting_weighs q c is sc refs (x ∷ f ∷ fs) (s.CallRhs call) r = tell_then (any_told (target_place c sc x f fs)) (λ l i. calling_into_field_told c sc call)
setting_weighs q c is sc refs (x ∷ f ∷ fs) (s.NewRhs new) r = tell_then (any_told (target_place c sc x f fs)) (λ l i. broken)

checking_weighs : (q : p.Program) (c : Context) → CountsAs q c.world → (sc : VariableScope) (w : Word) (at : Pos) (a : t.Term) →
    Tells (λ x. copied c.world c.bodies a ≤ stmt_weight q x) (checking c sc w at a)
checking_weighs q c is sc word.Inhale at a = tell_then (asserting_weighs q c is sc a) (λ x h. tells (omega (arith, h)))
checking_weighs q c is sc word.Exhale at a = tell_then (asserting_weighs q c is sc a) (λ x h. tells (omega (arith, h)))
checking_weighs q c is sc word.Assert at a = tell_then (asserting_weighs q c is sc a) (λ x h. tells (omega (arith, h)))
checking_weighs q c is sc word.Assume at a = tell_then (expected_weighs q c is sc ty.Bool a) (λ x h. tells (omega (arith, h)))
checking_weighs q c is sc _ at a = broken

folding_weighs : (q : p.Program) (c : Context) → CountsAs q c.world → (sc : VariableScope) (f : s.SFold) → Tells (λ x. copied_by_fold c.world c.bodies f ≤ fold_weight q x) (folding c sc f)
folding_weighs q c is sc f =
    tell_then (any_told (with_body c.world f.call.name.name f.call.name.pos)) (λ d i.
    tell_then (arguments_weigh q c is sc (t.terms f.call.args) d.1.params f.call.name.pos) (λ es h. tell_then (permission_weighs q c is sc f.amount) (λ m g.
    tells (omega (arith, h, g)))))

asserting_all_weighs : (q : p.Program) (c : Context) → CountsAs q c.world → (sc : VariableScope) (ts : List t.Term) →
    Tells (λ xs. copied_by_terms c.world c.bodies ts ≤ assertion_sizes (base_of q) xs) (asserting_all c sc ts)
asserting_all_weighs q c is sc [] = tells (omega arith)
asserting_all_weighs q c is sc (a ∷ rest) =
    tell_then (asserting_weighs q c is sc a) (λ x h. tell_then (asserting_all_weighs q c is sc rest) (λ xs g. tells (omega (arith, h, g))))

-- ---- statements

abbrev branches_weight : p.Program → List Branch → ℕ
branches_weight q [] = 0
branches_weight q (b ∷ bs) = base_of q + size (base_of q) b.condition + stmts_weight q b.body + branches_weight q bs

alone_weighs : (q : p.Program) (bs : List Branch) (ss : core.Stmts) → branches_weight q bs + stmts_weight q ss ≤ stmts_weight q (alone (nested bs ss) ss)
alone_weighs q [] ss = omega arith
alone_weighs q (b ∷ bs) ss = omega (arith, alone_weighs q bs ss)

nested_weighs : (q : p.Program) (n m : ℕ) (bs : List Branch) (ss : core.Stmts) → n ≤ branches_weight q bs → m ≤ stmts_weight q ss →
    Tells (λ x. n + m ≤ stmt_weight q x) (known (nested bs ss) nowhere rule.WrongType Found)
nested_weighs q n m [] ss h g = broken
nested_weighs q n m (b ∷ bs) ss h g = tells (omega (arith, h, g, alone_weighs q bs ss))

mutual
  stepping_weighs : (q : p.Program) (c : Context) → CountsAs q c.world → (d : ℕ) (fr : MethodVariables) (refs : ℕ) (a : s.SStmt) → refs ≤ length (ref_variables fr.scope) →
      Tells (λ x. copied_by c.world c.bodies refs a ≤ stmt_weight q x) (stepping true c d fr a)
  stepping_weighs q c is d fr refs (s.Var at f rhs) r = tell_then (any_told (fresh fr f)) (λ v i. declaring_weighs q c is fr at v refs rhs r)
  stepping_weighs q c is d fr refs (s.Assign xs rhs) r = setting_weighs q c is fr.scope refs xs rhs r
  stepping_weighs q c is d fr refs (s.CallTo xs call) r = tell_then (any_told (call_targets fr.scope [] xs)) (λ vs i. calling_weighs q c is fr.scope (first_place xs) vs call)
  stepping_weighs q c is d fr refs (s.Call call) r = calling_weighs q c is fr.scope call.name.pos [] call
  stepping_weighs q c is d fr refs (s.Check w at a) r = checking_weighs q c is fr.scope w at a
  stepping_weighs q c is d fr refs (s.Fold f) r = tell_then (folding_weighs q c is fr.scope f) (λ x h. tells h)
  stepping_weighs q c is d fr refs (s.Unfold f) r = tell_then (folding_weighs q c is fr.scope f) (λ x h. tells h)
  stepping_weighs q c is d fr refs (s.If arms other) r =
      tell_then (branches_weigh q c is (d + 1) fr refs arms r) (λ bs h.
      tell_then (otherwise_weighs q c is (d + arm_count arms) (with_hidden fr (declared_in_arms arms)) refs other r) (λ ss g.
      nested_weighs q (copied_by_arms c.world c.bodies refs arms) (copied_by_else c.world c.bodies refs other) bs ss h g))
  stepping_weighs q c is d fr refs (s.While at a ts b) r =
      tell_then (expected_weighs q c is fr.scope ty.Bool a) (λ x h. tell_then (asserting_all_weighs q c is fr.scope ts) (λ xs g.
      tell_then (blocking_weighs q c is (d + 1) fr refs b r) (λ ss i. tells (omega (arith, h, g, i)))))

  pub blocking_weighs : (q : p.Program) (c : Context) → CountsAs q c.world → (d : ℕ) (fr : MethodVariables) (refs : ℕ) (b : s.SBlock) → refs ≤ length (ref_variables fr.scope) →
      Tells (λ ss. copied_by_block c.world c.bodies refs b ≤ stmts_weight q ss) (blocking true c d fr b)
  blocking_weighs q c is d fr refs (s.block at ss) r = tell_obeys (nat_le d max_block_depth) at rule.TooDeep (λ i. tell_then (stepping_all_weighs q c is d fr refs ss r) (λ xs h. tells h))

  stepping_all_weighs : (q : p.Program) (c : Context) → CountsAs q c.world → (d : ℕ) (fr : MethodVariables) (refs : ℕ) (ss : s.SStmts) → refs ≤ length (ref_variables fr.scope) →
      Tells (λ xs. copied_by_stmts c.world c.bodies refs ss ≤ stmts_weight q (core.stmts xs)) (stepping_all true c d fr ss)
  stepping_all_weighs q c is d fr refs s.no_stmts r = tells (omega arith)
  stepping_all_weighs q c is d fr refs (s.more_stmts a rest) r =
      tell_then (stepping_weighs q c is d fr refs a r) (λ x h.
      tell_then (stepping_all_weighs q c is d (frame_after fr a) (refs_after refs a) rest (after_refs fr a refs r)) (λ xs g. tells (omega (arith, h, g))))

  branches_weigh : (q : p.Program) (c : Context) → CountsAs q c.world → (d : ℕ) (fr : MethodVariables) (refs : ℕ) (arms : s.SArms) → refs ≤ length (ref_variables fr.scope) →
      Tells (λ bs. copied_by_arms c.world c.bodies refs arms ≤ branches_weight q bs) (branches true c d fr arms)
  branches_weigh q c is d fr refs s.no_arms r = tells (omega arith)
  branches_weigh q c is d fr refs (s.more_arms a rest) r =
      tell_then (branch_weighs q c is d fr refs a r) (λ x h.
      tell_then (branches_weigh q c is (d + 1) (with_hidden fr (declared_in_arm a)) refs rest r) (λ xs g. tells (omega (arith, h, g))))

  branch_weighs : (q : p.Program) (c : Context) → CountsAs q c.world → (d : ℕ) (fr : MethodVariables) (refs : ℕ) (a : s.SArm) → refs ≤ length (ref_variables fr.scope) →
      Tells (λ b. copied_by_arm c.world c.bodies refs a ≤ size (base_of q) b.condition + stmts_weight q b.body) (branch true c d fr a)
  branch_weighs q c is d fr refs (s.arm at a b) r =
      tell_then (expected_weighs q c is fr.scope ty.Bool a) (λ x h. tell_then (blocking_weighs q c is d fr refs b r) (λ ss g. tells (omega (arith, h, g))))

  otherwise_weighs : (q : p.Program) (c : Context) → CountsAs q c.world → (d : ℕ) (fr : MethodVariables) (refs : ℕ) (o : s.SElse) → refs ≤ length (ref_variables fr.scope) →
      Tells (λ ss. copied_by_else c.world c.bodies refs o ≤ stmts_weight q ss) (otherwise true c d fr o)
  otherwise_weighs q c is d fr refs s.no_else r = tells (omega arith)
  otherwise_weighs q c is d fr refs (s.else_block b) r = blocking_weighs q c is d fr refs b r
