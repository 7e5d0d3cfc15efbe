-- What the typing of a statement finds, the statement is.
use Rattle.std.proofs.Common.{◌≡◌, ◌∙◌, ℕ, ◌+◌, ◌++◌, true, not, Option, Some, None, List, [], ◌∷◌, nat_le, is_some, refl, sym, subst, append_assoc}
use Rattle.std.proofs.lemmas.List.{append-nil}
use Rattle.std.proofs.lemmas.Bool.{not-true}
use Rattle.vb_base.specs.Limits.{max_block_depth}
use Rattle.vb_base.specs.declared.places.Pos.{Pos}
use Rattle.vb_value.specs.Value.{same_type}
use Rattle.vb_value.specs.declared.values.Ty.{Ty}
use Rattle.vb_value.specs.declared.values.Ty.TheVariants as ty
use Rattle.viper_core.specs.Expr as e
use Rattle.viper_core.specs.Stmt as c
use Rattle.viper_syntax.specs.Term as t
use Rattle.viper_syntax.specs.Stmt as s
use Rattle.viper_syntax.specs.declared.stmts.Named.{Named}
use Rattle.viper_syntax.specs.declared.stmts.Formal.{Formal}
use Rattle.viper_syntax.specs.declared.tokens.Word.{Word}
use Rattle.viper_syntax.specs.declared.tokens.Word.TheVariants as word
use Rattle.viper_scope.specs.declared.rules.Rule.TheVariants as rule
use Rattle.viper_scope.specs.Context.{World, Context, find, field_at, method_at, nowhere}
use Rattle.viper_scope.specs.Scope.{VariableScope}
use Rattle.viper_scope.specs.Arguments.{Typing, as_many, misfit}
use Rattle.viper_types.specs.Typed as r
use Rattle.viper_types.specs.Typed.{Typed}
use Rattle.viper_scope.specs.Types.{type_of, or_int}
use Rattle.viper_types.specs.Frame.{MethodVariables, declared_in_arms, declared_in_arm, frame_after, with_hidden}
use Rattle.viper_types.specs.Stepping as j
use Rattle.viper_types.specs.Stepping.{AssignedVariable, is_target, is_listed, numbers_in, mistarget, nested, arm_count, stepping, blocking, stepping_all, branches, branch, otherwise}
use Rattle.viper_types.specs.Stepped
use Rattle.viper_types.specs.Stepped.{IsFresh, IsTarget, AreTargets, no_more, one_more, TakeReturns, no_returns, one_return, IsCall, call_of, AreFields, no_fields, one_field, ChoosesFields, every, named, IsNew, new_of, IsPlace, of_field, of_further, Declares, any_value, Sets, Checks, inhale, exhale, asserted, assume, IsFold, fold_of, AssertsAll, no_assertions, one_assertion, var, assign, call_to, check, folded, unfolded, if_arms, while, Blocked, block, SteppedAll, no_steps, one_step, Branches, no_branches, one_branch, IsBranch, branch_of, Otherwise, no_block, else_of}
use Rattle.viper_types.proofs.Tells.{Tells, tells, broken, tell_then, tell_so, tell_known, tell_obeys, tell_clear, tell_if, same_types, none_is, if_none}
use Rattle.viper_types.proofs.TermSound.{HasBodies, typing_told, typing_all_told, permission_told, expected_told, arguments_told, located_told, with_body_told, fits}
use Rattle.viper_types.proofs.AssertionLaws.{asserting_told}
use Rattle.viper_types.proofs.Differ.{Differ, differ_none, differ_push, differ_target}

-- variables

pub is_type : (o : Option Ty) → is_some o ≡ true → o ≡ Some (or_int o)
is_type (Some u) h = refl
is_type None h = absurd (cc)

fresh_told : (fr : MethodVariables) (f : Formal) → Tells (IsFresh fr f) (j.fresh fr f)
fresh_told fr f =
    tell_obeys (not (is_some (find fr.scope f.name.name))) f.name.pos rule.DeclaredTwice (λ i. tell_obeys (is_some (type_of f.ty)) f.name.pos rule.WrongType (λ k.
    tells (Stepped.fresh (none_is _ i) (is_type _ k))))

target_told : (sc : VariableScope) (x : Named) → Tells (IsTarget sc x) (j.target sc x)
target_told sc x = tell_known (find sc x.name) x.pos rule.UnknownName (λ v i. tell_obeys (not v.is_parameter) x.pos rule.ParameterAsTarget (λ k. tells (Stepped.target i (not-true _ k))))

-- a target of type Ref
record IsRefTarget (sc : VariableScope) (x : Named) (v : AssignedVariable) : Type 0 where
  pub target : IsTarget sc x v
  pub typed : v.ty ≡ ty.Ref

ref_target_told : (sc : VariableScope) (x : Named) → Tells (IsRefTarget sc x) (j.ref_target sc x)
ref_target_told sc x =
    tell_known (find sc x.name) x.pos rule.UnknownName (λ v i. tell_obeys (same_type v.ty ty.Ref) x.pos rule.WrongType (λ l. tell_obeys (not v.is_parameter) x.pos rule.ParameterAsTarget (λ k.
    tells (record { target = Stepped.target i (not-true _ k); typed = same_types v.ty ty.Ref l }))))

-- targets after those that stand before
record TargetsAfter (sc : VariableScope) (before : List AssignedVariable) (xs : List Named) (all : List AssignedVariable) : Type 0 where
  pub those : List AssignedVariable
  pub are : all ≡ before ++ those
  pub targets : AreTargets sc xs those
  pub differ : Differ (numbers_in all)

call_targets_told : (sc : VariableScope) (before : List AssignedVariable) (xs : List Named) → Differ (numbers_in before) → Tells (TargetsAfter sc before xs) (j.call_targets sc before xs)
call_targets_told sc before [] d = tells (record { those = []; are = sym (append-nil before); targets = no_more; differ = d })
call_targets_told sc before (x ∷ xs) d =
    tell_then (target_told sc x) (λ v h. tell_obeys (not (is_target v.number before)) x.pos rule.TargetTwice (λ i.
    tell_so (call_targets_told sc (before ++ v ∷ []) xs (differ_target before v d (not-true _ i))) (λ all g. record {
      those = v ∷ g.those;
      are = g.are ∙ append_assoc before (v ∷ []) g.those;
      targets = one_more h g.targets;
      differ = g.differ;
    })))

all_targets : {sc : VariableScope} {xs : List Named} {vs : List AssignedVariable} → TargetsAfter sc [] xs vs → AreTargets sc xs vs
all_targets {sc} {xs} h = subst (λ ws. AreTargets sc xs ws) (sym h.are) h.targets

-- calls

take_first : (v : AssignedVariable) {vs : List AssignedVariable} (u : Ty) {us : List Ty} → same_type v.ty u ≡ true → TakeReturns vs us → TakeReturns (v ∷ vs) (u ∷ us)
take_first v {vs} u {us} i h = subst (λ w. TakeReturns (v ∷ vs) (w ∷ us)) (same_types v.ty u i) (one_return h)

take_returns : (vs : List AssignedVariable) (us : List Ty) → as_many vs us ≡ true → mistarget vs us ≡ None → TakeReturns vs us
take_returns [] [] i k = no_returns
take_returns [] (u ∷ us) i k = absurd (cc)
take_returns (v ∷ vs) [] i k = absurd (cc)
take_returns (v ∷ vs) (u ∷ us) i k =
    let both = if_none (same_type v.ty u) (mistarget vs us) v.at k in take_first v u both.0 (take_returns vs us i both.1)

calling_told : (k : Context) → HasBodies k → (sc : VariableScope) (at : Pos) (vs : List AssignedVariable) (call : s.SCall) →
    Tells (IsCall k sc at vs call) (j.calling k sc at vs call)
calling_told k b sc at vs call =
    tell_known (method_at k.world call.name.name) call.name.pos rule.UnknownName (λ m i. tell_then (typing_all_told k b sc (t.terms call.args)) (λ xs h.
    tell_obeys (as_many xs m.1.params) call.name.pos rule.ArgumentCount (λ i1. tell_obeys (as_many vs m.1.returns) call.name.pos rule.TargetCount (λ i2.
    tell_clear (mistarget vs m.1.returns) rule.WrongType (λ i3. tell_clear (misfit (t.terms call.args) xs m.1.params) rule.WrongType (λ i4.
    tells (call_of {m = m.1} i (fits h m.1.params i1 i4) (take_returns vs m.1.returns i2 i3))))))))

calling_into_field_told : (k : Context) → HasBodies k → (sc : VariableScope) (call : s.SCall) {P : c.Stmt → Type 0} → Tells P (j.calling_into_field k sc call)
calling_into_field_told k b sc call =
    tell_known (method_at k.world call.name.name) call.name.pos rule.UnknownName (λ m i. tell_then (typing_all_told k b sc (t.terms call.args)) (λ xs h.
    tell_obeys (as_many xs m.1.params) call.name.pos rule.ArgumentCount (λ i1. broken)))

-- creations

-- fields after those that stand before
record FieldsAfter (w : World) (before : List ℕ) (fs : List Named) (all : List ℕ) : Type 0 where
  pub those : List ℕ
  pub are : all ≡ before ++ those
  pub fields : AreFields w fs those
  pub differ : Differ all

new_fields_told : (w : World) (before : List ℕ) (fs : List Named) → Differ before → Tells (FieldsAfter w before fs) (j.new_fields w before fs)
new_fields_told w before [] d = tells (record { those = []; are = sym (append-nil before); fields = no_fields; differ = d })
new_fields_told w before (f ∷ fs) d =
    tell_known (field_at w f.name) f.pos rule.UnknownName (λ n i. tell_obeys (not (is_listed n.0 before)) f.pos rule.FieldTwice (λ k.
    tell_so (new_fields_told w (before ++ n.0 ∷ []) fs (differ_push n.0 before d (not-true _ k))) (λ all g. record {
      those = n.0 ∷ g.those;
      are = g.are ∙ append_assoc before (n.0 ∷ []) g.those;
      fields = one_field {u = n.1} i g.fields;
      differ = g.differ;
    })))

all_fields : {w : World} {fs : List Named} {ns : List ℕ} → FieldsAfter w [] fs ns → AreFields w fs ns
all_fields {w} {fs} h = subst (λ ms. AreFields w fs ms) (sym h.are) h.fields

chosen_fields_told : (w : World) (new : s.SNew) → Tells (ChoosesFields w new) (j.chosen_fields true w new)
chosen_fields_told w new =
    tell_if new.every (λ i. tells (every i)) (λ i. tell_so (new_fields_told w [] new.fields differ_none) (λ ns h. named i (all_fields h) h.differ))

creating_told : (w : World) (sc : VariableScope) (at : Pos) (n : ℕ) (new : s.SNew) → Tells (IsNew w sc at n new) (j.creating true w sc at n new)
creating_told w sc at n new = tell_then (chosen_fields_told w new) (λ fs h. tells (new_of h))

-- assignments

dotted_told : (k : Context) (sc : VariableScope) (a : t.Term) (x : Typing) (f : Named) (fs : List Named) → Typed k sc a x.0 x.1 →
    Tells (IsPlace k sc a f fs) (j.dotted k.world x f fs)
dotted_told k sc a x f [] h = tell_so (located_told f.name f.pos x h) (λ l g. of_field g.receiver g.known)
dotted_told k sc a x f (g ∷ gs) h =
    tell_then (located_told f.name f.pos x h) (λ l i.
    tell_so (dotted_told k sc (t.Field a f.name f.pos) (e.Field l.receiver l.field f.pos, l.ty) g gs (r.field i.receiver i.known)) (λ m p. of_further p))

target_place_told : (k : Context) → HasBodies k → (sc : VariableScope) (x f : Named) (fs : List Named) →
    Tells (IsPlace k sc (t.Name x.name x.pos) f fs) (j.target_place k sc x f fs)
target_place_told k b sc x f fs = tell_then (typing_told k b sc (t.Name x.name x.pos)) (λ y h. dotted_told k sc (t.Name x.name x.pos) y f fs h)

declaring_told : (k : Context) → HasBodies k → (fr : MethodVariables) (at : Pos) (v : AssignedVariable) (rhs : Option s.SRhs) →
    Tells (Declares k fr.scope at v rhs) (j.declaring true k fr at v rhs)
declaring_told k b fr at v None = tells any_value
declaring_told k b fr at v (Some (s.TermRhs a)) = tell_then (expected_told k b fr.scope v.ty a) (λ x h. tells (Stepped.Declares.value h))
declaring_told k b fr at v (Some (s.CallRhs call)) = tell_so (calling_told k b fr.scope at (v ∷ []) call) (λ x h. Stepped.Declares.returned h)
declaring_told k b fr at v (Some (s.NewRhs new)) =
    tell_obeys (same_type v.ty ty.Ref) v.at rule.WrongType (λ i. tell_so (creating_told k.world fr.scope at v.number new) (λ x h. Stepped.Declares.created (same_types v.ty ty.Ref i) h))

setting_told : (k : Context) → HasBodies k → (sc : VariableScope) (xs : List Named) (rhs : s.SRhs) → Tells (Sets k sc xs rhs) (j.setting true k sc xs rhs)
setting_told k b sc [] rhs = broken
setting_told k b sc (x ∷ []) (s.TermRhs a) =
    tell_then (target_told sc x) (λ v h. tell_then (expected_told k b sc v.ty a) (λ y g. tells (Stepped.Sets.variable h g)))
setting_told k b sc (x ∷ []) (s.CallRhs call) =
    tell_then (target_told sc x) (λ v h. tell_so (calling_told k b sc x.pos (v ∷ []) call) (λ y g. Stepped.Sets.returned h g))
setting_told k b sc (x ∷ []) (s.NewRhs new) =
    tell_then (ref_target_told sc x) (λ v h. tell_so (creating_told k.world sc x.pos v.number new) (λ y g. Stepped.Sets.created h.target h.typed g))
setting_told k b sc (x ∷ f ∷ fs) (s.TermRhs a) =
    tell_then (target_place_told k b sc x f fs) (λ l h. tell_then (expected_told k b sc l.ty a) (λ y g. tells (Stepped.Sets.field h g)))
setting_told k b sc (x ∷ f ∷ fs) (s.CallRhs call) = tell_then (target_place_told k b sc x f fs) (λ l h. calling_into_field_told k b sc call)
setting_told k b sc (x ∷ f ∷ fs) (s.NewRhs new) = tell_then (target_place_told k b sc x f fs) (λ l h. broken)

-- other statements without a block

checking_told : (k : Context) → HasBodies k → (sc : VariableScope) (w : Word) (at : Pos) (a : t.Term) → Tells (Checks k sc at a w) (j.checking k sc w at a)
checking_told k b sc word.Inhale at a = tell_then (asserting_told k b sc a) (λ x h. tells (inhale h))
checking_told k b sc word.Exhale at a = tell_then (asserting_told k b sc a) (λ x h. tells (exhale h))
checking_told k b sc word.Assert at a = tell_then (asserting_told k b sc a) (λ x h. tells (asserted h))
checking_told k b sc word.Assume at a = tell_then (expected_told k b sc ty.Bool a) (λ x h. tells (assume h))
checking_told k b sc _ at a = broken

folding_told : (k : Context) → HasBodies k → (sc : VariableScope) (f : s.SFold) → Tells (IsFold k sc f) (j.folding k sc f)
folding_told k b sc f =
    tell_then (with_body_told k.world f.call.name.name f.call.name.pos) (λ p h.
    tell_then (arguments_told k b sc (t.terms f.call.args) p.1.params f.call.name.pos) (λ es g. tell_then (permission_told k b sc f.amount) (λ m i.
    tells (fold_of {p = p.1} h.known h.has_body g i))))

asserting_all_told : (k : Context) → HasBodies k → (sc : VariableScope) (is : List t.Term) → Tells (AssertsAll k sc is) (j.asserting_all k sc is)
asserting_all_told k b sc [] = tells no_assertions
asserting_all_told k b sc (a ∷ rest) =
    tell_then (asserting_told k b sc a) (λ x h. tell_then (asserting_all_told k b sc rest) (λ xs g. tells (one_assertion h g)))

mutual
  pub stepping_told : (k : Context) → HasBodies k → (d : ℕ) (fr : MethodVariables) (a : s.SStmt) → Tells (Stepped.Stepped k d fr a) (stepping true k d fr a)
  stepping_told k b d fr (s.Var at f rhs) = tell_then (fresh_told fr f) (λ v h. tell_so (declaring_told k b fr at v rhs) (λ x g. var h g))
  stepping_told k b d fr (s.Assign xs rhs) = tell_so (setting_told k b fr.scope xs rhs) (λ x h. assign h)
  stepping_told k b d fr (s.CallTo xs a) =
      tell_then (call_targets_told fr.scope [] xs differ_none) (λ vs h. tell_so (calling_told k b fr.scope _ vs a) (λ x g. call_to (all_targets h) h.differ g))
  stepping_told k b d fr (s.Call a) = tell_so (calling_told k b fr.scope a.name.pos [] a) (λ x h. Stepped.call h)
  stepping_told k b d fr (s.Check w at a) = tell_so (checking_told k b fr.scope w at a) (λ x h. check h)
  stepping_told k b d fr (s.Fold f) = tell_then (folding_told k b fr.scope f) (λ x h. tells (folded h))
  stepping_told k b d fr (s.Unfold f) = tell_then (folding_told k b fr.scope f) (λ x h. tells (unfolded h))
  stepping_told k b d fr (s.If arms other) =
      tell_then (branches_told k b (d + 1) fr arms) (λ bs h. tell_then (otherwise_told k b (d + arm_count arms) (with_hidden fr (declared_in_arms arms)) other) (λ ss g.
      tell_known (nested bs ss) nowhere rule.WrongType (λ x i. tells (if_arms h g i))))
  stepping_told k b d fr (s.While at a is body) =
      tell_then (expected_told k b fr.scope ty.Bool a) (λ x h. tell_then (asserting_all_told k b fr.scope is) (λ xs g. tell_then (blocking_told k b (d + 1) fr body) (λ ss i.
      tells (while h g i))))

  pub blocking_told : (k : Context) → HasBodies k → (d : ℕ) (fr : MethodVariables) (a : s.SBlock) → Tells (Blocked k d fr a) (blocking true k d fr a)
  blocking_told k b d fr (s.block at ss) =
      tell_obeys (nat_le d max_block_depth) at rule.TooDeep (λ i. tell_then (stepping_all_told k b d fr ss) (λ xs h. tells (block i h)))

  pub stepping_all_told : (k : Context) → HasBodies k → (d : ℕ) (fr : MethodVariables) (ss : s.SStmts) → Tells (SteppedAll k d fr ss) (stepping_all true k d fr ss)
  stepping_all_told k b d fr s.no_stmts = tells no_steps
  stepping_all_told k b d fr (s.more_stmts a rest) =
      tell_then (stepping_told k b d fr a) (λ x h. tell_then (stepping_all_told k b d (frame_after fr a) rest) (λ xs g. tells (one_step h g)))

  pub branches_told : (k : Context) → HasBodies k → (d : ℕ) (fr : MethodVariables) (arms : s.SArms) → Tells (Branches k d fr arms) (branches true k d fr arms)
  branches_told k b d fr s.no_arms = tells no_branches
  branches_told k b d fr (s.more_arms a rest) =
      tell_then (branch_told k b d fr a) (λ x h. tell_then (branches_told k b (d + 1) (with_hidden fr (declared_in_arm a)) rest) (λ xs g. tells (one_branch h g)))

  pub branch_told : (k : Context) → HasBodies k → (d : ℕ) (fr : MethodVariables) (a : s.SArm) → Tells (IsBranch k d fr a) (branch true k d fr a)
  branch_told k b d fr (s.arm at a body) =
      tell_then (expected_told k b fr.scope ty.Bool a) (λ x h. tell_then (blocking_told k b d fr body) (λ ss g. tells (branch_of h g)))

  pub otherwise_told : (k : Context) → HasBodies k → (d : ℕ) (fr : MethodVariables) (o : s.SElse) → Tells (Otherwise k d fr o) (otherwise true k d fr o)
  otherwise_told k b d fr s.no_else = tells no_block
  otherwise_told k b d fr (s.else_block body) = tell_so (blocking_told k b d fr body) (λ ss h. else_of h)
