-- What a statement is, its typing finds.
use Rattle.std.proofs.Common.{◌≡◌, ◌∙◌, ℕ, true, Option, None, List, [], ◌∷◌, ◌++◌, refl, sym, ap, subst, append_assoc}
use Rattle.std.proofs.lemmas.List.{append-nil}
use Rattle.vb_base.specs.declared.places.Pos.{Pos}
use Rattle.vb_value.specs.declared.values.Ty.{Ty}
use Rattle.vb_value.specs.declared.values.Ty.TheVariants as ty
use Rattle.viper_core.specs.Expr as e
use Rattle.viper_core.specs.Stmt as c
use Rattle.viper_syntax.specs.Term as t
use Rattle.viper_syntax.specs.Stmt as s
use Rattle.viper_syntax.specs.declared.stmts.Named.{Named}
use Rattle.viper_syntax.specs.declared.stmts.Formal.{Formal}
use Rattle.viper_syntax.specs.declared.tokens.Word.{Word}
use Rattle.viper_scope.specs.Outcome.{Judged, Found, Broken, then_typed}
use Rattle.viper_scope.specs.Context.{World, Context}
use Rattle.viper_scope.specs.Scope.{VariableScope}
use Rattle.viper_scope.specs.Arguments.{as_many}
use Rattle.viper_types.specs.Typing.{Located, located, typing}
use Rattle.viper_types.specs.Frame.{MethodVariables}
use Rattle.viper_types.specs.Stepping as j
use Rattle.viper_types.specs.Stepping.{AssignedVariable, Branch, numbers_in, mistarget, stepping, blocking, stepping_all, branches, branch, otherwise}
use Rattle.viper_types.specs.Stepped
use Rattle.viper_types.specs.Stepped.{IsFresh, IsTarget, AreTargets, no_more, one_more, TakeReturns, no_returns, one_return, IsCall, call_of, AreFields, no_fields, one_field, ChoosesFields, every, named, IsNew, new_of, IsPlace, of_field, of_further, Declares, any_value, Sets, Checks, inhale, exhale, asserted, assume, IsFold, fold_of, AssertsAll, no_assertions, one_assertion, var, assign, call_to, check, folded, unfolded, if_arms, while, Blocked, block, SteppedAll, no_steps, one_step, Branches, no_branches, one_branch, IsBranch, branch_of, Otherwise, no_block, else_of}
use Rattle.viper_types.proofs.Tells.{type_is_same, one_found}
use Rattle.viper_types.proofs.TermFinds.{typing_finds, typing_all_finds, permission_finds, typings_are_as_many, typings_fit, exprs_in_typings, expected_finds, arguments_finds}
use Rattle.viper_types.proofs.AssertionLaws.{asserting_finds}
use Rattle.viper_types.proofs.Differ.{Differ, new_among, new_target_among}

-- variables

fresh_finds : {fr : MethodVariables} {f : Formal} {v : AssignedVariable} → IsFresh fr f v → j.fresh fr f ≡ Found v
fresh_finds (Stepped.fresh i k) = rw (i, k) refl

target_finds : {sc : VariableScope} {x : Named} {v : AssignedVariable} → IsTarget sc x v → j.target sc x ≡ Found v
target_finds (Stepped.target i k) = rw (i, k) refl

ref_target_finds : {sc : VariableScope} {x : Named} {v : AssignedVariable} → IsTarget sc x v → v.ty ≡ ty.Ref → j.ref_target sc x ≡ Found v
ref_target_finds (Stepped.target i k) is = rw (i, k, is) refl

call_targets_find : {sc : VariableScope} {xs : List Named} {vs : List AssignedVariable} (before : List AssignedVariable) → AreTargets sc xs vs → Differ (numbers_in (before ++ vs)) →
    j.call_targets sc before xs ≡ Found (before ++ vs)
call_targets_find before no_more d = ap (λ vs. Found vs) (sym (append-nil before))
call_targets_find before (one_more {v = v} {vs = vs} h g) d =
    let moved : (before ++ v ∷ []) ++ vs ≡ before ++ v ∷ vs = append_assoc before (v ∷ []) vs in
    rw (target_finds h, new_target_among before v vs d)
    (call_targets_find (before ++ v ∷ []) g (subst (λ ws. Differ (numbers_in ws)) (sym moved) d) ∙ ap (λ ws. Found ws) moved)

-- calls

returns_are_as_many : {vs : List AssignedVariable} {us : List Ty} → TakeReturns vs us → as_many vs us ≡ true
returns_are_as_many no_returns = refl
returns_are_as_many (one_return h) = returns_are_as_many h

returns_fit : {vs : List AssignedVariable} {us : List Ty} → TakeReturns vs us → mistarget vs us ≡ None
returns_fit no_returns = refl
returns_fit (one_return {v = v} h) = rw (type_is_same v.ty) (returns_fit h)

calling_finds : {k : Context} {sc : VariableScope} {at : Pos} {vs : List AssignedVariable} {call : s.SCall} {x : c.Stmt} → IsCall k sc at vs call x →
    j.calling k sc at vs call ≡ Found x
calling_finds (call_of i h g) =
    rw (i, typing_all_finds h, typings_are_as_many h, returns_are_as_many g, returns_fit g, typings_fit h, exprs_in_typings h) refl

-- creations

new_fields_find : {w : World} {fs : List Named} {ns : List ℕ} (before : List ℕ) → AreFields w fs ns → Differ (before ++ ns) →
    j.new_fields w before fs ≡ Found (before ++ ns)
new_fields_find before no_fields d = ap (λ ns. Found ns) (sym (append-nil before))
new_fields_find before (one_field {n = n} {ns = ns} i g) d =
    let moved : (before ++ n ∷ []) ++ ns ≡ before ++ n ∷ ns = append_assoc before (n ∷ []) ns in
    rw (i, new_among before n ns d) (new_fields_find (before ++ n ∷ []) g (subst (λ ms. Differ ms) (sym moved) d) ∙ ap (λ ms. Found ms) moved)

chosen_fields_find : {w : World} {new : s.SNew} {ns : List ℕ} → ChoosesFields w new ns → j.chosen_fields true w new ≡ Found ns
chosen_fields_find (every i) = rw i refl
chosen_fields_find (named i h d) = rw i (new_fields_find [] h d)

creating_finds : {w : World} {sc : VariableScope} {at : Pos} {n : ℕ} {new : s.SNew} {x : c.Stmt} → IsNew w sc at n new x → j.creating true w sc at n new ≡ Found x
creating_finds (new_of h) = rw (chosen_fields_find h) refl

-- assignments

-- what follows a field that is typed on the way
on_the_way : {X Y Z U : Type 0} (i : Judged X) (k : X → Judged Y) (m : Y → Z) (n : Z → Judged U) →
    then_typed (then_typed i (λ x. then_typed (k x) (λ l. Found (m l)))) n ≡ then_typed i (λ x. then_typed (k x) (λ l. n (m l)))
on_the_way (Broken p r) k m n = refl
on_the_way (Found x) k m n = once_on_the_way (k x) m n where
  once_on_the_way : {Y Z U : Type 0} (i : Judged Y) (m : Y → Z) (n : Z → Judged U) →
      then_typed (then_typed i (λ l. Found (m l))) n ≡ then_typed i (λ l. n (m l))
  once_on_the_way (Found y) m n = refl
  once_on_the_way (Broken p r) m n = refl

place_finds : {k : Context} {sc : VariableScope} {a : t.Term} {f : Named} {fs : List Named} {l : Located} → IsPlace k sc a f fs l →
    then_typed (typing k sc a) (λ y. j.dotted k.world y f fs) ≡ Found l
place_finds (of_field h i) = rw (typing_finds h, i) refl
place_finds {k} {sc} (of_further {a = a} {f = f} {g = g} {gs = gs} h) =
    sym (on_the_way (typing k sc a) (located k.world f.name f.pos) (λ l. (e.Field l.receiver l.field f.pos, l.ty)) (λ y. j.dotted k.world y g gs)) ∙ place_finds h

target_place_finds : {k : Context} {sc : VariableScope} {x f : Named} {fs : List Named} {l : Located} → IsPlace k sc (t.Name x.name x.pos) f fs l →
    j.target_place k sc x f fs ≡ Found l
target_place_finds h = place_finds h

declaring_finds : {k : Context} (fr : MethodVariables) {at : Pos} {v : AssignedVariable} {rhs : Option s.SRhs} {x : c.Stmt} →
    Declares k fr.scope at v rhs x → j.declaring true k fr at v rhs ≡ Found x
declaring_finds fr any_value = refl
declaring_finds fr (Stepped.Declares.value h) = rw (expected_finds h) refl
declaring_finds fr (Stepped.Declares.returned h) = calling_finds h
declaring_finds fr (Stepped.Declares.created i h) = rw i (creating_finds h)

setting_finds : {k : Context} {sc : VariableScope} {xs : List Named} {rhs : s.SRhs} {x : c.Stmt} → Sets k sc xs rhs x → j.setting true k sc xs rhs ≡ Found x
setting_finds (Stepped.Sets.variable h g) = rw (target_finds h, expected_finds g) refl
setting_finds (Stepped.Sets.returned h g) = rw (target_finds h) (calling_finds g)
setting_finds (Stepped.Sets.created h i g) = rw (ref_target_finds h i) (creating_finds g)
setting_finds (Stepped.Sets.field h g) = rw (target_place_finds h, expected_finds g) refl

-- other statements without a block

checking_finds : {k : Context} {sc : VariableScope} {w : Word} {at : Pos} {a : t.Term} {x : c.Stmt} → Checks k sc at a w x → j.checking k sc w at a ≡ Found x
checking_finds (inhale h) = rw (asserting_finds h) refl
checking_finds (exhale h) = rw (asserting_finds h) refl
checking_finds (asserted h) = rw (asserting_finds h) refl
checking_finds (assume h) = rw (expected_finds h) refl

folding_finds : {k : Context} {sc : VariableScope} {f : s.SFold} {x : c.FoldStmt} → IsFold k sc f x → j.folding k sc f ≡ Found x
folding_finds {f = f} (fold_of i h g m) = rw (i, h, arguments_finds f.call.name.pos g, permission_finds m) refl

asserting_all_finds : {k : Context} {sc : VariableScope} {is : List t.Term} {xs : List e.Assertion} → AssertsAll k sc is xs →
    j.asserting_all k sc is ≡ Found xs
asserting_all_finds no_assertions = refl
asserting_all_finds (one_assertion h g) = rw (asserting_finds h, asserting_all_finds g) refl

mutual
  pub stepping_finds : {k : Context} {d : ℕ} {fr : MethodVariables} {a : s.SStmt} {x : c.Stmt} → Stepped.Stepped k d fr a x → stepping true k d fr a ≡ Found x
  stepping_finds (var {fr = fr} h g) = rw (fresh_finds h) (declaring_finds fr g)
  stepping_finds (assign h) = setting_finds h
  stepping_finds (call_to h d g) = rw (call_targets_find [] h d) (calling_finds g)
  stepping_finds (Stepped.call h) = calling_finds h
  stepping_finds (check h) = checking_finds h
  stepping_finds (folded h) = rw (folding_finds h) refl
  stepping_finds (unfolded h) = rw (folding_finds h) refl
  stepping_finds (if_arms h g i) = rw (branches_find h, otherwise_finds g, i) refl
  stepping_finds (while h g i) = rw (expected_finds h, asserting_all_finds g, blocking_finds i) refl

  pub blocking_finds : {k : Context} {d : ℕ} {fr : MethodVariables} {b : s.SBlock} {ss : c.Stmts} → Blocked k d fr b ss → blocking true k d fr b ≡ Found ss
  blocking_finds (block i h) = rw (i, stepping_all_finds h) refl

  pub stepping_all_finds : {k : Context} {d : ℕ} {fr : MethodVariables} {ss : s.SStmts} {xs : List c.Stmt} → SteppedAll k d fr ss xs →
      stepping_all true k d fr ss ≡ Found xs
  stepping_all_finds no_steps = refl
  stepping_all_finds (one_step h g) = rw (stepping_finds h, stepping_all_finds g) refl

  pub branches_find : {k : Context} {d : ℕ} {fr : MethodVariables} {arms : s.SArms} {bs : List Branch} → Branches k d fr arms bs →
      branches true k d fr arms ≡ Found bs
  branches_find no_branches = refl
  branches_find (one_branch h g) = rw (branch_finds h, branches_find g) refl

  pub branch_finds : {k : Context} {d : ℕ} {fr : MethodVariables} {a : s.SArm} {b : Branch} → IsBranch k d fr a b → branch true k d fr a ≡ Found b
  branch_finds (branch_of h g) = rw (expected_finds h, blocking_finds g) refl

  pub otherwise_finds : {k : Context} {d : ℕ} {fr : MethodVariables} {o : s.SElse} {ss : c.Stmts} → Otherwise k d fr o ss → otherwise true k d fr o ≡ Found ss
  otherwise_finds no_block = refl
  otherwise_finds (else_of h) = blocking_finds h

-- a statement is one statement of the core
pub one_step_of : {k : Context} {d : ℕ} {fr : MethodVariables} {a : s.SStmt} {x y : c.Stmt} → Stepped.Stepped k d fr a x → Stepped.Stepped k d fr a y → x ≡ y
one_step_of h g = one_found (stepping_finds h) (stepping_finds g)
