-- What the typing of statements finds has, in each loop, the targets of the loop.
use Rattle.std.proofs.Common.{◌≡◌, ℕ, ◌+◌, ◌++◌, ◌≤◌, Bool, true, false, Option, Some, None, List, [], ◌∷◌, nat_le, length, refl, subst, arith, length-append}
use Rattle.std.proofs.lemmas.Option.{same_Some}
use Rattle.vb_base.specs.Limits.{max_block_depth}
use Rattle.viper_types.proofs.CopiedTerms.{any_told as anything}
use Rattle.vb_base.specs.declared.places.Pos.{Pos}
use Rattle.vb_value.specs.Value.{same_type}
use Rattle.vb_value.specs.declared.values.Ty.{Ty}
use Rattle.vb_value.specs.declared.values.Ty.TheVariants as ty
use Rattle.viper_core.specs.Expr as e
use Rattle.viper_core.specs.Stmt as c
use Rattle.viper_syntax.specs.Term as t
use Rattle.viper_syntax.specs.Stmt as s
use Rattle.viper_syntax.specs.declared.stmts.Named.{Named}
use Rattle.viper_syntax.specs.declared.tokens.Word.{Word}
use Rattle.viper_syntax.specs.declared.tokens.Word.TheVariants as word
use Rattle.viper_scope.specs.declared.rules.Rule.TheVariants as rule
use Rattle.viper_scope.specs.Context.{World, Context, method_at, nowhere}
use Rattle.viper_scope.specs.Scope.{VariableScope}
use Rattle.viper_scope.specs.Arguments.{as_many, misfit}
use Rattle.viper_types.specs.Typing.{typing_all, expected, asserting}
use Rattle.viper_scope.specs.Types.{declared_type}
use Rattle.viper_types.specs.Frame.{MethodVariables, declared_in_arms, declared_in_block, declared_in_else, declared_in_arm, frame_after, with_hidden}
use Rattle.viper_scope.specs.Target.{targets}
use Rattle.viper_types.specs.Stepping as j
use Rattle.viper_types.specs.Stepping.{AssignedVariable, Branch, mistarget, alone, nested, arm_count, chosen_fields, target_place, asserting_all, stepping, blocking, stepping_all, otherwise}
use Rattle.viper_types.proofs.Tells.{Tells, tells, broken, tell_then, tell_known, tell_obeys, tell_clear}

abbrev pub is_plain : c.Stmt → Bool
is_plain (c.If at a b d) = false
is_plain (c.While w) = false
is_plain _ = true

-- each outermost loop has its targets, and so many variables at least are declared before it
mutual
  pub data ListLoops (below : ℕ) : c.Stmt → Type 0 where
    plain : {x : c.Stmt} → is_plain x ≡ true → ListLoops below x
    branches : {at : Pos} {guard : e.Expr} {a b : c.Stmts} → LoopsIn below a → LoopsIn below b → ListLoops below (c.If at guard a b)
    turns : {at turn : Pos} {guard : e.Expr} {is : List e.Assertion} {body : c.Stmts} {ts : List ℕ} (count : ℕ) → below ≤ count → ts ≡ targets count body →
        ListLoops below (c.While (c.loop at guard is body turn ts))

  pub data LoopsIn (below : ℕ) : c.Stmts → Type 0 where
    no_loops : LoopsIn below c.skip
    more_loops : {a : c.Stmt} {rest : c.Stmts} → ListLoops below a → LoopsIn below rest → LoopsIn below (c.next a rest)

mutual
  lower : {low below : ℕ} {x : c.Stmt} → low ≤ below → ListLoops below x → ListLoops low x
  lower le (plain is) = plain is
  lower le (branches h g) = branches (lower_all le h) (lower_all le g)
  lower le (turns count under is) = turns count (omega (arith, le, under)) is

  lower_all : {low below : ℕ} {ss : c.Stmts} → low ≤ below → LoopsIn below ss → LoopsIn low ss
  lower_all le no_loops = no_loops
  lower_all le (more_loops h g) = more_loops (lower le h) (lower_all le g)

-- ---- statements without a block

module _ (n : ℕ) where
  calls : (k : Context) (sc : VariableScope) (at : Pos) (vs : List AssignedVariable) (call : s.SCall) → Tells (ListLoops n) (j.calling k sc at vs call)
  calls k sc at vs call =
      tell_known (method_at k.world call.name.name) call.name.pos rule.UnknownName (λ m i. tell_then (anything (typing_all k sc (t.terms call.args))) (λ xs h.
      tell_obeys (as_many xs m.1.params) call.name.pos rule.ArgumentCount (λ i1. tell_obeys (as_many vs m.1.returns) call.name.pos rule.TargetCount (λ i2.
      tell_clear (mistarget vs m.1.returns) rule.WrongType (λ i3. tell_clear (misfit (t.terms call.args) xs m.1.params) rule.WrongType (λ i4. tells (plain refl)))))))

  creates : (w : World) (sc : VariableScope) (at : Pos) (x : ℕ) (new : s.SNew) → Tells (ListLoops n) (j.creating true w sc at x new)
  creates w sc at x new = tell_then (anything (chosen_fields true w new)) (λ fs h. tells (plain refl))

  declares : (k : Context) (fr : MethodVariables) (at : Pos) (v : AssignedVariable) (rhs : Option s.SRhs) → Tells (ListLoops n) (j.declaring true k fr at v rhs)
  declares k fr at v None = tells (plain refl)
  declares k fr at v (Some (s.TermRhs a)) = tell_then (anything (expected k fr.scope v.ty a)) (λ x h. tells (plain refl))
  declares k fr at v (Some (s.CallRhs call)) = calls k fr.scope at (v ∷ []) call
  declares k fr at v (Some (s.NewRhs new)) = tell_obeys (same_type v.ty ty.Ref) v.at rule.WrongType (λ i. creates k.world fr.scope at v.number new)

  into_field : (k : Context) (sc : VariableScope) (call : s.SCall) → Tells (ListLoops n) (j.calling_into_field k sc call)
  into_field k sc call =
      tell_known (method_at k.world call.name.name) call.name.pos rule.UnknownName (λ m i. tell_then (anything (typing_all k sc (t.terms call.args))) (λ xs h.
      tell_obeys (as_many xs m.1.params) call.name.pos rule.ArgumentCount (λ i1. broken)))

  sets : (k : Context) (sc : VariableScope) (xs : List Named) (rhs : s.SRhs) → Tells (ListLoops n) (j.setting true k sc xs rhs)
  sets k sc [] rhs = broken
  sets k sc (x ∷ []) (s.TermRhs a) = tell_then (anything (j.target sc x)) (λ v h. tell_then (anything (expected k sc v.ty a)) (λ y g. tells (plain refl)))
  sets k sc (x ∷ []) (s.CallRhs call) = tell_then (anything (j.target sc x)) (λ v h. calls k sc x.pos (v ∷ []) call)
  sets k sc (x ∷ []) (s.NewRhs new) = tell_then (anything (j.ref_target sc x)) (λ v h. creates k.world sc x.pos v.number new)
  sets k sc (x ∷ f ∷ fs) (s.TermRhs a) =
      tell_then (anything (target_place k sc x f fs)) (λ l h. tell_then (anything (expected k sc l.ty a)) (λ y g. tells (plain refl)))
  sets k sc (x ∷ f ∷ fs) (s.CallRhs call) = tell_then (anything (target_place k sc x f fs)) (λ l h. into_field k sc call)
  sets k sc (x ∷ f ∷ fs) (s.NewRhs new) = tell_then (anything (target_place k sc x f fs)) (λ l h. broken)

  checks : (k : Context) (sc : VariableScope) (w : Word) (at : Pos) (a : t.Term) → Tells (ListLoops n) (j.checking k sc w at a)
  checks k sc word.Inhale at a = tell_then (anything (asserting k sc a)) (λ x h. tells (plain refl))
  checks k sc word.Exhale at a = tell_then (anything (asserting k sc a)) (λ x h. tells (plain refl))
  checks k sc word.Assert at a = tell_then (anything (asserting k sc a)) (λ x h. tells (plain refl))
  checks k sc word.Assume at a = tell_then (anything (expected k sc ty.Bool a)) (λ x h. tells (plain refl))
  checks k sc _ at a = broken

-- ---- blocks

-- the blocks of arms
data BranchLoops (below : ℕ) : List Branch → Type 0 where
  no_arms : BranchLoops below []
  more_arms : {b : Branch} {bs : List Branch} → LoopsIn below b.body → BranchLoops below bs → BranchLoops below (b ∷ bs)

lower_arms : {low below : ℕ} {bs : List Branch} → low ≤ below → BranchLoops below bs → BranchLoops low bs
lower_arms le no_arms = no_arms
lower_arms le (more_arms h g) = more_arms (lower_all le h) (lower_arms le g)

alone_loops : {n : ℕ} (o : Option c.Stmt) (other : c.Stmts) → ((y : c.Stmt) → o ≡ Some y → ListLoops n y) → LoopsIn n other → LoopsIn n (alone o other)
alone_loops None other h g = g
alone_loops (Some y) other h g = more_loops (h y refl) no_loops

nested_loops : {n : ℕ} {bs : List Branch} (other : c.Stmts) → BranchLoops n bs → LoopsIn n other → (x : c.Stmt) → nested bs other ≡ Some x → ListLoops n x
nested_loops other no_arms g x is = absurd (cc)
nested_loops {n} other (more_arms {b = b} {bs = bs} h more) g x is =
    subst (λ y. ListLoops n y) (same_Some _ _ is) (branches h (alone_loops (nested bs other) other (nested_loops other more g) g))

more_vars : (fr : MethodVariables) (us : List Ty) → length fr.vars ≤ length (with_hidden fr us).vars
more_vars fr us = omega (arith, length-append fr.vars us)

vars_stay : (fr : MethodVariables) (a : s.SStmt) → length fr.vars ≤ length (frame_after fr a).vars
vars_stay fr (s.Var at f rhs) = omega (arith, length-append fr.vars (declared_type f ∷ []))
vars_stay fr (s.Assign xs rhs) = omega arith
vars_stay fr (s.CallTo xs call) = omega arith
vars_stay fr (s.Call call) = omega arith
vars_stay fr (s.Check w at a) = omega arith
vars_stay fr (s.Fold f) = omega arith
vars_stay fr (s.Unfold f) = omega arith
vars_stay fr (s.If arms other) = more_vars fr (declared_in_arms arms ++ declared_in_else other)
vars_stay fr (s.While at a is b) = more_vars fr (declared_in_block b)

mutual
  stmt_loops : (k : Context) (d : ℕ) (fr : MethodVariables) (a : s.SStmt) → Tells (ListLoops (length fr.vars)) (stepping true k d fr a)
  stmt_loops k d fr (s.Var at f rhs) = tell_then (anything (j.fresh fr f)) (λ v h. declares (length fr.vars) k fr at v rhs)
  stmt_loops k d fr (s.Assign xs rhs) = sets (length fr.vars) k fr.scope xs rhs
  stmt_loops k d fr (s.CallTo xs a) = tell_then (anything (j.call_targets fr.scope [] xs)) (λ vs h. calls (length fr.vars) k fr.scope _ vs a)
  stmt_loops k d fr (s.Call a) = calls (length fr.vars) k fr.scope a.name.pos [] a
  stmt_loops k d fr (s.Check w at a) = checks (length fr.vars) k fr.scope w at a
  stmt_loops k d fr (s.Fold f) = tell_then (anything (j.folding k fr.scope f)) (λ x h. tells (plain refl))
  stmt_loops k d fr (s.Unfold f) = tell_then (anything (j.folding k fr.scope f)) (λ x h. tells (plain refl))
  stmt_loops k d fr (s.If arms other) =
      tell_then (branches_loops k (d + 1) fr arms) (λ bs h. tell_then (else_loops k (d + arm_count arms) (with_hidden fr (declared_in_arms arms)) other) (λ ss g.
      tell_known (nested bs ss) nowhere rule.WrongType (λ x i. tells (nested_loops ss h (lower_all (more_vars fr (declared_in_arms arms)) g) x i))))
  stmt_loops k d fr (s.While at a is body) =
      tell_then (anything (expected k fr.scope ty.Bool a)) (λ x h. tell_then (anything (asserting_all k fr.scope is)) (λ xs g.
      tell_then (anything (blocking true k (d + 1) fr body)) (λ ss i. tells (turns (length fr.vars) (omega arith) refl))))

  pub block_loops : (k : Context) (d : ℕ) (fr : MethodVariables) (a : s.SBlock) → Tells (LoopsIn (length fr.vars)) (blocking true k d fr a)
  block_loops k d fr (s.block at ss) = tell_obeys (nat_le d max_block_depth) at rule.TooDeep (λ i. tell_then (all_loops k d fr ss) (λ xs h. tells h))

  all_loops : (k : Context) (d : ℕ) (fr : MethodVariables) (ss : s.SStmts) → Tells (λ xs. LoopsIn (length fr.vars) (c.stmts xs)) (stepping_all true k d fr ss)
  all_loops k d fr s.no_stmts = tells no_loops
  all_loops k d fr (s.more_stmts a rest) =
      tell_then (stmt_loops k d fr a) (λ x h. tell_then (all_loops k d (frame_after fr a) rest) (λ xs g. tells (more_loops h (lower_all (vars_stay fr a) g))))

  branches_loops : (k : Context) (d : ℕ) (fr : MethodVariables) (arms : s.SArms) → Tells (BranchLoops (length fr.vars)) (j.branches true k d fr arms)
  branches_loops k d fr s.no_arms = tells no_arms
  branches_loops k d fr (s.more_arms a rest) =
      tell_then (branch_loops k d fr a) (λ x h. tell_then (branches_loops k (d + 1) (with_hidden fr (declared_in_arm a)) rest) (λ xs g.
      tells (more_arms h (lower_arms (more_vars fr (declared_in_arm a)) g))))

  branch_loops : (k : Context) (d : ℕ) (fr : MethodVariables) (a : s.SArm) → Tells (λ b. LoopsIn (length fr.vars) b.body) (j.branch true k d fr a)
  branch_loops k d fr (s.arm at a body) = tell_then (anything (expected k fr.scope ty.Bool a)) (λ x h. tell_then (block_loops k d fr body) (λ ss g. tells g))

  else_loops : (k : Context) (d : ℕ) (fr : MethodVariables) (o : s.SElse) → Tells (LoopsIn (length fr.vars)) (otherwise true k d fr o)
  else_loops k d fr s.no_else = tells no_loops
  else_loops k d fr (s.else_block body) = block_loops k d fr body
