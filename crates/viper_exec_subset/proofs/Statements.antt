-- A typed statement has an `inhale` only where its source has a check by `inhale` or `assume`.
use Rattle.std.specs.Prelude.{◌≡◌, ℕ, Option, Some, None, List, [], ◌∷◌}
use Rattle.std.proofs.Common.{refl, subst}
use Rattle.std.proofs.lemmas.Option.{same_Some}
use Rattle.std.specs.List.{AllByRecursion}
use Rattle.viper_core.specs.Stmt as c
use Rattle.viper_syntax.specs.Stmt as s
use Rattle.viper_syntax.specs.Term as t
use Rattle.viper_syntax.specs.declared.tokens.Word.{Word}
use Rattle.viper_scope.specs.Context.{World, Context}
use Rattle.viper_scope.specs.Scope.{VariableScope}
use Rattle.viper_types.specs.Frame.{MethodVariables}
use Rattle.viper_types.specs.Stepping.{AssignedVariable, Branch, alone, nested}
use Rattle.viper_types.specs.Stepped as p
use Rattle.viper_types.specs.Stepped.{IsCall, call_of, IsNew, new_of, Declares, Sets, Checks, Stepped, Blocked, SteppedAll, Branches, IsBranch, Otherwise}
use Rattle.viper_exec_meaning.specs.Frame.{IsFramedStmt, AreFramedStmts}
use Rattle.viper_exec_subset.proofs.Framed.{IsFramedWord, IsFramedTerm, IsFramedSource, IsFramedBlock, IsFramedArm, IsFramedElse, AreFramedSources, AreFramedArms}
use Rattle.viper_exec_subset.proofs.Terms.{asserts_written, assertions_written}

-- ---- statements without blocks

call_framed : {k : Context} {sc : VariableScope} {at : _} {vs : List AssignedVariable} {call : s.SCall} {x : c.Stmt} → IsCall k sc at vs call x → IsFramedStmt x
call_framed (call_of is args takes) = tt

new_framed : {w : World} {sc : VariableScope} {at : _} {n : ℕ} {new : s.SNew} {x : c.Stmt} → IsNew w sc at n new x → IsFramedStmt x
new_framed (new_of h) = tt

declared_framed : {k : Context} {sc : VariableScope} {at : _} {v : AssignedVariable} {rhs : Option s.SRhs} {x : c.Stmt} → Declares k sc at v rhs x → IsFramedStmt x
declared_framed p.any_value = tt
declared_framed (p.value h) = tt
declared_framed (p.Declares.returned h) = call_framed h
declared_framed (p.Declares.created is h) = new_framed h

set_framed : {k : Context} {sc : VariableScope} {xs : _} {rhs : s.SRhs} {x : c.Stmt} → Sets k sc xs rhs x → IsFramedStmt x
set_framed (p.variable v h) = tt
set_framed (p.Sets.returned v h) = call_framed h
set_framed (p.Sets.created v is h) = new_framed h
set_framed (p.field l h) = tt

check_framed : {k : Context} {sc : VariableScope} {at : _} {a : t.Term} {w : Word} {x : c.Stmt} → Checks k sc at a w x → IsFramedWord w → IsFramedTerm a → IsFramedStmt x
check_framed (p.inhale h) i j = absurd (cc)
check_framed (p.exhale h) i j = asserts_written h j
check_framed (p.asserted h) i j = asserts_written h j
check_framed (p.assume h) i j = absurd (cc)

-- ---- an `if` of several arms

abbrev IsFramedBranch : Branch → Type 0
IsFramedBranch b = AreFramedStmts b.body

alone_framed : (a : Option c.Stmt) (other : c.Stmts) → ((x : c.Stmt) → a ≡ Some x → IsFramedStmt x) → AreFramedStmts other → AreFramedStmts (alone a other)
alone_framed None other h g = g
alone_framed (Some x) other h g = (h x refl, tt)

nested_framed : (bs : List Branch) (other : c.Stmts) → AllByRecursion IsFramedBranch bs → AreFramedStmts other → (x : c.Stmt) → nested bs other ≡ Some x → IsFramedStmt x
nested_framed [] other h g x is = absurd (cc)
nested_framed (b ∷ bs) other h g x is =
    subst IsFramedStmt (same_Some _ _ is) (h.0, alone_framed (nested bs other) other (nested_framed bs other h.1 g) g)

-- ---- all statements

mutual
  step_framed : {k : Context} {n : ℕ} {fr : MethodVariables} {a : s.SStmt} {x : c.Stmt} → Stepped k n fr a x → IsFramedSource a → IsFramedStmt x
  step_framed (p.var is h) i = declared_framed h
  step_framed (p.assign h) i = set_framed h
  step_framed (p.call_to are apart h) i = call_framed h
  step_framed (p.call h) i = call_framed h
  step_framed (p.check h) i = check_framed h i.0 i.1
  step_framed (p.folded h) i = tt
  step_framed (p.unfolded h) i = tt
  step_framed (p.if_arms {bs = bs} {ss = ss} {x = x} h g is) i = nested_framed bs ss (arms_framed h i.0) (else_framed g i.1) x is
  step_framed (p.while guard h g) i = (assertions_written h i.0, block_framed g i.1)

  pub block_framed : {k : Context} {n : ℕ} {fr : MethodVariables} {b : s.SBlock} {xs : c.Stmts} → Blocked k n fr b xs → IsFramedBlock b → AreFramedStmts xs
  block_framed (p.block depth h) i = steps_framed h i

  steps_framed : {k : Context} {n : ℕ} {fr : MethodVariables} {ss : s.SStmts} {xs : List c.Stmt} → SteppedAll k n fr ss xs → AreFramedSources ss → AreFramedStmts (c.stmts xs)
  steps_framed p.no_steps i = tt
  steps_framed (p.one_step h hs) i = (step_framed h i.0, steps_framed hs i.1)

  arms_framed : {k : Context} {n : ℕ} {fr : MethodVariables} {arms : s.SArms} {bs : List Branch} → Branches k n fr arms bs → AreFramedArms arms → AllByRecursion IsFramedBranch bs
  arms_framed p.no_branches i = tt
  arms_framed (p.one_branch h hs) i = (arm_framed h i.0, arms_framed hs i.1)

  arm_framed : {k : Context} {n : ℕ} {fr : MethodVariables} {a : s.SArm} {b : Branch} → IsBranch k n fr a b → IsFramedArm a → IsFramedBranch b
  arm_framed (p.branch_of guard h) i = block_framed h i

  else_framed : {k : Context} {n : ℕ} {fr : MethodVariables} {other : s.SElse} {xs : c.Stmts} → Otherwise k n fr other xs → IsFramedElse other → AreFramedStmts xs
  else_framed p.no_block i = tt
  else_framed (p.else_of h) i = block_framed h i
