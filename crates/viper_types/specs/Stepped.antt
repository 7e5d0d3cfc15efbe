-- The typing of statements (Viper tutorial, "Statements"): which statement of the core a statement is, in a block of which
-- depth, among which variables.
use Rattle.std.specs.Prelude.{◌≡◌, ◌≢◌, ℕ, ◌+◌, true, false, nat_le, Option, Some, None, List, [], ◌∷◌, AllPairs, length}
use Rattle.std.specs.List.{range_with_len}
use Rattle.vb_base.specs.Limits.{max_block_depth}
use Rattle.vb_base.specs.declared.places.Pos.{Pos}
use Rattle.vb_value.specs.declared.values.Ty.{Ty}
use Rattle.vb_value.specs.declared.values.Ty.TheVariants as ty
use Rattle.viper_core.specs.Expr as e
use Rattle.viper_core.specs.Stmt as c
use Rattle.viper_syntax.specs.Term as t
use Rattle.viper_syntax.specs.Stmt as s
use Rattle.viper_syntax.specs.declared.stmts.Named.{Named}
use Rattle.viper_syntax.specs.declared.stmts.Formal.{Formal}
use Rattle.viper_syntax.specs.declared.tokens.Word.{Word}
use Rattle.viper_syntax.specs.declared.tokens.Word.TheVariants as word
use Rattle.viper_scope.specs.declared.context.Variable.{Variable}
use Rattle.viper_scope.specs.Context.{World, Context, Signature, MethodSignature, find, field_at, predicate_at, method_at}
use Rattle.viper_scope.specs.Scope.{VariableScope, ref_variables}
use Rattle.viper_scope.specs.Arguments.{start}
use Rattle.viper_types.specs.Typing.{Located}
use Rattle.viper_types.specs.Typed.{Typed, TypedAll, Permission, Asserts}
use Rattle.viper_scope.specs.Types.{type_of}
use Rattle.viper_types.specs.Frame.{MethodVariables, declared_in_arms, declared_in_arm, frame_after, with_hidden}
use Rattle.viper_scope.specs.Target.{targets}
use Rattle.viper_types.specs.Stepping.{AssignedVariable, numbers_in, last_place, first_place, Branch, nested, arm_count, opening_of}

-- a new variable: its name is not visible yet
pub data IsFresh (fr : MethodVariables) (f : Formal) : AssignedVariable → Type 0 where
  fresh : {u : Ty} → find fr.scope f.name.name ≡ None → type_of f.ty ≡ Some u → IsFresh fr f (record { number = length fr.vars; ty = u; at = f.name.pos })

-- a visible variable that is no parameter
pub data IsTarget (sc : VariableScope) (x : Named) : AssignedVariable → Type 0 where
  target : {v : Variable} → find sc x.name ≡ Some v → v.is_parameter ≡ false → IsTarget sc x (record { number = v.number; ty = v.ty; at = x.pos })

-- such variables
pub data AreTargets (sc : VariableScope) : List Named → List AssignedVariable → Type 0 where
  no_more : AreTargets sc [] []
  one_more : {x : Named} {xs : List Named} {v : AssignedVariable} {vs : List AssignedVariable} → IsTarget sc x v → AreTargets sc xs vs → AreTargets sc (x ∷ xs) (v ∷ vs)

-- targets for the returns of a method
pub data TakeReturns : List AssignedVariable → List Ty → Type 0 where
  no_returns : TakeReturns [] []
  one_return : {v : AssignedVariable} {vs : List AssignedVariable} {us : List Ty} → TakeReturns vs us → TakeReturns (v ∷ vs) (v.ty ∷ us)

-- a call of a method into these targets
pub data IsCall (k : Context) (sc : VariableScope) (at : Pos) (vs : List AssignedVariable) (call : s.SCall) : c.Stmt → Type 0 where
  call_of : {n : ℕ} {m : MethodSignature} {es : e.Exprs} → method_at k.world call.name.name ≡ Some (n, m) → TypedAll k sc (t.terms call.args) es m.params →
      TakeReturns vs m.returns → IsCall k sc at vs call (c.Call at (numbers_in vs) n es)

-- named fields
pub data AreFields (w : World) : List Named → List ℕ → Type 0 where
  no_fields : AreFields w [] []
  one_field : {f : Named} {fs : List Named} {n : ℕ} {u : Ty} {ns : List ℕ} → field_at w f.name ≡ Some (n, u) → AreFields w fs ns → AreFields w (f ∷ fs) (n ∷ ns)

-- the fields of a `new`: those that it names, no two of which are the same, or with `*` all
pub data ChoosesFields (w : World) (new : s.SNew) : List ℕ → Type 0 where
  every : new.every ≡ true → ChoosesFields w new (range_with_len 0 (length w.fields))
  named : {ns : List ℕ} → new.every ≡ false → AreFields w new.fields ns → AllPairs (λ x y. x ≢ y) ns → ChoosesFields w new ns

-- a creation of an object
pub data IsNew (w : World) (sc : VariableScope) (at : Pos) (n : ℕ) (new : s.SNew) : c.Stmt → Type 0 where
  new_of : {ns : List ℕ} → ChoosesFields w new ns → IsNew w sc at n new (c.New at n ns (ref_variables sc))

-- `a.f.g` is a place: the receiver is a Ref, and so is each field but the last
pub data IsPlace (k : Context) (sc : VariableScope) : t.Term → Named → List Named → Located → Type 0 where
  of_field : {a : t.Term} {f : Named} {x : e.Expr} {n : ℕ} {u : Ty} → Typed k sc a x ty.Ref → field_at k.world f.name ≡ Some (n, u) →
      IsPlace k sc a f [] (record { receiver = x; field = n; ty = u })
  of_further : {a : t.Term} {f g : Named} {gs : List Named} {l : Located} → IsPlace k sc (t.Field a f.name f.pos) g gs l → IsPlace k sc a f (g ∷ gs) l

-- what a declaration gives its variable
pub data Declares (k : Context) (sc : VariableScope) (at : Pos) (v : AssignedVariable) : Option s.SRhs → c.Stmt → Type 0 where
  any_value : Declares k sc at v None (c.Var at v.number None)
  value : {a : t.Term} {x : e.Expr} → Typed k sc a x v.ty → Declares k sc at v (Some (s.TermRhs a)) (c.Var at v.number (Some x))
  returned : {call : s.SCall} {x : c.Stmt} → IsCall k sc at (v ∷ []) call x → Declares k sc at v (Some (s.CallRhs call)) x
  created : {new : s.SNew} {x : c.Stmt} → v.ty ≡ ty.Ref → IsNew k.world sc at v.number new x → Declares k sc at v (Some (s.NewRhs new)) x

-- an assignment to a variable or a field
pub data Sets (k : Context) (sc : VariableScope) : List Named → s.SRhs → c.Stmt → Type 0 where
  variable : {x : Named} {v : AssignedVariable} {a : t.Term} {y : e.Expr} → IsTarget sc x v → Typed k sc a y v.ty → Sets k sc (x ∷ []) (s.TermRhs a) (c.Assign x.pos v.number y)
  returned : {x : Named} {v : AssignedVariable} {call : s.SCall} {y : c.Stmt} → IsTarget sc x v → IsCall k sc x.pos (v ∷ []) call y → Sets k sc (x ∷ []) (s.CallRhs call) y
  created : {x : Named} {v : AssignedVariable} {new : s.SNew} {y : c.Stmt} → IsTarget sc x v → v.ty ≡ ty.Ref → IsNew k.world sc x.pos v.number new y → Sets k sc (x ∷ []) (s.NewRhs new) y
  field : {x f : Named} {fs : List Named} {l : Located} {a : t.Term} {y : e.Expr} → IsPlace k sc (t.Name x.name x.pos) f fs l → Typed k sc a y l.ty →
      Sets k sc (x ∷ f ∷ fs) (s.TermRhs a) (c.Write x.pos l.receiver l.field (last_place f fs) y)

-- `inhale`, `exhale`, `assert` and `assume`, the last with an expression
pub data Checks (k : Context) (sc : VariableScope) (at : Pos) (a : t.Term) : Word → c.Stmt → Type 0 where
  inhale : {x : e.Assertion} → Asserts k sc a x → Checks k sc at a word.Inhale (c.Inhale at x)
  exhale : {x : e.Assertion} → Asserts k sc a x → Checks k sc at a word.Exhale (c.Exhale at x)
  asserted : {x : e.Assertion} → Asserts k sc a x → Checks k sc at a word.Assert (c.Assert at x)
  assume : {x : e.Expr} → Typed k sc a x ty.Bool → Checks k sc at a word.Assume (c.Inhale at (e.Fact x (start a)))

-- the instance of a `fold` or `unfold`: its predicate has a body
pub data IsFold (k : Context) (sc : VariableScope) (f : s.SFold) : c.FoldStmt → Type 0 where
  fold_of : {n : ℕ} {p : Signature} {es : e.Exprs} {m : e.Expr} → predicate_at k.world f.call.name.name ≡ Some (n, p) → p.has_body ≡ true →
      TypedAll k sc (t.terms f.call.args) es p.params → Permission k sc f.amount m →
      IsFold k sc f (record { at = f.at; predicate = n; args = es; amount = m; place = f.call.name.pos })

-- assertions in order
pub data AssertsAll (k : Context) (sc : VariableScope) : List t.Term → List e.Assertion → Type 0 where
  no_assertions : AssertsAll k sc [] []
  one_assertion : {a : t.Term} {rest : List t.Term} {x : e.Assertion} {xs : List e.Assertion} → Asserts k sc a x → AssertsAll k sc rest xs → AssertsAll k sc (a ∷ rest) (x ∷ xs)

mutual
  pub data Stepped (k : Context) : ℕ → MethodVariables → s.SStmt → c.Stmt → Type 0 where
    var : {d : ℕ} {fr : MethodVariables} {at : Pos} {f : Formal} {rhs : Option s.SRhs} {v : AssignedVariable} {x : c.Stmt} →
        IsFresh fr f v → Declares k fr.scope at v rhs x → Stepped k d fr (s.Var at f rhs) x
    assign : {d : ℕ} {fr : MethodVariables} {xs : List Named} {rhs : s.SRhs} {x : c.Stmt} → Sets k fr.scope xs rhs x → Stepped k d fr (s.Assign xs rhs) x
    call_to : {d : ℕ} {fr : MethodVariables} {xs : List Named} {vs : List AssignedVariable} {call : s.SCall} {x : c.Stmt} →
        AreTargets fr.scope xs vs → AllPairs (λ x y. x ≢ y) (numbers_in vs) → IsCall k fr.scope (first_place xs) vs call x → Stepped k d fr (s.CallTo xs call) x
    call : {d : ℕ} {fr : MethodVariables} {call : s.SCall} {x : c.Stmt} → IsCall k fr.scope call.name.pos [] call x → Stepped k d fr (s.Call call) x
    check : {d : ℕ} {fr : MethodVariables} {w : Word} {at : Pos} {a : t.Term} {x : c.Stmt} → Checks k fr.scope at a w x → Stepped k d fr (s.Check w at a) x
    folded : {d : ℕ} {fr : MethodVariables} {f : s.SFold} {x : c.FoldStmt} → IsFold k fr.scope f x → Stepped k d fr (s.Fold f) (c.Fold x)
    unfolded : {d : ℕ} {fr : MethodVariables} {f : s.SFold} {x : c.FoldStmt} → IsFold k fr.scope f x → Stepped k d fr (s.Unfold f) (c.Unfold x)
    if_arms : {d : ℕ} {fr : MethodVariables} {arms : s.SArms} {other : s.SElse} {bs : List Branch} {ss : c.Stmts} {x : c.Stmt} →
        Branches k (d + 1) fr arms bs → Otherwise k (d + arm_count arms) (with_hidden fr (declared_in_arms arms)) other ss → nested bs ss ≡ Some x →
        Stepped k d fr (s.If arms other) x
    while : {d : ℕ} {fr : MethodVariables} {at : Pos} {a : t.Term} {is : List t.Term} {b : s.SBlock} {x : e.Expr} {xs : List e.Assertion} {ss : c.Stmts} →
        Typed k fr.scope a x ty.Bool → AssertsAll k fr.scope is xs → Blocked k (d + 1) fr b ss →
        Stepped k d fr (s.While at a is b) (c.While (c.loop at x xs ss (opening_of b) (targets (length fr.vars) ss)))

  -- a block, which is not too deep
  pub data Blocked (k : Context) : ℕ → MethodVariables → s.SBlock → c.Stmts → Type 0 where
    block : {d : ℕ} {fr : MethodVariables} {at : Pos} {ss : s.SStmts} {xs : List c.Stmt} → nat_le d max_block_depth ≡ true → SteppedAll k d fr ss xs → Blocked k d fr (s.block at ss) (c.stmts xs)

  pub data SteppedAll (k : Context) : ℕ → MethodVariables → s.SStmts → List c.Stmt → Type 0 where
    no_steps : {d : ℕ} {fr : MethodVariables} → SteppedAll k d fr s.no_stmts []
    one_step : {d : ℕ} {fr : MethodVariables} {a : s.SStmt} {rest : s.SStmts} {x : c.Stmt} {xs : List c.Stmt} →
        Stepped k d fr a x → SteppedAll k d (frame_after fr a) rest xs → SteppedAll k d fr (s.more_stmts a rest) (x ∷ xs)

  -- the arms of an `if`, each further one a block deeper
  pub data Branches (k : Context) : ℕ → MethodVariables → s.SArms → List Branch → Type 0 where
    no_branches : {d : ℕ} {fr : MethodVariables} → Branches k d fr s.no_arms []
    one_branch : {d : ℕ} {fr : MethodVariables} {a : s.SArm} {rest : s.SArms} {b : Branch} {bs : List Branch} →
        IsBranch k d fr a b → Branches k (d + 1) (with_hidden fr (declared_in_arm a)) rest bs → Branches k d fr (s.more_arms a rest) (b ∷ bs)

  pub data IsBranch (k : Context) : ℕ → MethodVariables → s.SArm → Branch → Type 0 where
    branch_of : {d : ℕ} {fr : MethodVariables} {at : Pos} {a : t.Term} {b : s.SBlock} {x : e.Expr} {ss : c.Stmts} →
        Typed k fr.scope a x ty.Bool → Blocked k d fr b ss → IsBranch k d fr (s.arm at a b) (record { at = at; condition = x; body = ss })

  pub data Otherwise (k : Context) : ℕ → MethodVariables → s.SElse → c.Stmts → Type 0 where
    no_block : {d : ℕ} {fr : MethodVariables} → Otherwise k d fr s.no_else c.skip
    else_of : {d : ℕ} {fr : MethodVariables} {b : s.SBlock} {ss : c.Stmts} → Blocked k d fr b ss → Otherwise k d fr (s.else_block b) ss
