-- Types of programs with loops, calls and contracts (Leino, This is Boogie 2, sections 8 and 9). What is the same without them
-- has the types that it has there.
use Rattle.std.specs.Prelude.{◌≡◌, ◌≢◌, ◌+◌, ◌<◌, ◌≤◌, ⊤, ℕ, suc, Bool as Truth, true, false, ◌&&◌, ◌==◌, not, nat_le, List, [], ◌∷◌, map, length, All, AllPairs, Option, Some, None, slice_get, if◌then◌else◌}
use Rattle.std.specs.List.{AllZip, list_all}
use Rattle.std.specs.Option.{option_map}
use Rattle.boogie_tree.specs.Expr as t
use Rattle.boogie_tree.specs.Stmt as s
use Rattle.boogie_tree.specs.Program.{BType}
use Rattle.boogie_tree.specs.Values.{plain_type}
use Rattle.boogie_tree.specs.declared.exprs.BBase.{BBase}
use Rattle.boogie_tree.specs.declared.exprs.BBase.TheVariants as base
use Rattle.boogie_meaning.specs.Programs.{HaveKeys, have_keys}
use Rattle.boogie_meaning.specs.Types.{HasType, IsTypedStmt, then_some, base_of, is_base, is_type, is_typed_stmt}
use Rattle.boogie_loops.specs.Wide as w
use Rattle.boogie_loops.specs.Wide.{Clause, WProc, WProgram}
use Rattle.boogie_loops.specs.Procedures.{wide_types, param_types, return_types, head_types, proc_named}

-- each condition is a bool
abbrev pub AreBools : List BType → List Clause → Type 0
AreBools ls clauses = All (λ c. HasType ls None c.e base.Bool) clauses

-- the guard of a loop is a bool, where it has one
abbrev pub IsGuard : List BType → Option t.BExpr → Type 0
IsGuard ls None = ⊤
IsGuard ls (Some e) = HasType ls None e base.Bool

-- as many expressions, each of its type
pub data HaveBases (ls : List BType) : t.BExprs → List BBase → Type 0 where
  none : HaveBases ls t.none []
  more : {a : t.BExpr} {es : t.BExprs} {u : BBase} {us : List BBase} → HasType ls None a u → HaveBases ls es us → HaveBases ls (t.more a es) (u ∷ us)

-- The procedure that is called is there. Each argument has the type of its parameter, and each target is a variable of the type
-- of its return, no parameter of the caller, and no target twice.
pub record IsCall (ps : List WProc) (ls : List BType) (params : ℕ) (is : List ℕ) (name : List ℕ) (es : t.BExprs) : Type 0 where
  pub callee : WProc
  pub named : proc_named ps name ≡ Some callee
  pub bases : List BBase
  pub plain : param_types callee ≡ map plain_type bases
  pub arguments : HaveBases ls es bases
  pub targets : AllZip (λ i u. slice_get ls i ≡ Some u) is (return_types callee)
  pub own : All (λ i. params ≤ i) is
  pub differ : AllPairs (λ i j. i ≢ j) is

mutual
  -- By the procedures of the program, the types of the variables, and how many of them are parameters: these come first, and
  -- no statement changes them.
  pub data IsWideStmt (ps : List WProc) (ls : List BType) (params : ℕ) : w.WStmt → Type 0 where
    assign : {i : ℕ} {e : t.BExpr} → params ≤ i → IsTypedStmt ls (s.Assign i e) → IsWideStmt ps ls params (w.Assign i e)
    put : {i : ℕ} {es : t.BExprs} {e : t.BExpr} → params ≤ i → IsTypedStmt ls (s.Put i es e) → IsWideStmt ps ls params (w.Put i es e)
    havoc : {i : ℕ} → params ≤ i → IsTypedStmt ls (s.Havoc i) → IsWideStmt ps ls params (w.Havoc i)
    assume_ : {e : t.BExpr} → HasType ls None e base.Bool → IsWideStmt ps ls params (w.Assume e)
    assert_ : {l : _} {e : t.BExpr} → HasType ls None e base.Bool → IsWideStmt ps ls params (w.Assert l e)
    if_ : {e : t.BExpr} {xs ys : w.WStmts} → HasType ls None e base.Bool → IsWide ps ls params xs → IsWide ps ls params ys →
        IsWideStmt ps ls params (w.If e xs ys)
    either : {xs ys : w.WStmts} → IsWide ps ls params xs → IsWide ps ls params ys → IsWideStmt ps ls params (w.Either xs ys)
    while_ : {g : Option t.BExpr} {invariants : List Clause} {xs : w.WStmts} → IsGuard ls g → AreBools ls invariants → IsWide ps ls params xs →
        IsWideStmt ps ls params (w.While g invariants xs)
    call_ : {is : List ℕ} {name : List ℕ} {es : t.BExprs} → IsCall ps ls params is name es → IsWideStmt ps ls params (w.Call is name es)

  -- each statement of a block is well-typed
  pub data IsWide (ps : List WProc) (ls : List BType) (params : ℕ) : w.WStmts → Type 0 where
    skip : IsWide ps ls params w.skip
    first : {x : w.WStmt} {xs : w.WStmts} → IsWideStmt ps ls params x → IsWide ps ls params xs → IsWide ps ls params (w.first x xs)

-- there is no body, or it is well-typed
abbrev pub IsWideBody : List WProc → List BType → ℕ → Option w.WStmts → Type 0
IsWideBody ps ls params None = ⊤
IsWideBody ps ls params (Some xs) = IsWide ps ls params xs

-- The types of the variables are types. The parameters and the returns are among the variables, and are no maps. A precondition
-- is over the parameters alone, and a postcondition over both.
pub record IsWideProc (ps : List WProc) (d : WProc) : Type 0 where
  pub keys : HaveKeys (wide_types d)
  pub there : d.params + d.returns ≤ length d.locals
  pub plain : All (λ u. u.keys ≡ []) (head_types d)
  pub preconditions : AreBools (param_types d) d.preconditions
  pub postconditions : AreBools (head_types d) d.postconditions
  pub body : IsWideBody ps (wide_types d) d.params d.body

-- each procedure is well-typed
abbrev pub IsWideProgram : WProgram → Type 0
IsWideProgram program = (n : ℕ) (d : WProc) → slice_get program.procs n ≡ Some d → IsWideProc program.procs d

-- the procedure of this number, from 1 on, is ill-typed, and each before it is well-typed
pub record IsFirstIllTypedWide (program : WProgram) (number : ℕ) : Type 0 where
  pub place : ℕ
  pub is_number : number ≡ suc place
  pub procedure : WProc
  pub is_there : slice_get program.procs place ≡ Some procedure
  pub is_ill_typed : IsWideProc program.procs procedure → ⊥
  pub before : (n : ℕ) (d : WProc) → n < place → slice_get program.procs n ≡ Some d → IsWideProc program.procs d

-- ---- the same as functions

abbrev pub is_bool : List BType → t.BExpr → Truth
is_bool ls e = is_base (base_of ls None e) base.Bool

abbrev pub are_bools : List BType → List Clause → Truth
are_bools ls clauses = list_all (λ c. is_bool ls c.e) clauses

abbrev pub is_guard : List BType → Option t.BExpr → Truth
is_guard ls None = true
is_guard ls (Some e) = is_bool ls e

-- an expression of a type that is no map
abbrev pub is_argument : List BType → t.BExpr → BType → Truth
is_argument ls a u = is_type (Some u) (then_some (base_of ls None a) (λ b. Some (plain_type b)))

abbrev pub are_arguments : List BType → t.BExprs → List BType → Truth
are_arguments ls t.none [] = true
are_arguments ls (t.more a es) (u ∷ us) = is_argument ls a u && are_arguments ls es us
are_arguments _ _ _ = false

abbrev pub are_targets : List BType → List ℕ → List BType → Truth
are_targets ls [] [] = true
are_targets ls (i ∷ is) (u ∷ us) = is_type (slice_get ls i) (Some u) && are_targets ls is us
are_targets _ _ _ = false

-- no number stands twice
abbrev pub all_differ : List ℕ → Truth
all_differ [] = true
all_differ (i ∷ is) = list_all (λ j. not (i == j)) is && all_differ is

abbrev pub is_call_of : List BType → ℕ → List ℕ → t.BExprs → Option WProc → Truth
is_call_of ls params is es None = false
is_call_of ls params is es (Some d) =
    are_arguments ls es (param_types d) && (are_targets ls is (return_types d) && (list_all (nat_le params) is && all_differ is))

abbrev mutual
  pub is_wide_stmt : List WProc → List BType → ℕ → w.WStmt → Truth
  is_wide_stmt ps ls params (w.Assign i e) = nat_le params i && is_typed_stmt ls (s.Assign i e)
  is_wide_stmt ps ls params (w.Put i es e) = nat_le params i && is_typed_stmt ls (s.Put i es e)
  is_wide_stmt ps ls params (w.Havoc i) = nat_le params i && is_typed_stmt ls (s.Havoc i)
  is_wide_stmt ps ls params (w.Assume e) = is_bool ls e
  is_wide_stmt ps ls params (w.Assert l e) = is_bool ls e
  is_wide_stmt ps ls params (w.If e xs ys) = is_bool ls e && (is_wide ps ls params xs && is_wide ps ls params ys)
  is_wide_stmt ps ls params (w.Either xs ys) = is_wide ps ls params xs && is_wide ps ls params ys
  is_wide_stmt ps ls params (w.While g invariants xs) = is_guard ls g && (are_bools ls invariants && is_wide ps ls params xs)
  is_wide_stmt ps ls params (w.Call is name es) = is_call_of ls params is es (proc_named ps name)

  pub is_wide : List WProc → List BType → ℕ → w.WStmts → Truth
  is_wide ps ls params w.skip = true
  is_wide ps ls params (w.first x xs) = is_wide_stmt ps ls params x && is_wide ps ls params xs

abbrev pub is_wide_body : List WProc → List BType → ℕ → Option w.WStmts → Truth
is_wide_body ps ls params None = true
is_wide_body ps ls params (Some xs) = is_wide ps ls params xs

-- no map
abbrev pub is_plain : BType → Truth
is_plain u = is_type (Some u) (Some (plain_type u.base))

abbrev pub is_wide_head : WProc → Truth
is_wide_head d =
    nat_le (d.params + d.returns) (length d.locals) && (list_all is_plain (head_types d) && (are_bools (param_types d) d.preconditions && are_bools (head_types d) d.postconditions))

abbrev pub is_wide_proc : List WProc → WProc → Truth
is_wide_proc ps d = have_keys (wide_types d) && (is_wide_head d && is_wide_body ps (wide_types d) d.params d.body)

-- the number of the first procedure that is ill-typed, from 1 on
abbrev pub ill_typed_wide : List WProc → List WProc → Option ℕ
ill_typed_wide ps [] = None
ill_typed_wide ps (d ∷ ds) = if is_wide_proc ps d then option_map suc (ill_typed_wide ps ds) else Some 1
