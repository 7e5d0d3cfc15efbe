-- The code of each statement goes alongside it, and so does that of blocks.
use Rattle.std.proofs.Common.{◌≡◌, ◌<◌, ℕ, Bool as Truth, true, false, List, [], ◌∷◌, length, All, Option, Some, None, slice_get, filter, if◌then◌else◌, refl, sym, subst}
use Rattle.std.proofs.lemmas.List.Elements.{All-nil, All-cons}
use Rattle.std.proofs.lemmas.Option.{slice_get_within}
use Rattle.vb_value.specs.Bound.{Bound}
use Rattle.vb_value.specs.declared.values.Ty.{Ty}
use Rattle.vb_value.specs.declared.values.Ty.TheVariants as ty
use Rattle.viper_core.specs.Formed.{IsFormed, below}
use Rattle.viper_core.specs.Part.{Allows}
use Rattle.viper_core.specs.Scope.{Scope, is_ref}
use Rattle.viper_core.specs.Stmt as v
use Rattle.viper_core.specs.Typing as y
use Rattle.viper_core.specs.Typing.{Elsewhere, inside, IsAssertion, IsStmt, AreStmts, Receive}
use Rattle.viper_core.proofs.TargetLaws.{targets_exist}
use Rattle.viper_core.proofs.UnitLaws.{lt-below}
use Rattle.viper_core.proofs.WiderLaws.{typed_among, all_typed_among, assertion_among, fold_among}
use Rattle.viper_meaning.specs.Statements.{Activation, run_stmt, run_block}
use Rattle.boogie_tree.specs.Program.{BType}
use Rattle.enc_block.specs.Encoding.{with_method, call_code, stmt_code, block_code}
use Rattle.enc_block.specs.Home.{Home, kinds_of, whole, IsHome}
use Rattle.enc_block.specs.Runs.{Runs}
use Rattle.enc_block.proofs.CallLaws.{frame_of, call_runs}
use Rattle.enc_block.proofs.CountedLaws.{stmt_counted, block_counted}
use Rattle.enc_block.proofs.FoldLaws.{fold_runs, unfold_runs}
use Rattle.enc_block.proofs.LoopLaws.{loop_runs}
use Rattle.enc_block.proofs.NewLaws.{new_runs}
use Rattle.enc_block.proofs.SimpleLaws.{skip_runs, both_run, if_runs, assign_runs, var_runs}
use Rattle.enc_block.proofs.WriteLaws.{write_runs, inhale_runs, exhale_runs, assert_runs}

-- ---- what is typed in a scope

-- where all variables are visible it is typed too
pub sees_all : (k : Activation) (params : ℕ) (sc : Scope) → Allows (inside (frame_of k params) sc) k.vars (below (length k.vars)) Elsewhere
sees_all k params sc = record { sees = λ x u visible is. (lt-below (length k.vars) x (slice_get_within k.vars x u is), is); old = λ h. h; outside = λ h. h }

-- a target of this type is a variable of it
received_typed : (k : Activation) (params : ℕ) (sc : Scope) (x : ℕ) (u : Ty) → Receive (frame_of k params) sc (x ∷ []) (u ∷ []) → slice_get k.vars x ≡ Some u
received_typed k params sc x u (y.assigned (y.also target rest) differ) = target.typed
received_typed k params sc x u (y.declared fresh typed) = typed

-- the Ref variables in scope are so
pub refs_typed : (us : List Ty) (xs : List ℕ) → All (λ x. slice_get us x ≡ Some ty.Ref) (filter (λ x. is_ref (slice_get us x)) xs)
refs_typed us [] = All-nil (λ x. slice_get us x ≡ Some ty.Ref)
refs_typed us (x ∷ xs) = by_test (is_ref (slice_get us x)) refl (refs_typed us xs)
  where
    is_reference : (o : Option Ty) → is_ref o ≡ true → o ≡ Some ty.Ref
    is_reference (Some ty.Ref) e = refl
    is_reference _ e = absurd cc

    rest : List ℕ
    rest = filter (λ x. is_ref (slice_get us x)) xs

    by_test : (q : Truth) → is_ref (slice_get us x) ≡ q → All (λ x. slice_get us x ≡ Some ty.Ref) rest → All (λ x. slice_get us x ≡ Some ty.Ref) (if q then x ∷ rest else rest)
    by_test true e typed = All-cons (λ x. slice_get us x ≡ Some ty.Ref) x rest (is_reference (slice_get us x) e) typed
    by_test false e typed = typed

-- ---- the induction

module _ (ts : List BType) (b : Bound) (k : Activation) (h : Home) (home : IsHome ts k h) (formed : IsFormed k.program) (params : ℕ) where
  mutual
    pub stmt_runs : (sc : Scope) (x : v.Stmt) → IsStmt (frame_of k params) sc x → Runs ts b k h (stmt_code k.program (kinds_of k) h x) (run_stmt b k x)
    stmt_runs sc (v.Var at x None) (y.declares {u = u} fresh typed) = var_runs ts b k h home x u typed
    stmt_runs sc (v.Var at x (Some a)) (y.initial {u = u} fresh typed i) = assign_runs ts b k h formed home at x a u typed (typed_among (sees_all k params sc) i)
    stmt_runs sc (v.Assign at x a) (y.assigns {u = u} target i) = assign_runs ts b k h formed home at x a u target.typed (typed_among (sees_all k params sc) i)
    stmt_runs sc (v.Write at a f name d) (y.writes {u = u} i there j) = write_runs ts b k h home formed at name a d f u (typed_among (sees_all k params sc) i) there (typed_among (sees_all k params sc) j)
    stmt_runs sc (v.New at x fields refs) (y.creates receive are same) =
        new_runs ts b k h home x fields refs (received_typed k params sc x ty.Ref receive) (subst (λ n. All (λ f. f < n) fields) (sym formed.typed.layout.fields) are.exist)
        (subst (All (λ x. slice_get k.vars x ≡ Some ty.Ref)) (sym same) (refs_typed k.vars sc.visible))
    stmt_runs sc (v.Call at targets m args) (y.calls callee exists i receive) =
        subst (λ o. Runs ts b k h (with_method o (λ callee. call_code (kinds_of k) h at targets callee args)) (run_stmt b k (v.Call at targets m args))) (sym exists)
        (call_runs ts b k h home formed at targets callee m exists sc params receive args (all_typed_among (sees_all k params sc) i))
    stmt_runs sc (v.Inhale at a) (y.inhales i) = inhale_runs ts b k h home formed at a (assertion_among (sees_all k params sc) i)
    stmt_runs sc (v.Exhale at a) (y.exhales i) =
        exhale_runs ts b k h home formed at (a ∷ []) (All-cons (IsAssertion (whole k)) a [] (assertion_among (sees_all k params sc) i) (All-nil (IsAssertion (whole k))))
    stmt_runs sc (v.Assert at a) (y.asserts i) = assert_runs ts b k h home formed at a (assertion_among (sees_all k params sc) i)
    stmt_runs sc (v.Fold f) (y.folds i) = fold_runs ts b k h home formed f (fold_among (sees_all k params sc) i)
    stmt_runs sc (v.Unfold f) (y.unfolds i) = unfold_runs ts b k h home formed f (fold_among (sees_all k params sc) i)
    stmt_runs sc (v.If at a first second) (y.branches i j l) =
        if_runs ts b k h formed at a (block_code k.program (kinds_of k) h first) (block_code k.program (kinds_of k) h second) (run_block b k first) (run_block b k second) (typed_among (sees_all k params sc) i)
        (block_counted k h first) (block_counted k h second) (block_runs _ first j) (block_runs _ second l)
    stmt_runs sc (v.While (v.loop at guard invariants body turn targets)) (y.loops i all j same) =
        loop_runs ts b k h formed home at guard invariants (block_code k.program (kinds_of k) h body) (run_block b k body) turn (typed_among (sees_all k params sc) i)
        (λ n d within. assertion_among (sees_all k params sc) (all n d within)) (block_counted k h body) (block_runs sc body j) targets (targets_exist j same)

    pub block_runs : (sc : Scope) (xs : v.Stmts) → AreStmts (frame_of k params) sc xs → Runs ts b k h (block_code k.program (kinds_of k) h xs) (run_block b k xs)
    block_runs sc v.skip y.ends = skip_runs ts b k h
    block_runs sc (v.next a rest) (y.goes_on i j) =
        both_run ts b k h (stmt_code k.program (kinds_of k) h a) (block_code k.program (kinds_of k) h rest) (run_stmt b k a) (run_block b k rest) (stmt_counted k h a) (stmt_runs sc a i) (block_runs _ rest j)
