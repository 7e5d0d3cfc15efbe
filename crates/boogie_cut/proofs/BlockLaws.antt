-- What is written for a block, and for a procedure, ends as the modular run.
use Rattle.std.proofs.Common.{◌≡◌, ◌+◌, ◌≤◌, ℕ, suc, Bool as Truth, true, false, cond, Some, List, [], ◌∷◌, ◌++◌, length, map, All, take, drop, slice_get, refl, sym, ap, subst, ◌∙◌, arith, length-append}
use Rattle.std.specs.List.{AllZip, filter, range_with_len}
use Rattle.lemmas.proofs.Lists.{take_there, head_there, map_append}
use Rattle.vb_value.specs.Bound.{Unbounded}
use Rattle.boogie_tree.specs.Stmt as s
use Rattle.boogie_tree.specs.Program.{BType, Local}
use Rattle.boogie_tree.specs.Value.{BValue, BChoice}
use Rattle.boogie_tree.specs.Values.{IsEnvironment, IsReducedChoice}
use Rattle.boogie_tree.specs.declared.exprs.BBase.TheVariants as base
use Rattle.boogie_meaning.specs.Ends.{found}
use Rattle.boogie_meaning.specs.Operators.{as_truth}
use Rattle.boogie_meaning.specs.Programs.{types_of, brun_proc}
use Rattle.boogie_meaning.specs.Quantified.{bvalue}
use Rattle.boogie_meaning.specs.Types.{havoc as havoc_typed}
use Rattle.boogie_meaning.specs.Run.{Run, with_end, picked, brun}
use Rattle.boogie_meaning.proofs.EnvironmentLaws.{length_env, env_front}
use Rattle.boogie_loops.specs.Wide as w
use Rattle.boogie_loops.specs.Wide.{WProc}
use Rattle.boogie_loops.specs.Conditions.{variable_names}
use Rattle.boogie_loops.specs.Changed.{changes, targets}
use Rattle.boogie_loops.specs.Procedures.{wide_types, param_types, head_types, proc_named}
use Rattle.boogie_loops.specs.WideTypes.{IsWideStmt, assign, put, havoc, assume_ as assuming, assert_ as asserting, if_, either, while_, call_, IsWide, skip, first, IsCall, IsWideProc}
use Rattle.boogie_loops.specs.Modular.{assert_all, assume_all, arguments, called, cutrun_stmt, cutrun, cutrun_proc}
use Rattle.boogie_cut.specs.Alike.{EndAlike, done as both_done, stops as both_stop}
use Rattle.boogie_cut.specs.Cut.{Written, join, asserts, assumes, cut_call, cut_stmt, cut, cut_body, cut_proc}
use Rattle.boogie_cut.specs.Fresh.{fresh_locals, free_number, is_a}
use Rattle.boogie_cut.proofs.TermLaws.{own_value}
use Rattle.boogie_cut.proofs.EnvLaws.{there_left, env_behind, env_split}
use Rattle.boogie_cut.proofs.AlikeLaws.{Alike, done, stops, Runs, any_alike, choice_alike, if_alike, skip_runs, join_runs, alone_runs, same, assign_alike, put_alike, havoc_alike, asserts_runs, assumes_runs, loop_runs}
use Rattle.boogie_cut.proofs.CallLaws.{call_runs, length_plain}

-- ---- the targets of a loop are declared

module _ (ls : List BType) where
  abbrev pub Declared : List ℕ → Type 0
  Declared is = (us : List BType) × AllZip (λ i u. slice_get ls i ≡ Some u) is us

  declared_more : (p : Truth) (i : ℕ) (is : List ℕ) (u : BType) → slice_get ls i ≡ Some u → Declared is → Declared (cond p (i ∷ is) is)
  declared_more true i is u l d = (u ∷ d.0, (l, d.1))
  declared_more false i is u l d = d

  declared_from : (test : ℕ → Truth) (front back : List BType) → ls ≡ front ++ back → Declared (filter test (range_with_len (length front) (length back)))
  declared_from test front [] h = ([], tt)
  declared_from test front (u ∷ back) h =
      let here : slice_get ls (length front) ≡ Some u = ap (λ ts. slice_get ts (length front)) h ∙ at front (u ∷ back) u refl in
      let long : length (front ++ u ∷ []) ≡ length front + 1 = length-append front (u ∷ []) in
      let rest = declared_from test (front ++ u ∷ []) back (h ∙ along front u back) in
      declared_more (test (length front)) (length front) _ u here
      (subst (λ n. Declared (filter test (range_with_len n (length back)))) long rest)
    where
      at : (front back : List BType) (u : BType) → slice_get back 0 ≡ Some u → slice_get (front ++ back) (length front) ≡ Some u
      at [] back u e = e
      at (x ∷ front) back u e = at front back u e

      along : (front : List BType) (u : BType) (back : List BType) → front ++ (u ∷ back) ≡ (front ++ u ∷ []) ++ back
      along [] u back = refl
      along (x ∷ front) u back = ap (λ xs. x ∷ xs) (along front u back)

  pub targets_declared : (xs : w.WStmts) → Declared (targets ls xs)
  targets_declared xs = declared_from (changes xs) [] ls refl

-- ---- blocks

-- the procedures that are called are well-typed
abbrev pub Callees : List WProc → Type 0
Callees ps = (name : List ℕ) (d : WProc) → proc_named ps name ≡ Some d → IsWideProc ps d

module _ (ps : List WProc) (params : ℕ) (callees : Callees ps) (ls all : List BType) (fits : (i : ℕ) (u : BType) → slice_get ls i ≡ Some u → slice_get all i ≡ Some u) (m : ℕ) where
  abbrev Long : List BValue → Type 0
  Long x = length x ≡ m

  abbrev WriteRuns : s.BStmts → (List BValue → List BChoice → Run) → Type 0
  WriteRuns xs go = Runs ls all fits Long Long xs go

  call_of : (is : List ℕ) (name : List ℕ) (es : _) → IsCall ps ls params is name es → (n k : ℕ) → n ≡ length ls + k → k + length (cut_call is es n (proc_named ps name)).locals ≤ m →
      WriteRuns (cut_call is es n (proc_named ps name)).stmts
      (λ env cs. with_end (found (proc_named ps name)) cs (λ d. with_end (arguments Unbounded es env) cs (λ args. called ls Unbounded d is args env cs)))
  call_of is name es h n k at room =
      let d = callees name h.callee h.named in
      let lp : length (param_types h.callee) ≡ length h.bases = ap length h.plain ∙ length_plain h.bases in
      let fits_in : k + length (param_types h.callee) ≤ m = subst (λ o. k + length (cut_call is es n o).locals ≤ m) h.named room in
      subst (λ o. WriteRuns (cut_call is es n o).stmts (λ env cs. with_end (found o) cs (λ d. with_end (arguments Unbounded es env) cs (λ args. called ls Unbounded d is args env cs)))) (sym h.named)
      (call_runs ls all fits is es h.callee h.bases h.plain h.arguments h.targets n k m at (omega (arith, lp, fits_in)) d.preconditions d.postconditions)

  mutual
    stmt_runs : {x : w.WStmt} → IsWideStmt ps ls params x → (n k : ℕ) → n ≡ length ls + k → k + length (cut_stmt ps ls x n).locals ≤ m →
        WriteRuns (cut_stmt ps ls x n).stmts (λ env cs. cutrun_stmt ps ls Unbounded x env cs)
    stmt_runs (assign {i = i} {e = e} p h) n k at room = alone_runs ls all fits (s.Assign i e) _ (assign_alike ls all fits i e h)
    stmt_runs (put {i = i} {es = es} {e = e} p h) n k at room = alone_runs ls all fits (s.Put i es e) _ (put_alike ls all fits i es e h)
    stmt_runs (havoc {i = i} p (havoc_typed {u = u} l)) n k at room = alone_runs ls all fits (s.Havoc i) _ (havoc_alike ls all fits i u l)
    stmt_runs (assuming {e = e} h) n k at room = alone_runs ls all fits (s.Assume e) _ (λ env extra cs a e' c.
        any_alike (as_truth (bvalue Unbounded e env)) cs _ _ (ap as_truth (own_value ls env (env ++ extra) (same ls all fits env extra e') e base.Bool h)) (λ p. if_alike p (done extra a e' c) stops))
    stmt_runs (asserting {l = l} {e = e} h) n k at room = alone_runs ls all fits (s.Assert l e) _ (λ env extra cs a e' c.
        any_alike (as_truth (bvalue Unbounded e env)) cs _ _ (ap as_truth (own_value ls env (env ++ extra) (same ls all fits env extra e') e base.Bool h)) (λ p. if_alike p (done extra a e' c) stops))
    stmt_runs (if_ {e = e} {xs = xs} {ys = ys} h hx hy) n k at room =
        let a = cut ps ls xs n in
        let o = cut ps ls ys (n + length a.locals) in
        let long = length-append a.locals o.locals in
        let x = block_runs hx n k at (omega (arith, room, long)) in
        let y = block_runs hy (n + length a.locals) (k + length a.locals) (omega (arith, at)) (omega (arith, room, long)) in
        alone_runs ls all fits (s.If e a.stmts o.stmts) _ (λ env extra cs q e' c.
        any_alike (as_truth (bvalue Unbounded e env)) cs _ _ (ap as_truth (own_value ls env (env ++ extra) (same ls all fits env extra e') e base.Bool h))
        (λ p. if_alike p (x.from env extra cs q e' c) (y.from env extra cs q e' c)))
    stmt_runs (either {xs = xs} {ys = ys} hx hy) n k at room =
        let a = cut ps ls xs n in
        let o = cut ps ls ys (n + length a.locals) in
        let long = length-append a.locals o.locals in
        let x = block_runs hx n k at (omega (arith, room, long)) in
        let y = block_runs hy (n + length a.locals) (k + length a.locals) (omega (arith, at)) (omega (arith, room, long)) in
        alone_runs ls all fits (s.Either a.stmts o.stmts) _ (λ env extra cs q e' c.
        choice_alike (λ _. Unit {0}) cs picked _ _ c (λ _ _ _ _. tt) (λ p rest _ r. if_alike p (x.from env extra rest q e' r) (y.from env extra rest q e' r)))
    stmt_runs (while_ {g = g} {invariants = invs} {xs = xs} hg hi hx) n k at room =
        let a = cut ps ls xs n in
        let z = targets_declared ls xs in
        loop_runs ls all fits g invs (targets ls xs) z.0 a.stmts (λ env cs. cutrun ps ls Unbounded xs env cs) hg hi z.1 (block_runs hx n k at room)
    stmt_runs (call_ {is = is} {name = name} {es = es} h) n k at room = call_of is name es h n k at room

    pub block_runs : {xs : w.WStmts} → IsWide ps ls params xs → (n k : ℕ) → n ≡ length ls + k → k + length (cut ps ls xs n).locals ≤ m →
        WriteRuns (cut ps ls xs n).stmts (λ env cs. cutrun ps ls Unbounded xs env cs)
    block_runs skip n k at room = skip_runs ls all fits
    block_runs (first {x = x} {xs = xs} hx hxs) n k at room =
        let a = cut_stmt ps ls x n in
        let o = cut ps ls xs (n + length a.locals) in
        let long = length-append a.locals o.locals in
        join_runs ls all fits a.stmts o.stmts (λ env cs. cutrun_stmt ps ls Unbounded x env cs) (λ env cs. cutrun ps ls Unbounded xs env cs)
        (stmt_runs hx n k at (omega (arith, room, long)))
        (block_runs hxs (n + length a.locals) (k + length a.locals) (omega (arith, at)) (omega (arith, room, long)))

-- ---- procedures

fresh_types : (taken : List (List ℕ)) (n : ℕ) (us : List BType) → map (λ (l : Local). l.ty) (fresh_locals taken n us) ≡ us
fresh_types taken n [] = refl
fresh_types taken n (u ∷ us) = ap (λ ts. u ∷ ts) (fresh_types taken (free_number (length taken) n taken + 1) us)

pub length_map : {X Y : Type 0} (f : X → Y) (xs : List X) → length (map f xs) ≡ length xs
length_map f [] = refl
length_map f (x ∷ xs) = ap suc (length_map f xs)

-- the variables of what is written are those of the procedure, and further ones
pub written_types : (ps : List WProc) (d : WProc) (body : w.WStmts) → types_of (cut_proc ps d body) ≡ wide_types d ++ (cut ps (wide_types d) body (length d.locals)).locals
written_types ps d body =
    let us = (cut ps (wide_types d) body (length d.locals)).locals in
    let taken = filter is_a (variable_names d) in
    map_append (λ (l : Local). l.ty) d.locals (fresh_locals taken 0 us) ∙ ap (λ ts. wide_types d ++ ts) (fresh_types taken 0 us)

module _ (ps : List WProc) (callees : Callees ps) (d : WProc) (body : w.WStmts) (typed : IsWideProc ps d) (block : IsWide ps (wide_types d) d.params body) where
  abbrev ls : List BType
  ls = wide_types d

  abbrev a : Written
  a = cut ps ls body (length d.locals)

  fits : (i : ℕ) (u : BType) → slice_get ls i ≡ Some u → slice_get (ls ++ a.locals) i ≡ Some u
  fits i u l = there_left ls a.locals i u l

  abbrev Further : List BValue → Type 0
  Further x = length x ≡ length a.locals

  proc_runs : Runs ls (ls ++ a.locals) fits Further Further (cut_body d a.stmts) (λ env cs. cutrun_proc ps Unbounded d body env cs)
  proc_runs =
      join_runs ls (ls ++ a.locals) fits (assumes d.preconditions) (join a.stmts (asserts d.postconditions)) (λ env cs. assume_all Unbounded d.preconditions env env cs) _
      (assumes_runs ls (ls ++ a.locals) fits (param_types d) (take_there d.params ls) d.preconditions typed.preconditions)
      (join_runs ls (ls ++ a.locals) fits a.stmts (asserts d.postconditions) (λ env cs. cutrun ps ls Unbounded body env cs) (λ env cs. assert_all Unbounded d.postconditions env env cs)
      (block_runs ps d.params callees ls (ls ++ a.locals) fits (length a.locals) block (length d.locals) 0 (let e = length_map (λ (l : Local). l.ty) d.locals in omega (arith, e)) (omega arith))
      (asserts_runs ls (ls ++ a.locals) fits (head_types d) (head_there d.params d.returns ls) d.postconditions typed.postconditions))

  ends : {r q : Run} → Alike ls Further r q → EndAlike (length d.locals) r q
  ends (done {env = env} extra q e c) = both_done extra (length_env ls env e ∙ length_map (λ (l : Local). l.ty) d.locals)
  ends stops = both_stop

  -- the environment is that of what is written
  pub proc_alike : (all : List BValue) (cs : List BChoice) → IsEnvironment (types_of (cut_proc ps d body)) all → All IsReducedChoice cs →
      EndAlike (length d.locals) (brun_proc Unbounded (cut_proc ps d body) all cs) (cutrun_proc ps Unbounded d body (take (length d.locals) all) cs)
  proc_alike all cs e c =
      let h : IsEnvironment (ls ++ a.locals) all = subst (λ ts. IsEnvironment ts all) (written_types ps d body) e in
      let n : length ls ≡ length d.locals = length_map (λ (l : Local). l.ty) d.locals in
      let first = env_front ls a.locals all h in
      let rest = env_behind ls a.locals all h in
      let both = env_split ls a.locals all h in
      let r = ends (proc_runs.from (take (length ls) all) (drop (length ls) all) cs (length_env a.locals _ rest) first c) in
      let here : EndAlike (length d.locals) (brun (ls ++ a.locals) Unbounded (cut_body d a.stmts) all cs) (cutrun_proc ps Unbounded d body (take (length ls) all) cs) =
      subst (λ x. EndAlike (length d.locals) (brun (ls ++ a.locals) Unbounded (cut_body d a.stmts) x cs) (cutrun_proc ps Unbounded d body (take (length ls) all) cs)) (sym both) r in
      let there : EndAlike (length d.locals) (brun (ls ++ a.locals) Unbounded (cut_body d a.stmts) all cs) (cutrun_proc ps Unbounded d body (take (length d.locals) all) cs) =
      subst (λ k. EndAlike (length d.locals) (brun (ls ++ a.locals) Unbounded (cut_body d a.stmts) all cs) (cutrun_proc ps Unbounded d body (take k all) cs)) n here in
      subst (λ ts. EndAlike (length d.locals) (brun ts Unbounded (cut_body d a.stmts) all cs) (cutrun_proc ps Unbounded d body (take (length d.locals) all) cs)) (sym (written_types ps d body)) there
