-- Where a turning run fails, so does some modular run, and so some run of what is written.
use Rattle.std.proofs.Common.{◌≡◌, ℕ, zero, suc, Bool as Truth, true, false, Option, Some, None, List, [], ◌∷◌, ◌++◌, All, if◌then◌else◌, refl, sym, ap, subst, ◌∙◌}
use Rattle.std.proofs.lemmas.List.Elements.{All-nil, All-cons, All-head, All-tail, All-append}
use Rattle.std.proofs.lemmas.Bool.{or_parts as neither}
use Rattle.vb_base.specs.declared.labels.Label.{Label}
use Rattle.vb_value.specs.Bound.{Unbounded}
use Rattle.boogie_tree.specs.Expr as t
use Rattle.boogie_tree.specs.Program.{BType}
use Rattle.boogie_tree.specs.Value.{BValue, BChoice}
use Rattle.boogie_tree.specs.Values.{IsEnvironment, IsReducedChoice}
use Rattle.boogie_meaning.specs.Ends as ends
use Rattle.boogie_meaning.specs.Ends.{End, Is, found}
use Rattle.boogie_meaning.specs.Operators.{as_truth}
use Rattle.boogie_meaning.specs.Quantified.{bvalue}
use Rattle.boogie_meaning.specs.Types.{havoc as havoc_typed}
use Rattle.boogie_meaning.specs.Run.{Run, Done, Stops, Failed, Blocked, Over, Wrong, with_end, with_choice, unless_blocked, then_run, picked}
use Rattle.boogie_loops.specs.Wide as w
use Rattle.boogie_loops.specs.Wide.{Clause, WProc}
use Rattle.boogie_loops.specs.Changed.{changes_stmt, changes, targets}
use Rattle.boogie_loops.specs.Procedures.{wide_types}
use Rattle.boogie_loops.specs.WideTypes.{IsWideStmt, assign, put, havoc, assume_, assert_, if_, either, while_, call_, IsWide, skip, first, IsCall}
use Rattle.boogie_loops.specs.Modular.{assert_all, assume_all, havoc_all, arguments, called, with_guard, turned, looped, cutrun_stmt, cutrun, cutrun_proc}
use Rattle.boogie_loops.specs.Turning.{Turned, Goes, Halts, Spent, then_turned, plainly, turned_end, turned_unless, turned_choice, turned_guard, take_turn, turns, wrun_stmt, wrun, wrun_proc}
use Rattle.boogie_cut.proofs.CallLaws.{passed}
use Rattle.boogie_cut.proofs.TurnLaws.{Leads, at_once, leads_on, Failing, Frame, Tells, goes, fails, halts, spent, wider, led, halted, then_tells, Plain, then_plain, any_tells}
use Rattle.boogie_cut.proofs.TurningLaws.{asserts_tell, assumes_tell, Clauses, hold, stop, clauses_at, assign_tells, put_tells, havoc_tells, truth_tells, called_tells, head_leads}

-- ---- branches

module _ {ls : List BType} {p : ℕ → Truth} {env : List BValue} where
  if_tells : (d : End Truth) (cs : List BChoice) (f g : List BChoice → Run) (x y : List BChoice → Turned) → All IsReducedChoice cs → Tells ls f p env (x cs) → Tells ls g p env (y cs) →
      Tells ls (λ cs. with_end d cs (λ q. if q then f cs else g cs)) p env (turned_end d cs (λ q. if q then x cs else y cs))
  if_tells (Is true) cs f g x y r h k = h
  if_tells (Is false) cs f g x y r h k = k
  if_tells ends.Over cs f g x y r h k = halted Over cs cs cs r refl
  if_tells ends.Wrong cs f g x y r h k = halted Wrong cs cs cs r refl

  -- with what a pick says
  picked_leads : (whole : List BChoice → Run) (go : Truth → List BChoice → Run) (k : Truth → List BChoice → Turned) (c : BChoice) (o : Option Truth) (rest : List BChoice) → picked c ≡ o →
      Leads whole (λ cs. with_choice cs picked go) → IsReducedChoice c → All IsReducedChoice rest →
      ((q : Truth) (rest : List BChoice) → All IsReducedChoice rest → Leads whole (go q) → Tells ls whole p env (k q rest)) → Tells ls whole p env (turned_unless o rest k)
  picked_leads whole go k c (Some q) rest s h rc r f =
      f q rest r (leads_on whole (λ cs. with_choice cs picked go) (go q) h
      (λ more. (c ∷ [], All-cons IsReducedChoice c [] rc (All-nil IsReducedChoice), ap (λ o. unless_blocked o more go) s)))
  picked_leads whole go k c None rest s h rc r f = halts (λ l e. absurd (cc))

  pick_tells : (whole : List BChoice → Run) (go : Truth → List BChoice → Run) (k : Truth → List BChoice → Turned) (cs : List BChoice) → Leads whole (λ cs. with_choice cs picked go) → All IsReducedChoice cs →
      ((q : Truth) (rest : List BChoice) → All IsReducedChoice rest → Leads whole (go q) → Tells ls whole p env (k q rest)) → Tells ls whole p env (turned_choice cs picked k)
  pick_tells whole go k [] h r f = halts (λ l e. absurd (cc))
  pick_tells whole go k (c ∷ rest) h r f =
      picked_leads whole go k c (picked c) rest refl h (All-head IsReducedChoice c rest r) (All-tail IsReducedChoice c rest r) f

  end_leads : (whole : List BChoice → Run) (go : Truth → List BChoice → Run) (k : Truth → List BChoice → Turned) (d : End Truth) (cs : List BChoice) → Leads whole (λ cs. with_end d cs (λ q. go q cs)) →
      All IsReducedChoice cs → ((q : Truth) (rest : List BChoice) → All IsReducedChoice rest → Leads whole (go q) → Tells ls whole p env (k q rest)) →
      Tells ls whole p env (turned_end d cs (λ q. k q cs))
  end_leads whole go k (Is q) cs h r f = f q cs r h
  end_leads whole go k ends.Over cs h r f = halts (λ l e. absurd (cc))
  end_leads whole go k ends.Wrong cs h r f = halts (λ l e. absurd (cc))

  guard_tells : (g : Option t.BExpr) (at : List BValue) (whole : List BChoice → Run) (go : Truth → List BChoice → Run) (k : Truth → List BChoice → Turned) (cs : List BChoice) →
      Leads whole (λ cs. with_guard Unbounded g at cs go) → All IsReducedChoice cs →
      ((q : Truth) (rest : List BChoice) → All IsReducedChoice rest → Leads whole (go q) → Tells ls whole p env (k q rest)) → Tells ls whole p env (turned_guard Unbounded g at cs k)
  guard_tells (Some x) at whole go k cs h r f = end_leads whole go k (as_truth (bvalue Unbounded x at)) cs h r f
  guard_tells None at whole go k cs h r f = pick_tells whole go k cs h r f

-- ---- loops

module _ (ls : List BType) (invs : List Clause) (g : Option t.BExpr) (xs : w.WStmts) (f : List BValue → List BChoice → Run) (body : List BValue → List BChoice → ℕ → Turned)
    (one : (env : List BValue) (cs : List BChoice) (n : ℕ) → IsEnvironment ls env → All IsReducedChoice cs → Tells ls (f env) (changes xs) env (body env cs n))
    (start : List BValue) (starts : IsEnvironment ls start) (asserted_there : (cs : List BChoice) → assert_all Unbounded invs start start cs ≡ Done start cs) where
  abbrev whole : List BChoice → Run
  whole cs = looped ls Unbounded invs (targets ls xs) g f start cs

  abbrev at_head : List BValue → Truth → List BChoice → Run
  at_head at q cs = if q then turned Unbounded invs f at cs else Done at cs

  -- the invariants hold at this head, and nothing but the targets is changed
  record Head (at : List BValue) : Type 0 where
    typed : IsEnvironment ls at
    frame : Frame (changes xs) start at
    assumed_here : (cs : List BChoice) → assume_all Unbounded invs at at cs ≡ Done at cs

  head_reached : (at : List BValue) → Head at → Leads whole (λ cs. with_guard Unbounded g at cs (at_head at))
  head_reached at h more =
      let r = head_leads ls xs start at starts h.typed h.frame more in (
        r.0,
        r.1,
        ap (λ q. then_run q (λ env cs. then_run (havoc_all ls Unbounded (targets ls xs) env cs) (λ env cs. then_run (assume_all Unbounded invs env env cs) (λ env cs.
            with_guard Unbounded g env cs (at_head env))))) (asserted_there (r.0 ++ more))
            ∙ ap (λ q. then_run q (λ env cs. then_run (assume_all Unbounded invs env env cs) (λ env cs. with_guard Unbounded g env cs (at_head env)))) r.2
            ∙ ap (λ q. then_run q (λ env cs. with_guard Unbounded g env cs (at_head env))) (h.assumed_here more),
      )

  -- after the body, at the next head
  next_tells : (at new : List BValue) (cs : List BChoice) (n : ℕ) (k : List BValue → List BChoice → ℕ → Turned) → Head at → Leads whole (at_head at true) → Leads (f at) (λ more. Done new more) →
      IsEnvironment ls new → Frame (changes xs) at new → ((h : Head new) → Tells ls whole (changes xs) start (k new cs n)) →
      Clauses invs new → Tells ls whole (changes xs) start (plainly (assert_all Unbounded invs new new cs) n k)
  next_tells at new cs n k h l c e fr go (hold now also) =
      subst (λ r. Tells ls whole (changes xs) start (plainly r n k)) (sym (now cs)) (go (record { typed = e; frame = λ j x. fr j x ∙ h.frame j x; assumed_here = also }))
  next_tells at new cs n k h l c e fr go (stop why ends_so) =
      let b = c [] in
      let a = l (b.0 ++ []) in
      subst (λ r. Tells ls whole (changes xs) start (plainly r n k)) (sym (ends_so cs))
      (halted why (a.0 ++ (b.0 ++ [])) [] cs (All-append IsReducedChoice a.0 (b.0 ++ []) a.1 (All-append IsReducedChoice b.0 [] b.1 (All-nil IsReducedChoice)))
      (a.2 ∙ ap (λ r. then_run r (λ env cs. then_run (assert_all Unbounded invs env env cs) (λ env cs. Stops Blocked cs))) b.2
      ∙ ap (λ r. then_run r (λ env cs. Stops Blocked cs)) (ends_so [])))

  turn_tells : (at : List BValue) (t : Turned) (k : List BValue → List BChoice → ℕ → Turned) → Head at → Leads whole (at_head at true) → Tells ls (f at) (changes xs) at t →
      ((new : List BValue) (cs : List BChoice) (n : ℕ) → All IsReducedChoice cs → Head new → Tells ls whole (changes xs) start (k new cs n)) →
      Tells ls whole (changes xs) start (then_turned t (λ env cs n. plainly (assert_all Unbounded invs env env cs) n k))
  turn_tells at _ k h l (goes {new = new} {cs = cs} {n = n} e fr r c) go = next_tells at new cs n k h l c e fr (λ h. go new cs n r h) (clauses_at invs new)
  turn_tells at _ k h l (fails x) go =
      let a = l x.0 in
      fails (a.0 ++ x.0, x.1, All-append IsReducedChoice a.0 x.0 a.1 x.2, a.2 ∙ ap (λ r. then_run r (λ env cs. then_run (assert_all Unbounded invs env env cs) (λ env cs. Stops Blocked cs))) x.3)
  turn_tells at _ k h l (halts x) go = halts x
  turn_tells at _ k h l spent go = spent

  -- the loop is left at this head
  left_tells : (at : List BValue) (cs : List BChoice) (n : ℕ) → Head at → All IsReducedChoice cs → Leads whole (at_head at false) → Tells ls whole (changes xs) start (Goes at cs n)
  left_tells at cs n h r l = goes h.typed h.frame r l

  take_tells : (n : ℕ) (cs : List BChoice) (k : ℕ → Turned) → ((n : ℕ) → Tells ls whole (changes xs) start (k n)) → Tells ls whole (changes xs) start (take_turn n cs k)
  take_tells zero cs k h = spent
  take_tells (suc n) cs k h = h n

  turns_tell : (most : ℕ) (at : List BValue) (cs : List BChoice) (n : ℕ) → Head at → All IsReducedChoice cs → Tells ls whole (changes xs) start (turns most Unbounded invs g body at cs n)
  turns_tell zero at cs n h r =
      guard_tells g at whole (at_head at) (λ q cs. if q then Spent cs else Goes at cs n) cs (head_reached at h) r (λ q. by q)
    where
      by : (q : Truth) (rest : List BChoice) → All IsReducedChoice rest → Leads whole (at_head at q) → Tells ls whole (changes xs) start (if q then Spent rest else Goes at rest n)
      by true rest r l = spent
      by false rest r l = left_tells at rest n h r l
  turns_tell (suc most) at cs n h r =
      guard_tells g at whole (at_head at) _ cs (head_reached at h) r (λ q. by q (λ new cs n r h. turns_tell most new cs n h r))
    where
      by : (q : Truth) → ((new : List BValue) (cs : List BChoice) (n : ℕ) → All IsReducedChoice cs → Head new → Tells ls whole (changes xs) start (turns most Unbounded invs g body new cs n)) →
          (rest : List BChoice) → All IsReducedChoice rest → Leads whole (at_head at q) → Tells ls whole (changes xs) start
          (if q then take_turn n rest (λ n. then_turned (body at rest n) (λ env cs n. plainly (assert_all Unbounded invs env env cs) n (λ env cs n. turns most Unbounded invs g body env cs n))) else Goes at rest n)
      by true go rest r l = take_tells n rest _ (λ n. turn_tells at (body at rest n) _ h l (one at rest n h.typed r) go)
      by false go rest r l = left_tells at rest n h r l

  first_head : ((cs : List BChoice) → assume_all Unbounded invs start start cs ≡ Done start cs) → Head start
  first_head also = record { typed = starts; frame = λ j x. refl; assumed_here = also }

pub loop_tells : (ls : List BType) (invs : List Clause) (g : Option t.BExpr) (xs : w.WStmts) (f : List BValue → List BChoice → Run) (body : List BValue → List BChoice → ℕ → Turned) →
    ((env : List BValue) (cs : List BChoice) (n : ℕ) → IsEnvironment ls env → All IsReducedChoice cs → Tells ls (f env) (changes xs) env (body env cs n)) →
    (start : List BValue) (cs : List BChoice) (n : ℕ) → IsEnvironment ls start → All IsReducedChoice cs →
    Tells ls (λ cs. looped ls Unbounded invs (targets ls xs) g f start cs) (changes xs) start (plainly (assert_all Unbounded invs start start cs) n (λ env cs n. turns n Unbounded invs g body env cs n))
loop_tells ls invs g xs f body one start cs n e r = by (clauses_at invs start)
  where
    by : Clauses invs start → Tells ls (λ cs. looped ls Unbounded invs (targets ls xs) g f start cs) (changes xs) start (plainly (assert_all Unbounded invs start start cs) n (λ env cs n. turns n Unbounded invs g body env cs n))
    by (hold now also) =
        subst (λ q. Tells ls (λ cs. looped ls Unbounded invs (targets ls xs) g f start cs) (changes xs) start (plainly q n (λ env cs n. turns n Unbounded invs g body env cs n))) (sym (now cs))
        (turns_tell ls invs g xs f body one start e now n start cs n (first_head ls invs g xs f body one start e now also) r)
    by (stop why ends_so) =
        subst (λ q. Tells ls (λ cs. looped ls Unbounded invs (targets ls xs) g f start cs) (changes xs) start (plainly q n (λ env cs n. turns n Unbounded invs g body env cs n))) (sym (ends_so cs))
        (halted why cs cs cs r (ap (λ q. then_run q (λ env cs. then_run (havoc_all ls Unbounded (targets ls xs) env cs) (λ env cs. then_run (assume_all Unbounded invs env env cs) (λ env cs.
        with_guard Unbounded g env cs (λ p cs. if p then turned Unbounded invs f env cs else Done env cs))))) (ends_so cs)))

-- ---- blocks

branch_tells : {ls : List BType} {p : ℕ → Truth} {env : List BValue} {whole f g : List BChoice → Run} {x y : Turned} (q : Truth) →
    Leads whole (λ rest. if q then f rest else g rest) → Tells ls f p env x → Tells ls g p env y → Tells ls whole p env (if q then x else y)
branch_tells true l h k = led l (λ j _. refl) h
branch_tells false l h k = led l (λ j _. refl) k

module _ (ps : List WProc) (params : ℕ) (ls : List BType) where
  call_tells : (is : List ℕ) (name : List ℕ) (es : t.BExprs) → IsCall ps ls params is name es → (env : List BValue) (cs : List BChoice) (n : ℕ) → IsEnvironment ls env → All IsReducedChoice cs →
      Plain ls (λ cs. cutrun_stmt ps ls Unbounded (w.Call is name es) env cs) (changes_stmt (w.Call is name es)) env (cutrun_stmt ps ls Unbounded (w.Call is name es) env cs) n
  call_tells is name es h env cs n e r =
      let p = passed ls ls (λ i u l. l) h.arguments env e in
      subst (λ o. Plain ls (λ cs. with_end (found o) cs (λ d. with_end (arguments Unbounded es env) cs (λ args. called ls Unbounded d is args env cs))) (changes_stmt (w.Call is name es)) env
      (with_end (found o) cs (λ d. with_end (arguments Unbounded es env) cs (λ args. called ls Unbounded d is args env cs))) n) (sym h.named)
      (any_tells (arguments Unbounded es env) cs n (λ args cs. called ls Unbounded h.callee is args env cs) r
      (λ args. called_tells h.callee is _ args h.targets (λ j q. q) env cs n e r))

  mutual
    stmt_tells : {x : w.WStmt} → IsWideStmt ps ls params x → (env : List BValue) (cs : List BChoice) (n : ℕ) → IsEnvironment ls env → All IsReducedChoice cs →
        Tells ls (λ cs. cutrun_stmt ps ls Unbounded x env cs) (changes_stmt x) env (wrun_stmt ps ls Unbounded x env cs n)
    stmt_tells (assign {i = i} {e = x} p h) env cs n e r = assign_tells i x h (λ j q. q) env cs n e r
    stmt_tells (put {i = i} {es = es} {e = x} p h) env cs n e r = put_tells i es x h (λ j q. q) env cs n e r
    stmt_tells (havoc {i = i} p (havoc_typed {u = u} l)) env cs n e r = havoc_tells i u l (λ j q. q) env cs n e r
    stmt_tells (assume_ {e = x} h) env cs n e r = truth_tells (as_truth (bvalue Unbounded x env)) Blocked env cs n e r
    stmt_tells (assert_ {l = l} {e = x} h) env cs n e r = truth_tells (as_truth (bvalue Unbounded x env)) (Failed l) env cs n e r
    stmt_tells (if_ {e = x} {xs = xs} {ys = ys} h hx hy) env cs n e r =
        if_tells (as_truth (bvalue Unbounded x env)) cs (λ cs. cutrun ps ls Unbounded xs env cs) (λ cs. cutrun ps ls Unbounded ys env cs)
        (λ cs. wrun ps ls Unbounded xs env cs n) (λ cs. wrun ps ls Unbounded ys env cs n) r
        (wider (λ j q. (neither (changes xs j) (changes ys j) q).0) (block_tells hx env cs n e r))
        (wider (λ j q. (neither (changes xs j) (changes ys j) q).1) (block_tells hy env cs n e r))
    stmt_tells (either {xs = xs} {ys = ys} hx hy) env cs n e r =
        pick_tells (λ cs. cutrun_stmt ps ls Unbounded (w.Either xs ys) env cs) (λ q rest. if q then cutrun ps ls Unbounded xs env rest else cutrun ps ls Unbounded ys env rest)
        (λ q rest. if q then wrun ps ls Unbounded xs env rest n else wrun ps ls Unbounded ys env rest n) cs (at_once _) r
        (λ q rest r l. branch_tells q l
        (wider (λ j q. (neither (changes xs j) (changes ys j) q).0) (block_tells hx env rest n e r))
        (wider (λ j q. (neither (changes xs j) (changes ys j) q).1) (block_tells hy env rest n e r)))
    stmt_tells (while_ {g = g} {invariants = invs} {xs = xs} hg hi hx) env cs n e r =
        loop_tells ls invs g xs (λ env cs. cutrun ps ls Unbounded xs env cs) (λ env cs n. wrun ps ls Unbounded xs env cs n) (λ env cs n e r. block_tells hx env cs n e r) env cs n e r
    stmt_tells (call_ {is = is} {name = name} {es = es} h) env cs n e r = call_tells is name es h env cs n e r

    pub block_tells : {xs : w.WStmts} → IsWide ps ls params xs → (env : List BValue) (cs : List BChoice) (n : ℕ) → IsEnvironment ls env → All IsReducedChoice cs →
        Tells ls (λ cs. cutrun ps ls Unbounded xs env cs) (changes xs) env (wrun ps ls Unbounded xs env cs n)
    block_tells skip env cs n e r = goes e (λ j q. refl) r (at_once (λ more. Done env more))
    block_tells (first {x = x} {xs = xs} h hs) env cs n e r =
        then_tells (λ env cs. cutrun ps ls Unbounded xs env cs) (λ env cs n. wrun ps ls Unbounded xs env cs n)
        (wider (λ j q. (neither (changes_stmt x j) (changes xs j) q).0) (stmt_tells h env cs n e r))
        (λ new cs n e r. wider (λ j q. (neither (changes_stmt x j) (changes xs j) q).1) (block_tells hs new cs n e r))

-- ---- procedures

pub tells_failed : {ls : List BType} {go : List BChoice → Run} {p : ℕ → Truth} {env : List BValue} {t : Turned} → Tells ls go p env t → (l : Label) (left : List BChoice) → t ≡ Halts (Failed l) left → Failing go l
tells_failed (goes e f r c) l left h = absurd (cc)
tells_failed {go = go} (fails x) l left h = subst (Failing go) (cc) x
tells_failed (halts n) l left h = absurd (n l (cc))
tells_failed spent l left h = absurd (cc)

pub proc_tells : (ps : List WProc) (d : WProc) (body : w.WStmts) → IsWide ps (wide_types d) d.params body → (env : List BValue) (cs : List BChoice) (n : ℕ) → IsEnvironment (wide_types d) env →
    All IsReducedChoice cs → Tells (wide_types d) (λ cs. cutrun_proc ps Unbounded d body env cs) (λ j. true) env (wrun_proc ps Unbounded d body env cs n)
proc_tells ps d body block env cs n e r =
    let rest : List BValue → List BChoice → Run = λ env cs. then_run (cutrun ps (wide_types d) Unbounded body env cs) (λ env cs. assert_all Unbounded d.postconditions env env cs) in
    let more : List BValue → List BChoice → ℕ → Turned = λ env cs n. then_turned (wrun ps (wide_types d) Unbounded body env cs n) (λ env cs n. plainly (assert_all Unbounded d.postconditions env env cs) n Goes) in
    subst (λ t. Tells (wide_types d) (λ cs. cutrun_proc ps Unbounded d body env cs) (λ j. true) env t) (sym (then_plain (assume_all Unbounded d.preconditions env env cs) n more))
    (then_tells rest more (assumes_tell d.preconditions env env cs n e r) (λ env cs n e r.
    then_tells (λ env cs. assert_all Unbounded d.postconditions env env cs) (λ env cs n. plainly (assert_all Unbounded d.postconditions env env cs) n Goes)
    (wider (λ j q. absurd (cc)) (block_tells ps d.params (wide_types d) block env cs n e r))
    (λ env cs n e r. asserts_tell d.postconditions env env cs n e r)))
