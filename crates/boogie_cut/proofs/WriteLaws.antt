-- What the code of statements writes, over plain variables.
use Rattle.std.proofs.Common.{◌≡◌, ◌∙◌, ◌≤◌, ◌<◌, ◌+◌, ℕ, zero, suc, Option, Some, None, List, [], ◌∷◌, ◌++◌, map, take, drop, get_or, length, Vec, refl, sym, ap, subst, arith, append_assoc, append-nil, length-append}
use Rattle.std.specs.List.{filter, filter_map, range_with_len}
use Rattle.std.specs.Option.{option_map}
use Rattle.std.specs.declared.alloc.Global.{Global}
use Rattle.lemmas.proofs.Lists.{map_taken as taken, next_item, none_left, next_number as next_number_item}
use Rattle.boogie_tree.specs.Expr as t
use Rattle.boogie_tree.specs.Stmt as s
use Rattle.boogie_tree.specs.Program as p
use Rattle.boogie_tree.specs.Whole.{expr_of, exprs_of, locals_of, proc_of, stmt_of, stmts_of, type_of}
use Rattle.boogie_tree.specs.declared.exprs.BExpr.{BExpr}
use Rattle.boogie_tree.specs.declared.programs.Local.{Local}
use Rattle.boogie_tree.specs.declared.programs.Proc.{Proc}
use Rattle.boogie_tree.specs.declared.stmts.BStmt as stmt
use Rattle.boogie_meaning.specs.Renamed.{renamed}
use Rattle.boogie_loops.specs.Changed.{changes, targets}
use Rattle.boogie_loops.specs.Procedures.{param_types, proc_named, wide_types}
use Rattle.boogie_loops.specs.View.{wproc_of, wstmt_of, wstmts_of}
use Rattle.boogie_loops.specs.Wide as w
use Rattle.boogie_loops.specs.declared.wide.Clause.{Clause}
use Rattle.boogie_loops.specs.declared.wide.WProc.{WProc}
use Rattle.boogie_loops.specs.declared.wide.WStmt as wstmt
use Rattle.boogie_loops.proofs.ViewLaws.{wstmt_of-If, wstmt_of-Either, wstmt_of-While}
use Rattle.boogie_cut.specs.Cut.{Written, plainly, join, alone, asserts, assumes, havocs, assigns, argument_numbers, stands_for, renamed_clauses, cut_call, cut_guard, cut_turn, cut_loop, cut_stmt, cut, cut_proc, cut_procs}
use Rattle.boogie_cut.specs.Fresh.{fresh_locals}
use Rattle.boogie_cut.specs.View.{IsBody, IsWritten, a_names, clauses_of, types_in}
use Rattle.boogie_cut.proofs.CodeLaws.{join_skip, join_join, stmts_append, pushed}
use Rattle.boogie_cut.proofs.PlaceLaws.{names_are}
use Rattle.boogie_cut.proofs.TermLaws.{renamed_own}

-- ---- rows of one kind

row_ended : (out row before : s.BStmts) → row ≡ s.skip → join out row ≡ before → out ≡ before
row_ended out row before none so_far = sym (join_skip out) ∙ ap (join out) (sym none) ∙ so_far

module _ (f : ℕ → ℕ) (cs : List Clause) (i : ℕ) where
  module _ (c : Clause) (lt : i < length cs) (is : c ≡ get_or cs i c) (old new : List stmt.BStmt) (e : BExpr) (before : s.BStmts) where
    pub asserts_next : new ≡ old ++ stmt.Assert c.label e ∷ [] → expr_of e ≡ renamed f (expr_of c.e) → join (stmts_of old) (asserts (renamed_clauses f (clauses_of (drop i cs)))) ≡ before →
        join (stmts_of new) (asserts (renamed_clauses f (clauses_of (drop (i + 1) cs)))) ≡ before
    asserts_next push same so_far =
        pushed old new (stmt.Assert c.label e) (s.Assert c.label (renamed f (expr_of c.e))) _ _ before push (ap (s.Assert c.label) same) so_far
        (ap (λ ds. asserts (renamed_clauses f (clauses_of ds))) (next_item cs i c lt is))

    pub assumes_next : new ≡ old ++ stmt.Assume e ∷ [] → expr_of e ≡ renamed f (expr_of c.e) → join (stmts_of old) (assumes (renamed_clauses f (clauses_of (drop i cs)))) ≡ before →
        join (stmts_of new) (assumes (renamed_clauses f (clauses_of (drop (i + 1) cs)))) ≡ before
    assumes_next push same so_far =
        pushed old new (stmt.Assume e) (s.Assume (renamed f (expr_of c.e))) _ _ before push (ap s.Assume same) so_far
        (ap (λ ds. assumes (renamed_clauses f (clauses_of ds))) (next_item cs i c lt is))

  module _ (out before : s.BStmts) (end : length cs ≤ i) where
    pub asserts_end : join out (asserts (renamed_clauses f (clauses_of (drop i cs)))) ≡ before → out ≡ before
    asserts_end so_far = row_ended out _ before (ap (λ ds. asserts (renamed_clauses f (clauses_of ds))) (none_left cs i end)) so_far

    pub assumes_end : join out (assumes (renamed_clauses f (clauses_of (drop i cs)))) ≡ before → out ≡ before
    assumes_end so_far = row_ended out _ before (ap (λ ds. assumes (renamed_clauses f (clauses_of ds))) (none_left cs i end)) so_far

pub havocs_next : (is : List ℕ) (i : ℕ) (old new : List stmt.BStmt) (before : s.BStmts) → i < length is → new ≡ old ++ stmt.Havoc (get_or is i 0) ∷ [] →
    join (stmts_of old) (havocs (drop i is)) ≡ before → join (stmts_of new) (havocs (drop (i + 1) is)) ≡ before
havocs_next is i old new before lt push so_far = pushed old new (stmt.Havoc (get_or is i 0)) (s.Havoc (get_or is i 0)) _ _ before push refl so_far (ap havocs (next_number_item is i lt))

pub havocs_end : (is : List ℕ) (i : ℕ) (out before : s.BStmts) → length is ≤ i → join out (havocs (drop i is)) ≡ before → out ≡ before
havocs_end is i out before end so_far = row_ended out _ before (ap havocs (none_left is i end)) so_far

pub assigns_next : (n next : ℕ) (es : List BExpr) (i : ℕ) (e copy : BExpr) (old new : List stmt.BStmt) (before : s.BStmts) → i < length es → e ≡ get_or es i e → next ≡ n + 1 → expr_of copy ≡ expr_of e →
    new ≡ old ++ stmt.Assign n copy ∷ [] → join (stmts_of old) (assigns n (exprs_of (drop i es))) ≡ before → join (stmts_of new) (assigns next (exprs_of (drop (i + 1) es))) ≡ before
assigns_next n next es i e copy old new before lt is number same push so_far =
    ap (λ k. join (stmts_of new) (assigns k (exprs_of (drop (i + 1) es)))) number
    ∙ pushed old new (stmt.Assign n copy) (s.Assign n (expr_of e)) _ _ before push (ap (s.Assign n) same) so_far (ap (λ xs. assigns n (exprs_of xs)) (next_item es i e lt is))

pub assigns_end : (n : ℕ) (es : List BExpr) (i : ℕ) (out before : s.BStmts) → length es ≤ i → join out (assigns n (exprs_of (drop i es))) ≡ before → out ≡ before
assigns_end n es i out before end so_far = row_ended out _ before (ap (λ xs. assigns n (exprs_of xs)) (none_left es i end)) so_far

-- variables that keep their numbers
pub own_clauses : (cs : List w.Clause) → renamed_clauses (λ i. i) cs ≡ cs
own_clauses [] = refl
own_clauses (c ∷ cs) =
    let e = renamed_own c.e in
    let rest = own_clauses cs in
    λ i. record { label = c.label; e = e i } ∷ rest i

pub own_asserts : (cs : List w.Clause) (before after : s.BStmts) → after ≡ join before (asserts (renamed_clauses (λ i. i) cs)) → after ≡ join before (asserts cs)
own_asserts cs before after made = made ∙ ap (λ ds. join before (asserts ds)) (own_clauses cs)

pub own_assumes : (cs : List w.Clause) (before after : s.BStmts) → after ≡ join before (assumes (renamed_clauses (λ i. i) cs)) → after ≡ join before (assumes cs)
own_assumes cs before after made = made ∙ ap (λ ds. join before (assumes ds)) (own_clauses cs)

-- ---- one block behind another

pub two_joined : (b0 b1 b2 xs ys : s.BStmts) → b1 ≡ join b0 xs → b2 ≡ join b1 ys → b2 ≡ join b0 (join xs ys)
two_joined b0 b1 b2 xs ys h g = g ∙ ap (λ z. join z ys) h ∙ join_join b0 xs ys

pub three_joined : (b0 b1 b2 b3 xs ys zs : s.BStmts) → b1 ≡ join b0 xs → b2 ≡ join b1 ys → b3 ≡ join b2 zs → b3 ≡ join b0 (join xs (join ys zs))
three_joined b0 b1 b2 b3 xs ys zs h g f = two_joined b0 b1 b3 xs (join ys zs) h (two_joined b1 b2 b3 ys zs g f)

pub four_joined : (b0 b1 b2 b3 b4 xs ys zs ws : s.BStmts) → b1 ≡ join b0 xs → b2 ≡ join b1 ys → b3 ≡ join b2 zs → b4 ≡ join b3 ws → b4 ≡ join b0 (join xs (join ys (join zs ws)))
four_joined b0 b1 b2 b3 b4 xs ys zs ws h g f e = two_joined b0 b1 b4 xs (join ys (join zs ws)) h (three_joined b1 b2 b3 b4 ys zs ws g f e)

pub head_joined : (b0 b1 b2 xs ys zs ws : s.BStmts) → b1 ≡ join b0 (join xs (join ys zs)) → b2 ≡ join b1 ws → b2 ≡ join b0 (join xs (join ys (join zs ws)))
head_joined b0 b1 b2 xs ys zs ws h g =
    two_joined b0 b1 b2 (join xs (join ys zs)) ws h g ∙ ap (join b0) (join_join xs (join ys zs) ws ∙ ap (join xs) (join_join ys zs ws))

-- ---- one statement

pub one_pushed : (old new : List stmt.BStmt) (x : stmt.BStmt) (y : s.BStmt) → new ≡ old ++ x ∷ [] → stmt_of x ≡ y → stmts_of new ≡ join (stmts_of old) (alone y)
one_pushed old new x y push is = ap stmts_of push ∙ stmts_append old (x ∷ []) ∙ ap (λ z. join (stmts_of old) (alone z)) is

pub simply : (a : Written) (types : List p.BType) (before after xs : s.BStmts) → a ≡ plainly xs → after ≡ join before xs → IsWritten a types before types after
simply a types before after xs is made = record {
  locals = sym (append-nil types) ∙ ap (λ (b : Written). types ++ b.locals) (sym is);
  stmts = made ∙ ap (λ (b : Written). join before b.stmts) (sym is);
}

pub nothing_written : (a : Written) (types : List p.BType) (before : s.BStmts) → a ≡ plainly s.skip → IsWritten a types before types before
nothing_written a types before is = simply a types before before s.skip is (sym (join_skip before))

pub length_in : (ls : List Local) → length (types_in ls) ≡ length ls
length_in [] = refl
length_in (l ∷ ls) = ap suc (length_in ls)

pub next_number : (n : ℕ) (old new more : List p.BType) → new ≡ old ++ more → n + length new ≡ (n + length old) + length more
next_number n old new more e =
    let h = ap length e ∙ length-append old more in
    omega (arith, h)

module _ (ps : List w.WProc) (ls : List p.BType) (y : w.WStmt) (t0 : List p.BType) where
  abbrev n0 : ℕ
  n0 = length ls + length t0

  module _ (xs ys : w.WStmts) (t1 t2 : List p.BType) (one two : s.BStmts) (h : IsWritten (cut ps ls xs n0) t0 s.skip t1 one) (g : IsWritten (cut ps ls ys (length ls + length t1)) t1 s.skip t2 two)
      (before after : s.BStmts) where
    abbrev a : Written
    a = cut ps ls xs n0

    abbrev c : Written
    c = cut ps ls ys (n0 + length a.locals)

    behind : length ls + length t1 ≡ n0 + length a.locals
    behind = next_number (length ls) t0 t1 a.locals h.locals

    both_locals : t2 ≡ t0 ++ (a.locals ++ c.locals)
    both_locals = g.locals ∙ (λ i. h.locals i ++ (cut ps ls ys (behind i)).locals) ∙ append_assoc t0 a.locals c.locals

    second : two ≡ c.stmts
    second = g.stmts ∙ ap (λ m. (cut ps ls ys m).stmts) behind

    pub if_written : (e : t.BExpr) → y ≡ w.If e xs ys → after ≡ join before (alone (s.If e one two)) → IsWritten (cut_stmt ps ls y n0) t0 before t2 after
    if_written e is made = subst (λ y. IsWritten (cut_stmt ps ls y n0) t0 before t2 after) (sym is) (record {
      locals = both_locals;
      stmts = made ∙ (λ i. join before (alone (s.If e (h.stmts i) (second i))));
    })

    pub either_written : y ≡ w.Either xs ys → after ≡ join before (alone (s.Either one two)) → IsWritten (cut_stmt ps ls y n0) t0 before t2 after
    either_written is made = subst (λ y. IsWritten (cut_stmt ps ls y n0) t0 before t2 after) (sym is) (record {
      locals = both_locals;
      stmts = made ∙ (λ i. join before (alone (s.Either (h.stmts i) (second i))));
    })

  pub while_written : (g : Option t.BExpr) (invariants : List w.Clause) (xs : w.WStmts) (t1 : List p.BType) (turn before after : s.BStmts) → y ≡ w.While g invariants xs →
      IsWritten (cut ps ls xs n0) t0 s.skip t1 turn → after ≡ join before (cut_loop g invariants (targets ls xs) turn) → IsWritten (cut_stmt ps ls y n0) t0 before t1 after
  while_written g invariants xs t1 turn before after is h made = subst (λ y. IsWritten (cut_stmt ps ls y n0) t0 before t1 after) (sym is) (record {
    locals = h.locals;
    stmts = made ∙ ap (λ z. join before (cut_loop g invariants (targets ls xs) z)) h.stmts;
  })

  pub call_written : (is : List ℕ) (name : List ℕ) (es : t.BExprs) (o : Option w.WProc) (t1 : List p.BType) (before after : s.BStmts) → y ≡ w.Call is name es → o ≡ proc_named ps name →
      IsWritten (cut_call is es n0 o) t0 before t1 after → IsWritten (cut_stmt ps ls y n0) t0 before t1 after
  call_written is name es o t1 before after there found h =
      subst (λ y. IsWritten (cut_stmt ps ls y n0) t0 before t1 after) (sym there) (subst (λ o. IsWritten (cut_call is es n0 o) t0 before t1 after) found h)

-- the parts of a loop
pub loop_joined : (own : List Local) (g : Option t.BExpr) (cs : List w.Clause) (body : w.WStmts) (turn ended b0 b1 b2 : s.BStmts) → ended ≡ cut_turn cs turn →
    b1 ≡ join b0 (join (asserts cs) (join (havocs (filter (changes body) (range_with_len 0 (length own)))) (assumes cs))) → b2 ≡ join b1 (alone (cut_guard g ended)) →
    b2 ≡ join b0 (cut_loop g cs (targets (types_in own) body) turn)
loop_joined own g cs body turn ended b0 b1 b2 end head made =
    let long = sym (length_in own) in
    head_joined b0 b1 b2 (asserts cs) (havocs (filter (changes body) (range_with_len 0 (length own)))) (assumes cs) (alone (cut_guard g ended)) head made
    ∙ (λ i. join b0 (join (asserts cs) (join (havocs (filter (changes body) (range_with_len 0 (long i)))) (join (assumes cs) (alone (cut_guard g (end i)))))))

-- ---- nodes, given what their parts were borrowed as

module _ {x : wstmt.WStmt} where
  pub if_is : {e : BExpr} (v u : Vec wstmt.WStmt Global) {xs ys : List wstmt.WStmt} → x ≡ wstmt.If e v u → xs ≡ v.items → ys ≡ u.items → wstmt_of x ≡ w.If (expr_of e) (wstmts_of xs) (wstmts_of ys)
  if_is {e = e} v u is same other = ap wstmt_of is ∙ wstmt_of-If e v u ∙ (λ i. w.If (expr_of e) (wstmts_of (sym same i)) (wstmts_of (sym other i)))

  pub either_is : (v u : Vec wstmt.WStmt Global) {xs ys : List wstmt.WStmt} → x ≡ wstmt.Either v u → xs ≡ v.items → ys ≡ u.items → wstmt_of x ≡ w.Either (wstmts_of xs) (wstmts_of ys)
  either_is v u is same other = ap wstmt_of is ∙ wstmt_of-Either v u ∙ (λ i. w.Either (wstmts_of (sym same i)) (wstmts_of (sym other i)))

  pub while_is : {g : Option BExpr} (invariants : Vec Clause Global) (v : Vec wstmt.WStmt Global) {cs : List Clause} {xs : List wstmt.WStmt} → x ≡ wstmt.While g invariants v →
      cs ≡ invariants.items → xs ≡ v.items → wstmt_of x ≡ w.While (option_map expr_of g) (clauses_of cs) (wstmts_of xs)
  while_is {g = g} invariants v is those same =
      ap wstmt_of is ∙ wstmt_of-While g invariants v ∙ (λ i. w.While (option_map expr_of g) (clauses_of (sym those i)) (wstmts_of (sym same i)))

  pub call_is : {is : Vec ℕ Global} {name : List ℕ} {es : Vec BExpr Global} {js : List ℕ} {xs : List BExpr} → x ≡ wstmt.Call is name es → js ≡ is.items → xs ≡ es.items →
      wstmt_of x ≡ w.Call js name (exprs_of xs)
  call_is {name = name} is those same = ap wstmt_of is ∙ (λ i. w.Call (sym those i) name (exprs_of (sym same i)))

-- ---- blocks

-- what is left of a block, behind what is written so far, comes to all
pub record Left (ps : List w.WProc) (ls : List p.BType) (rest : w.WStmts) (types : List p.BType) (out : s.BStmts) (all_types : List p.BType) (all : s.BStmts) : Type 0 where
  pub locals : types ++ (cut ps ls rest (length ls + length types)).locals ≡ all_types
  pub stmts : join out (cut ps ls rest (length ls + length types)).stmts ≡ all

module _ (ps : List w.WProc) (ls : List p.BType) where
  pub left_next : (stmts : List wstmt.WStmt) (i : ℕ) (x : wstmt.WStmt) (types new_types all_types : List p.BType) (out new all : s.BStmts) → i < length stmts → x ≡ get_or stmts i x →
      Left ps ls (wstmts_of (drop i stmts)) types out all_types all → IsWritten (cut_stmt ps ls (wstmt_of x) (length ls + length types)) types out new_types new →
      Left ps ls (wstmts_of (drop (i + 1) stmts)) new_types new all_types all
  left_next stmts i x types new_types all_types out new all lt is left h =
      let n = length ls + length types in
      let a = cut_stmt ps ls (wstmt_of x) n in
      let rest = wstmts_of (drop (i + 1) stmts) in
      let c = cut ps ls rest (n + length a.locals) in
      let at = next_item stmts i x lt is in
      let behind = next_number (length ls) types new_types a.locals h.locals in
      record {
        locals = (λ i. h.locals i ++ (cut ps ls rest (behind i)).locals) ∙ append_assoc types a.locals c.locals ∙ ap (λ z. types ++ (cut ps ls (wstmts_of z) n).locals) (sym at) ∙ left.locals;
        stmts = (λ i. join (h.stmts i) (cut ps ls rest (behind i)).stmts) ∙ join_join out a.stmts c.stmts ∙ ap (λ z. join out (cut ps ls (wstmts_of z) n).stmts) (sym at) ∙ left.stmts;
      }

  pub left_last : (stmts : List wstmt.WStmt) (i : ℕ) (types t0 : List p.BType) (out before : s.BStmts) (a : Written) → length stmts ≤ i →
      Left ps ls (wstmts_of (drop i stmts)) types out (t0 ++ a.locals) (join before a.stmts) → IsWritten a t0 before types out
  left_last stmts i types t0 out before a end left =
      let none = none_left stmts i end in
      let n = length ls + length types in
      record {
        locals = sym (append-nil types) ∙ ap (λ z. types ++ (cut ps ls (wstmts_of z) n).locals) (sym none) ∙ left.locals;
        stmts = sym (join_skip out) ∙ ap (λ z. join out (cut ps ls (wstmts_of z) n).stmts) (sym none) ∙ left.stmts;
      }

-- ---- calls

pub range_more : (a n : ℕ) (old new : List ℕ) (x : ℕ) → old ≡ range_with_len a n → x ≡ a + n → new ≡ old ++ x ∷ [] → new ≡ range_with_len a (n + 1)
range_more a n old new x are is push = let next : suc n ≡ n + 1 = omega arith in push ∙ (λ i. are i ++ is i ∷ []) ∙ by a n ∙ ap (range_with_len a) next
  where
    by : (a n : ℕ) → range_with_len a n ++ (a + n) ∷ [] ≡ range_with_len a (suc n)
    by a zero = let here : a + 0 ≡ a = omega arith in ap (λ k. k ∷ []) here
    by a (suc n) = let here : a + suc n ≡ (a + 1) + n = omega arith in ap (λ k. a ∷ range_with_len (a + 1) n ++ k ∷ []) here ∙ ap (λ ks. a ∷ ks) (by (a + 1) n)

pub numbers_are : (n : ℕ) (es : List BExpr) → argument_numbers n (exprs_of es) ≡ range_with_len n (length es)
numbers_are n [] = refl
numbers_are n (e ∷ es) = ap (λ is. n ∷ is) (numbers_are (n + 1) es)

pub call_joined : (is : List ℕ) (es : List BExpr) (n : ℕ) (d : WProc) (numbers lent : List ℕ) (before posts : List Clause) (b0 b1 b2 b3 b4 : s.BStmts) → numbers ≡ range_with_len n (length es) ++ is →
    lent ≡ numbers → before ≡ d.preconditions.items → posts ≡ d.postconditions.items → b1 ≡ join b0 (assigns n (exprs_of es)) → b2 ≡ join b1 (asserts (renamed_clauses (stands_for lent) (clauses_of before))) →
    b3 ≡ join b2 (havocs is) → b4 ≡ join b3 (assumes (renamed_clauses (stands_for lent) (clauses_of posts))) → b4 ≡ join b0 (cut_call is (exprs_of es) n (Some (wproc_of d))).stmts
call_joined is es n d numbers lent before posts b0 b1 b2 b3 b4 are same pre post h g f e =
    let names : lent ≡ argument_numbers n (exprs_of es) ++ is = same ∙ are ∙ ap (λ js. js ++ is) (sym (numbers_are n es)) in
    four_joined b0 b1 b2 b3 b4 _ _ _ _ h g f e
    ∙ (λ i. join b0 (join (assigns n (exprs_of es)) (join (asserts (renamed_clauses (stands_for (names i)) (clauses_of (pre i))))
    (join (havocs is) (assumes (renamed_clauses (stands_for (names i)) (clauses_of (post i))))))))

types_are : (ls : List Local) (d : WProc) → ls ≡ d.locals.items → types_in ls ≡ wide_types (wproc_of d)
types_are ls d e = ap types_in e ∙ by d.locals.items
  where
    by : (ls : List Local) → types_in ls ≡ map (λ (l : p.Local). l.ty) (map (λ (l : Local). record { name = l.name; ty = type_of l.ty }) ls)
    by [] = refl
    by (l ∷ ls) = ap (λ us. type_of l.ty ∷ us) (by ls)

pub param_is : (d : WProc) (ls xs : List Local) → ls ≡ d.locals.items → xs ≡ take d.params ls → types_in xs ≡ param_types (wproc_of d)
param_is d ls xs e f = ap types_in f ∙ taken (λ (l : Local). type_of l.ty) d.params ls ∙ ap (take d.params) (types_are ls d e)

pub types_next : (ls : List Local) (i : ℕ) (l : Local) (all old new : List p.BType) → i < length ls → l ≡ get_or ls i l → new ≡ old ++ type_of l.ty ∷ [] → old ++ types_in (drop i ls) ≡ all →
    new ++ types_in (drop (i + 1) ls) ≡ all
types_next ls i l all old new lt is made same =
    let at = next_item ls i l lt is in
    ap (λ z. z ++ types_in (drop (i + 1) ls)) made ∙ append_assoc old (type_of l.ty ∷ []) (types_in (drop (i + 1) ls)) ∙ ap (λ z. old ++ types_in z) (sym at) ∙ same

pub types_last : (ls : List Local) (i : ℕ) (all old : List p.BType) → length ls ≤ i → old ++ types_in (drop i ls) ≡ all → old ≡ all
types_last ls i all old h same = sym (append-nil old) ∙ ap (λ z. old ++ types_in z) (sym (none_left ls i h)) ∙ same

-- ---- procedures

pub body_written : (ps : List w.WProc) (d : WProc) (own : List Local) (pres posts : List Clause) (body : w.WStmts) (t0 t1 : List p.BType) (b1 b2 b3 : s.BStmts) → own ≡ d.locals.items →
    pres ≡ d.preconditions.items → posts ≡ d.postconditions.items → t0 ≡ [] → b1 ≡ join s.skip (assumes (renamed_clauses (λ i. i) (clauses_of pres))) →
    IsWritten (cut ps (types_in own) body (length (types_in own) + length t0)) t0 b1 t1 b2 → b3 ≡ join b2 (asserts (renamed_clauses (λ i. i) (clauses_of posts))) → IsBody ps (wproc_of d) body t1 b3
body_written ps d own pres posts body t0 t1 b1 b2 b3 e pre post none before h after =
    let long = length_in own in
    let named = ap length e in
    let same = length_views d.locals.items in
    let empty = ap length none in
    let number : length (types_in own) + length t0 ≡ length (locals_of d.locals.items) = omega (arith, long, named, same, empty) in
    let ls = types_are own d e in
    let pre_is = before ∙ ap assumes (own_clauses (clauses_of pres) ∙ ap clauses_of pre) in
    let post_is = ap asserts (own_clauses (clauses_of posts) ∙ ap clauses_of post) in
    let xs = (cut ps (wide_types (wproc_of d)) body (length (locals_of d.locals.items))).stmts in
    record {
      locals = h.locals ∙ (λ i. none i ++ (cut ps (ls i) body (number i)).locals);
      stmts =
          after ∙ (λ i. join ((h.stmts ∙ (λ j. join (pre_is j) (cut ps (ls j) body (number j)).stmts)) i) (post_is i))
          ∙ join_join (assumes (clauses_of d.preconditions.items)) xs (asserts (clauses_of d.postconditions.items));
    }
  where
    length_views : (ls : List Local) → length (locals_of ls) ≡ length ls
    length_views [] = refl
    length_views (l ∷ ls) = ap suc (length_views ls)

pub proc_written : (ps : List w.WProc) (d : WProc) (own : List Local) (body : w.WStmts) (name : List ℕ) (locals : List p.Local) (stmts : s.BStmts) (types : List p.BType) → name ≡ d.name → own ≡ d.locals.items →
    IsBody ps (wproc_of d) body types stmts → locals ≡ locals_of own ++ fresh_locals (a_names own) 0 types → record { name = name; locals = locals; body = stmts } ≡ cut_proc ps (wproc_of d) body
proc_written ps d own body name locals stmts types named e h are =
    let locals_are = are ∙ (λ i. locals_of (e i) ++ fresh_locals (a_names (e i)) 0 (h.locals i))
    ∙ ap (λ taken. locals_of d.locals.items ++ fresh_locals taken 0 (cut ps (wide_types (wproc_of d)) body (length (locals_of d.locals.items))).locals) (sym (names_are d.locals.items)) in
    let body_is = h.stmts in
    λ i. record { name = named i; locals = locals_are i; body = body_is i }

procs_first : (ps : List w.WProc) (d : w.WProc) (ds : List w.WProc) → cut_procs ps (d ∷ ds) ≡ cut_procs ps (d ∷ []) ++ cut_procs ps ds
procs_first ps d ds = by (option_map (cut_proc ps d) d.body) refl
  where
    by : (o : Option p.Proc) → option_map (cut_proc ps d) d.body ≡ o → cut_procs ps (d ∷ ds) ≡ cut_procs ps (d ∷ []) ++ cut_procs ps ds
    by None e = rw e refl
    by (Some x) e = rw e refl

pub with_body : (ps : List w.WProc) (d : WProc) (v : Vec wstmt.WStmt Global) (old new : List Proc) (x : Proc) (body : List wstmt.WStmt) → d.body ≡ Some v → body ≡ v.items →
    proc_of x ≡ cut_proc ps (wproc_of d) (wstmts_of body) → new ≡ old ++ x ∷ [] → map proc_of new ≡ map proc_of old ++ cut_procs ps (wproc_of d ∷ [])
with_body ps d v old new x body is same made push =
    ap (map proc_of) push ∙ mapped old x ∙ ap (λ y. map proc_of old ++ y ∷ []) (made ∙ ap (λ b. cut_proc ps (wproc_of d) (wstmts_of b)) same)
    ∙ ap (λ (o : Option (Vec wstmt.WStmt Global)). map proc_of old ++ filter_map (λ (o : Option w.WStmts). option_map (cut_proc ps (wproc_of d)) o) (option_map (λ xs. wstmts_of xs.items) o ∷ [])) (sym is)
  where
    mapped : (xs : List Proc) (x : Proc) → map proc_of (xs ++ x ∷ []) ≡ map proc_of xs ++ proc_of x ∷ []
    mapped [] x = refl
    mapped (y ∷ xs) x = ap (λ ys. proc_of y ∷ ys) (mapped xs x)

pub procs_next : (ps : List w.WProc) (ds : List WProc) (i : ℕ) (d : WProc) (old new all : List p.Proc) → i < length ds → d ≡ get_or ds i d → new ≡ old ++ cut_procs ps (wproc_of d ∷ []) →
    old ++ cut_procs ps (map wproc_of (drop i ds)) ≡ all → new ++ cut_procs ps (map wproc_of (drop (i + 1) ds)) ≡ all
procs_next ps ds i d old new all lt is made so_far =
    let rest = map wproc_of (drop (i + 1) ds) in
    ap (λ z. z ++ cut_procs ps rest) made ∙ append_assoc old (cut_procs ps (wproc_of d ∷ [])) (cut_procs ps rest) ∙ ap (λ z. old ++ z) (sym (procs_first ps (wproc_of d) rest))
    ∙ ap (λ xs. old ++ cut_procs ps (map wproc_of xs)) (sym (next_item ds i d lt is)) ∙ so_far

pub procs_end : (ps : List w.WProc) (ds : List WProc) (i : ℕ) (old all : List p.Proc) → length ds ≤ i → old ++ cut_procs ps (map wproc_of (drop i ds)) ≡ all → old ≡ all
procs_end ps ds i old all end so_far = sym (append-nil old) ∙ ap (λ xs. old ++ cut_procs ps (map wproc_of xs)) (sym (none_left ds i end)) ∙ so_far
