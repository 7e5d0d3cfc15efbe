-- The literals of what is written can be spelled where those of the program can.
use Rattle.std.proofs.Common.{◌≡◌, ◌+◌, ℕ, Option, Some, None, List, [], ◌∷◌, ◌++◌, length, All, refl}
use Rattle.std.proofs.lemmas.List.Elements.{All-nil, All-cons, All-head, All-tail}
use Rattle.lemmas.proofs.Lists.{at_item}
use Rattle.boogie_tree.specs.Expr as t
use Rattle.boogie_tree.specs.Stmt as s
use Rattle.boogie_tree.specs.Literals.{LiteralsFit, IndexLiteralsFit, StmtLiteralsFit, BlockLiteralsFit}
use Rattle.boogie_tree.specs.Program.{BType}
use Rattle.boogie_meaning.specs.Renamed.{renamed, renamed_in}
use Rattle.boogie_loops.specs.Wide as w
use Rattle.boogie_loops.specs.Wide.{Clause, WProc}
use Rattle.boogie_loops.specs.Changed.{targets}
use Rattle.boogie_loops.specs.Conditions.{ClauseLiteralsFit, GuardLiteralsFit, WideStmtLiteralsFit, WideLiteralsFit, ProcLiteralsFit}
use Rattle.boogie_loops.specs.Procedures.{proc_named}
use Rattle.boogie_cut.specs.Cut.{join, asserts, assumes, havocs, assigns, argument_numbers, stands_for, renamed_clauses, cut_call, cut_guard, cut_turn, cut_loop, cut_stmt, cut, cut_body}
use Rattle.boogie_cut.proofs.TypedLaws.{found}

module _ (f : ℕ → ℕ) where
  mutual
    renamed_fits : (e : t.BExpr) → LiteralsFit e → LiteralsFit (renamed f e)
    renamed_fits (t.Var i) h = tt
    renamed_fits (t.Int n) h = h
    renamed_fits (t.Real n) h = h
    renamed_fits (t.Bool p) h = tt
    renamed_fits t.Null h = tt
    renamed_fits t.Unit h = tt
    renamed_fits (t.Neg a) h = renamed_fits a h
    renamed_fits (t.Not a) h = renamed_fits a h
    renamed_fits (t.Bin o x y) h = (renamed_fits x h.0, renamed_fits y h.1)
    renamed_fits (t.If c x y) h = (renamed_fits c h.0, renamed_fits x h.1, renamed_fits y h.2)
    renamed_fits (t.Forall us a) h = (h.0, renamed_fits a h.1)
    renamed_fits (t.ToReal a) h = renamed_fits a h
    renamed_fits (t.SInt a) h = renamed_fits a h
    renamed_fits (t.SBool a) h = renamed_fits a h
    renamed_fits (t.SRef a) h = renamed_fits a h
    renamed_fits (t.SPerm a) h = renamed_fits a h
    renamed_fits (t.Pair x y) h = (renamed_fits x h.0, renamed_fits y h.1)
    renamed_fits (t.At m es) h = all_renamed_fit es h
    renamed_fits (t.AtBound m) h = tt

    all_renamed_fit : (es : t.BExprs) → IndexLiteralsFit es → IndexLiteralsFit (renamed_in f es)
    all_renamed_fit t.none h = tt
    all_renamed_fit (t.more a es) h = (renamed_fits a h.0, all_renamed_fit es h.1)

  clauses_fit : (clauses : List Clause) → ClauseLiteralsFit clauses → ClauseLiteralsFit (renamed_clauses f clauses)
  clauses_fit [] h = All-nil (λ (c : Clause). LiteralsFit c.e)
  clauses_fit (c ∷ rest) h = All-cons (λ (c : Clause). LiteralsFit c.e) (record { label = c.label; e = renamed f c.e }) (renamed_clauses f rest)
      (renamed_fits c.e (All-head (λ (c : Clause). LiteralsFit c.e) c rest h)) (clauses_fit rest (All-tail (λ (c : Clause). LiteralsFit c.e) c rest h))

-- ---- blocks

join_fits : (xs ys : s.BStmts) → BlockLiteralsFit xs → BlockLiteralsFit ys → BlockLiteralsFit (join xs ys)
join_fits s.skip ys h k = k
join_fits (s.first x xs) ys h k = (h.0, join_fits xs ys h.1 k)

asserts_fit : (clauses : List Clause) → ClauseLiteralsFit clauses → BlockLiteralsFit (asserts clauses)
asserts_fit [] h = tt
asserts_fit (c ∷ rest) h = (All-head (λ (c : Clause). LiteralsFit c.e) c rest h, asserts_fit rest (All-tail (λ (c : Clause). LiteralsFit c.e) c rest h))

assumes_fit : (clauses : List Clause) → ClauseLiteralsFit clauses → BlockLiteralsFit (assumes clauses)
assumes_fit [] h = tt
assumes_fit (c ∷ rest) h = (All-head (λ (c : Clause). LiteralsFit c.e) c rest h, assumes_fit rest (All-tail (λ (c : Clause). LiteralsFit c.e) c rest h))

havocs_fit : (is : List ℕ) → BlockLiteralsFit (havocs is)
havocs_fit [] = tt
havocs_fit (i ∷ is) = (tt, havocs_fit is)

assigns_fit : (n : ℕ) (es : t.BExprs) → IndexLiteralsFit es → BlockLiteralsFit (assigns n es)
assigns_fit n t.none h = tt
assigns_fit n (t.more e es) h = (h.0, assigns_fit (n + 1) es h.1)

guard_fits : (g : Option t.BExpr) (xs : s.BStmts) → GuardLiteralsFit g → BlockLiteralsFit xs → StmtLiteralsFit (cut_guard g xs)
guard_fits None xs g h = (h, tt)
guard_fits (Some e) xs g h = (g, h, tt)

loop_fits : (g : Option t.BExpr) (invariants : List Clause) (is : List ℕ) (xs : s.BStmts) → GuardLiteralsFit g → ClauseLiteralsFit invariants → BlockLiteralsFit xs →
    BlockLiteralsFit (cut_loop g invariants is xs)
loop_fits g invariants is xs guard clauses h =
    join_fits (asserts invariants) _ (asserts_fit invariants clauses)
    (join_fits (havocs is) _ (havocs_fit is)
    (join_fits (assumes invariants) _ (assumes_fit invariants clauses)
    (guard_fits g (cut_turn invariants xs) guard (join_fits xs _ h (join_fits (asserts invariants) _ (asserts_fit invariants clauses) (tt, tt))), tt)))

module _ (ps : List WProc) (fit : All ProcLiteralsFit ps) (ls : List BType) where
  call_fits : (is name : List ℕ) (es : t.BExprs) (n : ℕ) (o : Option WProc) → proc_named ps name ≡ o → IndexLiteralsFit es → BlockLiteralsFit (cut_call is es n o).stmts
  call_fits is name es n None e h = tt
  call_fits is name es n (Some d) e h =
      let f = stands_for (argument_numbers n es ++ is) in
      let at = found (λ (x : WProc). _) ps d e in
      let callee = at_item ProcLiteralsFit ps fit at.0 d at.1 in
      join_fits (assigns n es) _ (assigns_fit n es h)
      (join_fits (asserts (renamed_clauses f d.preconditions)) _ (asserts_fit (renamed_clauses f d.preconditions) (clauses_fit f d.preconditions callee.preconditions))
      (join_fits (havocs is) _ (havocs_fit is) (assumes_fit (renamed_clauses f d.postconditions) (clauses_fit f d.postconditions callee.postconditions))))

  mutual
    stmt_fits : (x : w.WStmt) (n : ℕ) → WideStmtLiteralsFit x → BlockLiteralsFit (cut_stmt ps ls x n).stmts
    stmt_fits (w.Assign i e) n h = (h, tt)
    stmt_fits (w.Put i es e) n h = (h, tt)
    stmt_fits (w.Havoc i) n h = (tt, tt)
    stmt_fits (w.Assume e) n h = (h, tt)
    stmt_fits (w.Assert l e) n h = (h, tt)
    stmt_fits (w.If e xs ys) n h = ((h.0, block_fits xs n h.1, block_fits ys (n + length (cut ps ls xs n).locals) h.2), tt)
    stmt_fits (w.Either xs ys) n h = ((block_fits xs n h.0, block_fits ys (n + length (cut ps ls xs n).locals) h.1), tt)
    stmt_fits (w.While g invariants xs) n h = loop_fits g invariants (targets ls xs) (cut ps ls xs n).stmts h.0 h.1 (block_fits xs n h.2)
    stmt_fits (w.Call is name es) n h = call_fits is name es n (proc_named ps name) refl h

    block_fits : (xs : w.WStmts) (n : ℕ) → WideLiteralsFit xs → BlockLiteralsFit (cut ps ls xs n).stmts
    block_fits w.skip n h = tt
    block_fits (w.first x xs) n h =
        let a = cut_stmt ps ls x n in
        join_fits a.stmts (cut ps ls xs (n + length a.locals)).stmts (stmt_fits x n h.0) (block_fits xs (n + length a.locals) h.1)

  pub body_fits : (d : WProc) (body : w.WStmts) (n : ℕ) → ProcLiteralsFit d → WideLiteralsFit body → BlockLiteralsFit (cut_body d (cut ps ls body n).stmts)
  body_fits d body n h k =
      join_fits (assumes d.preconditions) _ (assumes_fit d.preconditions h.preconditions)
      (join_fits (cut ps ls body n).stmts _ (block_fits body n k) (asserts_fit d.postconditions h.postconditions))
