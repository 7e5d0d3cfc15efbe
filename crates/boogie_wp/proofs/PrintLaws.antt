-- What is built of a procedure that can be printed can be printed.
use Rattle.std.proofs.Common.{◌≡◌, ◌≢◌, ◌+◌, ◌<◌, ◌≤◌, ℕ, zero, suc, Bool as Truth, true, false, All, List, [], ◌∷◌, ◌++◌, slice_set, length, length-append, if◌then◌else◌, nat_eq, refl, ap, subst, ◌∙◌, arith}
use Rattle.std.proofs.lemmas.List.Elements.{All-push, All-nil, All-head, All-tail, All-weaker}
use Rattle.vb_base.specs.declared.labels.Label.{Label}
use Rattle.boogie_tree.specs.Expr as t
use Rattle.boogie_tree.specs.Fits.{FitsExpr, FitExprs, FitsStmt, FitStmts}
use Rattle.boogie_tree.specs.Stmt as s
use Rattle.boogie_tree.specs.Program.{BType, Proc}
use Rattle.boogie_tree.specs.declared.exprs.BOp.TheVariants as op
use Rattle.boogie_meaning.specs.Programs.{types_of, IsTypedProc}
use Rattle.boogie_meaning.specs.Renamed.{renamed, renamed_in}
use Rattle.boogie_formula.specs.Formula as f
use Rattle.boogie_formula.specs.Formula.{FExpr}
use Rattle.boogie_formula.specs.declared.formulas.Fail.{Fail}
use Rattle.boogie_formula.specs.Choices.{own_types, slots, slots_stmt, variables_of}
use Rattle.boogie_formula.specs.Printable.{FitsScalar, FitKeys, FitsValue, scalar, update, FitLets, NamesDefinition, IsPrintableConditions, IsPrintableFormula}
use Rattle.boogie_wp.specs.Labels.{same_label}
use Rattle.boogie_wp.specs.Lifted.{lifted, lifted_all}
use Rattle.boogie_wp.specs.Build.{ConditionsBuilder, number_at, named, fresh, define, store, choose, go_where, failing, assume, check, Merged, merge, join, back, fork, built_stmt, built, numbers, started, conditions_for, formula_for, Chain, one_more as next_link, linked, chained, chain_from}
use Rattle.boogie_wp.proofs.LiftLaws.{plain_lifted, plain_lifted_all}
use Rattle.boogie_wp.proofs.TotalLaws.{slots_own}
use Rattle.boogie_wp.proofs.BuildLaws.{next_stmt, next_block}
use Rattle.boogie_wp.proofs.FormulaLaws.{formula_typed, conditions_typed}

-- ---- expressions under other names

module _ (m k : ℕ) (g : ℕ → ℕ) (below : (i : ℕ) → g i < k) where
  mutual
    renamed_fits : (b : Truth) (e : t.BExpr) → FitsExpr m b e → FitsExpr k b (renamed g e)
    renamed_fits b (t.Var i) h = below i
    renamed_fits b (t.Int n) h = h
    renamed_fits b (t.Real n) h = h
    renamed_fits b (t.Bool c) h = tt
    renamed_fits b t.Null h = tt
    renamed_fits b t.Unit h = tt
    renamed_fits b (t.Neg x) h = renamed_fits b x h
    renamed_fits b (t.Not x) h = renamed_fits b x h
    renamed_fits b (t.Bin o x y) h = (renamed_fits b x h.0, renamed_fits b y h.1)
    renamed_fits b (t.If x y z) h = (renamed_fits b x h.0, renamed_fits b y h.1, renamed_fits b z h.2)
    renamed_fits b (t.Forall us x) h = (h.0, h.1, h.2, renamed_fits true x h.3)
    renamed_fits b (t.ToReal x) h = renamed_fits b x h
    renamed_fits b (t.SInt x) h = renamed_fits b x h
    renamed_fits b (t.SBool x) h = renamed_fits b x h
    renamed_fits b (t.SRef x) h = renamed_fits b x h
    renamed_fits b (t.SPerm x) h = renamed_fits b x h
    renamed_fits b (t.Pair x y) h = (renamed_fits b x h.0, renamed_fits b y h.1)
    renamed_fits b (t.At i xs) h = (below i, some_renamed xs h.1, renamed_fit b xs h.2)
    renamed_fits b (t.AtBound i) h = (below i, h.1)

    renamed_fit : (b : Truth) (es : t.BExprs) → FitExprs m b es → FitExprs k b (renamed_in g es)
    renamed_fit b t.none h = tt
    renamed_fit b (t.more x xs) h = (renamed_fits b x h.0, renamed_fit b xs h.1)

    some_renamed : (es : t.BExprs) → es ≢ t.none → renamed_in g es ≢ t.none
    some_renamed t.none h e = h refl
    some_renamed (t.more x xs) h e = absurd (cc)

  lifted_fits : (e : t.BExpr) → FitsExpr m false e → FitsScalar k (lifted g e)
  lifted_fits e h = record { tree = renamed g e; is = plain_lifted g e; fits = renamed_fits false e h }

  lifted_fit : (es : t.BExprs) → es ≢ t.none → FitExprs m false es → FitKeys k (lifted_all g es)
  lifted_fit es n h = record { trees = renamed_in g es; is = plain_lifted_all g es; some = some_renamed es n; fits = renamed_fit false es h }

-- ---- names below a number

abbrev Below : List ℕ → ℕ → Type 0
Below js k = (i : ℕ) → number_at js i < k

below_set : (js : List ℕ) (i v k : ℕ) → Below js k → v < k → Below (slice_set js i v) k
below_set [] i v k h lt j = h j
below_set (x ∷ js) zero v k h lt zero = lt
below_set (x ∷ js) zero v k h lt (suc j) = h (suc j)
below_set (x ∷ js) (suc i) v k h lt zero = h zero
below_set (x ∷ js) (suc i) v k h lt (suc j) = below_set js i v k (λ l. h (suc l)) lt j

below_numbers : (ls : List BType) (m k : ℕ) → m + length ls ≤ k → 0 < k → Below (numbers m ls) k
below_numbers [] m k h lt j = lt
below_numbers (l ∷ ls) m k h lt zero = omega (arith, h)
below_numbers (l ∷ ls) m k h lt (suc j) = below_numbers ls (m + 1) k (omega (arith, h)) lt j

lets_more : (m : ℕ) (lets : List FExpr) (e : FExpr) → FitLets m lets → FitsValue (m + length lets) e → FitLets m (lets ++ e ∷ [])
lets_more m [] e h v = let same : m + 0 ≡ m = omega (arith) in (subst (λ k. FitsValue k e) same v, tt)
lets_more m (x ∷ lets) e h v =
    let same : m + suc (length lets) ≡ m + 1 + length lets = omega (arith) in
    (h.0, lets_more (m + 1) lets e h.1 (subst (λ k. FitsValue k e) same v))

one_more : (n : ℕ) (lets : List FExpr) (e : FExpr) → n + length (lets ++ e ∷ []) ≡ n + length lets + 1
one_more n lets e = let a = length-append lets (e ∷ []) in let b : length (e ∷ []) ≡ 1 = refl in omega (arith, a, b)

-- the name is one of those of definitions
record Between (n m : ℕ) (a : Fail) : Type 0 where
  behind : n ≤ a.name
  there : a.name < m

between_more : (n m k : ℕ) (fs : List Fail) → m ≤ k → All (Between n m) fs → All (Between n k) fs
between_more n m k fs le h = All-weaker (Between n m) (Between n k) (λ a g. let lt = g.there in record { behind = g.behind; there = omega (arith, le, lt) }) fs h

module _ (n : ℕ) where
  record Fits (b : ConditionsBuilder) : Type 0 where
    lets : FitLets n b.lets
    versions : Below b.versions (n + length b.lets)
    path : b.path < n + length b.lets
    fails : All (Between n (n + length b.lets)) b.fails

  fits_define : (e : FExpr) (b : ConditionsBuilder) → FitsValue (n + length b.lets) e → Fits b → Fits (define e b)
  fits_define e b v h =
      let more = one_more n b.lets e in
      record {
        lets = lets_more n b.lets e h.lets v;
        versions = λ i. let lt = h.versions i in omega (arith, more, lt);
        path = omega (arith, more, h.path);
        fails = between_more n (n + length b.lets) (n + length (b.lets ++ e ∷ [])) b.fails (omega (arith, more)) h.fails;
      }

  new_below : (e : FExpr) (b : ConditionsBuilder) → n + length b.lets < n + length (b.lets ++ e ∷ [])
  new_below e b = let more = one_more n b.lets e in omega (arith, more)

  fits_store : (i : ℕ) (e : FExpr) (b : ConditionsBuilder) → FitsValue (n + length b.lets) e → Fits b → Fits (store n i e b)
  fits_store i e b v h =
      let d = fits_define e b v h in
      record { lets = d.lets; versions = below_set b.versions i (fresh n b) (n + length (b.lets ++ e ∷ [])) d.versions (new_below e b); path = d.path; fails = d.fails }

  fits_choose : (i : ℕ) (b : ConditionsBuilder) → b.next < n → Fits b → Fits (choose i b)
  fits_choose i b lt h =
      record { lets = h.lets; versions = below_set b.versions i b.next (n + length b.lets) h.versions (omega (arith, lt)); path = h.path; fails = h.fails }

  var_fits : {k j : ℕ} → j < k → FitsScalar k (f.Var j)
  var_fits {j = j} lt = record { tree = t.Var j; is = refl; fits = lt }

  not_fits : {k : ℕ} {e : FExpr} → FitsScalar k e → FitsScalar k (f.Not e)
  not_fits a = record { tree = t.Not a.tree; is = rw (a.is) refl; fits = a.fits }

  bin_fits : {k : ℕ} {e g : FExpr} (o : _) → FitsScalar k e → FitsScalar k g → FitsScalar k (f.Bin o e g)
  bin_fits o a b = record { tree = t.Bin o a.tree b.tree; is = rw (a.is, b.is) refl; fits = (a.fits, b.fits) }

  fits_where : (e : FExpr) (b : ConditionsBuilder) → FitsScalar (n + length b.lets) e → Fits b → Fits (go_where n e b)
  fits_where e b v h =
      let d = fits_define (f.Bin op.And (f.Var b.path) e) b (scalar (bin_fits op.And (var_fits h.path) v)) h in
      record { lets = d.lets; versions = d.versions; path = new_below (f.Bin op.And (f.Var b.path) e) b; fails = d.fails }

  fits_failing : (l : Label) (c : ℕ) (b : ConditionsBuilder) → c < n + length b.lets → Fits b → Fits (failing n l c b)
  fits_failing l c b lt h =
      let e = f.Bin op.And (f.Var b.path) (f.Not (f.Var c)) in
      let d = fits_define e b (scalar (bin_fits op.And (var_fits h.path) (not_fits (var_fits lt)))) h in
      let m = n + length (b.lets ++ e ∷ []) in
      record { lets = d.lets; versions = d.versions; path = d.path; fails = All-push (Between n m) b.fails _ d.fails (record { behind = omega (arith); there = new_below e b }) }

  fits_assume : (e : FExpr) (b : ConditionsBuilder) → FitsScalar (n + length b.lets) e → Fits b → Fits (assume n e b)
  fits_assume e b v h = fits_where (f.Var (fresh n b)) (define e b) (var_fits (new_below e b)) (fits_define e b (scalar v) h)

  fits_check : (l : Label) (e : FExpr) (b : ConditionsBuilder) → FitsScalar (n + length b.lets) e → Fits b → Fits (check n l e b)
  fits_check l e b v h =
      let c = fresh n b in
      let d = define e b in
      let lt = new_below e b in
      let more = one_more n d.lets (f.Bin op.And (f.Var d.path) (f.Not (f.Var c))) in
      fits_where (f.Var c) (failing n l c d) (var_fits (omega (arith, lt, more))) (fits_failing l c d lt (fits_define e b (scalar v) h))

  -- the names and definitions after two branches
  record FitMerged (k : ℕ) (m : Merged) : Type 0 where
    longer : k ≤ n + length m.lets
    lets : FitLets n m.lets
    versions : Below m.versions (n + length m.lets)

  below_cons : (v k : ℕ) (js : List ℕ) → v < k → Below js k → Below (v ∷ js) k
  below_cons v k js lt h zero = lt
  below_cons v k js lt h (suc i) = h i

  if_merged : (p : Truth) (k : ℕ) (x y : Merged) → FitMerged k x → FitMerged k y → FitMerged k (if p then x else y)
  if_merged true k x y h g = h
  if_merged false k x y h g = g

  merge_fits : (c : ℕ) (vs ws : List ℕ) (lets : List FExpr) → c < n + length lets → Below vs (n + length lets) → Below ws (n + length lets) → FitLets n lets →
      FitMerged (n + length lets) (merge n c vs ws lets)
  merge_fits c vs [] lets lt h g l = record { longer = omega (arith); lets = l; versions = λ i. let z = g i in z }
  merge_fits c [] (w ∷ ws) lets lt h g l = record { longer = omega (arith); lets = l; versions = g }
  merge_fits c (v ∷ vs) (w ∷ ws) lets lt h g l =
      let e = f.If (f.Var c) (f.Var v) (f.Var w) in
      let more = one_more n lets e in
      let first = h zero in
      let second = g zero in
      let fits : FitsValue (n + length lets) e = scalar (record { tree = t.If (t.Var c) (t.Var v) (t.Var w); is = refl; fits = (lt, first, second) }) in
      let x = merge_fits c vs ws lets lt (λ i. h (suc i)) (λ i. g (suc i)) l in
      let y = merge_fits c vs ws (lets ++ e ∷ []) (omega (arith, more, lt)) (λ i. let z = h (suc i) in omega (arith, more, z)) (λ i. let z = g (suc i) in omega (arith, more, z))
      (lets_more n lets e l fits) in
      if_merged (nat_eq v w) (n + length lets) _ _
      (record { longer = x.longer; lets = x.lets; versions = below_cons w _ _ (omega (arith, second, x.longer)) x.versions })
      (record { longer = omega (arith, more, y.longer); lets = y.lets; versions = below_cons (n + length lets) _ _ (omega (arith, more, y.longer)) y.versions })

  fits_join : (c : ℕ) (versions : List ℕ) (path : ℕ) (y : ConditionsBuilder) → c < n + length y.lets → Below versions (n + length y.lets) → path < n + length y.lets → Fits y → Fits (join n c versions path y)
  fits_join c versions path y lt h p g =
      let e = f.Bin op.Or (f.Var path) (f.Var y.path) in
      let more = one_more n y.lets e in
      let m = merge_fits c versions y.versions (y.lets ++ e ∷ []) (omega (arith, more, lt)) (λ i. let z = h i in omega (arith, more, z)) (λ i. let z = g.versions i in omega (arith, more, z))
      (lets_more n y.lets e g.lets (scalar (bin_fits op.Or (var_fits p) (var_fits g.path)))) in
      let k = merge n c versions y.versions (y.lets ++ e ∷ []) in
      record {
        lets = m.lets;
        versions = m.versions;
        path = omega (arith, more, m.longer);
        fails = between_more n (n + length y.lets) (n + length k.lets) y.fails (omega (arith, more, m.longer)) g.fails;
      }

  -- ---- statements

  record Grows (b c : ConditionsBuilder) : Type 0 where
    fits : Fits c
    longer : length b.lets ≤ length c.lets

  one_longer : (lets : List FExpr) (e : FExpr) → length (lets ++ e ∷ []) ≡ suc (length lets)
  one_longer lets e = let a = length-append lets (e ∷ []) in let b : length (e ∷ []) ≡ 1 = refl in omega (arith, a, b)

  fork_grows : (c : ℕ) (left right : ConditionsBuilder → ConditionsBuilder) (b : ConditionsBuilder) → c < n + length b.lets → Fits b → ((z : ConditionsBuilder) → z.next ≡ b.next → Fits z → Grows z (left z)) →
      ((z : ConditionsBuilder) → z.next ≡ (left (go_where n (f.Var c) b)).next → Fits z → Grows z (right z)) → Grows b (fork n c left right b)
  fork_grows c left right b lt h grow more =
      let start = go_where n (f.Var c) b in
      let x = grow start refl (fits_where (f.Var c) b (var_fits lt) h) in
      let bx = left start in
      let start_long = one_longer b.lets (f.Bin op.And (f.Var b.path) (f.Var c)) in
      let again : Fits (record bx { versions = b.versions; path = b.path }) = record {
        lets = x.fits.lets;
        versions = λ i. let z = h.versions i in omega (arith, z, x.longer, start_long);
        path = omega (arith, h.path, x.longer, start_long);
        fails = x.fits.fails;
      } in
      let c_there : c < n + length bx.lets = omega (arith, lt, x.longer, start_long) in
      let second = back n c b bx in
      let second_long = one_longer bx.lets (f.Bin op.And (f.Var b.path) (f.Not (f.Var c))) in
      let y = more second refl (fits_where (f.Not (f.Var c)) (record bx { versions = b.versions; path = b.path }) (not_fits (var_fits c_there)) again) in
      let by = right second in
      let join_long = one_longer by.lets (f.Bin op.Or (f.Var bx.path) (f.Var by.path)) in
      let m = merge_longer c bx.versions by.versions (by.lets ++ f.Bin op.Or (f.Var bx.path) (f.Var by.path) ∷ []) in
      record {
        fits = fits_join c bx.versions bx.path by (omega (arith, c_there, second_long, y.longer)) (λ i. let z = x.fits.versions i in omega (arith, z, second_long, y.longer))
            (omega (arith, x.fits.path, second_long, y.longer)) y.fits;
        longer = omega (arith, start_long, x.longer, second_long, y.longer, join_long, m);
      }
    where
      if_long : (p : Truth) (k : ℕ) (x y : Merged) → k ≤ length x.lets → k ≤ length y.lets → k ≤ length (if p then x else y).lets
      if_long true k x y h g = h
      if_long false k x y h g = g

      merge_longer : (c : ℕ) (vs ws : List ℕ) (lets : List FExpr) → length lets ≤ length (merge n c vs ws lets).lets
      merge_longer c vs [] lets = omega (arith)
      merge_longer c [] (w ∷ ws) lets = omega (arith)
      merge_longer c (v ∷ vs) (w ∷ ws) lets =
          let e = f.If (f.Var c) (f.Var v) (f.Var w) in
          let long = one_longer lets e in
          let x = merge_longer c vs ws lets in
          let y = merge_longer c vs ws (lets ++ e ∷ []) in
          if_long (nat_eq v w) (length lets) _ _ x (omega (arith, long, y))

  where_grows : (e : FExpr) (b : ConditionsBuilder) → FitsScalar (n + length b.lets) e → Fits b → Grows b (assume n e b)
  where_grows e b v h =
      let first = one_longer b.lets e in
      let second = one_longer (b.lets ++ e ∷ []) (f.Bin op.And (f.Var b.path) (f.Var (fresh n b))) in
      record { fits = fits_assume e b v h; longer = omega (arith, first, second) }

  check_grows : (l : Label) (e : FExpr) (b : ConditionsBuilder) → FitsScalar (n + length b.lets) e → Fits b → Grows b (check n l e b)
  check_grows l e b v h =
      let c = fresh n b in
      let first = one_longer b.lets e in
      let lets = b.lets ++ e ∷ [] in
      let second = one_longer lets (f.Bin op.And (f.Var b.path) (f.Not (f.Var c))) in
      let third = one_longer (lets ++ f.Bin op.And (f.Var b.path) (f.Not (f.Var c)) ∷ []) (f.Bin op.And (f.Var b.path) (f.Var c)) in
      record { fits = fits_check l e b v h; longer = omega (arith, first, second, third) }

  store_grows : (i : ℕ) (e : FExpr) (b : ConditionsBuilder) → FitsValue (n + length b.lets) e → Fits b → Grows b (store n i e b)
  store_grows i e b v h = let long = one_longer b.lets e in record { fits = fits_store i e b v h; longer = omega (arith, long) }

  module _ (m : ℕ) where
    mutual
      stmt_fits : (x : s.BStmt) → FitsStmt m x → (b : ConditionsBuilder) (k : ℕ) → b.next ≡ k → k + slots_stmt x ≤ n → Fits b → Grows b (built_stmt n x b)
      stmt_fits (s.Assign i e) w b k next room h = store_grows i (lifted (named b) e) b (scalar (lifted_fits m (n + length b.lets) (named b) h.versions e w.1)) h
      stmt_fits (s.Put i es e) w b k next room h =
          store_grows i (f.With (f.Var (named b i)) (lifted_all (named b) es) (lifted (named b) e)) b
          (update (h.versions i) (lifted_fit m (n + length b.lets) (named b) h.versions es w.1 w.2) (lifted_fits m (n + length b.lets) (named b) h.versions e w.3)) h
      stmt_fits (s.Havoc i) w b k next room h = record { fits = fits_choose i b (omega (arith, next, room)) h; longer = omega (arith) }
      stmt_fits (s.Assume e) w b k next room h = where_grows (lifted (named b) e) b (lifted_fits m (n + length b.lets) (named b) h.versions e w) h
      stmt_fits (s.Assert l e) w b k next room h = check_grows l (lifted (named b) e) b (lifted_fits m (n + length b.lets) (named b) h.versions e w) h
      stmt_fits (s.If e xs ys) w b k next room h =
          let v = lifted_fits m (n + length b.lets) (named b) h.versions e w.0 in
          let c = define (lifted (named b) e) b in
          let long = one_longer b.lets (lifted (named b) e) in
          let fork = fork_grows (fresh n b) (λ z. built n xs z) (λ z. built n ys z) c (omega (arith, long)) (fits_define (lifted (named b) e) b (scalar v) h)
          (λ z same g. block_fits xs w.1 z k (same ∙ next) (omega (arith, room)) g)
          (λ z same g. block_fits ys w.2 z (k + slots xs) (same ∙ next_block n xs (go_where n (f.Var (fresh n b)) c) k next) (omega (arith, room)) g) in
          record { fits = fork.fits; longer = omega (arith, long, fork.longer) }
      stmt_fits (s.Either xs ys) w b k next room h =
          let c : ConditionsBuilder = record b { next = b.next + 1 } in
          let there : b.next < n + length b.lets = omega (arith, next, room) in
          let one : b.next + 1 ≡ k + 1 = ap (λ z. z + 1) next in
          let fork = fork_grows b.next (λ z. built n xs z) (λ z. built n ys z) c there (record { lets = h.lets; versions = h.versions; path = h.path; fails = h.fails })
          (λ z same g. block_fits xs w.0 z (k + 1) (same ∙ one) (omega (arith, room)) g)
          (λ z same g. block_fits ys w.1 z (k + 1 + slots xs) (same ∙ next_block n xs (go_where n (f.Var b.next) c) (k + 1) one) (omega (arith, room)) g) in
          record { fits = fork.fits; longer = fork.longer }

      block_fits : (xs : s.BStmts) → FitStmts m xs → (b : ConditionsBuilder) (k : ℕ) → b.next ≡ k → k + slots xs ≤ n → Fits b → Grows b (built n xs b)
      block_fits s.skip w b k next room h = record { fits = h; longer = omega (arith) }
      block_fits (s.first x xs) w b k next room h =
          let a = stmt_fits x w.0 b k next (omega (arith, room)) h in
          let c = block_fits xs w.1 (built_stmt n x b) (k + slots_stmt x) (next_stmt n x b k next) (omega (arith, room)) a.fits in
          record { fits = c.fits; longer = omega (arith, a.longer, c.longer) }

-- ---- procedures

starts_fit : (vars ls : List BType) → length ls ≤ length vars → Fits (length vars) (started vars ls)
starts_fit vars ls le =
    let one : length (f.Bool true ∷ []) ≡ 1 = refl in
    let m = length vars + length (f.Bool true ∷ []) in
    record {
      lets = (scalar (record { tree = t.Bool true; is = refl; fits = tt }), tt);
      versions = below_numbers ls 0 m (omega (arith, le)) (omega (arith, one));
      path = omega (arith, one);
      fails = All-nil (Between (length vars) m);
    }

module _ (d : Proc) (typed : IsTypedProc d) (fits : FitStmts (length d.locals) d.body) where
  abbrev end : ConditionsBuilder
  end = built (length (variables_of d)) d.body (started (variables_of d) (types_of d))

  end_fits : Fits (length (variables_of d)) end
  end_fits =
      let ls = types_of d in
      let vars = variables_of d in
      let long = length-append ls (own_types ls d.body) in
      let own = slots_own typed.body in
      let start = starts_fit vars ls (omega (arith, long)) in
      let grown = block_fits (length vars) (length d.locals) d.body fits (started vars ls) (length ls) refl (omega (arith, long, own)) start in
      grown.fits

  pub conditions_printable : IsPrintableConditions (conditions_for d)
  conditions_printable =
      let n = length (variables_of d) in
      record {
        keys = (conditions_typed d typed).keys;
        lets = end_fits.lets;
        fails = All-weaker (Between n (n + length end.lets)) (NamesDefinition (conditions_for d)) (λ a g. record { behind = g.behind; there = g.there }) end.fails end_fits.fails;
      }

-- ---- the chain of a label

module _ (n : ℕ) (label : Label) where
  record FitsChain (c : Chain) : Type 0 where
    lets : FitLets n c.lets
    last : c.last < n + length c.lets

  linked_fits : (a : Fail) (c : Chain) (p : Truth) → a.name < n + length c.lets → FitsChain c → FitsChain (if p then next_link n a.name c else c)
  linked_fits a c true lt h =
      let e = f.Bin op.Or (f.Var c.last) (f.Var a.name) in
      let more = one_more n c.lets e in
      record { lets = lets_more n c.lets e h.lets (scalar (bin_fits n op.Or (var_fits n h.last) (var_fits n lt))); last = omega (arith, more) }
  linked_fits a c false lt h = h

  linked_longer : (a : Fail) (c : Chain) (p : Truth) → n + length c.lets ≤ n + length (if p then next_link n a.name c else c).lets
  linked_longer a c true = let more = one_more n c.lets (f.Bin op.Or (f.Var c.last) (f.Var a.name)) in omega (arith, more)
  linked_longer a c false = omega (arith)

  chain_fits : (fs : List Fail) (c : Chain) → All (Between n (n + length c.lets)) fs → FitsChain c → FitsChain (chained n label fs c)
  chain_fits [] c below h = h
  chain_fits (a ∷ fs) c below h =
      let s = same_label a.label label in
      let m = n + length c.lets in
      let first = All-head (Between n m) a fs below in
      chain_fits fs (linked n label a c) (between_more n m (n + length (linked n label a c).lets) fs (linked_longer a c s) (All-tail (Between n m) a fs below))
      (linked_fits a c s first.there h)

  begun_fits : (lets : List FExpr) → FitLets n lets → FitsChain (chain_from n lets)
  begun_fits lets h =
      let more = one_more n lets (f.Bool false) in
      record { lets = lets_more n lets (f.Bool false) h (scalar (record { tree = t.Bool false; is = refl; fits = tt })); last = omega (arith, more) }

pub printable : (d : Proc) (label : Label) → IsTypedProc d → FitStmts (length d.locals) d.body → IsPrintableFormula (formula_for d label)
printable d label typed fits =
    let n = length (variables_of d) in
    let lets = (end d typed fits).lets in
    let more = one_more n lets (f.Bool false) in
    let below = between_more n (n + length lets) (n + length (lets ++ f.Bool false ∷ [])) (end d typed fits).fails (omega (arith, more)) (end_fits d typed fits).fails in
    let c = chain_fits n label (end d typed fits).fails (chain_from n lets) below (begun_fits n label lets (end_fits d typed fits).lets) in
    record {
      keys = (formula_typed d label typed).keys;
      lets = c.lets;
      goal = not_fits n (var_fits n c.last);
    }
