-- What is spelled keeps the conditions on names and literals: each rule gives what keeps them, from names that are names and
-- literals within the bound. What the other programs have too keeps them as it does there.
use Rattle.std.proofs.Common.{◌≡◌, ◌≢◌, sym, subst, ◌∙◌, ℕ, true, false, List, [], ◌∷◌, ◌++◌, length, Option, Some, None, All, arith}
use Rattle.std.specs.Prelude.{⊤}
use Rattle.std.specs.Str.{bytes_eq}
use Rattle.std.proofs.lemmas.Bool.{both_ways, or_parts}
use Rattle.std.proofs.lemmas.List.{map-append}
use Rattle.std.proofs.lemmas.List.Elements.{All-nil, All-cons, All-push}
use Rattle.std.proofs.lemmas.List.Folds.{list_any-append}
use Rattle.std.proofs.lemmas.Slice.Eq.{bytes_eq-Decides}
use Rattle.grammar.specs.Rules as rules_of
use Rattle.grammar.specs.Rules.{give, need, when, read}
use Rattle.grammar.specs.Spells.{Derives, given, needed, taken, passed, called}
use Rattle.grammar.specs.Wider.{Kinds, old, new, Symbols, was, more, lifted}
use Rattle.vb_base.specs.Names.{NamesDiffer}
use Rattle.boogie_tree.specs.Expr as t
use Rattle.boogie_tree.specs.Program.{Local}
use Rattle.boogie_tree.specs.Literals.{LiteralsFit, IndexLiteralsFit}
use Rattle.boogie_tree.proofs.LiteralLaws.{literals_fit, all_literals_fit}
use Rattle.boogie_grammar.specs.declared.tokens.BSign.TheVariants as sign
use Rattle.boogie_grammar.specs.declared.tokens.PlacedLexeme.{PlacedLexeme}
use Rattle.boogie_grammar.specs.Words.{is_among}
use Rattle.boogie_grammar.specs.Tests as v
use Rattle.boogie_grammar.specs.Tests.{some_free, a_variable}
use Rattle.boogie_grammar.specs.Grammar as g
use Rattle.boogie_grammar.specs.Grammar.{boogie, local_names}
use Rattle.boogie_print.specs.Printable.{IsFreeName}
use Rattle.boogie_print.proofs.SpelledLaws as plain
use Rattle.boogie_print.proofs.SpelledLaws.{Proper, AllProper, front_proper, back_proper, row_proper, names_more}
use Rattle.boogie_loops.specs.Wide as wide
use Rattle.boogie_loops.specs.Wide.{Clause, WStmt, WStmts, WProc, WProgram}
use Rattle.boogie_loops.specs.Conditions.{HasNames, variable_names, NamesAreApart, ClauseLiteralsFit, GuardLiteralsFit, WideStmtLiteralsFit, WideLiteralsFit, BodyLiteralsFit, ProcLiteralsFit}
use Rattle.boogie_loops_grammar.specs.Words.{wide_words, has_no_word}
use Rattle.boogie_loops_grammar.specs.Trees.{Contract, no_clauses, block_of, plain_local, procedure, procedure_names}
use Rattle.boogie_loops_grammar.specs.Noting.{Second, noting, Noted, noting_rule}
use Rattle.boogie_loops_grammar.specs.Grammar as wg
use Rattle.boogie_loops_grammar.specs.Grammar.{Kind, Value, Symbol, Rule, Programs, Procedure, Parameters, Params, Clauses, BoundClause, Vars, Statements, Statement, Block, Else, Invariants, Targets, Arguments, MoreArguments, telling, wider_boogie, new_names, after_sign, rest_of, assignment, branches, conditional, checks, changes, simple, looping, loop, targeted, call, more_targets, worded, rule, rules}
use Rattle.boogie_loops_grammar.specs.Spells.{WideSpells}
use Rattle.boogie_loops_text.proofs.WideComplete.{by_where}

-- ---- names

not_the_same : (x y : List ℕ) → bytes_eq x y ≡ false → y ≢ x
not_the_same x y differ same = both_ways (bytes_eq x y) differ ((bytes_eq-Decides x y).1 (sym same))

none_is : (x : List ℕ) (names : List (List ℕ)) → is_among x names ≡ false → All (λ y. y ≢ x) names
none_is x [] fresh = All-nil (λ y. y ≢ x)
none_is x (y ∷ ys) fresh =
    let parts = or_parts (bytes_eq x y) (is_among x ys) fresh in
    All-cons (λ y. y ≢ x) y ys (not_the_same x y parts.0) (none_is x ys parts.1)

no_names : NamesDiffer []
no_names = λ i j d lt within. absurd (omega (arith, within))

not_in_first : (x : List ℕ) (names others : List (List ℕ)) → is_among x (names ++ others) ≡ false → is_among x names ≡ false
not_in_first x names others fresh = (or_parts (is_among x names) (is_among x others) (sym (list_any-append (bytes_eq x) names others) ∙ fresh)).0

-- variables with names that are not reserved and differ
abbrev AreNamed : List Local → Type 0
AreNamed ls = All IsFreeName (local_names ls) × NamesDiffer (local_names ls)

none_named : AreNamed []
none_named = (All-nil IsFreeName, no_names)

named_more : (ls : List Local) (l : Local) → AreNamed ls → IsFreeName l.name → is_among l.name (local_names ls) ≡ false → AreNamed (ls ++ l ∷ [])
named_more ls l named free fresh =
    subst (λ x. All IsFreeName x × NamesDiffer x) (sym (map-append (λ (x : Local). x.name) ls (l ∷ [])))
    (All-push IsFreeName (local_names ls) l.name named.0 free, names_more (local_names ls) l.name named.1 fresh)

-- ---- literals

exprs_more : (es : List t.BExpr) (e : t.BExpr) → IndexLiteralsFit (t.exprs es) → LiteralsFit e → IndexLiteralsFit (t.exprs (es ++ e ∷ []))
exprs_more [] e h fits = (fits, tt)
exprs_more (a ∷ es) e h fits = (h.0, exprs_more es e h.1 fits)

block_more : (xs : List WStmt) (x : WStmt) → WideLiteralsFit (block_of xs) → WideStmtLiteralsFit x → WideLiteralsFit (block_of (xs ++ x ∷ []))
block_more [] x h fits = (fits, tt)
block_more (y ∷ xs) x h fits = (h.0, block_more xs x h.1 fits)

abbrev ClauseFits : Clause → Type 0
ClauseFits c = LiteralsFit c.e

abbrev ContractFits : Contract → Type 0
ContractFits c = ClauseLiteralsFit c.preconditions × ClauseLiteralsFit c.postconditions

-- ---- symbols

record Fits (d : WProc) : Type 0 where
  names : HasNames IsFreeName d
  differ : NamesDiffer (variable_names d)
  literals : ProcLiteralsFit d

-- what a list has so far
abbrev NewHeld : {s : Kinds telling Kind} → Symbol s → Type 0
NewHeld (Programs ps) = All Fits ps × NamesDiffer (procedure_names ps)
NewHeld (Params ls) = AreNamed ls
NewHeld (Clauses ls c) = ContractFits c
NewHeld (Vars bound ls) = AreNamed ls
NewHeld (Statements ls xs) = WideLiteralsFit (block_of xs)
NewHeld (Invariants ls cs) = ClauseLiteralsFit cs
NewHeld (MoreArguments ls es) = IndexLiteralsFit (t.exprs es)
NewHeld _ = ⊤

abbrev Held : {s : Kinds telling Kind} → Symbols telling Symbol s → Type 0
Held (was (was a)) = plain.Held a
Held (was (more (noting a))) = plain.Held a
Held (more a) = NewHeld a

-- what a symbol gives
abbrev NewGives : {s : Kinds telling Kind} → Symbol s → wider_boogie.Value s → Type 0
NewGives (Programs ps) x = All Fits x × NamesDiffer (procedure_names x)
NewGives (Procedure names) x = Fits x × (is_among x.name names ≡ false)
NewGives Parameters x = AreNamed x
NewGives (Params ls) x = AreNamed x
NewGives (Clauses ls c) x = ContractFits x
NewGives (BoundClause ls) x = ClauseFits x.0
NewGives (Vars bound ls) x = AreNamed x
NewGives (Statements ls xs) x = WideLiteralsFit (block_of x)
NewGives (Statement ls) x = WideStmtLiteralsFit x
NewGives (Block ls) x = WideLiteralsFit x
NewGives (Else ls) x = WideLiteralsFit x
NewGives (Invariants ls cs) x = ClauseLiteralsFit x
NewGives (Targets ls is) x = ⊤
NewGives (Arguments ls) x = IndexLiteralsFit (t.exprs x)
NewGives (MoreArguments ls es) x = IndexLiteralsFit (t.exprs x)

abbrev Gives : {s : Kinds telling Kind} → Symbols telling Symbol s → wider_boogie.Value s → Type 0
Gives (was (was a)) x = plain.Gives a x
Gives (was (more (noting a))) x = plain.Gives a x.0
Gives (more a) x = NewGives a x

-- what a rule gives, of proper tokens, has the property
abbrev Keeps : {s : Kinds telling Kind} → (wider_boogie.Value s → Type 0) → Rule s → Type 0
Keeps P (give x) = P x
Keeps P (need {r = r} c go) = (j : PlacedLexeme) (x : wider_boogie.Value r) → Proper j.tok → wider_boogie.Passes true r c j x → Keeps P (go x)
Keeps P (when {b = b} {r = r} c go other) = ((j : PlacedLexeme) (x : wider_boogie.Value r) → Proper j.tok → wider_boogie.Passes b r c j x → Keeps P (go x)) × Keeps P other
Keeps P (read {r = r} a go) = Held a × ((y : wider_boogie.Value r) → Gives a y → Keeps P (go y))

-- ---- the rules of the other programs

abbrev as_new : {k : Kinds boogie v.Kind} → rules_of.Rule telling k → Rule (old k)
as_new a = lifted {A = telling} {K = Kind} {V = Value} {S = Symbol} a

abbrev as_told : {k : v.Kind} → g.Rule k → rules_of.Rule telling (old k)
as_told a = lifted {A = boogie} {K = v.Kind} {V = Noted boogie (List ℕ)} {S = Second boogie} a

told_keeps : {k : v.Kind} (P : v.Value k → Type 0) (a : g.Rule k) → plain.Keeps P a → Keeps {s = old (old k)} P (as_new (as_told a))
told_keeps P (give x) h = h
told_keeps P (need c go) h = λ j x proper passes. told_keeps P (go x) (h j x proper passes)
told_keeps P (when c go other) h = ((λ j x proper passes. told_keeps P (go x) (h.0 j x proper passes)), told_keeps P other h.1)
told_keeps P (read a go) h = (h.0, λ y k. told_keeps P (go y) (h.1 y k))

noted_keeps : {k : v.Kind} (P : v.Value k → Type 0) (ns : List (List ℕ)) (a : g.Rule k) → plain.Keeps P a → Keeps {s = old (new k)} (λ y. P y.0) (as_new (noting_rule new_names ns a))
noted_keeps P ns (give x) h = h
noted_keeps P ns (need c go) h = λ j x proper passes. noted_keeps P _ (go x) (h j x proper passes)
noted_keeps P ns (when c go other) h = ((λ j x proper passes. noted_keeps P _ (go x) (h.0 j x proper passes)), noted_keeps P ns other h.1)
noted_keeps P ns (read a go) h = (h.0, λ y k. noted_keeps P _ (go y.0) (h.1 y.0 k))

-- ---- statements

branches_keep : (ls : List (List ℕ)) (make : WStmts → WStmts → WStmt) → ((a b : WStmts) → WideLiteralsFit a → WideLiteralsFit b → WideStmtLiteralsFit (make a b)) →
    Keeps WideStmtLiteralsFit (branches ls make)
branches_keep ls make fits = λ _ _ _ _. (tt, λ a h. (tt, λ b k. fits a b h k))

conditional_keeps : (ls : List (List ℕ)) → Keeps WideStmtLiteralsFit (conditional ls)
conditional_keeps ls = λ _ _ _ _. λ _ _ _ _. (
  (λ _ _ _ _. branches_keep ls wide.Either (λ a b h k. (h, k))),
  (tt, λ e f. branches_keep ls (wide.If e) (λ a b h k. (literals_fit (length ls) false e f, h, k))),
)

assignment_keeps : (ls : List (List ℕ)) (i : ℕ) → Keeps WideStmtLiteralsFit (assignment ls i)
assignment_keeps ls i = (
  (λ _ _ _ _. (tt, λ es h. λ _ _ _ _. (tt, λ e f. λ _ _ _ _. (all_literals_fit (length ls) false (t.exprs es) h.1, literals_fit (length ls) false e f)))),
  λ _ _ _ _. (tt, λ e f. λ _ _ _ _. literals_fit (length ls) false e f),
)

changes_keep : (ls : List (List ℕ)) (some : some_free ls ≡ true) → Keeps WideStmtLiteralsFit (changes ls some)
changes_keep ls some = (
  (λ _ _ _ _. λ _ _ _ _. λ _ _ _ _. tt),
  ((λ _ i _ _. assignment_keeps ls i), conditional_keeps ls),
)

checks_keep : (ls : List (List ℕ)) (others : Rule (new wg.stmt)) → Keeps WideStmtLiteralsFit others → Keeps WideStmtLiteralsFit (checks ls others)
checks_keep ls others h = (
  (λ _ _ _ _. (tt, λ e f. λ _ _ _ _. literals_fit (length ls) false e f)),
  ((λ _ _ _ _. λ _ _ _ _. λ _ _ _ _. λ _ _ _ _. λ _ _ _ _. λ _ _ _ _. (tt, λ e f. λ _ _ _ _. literals_fit (length ls) false e f)), h),
)

simple_keeps : (ls : List (List ℕ)) → Keeps WideStmtLiteralsFit (simple ls)
simple_keeps ls =
    by_where (λ r. Keeps WideStmtLiteralsFit (checks ls r)) (some_free ls) (λ some. changes ls some) (conditional ls)
    (λ some. checks_keep ls (changes ls some) (changes_keep ls some)) (checks_keep ls (conditional ls) (conditional_keeps ls))

looping_keeps : (ls : List (List ℕ)) (guard : Option t.BExpr) → GuardLiteralsFit guard → Keeps WideStmtLiteralsFit (looping ls guard)
looping_keeps ls guard fits = λ _ _ _ _. (All-nil ClauseFits, λ invariants h. (tt, λ body k. (fits, h, k)))

loop_keeps : (ls : List (List ℕ)) → Keeps WideStmtLiteralsFit (loop ls)
loop_keeps ls = λ _ _ _ _. ((λ _ _ _ _. looping_keeps ls None tt), (tt, λ e f. looping_keeps ls (Some e) (literals_fit (length ls) false e f)))

called_keeps : (ls : List (List ℕ)) (targets name : List ℕ) → Keeps WideStmtLiteralsFit (wg.called ls targets name)
called_keeps ls targets name = λ _ _ _ _. (tt, λ es h. λ _ _ _ _. h)

targeted_keeps : (ls : List (List ℕ)) (i : ℕ) → Keeps WideStmtLiteralsFit (targeted ls i)
targeted_keeps ls i = ((λ _ _ _ _. (tt, λ es h. λ _ _ _ _. h)), (tt, λ targets _. λ _ f _ _. called_keeps ls targets f))

call_keeps : (ls : List (List ℕ)) → Keeps WideStmtLiteralsFit (call ls)
call_keeps ls =
    by_where (Keeps WideStmtLiteralsFit) (some_free ls)
    (λ some. when {b = true} {r = old (old v.variable)} (a_variable ls some) (λ i. targeted ls i) (wg.a_name ls (λ f. wg.called ls [] f))) (wg.a_name ls (λ f. wg.called ls [] f))
    (λ some. ((λ _ i _ _. targeted_keeps ls i), λ _ f _ _. called_keeps ls [] f)) (λ _ f _ _. called_keeps ls [] f)

worded_keeps : (ls : List (List ℕ)) → Keeps WideStmtLiteralsFit (worded ls)
worded_keeps ls = ((λ _ _ _ _. loop_keeps ls), ((λ _ _ _ _. call_keeps ls), simple_keeps ls))

statement_keeps : (ls : List (List ℕ)) → Keeps WideStmtLiteralsFit (rule (Statement ls))
statement_keeps ls = by_where (Keeps WideStmtLiteralsFit) (has_no_word ls) (λ _. worded ls) (simple ls) (λ _. worded_keeps ls) (simple_keeps ls)

statements_keep : (ls : List (List ℕ)) (xs : List WStmt) → WideLiteralsFit (block_of xs) → Keeps (NewGives (Statements ls xs)) (rule (Statements ls xs))
statements_keep ls xs held = ((λ _ _ _ _. held), (tt, λ x fits. (block_more xs x held fits, λ y k. k)))

invariants_keep : (ls : List (List ℕ)) (cs : List Clause) → ClauseLiteralsFit cs → Keeps (NewGives (Invariants ls cs)) (rule (Invariants ls cs))
invariants_keep ls cs held = (
  (λ _ _ _ _. λ _ _ _ _. λ _ _ _ _. λ _ _ _ _. λ _ l _ _. λ _ _ _ _. (
    tt,
    λ e f. λ _ _ _ _.
        let c : Clause = record { label = l; e = e } in (All-push ClauseFits cs c held (literals_fit (length ls) false e f), λ y k. k),
  )),
  held,
)

targets_keep : (ls : List (List ℕ)) (is : List ℕ) → Keeps (NewGives (Targets ls is)) (rule (Targets ls is))
targets_keep ls is =
    by_where (Keeps (NewGives (Targets ls is))) (some_free ls) (λ some. more_targets ls is some) (after_sign sign.Assign (give is))
    (λ some. ((λ _ _ _ _. λ _ _ _ _. (tt, λ y k. k)), λ _ _ _ _. tt)) (λ _ _ _ _. tt)

more_arguments_keep : (ls : List (List ℕ)) (es : List t.BExpr) → IndexLiteralsFit (t.exprs es) → Keeps (NewGives (MoreArguments ls es)) (rule (MoreArguments ls es))
more_arguments_keep ls es held = (
  tt,
  λ e f.
      let all = exprs_more es e held (literals_fit (length ls) false e f) in ((λ _ _ _ _. (all, λ y k. k)), λ _ _ _ _. all),
)

-- ---- declarations

programs_keep : (ps : List WProc) → NewHeld (Programs ps) → Keeps (NewGives (Programs ps)) (rule (Programs ps))
programs_keep ps held = (
  (λ _ _ _ _. (
    tt,
    λ d h. (
      (
        All-push Fits ps d held.0 h.0,
        subst NamesDiffer (sym (map-append (λ (x : WProc). x.name) ps (d ∷ []))) (names_more (procedure_names ps) d.name held.1 h.1),
      ),
      λ y k. k,
    ),
  )),
  held,
)

procedure_fits : (x : List ℕ) (params head ls : List Local) (c : Contract) (body : Option WStmts) → IsFreeName x → AreNamed ls → ContractFits c → BodyLiteralsFit body →
    Fits (procedure x params head ls c body)
procedure_fits x params head ls c body free named fits h = record {
  names = record { name = free; variables = named.0 };
  differ = named.1;
  literals = record { preconditions = fits.0; postconditions = fits.1; body = h };
}

rest_keeps : (names : List (List ℕ)) (x : List ℕ) (params head : List Local) → IsFreeName x → is_among x names ≡ false → AreNamed head →
    Keeps (NewGives (Procedure names)) (rest_of x params head)
rest_keeps names x params head free fresh named =
    let none : ContractFits no_clauses = (All-nil ClauseFits, All-nil ClauseFits) in (
      (λ _ _ _ _. (none, λ c h. (procedure_fits x params head head c None free named h tt, fresh))),
      (none, λ c h. λ _ _ _ _. (named, λ ls more_named. (tt, λ xs k. (procedure_fits x params head ls c (Some (block_of xs)) free more_named h k, fresh)))),
    )

procedure_keeps : (names : List (List ℕ)) → Keeps (NewGives (Procedure names)) (rule (Procedure names))
procedure_keeps names = λ j x proper passes. λ _ _ _ _.
    let free : IsFreeName x = record { form = subst Proper passes.0 proper; free = passes.1 } in
    let new_name = not_in_first x names wide_words passes.2 in (
      tt,
      λ params named. (
        (λ _ _ _ _. λ _ _ _ _. (named, λ head h. rest_keeps names x params head free new_name h)),
        rest_keeps names x params params free new_name named,
      ),
    )

params_keep : (ls : List Local) → AreNamed ls → Keeps (NewGives (Params ls)) (rule (Params ls))
params_keep ls held = λ j x proper passes. λ _ _ _ _. λ _ u _ _.
    let all = named_more ls (plain_local x u) held (record { form = subst Proper passes.0 proper; free = passes.1 }) (not_in_first x (local_names ls) wide_words passes.2) in
    ((λ _ _ _ _. (all, λ y k. k)), λ _ _ _ _. all)

vars_keep : (bound : List (List ℕ)) (ls : List Local) → AreNamed ls → Keeps (NewGives (Vars bound ls)) (rule (Vars bound ls))
vars_keep bound ls held = (
  (λ _ _ _ _. λ j x proper passes. λ _ _ _ _. (
    tt,
    λ u _. λ _ _ _ _.
        let new_name = not_in_first x (local_names ls) bound (not_in_first x (local_names ls ++ bound) wide_words passes.2) in
        (named_more ls (record { name = x; ty = u }) held (record { form = subst Proper passes.0 proper; free = passes.1 }) new_name, λ y k. k),
  )),
  held,
)

clauses_keep : (ls : List (List ℕ)) (c : Contract) → ContractFits c → Keeps (NewGives (Clauses ls c)) (rule (Clauses ls c))
clauses_keep ls c held = (
  (λ _ _ _ _. (tt, λ m h. ((All-push ClauseFits c.preconditions m.0 held.0 h, held.1), λ y k. k))),
  ((λ _ _ _ _. (tt, λ m h. ((held.0, All-push ClauseFits c.postconditions m.0 held.1 h), λ y k. k))), held),
)

bound_clause_keeps : (ls : List (List ℕ)) → Keeps (NewGives (BoundClause ls)) (rule (BoundClause ls))
bound_clause_keeps ls = λ _ _ _ _. λ _ _ _ _. λ _ _ _ _. λ _ _ _ _. λ _ _ _ _. (tt, λ e f. λ _ _ _ _. literals_fit (length ls) false e.0 f)

-- ---- all symbols

new_keep : {s : Kinds telling Kind} (a : Symbol s) → NewHeld a → Keeps (NewGives a) (rule a)
new_keep (Programs ps) held = programs_keep ps held
new_keep (Procedure names) held = procedure_keeps names
new_keep Parameters held = ((λ _ _ _ _. none_named), (none_named, λ y k. k))
new_keep (Params ls) held = params_keep ls held
new_keep (Clauses ls c) held = clauses_keep ls c held
new_keep (BoundClause ls) held = bound_clause_keeps ls
new_keep (Vars bound ls) held = vars_keep bound ls held
new_keep (Statements ls xs) held = statements_keep ls xs held
new_keep (Statement ls) held = statement_keeps ls
new_keep (Block ls) held = λ _ _ _ _. (tt, λ xs h. h)
new_keep (Else ls) held = ((λ _ _ _ _. (tt, λ y k. k)), tt)
new_keep (Invariants ls cs) held = invariants_keep ls cs held
new_keep (Targets ls is) held = targets_keep ls is
new_keep (Arguments ls) held = ((λ _ _ _ _. tt), (tt, λ y k. k))
new_keep (MoreArguments ls es) held = more_arguments_keep ls es held

all_keep : {s : Kinds telling Kind} (a : Symbols telling Symbol s) → Held a → Keeps (Gives a) (rules s a)
all_keep (was (was a)) held = told_keeps (plain.Gives a) (g.rule a) (plain.all_keep a held)
all_keep (was (more (noting a))) held = noted_keeps (plain.Gives a) [] (g.rule a) (plain.all_keep a held)
all_keep (more a) held = new_keep a held

keeps : {s : Kinds telling Kind} (P : wider_boogie.Value s → Type 0) {a : Rule s} {ts : List PlacedLexeme} {x : wider_boogie.Value s} → Derives rules s a ts x → Keeps P a → AllProper ts → P x
keeps P given h proper = h
keeps P (needed {v = y} q d) h proper = let all = subst AllProper q.is proper in keeps P d (h q.token y all.0 q.passes) all.1
keeps P (taken {v = y} q d) h proper = let all = subst AllProper q.is proper in keeps P d (h.0 q.token y all.0 q.passes) all.1
keeps P (passed d) h proper = keeps P d h.1 proper
keeps P (called {a = a} {ts = ts} {us = us} {y = y} d e) h proper =
    keeps P e (h.1 y (keeps (Gives a) d (all_keep a h.0) (front_proper ts us proper))) (back_proper ts us proper)

-- ---- programs

pub wide_spelled : (bytes : List ℕ) (program : WProgram) → WideSpells bytes program → (NamesAreApart program) × (All (HasNames IsFreeName) program.procs) × (All ProcLiteralsFit program.procs)
wide_spelled bytes program h =
    let all = keeps (NewGives (Programs [])) h.spells (new_keep (Programs []) (All-nil Fits, no_names)) (row_proper h.cut) in (
      record { procedures = all.1; variables = λ k d lt. (all.0 k d lt).differ },
      (λ k d lt. (all.0 k d lt).names),
      λ k d lt. (all.0 k d lt).literals,
    )
