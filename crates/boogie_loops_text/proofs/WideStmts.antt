-- The rule of a statement, by what is next, and statements as they are built.
use Rattle.std.proofs.Common.{◌≡◌, ◌∙◌, refl, sym, ap, subst, ℕ, zero, suc, ◌<◌, Bool, true, false, List, [], ◌∷◌, ◌++◌, map, length, arith, get_or, inl, inr, Err}
use Rattle.std.specs.declared.alloc.Global.{Global}
use Rattle.std.specs.declared.vec.Vec.{Vec}
use Rattle.boogie_print.proofs.SpelledLaws.{number_within as within}
use Rattle.vb_base.specs.declared.labels.Label.{Label}
use Rattle.grammar.specs.declared.stop.Stop.{Stop}
use Rattle.grammar.specs.declared.stop.Stop.TheVariants as stop
use Rattle.grammar.specs.Rules.{give, need, when, read}
use Rattle.grammar.specs.Wider.{new, old, more}
use Rattle.boogie_tree.specs.Expr as t
use Rattle.boogie_tree.specs.Whole.{expr_of}
use Rattle.boogie_tree.specs.declared.exprs.BExpr.{BExpr}
use Rattle.boogie_tree.proofs.WholeLaws.{exprs_of-map}
use Rattle.boogie_grammar.specs.declared.tokens.BSign.TheVariants as sign
use Rattle.boogie_grammar.specs.declared.tokens.PlacedLexeme.{PlacedLexeme}
use Rattle.boogie_grammar.specs.declared.tokens.BoogieWord.TheVariants as word
use Rattle.boogie_grammar.specs.Tests as v
use Rattle.boogie_grammar.specs.Tests.{some_free, the_sign, the_word, a_variable}
use Rattle.boogie_grammar.specs.Greedy as narrow
use Rattle.boogie_grammar.specs.Grammar as g
use Rattle.boogie_grammar.specs.ReadView.{ReadsVariable, NoVariable}
use Rattle.boogie_text.specs.StmtView.{EatsHavoc}
use Rattle.boogie_text.proofs.StmtLaws.{havoc_is_no_if}
use Rattle.boogie_loops.specs.Wide as w
use Rattle.boogie_loops.specs.View.{wstmt_of, wstmts_of}
use Rattle.boogie_loops.specs.declared.wide.WStmt as stmt
use Rattle.boogie_loops_grammar.specs.Words.{wide_words, has_no_word}
use Rattle.boogie_loops_grammar.specs.Trees as trees
use Rattle.boogie_loops_grammar.specs.Trees.{name_at}
use Rattle.boogie_loops_grammar.specs.Grammar.{Rule, rule, Statement, Targets, scope, where_true, changes, conditional, assignment, simple, worded, after_sign}
use Rattle.boogie_loops_grammar.specs.Grammar as wide
use Rattle.boogie_loops_text.specs.Greedy.{WKind, WValue, Reads, Goes, Fails, Refuses}
use Rattle.boogie_loops_text.specs.View.{changing, storing, call_of}
use Rattle.boogie_loops_grammar.proofs.Reading.{wide_steps}
use Rattle.boogie_loops_text.proofs.Steps.{by_need, by_token, by_other, fails_taken, fails_here, where_holds}
open wide_steps use {start}

-- the scope of what stands in no `forall`

pub scope_is : (ls : List (List ℕ)) {others bound : List (List ℕ)} → others ≡ wide_words → bound ≡ [] → (let x : g.ExprScope = record { locals = ls; others = others; bound = bound } in x) ≡ scope ls
scope_is ls e f = λ i. record { locals = ls; others = e i; bound = f i }

-- what was built

pub read_as : {k : WKind} {a : Rule k} {ts us : List PlacedLexeme} {x y : WValue k} → x ≡ y → Reads k a ts y us → Reads k a ts x us
read_as {k = k} {a = a} {ts = ts} {us = us} e h = subst (λ z. Reads k a ts z us) (sym e) h

pub wstmt_of-Put : (i : ℕ) (es : Vec BExpr Global) (e : BExpr) → wstmt_of (stmt.Put i es e) ≡ w.Put i (t.exprs (map expr_of es.items)) (expr_of e)
wstmt_of-Put i es e = ap (λ x. w.Put i x (expr_of e)) (exprs_of-map es.items)

pub wstmt_of-Call : (is : Vec ℕ Global) (name : List ℕ) (es : Vec BExpr Global) {targets : List ℕ} {f : List ℕ} → is.items ≡ targets → name ≡ f → wstmt_of (stmt.Call is name es) ≡ call_of targets f es
wstmt_of-Call is name es {targets = targets} {f = f} e h = ap (λ x. w.Call is.items name x) (exprs_of-map es.items) ∙ λ i. w.Call (e i) (h i) (t.exprs (map expr_of es.items))

pub wstmts_of-map : (xs : List stmt.WStmt) → wstmts_of xs ≡ trees.block_of (map wstmt_of xs)
wstmts_of-map [] = refl
wstmts_of-map (x ∷ xs) = ap (w.first (wstmt_of x)) (wstmts_of-map xs)

-- a statement, where no variable has one of the words as its name

pub at_worded : (ls : List (List ℕ)) (ts : List PlacedLexeme) → has_no_word ls ≡ true → Goes (rule (Statement ls)) ts (worded ls) ts
at_worded ls ts h = (where_holds (has_no_word ls) (λ _. worded ls) (simple ls) h (start (rule (Statement ls)) ts)).1

-- no `havoc`

storing_at : {ts : List PlacedLexeme} (b : Bool) (some stores : b ≡ true → Rule (new wide.stmt)) (other : Rule (new wide.stmt)) →
    ((h : b ≡ true) → Goes (some h) ts (stores h) ts) → Goes (where_true b some other) ts (where_true b stores other) ts
storing_at true some stores other h = h refl
storing_at {ts = ts} false some stores other h = start other ts

pub no_havoc : (ls : List (List ℕ)) {ts : List PlacedLexeme} → narrow.IsNot (the_word word.Havoc) ts → Goes (changing ls) ts (storing ls) ts
no_havoc ls {ts = ts} n =
    storing_at (some_free ls) (λ some. changes ls some) (λ some. when {b = true} {r = old (old v.variable)} (a_variable ls some) (λ i. assignment ls i) (conditional ls)) (conditional ls)
    (λ some. by_other n (start (changes ls some) ts))

-- `havoc` and a variable

changed_at : {ts us : List PlacedLexeme} {r : Rule (new wide.stmt)} (b : Bool) (some : b ≡ true → Rule (new wide.stmt)) (other : Rule (new wide.stmt)) → b ≡ true →
    ((h : b ≡ true) → Goes (some h) ts r us) → Goes (where_true b some other) ts r us
changed_at true some other e h = h refl
changed_at false some other e h = absurd (cc)

havoc_goes : (ls : List (List ℕ)) {ts us vs : List PlacedLexeme} {i : ℕ} → narrow.Starts (the_word word.Havoc) ts tt us → ReadsVariable ls us i vs →
    Goes (changing ls) ts (after_sign sign.Semicolon (give (w.Havoc i))) vs
havoc_goes ls {ts = ts} p h =
    changed_at (some_free ls) (λ some. changes ls some) (conditional ls) h.0 (λ some. by_need (h.1 some) (by_token p (start (changes ls some) ts)))

-- `havoc` and no variable

fails_at : {ts z : List PlacedLexeme} (b : Bool) (some : b ≡ true → Rule (new wide.stmt)) (other : Rule (new wide.stmt)) → b ≡ true → ((h : b ≡ true) → Fails (some h) ts z) →
    Fails (where_true b some other) ts z
fails_at true some other e h = h refl
fails_at false some other e h = absurd (cc)

fails_else : {ts z : List PlacedLexeme} (b : Bool) (some : b ≡ true → Rule (new wide.stmt)) (other : Rule (new wide.stmt)) → b ≡ false → Fails other ts z → Fails (where_true b some other) ts z
fails_else true some other e h = absurd (cc)
fails_else false some other e h = h

havoc_fails : (ls : List (List ℕ)) {ts us : List PlacedLexeme} → narrow.Starts (the_word word.Havoc) ts tt us → NoVariable ls us → some_free ls ≡ true → Fails (changing ls) ts us
havoc_fails ls p n e =
    fails_at (some_free ls) (λ some. changes ls some) (conditional ls) e (λ some. fails_taken p (fails_here (n some)))

havoc_stands_nowhere : (ls : List (List ℕ)) {ts us : List PlacedLexeme} → narrow.Starts (the_word word.Havoc) ts tt us → some_free ls ≡ false → Fails (changing ls) ts ts
havoc_stands_nowhere ls p e =
    fails_else (some_free ls) (λ some. changes ls some) (conditional ls) e (fails_here (havoc_is_no_if p))

-- what `eat_havoc` answers, of the rule

pub havoc_next : (ls : List (List ℕ)) {ts vs : List PlacedLexeme} {i : ℕ} → (us : List PlacedLexeme) × narrow.Starts (the_word word.Havoc) ts tt us × ReadsVariable ls us i vs →
    Goes (changing ls) ts (after_sign sign.Semicolon (give (w.Havoc i))) vs
havoc_next ls h = havoc_goes ls h.1 h.2

pub havoc_refuses : (ls : List (List ℕ)) (ts : List PlacedLexeme) (e : Stop PlacedLexeme) → EatsHavoc ls ts (Err e) → Refuses (changing ls) ts e
havoc_refuses ls ts stop.Memory h = tt
havoc_refuses ls ts (stop.Before r) (us, starts, inl (some, none, e)) = subst (λ l. Fails (changing ls) ts l) (sym e) (havoc_fails ls starts none some)
havoc_refuses ls ts (stop.Before r) (us, starts, inr (none, e)) = subst (λ l. Fails (changing ls) ts l) (sym e) (havoc_stands_nowhere ls starts none)

-- the targets of a call

pub next_target : (ls : List (List ℕ)) (is : List ℕ) {a : Rule (new wide.numbers)} {ts us vs : List PlacedLexeme} → some_free ls ≡ true → narrow.Starts (the_sign sign.Comma) us tt vs →
    Goes a ts (rule (Targets ls is)) us →
    (some : some_free ls ≡ true) × Goes a ts (need {r = old (old v.variable)} (a_variable ls some) (λ i. read (more (Targets ls (is ++ (i ∷ [])))) give)) vs
next_target ls is h p g = let m = where_holds (some_free ls) (λ some. wide.more_targets ls is some) (after_sign sign.Assign (give is)) h g in (m.0, by_token p m.1)

pub last_target : (ls : List (List ℕ)) (is : List ℕ) {a : Rule (new wide.numbers)} {ts us : List PlacedLexeme} → some_free ls ≡ true → narrow.IsNot (the_sign sign.Comma) us →
    Goes a ts (rule (Targets ls is)) us → Goes a ts (after_sign sign.Assign (give is)) us
last_target ls is h n g = by_other n (where_holds (some_free ls) (λ some. wide.more_targets ls is some) (after_sign sign.Assign (give is)) h g).1

-- the name of a variable

pub variable_within : {names : List (List ℕ)} {ts us : List PlacedLexeme} {i : ℕ} → ReadsVariable names ts i us → i < length names
variable_within {names = names} {i = i} h = let p = (h.1 h.0).passes in within p.name names i p.there

pub name_got : (names : List (List ℕ)) (i : ℕ) (d : List ℕ) → i < length names → get_or names i d ≡ name_at names i
name_got [] i d h = absurd (omega (arith, h))
name_got (x ∷ xs) zero d h = refl
name_got (x ∷ xs) (suc i) d h = name_got xs i d (omega (arith, h))

-- what follows the label of a clause
abbrev pub clause_rest : {s : WKind} → List (List ℕ) → (w.Clause → Rule s) → Label → Rule s
clause_rest ls go l = wide.an_expr ls (λ e. after_sign sign.Semicolon (go (record { label = l; e = e })))

-- what follows an invariant
abbrev pub invariant_rest : List (List ℕ) → List w.Clause → w.Clause → Rule (new wide.clauses)
invariant_rest ls cs c = read (more (wide.Invariants ls (cs ++ (c ∷ [])))) give

abbrev pub bound_rest : List (List ℕ) → Label → Rule (new wide.bound_clause)
bound_rest ls l = wide.a_binding_expr ls (λ e. after_sign sign.Semicolon (give (record { label = l; e = e.0 }, e.1)))
