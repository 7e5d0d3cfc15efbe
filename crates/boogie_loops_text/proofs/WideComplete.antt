-- Every derivation is read: where a rule has alternatives, the next token tells which of them was derived.
use Rattle.std.proofs.Common.{◌≡◌, refl, sym, subst, ◌∙◌, ℕ, Bool, true, false, not, ◌&&◌, ◌||◌, List, [], ◌∷◌, ◌++◌, Option, Some, None}
use Rattle.std.specs.Str.{bytes_eq}
use Rattle.std.proofs.lemmas.Bool.{both_ways}
use Rattle.std.proofs.lemmas.List.Folds.{list_any-append}
use Rattle.std.proofs.lemmas.Slice.Eq.{bytes_eq-Decides}
use Rattle.boogie_grammar.proofs.Elements.{name_is}
use Rattle.grammar.proofs.Sets.{among, within}
use Rattle.grammar.proofs.Complete as grammar
use Rattle.grammar.proofs.Complete.{Table, good_need, good_when, good_read, te, tn, tw, tr}
use Rattle.grammar.proofs.WiderLaws.{More, wider_table, right_up, all_good}
use Rattle.grammar.specs.Rules as rules_of
use Rattle.grammar.specs.Rules.{Rules, give, need, when, read}
use Rattle.grammar.specs.Spells as plain
use Rattle.grammar.specs.Spells.{Derives}
use Rattle.grammar.specs.Greedy.{Reads}
use Rattle.grammar.specs.Wider.{Kinds, old, new, more}
use Rattle.boogie_tree.specs.Program.{Local}
use Rattle.boogie_grammar.specs.declared.tokens.BSign.TheVariants as sign
use Rattle.boogie_grammar.specs.declared.tokens.BoogieWord.TheVariants as w
use Rattle.boogie_grammar.specs.declared.tokens.Lexeme.TheVariants as tok
use Rattle.boogie_grammar.specs.declared.tokens.PlacedLexeme.{PlacedLexeme}
use Rattle.boogie_grammar.specs.Words.{is_reserved, is_among}
use Rattle.boogie_grammar.specs.Tests as v
use Rattle.boogie_grammar.specs.Tests.{some_free, a_variable}
use Rattle.boogie_grammar.specs.Grammar as g
use Rattle.boogie_grammar.proofs.NameLaws.{there}
use Rattle.boogie_loops.specs.Wide as wide
use Rattle.boogie_loops.specs.Wide.{Clause}
use Rattle.boogie_loops_grammar.specs.Words.{has_no_word, wide_words, while_word, call_word, requires_word, ensures_word, returns_word}
use Rattle.boogie_loops_grammar.specs.Trees.{Contract, requiring, ensuring}
use Rattle.boogie_loops_grammar.specs.Noting.{Second, noting, second_rules, noted_rules}
use Rattle.boogie_loops_grammar.specs.Grammar.{Kind, Value, a_name, a_clause, bound_clause, contract, Symbol, Programs, Procedure, Parameters, Params, Clauses, BoundClause, Vars, Statements, Statement, Block, Else, Invariants, Targets, Arguments, MoreArguments, telling, wider_boogie, new_names, where_true, after_sign, at_name, rest_of, headed, checks, changes, simple, worded, loop, looping, call, targeted, called, more_targets, assignment, branches, conditional, rule, more_rule, rules}
use Rattle.boogie_loops_grammar.proofs.NotedTable.{seconds, noted_table, right_noted, good_noted}
use Rattle.boogie_print.proofs.Codes.{code, names, words, signs, statement_starts, expr_starts, table}
use Rattle.boogie_text.proofs.Answered.{ranks}
use Rattle.boogie_print.proofs.Complete.{right, good, not_word, not_variable, code_at}

-- the grammar of the other programs, with the second forms

abbrev pub telling_rules : Rules telling
telling_rules = noted_rules new_names g.rules

abbrev pub telling_table : Table telling
telling_table = noted_table new_names g.rules table ranks.rank

pub telling_right : grammar.IsRightTable telling_rules telling_table
telling_right = right_noted new_names g.rules table ranks.rank right

seconds_good : (s : Kinds g.boogie v.Kind) (a : Second g.boogie s) → grammar.Good telling_rules telling_table s (telling_table.Ext s (more a)) (second_rules new_names g.rules s a)
seconds_good _ (noting {s = s} a) = good_noted new_names g.rules table ranks.rank (λ s b x k h. h) (table.Ext s a) (good a) []

telling_good : (s : telling.Kind) (a : telling.Symbol s) → grammar.Good telling_rules telling_table s (telling_table.Ext s a) (telling_rules s a)
telling_good = all_good g.rules (second_rules new_names g.rules) table (seconds new_names g.rules table ranks.rank) (λ s a. good a) seconds_good

-- with which tokens the further symbols begin, and what could go on with them

abbrev pub first_codes : {s : Kinds telling Kind} → Symbol s → List ℕ
first_codes (Programs ps) = words (w.Procedure ∷ [])
first_codes (Procedure taken) = names
first_codes Parameters = signs (sign.CloseParen ∷ []) ++ names
first_codes (Params ls) = names
first_codes (Clauses ls c) = names
first_codes (BoundClause ls) = signs (sign.OpenBrace ∷ [])
first_codes (Vars bound ls) = words (w.Var ∷ [])
first_codes (Statements ls xs) = signs (sign.CloseBrace ∷ []) ++ statement_starts
first_codes (Statement ls) = statement_starts
first_codes (Block ls) = signs (sign.OpenBrace ∷ [])
first_codes (Else ls) = words (w.Else ∷ [])
first_codes (Invariants ls cs) = names
first_codes (Targets ls is) = signs (sign.Comma ∷ sign.Assign ∷ [])
first_codes (Arguments ls) = signs (sign.CloseParen ∷ []) ++ expr_starts
first_codes (MoreArguments ls es) = expr_starts

abbrev pub empty : {s : Kinds telling Kind} → Symbol s → Option (wider_boogie.Value s)
empty (Programs ps) = Some ps
empty (Procedure taken) = None
empty Parameters = None
empty (Params ls) = None
empty (Clauses ls c) = Some c
empty (BoundClause ls) = None
empty (Vars bound ls) = Some ls
empty (Statements ls xs) = None
empty (Statement ls) = None
empty (Block ls) = None
empty (Else ls) = Some wide.skip
empty (Invariants ls cs) = Some cs
empty (Targets ls is) = None
empty (Arguments ls) = None
empty (MoreArguments ls es) = None

abbrev after : {s : Kinds telling Kind} → Symbol s → List ℕ
after (Programs ps) = words (w.Procedure ∷ []) ++ names
after (Procedure taken) = names
after Parameters = []
after (Params ls) = []
after (Clauses ls c) = names
after (BoundClause ls) = []
after (Vars bound ls) = words (w.Var ∷ [])
after (Statements ls xs) = []
after (Statement ls) = words (w.Else ∷ [])
after (Block ls) = []
after (Else ls) = words (w.Else ∷ [])
after (Invariants ls cs) = names
after (Targets ls is) = []
after (Arguments ls) = []
after (MoreArguments ls es) = []

-- how many symbols are read before a token is
abbrev rank : {s : Kinds telling Kind} → Symbol s → ℕ
rank Parameters = 1
rank (Statements ls xs) = 1
rank (MoreArguments ls es) = 1
rank (Arguments ls) = 2
rank _ = 0

abbrev pub further : More {A = telling} Value Symbol
further = record { first_codes = λ s a. first_codes a; empty = λ s a. empty a; ext_codes = λ s a y. after a; rank = λ s a. rank a }

abbrev pub wide_table : Table wider_boogie
wide_table = wider_table telling_rules (λ s a. more_rule a) telling_table further

-- what holds of both rules of a choice

pub by_where : {s : Kinds telling Kind} (P : rules_of.Rule wider_boogie s → Type 0) (b : Bool) (some : b ≡ true → rules_of.Rule wider_boogie s) (other : rules_of.Rule wider_boogie s) →
    ((h : b ≡ true) → P (some h)) → P other → P (where_true b some other)
by_where P true some other f e = f refl
by_where P false some other f e = e

abbrev begins : {s : Kinds telling Kind} → rules_of.Rule wider_boogie s → List ℕ
begins a = grammar.begins wide_table a

abbrev ends : {s : Kinds telling Kind} → rules_of.Rule wider_boogie s → Option (wider_boogie.Value s)
ends a = grammar.ends wide_table a

abbrev First : List ℕ → {s : Kinds telling Kind} → rules_of.Rule wider_boogie s → Type 0
First l a = within (begins a) l ≡ true

first_simple : (ls : List (List ℕ)) → First statement_starts (simple ls)
first_simple ls = by_where (λ r. First statement_starts (checks ls r)) (some_free ls) (λ some. changes ls some) (conditional ls) (λ h. refl) refl

first_worded : (ls : List (List ℕ)) → First statement_starts (worded ls)
first_worded ls = by_where (λ r. First statement_starts (at_name while_word (loop ls) (at_name call_word (call ls) (checks ls r)))) (some_free ls) (λ some. changes ls some) (conditional ls) (λ h. refl) refl

first_ok : {s : Kinds telling Kind} (a : Symbol s) → First (first_codes a) (rule a)
first_ok (Programs ps) = refl
first_ok (Procedure taken) = refl
first_ok Parameters = refl
first_ok (Params ls) = refl
first_ok (Clauses ls c) = refl
first_ok (BoundClause ls) = refl
first_ok (Vars bound ls) = refl
first_ok (Statements ls xs) = refl
first_ok (Statement ls) = by_where (First statement_starts) (has_no_word ls) (λ h. worded ls) (simple ls) (λ h. first_worded ls) (first_simple ls)
first_ok (Block ls) = refl
first_ok (Else ls) = refl
first_ok (Invariants ls cs) = refl
first_ok (Targets ls is) = by_where (First (first_codes (Targets ls is))) (some_free ls) (λ some. more_targets ls is some) (after_sign sign.Assign (give is)) (λ h. refl) refl
first_ok (Arguments ls) = refl
first_ok (MoreArguments ls es) = refl

abbrev Ends : {s : Kinds telling Kind} → Option (wider_boogie.Value s) → rules_of.Rule wider_boogie s → Type 0
Ends o a = ends a ≡ o

ends_simple : (ls : List (List ℕ)) → Ends None (simple ls)
ends_simple ls = by_where (λ r. Ends None (checks ls r)) (some_free ls) (λ some. changes ls some) (conditional ls) (λ h. refl) refl

ends_worded : (ls : List (List ℕ)) → Ends None (worded ls)
ends_worded ls = by_where (λ r. Ends None (at_name while_word (loop ls) (at_name call_word (call ls) (checks ls r)))) (some_free ls) (λ some. changes ls some) (conditional ls) (λ h. refl) refl

empty_ok : {s : Kinds telling Kind} (a : Symbol s) → Ends (empty a) (rule a)
empty_ok (Programs ps) = refl
empty_ok (Procedure taken) = refl
empty_ok Parameters = refl
empty_ok (Params ls) = refl
empty_ok (Clauses ls c) = refl
empty_ok (BoundClause ls) = refl
empty_ok (Vars bound ls) = refl
empty_ok (Statements ls xs) = refl
empty_ok (Statement ls) = by_where (Ends None) (has_no_word ls) (λ h. worded ls) (simple ls) (λ h. ends_worded ls) (ends_simple ls)
empty_ok (Block ls) = refl
empty_ok (Else ls) = refl
empty_ok (Invariants ls cs) = refl
empty_ok (Targets ls is) = by_where (Ends None) (some_free ls) (λ some. more_targets ls is some) (after_sign sign.Assign (give is)) (λ h. refl) refl
empty_ok (Arguments ls) = refl
empty_ok (MoreArguments ls es) = refl

pub wide_right : grammar.IsRightTable rules wide_table
wide_right = right_up telling_rules (λ s a. more_rule a) telling_table further telling_right (λ s a. first_ok a) (λ s a. empty_ok a)

-- which alternatives a token passes by

abbrev WRule : Kinds telling Kind → Type 0
WRule s = rules_of.Rule wider_boogie s

abbrev From : {s : Kinds telling Kind} → WRule s → List PlacedLexeme → wider_boogie.Value s → Type 0
From a ts x = Derives rules _ a ts x

pass_by : {b : Bool} {r s : Kinds telling Kind} {c : wider_boogie.Test b r} {go : wider_boogie.Value r → WRule s} {other : WRule s} {ts us : List PlacedLexeme} {x : wider_boogie.Value s} {k : PlacedLexeme} →
    From (when c go other) ts x → ts ≡ k ∷ us → ((y : wider_boogie.Value r) → wider_boogie.Passes b r c k y → ⊥) → From other ts x
pass_by {b = b} {r = r} {c = c} {k = k} (plain.taken {v = y} q d) e n = let same : q.token ≡ k = cc in absurd (n y (subst (λ j. wider_boogie.Passes b r c j y) same q.passes))
pass_by (plain.passed d) e n = d

no_need : {r s : Kinds telling Kind} {c : wider_boogie.Test true r} {go : wider_boogie.Value r → WRule s} {ts us : List PlacedLexeme} {x : wider_boogie.Value s} {k : PlacedLexeme} →
    From (need c go) ts x → ts ≡ k ∷ us → ((y : wider_boogie.Value r) → wider_boogie.Passes true r c k y → ⊥) → ⊥
no_need {r = r} {c = c} {k = k} (plain.needed {v = y} q d) e n = let same : q.token ≡ k = cc in n y (subst (λ j. wider_boogie.Passes true r c j y) same q.passes)

no_give : {s : Kinds telling Kind} {y x : wider_boogie.Value s} {ts us : List PlacedLexeme} {k : PlacedLexeme} → From (give y) ts x → ts ≡ k ∷ us → ⊥
no_give plain.given e = cc

no_sign : {q : List ℕ} (k : PlacedLexeme) (o : _) → k.tok ≡ tok.Name q → k.tok ≡ tok.Sign o → ⊥
no_sign {q = q} k o name e = let h : tok.Sign o ≡ tok.Name q = sym e ∙ name in cc

other_name : {q p : List ℕ} (k : PlacedLexeme) → bytes_eq q p ≡ false → k.tok ≡ tok.Name q → k.tok ≡ tok.Name p → ⊥
other_name {q = q} {p = p} k n name e = both_ways (bytes_eq q p) n ((bytes_eq-Decides q p).1 (name_is (sym name ∙ e)))

-- neither a clause nor what follows clauses begins with another name

no_clauses_first : (ls : List (List ℕ)) (c : Contract) {q : List ℕ} {k : PlacedLexeme} {ts us : List PlacedLexeme} {x : Contract} → From (rule (Clauses ls c)) ts x → ts ≡ k ∷ us →
    k.tok ≡ tok.Name q → bytes_eq q requires_word ≡ false → bytes_eq q ensures_word ≡ false → ⊥
no_clauses_first ls c {k = k} d is name n m = no_give (pass_by (pass_by d is (λ _ p. other_name k n name p)) is (λ _ p. other_name k m name p)) is

after_clauses : (ls : List (List ℕ)) {s : Kinds telling Kind} (go : Contract → WRule s) {q : List ℕ} {k : PlacedLexeme} {ts us : List PlacedLexeme} {x : wider_boogie.Value s} {c : Contract} →
    From (read (more (Clauses ls c)) go) ts x → ts ≡ k ∷ us → k.tok ≡ tok.Name q → bytes_eq q requires_word ≡ false → bytes_eq q ensures_word ≡ false →
    ((y : Contract) (vs : List PlacedLexeme) → From (go y) vs x → vs ≡ k ∷ us → ⊥) → ⊥
after_clauses ls go (plain.called {ts = []} {us = vs} {y = y} d d') is name n m f = f y vs d' is
after_clauses ls go {q = q} {k = k} {c = c} (plain.called {ts = j ∷ ts} d d') is name n m f =
    let same : j ≡ k = cc in no_clauses_first ls c d refl (subst (λ (i : PlacedLexeme). i.tok ≡ tok.Name q) (sym same) name) n m

no_rest : (x : List ℕ) (params head : List Local) {k : PlacedLexeme} {us : List PlacedLexeme} {d : wide.WProc} → From (rest_of x params head) (k ∷ us) d → k.tok ≡ tok.Name returns_word → ⊥
no_rest x params head {k = k} h name =
    after_clauses (g.local_names head) _ (pass_by h refl (λ _ p. no_sign k sign.Semicolon name p)) refl name refl refl
    (λ y vs d is. no_need d is (λ _ p. no_sign k sign.OpenBrace name p))

-- a word begins no statement but its own

not_among_words : (q : List ℕ) (ls : List (List ℕ)) → is_among q wide_words ≡ true → has_no_word ls ≡ true → is_among q ls ≡ false
not_among_words q [] i h = refl
not_among_words q (y ∷ ys) i h = by_case (bytes_eq q y) (is_among y wide_words) refl refl h (λ g. not_among_words q ys i g) where
  by_case : (b c : Bool) → bytes_eq q y ≡ b → is_among y wide_words ≡ c → (not c && has_no_word ys) ≡ true → (has_no_word ys ≡ true → is_among q ys ≡ false) → (b || is_among q ys) ≡ false
  by_case b true e f g rest = absurd (cc)
  by_case true false e f g rest = absurd (both_ways (is_among y wide_words) f (subst (λ z. is_among z wide_words ≡ true) ((bytes_eq-Decides q y).0 e) i))
  by_case false false e f g rest = rest g

no_simple : (ls : List (List ℕ)) {q : List ℕ} {k : PlacedLexeme} {us : List PlacedLexeme} {x : wide.WStmt} → From (simple ls) (k ∷ us) x → k.tok ≡ tok.Name q → is_reserved q ≡ false → is_among q ls ≡ false → ⊥
no_simple ls {q = q} {k = k} {us = us} {x = x} d name free fresh =
    let d = pass_by d refl (λ _ p. not_word k w.Assume refl name free p) in
    let d = pass_by d refl (λ _ p. not_word k w.Assert refl name free p) in
    by_where (λ r. From r (k ∷ us) x → ⊥) (some_free ls) (λ some. changes ls some) (conditional ls)
    (λ some h. no_if (pass_by (pass_by h refl (λ _ p. not_word k w.Havoc refl name free p)) refl (λ i p. not_variable k ls i name fresh p)))
    (λ h. no_if h) d where
      no_if : From (conditional ls) (k ∷ us) x → ⊥
      no_if h = no_need h refl (λ _ p. not_word k w.If refl name free p)

-- the next token tells how to read on

abbrev Good : (s : Kinds telling Kind) → (wider_boogie.Value s → PlacedLexeme → Type 0) → WRule s → Type 0
Good s E a = grammar.Good rules wide_table s E a

abbrev After : List ℕ → {s : Kinds telling Kind} → WRule s → Type 0
After l {s} a = grammar.Tells wide_table s (λ _. l) a

abbrev GoodAfter : List ℕ → {s : Kinds telling Kind} → WRule s → Type 0
GoodAfter l {s} a = Good s (λ x k. among (code k.tok) l ≡ true) a

tells_good : {s : Kinds telling Kind} (l : List ℕ) {a : WRule s} → After l a → GoodAfter l a
tells_good l h = grammar.tells_good rules wide_table wide_right (λ _. l) h

abbrev else_codes : List ℕ
else_codes = words (w.Else ∷ [])

tells_branches : (ls : List (List ℕ)) (make : wide.WStmts → wide.WStmts → wide.WStmt) → After else_codes (branches ls make)
tells_branches ls make = tn (λ _. tr (λ z k h. h) (λ z. refl) (λ a. tr (λ z k h. h) (λ z. refl) (λ b. te)))

tells_conditional : (ls : List (List ℕ)) → After else_codes (conditional ls)
tells_conditional ls = tn (λ _. tn (λ _. tw refl (λ _. tells_branches ls wide.Either) (tr (λ z k h. h) (λ z. refl) (λ e. tells_branches ls (wide.If e)))))

tells_assignment : (ls : List (List ℕ)) (i : ℕ) → After else_codes (assignment ls i)
tells_assignment ls i = tw refl (λ _. tr (λ z k h. h) (λ z. refl) (λ es. tn (λ _. tr (λ z k h. h) (λ z. refl) (λ e. tn (λ _. te)))))
    (tn (λ _. tr (λ z k h. h) (λ z. refl) (λ e. tn (λ _. te))))

tells_changes : (ls : List (List ℕ)) (some : some_free ls ≡ true) → After else_codes (changes ls some)
tells_changes ls some = tw refl (λ _. tn (λ i. tn (λ _. te))) (tw refl (λ i. tells_assignment ls i) (tells_conditional ls))

tells_simple : (ls : List (List ℕ)) → After else_codes (simple ls)
tells_simple ls = by_where (λ r. After else_codes (checks ls r)) (some_free ls) (λ some. changes ls some) (conditional ls)
    (λ some. tw refl (λ _. tr (λ z k h. h) (λ z. refl) (λ e. tn (λ _. te))) (tw refl (λ _. tn (λ _. tn (λ _. tn (λ _. tn (λ l. tn (λ _. tr (λ z k h. h) (λ z. refl) (λ e. tn (λ _. te)))))))) (tells_changes ls some)))
    (tw refl (λ _. tr (λ z k h. h) (λ z. refl) (λ e. tn (λ _. te))) (tw refl (λ _. tn (λ _. tn (λ _. tn (λ _. tn (λ l. tn (λ _. tr (λ z k h. h) (λ z. refl) (λ e. tn (λ _. te)))))))) (tells_conditional ls)))

tells_looping : (ls : List (List ℕ)) (guard : _) → After else_codes (looping ls guard)
tells_looping ls guard = tn (λ _. tr (λ z k h. h) (λ z. refl) (λ cs. tr (λ z k h. h) (λ z. refl) (λ b. te)))

tells_loop : (ls : List (List ℕ)) → After else_codes (loop ls)
tells_loop ls = tn (λ _. tw refl (λ _. tells_looping ls None) (tr (λ z k h. h) (λ z. refl) (λ e. tells_looping ls (Some e))))

tells_called : (ls : List (List ℕ)) (is : List ℕ) (f : List ℕ) → After else_codes (called ls is f)
tells_called ls is f = tn (λ _. tr (λ z k h. h) (λ z. refl) (λ es. tn (λ _. te)))

tells_targeted : (ls : List (List ℕ)) (i : ℕ) → After else_codes (targeted ls i)
tells_targeted ls i = tw refl (λ _. tr (λ z k h. h) (λ z. refl) (λ es. tn (λ _. te))) (tr (λ z k h. h) (λ z. refl) (λ is. tn (λ f. tells_called ls is f)))

-- "call": a variable, or a name that is none

either_false : (a b : Bool) → (a || b) ≡ false → a ≡ false
either_false true b h = cc
either_false false b h = refl

no_variable_new : (ls : List (List ℕ)) (k : PlacedLexeme) (i : ℕ) (x : List ℕ) → v.IsVariable ls k.tok i → k.tok ≡ tok.Name x → is_among x (ls ++ wide_words) ≡ false → ⊥
no_variable_new ls k i x p name none =
    let same : p.name ≡ x = name_is (sym p.is ∙ name) in
    let none_here : is_among x ls ≡ false = either_false (is_among x ls) (is_among x wide_words) (sym (list_any-append (bytes_eq x) ls wide_words) ∙ none) in
    both_ways _ none_here (there x ls i (subst (λ y. v.number_of y ls ≡ Some i) same p.there))

tells_name : (ls : List (List ℕ)) → After else_codes (a_name ls (λ f. called ls [] f))
tells_name ls = tn (λ f. tells_called ls [] f)

good_call : (ls : List (List ℕ)) → GoodAfter else_codes (call ls)
good_call ls = by_where (GoodAfter else_codes) (some_free ls) (λ some. when {b = true} {r = old (old v.variable)} (a_variable ls some) (λ i. targeted ls i) (a_name ls (λ f. called ls [] f)))
    (a_name ls (λ f. called ls [] f))
    (λ some. good_when
    (record { none = λ k us i x p d. no_need d refl (λ f q. no_variable_new ls k i f p q.0 q.2) })
    (record { ext = λ k i x p d. let h : None ≡ Some x = grammar.ends_right rules wide_table wide_right d refl in absurd (cc) })
    (λ i. tells_good else_codes (tells_targeted ls i)) (tells_good else_codes (tells_name ls)))
    (tells_good else_codes (tells_name ls))

good_worded : (ls : List (List ℕ)) → has_no_word ls ≡ true → GoodAfter else_codes (worded ls)
good_worded ls h = good_when
    (record { none = λ k us y x p d. no_simple ls (pass_by d refl (λ _ q. other_name k refl p q)) p refl (not_among_words while_word ls refl h) })
    (record { ext = λ k y x p d. let e : None ≡ Some x = sym (ends_later ls) ∙ grammar.ends_right rules wide_table wide_right d refl in absurd (cc) })
    (λ _. tells_good else_codes (tells_loop ls))
    (good_when
    (record { none = λ k us y x p d. no_simple ls d p refl (not_among_words call_word ls refl h) })
    (record { ext = λ k y x p d. let e : None ≡ Some x = sym (ends_simple ls) ∙ grammar.ends_right rules wide_table wide_right d refl in absurd (cc) })
    (λ _. good_call ls) (tells_good else_codes (tells_simple ls))) where
      ends_later : (ls : List (List ℕ)) → Ends None (at_name call_word (call ls) (simple ls))
      ends_later ls = ends_simple ls

-- declarations

tells_more_clauses : (ls : List (List ℕ)) (add : Clause → List (List ℕ) → Contract) → After names {s = new contract} (read {r = new bound_clause} (more (BoundClause ls)) (λ m. read (more (Clauses ls (add m.0 m.1))) give))
tells_more_clauses ls add = tr (λ z k h. h) (λ z. refl) (λ m. tr (λ z k h. h) (λ z. refl) (λ z. te))

good_clauses : (ls : List (List ℕ)) (c : Contract) → GoodAfter names (rule (Clauses ls c))
good_clauses ls c = good_when
    (record { none = λ k us y x p d. no_give (pass_by d refl (λ _ q. other_name k refl p q)) refl })
    (record { ext = λ k y x p d. code_at k (tok.Name requires_word) names p refl })
    (λ _. tells_good names (tells_more_clauses ls (λ m ns. requiring c m ns)))
    (tells_good names (tw refl (λ _. tells_more_clauses ls (λ m ns. ensuring c m ns)) te))

tells_rest : (x : List ℕ) (params head : List Local) → After names (rest_of x params head)
tells_rest x params head = tw refl (λ _. tr (λ z k h. h) (λ z. refl) (λ c. te))
    (tr (λ z k h. h) (λ z. refl) (λ c. tn (λ _. tr (λ z k h. h) (λ z. refl) (λ ls. tr (λ z k h. h) (λ z. refl) (λ xs. te)))))

good_headed : (taken : List (List ℕ)) → GoodAfter names (headed taken)
good_headed taken = good_need (λ x. good_need (λ _. good_read
    (record { none = λ y k us z d e. absurd (cc) })
    (record { ext = λ y z k d e. absurd (cc) })
    (λ params. good_when
    (record { none = λ k us y z p d. no_rest x params params d p })
    (record { ext = λ k y z p d. let h : None ≡ Some z = grammar.ends_right rules wide_table wide_right d refl in absurd (cc) })
    (λ _. tells_good names (tn (λ _. tr (λ z k h. h) (λ z. refl) (λ head. tells_rest x params head))))
    (tells_good names (tells_rest x params params)))))

tells_clause : {s : Kinds telling Kind} (l : List ℕ) (ls : List (List ℕ)) (go : Clause → WRule s) → ((c : Clause) → After l (go c)) → After l (a_clause ls go)
tells_clause l ls go h = tn (λ _. tn (λ _. tn (λ _. tn (λ m. tn (λ _. tr (λ z k e. e) (λ z. refl) (λ e. tn (λ _. h (record { label = m; e = e }))))))))

wide_good : {s : Kinds telling Kind} (a : Symbol s) → GoodAfter (after a) (rule a)
wide_good (Programs ps) = tells_good (after (Programs ps)) (tw refl (λ _. tr (λ z k h. h) (λ z. refl) (λ p. tr (λ z k h. h) (λ z. refl) (λ z. te))) te)
wide_good (Procedure taken) = good_headed taken
wide_good Parameters = tells_good [] (tw refl (λ _. te) (tr (λ z k h. h) (λ z. refl) (λ z. te)))
wide_good (Params ls) = tells_good [] (tn (λ x. tn (λ _. tn (λ u. tw refl (λ _. tr (λ z k h. h) (λ z. refl) (λ z. te)) (tn (λ _. te))))))
wide_good (Clauses ls c) = good_clauses ls c
wide_good (BoundClause ls) = tells_good [] (tn (λ _. tn (λ _. tn (λ _. tn (λ l. tn (λ _. tr (λ z k h. h) (λ z. refl) (λ e. tn (λ _. te))))))))
wide_good (Vars bound ls) = tells_good (after (Vars bound ls)) (tw refl (λ _. tn (λ x. tn (λ _. tr (λ z k h. h) (λ z. refl) (λ u. tn (λ _. tr (λ z k h. h) (λ z. refl) (λ z. te)))))) te)
wide_good (Statements ls xs) = tells_good [] (tw refl (λ _. te) (tr (λ z k h. h) (λ z. refl) (λ x. tr (λ z k h. h) (λ z. refl) (λ z. te))))
wide_good (Statement ls) = by_where (GoodAfter else_codes) (has_no_word ls) (λ _. worded ls) (simple ls) (λ h. good_worded ls h) (tells_good else_codes (tells_simple ls))
wide_good (Block ls) = tells_good [] (tn (λ _. tr (λ z k h. h) (λ z. refl) (λ xs. te)))
wide_good (Else ls) = tells_good else_codes (tw refl (λ _. tr (λ z k h. h) (λ z. refl) (λ z. te)) te)
wide_good (Invariants ls cs) = tells_good names (tw refl (λ _. tells_clause names ls (λ c. read (more (Invariants ls (cs ++ (c ∷ [])))) give) (λ c. tr (λ z k h. h) (λ z. refl) (λ z. te))) te)
wide_good (Targets ls is) = tells_good [] (by_where (After []) (some_free ls) (λ some. more_targets ls is some) (after_sign sign.Assign (give is))
    (λ some. tw refl (λ _. tn (λ i. tr (λ z k h. h) (λ z. refl) (λ z. te))) (tn (λ _. te))) (tn (λ _. te)))
wide_good (Arguments ls) = tells_good [] (tw refl (λ _. te) (tr (λ z k h. h) (λ z. refl) (λ z. te)))
wide_good (MoreArguments ls es) = tells_good [] (tr (λ z k h. h) (λ z. refl) (λ e. tw refl (λ _. tr (λ z k h. h) (λ z. refl) (λ z. te)) (tn (λ _. te))))

every_good : (s : Kinds telling Kind) (a : wider_boogie.Symbol s) → grammar.Good rules wide_table s (wide_table.Ext s a) (rules s a)
every_good = all_good telling_rules (λ s a. more_rule a) telling_table further telling_good (λ s a. wide_good a)

pub complete : {s : Kinds telling Kind} (a : Symbol s) {ts : List PlacedLexeme} {x : wider_boogie.Value s} → Derives rules s (rule a) ts x → Reads rules s (rule a) ts x []
complete a d = grammar.complete rules wide_table every_good (more a) d
