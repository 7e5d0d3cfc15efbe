-- Each symbol spells something, and each test has a token that passes it, in one way.
use Rattle.std.proofs.Common.{◌≡◌, refl, ℕ, Bool, true, false, List, []}
use Rattle.grammar.specs.Rules.{Rule, give, need, when, read}
use Rattle.grammar.specs.Wider.{Kinds, old, was, more}
use Rattle.grammar.proofs.Laws as grammar
use Rattle.grammar.proofs.Laws.{Example, Element, Laws}
use Rattle.grammar.proofs.WiderLaws.{element_up, laws_up}
use Rattle.boogie_grammar.specs.Tests as v
use Rattle.boogie_grammar.specs.Tests.{Test, some_free}
use Rattle.boogie_tree.specs.Program.{Local}
use Rattle.boogie_loops_grammar.specs.Trees.{Contract, no_clauses}
use Rattle.boogie_grammar.specs.Grammar as g
use Rattle.boogie_grammar.proofs.Elements as boogie
use Rattle.boogie_loops_grammar.specs.Noting.{noting, noted_rules}
use Rattle.boogie_loops_grammar.specs.Grammar.{Kind, Symbol, Programs, Procedure, Parameters, Params, Clauses, BoundClause, Vars, Statements, Statement, Block, Else, Invariants, Targets, Arguments, MoreArguments, telling, wider_boogie, new_names, where_true, scope, an_expr, marked, simple, rule, more_rule, rules}
use Rattle.boogie_loops_grammar.specs.Words.{has_no_word}
use Rattle.boogie_loops_grammar.proofs.Noting.{laws_noted}

telling_laws : Laws (noted_rules new_names g.rules)
telling_laws = laws_noted new_names g.rules boogie.laws

example : {r : v.Kind} (c : Test true r) → Example wider_boogie {r = old (old r)} c
example c = let e = boogie.laws.example _ c in record { token = e.token; value = e.value; passes = e.passes }

abbrev El : {s : Kinds telling Kind} → Rule wider_boogie s → Type 0
El a = Element rules a

el_give : {s : Kinds telling Kind} {x : wider_boogie.Value s} → El (give x)
el_give = grammar.el_give

el_need : {r : v.Kind} {s : Kinds telling Kind} {c : Test true r} {go : v.Value r → Rule wider_boogie s} → ((x : v.Value r) → El (go x)) → El (need {r = old (old r)} c go)
el_need {c = c} f = grammar.el_need (example c) f

el_taken : {r : v.Kind} {s : Kinds telling Kind} {c : Test true r} {go : v.Value r → Rule wider_boogie s} {other : Rule wider_boogie s} → ((x : v.Value r) → El (go x)) →
    El (when {b = true} {r = old (old r)} c go other)
el_taken {c = c} f = let k = example c in grammar.el_taken k.token k.value k.passes (f k.value)

el_other : {r : v.Kind} {s : Kinds telling Kind} {c : Test true r} {go : v.Value r → Rule wider_boogie s} {other : Rule wider_boogie s} → El other → El (when {b = true} {r = old (old r)} c go other)
el_other e = grammar.el_other e

el_more : {r s : Kinds telling Kind} {a : Symbol r} {go : wider_boogie.Value r → Rule wider_boogie s} → El (rule a) → ((y : wider_boogie.Value r) → El (go y)) → El (read (more a) go)
el_more e f = grammar.el_read e f

el_was : {r : telling.Kind} {s : Kinds telling Kind} (a : telling.Symbol r) {go : telling.Value r → Rule wider_boogie s} → ((y : telling.Value r) → El (go y)) → El (read {r = old r} (was a) go)
el_was a f = grammar.el_read (element_up (noted_rules new_names g.rules) (λ s b. more_rule b) (telling_laws.element_of _ a)) f

el_where : {s : Kinds telling Kind} (b : Bool) {some : b ≡ true → Rule wider_boogie s} {other : Rule wider_boogie s} → ((h : b ≡ true) → El (some h)) → El other → El (where_true b some other)
el_where true f e = f refl
el_where false f e = e

-- ---- symbols

el_expr : {s : Kinds telling Kind} (ls : List (List ℕ)) {go : _ → Rule wider_boogie s} → ((e : _) → El (go e)) → El (an_expr ls go)
el_expr ls f = el_was (was (g.Expr (scope ls))) f

el_marked : {s : Kinds telling Kind} {go : _ → Rule wider_boogie s} → ((l : _) → El (go l)) → El (marked go)
el_marked f = el_need (λ _. el_need (λ _. el_need (λ _. el_need (λ l. el_need (λ _. f l)))))

el_params : (ls : List Local) → El (rule (Params ls))
el_params ls = el_need (λ x. el_need (λ _. el_need (λ u. el_other (el_need (λ _. el_give)))))

el_clauses : (ls : List (List ℕ)) (c : Contract) → El (rule (Clauses ls c))
el_clauses ls c = el_other (el_other el_give)

el_simple : (ls : List (List ℕ)) → El (simple ls)
el_simple ls = el_taken (λ _. el_expr ls (λ e. el_need (λ _. el_give)))

el_statements : (ls : List (List ℕ)) (xs : _) → El (rule (Statements ls xs))
el_statements ls xs = el_taken (λ _. el_give)

element_of : {s : Kinds telling Kind} (a : Symbol s) → El (rule a)
element_of (Programs ps) = el_other el_give
element_of (Procedure taken) = el_need (λ x. el_need (λ _. el_more (el_taken (λ _. el_give)) (λ params. el_other (el_taken (λ _. el_more (el_clauses _ no_clauses) (λ c. el_give))))))
element_of Parameters = el_taken (λ _. el_give)
element_of (Params ls) = el_params ls
element_of (Clauses ls c) = el_clauses ls c
element_of (BoundClause ls) = el_marked (λ l. el_was (more (noting (g.Expr (scope ls)))) (λ e. el_need (λ _. el_give)))
element_of (Vars bound ls) = el_other el_give
element_of (Statements ls xs) = el_statements ls xs
element_of (Statement ls) = el_where (has_no_word ls) (λ h. el_other (el_other (el_simple ls))) (el_simple ls)
element_of (Block ls) = el_need (λ _. el_more (el_statements ls []) (λ xs. el_give))
element_of (Else ls) = el_other el_give
element_of (Invariants ls cs) = el_other el_give
element_of (Targets ls is) = el_where (some_free ls) (λ h. el_other (el_need (λ _. el_give))) (el_need (λ _. el_give))
element_of (Arguments ls) = el_taken (λ _. el_give)
element_of (MoreArguments ls es) = el_expr ls (λ e. el_other (el_need (λ _. el_give)))

pub laws : Laws rules
laws = laws_up (noted_rules new_names g.rules) (λ s a. more_rule a) telling_laws (λ s a. element_of a)
