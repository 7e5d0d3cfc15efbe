-- The rule of an expression, by what is next.
use Rattle.std.proofs.Common.{◌≡◌, sym, subst, List}
use Rattle.boogie_tree.specs.Expr as t
use Rattle.boogie_grammar.specs.declared.tokens.PlacedLexeme.{PlacedLexeme}
use Rattle.boogie_grammar.specs.declared.tokens.BoogieWord.TheVariants as w
use Rattle.boogie_grammar.specs.Tests as v
use Rattle.boogie_grammar.specs.Tests.{the_word, a_variable, some_free}
use Rattle.boogie_grammar.specs.Grammar as g
use Rattle.boogie_grammar.specs.Grammar.{Rule, when, where_true}
use Rattle.boogie_grammar.specs.Greedy.{Reads, Goes}
use Rattle.boogie_grammar.specs.ReadView.{ReadsLeaf, NoLeaf, NoWrap}
use Rattle.boogie_grammar.proofs.Reading.{boogie_steps}
open boogie_steps use {goes_then}

-- what is left of the rule behind leaves, behind the words of forms, and behind pairs

abbrev pub at_variable : g.ExprScope → Rule v.expr
at_variable x = where_true (some_free x.locals) (λ some. when (a_variable x.locals some) (λ i. g.named x i) (g.in_parens x)) (g.in_parens x)

abbrev pub at_pair : g.ExprScope → Rule v.expr
at_pair x = when (the_word w.SPair) (λ _. g.paired x) (at_variable x)

abbrev pub at_wrap : g.ExprScope → Rule v.expr
at_wrap x = g.wraps x (at_pair x)

pub one_leaf : (x : g.ExprScope) {ts us : List PlacedLexeme} {e f : t.BExpr} → ReadsLeaf ts e us → f ≡ e → Reads v.expr (g.rule (g.Expr x)) ts f us
one_leaf x {ts = ts} {us = us} h same = subst (λ y. Reads v.expr (g.rule (g.Expr x)) ts y us) (sym same) (h (at_wrap x))

pub no_leaf : (x : g.ExprScope) {ts : List PlacedLexeme} → NoLeaf ts → Goes (g.rule (g.Expr x)) ts (at_wrap x) ts
no_leaf x n = n (at_wrap x)

pub no_wrap : (x : g.ExprScope) {ts : List PlacedLexeme} → NoLeaf ts → NoWrap ts → Goes (g.rule (g.Expr x)) ts (at_pair x) ts
no_wrap x n m = goes_then (no_leaf x n) (m x (at_pair x))
