-- What contracts of the reader see.
use Rattle.std.specs.Prelude.{◌≡◌, Bool, true, not, ◌&&◌, ℕ, List, map}
use Rattle.std.specs.declared.alloc.Global.{Global}
use Rattle.std.specs.declared.boxed.Box.{Box}
use Rattle.std.specs.declared.vec.Vec.{Vec}
use Rattle.boogie_tree.specs.declared.exprs.BBase.{BBase}
use Rattle.boogie_tree.specs.Expr as t
use Rattle.boogie_tree.specs.declared.exprs.BExpr.{BExpr}
use Rattle.boogie_tree.specs.Program.{Local}
use Rattle.boogie_tree.specs.Whole.{expr_of, locals_of}
use Rattle.boogie_tree.specs.declared.programs.Local as declared
use Rattle.boogie_grammar.specs.Words.{is_reserved, is_among}
use Rattle.boogie_grammar.specs.declared.scopes.ExprScope.{ExprScope}
use Rattle.boogie_grammar.specs.declared.leaves.Wrap.{Wrap}
use Rattle.boogie_grammar.specs.declared.leaves.Wrap.TheVariants as wrap
use Rattle.boogie_grammar.specs.declared.tokens.BSign.TheVariants as sign
use Rattle.boogie_grammar.specs.declared.tokens.PlacedLexeme.{PlacedLexeme}
use Rattle.boogie_grammar.specs.declared.tokens.BoogieWord.TheVariants as w
use Rattle.boogie_grammar.specs.Tests as v
use Rattle.boogie_grammar.specs.Tests.{some_free, a_variable}
use Rattle.boogie_grammar.specs.Greedy.{Reads, Goes, Starts, IsNot}
use Rattle.boogie_grammar.specs.Grammar as g

abbrev pub scope_of : ExprScope → g.ExprScope
scope_of x = record { locals = x.locals.now; others = x.others.now; bound = x.bound.now }

abbrev pub boxed_of : Box BExpr Global → t.BExpr
boxed_of b = expr_of b.value

-- what is built of an expression in parentheses after a word
abbrev pub wrap_of : Wrap → t.BExpr → t.BExpr
wrap_of wrap.Real a = t.ToReal a
wrap_of wrap.Int a = t.SInt a
wrap_of wrap.Bool a = t.SBool a
wrap_of wrap.Ref a = t.SRef a
wrap_of wrap.Perm a = t.SPerm a
wrap_of wrap.Neg a = t.Neg a
wrap_of wrap.Not a = t.Not a

-- bexpr ")", of which this is made
abbrev pub closing : g.ExprScope → (t.BExpr → t.BExpr) → g.Rule v.expr
closing x make = g.read (g.Expr x) (λ a. g.after_sign sign.CloseParen (g.give (make a)))

-- bexpr "then" bexpr "else" bexpr ")", after "if"
abbrev pub chosen : g.ExprScope → g.Rule v.expr
chosen x = g.read (g.Expr x) (λ a. g.after_word w.Then (g.read (g.Expr x) (λ b. g.after_word w.Else (g.read (g.Expr x) (λ c. g.after_sign sign.CloseParen (g.give (t.If a b c)))))))

-- what follows "forall", with its ")"
abbrev pub quantifying : g.ExprScope → g.Rule v.expr
quantifying x = g.read (g.Binders x g.no_binding) (λ b. g.quantified x b)

-- a leaf was read
abbrev pub ReadsLeaf : List PlacedLexeme → t.BExpr → List PlacedLexeme → Type 0
ReadsLeaf ts e us = (others : g.Rule v.expr) → Reads v.expr (g.leaves others) ts e us

abbrev pub NoLeaf : List PlacedLexeme → Type 0
NoLeaf ts = (others : g.Rule v.expr) → Goes (g.leaves others) ts others ts

-- the word of a form with parentheses was read
abbrev pub ReadsWrap : List PlacedLexeme → Wrap → List PlacedLexeme → Type 0
ReadsWrap ts k us = (x : g.ExprScope) (others : g.Rule v.expr) → Goes (g.wraps x others) ts (g.wrapped x (wrap_of k)) us

abbrev pub NoWrap : List PlacedLexeme → Type 0
NoWrap ts = (x : g.ExprScope) (others : g.Rule v.expr) → Goes (g.wraps x others) ts others ts

-- a variable was read
abbrev pub ReadsVariable : List (List ℕ) → List PlacedLexeme → ℕ → List PlacedLexeme → Type 0
ReadsVariable names ts i us = (some_free names ≡ true) × ((some : some_free names ≡ true) → Starts (a_variable names some) ts i us)

abbrev pub NoVariable : List (List ℕ) → List PlacedLexeme → Type 0
NoVariable names ts = (some : some_free names ≡ true) → IsNot (a_variable names some) ts

-- "forall" was read, where it may stand
abbrev pub ReadsForall : List (List ℕ) → List PlacedLexeme → List PlacedLexeme → Type 0
ReadsForall bound ts us = (first other : g.Rule v.expr) → Goes (g.unless_bound bound (g.when (v.the_word w.Forall) (λ _. first) other) other) ts first us

abbrev pub NoForall : List (List ℕ) → List PlacedLexeme → Type 0
NoForall bound ts = (first other : g.Rule v.expr) → Goes (g.unless_bound bound (g.when (v.the_word w.Forall) (λ _. first) other) other) ts other ts

-- the first of the bound names was read where indices stand, and these names are to follow
abbrev pub ReadsBound : g.ExprScope → List PlacedLexeme → List (List ℕ) → List PlacedLexeme → Type 0
ReadsBound x ts qs us = (i : ℕ) → Goes (g.indices x i x.bound) ts (g.read (g.BoundRest qs) (λ _. g.give (t.AtBound i))) us

abbrev pub NoBound : g.ExprScope → List PlacedLexeme → Type 0
NoBound x ts = (i : ℕ) → Goes (g.indices x i x.bound) ts (g.at_indices x i) ts

abbrev pub all_exprs_of : Vec BExpr Global → List t.BExpr
all_exprs_of v = map expr_of v.items

-- names with these types
abbrev pub binding_of : List (List ℕ) → Vec BBase Global → v.Binding
binding_of names types = record { names = names; types = types.items }

abbrev pub bases_of : Vec BBase Global → List BBase
bases_of v = v.items

-- whether a name is not reserved and none of these
abbrev pub is_new_name : List (List ℕ) → List ℕ → Bool
is_new_name names x = not (is_reserved x) && not (is_among x names)

abbrev pub all_locals_of : Vec declared.Local Global → List Local
all_locals_of v = locals_of v.items
