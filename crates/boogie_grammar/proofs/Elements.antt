-- Each test has a token that passes it, in one way, and each symbol spells something.
use Rattle.std.proofs.Common.{◌≡◌, ◌∙◌, refl, sym, ap, ℕ, pos, Bool, true, false, not, ◌&&◌, List, [], ◌∷◌, Option, Some, None, if◌then◌else◌, arith, codes}
use Rattle.std.specs.Str.{bytes_eq}
use Rattle.lemmas.proofs.Options.{some_same}
use Rattle.grammar.proofs.Laws as grammar
use Rattle.grammar.proofs.Laws.{Example, el_give, el_other, el_read}
use Rattle.vb_base.specs.declared.places.Pos.{Pos}
use Rattle.vb_base.specs.declared.labels.Label.{Label}
use Rattle.vb_base.specs.declared.labels.Kind.TheVariants as kind
use Rattle.boogie_tree.specs.declared.exprs.BBase.{BBase}
use Rattle.boogie_tree.specs.declared.exprs.BBase.TheVariants as base
use Rattle.boogie_tree.specs.declared.exprs.BOp.{BOp}
use Rattle.boogie_tree.specs.declared.exprs.BOp.TheVariants as op
use Rattle.boogie_grammar.specs.declared.tokens.BSign.TheVariants as sign
use Rattle.boogie_grammar.specs.declared.tokens.Lexeme.{Lexeme}
use Rattle.boogie_grammar.specs.declared.tokens.Lexeme.TheVariants as tok
use Rattle.boogie_grammar.specs.declared.tokens.PlacedLexeme.{PlacedLexeme}
use Rattle.boogie_grammar.specs.declared.tokens.BoogieWord.TheVariants as w
use Rattle.boogie_grammar.specs.Words.{word_tok, word_text, base_word, operator_tok, is_reserved, is_among}
use Rattle.boogie_grammar.specs.Tests.{Kind, Value, Test, Passes, IsVariable, number_of, the_sign, the_word, the_name, a_new_name, a_variable, a_number, a_real, a_label, a_base, a_key, an_operator}
use Rattle.boogie_grammar.specs.Grammar as g
use Rattle.boogie_grammar.specs.Grammar.{Symbol, Rule, give, need, when, read, rule, boogie, rules}
use Rattle.boogie_grammar.proofs.NameLaws.{new_name, new_is_free, new_is_new, some_named}

some_place : Pos
some_place = record { line = 1; col = 1; line_in_range = (omega arith, omega arith); col_in_range = (omega arith, omega arith) }

pub token_of : Lexeme → PlacedLexeme
token_of t = record { tok = t; pos = some_place }

token_is : (t : Lexeme) → (token_of t).tok ≡ t
unfolding token_of
token_is t = refl

some_label : Label
some_label = record { at = some_place; part = some_place; kind = kind.Null }

example : {r : Kind} (c : Test true r) → Example boogie c
example (the_sign o) = record { token = token_of (tok.Sign o); value = tt; passes = token_is _ }
example (the_word w) = record { token = token_of (word_tok w); value = tt; passes = token_is _ }
example (the_name x) = record { token = token_of (tok.Name x); value = tt; passes = token_is _ }
example (a_new_name taken) = record { token = token_of (tok.Name (new_name taken)); value = new_name taken; passes = (token_is _, new_is_free taken, new_is_new taken) }
example (a_variable names some) =
    let n = some_named names some in
    record { token = token_of (tok.Name n.name); value = n.number; passes = record { name = n.name; is = token_is _; free = n.free; there = n.there } }
example a_number = record { token = token_of (tok.Number (pos 0)); value = pos 0; passes = token_is _ }
example a_real = record { token = token_of (tok.Real (pos 0)); value = pos 0; passes = token_is _ }
example a_label = record { token = token_of (tok.Text some_label); value = some_label; passes = token_is _ }
example a_base = record { token = token_of (word_tok w.Int); value = base.Int; passes = token_is _ }
example a_key = record { token = token_of (word_tok w.Int); value = base.Int; passes = (token_is _, refl) }
example an_operator = record { token = token_of (tok.Sign sign.Iff); value = op.Iff; passes = token_is _ }

-- a rule spells something
abbrev Element : {s : Kind} → Rule s → Type 0
Element a = grammar.Element rules a

el_need : {r s : Kind} {c : Test true r} {go : Value r → Rule s} → ((v : Value r) → Element (go v)) → Element (need c go)
el_need {c = c} f = grammar.el_need (example c) f

el_taken : {r s : Kind} {c : Test true r} {go : Value r → Rule s} {other : Rule s} → ((v : Value r) → Element (go v)) → Element (when c go other)
el_taken {c = c} f = let k = example c in grammar.el_taken k.token k.value k.passes (f k.value)

el_expr : (x : g.ExprScope) → Element (rule (g.Expr x))
el_expr x = el_taken (λ n. el_give)

el_statements : (ls : List (List ℕ)) (ss : _) → Element (rule (g.Statements ls ss))
el_statements ls ss = el_taken (λ _. el_give)

el_type : Element (rule g.TypeOf)
el_type = el_other (el_need (λ u. el_give))

el_more : (x : g.ExprScope) (es : _) → Element (rule (g.MoreExprs x es))
el_more x es = el_other (el_need (λ _. el_give))

el_exprs : (x : g.ExprScope) → Element (rule (g.Exprs x))
el_exprs x = el_read (el_expr x) (λ a. el_read (el_more x (a ∷ [])) (λ es. el_give))

el_where : {s : Kind} (b : Bool) {some : b ≡ true → Rule s} {other : Rule s} → ((h : b ≡ true) → Element (some h)) → Element other → Element (g.where_true b some other)
el_where true f e = f refl
el_where false f e = e

el_indices : (x : g.ExprScope) (i : ℕ) (names : List (List ℕ)) → Element (g.indices x i names)
el_indices x i [] = el_read (el_exprs x) (λ es. el_give)
el_indices x i (q ∷ qs) = el_where (not (is_reserved q) && not (is_among q x.locals)) (λ h. el_other (el_read (el_exprs x) (λ es. el_give))) (el_read (el_exprs x) (λ es. el_give))

el_bound : (names : List (List ℕ)) → Element (rule (g.BoundRest names))
el_bound [] = el_need (λ _. el_give)
el_bound (q ∷ qs) = el_need (λ _. el_need (λ _. el_read (el_bound qs) (λ _. el_give)))

element_of : {s : Kind} (a : Symbol s) → Element (rule a)
element_of (g.Program ps) = el_other el_give
element_of (g.Procedure taken) = el_need (λ x. el_need (λ _. el_need (λ _. el_need (λ _. el_read (el_other el_give) (λ ls. el_read (el_statements _ []) (λ ss. el_give))))))
element_of (g.Locals ls) = el_other el_give
element_of g.TypeOf = el_type
element_of (g.MoreKeys ks) = el_other (el_need (λ _. el_give))
element_of (g.Statements ls ss) = el_statements ls ss
element_of (g.Statement ls) = el_taken (λ _. el_read (el_expr _) (λ e. el_need (λ _. el_give)))
element_of (g.Block ls) = el_need (λ _. el_read (el_statements ls []) (λ ss. el_give))
element_of (g.Else ls) = el_other el_give
element_of (g.Expr x) = el_expr x
element_of (g.InParens x) = el_taken (λ _. el_read (el_expr x) (λ a. el_need (λ _. el_give)))
element_of (g.Binders x b) = el_need (λ q. el_need (λ _. el_need (λ u. el_other el_give)))
element_of (g.Indices x i) = el_indices x i x.bound
element_of (g.BoundRest names) = el_bound names
element_of (g.Exprs x) = el_exprs x
element_of (g.MoreExprs x es) = el_more x es

-- a token passes a test in one way

base_at : List ℕ → Option BBase
base_at x =
    if bytes_eq x (codes "int") then Some base.Int else (if bytes_eq x (codes "bool") then Some base.Bool else (if bytes_eq x (codes "Ref") then Some base.Ref else
    (if bytes_eq x (codes "real") then Some base.Real else (if bytes_eq x (codes "Snap") then Some base.Snap else None))))

base_there : (u : BBase) → base_at (word_text (base_word u)) ≡ Some u
unfolding base_at
base_there base.Int = refl
base_there base.Bool = refl
base_there base.Ref = refl
base_there base.Real = refl
base_there base.Snap = refl

pub name_is : {x y : List ℕ} → tok.Name x ≡ tok.Name y → x ≡ y
name_is e = cc

one_base : (u v : BBase) → word_tok (base_word u) ≡ word_tok (base_word v) → u ≡ v
one_base u v e = some_same (sym (base_there u) ∙ ap base_at (name_is e) ∙ base_there v)

unfoldable pub operator_at : Lexeme → Option BOp
operator_at (tok.Sign sign.Iff) = Some op.Iff
operator_at (tok.Sign sign.Implies) = Some op.Implies
operator_at (tok.Sign sign.Or) = Some op.Or
operator_at (tok.Sign sign.And) = Some op.And
operator_at (tok.Sign sign.Equal) = Some op.Eq
operator_at (tok.Sign sign.NotEqual) = Some op.Ne
operator_at (tok.Sign sign.Less) = Some op.Lt
operator_at (tok.Sign sign.AtMost) = Some op.Le
operator_at (tok.Sign sign.Greater) = Some op.Gt
operator_at (tok.Sign sign.AtLeast) = Some op.Ge
operator_at (tok.Sign sign.Plus) = Some op.Add
operator_at (tok.Sign sign.Minus) = Some op.Sub
operator_at (tok.Sign sign.Star) = Some op.Mul
operator_at (tok.Sign sign.Slash) = Some op.Divide
operator_at (tok.Name x) = if bytes_eq x (codes "div") then Some op.IntDiv else (if bytes_eq x (codes "mod") then Some op.IntMod else None)
operator_at _ = None

pub operator_there : (o : BOp) → operator_at (operator_tok o) ≡ Some o
unfolding operator_at
operator_there op.Iff = refl
operator_there op.Implies = refl
operator_there op.Or = refl
operator_there op.And = refl
operator_there op.Eq = refl
operator_there op.Ne = refl
operator_there op.Lt = refl
operator_there op.Le = refl
operator_there op.Gt = refl
operator_there op.Ge = refl
operator_there op.Add = refl
operator_there op.Sub = refl
operator_there op.Mul = refl
operator_there op.Divide = refl
operator_there op.IntDiv = refl
operator_there op.IntMod = refl

one_operator : (o q : BOp) → operator_tok o ≡ operator_tok q → o ≡ q
one_operator o q e = some_same (sym (operator_there o) ∙ ap operator_at e ∙ operator_there q)

one_variable : (names : List (List ℕ)) (k : Lexeme) (i j : ℕ) → IsVariable names k i → IsVariable names k j → i ≡ j
one_variable names k i j p q =
    let same : p.name ≡ q.name = name_is (sym p.is ∙ q.is) in
    some_same (sym p.there ∙ ap (λ x. number_of x names) same ∙ q.there)

one_value : {b : Bool} {r : Kind} (c : Test b r) (k : PlacedLexeme) (v w : Value r) → Passes c k v → Passes c k w → v ≡ w
one_value (the_sign o) k v w p q = refl
one_value (the_word x) k v w p q = refl
one_value (the_name x) k v w p q = refl
one_value (a_new_name taken) k v w p q = name_is (sym p.0 ∙ q.0)
one_value (a_variable names some) k v w p q = one_variable names k.tok v w p q
one_value a_number k v w p q = cc
one_value a_real k v w p q = cc
one_value a_label k v w p q = cc
one_value a_base k v w p q = one_base v w (sym p ∙ q)
one_value a_key k v w p q = one_base v w (sym p.0 ∙ q.0)
one_value an_operator k v w p q = one_operator v w (sym p ∙ q)

pub laws : grammar.Laws rules
laws = record {
  one_value = λ b r c k v w p q. one_value c k v w p q;
  example = λ r c. example c;
  element_of = λ s a. element_of a;
}
