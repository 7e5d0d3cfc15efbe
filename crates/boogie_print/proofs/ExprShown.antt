-- What is written for an expression spells it.
use Rattle.std.proofs.Common.{◌≡◌, ◌∙◌, refl, sym, ap, subst, arith, ℕ, ℤ, pos, zero, suc, ◌+◌, ◌^◌, ◌<◌, ◌≤◌, Bool as Truth, true, false, not, ◌&&◌, List, [], ◌∷◌, ◌++◌, length, length-append, codes, append_assoc, append-nil}
use Rattle.std.specs.Prelude.{All}
use Rattle.std.specs.Char.{is_ascii_digit}
use Rattle.std.specs.List.{prefix_len}
use Rattle.std.proofs.lemmas.Bool.{and_from, or_from}
use Rattle.vb_base.specs.Names.{is_name, is_name_byte}
use Rattle.grammar.specs.Spells.{Derives, given, needed, taken, passed, called}
use Rattle.boogie_tree.specs.Expr as t
use Rattle.boogie_tree.specs.Values.{is_key, AreKeys}
use Rattle.boogie_tree.specs.declared.exprs.BBase.{BBase}
use Rattle.boogie_tree.specs.declared.exprs.BBase.TheVariants as base
use Rattle.boogie_tree.specs.declared.exprs.BOp.{BOp}
use Rattle.boogie_grammar.specs.declared.tokens.BSign.{BSign}
use Rattle.boogie_grammar.specs.declared.tokens.BSign.TheVariants as sign
use Rattle.boogie_grammar.specs.declared.tokens.Lexeme.TheVariants as tok
use Rattle.boogie_grammar.specs.declared.tokens.PlacedLexeme.{PlacedLexeme}
use Rattle.boogie_grammar.specs.declared.tokens.BoogieWord.{BoogieWord}
use Rattle.boogie_grammar.specs.declared.tokens.BoogieWord.TheVariants as w
use Rattle.boogie_grammar.specs.Words.{word_tok, base_word, operator_tok, is_among, is_reserved}
use Rattle.boogie_tree.specs.Literals.{max_literal, IsLiteral}
use Rattle.boogie_grammar.specs.Pieces.{is_point_zero}
use Rattle.boogie_grammar.specs.Tests as v
use Rattle.boogie_grammar.specs.Tests.{Kind, Value, Binding, the_sign, the_word, the_name, a_variable, a_key, an_operator}
use Rattle.boogie_grammar.specs.Grammar as g
use Rattle.boogie_grammar.specs.Grammar.{Symbol, Rule, ExprScope, give, need, when, read, rule, rules}
use Rattle.boogie_grammar.specs.Cut.{IsRow}
use Rattle.boogie_grammar.specs.Printed.{Naming, name_at, base_text, bound_name, free_number, free_name, bound_names, under, names_text, binders_text, expr_text, exprs_text}
use Rattle.boogie_grammar.proofs.WrittenRows.{at_start, Ends, name_row, free_row, blank_row, open_row, close_row, bracket_row, end_row, comma_row, minus_row, not_row, colon_row, bounds_row, operator_row, number_row, real_row}
use Rattle.boogie_grammar.proofs.NamingLaws.{either}
use Rattle.boogie_tree.specs.Fits.{FitsExpr, FitExprs}
use Rattle.boogie_print.specs.Short.{ShortExpr, ShortExprs}
use Rattle.boogie_print.proofs.Complete.{by_where, by_bound}
use Rattle.boogie_print.proofs.FreshLaws.{free_form, free_parts, bound_is_free}
use Rattle.boogie_print.proofs.VarLaws.{IsVar, some_is_free, head_of, tail_of}

-- a text is cut into tokens that are derived from a rule, in front of anything that ends it
pub record Shown (bytes : List ℕ) {s : Kind} (a : Rule s) (x : Value s) : Type 0 where
  pub tokens : List PlacedLexeme
  pub spelled : Derives rules s a tokens x
  pub row : (rest : List ℕ) (ts : List PlacedLexeme) → Ends rest → IsRow rest ts → IsRow (bytes ++ rest) (tokens ++ ts)

-- derivations whose tokens stand at some place

pub sign_first : {s : Kind} {o : BSign} {go : Value v.nothing → Rule s} {us : List PlacedLexeme} {x : Value s} → Derives rules s (go tt) us x →
    Derives rules s (need (the_sign o) go) (at_start (tok.Sign o) ∷ us) x
sign_first {o = o} d = needed (record { token = at_start (tok.Sign o); is = refl; passes = refl }) d

pub sign_taken : {s : Kind} {o : BSign} {go : Value v.nothing → Rule s} {other : Rule s} {us : List PlacedLexeme} {x : Value s} → Derives rules s (go tt) us x →
    Derives rules s (when (the_sign o) go other) (at_start (tok.Sign o) ∷ us) x
sign_taken {o = o} d = taken (record { token = at_start (tok.Sign o); is = refl; passes = refl }) d

pub word_first : {s : Kind} {a : BoogieWord} {go : Value v.nothing → Rule s} {us : List PlacedLexeme} {x : Value s} → Derives rules s (go tt) us x →
    Derives rules s (need (the_word a) go) (at_start (word_tok a) ∷ us) x
word_first {a = a} d = needed (record { token = at_start (word_tok a); is = refl; passes = refl }) d

pub word_taken : {s : Kind} {a : BoogieWord} {go : Value v.nothing → Rule s} {other : Rule s} {us : List PlacedLexeme} {x : Value s} → Derives rules s (go tt) us x →
    Derives rules s (when (the_word a) go other) (at_start (word_tok a) ∷ us) x
word_taken {a = a} d = taken (record { token = at_start (word_tok a); is = refl; passes = refl }) d

pub tail_derives : {s : Kind} {a : Symbol s} {ts : List PlacedLexeme} {x : Value s} → Derives rules s (rule a) ts x → Derives rules s (read a give) ts x
tail_derives {s = s} {a = a} {ts = ts} {x = x} d = subst (λ l. Derives rules s (read a give) l x) (append-nil ts) (called {a = a} {go = give} d given)

pub simple_passed : (y : ExprScope) {others : Rule v.expr} {ts : List PlacedLexeme} {e : t.BExpr} → Derives rules v.expr others ts e → Derives rules v.expr (g.simple y others) ts e
simple_passed y d = passed (passed (passed (passed (passed (passed (passed (passed (passed (passed (passed (passed d)))))))))))

parens : (y : ExprScope) {ts : List PlacedLexeme} {e : t.BExpr} → Derives rules v.expr (rule (g.InParens y)) ts e → Derives rules v.expr (rule (g.Expr y)) (at_start (tok.Sign sign.OpenParen) ∷ ts) e
parens y {ts = ts} {e = e} d =
    let inner : Derives rules v.expr (g.in_parens y) (at_start (tok.Sign sign.OpenParen) ∷ ts) e = sign_first (tail_derives {a = g.InParens y} d) in
    simple_passed y (by_where (λ r. Derives rules v.expr r (at_start (tok.Sign sign.OpenParen) ∷ ts) e) (v.some_free y.locals)
    (λ some. when (a_variable y.locals some) (λ i. g.named y i) (g.in_parens y)) (g.in_parens y) (λ h. passed inner) inner)

-- a rule that is taken where the test is true
pub where_yes : {s : Kind} (P : Rule s → Type 0) (b : Truth) (some : b ≡ true → Rule s) (other : Rule s) → b ≡ true → ((h : b ≡ true) → P (some h)) → P (g.where_true b some other)
where_yes P true some other e f = f refl
where_yes P false some other e f = absurd (cc)

variable : (y : ExprScope) (i : ℕ) {ts : List PlacedLexeme} {e : t.BExpr} → IsVar y.locals i → Derives rules v.expr (g.named y i) ts e →
    Derives rules v.expr (rule (g.Expr y)) (at_start (tok.Name (name_at y.locals i)) ∷ ts) e
variable y i {ts = ts} {e = e} h d =
    simple_passed y (where_yes (λ r. Derives rules v.expr r (at_start (tok.Name (name_at y.locals i)) ∷ ts) e) (v.some_free y.locals)
    (λ some. when (a_variable y.locals some) (λ j. g.named y j) (g.in_parens y)) (g.in_parens y) (some_is_free h)
    (λ some. taken (record { token = at_start (tok.Name (name_at y.locals i)); is = refl; passes = record { name = name_at y.locals i; is = refl; free = h.free; there = h.there } }) d))

pub ends : {b : ℕ} {rest : List ℕ} → prefix_len is_name_byte (b ∷ rest) ≡ 0 → prefix_len is_ascii_digit (b ∷ rest) ≡ 0 → is_point_zero (b ∷ rest) ≡ false → Ends (b ∷ rest)
ends h k l = record { name_ends = h; number_ends = k; point_ends = l }

binary_in : (y : ExprScope) {ts : List PlacedLexeme} {e : t.BExpr} → Derives rules v.expr (g.binary y) ts e → Derives rules v.expr (rule (g.InParens y)) ts e
binary_in y {ts = ts} {e = e} d =
    passed (passed (passed (by_bound (λ r. Derives rules v.expr r ts e) y.bound (when (the_word w.Forall) (λ _. read (g.Binders y g.no_binding) (λ b. g.quantified y b)) (g.binary y)) (g.binary y) (passed d) d)))

-- what is in scope

pub record IsNew (locals : List (List ℕ)) (q : List ℕ) : Type 0 where
  pub form : is_name q ≡ true
  pub free : is_reserved q ≡ false
  pub new : is_among q locals ≡ false

abbrev pub scope_of : Naming → ExprScope
scope_of x = record { locals = x.locals; others = []; bound = x.bound }

-- n locals that can be named, and what a bound variable is not to be named
pub record Ready (x : Naming) (n : ℕ) : Type 0 where
  pub named : (i : ℕ) → i < n → IsVar x.locals i
  pub avoids : (m : ℕ) → is_among (bound_name m) x.taken ≡ false → is_among (bound_name m) x.locals ≡ false
  pub short : length x.taken < 2 ^ 63

-- inside a `forall` or not
abbrev pub Inside : Truth → Naming → Type 0
Inside false x = x.bound ≡ []
Inside true x = (q : List ℕ) × (qs : List (List ℕ)) × (x.bound ≡ q ∷ qs) × All (IsNew x.locals) (q ∷ qs)

abbrev ShownExpr : Naming → t.BExpr → Type 0
ShownExpr x e = Shown (expr_text x e) (rule (g.Expr (scope_of x))) e

-- forms without parts

var_shown : (x : Naming) (i : ℕ) → IsVar x.locals i → ShownExpr x (t.Var i)
var_shown x i h = record {
  tokens = at_start (tok.Name (name_at x.locals i)) ∷ [];
  spelled = variable (scope_of x) i h (passed given);
  row = λ rest ts e k. free_row (name_at x.locals i) rest h.form e.name_ends k;
}

int_shown : (x : Naming) (m : ℕ) → m ≤ max_literal → ShownExpr x (t.Int (pos m))
int_shown x m le = record {
  tokens = at_start (tok.Number (pos m)) ∷ [];
  spelled = taken (record { token = at_start (tok.Number (pos m)); is = refl; passes = refl }) given;
  row = λ rest ts e h. number_row m rest le e h;
}

real_shown : (x : Naming) (m : ℕ) → m ≤ max_literal → ShownExpr x (t.Real (pos m))
real_shown x m le = record {
  tokens = at_start (tok.Real (pos m)) ∷ [];
  spelled = passed (taken (record { token = at_start (tok.Real (pos m)); is = refl; passes = refl }) given);
  row = λ rest ts e h. simp append_assoc (real_row m rest le h);
}

bool_shown : (x : Naming) (b : Truth) → ShownExpr x (t.Bool b)
bool_shown x true = record {
  tokens = at_start (word_tok w.True) ∷ [];
  spelled = passed (passed (word_taken given));
  row = λ rest ts e h. name_row 116 (codes "rue") rest refl e.name_ends h;
}
bool_shown x false = record {
  tokens = at_start (word_tok w.False) ∷ [];
  spelled = passed (passed (passed (word_taken given)));
  row = λ rest ts e h. name_row 102 (codes "alse") rest refl e.name_ends h;
}

null_shown : (x : Naming) → ShownExpr x t.Null
null_shown x = record {
  tokens = at_start (word_tok w.Null) ∷ [];
  spelled = passed (passed (passed (passed (word_taken given))));
  row = λ rest ts e h. name_row 110 (codes "ull") rest refl e.name_ends h;
}

unit_shown : (x : Naming) → ShownExpr x t.Unit
unit_shown x = record {
  tokens = at_start (word_tok w.SUnit) ∷ [];
  spelled = passed (passed (passed (passed (passed (word_taken given)))));
  row = λ rest ts e h. name_row 115 (codes "Unit") rest refl e.name_ends h;
}

-- forms with parts

neg_shown : (x : Naming) (a : t.BExpr) → ShownExpr x a → ShownExpr x (t.Neg a)
neg_shown x a h = record {
  tokens = at_start (tok.Sign sign.OpenParen) ∷ at_start (tok.Sign sign.Minus) ∷ (h.tokens ++ at_start (tok.Sign sign.CloseParen) ∷ []);
  spelled = parens (scope_of x) (sign_taken (called {a = g.Expr (scope_of x)} h.spelled (sign_first given)));
  row = λ rest ts e k. simp append_assoc (open_row (minus_row (blank_row (h.row _ _ (ends refl refl refl) (close_row k)))));
}

not_shown : (x : Naming) (a : t.BExpr) → ShownExpr x a → ShownExpr x (t.Not a)
not_shown x a h = record {
  tokens = at_start (tok.Sign sign.OpenParen) ∷ at_start (tok.Sign sign.Not) ∷ (h.tokens ++ at_start (tok.Sign sign.CloseParen) ∷ []);
  spelled = parens (scope_of x) (passed (sign_taken (called {a = g.Expr (scope_of x)} h.spelled (sign_first given))));
  row = λ rest ts e k. simp append_assoc (open_row (not_row (blank_row (h.row _ _ (ends refl refl refl) (close_row k)))));
}

bin_shown : (x : Naming) (o : BOp) (a b : t.BExpr) → ShownExpr x a → ShownExpr x b → ShownExpr x (t.Bin o a b)
bin_shown x o a b h i = record {
  tokens = at_start (tok.Sign sign.OpenParen) ∷ (h.tokens ++ at_start (operator_tok o) ∷ (i.tokens ++ at_start (tok.Sign sign.CloseParen) ∷ []));
  spelled = parens (scope_of x) (binary_in (scope_of x) (called {a = g.Expr (scope_of x)} h.spelled
      (needed {c = an_operator} {v = o} (record { token = at_start (operator_tok o); is = refl; passes = refl }) (called {a = g.Expr (scope_of x)} i.spelled (sign_first given)))));
  row = λ rest ts e k. simp append_assoc (open_row (h.row _ _ (ends refl refl refl) (blank_row (operator_row o (blank_row (i.row _ _ (ends refl refl refl) (close_row k)))))));
}

if_shown : (x : Naming) (a b c : t.BExpr) → ShownExpr x a → ShownExpr x b → ShownExpr x c → ShownExpr x (t.If a b c)
if_shown x a b c h i j = record {
  tokens = at_start (tok.Sign sign.OpenParen) ∷ at_start (word_tok w.If) ∷ (h.tokens ++ at_start (word_tok w.Then) ∷ (i.tokens ++ at_start (word_tok w.Else) ∷ (j.tokens ++ at_start (tok.Sign sign.CloseParen) ∷ [])));
  spelled = parens (scope_of x) (passed (passed (word_taken (called {a = g.Expr (scope_of x)} h.spelled (word_first (called {a = g.Expr (scope_of x)} i.spelled
      (word_first (called {a = g.Expr (scope_of x)} j.spelled (sign_first given)))))))));
  row = λ rest ts e k. simp append_assoc (open_row (name_row 105 (codes "f") _ refl refl (blank_row (h.row _ _ (ends refl refl refl)
      (blank_row (name_row 116 (codes "hen") _ refl refl (blank_row (i.row _ _ (ends refl refl refl)
      (blank_row (name_row 101 (codes "lse") _ refl refl (blank_row (j.row _ _ (ends refl refl refl) (close_row k)))))))))))));
}

to_real_shown : (x : Naming) (a : t.BExpr) → ShownExpr x a → ShownExpr x (t.ToReal a)
to_real_shown x a h = record {
  tokens = at_start (word_tok w.Real) ∷ at_start (tok.Sign sign.OpenParen) ∷ (h.tokens ++ at_start (tok.Sign sign.CloseParen) ∷ []);
  spelled = passed (passed (passed (passed (passed (passed (word_taken (sign_first (called {a = g.Expr (scope_of x)} h.spelled (sign_first given)))))))));
  row = λ rest ts e k. simp append_assoc (name_row 114 (codes "eal") _ refl refl (open_row (h.row _ _ (ends refl refl refl) (close_row k))));
}

s_int_shown : (x : Naming) (a : t.BExpr) → ShownExpr x a → ShownExpr x (t.SInt a)
s_int_shown x a h = record {
  tokens = at_start (word_tok w.SInt) ∷ at_start (tok.Sign sign.OpenParen) ∷ (h.tokens ++ at_start (tok.Sign sign.CloseParen) ∷ []);
  spelled = passed (passed (passed (passed (passed (passed (passed (word_taken (sign_first (called {a = g.Expr (scope_of x)} h.spelled (sign_first given))))))))));
  row = λ rest ts e k. simp append_assoc (name_row 115 (codes "Int") _ refl refl (open_row (h.row _ _ (ends refl refl refl) (close_row k))));
}

s_bool_shown : (x : Naming) (a : t.BExpr) → ShownExpr x a → ShownExpr x (t.SBool a)
s_bool_shown x a h = record {
  tokens = at_start (word_tok w.SBool) ∷ at_start (tok.Sign sign.OpenParen) ∷ (h.tokens ++ at_start (tok.Sign sign.CloseParen) ∷ []);
  spelled = passed (passed (passed (passed (passed (passed (passed (passed (word_taken (sign_first (called {a = g.Expr (scope_of x)} h.spelled (sign_first given)))))))))));
  row = λ rest ts e k. simp append_assoc (name_row 115 (codes "Bool") _ refl refl (open_row (h.row _ _ (ends refl refl refl) (close_row k))));
}

s_ref_shown : (x : Naming) (a : t.BExpr) → ShownExpr x a → ShownExpr x (t.SRef a)
s_ref_shown x a h = record {
  tokens = at_start (word_tok w.SRef) ∷ at_start (tok.Sign sign.OpenParen) ∷ (h.tokens ++ at_start (tok.Sign sign.CloseParen) ∷ []);
  spelled = passed (passed (passed (passed (passed (passed (passed (passed (passed (word_taken (sign_first (called {a = g.Expr (scope_of x)} h.spelled (sign_first given))))))))))));
  row = λ rest ts e k. simp append_assoc (name_row 115 (codes "Ref") _ refl refl (open_row (h.row _ _ (ends refl refl refl) (close_row k))));
}

s_perm_shown : (x : Naming) (a : t.BExpr) → ShownExpr x a → ShownExpr x (t.SPerm a)
s_perm_shown x a h = record {
  tokens = at_start (word_tok w.SPerm) ∷ at_start (tok.Sign sign.OpenParen) ∷ (h.tokens ++ at_start (tok.Sign sign.CloseParen) ∷ []);
  spelled = passed (passed (passed (passed (passed (passed (passed (passed (passed (passed (word_taken (sign_first (called {a = g.Expr (scope_of x)} h.spelled (sign_first given)))))))))))));
  row = λ rest ts e k. simp append_assoc (name_row 115 (codes "Perm") _ refl refl (open_row (h.row _ _ (ends refl refl refl) (close_row k))));
}

pair_shown : (x : Naming) (a b : t.BExpr) → ShownExpr x a → ShownExpr x b → ShownExpr x (t.Pair a b)
pair_shown x a b h i = record {
  tokens = at_start (word_tok w.SPair) ∷ at_start (tok.Sign sign.OpenParen) ∷ (h.tokens ++ at_start (tok.Sign sign.Comma) ∷ (i.tokens ++ at_start (tok.Sign sign.CloseParen) ∷ []));
  spelled = passed (passed (passed (passed (passed (passed (passed (passed (passed (passed (passed (word_taken (sign_first (called {a = g.Expr (scope_of x)} h.spelled (sign_first (called {a = g.Expr (scope_of x)} i.spelled (sign_first given))))))))))))))));
  row = λ rest ts e k. simp append_assoc (name_row 115 (codes "Pair") _ refl refl (open_row (h.row _ _ (ends refl refl refl) (comma_row (blank_row (i.row _ _ (ends refl refl refl) (close_row k)))))));
}

-- index lists

abbrev pub list_of : t.BExprs → List t.BExpr
list_of t.none = []
list_of (t.more a es) = a ∷ list_of es

pub list_exprs : (es : t.BExprs) → t.exprs (list_of es) ≡ es
list_exprs t.none = refl
list_exprs (t.more a es) = ap (t.more a) (list_exprs es)

-- what is written up to a `]`, in front of the `]`
pub record Listed (bytes : List ℕ) {s : Kind} (a : Rule s) (x : Value s) : Type 0 where
  pub tokens : List PlacedLexeme
  pub spelled : Derives rules s a tokens x
  pub row : (rest : List ℕ) (ts : List PlacedLexeme) → IsRow rest ts → IsRow (bytes ++ (93 ∷ rest)) (tokens ++ ts)

pub value_at : {s : Kind} {a : Rule s} {ts : List PlacedLexeme} {x y : Value s} → x ≡ y → Derives rules s a ts x → Derives rules s a ts y
value_at {s = s} {a = a} {ts = ts} e d = subst (λ z. Derives rules s a ts z) e d

no_more : (x : Naming) (all : List t.BExpr) → Listed (exprs_text x (codes ", ") t.none) (rule (g.MoreExprs (scope_of x) all)) (all ++ [])
no_more x all = record {
  tokens = at_start (tok.Sign sign.CloseBracket) ∷ [];
  spelled = value_at (sym (append-nil all)) (passed (sign_first given));
  row = λ rest ts h. end_row h;
}

more_ends : (x : Naming) (es : t.BExprs) (rest : List ℕ) → Ends (exprs_text x (codes ", ") es ++ (93 ∷ rest))
more_ends x t.none rest = ends refl refl refl
more_ends x (t.more a es) rest = ends refl refl refl

one_more : (x : Naming) (a : t.BExpr) (es : t.BExprs) (all : List t.BExpr) → ShownExpr x a →
    Listed (exprs_text x (codes ", ") es) (rule (g.MoreExprs (scope_of x) (all ++ (a ∷ [])))) ((all ++ (a ∷ [])) ++ list_of es) →
    Listed (exprs_text x (codes ", ") (t.more a es)) (rule (g.MoreExprs (scope_of x) all)) (all ++ list_of (t.more a es))
one_more x a es all h i = record {
  tokens = at_start (tok.Sign sign.Comma) ∷ (h.tokens ++ i.tokens);
  spelled = value_at (append_assoc all (a ∷ []) (list_of es)) (sign_taken (called {a = g.Expr (scope_of x)} h.spelled (tail_derives {a = g.MoreExprs (scope_of x) (all ++ (a ∷ []))} i.spelled)));
  row = λ rest ts k. simp append_assoc (comma_row (blank_row (h.row _ _ (more_ends x es rest) (i.row rest ts k))));
}

-- the indices of a map
first_shown : (x : Naming) (a : t.BExpr) (es : t.BExprs) → ShownExpr x a → Listed (exprs_text x (codes ", ") es) (rule (g.MoreExprs (scope_of x) (a ∷ []))) (a ∷ list_of es) →
    Listed (exprs_text x [] (t.more a es)) (rule (g.Exprs (scope_of x))) (a ∷ list_of es)
first_shown x a es h i = record {
  tokens = h.tokens ++ i.tokens;
  spelled = called {a = g.Expr (scope_of x)} h.spelled (tail_derives {a = g.MoreExprs (scope_of x) (a ∷ [])} i.spelled);
  row = λ rest ts k. simp append_assoc (h.row _ _ (more_ends x es rest) (i.row rest ts k));
}

at_derives : (y : ExprScope) (i : ℕ) (qs : List (List ℕ)) {ts : List PlacedLexeme} {e : t.BExpr} → Derives rules v.expr (g.at_indices y i) ts e → Derives rules v.expr (g.indices y i qs) ts e
at_derives y i [] d = d
at_derives y i (q ∷ qs) {ts = ts} {e = e} d =
    by_where (λ r. Derives rules v.expr r ts e) (not (is_reserved q) && not (is_among q y.locals))
    (λ _. when (the_name q) (λ _. read (g.BoundRest qs) (λ _. give (t.AtBound i))) (g.at_indices y i)) (g.at_indices y i) (λ h. passed d) d

named_at : (x : Naming) (i : ℕ) {ts : List PlacedLexeme} {e : t.BExpr} → Derives rules v.expr (rule (g.Indices (scope_of x) i)) ts e →
    Derives rules v.expr (g.named (scope_of x) i) (at_start (tok.Sign sign.OpenBracket) ∷ ts) e
named_at x i d = sign_taken (tail_derives {a = g.Indices (scope_of x) i} d)

at_shown : (x : Naming) (i : ℕ) (es : t.BExprs) → IsVar x.locals i → Listed (exprs_text x [] es) (rule (g.Exprs (scope_of x))) (list_of es) → ShownExpr x (t.At i es)
at_shown x i es h k = record {
  tokens = at_start (tok.Name (name_at x.locals i)) ∷ at_start (tok.Sign sign.OpenBracket) ∷ (k.tokens ++ []);
  spelled = variable (scope_of x) i h (named_at x i (at_derives (scope_of x) i x.bound
      (value_at (ap (t.At i) (list_exprs es)) (called {a = g.Exprs (scope_of x)} {go = λ l. give (t.At i (t.exprs l))} k.spelled given))));
  row = λ rest ts e r. simp (append_assoc, append-nil) (free_row (name_at x.locals i) _ h.form refl (bracket_row (k.row rest ts r)));
}

-- the bound names as indices

rest_shown : (locals qs : List (List ℕ)) → All (IsNew locals) qs → Listed (names_text (codes ", ") qs) (rule (g.BoundRest qs)) tt
rest_shown locals [] h = record {
  tokens = at_start (tok.Sign sign.CloseBracket) ∷ [];
  spelled = sign_first given;
  row = λ rest ts k. end_row k;
}
rest_shown locals (q ∷ qs) h =
    let more = rest_shown locals qs (tail_of (IsNew locals) q qs h) in
    let new = head_of (IsNew locals) q qs h in
    record {
      tokens = at_start (tok.Sign sign.Comma) ∷ at_start (tok.Name q) ∷ more.tokens;
      spelled = sign_first (needed (record { token = at_start (tok.Name q); is = refl; passes = refl }) (tail_derives {a = g.BoundRest qs} more.spelled));
      row = λ rest ts k. simp append_assoc (comma_row (blank_row (free_row q _ new.form (names_end qs rest) (more.row rest ts k))));
    } where
      names_end : (qs : List (List ℕ)) (rest : List ℕ) → prefix_len is_name_byte (names_text (codes ", ") qs ++ (93 ∷ rest)) ≡ 0
      names_end [] rest = refl
      names_end (q ∷ qs) rest = refl

bound_derives : (y : ExprScope) (i : ℕ) (q : List ℕ) (qs : List (List ℕ)) {ts : List PlacedLexeme} → IsNew y.locals q → Derives rules v.nothing (rule (g.BoundRest qs)) ts tt →
    Derives rules v.expr (g.indices y i (q ∷ qs)) (at_start (tok.Name q) ∷ (ts ++ [])) (t.AtBound i)
bound_derives y i q qs {ts = ts} new d =
    where_yes (λ r. Derives rules v.expr r (at_start (tok.Name q) ∷ (ts ++ [])) (t.AtBound i)) (not (is_reserved q) && not (is_among q y.locals))
    (λ _. when (the_name q) (λ _. read (g.BoundRest qs) (λ _. give (t.AtBound i))) (g.at_indices y i)) (g.at_indices y i)
    (and_from _ _ (ap not new.free) (ap not new.new))
    (λ h. taken (record { token = at_start (tok.Name q); is = refl; passes = refl }) (called {a = g.BoundRest qs} {go = λ _. give (t.AtBound i)} d given))

names_end : (qs : List (List ℕ)) (rest : List ℕ) → prefix_len is_name_byte (names_text (codes ", ") qs ++ (93 ∷ rest)) ≡ 0
names_end [] rest = refl
names_end (q ∷ qs) rest = refl

at_bound_shown : (x : Naming) (i : ℕ) (q : List ℕ) (qs : List (List ℕ)) → x.bound ≡ q ∷ qs → All (IsNew x.locals) (q ∷ qs) → IsVar x.locals i → ShownExpr x (t.AtBound i)
at_bound_shown x i q qs same new h =
    let more = rest_shown x.locals qs (tail_of (IsNew x.locals) q qs new) in
    let first_new = head_of (IsNew x.locals) q qs new in
    let tokens : List PlacedLexeme = at_start (tok.Name (name_at x.locals i)) ∷ at_start (tok.Sign sign.OpenBracket) ∷ at_start (tok.Name q) ∷ (more.tokens ++ []) in
    record {
      tokens = tokens;
      spelled = variable (scope_of x) i h (named_at x i (subst (λ l. Derives rules v.expr (g.indices (scope_of x) i l) (at_start (tok.Name q) ∷ (more.tokens ++ [])) (t.AtBound i)) (sym same)
          (bound_derives (scope_of x) i q qs first_new more.spelled)));
      row = λ rest ts e k. subst (λ l. IsRow ((name_at x.locals i ++ codes "[" ++ names_text [] l ++ codes "]") ++ rest) (tokens ++ ts)) (sym same)
          (simp (append_assoc, append-nil) (free_row (name_at x.locals i) _ h.form refl (bracket_row (free_row q _ first_new.form (names_end qs rest) (more.row rest ts k)))));
    }

-- quantifiers

pub all_cons : {X : Type 0} (P : X → Type 0) (x : X) (xs : List X) → P x → All P xs → All P (x ∷ xs)
all_cons P x xs p h zero d lt = p
all_cons P x xs p h (suc k) d lt = h k d (omega (arith, lt))

pub all_none : {X : Type 0} (P : X → Type 0) → All P []
all_none P k d lt = absurd (omega (arith, lt))

-- the next name of a bound variable is new
record Chosen (locals chosen : List (List ℕ)) (q : List ℕ) : Type 0 where
  new : IsNew locals q
  other : is_among q chosen ≡ false

next_name : (x : Naming) (n : ℕ) → Ready x n → (chosen : List (List ℕ)) → length chosen < 2 ^ 63 → Chosen x.locals chosen (free_name (x.taken ++ chosen))
next_name x n ready chosen short =
    let all = x.taken ++ chosen in
    let m = free_number (length all) 0 all in
    let few : length all < 2 ^ 64 = let l = length-append x.taken chosen in let r = ready.short in omega (arith, l, r, short) in
    let parts = free_parts x.taken chosen (let r = ready.short in omega (arith, r, short)) in
    record {
      new = record { form = free_form all few; free = bound_is_free m; new = ready.avoids m parts.0 };
      other = parts.1;
    }

new_bounds : (x : Naming) (n : ℕ) → Ready x n → (us : List BBase) (chosen : List (List ℕ)) → length chosen + length us < 2 ^ 63 → All (IsNew x.locals) (bound_names x.taken chosen us)
new_bounds x n ready [] chosen short = all_none (IsNew x.locals)
new_bounds x n ready (u ∷ us) chosen short =
    let q = free_name (x.taken ++ chosen) in
    let h = next_name x n ready chosen (omega (arith, short)) in
    let l = length-append chosen (q ∷ []) in
    all_cons (IsNew x.locals) q (bound_names x.taken (chosen ++ (q ∷ [])) us) h.new (new_bounds x n ready us (chosen ++ (q ∷ [])) (omega (arith, l, short)))

-- what is written up to a blank, in front of the blank
record Spaced (bytes : List ℕ) {s : Kind} (a : Rule s) (x : Value s) : Type 0 where
  tokens : List PlacedLexeme
  spelled : Derives rules s a tokens x
  row : (rest : List ℕ) (ts : List PlacedLexeme) → IsRow (32 ∷ rest) ts → IsRow (bytes ++ (32 ∷ rest)) (tokens ++ ts)

-- what follows a bound variable
abbrev after_binder : ExprScope → Binding → Rule v.binding
after_binder y b = when (the_sign sign.Comma) (λ _. read (g.Binders y b) give) (give b)

abbrev with_more : Naming → List BBase → Binding → Binding
with_more x us b = record { names = b.names ++ bound_names x.taken b.names us; types = b.types ++ us }

pub base_row : (u : BBase) (rest : List ℕ) (ts : List PlacedLexeme) → prefix_len is_name_byte rest ≡ 0 → IsRow rest ts → IsRow (base_text u ++ rest) (at_start (word_tok (base_word u)) ∷ ts)
base_row base.Int rest ts e h = name_row 105 (codes "nt") rest refl e h
base_row base.Bool rest ts e h = name_row 98 (codes "ool") rest refl e h
base_row base.Ref rest ts e h = name_row 82 (codes "ef") rest refl e h
base_row base.Real rest ts e h = name_row 114 (codes "eal") rest refl e h
base_row base.Snap rest ts e h = name_row 83 (codes "nap") rest refl e h

binders_end : (names : List (List ℕ)) (us : List BBase) (rest : List ℕ) → prefix_len is_name_byte (binders_text (codes ", ") names us ++ (32 ∷ rest)) ≡ 0
binders_end [] us rest = refl
binders_end (x ∷ xs) [] rest = refl
binders_end (x ∷ xs) (u ∷ us) rest = refl

new_among : (q : List ℕ) (locals chosen : List (List ℕ)) → is_among q locals ≡ false → is_among q chosen ≡ false → is_among q (locals ++ chosen) ≡ false
new_among q locals chosen h k = either q locals chosen ∙ or_from _ _ h k

binder_derives : (x : Naming) (b : Binding) (q : List ℕ) (u : BBase) {ts : List PlacedLexeme} {z : Binding} → Chosen x.locals b.names q → is_key u ≡ true →
    Derives rules v.binding (after_binder (scope_of x) (g.bind b q u)) ts z →
    Derives rules v.binding (rule (g.Binders (scope_of x) b)) (at_start (tok.Name q) ∷ at_start (tok.Sign sign.Colon) ∷ at_start (word_tok (base_word u)) ∷ ts) z
binder_derives x b q u h key d =
    let locals_new = new_among q x.locals [] h.new.new refl in
    needed (record { token = at_start (tok.Name q); is = refl; passes = (refl, h.new.free, new_among q (x.locals ++ []) b.names locals_new h.other) })
    (sign_first (needed {c = a_key} {v = u} (record { token = at_start (word_tok (base_word u)); is = refl; passes = (refl, key) }) d))

binding_is : (a b : Binding) → a.names ≡ b.names → a.types ≡ b.types → a ≡ b
binding_is a b e f = λ i. record { names = e i; types = f i }

more_binders : (x : Naming) (n : ℕ) → Ready x n → (us : List BBase) (b : Binding) → AreKeys us → length b.names + length us < 2 ^ 63 →
    Spaced (binders_text (codes ", ") (bound_names x.taken b.names us) us) (after_binder (scope_of x) b) (with_more x us b)
more_binders x n ready [] b keys short = record {
  tokens = [];
  spelled = value_at (binding_is b (with_more x [] b) (sym (append-nil b.names)) (sym (append-nil b.types))) (passed given);
  row = λ rest ts h. h;
}
more_binders x n ready (u ∷ us) b keys short =
    let q = free_name (x.taken ++ b.names) in
    let next = g.bind b q u in
    let l = length-append b.names (q ∷ []) in
    let chosen = next_name x n ready b.names (omega (arith, short)) in
    let more = more_binders x n ready us next (tail_of (λ w. is_key w ≡ true) u us keys) (omega (arith, l, short)) in
    let same = binding_is (with_more x us next) (with_more x (u ∷ us) b) (append_assoc b.names (q ∷ []) _) (append_assoc b.types (u ∷ []) us) in
    record {
      tokens = at_start (tok.Sign sign.Comma) ∷ at_start (tok.Name q) ∷ at_start (tok.Sign sign.Colon) ∷ at_start (word_tok (base_word u)) ∷ more.tokens;
      spelled = value_at same (sign_taken (tail_derives {a = g.Binders (scope_of x) b} (binder_derives x b q u chosen (head_of (λ w. is_key w ≡ true) u us keys) more.spelled)));
      row = λ rest ts h. simp append_assoc (comma_row (blank_row (free_row q _ chosen.new.form refl (colon_row (blank_row (base_row u _ _ (binders_end _ us rest) (more.row rest ts h)))))));
    }

first_binders : (x : Naming) (n : ℕ) → Ready x n → (u : BBase) (us : List BBase) → AreKeys (u ∷ us) → length (u ∷ us) < 2 ^ 63 →
    Spaced (binders_text [] (bound_names x.taken [] (u ∷ us)) (u ∷ us)) (rule (g.Binders (scope_of x) g.no_binding)) (with_more x (u ∷ us) g.no_binding)
first_binders x n ready u us keys short =
    let q = free_name (x.taken ++ []) in
    let chosen = next_name x n ready [] (omega arith) in
    let more = more_binders x n ready us (g.bind g.no_binding q u) (tail_of (λ w. is_key w ≡ true) u us keys) (omega (arith, short)) in
    record {
      tokens = at_start (tok.Name q) ∷ at_start (tok.Sign sign.Colon) ∷ at_start (word_tok (base_word u)) ∷ more.tokens;
      spelled = binder_derives x g.no_binding q u chosen (head_of (λ w. is_key w ≡ true) u us keys) more.spelled;
      row = λ rest ts h. simp append_assoc (free_row q _ chosen.new.form refl (colon_row (blank_row (base_row u _ _ (binders_end _ us rest) (more.row rest ts h)))));
    }

forall_in : (x : Naming) {ts : List PlacedLexeme} {e : t.BExpr} → x.bound ≡ [] → Derives rules v.expr (read (g.Binders (scope_of x) g.no_binding) (λ b. g.quantified (scope_of x) b)) ts e →
    Derives rules v.expr (rule (g.InParens (scope_of x))) (at_start (word_tok w.Forall) ∷ ts) e
forall_in x {ts = ts} {e = e} none d =
    passed (passed (passed (subst (λ l. Derives rules v.expr (g.unless_bound l (when (the_word w.Forall) (λ _. read (g.Binders (scope_of x) g.no_binding) (λ b. g.quantified (scope_of x) b)) (g.binary (scope_of x))) (g.binary (scope_of x)))
    (at_start (word_tok w.Forall) ∷ ts) e) (sym none) (word_taken d))))

-- whatever binders and body are made of
forall_row : (binders body : List ℕ) (us vs : List PlacedLexeme) → ((rest : List ℕ) (ts : List PlacedLexeme) → IsRow (32 ∷ rest) ts → IsRow (binders ++ (32 ∷ rest)) (us ++ ts)) →
    ((rest : List ℕ) (ts : List PlacedLexeme) → Ends rest → IsRow rest ts → IsRow (body ++ rest) (vs ++ ts)) → (rest : List ℕ) (ts : List PlacedLexeme) → IsRow rest ts →
    IsRow ((codes "(forall " ++ binders ++ codes " :: " ++ body ++ codes ")") ++ rest)
    ((at_start (tok.Sign sign.OpenParen) ∷ at_start (word_tok w.Forall) ∷ (us ++ at_start (tok.Sign sign.Bounds) ∷ (vs ++ at_start (tok.Sign sign.CloseParen) ∷ []))) ++ ts)
forall_row binders body us vs f h rest ts k =
    simp append_assoc (open_row (name_row 102 (codes "orall") _ refl refl (blank_row (f _ _ (blank_row (bounds_row (blank_row (h _ _ (ends refl refl refl) (close_row k)))))))))

forall_shown : (x : Naming) (n : ℕ) → Ready x n → x.bound ≡ [] → (u : BBase) (us : List BBase) (a : t.BExpr) → AreKeys (u ∷ us) → length (u ∷ us) < 2 ^ 63 → ShownExpr (under x (u ∷ us)) a →
    ShownExpr x (t.Forall (u ∷ us) a)
forall_shown x n ready none u us a keys short h =
    let b = first_binders x n ready u us keys short in
    record {
      tokens = at_start (tok.Sign sign.OpenParen) ∷ at_start (word_tok w.Forall) ∷ (b.tokens ++ at_start (tok.Sign sign.Bounds) ∷ (h.tokens ++ at_start (tok.Sign sign.CloseParen) ∷ []));
      spelled = parens (scope_of x) (forall_in x none (called {a = g.Binders (scope_of x) g.no_binding} b.spelled
          (sign_first (called {a = g.Expr (scope_of (under x (u ∷ us)))} h.spelled (sign_first given)))));
      row = λ rest ts e k. forall_row (binders_text [] (bound_names x.taken [] (u ∷ us)) (u ∷ us)) (expr_text (under x (u ∷ us)) a) b.tokens h.tokens b.row h.row rest ts k;
    }

-- all forms

under_ready : (x : Naming) (n : ℕ) (us : List BBase) → Ready x n → Ready (under x us) n
under_ready x n us ready = record { named = ready.named; avoids = ready.avoids; short = ready.short }

under_inside : (x : Naming) (n : ℕ) (u : BBase) (us : List BBase) → Ready x n → length (u ∷ us) < 2 ^ 63 → Inside true (under x (u ∷ us))
under_inside x n u us ready short =
    (free_name (x.taken ++ []), bound_names x.taken ([] ++ (free_name (x.taken ++ []) ∷ [])) us, refl, new_bounds x n ready (u ∷ us) [] (omega (arith, short)))

literal_shown : (x : Naming) (k : ℤ) (make : ℤ → t.BExpr) → ((m : ℕ) → m ≤ max_literal → ShownExpr x (make (pos m))) → IsLiteral k → ShownExpr x (make k)
literal_shown x k make f h = subst (λ z. ShownExpr x (make z)) (sym h.is) (f h.natural h.within)

mutual
  pub expr_shown : (x : Naming) (n : ℕ) (b : Truth) → Ready x n → Inside b x → (e : t.BExpr) → FitsExpr n b e → ShortExpr e → ShownExpr x e
  expr_shown x n b ready inside (t.Var i) h s = var_shown x i (ready.named i h)
  expr_shown x n b ready inside (t.Int k) h s = literal_shown x k (λ z. t.Int z) (int_shown x) h
  expr_shown x n b ready inside (t.Real k) h s = literal_shown x k (λ z. t.Real z) (real_shown x) h
  expr_shown x n b ready inside (t.Bool c) h s = bool_shown x c
  expr_shown x n b ready inside t.Null h s = null_shown x
  expr_shown x n b ready inside t.Unit h s = unit_shown x
  expr_shown x n b ready inside (t.Neg a) h s = neg_shown x a (expr_shown x n b ready inside a h s)
  expr_shown x n b ready inside (t.Not a) h s = not_shown x a (expr_shown x n b ready inside a h s)
  expr_shown x n b ready inside (t.Bin o a c) h s = bin_shown x o a c (expr_shown x n b ready inside a h.0 s.0) (expr_shown x n b ready inside c h.1 s.1)
  expr_shown x n b ready inside (t.If a c d) h s =
      if_shown x a c d (expr_shown x n b ready inside a h.0 s.0) (expr_shown x n b ready inside c h.1 s.1) (expr_shown x n b ready inside d h.2 s.2)
  expr_shown x n true ready inside (t.Forall us a) h s = absurd (let e = h.0 in cc)
  expr_shown x n false ready inside (t.Forall [] a) h s = absurd (h.1 refl)
  expr_shown x n false ready inside (t.Forall (u ∷ us) a) h s =
      forall_shown x n ready inside u us a h.2 s.0 (expr_shown (under x (u ∷ us)) n true (under_ready x n (u ∷ us) ready) (under_inside x n u us ready s.0) a h.3 s.1)
  expr_shown x n b ready inside (t.ToReal a) h s = to_real_shown x a (expr_shown x n b ready inside a h s)
  expr_shown x n b ready inside (t.SInt a) h s = s_int_shown x a (expr_shown x n b ready inside a h s)
  expr_shown x n b ready inside (t.SBool a) h s = s_bool_shown x a (expr_shown x n b ready inside a h s)
  expr_shown x n b ready inside (t.SRef a) h s = s_ref_shown x a (expr_shown x n b ready inside a h s)
  expr_shown x n b ready inside (t.SPerm a) h s = s_perm_shown x a (expr_shown x n b ready inside a h s)
  expr_shown x n b ready inside (t.Pair a c) h s = pair_shown x a c (expr_shown x n b ready inside a h.0 s.0) (expr_shown x n b ready inside c h.1 s.1)
  expr_shown x n b ready inside (t.At i t.none) h s = absurd (h.1 refl)
  expr_shown x n b ready inside (t.At i (t.more a es)) h s =
      at_shown x i (t.more a es) (ready.named i h.0) (first_shown x a es (expr_shown x n b ready inside a h.2.0 s.0) (more_shown x n b ready inside es (a ∷ []) h.2.1 s.1))
  expr_shown x n false ready inside (t.AtBound i) h s = absurd (let e = h.1 in cc)
  expr_shown x n true ready inside (t.AtBound i) h s = at_bound_shown x i inside.0 inside.1 inside.2 inside.3 (ready.named i h.0)

  pub more_shown : (x : Naming) (n : ℕ) (b : Truth) → Ready x n → Inside b x → (es : t.BExprs) (all : List t.BExpr) → FitExprs n b es → ShortExprs es →
      Listed (exprs_text x (codes ", ") es) (rule (g.MoreExprs (scope_of x) all)) (all ++ list_of es)
  more_shown x n b ready inside t.none all h s = no_more x all
  more_shown x n b ready inside (t.more a es) all h s =
      one_more x a es all (expr_shown x n b ready inside a h.0 s.0) (more_shown x n b ready inside es (all ++ (a ∷ [])) h.1 s.1)

pub listed_shown : (x : Naming) (n : ℕ) → Ready x n → x.bound ≡ [] → (es : t.BExprs) → (es ≡ t.none → ⊥) → FitExprs n false es → ShortExprs es → Listed (exprs_text x [] es) (rule (g.Exprs (scope_of x))) (list_of es)
listed_shown x n ready none t.none some h s = absurd (some refl)
listed_shown x n ready none (t.more a es) some h s = first_shown x a es (expr_shown x n false ready none a h.0 s.0) (more_shown x n false ready none es (a ∷ []) h.1 s.1)
