-- Each list of tokens spells a program, or goes wrong at one place.
use Rattle.std.proofs.Common.{◌≡◌, ◌∙◌, refl, sym, ap, subst, ℕ, ◌-◌, ◌⊎◌, inl, inr, Bool, true, false, not, ◌&&◌, List, [], ◌∷◌, Some, None, Option, slice_get, codes, arith}
use Rattle.std.specs.Str.{bytes_eq}
use Rattle.std.proofs.lemmas.Slice.Eq.{bytes_eq-Decides}
use Rattle.lemmas.proofs.Options.{some_same}
use Rattle.grammar.specs.Whole as text
use Rattle.grammar.specs.Whole.{IsSpelled}
use Rattle.grammar.proofs.Decided.{Decided, same_number, decided_by}
use Rattle.grammar.proofs.Answered as grammar
use Rattle.grammar.proofs.Answered.{right, wrong, fg, fn, fw, fr, ft}
use Rattle.boogie_tree.specs.Expr as t
use Rattle.boogie_tree.specs.Values.{is_key}
use Rattle.boogie_tree.specs.declared.exprs.BBase.{BBase}
use Rattle.boogie_tree.specs.declared.exprs.BBase.TheVariants as base
use Rattle.boogie_tree.specs.declared.exprs.BOp.{BOp}
use Rattle.boogie_tree.specs.declared.exprs.BOp.TheVariants as op
use Rattle.boogie_grammar.specs.declared.tokens.BSign.{BSign}
use Rattle.boogie_grammar.specs.declared.tokens.BSign.TheVariants as sign
use Rattle.boogie_grammar.specs.declared.tokens.Lexeme.{Lexeme}
use Rattle.boogie_grammar.specs.declared.tokens.Lexeme.TheVariants as tok
use Rattle.boogie_grammar.specs.declared.tokens.PlacedLexeme.{PlacedLexeme}
use Rattle.boogie_grammar.specs.Words.{word_tok, word_text, base_word, operator_tok, is_reserved, is_among}
use Rattle.boogie_grammar.specs.Tests as v
use Rattle.boogie_grammar.specs.Tests.{Kind, Test, Passes, number_of, the_sign, the_word, the_name, a_new_name, a_variable, a_number, a_real, a_label, a_base, a_key, an_operator}
use Rattle.boogie_grammar.specs.Grammar as g
use Rattle.boogie_grammar.specs.Grammar.{Symbol, Rule, give, when, read, rule, boogie, rules}
use Rattle.boogie_grammar.specs.Spells.{IsProgram, GoesWrong}
use Rattle.boogie_grammar.proofs.Elements.{laws, operator_at, operator_there, name_is}
use Rattle.boogie_print.proofs.Codes.{sign_code, empty}
use Rattle.boogie_print.proofs.Complete.{by_where, by_bound, empty_right, complete}

abbrev Tried : {b : Bool} {r : Kind} → Test b r → PlacedLexeme → Type 0
Tried c k = grammar.Tried boogie c k

same_bytes_at : (x y : List ℕ) (b : Bool) → bytes_eq x y ≡ b → Decided (x ≡ y)
same_bytes_at x y true e = inl ((bytes_eq-Decides x y).0 e)
same_bytes_at x y false e = inr (λ h. let t : true ≡ false = sym ((bytes_eq-Decides x y).1 h) ∙ e in cc)

same_bytes : (x y : List ℕ) → Decided (x ≡ y)
same_bytes x y = same_bytes_at x y (bytes_eq x y) refl

-- signs

all_signs : List BSign
all_signs = sign.OpenParen ∷ sign.CloseParen ∷ sign.OpenBrace ∷ sign.CloseBrace ∷ sign.OpenBracket ∷ sign.CloseBracket ∷ sign.Comma ∷ sign.Semicolon ∷ sign.Colon ∷ sign.Bounds ∷ sign.Assign ∷ sign.Iff ∷ sign.Implies ∷ sign.Or ∷ sign.And ∷ sign.Equal ∷ sign.NotEqual ∷ sign.AtMost ∷ sign.AtLeast ∷ sign.Less ∷ sign.Greater ∷ sign.Plus ∷ sign.Minus ∷ sign.Star ∷ sign.Slash ∷ sign.Not ∷ []

sign_there : (o : BSign) → slice_get all_signs (sign_code o - 50) ≡ Some o
unfolding all_signs
sign_there sign.OpenParen = refl
sign_there sign.CloseParen = refl
sign_there sign.OpenBrace = refl
sign_there sign.CloseBrace = refl
sign_there sign.OpenBracket = refl
sign_there sign.CloseBracket = refl
sign_there sign.Comma = refl
sign_there sign.Semicolon = refl
sign_there sign.Colon = refl
sign_there sign.Bounds = refl
sign_there sign.Assign = refl
sign_there sign.Iff = refl
sign_there sign.Implies = refl
sign_there sign.Or = refl
sign_there sign.And = refl
sign_there sign.Equal = refl
sign_there sign.NotEqual = refl
sign_there sign.AtMost = refl
sign_there sign.AtLeast = refl
sign_there sign.Less = refl
sign_there sign.Greater = refl
sign_there sign.Plus = refl
sign_there sign.Minus = refl
sign_there sign.Star = refl
sign_there sign.Slash = refl
sign_there sign.Not = refl

one_sign : (o q : BSign) → sign_code o ≡ sign_code q → o ≡ q
one_sign o q e = some_same (sym (sign_there o) ∙ ap (λ n. slice_get all_signs (n - 50)) e ∙ sign_there q)

sign_is : {o q : BSign} → tok.Sign o ≡ tok.Sign q → o ≡ q
sign_is e = cc

same_sign : (t : Lexeme) (o : BSign) → Decided (t ≡ tok.Sign o)
same_sign (tok.Sign q) o = decided_by (λ e. ap tok.Sign (one_sign q o e)) (λ e. ap sign_code (sign_is e)) (same_number (sign_code q) (sign_code o))
same_sign (tok.Name x) o = inr (λ e. cc)
same_sign (tok.Number n) o = inr (λ e. cc)
same_sign (tok.Real n) o = inr (λ e. cc)
same_sign (tok.Text l) o = inr (λ e. cc)

same_name : (t : Lexeme) (x : List ℕ) → Decided (t ≡ tok.Name x)
same_name (tok.Name y) x = decided_by (λ e. ap tok.Name e) (λ e. name_is e) (same_bytes y x)
same_name (tok.Number n) x = inr (λ e. cc)
same_name (tok.Real n) x = inr (λ e. cc)
same_name (tok.Text l) x = inr (λ e. cc)
same_name (tok.Sign o) x = inr (λ e. cc)

-- types and operators

abbrev Found : {X : Type 0} → (X → Type 0) → Type 0
Found {X} P = ((x : X) × P x) ⊎ ((x : X) → P x → ⊥)

find_base : (P : BBase → Type 0) → ((u : BBase) → Decided (P u)) → Found P
find_base P d = five (d base.Int) (d base.Bool) (d base.Ref) (d base.Real) (d base.Snap) where
  none : (P base.Int → ⊥) → (P base.Bool → ⊥) → (P base.Ref → ⊥) → (P base.Real → ⊥) → (P base.Snap → ⊥) → (u : BBase) → P u → ⊥
  none a b c d e base.Int h = a h
  none a b c d e base.Bool h = b h
  none a b c d e base.Ref h = c h
  none a b c d e base.Real h = d h
  none a b c d e base.Snap h = e h

  five : Decided (P base.Int) → Decided (P base.Bool) → Decided (P base.Ref) → Decided (P base.Real) → Decided (P base.Snap) → Found P
  five (inl h) b c d e = inl (base.Int, h)
  five (inr a) (inl h) c d e = inl (base.Bool, h)
  five (inr a) (inr b) (inl h) d e = inl (base.Ref, h)
  five (inr a) (inr b) (inr c) (inl h) e = inl (base.Real, h)
  five (inr a) (inr b) (inr c) (inr d) (inl h) = inl (base.Snap, h)
  five (inr a) (inr b) (inr c) (inr d) (inr e) = inr (none a b c d e)

no_operator : (t : Lexeme) → operator_at t ≡ None → (o : BOp) → t ≡ operator_tok o → ⊥
no_operator t n o e = let h : None ≡ Some o = sym n ∙ ap operator_at e ∙ operator_there o in cc

sign_operator : (o : BSign) → Found (λ q. tok.Sign o ≡ operator_tok q)
unfolding operator_at
sign_operator sign.OpenParen = inr (no_operator (tok.Sign sign.OpenParen) refl)
sign_operator sign.CloseParen = inr (no_operator (tok.Sign sign.CloseParen) refl)
sign_operator sign.OpenBrace = inr (no_operator (tok.Sign sign.OpenBrace) refl)
sign_operator sign.CloseBrace = inr (no_operator (tok.Sign sign.CloseBrace) refl)
sign_operator sign.OpenBracket = inr (no_operator (tok.Sign sign.OpenBracket) refl)
sign_operator sign.CloseBracket = inr (no_operator (tok.Sign sign.CloseBracket) refl)
sign_operator sign.Comma = inr (no_operator (tok.Sign sign.Comma) refl)
sign_operator sign.Semicolon = inr (no_operator (tok.Sign sign.Semicolon) refl)
sign_operator sign.Colon = inr (no_operator (tok.Sign sign.Colon) refl)
sign_operator sign.Bounds = inr (no_operator (tok.Sign sign.Bounds) refl)
sign_operator sign.Assign = inr (no_operator (tok.Sign sign.Assign) refl)
sign_operator sign.Iff = inl (op.Iff, refl)
sign_operator sign.Implies = inl (op.Implies, refl)
sign_operator sign.Or = inl (op.Or, refl)
sign_operator sign.And = inl (op.And, refl)
sign_operator sign.Equal = inl (op.Eq, refl)
sign_operator sign.NotEqual = inl (op.Ne, refl)
sign_operator sign.AtMost = inl (op.Le, refl)
sign_operator sign.AtLeast = inl (op.Ge, refl)
sign_operator sign.Less = inl (op.Lt, refl)
sign_operator sign.Greater = inl (op.Gt, refl)
sign_operator sign.Plus = inl (op.Add, refl)
sign_operator sign.Minus = inl (op.Sub, refl)
sign_operator sign.Star = inl (op.Mul, refl)
sign_operator sign.Slash = inl (op.Divide, refl)
sign_operator sign.Not = inr (no_operator (tok.Sign sign.Not) refl)

not_operator : (x : List ℕ) → (x ≡ codes "div" → ⊥) → (x ≡ codes "mod" → ⊥) → (q : BOp) → tok.Name x ≡ operator_tok q → ⊥
not_operator x m n op.IntDiv e = m (name_is e)
not_operator x m n op.IntMod e = n (name_is e)
not_operator x m n op.Iff e = cc
not_operator x m n op.Implies e = cc
not_operator x m n op.Or e = cc
not_operator x m n op.And e = cc
not_operator x m n op.Eq e = cc
not_operator x m n op.Ne e = cc
not_operator x m n op.Lt e = cc
not_operator x m n op.Le e = cc
not_operator x m n op.Gt e = cc
not_operator x m n op.Ge e = cc
not_operator x m n op.Add e = cc
not_operator x m n op.Sub e = cc
not_operator x m n op.Mul e = cc
not_operator x m n op.Divide e = cc

name_operator : (x : List ℕ) → Decided (x ≡ codes "div") → Decided (x ≡ codes "mod") → Found (λ q. tok.Name x ≡ operator_tok q)
name_operator x (inl e) d = inl (op.IntDiv, ap tok.Name e)
name_operator x (inr m) (inl e) = inl (op.IntMod, ap tok.Name e)
name_operator x (inr m) (inr n) = inr (not_operator x m n)

find_operator : (t : Lexeme) → Found (λ q. t ≡ operator_tok q)
unfolding operator_at
find_operator (tok.Sign o) = sign_operator o
find_operator (tok.Name x) = name_operator x (same_bytes x (codes "div")) (same_bytes x (codes "mod"))
find_operator (tok.Number n) = inr (no_operator (tok.Number n) refl)
find_operator (tok.Real n) = inr (no_operator (tok.Real n) refl)
find_operator (tok.Text l) = inr (no_operator (tok.Text l) refl)

-- whether a token passes a test

try_found : {r : Kind} {c : Test true r} {k : PlacedLexeme} → Found (λ x. Passes c k x) → Tried c k
try_found (inl h) = right h.0 h.1
try_found (inr n) = wrong n

try_equal : {c : Test true v.nothing} {k : PlacedLexeme} → Decided (Passes c k tt) → Tried c k
try_equal (inl h) = right tt h
try_equal (inr n) = wrong (λ x h. n h)

tok_is : {t u w : Lexeme} → t ≡ u → t ≡ w → u ≡ w
tok_is e f = sym e ∙ f

truth : (b : Bool) → b ≡ true → b ≡ false → ⊥
truth b h e = cc

try_new : (taken : List (List ℕ)) (k : PlacedLexeme) (x : List ℕ) (b c : Bool) → k.tok ≡ tok.Name x → is_reserved x ≡ b → is_among x taken ≡ c → Tried (a_new_name taken) k
try_new taken k x false false e h i = right x (e, h, i)
try_new taken k x true c e h i = wrong (λ y p. let same : x ≡ y = name_is (tok_is e p.0) in truth (is_reserved x) h (subst (λ z. is_reserved z ≡ false) (sym same) p.1))
try_new taken k x false true e h i = wrong (λ y p. let same : x ≡ y = name_is (tok_is e p.0) in truth (is_among x taken) i (subst (λ z. is_among z taken ≡ false) (sym same) p.2))

try_new_name : (taken : List (List ℕ)) (k : PlacedLexeme) (t : Lexeme) → k.tok ≡ t → Tried (a_new_name taken) k
try_new_name taken k (tok.Name x) e = try_new taken k x (is_reserved x) (is_among x taken) e refl refl
try_new_name taken k (tok.Number n) e = wrong (λ y p. let no_name = tok_is e p.0 in cc)
try_new_name taken k (tok.Real n) e = wrong (λ y p. let no_name = tok_is e p.0 in cc)
try_new_name taken k (tok.Text l) e = wrong (λ y p. let no_name = tok_is e p.0 in cc)
try_new_name taken k (tok.Sign o) e = wrong (λ y p. let no_name = tok_is e p.0 in cc)

try_there : (names : List (List ℕ)) (some : v.some_free names ≡ true) (k : PlacedLexeme) (x : List ℕ) (b : Bool) (o : Option ℕ) → k.tok ≡ tok.Name x → is_reserved x ≡ b → number_of x names ≡ o → Tried (a_variable names some) k
try_there names some k x false (Some i) e h n = right i (record { name = x; is = e; free = h; there = n })
try_there names some k x true o e h n = wrong (λ i p. let same : x ≡ p.name = name_is (tok_is e p.is) in truth (is_reserved x) h (subst (λ z. is_reserved z ≡ false) (sym same) p.free))
try_there names some k x false None e h n = wrong (λ i p. let same : x ≡ p.name = name_is (tok_is e p.is) in let gone : None ≡ Some i = sym n ∙ ap (λ z. number_of z names) same ∙ p.there in cc)

try_variable : (names : List (List ℕ)) (some : v.some_free names ≡ true) (k : PlacedLexeme) (t : Lexeme) → k.tok ≡ t → Tried (a_variable names some) k
try_variable names some k (tok.Name x) e = try_there names some k x (is_reserved x) (number_of x names) e refl refl
try_variable names some k (tok.Number n) e = wrong (λ i p. let no_name = tok_is e p.is in cc)
try_variable names some k (tok.Real n) e = wrong (λ i p. let no_name = tok_is e p.is in cc)
try_variable names some k (tok.Text l) e = wrong (λ i p. let no_name = tok_is e p.is in cc)
try_variable names some k (tok.Sign o) e = wrong (λ i p. let no_name = tok_is e p.is in cc)

try_number : (k : PlacedLexeme) (t : Lexeme) → k.tok ≡ t → Tried a_number k
try_number k (tok.Number n) e = right n e
try_number k (tok.Name x) e = wrong (λ y p. let other = tok_is e p in cc)
try_number k (tok.Real n) e = wrong (λ y p. let other = tok_is e p in cc)
try_number k (tok.Text l) e = wrong (λ y p. let other = tok_is e p in cc)
try_number k (tok.Sign o) e = wrong (λ y p. let other = tok_is e p in cc)

try_real : (k : PlacedLexeme) (t : Lexeme) → k.tok ≡ t → Tried a_real k
try_real k (tok.Real n) e = right n e
try_real k (tok.Name x) e = wrong (λ y p. let other = tok_is e p in cc)
try_real k (tok.Number n) e = wrong (λ y p. let other = tok_is e p in cc)
try_real k (tok.Text l) e = wrong (λ y p. let other = tok_is e p in cc)
try_real k (tok.Sign o) e = wrong (λ y p. let other = tok_is e p in cc)

try_label : (k : PlacedLexeme) (t : Lexeme) → k.tok ≡ t → Tried a_label k
try_label k (tok.Text l) e = right l e
try_label k (tok.Name x) e = wrong (λ y p. let other = tok_is e p in cc)
try_label k (tok.Number n) e = wrong (λ y p. let other = tok_is e p in cc)
try_label k (tok.Real n) e = wrong (λ y p. let other = tok_is e p in cc)
try_label k (tok.Sign o) e = wrong (λ y p. let other = tok_is e p in cc)

key_decided : (b : Bool) → Decided (b ≡ true)
key_decided true = inl refl
key_decided false = inr (λ e. cc)

both_decided : {A B : Type 0} → Decided A → Decided B → Decided (A × B)
both_decided (inl a) (inl b) = inl (a, b)
both_decided (inr n) d = inr (λ h. n h.0)
both_decided (inl a) (inr n) = inr (λ h. n h.1)

try_token : {b : Bool} {r : Kind} (c : Test b r) (k : PlacedLexeme) → Tried c k
try_token (the_sign o) k = try_equal (same_sign k.tok o)
try_token (the_word x) k = try_equal (same_name k.tok (word_text x))
try_token (the_name x) k = try_equal (same_name k.tok x)
try_token (a_new_name taken) k = try_new_name taken k k.tok refl
try_token (a_variable names some) k = try_variable names some k k.tok refl
try_token a_number k = try_number k k.tok refl
try_token a_real k = try_real k k.tok refl
try_token a_label k = try_label k k.tok refl
try_token a_base k = try_found (find_base (λ u. k.tok ≡ word_tok (base_word u)) (λ u. same_name k.tok (word_text (base_word u))))
try_token a_key k = try_found (find_base (λ u. (k.tok ≡ word_tok (base_word u)) × (is_key u ≡ true)) (λ u. both_decided (same_name k.tok (word_text (base_word u))) (key_decided (is_key u))))
try_token an_operator k = try_found (find_operator k.tok)

-- before a token is read, a symbol reads symbols of lower rank alone

abbrev rank : {s : Kind} → Symbol s → ℕ
rank (g.Statements ls ss) = 1
rank (g.InParens x) = 1
rank (g.Exprs x) = 1
rank (g.Indices x i) = 2
rank _ = 0

abbrev pub ranks : grammar.Ranks boogie
ranks = record { empty = λ s a. empty a; rank = λ s a. rank a }

abbrev Falls : ℕ → (s : Kind) → Rule s → Type 0
Falls n s a = grammar.Falls ranks n s a

falls_indices : (x : g.ExprScope) (i : ℕ) (qs : List (List ℕ)) → Falls 2 v.expr (g.indices x i qs)
falls_indices x i [] = fr (omega arith) (λ es. fg)
falls_indices x i (q ∷ qs) = by_where (Falls 2 v.expr) (not (is_reserved q) && not (is_among q x.locals))
    (λ _. when (the_name q) (λ _. read (g.BoundRest qs) (λ _. give (t.AtBound i))) (g.at_indices x i)) (g.at_indices x i)
    (λ h. fw (fr (omega arith) (λ es. fg))) (fr (omega arith) (λ es. fg))

falls_rest : (qs : List (List ℕ)) → Falls 0 v.nothing (rule (g.BoundRest qs))
falls_rest [] = fn
falls_rest (q ∷ qs) = fn

falls : {s : Kind} (a : Symbol s) → Falls (rank a) s (rule a)
falls (g.Program ps) = fw fg
falls (g.Procedure taken) = fn
falls (g.Locals ls) = fw fg
falls g.TypeOf = fw fn
falls (g.MoreKeys ks) = fw fn
falls (g.Statements ls ss) = fw (ft (omega arith) refl)
falls (g.Statement ls) = by_where (λ r. Falls 0 v.stmt (g.checks ls r)) (v.some_free ls) (λ some. g.changes ls some) (g.conditional ls) (λ h. fw (fw (fw (fw fn)))) (fw (fw fn))
falls (g.Block ls) = fn
falls (g.Else ls) = fw fg
falls (g.Expr x) = by_where (λ r. Falls 0 v.expr (g.simple x r)) (v.some_free x.locals)
    (λ some. when (a_variable x.locals some) (λ i. g.named x i) (g.in_parens x)) (g.in_parens x)
    (λ some. fw (fw (fw (fw (fw (fw (fw (fw (fw (fw (fw (fw (fw fn))))))))))))) (fw (fw (fw (fw (fw (fw (fw (fw (fw (fw (fw (fw fn))))))))))))
falls (g.InParens x) = by_bound (λ r. Falls 1 v.expr (g.prefixed x r)) x.bound _ _ (fw (fw (fw (fw (ft (omega arith) refl))))) (fw (fw (fw (ft (omega arith) refl))))
falls (g.Binders x b) = fn
falls (g.Indices x i) = falls_indices x i x.bound
falls (g.BoundRest qs) = falls_rest qs
falls (g.Exprs x) = ft (omega arith) refl
falls (g.MoreExprs x es) = fw fn

pub has_answers : grammar.HasAnswers rules ranks
has_answers = record {
  try_token = λ b r c k. try_token c k;
  empty_right = λ s a x d. empty_right a x d;
  falls = λ s a. falls a;
}

answered : (ts : List PlacedLexeme) → IsSpelled rules (rule (g.Program [])) ts ⊎ text.GoesWrong rules (rule (g.Program [])) ts
answered ts = grammar.some_answer rules laws ranks has_answers
    (g.Program []) (λ us ps d. complete (g.Program []) d) ts

wrong_there : {ts : List PlacedLexeme} → text.GoesWrong rules (rule (g.Program [])) ts → GoesWrong ts
wrong_there x = record {
  none = λ p. x.none (p.0.procs, p.1);
  at = x.at;
  place = record {
    within = x.place.within;
    before = let b = x.place.before in (b.0, (record { procs = b.1.0 }, b.1.1));
    after = λ lt b. x.place.after lt (b.0, (b.1.0.procs, b.1.1));
  };
}

by_answer : {ts : List PlacedLexeme} → IsSpelled rules (rule (g.Program [])) ts ⊎ text.GoesWrong rules (rule (g.Program [])) ts → IsProgram ts ⊎ GoesWrong ts
by_answer (inl h) = inl (record { procs = h.0 }, h.1)
by_answer (inr x) = inr (wrong_there x)

pub some_answer : (ts : List PlacedLexeme) → IsProgram ts ⊎ GoesWrong ts
some_answer ts = by_answer (answered ts)
