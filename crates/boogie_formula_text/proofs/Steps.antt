-- How an expression was read, step by step: what is next tells which alternative was taken.
use Rattle.std.proofs.Common.{◌≡◌, refl, subst, ℕ, Bool, true, List, ◌∷◌}
use Rattle.grammar.proofs.Laws.{one_start}
use Rattle.grammar.proofs.Reading.{one_reading}
use Rattle.grammar.proofs.Sets.{apart, apart_right}
use Rattle.boogie_tree.specs.Expr as t
use Rattle.boogie_grammar.specs.declared.tokens.BSign.TheVariants as sign
use Rattle.boogie_grammar.specs.declared.tokens.PlacedLexeme.{PlacedLexeme}
use Rattle.boogie_grammar.specs.declared.tokens.BoogieWord.TheVariants as w
use Rattle.boogie_grammar.specs.Grammar as g
use Rattle.boogie_grammar.specs.Grammar.{Symbol, Rule, give, need, when, read, rule, rules}
use Rattle.boogie_grammar.specs.Greedy.{IsNot, Reads, Starts, given, needed, taken, passed, called}
use Rattle.boogie_grammar.specs.Tests as v
use Rattle.boogie_grammar.specs.Tests.{Kind, Value, Test, Passes, IsVariable, the_sign, the_word, a_number, a_real, a_variable, some_free}
use Rattle.boogie_grammar.proofs.Elements.{laws}
use Rattle.boogie_print.proofs.Codes.{codes}
use Rattle.boogie_print.proofs.Complete.{right, by_where}

-- ---- one step of any rule

-- the first token passes
pub next : {b : Bool} {r : Kind} (c : Test b r) {k : PlacedLexeme} {us : List PlacedLexeme} {x : Value r} → Passes c k x → Starts c (k ∷ us) x us
next c {k = k} p = record { token = k; is = refl; passes = p }

pub pass_read : {b : Bool} {r s : Kind} {c : Test b r} {go : Value r → Rule s} {other : Rule s} {ts us : List PlacedLexeme} {x : Value s} →
    Reads s (when c go other) ts x us → IsNot c ts → Reads s other ts x us
pass_read (taken p h) n = absurd (n.none _ _ p)
pass_read (passed m h) n = h

pub take_read : {b : Bool} {r s : Kind} {c : Test b r} {go : Value r → Rule s} {other : Rule s} {ts us vs : List PlacedLexeme} {y : Value r} {x : Value s} →
    Reads s (when c go other) ts x vs → Starts c ts y us → Reads s (go y) us x vs
take_read {s = s} {go = go} {vs = vs} {y = y} {x = x} (taken {us = ws} q h) p =
    let e = one_start laws q p in
    subst (λ l. Reads s (go y) l x vs) e.1 (subst (λ z. Reads s (go z) ws x vs) e.0 h)
take_read (passed n h) p = absurd (n.none _ _ p)

pub need_read : {r s : Kind} {c : Test true r} {go : Value r → Rule s} {ts us vs : List PlacedLexeme} {y : Value r} {x : Value s} →
    Reads s (need c go) ts x vs → Starts c ts y us → Reads s (go y) us x vs
need_read {s = s} {go = go} {vs = vs} {y = y} {x = x} (needed {us = ws} q h) p =
    let e = one_start laws q p in
    subst (λ l. Reads s (go y) l x vs) e.1 (subst (λ z. Reads s (go z) ws x vs) e.0 h)

pub no_need : {r s : Kind} {c : Test true r} {go : Value r → Rule s} {ts us : List PlacedLexeme} {x : Value s} →
    Reads s (need c go) ts x us → IsNot c ts → ⊥
no_need (needed p h) n = n.none _ _ p

-- what a symbol has read, and what goes on behind it
pub record Part {r s : Kind} (a : Symbol r) (go : Value r → Rule s) (ts : List PlacedLexeme) (x : Value s) (vs : List PlacedLexeme) : Type 0 where
  pub value : Value r
  pub rest : List PlacedLexeme
  pub first : Reads r (rule a) ts value rest
  pub second : Reads s (go value) rest x vs

pub part_read : {r s : Kind} {a : Symbol r} {go : Value r → Rule s} {ts vs : List PlacedLexeme} {x : Value s} → Reads s (read a go) ts x vs → Part a go ts x vs
part_read (called h i) = record { value = _; rest = _; first = h; second = i }

pub read_on : {r s : Kind} {a : Symbol r} {go : Value r → Rule s} {ts us vs : List PlacedLexeme} {y : Value r} {x : Value s} →
    Reads s (read a go) ts x vs → Reads r (rule a) ts y us → Reads s (go y) us x vs
read_on {s = s} {go = go} {us = us} {vs = vs} {y = y} {x = x} (called {us = ws} h i) k =
    let e = one_reading rules laws h k in
    subst (λ l. Reads s (go y) l x vs) e.1 (subst (λ z. Reads s (go z) ws x vs) e.0 i)

pub last_read : {s : Kind} {a : Symbol s} {ts us : List PlacedLexeme} {x : Value s} → Reads s (read a give) ts x us → Reads s (rule a) ts x us
last_read (called h given) = h

pub end_read : {s : Kind} {ts us : List PlacedLexeme} {x y : Value s} → Reads s (give y) ts x us → (y ≡ x) × (ts ≡ us)
end_read given = (refl, refl)

-- a token that passes one test does not pass another one, by the numbers of the tokens
pub not_by : {b d : Bool} {r s : Kind} (c : Test b r) (e : Test d s) {ts us : List PlacedLexeme} {x : Value r} → Starts c ts x us → apart (codes c) (codes e) ≡ true → IsNot e ts
not_by {b = b} {d = d} {r = r} {s = s} c e {x = x} p h = record {
  none = λ y vs q.
      let same : q.token ≡ p.token = cc in
      apart_right _ (codes c) (codes e) h (right.passes_codes b r c p.token x p.passes)
      (right.passes_codes d s e p.token y (subst (λ k. Passes e k y) same q.passes));
}

-- ---- expressions

abbrev pub ReadsExpr : List (List ℕ) → List PlacedLexeme → t.BExpr → List PlacedLexeme → Type 0
ReadsExpr names ts e us = Reads v.expr (rule (g.Expr (g.outside names))) ts e us

-- no literal and no word is next
others_read : {b : Bool} {r : Kind} (y : g.ExprScope) (c : Test b r) {others : Rule v.expr} {ts us vs : List PlacedLexeme} {z : Value r} {e : t.BExpr} → Starts c ts z us →
    apart (codes c) (codes a_number) ≡ true → apart (codes c) (codes a_real) ≡ true →
    apart (codes c) (codes (the_word w.True)) ≡ true → apart (codes c) (codes (the_word w.False)) ≡ true →
    apart (codes c) (codes (the_word w.Null)) ≡ true → apart (codes c) (codes (the_word w.SUnit)) ≡ true →
    apart (codes c) (codes (the_word w.Real)) ≡ true → apart (codes c) (codes (the_word w.SInt)) ≡ true →
    apart (codes c) (codes (the_word w.SBool)) ≡ true → apart (codes c) (codes (the_word w.SRef)) ≡ true →
    apart (codes c) (codes (the_word w.SPerm)) ≡ true → apart (codes c) (codes (the_word w.SPair)) ≡ true →
    Reads v.expr (g.simple y others) ts e vs → Reads v.expr others ts e vs
others_read y c p h1 h2 h3 h4 h5 h6 h7 h8 h9 h10 h11 h12 r =
    let r = pass_read r (not_by c a_number p h1) in
    let r = pass_read r (not_by c a_real p h2) in
    let r = pass_read r (not_by c (the_word w.True) p h3) in
    let r = pass_read r (not_by c (the_word w.False) p h4) in
    let r = pass_read r (not_by c (the_word w.Null) p h5) in
    let r = pass_read r (not_by c (the_word w.SUnit) p h6) in
    let r = pass_read r (not_by c (the_word w.Real) p h7) in
    let r = pass_read r (not_by c (the_word w.SInt) p h8) in
    let r = pass_read r (not_by c (the_word w.SBool) p h9) in
    let r = pass_read r (not_by c (the_word w.SRef) p h10) in
    let r = pass_read r (not_by c (the_word w.SPerm) p h11) in
    pass_read r (not_by c (the_word w.SPair) p h12)

-- after a `(`
pub parens_read : (names : List (List ℕ)) {ts us vs : List PlacedLexeme} {e : t.BExpr} → Starts (the_sign sign.OpenParen) ts tt us → ReadsExpr names ts e vs →
    Reads v.expr (rule (g.InParens (g.outside names))) us e vs
parens_read names {ts = ts} {us = us} {vs = vs} {e = e} p h =
    let y = g.outside names in
    let c = the_sign sign.OpenParen in
    by_where (λ r. Reads v.expr r ts e vs → Reads v.expr (rule (g.InParens y)) us e vs) (some_free names)
    (λ some. when (a_variable names some) (λ i. g.named y i) (g.in_parens y)) (g.in_parens y)
    (λ some r. last_read (need_read (pass_read r (not_by c (a_variable names some) p refl)) p)) (λ r. last_read (need_read r p))
    (others_read y c p refl refl refl refl refl refl refl refl refl refl refl refl h)

-- after `(if`
abbrev pub choosing : List (List ℕ) → Rule v.expr
choosing names = read (g.Expr (g.outside names)) (λ a. g.after_word w.Then (read (g.Expr (g.outside names)) (λ b. g.after_word w.Else
    (read (g.Expr (g.outside names)) (λ c. g.after_sign sign.CloseParen (give (t.If a b c)))))))

pub if_read : (names : List (List ℕ)) {ts us vs : List PlacedLexeme} {e : t.BExpr} → Starts (the_word w.If) ts tt us →
    Reads v.expr (rule (g.InParens (g.outside names))) ts e vs → Reads v.expr (choosing names) us e vs
if_read names p h =
    let h = pass_read h (not_by (the_word w.If) (the_sign sign.Minus) p refl) in
    let h = pass_read h (not_by (the_word w.If) (the_sign sign.Not) p refl) in
    take_read h p

-- after the name of a map and `[`
pub at_read : (names : List (List ℕ)) {i : ℕ} {k : PlacedLexeme} {ts us vs : List PlacedLexeme} {e : t.BExpr} → IsVariable names k.tok i →
    some_free names ≡ true → Starts (the_sign sign.OpenBracket) ts tt us → ReadsExpr names (k ∷ ts) e vs →
    Reads v.expr (g.at_indices (g.outside names) i) us e vs
at_read names {i = i} {k = k} {ts = ts} {us = us} {vs = vs} {e = e} is free p h =
    let y = g.outside names in
    let start : (some : some_free names ≡ true) → Starts (a_variable names some) (k ∷ ts) i ts = λ some. next (a_variable names some) is in
    by_where (λ r. Reads v.expr r (k ∷ ts) e vs → Reads v.expr (g.at_indices y i) us e vs) (some_free names)
    (λ some. when (a_variable names some) (λ j. g.named y j) (g.in_parens y)) (g.in_parens y)
    (λ some r. last_read (take_read (take_read r (start some)) p))
    (λ r. absurd (no_need r (not_by (a_variable names free) (the_sign sign.OpenParen) (start free) refl)))
    (others_read y (a_variable names free) (start free) refl refl refl refl refl refl refl refl refl refl refl refl h)
