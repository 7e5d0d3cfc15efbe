-- Every derivation is read: where a rule has alternatives, the next token tells which of them was derived.
use Rattle.std.proofs.Common.{◌≡◌, refl, sym, ap, subst, ◌∙◌, ℕ, zero, suc, ◌≤◌, ◌<◌, Bool, true, false, cond, List, [], ◌∷◌, ◌++◌, Option, Some, nat_eq, if◌then◌else◌, IsTrue, arith}
use Rattle.std.proofs.lemmas.List.{append-nil}
use Rattle.std.proofs.lemmas.Bool.{eq-eqb}
use Rattle.std.proofs.lemmas.Bool.Decides.{nat_tests}
use Rattle.vb_base.specs.declared.places.Pos.{Pos}
use Rattle.viper_syntax.specs.declared.tokens.Token.{Token}
use Rattle.viper_syntax.specs.declared.tokens.Tok.{Tok}
use Rattle.viper_syntax.specs.declared.tokens.Tok.TheVariants as tok
use Rattle.viper_syntax.specs.declared.tokens.Word.{Word}
use Rattle.viper_syntax.specs.declared.tokens.Word.TheVariants as word
use Rattle.viper_syntax.specs.declared.tokens.Sign.{Sign}
use Rattle.viper_syntax.specs.declared.tokens.Sign.TheVariants as sign
use Rattle.viper_syntax.specs.Decl as d
use Rattle.viper_syntax.specs.Term.{Term}
use Rattle.viper_syntax.specs.declared.stmts.Named.{Named}
use Rattle.viper_syntax.specs.declared.stmts.Formal.{Formal}
use Rattle.viper_syntax.specs.Stmt as s
use Rattle.viper_grammar.specs.declared.parts.Shape.{Shape}
use Rattle.viper_grammar.specs.declared.parts.Shape.TheVariants as shape
use Rattle.viper_grammar.specs.declared.parts.WordClass.{WordClass}
use Rattle.viper_grammar.specs.declared.parts.WordClass.TheVariants as class
use Rattle.viper_grammar.specs.Tests as v
use Rattle.viper_grammar.specs.Tests.{Kind, Value, WrittenTerm, Test, this, a_name, a_number, one_of, a_negation, an_operator, Passes, is_type, is_constant, is_check, is_clause, is_negation, belongs, level_of}
use Rattle.viper_grammar.specs.Grammar as g
use Rattle.viper_grammar.specs.Grammar.{Symbol, Rule, give, when, read, rule, rules}
use Rattle.viper_grammar.specs.Spells as plain
use Rattle.viper_grammar.specs.Spells.{Derives}
use Rattle.viper_grammar.specs.Greedy.{Reads}
use Rattle.grammar.proofs.Sets.{among, apart, within}
use Rattle.grammar.proofs.Complete as grammar
use Rattle.grammar.proofs.Complete.{good_give, good_when, good_read, te, tn, tw, tr}
use Rattle.viper_parse.proofs.Codes.{code, word_code, sign_code, codes, class_codes, first_codes, empty, ext_codes, name_tail, term_tail, reach, sign_reach, bound, Ext, table}

-- the tokens that pass a test are among its codes

type_codes : (w : Word) → IsTrue (is_type w) → among (word_code w) (class_codes class.Type) ≡ true
type_codes word.Int h = refl
type_codes word.Bool h = refl
type_codes word.Ref h = refl
type_codes word.Perm h = refl
type_codes _ h = cc

constant_codes : (w : Word) → IsTrue (is_constant w) → among (word_code w) (class_codes class.Constant) ≡ true
constant_codes word.True h = refl
constant_codes word.False h = refl
constant_codes word.Null h = refl
constant_codes word.Write h = refl
constant_codes word.None h = refl
constant_codes word.Wildcard h = refl
constant_codes _ h = cc

check_codes : (w : Word) → IsTrue (is_check w) → among (word_code w) (class_codes class.Check) ≡ true
check_codes word.Inhale h = refl
check_codes word.Exhale h = refl
check_codes word.Assert h = refl
check_codes word.Assume h = refl
check_codes _ h = cc

clause_codes : (w : Word) → IsTrue (is_clause w) → among (word_code w) (class_codes class.Clause) ≡ true
clause_codes word.Requires h = refl
clause_codes word.Ensures h = refl
clause_codes _ h = cc

word_codes : (c : WordClass) (w : Word) → IsTrue (belongs c w) → among (word_code w) (class_codes c) ≡ true
word_codes class.Type w h = type_codes w h
word_codes class.Constant w h = constant_codes w h
word_codes class.Check w h = check_codes w h
word_codes class.Clause w h = clause_codes w h

negation_codes : (o : Sign) → IsTrue (is_negation o) → among (sign_code o) (codes a_negation) ≡ true
negation_codes sign.Not h = refl
negation_codes sign.Minus h = refl
negation_codes _ h = cc

operator_codes : (o : Sign) (n : ℕ) → level_of o ≡ n → 1 ≤ n → among (sign_code o) (codes (an_operator n)) ≡ true
operator_codes sign.Iff n e h = refl
operator_codes sign.Implies n e h = refl
operator_codes sign.Or n e h = refl
operator_codes sign.And n e h = refl
operator_codes sign.Equal n e h = refl
operator_codes sign.NotEqual n e h = refl
operator_codes sign.AtMost n e h = refl
operator_codes sign.AtLeast n e h = refl
operator_codes sign.Less n e h = refl
operator_codes sign.Greater n e h = refl
operator_codes sign.Plus n e h = refl
operator_codes sign.Minus n e h = refl
operator_codes sign.Star n e h = refl
operator_codes sign.Slash n e h = refl
operator_codes sign.Backslash n e h = refl
operator_codes sign.Percent n e h = refl
operator_codes _ n e h = absurd (omega arith)

code_at : (k : Token) (x : Tok) (l : List ℕ) → k.tok ≡ x → among (code x) l ≡ true → among (code k.tok) l ≡ true
code_at k x l e h = subst (λ t. among (code t) l ≡ true) (sym e) h

cond_or_l : (b q : Bool) → b ≡ true → cond b true q ≡ true
cond_or_l b q h = subst (λ z. cond z true q ≡ true) (sym h) refl

passes_codes : {b : Bool} {r : Kind} (c : Test b r) (k : Token) (v : Value r) → Passes c k v → among (code k.tok) (codes c) ≡ true
passes_codes (this x) k v p = code_at k x (code x ∷ []) p.0 (cond_or_l (nat_eq (code x) (code x)) false (eq-eqb (code x) (code x) refl))
passes_codes a_name k v p = code_at k (tok.Name v.name) (codes a_name) p.0 refl
passes_codes a_number k v p = code_at k (tok.Number v.0) (codes a_number) p.0 refl
passes_codes (one_of c) k v p = code_at k (tok.Word v.0) (class_codes c) p.0 (word_codes c v.0 p.2)
passes_codes a_negation k v p = code_at k (tok.Sign v.0) (codes a_negation) p.0 (negation_codes v.0 p.2)
passes_codes (an_operator n) k v p = code_at k (tok.Sign v.0) (codes (an_operator n)) p.0 (operator_codes v.0 n p.2 p.3)

-- with which tokens a rule begins, and what it spells where it is empty

abbrev begins : {s : Kind} → Rule s → List ℕ
begins a = grammar.begins table a

abbrev ends : {s : Kind} → Rule s → Option (Value s)
ends a = grammar.ends table a

ends_unless : (b : Bool) (p : WrittenTerm) (y : Rule v.part) → ends y ≡ Some p → ends (cond b (give p) y) ≡ Some p
ends_unless true p y h = refl
ends_unless false p y h = h

cond_both : (b : Bool) → b ≡ true → cond (cond b true false) true false ≡ true
cond_both true h = refl
cond_both false h = cc

self_code : (o : Sign) → within (codes (g.the_sign o) ++ []) (sign_code o ∷ []) ≡ true
self_code o = cond_both (nat_eq (sign_code o) (sign_code o)) (eq-eqb (sign_code o) (sign_code o) refl)

first_ok : {s : Kind} (a : Symbol s) → within (begins (rule a)) (first_codes a) ≡ true
first_ok (g.Program ds) = refl
first_ok (g.Predicate at) = refl
first_ok (g.Method at) = refl
first_ok g.Returns = refl
first_ok (g.Clauses cs) = refl
first_ok g.Body = refl
first_ok g.Formals = refl
first_ok (g.MoreFormals xs) = refl
first_ok g.FormalOf = refl
first_ok g.Block = refl
first_ok (g.Statements ss) = refl
first_ok g.Statement = refl
first_ok (g.Variable at) = refl
first_ok (g.AfterName x) = refl
first_ok (g.Arm at) = refl
first_ok (g.Arms bs) = refl
first_ok (g.WhileLoop at) = refl
first_ok (g.Invariants is) = refl
first_ok g.Rhs = refl
first_ok (g.Creation at) = refl
first_ok (g.Separated o xs) = self_code o
first_ok g.Semicolons = refl
first_ok g.InstanceOf = refl
first_ok g.CallOf = refl
first_ok g.Arguments = refl
first_ok (g.MoreArguments es) = refl
first_ok g.Amount = refl
first_ok g.Group = refl
first_ok g.Term = refl
first_ok (g.Level zero) = refl
first_ok (g.Level (suc n)) = refl
first_ok (g.Chain n p) = grammar.begins_cond table (g.is_open p.shape) _ _ (first_codes (g.Chain n p)) refl refl
first_ok g.Unary = refl
first_ok (g.Fields p) = refl
first_ok g.First = refl

empty_ok : {s : Kind} (a : Symbol s) → ends (rule a) ≡ empty a
empty_ok (g.Program ds) = refl
empty_ok (g.Predicate at) = refl
empty_ok (g.Method at) = refl
empty_ok g.Returns = refl
empty_ok (g.Clauses cs) = refl
empty_ok g.Body = refl
empty_ok g.Formals = refl
empty_ok (g.MoreFormals xs) = refl
empty_ok g.FormalOf = refl
empty_ok g.Block = refl
empty_ok (g.Statements ss) = refl
empty_ok g.Statement = refl
empty_ok (g.Variable at) = refl
empty_ok (g.AfterName x) = refl
empty_ok (g.Arm at) = refl
empty_ok (g.Arms bs) = refl
empty_ok (g.WhileLoop at) = refl
empty_ok (g.Invariants is) = refl
empty_ok g.Rhs = refl
empty_ok (g.Creation at) = refl
empty_ok (g.Separated o xs) = refl
empty_ok g.Semicolons = refl
empty_ok g.InstanceOf = refl
empty_ok g.CallOf = refl
empty_ok g.Arguments = refl
empty_ok (g.MoreArguments es) = refl
empty_ok g.Amount = refl
empty_ok g.Group = refl
empty_ok g.Term = refl
empty_ok (g.Level zero) = refl
empty_ok (g.Level (suc n)) = refl
empty_ok (g.Chain n p) = ends_unless (g.is_open p.shape) p _ refl
empty_ok g.Unary = refl
empty_ok (g.Fields p) = refl
empty_ok g.First = refl

pub right : grammar.IsRightTable rules table
right = record {
  passes_codes = λ b r c k v p. passes_codes c k v p;
  first_ok = λ s a. first_ok a;
  empty_ok = λ s a. empty_ok a;
}

ends_right : {s : Kind} {a : Rule s} {ts : List Token} {x : Value s} → Derives s a ts x → ts ≡ [] → ends a ≡ Some x
ends_right d e = grammar.ends_right rules table right d e

pub empty_right : {s : Kind} (a : Symbol s) (x : Value s) → Derives s (rule a) [] x → empty a ≡ Some x
empty_right a x d = sym (empty_ok a) ∙ ends_right d refl

-- the next token tells how to read on

abbrev Good : (s : Kind) → (Value s → Token → Type 0) → Rule s → Type 0
Good s E a = grammar.Good rules table s E a

abbrev Tells : (s : Kind) → (Value s → List ℕ) → Rule s → Type 0
Tells s l a = grammar.Tells table s l a

tells_good : {s : Kind} (l : Value s → List ℕ) {a : Rule s} → Tells s l a → Good s (λ x k. among (code k.tok) (l x) ≡ true) a
tells_good l t = grammar.tells_good rules table right l t

-- terms by level: what a token goes on with is looser than the term, or the term ends with an `unfolding`

le_then : (a b c : ℕ) → a ≤ b → b ≤ c → a ≤ c
le_then a b c h i = omega arith

eq_le : (t n b : ℕ) → t ≡ n → b ≡ n → t ≤ b
eq_le t n b e f = omega arith

not_below : (n m t b : ℕ) → t ≡ n → b ≡ m → t ≤ b → m < n → ⊥
not_below n m t b e f h i = omega arith

bound_is : (n : ℕ) (b : Bool) → false ≡ b → cond b 9 n ≡ n
bound_is n true e = cc
bound_is n false e = refl

bound_more : (m n : ℕ) (b : Bool) → m ≤ n → cond b 9 m ≤ cond b 9 n
bound_more m n true h = omega arith
bound_more m n false h = h

given_empty : {s : Kind} {x y : Value s} {k : Token} {us ts : List Token} → Derives s (give x) ts y → ts ≡ k ∷ us → ⊥
given_empty plain.given e = cc

no_give : {s : Kind} {x y : Value s} {k : Token} {us : List Token} → Derives s (give x) (k ∷ us) y → ⊥
no_give d = given_empty d refl

give_is : {s : Kind} {x y : Value s} {ts : List Token} → Derives s (give x) ts y → y ≡ x
give_is plain.given = refl

given_after : {s : Kind} (a : Symbol s) {ts us : List Token} {x y : Value s} → Derives s (rule a) ts y → Derives s (give y) us x → Derives s (rule a) (ts ++ us) x
given_after {s = s} a {ts = ts} {x = x} d plain.given = subst (λ l. Derives s (rule a) l x) (sym (append-nil ts)) d

read_give : {s : Kind} {a : Symbol s} {ts : List Token} {x : Value s} → Derives s (read a give) ts x → Derives s (rule a) ts x
read_give (plain.called {a = a} d d') = given_after a d d'

-- which operators go on with a chain
op_reach : (o : Sign) (n : ℕ) → level_of o ≡ n → 1 ≤ n → sign_reach o ≡ n
op_reach sign.Iff n e h = e
op_reach sign.Implies n e h = e
op_reach sign.Or n e h = e
op_reach sign.And n e h = e
op_reach sign.Equal n e h = e
op_reach sign.NotEqual n e h = e
op_reach sign.AtMost n e h = e
op_reach sign.AtLeast n e h = e
op_reach sign.Less n e h = e
op_reach sign.Greater n e h = e
op_reach sign.Plus n e h = e
op_reach sign.Minus n e h = e
op_reach sign.Star n e h = e
op_reach sign.Slash n e h = e
op_reach sign.Backslash n e h = e
op_reach sign.Percent n e h = e
op_reach _ n e h = absurd (omega arith)

pass_reach : (n : ℕ) (k : Token) (o : Value v.a_sign) → Passes (an_operator n) k o → reach k.tok ≡ n
pass_reach n k o q = ap reach q.0 ∙ op_reach o.0 n q.2 q.3

chain_begins_at : (n : ℕ) (p : WrittenTerm) (b : Bool) (further : Value v.a_sign → Rule v.part) {ts : List Token} {x : WrittenTerm} →
    Derives v.part (cond b (give p) (when (an_operator n) further (give p))) ts x → (k : Token) (us : List Token) → ts ≡ k ∷ us → (false ≡ b) × (reach k.tok ≡ n) × (1 ≤ n)
chain_begins_at n p true _ d k us e = absurd (given_empty d e)
chain_begins_at n p false _ (plain.taken {v = o} q d) k us e =
    let same : q.token ≡ k = cc in
    (refl, pass_reach n k o (subst (λ j. Passes (an_operator n) j o) same q.passes), q.passes.3)
chain_begins_at n p false _ (plain.passed d) k us e = absurd (given_empty d e)

chain_begins : (n : ℕ) (p : WrittenTerm) {x : WrittenTerm} (k : Token) (us : List Token) → Derives v.part (rule (g.Chain n p)) (k ∷ us) x → (false ≡ g.is_open p.shape) × (reach k.tok ≡ n) × (1 ≤ n)
chain_begins n p k us d = chain_begins_at n p (g.is_open p.shape) _ d k us refl

chain_ends : (n : ℕ) (p : WrittenTerm) (x : WrittenTerm) → Derives v.part (rule (g.Chain n p)) [] x → x ≡ p
chain_ends n p x d =
    let h : Some p ≡ Some x = sym (empty_ok (g.Chain n p)) ∙ ends_right d refl in
    cc

word_tail : (w : Word) → among (word_code w) (name_tail ++ term_tail) ≡ true → ⊥
word_tail word.Field h = cc
word_tail _ h = cc

sign_tail : (o : Sign) → among (sign_code o) (name_tail ++ term_tail) ≡ true → sign_reach o ≤ 9
sign_tail sign.Question h = omega arith
sign_tail sign.Dot h = omega arith
sign_tail sign.OpenParen h = omega arith
sign_tail sign.Iff h = omega arith
sign_tail sign.Implies h = omega arith
sign_tail sign.Or h = omega arith
sign_tail sign.And h = omega arith
sign_tail sign.Equal h = omega arith
sign_tail sign.NotEqual h = omega arith
sign_tail sign.AtMost h = omega arith
sign_tail sign.AtLeast h = omega arith
sign_tail sign.Less h = omega arith
sign_tail sign.Greater h = omega arith
sign_tail sign.Plus h = omega arith
sign_tail sign.Minus h = omega arith
sign_tail sign.Star h = omega arith
sign_tail sign.Slash h = omega arith
sign_tail sign.Backslash h = omega arith
sign_tail sign.Percent h = omega arith
sign_tail _ h = cc

reach_tail : (t : Tok) → among (code t) (name_tail ++ term_tail) ≡ true → reach t ≤ 9
reach_tail (tok.Name x) h = cc
reach_tail (tok.Number n) h = cc
reach_tail (tok.Word w) h = absurd (word_tail w h)
reach_tail (tok.Sign o) h = sign_tail o h

word_dot : (w : Word) → among (word_code w) name_tail ≡ true → ⊥
word_dot word.Field h = cc
word_dot _ h = cc

sign_dot : (o : Sign) → among (sign_code o) name_tail ≡ true → sign_reach o ≤ 0
sign_dot sign.Dot h = omega arith
sign_dot sign.OpenParen h = omega arith
sign_dot _ h = cc

reach_dot : (t : Tok) → among (code t) name_tail ≡ true → reach t ≤ 0
reach_dot (tok.Name x) h = cc
reach_dot (tok.Number n) h = cc
reach_dot (tok.Word w) h = absurd (word_dot w h)
reach_dot (tok.Sign o) h = sign_dot o h

unary_reach_at : (b : Bool) (t : Tok) → among (code t) (name_tail ++ cond b term_tail []) ≡ true → reach t ≤ cond b 9 0
unary_reach_at true t h = reach_tail t h
unary_reach_at false t h = reach_dot t h

unary_reach : (p : WrittenTerm) (t : Tok) → among (code t) (ext_codes g.Unary p) ≡ true → reach t ≤ bound 0 p
unary_reach p t h = unary_reach_at (g.is_open p.shape) t h

tail_sign : (o : Sign) → sign_reach o ≤ 9 → among (sign_code o) term_tail ≡ true
tail_sign sign.Question h = refl
tail_sign sign.Dot h = refl
tail_sign sign.OpenParen h = refl
tail_sign sign.Iff h = refl
tail_sign sign.Implies h = refl
tail_sign sign.Or h = refl
tail_sign sign.And h = refl
tail_sign sign.Equal h = refl
tail_sign sign.NotEqual h = refl
tail_sign sign.AtMost h = refl
tail_sign sign.AtLeast h = refl
tail_sign sign.Less h = refl
tail_sign sign.Greater h = refl
tail_sign sign.Plus h = refl
tail_sign sign.Minus h = refl
tail_sign sign.Star h = refl
tail_sign sign.Slash h = refl
tail_sign sign.Backslash h = refl
tail_sign sign.Percent h = refl
tail_sign _ h = absurd (omega arith)

tail_reach : (t : Tok) → reach t ≤ 9 → among (code t) term_tail ≡ true
tail_reach (tok.Sign o) h = tail_sign o h
tail_reach (tok.Name x) h = absurd (omega arith)
tail_reach (tok.Number n) h = absurd (omega arith)
tail_reach (tok.Word w) h = absurd (omega arith)

good_level : (n : ℕ) → Good v.part (Ext (g.Level n)) (rule (g.Level n))
good_level zero = good_read
    (record { none = λ y k us x d e. no_give d })
    (record { ext = λ y x k d e. subst (λ z. reach k.tok ≤ bound 0 z) (sym (give_is d)) (unary_reach y k.tok e) })
    (λ y. good_give)
good_level (suc n) = good_read
    (record {
      none = λ y k us x d e.
          let c = chain_begins (suc n) y k us (read_give d) in
          let b : cond (g.is_open y.shape) 9 n ≡ n = bound_is n (g.is_open y.shape) c.0 in
          not_below (suc n) n (reach k.tok) (cond (g.is_open y.shape) 9 n) c.1 b e (omega arith);
    })
    (record {
      ext = λ y x k d e.
          let is : x ≡ y = chain_ends (suc n) y x (read_give d) in
          let more : cond (g.is_open y.shape) 9 n ≤ cond (g.is_open y.shape) 9 (suc n) = bound_more n (suc n) (g.is_open y.shape) (omega arith) in
          subst (λ z. reach k.tok ≤ bound (suc n) z) (sym is) (le_then _ _ _ e more);
    })
    (λ y. good_read
    (record { none = λ z k us x d e. no_give d })
    (record { ext = λ z x k d e. subst (λ u. reach k.tok ≤ bound (suc n) u) (sym (give_is d)) e })
    (λ z. good_give))

ending_open : (h : Shape) → g.is_open (g.ending h) ≡ g.is_open h
ending_open shape.Call = refl
ending_open shape.Open = refl
ending_open shape.Plain = refl

-- the right side of an operator, and what may follow it
next_begins : (n : ℕ) (q : WrittenTerm) (b : Bool) → {x : WrittenTerm} (k : Token) (us : List Token) →
    Derives v.part (if b then read (g.Chain n q) give else give q) (k ∷ us) x → (true ≡ b) × (false ≡ g.is_open q.shape) × (reach k.tok ≡ n) × (1 ≤ n)
next_begins n q true k us d = let c = chain_begins n q k us (read_give d) in (refl, c.0, c.1, c.2)
next_begins n q false k us d = absurd (no_give d)

next_ends : (n : ℕ) (q : WrittenTerm) (b : Bool) (x : WrittenTerm) → Derives v.part (if b then read (g.Chain n q) give else give q) [] x → x ≡ q
next_ends n q true x d = chain_ends n q x (read_give d)
next_ends n q false x d = give_is d

below_repeats : (n : ℕ) → 1 ≤ n → true ≡ g.repeats n → g.right_level n < n
below_repeats n h e = grind (arith, nat_tests)

at_most : (n : ℕ) → g.right_level n ≤ n
at_most n = grind (arith, nat_tests)

good_next : (n : ℕ) (b : Bool) (q : WrittenTerm) (E : WrittenTerm → Token → Type 0) → ((z : WrittenTerm) (k : Token) → reach k.tok ≤ bound n z → E z k) →
    Good v.part E (if b then read (g.Chain n q) give else give q)
good_next n true q E h = good_read
    (record { none = λ z k us x d e. no_give d })
    (record { ext = λ z x k d e. subst (λ u. E u k) (sym (give_is d)) (h z k e) })
    (λ z. good_give)
good_next n false q E h = good_give

right_follows : (n : ℕ) (p : WrittenTerm) (o : Value v.a_sign) (q : WrittenTerm) (k : Token) (us : List Token) (x : WrittenTerm) →
    Derives v.part (if g.repeats n then read (g.Chain n (g.binary p o q)) give else give (g.binary p o q)) (k ∷ us) x → reach k.tok ≤ bound (g.right_level n) q → ⊥
right_follows n p o q k us x d e =
    let c = next_begins n (g.binary p o q) (g.repeats n) k us d in
    let b : cond (g.is_open q.shape) 9 (g.right_level n) ≡ g.right_level n = bound_is (g.right_level n) (g.is_open q.shape) (c.1 ∙ ending_open q.shape) in
    let low : g.right_level n < n = below_repeats n c.3 c.0 in
    not_below n (g.right_level n) (reach k.tok) (cond (g.is_open q.shape) 9 (g.right_level n)) c.2 b e low

right_ends : (n : ℕ) (p : WrittenTerm) (o : Value v.a_sign) (q : WrittenTerm) (x : WrittenTerm) (k : Token) →
    Derives v.part (if g.repeats n then read (g.Chain n (g.binary p o q)) give else give (g.binary p o q)) [] x → reach k.tok ≤ bound (g.right_level n) q → reach k.tok ≤ bound n x
right_ends n p o q x k d e =
    let is : x ≡ g.binary p o q = next_ends n (g.binary p o q) (g.repeats n) x d in
    let more : cond (g.is_open q.shape) 9 (g.right_level n) ≤ cond (g.is_open q.shape) 9 n = bound_more (g.right_level n) n (g.is_open q.shape) (at_most n) in
    let low : reach k.tok ≤ cond (g.is_open q.shape) 9 n = le_then _ _ _ e more in
    let same : reach k.tok ≤ cond (g.is_open (g.ending q.shape)) 9 n = subst (λ b. reach k.tok ≤ cond b 9 n) (sym (ending_open q.shape)) low in
    subst (λ z. reach k.tok ≤ bound n z) (sym is) same

good_chain_at : (n : ℕ) (p : WrittenTerm) (b : Bool) → b ≡ g.is_open p.shape → Good v.part (Ext (g.Chain n p)) (cond b (give p) (when (an_operator n) (λ o. read (g.Level (g.right_level n)) (λ q.
    if g.repeats n then read (g.Chain n (g.binary p o q)) give else give (g.binary p o q))) (give p)))
good_chain_at n p true eq = good_give
good_chain_at n p false eq = good_when
    (record { none = λ k us o x q d. no_give d })
    (record {
      ext = λ k o x q d.
          let c : reach k.tok ≡ n = pass_reach n k o q in
          let b : cond (g.is_open p.shape) 9 n ≡ n = bound_is n (g.is_open p.shape) eq in
          subst (λ z. reach k.tok ≤ bound n z) (sym (give_is d)) (eq_le _ _ _ c b);
    })
    (λ o. good_read
    (record { none = λ q k us x d e. right_follows n p o q k us x d e })
    (record { ext = λ q x k d e. right_ends n p o q x k d e })
    (λ q. good_next n (g.repeats n) (g.binary p o q) (Ext (g.Chain n p)) (λ z k e. e)))
    good_give

good_chain : (n : ℕ) (p : WrittenTerm) → Good v.part (Ext (g.Chain n p)) (rule (g.Chain n p))
good_chain n p = good_chain_at n p (g.is_open p.shape) refl

-- the term of a choice
choice_begins : (p : WrittenTerm) (b : Bool) (further : Pos → Rule v.part) {ts : List Token} {x : WrittenTerm} →
    Derives v.part (cond b (give p) (when (g.the_sign sign.Question) further (give p))) ts x → (k : Token) (us : List Token) → ts ≡ k ∷ us → (false ≡ b) × (reach k.tok ≡ 9)
choice_begins p true _ d k us e = absurd (given_empty d e)
choice_begins p false _ (plain.taken q d) k us e = let same : q.token ≡ k = cc in (refl, subst (λ j. reach j.tok ≡ 9) same (ap reach q.passes.0))
choice_begins p false _ (plain.passed d) k us e = absurd (given_empty d e)

good_cond : {s : Kind} (E : Value s → Token → Type 0) (b : Bool) {x y : Rule s} → Good s E x → Good s E y → Good s E (cond b x y)
good_cond E true h i = h
good_cond E false h i = i

bound_top : (b : Bool) → cond b 9 8 ≤ 9
bound_top true = omega arith
bound_top false = omega arith

good_term : Good v.part (Ext g.Term) (rule g.Term)
good_term = good_read
    (record {
      none = λ y k us x d e.
          let c = choice_begins y (g.is_open y.shape) _ d k us refl in
          not_below 9 8 (reach k.tok) (cond (g.is_open y.shape) 9 8) c.1 (bound_is 8 (g.is_open y.shape) c.0) e (omega arith);
    })
    (record { ext = λ y x k d e. tail_reach k.tok (le_then _ _ _ e (bound_top (g.is_open y.shape))) })
    (λ y. good_cond (Ext g.Term) (g.is_open y.shape) good_give (tells_good (ext_codes g.Term)
    (tw refl (λ at. tr (λ z k h. h) (λ z. refl) (λ z. tn (λ _. tr (λ u k h. h) (λ u. refl) (λ u. te)))) te)))

-- every symbol
within_unary : (b e : Bool) → e ≡ b → cond (apart [] (name_tail ++ cond b term_tail [])) (within (name_tail ++ cond b term_tail []) (name_tail ++ cond e term_tail [])) false ≡ true
within_unary true e h = subst (λ z. within (name_tail ++ term_tail) (name_tail ++ cond z term_tail []) ≡ true) (sym h) refl
within_unary false e h = subst (λ z. within name_tail (name_tail ++ cond z term_tail []) ≡ true) (sym h) refl

separated_ok : (b : Bool) → b ≡ true → cond (cond b true false) true false ≡ true
separated_ok true h = refl
separated_ok false h = cc

separated_more : (b : Bool) → b ≡ true → cond (cond b true false) true false ≡ true
separated_more b h = separated_ok b h

tells_Program : (ds : List d.Decl) → Tells _ (ext_codes (g.Program ds)) (rule (g.Program ds))
tells_Program ds = tw refl (λ at. tr (λ z k h. h) (λ z. refl) (λ x. tr (λ z k h. h) (λ z. refl) (λ _. tr (λ z k h. h) (λ z. refl) (λ z. te)))) (tw refl (λ at. tr (λ z k h. h) (λ z. refl) (λ x. tr (λ z k h. h) (λ z. refl) (λ z. te))) (tw refl (λ at. tr (λ z k h. h) (λ z. refl) (λ x. tr (λ z k h. h) (λ z. refl) (λ z. te))) te))

tells_Predicate : (at : Pos) → Tells _ (ext_codes (g.Predicate at)) (rule (g.Predicate at))
tells_Predicate at = tn (λ x. tn (λ _. tr (λ z k h. h) (λ z. refl) (λ xs. tw refl (λ _. tr (λ z k h. h) (λ z. refl) (λ u. tn (λ _. te))) te)))

tells_Method : (at : Pos) → Tells _ (ext_codes (g.Method at)) (rule (g.Method at))
tells_Method at = tn (λ x. tn (λ _. tr (λ z k h. h) (λ z. refl) (λ xs. tr (λ z k h. h) (λ z. refl) (λ ys. tr (λ z k h. h) (λ z. refl) (λ cs. tr (λ z k h. h) (λ z. refl) (λ b. te))))))

tells_Returns : Tells _ (ext_codes g.Returns) (rule g.Returns)
tells_Returns = tw refl (λ _. tn (λ _. tr (λ z k h. h) (λ z. refl) (λ z. te))) te

tells_Clauses : (cs : List d.SClause) → Tells _ (ext_codes (g.Clauses cs)) (rule (g.Clauses cs))
tells_Clauses cs = tw refl (λ x. tr (λ z k h. h) (λ z. refl) (λ u. tr (λ z k h. h) (λ z. refl) (λ _. tr (λ z k h. h) (λ z. refl) (λ z. te)))) te

tells_Body : Tells _ (ext_codes g.Body) (rule g.Body)
tells_Body = tw refl (λ at. tr (λ z k h. h) (λ z. refl) (λ z. te)) te

tells_Formals : Tells _ (ext_codes g.Formals) (rule g.Formals)
tells_Formals = tw refl (λ _. te) (tr (λ z k h. h) (λ z. refl) (λ x. tr (λ z k h. h) (λ z. refl) (λ z. te)))

tells_MoreFormals : (xs : List Formal) → Tells _ (ext_codes (g.MoreFormals xs)) (rule (g.MoreFormals xs))
tells_MoreFormals xs = tw refl (λ _. tr (λ z k h. h) (λ z. refl) (λ x. tr (λ z k h. h) (λ z. refl) (λ z. te))) (tn (λ _. te))

tells_FormalOf : Tells _ (ext_codes g.FormalOf) (rule g.FormalOf)
tells_FormalOf = tn (λ x. tn (λ _. tn (λ z. te)))

tells_Block : Tells _ (ext_codes g.Block) (rule g.Block)
tells_Block = tn (λ at. tr (λ z k h. h) (λ z. refl) (λ z. te))

tells_Statements : (ss : List s.SStmt) → Tells _ (ext_codes (g.Statements ss)) (rule (g.Statements ss))
tells_Statements ss = tw refl (λ _. te) (tr (λ z k h. h) (λ z. refl) (λ a. tr (λ z k h. h) (λ z. refl) (λ _. tr (λ z k h. h) (λ z. refl) (λ z. te))))

tells_Statement : Tells _ (ext_codes g.Statement) (rule g.Statement)
tells_Statement = tw refl (λ at. tr (λ z k h. h) (λ z. refl) (λ z. te)) (tw refl (λ x. tr (λ z k h. h) (λ z. refl) (λ u. te)) (tw refl (λ at. tr (λ z k h. h) (λ z. refl) (λ i. te)) (tw refl (λ at. tr (λ z k h. h) (λ z. refl) (λ i. te)) (tw refl (λ at. tr (λ z k h. h) (λ z. refl) (λ a. tr (λ z k h. h) (λ z. refl) (λ z. te))) (tw refl (λ at. tr (λ z k h. h) (λ z. refl) (λ z. te)) (tn (λ x. tr (λ z k h. h) (λ z. refl) (λ z. te))))))))

tells_Variable : (at : Pos) → Tells _ (ext_codes (g.Variable at)) (rule (g.Variable at))
tells_Variable at = tr (λ z k h. h) (λ z. refl) (λ x. tw refl (λ _. tr (λ z k h. h) (λ z. refl) (λ z. te)) te)

tells_AfterName : (x : Named) → Tells _ (ext_codes (g.AfterName x)) (rule (g.AfterName x))
tells_AfterName x = tw refl (λ _. tr (λ z k h. h) (λ z. refl) (λ z. te)) (tw refl (λ _. tn (λ y. tr (λ z k h. h) (λ z. refl) (λ xs. tn (λ _. tr (λ z k h. h) (λ z. refl) (λ z. te))))) (tr (λ z k h. h) (λ z. refl) (λ xs. tn (λ _. tr (λ z k h. h) (λ z. refl) (λ z. te)))))

tells_Arm : (at : Pos) → Tells _ (ext_codes (g.Arm at)) (rule (g.Arm at))
tells_Arm at = tr (λ z k h. h) (λ z. refl) (λ u. tr (λ z k h. h) (λ z. refl) (λ z. te))

tells_Arms : (bs : List s.SArm) → Tells _ (ext_codes (g.Arms bs)) (rule (g.Arms bs))
tells_Arms bs = tw refl (λ at. tr (λ z k h. h) (λ z. refl) (λ a. tr (λ z k h. h) (λ z. refl) (λ z. te))) (tw refl (λ _. tr (λ z k h. h) (λ z. refl) (λ z. te)) te)

tells_WhileLoop : (at : Pos) → Tells _ (ext_codes (g.WhileLoop at)) (rule (g.WhileLoop at))
tells_WhileLoop at = tr (λ z k h. h) (λ z. refl) (λ u. tr (λ z k h. h) (λ z. refl) (λ is. tr (λ z k h. h) (λ z. refl) (λ z. te)))

tells_Invariants : (is : List Term) → Tells _ (ext_codes (g.Invariants is)) (rule (g.Invariants is))
tells_Invariants is = tw refl (λ _. tr (λ z k h. h) (λ z. refl) (λ u. tr (λ z k h. h) (λ z. refl) (λ _. tr (λ z k h. h) (λ z. refl) (λ z. te)))) te

tells_Rhs : Tells _ (ext_codes g.Rhs) (rule g.Rhs)
tells_Rhs = tw refl (λ at. tr (λ z k h. h) (λ z. refl) (λ z. te)) (tr (λ z k h. h) (λ z. refl) (λ z. te))

tells_Creation : (at : Pos) → Tells _ (ext_codes (g.Creation at)) (rule (g.Creation at))
tells_Creation at = tn (λ _. tw refl (λ _. te) (tw refl (λ _. tn (λ _. te)) (tn (λ x. tr (λ z k h. h) (λ z. refl) (λ xs. tn (λ _. te))))))

tells_Semicolons : Tells _ (ext_codes g.Semicolons) (rule g.Semicolons)
tells_Semicolons = tw refl (λ _. tr (λ z k h. h) (λ z. refl) (λ z. te)) te

tells_InstanceOf : Tells _ (ext_codes g.InstanceOf) (rule g.InstanceOf)
tells_InstanceOf = tw refl (λ _. tn (λ _. tr (λ z k h. h) (λ z. refl) (λ x. tr (λ z k h. h) (λ z. refl) (λ z. te)))) (tr (λ z k h. h) (λ z. refl) (λ z. te))

tells_CallOf : Tells _ (ext_codes g.CallOf) (rule g.CallOf)
tells_CallOf = tn (λ x. tn (λ _. tr (λ z k h. h) (λ z. refl) (λ z. te)))

tells_Arguments : Tells _ (ext_codes g.Arguments) (rule g.Arguments)
tells_Arguments = tw refl (λ _. te) (tr (λ z k h. h) (λ z. refl) (λ u. tr (λ z k h. h) (λ z. refl) (λ z. te)))

tells_MoreArguments : (es : List Term) → Tells _ (ext_codes (g.MoreArguments es)) (rule (g.MoreArguments es))
tells_MoreArguments es = tw refl (λ _. tr (λ z k h. h) (λ z. refl) (λ u. tr (λ z k h. h) (λ z. refl) (λ z. te))) (tn (λ _. te))

tells_Amount : Tells _ (ext_codes g.Amount) (rule g.Amount)
tells_Amount = tw refl (λ _. tr (λ z k h. h) (λ z. refl) (λ u. tn (λ _. te))) (tn (λ _. te))

tells_Group : Tells _ (ext_codes g.Group) (rule g.Group)
tells_Group = tn (λ _. tr (λ z k h. h) (λ z. refl) (λ u. tn (λ _. te)))

tells_Fields : (p : WrittenTerm) → Tells _ (ext_codes (g.Fields p)) (rule (g.Fields p))
tells_Fields p = tw refl (λ _. tn (λ x. tr (λ z k h. h) (λ z. refl) (λ z. te))) te

tells_First : Tells _ (ext_codes g.First) (rule g.First)
tells_First = tw refl (λ x. tw refl (λ _. tr (λ z k h. h) (λ z. refl) (λ z. te)) te) (tw refl (λ z. te) (tw refl (λ z. te) (tw refl (λ at. tr (λ z k h. h) (λ z. refl) (λ u. te)) (tw refl (λ at. tn (λ _. tr (λ z k h. h) (λ z. refl) (λ u. tr (λ z k h. h) (λ z. refl) (λ z. te)))) (tr (λ z k h. h) (λ z. refl) (λ z. te))))))

tells_Unary : Tells _ (ext_codes g.Unary) (rule g.Unary)
tells_Unary = tw refl (λ o. tr (λ z k h. h) (λ z. within_unary (g.is_open z.shape) (g.is_open (g.ending z.shape)) (ending_open z.shape)) (λ u. te)) (tw refl (λ at. tr (λ z k h. h) (λ z. refl) (λ i. tn (λ _. tr (λ z k h. h) (λ z. refl) (λ u. te)))) (tr (λ z k h. h) (λ z. refl) (λ u. tr (λ z k h. h) (λ z. refl) (λ z. te))))

tells_Separated : (o : Sign) (xs : List Named) → Tells _ (ext_codes (g.Separated o xs)) (rule (g.Separated o xs))
tells_Separated o xs = tw (separated_ok (nat_eq (sign_code o) (sign_code o)) (eq-eqb (sign_code o) (sign_code o) refl)) (λ _. tn (λ x. tr (λ z k h. h) (λ z. separated_more (nat_eq (sign_code o) (sign_code o)) (eq-eqb (sign_code o) (sign_code o) refl)) (λ z. te))) te

good : {s : Kind} (a : Symbol s) → Good s (Ext a) (rule a)
good (g.Program ds) = tells_good (ext_codes (g.Program ds)) (tells_Program ds)
good (g.Predicate at) = tells_good (ext_codes (g.Predicate at)) (tells_Predicate at)
good (g.Method at) = tells_good (ext_codes (g.Method at)) (tells_Method at)
good g.Returns = tells_good (ext_codes g.Returns) (tells_Returns)
good (g.Clauses cs) = tells_good (ext_codes (g.Clauses cs)) (tells_Clauses cs)
good g.Body = tells_good (ext_codes g.Body) (tells_Body)
good g.Formals = tells_good (ext_codes g.Formals) (tells_Formals)
good (g.MoreFormals xs) = tells_good (ext_codes (g.MoreFormals xs)) (tells_MoreFormals xs)
good g.FormalOf = tells_good (ext_codes g.FormalOf) (tells_FormalOf)
good g.Block = tells_good (ext_codes g.Block) (tells_Block)
good (g.Statements ss) = tells_good (ext_codes (g.Statements ss)) (tells_Statements ss)
good g.Statement = tells_good (ext_codes g.Statement) (tells_Statement)
good (g.Variable at) = tells_good (ext_codes (g.Variable at)) (tells_Variable at)
good (g.AfterName x) = tells_good (ext_codes (g.AfterName x)) (tells_AfterName x)
good (g.Arm at) = tells_good (ext_codes (g.Arm at)) (tells_Arm at)
good (g.Arms bs) = tells_good (ext_codes (g.Arms bs)) (tells_Arms bs)
good (g.WhileLoop at) = tells_good (ext_codes (g.WhileLoop at)) (tells_WhileLoop at)
good (g.Invariants is) = tells_good (ext_codes (g.Invariants is)) (tells_Invariants is)
good g.Rhs = tells_good (ext_codes g.Rhs) (tells_Rhs)
good (g.Creation at) = tells_good (ext_codes (g.Creation at)) (tells_Creation at)
good (g.Separated o xs) = tells_good (ext_codes (g.Separated o xs)) (tells_Separated o xs)
good g.Semicolons = tells_good (ext_codes g.Semicolons) (tells_Semicolons)
good g.InstanceOf = tells_good (ext_codes g.InstanceOf) (tells_InstanceOf)
good g.CallOf = tells_good (ext_codes g.CallOf) (tells_CallOf)
good g.Arguments = tells_good (ext_codes g.Arguments) (tells_Arguments)
good (g.MoreArguments es) = tells_good (ext_codes (g.MoreArguments es)) (tells_MoreArguments es)
good g.Amount = tells_good (ext_codes g.Amount) (tells_Amount)
good g.Group = tells_good (ext_codes g.Group) (tells_Group)
good g.Term = good_term
good (g.Level n) = good_level n
good (g.Chain n p) = good_chain n p
good g.Unary = tells_good (ext_codes g.Unary) (tells_Unary)
good (g.Fields p) = tells_good (ext_codes (g.Fields p)) (tells_Fields p)
good g.First = tells_good (ext_codes g.First) (tells_First)

pub complete : {ts : List Token} {ds : List d.Decl} → Derives v.decls (rule (g.Program [])) ts ds → Reads v.decls (rule (g.Program [])) ts ds []
complete h = grammar.complete rules table (λ s a. good a) (g.Program []) h
