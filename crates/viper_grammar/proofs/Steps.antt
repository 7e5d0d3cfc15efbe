-- What a function that reads a term answers, from how far it has read.
use Rattle.std.proofs.Common.{◌≡◌, sym, subst, Bool, true, false, List, ℕ, zero, suc, ◌+◌, ◌≤◌, add-one, arith, Bor, cond, ◌<◌, inl, inr, Option, Some, None, MatchOption}
use Rattle.std.proofs.Math.Nat.{eq-or-lt_of_le}
use Rattle.viper_syntax.specs.declared.tokens.Token.{Token}
use Rattle.grammar.specs.declared.stop.Stop.{Stop}
use Rattle.viper_grammar.specs.Tests as v
use Rattle.viper_grammar.specs.Tests.{Value, WrittenTerm}
use Rattle.viper_grammar.specs.Grammar as g
use Rattle.viper_grammar.specs.Grammar.{Rule, give, rule, Starts}
use Rattle.viper_grammar.specs.Greedy.{IsNot, Reads, given, passed, called, Fails, Goes, Refuses}
use Rattle.viper_grammar.proofs.Reading.{viper_failing}
open viper_failing use {fails_in, fails_called}

-- terms that end with an `unfolding`, and those that do not

pub stays : (p : WrittenTerm) (further : Rule v.part) {ts : List Token} → true ≡ g.is_open p.shape → Reads v.part (g.unless_open p further) ts p ts
stays p further {ts = ts} e = subst (λ b. Reads v.part (cond b (give p) further) ts p ts) e given

pub goes_further : (p : WrittenTerm) {further a : Rule v.part} {ts us : List Token} → false ≡ g.is_open p.shape → Goes a ts (g.unless_open p further) us → Goes a ts further us
goes_further p {further = further} {a = a} {ts = ts} {us = us} e g = subst (λ b. Goes a ts (cond b (give p) further) us) (sym e) g

by_openness : (p : WrittenTerm) (b : Bool) {further : Rule v.part} {ts : List Token} → Reads v.part further ts p ts → Reads v.part (cond b (give p) further) ts p ts
by_openness p true h = given
by_openness p false h = h

pub reads_no_further : (p : WrittenTerm) {further : Rule v.part} {ts : List Token} → Reads v.part further ts p ts → Reads v.part (g.unless_open p further) ts p ts
reads_no_further p h = by_openness p (g.is_open p.shape) h

-- levels

pub level_longer : (m : ℕ) {p q : WrittenTerm} {ts us vs : List Token} → Reads v.part (rule (g.Level m)) ts p us → Reads v.part (rule (g.Chain (m + 1) p)) us q vs →
    Reads v.part (rule (g.Level (m + 1))) ts q vs
level_longer m {p = p} {q = q} {ts = ts} {us = us} {vs = vs} h i =
    let i' : Reads v.part (rule (g.Chain (suc m) p)) us q vs = rw add-one at i in
    let all : Reads v.part (rule (g.Level (suc m))) ts q vs = called h (called i' given) in
    rw add-one all

chain_fails : (m : ℕ) {p : WrittenTerm} {ts us z : List Token} → Reads v.part (rule (g.Level m)) ts p us → Fails (rule (g.Chain (m + 1) p)) us z → Fails (rule (g.Level (suc m))) ts z
chain_fails m {p = p} {us = us} {z = z} h f = let f' : Fails (rule (g.Chain (suc m) p)) us z = rw add-one at f in fails_called h (fails_in f')

-- where a tighter level goes wrong, a looser one does
pub level_fails : (m n : ℕ) {ts z : List Token} → m ≤ n → Fails (rule (g.Level m)) ts z → Fails (rule (g.Level n)) ts z
level_fails m zero {ts = ts} {z = z} h f = let e : m ≡ zero = omega arith in subst (λ k. Fails (rule (g.Level k)) ts z) e f
level_fails m (suc n) {ts = ts} {z = z} h f =
    elim (eq-or-lt_of_le h) [
      | inl e ↦ subst (λ k. Fails (rule (g.Level k)) ts z) e f
      | inr k ↦ let below : m ≤ n = omega arith in fails_in (level_fails m n below f)
    ]

pub longer_fails : (m n : ℕ) {p : WrittenTerm} {ts us z : List Token} → m < n → Reads v.part (rule (g.Level m)) ts p us → Fails (rule (g.Chain (m + 1) p)) us z → Fails (rule (g.Level n)) ts z
longer_fails m n lt h f = level_fails (suc m) n (omega arith) (chain_fails m h f)

pub operator_goes : (n : ℕ) (p : WrittenTerm) (ts : List Token) (r : Option (Value v.a_sign × Bor (List Token))) → false ≡ g.is_open p.shape →
    MatchOption r (IsNot (v.an_operator n) ts) (λ q. Starts (v.an_operator n) ts q.0 q.1.now) →
    MatchOption r (Reads v.part (rule (g.Chain n p)) ts p ts) (λ q. (g.is_open p.shape ≡ false) × Starts (v.an_operator n) ts q.0 q.1.now)
operator_goes n p ts None e h = reads_no_further p (passed h given)
operator_goes n p ts (Some q) e h = (sym e, h)

pub level_at : {m n : ℕ} {p : WrittenTerm} {ts us : List Token} → m ≡ n → Reads v.part (rule (g.Level m)) ts p us → Reads v.part (rule (g.Level n)) ts p us
level_at {p = p} {ts = ts} {us = us} e h = subst (λ k. Reads v.part (rule (g.Level k)) ts p us) e h

pub level_refuses_at : (m n : ℕ) (us : List Token) (w : Stop Token) → m ≡ n → Refuses (rule (g.Level m)) us w → Refuses (rule (g.Level n)) us w
level_refuses_at m n us w e h = subst (λ k. Refuses (rule (g.Level k)) us w) e h
