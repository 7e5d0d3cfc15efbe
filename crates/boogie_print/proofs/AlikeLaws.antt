-- Tokens that differ in their places alone spell the same and have as many unclosed brackets.
use Rattle.std.proofs.Common.{◌≡◌, ◌∙◌, ℕ, zero, suc, ◌≤◌, Bool, List, [], ◌∷◌, ◌++◌, Option, Some, None, take, drop, refl, sym, ap, subst}
use Rattle.std.specs.Prelude.{fold}
use Rattle.vb_base.specs.Limits.{max_unclosed_brackets}
use Rattle.grammar.specs.Rules.{Starts}
use Rattle.grammar.specs.Spells.{Derives, given, needed, taken, passed, called}
use Rattle.vb_base.specs.declared.places.Pos.{Pos}
use Rattle.boogie_grammar.specs.declared.tokens.Lexeme.{Lexeme}
use Rattle.boogie_grammar.specs.declared.tokens.PlacedLexeme.{PlacedLexeme}
use Rattle.boogie_grammar.specs.Cut.{IsCut, IsRow, end, piece, none, more, onto}
use Rattle.boogie_grammar.specs.Depth.{unclosed_with, IsShallow}
use Rattle.boogie_grammar.specs.Faults.{Stops}
use Rattle.boogie_grammar.specs.Faults as s
use Rattle.boogie_grammar.specs.Grammar.{Rule, read, rules, boogie}
use Rattle.boogie_grammar.specs.Tests as v
use Rattle.boogie_grammar.specs.Tests.{Kind, Value, Test, Passes}
use Rattle.boogie_print.proofs.CutLaws.{one_piece}

pub data Alike : List PlacedLexeme → List PlacedLexeme → Type 0 where
  nil : Alike [] []
  cons : {k j : PlacedLexeme} {ts us : List PlacedLexeme} → k.tok ≡ j.tok → Alike ts us → Alike (k ∷ ts) (j ∷ us)

pub alike_sym : {ts us : List PlacedLexeme} → Alike ts us → Alike us ts
alike_sym nil = nil
alike_sym (cons e a) = cons (sym e) (alike_sym a)

-- what they spell

pub passes_alike : {b : Bool} {r : Kind} (c : Test b r) (k j : PlacedLexeme) (x : Value r) → k.tok ≡ j.tok → Passes c k x → Passes c j x
passes_alike (v.the_sign o) k j x e p = sym e ∙ p
passes_alike (v.the_word w) k j x e p = sym e ∙ p
passes_alike (v.the_name y) k j x e p = sym e ∙ p
passes_alike (v.a_new_name names) k j x e p = (sym e ∙ p.0, p.1, p.2)
passes_alike (v.a_variable names some) k j x e p = record { name = p.name; is = sym e ∙ p.is; free = p.free; there = p.there }
passes_alike v.a_number k j x e p = sym e ∙ p
passes_alike v.a_real k j x e p = sym e ∙ p
passes_alike v.a_label k j x e p = sym e ∙ p
passes_alike v.a_base k j x e p = sym e ∙ p
passes_alike v.a_key k j x e p = (sym e ∙ p.0, p.1)
passes_alike v.an_operator k j x e p = sym e ∙ p

-- the first token, and what follows it
pub record First (k : PlacedLexeme) (ts us : List PlacedLexeme) : Type 0 where
  pub token : PlacedLexeme
  pub rest : List PlacedLexeme
  pub is : us ≡ token ∷ rest
  pub same : k.tok ≡ token.tok
  pub alike : Alike ts rest

pub first_of : {k : PlacedLexeme} {ts us : List PlacedLexeme} → Alike (k ∷ ts) us → First k ts us
first_of (cons {j = j} {us = us} e a) = record { token = j; rest = us; is = refl; same = e; alike = a }

pub record Split (ts us vs : List PlacedLexeme) : Type 0 where
  pub front : List PlacedLexeme
  pub behind : List PlacedLexeme
  pub is : front ++ behind ≡ vs
  pub front_alike : Alike ts front
  pub behind_alike : Alike us behind

pub split_of : (ts : List PlacedLexeme) {us vs : List PlacedLexeme} → Alike (ts ++ us) vs → Split ts us vs
split_of [] {vs = vs} a = record { front = []; behind = vs; is = refl; front_alike = nil; behind_alike = a }
split_of (k ∷ ts) (cons {j = j} e a) =
    let s = split_of ts a in
    record { front = j ∷ s.front; behind = s.behind; is = ap (λ l. j ∷ l) s.is; front_alike = cons e s.front_alike; behind_alike = s.behind_alike }

record Starting {b : Bool} {r : Kind} (c : Test b r) (ts us : List PlacedLexeme) (x : Value r) : Type 0 where
  rest : List PlacedLexeme
  starts : Starts boogie c ts x rest
  alike : Alike us rest

starting : {b : Bool} {r : Kind} {c : Test b r} {ts us vs : List PlacedLexeme} {x : Value r} → Starts boogie c ts x us → Alike ts vs → Starting c vs us x
starting {c = c} {us = us} {vs = vs} {x = x} h a =
    let f = first_of (subst (λ l. Alike l vs) h.is a) in
    record { rest = f.rest; starts = record { token = f.token; is = f.is; passes = passes_alike c h.token f.token x f.same h.passes }; alike = f.alike }

pub derives_alike : {s : Kind} {a : Rule s} {ts us : List PlacedLexeme} {x : Value s} → Derives rules s a ts x → Alike ts us → Derives rules s a us x
derives_alike given nil = given
derives_alike (needed h d) a = let s = starting h a in needed s.starts (derives_alike d s.alike)
derives_alike (taken h d) a = let s = starting h a in taken s.starts (derives_alike d s.alike)
derives_alike (passed d) a = passed (derives_alike d a)
derives_alike {x = x} (called {a = b} {go = go} {ts = ts} h d) a =
    let s = split_of ts a in
    subst (λ l. Derives rules _ (read b go) l x) s.is (called {a = b} {go = go} (derives_alike h s.front_alike) (derives_alike d s.behind_alike))

-- a row has its tokens in one way

onto_alike : (o : Option Lexeme) (p q : Pos) {ts us : List PlacedLexeme} → Alike ts us → Alike (onto o p ts) (onto o q us)
onto_alike None p q a = a
onto_alike (Some t) p q a = cons refl a

pub one_row : {bytes : List ℕ} {ts us : List PlacedLexeme} → IsRow bytes ts → IsRow bytes us → Alike ts us
one_row none none = nil
one_row (more {bytes = bytes} {b = b} {o = o} at {tokens = ts} p h) (more {o = q} place {tokens = us} r k) =
    let same = one_piece p r in
    let rest : Alike ts us = one_row h (subst (λ n. IsRow (drop n (b ∷ bytes)) us) (sym same.1) k) in
    subst (λ x. Alike (onto o at ts) (onto x place us)) same.0 (onto_alike o at place rest)

pub row_of : {before bytes : List ℕ} {ts : List PlacedLexeme} → IsCut before bytes ts → IsRow bytes ts
row_of end = none
row_of (piece {at = at} p a h) = more at p (row_of h)

pub never_row : {before rest : List ℕ} {at : Pos} {ts : List PlacedLexeme} → Stops before rest at → IsRow rest ts → ⊥
never_row (s.here n a) (more at p h) = n _ _ p
never_row (s.later {bytes = bytes} {b = b} p h) (more at {tokens = ts} r k) =
    never_row h (subst (λ n. IsRow (drop n (b ∷ bytes)) ts) (sym (one_piece p r).1) k)

-- brackets

take_alike : (n : ℕ) {ts us : List PlacedLexeme} → Alike ts us → Alike (take n ts) (take n us)
take_alike zero a = nil
take_alike (suc n) nil = nil
take_alike (suc n) (cons e a) = cons e (take_alike n a)

fold_alike : (m : ℕ) {ts us : List PlacedLexeme} → Alike ts us → fold (λ n (t : PlacedLexeme). unclosed_with n t.tok) m ts ≡ fold (λ n (t : PlacedLexeme). unclosed_with n t.tok) m us
fold_alike m nil = refl
fold_alike m (cons {k = k} {j = j} {ts = ts} e a) =
    ap (λ t. fold (λ n (u : PlacedLexeme). unclosed_with n u.tok) (unclosed_with m t) ts) e ∙ fold_alike (unclosed_with m j.tok) a

pub shallow_alike : {ts us : List PlacedLexeme} → Alike ts us → IsShallow ts → IsShallow us
shallow_alike a h n = subst (λ m. m ≤ max_unclosed_brackets) (fold_alike 0 (take_alike n a)) (h n)
