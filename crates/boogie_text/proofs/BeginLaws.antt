-- With which expression tokens begin, by what is read of them.
use Rattle.std.proofs.Common.{◌≡◌, ◌∙◌, refl, sym, ap, subst, ℕ, ◌+◌, ◌-◌, ◌<◌, ◌≤◌, ◌⊎◌, inl, inr, Bool, true, false, List, [], ◌∷◌, ◌++◌, Option, Some, None, map, length, take, drop, append_assoc, arith, Err, Bor, MatchOption, is_some, if◌then◌else◌, ◌==◌, suc}
use Rattle.std.specs.Str.{bytes_eq}
use Rattle.std.proofs.lemmas.Bool.{cases_order, eqb-true}
use Rattle.std.proofs.lemmas.List.{length-append, length-map, map-append, take-append-le, take-append-drop}
use Rattle.std.proofs.Math.Seq.{take-append_seam, take-append-add}
use Rattle.vb_base.specs.Place.{Begins, IsPlace}
use Rattle.vb_base.proofs.PlaceLaws.{one_place}
use Rattle.grammar.specs.Spells.{Derives}
use Rattle.grammar.specs.Whole as text
use Rattle.grammar.specs.declared.stop.Stop.{Stop}
use Rattle.grammar.specs.declared.stop.Stop.TheVariants as stop
use Rattle.grammar.proofs.Sets.{among}
use Rattle.grammar.proofs.Fronts.{same_self}
use Rattle.grammar.proofs.Complete as grammar
use Rattle.grammar.proofs.Whole as whole
use Rattle.grammar.proofs.Whole.{split, count}
use Rattle.boogie_tree.specs.Expr as t
use Rattle.boogie_grammar.specs.declared.tokens.BSign.TheVariants as sign
use Rattle.boogie_grammar.specs.declared.tokens.Lexeme.{Lexeme}
use Rattle.boogie_grammar.specs.declared.tokens.Lexeme.TheVariants as tok
use Rattle.boogie_grammar.specs.declared.tokens.PlacedLexeme.{PlacedLexeme}
use Rattle.boogie_grammar.specs.Words.{reserved}
use Rattle.boogie_grammar.specs.Tests as v
use Rattle.boogie_grammar.specs.Grammar as g
use Rattle.boogie_grammar.specs.Grammar.{rule, rules}
use Rattle.boogie_grammar.specs.Greedy.{Reads, Fails, Refuses, IsNot, Starts}
use Rattle.boogie_grammar.proofs.Elements.{laws}
use Rattle.boogie_grammar.proofs.Reading.{boogie_steps}
use Rattle.boogie_text.specs.ReadExpr.{SpellsExpr, IsExpr, StartsIndex, BeginsExpr, BeginsNone}
use Rattle.boogie_text.specs.ReadSteps.{NoToken, ended, broken, ReadsAlone}
use Rattle.boogie_print.proofs.Codes.{code, code_in, ext_codes, table}
use Rattle.boogie_print.proofs.Complete.{complete, good}
open boogie_steps use {derivation, one_reading, start}

-- a `[` by its code

code_at-le : (b : Bool) (n m k : ℕ) → m ≤ n + 1 + k → (if b then n else m) ≤ n + suc k
code_at-le true n m k h = omega arith
code_at-le false n m k h = omega (arith, h)

code_in-le : (x : List ℕ) (ys : List (List ℕ)) (n : ℕ) → 1 ≤ n → code_in x ys n ≤ n + length ys
code_in-le x [] n h = omega arith
code_in-le x (y ∷ ys) n h = code_at-le (bytes_eq x y) n (code_in x ys (n + 1)) (length ys) (code_in-le x ys (n + 1) (omega arith))

only_54 : (n : ℕ) → among n (54 ∷ []) ≡ true → n ≡ 54
only_54 n h = eqb-true n 54 (by_case (n == 54) h) where
  by_case : (b : Bool) → (if b then true else false) ≡ true → b ≡ true
  by_case true e = refl
  by_case false e = cc

bracket : (k : Lexeme) → among (code k) (54 ∷ []) ≡ true → k ≡ tok.Sign sign.OpenBracket
bracket (tok.Name x) h = absurd (let e = only_54 (code_in x reserved 10) h in let le = code_in-le x reserved 10 (omega arith) in omega arith)
bracket (tok.Number n) h = cc
bracket (tok.Real n) h = cc
bracket (tok.Text l) h = cc
bracket (tok.Sign sign.OpenBracket) h = refl
bracket (tok.Sign sign.OpenParen) h = cc
bracket (tok.Sign sign.CloseParen) h = cc
bracket (tok.Sign sign.OpenBrace) h = cc
bracket (tok.Sign sign.CloseBrace) h = cc
bracket (tok.Sign sign.CloseBracket) h = cc
bracket (tok.Sign sign.Comma) h = cc
bracket (tok.Sign sign.Semicolon) h = cc
bracket (tok.Sign sign.Colon) h = cc
bracket (tok.Sign sign.Bounds) h = cc
bracket (tok.Sign sign.Assign) h = cc
bracket (tok.Sign sign.Iff) h = cc
bracket (tok.Sign sign.Implies) h = cc
bracket (tok.Sign sign.Or) h = cc
bracket (tok.Sign sign.And) h = cc
bracket (tok.Sign sign.Equal) h = cc
bracket (tok.Sign sign.NotEqual) h = cc
bracket (tok.Sign sign.AtMost) h = cc
bracket (tok.Sign sign.AtLeast) h = cc
bracket (tok.Sign sign.Less) h = cc
bracket (tok.Sign sign.Greater) h = cc
bracket (tok.Sign sign.Plus) h = cc
bracket (tok.Sign sign.Minus) h = cc
bracket (tok.Sign sign.Star) h = cc
bracket (tok.Sign sign.Slash) h = cc
bracket (tok.Sign sign.Not) h = cc

-- what is derived is read, whatever follows it but a `[`

abbrev pub Free : List PlacedLexeme → Type 0
Free us = (k : PlacedLexeme) (vs : List PlacedLexeme) → us ≡ k ∷ vs → k.tok ≡ tok.Sign sign.OpenBracket → ⊥

abbrev Derived : g.ExprScope → List PlacedLexeme → t.BExpr → Type 0
Derived x ts e = Derives rules v.expr (rule (g.Expr x)) ts e

abbrev Inner : g.ExprScope → List PlacedLexeme → Type 0
Inner x ts = (e : t.BExpr) × Derived x ts e

reads_on : (x : g.ExprScope) {ts : List PlacedLexeme} {e : t.BExpr} → Derived x ts e → (us : List PlacedLexeme) → Free us → Reads v.expr (rule (g.Expr x)) (ts ++ us) e us
reads_on x d us free =
    grammar.reads_all rules table (λ s a. good a) (λ y k. among (code k.tok) (ext_codes (g.Expr x)) ≡ true) (good (g.Expr x)) d us
    (record { none = λ k vs e h. free k vs e (bracket k.tok h) })

-- an expression on which no `[` follows is not the front of another
no_front : (x : g.ExprScope) {ts : List PlacedLexeme} {e f : t.BExpr} (k : PlacedLexeme) (us : List PlacedLexeme) → Derived x ts e → Derived x (ts ++ (k ∷ us)) f → (k.tok ≡ tok.Sign sign.OpenBracket → ⊥) → ⊥
no_front x {ts = ts} k us d h n =
    let i = reads_on x d (k ∷ us) (λ j vs is b. n (let same : k ≡ j = cc in subst (λ z. z.tok ≡ tok.Sign sign.OpenBracket) (sym same) b)) in
    let same = (one_reading i (complete (g.Expr x) h)).1 in
    cc

same_expr : (x : g.ExprScope) {ts us : List PlacedLexeme} {e f : t.BExpr} → ts ≡ us → Derived x ts e → Derived x us f → e ≡ f
same_expr x {us = us} {e = e} is d h = (one_reading (complete (g.Expr x) (subst (λ l. Derived x l e) is d)) (complete (g.Expr x) h)).0

-- lists of tokens

abbrev somes : List PlacedLexeme → List (Option PlacedLexeme)
somes ts = map Some ts

same_tail : {T : Type 0} {x y : T} {xs ys : List T} → x ∷ xs ≡ y ∷ ys → xs ≡ ys
same_tail e = cc

same_some : {x y : PlacedLexeme} {xs ys : List (Option PlacedLexeme)} → Some x ∷ xs ≡ Some y ∷ ys → x ≡ y
same_some e = cc

more_than : (ts us : List PlacedLexeme) (ws : List (Option PlacedLexeme)) → somes ts ++ ws ≡ somes us → (vs : List PlacedLexeme) × (us ≡ ts ++ vs)
more_than [] us ws e = (us, refl)
more_than (k ∷ ts) [] ws e = absurd (cc)
more_than (k ∷ ts) (j ∷ us) ws e =
    let same : k ≡ j = same_some e in
    let h = more_than ts us ws (same_tail e) in
    (h.0, ap (λ l. j ∷ l) h.1 ∙ ap (λ i. i ∷ (ts ++ h.0)) (sym same))

none_there : (ts us : List PlacedLexeme) (ws : List (Option PlacedLexeme)) → (somes ts ++ (None ∷ [])) ++ ws ≡ somes us → ⊥
none_there [] [] ws e = cc
none_there [] (j ∷ us) ws e = cc
none_there (k ∷ ts) [] ws e = cc
none_there (k ∷ ts) (j ∷ us) ws e = none_there ts us ws (same_tail e)

-- of two fronts of a list one begins with the other
data Fronts (ts us : List PlacedLexeme) (s z : List (Option PlacedLexeme)) : Type 0 where
  longer : (k : PlacedLexeme) (more : List PlacedLexeme) → ts ≡ us ++ (k ∷ more) → z ≡ Some k ∷ (somes more ++ s) → Fronts ts us s z
  shorter : (k : PlacedLexeme) (more : List PlacedLexeme) → us ≡ ts ++ (k ∷ more) → s ≡ Some k ∷ (somes more ++ z) → Fronts ts us s z
  equal : ts ≡ us → s ≡ z → Fronts ts us s z

fronts : (ts us : List PlacedLexeme) (s z : List (Option PlacedLexeme)) → somes ts ++ s ≡ somes us ++ z → Fronts ts us s z
fronts [] [] s z e = equal refl e
fronts [] (j ∷ us) s z e = shorter j us refl e
fronts (k ∷ ts) [] s z e = longer k ts refl (sym e)
fronts (k ∷ ts) (j ∷ us) s z e = by_case (same_some e) (fronts ts us s z (same_tail e)) where
  by_case : k ≡ j → Fronts ts us s z → Fronts (k ∷ ts) (j ∷ us) s z
  by_case same (longer i more is rest) = longer i more (ap (λ l. k ∷ l) is ∙ ap (λ h. h ∷ (us ++ (i ∷ more))) same) rest
  by_case same (shorter i more is rest) = shorter i more (ap (λ l. j ∷ l) is ∙ ap (λ h. h ∷ (ts ++ (i ∷ more))) (sym same)) rest
  by_case same (equal is rest) = equal (ap (λ l. k ∷ l) is ∙ ap (λ h. h ∷ us) same) rest

-- a place by its two sides
at_seam : {T : Type 0} (P : List T → Type 0) (front rest : List T) → Begins P front → ((k : T) (vs : List T) → rest ≡ k ∷ vs → Begins P (front ++ (k ∷ [])) → ⊥) → IsPlace P (front ++ rest) (length front)
at_seam {T} P front rest b n = record {
  within = omega (arith, length-append front rest);
  before = subst (λ l. Begins P l) (sym (take-append_seam front rest)) b;
  after = after rest n;
} where
  after : (r : List T) → ((k : T) (vs : List T) → r ≡ k ∷ vs → Begins P (front ++ (k ∷ [])) → ⊥) → length front < length (front ++ r) → Begins P (take (length front + 1) (front ++ r)) → ⊥
  after [] n lt b = absurd (omega (arith, lt, length-append front []))
  after (k ∷ vs) n lt b = n k vs refl (subst (λ l. Begins P l) (take-append-add front (k ∷ vs) 1) b)

-- a front begins an expression, and with the next token none; and it is no expression on which no `[` follows
record Wrong (x : g.ExprScope) (front left : List PlacedLexeme) : Type 0 where
  more : List PlacedLexeme
  tree : t.BExpr
  derives : Derived x (front ++ more) tree
  after : (k : PlacedLexeme) (vs : List PlacedLexeme) → left ≡ k ∷ vs → (us : List PlacedLexeme) (e : t.BExpr) → Derived x ((front ++ (k ∷ [])) ++ us) e → ⊥
  seam : (e : t.BExpr) → Derived x front e → Free left → ⊥

whole_is : (f r : List PlacedLexeme) (os : List (Option PlacedLexeme)) → somes (f ++ r) ++ os ≡ somes f ++ (somes r ++ os)
whole_is f r os = ap (λ l. l ++ os) (map-append Some f r) ∙ append_assoc (somes f) (somes r) os

begins_front : (x : g.ExprScope) (f r : List PlacedLexeme) → Wrong x f r → Begins (IsExpr x) (somes f)
begins_front x f r w = (somes w.more, (w.tree, record { tokens = f ++ w.more; all = sym (map-append Some f w.more); spells = w.derives }))

ends_there : (x : g.ExprScope) (f r : List PlacedLexeme) (os : List (Option PlacedLexeme)) → Wrong x f r → NoToken os →
    (k : Option PlacedLexeme) (vs : List (Option PlacedLexeme)) → somes r ++ os ≡ k ∷ vs → Begins (IsExpr x) (somes f ++ (k ∷ [])) → ⊥
ends_there x f [] _ w ended k vs is b = cc
ends_there x f [] _ w broken k vs is b =
    let same : k ≡ None = cc in
    let s = b.1.1 in
    none_there f s.tokens b.0 (subst (λ o. (somes f ++ (o ∷ [])) ++ b.0 ≡ somes s.tokens) same s.all)
ends_there x f (j ∷ r) os w last k vs is b =
    let same : k ≡ Some j = cc in
    let s = b.1.1 in
    let all : (somes f ++ (Some j ∷ [])) ++ b.0 ≡ somes s.tokens = subst (λ o. (somes f ++ (o ∷ [])) ++ b.0 ≡ somes s.tokens) same s.all in
    let h = more_than (f ++ (j ∷ [])) s.tokens b.0 (ap (λ l. l ++ b.0) (map-append Some f (j ∷ [])) ∙ all) in
    w.after j r refl h.0 b.1.0 (subst (λ l. Derived x l b.1.0) h.1 s.spells)

no_begin : (x : g.ExprScope) (f r : List PlacedLexeme) (os : List (Option PlacedLexeme)) → Wrong x f r → NoToken os → (n : ℕ) (e : t.BExpr) → BeginsExpr x (somes (f ++ r) ++ os) n e → ⊥
no_begin x f r os w last n e b = by_case (fronts s.tokens f b.rest (somes r ++ os) all) where
  s : SpellsExpr x b.front e
  s = b.spells

  all : somes s.tokens ++ b.rest ≡ somes f ++ (somes r ++ os)
  all = ap (λ l. l ++ b.rest) (sym s.all) ∙ sym b.whole ∙ whole_is f r os

  over : (q : List PlacedLexeme) (p : List (Option PlacedLexeme)) → NoToken p → (k : PlacedLexeme) (more : List PlacedLexeme) → Wrong x f q → s.tokens ≡ f ++ (k ∷ more) → somes q ++ p ≡ Some k ∷ (somes more ++ b.rest) → ⊥
  over [] _ ended k more w' is rest = cc
  over [] _ broken k more w' is rest = cc
  over (j ∷ q) p last' k more w' is rest =
      let same : k ≡ j = cc in
      w'.after k q (ap (λ i. i ∷ q) (sym same)) more e (subst (λ l. Derived x l e) (is ∙ sym (append_assoc f (k ∷ []) more)) s.spells)

  by_case : Fronts s.tokens f b.rest (somes r ++ os) → ⊥
  by_case (longer k more is rest) = over r os last k more w is rest
  by_case (shorter k more is rest) =
      let same : f ++ w.more ≡ s.tokens ++ (k ∷ (more ++ w.more)) = ap (λ l. l ++ w.more) is ∙ append_assoc s.tokens (k ∷ more) w.more in
      no_front x k (more ++ w.more) s.spells (subst (λ l. Derived x l w.tree) same w.derives)
      (λ h. b.ends (record { token = k; rest = somes more ++ (somes r ++ os); is = rest; bracket = h }))
  by_case (equal is rest) = w.seam e (subst (λ l. Derived x l e) is s.spells)
      (λ k vs left h. b.ends (record { token = k; rest = somes vs ++ os; is = rest ∙ ap (λ l. somes l ++ os) left; bracket = h }))

begins_none : (x : g.ExprScope) (f r : List PlacedLexeme) (os : List (Option PlacedLexeme)) → Wrong x f r → NoToken os → BeginsNone x (somes (f ++ r) ++ os) (length f)
begins_none x f r os w last = record {
  none = no_begin x f r os w last;
  place =
      let h = at_seam (IsExpr x) (somes f) (somes r ++ os) (begins_front x f r w) (ends_there x f r os w last) in
      subst (λ l. IsPlace (IsExpr x) l (length f)) (sym (whole_is f r os)) (subst (λ n. IsPlace (IsExpr x) (somes f ++ (somes r ++ os)) n) (length-map f Some) h);
}

-- where the tokens of the grammar go wrong

whole_place : (x : g.ExprScope) (ts r : List PlacedLexeme) → text.FailsWhole rules (rule (g.Expr x)) ts r → IsPlace (Inner x) ts (length ts - length r)
whole_place x ts r h = whole.place_of rules (rule (g.Expr x)) (Inner x) (λ l p. (p.0, complete (g.Expr x) p.1)) (λ l e d. (e, d)) ts r h

past : (x : g.ExprScope) (f : List PlacedLexeme) (k : PlacedLexeme) (r : List PlacedLexeme) → IsPlace (Inner x) (f ++ (k ∷ r)) (length (f ++ (k ∷ r)) - length (k ∷ r)) →
    (us : List PlacedLexeme) (e : t.BExpr) → Derived x ((f ++ (k ∷ [])) ++ us) e → ⊥
past x f k r p us e d =
    let n = count f (k ∷ r) in
    let taken : take (length (f ++ (k ∷ r)) - length (k ∷ r) + 1) (f ++ (k ∷ r)) ≡ f ++ (k ∷ []) = ap (λ m. take (m + 1) (f ++ (k ∷ r))) n ∙ take-append-add f (k ∷ r) 1 in
    let b : Begins (Inner x) (f ++ (k ∷ [])) = (us, (e, d)) in
    p.after (omega (arith, n, length-append f (k ∷ r))) (subst (λ l. Begins (Inner x) l) (sym taken) b)

abbrev Seam : g.ExprScope → List PlacedLexeme → List PlacedLexeme → Type 0
Seam x ts r = (f : List PlacedLexeme) → ts ≡ f ++ r → (e : t.BExpr) → Derived x f e → Free r → ⊥

wrong : (x : g.ExprScope) (ts r : List PlacedLexeme) (h : text.FailsWhole rules (rule (g.Expr x)) ts r) → Seam x ts r → (f : List PlacedLexeme) × (ts ≡ f ++ r) × Wrong x f r
wrong x ts r h seam =
    let o = h.opens in
    let q = split o.front in (
      q.front,
      q.left,
      record {
        more = o.rest;
        tree = o.tree;
        derives = subst (λ l. Derived x l o.tree) q.right o.derives;
        after = λ k vs is us e d.
            let all : ts ≡ q.front ++ (k ∷ vs) = q.left ∙ ap (λ l. q.front ++ l) is in
            let there : IsPlace (Inner x) ts (length ts - length (k ∷ vs)) = subst (λ l. IsPlace (Inner x) ts (length ts - length l)) is (whole_place x ts r h) in
            past x q.front k vs (subst (λ l. IsPlace (Inner x) l (length l - length (k ∷ vs))) all there) us e d;
        seam = λ e d free. seam q.front q.left e d free;
      },
    )

pub none_of : (x : g.ExprScope) (ts r : List PlacedLexeme) → text.FailsWhole rules (rule (g.Expr x)) ts r → Seam x ts r →
    (length r ≤ length ts) × ((os : List (Option PlacedLexeme)) → NoToken os → BeginsNone x (somes ts ++ os) (length ts - length r))
none_of x ts r h seam =
    let w = wrong x ts r h seam in
    let size : length ts - length r ≡ length w.0 = ap (λ l. length l - length r) w.1 ∙ count w.0 r in (
      omega (arith, ap length w.1, length-append w.0 r),
      λ os last.
          let At : List PlacedLexeme → Type 0 = λ l. BeginsNone x (somes l ++ os) (length w.0) in
          subst (λ n. BeginsNone x (somes ts ++ os) n) (sym size) (subst At (sym w.1) (begins_none x w.0 r os w.2 last)),
    )

-- reading stops
pub none_where_stopped : (x : g.ExprScope) (ts r : List PlacedLexeme) → Fails (rule (g.Expr x)) ts r →
    (length r ≤ length ts) × ((os : List (Option PlacedLexeme)) → NoToken os → BeginsNone x (somes ts ++ os) (length ts - length r))
none_where_stopped x ts r h = none_of x ts r (whole.whole_fails (start (rule (g.Expr x)) ts) h) (λ f is e d free.
    let s = h.stuck r (same_self r) in
    let q = split s.front in
    let same : f ++ r ≡ s.all = sym is ∙ q.left ∙ sym q.right in
    s.none e r (subst (λ l. Reads v.expr (rule (g.Expr x)) l e r) same (reads_on x d r free)))

-- an expression is read, and a `[` is next
pub none_at_bracket : (x : g.ExprScope) (ts r : List PlacedLexeme) {e : t.BExpr} (k : PlacedLexeme) (vs : List PlacedLexeme) → Reads v.expr (rule (g.Expr x)) ts e r → r ≡ k ∷ vs → k.tok ≡ tok.Sign sign.OpenBracket →
    (length r ≤ length ts) × ((os : List (Option PlacedLexeme)) → NoToken os → BeginsNone x (somes ts ++ os) (length ts - length r))
none_at_bracket x ts r k vs h is b = none_of x ts r (whole.left_over rules laws h k vs is) (λ f all e d free. free k vs is b)

-- an expression is read, and no `[` is next
pub some_of : (x : g.ExprScope) (ts r : List PlacedLexeme) {e : t.BExpr} → Reads v.expr (rule (g.Expr x)) ts e r → Free r →
    (length r ≤ length ts) × ((os : List (Option PlacedLexeme)) → NoToken os → BeginsExpr x (somes ts ++ os) (length ts - length r) e)
some_of x ts r {e = e} h free =
    let d = derivation h in
    let size : length ts - length r ≡ length d.front = ap (λ l. length l - length r) d.is ∙ count d.front r in (
      omega (arith, ap length d.is, length-append d.front r),
      λ os last. record {
        front = somes d.front;
        rest = somes r ++ os;
        whole = ap (λ l. somes l ++ os) d.is ∙ whole_is d.front r os;
        size = size ∙ sym (length-map d.front Some);
        spells = record { tokens = d.front; all = refl; spells = d.derives };
        ends = not_next r os last free;
      },
    ) where
      not_next : (l : List PlacedLexeme) (os : List (Option PlacedLexeme)) → NoToken os → Free l → StartsIndex (somes l ++ os) → ⊥
      not_next [] _ ended f s = let h = s.is in cc
      not_next [] _ broken f s = let h = s.is in cc
      not_next (k ∷ l) os last f s = let same : k ≡ s.token = same_some s.is in f k l refl (subst (λ j. j.tok ≡ tok.Sign sign.OpenBracket) (sym same) s.bracket)

-- what some tokens begin with, more of them begin with

starts_more : (os ws : List (Option PlacedLexeme)) → StartsIndex os → StartsIndex (os ++ ws)
starts_more os ws s = record { token = s.token; rest = s.rest ++ ws; is = ap (λ l. l ++ ws) s.is; bracket = s.bracket }

starts_less : (os ws : List (Option PlacedLexeme)) → 0 < length os → StartsIndex (os ++ ws) → StartsIndex os
starts_less [] ws some s = absurd (omega arith)
starts_less (o ∷ os) ws some s = let same : o ≡ Some s.token = cc (s.is) in record { token = s.token; rest = os; is = ap (λ z. z ∷ os) same; bracket = s.bracket }

pub begins_more : {x : g.ExprScope} {os : List (Option PlacedLexeme)} {n : ℕ} {e : t.BExpr} → BeginsExpr x os n e → n < length os → (ws : List (Option PlacedLexeme)) → BeginsExpr x (os ++ ws) n e
begins_more {os = os} {n = n} b lt ws = record {
  front = b.front;
  rest = b.rest ++ ws;
  whole = ap (λ l. l ++ ws) b.whole ∙ append_assoc b.front b.rest ws;
  size = b.size;
  spells = b.spells;
  ends = λ s. b.ends (starts_less b.rest ws (omega (arith, lt, b.size, ap length b.whole, length-append b.front b.rest)) s);
}

-- an expression ends before the place from which on there is none
ends_before : {x : g.ExprScope} {os : List (Option PlacedLexeme)} {n i : ℕ} {e : t.BExpr} → BeginsExpr x os n e → (i < length os → Begins (IsExpr x) (take (i + 1) os) → ⊥) → i < n → ⊥
ends_before {x} {os} {n} {i} {e} b after lt =
    let long : length os ≡ length b.front + length b.rest = ap length b.whole ∙ length-append b.front b.rest in
    let taken : take (i + 1) os ≡ take (i + 1) b.front = ap (take (i + 1)) b.whole ∙ take-append-le (i + 1) b.front b.rest (omega (arith, lt, b.size)) in
    let begins : Begins (IsExpr x) (take (i + 1) os) = (drop (i + 1) b.front, (e, subst (λ l. SpellsExpr x l e) (sym (ap (λ l. l ++ drop (i + 1) b.front) taken ∙ take-append-drop (i + 1) b.front)) b.spells)) in
    after (omega (arith, lt, b.size, long)) begins

begins_less : {x : g.ExprScope} (os ws : List (Option PlacedLexeme)) {n : ℕ} {e : t.BExpr} → BeginsExpr x (os ++ ws) n e → n ≤ length os → BeginsExpr x os n e
begins_less {x} os ws {n} {e} b le =
    let front : take n os ≡ b.front = sym (take-append-le n os ws le) ∙ ap (take n) b.whole ∙ ap (λ m. take m (b.front ++ b.rest)) b.size ∙ take-append_seam b.front b.rest in
    let both : b.front ++ (drop n os ++ ws) ≡ b.front ++ b.rest = ap (λ l. l ++ (drop n os ++ ws)) (sym front) ∙ sym (append_assoc (take n os) (drop n os) ws) ∙ ap (λ l. l ++ ws) (take-append-drop n os) ∙ b.whole in
    record {
      front = b.front;
      rest = drop n os;
      whole = sym (take-append-drop n os) ∙ ap (λ l. l ++ drop n os) front;
      size = b.size;
      spells = b.spells;
      ends = λ s. b.ends (subst StartsIndex (append_same b.front both) (starts_more (drop n os) ws s));
    } where
      append_same : (f : List (Option PlacedLexeme)) {ys zs : List (Option PlacedLexeme)} → f ++ ys ≡ f ++ zs → ys ≡ zs
      append_same [] h = h
      append_same (o ∷ f) h = append_same f (same_tail h)

pub none_more : {x : g.ExprScope} {os : List (Option PlacedLexeme)} {i : ℕ} → BeginsNone x os i → i < length os → (ws : List (Option PlacedLexeme)) → BeginsNone x (os ++ ws) i
none_more {x} {os} {i} h lt ws =
    let after : i < length (os ++ ws) → Begins (IsExpr x) (take (i + 1) (os ++ ws)) → ⊥ = λ _ b. h.place.after lt (subst (λ l. Begins (IsExpr x) l) (take-append-le (i + 1) os ws (omega (arith, lt))) b) in
    record {
      none = λ n e b. by_case n e b (cases_order i n) after;
      place = record {
        within = omega (arith, lt, length-append os ws);
        before = subst (λ l. Begins (IsExpr x) l) (sym (take-append-le i os ws (omega (arith, lt)))) h.place.before;
        after = after;
      };
    } where
      by_case : (n : ℕ) (e : t.BExpr) → BeginsExpr x (os ++ ws) n e → (i ≡ n) ⊎ ((i < n) ⊎ (n < i)) → (i < length (os ++ ws) → Begins (IsExpr x) (take (i + 1) (os ++ ws)) → ⊥) → ⊥
      by_case n e b (inl same) after = h.none n e (begins_less os ws b (omega (arith, same, lt)))
      by_case n e b (inr (inl over)) after = ends_before b after over
      by_case n e b (inr (inr under)) after = h.none n e (begins_less os ws b (omega (arith, under, lt)))

-- there is one expression at most, and one place

pub one_begin : {x : g.ExprScope} {os : List (Option PlacedLexeme)} {n m : ℕ} {e f : t.BExpr} → BeginsExpr x os n e → BeginsExpr x os m f → (n ≡ m) × (e ≡ f)
one_begin {x} {os} {n} {m} {e} {f} a b = by_case (fronts a.spells.tokens b.spells.tokens a.rest b.rest both) where
  both : somes a.spells.tokens ++ a.rest ≡ somes b.spells.tokens ++ b.rest
  both = ap (λ l. l ++ a.rest) (sym a.spells.all) ∙ sym a.whole ∙ b.whole ∙ ap (λ l. l ++ b.rest) b.spells.all

  size_of : {y : t.BExpr} {k : ℕ} (c : BeginsExpr x os k y) → k ≡ length c.spells.tokens
  size_of c = c.size ∙ ap length c.spells.all ∙ length-map c.spells.tokens Some

  by_case : Fronts a.spells.tokens b.spells.tokens a.rest b.rest → (n ≡ m) × (e ≡ f)
  by_case (longer k more is rest) = absurd (no_front x k more b.spells.spells (subst (λ l. Derived x l e) is a.spells.spells) (λ h. b.ends (record { token = k; rest = somes more ++ a.rest; is = rest; bracket = h })))
  by_case (shorter k more is rest) = absurd (no_front x k more a.spells.spells (subst (λ l. Derived x l f) is b.spells.spells) (λ h. a.ends (record { token = k; rest = somes more ++ b.rest; is = rest; bracket = h })))
  by_case (equal is rest) = (size_of a ∙ ap length is ∙ sym (size_of b), same_expr x is a.spells.spells b.spells.spells)

pub one_end : {x : g.ExprScope} {os : List (Option PlacedLexeme)} {i j : ℕ} → BeginsNone x os i → BeginsNone x os j → i ≡ j
one_end {x} {os} {i} {j} a b = one_place (IsExpr x) os i j a.place b.place

-- what the reader of one expression answers

pub stopped : (x : g.ExprScope) (ts : List PlacedLexeme) (w : Stop PlacedLexeme) → Refuses (rule (g.Expr x)) ts w → ReadsAlone x ts (Err w)
stopped x ts stop.Memory h = tt
stopped x ts (stop.Before r) h = none_where_stopped x ts r.now h

pub indexed : (x : g.ExprScope) (ts r : List PlacedLexeme) {e : t.BExpr} → Reads v.expr (rule (g.Expr x)) ts e r → (o : Option (Bor (List PlacedLexeme))) → MatchOption o (IsNot (v.the_sign sign.OpenBracket) r) (λ us. Starts (v.the_sign sign.OpenBracket) r tt us.now) → is_some o ≡ true →
    (length r ≤ length ts) × ((os : List (Option PlacedLexeme)) → NoToken os → BeginsNone x (somes ts ++ os) (length ts - length r))
indexed x ts r h None m is = cc
indexed x ts r h (Some us) m is = none_at_bracket x ts r m.token us.now h m.is m.passes

pub unindexed : (x : g.ExprScope) (ts r : List PlacedLexeme) {e : t.BExpr} → Reads v.expr (rule (g.Expr x)) ts e r → (o : Option (Bor (List PlacedLexeme))) → MatchOption o (IsNot (v.the_sign sign.OpenBracket) r) (λ us. Starts (v.the_sign sign.OpenBracket) r tt us.now) → is_some o ≡ false →
    (length r ≤ length ts) × ((os : List (Option PlacedLexeme)) → NoToken os → BeginsExpr x (somes ts ++ os) (length ts - length r) e)
unindexed x ts r h (Some us) m is = cc
unindexed x ts r h None m is = some_of x ts r h (λ k vs left b. m.none tt vs (record { token = k; is = left; passes = b }))
