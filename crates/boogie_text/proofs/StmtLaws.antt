-- The rule of a statement, by what is next.
use Rattle.std.proofs.Common.{◌≡◌, ◌∙◌, refl, sym, ap, subst, ℕ, Bool, map, true, false, inl, inr, List, [], ◌∷◌, Err}
use Rattle.std.specs.declared.alloc.Global.{Global}
use Rattle.std.specs.declared.vec.Vec.{Vec}
use Rattle.grammar.specs.declared.stop.Stop.{Stop}
use Rattle.grammar.specs.declared.stop.Stop.TheVariants as stop
use Rattle.boogie_tree.specs.Stmt as s
use Rattle.boogie_tree.specs.Expr as t
use Rattle.boogie_tree.specs.Whole.{expr_of, stmt_of}
use Rattle.boogie_tree.specs.declared.exprs.BExpr.{BExpr}
use Rattle.boogie_tree.specs.declared.stmts.BStmt as stmt
use Rattle.boogie_tree.proofs.WholeLaws.{exprs_of-map}
use Rattle.boogie_grammar.specs.declared.tokens.Lexeme.{Lexeme}
use Rattle.boogie_grammar.specs.declared.tokens.BSign.TheVariants as sign
use Rattle.boogie_grammar.specs.declared.tokens.PlacedLexeme.{PlacedLexeme}
use Rattle.boogie_grammar.specs.declared.tokens.BoogieWord.TheVariants as w
use Rattle.boogie_grammar.specs.Words.{word_tok}
use Rattle.boogie_grammar.specs.Tests as v
use Rattle.boogie_grammar.specs.Tests.{Kind, Value, some_free, the_word, a_variable}
use Rattle.boogie_grammar.specs.Grammar as g
use Rattle.boogie_grammar.specs.Grammar.{Rule, when, give, after_sign, where_true}
use Rattle.boogie_grammar.specs.Greedy.{Starts, IsNot, Reads, Goes, Fails, Refuses}
use Rattle.boogie_grammar.specs.ReadView.{ReadsVariable, NoVariable}
use Rattle.boogie_grammar.proofs.Reading.{boogie_failing, boogie_steps}
use Rattle.boogie_text.specs.StmtView.{changing, storing, EatsHavoc}
open boogie_failing use {fails_taken, fails_here}
open boogie_steps use {start, by_need, by_token, by_other}

-- the scope of what stands in no `forall`

pub outside_is : (ls : List (List ℕ)) {others bound : List (List ℕ)} → others ≡ [] → bound ≡ [] → (let x : g.ExprScope = record { locals = ls; others = others; bound = bound } in x) ≡ g.outside ls
outside_is ls e f = λ i. record { locals = ls; others = e i; bound = f i }

-- what was built

pub read_as : {k : Kind} {a : Rule k} {ts us : List PlacedLexeme} {x y : Value k} → x ≡ y → Reads k a ts y us → Reads k a ts x us
read_as {k = k} {a = a} {ts = ts} {us = us} e h = subst (λ z. Reads k a ts z us) (sym e) h

pub stmt_of-Put : (i : ℕ) (es : Vec BExpr Global) (e : BExpr) → stmt_of (stmt.Put i es e) ≡ s.Put i (t.exprs (map expr_of es.items)) (expr_of e)
stmt_of-Put i es e = ap (λ x. s.Put i x (expr_of e)) (exprs_of-map es.items)

-- no `havoc`

storing_at : {ts : List PlacedLexeme} (b : Bool) (changes stores : b ≡ true → Rule v.stmt) (other : Rule v.stmt) →
    ((h : b ≡ true) → Goes (changes h) ts (stores h) ts) → Goes (where_true b changes other) ts (where_true b stores other) ts
storing_at true changes stores other h = h refl
storing_at {ts = ts} false changes stores other h = start other ts

pub no_havoc : (ls : List (List ℕ)) {ts : List PlacedLexeme} → IsNot (the_word w.Havoc) ts → Goes (changing ls) ts (storing ls) ts
no_havoc ls {ts = ts} n =
    storing_at (some_free ls) (λ some. g.changes ls some) (λ some. when (a_variable ls some) (λ i. g.assignment ls i) (g.conditional ls)) (g.conditional ls)
    (λ some. by_other n (start (g.changes ls some) ts))

-- `havoc` and a variable

changed_at : {ts us : List PlacedLexeme} {r : Rule v.stmt} (b : Bool) (changes : b ≡ true → Rule v.stmt) (other : Rule v.stmt) → b ≡ true →
    ((h : b ≡ true) → Goes (changes h) ts r us) → Goes (where_true b changes other) ts r us
changed_at true changes other e h = h refl
changed_at false changes other e h = absurd (cc)

havoc_goes : (ls : List (List ℕ)) {ts us vs : List PlacedLexeme} {i : _} → Starts (the_word w.Havoc) ts tt us → ReadsVariable ls us i vs →
    Goes (changing ls) ts (after_sign sign.Semicolon (give (s.Havoc i))) vs
havoc_goes ls {ts = ts} p h =
    changed_at (some_free ls) (λ some. g.changes ls some) (g.conditional ls) h.0 (λ some. by_need (h.1 some) (by_token p (start (g.changes ls some) ts)))

-- `havoc` and no variable

fails_at : {ts z : List PlacedLexeme} (b : Bool) (changes : b ≡ true → Rule v.stmt) (other : Rule v.stmt) → b ≡ true → ((h : b ≡ true) → Fails (changes h) ts z) →
    Fails (where_true b changes other) ts z
fails_at true changes other e h = h refl
fails_at false changes other e h = absurd (cc)

fails_else : {ts z : List PlacedLexeme} (b : Bool) (changes : b ≡ true → Rule v.stmt) (other : Rule v.stmt) → b ≡ false → Fails other ts z → Fails (where_true b changes other) ts z
fails_else true changes other e h = absurd (cc)
fails_else false changes other e h = h

havoc_fails : (ls : List (List ℕ)) {ts us : List PlacedLexeme} → Starts (the_word w.Havoc) ts tt us → NoVariable ls us → some_free ls ≡ true → Fails (changing ls) ts us
havoc_fails ls p n e =
    fails_at (some_free ls) (λ some. g.changes ls some) (g.conditional ls) e (λ some. fails_taken p (fails_here (n some)))

same_token : {k l : PlacedLexeme} {ts us : List PlacedLexeme} → k ∷ ts ≡ l ∷ us → k ≡ l
same_token h = cc

no_if : (k : Lexeme) → k ≡ word_tok w.Havoc → k ≡ word_tok w.If → ⊥
no_if k e f = let h : word_tok w.Havoc ≡ word_tok w.If = sym e ∙ f in cc

pub havoc_is_no_if : {ts us : List PlacedLexeme} → Starts (the_word w.Havoc) ts tt us → IsNot (the_word w.If) ts
havoc_is_no_if p = record { none = λ v vs q. no_if p.token.tok p.passes (ap (λ (k : PlacedLexeme). k.tok) (same_token (sym p.is ∙ q.is)) ∙ q.passes) }

havoc_stands_nowhere : (ls : List (List ℕ)) {ts us : List PlacedLexeme} → Starts (the_word w.Havoc) ts tt us → some_free ls ≡ false → Fails (changing ls) ts ts
havoc_stands_nowhere ls p e =
    fails_else (some_free ls) (λ some. g.changes ls some) (g.conditional ls) e (fails_here (havoc_is_no_if p))

-- what `eat_havoc` answers, of the rule

pub havoc_next : (ls : List (List ℕ)) {ts vs : List PlacedLexeme} {i : ℕ} → (us : List PlacedLexeme) × Starts (the_word w.Havoc) ts tt us × ReadsVariable ls us i vs →
    Goes (changing ls) ts (after_sign sign.Semicolon (give (s.Havoc i))) vs
havoc_next ls h = havoc_goes ls h.1 h.2

pub havoc_refuses : (ls : List (List ℕ)) (ts : List PlacedLexeme) (e : Stop PlacedLexeme) → EatsHavoc ls ts (Err e) → Refuses (changing ls) ts e
havoc_refuses ls ts stop.Memory h = tt
havoc_refuses ls ts (stop.Before r) (us, starts, inl (some, none, e)) = subst (λ l. Fails (changing ls) ts l) (sym e) (havoc_fails ls starts none some)
havoc_refuses ls ts (stop.Before r) (us, starts, inr (none, e)) = subst (λ l. Fails (changing ls) ts l) (sym e) (havoc_stands_nowhere ls starts none)
