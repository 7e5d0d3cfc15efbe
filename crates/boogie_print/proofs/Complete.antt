-- Every derivation is read: where a rule has alternatives, the next token tells which of them was derived.
use Rattle.std.proofs.Common.{◌≡◌, refl, sym, subst, ◌∙◌, ℕ, Bool, true, false, not, ◌&&◌, cond, List, [], ◌∷◌, ◌++◌, Option, Some, None}
use Rattle.std.proofs.lemmas.Bool.{eq-eqb, both_ways}
use Rattle.boogie_grammar.proofs.Elements.{name_is}
use Rattle.grammar.proofs.Sets.{among, within}
use Rattle.grammar.proofs.Complete as grammar
use Rattle.grammar.proofs.Complete.{good_when, te, tn, tw, tr}
use Rattle.grammar.specs.Spells as plain
use Rattle.grammar.specs.Spells.{Derives}
use Rattle.grammar.specs.Greedy.{Reads}
use Rattle.boogie_tree.specs.Expr as t
use Rattle.boogie_tree.specs.Values.{is_key}
use Rattle.boogie_tree.specs.declared.exprs.BBase.{BBase}
use Rattle.boogie_tree.specs.declared.exprs.BBase.TheVariants as base
use Rattle.boogie_tree.specs.declared.exprs.BOp.{BOp}
use Rattle.boogie_tree.specs.declared.exprs.BOp.TheVariants as op
use Rattle.boogie_grammar.specs.declared.tokens.BSign.TheVariants as sign
use Rattle.boogie_grammar.specs.declared.tokens.BoogieWord.{BoogieWord}
use Rattle.boogie_grammar.specs.declared.tokens.BoogieWord.TheVariants as w
use Rattle.boogie_grammar.specs.declared.tokens.Lexeme.{Lexeme}
use Rattle.boogie_grammar.specs.declared.tokens.Lexeme.TheVariants as tok
use Rattle.boogie_grammar.specs.declared.tokens.PlacedLexeme.{PlacedLexeme}
use Rattle.boogie_grammar.specs.Words.{word_tok, word_text, base_word, operator_tok, is_reserved, is_among}
use Rattle.boogie_grammar.specs.Tests as v
use Rattle.boogie_grammar.specs.Tests.{Kind, Value, Test, Passes, the_sign, the_word, the_name, a_new_name, a_variable, a_number, a_real, a_label, a_base, a_key, an_operator}
use Rattle.boogie_grammar.specs.Grammar as g
use Rattle.boogie_grammar.specs.Grammar.{Symbol, Rule, give, need, when, read, rule, rules}
use Rattle.boogie_grammar.proofs.NameLaws.{there, free_bound}
use Rattle.boogie_print.proofs.Codes.{code, word_code, sign_code, name_code, word_is, free_code, names, keys, bases, operators, expr_starts, codes, first_codes, empty, ext_codes, table}

-- the tokens that pass a test are among its codes

pub code_at : (k : PlacedLexeme) (x : Lexeme) (l : List ℕ) → k.tok ≡ x → among (code x) l ≡ true → among (code k.tok) l ≡ true
code_at k x l e h = subst (λ t. among (code t) l ≡ true) (sym e) h

self : (n : ℕ) → among n (n ∷ []) ≡ true
self n = subst (λ z. cond z true false ≡ true) (sym (eq-eqb n n refl)) refl

word_at : (k : PlacedLexeme) (x : _) (l : List ℕ) → k.tok ≡ word_tok x → among (word_code x) l ≡ true → among (code k.tok) l ≡ true
word_at k x l e h = code_at k (word_tok x) l e (subst (λ n. among n l ≡ true) (sym (word_is x)) h)

free_at : (k : PlacedLexeme) (x : List ℕ) → k.tok ≡ tok.Name x → is_reserved x ≡ false → among (code k.tok) names ≡ true
free_at k x e free = code_at k (tok.Name x) names e (subst (λ n. among n names ≡ true) (sym (free_code x free)) refl)

base_codes : (u : BBase) → among (word_code (base_word u)) bases ≡ true
base_codes base.Int = refl
base_codes base.Bool = refl
base_codes base.Ref = refl
base_codes base.Real = refl
base_codes base.Snap = refl

key_codes : (u : BBase) → is_key u ≡ true → among (word_code (base_word u)) keys ≡ true
key_codes base.Int h = refl
key_codes base.Bool h = refl
key_codes base.Ref h = refl
key_codes base.Real h = cc
key_codes base.Snap h = cc

operator_codes : (o : BOp) → among (code (operator_tok o)) operators ≡ true
operator_codes op.Iff = refl
operator_codes op.Implies = refl
operator_codes op.Or = refl
operator_codes op.And = refl
operator_codes op.Eq = refl
operator_codes op.Ne = refl
operator_codes op.Lt = refl
operator_codes op.Le = refl
operator_codes op.Gt = refl
operator_codes op.Ge = refl
operator_codes op.Add = refl
operator_codes op.Sub = refl
operator_codes op.Mul = refl
operator_codes op.Divide = refl
operator_codes op.IntDiv = refl
operator_codes op.IntMod = refl

passes_codes : {b : Bool} {r : Kind} (c : Test b r) (k : PlacedLexeme) (v : Value r) → Passes c k v → among (code k.tok) (codes c) ≡ true
passes_codes (the_sign o) k v p = code_at k (tok.Sign o) (codes (the_sign o)) p (self (sign_code o))
passes_codes (the_word x) k v p = word_at k x (codes (the_word x)) p (self (word_code x))
passes_codes (the_name x) k v p = code_at k (tok.Name x) (codes (the_name x)) p (self (name_code x))
passes_codes (a_new_name taken) k v p = free_at k v p.0 p.1
passes_codes (a_variable xs some) k v p = free_at k p.name p.is p.free
passes_codes a_number k v p = code_at k (tok.Number v) (codes a_number) p refl
passes_codes a_real k v p = code_at k (tok.Real v) (codes a_real) p refl
passes_codes a_label k v p = code_at k (tok.Text v) (codes a_label) p refl
passes_codes a_base k v p = word_at k (base_word v) bases p (base_codes v)
passes_codes a_key k v p = word_at k (base_word v) keys p.0 (key_codes v p.1)
passes_codes an_operator k v p = code_at k (operator_tok v) operators p (operator_codes v)

-- what holds of both rules of a choice

pub by_where : {s : Kind} (P : Rule s → Type 0) (b : Bool) (some : b ≡ true → Rule s) (other : Rule s) → ((h : b ≡ true) → P (some h)) → P other → P (g.where_true b some other)
by_where P true some other f e = f refl
by_where P false some other f e = e

pub by_bound : (P : Rule v.expr → Type 0) (qs : List (List ℕ)) (first other : Rule v.expr) → P first → P other → P (g.unless_bound qs first other)
by_bound P [] first other h i = h
by_bound P (q ∷ qs) first other h i = i

-- the rule of an index list

abbrev begins : {s : Kind} → Rule s → List ℕ
begins a = grammar.begins table a

abbrev ends : {s : Kind} → Rule s → Option (Value s)
ends a = grammar.ends table a

first_bound : (x : g.ExprScope) (i : ℕ) (q : List ℕ) (qs : List (List ℕ)) → is_reserved q ≡ false →
    within (begins (when (the_name q) (λ _. read (g.BoundRest qs) (λ _. give (t.AtBound i))) (g.at_indices x i))) expr_starts ≡ true
first_bound x i q qs free = subst (λ n. cond (among n expr_starts) (within (expr_starts ++ []) expr_starts) false ≡ true) (sym (free_code q free)) refl

first_indices : (x : g.ExprScope) (i : ℕ) (qs : List (List ℕ)) → within (begins (g.indices x i qs)) expr_starts ≡ true
first_indices x i [] = refl
first_indices x i (q ∷ qs) =
    by_where (λ r. within (begins r) expr_starts ≡ true) (not (is_reserved q) && not (is_among q x.locals))
    (λ _. when (the_name q) (λ _. read (g.BoundRest qs) (λ _. give (t.AtBound i))) (g.at_indices x i)) (g.at_indices x i)
    (λ h. first_bound x i q qs (free_bound q x.locals h).0) refl

first_rest : (qs : List (List ℕ)) → within (begins (rule (g.BoundRest qs))) (first_codes (g.BoundRest qs)) ≡ true
first_rest [] = refl
first_rest (q ∷ qs) = refl

first_ok : {s : Kind} (a : Symbol s) → within (begins (rule a)) (first_codes a) ≡ true
first_ok (g.Program ps) = refl
first_ok (g.Procedure taken) = refl
first_ok (g.Locals ls) = refl
first_ok g.TypeOf = refl
first_ok (g.MoreKeys ks) = refl
first_ok (g.Statements ls ss) = refl
first_ok (g.Statement ls) = by_where (λ r. within (begins (g.checks ls r)) (first_codes (g.Statement ls)) ≡ true) (v.some_free ls) (λ some. g.changes ls some) (g.conditional ls) (λ h. refl) refl
first_ok (g.Block ls) = refl
first_ok (g.Else ls) = refl
first_ok (g.Expr x) =
    by_where (λ r. within (begins (g.simple x r)) expr_starts ≡ true) (v.some_free x.locals)
    (λ some. when (a_variable x.locals some) (λ i. g.named x i) (g.in_parens x)) (g.in_parens x) (λ h. refl) refl
first_ok (g.InParens x) =
    by_bound (λ r. within (begins (g.prefixed x r)) (first_codes (g.InParens x)) ≡ true) x.bound _ _ refl refl
first_ok (g.Binders x b) = refl
first_ok (g.Indices x i) = first_indices x i x.bound
first_ok (g.BoundRest qs) = first_rest qs
first_ok (g.Exprs x) = refl
first_ok (g.MoreExprs x es) = refl

ends_indices : (x : g.ExprScope) (i : ℕ) (qs : List (List ℕ)) → ends (g.indices x i qs) ≡ None
ends_indices x i [] = refl
ends_indices x i (q ∷ qs) =
    by_where (λ r. ends r ≡ None) (not (is_reserved q) && not (is_among q x.locals))
    (λ _. when (the_name q) (λ _. read (g.BoundRest qs) (λ _. give (t.AtBound i))) (g.at_indices x i)) (g.at_indices x i) (λ h. refl) refl

ends_rest : (qs : List (List ℕ)) → ends (rule (g.BoundRest qs)) ≡ None
ends_rest [] = refl
ends_rest (q ∷ qs) = refl

empty_ok : {s : Kind} (a : Symbol s) → ends (rule a) ≡ empty a
empty_ok (g.Program ps) = refl
empty_ok (g.Procedure taken) = refl
empty_ok (g.Locals ls) = refl
empty_ok g.TypeOf = refl
empty_ok (g.MoreKeys ks) = refl
empty_ok (g.Statements ls ss) = refl
empty_ok (g.Statement ls) = by_where (λ r. ends (g.checks ls r) ≡ None) (v.some_free ls) (λ some. g.changes ls some) (g.conditional ls) (λ h. refl) refl
empty_ok (g.Block ls) = refl
empty_ok (g.Else ls) = refl
empty_ok (g.Expr x) =
    by_where (λ r. ends (g.simple x r) ≡ None) (v.some_free x.locals)
    (λ some. when (a_variable x.locals some) (λ i. g.named x i) (g.in_parens x)) (g.in_parens x) (λ h. refl) refl
empty_ok (g.InParens x) = by_bound (λ r. ends (g.prefixed x r) ≡ None) x.bound _ _ refl refl
empty_ok (g.Binders x b) = refl
empty_ok (g.Indices x i) = ends_indices x i x.bound
empty_ok (g.BoundRest qs) = ends_rest qs
empty_ok (g.Exprs x) = refl
empty_ok (g.MoreExprs x es) = refl

pub right : grammar.IsRightTable rules table
right = record {
  passes_codes = λ b r c k v p. passes_codes c k v p;
  first_ok = λ s a. first_ok a;
  empty_ok = λ s a. empty_ok a;
}

pub empty_right : {s : Kind} (a : Symbol s) (x : Value s) → Derives rules s (rule a) [] x → empty a ≡ Some x
empty_right a x d = sym (empty_ok a) ∙ grammar.ends_right rules table right d refl

-- a name that is not reserved and no local begins no expression

pass_by : {b : Bool} {r s : Kind} {c : Test b r} {go : Value r → Rule s} {other : Rule s} {ts us : List PlacedLexeme} {x : Value s} {k : PlacedLexeme} →
    Derives rules s (when c go other) ts x → ts ≡ k ∷ us → ((v : Value r) → Passes c k v → ⊥) → Derives rules s other ts x
pass_by {c = c} {k = k} (plain.taken {v = v} q d) e n = let same : q.token ≡ k = cc in absurd (n v (subst (λ j. Passes c j v) same q.passes))
pass_by (plain.passed d) e n = d

no_need : {r s : Kind} {c : Test true r} {go : Value r → Rule s} {ts us : List PlacedLexeme} {x : Value s} {k : PlacedLexeme} →
    Derives rules s (need c go) ts x → ts ≡ k ∷ us → ((v : Value r) → Passes c k v → ⊥) → ⊥
no_need {c = c} {k = k} (plain.needed {v = v} q d) e n = let same : q.token ≡ k = cc in n v (subst (λ j. Passes c j v) same q.passes)

read_first : {r s : Kind} {a : Symbol r} {go : Value r → Rule s} {ts us : List PlacedLexeme} {x : Value s} {k : PlacedLexeme} → empty a ≡ None →
    Derives rules s (read a go) ts x → ts ≡ k ∷ us → (z : Value r) × (vs : List PlacedLexeme) × Derives rules r (rule a) (k ∷ vs) z
read_first n (plain.called {a = a} {ts = []} {y = z} d d') e = let h : None ≡ Some z = sym n ∙ empty_right a z d in absurd (cc)
read_first {k = k} n (plain.called {r = r} {a = a} {ts = j ∷ ts} {y = z} d d') e =
    let same : j ≡ k = cc in (z, ts, subst (λ i. Derives rules r (rule a) (i ∷ ts) z) same d)

pub not_word : {q : List ℕ} (k : PlacedLexeme) (x : BoogieWord) → is_reserved (word_text x) ≡ true → k.tok ≡ tok.Name q → is_reserved q ≡ false → k.tok ≡ word_tok x → ⊥
not_word {q = q} k x yes_it_is e free f = let same : q ≡ word_text x = name_is (sym e ∙ f) in both_ways _ (subst (λ y. is_reserved y ≡ false) same free) yes_it_is

pub not_variable : {q : List ℕ} (k : PlacedLexeme) (locals : List (List ℕ)) (i : ℕ) → k.tok ≡ tok.Name q → is_among q locals ≡ false → v.IsVariable locals k.tok i → ⊥
not_variable {q = q} k locals i e new p =
    let same : p.name ≡ q = name_is (sym p.is ∙ e) in
    both_ways _ new (there q locals i (subst (λ y. v.number_of y locals ≡ Some i) same p.there))

not_first : (x : g.ExprScope) {q : List ℕ} {k : PlacedLexeme} {ts us : List PlacedLexeme} {e : t.BExpr} → Derives rules v.expr (rule (g.Expr x)) ts e → ts ≡ k ∷ us →
    k.tok ≡ tok.Name q → is_reserved q ≡ false → is_among q x.locals ≡ false → ⊥
not_first x {q = q} {k = k} {ts = ts} {e = e} d is name free new =
    let d = pass_by d is (λ v p. let no_number : tok.Number v ≡ tok.Name q = sym p ∙ name in cc) in
    let d = pass_by d is (λ v p. let no_number : tok.Real v ≡ tok.Name q = sym p ∙ name in cc) in
    let d = pass_by d is (λ v p. not_word k w.True refl name free p) in
    let d = pass_by d is (λ v p. not_word k w.False refl name free p) in
    let d = pass_by d is (λ v p. not_word k w.Null refl name free p) in
    let d = pass_by d is (λ v p. not_word k w.SUnit refl name free p) in
    let d = pass_by d is (λ v p. not_word k w.Real refl name free p) in
    let d = pass_by d is (λ v p. not_word k w.SInt refl name free p) in
    let d = pass_by d is (λ v p. not_word k w.SBool refl name free p) in
    let d = pass_by d is (λ v p. not_word k w.SRef refl name free p) in
    let d = pass_by d is (λ v p. not_word k w.SPerm refl name free p) in
    let d = pass_by d is (λ v p. not_word k w.SPair refl name free p) in
    by_where (λ r. Derives rules v.expr r ts e → ⊥) (v.some_free x.locals)
    (λ some. when (a_variable x.locals some) (λ i. g.named x i) (g.in_parens x)) (g.in_parens x)
    (λ some h. no_paren x (pass_by h is (λ i p. not_variable k x.locals i name new p)) is name)
    (λ h. no_paren x h is name) d where
      no_paren : (x : g.ExprScope) {q : List ℕ} {k : PlacedLexeme} {ts us : List PlacedLexeme} {e : t.BExpr} → Derives rules v.expr (g.in_parens x) ts e → ts ≡ k ∷ us → k.tok ≡ tok.Name q → ⊥
      no_paren x {q = q} d is name = no_need d is (λ v p. let no_sign : tok.Sign sign.OpenParen ≡ tok.Name q = sym p ∙ name in cc)

-- the next token tells how to read on

abbrev Good : (s : Kind) → (Value s → PlacedLexeme → Type 0) → Rule s → Type 0
Good s E a = grammar.Good rules table s E a

abbrev Tells : (s : Kind) → (Value s → List ℕ) → Rule s → Type 0
Tells s l a = grammar.Tells table s l a

abbrev After : List ℕ → {s : Kind} → Rule s → Type 0
After l {s} a = Tells s (λ _. l) a

tells_good : {s : Kind} (l : List ℕ) {a : Rule s} → After l a → Good s (λ x k. among (code k.tok) l ≡ true) a
tells_good l h = grammar.tells_good rules table right (λ _. l) h

tells_conditional : (ls : List (List ℕ)) → After (ext_codes (g.Statement ls)) (g.conditional ls)
tells_conditional ls = tn (λ _. tn (λ _. tw refl (λ _. tn (λ _. tr (λ z k h. h) (λ z. refl) (λ a. tr (λ z k h. h) (λ z. refl) (λ b. te))))
    (tr (λ z k h. h) (λ z. refl) (λ e. tn (λ _. tr (λ z k h. h) (λ z. refl) (λ a. tr (λ z k h. h) (λ z. refl) (λ b. te)))))))

tells_assignment : (ls : List (List ℕ)) (i : ℕ) → After (ext_codes (g.Statement ls)) (g.assignment ls i)
tells_assignment ls i = tw refl (λ _. tr (λ z k h. h) (λ z. refl) (λ es. tn (λ _. tr (λ z k h. h) (λ z. refl) (λ e. tn (λ _. te)))))
    (tn (λ _. tr (λ z k h. h) (λ z. refl) (λ e. tn (λ _. te))))

tells_changes : (ls : List (List ℕ)) (some : v.some_free ls ≡ true) → After (ext_codes (g.Statement ls)) (g.changes ls some)
tells_changes ls some = tw refl (λ _. tn (λ i. tn (λ _. te))) (tw refl (λ i. tells_assignment ls i) (tells_conditional ls))

tells_Statement : (ls : List (List ℕ)) → After (ext_codes (g.Statement ls)) (rule (g.Statement ls))
tells_Statement ls = by_where (λ r. After (ext_codes (g.Statement ls)) (g.checks ls r)) (v.some_free ls) (λ some. g.changes ls some) (g.conditional ls)
    (λ some. tw refl (λ _. tr (λ z k h. h) (λ z. refl) (λ e. tn (λ _. te))) (tw refl (λ _. tn (λ _. tn (λ _. tn (λ _. tn (λ l. tn (λ _. tr (λ z k h. h) (λ z. refl) (λ e. tn (λ _. te)))))))) (tells_changes ls some)))
    (tw refl (λ _. tr (λ z k h. h) (λ z. refl) (λ e. tn (λ _. te))) (tw refl (λ _. tn (λ _. tn (λ _. tn (λ _. tn (λ l. tn (λ _. tr (λ z k h. h) (λ z. refl) (λ e. tn (λ _. te)))))))) (tells_conditional ls)))

tells_wrapped : (x : g.ExprScope) (make : t.BExpr → t.BExpr) → After (ext_codes (g.Expr x)) (g.wrapped x make)
tells_wrapped x make = tn (λ _. tr (λ z k h. h) (λ z. refl) (λ a. tn (λ _. te)))

tells_in_parens : (x : g.ExprScope) → After (ext_codes (g.Expr x)) (g.in_parens x)
tells_in_parens x = tn (λ _. tr (λ z k h. h) (λ z. refl) (λ z. te))

tells_named : (x : g.ExprScope) (i : ℕ) → After (ext_codes (g.Expr x)) (g.named x i)
tells_named x i = tw refl (λ _. tr (λ z k h. h) (λ z. refl) (λ z. te)) te

tells_Expr : (x : g.ExprScope) → After (ext_codes (g.Expr x)) (rule (g.Expr x))
tells_Expr x = by_where (λ r. After (ext_codes (g.Expr x)) (g.simple x r)) (v.some_free x.locals)
    (λ some. when (a_variable x.locals some) (λ i. g.named x i) (g.in_parens x)) (g.in_parens x)
    (λ some. tw refl (λ n. te) (tw refl (λ n. te) (tw refl (λ _. te) (tw refl (λ _. te) (tw refl (λ _. te) (tw refl (λ _. te) (tw refl (λ _. tells_wrapped x t.ToReal) (tw refl (λ _. tells_wrapped x t.SInt) (tw refl (λ _. tells_wrapped x t.SBool) (tw refl (λ _. tells_wrapped x t.SRef) (tw refl (λ _. tells_wrapped x t.SPerm) (tw refl (λ _. tn (λ _. tr (λ z k h. h) (λ z. refl) (λ a. tn (λ _. tr (λ z k h. h) (λ z. refl) (λ b. tn (λ _. te)))))) (tw refl (λ i. tells_named x i) (tells_in_parens x))))))))))))))
    (tw refl (λ n. te) (tw refl (λ n. te) (tw refl (λ _. te) (tw refl (λ _. te) (tw refl (λ _. te) (tw refl (λ _. te) (tw refl (λ _. tells_wrapped x t.ToReal) (tw refl (λ _. tells_wrapped x t.SInt) (tw refl (λ _. tells_wrapped x t.SBool) (tw refl (λ _. tells_wrapped x t.SRef) (tw refl (λ _. tells_wrapped x t.SPerm) (tw refl (λ _. tn (λ _. tr (λ z k h. h) (λ z. refl) (λ a. tn (λ _. tr (λ z k h. h) (λ z. refl) (λ b. tn (λ _. te)))))) (tells_in_parens x)))))))))))))

tells_binary : (x : g.ExprScope) → After (ext_codes (g.InParens x)) (g.binary x)
tells_binary x = tr (λ z k h. h) (λ z. refl) (λ a. tn (λ o. tr (λ z k h. h) (λ z. refl) (λ b. tn (λ _. te))))

tells_InParens : (x : g.ExprScope) → After (ext_codes (g.InParens x)) (rule (g.InParens x))
tells_InParens x = by_bound (λ r. After (ext_codes (g.InParens x)) (g.prefixed x r)) x.bound _ _
    (tw refl (λ _. tr (λ z k h. h) (λ z. refl) (λ a. tn (λ _. te))) (tw refl (λ _. tr (λ z k h. h) (λ z. refl) (λ a. tn (λ _. te))) (tw refl (λ _. tr (λ z k h. h) (λ z. refl) (λ a. tn (λ _. tr (λ z k h. h) (λ z. refl) (λ b. tn (λ _. tr (λ z k h. h) (λ z. refl) (λ c. tn (λ _. te))))))) (tw refl (λ _. tr (λ z k h. h) (λ z. refl) (λ b. tn (λ _. tr (λ z k h. h) (λ z. refl) (λ a. tn (λ _. te))))) (tells_binary x)))))
    (tw refl (λ _. tr (λ z k h. h) (λ z. refl) (λ a. tn (λ _. te))) (tw refl (λ _. tr (λ z k h. h) (λ z. refl) (λ a. tn (λ _. te))) (tw refl (λ _. tr (λ z k h. h) (λ z. refl) (λ a. tn (λ _. tr (λ z k h. h) (λ z. refl) (λ b. tn (λ _. tr (λ z k h. h) (λ z. refl) (λ c. tn (λ _. te))))))) (tells_binary x))))

tells_at : (x : g.ExprScope) (i : ℕ) → After (ext_codes (g.Indices x i)) (g.at_indices x i)
tells_at x i = tr (λ z k h. h) (λ z. refl) (λ es. te)

tells_rest : (qs : List (List ℕ)) → After (ext_codes (g.BoundRest qs)) (rule (g.BoundRest qs))
tells_rest [] = tn (λ _. te)
tells_rest (q ∷ qs) = tn (λ _. tn (λ _. tr (λ z k h. h) (λ z. refl) (λ z. te)))

good_bound : (x : g.ExprScope) (i : ℕ) (q : List ℕ) (qs : List (List ℕ)) → is_reserved q ≡ false → is_among q x.locals ≡ false →
    Good v.expr (λ y k. among (code k.tok) (ext_codes (g.Indices x i)) ≡ true) (when (the_name q) (λ _. read (g.BoundRest qs) (λ _. give (t.AtBound i))) (g.at_indices x i))
good_bound x i q qs free new = good_when
    (record {
      none = λ k us v y p d.
          let f = read_first {a = g.Exprs x} refl d refl in
          let h = read_first {a = g.Expr x} refl f.2 refl in
          not_first x h.2 refl p free new;
    })
    (record { ext = λ k v y p d. let h : None ≡ Some y = grammar.ends_right rules table right d refl in absurd (cc) })
    (λ _. tells_good (ext_codes (g.Indices x i)) (tr (λ z k h. h) (λ z. refl) (λ z. te)))
    (tells_good (ext_codes (g.Indices x i)) (tells_at x i))

good_indices : (x : g.ExprScope) (i : ℕ) (qs : List (List ℕ)) → Good v.expr (λ y k. among (code k.tok) (ext_codes (g.Indices x i)) ≡ true) (g.indices x i qs)
good_indices x i [] = tells_good (ext_codes (g.Indices x i)) (tells_at x i)
good_indices x i (q ∷ qs) = by_where (Good v.expr (λ y k. among (code k.tok) (ext_codes (g.Indices x i)) ≡ true)) (not (is_reserved q) && not (is_among q x.locals))
    (λ _. when (the_name q) (λ _. read (g.BoundRest qs) (λ _. give (t.AtBound i))) (g.at_indices x i)) (g.at_indices x i)
    (λ h. let f = free_bound q x.locals h in good_bound x i q qs f.0 f.1) (tells_good (ext_codes (g.Indices x i)) (tells_at x i))

pub good : {s : Kind} (a : Symbol s) → Good s (λ x k. among (code k.tok) (ext_codes a) ≡ true) (rule a)
good (g.Program ps) = tells_good (ext_codes (g.Program ps)) (tw refl (λ _. tr (λ z k h. h) (λ z. refl) (λ p. tr (λ z k h. h) (λ z. refl) (λ z. te))) te)
good (g.Procedure taken) = tells_good (ext_codes (g.Procedure taken)) (tn (λ x. tn (λ _. tn (λ _. tn (λ _. tr (λ z k h. h) (λ z. refl) (λ ls. tr (λ z k h. h) (λ z. refl) (λ ss. te)))))))
good (g.Locals ls) = tells_good (ext_codes (g.Locals ls)) (tw refl (λ _. tn (λ x. tn (λ _. tr (λ z k h. h) (λ z. refl) (λ u. tn (λ _. tr (λ z k h. h) (λ z. refl) (λ z. te)))))) te)
good g.TypeOf = tells_good (ext_codes g.TypeOf) (tw refl (λ _. tn (λ k. tr (λ z k h. h) (λ z. refl) (λ ks. tn (λ u. te)))) (tn (λ u. te)))
good (g.MoreKeys ks) = tells_good (ext_codes (g.MoreKeys ks)) (tw refl (λ _. tn (λ k. tr (λ z k h. h) (λ z. refl) (λ z. te))) (tn (λ _. te)))
good (g.Statements ls ss) = tells_good (ext_codes (g.Statements ls ss)) (tw refl (λ _. te) (tr (λ z k h. h) (λ z. refl) (λ a. tr (λ z k h. h) (λ z. refl) (λ z. te))))
good (g.Statement ls) = tells_good (ext_codes (g.Statement ls)) (tells_Statement ls)
good (g.Block ls) = tells_good (ext_codes (g.Block ls)) (tn (λ _. tr (λ z k h. h) (λ z. refl) (λ ss. te)))
good (g.Else ls) = tells_good (ext_codes (g.Else ls)) (tw refl (λ _. tr (λ z k h. h) (λ z. refl) (λ z. te)) te)
good (g.Expr x) = tells_good (ext_codes (g.Expr x)) (tells_Expr x)
good (g.InParens x) = tells_good (ext_codes (g.InParens x)) (tells_InParens x)
good (g.Binders x b) = tells_good (ext_codes (g.Binders x b)) (tn (λ q. tn (λ _. tn (λ u. tw refl (λ _. tr (λ z k h. h) (λ z. refl) (λ z. te)) te))))
good (g.Indices x i) = good_indices x i x.bound
good (g.BoundRest qs) = tells_good (ext_codes (g.BoundRest qs)) (tells_rest qs)
good (g.Exprs x) = tells_good (ext_codes (g.Exprs x)) (tr (λ z k h. h) (λ z. refl) (λ a. tr (λ z k h. h) (λ z. refl) (λ z. te)))
good (g.MoreExprs x es) = tells_good (ext_codes (g.MoreExprs x es)) (tw refl (λ _. tr (λ z k h. h) (λ z. refl) (λ a. tr (λ z k h. h) (λ z. refl) (λ z. te))) (tn (λ _. te)))

pub complete : {s : Kind} (a : Symbol s) {ts : List PlacedLexeme} {x : Value s} → Derives rules s (rule a) ts x → Reads rules s (rule a) ts x []
complete a d = grammar.complete rules table (λ s b. good b) a d
