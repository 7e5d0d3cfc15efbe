-- The names that are noted while an expression is read are those before a `:`.
use Rattle.std.proofs.Common.{◌≡◌, ◌∙◌, refl, sym, ap, subst, ℕ, Bool, true, false, List, [], ◌∷◌, ◌++◌, append_assoc, if◌then◌else◌, length, take, ◌-◌}
use Rattle.std.proofs.lemmas.List.{append-nil}
use Rattle.lemmas.proofs.Lists.{front_taken}
use Rattle.grammar.specs.Rules.{Rules, give, need, when, read}
use Rattle.grammar.specs.Greedy as greedy
use Rattle.grammar.specs.Greedy.{given, needed, taken, passed, called}
use Rattle.grammar.specs.Wider.{new}
use Rattle.grammar.proofs.Wider as wide
use Rattle.boogie_tree.specs.declared.exprs.BOp.TheVariants as op
use Rattle.boogie_grammar.specs.declared.tokens.BSign.TheVariants as sign
use Rattle.boogie_grammar.specs.declared.tokens.Lexeme.{Lexeme}
use Rattle.boogie_grammar.specs.declared.tokens.Lexeme.TheVariants as tok
use Rattle.boogie_grammar.specs.declared.tokens.PlacedLexeme.{PlacedLexeme}
use Rattle.boogie_grammar.specs.Words.{operator_tok}
use Rattle.boogie_grammar.specs.Tests as v
use Rattle.boogie_grammar.specs.Tests.{Kind, Value, Test, Passes, the_sign, the_word, the_name, a_new_name, a_variable, a_number, a_real, a_label, a_base, a_key, an_operator, some_free}
use Rattle.boogie_grammar.specs.Grammar as g
use Rattle.boogie_loops_grammar.specs.Noting.{noting_rule, second_rules, noted_rules}
use Rattle.boogie_loops_grammar.specs.Grammar.{telling, new_names}
use Rattle.boogie_loops_text.specs.Bound.{is_colon_sign, is_colon, starts_colon, binds, bound_in}

-- rules in which each new name stands before a `:`, and nothing else does

abbrev Plain : {b : Bool} {r : Kind} → Test b r → Type 0
Plain (the_sign o) = is_colon_sign o ≡ false
Plain (a_new_name names) = ⊥
Plain _ = Unit {0}

abbrev IsExpr : {s : Kind} → g.Symbol s → Type 0
IsExpr (g.Expr x) = Unit {0}
IsExpr (g.InParens x) = Unit {0}
IsExpr (g.Binders x b) = Unit {0}
IsExpr (g.Indices x i) = Unit {0}
IsExpr (g.BoundRest qs) = Unit {0}
IsExpr (g.Exprs x) = Unit {0}
IsExpr (g.MoreExprs x es) = Unit {0}
IsExpr _ = ⊥

data IsQuiet : (s : Kind) → g.Rule s → Type 0 where
  qg : {s : Kind} {x : Value s} → IsQuiet s (give x)
  qn : {r s : Kind} {c : Test true r} {go : Value r → g.Rule s} → Plain c → ((x : Value r) → IsQuiet _ (go x)) → IsQuiet _ (need c go)
  qb : {s : Kind} {names : List (List ℕ)} {go : List ℕ → g.Rule s} → ((x : List ℕ) → IsQuiet _ (go x)) → IsQuiet _ (need (a_new_name names) (λ x. g.after_sign sign.Colon (go x)))
  qw : {b : Bool} {r s : Kind} {c : Test b r} {go : Value r → g.Rule s} {other : g.Rule s} → Plain c → ((x : Value r) → IsQuiet _ (go x)) → IsQuiet _ other → IsQuiet _ (when c go other)
  qr : {r s : Kind} {a : g.Symbol r} {go : Value r → g.Rule s} → IsExpr a → ((y : Value r) → IsQuiet _ (go y)) → IsQuiet _ (read a go)

abbrev Quiet : {s : Kind} → g.Rule s → Type 0
Quiet {s} a = IsQuiet s a

quiet_where : {s : Kind} (b : Bool) (some : b ≡ true → g.Rule s) (other : g.Rule s) → ((h : b ≡ true) → Quiet (some h)) → Quiet other → Quiet (g.where_true b some other)
quiet_where true some other f q = f refl
quiet_where false some other f q = q

quiet_leaves : {other : g.Rule v.expr} → Quiet other → Quiet (g.leaves other)
quiet_leaves q = qw tt (λ n. qg) (qw tt (λ n. qg) (qw tt (λ _. qg) (qw tt (λ _. qg) (qw tt (λ _. qg) (qw tt (λ _. qg) q)))))

quiet_wrapped : (x : g.ExprScope) (make : _ → _) → Quiet (g.wrapped x make)
quiet_wrapped x make = qn refl (λ _. qr tt (λ a. qn refl (λ _. qg)))

quiet_wraps : (x : g.ExprScope) {other : g.Rule v.expr} → Quiet other → Quiet (g.wraps x other)
quiet_wraps x q = qw tt (λ _. quiet_wrapped x _) (qw tt (λ _. quiet_wrapped x _) (qw tt (λ _. quiet_wrapped x _) (qw tt (λ _. quiet_wrapped x _) (qw tt (λ _. quiet_wrapped x _) q))))

quiet_paired : (x : g.ExprScope) → Quiet (g.paired x)
quiet_paired x = qn refl (λ _. qr tt (λ a. qn refl (λ _. qr tt (λ b. qn refl (λ _. qg)))))

quiet_parens : (x : g.ExprScope) → Quiet (g.in_parens x)
quiet_parens x = qn refl (λ _. qr tt (λ a. qg))

quiet_named : (x : g.ExprScope) (i : ℕ) → Quiet (g.named x i)
quiet_named x i = qw refl (λ _. qr tt (λ e. qg)) qg

quiet_prefixed : (x : g.ExprScope) {other : g.Rule v.expr} → Quiet other → Quiet (g.prefixed x other)
quiet_prefixed x q =
    qw refl (λ _. qr tt (λ a. qn refl (λ _. qg))) (qw refl (λ _. qr tt (λ a. qn refl (λ _. qg)))
    (qw tt (λ _. qr tt (λ a. qn tt (λ _. qr tt (λ b. qn tt (λ _. qr tt (λ c. qn refl (λ _. qg))))))) q))

quiet_binary : (x : g.ExprScope) → Quiet (g.binary x)
quiet_binary x = qr tt (λ a. qn tt (λ o. qr tt (λ b. qn refl (λ _. qg))))

quiet_unless : (bound : List (List ℕ)) {first other : g.Rule v.expr} → Quiet first → Quiet other → Quiet (g.unless_bound bound first other)
quiet_unless [] p q = p
quiet_unless (x ∷ xs) p q = q

quiet_at : (x : g.ExprScope) (i : ℕ) → Quiet (g.at_indices x i)
quiet_at x i = qr tt (λ es. qg)

quiet_indices : (x : g.ExprScope) (i : ℕ) (bound : List (List ℕ)) → Quiet (g.indices x i bound)
quiet_indices x i [] = quiet_at x i
quiet_indices x i (q ∷ qs) = quiet_where _ _ _ (λ h. qw tt (λ _. qr tt (λ _. qg)) (quiet_at x i)) (quiet_at x i)

quiet_of : {s : Kind} (a : g.Symbol s) → IsExpr a → Quiet (g.rule a)
quiet_of (g.Expr x) h =
    quiet_leaves (quiet_wraps x (qw tt (λ _. quiet_paired x) (quiet_where (some_free x.locals) _ _ (λ some. qw tt (λ i. quiet_named x i) (quiet_parens x)) (quiet_parens x))))
quiet_of (g.InParens x) h = quiet_prefixed x (quiet_unless x.bound (qw tt (λ _. qr tt (λ b. qn refl (λ _. qr tt (λ a. qn refl (λ _. qg))))) (quiet_binary x)) (quiet_binary x))
quiet_of (g.Binders x b) h = qb (λ q. qn tt (λ u. qw refl (λ _. qr tt (λ y. qg)) qg))
quiet_of (g.Indices x i) h = quiet_indices x i x.bound
quiet_of (g.BoundRest []) h = qn refl (λ _. qg)
quiet_of (g.BoundRest (q ∷ qs)) h = qn refl (λ _. qn tt (λ _. qr tt (λ y. qg)))
quiet_of (g.Exprs x) h = qr tt (λ a. qr tt (λ y. qg))
quiet_of (g.MoreExprs x es) h = qw refl (λ _. qr tt (λ a. qr tt (λ y. qg))) (qn refl (λ _. qg))
quiet_of (g.Program ps) h = absurd h
quiet_of (g.Procedure names) h = absurd h
quiet_of (g.Locals ls) h = absurd h
quiet_of g.TypeOf h = absurd h
quiet_of (g.MoreKeys ks) h = absurd h
quiet_of (g.Statements ls ss) h = absurd h
quiet_of (g.Statement ls) h = absurd h
quiet_of (g.Block ls) h = absurd h
quiet_of (g.Else ls) h = absurd h

-- a plain token notes nothing, and is no `:`

silent : {b : Bool} {r : Kind} (c : Test b r) → Plain c → (x : Value r) → new_names b r c x ≡ []
silent (the_sign o) h x = refl
silent (the_word k) h x = refl
silent (the_name k) h x = refl
silent (a_new_name names) h x = absurd h
silent (a_variable ns some) h x = refl
silent a_number h x = refl
silent a_real h x = refl
silent a_label h x = refl
silent a_base h x = refl
silent a_key h x = refl
silent an_operator h x = refl

operator_no_colon : (o : _) → is_colon (operator_tok o) ≡ false
operator_no_colon op.Iff = refl
operator_no_colon op.Implies = refl
operator_no_colon op.Or = refl
operator_no_colon op.And = refl
operator_no_colon op.Eq = refl
operator_no_colon op.Ne = refl
operator_no_colon op.Lt = refl
operator_no_colon op.Le = refl
operator_no_colon op.Gt = refl
operator_no_colon op.Ge = refl
operator_no_colon op.Add = refl
operator_no_colon op.Sub = refl
operator_no_colon op.Mul = refl
operator_no_colon op.Divide = refl
operator_no_colon op.IntDiv = refl
operator_no_colon op.IntMod = refl

token_no_colon : {b : Bool} {r : Kind} (c : Test b r) (k : PlacedLexeme) (x : Value r) → Plain c → Passes c k x → is_colon k.tok ≡ false
token_no_colon (the_sign o) k x h p = ap is_colon p ∙ h
token_no_colon (the_word w) k x h p = ap is_colon p
token_no_colon (the_name n) k x h p = ap is_colon p
token_no_colon (a_new_name names) k x h p = ap is_colon p.0
token_no_colon (a_variable ns some) k x h p = ap is_colon p.is
token_no_colon a_number k x h p = ap is_colon p
token_no_colon a_real k x h p = ap is_colon p
token_no_colon a_label k x h p = ap is_colon p
token_no_colon a_base k x h p = ap is_colon p
token_no_colon a_key k x h p = ap is_colon p.0
token_no_colon an_operator k o h p = ap is_colon p ∙ operator_no_colon o

-- what is bound in two lists

binds_at : (x : List ℕ) (b c : Bool) → b ≡ c → (if b then x ∷ [] else []) ≡ (if c then x ∷ [] else [])
binds_at x b c e = ap (λ (d : Bool). if d then x ∷ [] else []) e

binds_as : (k : Lexeme) (ts us : List PlacedLexeme) → starts_colon ts ≡ starts_colon us → binds k ts ≡ binds k us
binds_as (tok.Name x) ts us e = binds_at x (starts_colon ts) (starts_colon us) e
binds_as (tok.Number n) ts us e = refl
binds_as (tok.Real n) ts us e = refl
binds_as (tok.Text l) ts us e = refl
binds_as (tok.Sign o) ts us e = refl

no_bind : (k : Lexeme) (ts : List PlacedLexeme) → starts_colon ts ≡ false → binds k ts ≡ []
no_bind (tok.Name x) ts e = binds_at x (starts_colon ts) false e
no_bind (tok.Number n) ts e = refl
no_bind (tok.Real n) ts e = refl
no_bind (tok.Text l) ts e = refl
no_bind (tok.Sign o) ts e = refl

starts_both : (ts us : List PlacedLexeme) → starts_colon ts ≡ false → starts_colon us ≡ false → starts_colon (ts ++ us) ≡ false
starts_both [] us h i = i
starts_both (k ∷ ts) us h i = h

starts_first : (ts us : List PlacedLexeme) → starts_colon us ≡ false → starts_colon (ts ++ us) ≡ starts_colon ts
starts_first [] us i = i
starts_first (k ∷ ts) us i = refl

bound_append : (ts us : List PlacedLexeme) → starts_colon us ≡ false → bound_in (ts ++ us) ≡ bound_in ts ++ bound_in us
bound_append [] us h = refl
bound_append (k ∷ ts) us h =
    ap (λ l. l ++ bound_in (ts ++ us)) (binds_as k.tok (ts ++ us) ts (starts_first ts us h)) ∙ ap (λ l. binds k.tok ts ++ l) (bound_append ts us h) ∙
    sym (append_assoc (binds k.tok ts) (bound_in ts) (bound_in us))

bound_after : (k : PlacedLexeme) (ts : List PlacedLexeme) → starts_colon ts ≡ false → bound_in (k ∷ ts) ≡ bound_in ts
bound_after k ts h = ap (λ l. l ++ bound_in ts) (no_bind k.tok ts h)

bound_named : (k j : PlacedLexeme) (x : List ℕ) (ts : List PlacedLexeme) → k.tok ≡ tok.Name x → j.tok ≡ tok.Sign sign.Colon → bound_in (k ∷ j ∷ ts) ≡ x ∷ bound_in ts
bound_named k j x ts e f =
    let first : binds k.tok (j ∷ ts) ≡ x ∷ [] = ap (λ t. binds t (j ∷ ts)) e ∙ binds_at x (is_colon j.tok) true (ap is_colon f) in
    let second : binds j.tok ts ≡ [] = ap (λ t. binds t ts) f in
    ap (λ l. l ++ (binds j.tok ts ++ bound_in ts)) first ∙ ap (λ l. (x ∷ []) ++ (l ++ bound_in ts)) second

-- what is read in the second form

abbrev telling_rules : Rules telling
telling_rules = noted_rules new_names g.rules

abbrev Second : {s : Kind} → g.Rule s → List (List ℕ) → List PlacedLexeme → Value s → List (List ℕ) → List PlacedLexeme → Type 0
Second {s} a ns ts x more us = greedy.Reads telling_rules (new s) (noting_rule new_names ns a) ts (x, more) us

pub record Noted {s : Kind} (a : g.Rule s) (ns : List (List ℕ)) (ts : List PlacedLexeme) (x : Value s) (us : List PlacedLexeme) : Type 0 where
  pub front : List PlacedLexeme
  pub is : ts ≡ front ++ us
  pub quiet : starts_colon front ≡ false
  pub reads : Second a ns ts x (ns ++ bound_in front) us

second_at : {s : Kind} (a : g.Rule s) (ns : List (List ℕ)) {ts us : List PlacedLexeme} {x : Value s} {l m : List (List ℕ)} → l ≡ m → Second a ns ts x l us → Second a ns ts x m us
second_at a ns {ts = ts} {us = us} {x = x} e h = subst (λ l. Second a ns ts x l us) e h

noted_at : {s : Kind} (a : g.Rule s) {ns ms : List (List ℕ)} {ts us : List PlacedLexeme} {x : Value s} → ns ≡ ms → Noted a ns ts x us → Noted a ms ts x us
noted_at a {ts = ts} {us = us} {x = x} e h = subst (λ l. Noted a l ts x us) e h

-- one plain token more
after_plain : (ns note more more' : List (List ℕ)) → note ≡ [] → more' ≡ more → (ns ++ note) ++ more ≡ ns ++ more'
after_plain ns note more more' e f = ap (λ l. (ns ++ l) ++ more) e ∙ ap (λ l. l ++ more) (append-nil ns) ∙ ap (λ l. ns ++ l) (sym f)

-- a name, and the `:` after it
after_name : (ns more more' : List (List ℕ)) (x : List ℕ) → more' ≡ x ∷ more → ((ns ++ (x ∷ [])) ++ []) ++ more ≡ ns ++ more'
after_name ns more more' x f = ap (λ l. l ++ more) (append-nil (ns ++ (x ∷ []))) ∙ append_assoc ns (x ∷ []) more ∙ ap (λ l. ns ++ l) (sym f)

noted : {s : Kind} {a : g.Rule s} {ts us : List PlacedLexeme} {x : Value s} → Quiet a → greedy.Reads g.rules s a ts x us → (ns : List (List ℕ)) → Noted a ns ts x us
noted qg (given {x = x}) ns = record { front = []; is = refl; quiet = refl; reads = second_at (give x) ns (sym (append-nil ns)) given }
noted (qn q f) (needed {r = r} {c = c} {go = go} {v = y} p h) ns =
    let i = noted (f y) h (ns ++ new_names true r c y) in
    record {
      front = p.token ∷ i.front;
      is = p.is ∙ ap (λ l. p.token ∷ l) i.is;
      quiet = token_no_colon c p.token y q p.passes;
      reads = second_at (need c go) ns (after_plain ns (new_names true r c y) (bound_in i.front) (bound_in (p.token ∷ i.front)) (silent c q y) (bound_after p.token i.front i.quiet))
          (needed (wide.starts_up g.rules (second_rules new_names g.rules) p) i.reads);
    }
noted (qb {names = names} {go = go} f) (needed {v = y} p (needed p' h)) ns =
    let i = noted (f y) h ((ns ++ (y ∷ [])) ++ []) in
    record {
      front = p.token ∷ p'.token ∷ i.front;
      is = p.is ∙ ap (λ l. p.token ∷ l) (p'.is ∙ ap (λ l. p'.token ∷ l) i.is);
      quiet = ap is_colon p.passes.0;
      reads = second_at (need (a_new_name names) (λ x. g.after_sign sign.Colon (go x))) ns
          (after_name ns (bound_in i.front) (bound_in (p.token ∷ p'.token ∷ i.front)) y (bound_named p.token p'.token y i.front p.passes.0 p'.passes))
          (needed (wide.starts_up g.rules (second_rules new_names g.rules) p) (needed (wide.starts_up g.rules (second_rules new_names g.rules) p') i.reads));
    }
noted (qw q f g') (taken {b = b} {r = r} {c = c} {go = go} {other = other} {v = y} p h) ns =
    let i = noted (f y) h (ns ++ new_names b r c y) in
    record {
      front = p.token ∷ i.front;
      is = p.is ∙ ap (λ l. p.token ∷ l) i.is;
      quiet = token_no_colon c p.token y q p.passes;
      reads = second_at (when c go other) ns (after_plain ns (new_names b r c y) (bound_in i.front) (bound_in (p.token ∷ i.front)) (silent c q y) (bound_after p.token i.front i.quiet))
          (taken (wide.starts_up g.rules (second_rules new_names g.rules) p) i.reads);
    }
noted (qw q f g') (passed n h) ns =
    let i = noted g' h ns in
    record { front = i.front; is = i.is; quiet = i.quiet; reads = passed (wide.isnot_up g.rules (second_rules new_names g.rules) n) i.reads }
noted (qr e f) (called {a = a} {go = go} {y = y} h k) ns =
    let i = noted (quiet_of a e) h [] in
    let j = noted (f y) k (ns ++ bound_in i.front) in
    record {
      front = i.front ++ j.front;
      is = i.is ∙ ap (λ l. i.front ++ l) j.is ∙ sym (append_assoc i.front j.front _);
      quiet = starts_both i.front j.front i.quiet j.quiet;
      reads = second_at (read a go) ns (append_assoc ns (bound_in i.front) (bound_in j.front) ∙ ap (λ l. ns ++ l) (sym (bound_append i.front j.front j.quiet))) (called i.reads j.reads);
    }

-- the tokens that were read

abbrev pub eaten : List PlacedLexeme → List PlacedLexeme → List PlacedLexeme
eaten ts us = take (length ts - length us) ts

pub expr_noted : (x : g.ExprScope) {ts us : List PlacedLexeme} {e : _} → greedy.Reads g.rules v.expr (g.rule (g.Expr x)) ts e us →
    greedy.Reads telling_rules (new v.expr) (noting_rule new_names [] (g.rule (g.Expr x))) ts (e, bound_in (eaten ts us)) us
expr_noted x {ts = ts} {us = us} {e = e} h =
    let i = noted (quiet_of (g.Expr x) tt) h [] in
    let same : bound_in i.front ≡ bound_in (eaten ts us) = ap bound_in (sym (front_taken i.front us) ∙ ap (λ l. eaten l us) (sym i.is)) in
    second_at (g.rule (g.Expr x)) [] same i.reads
