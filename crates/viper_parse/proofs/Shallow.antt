-- A term is nested no deeper than its tokens are many, and they stand in a row without a divider.
use Rattle.std.proofs.Common.{◌≡◌, refl, sym, ap, subst, ◌∙◌, ℕ, zero, suc, ◌+◌, ◌≤◌, max, Bool, true, false, cond, List, [], ◌∷◌, ◌++◌, length, append_assoc, arith, if◌then◌else◌, IsTrue}
use Rattle.std.proofs.lemmas.List.{append-nil, length-append}
use Rattle.std.proofs.lemmas.Option.{slice_get_within}
use Rattle.viper_parse.proofs.Counted.{one_longer, longer_by}
use Rattle.viper_syntax.specs.declared.tokens.Token.{Token}
use Rattle.viper_syntax.specs.declared.tokens.Word.{Word}
use Rattle.viper_syntax.specs.declared.tokens.Word.TheVariants as word
use Rattle.viper_syntax.specs.declared.tokens.Sign.{Sign}
use Rattle.viper_syntax.specs.declared.tokens.Sign.TheVariants as sign
use Rattle.viper_syntax.specs.declared.stmts.Named.{Named}
use Rattle.viper_syntax.specs.Term as t
use Rattle.viper_syntax.specs.Stmt as s
use Rattle.viper_syntax.specs.Decl as d
use Rattle.viper_grammar.specs.declared.parts.Shape.{Shape}
use Rattle.viper_grammar.specs.declared.parts.Shape.TheVariants as shape
use Rattle.viper_grammar.specs.Tests as v
use Rattle.viper_grammar.specs.Tests.{Kind, Value, WrittenTerm, Test, Passes, is_constant, is_negation, level_of}
use Rattle.viper_grammar.specs.Grammar as g
use Rattle.viper_grammar.specs.Grammar.{Symbol, Rule, give, need, when, read, rule}
use Rattle.viper_grammar.specs.Spells.{Derives, given, needed, taken, passed, called}
use Rattle.viper_syntax.specs.Good.{depth, amount_depth, terms_depth, amount_terms, rhs_terms, with_fields, target_terms, option_terms, block_terms, arm_terms, arms_terms, clauses_terms, decls_terms}
use Rattle.viper_syntax.specs.Limit.{is_divider, is_dividing_word, is_dividing_sign, IsUndivided}
use Rattle.grammar.proofs.Each.{each_append}
use Rattle.viper_parse.proofs.Leaves.{Each, each_by, terms_in, held_terms, decls_terms_more, stmts_terms_more, arms_terms_more, clauses_more}

-- tokens without a divider among them, wherever they stand, are at most n
pub record HasShortRows (n : ℕ) (ts : List Token) : Type 0 where
  pub short : (before row after : List Token) → ts ≡ before ++ (row ++ after) → IsUndivided row → length row ≤ n

-- each of these terms is nested at most n deep
abbrev pub AllShallow : ℕ → List t.Term → Type 0
AllShallow n es = Each (λ a. depth a ≤ n) es

-- depths of lists

abbrev deepest : List t.Term → ℕ
deepest [] = 0
deepest (a ∷ rest) = max (depth a) (deepest rest)

terms_deepest : (es : List t.Term) → terms_depth (t.terms es) ≡ deepest es
terms_deepest [] = refl
terms_deepest (a ∷ rest) = ap (λ n. max (depth a) n) (terms_deepest rest)

deepest_more : (es : List t.Term) (a : t.Term) → deepest (es ++ (a ∷ [])) ≤ deepest es + depth a
deepest_more [] a = omega arith
deepest_more (b ∷ rest) a = let h : deepest (rest ++ (a ∷ [])) ≤ deepest rest + depth a = deepest_more rest a in omega arith

abbrev weight : (s : Kind) → Value s → ℕ
weight v.part p = depth p.tree
weight v.arguments es = deepest es
weight v.amount m = amount_depth m
weight v.call c = deepest c.args
weight v.instance i = deepest i.call.args + amount_depth i.amount
-- each further name is two tokens
weight v.names xs = length xs + length xs
weight _ x = 0

-- what a symbol of a list of terms has so far
abbrev held : {s : Kind} → Symbol s → ℕ
held (g.Chain n p) = depth p.tree
held (g.Fields p) = depth p.tree
held (g.MoreArguments es) = deepest es
held (g.Separated o xs) = length xs + length xs
held _ = 0

-- the symbols of terms, and of names in a row
abbrev Low : {s : Kind} → Symbol s → Type 0
Low g.InstanceOf = Unit {0}
Low g.CallOf = Unit {0}
Low g.Arguments = Unit {0}
Low (g.MoreArguments es) = Unit {0}
Low g.Amount = Unit {0}
Low g.Group = Unit {0}
Low g.Term = Unit {0}
Low (g.Level n) = Unit {0}
Low (g.Chain n p) = Unit {0}
Low g.Unary = Unit {0}
Low (g.Fields p) = Unit {0}
Low g.First = Unit {0}
Low (g.Separated o xs) = is_dividing_sign o ≡ false
Low _ = ⊥

abbrev Inside : {b : Bool} {r : Kind} → Test b r → Type 0
Inside {r = r} c = (k : Token) (x : Value r) → Passes c k x → is_divider k.tok ≡ false

data Costs (s : Kind) : ℕ → Rule s → Type 0 where
  cg : {n : ℕ} {x : Value s} → weight s x ≤ n → Costs s n (give x)
  cn : {n : ℕ} {r : Kind} {c : Test true r} {go : Value r → Rule s} → Inside c → ((x : Value r) → Costs s (n + 1) (go x)) → Costs s n (need c go)
  cw : {n : ℕ} {b : Bool} {r : Kind} {c : Test b r} {go : Value r → Rule s} {other : Rule s} →
      Inside c → ((x : Value r) → Costs s (n + 1) (go x)) → Costs s n other → Costs s n (when c go other)
  cr : {n : ℕ} {r : Kind} {a : Symbol r} {go : Value r → Rule s} →
      Low a → ((y : Value r) (m : ℕ) → weight r y ≤ held a + m → Costs s (n + m) (go y)) → Costs s n (read a go)

costs_cond : {s : Kind} {n : ℕ} (b : Bool) {x y : Rule s} → Costs s n x → Costs s n y → Costs s n (cond b x y)
costs_cond true h i = h
costs_cond false h i = i

costs_if : {s : Kind} {n : ℕ} (b : Bool) {x y : Rule s} → Costs s n x → Costs s n y → Costs s n (if b then x else y)
costs_if true h i = h
costs_if false h i = i

constant_inside : (w : Word) → IsTrue (is_constant w) → is_dividing_word w ≡ false
constant_inside word.True h = refl
constant_inside word.False h = refl
constant_inside word.Null h = refl
constant_inside word.Write h = refl
constant_inside word.None h = refl
constant_inside word.Wildcard h = refl
constant_inside _ h = cc

negation_inside : (o : Sign) → IsTrue (is_negation o) → is_dividing_sign o ≡ false
negation_inside sign.Not h = refl
negation_inside sign.Minus h = refl
negation_inside _ h = cc

operator_inside : (o : Sign) (n : ℕ) → level_of o ≡ n → 1 ≤ n → is_dividing_sign o ≡ false
operator_inside sign.Iff n e h = refl
operator_inside sign.Implies n e h = refl
operator_inside sign.Or n e h = refl
operator_inside sign.And n e h = refl
operator_inside sign.Equal n e h = refl
operator_inside sign.NotEqual n e h = refl
operator_inside sign.AtMost n e h = refl
operator_inside sign.AtLeast n e h = refl
operator_inside sign.Less n e h = refl
operator_inside sign.Greater n e h = refl
operator_inside sign.Plus n e h = refl
operator_inside sign.Minus n e h = refl
operator_inside sign.Star n e h = refl
operator_inside sign.Slash n e h = refl
operator_inside sign.Backslash n e h = refl
operator_inside sign.Percent n e h = refl
operator_inside _ n e h = absurd (omega arith)

called_depth : (es : List t.Term) (m : ℕ) → deepest es ≤ 0 + m → 1 + terms_depth (t.terms es) ≤ 0 + 1 + 1 + m
called_depth es m h = let e : terms_depth (t.terms es) ≡ deepest es = terms_deepest es in omega arith

opened_depth : (i : v.WrittenInstance) (p : WrittenTerm) (m m' : ℕ) → deepest i.call.args + amount_depth i.amount ≤ 0 + m → depth p.tree ≤ 0 + m' →
    1 + max (terms_depth (t.terms i.call.args)) (max (amount_depth i.amount) (depth p.tree)) ≤ 0 + 1 + m + 1 + m'
opened_depth i p m m' h h' = let e : terms_depth (t.terms i.call.args) ≡ deepest i.call.args = terms_deepest i.call.args in omega arith

more_depth : (es : List t.Term) (a : t.Term) (m m' w : ℕ) → depth a ≤ 0 + m → w ≤ deepest (es ++ (a ∷ [])) + m' → w ≤ deepest es + 1 + m + m'
more_depth es a m m' w h h' = let e : deepest (es ++ (a ∷ [])) ≤ deepest es + depth a = deepest_more es a in omega arith

low_costs : {s : Kind} (a : Symbol s) → Low a → Costs s (held a) (rule a)
low_costs g.Term l = cr tt (λ p m h. costs_cond (g.is_open p.shape) (cg (omega arith))
    (cw (λ k x q. ap is_divider q.0) (λ at. cr tt (λ q m' h'. cn (λ k x q. ap is_divider q.0) (λ _. cr tt (λ r m'' h''. (cg (omega arith)))))) (cg (omega arith))))
low_costs (g.Level zero) l = cr tt (λ p m h. (cg (omega arith)))
low_costs (g.Level (suc n)) l = cr tt (λ p m h. cr tt (λ q m' h'. (cg (omega arith))))
low_costs (g.Chain n p) l = costs_cond (g.is_open p.shape) (cg (omega arith))
    (cw (λ k o q. ap is_divider q.0 ∙ operator_inside o.0 n q.2 q.3) (λ o. cr tt (λ q m h. costs_if (g.repeats n) (cr tt (λ r m' h'. (cg (omega arith)))) (cg (omega arith)))) (cg (omega arith)))
low_costs g.Unary l =
    cw (λ k o q. ap is_divider q.0 ∙ negation_inside o.0 q.2) (λ o. cr tt (λ p m h. (cg (omega arith))))
    (cw (λ k x q. ap is_divider q.0) (λ at. cr tt (λ i m h. cn (λ k x q. ap is_divider q.0) (λ _. cr tt (λ p m' h'. cg (opened_depth i p m m' h h')))))
    (cr tt (λ p m h. cr tt (λ q m' h'. (cg (omega arith))))))
low_costs (g.Fields p) l = cw (λ k x q. ap is_divider q.0) (λ _. cn (λ k x q. ap is_divider q.0) (λ f. cr tt (λ q m h. (cg (omega arith))))) (cg (omega arith))
low_costs g.First l =
    cw (λ k x q. ap is_divider q.0) (λ x. cw (λ k x q. ap is_divider q.0) (λ _. cr tt (λ es m h. cg (called_depth es m h))) (cg (omega arith)))
    (cw (λ k x q. ap is_divider q.0) (λ n. (cg (omega arith)))
    (cw (λ k w q. ap is_divider q.0 ∙ constant_inside w.0 q.2) (λ w. (cg (omega arith)))
    (cw (λ k x q. ap is_divider q.0) (λ at. cr tt (λ p m h. (cg (omega arith))))
    (cw (λ k x q. ap is_divider q.0) (λ at. cn (λ k x q. ap is_divider q.0) (λ _. cr tt (λ p m h. cr tt (λ a m' h'. (cg (omega arith))))))
    (cr tt (λ p m h. (cg (omega arith))))))))
low_costs g.Group l = cn (λ k x q. ap is_divider q.0) (λ _. cr tt (λ p m h. cn (λ k x q. ap is_divider q.0) (λ _. (cg (omega arith)))))
low_costs g.Amount l = cw (λ k x q. ap is_divider q.0) (λ _. cr tt (λ p m h. cn (λ k x q. ap is_divider q.0) (λ _. (cg (omega arith))))) (cn (λ k x q. ap is_divider q.0) (λ _. (cg (omega arith))))
low_costs g.Arguments l = cw (λ k x q. ap is_divider q.0) (λ _. (cg (omega arith))) (cr tt (λ p m h. cr tt (λ es m' h'. (cg (omega arith)))))
low_costs (g.MoreArguments es) l =
    cw (λ k x q. ap is_divider q.0) (λ _. cr tt (λ p m h. cr tt (λ all m' h'. cg (more_depth es p.tree m m' (deepest all) h h')))) (cn (λ k x q. ap is_divider q.0) (λ _. (cg (omega arith))))
low_costs g.CallOf l = cn (λ k x q. ap is_divider q.0) (λ x. cn (λ k x q. ap is_divider q.0) (λ _. cr tt (λ es m h. (cg (omega arith)))))
low_costs g.InstanceOf l = cw (λ k x q. ap is_divider q.0) (λ _. cn (λ k x q. ap is_divider q.0) (λ _. cr tt (λ x m h. cr tt (λ a m' h'. (cg (omega arith)))))) (cr tt (λ x m h. (cg (omega arith))))
low_costs (g.Program ds) l = absurd l
low_costs (g.Predicate at) l = absurd l
low_costs (g.Method at) l = absurd l
low_costs g.Returns l = absurd l
low_costs (g.Clauses cs) l = absurd l
low_costs g.Body l = absurd l
low_costs g.Formals l = absurd l
low_costs (g.MoreFormals xs) l = absurd l
low_costs g.FormalOf l = absurd l
low_costs g.Block l = absurd l
low_costs (g.Statements ss) l = absurd l
low_costs g.Statement l = absurd l
low_costs (g.Variable at) l = absurd l
low_costs (g.AfterName x) l = absurd l
low_costs (g.Arm at) l = absurd l
low_costs (g.Arms bs) l = absurd l
low_costs (g.WhileLoop at) l = absurd l
low_costs (g.Invariants is) l = absurd l
low_costs g.Rhs l = absurd l
low_costs (g.Creation at) l = absurd l
low_costs (g.Separated o xs) l =
    cw (λ k x q. ap is_divider q.0 ∙ l) (λ _. cn (λ k x q. ap is_divider q.0) (λ x. cr l (λ z m h. let e = length-append xs (x ∷ []) in cg (omega arith)))) (cg (omega arith))
low_costs g.Semicolons l = absurd l

-- a token that stands in a row
abbrev InRow : Token → Type 0
InRow k = is_divider k.tok ≡ false

undivided : (ts : List Token) → Each InRow ts → IsUndivided ts
undivided [] h i k e = absurd (omega (arith, slice_get_within [] i k e))
undivided (j ∷ ts) h zero k e = let same : j ≡ k = cc in subst InRow same h.0
undivided (j ∷ ts) h (suc i) k e = undivided ts h.1 i k e

record Bounded (s : Kind) (n : ℕ) (ts : List Token) (x : Value s) : Type 0 where
  small : weight s x ≤ n + length ts
  row : Each InRow ts

bounded : {s : Kind} {a : Rule s} {n : ℕ} {ts : List Token} {x : Value s} → Costs s n a → Derives s a ts x → Bounded s n ts x
bounded (cg h) given = record { small = omega arith; row = tt }
bounded {s = s} {n = n} {ts = ts} {x = x} (cn i f) (needed {us = us} {v = y} q d) =
    let e = bounded (f y) d in
    record { small = one_longer n (weight s x) ts us q.token q.is e.small; row = subst (Each InRow) (sym q.is) (i q.token y q.passes, e.row) }
bounded {s = s} {n = n} {ts = ts} {x = x} (cw i f o) (taken {us = us} {v = y} q d) =
    let e = bounded (f y) d in
    record { small = one_longer n (weight s x) ts us q.token q.is e.small; row = subst (Each InRow) (sym q.is) (i q.token y q.passes, e.row) }
bounded (cw i f o) (passed d) = bounded o d
bounded {s = s} {n = n} {x = x} (cr {a = a} l f) (called {ts = ts} {us = us} {y = y} d d') =
    let e = bounded (low_costs a l) d in
    let e' = bounded (f y (length ts) e.small) d' in
    record { small = longer_by n (weight s x) ts us e'.small; row = each_append InRow ts us e.row e'.row }

-- the terms of what is built

-- the symbols of statements and declarations
abbrev High : {s : Kind} → Symbol s → Type 0
High g.InstanceOf = ⊥
High g.CallOf = ⊥
High g.Arguments = ⊥
High (g.MoreArguments es) = ⊥
High g.Amount = ⊥
High g.Group = ⊥
High g.Term = ⊥
High (g.Level n) = ⊥
High (g.Chain n p) = ⊥
High g.Unary = ⊥
High (g.Fields p) = ⊥
High g.First = ⊥
High _ = Unit {0}

-- the kinds of terms
abbrev IsLow : Kind → Type 0
IsLow v.part = Unit {0}
IsLow v.arguments = Unit {0}
IsLow v.call = Unit {0}
IsLow v.instance = Unit {0}
IsLow _ = ⊥

all_append : (n : ℕ) (l m : List t.Term) → AllShallow n l → AllShallow n m → AllShallow n (l ++ m)
all_append n l m h i = each_append (λ a. depth a ≤ n) l m h i

deepest_all : (n : ℕ) (es : List t.Term) → deepest es ≤ n → AllShallow n es
deepest_all n [] h = tt
deepest_all n (a ∷ rest) h = (omega arith, deepest_all n rest (omega arith))

amount_all : (n : ℕ) (m : t.Amount) → amount_depth m ≤ n → AllShallow n (amount_terms m)
amount_all n t.omitted h = tt
amount_all n (t.given a) h = (h, tt)

low_all : (n : ℕ) (s : Kind) (x : Value s) → IsLow s → weight s x ≤ n → AllShallow n (terms_in s x)
low_all n v.part p l h = (h, tt)
low_all n v.arguments es l h = deepest_all n es h
low_all n v.call c l h = deepest_all n c.args h
low_all n v.instance i l h = all_append n i.call.args (amount_terms i.amount) (deepest_all n i.call.args (omega arith)) (amount_all n i.amount (omega arith))
low_all n v.nothing x l h = absurd l
low_all n v.place x l h = absurd l
low_all n v.name x l h = absurd l
low_all n v.number x l h = absurd l
low_all n v.a_word x l h = absurd l
low_all n v.a_sign x l h = absurd l
low_all n v.amount x l h = absurd l
low_all n v.names x l h = absurd l
low_all n v.formal x l h = absurd l
low_all n v.formals x l h = absurd l
low_all n v.rhs x l h = absurd l
low_all n v.stmt x l h = absurd l
low_all n v.stmts x l h = absurd l
low_all n v.block x l h = absurd l
low_all n v.arm x l h = absurd l
low_all n v.clauses x l h = absurd l
low_all n v.body x l h = absurd l
low_all n v.decl x l h = absurd l
low_all n v.decls x l h = absurd l

-- lists with one more
more : (n : ℕ) {all : List t.Term} (l m : List t.Term) → all ≡ l ++ m → AllShallow n l → AllShallow n m → AllShallow n all
more n l m e h i = each_by (λ a. depth a ≤ n) e (all_append n l m h i)

data Keeps (n : ℕ) (s : Kind) : Rule s → Type 0 where
  kg : {x : Value s} → AllShallow n (terms_in s x) → Keeps n s (give x)
  kn : {r : Kind} {c : Test true r} {go : Value r → Rule s} → ((x : Value r) → Keeps n s (go x)) → Keeps n s (need c go)
  kw : {b : Bool} {r : Kind} {c : Test b r} {go : Value r → Rule s} {other : Rule s} → ((x : Value r) → Keeps n s (go x)) → Keeps n s other → Keeps n s (when c go other)
  kl : {r : Kind} {a : Symbol r} {go : Value r → Rule s} → Low a → IsLow r → held a ≡ 0 → ((y : Value r) → AllShallow n (terms_in r y) → Keeps n s (go y)) → Keeps n s (read a go)
  ks : {x : Named} {go : List Named → Rule s} → ((xs : List Named) → length xs + length xs ≤ 2 + n → Keeps n s (go xs)) → Keeps n s (read (g.Separated sign.Dot (x ∷ [])) go)
  kh : {r : Kind} {a : Symbol r} {go : Value r → Rule s} → High a → AllShallow n (held_terms a) → ((y : Value r) → AllShallow n (terms_in r y) → Keeps n s (go y)) → Keeps n s (read a go)

-- the arguments of a call are no deeper than the call
listed_all : (n : ℕ) (es : t.Terms) → terms_depth es ≤ n → AllShallow n (g.listed es)
listed_all n t.none h = tt
listed_all n (t.more a rest) h = (omega arith, listed_all n rest (omega arith))

rhs_from_all : (n : ℕ) (h : Shape) (a : t.Term) → depth a ≤ n → AllShallow n (rhs_terms (g.rhs_from h a))
rhs_from_all n shape.Call (t.Inst x es at) i = listed_all n es (omega arith)
rhs_from_all n _ _ i = (i, tt)

-- a target is as deep as it has names
with_fields_depth : (a : t.Term) (fs : List Named) → depth (with_fields a fs) ≡ depth a + length fs
with_fields_depth a [] = omega arith
with_fields_depth a (f ∷ fs) = let e = with_fields_depth (t.Field a f.name f.pos) fs in omega arith

target_all : (n : ℕ) (xs : List Named) → 1 ≤ n → length xs + length xs ≤ 2 + n → AllShallow n (target_terms xs)
target_all n [] p h = tt
target_all n (x ∷ fs) p h = (let e = with_fields_depth (t.Name x.name x.pos) fs in omega arith, tt)

rhs_all : (n : ℕ) (p : WrittenTerm) → AllShallow n (p.tree ∷ []) → AllShallow n (rhs_terms (g.rhs_of p))
rhs_all n p h = rhs_from_all n p.shape p.tree h.0

high_keeps : (n : ℕ) → 1 ≤ n → {s : Kind} (a : Symbol s) → High a → AllShallow n (held_terms a) → Keeps n s (rule a)
high_keeps n some (g.Program ds) l h =
    kw (λ at. kh tt tt (λ x i. kh tt tt (λ _ j. kh tt (more n _ _ (decls_terms_more ds (d.Field x)) h tt) (λ z k. kg k))))
    (kw (λ at. kh tt tt (λ x i. kh tt (more n _ _ (decls_terms_more ds x) h i) (λ z k. kg k)))
    (kw (λ at. kh tt tt (λ x i. kh tt (more n _ _ (decls_terms_more ds x) h i) (λ z k. kg k))) (kg h)))
high_keeps n some (g.Predicate at) l h = kn (λ x. kn (λ _. kh tt tt (λ xs i. kw (λ _. kl tt tt refl (λ p j. kn (λ _. kg j))) (kg tt))))
high_keeps n some (g.Method at) l h = kn (λ x. kn (λ _. kh tt tt (λ xs i. kh tt tt (λ ys j. kh tt tt (λ cs k. kh tt tt (λ b m. kg (all_append n (clauses_terms cs) (option_terms block_terms b) k m)))))))
high_keeps n some g.Returns l h = kw (λ _. kn (λ _. kh tt tt (λ z i. kg i))) (kg tt)
high_keeps n some (g.Clauses cs) l h = kw (λ w. kl tt tt refl (λ p i. kh tt tt (λ _ j. kh tt (more n _ _ (clauses_more cs (record { word = w.0; term = p.tree })) h i) (λ z k. kg k)))) (kg h)
high_keeps n some g.Body l h = kw (λ at. kh tt tt (λ ss i. kg i)) (kg tt)
high_keeps n some g.Formals l h = kw (λ _. kg tt) (kh tt tt (λ x i. kh tt tt (λ z j. kg j)))
high_keeps n some (g.MoreFormals xs) l h = kw (λ _. kh tt tt (λ x i. kh tt tt (λ z j. kg j))) (kn (λ _. kg tt))
high_keeps n some g.FormalOf l h = kn (λ x. kn (λ _. kn (λ w. kg tt)))
high_keeps n some g.Block l h = kn (λ at. kh tt tt (λ ss i. kg i))
high_keeps n some (g.Statements ss) l h = kw (λ _. kg h) (kh tt tt (λ a i. kh tt tt (λ _ j. kh tt (more n _ _ (stmts_terms_more ss a) h i) (λ z k. kg k))))
high_keeps n some g.Statement l h =
    kw (λ at. kh tt tt (λ z i. kg i)) (kw (λ w. kl tt tt refl (λ p i. kg i)) (kw (λ at. kl tt tt refl (λ x i. kg i)) (kw (λ at. kl tt tt refl (λ x i. kg i))
    (kw (λ at. kh tt tt (λ a i. kh tt (all_append n (arm_terms a) [] i tt) (λ z j. kg j))) (kw (λ at. kh tt tt (λ z i. kg i)) (kn (λ x. kh tt tt (λ z i. kg i))))))))
high_keeps n some (g.Variable at) l h = kh tt tt (λ x i. kw (λ _. kh tt tt (λ r j. kg j)) (kg tt))
high_keeps n some (g.AfterName x) l h =
    kw (λ _. kl tt tt refl (λ es i. kg i)) (kw (λ _. kn (λ y. kh tt tt (λ xs i. kn (λ _. kl tt tt refl (λ z j. kg j))))) (ks (λ xs i. kn (λ _. kh tt tt (λ r j. kg (all_append n (target_terms xs) (rhs_terms r) (target_all n xs some i) j))))))
high_keeps n some (g.Arm at) l h = kl tt tt refl (λ p i. kh tt tt (λ b j. kg (i.0, j)))
high_keeps n some (g.Arms bs) l h =
    kw (λ at. kh tt tt (λ a i. kh tt (more n _ _ (arms_terms_more bs a) h i) (λ z j. kg j)))
    (kw (λ _. kh tt tt (λ b i. kg (all_append n (arms_terms (s.arms bs)) (block_terms b) h i))) (kg (all_append n (arms_terms (s.arms bs)) [] h tt)))
high_keeps n some (g.WhileLoop at) l h = kl tt tt refl (λ p i. kh tt tt (λ is j. kh tt tt (λ b k. kg (all_append n (p.tree ∷ is) (block_terms b) (i.0, j) k))))
high_keeps n some (g.Invariants is) l h = kw (λ _. kl tt tt refl (λ p i. kh tt tt (λ _ j. kh tt (all_append n is (p.tree ∷ []) h i) (λ z k. kg k)))) (kg h)
high_keeps n some g.Rhs l h = kw (λ at. kh tt tt (λ z i. kg i)) (kl tt tt refl (λ p i. kg (rhs_all n p i)))
high_keeps n some (g.Creation at) l h = kn (λ _. kw (λ _. kg tt) (kw (λ _. kn (λ _. kg tt)) (kn (λ x. kh tt tt (λ xs i. kn (λ _. kg tt))))))
high_keeps n some (g.Separated o xs) l h = kw (λ _. kn (λ x. kh tt tt (λ z i. kg i))) (kg tt)
high_keeps n some g.Semicolons l h = kw (λ _. kh tt tt (λ z i. kg tt)) (kg tt)
high_keeps m some g.InstanceOf l h = absurd l
high_keeps m some g.CallOf l h = absurd l
high_keeps m some g.Arguments l h = absurd l
high_keeps m some (g.MoreArguments es) l h = absurd l
high_keeps m some g.Amount l h = absurd l
high_keeps m some g.Group l h = absurd l
high_keeps m some g.Term l h = absurd l
high_keeps m some (g.Level n) l h = absurd l
high_keeps m some (g.Chain n p) l h = absurd l
high_keeps m some g.Unary l h = absurd l
high_keeps m some (g.Fields p) l h = absurd l
high_keeps m some g.First l h = absurd l

short_front : (n : ℕ) (ts us : List Token) → HasShortRows n (ts ++ us) → HasShortRows n ts
short_front n ts us h = record {
  short = λ before row after e r.
      h.short before row (after ++ us) (ap (λ l. l ++ us) e ∙ append_assoc before (row ++ after) us ∙ ap (λ l. before ++ l) (append_assoc row after us)) r;
}

short_back : (n : ℕ) (ts us : List Token) → HasShortRows n (ts ++ us) → HasShortRows n us
short_back n ts us h = record {
  short = λ before row after e r.
      h.short (ts ++ before) row after (ap (λ l. ts ++ l) e ∙ sym (append_assoc ts before (row ++ after))) r;
}

short_rest : (n : ℕ) (ts us : List Token) (k : Token) → ts ≡ k ∷ us → HasShortRows n ts → HasShortRows n us
short_rest n ts us k e h = short_back n (k ∷ []) us (subst (λ l. HasShortRows n l) e h)

row_short : (n : ℕ) (ts : List Token) → HasShortRows n ts → Each InRow ts → length ts ≤ n
row_short n ts h r = h.short [] ts [] (sym (append-nil ts)) (undivided ts r)

low_weight : (w h l n : ℕ) → h ≡ 0 → w ≤ h + l → l ≤ n → w ≤ n
low_weight w h l n e i j = omega arith

shallow : {n : ℕ} {s : Kind} {a : Rule s} {ts : List Token} {x : Value s} → 1 ≤ n → Keeps n s a → Derives s a ts x → HasShortRows n ts → AllShallow n (terms_in s x)
shallow p (kg h) given r = h
shallow {n = n} {ts = ts} p (kn f) (needed {us = us} {v = y} q d) r = shallow p (f y) d (short_rest n ts us q.token q.is r)
shallow {n = n} {ts = ts} p (kw f o) (taken {us = us} {v = y} q d) r = shallow p (f y) d (short_rest n ts us q.token q.is r)
shallow p (kw f o) (passed d) r = shallow p o d r
shallow {n = n} p (kl {r = k} {a = a} l low e f) (called {ts = ts} {us = us} {y = y} d d') r =
    let b = bounded (low_costs a l) d in
    let m : length ts ≤ n = row_short n ts (short_front n ts us r) b.row in
    let w : weight k y ≤ n = low_weight (weight k y) (held a) (length ts) n e b.small m in
    shallow p (f y (low_all n k y low w)) d' (short_back n ts us r)
shallow {n = n} p (ks {x = x} f) (called {ts = ts} {us = us} {y = y} d d') r =
    let b = bounded (low_costs (g.Separated sign.Dot (x ∷ [])) refl) d in
    let m : length ts ≤ n = row_short n ts (short_front n ts us r) b.row in
    let few = b.small in
    shallow p (f y (omega arith)) d' (short_back n ts us r)
shallow {n = n} p (kh {a = a} l h f) (called {ts = ts} {us = us} {y = y} d d') r =
    shallow p (f y (shallow p (high_keeps n p a l h) d (short_front n ts us r))) d' (short_back n ts us r)

-- no term of a program is nested deeper than its longest row of tokens without a divider
pub all_shallow : {n : ℕ} {ts : List Token} {ds : List d.Decl} → 1 ≤ n → Derives v.decls (rule (g.Program [])) ts ds → HasShortRows n ts → AllShallow n (decls_terms ds)
all_shallow {n = n} p h r = shallow p (high_keeps n p (g.Program []) tt tt) h r
