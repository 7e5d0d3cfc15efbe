-- The names and literals of a program are those of its tokens.
use Rattle.std.proofs.Common.{◌≡◌, refl, sym, ap, subst, ◌∙◌, ℕ, zero, suc, Bool, true, false, cond, List, [], ◌∷◌, ◌++◌, append_assoc, if◌then◌else◌}
use Rattle.std.proofs.lemmas.List.{append-nil}
use Rattle.std.specs.List.{AllByRecursion}
use Rattle.grammar.proofs.Each.{each_append, front, back}
use Rattle.grammar.proofs.Made as made
use Rattle.grammar.proofs.Made.{mg, mn, mw, mr, makes_cond, holds}
use Rattle.viper_syntax.specs.declared.tokens.Token.{Token}
use Rattle.viper_syntax.specs.declared.tokens.Tok.{Tok}
use Rattle.viper_syntax.specs.declared.tokens.Tok.TheVariants as k
use Rattle.viper_syntax.specs.declared.stmts.Named.{Named}
use Rattle.viper_syntax.specs.declared.stmts.Formal.{Formal}
use Rattle.viper_syntax.specs.Term as t
use Rattle.viper_syntax.specs.Stmt as s
use Rattle.viper_syntax.specs.Decl as d
use Rattle.viper_syntax.specs.Good.{amount_terms, rhs_terms, with_fields, target_terms, option_terms, stmt_terms, block_terms, arm_terms, stmts_terms, arms_terms, clauses_terms, decl_terms, decls_terms, IsLiteral, HasLiterals, AmountHasLiterals, HaveLiterals, formal_names, stmt_names, block_names, arm_names, stmts_names, arms_names, body_names, decl_names, decls_names, IsName, HasNames, AmountHasNames, HaveNames, names_of, rhs_uses, stmt_uses, block_uses, arm_uses, stmts_uses, arms_uses, body_uses, decl_uses, decls_uses}
use Rattle.viper_grammar.specs.declared.parts.Shape.{Shape}
use Rattle.viper_grammar.specs.declared.parts.Shape.TheVariants as shape
use Rattle.viper_grammar.specs.Tests as v
use Rattle.viper_grammar.specs.Tests.{Kind, Value, Test, this, a_name, a_number, one_of, a_negation, an_operator, Passes}
use Rattle.viper_grammar.specs.Grammar as g
use Rattle.viper_grammar.specs.Grammar.{Symbol, Rule, rule, viper, rules}
use Rattle.viper_grammar.specs.Spells.{Derives}

-- a property of each element
abbrev pub Each : {X : Type 0} → (X → Type 0) → List X → Type 0
Each P xs = AllByRecursion P xs

pub each_by : {X : Type 0} (P : X → Type 0) {xs ys : List X} → ys ≡ xs → Each P xs → Each P ys
each_by P e h = subst (λ l. Each P l) (sym e) h

each_map : {X : Type 0} {P Q : X → Type 0} → ((x : X) → P x → Q x) → (xs : List X) → Each P xs → Each Q xs
each_map f [] h = tt
each_map f (x ∷ xs) h = (f x h.0, each_map f xs h.1)

-- what lists hold after one more

more_of : {A X : Type 0} (f : List A → List X) (one : A → List X) → f [] ≡ [] → ((y : A) (ys : List A) → f (y ∷ ys) ≡ one y ++ f ys) →
    (ys : List A) (x : A) → f (ys ++ x ∷ []) ≡ f ys ++ one x
more_of f one none step [] x = step x [] ∙ ap (λ l. one x ++ l) none ∙ append-nil (one x) ∙ ap (λ l. l ++ one x) (sym none)
more_of f one none step (y ∷ ys) x =
    step y (ys ++ x ∷ []) ∙ ap (λ l. one y ++ l) (more_of f one none step ys x) ∙ sym (append_assoc (one y) (f ys) (one x)) ∙ ap (λ l. l ++ one x) (sym (step y ys))

pub decls_terms_more : (ds : List d.Decl) (x : d.Decl) → decls_terms (ds ++ x ∷ []) ≡ decls_terms ds ++ decl_terms x
decls_terms_more = more_of decls_terms decl_terms refl (λ y ys. refl)

pub decls_names_more : (ds : List d.Decl) (x : d.Decl) → decls_names (ds ++ x ∷ []) ≡ decls_names ds ++ decl_names x
decls_names_more = more_of decls_names decl_names refl (λ y ys. refl)

decls_uses_more : (ds : List d.Decl) (x : d.Decl) → decls_uses (ds ++ x ∷ []) ≡ decls_uses ds ++ decl_uses x
decls_uses_more = more_of decls_uses decl_uses refl (λ y ys. refl)

pub stmts_terms_more : (ss : List s.SStmt) (a : s.SStmt) → stmts_terms (s.stmts (ss ++ a ∷ [])) ≡ stmts_terms (s.stmts ss) ++ stmt_terms a
stmts_terms_more = more_of (λ ss. stmts_terms (s.stmts ss)) stmt_terms refl (λ b ss. refl)

pub stmts_names_more : (ss : List s.SStmt) (a : s.SStmt) → stmts_names (s.stmts (ss ++ a ∷ [])) ≡ stmts_names (s.stmts ss) ++ stmt_names a
stmts_names_more = more_of (λ ss. stmts_names (s.stmts ss)) stmt_names refl (λ b ss. refl)

stmts_uses_more : (ss : List s.SStmt) (a : s.SStmt) → stmts_uses (s.stmts (ss ++ a ∷ [])) ≡ stmts_uses (s.stmts ss) ++ stmt_uses a
stmts_uses_more = more_of (λ ss. stmts_uses (s.stmts ss)) stmt_uses refl (λ b ss. refl)

pub arms_terms_more : (bs : List s.SArm) (a : s.SArm) → arms_terms (s.arms (bs ++ a ∷ [])) ≡ arms_terms (s.arms bs) ++ arm_terms a
arms_terms_more = more_of (λ bs. arms_terms (s.arms bs)) arm_terms refl (λ b bs. refl)

pub arms_names_more : (bs : List s.SArm) (a : s.SArm) → arms_names (s.arms (bs ++ a ∷ [])) ≡ arms_names (s.arms bs) ++ arm_names a
arms_names_more = more_of (λ bs. arms_names (s.arms bs)) arm_names refl (λ b bs. refl)

arms_uses_more : (bs : List s.SArm) (a : s.SArm) → arms_uses (s.arms (bs ++ a ∷ [])) ≡ arms_uses (s.arms bs) ++ arm_uses a
arms_uses_more = more_of (λ bs. arms_uses (s.arms bs)) arm_uses refl (λ b bs. refl)

pub clauses_more : (cs : List d.SClause) (x : d.SClause) → clauses_terms (cs ++ x ∷ []) ≡ clauses_terms cs ++ x.term ∷ []
clauses_more = more_of clauses_terms (λ c. c.term ∷ []) refl (λ y ys. refl)

pub formals_more : (xs : List Formal) (x : Formal) → formal_names (xs ++ x ∷ []) ≡ formal_names xs ++ x.name.name ∷ []
formals_more = more_of formal_names (λ f. f.name.name ∷ []) refl (λ y ys. refl)

names_more : (xs : List Named) (x : Named) → names_of (xs ++ x ∷ []) ≡ names_of xs ++ x.name ∷ []
names_more = more_of names_of (λ x. x.name ∷ []) refl (λ y ys. refl)

-- the terms, the declared names and the names used elsewhere, of what is built and of what a symbol has so far

abbrev pub terms_in : (s : Kind) → Value s → List t.Term
terms_in v.number n = t.Number n.0 n.1 ∷ []
terms_in v.part p = p.tree ∷ []
terms_in v.arguments es = es
terms_in v.amount m = amount_terms m
terms_in v.call c = c.args
terms_in v.instance i = i.call.args ++ amount_terms i.amount
terms_in v.rhs r = rhs_terms r
terms_in v.stmt a = stmt_terms a
terms_in v.stmts ss = stmts_terms (s.stmts ss)
terms_in v.block b = block_terms b
terms_in v.arm b = arm_terms b
terms_in v.clauses cs = clauses_terms cs
terms_in v.body b = option_terms block_terms b
terms_in v.decl x = decl_terms x
terms_in v.decls ds = decls_terms ds
terms_in _ x = []

abbrev pub held_terms : {s : Kind} → Symbol s → List t.Term
held_terms (g.Program ds) = decls_terms ds
held_terms (g.Clauses cs) = clauses_terms cs
held_terms (g.Statements ss) = stmts_terms (s.stmts ss)
held_terms (g.Arms bs) = arms_terms (s.arms bs)
held_terms (g.Invariants is) = is
held_terms (g.Chain n p) = p.tree ∷ []
held_terms (g.Fields p) = p.tree ∷ []
held_terms (g.MoreArguments es) = es
held_terms _ = []

abbrev pub names_in : (s : Kind) → Value s → List (List ℕ)
names_in v.name x = x.name ∷ []
names_in v.formal f = f.name.name ∷ []
names_in v.formals fs = formal_names fs
names_in v.stmt a = stmt_names a
names_in v.stmts ss = stmts_names (s.stmts ss)
names_in v.block b = block_names b
names_in v.arm b = arm_names b
names_in v.body b = body_names b
names_in v.decl x = decl_names x
names_in v.decls ds = decls_names ds
names_in _ x = []

abbrev pub held_names : {s : Kind} → Symbol s → List (List ℕ)
held_names (g.Program ds) = decls_names ds
held_names (g.Statements ss) = stmts_names (s.stmts ss)
held_names (g.Arms bs) = arms_names (s.arms bs)
held_names (g.MoreFormals xs) = formal_names xs
held_names _ = []

abbrev uses_in : (s : Kind) → Value s → List (List ℕ)
uses_in v.call c = c.name.name ∷ []
uses_in v.instance i = i.call.name.name ∷ []
uses_in v.names xs = names_of xs
uses_in v.rhs r = rhs_uses r
uses_in v.stmt a = stmt_uses a
uses_in v.stmts ss = stmts_uses (s.stmts ss)
uses_in v.block b = block_uses b
uses_in v.arm b = arm_uses b
uses_in v.body b = body_uses b
uses_in v.decl x = decl_uses x
uses_in v.decls ds = decls_uses ds
uses_in _ x = []

abbrev held_uses : {s : Kind} → Symbol s → List (List ℕ)
held_uses (g.Program ds) = decls_uses ds
held_uses (g.Statements ss) = stmts_uses (s.stmts ss)
held_uses (g.Arms bs) = arms_uses (s.arms bs)
held_uses (g.Separated o xs) = names_of xs
held_uses (g.AfterName x) = x.name ∷ []
held_uses _ = []

-- every name of a term is one, and every literal

abbrev mutual
  HasLeaves : t.Term → Type 0
  HasLeaves (t.Name x at) = IsName x
  HasLeaves (t.Number n at) = IsLiteral n
  HasLeaves (t.Constant w at) = Unit {0}
  HasLeaves (t.Unary o a at) = HasLeaves a
  HasLeaves (t.Binary o a b at) = HasLeaves a × HasLeaves b
  HasLeaves (t.Choose a b c at) = HasLeaves a × HasLeaves b × HasLeaves c
  HasLeaves (t.Field a f at) = HasLeaves a × IsName f
  HasLeaves (t.Old a at) = HasLeaves a
  HasLeaves (t.Acc a m at) = HasLeaves a × AmountHasLeaves m
  HasLeaves (t.Inst x es at) = IsName x × HaveLeaves es
  HasLeaves (t.Unfolding x es m a at name_at) = IsName x × HaveLeaves es × AmountHasLeaves m × HasLeaves a

  AmountHasLeaves : t.Amount → Type 0
  AmountHasLeaves t.omitted = Unit {0}
  AmountHasLeaves (t.given a) = HasLeaves a

  HaveLeaves : t.Terms → Type 0
  HaveLeaves t.none = Unit {0}
  HaveLeaves (t.more a rest) = HasLeaves a × HaveLeaves rest

mutual
  term_literals : (a : t.Term) → HasLeaves a → HasLiterals a
  term_literals (t.Name x at) h = tt
  term_literals (t.Number n at) h = h
  term_literals (t.Constant w at) h = tt
  term_literals (t.Unary o a at) h = term_literals a h
  term_literals (t.Binary o a b at) h = (term_literals a h.0, term_literals b h.1)
  term_literals (t.Choose a b c at) h = (term_literals a h.0, term_literals b h.1, term_literals c h.2)
  term_literals (t.Field a f at) h = term_literals a h.0
  term_literals (t.Old a at) h = term_literals a h
  term_literals (t.Acc a m at) h = (term_literals a h.0, amount_literals m h.1)
  term_literals (t.Inst x es at) h = all_literals es h.1
  term_literals (t.Unfolding x es m a at name_at) h = (all_literals es h.1, amount_literals m h.2, term_literals a h.3)

  amount_literals : (m : t.Amount) → AmountHasLeaves m → AmountHasLiterals m
  amount_literals t.omitted h = tt
  amount_literals (t.given a) h = term_literals a h

  all_literals : (es : t.Terms) → HaveLeaves es → HaveLiterals es
  all_literals t.none h = tt
  all_literals (t.more a rest) h = (term_literals a h.0, all_literals rest h.1)

mutual
  term_names : (a : t.Term) → HasLeaves a → HasNames a
  term_names (t.Name x at) h = h
  term_names (t.Number n at) h = tt
  term_names (t.Constant w at) h = tt
  term_names (t.Unary o a at) h = term_names a h
  term_names (t.Binary o a b at) h = (term_names a h.0, term_names b h.1)
  term_names (t.Choose a b c at) h = (term_names a h.0, term_names b h.1, term_names c h.2)
  term_names (t.Field a f at) h = (term_names a h.0, h.1)
  term_names (t.Old a at) h = term_names a h
  term_names (t.Acc a m at) h = (term_names a h.0, amount_names m h.1)
  term_names (t.Inst x es at) h = (h.0, all_names es h.1)
  term_names (t.Unfolding x es m a at name_at) h = (h.0, all_names es h.1, amount_names m h.2, term_names a h.3)

  amount_names : (m : t.Amount) → AmountHasLeaves m → AmountHasNames m
  amount_names t.omitted h = tt
  amount_names (t.given a) h = term_names a h

  all_names : (es : t.Terms) → HaveLeaves es → HaveNames es
  all_names t.none h = tt
  all_names (t.more a rest) h = (term_names a h.0, all_names rest h.1)

-- arguments as a list

each_terms : (es : List t.Term) → Each HasLeaves es → HaveLeaves (t.terms es)
each_terms [] h = tt
each_terms (a ∷ rest) h = (h.0, each_terms rest h.1)

listed_each : (es : t.Terms) → HaveLeaves es → Each HasLeaves (g.listed es)
listed_each t.none h = tt
listed_each (t.more a rest) h = (h.0, listed_each rest h.1)

amount_is : (m : t.Amount) → Each HasLeaves (amount_terms m) → AmountHasLeaves m
amount_is t.omitted h = tt
amount_is (t.given a) h = h.0

rhs_each : (h : Shape) (a : t.Term) → HasLeaves a → Each HasLeaves (rhs_terms (g.rhs_from h a))
rhs_each shape.Call (t.Inst x es at) i = listed_each es i.1
rhs_each _ _ i = (i, tt)

rhs_used : (h : Shape) (a : t.Term) → HasLeaves a → Each IsName (rhs_uses (g.rhs_from h a))
rhs_used shape.Call (t.Inst x es at) i = (i.0, tt)
rhs_used _ _ i = tt

with_fields_leaves : (a : t.Term) (fs : List Named) → HasLeaves a → Each IsName (names_of fs) → HasLeaves (with_fields a fs)
with_fields_leaves a [] h i = h
with_fields_leaves a (f ∷ fs) h i = with_fields_leaves (t.Field a f.name f.pos) fs (h, i.0) i.1

target_each : (xs : List Named) → Each IsName (names_of xs) → Each HasLeaves (target_terms xs)
target_each [] h = tt
target_each (x ∷ fs) h = (with_fields_leaves (t.Name x.name x.pos) fs h.0 h.1, tt)

-- a token whose name or number is right
abbrev pub IsRight : Tok → Type 0
IsRight (k.Name x) = IsName x
IsRight (k.Number n) = IsLiteral n
IsRight (k.Word w) = Unit {0}
IsRight (k.Sign o) = Unit {0}

record Holds (s : Kind) (x : Value s) : Type 0 where
  terms : Each HasLeaves (terms_in s x)
  names : Each IsName (names_in s x)
  uses : Each IsName (uses_in s x)

record Held {s : Kind} (a : Symbol s) : Type 0 where
  terms : Each HasLeaves (held_terms a)
  names : Each IsName (held_names a)
  uses : Each IsName (held_uses a)

holding : {s : Kind} {x : Value s} → Each HasLeaves (terms_in s x) → Each IsName (names_in s x) → Each IsName (uses_in s x) → Holds s x
holding h i j = record { terms = h; names = i; uses = j }

having : {s : Kind} {a : Symbol s} → Each HasLeaves (held_terms a) → Each IsName (held_names a) → Each IsName (held_uses a) → Held a
having h i j = record { terms = h; names = i; uses = j }

abbrev Makes : (s : Kind) → Rule s → Type 0
Makes s a = made.Makes {A = viper} Holds (λ r b. Held b) s a

-- lists with one more

more_decls : (ds : List d.Decl) (x : d.Decl) → Held (g.Program ds) → Holds v.decl x → Held (g.Program (ds ++ x ∷ []))
more_decls ds x h i = having
    (each_by HasLeaves (decls_terms_more ds x) (each_append HasLeaves _ _ h.terms i.terms))
    (each_by IsName (decls_names_more ds x) (each_append IsName _ _ h.names i.names))
    (each_by IsName (decls_uses_more ds x) (each_append IsName _ _ h.uses i.uses))

more_stmts : (ss : List s.SStmt) (a : s.SStmt) → Held (g.Statements ss) → Holds v.stmt a → Held (g.Statements (ss ++ a ∷ []))
more_stmts ss a h i = having
    (each_by HasLeaves (stmts_terms_more ss a) (each_append HasLeaves _ _ h.terms i.terms))
    (each_by IsName (stmts_names_more ss a) (each_append IsName _ _ h.names i.names))
    (each_by IsName (stmts_uses_more ss a) (each_append IsName _ _ h.uses i.uses))

more_arms : (bs : List s.SArm) (a : s.SArm) → Held (g.Arms bs) → Holds v.arm a → Held (g.Arms (bs ++ a ∷ []))
more_arms bs a h i = having
    (each_by HasLeaves (arms_terms_more bs a) (each_append HasLeaves _ _ h.terms i.terms))
    (each_by IsName (arms_names_more bs a) (each_append IsName _ _ h.names i.names))
    (each_by IsName (arms_uses_more bs a) (each_append IsName _ _ h.uses i.uses))

makes : {s : Kind} (a : Symbol s) → Held a → Makes s (rule a)
makes (g.Program ds) h =
    mw (λ at _. mr (having tt tt tt) (λ x i. mr (having tt tt tt) (λ _ _. mr (more_decls ds (d.Field x) h (holding tt i.names tt)) (λ z l. mg l))))
    (mw (λ at _. mr (having tt tt tt) (λ x i. mr (more_decls ds x h i) (λ z l. mg l)))
    (mw (λ at _. mr (having tt tt tt) (λ x i. mr (more_decls ds x h i) (λ z l. mg l)))
    (mg (holding h.terms h.names h.uses))))
makes (g.Predicate at) h =
    mn (λ x n. mn (λ _ _. mr (having tt tt tt) (λ xs i. mw (λ _ _. mr (having tt tt tt) (λ p j. mn (λ _ _. mg (holding j.terms (n.names.0, i.names) tt)))) (mg (holding tt (n.names.0, i.names) tt)))))
makes (g.Method at) h =
    mn (λ x n. mn (λ _ _. mr (having tt tt tt) (λ xs i. mr (having tt tt tt) (λ ys j. mr (having tt tt tt) (λ cs l. mr (having tt tt tt) (λ b m.
    mg (holding (each_append HasLeaves (clauses_terms cs) (option_terms block_terms b) l.terms m.terms)
    (n.names.0, each_append IsName (formal_names xs) _ i.names (each_append IsName (formal_names ys) _ j.names m.names)) m.uses)))))))
makes g.Returns h = mw (λ _ _. mn (λ _ _. mr (having tt tt tt) (λ z i. mg i))) (mg (holding tt tt tt))
makes (g.Clauses cs) h =
    mw (λ w _. mr (having tt tt tt) (λ p i. mr (having tt tt tt) (λ _ _. mr (having (each_by HasLeaves (clauses_more cs (record { word = w.0; term = p.tree })) (each_append HasLeaves _ _ h.terms i.terms)) tt tt) (λ z l. mg l))))
    (mg (holding h.terms tt tt))
makes g.Body h = mw (λ at _. mr (having tt tt tt) (λ ss i. mg (holding i.terms i.names i.uses))) (mg (holding tt tt tt))
makes g.Formals h = mw (λ _ _. mg (holding tt tt tt)) (mr (having tt tt tt) (λ x i. mr (having tt i.names tt) (λ z j. mg j)))
makes (g.MoreFormals xs) h =
    mw (λ _ _. mr (having tt tt tt) (λ x i. mr (having tt (each_by IsName (formals_more xs x) (each_append IsName _ _ h.names i.names)) tt) (λ z j. mg j))) (mn (λ _ _. mg (holding tt h.names tt)))
makes g.FormalOf h = mn (λ x n. mn (λ _ _. mn (λ w _. mg (holding tt n.names tt))))
makes g.Block h = mn (λ at _. mr (having tt tt tt) (λ ss i. mg (holding i.terms i.names i.uses)))
makes (g.Statements ss) h = mw (λ _ _. mg (holding h.terms h.names h.uses)) (mr (having tt tt tt) (λ a i. mr (having tt tt tt) (λ _ _. mr (more_stmts ss a h i) (λ z l. mg l))))
makes g.Statement h =
    mw (λ at _. mr (having tt tt tt) (λ z i. mg i)) (mw (λ w _. mr (having tt tt tt) (λ p i. mg (holding i.terms tt tt)))
    (mw (λ at _. mr (having tt tt tt) (λ x i. mg (holding i.terms tt i.uses))) (mw (λ at _. mr (having tt tt tt) (λ x i. mg (holding i.terms tt i.uses)))
    (mw (λ at _. mr (having tt tt tt) (λ a i. mr (more_arms [] a (having tt tt tt) i) (λ z j. mg j))) (mw (λ at _. mr (having tt tt tt) (λ z i. mg i)) (mn (λ x n. mr (having tt tt n.names) (λ z i. mg i))))))))
makes (g.Variable at) h = mr (having tt tt tt) (λ x i. mw (λ _ _. mr (having tt tt tt) (λ r j. mg (holding j.terms i.names j.uses))) (mg (holding tt i.names tt)))
makes (g.AfterName x) h =
    mw (λ _ _. mr (having tt tt tt) (λ es i. mg (holding i.terms tt h.uses)))
    (mw (λ _ _. mn (λ y n. mr (having tt tt (h.uses.0, n.names)) (λ xs i. mn (λ _ _. mr (having tt tt tt) (λ z j. mg (holding j.terms tt (each_append IsName (names_of xs) _ i.uses j.uses)))))))
    (mr (having tt tt h.uses) (λ xs i. mn (λ _ _. mr (having tt tt tt) (λ r j. mg (holding (each_append HasLeaves (target_terms xs) (rhs_terms r) (target_each xs i.uses) j.terms) tt j.uses))))))
makes (g.Arm at) h = mr (having tt tt tt) (λ p i. mr (having tt tt tt) (λ b j. mg (holding (i.terms.0, j.terms) j.names j.uses)))
makes (g.Arms bs) h =
    mw (λ at _. mr (having tt tt tt) (λ a i. mr (more_arms bs a h i) (λ z j. mg j)))
    (mw (λ _ _. mr (having tt tt tt) (λ b i. mg (holding (each_append HasLeaves _ _ h.terms i.terms) (each_append IsName _ _ h.names i.names) (each_append IsName _ _ h.uses i.uses))))
    (mg (holding (each_append HasLeaves _ [] h.terms tt) (each_append IsName _ [] h.names tt) (each_append IsName _ [] h.uses tt))))
makes (g.WhileLoop at) h =
    mr (having tt tt tt) (λ p i. mr (having tt tt tt) (λ is j. mr (having tt tt tt) (λ b l. mg (holding (each_append HasLeaves (p.tree ∷ is) (block_terms b) (i.terms.0, j.terms) l.terms) l.names l.uses))))
makes (g.Invariants is) h =
    mw (λ _ _. mr (having tt tt tt) (λ p i. mr (having tt tt tt) (λ _ _. mr (having (each_append HasLeaves is (p.tree ∷ []) h.terms i.terms) tt tt) (λ z l. mg l)))) (mg (holding h.terms tt tt))
makes g.Rhs h = mw (λ at _. mr (having tt tt tt) (λ z i. mg i)) (mr (having tt tt tt) (λ p i. mg (holding (rhs_each p.shape p.tree i.terms.0) tt (rhs_used p.shape p.tree i.terms.0))))
makes (g.Creation at) h =
    mn (λ _ _. mw (λ _ _. mg (holding tt tt tt)) (mw (λ _ _. mn (λ _ _. mg (holding tt tt tt))) (mn (λ x n. mr (having tt tt n.names) (λ xs i. mn (λ _ _. mg (holding tt tt i.uses)))))))
makes (g.Separated o xs) h =
    mw (λ _ _. mn (λ x n. mr (having tt tt (each_by IsName (names_more xs x) (each_append IsName _ _ h.uses n.names))) (λ z i. mg i))) (mg (holding tt tt h.uses))
makes g.Semicolons h = mw (λ _ _. mr (having tt tt tt) (λ z i. mg i)) (mg (holding tt tt tt))
makes g.InstanceOf h =
    mw (λ _ _. mn (λ _ _. mr (having tt tt tt) (λ c i. mr (having tt tt tt) (λ m j. mg (holding (each_append HasLeaves c.args (amount_terms m) i.terms j.terms) tt i.uses)))))
    (mr (having tt tt tt) (λ c i. mg (holding (each_append HasLeaves c.args [] i.terms tt) tt i.uses)))
makes g.CallOf h = mn (λ x n. mn (λ _ _. mr (having tt tt tt) (λ es i. mg (holding i.terms tt n.names))))
makes g.Arguments h = mw (λ _ _. mg (holding tt tt tt)) (mr (having tt tt tt) (λ p i. mr (having i.terms tt tt) (λ es j. mg j)))
makes (g.MoreArguments es) h =
    mw (λ _ _. mr (having tt tt tt) (λ p i. mr (having (each_append HasLeaves es (p.tree ∷ []) h.terms i.terms) tt tt) (λ all j. mg j))) (mn (λ _ _. mg (holding h.terms tt tt)))
makes g.Group h = mn (λ _ _. mr (having tt tt tt) (λ p i. mn (λ _ _. mg i)))
makes g.Amount h = mw (λ _ _. mr (having tt tt tt) (λ p i. mn (λ _ _. mg (holding i.terms tt tt)))) (mn (λ _ _. mg (holding tt tt tt)))
makes g.Term h =
    mr (having tt tt tt) (λ p i. makes_cond (g.is_open p.shape) (mg i)
    (mw (λ at _. mr (having tt tt tt) (λ q j. mn (λ _ _. mr (having tt tt tt) (λ r l. mg (holding ((i.terms.0, j.terms.0, l.terms.0), tt) tt tt))))) (mg i)))
makes (g.Level zero) h = mr (having tt tt tt) (λ p i. mg i)
makes (g.Level (suc n)) h = mr (having tt tt tt) (λ p i. mr (having i.terms tt tt) (λ q j. mg j))
makes (g.Chain n p) h =
    makes_cond (g.is_open p.shape) (mg (holding h.terms tt tt))
    (mw (λ o _. mr (having tt tt tt) (λ q i. makes_cond (g.repeats n) (mr (having ((h.terms.0, i.terms.0), tt) tt tt) (λ r j. mg j)) (mg (holding ((h.terms.0, i.terms.0), tt) tt tt)))) (mg (holding h.terms tt tt)))
makes g.Unary h =
    mw (λ o _. mr (having tt tt tt) (λ p i. mg (holding i.terms tt tt)))
    (mw (λ at _. mr (having tt tt tt) (λ i j. mn (λ _ _. mr (having tt tt tt) (λ p l.
    mg (holding ((j.uses.0, each_terms i.call.args (front HasLeaves i.call.args (amount_terms i.amount) j.terms), amount_is i.amount (back HasLeaves i.call.args (amount_terms i.amount) j.terms), l.terms.0), tt) tt tt)))))
    (mr (having tt tt tt) (λ p i. mr (having i.terms tt tt) (λ q j. mg j))))
makes (g.Fields p) h = mw (λ _ _. mn (λ f n. mr (having ((h.terms.0, n.names.0), tt) tt tt) (λ q i. mg i))) (mg (holding h.terms tt tt))
makes g.First h =
    mw (λ x n. mw (λ _ _. mr (having tt tt tt) (λ es i. mg (holding ((n.names.0, each_terms es i.terms), tt) tt tt))) (mg (holding (n.names.0, tt) tt tt)))
    (mw (λ n i. mg (holding i.terms tt tt))
    (mw (λ w _. mg (holding (tt, tt) tt tt))
    (mw (λ at _. mr (having tt tt tt) (λ p i. mg (holding i.terms tt tt)))
    (mw (λ at _. mn (λ _ _. mr (having tt tt tt) (λ p i. mr (having tt tt tt) (λ m j. mg (holding ((i.terms.0, amount_is m j.terms), tt) tt tt)))))
    (mr (having tt tt tt) (λ p i. mg (holding i.terms tt tt)))))))

-- what is taken from a token
token_holds : {b : Bool} {r : Kind} (c : Test b r) (token : Token) (x : Value r) → Passes c token x → IsRight token.tok → Holds r x
token_holds (this y) token x q h = holding tt tt tt
token_holds a_name token x q h = holding tt (subst IsRight q.0 h, tt) tt
token_holds a_number token x q h = holding (subst IsRight q.0 h, tt) tt tt
token_holds (one_of y) token x q h = holding tt tt tt
token_holds a_negation token x q h = holding tt tt tt
token_holds (an_operator n) token x q h = holding tt tt tt

abbrev pub rights : List Token → Type 0
rights ts = Each (λ (token : Token). IsRight token.tok) ts

making : made.Making rules Holds (λ s a. Held a) (λ (token : Token). IsRight token.tok)
making = record {
  of_token = λ b r c k x p h. token_holds c k x p h;
  of_symbol = λ s a h. makes a h;
}

pub record HasRightLeaves (ds : List d.Decl) : Type 0 where
  pub literals : Each HasLiterals (decls_terms ds)
  pub declared : Each IsName (decls_names ds)
  pub in_terms : Each HasNames (decls_terms ds)
  pub used : Each IsName (decls_uses ds)

-- the literals and names of a program are those of its tokens
pub all_hold : {ts : List Token} {ds : List d.Decl} → Derives v.decls (rule (g.Program [])) ts ds → rights ts → HasRightLeaves ds
all_hold {ds = ds} h r =
    let all = holds making (makes (g.Program []) (having tt tt tt)) h r in
    record { literals = each_map term_literals (decls_terms ds) all.terms; declared = all.names; in_terms = each_map term_names (decls_terms ds) all.terms; used = all.uses }
