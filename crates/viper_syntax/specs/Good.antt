-- What the parser promises of a source tree, and the checker asks: terms are not nested too deep, names are names, literals
-- are within the bound, and no number of names is too large.
use Rattle.std.specs.Prelude.{◌≤◌, ◌<◌, ◌^◌, ◌+◌, ◌≤ℤ◌, ℕ, ℤ, pos, max, ⊤, List, [], ◌∷◌, ◌++◌, Option, Some, None, All, IsTrue, length, map, unsigned_abs}
use Rattle.vb_base.specs.Limits.{max_term_depth}
use Rattle.vb_base.specs.Names.{is_viper_name}
use Rattle.viper_syntax.specs.declared.stmts.Named.{Named}
use Rattle.viper_syntax.specs.declared.stmts.Formal.{Formal}
use Rattle.viper_syntax.specs.Term as t
use Rattle.viper_syntax.specs.Stmt as s
use Rattle.viper_syntax.specs.Decl as d

-- how deep a term is nested

abbrev mutual
  pub depth : t.Term → ℕ
  depth (t.Name x at) = 1
  depth (t.Number n at) = 1
  depth (t.Constant w at) = 1
  depth (t.Unary o a at) = 1 + depth a
  depth (t.Binary o a b at) = 1 + max (depth a) (depth b)
  depth (t.Choose a b c at) = 1 + max (depth a) (max (depth b) (depth c))
  depth (t.Field a f at) = 1 + depth a
  depth (t.Old a at) = 1 + depth a
  depth (t.Acc a m at) = 1 + max (depth a) (amount_depth m)
  depth (t.Inst x es at) = 1 + terms_depth es
  depth (t.Unfolding x es m a at name_at) = 1 + max (terms_depth es) (max (amount_depth m) (depth a))

  pub amount_depth : t.Amount → ℕ
  amount_depth t.omitted = 0
  amount_depth (t.given a) = depth a

  pub terms_depth : t.Terms → ℕ
  terms_depth t.none = 0
  terms_depth (t.more a rest) = max (depth a) (terms_depth rest)

-- the terms of a program, in order

abbrev pub amount_terms : t.Amount → List t.Term
amount_terms t.omitted = []
amount_terms (t.given a) = a ∷ []

abbrev pub rhs_terms : s.SRhs → List t.Term
rhs_terms (s.CallRhs c) = c.args
rhs_terms (s.NewRhs n) = []
rhs_terms (s.TermRhs a) = a ∷ []

-- the target of an assignment is a term: `x.f.g` is a field of a field of `x`
abbrev pub with_fields : t.Term → List Named → t.Term
with_fields a [] = a
with_fields a (f ∷ fs) = with_fields (t.Field a f.name f.pos) fs

abbrev pub target_terms : List Named → List t.Term
target_terms [] = []
target_terms (x ∷ fs) = with_fields (t.Name x.name x.pos) fs ∷ []

abbrev pub option_terms : {A : Type 0} → (A → List t.Term) → Option A → List t.Term
option_terms f None = []
option_terms f (Some x) = f x

abbrev mutual
  pub stmt_terms : s.SStmt → List t.Term
  stmt_terms (s.Var at x init) = option_terms rhs_terms init
  stmt_terms (s.Assign xs e) = target_terms xs ++ rhs_terms e
  stmt_terms (s.CallTo xs c) = c.args
  stmt_terms (s.Call c) = c.args
  stmt_terms (s.Check w at a) = a ∷ []
  stmt_terms (s.Fold f) = f.call.args ++ amount_terms f.amount
  stmt_terms (s.Unfold f) = f.call.args ++ amount_terms f.amount
  stmt_terms (s.If bs other) = arms_terms bs ++ else_terms other
  stmt_terms (s.While at a is b) = (a ∷ is) ++ block_terms b

  pub block_terms : s.SBlock → List t.Term
  block_terms (s.block at ss) = stmts_terms ss

  pub arm_terms : s.SArm → List t.Term
  arm_terms (s.arm at a b) = a ∷ block_terms b

  pub else_terms : s.SElse → List t.Term
  else_terms s.no_else = []
  else_terms (s.else_block b) = block_terms b

  pub stmts_terms : s.SStmts → List t.Term
  stmts_terms s.no_stmts = []
  stmts_terms (s.more_stmts a rest) = stmt_terms a ++ stmts_terms rest

  pub arms_terms : s.SArms → List t.Term
  arms_terms s.no_arms = []
  arms_terms (s.more_arms a rest) = arm_terms a ++ arms_terms rest

abbrev pub clauses_terms : List d.SClause → List t.Term
clauses_terms [] = []
clauses_terms (c ∷ cs) = c.term ∷ clauses_terms cs

abbrev pub decl_terms : d.Decl → List t.Term
decl_terms (d.Field x) = []
decl_terms (d.Predicate at x xs body) = option_terms (λ a. a ∷ []) body
decl_terms (d.Method m) = clauses_terms m.clauses ++ option_terms block_terms m.body

abbrev pub decls_terms : List d.Decl → List t.Term
decls_terms [] = []
decls_terms (x ∷ rest) = decl_terms x ++ decls_terms rest

-- a literal is from 0 to 2^127 - 1
abbrev pub IsLiteral : ℤ → Type 0
IsLiteral n = (pos 0 ≤ℤ n) × (unsigned_abs n < 2 ^ 127)

-- every literal of a term
abbrev mutual
  pub HasLiterals : t.Term → Type 0
  HasLiterals (t.Name x at) = ⊤
  HasLiterals (t.Number n at) = IsLiteral n
  HasLiterals (t.Constant w at) = ⊤
  HasLiterals (t.Unary o a at) = HasLiterals a
  HasLiterals (t.Binary o a b at) = HasLiterals a × HasLiterals b
  HasLiterals (t.Choose a b c at) = HasLiterals a × HasLiterals b × HasLiterals c
  HasLiterals (t.Field a f at) = HasLiterals a
  HasLiterals (t.Old a at) = HasLiterals a
  HasLiterals (t.Acc a m at) = HasLiterals a × AmountHasLiterals m
  HasLiterals (t.Inst x es at) = HaveLiterals es
  HasLiterals (t.Unfolding x es m a at name_at) = HaveLiterals es × AmountHasLiterals m × HasLiterals a

  pub AmountHasLiterals : t.Amount → Type 0
  AmountHasLiterals t.omitted = ⊤
  AmountHasLiterals (t.given a) = HasLiterals a

  pub HaveLiterals : t.Terms → Type 0
  HaveLiterals t.none = ⊤
  HaveLiterals (t.more a rest) = HasLiterals a × HaveLiterals rest

-- the names that a program declares, in order

abbrev pub formal_names : List Formal → List (List ℕ)
formal_names xs = map (λ (x : Formal). x.name.name) xs

abbrev mutual
  pub stmt_names : s.SStmt → List (List ℕ)
  stmt_names (s.Var at x init) = x.name.name ∷ []
  stmt_names (s.Assign xs e) = []
  stmt_names (s.CallTo xs c) = []
  stmt_names (s.Call c) = []
  stmt_names (s.Check w at a) = []
  stmt_names (s.Fold f) = []
  stmt_names (s.Unfold f) = []
  stmt_names (s.If bs other) = arms_names bs ++ else_names other
  stmt_names (s.While at a is b) = block_names b

  pub block_names : s.SBlock → List (List ℕ)
  block_names (s.block at ss) = stmts_names ss

  pub arm_names : s.SArm → List (List ℕ)
  arm_names (s.arm at a b) = block_names b

  pub else_names : s.SElse → List (List ℕ)
  else_names s.no_else = []
  else_names (s.else_block b) = block_names b

  pub stmts_names : s.SStmts → List (List ℕ)
  stmts_names s.no_stmts = []
  stmts_names (s.more_stmts a rest) = stmt_names a ++ stmts_names rest

  pub arms_names : s.SArms → List (List ℕ)
  arms_names s.no_arms = []
  arms_names (s.more_arms a rest) = arm_names a ++ arms_names rest

abbrev pub body_names : Option s.SBlock → List (List ℕ)
body_names None = []
body_names (Some b) = block_names b

abbrev pub decl_names : d.Decl → List (List ℕ)
decl_names (d.Field x) = x.name.name ∷ []
decl_names (d.Predicate at x xs body) = x.name ∷ formal_names xs
decl_names (d.Method m) = m.name.name ∷ (formal_names m.params ++ (formal_names m.returns ++ body_names m.body))

abbrev pub decls_names : List d.Decl → List (List ℕ)
decls_names [] = []
decls_names (x ∷ rest) = decl_names x ++ decls_names rest

-- the bytes are a name of Viper
abbrev pub IsName : List ℕ → Type 0
IsName x = IsTrue (is_viper_name x)

-- every name in a term is one
abbrev mutual
  pub HasNames : t.Term → Type 0
  HasNames (t.Name x at) = IsName x
  HasNames (t.Number n at) = ⊤
  HasNames (t.Constant w at) = ⊤
  HasNames (t.Unary o a at) = HasNames a
  HasNames (t.Binary o a b at) = HasNames a × HasNames b
  HasNames (t.Choose a b c at) = HasNames a × HasNames b × HasNames c
  HasNames (t.Field a f at) = HasNames a × IsName f
  HasNames (t.Old a at) = HasNames a
  HasNames (t.Acc a m at) = HasNames a × AmountHasNames m
  HasNames (t.Inst x es at) = IsName x × HaveNames es
  HasNames (t.Unfolding x es m a at name_at) = IsName x × HaveNames es × AmountHasNames m × HasNames a

  pub AmountHasNames : t.Amount → Type 0
  AmountHasNames t.omitted = ⊤
  AmountHasNames (t.given a) = HasNames a

  pub HaveNames : t.Terms → Type 0
  HaveNames t.none = ⊤
  HaveNames (t.more a rest) = HasNames a × HaveNames rest

-- the names that a program uses outside of its terms, in order: those of calls with their targets, of instances that are
-- folded and unfolded, of the fields of a new object

abbrev pub names_of : List Named → List (List ℕ)
names_of xs = map (λ (x : Named). x.name) xs

abbrev pub rhs_uses : s.SRhs → List (List ℕ)
rhs_uses (s.CallRhs c) = c.name.name ∷ []
rhs_uses (s.NewRhs n) = names_of n.fields
rhs_uses (s.TermRhs a) = []

abbrev pub initial_uses : Option s.SRhs → List (List ℕ)
initial_uses None = []
initial_uses (Some e) = rhs_uses e

abbrev mutual
  pub stmt_uses : s.SStmt → List (List ℕ)
  stmt_uses (s.Var at x init) = initial_uses init
  stmt_uses (s.Assign xs e) = rhs_uses e
  stmt_uses (s.CallTo xs c) = names_of xs ++ c.name.name ∷ []
  stmt_uses (s.Call c) = c.name.name ∷ []
  stmt_uses (s.Check w at a) = []
  stmt_uses (s.Fold f) = f.call.name.name ∷ []
  stmt_uses (s.Unfold f) = f.call.name.name ∷ []
  stmt_uses (s.If bs other) = arms_uses bs ++ else_uses other
  stmt_uses (s.While at a is b) = block_uses b

  pub block_uses : s.SBlock → List (List ℕ)
  block_uses (s.block at ss) = stmts_uses ss

  pub arm_uses : s.SArm → List (List ℕ)
  arm_uses (s.arm at a b) = block_uses b

  pub else_uses : s.SElse → List (List ℕ)
  else_uses s.no_else = []
  else_uses (s.else_block b) = block_uses b

  pub stmts_uses : s.SStmts → List (List ℕ)
  stmts_uses s.no_stmts = []
  stmts_uses (s.more_stmts a rest) = stmt_uses a ++ stmts_uses rest

  pub arms_uses : s.SArms → List (List ℕ)
  arms_uses s.no_arms = []
  arms_uses (s.more_arms a rest) = arm_uses a ++ arms_uses rest

abbrev pub body_uses : Option s.SBlock → List (List ℕ)
body_uses None = []
body_uses (Some b) = block_uses b

abbrev pub decl_uses : d.Decl → List (List ℕ)
decl_uses (d.Field x) = []
decl_uses (d.Predicate at x xs body) = []
decl_uses (d.Method m) = body_uses m.body

abbrev pub decls_uses : List d.Decl → List (List ℕ)
decls_uses [] = []
decls_uses (x ∷ rest) = decl_uses x ++ decls_uses rest

-- every name of a program is a name of Viper: those that it declares, those in its terms, those that it uses elsewhere
pub record HasViperNames (source : d.SourceProgram) : Type 0 where
  pub declared : All IsName (decls_names source.decls)
  pub in_terms : All HasNames (decls_terms source.decls)
  pub used : All IsName (decls_uses source.decls)

-- what the parser promises
pub record IsGoodSource (source : d.SourceProgram) : Type 0 where
  pub shallow : All (λ a. depth a ≤ max_term_depth) (decls_terms source.decls)
  pub literals : All HasLiterals (decls_terms source.decls)
  pub names : HasViperNames source
  pub few : length (decls_names source.decls) < 2 ^ 32
