-- A typed method is one of a formed program.
use Rattle.std.proofs.Common.{◌≡◌, ◌∙◌, ◌+◌, ◌<◌, ◌≤◌, ◌^◌, max, Bool, true, false, Option, Some, None, List, [], ◌++◌, All, length, map, refl, sym, ap, subst, arith, append-nil, length-append}
use Rattle.std.specs.List.{AllByRecursion}
use Rattle.std.specs.Option.{IfSome}
use Rattle.std.proofs.lemmas.List.{length-map}
use Rattle.std.proofs.lemmas.List.Elements.{All-nil, All-cons, All-head, All-tail, All-append}
use Rattle.lemmas.proofs.Lists.{all_left, all_right}
use Rattle.vb_base.specs.Limits.{max_term_depth}
use Rattle.vb_base.specs.Names.{NamesDiffer}
use Rattle.vb_value.specs.declared.values.Ty.{Ty}
use Rattle.viper_core.specs.Depth.{assertion_depths}
use Rattle.viper_core.specs.Expr as e
use Rattle.viper_core.specs.Formed as g
use Rattle.viper_core.specs.Formed.{below, precondition_context, postcondition_context, method_frame, method_scope, variables_of}
use Rattle.viper_core.specs.Program as p
use Rattle.viper_core.specs.Scope.{stmts_scope}
use Rattle.viper_core.specs.Scope as cs
use Rattle.viper_core.specs.Typing as c
use Rattle.viper_core.specs.Typing.{IsAssertion, AreStmts}
use Rattle.viper_syntax.specs.Decl as d
use Rattle.viper_syntax.specs.Stmt as s
use Rattle.viper_syntax.specs.declared.stmts.Formal.{Formal}
use Rattle.viper_scope.specs.declared.context.UnitPart.TheVariants as part
use Rattle.viper_scope.specs.Context.{World, Context}
use Rattle.viper_scope.specs.Types.{declared_type}
use Rattle.viper_types.specs.Frame.{MethodVariables, declared, declared_in, declared_in_block, declared_in_arms, declared_in_arm, declared_in_else}
use Rattle.viper_syntax.specs.Good.{HasLiterals, clauses_terms, option_terms, block_terms, stmt_names, stmts_names, block_names, arms_names, arm_names, else_names, body_names, decl_names}
use Rattle.viper_scope.specs.Scope.{VariableScope}
use Rattle.viper_types.specs.Declaring.{no_frame, name_of, context_in, conditions, locals}
use Rattle.viper_types.specs.Program.{AreFormals, requires_of, ensures_of, AreClauses, no_clauses, one_clause, IsMethodBody, no_block, block_of, IsMethod, method_of}
use Rattle.viper_types.proofs.TermTypes.{Describes, Resolves, is_assertion}
use Rattle.viper_types.proofs.TermDepth as depths
use Rattle.viper_types.proofs.GoodLists.{IsShallow}
use Rattle.viper_types.proofs.NamesApart.{Apart, IsUnknown, differ_from_apart, formals_apart}
use Rattle.viper_types.proofs.Scopes.{Extends, AreVariables, IsSound, numbers, core_scope, same_scope, extends_less}
use Rattle.viper_types.proofs.StmtTypes.{GoAll, block_goes}
use Rattle.viper_types.proofs.StmtDepth.{block_nests}
use Rattle.viper_types.proofs.FormalScopes.{formals_vars, formals_numbers, formals_are_variables, names_resolve, extends_itself, rising_below}
use Rattle.viper_types.proofs.PredicateFormed.{IsName, IsGoodDecl}

-- ---- how many variables a block declares

mutual
  stmt_count : (a : s.SStmt) → length (declared a) ≡ length (stmt_names a)
  stmt_count (s.Var at f rhs) = refl
  stmt_count (s.Assign xs rhs) = refl
  stmt_count (s.CallTo xs call) = refl
  stmt_count (s.Call call) = refl
  stmt_count (s.Check w at a) = refl
  stmt_count (s.Fold f) = refl
  stmt_count (s.Unfold f) = refl
  stmt_count (s.If arms other) =
      omega (arith, length-append (declared_in_arms arms) (declared_in_else other), length-append (arms_names arms) (else_names other), arms_count arms, else_count other)
  stmt_count (s.While at a is b) = block_count b

  block_count : (b : s.SBlock) → length (declared_in_block b) ≡ length (block_names b)
  block_count (s.block at ss) = stmts_count ss

  stmts_count : (ss : s.SStmts) → length (declared_in ss) ≡ length (stmts_names ss)
  stmts_count s.no_stmts = refl
  stmts_count (s.more_stmts a rest) =
      omega (arith, length-append (declared a) (declared_in rest), length-append (stmt_names a) (stmts_names rest), stmt_count a, stmts_count rest)

  arms_count : (arms : s.SArms) → length (declared_in_arms arms) ≡ length (arms_names arms)
  arms_count s.no_arms = refl
  arms_count (s.more_arms a rest) =
      omega (arith, length-append (declared_in_arm a) (declared_in_arms rest), length-append (arm_names a) (arms_names rest), arm_count a, arms_count rest)

  arm_count : (a : s.SArm) → length (declared_in_arm a) ≡ length (arm_names a)
  arm_count (s.arm at a b) = block_count b

  else_count : (o : s.SElse) → length (declared_in_else o) ≡ length (else_names o)
  else_count s.no_else = refl
  else_count (s.else_block b) = block_count b

locals_count : (body : Option s.SBlock) → length (locals body) ≡ length (body_names body)
locals_count None = refl
locals_count (Some b) = block_count b

-- ---- clauses

preconditions_are : {w : World} {bodies : List (Option e.Assertion)} {params all : VariableScope} {ctx : c.Context} {ds : List d.SClause} {xs : List (Bool × e.Assertion)} →
    Resolves (context_in w bodies part.Precondition) params ctx → AreClauses w bodies params all ds xs → All HasLiterals (clauses_terms ds) →
    All (IsAssertion ctx) (conditions true xs)
preconditions_are {ctx = ctx} z no_clauses l = All-nil (IsAssertion ctx)
preconditions_are {ctx = ctx} z (one_clause {rest = rest} {xs = xs} (requires_of {a = a} {x = x} h) hs) l =
    All-cons (IsAssertion ctx) x (conditions true xs) (is_assertion z h (All-head HasLiterals a (clauses_terms rest) l))
    (preconditions_are z hs (All-tail HasLiterals a (clauses_terms rest) l))
preconditions_are z (one_clause {rest = rest} (ensures_of {a = a} h) hs) l = preconditions_are z hs (All-tail HasLiterals a (clauses_terms rest) l)

postconditions_are : {w : World} {bodies : List (Option e.Assertion)} {params all : VariableScope} {ctx : c.Context} {ds : List d.SClause} {xs : List (Bool × e.Assertion)} →
    Resolves (context_in w bodies part.Elsewhere) all ctx → AreClauses w bodies params all ds xs → All HasLiterals (clauses_terms ds) →
    All (IsAssertion ctx) (conditions false xs)
postconditions_are {ctx = ctx} z no_clauses l = All-nil (IsAssertion ctx)
postconditions_are {ctx = ctx} z (one_clause {rest = rest} {xs = xs} (ensures_of {a = a} {x = x} h) hs) l =
    All-cons (IsAssertion ctx) x (conditions false xs) (is_assertion z h (All-head HasLiterals a (clauses_terms rest) l))
    (postconditions_are z hs (All-tail HasLiterals a (clauses_terms rest) l))
postconditions_are z (one_clause {rest = rest} (requires_of {a = a} h) hs) l = postconditions_are z hs (All-tail HasLiterals a (clauses_terms rest) l)

clauses_are_shallow : {w : World} {bodies : List (Option e.Assertion)} {params all : VariableScope} {ds : List d.SClause} {xs : List (Bool × e.Assertion)} →
    AreClauses w bodies params all ds xs → All IsShallow (clauses_terms ds) →
    max (assertion_depths (conditions true xs)) (assertion_depths (conditions false xs)) ≤ max_term_depth
clauses_are_shallow no_clauses l = omega arith
clauses_are_shallow (one_clause {rest = rest} (requires_of {a = a} h) hs) l =
    omega (arith, depths.assertion_depth h, All-head IsShallow a (clauses_terms rest) l, clauses_are_shallow hs (All-tail IsShallow a (clauses_terms rest) l))
clauses_are_shallow (one_clause {rest = rest} (ensures_of {a = a} h) hs) l =
    omega (arith, depths.assertion_depth h, All-head IsShallow a (clauses_terms rest) l, clauses_are_shallow hs (All-tail IsShallow a (clauses_terms rest) l))

-- ---- bodies

-- the frame in which the body of a method begins
record Begins (q : p.Program) (m : p.Method) (fr : MethodVariables) (us : List Ty) : Type 0 where
  sound : IsSound m.params fr
  extends : Extends (fr.vars ++ us) m.vars
  scope : core_scope fr ≡ method_scope m

body_is_formed : {k : Context} {fr : MethodVariables} {body : Option s.SBlock} {b : Option p.Body} (q : p.Program) (m : p.Method) → Describes k.world k.bodies q →
    Begins q m fr (locals body) → IsMethodBody k fr body b → All HasLiterals (option_terms block_terms body) → All IsShallow (option_terms block_terms body) →
    IfSome b (g.IsBody q m)
body_is_formed q m z begins no_block l shallow = tt
body_is_formed {fr = fr} q m z begins (block_of {b = b} {ss = ss} h) l shallow =
    let inside : GoAll (method_frame q m) (core_scope fr) (length (fr.vars ++ declared_in_block b)) ss =
    block_goes {m = method_frame q m} z h begins.sound begins.extends l in
    let deep = block_nests h shallow in
    record {
      stmts = subst (λ sc. AreStmts (method_frame q m) sc ss) begins.scope inside.stmts;
      nested = deep.shallow;
      blocks = omega (arith, deep.nested);
    }

body_variables : {k : Context} {fr : MethodVariables} {body : Option s.SBlock} {b : Option p.Body} (q : p.Program) (m : p.Method) → Describes k.world k.bodies q →
    Begins q m fr (locals body) → IsMethodBody k fr body b → All HasLiterals (option_terms block_terms body) →
    length (fr.vars ++ locals body) ≡ variables_of (method_scope m) b
body_variables {fr = fr} q m z begins no_block l = ap (λ us. length us) (append-nil fr.vars) ∙ ap (λ (sc : cs.Scope). sc.fresh) begins.scope
body_variables {fr = fr} q m z begins (block_of {b = b} {ss = ss} h) l =
    let inside : GoAll (method_frame q m) (core_scope fr) (length (fr.vars ++ declared_in_block b)) ss =
    block_goes {m = method_frame q m} z h begins.sound begins.extends l in
    sym inside.fresh ∙ ap (λ sc. (stmts_scope sc ss).fresh) begins.scope

-- ---- methods

returns_apart : {ps fr : MethodVariables} (rs : List Formal) → AreFormals true false ps rs fr →
    AllByRecursion (IsUnknown ps.scope) (map name_of rs) × Apart (map name_of rs)
returns_apart {ps} rs h =
    subst (λ xs. AllByRecursion (IsUnknown ps.scope) xs × Apart xs) (append-nil (map name_of rs)) (formals_apart [] h tt tt)

method_names : {ps fr : MethodVariables} (xs rs : List Formal) → AreFormals true true no_frame xs ps → AreFormals true false ps rs fr →
    NamesDiffer (map name_of xs ++ map name_of rs)
method_names xs rs h g =
    let returns = returns_apart rs g in
    differ_from_apart (map name_of xs ++ map name_of rs) (formals_apart (map name_of rs) h returns.0 returns.1).1

-- the variables of a method: its parameters, and then its returns
record HasFormals (m : d.SMethod) (ps fr : MethodVariables) : Type 0 where
  params : ps.vars ≡ map declared_type m.params
  returns : fr.vars ≡ ps.vars ++ map declared_type m.returns
  count_params : length ps.vars ≡ length m.params
  count : length fr.vars ≡ length m.params + length m.returns
  param_numbers : numbers ps.scope ≡ below (length ps.vars)
  numbered : numbers fr.scope ≡ below (length fr.vars)
  param_variables : AreVariables (length m.params) ps.vars ps.scope
  variables : AreVariables (length m.params) fr.vars fr.scope

has_formals : (m : d.SMethod) (ps fr : MethodVariables) → AreFormals true true no_frame m.params ps → AreFormals true false ps m.returns fr → HasFormals m ps fr
has_formals m ps fr h g =
    let params : ps.vars ≡ map declared_type m.params = formals_vars h in
    let returns : fr.vars ≡ ps.vars ++ map declared_type m.returns = formals_vars g in
    let count_params : length ps.vars ≡ length m.params = ap (λ us. length us) params ∙ length-map m.params declared_type in
    let total : length fr.vars ≡ length (ps.vars ++ map declared_type m.returns) = ap (λ us. length us) returns in
    let param_variables = formals_are_variables (length m.params) h (λ i. absurd (cc)) tt in
    record {
      params = params;
      returns = returns;
      count_params = count_params;
      count = omega (arith, total, count_params, length-append ps.vars (map declared_type m.returns), length-map m.returns declared_type);
      param_numbers = formals_numbers h refl;
      numbered = formals_numbers g (formals_numbers h refl);
      param_variables = param_variables;
      variables = formals_are_variables (length m.params) g (λ i. omega (arith, count_params)) param_variables;
    }

few_variables : (m : d.SMethod) (ps fr : MethodVariables) → HasFormals m ps fr → length (decl_names (d.Method m)) < 2 ^ 32 → length (fr.vars ++ locals m.body) < 2 ^ 32
few_variables m ps fr f few =
    let params = map name_of m.params in
    let returns = map name_of m.returns in
    omega (
      arith,
      few,
      length-append fr.vars (locals m.body),
      f.count,
      locals_count m.body,
      length-append params (returns ++ body_names m.body),
      length-append returns (body_names m.body),
      length-map m.params name_of,
      length-map m.returns name_of,
    )

pub method_is_formed : (w : World) (bodies : List (Option e.Assertion)) (q : p.Program) {m : d.SMethod} {one : p.Method} → Describes w bodies q →
    IsMethod w bodies m one → IsGoodDecl (d.Method m) →
    g.IsMethod q one
method_is_formed w bodies q {m = m} z (method_of {ps = ps} {fr = fr} {cs = xs} {b = b} hp hr hc hb) good =
    let one : p.Method = record {
      name = m.name.name;
      at = m.at;
      name_at = m.name.pos;
      names = map name_of m.params ++ map name_of m.returns;
      params = length m.params;
      returns = length m.returns;
      vars = fr.vars ++ locals m.body;
      preconditions = conditions true xs;
      postconditions = conditions false xs;
      body = b;
    } in
    let f = has_formals m ps fr hp hr in
    let all : Extends (fr.vars ++ locals m.body) one.vars = extends_itself (fr.vars ++ locals m.body) one.vars refl in
    let seen : Extends fr.vars one.vars = extends_less fr.vars (locals m.body) one.vars all in
    let params_seen : Extends ps.vars one.vars =
    extends_less ps.vars (map declared_type m.returns) one.vars (subst (λ us. Extends us one.vars) f.returns seen) in
    let before = names_resolve (length m.params) (context_in w bodies part.Precondition) ps (precondition_context q one) z f.param_variables
    (f.param_numbers ∙ ap below f.count_params) params_seen (λ i. absurd (cc)) (λ i. refl) in
    let after = names_resolve (length m.params) (context_in w bodies part.Elsewhere) fr (postcondition_context q one) z f.variables
    (f.numbered ∙ ap below f.count) seen (λ i. refl) (λ i. refl) in
    let begins : Begins q one fr (locals m.body) = record {
      sound = record { variables = f.variables; rising = rw f.numbered (rising_below (length fr.vars)); params_first = omega (arith, f.count) };
      extends = all;
      scope = same_scope (f.numbered ∙ ap below f.count) f.count;
    } in
    let clauses = clauses_terms m.clauses in
    let inside = option_terms block_terms m.body in
    let params = map name_of m.params in
    let returns = map name_of m.returns in
    let named : All IsName (params ++ (returns ++ body_names m.body)) = All-tail IsName m.name.name (params ++ (returns ++ body_names m.body)) good.names in
    record {
      names = record {
        names =
            All-append IsName params returns (all_left IsName params (returns ++ body_names m.body) named)
            (all_left IsName returns (body_names m.body) (all_right IsName params (returns ++ body_names m.body) named));
        differ = method_names m.params m.returns hp hr;
      };
      as_many = omega (arith, length-append params returns, length-map m.params name_of, length-map m.returns name_of);
      variables = body_variables q one z begins hb (all_right HasLiterals clauses inside good.literals);
      few = few_variables m ps fr f good.few;
      preconditions = preconditions_are before hc (all_left HasLiterals clauses inside good.literals);
      postconditions = postconditions_are after hc (all_left HasLiterals clauses inside good.literals);
      nested = clauses_are_shallow hc (all_left IsShallow clauses inside good.shallow);
      body = body_is_formed q one z begins hb (all_right HasLiterals clauses inside good.literals) (all_right IsShallow clauses inside good.shallow);
    }
