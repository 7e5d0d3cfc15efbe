-- A typed statement holds no deep expression, and its blocks are nested as deep as typing lets them.
use Rattle.std.proofs.Common.{◌≡◌, ◌⊎◌, inl, inr, ℕ, ◌+◌, ◌≤◌, Option, Some, List, [], ◌∷◌, ◌++◌, All, refl, subst, arith}
use Rattle.std.proofs.lemmas.Bool.{leb-true}
use Rattle.std.proofs.lemmas.List.Elements.{All-head, All-tail}
use Rattle.lemmas.proofs.Lists.{all_left, all_right}
use Rattle.vb_base.specs.Limits.{max_block_depth, max_term_depth}
use Rattle.vb_base.specs.declared.places.Pos.{Pos}
use Rattle.viper_core.specs.Expr as e
use Rattle.viper_core.specs.Stmt as c
use Rattle.viper_core.specs.Depth as g
use Rattle.viper_core.specs.Depth.{stmt_depth, stmts_depth, blocks_of, blocks_in}
use Rattle.viper_syntax.specs.Term as t
use Rattle.viper_syntax.specs.Stmt as s
use Rattle.viper_syntax.specs.declared.stmts.Named.{Named}
use Rattle.viper_syntax.specs.declared.tokens.Word.{Word}
use Rattle.viper_scope.specs.Context.{World, Context}
use Rattle.viper_syntax.specs.Good.{depth, with_fields, target_terms, rhs_terms, option_terms, amount_terms, stmt_terms, block_terms, stmts_terms, arms_terms, else_terms}
use Rattle.viper_scope.specs.Scope.{VariableScope}
use Rattle.viper_types.specs.Typing.{Located}
use Rattle.viper_types.specs.Frame.{MethodVariables}
use Rattle.viper_types.specs.Stepping.{AssignedVariable, Branch, nested, alone, arm_count}
use Rattle.viper_types.specs.Stepped as r
use Rattle.viper_types.specs.Stepped.{Stepped, Blocked, SteppedAll, Branches, Otherwise}
use Rattle.viper_types.proofs.TermDepth.{expr_depth, exprs_depth, permission_amount_depth, assertion_depth}
use Rattle.viper_types.proofs.GoodLists.{IsShallow, terms_are_shallow, amount_is_shallow}

-- ---- statements without blocks

-- a statement that holds no block
pub record IsFlat (x : c.Stmt) : Type 0 where
  pub shallow : stmt_depth x ≤ max_term_depth
  pub flat : blocks_of x ≡ 0

call_is_flat : {k : Context} {sc : VariableScope} {at : Pos} {vs : List AssignedVariable} {call : s.SCall} {x : c.Stmt} → r.IsCall k sc at vs call x → All IsShallow call.args →
    IsFlat x
call_is_flat {call = call} (r.call_of i args into) l = record { shallow = omega (arith, exprs_depth args, terms_are_shallow call.args l); flat = refl }

new_is_flat : {w : World} {sc : VariableScope} {at : Pos} {n : ℕ} {new : s.SNew} {x : c.Stmt} → r.IsNew w sc at n new x → IsFlat x
new_is_flat (r.new_of h) = record { shallow = omega arith; flat = refl }

declaration_is_flat : {k : Context} {sc : VariableScope} {at : Pos} {v : AssignedVariable} {rhs : Option s.SRhs} {x : c.Stmt} → r.Declares k sc at v rhs x →
    All IsShallow (option_terms rhs_terms rhs) →
    IsFlat x
declaration_is_flat r.any_value l = record { shallow = omega arith; flat = refl }
declaration_is_flat (r.value {a = a} h) l = record { shallow = omega (arith, expr_depth h, All-head IsShallow a [] l); flat = refl }
declaration_is_flat (r.Declares.returned h) l = call_is_flat h l
declaration_is_flat (r.Declares.created is h) l = new_is_flat h

place_depth : {k : Context} {sc : VariableScope} {a : t.Term} {f : Named} {fs : List Named} {l : Located} → r.IsPlace k sc a f fs l → g.depth l.receiver ≤ depth (with_fields a (f ∷ fs))
place_depth (r.of_field h i) = omega (arith, expr_depth h)
place_depth (r.of_further h) = place_depth h

assignment_is_flat : {k : Context} {sc : VariableScope} {xs : List Named} {rhs : s.SRhs} {x : c.Stmt} → r.Sets k sc xs rhs x →
    All IsShallow (target_terms xs ++ rhs_terms rhs) →
    IsFlat x
assignment_is_flat (r.variable {x = x} {a = a} i h) l =
    record { shallow = omega (arith, expr_depth h, All-head IsShallow a [] (all_right IsShallow (target_terms (x ∷ [])) (a ∷ []) l)); flat = refl }
assignment_is_flat (r.Sets.returned {x = x} {call = call} i h) l = call_is_flat h (all_right IsShallow (target_terms (x ∷ [])) call.args l)
assignment_is_flat (r.Sets.created i is h) l = new_is_flat h
assignment_is_flat (r.Sets.field {x = x} {f = f} {fs = fs} {a = a} h h') l =
    let target = with_fields (t.Name x.name x.pos) (f ∷ fs) in
    record {
      shallow =
          omega (arith, place_depth h, expr_depth h', All-head IsShallow target (a ∷ []) l, All-head IsShallow a [] (All-tail IsShallow target (a ∷ []) l));
      flat = refl;
    }

check_is_flat : {k : Context} {sc : VariableScope} {at : Pos} {a : t.Term} {w : Word} {x : c.Stmt} → r.Checks k sc at a w x → depth a ≤ max_term_depth → IsFlat x
check_is_flat (r.inhale h) l = record { shallow = omega (arith, assertion_depth h, l); flat = refl }
check_is_flat (r.exhale h) l = record { shallow = omega (arith, assertion_depth h, l); flat = refl }
check_is_flat (r.asserted h) l = record { shallow = omega (arith, assertion_depth h, l); flat = refl }
check_is_flat (r.assume h) l = record { shallow = omega (arith, expr_depth h, l); flat = refl }

fold_is_shallow : {k : Context} {sc : VariableScope} {f : s.SFold} {x : c.FoldStmt} → r.IsFold k sc f x → All IsShallow (f.call.args ++ amount_terms f.amount) →
    g.fold_depth x ≤ max_term_depth
fold_is_shallow {f = f} (r.fold_of i has_body args m) l =
    omega (
      arith,
      exprs_depth args,
      permission_amount_depth m,
      terms_are_shallow f.call.args (all_left IsShallow f.call.args (amount_terms f.amount) l),
      amount_is_shallow f.amount (all_right IsShallow f.call.args (amount_terms f.amount) l),
    )

pub assertions_depth : {k : Context} {sc : VariableScope} {is : List t.Term} {xs : List e.Assertion} → r.AssertsAll k sc is xs → All IsShallow is →
    g.assertion_depths xs ≤ max_term_depth
assertions_depth r.no_assertions l = omega arith
assertions_depth (r.one_assertion {a = a} {rest = rest} h hs) l =
    omega (arith, assertion_depth h, All-head IsShallow a rest l, assertions_depth hs (All-tail IsShallow a rest l))

-- ---- blocks

-- a statement in a block of this depth, and those of such a block
pub record Nests (d : ℕ) (x : c.Stmt) : Type 0 where
  pub shallow : stmt_depth x ≤ max_term_depth
  pub nested : d + blocks_of x ≤ max_block_depth

pub record NestAll (d : ℕ) (ss : c.Stmts) : Type 0 where
  pub shallow : stmts_depth ss ≤ max_term_depth
  pub nested : d + blocks_in ss ≤ max_block_depth

-- the statements of an `else`, or none
record NestElse (d : ℕ) (ss : c.Stmts) : Type 0 where
  pub shallow : stmts_depth ss ≤ max_term_depth
  pub nested : (blocks_in ss ≡ 0) ⊎ (d + blocks_in ss ≤ max_block_depth)

in_block : (d : ℕ) {x : c.Stmt} → d ≤ max_block_depth → IsFlat x → Nests d x
in_block d le h = record { shallow = h.shallow; nested = omega (arith, h.flat, le) }

-- a statement alone in a block
alone_nests : (d : ℕ) (o : Option c.Stmt) (x : c.Stmt) (other : c.Stmts) → o ≡ Some x → NestAll d (alone o other) → Nests d x
alone_nests d o x other is h =
    let one : NestAll d (c.next x c.skip) = subst (λ p. NestAll d (alone p other)) is h in
    record { shallow = omega (arith, one.shallow); nested = omega (arith, one.nested) }

last_block : (d : ℕ) (ss : c.Stmts) → d ≤ max_block_depth → NestElse d ss → NestAll d ss
last_block d ss le h = record { shallow = h.shallow; nested = elim h.nested [ inl none ↦ omega (arith, none, le) | inr nested ↦ nested ] }

same_depth : (d e : ℕ) (ss : c.Stmts) → d ≡ e → NestElse d ss → NestElse e ss
same_depth d e ss is h = subst (λ n. NestElse n ss) is h

mutual
  pub step_nests : {k : Context} {d : ℕ} {fr : MethodVariables} {a : s.SStmt} {x : c.Stmt} → Stepped k d fr a x → d ≤ max_block_depth → All IsShallow (stmt_terms a) → Nests d x
  step_nests {d = d} (r.var new h) le l = in_block d le (declaration_is_flat h l)
  step_nests {d = d} (r.assign h) le l = in_block d le (assignment_is_flat h l)
  step_nests {d = d} (r.call_to into differ h) le l = in_block d le (call_is_flat h l)
  step_nests {d = d} (r.call h) le l = in_block d le (call_is_flat h l)
  step_nests {d = d} (r.check {a = a} h) le l = in_block d le (check_is_flat h (All-head IsShallow a [] l))
  step_nests (r.folded h) le l = record { shallow = fold_is_shallow h l; nested = omega (arith, le) }
  step_nests (r.unfolded h) le l = record { shallow = fold_is_shallow h l; nested = omega (arith, le) }
  step_nests {d = d} (r.if_arms {arms = arms} {other = other} {bs = bs} {ss = ss} {x = x} h o is) le l =
      let last = else_nests o (all_right IsShallow (arms_terms arms) (else_terms other) l) in
      alone_nests d (nested bs ss) x ss is (arms_nest h d refl le ss (all_left IsShallow (arms_terms arms) (else_terms other) l) last)
  step_nests {d = d} (r.while {a = a} {is = is} {b = b} h hs body) le l =
      let before : All IsShallow (a ∷ is) = all_left IsShallow (a ∷ is) (block_terms b) l in
      let inside = block_nests body (all_right IsShallow (a ∷ is) (block_terms b) l) in
      record {
        shallow = omega (arith, expr_depth h, All-head IsShallow a is before, assertions_depth hs (All-tail IsShallow a is before), inside.shallow);
        nested = omega (arith, inside.nested);
      }

  pub block_nests : {k : Context} {d : ℕ} {fr : MethodVariables} {b : s.SBlock} {ss : c.Stmts} → Blocked k d fr b ss → All IsShallow (block_terms b) → NestAll d ss
  block_nests {d = d} (r.block i h) l = steps_nest h (leb-true d max_block_depth i) l

  steps_nest : {k : Context} {d : ℕ} {fr : MethodVariables} {ss : s.SStmts} {xs : List c.Stmt} → SteppedAll k d fr ss xs → d ≤ max_block_depth → All IsShallow (stmts_terms ss) →
      NestAll d (c.stmts xs)
  steps_nest r.no_steps le l = record { shallow = omega arith; nested = omega (arith, le) }
  steps_nest (r.one_step {a = a} {rest = rest} h hs) le l =
      let first = step_nests h le (all_left IsShallow (stmt_terms a) (stmts_terms rest) l) in
      let others = steps_nest hs le (all_right IsShallow (stmt_terms a) (stmts_terms rest) l) in
      record { shallow = omega (arith, first.shallow, others.shallow); nested = omega (arith, first.nested, others.nested) }

  -- arms whose blocks are deeper than this
  arms_nest : {k : Context} {b : ℕ} {fr : MethodVariables} {arms : s.SArms} {bs : List Branch} → Branches k b fr arms bs → (d : ℕ) → b ≡ d + 1 → d ≤ max_block_depth →
      (other : c.Stmts) → All IsShallow (arms_terms arms) → NestElse (d + arm_count arms) other →
      NestAll d (alone (nested bs other) other)
  arms_nest r.no_branches d is le other l o = last_block d other le (same_depth (d + 0) d other (omega arith) o)
  arms_nest {b = b} (r.one_branch {a = s.arm at a body} {rest = rest} (r.branch_of guard h) hs) d is le other l o =
      let terms : All IsShallow (a ∷ block_terms body) = all_left IsShallow (a ∷ block_terms body) (arms_terms rest) l in
      let first = block_nests h (All-tail IsShallow a (block_terms body) terms) in
      let last = same_depth (d + (arm_count rest + 1)) (b + arm_count rest) other (omega (arith, is)) o in
      let others = arms_nest hs b refl (omega (arith, first.nested)) other (all_right IsShallow (a ∷ block_terms body) (arms_terms rest) l) last in
      record {
        shallow = omega (arith, expr_depth guard, All-head IsShallow a (block_terms body) terms, first.shallow, others.shallow);
        nested = omega (arith, is, first.nested, others.nested);
      }

  else_nests : {k : Context} {d : ℕ} {fr : MethodVariables} {o : s.SElse} {ss : c.Stmts} → Otherwise k d fr o ss → All IsShallow (else_terms o) → NestElse d ss
  else_nests r.no_block l = record { shallow = omega arith; nested = inl refl }
  else_nests (r.else_of h) l = let inside = block_nests h l in record { shallow = inside.shallow; nested = inr inside.nested }
