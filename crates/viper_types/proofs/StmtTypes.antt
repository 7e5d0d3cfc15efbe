-- A typed statement is a statement of the core, among the variables of its method.
use Rattle.std.proofs.Common.{◌≡◌, ◌∙◌, ℕ, Option, Some, List, [], ◌∷◌, ◌++◌, All, length, slice_get, refl, sym, ap, subst, append_assoc, append-nil}
use Rattle.std.proofs.lemmas.List.Elements.{All-cons, All-nil, All-head, All-tail}
use Rattle.std.proofs.lemmas.Option.{same_Some}
use Rattle.lemmas.proofs.Lists.{all_left, all_right, get_middle}
use Rattle.vb_base.specs.declared.places.Pos.{Pos}
use Rattle.vb_value.specs.declared.values.Ty.{Ty}
use Rattle.vb_value.specs.declared.values.Ty.TheVariants as ty
use Rattle.viper_core.specs.Expr as e
use Rattle.viper_core.specs.Scope as cs
use Rattle.viper_core.specs.Scope.{scope_after, stmts_scope}
use Rattle.viper_core.specs.Stmt as c
use Rattle.viper_core.specs.Typing as g
use Rattle.viper_core.specs.Typing.{IsStmt, AreStmts, IsAssertion}
use Rattle.viper_syntax.specs.Term as t
use Rattle.viper_syntax.specs.Stmt as s
use Rattle.viper_syntax.specs.declared.stmts.Named.{Named}
use Rattle.viper_syntax.specs.declared.stmts.Formal.{Formal}
use Rattle.viper_syntax.specs.declared.tokens.Word.{Word}
use Rattle.viper_scope.specs.Context.{Context}
use Rattle.viper_syntax.specs.Good.{HasLiterals, with_fields, target_terms, rhs_terms, option_terms, stmt_terms, block_terms, stmts_terms, arms_terms, else_terms}
use Rattle.viper_scope.specs.Scope.{VariableScope}
use Rattle.viper_scope.specs.Types.{type_of, or_int, declared_type}
use Rattle.viper_types.specs.Frame.{MethodVariables, declared, declared_in, declared_in_block, declared_in_arms, declared_in_else, with_hidden, frame_after}
use Rattle.viper_types.specs.Stepping.{AssignedVariable, Branch, nested, alone}
use Rattle.viper_types.specs.Stepped as r
use Rattle.viper_types.specs.Stepped.{Stepped, Blocked, SteppedAll, Branches, Otherwise}
use Rattle.viper_types.proofs.TermTypes.{Describes, Resolves, has_type, is_assertion}
use Rattle.viper_types.proofs.Scopes.{Extends, extends_less, numbers, core_scope, IsSound, sound_after, sound_hidden, declared_scope, hidden_scope, vars_after, same_scope}
use Rattle.viper_types.proofs.StmtParts.{Stands, Takes, names_in, target_is, take_targets, no_targets, one_target, received, stays, all_stay, declares, call_is, call_scope, new_is, new_scope, place_is, fold_is}
use Rattle.viper_types.proofs.SameTargets.{same_targets}

-- a statement between two scopes
pub record Goes (m : g.MethodContext) (before after : cs.Scope) (x : c.Stmt) : Type 0 where
  pub stmt : IsStmt m before x
  pub scope : scope_after before x ≡ after

-- the statements of a block, and how many variables there are after it
pub record GoAll (m : g.MethodContext) (before : cs.Scope) (count : ℕ) (ss : c.Stmts) : Type 0 where
  pub stmts : AreStmts m before ss
  pub fresh : (stmts_scope before ss).fresh ≡ count

-- ---- declarations

declaration_goes : {k : Context} {m : g.MethodContext} {fr : MethodVariables} {at : Pos} {v : AssignedVariable} {rhs : Option s.SRhs} {x : c.Stmt} → Stands k m fr →
    v.number ≡ length fr.vars → slice_get m.vars v.number ≡ Some v.ty → r.Declares k fr.scope at v rhs x →
    All HasLiterals (option_terms rhs_terms rhs) →
    Goes m (core_scope fr) (cs.declared (core_scope fr)) x
declaration_goes z new typed r.any_value l = record { stmt = g.declares new typed; scope = refl }
declaration_goes z new typed (r.value {a = a} h) l = record { stmt = g.initial new typed (has_type (names_in z) h (All-head HasLiterals a [] l)); scope = refl }
declaration_goes {fr = fr} {v = v} z new typed (r.returned h) l = record {
  stmt = call_is z h l (g.declared new typed);
  scope = call_scope (core_scope fr) h ∙ declares (core_scope fr) v.number new;
}
declaration_goes {m = m} {fr = fr} {v = v} z new typed (r.created is h) l = record {
  stmt = new_is z h (subst (λ u. g.Receive m (core_scope fr) (v.number ∷ []) (u ∷ [])) is (g.declared new typed));
  scope = new_scope (core_scope fr) h ∙ declares (core_scope fr) v.number new;
}

pub type_is : (f : Formal) (u : Ty) → type_of f.ty ≡ Some u → declared_type f ≡ u
type_is f u i = ap or_int i

var_goes : {k : Context} {m : g.MethodContext} {fr : MethodVariables} {at : Pos} {f : Formal} {v : AssignedVariable} {rhs : Option s.SRhs} {x : c.Stmt} → Stands k m fr →
    Extends (fr.vars ++ declared_type f ∷ []) m.vars → r.IsFresh fr f v → r.Declares k fr.scope at v rhs x →
    All HasLiterals (option_terms rhs_terms rhs) →
    Goes m (core_scope fr) (cs.declared (core_scope fr)) x
var_goes {fr = fr} {f = f} z more (r.fresh {u = u} i is) h l =
    declaration_goes z refl (more.at (length fr.vars) (declared_type f) (get_middle fr.vars (declared_type f) []) ∙ ap (λ w. Some w) (type_is f u is)) h l

-- ---- assignments

one_stays : {k : Context} {m : g.MethodContext} {fr : MethodVariables} {x : Named} {v : AssignedVariable} → Stands k m fr → r.IsTarget fr.scope x v →
    cs.after_target (core_scope fr) v.number ≡ core_scope fr
one_stays {m = m} {fr = fr} {v = v} z i = stays m.params fr v.number z.sound (target_is z i).visible

no_fields_literals : (a : t.Term) (fs : List Named) → HasLiterals (with_fields a fs) → HasLiterals a
no_fields_literals a [] l = l
no_fields_literals a (f ∷ fs) l = no_fields_literals (t.Field a f.name f.pos) fs l

assignment_goes : {k : Context} {m : g.MethodContext} {fr : MethodVariables} {xs : List Named} {rhs : s.SRhs} {x : c.Stmt} → Stands k m fr →
    r.Sets k fr.scope xs rhs x → All HasLiterals (rhs_terms rhs) →
    Goes m (core_scope fr) (core_scope fr) x
assignment_goes z (r.variable {a = a} i h) l = record { stmt = g.assigns (target_is z i) (has_type (names_in z) h (All-head HasLiterals a [] l)); scope = refl }
assignment_goes {fr = fr} z (r.Sets.returned {v = v} i h) l = record {
  stmt = call_is z h l (received (one_target v (target_is z i)));
  scope = call_scope (core_scope fr) h ∙ one_stays z i;
}
assignment_goes {m = m} {fr = fr} z (r.Sets.created {v = v} i is h) l = record {
  stmt = new_is z h (subst (λ u. g.Receive m (core_scope fr) (v.number ∷ []) (u ∷ [])) is (received (one_target v (target_is z i))));
  scope = new_scope (core_scope fr) h ∙ one_stays z i;
}
assignment_goes z (r.Sets.field {a = a} h h') l =
    let place = place_is (names_in z) h tt in
    record { stmt = g.writes place.receiver place.field (has_type (names_in z) h' (All-head HasLiterals a [] l)); scope = refl }

targets_go : {k : Context} {m : g.MethodContext} {fr : MethodVariables} {at : Pos} {vs : List AssignedVariable} {call : s.SCall} {x : c.Stmt} → Stands k m fr →
    Takes m (core_scope fr) vs → r.IsCall k fr.scope at vs call x → All HasLiterals call.args →
    Goes m (core_scope fr) (core_scope fr) x
targets_go {m = m} {fr = fr} z taken h l =
    record { stmt = call_is z h l (received taken); scope = call_scope (core_scope fr) h ∙ all_stay m.params fr z.sound taken.targets }

check_goes : {k : Context} {m : g.MethodContext} {fr : MethodVariables} {at : Pos} {a : t.Term} {w : Word} {x : c.Stmt} → Stands k m fr → r.Checks k fr.scope at a w x →
    HasLiterals a →
    Goes m (core_scope fr) (core_scope fr) x
check_goes z (r.inhale h) l = record { stmt = g.inhales (is_assertion (names_in z) h l); scope = refl }
check_goes z (r.exhale h) l = record { stmt = g.exhales (is_assertion (names_in z) h l); scope = refl }
check_goes z (r.asserted h) l = record { stmt = g.asserts (is_assertion (names_in z) h l); scope = refl }
check_goes z (r.assume h) l = record { stmt = g.inhales (g.fact (has_type (names_in z) h l)); scope = refl }

invariants_are : {k : Context} {sc : VariableScope} {ctx : g.Context} {is : List t.Term} {xs : List e.Assertion} → Resolves k sc ctx → r.AssertsAll k sc is xs →
    All HasLiterals is →
    All (IsAssertion ctx) xs
invariants_are {ctx = ctx} z r.no_assertions l = All-nil (IsAssertion ctx)
invariants_are {ctx = ctx} z (r.one_assertion {a = a} {rest = rest} {x = x} {xs = xs} h hs) l =
    All-cons (IsAssertion ctx) x xs (is_assertion z h (All-head HasLiterals a rest l)) (invariants_are z hs (All-tail HasLiterals a rest l))

-- ---- blocks

standing : {k : Context} {m : g.MethodContext} {fr : MethodVariables} (us : List Ty) → Describes k.world k.bodies m.program → IsSound m.params fr →
    Extends (fr.vars ++ us) m.vars →
    Stands k m fr
standing {m = m} {fr = fr} us z sound more = record { declarations = z; sound = sound; extends = extends_less fr.vars us m.vars more }

same_front : (xs ys zs all : List Ty) → Extends (xs ++ (ys ++ zs)) all → Extends ((xs ++ ys) ++ zs) all
same_front xs ys zs all h = subst (λ us. Extends us all) (sym (append_assoc xs ys zs)) h

next_front : (fr : MethodVariables) (a : s.SStmt) (us all : List Ty) → Extends (fr.vars ++ (declared a ++ us)) all → Extends ((frame_after fr a).vars ++ us) all
next_front fr a us all h = subst (λ vs. Extends (vs ++ us) all) (sym (vars_after fr a)) (same_front fr.vars (declared a) us all h)

next_count : (fr : MethodVariables) (a : s.SStmt) (us : List Ty) → length ((frame_after fr a).vars ++ us) ≡ length (fr.vars ++ (declared a ++ us))
next_count fr a us = ap (λ vs. length (vs ++ us)) (vars_after fr a) ∙ ap (λ vs. length vs) (append_assoc fr.vars (declared a) us)

keeps_visible : (bs : List Branch) (other : c.Stmts) (x : c.Stmt) (sc : cs.Scope) → nested bs other ≡ Some x → (scope_after sc x).visible ≡ sc.visible
keeps_visible [] other x sc h = absurd (cc)
keeps_visible (b ∷ bs) other x sc h = subst (λ y. (scope_after sc y).visible ≡ sc.visible) (same_Some _ _ h) refl

first_of : {m : g.MethodContext} {sc : cs.Scope} {x : c.Stmt} → AreStmts m sc (c.next x c.skip) → IsStmt m sc x
first_of (g.goes_on h rest) = h

if_goes : {m : g.MethodContext} (fr : MethodVariables) (us : List Ty) (bs : List Branch) (other : c.Stmts) (x : c.Stmt) → nested bs other ≡ Some x →
    GoAll m (core_scope fr) (length (fr.vars ++ us)) (alone (nested bs other) other) →
    Goes m (core_scope fr) (core_scope (with_hidden fr us)) x
if_goes {m} fr us bs other x is h =
    let alone_goes : GoAll m (core_scope fr) (length (fr.vars ++ us)) (c.next x c.skip) =
    subst (λ o. GoAll m (core_scope fr) (length (fr.vars ++ us)) (alone o other)) is h in
    record { stmt = first_of alone_goes.stmts; scope = same_scope (keeps_visible bs other x (core_scope fr) is) alone_goes.fresh }

-- an `if` whose second block is this one
branch_goes : {m : g.MethodContext} {at : Pos} {a : e.Expr} {ss other : c.Stmts} (fr : MethodVariables) (us vs : List Ty) → g.HasType (g.inside m (core_scope fr)) a ty.Bool →
    GoAll m (core_scope fr) (length (fr.vars ++ us)) ss → GoAll m (core_scope (with_hidden fr us)) (length ((fr.vars ++ us) ++ vs)) other →
    GoAll m (core_scope fr) (length (fr.vars ++ (us ++ vs))) (c.next (c.If at a ss other) c.skip)
branch_goes {m} {ss = ss} {other = other} fr us vs guard first second =
    let between = hidden_scope fr us (stmts_scope (core_scope fr) ss) first.fresh in
    record {
      stmts = g.goes_on (g.branches guard first.stmts (subst (λ sc. AreStmts m sc other) (sym between) second.stmts)) g.ends;
      fresh = ap (λ sc. (stmts_scope sc other).fresh) between ∙ second.fresh ∙ ap (λ us. length us) (append_assoc fr.vars us vs);
    }

mutual
  pub steps : {k : Context} {m : g.MethodContext} → Describes k.world k.bodies m.program → {d : ℕ} {fr : MethodVariables} {a : s.SStmt} {x : c.Stmt} → Stepped k d fr a x →
      IsSound m.params fr → Extends (fr.vars ++ declared a) m.vars → All HasLiterals (stmt_terms a) →
      Goes m (core_scope fr) (core_scope (frame_after fr a)) x
  steps {m = m} z {fr = fr} (r.var {f = f} {x = x} new h) sound more l =
      subst (λ sc. Goes m (core_scope fr) sc x) (sym (declared_scope fr f.name.name (declared_type f) _)) (var_goes (standing _ z sound more) more new h l)
  steps z (r.assign {xs = xs} {rhs = rhs} h) sound more l = assignment_goes (standing _ z sound more) h (all_right HasLiterals (target_terms xs) (rhs_terms rhs) l)
  steps z (r.call_to into differ h) sound more l = let stands = standing _ z sound more in targets_go stands (take_targets stands into differ) h l
  steps z (r.call h) sound more l = targets_go (standing _ z sound more) no_targets h l
  steps z (r.check {a = a} h) sound more l = check_goes (standing _ z sound more) h (All-head HasLiterals a [] l)
  steps z (r.folded h) sound more l = record { stmt = g.folds (fold_is (names_in (standing _ z sound more)) h l); scope = refl }
  steps z (r.unfolded h) sound more l = record { stmt = g.unfolds (fold_is (names_in (standing _ z sound more)) h l); scope = refl }
  steps {m = m} z {fr = fr} (r.if_arms {arms = arms} {other = other} {bs = bs} {ss = ss} {x = x} h o is) sound more l =
      let rest = else_goes z o (sound_hidden m.params fr (declared_in_arms arms) sound)
      (same_front fr.vars (declared_in_arms arms) (declared_in_else other) m.vars more) (all_right HasLiterals (arms_terms arms) (else_terms other) l) in
      if_goes fr (declared_in_arms arms ++ declared_in_else other) bs ss x is
      (arms_go z h sound (declared_in_else other) ss more (all_left HasLiterals (arms_terms arms) (else_terms other) l) rest)
  steps {m = m} z {fr = fr} (r.while {a = a} {is = is} {b = b} {ss = ss} h hs body) sound more l =
      let names = names_in (standing _ z sound more) in
      let inside = block_goes z body sound more (all_right HasLiterals (a ∷ is) (block_terms b) l) in
      let before : All HasLiterals (a ∷ is) = all_left HasLiterals (a ∷ is) (block_terms b) l in
      record {
        stmt =
            g.loops (has_type names h (All-head HasLiterals a is before)) (invariants_are names hs (All-tail HasLiterals a is before)) inside.stmts
            (same_targets (core_scope fr) ss inside.stmts sound.rising);
        scope = hidden_scope fr (declared_in_block b) (stmts_scope (core_scope fr) ss) inside.fresh;
      }

  pub block_goes : {k : Context} {m : g.MethodContext} → Describes k.world k.bodies m.program → {d : ℕ} {fr : MethodVariables} {b : s.SBlock} {ss : c.Stmts} →
      Blocked k d fr b ss → IsSound m.params fr → Extends (fr.vars ++ declared_in_block b) m.vars → All HasLiterals (block_terms b) →
      GoAll m (core_scope fr) (length (fr.vars ++ declared_in_block b)) ss
  block_goes z (r.block i h) sound more l = all_go z h sound more l

  all_go : {k : Context} {m : g.MethodContext} → Describes k.world k.bodies m.program → {d : ℕ} {fr : MethodVariables} {ss : s.SStmts} {xs : List c.Stmt} →
      SteppedAll k d fr ss xs → IsSound m.params fr → Extends (fr.vars ++ declared_in ss) m.vars → All HasLiterals (stmts_terms ss) →
      GoAll m (core_scope fr) (length (fr.vars ++ declared_in ss)) (c.stmts xs)
  all_go z {fr = fr} r.no_steps sound more l = record { stmts = g.ends; fresh = ap (λ us. length us) (sym (append-nil fr.vars)) }
  all_go {m = m} z {fr = fr} (r.one_step {a = a} {rest = rest} {x = x} {xs = xs} h hs) sound more l =
      let us = declared_in rest in
      let first = steps z h sound (extends_less (fr.vars ++ declared a) us m.vars (same_front fr.vars (declared a) us m.vars more))
      (all_left HasLiterals (stmt_terms a) (stmts_terms rest) l) in
      let others = all_go z hs (sound_after m.params fr a sound) (next_front fr a us m.vars more) (all_right HasLiterals (stmt_terms a) (stmts_terms rest) l) in
      record {
        stmts = g.goes_on first.stmt (subst (λ sc. AreStmts m sc (c.stmts xs)) (sym first.scope) others.stmts);
        fresh = ap (λ sc. (stmts_scope sc (c.stmts xs)).fresh) first.scope ∙ others.fresh ∙ next_count fr a us;
      }

  -- the arms of an `if`, and else these statements
  arms_go : {k : Context} {m : g.MethodContext} → Describes k.world k.bodies m.program → {d : ℕ} {fr : MethodVariables} {arms : s.SArms} {bs : List Branch} →
      Branches k d fr arms bs → IsSound m.params fr → (us : List Ty) (other : c.Stmts) → Extends (fr.vars ++ (declared_in_arms arms ++ us)) m.vars →
      All HasLiterals (arms_terms arms) → GoAll m (core_scope (with_hidden fr (declared_in_arms arms))) (length ((fr.vars ++ declared_in_arms arms) ++ us)) other →
      GoAll m (core_scope fr) (length (fr.vars ++ (declared_in_arms arms ++ us))) (alone (nested bs other) other)
  arms_go {m = m} z {fr = fr} r.no_branches sound us other more l h =
      subst (λ vs. GoAll m (record { visible = numbers fr.scope; fresh = length vs }) (length (vs ++ us)) other) (append-nil fr.vars) h
  arms_go {m = m} z {fr = fr} (r.one_branch {a = s.arm at a b} {rest = rest} {bs = bs} (r.branch_of {x = x} {ss = ss} guard h) hs) sound us other more l o =
      let first = declared_in_block b in
      let others = declared_in_arms rest in
      let moved = same_front fr.vars first (others ++ us) m.vars (subst (λ vs. Extends (fr.vars ++ vs) m.vars) (append_assoc first others us) more) in
      let here = extends_less (fr.vars ++ first) (others ++ us) m.vars moved in
      let arm_literals : All HasLiterals (a ∷ block_terms b) = all_left HasLiterals (a ∷ block_terms b) (arms_terms rest) l in
      let body = block_goes z h sound here (All-tail HasLiterals a (block_terms b) arm_literals) in
      let last = subst (λ vs. GoAll m (record { visible = numbers fr.scope; fresh = length vs }) (length (vs ++ us)) other) (sym (append_assoc fr.vars first others)) o in
      let second = arms_go z hs (sound_hidden m.params fr first sound) us other moved (all_right HasLiterals (a ∷ block_terms b) (arms_terms rest) l) last in
      let guarded = has_type (names_in (standing first z sound here)) guard (All-head HasLiterals a (block_terms b) arm_literals) in
      subst (λ vs. GoAll m (core_scope fr) (length (fr.vars ++ vs)) (c.next (c.If at x ss (alone (nested bs other) other)) c.skip)) (sym (append_assoc first others us))
      (branch_goes fr first (others ++ us) guarded body second)

  else_goes : {k : Context} {m : g.MethodContext} → Describes k.world k.bodies m.program → {d : ℕ} {fr : MethodVariables} {o : s.SElse} {ss : c.Stmts} →
      Otherwise k d fr o ss → IsSound m.params fr → Extends (fr.vars ++ declared_in_else o) m.vars → All HasLiterals (else_terms o) →
      GoAll m (core_scope fr) (length (fr.vars ++ declared_in_else o)) ss
  else_goes z {fr = fr} r.no_block sound more l = record { stmts = g.ends; fresh = ap (λ us. length us) (sym (append-nil fr.vars)) }
  else_goes z (r.else_of h) sound more l = block_goes z h sound more l
