-- The statements of a block and the arms of an `if`, gone through from the front.
use Rattle.std.proofs.Common.{◌≡◌, ◌∙◌, sym, ap, ℕ, ◌+◌, ◌<◌, ◌≤◌, arith, Bool, List, [], ◌++◌, append_assoc, length, get_or, take, drop}
use Rattle.std.proofs.lemmas.List.{append-nil, at_drop_all, length-take, take-append-le}
use Rattle.viper_types.proofs.Scopes.{vars_after}
use Rattle.lemmas.proofs.Lists.{next_item}
use Rattle.vb_value.specs.declared.values.Ty.{Ty}
use Rattle.viper_syntax.specs.Stmt as s
use Rattle.viper_syntax.specs.View.{arm_of, arms_of, stmt_of, stmts_of}
use Rattle.viper_syntax.specs.declared.stmts.SArm.{SArm}
use Rattle.viper_syntax.specs.declared.stmts.SStmt.{SStmt}
use Rattle.viper_scope.specs.Context.{Context}
use Rattle.viper_scope.specs.Outcome.{Found, then_more}
use Rattle.viper_scope.specs.Scope.{VariableScope}
use Rattle.viper_types.specs.Frame.{MethodVariables, declared, declared_in, declared_in_arm, declared_in_arms, frame_after, with_hidden}
use Rattle.viper_types.specs.Stepping.{stepping, stepping_all, branch, branches}

-- ---- statements

still_first : (first sc more : VariableScope) → take (length first) sc ≡ first → take (length first) (sc ++ more) ≡ first
still_first first sc more h =
    let within : length first ≤ length sc = omega (arith, ap length h, length-take (length first) sc) in
    take-append-le (length first) sc more within ∙ h

after_visible : (fr : MethodVariables) (a : s.SStmt) (first : VariableScope) → take (length first) fr.scope ≡ first → take (length first) (frame_after fr a).scope ≡ first
after_visible fr (s.Var at f rhs) first h = still_first first fr.scope _ h
after_visible fr (s.Assign xs rhs) first h = h
after_visible fr (s.CallTo xs call) first h = h
after_visible fr (s.Call call) first h = h
after_visible fr (s.Check w at a) first h = h
after_visible fr (s.Fold f) first h = h
after_visible fr (s.Unfold f) first h = h
after_visible fr (s.If arms other) first h = h
after_visible fr (s.While at a is b) first h = h

pub next_vars : (fr gr : MethodVariables) (items : List SStmt) (i : ℕ) (a : SStmt) (all : List Ty) → i < length items → a ≡ get_or items i a → gr ≡ frame_after fr (stmt_of a) →
    fr.vars ++ declared_in (stmts_of (drop i items)) ≡ all → gr.vars ++ declared_in (stmts_of (drop (i + 1) items)) ≡ all
next_vars fr gr items i a all within is after so_far =
    let rest = declared_in (stmts_of (drop (i + 1) items)) in
    ap (λ hr. hr.vars ++ rest) after ∙ ap (λ us. us ++ rest) (vars_after fr (stmt_of a)) ∙ append_assoc fr.vars (declared (stmt_of a)) rest ∙
    ap (λ ss. fr.vars ++ declared_in (stmts_of ss)) (sym (next_item items i a within is)) ∙ so_far

pub next_visible : (fr gr : MethodVariables) (a : SStmt) (first : VariableScope) → gr ≡ frame_after fr (stmt_of a) → take (length first) fr.scope ≡ first → take (length first) gr.scope ≡ first
next_visible fr gr a first after so_far = ap (λ hr. take (length first) hr.scope) after ∙ after_visible fr (stmt_of a) first so_far

pub next_stmt : (lists : Bool) (k : Context) (d : ℕ) (fr gr : MethodVariables) (items : List SStmt) (i : ℕ) (a : SStmt) → i < length items → a ≡ get_or items i a → gr ≡ frame_after fr (stmt_of a) →
    stepping_all lists k d fr (stmts_of (drop i items)) ≡ then_more (stepping lists k d fr (stmt_of a)) (stepping_all lists k d gr (stmts_of (drop (i + 1) items)))
next_stmt lists k d fr gr items i a within is after =
    ap (λ ss. stepping_all lists k d fr (stmts_of ss)) (next_item items i a within is) ∙
    ap (λ hr. then_more (stepping lists k d fr (stmt_of a)) (stepping_all lists k d hr (stmts_of (drop (i + 1) items)))) (sym after)

pub no_stmt : (lists : Bool) (k : Context) (d : ℕ) (fr : MethodVariables) (items : List SStmt) (i : ℕ) → length items ≤ i → stepping_all lists k d fr (stmts_of (drop i items)) ≡ Found []
no_stmt lists k d fr items i over = at_drop_all (λ ss. stepping_all lists k d fr (stmts_of ss)) items i over

pub all_vars : (fr : MethodVariables) (items : List SStmt) (i : ℕ) (all : List Ty) → length items ≤ i → fr.vars ++ declared_in (stmts_of (drop i items)) ≡ all → fr.vars ≡ all
all_vars fr items i all over so_far = sym (append-nil fr.vars) ∙ sym (at_drop_all (λ ss. fr.vars ++ declared_in (stmts_of ss)) items i over) ∙ so_far

-- ---- arms

pub next_arm_vars : (fr gr : MethodVariables) (items : List SArm) (i : ℕ) (a : SArm) (all : List Ty) → i < length items → a ≡ get_or items i a → gr ≡ with_hidden fr (declared_in_arm (arm_of a)) →
    fr.vars ++ declared_in_arms (arms_of (drop i items)) ≡ all → gr.vars ++ declared_in_arms (arms_of (drop (i + 1) items)) ≡ all
next_arm_vars fr gr items i a all within is after so_far =
    let rest = declared_in_arms (arms_of (drop (i + 1) items)) in
    ap (λ hr. hr.vars ++ rest) after ∙ append_assoc fr.vars (declared_in_arm (arm_of a)) rest ∙
    ap (λ arms. fr.vars ++ declared_in_arms (arms_of arms)) (sym (next_item items i a within is)) ∙ so_far

pub next_arm : (lists : Bool) (k : Context) (d : ℕ) (fr gr : MethodVariables) (items : List SArm) (i : ℕ) (a : SArm) → i < length items → a ≡ get_or items i a → gr ≡ with_hidden fr (declared_in_arm (arm_of a)) →
    branches lists k (d + i) fr (arms_of (drop i items)) ≡ then_more (branch lists k (d + i) fr (arm_of a)) (branches lists k (d + (i + 1)) gr (arms_of (drop (i + 1) items)))
next_arm lists k d fr gr items i a within is after =
    let deeper : d + i + 1 ≡ d + (i + 1) = omega arith in
    ap (λ arms. branches lists k (d + i) fr (arms_of arms)) (next_item items i a within is) ∙
    ap (λ hr. then_more (branch lists k (d + i) fr (arm_of a)) (branches lists k (d + i + 1) hr (arms_of (drop (i + 1) items)))) (sym after) ∙
    ap (λ n. then_more (branch lists k (d + i) fr (arm_of a)) (branches lists k n gr (arms_of (drop (i + 1) items)))) deeper

pub no_arm : (lists : Bool) (k : Context) (d : ℕ) (fr : MethodVariables) (items : List SArm) (i : ℕ) → length items ≤ i → branches lists k d fr (arms_of (drop i items)) ≡ Found []
no_arm lists k d fr items i over = at_drop_all (λ arms. branches lists k d fr (arms_of arms)) items i over

pub all_hidden : (fr first : MethodVariables) (items : List SArm) (i : ℕ) → length items ≤ i → fr.vars ++ declared_in_arms (arms_of (drop i items)) ≡ first.vars ++ declared_in_arms (arms_of items) → fr.scope ≡ first.scope →
    fr ≡ with_hidden first (declared_in_arms (arms_of items))
all_hidden fr first items i over vars scope =
    let all : fr.vars ≡ first.vars ++ declared_in_arms (arms_of items) = sym (append-nil fr.vars) ∙ sym (at_drop_all (λ arms. fr.vars ++ declared_in_arms (arms_of arms)) items i over) ∙ vars in
    ap (λ us. record { vars = us; scope = fr.scope }) all ∙ ap (λ sc. record { vars = first.vars ++ declared_in_arms (arms_of items); scope = sc }) scope
