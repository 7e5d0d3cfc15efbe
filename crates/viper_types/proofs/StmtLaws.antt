-- Statements with blocks, by what their parts are.
use Rattle.std.proofs.Common.{◌≡◌, ◌∙◌, ap, sym, refl, ℕ, ◌+◌, ◌≤◌, ◌++◌, leb, Bool, true, List, [], ◌∷◌, Result, Ok, Err, OnOk, length, append_assoc, rules, arith}
use Rattle.std.proofs.lemmas.Bool.Decides.{nat_tests}
use Rattle.vb_base.specs.Limits.{max_block_depth}
use Rattle.vb_base.specs.declared.places.Pos.{Pos}
use Rattle.vb_value.specs.declared.values.Ty.{Ty}
use Rattle.vb_value.specs.declared.values.Ty.TheVariants as ty
use Rattle.viper_core.specs.Expr as e
use Rattle.viper_core.specs.Stmt as c
use Rattle.viper_syntax.specs.Term as t
use Rattle.viper_syntax.specs.Stmt as s
use Rattle.viper_syntax.specs.View.{arms_of}
use Rattle.viper_syntax.specs.declared.stmts.SArm.{SArm}
use Rattle.viper_scope.specs.declared.rules.Rule.TheVariants as rule
use Rattle.viper_scope.specs.declared.rules.RuleFault.{RuleFault}
use Rattle.viper_scope.specs.Answers.{Refuses}
use Rattle.viper_scope.specs.Context.{Context, nowhere}
use Rattle.viper_types.specs.Frame.{MethodVariables, declared_in_arms, with_hidden}
use Rattle.viper_scope.specs.Outcome.{Judged, Found, Broken, then_typed, known, obeys}
use Rattle.viper_types.specs.Typing.{expected}
use Rattle.viper_scope.specs.Target.{targets, listed}
use Rattle.viper_types.specs.Stepping.{Branch, nested, arm_count, opening_of, as_block, asserting_all, stepping, blocking, stepping_all, branches, otherwise}
use Rattle.viper_scope.proofs.Judged.{failed, found_same}

pub on_ok : {X E P : Type 0} (r : Result X E) → P → OnOk r P
on_ok (Ok x) p = p
on_ok (Err f) p = tt

pub on_ok_too : {X E P Q : Type 0} (r : Result X E) → (P → Q) → OnOk r P → OnOk r Q
on_ok_too (Ok x) go p = go p
on_ok_too (Err f) go p = tt

-- ---- an `if`

pub arm_count-length : (arms : List SArm) → arm_count (arms_of arms) ≡ length arms
arm_count-length [] = refl
arm_count-length (a ∷ rest) = omega (arith, arm_count-length rest)

pub hidden_twice : (fr : MethodVariables) (us vs : List Ty) → with_hidden (with_hidden fr us) vs ≡ with_hidden fr (us ++ vs)
hidden_twice fr us vs = ap (λ ws. record { vars = ws; scope = fr.scope }) (append_assoc fr.vars us vs)

pub if_arms_refused : (lists : Bool) (k : Context) (d : ℕ) (fr : MethodVariables) (arms : s.SArms) (other : s.SElse) (f : RuleFault) → Refuses (branches lists k (d + 1) fr arms) f → Refuses (stepping lists k d fr (s.If arms other)) f
if_arms_refused lists k d fr arms other f h = failed f (branches lists k (d + 1) fr arms) _ h

-- once the arms are typed
pub if_arms : (lists : Bool) (k : Context) (d : ℕ) (fr : MethodVariables) (arms : s.SArms) (other : s.SElse) (bs : List Branch) (n : ℕ) (gr : MethodVariables) → branches lists k (d + 1) fr arms ≡ Found bs →
    n ≡ arm_count arms → gr ≡ with_hidden fr (declared_in_arms arms) →
    stepping lists k d fr (s.If arms other) ≡ then_typed (otherwise lists k (d + n) gr other) (λ ss. known (nested bs ss) nowhere rule.WrongType Found)
if_arms lists k d fr arms other bs n gr h is after =
    ap (λ j. then_typed j (λ cs. then_typed (otherwise lists k (d + arm_count arms) (with_hidden fr (declared_in_arms arms)) other) (λ ss. known (nested cs ss) nowhere rule.WrongType Found))) h ∙
    ap (λ m. then_typed (otherwise lists k (d + m) (with_hidden fr (declared_in_arms arms)) other) (λ ss. known (nested bs ss) nowhere rule.WrongType Found)) (sym is) ∙
    ap (λ hr. then_typed (otherwise lists k (d + n) hr other) (λ ss. known (nested bs ss) nowhere rule.WrongType Found)) (sym after)

-- ---- a loop

-- two parts that are both typed
pair_found : {X Y Z : Type 0} (j : Judged X) (js : Judged Y) (p : X × Y) (go : X → Y → Judged Z) → then_typed j (λ x. then_typed js (λ y. Found (x, y))) ≡ Found p →
    then_typed j (λ x. then_typed js (λ y. go x y)) ≡ go p.0 p.1
pair_found (Found x) (Found y) p go h = ap (λ q. go q.0 q.1) (found_same h)
pair_found (Found x) (Broken at r) p go h = absurd (cc)
pair_found (Broken at r) js p go h = absurd (cc)

pub loop_typed : (lists : Bool) (k : Context) (d : ℕ) (fr : MethodVariables) (at : Pos) (a : t.Term) (is : List t.Term) (b : s.SBlock) (p : e.Expr × List e.Assertion) →
    then_typed (expected k fr.scope ty.Bool a) (λ x. then_typed (asserting_all k fr.scope is) (λ xs. Found (x, xs))) ≡ Found p →
    stepping lists k d fr (s.While at a is b) ≡ then_typed (blocking lists k (d + 1) fr b) (λ ss. Found (c.While (c.loop at p.0 p.1 ss (opening_of b) (listed lists (targets (length fr.vars) ss)))))
loop_typed lists k d fr at a is b p h =
    pair_found (expected k fr.scope ty.Bool a) (asserting_all k fr.scope is) p
    (λ x xs. then_typed (blocking lists k (d + 1) fr b) (λ ss. Found (c.While (c.loop at x xs ss (opening_of b) (listed lists (targets (length fr.vars) ss)))))) h

-- ---- a block

pub block_typed : (lists : Bool) (k : Context) (d : ℕ) (fr : MethodVariables) (at : Pos) (ss : s.SStmts) (xs : List c.Stmt) → d ≤ max_block_depth → stepping_all lists k d fr ss ≡ Found xs → blocking lists k d fr (s.block at ss) ≡ Found (c.stmts xs)
block_typed lists k d fr at ss xs le h =
    let shallow : leb d max_block_depth ≡ true = search (rules, nat_tests) in
    ap (λ b. obeys b at rule.TooDeep (then_typed (stepping_all lists k d fr ss) as_block)) shallow ∙ ap (λ j. then_typed j as_block) h
