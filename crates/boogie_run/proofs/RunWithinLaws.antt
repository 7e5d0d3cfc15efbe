-- A run keeps all numbers within the bound.
use Rattle.std.proofs.Common.{◌≡◌, refl, subst, arith, ℕ, zero, suc, ◌<◌, length, get_or, Bool as Truth, true, false, Option, Some, None, List, [], ◌∷◌, All, slice_get, slice_set, Ok, if◌then◌else◌}
use Rattle.std.proofs.lemmas.List.Elements.{All-nil, All-head, All-tail, All-set}
use Rattle.sparse.specs.Map.{Map, empty, set}
use Rattle.sparse.proofs.MapLaws.{All-values-set}
use Rattle.vb_value.specs.Bound.{Bounded}
use Rattle.vb_value.specs.Key.{key_cmp}
use Rattle.boogie_tree.specs.Expr as t
use Rattle.boogie_tree.specs.Stmt as s
use Rattle.boogie_tree.specs.Program.{BType}
use Rattle.boogie_tree.specs.Value.{Key, BScalar, same_scalar, BValue, One, Many, Entry, BChoice, Pick, Value, Entries}
use Rattle.boogie_tree.specs.Whole.{stmt_of, stmts_of}
use Rattle.boogie_tree.specs.declared.exprs.BBase.{BBase}
use Rattle.boogie_tree.specs.declared.exprs.BBase.TheVariants as base
use Rattle.boogie_tree.specs.declared.stmts.BStmt as stmt
use Rattle.boogie_meaning.specs.Ends.{End, Is, Over, Wrong, found}
use Rattle.boogie_meaning.specs.Operators.{as_truth}
use Rattle.boogie_meaning.specs.Quantified.{side, bvalue, bkey, outside, one_of}
use Rattle.boogie_meaning.specs.Run.{Run, Done, Stops, Blocked, Failed, with_end, unless_blocked, with_choice, then_run, picked, chosen, chosen_by, filled, fits_entries, brun_stmt, brun}
use Rattle.boogie_meaning.specs.Value.{the_map}
use Rattle.boogie_tree.specs.Values.{default_of, same_base, base_of_scalar}
use Rattle.boogie_run.specs.Ready.{IsReady, KeepsReady}
use Rattle.boogie_run.specs.Runs.{Runs, done, Takes, goes}
use Rattle.boogie_eval.specs.Within.{IsWithinScalar, IsWithinValue, IsWithinEntry, IsWithinChoice, IsWithinExpr, IsWithinStmt, AreWithinStmts, Gives}
use Rattle.boogie_eval.specs.declared.eval_values.ForallScope.TheVariants as scope
use Rattle.boogie_eval.proofs.WithinLaws.{then_gives, found_gives, the_map_gives, value_gives, scope_within}

abbrev Any : {X : Type 0} → X → Type 0
Any x = Unit {0}

any_gives : {X : Type 0} (e : End X) → Gives (λ (x : X). Unit {0}) e
any_gives (Is x) = tt
any_gives Over = tt
any_gives Wrong = tt

-- ---- what is evaluated

expr_gives : (e : t.BExpr) (env : List BValue) → IsWithinExpr e → All IsWithinValue env → Gives IsWithinScalar (bvalue Bounded e env)
expr_gives e env g h = value_gives (outside Bounded env) (scope_within env scope.Outside) env h e g

one_gives : (e : End BScalar) → Gives IsWithinScalar e → Gives IsWithinValue (one_of e)
one_gives e h = then_gives IsWithinScalar IsWithinValue e (λ v. Is (One v)) h (λ v k. k)

side_gives : (e : t.BExpr) (env : List BValue) → IsWithinExpr e → All IsWithinValue env → Gives IsWithinValue (side Bounded e env)
side_gives (t.Var i) env g h = found_gives env i h
side_gives (t.Int n) env g h = one_gives (bvalue Bounded (t.Int n) env) (expr_gives (t.Int n) env g h)
side_gives (t.Real n) env g h = one_gives (bvalue Bounded (t.Real n) env) (expr_gives (t.Real n) env g h)
side_gives (t.Bool p) env g h = one_gives (bvalue Bounded (t.Bool p) env) (expr_gives (t.Bool p) env g h)
side_gives t.Null env g h = one_gives (bvalue Bounded t.Null env) (expr_gives t.Null env g h)
side_gives t.Unit env g h = one_gives (bvalue Bounded t.Unit env) (expr_gives t.Unit env g h)
side_gives (t.Neg a) env g h = one_gives (bvalue Bounded (t.Neg a) env) (expr_gives (t.Neg a) env g h)
side_gives (t.Not a) env g h = one_gives (bvalue Bounded (t.Not a) env) (expr_gives (t.Not a) env g h)
side_gives (t.Bin o a b) env g h = one_gives (bvalue Bounded (t.Bin o a b) env) (expr_gives (t.Bin o a b) env g h)
side_gives (t.If c a b) env g h = one_gives (bvalue Bounded (t.If c a b) env) (expr_gives (t.If c a b) env g h)
side_gives (t.Forall us a) env g h = one_gives (bvalue Bounded (t.Forall us a) env) (expr_gives (t.Forall us a) env g h)
side_gives (t.ToReal a) env g h = one_gives (bvalue Bounded (t.ToReal a) env) (expr_gives (t.ToReal a) env g h)
side_gives (t.SInt a) env g h = one_gives (bvalue Bounded (t.SInt a) env) (expr_gives (t.SInt a) env g h)
side_gives (t.SBool a) env g h = one_gives (bvalue Bounded (t.SBool a) env) (expr_gives (t.SBool a) env g h)
side_gives (t.SRef a) env g h = one_gives (bvalue Bounded (t.SRef a) env) (expr_gives (t.SRef a) env g h)
side_gives (t.SPerm a) env g h = one_gives (bvalue Bounded (t.SPerm a) env) (expr_gives (t.SPerm a) env g h)
side_gives (t.Pair a b) env g h = one_gives (bvalue Bounded (t.Pair a b) env) (expr_gives (t.Pair a b) env g h)
side_gives (t.At m es) env g h = one_gives (bvalue Bounded (t.At m es) env) (expr_gives (t.At m es) env g h)
side_gives (t.AtBound m) env g h = one_gives (bvalue Bounded (t.AtBound m) env) (expr_gives (t.AtBound m) env g h)

-- ---- maps and choices

pub set_within : (m : Map Key BScalar) (k : Key) (v : BScalar) → IsWithinValue (Many m) → IsWithinScalar v → IsWithinValue (Many (set key_cmp same_scalar m k v))
set_within m k v h g = (h.0, All-values-set key_cmp same_scalar m k v IsWithinScalar h.1 g)

pub default_within : (u : BBase) → IsWithinScalar (default_of u)
default_within base.Int = omega arith
default_within base.Bool = tt
default_within base.Ref = tt
default_within base.Real = tt
default_within base.Snap = tt

filled_within : (m : Map Key BScalar) (es : List Entry) → IsWithinValue (Many m) → All IsWithinEntry es → IsWithinValue (Many (filled m es))
filled_within m [] h g = h
filled_within m (e ∷ es) h g =
    filled_within (set key_cmp same_scalar m e.key e.value) es (set_within m e.key e.value h (All-head IsWithinEntry e es g)) (All-tail IsWithinEntry e es g)

if_some : (p : Truth) (v w : BValue) → IsWithinValue v → (if p then Some v else None) ≡ Some w → IsWithinValue w
if_some true v w h e = let one : v ≡ w = cc in subst IsWithinValue one h
if_some false v w h e = absurd (cc)

chosen_within : (us : List BBase) (u : BBase) (c : BChoice) (w : BValue) → IsWithinChoice c → chosen_by us u c ≡ Some w → IsWithinValue w
chosen_within [] u (Value v) w h e = if_some (same_base (base_of_scalar v) u) (One v) w h e
chosen_within [] u (Pick p) w h e = absurd (cc)
chosen_within [] u (Entries es) w h e = absurd (cc)
chosen_within (k ∷ ks) u (Entries es) w h e =
    if_some (fits_entries (k ∷ ks) u es) (Many (filled (empty (default_of u)) es)) w (filled_within (empty (default_of u)) es (default_within u, All-nil IsWithinScalar) h) e
chosen_within (k ∷ ks) u (Pick p) w h e = absurd (cc)
chosen_within (k ∷ ks) u (Value v) w h e = absurd (cc)

-- ---- ways to go on

end_keeps : {X : Type 0} (P : X → Type 0) (e : End X) (cs : List BChoice) (go : X → Run) → Gives P e → All IsWithinChoice cs → ((x : X) → P x → KeepsReady (go x)) → KeepsReady (with_end e cs go)
end_keeps P (Is x) cs go h r g = g x h
end_keeps P Over cs go h r g = r
end_keeps P Wrong cs go h r g = r

unless_keeps : {X : Type 0} (P : X → Type 0) (o : Option X) (rest : List BChoice) (go : X → List BChoice → Run) → All IsWithinChoice rest → ((x : X) → o ≡ Some x → P x) →
    ((x : X) → P x → KeepsReady (go x rest)) → KeepsReady (unless_blocked o rest go)
unless_keeps P (Some x) rest go r p g = g x (p x refl)
unless_keeps P None rest go r p g = r

pub choice_keeps : {X : Type 0} (P : X → Type 0) (cs : List BChoice) (kind : BChoice → Option X) (go : X → List BChoice → Run) → All IsWithinChoice cs →
    ((c : BChoice) (x : X) → IsWithinChoice c → kind c ≡ Some x → P x) → ((x : X) (rest : List BChoice) → P x → All IsWithinChoice rest → KeepsReady (go x rest)) →
    KeepsReady (with_choice cs kind go)
choice_keeps P [] kind go r p g = r
choice_keeps P (c ∷ rest) kind go r p g =
    let left = All-tail IsWithinChoice c rest r in
    unless_keeps P (kind c) rest go left (λ x e. p c x (All-head IsWithinChoice c rest r) e) (λ x q. g x rest q left)

then_keeps : (r : Run) (go : List BValue → List BChoice → Run) → KeepsReady r → ((env : List BValue) (cs : List BChoice) → IsReady env cs → KeepsReady (go env cs)) → KeepsReady (then_run r go)
then_keeps (Done env cs) go h g = g env cs h
then_keeps (Stops w cs) go h g = h

if_keeps : (p : Truth) (r q : Run) → KeepsReady r → KeepsReady q → KeepsReady (if p then r else q)
if_keeps true r q h g = h
if_keeps false r q h g = g

ready : (env : List BValue) (cs : List BChoice) → All IsWithinValue env → All IsWithinChoice cs → IsReady env cs
ready env cs h r = record { values = h; choices = r }

-- ---- runs

module _ (ls : List BType) where
  mutual
    pub stmt_keeps : (x : s.BStmt) (env : List BValue) (cs : List BChoice) → IsWithinStmt x → IsReady env cs → KeepsReady (brun_stmt ls Bounded x env cs)
    stmt_keeps (s.Assign i e) env cs w r =
        end_keeps IsWithinValue (side Bounded e env) cs (λ v. Done (slice_set env i v) cs) (side_gives e env w r.values) r.choices
        (λ v h. ready (slice_set env i v) cs (All-set IsWithinValue env i v h r.values) r.choices)
    stmt_keeps (s.Put i es e) env cs w r =
        end_keeps Any (bkey Bounded es env) cs _ (any_gives _) r.choices (λ k u. end_keeps IsWithinScalar (bvalue Bounded e env) cs _ (expr_gives e env w.1 r.values) r.choices (λ v h.
        end_keeps (λ m. IsWithinValue (Many m)) (the_map env i) cs _ (the_map_gives env i r.values) r.choices
        (λ m g. ready (slice_set env i (Many (set key_cmp same_scalar m k v))) cs (All-set IsWithinValue env i _ (set_within m k v g h) r.values) r.choices)))
    stmt_keeps (s.Havoc i) env cs w r =
        end_keeps Any (found (slice_get ls i)) cs _ (any_gives _) r.choices (λ u a. choice_keeps IsWithinValue cs (chosen u) _ r.choices (λ c x h e. chosen_within u.keys u.base c x h e)
        (λ v rest h q. ready (slice_set env i v) rest (All-set IsWithinValue env i v h r.values) q))
    stmt_keeps (s.Assume e) env cs w r = end_keeps Any (as_truth (bvalue Bounded e env)) cs _ (any_gives _) r.choices (λ p a. if_keeps p (Done env cs) (Stops Blocked cs) r r.choices)
    stmt_keeps (s.Assert l e) env cs w r = end_keeps Any (as_truth (bvalue Bounded e env)) cs _ (any_gives _) r.choices (λ p a. if_keeps p (Done env cs) (Stops (Failed l) cs) r r.choices)
    stmt_keeps (s.If e xs ys) env cs w r =
        end_keeps Any (as_truth (bvalue Bounded e env)) cs _ (any_gives _) r.choices
        (λ p a. if_keeps p (brun ls Bounded xs env cs) (brun ls Bounded ys env cs) (stmts_keep xs env cs w.1 r) (stmts_keep ys env cs w.2 r))
    stmt_keeps (s.Either xs ys) env cs w r =
        choice_keeps Any cs picked _ r.choices (λ c x h e. tt) (λ p rest a q.
        if_keeps p (brun ls Bounded xs env rest) (brun ls Bounded ys env rest) (stmts_keep xs env rest w.0 (ready env rest r.values q)) (stmts_keep ys env rest w.1 (ready env rest r.values q)))

    pub stmts_keep : (xs : s.BStmts) (env : List BValue) (cs : List BChoice) → AreWithinStmts xs → IsReady env cs → KeepsReady (brun ls Bounded xs env cs)
    stmts_keep s.skip env cs w r = r
    stmts_keep (s.first x xs) env cs w r = then_keeps (brun_stmt ls Bounded x env cs) (λ env cs. brun ls Bounded xs env cs) (stmt_keeps x env cs w.0 r) (λ new rest q. stmts_keep xs new rest w.1 q)

-- ---- what the code has

pub stays_ready : {r : Run} {env : List BValue} {left : List BChoice} {x : Unit {0}} → KeepsReady r → Runs r env left (Ok x) → IsReady env left
stays_ready k (done h) = subst KeepsReady h k

pub statement_within : (xs : List stmt.BStmt) (i : ℕ) (d : stmt.BStmt) → i < length xs → AreWithinStmts (stmts_of xs) → IsWithinStmt (stmt_of (get_or xs i d))
statement_within [] i d lt h = absurd (omega arith)
statement_within (x ∷ xs) zero d lt h = h.0
statement_within (x ∷ xs) (suc i) d lt h = statement_within xs i d (omega arith) h.1

pub take_ready : {cs rest : List BChoice} {p : Truth} {env : List BValue} → Takes (λ (p : Truth). p) cs rest (λ go. with_choice cs picked go) (Ok p) → IsReady env cs → IsReady env rest
take_ready {cs = cs} {rest = rest} {env = env} (goes h) r =
    subst KeepsReady (h (λ p left. Done env left)) (choice_keeps Any cs picked (λ p left. Done env left) r.choices (λ c x k e. tt) (λ p left a q. ready env left r.values q))
