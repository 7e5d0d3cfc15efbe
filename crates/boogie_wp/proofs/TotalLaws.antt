-- What goes on along all paths is the run, where it comes here, and nothing else.
use Rattle.std.proofs.Common.{◌≡◌, ◌+◌, ℕ, suc, Bool as Truth, true, false, ◌&&◌, ◌||◌, Some, None, List, [], ◌∷◌, ◌++◌, slice_get, length, length-append, if◌then◌else◌, refl, sym, ap, subst, ◌∙◌, arith, append_assoc, append-nil}
use Rattle.boogie_meaning.proofs.TypedLaws.{as_truth_value}
use Rattle.lemmas.proofs.Lists.{there_left, there_right}
use Rattle.lemmas.proofs.Tests.{or_false}
use Rattle.sparse.specs.Map.{set}
use Rattle.vb_value.specs.Key.{key_cmp}
use Rattle.vb_base.specs.declared.labels.Label.{Label}
use Rattle.vb_value.specs.Bound.{Unbounded}
use Rattle.boogie_tree.specs.Expr as t
use Rattle.boogie_tree.specs.Stmt as s
use Rattle.boogie_tree.specs.Program.{BType}
use Rattle.boogie_tree.specs.Value.{BValue, One, Many, Bool, BChoice, same_scalar}
use Rattle.boogie_tree.specs.Values.{IsEnvironment, IsOfType, one, many, plain_type, map_type, FitsScalar}
use Rattle.boogie_tree.specs.declared.exprs.BBase.{BBase}
use Rattle.boogie_tree.specs.declared.exprs.BBase.TheVariants as base
use Rattle.boogie_meaning.specs.Ends.{End, Is, found}
use Rattle.boogie_meaning.specs.Quantified.{side}
use Rattle.boogie_meaning.specs.Run.{Run, Done, Stops, Stop, Failed, then_run, assumed, asserted, brun_stmt, brun}
use Rattle.boogie_meaning.specs.Types.{HasType, HaveTypes, IsTyped, skip, first, IsTypedStmt, assign, put as put_, havoc, assume_, assert_, if_, either}
use Rattle.boogie_meaning.proofs.ValueLaws.{stored_typed, set_typed, choice_gives}
use Rattle.boogie_formula.specs.Choices.{own_types, own_types_stmt, type_there, slots, slots_stmt, met, met_stmt, truth_at, where_done}
use Rattle.boogie_wp.specs.Labels.{same_label}
use Rattle.boogie_wp.proofs.LabelLaws.{same_label_is, same_label_itself}
use Rattle.boogie_wp.proofs.LiftLaws.{value_there, key_there, truth_there, side_is, map_there}
use Rattle.boogie_wp.proofs.Total.{Point, or_else, truth, stored, put, held, checked, joined, forked, total_stmt, total}

-- ---- where the run does not come, nothing fails

pub record Asleep (q : Truth) (p : Point) : Type 0 where
  pub path : p.path ≡ false
  pub bad : p.bad ≡ q

asleep_either : (t : Truth) (x y : Point) (q : Truth) → x.path ≡ false → Asleep q y → Asleep q (joined t x y)
asleep_either t x y q h a = record { path = rw (h) a.path; bad = a.bad }

asleep_if : (c : Truth) (x y : Point) (q : Truth) → Asleep q x → Asleep q y → Asleep q (if c then x else y)
asleep_if true x y q h g = h
asleep_if false x y q h g = g

module _ (label : Label) (vs : List BValue) where
  asleep_fork : (t : Truth) (go to : Point → Point) → ((env : List BValue) (q : Truth) → Asleep q (go (record { env = env; path = false; bad = q }))) →
      ((env : List BValue) (q : Truth) → Asleep q (to (record { env = env; path = false; bad = q }))) → (env : List BValue) (q : Truth) →
      Asleep q (forked t go to (record { env = env; path = false; bad = q }))
  asleep_fork t go to h g env q =
      let a = h env q in
      let x = go (record { env = env; path = false; bad = q }) in
      let b = g env x.bad in
      asleep_either t x (to (record { env = env; path = false; bad = x.bad })) q a.path (record { path = b.path; bad = b.bad ∙ a.bad })

  mutual
    asleep_stmt : (x : s.BStmt) (k : ℕ) (env : List BValue) (q : Truth) → Asleep q (total_stmt label vs x k (record { env = env; path = false; bad = q }))
    asleep_stmt (s.Assign i e) k env q = record { path = refl; bad = refl }
    asleep_stmt (s.Put i es e) k env q = record { path = refl; bad = refl }
    asleep_stmt (s.Havoc i) k env q = record { path = refl; bad = refl }
    asleep_stmt (s.Assume e) k env q = record { path = refl; bad = refl }
    asleep_stmt (s.Assert l e) k env q =
        let p : Point = record { env = env; path = false; bad = q } in
        asleep_if (same_label l label) (checked (truth e env) p) (held (truth e env) p) q (record { path = refl; bad = or_false q }) (record { path = refl; bad = refl })
    asleep_stmt (s.If e xs ys) k env q =
        asleep_fork (truth e env) (λ p. total label vs xs k p) (λ p. total label vs ys (k + slots xs) p) (asleep xs k) (asleep ys (k + slots xs)) env q
    asleep_stmt (s.Either xs ys) k env q =
        asleep_fork (or_else false (truth_at vs k)) (λ p. total label vs xs (k + 1) p) (λ p. total label vs ys (k + 1 + slots xs) p)
        (asleep xs (k + 1)) (asleep ys (k + 1 + slots xs)) env q

    pub asleep : (xs : s.BStmts) (k : ℕ) (env : List BValue) (q : Truth) → Asleep q (total label vs xs k (record { env = env; path = false; bad = q }))
    asleep s.skip k env q = record { path = refl; bad = refl }
    asleep (s.first x xs) k env q =
        let a = asleep_stmt x k env q in
        let p = total_stmt label vs x k (record { env = env; path = false; bad = q }) in
        let b = asleep xs (k + slots_stmt x) p.env p.bad in
        let same : p ≡ record { env = p.env; path = false; bad = p.bad } = (λ i. record { env = p.env; path = a.path i; bad = p.bad }) in
        subst (λ r. Asleep q (total label vs xs (k + slots_stmt x) r)) (sym same) (record { path = b.path; bad = b.bad ∙ a.bad })

-- ---- the values of a block's own variables

-- they stand from the k-th on, and are of these types
pub record Owns (vars : List BType) (vs : List BValue) (k : ℕ) (ts : List BType) : Type 0 where
  pub there : (j : ℕ) (u : BType) → slice_get ts j ≡ Some u → (v : BValue) × (slice_get vs (k + j) ≡ Some v) × IsOfType v u × (slice_get vars (k + j) ≡ Some u)

moved : (vars : List BType) (vs : List BValue) (i j : ℕ) (u : BType) → j ≡ i → (v : BValue) × (slice_get vs i ≡ Some v) × IsOfType v u × (slice_get vars i ≡ Some u) →
    (v : BValue) × (slice_get vs j ≡ Some v) × IsOfType v u × (slice_get vars j ≡ Some u)
moved vars vs i j u e w = (w.0, ap (slice_get vs) e ∙ w.1, w.2, ap (slice_get vars) e ∙ w.3)

module _ {vars : List BType} {vs : List BValue} {k : ℕ} where
  pub owns_left : (ts us : List BType) → Owns vars vs k (ts ++ us) → Owns vars vs k ts
  owns_left ts us o = record { there = λ j u h. o.there j u (there_left ts us j u h) }

  pub owns_right : (ts us : List BType) (m : ℕ) → length ts ≡ m → Owns vars vs k (ts ++ us) → Owns vars vs (k + m) us
  owns_right ts us m e o = record { there = λ j u h. moved vars vs (k + (length ts + j)) (k + m + j) u (omega (arith, e)) (o.there (length ts + j) u (there_right ts us j ∙ h)) }

  pub owns_first : (u : BType) (us : List BType) → Owns vars vs k (u ∷ us) → (v : BValue) × (slice_get vs k ≡ Some v) × IsOfType v u × (slice_get vars k ≡ Some u)
  owns_first u us o = moved vars vs (k + 0) k u (omega (arith)) (o.there 0 u refl)

  pub owns_rest : (u : BType) (us : List BType) → Owns vars vs k (u ∷ us) → Owns vars vs (k + 1) us
  owns_rest u us o = record { there = λ j w h. moved vars vs (k + suc j) (k + 1 + j) w (omega (arith)) (o.there (suc j) w h) }

  pub owns_there : (ls : List BType) (i : ℕ) (u : BType) → slice_get ls i ≡ Some u → Owns vars vs k (type_there (slice_get ls i)) →
      (v : BValue) × (slice_get vs k ≡ Some v) × IsOfType v u × (slice_get vars k ≡ Some u)
  owns_there ls i u l o = owns_first u [] (subst (λ x. Owns vars vs k (type_there x)) l o)

mutual
  pub slots_own_stmt : {ls : List BType} {x : s.BStmt} → IsTypedStmt ls x → length (own_types_stmt ls x) ≡ slots_stmt x
  slots_own_stmt (assign l e) = refl
  slots_own_stmt (put_ l es e) = refl
  slots_own_stmt (havoc l) = ap (λ o. length (type_there o)) l
  slots_own_stmt (assume_ e) = refl
  slots_own_stmt (assert_ e) = refl
  slots_own_stmt {ls} (if_ {xs = xs} {ys = ys} e h g) = length-append (own_types ls xs) (own_types ls ys) ∙ (let p = slots_own h in let q = slots_own g in λ i. p i + q i)
  slots_own_stmt {ls} (either {xs = xs} {ys = ys} h g) =
      let n = length-append (own_types ls xs) (own_types ls ys) in let p = slots_own h in let q = slots_own g in omega (arith, n, p, q)

  pub slots_own : {ls : List BType} {xs : s.BStmts} → IsTyped ls xs → length (own_types ls xs) ≡ slots xs
  slots_own skip = refl
  slots_own {ls} (first {x = x} {xs = xs} h g) = length-append (own_types_stmt ls x) (own_types ls xs) ∙ (let p = slots_own_stmt h in let q = slots_own g in λ i. p i + q i)

-- ---- each local keeps its type

pub map_put : (ls : List BType) (env : List BValue) (h : IsEnvironment ls env) (i : ℕ) (es : t.BExprs) (e : t.BExpr) (u : BBase) (us : List BBase) (w : BBase) →
    slice_get ls i ≡ Some (map_type u us w) → HaveTypes ls None es (u ∷ us) → HasType ls None e w → (v : BValue) × (put i es e env ≡ Is v) × IsOfType v (map_type u us w)
map_put ls env h i es e u us w l ks t =
    let k = key_there ls env h es (u ∷ us) ks in
    let v = value_there ls env h e w t in
    let m = map_there ls env h i u us w l in
    (Many (set key_cmp same_scalar m.0 k.0 v.0), rw (k.1, v.1, m.1) refl, many (set_typed m.2 k.0 v.0 k.2 v.2))

stored_is : (ls : List BType) (env : List BValue) (i : ℕ) (u : BType) (e : End BValue) (v : BValue) → IsEnvironment ls env → slice_get ls i ≡ Some u → e ≡ Is v → IsOfType v u →
    IsEnvironment ls (stored i env e)
stored_is ls env i u e v h l is f = rw (is) (stored_typed ls env i u v h l f)

if_typed : (ls : List BType) (t : Truth) (x y : List BValue) → IsEnvironment ls x → IsEnvironment ls y → IsEnvironment ls (if t then x else y)
if_typed ls true x y h g = h
if_typed ls false x y h g = g

if_point : (ls : List BType) (t : Truth) (x y : Point) → IsEnvironment ls x.env → IsEnvironment ls y.env → IsEnvironment ls (if t then x else y).env
if_point ls true x y h g = h
if_point ls false x y h g = g

module _ (ls vars : List BType) (label : Label) (vs : List BValue) where
  mutual
    pub total_stmt_typed : {x : s.BStmt} → IsTypedStmt ls x → (k : ℕ) → Owns vars vs k (own_types_stmt ls x) → (p : Point) → IsEnvironment ls p.env → IsEnvironment ls (total_stmt label vs x k p).env
    total_stmt_typed (assign {i = i} {e = e} {u = u} l t) k o p h =
        let v = side_is ls p.env h e u t in stored_is ls p.env i u (side Unbounded e p.env) v.0 h l v.1 v.2
    total_stmt_typed (put_ {i = i} {es = es} {e = e} {u = u} {us = us} {w = w} l ks t) k o p h =
        let v = map_put ls p.env h i es e u us w l ks t in stored_is ls p.env i (map_type u us w) (put i es e p.env) v.0 h l v.1 v.2
    total_stmt_typed (havoc {i = i} {u = u} l) k o p h =
        let v = owns_there ls i u l o in stored_is ls p.env i u (found (slice_get vs k)) v.0 h l (ap found v.1) v.2
    total_stmt_typed (assume_ t) k o p h = h
    total_stmt_typed (assert_ {l = l} {e = e} t) k o p h = if_point ls (same_label l label) (checked (truth e p.env) p) (held (truth e p.env) p) h h
    total_stmt_typed (if_ {e = e} {xs = xs} {ys = ys} t a c) k o p h =
        if_typed ls (truth e p.env) _ _ (total_typed a k (owns_left (own_types ls xs) (own_types ls ys) o) _ h)
        (total_typed c (k + slots xs) (owns_right (own_types ls xs) (own_types ls ys) (slots xs) (slots_own a) o) _ h)
    total_stmt_typed (either {xs = xs} {ys = ys} a c) k o p h =
        let r = owns_rest (plain_type base.Bool) (own_types ls xs ++ own_types ls ys) o in
        if_typed ls (or_else false (truth_at vs k)) _ _ (total_typed a (k + 1) (owns_left (own_types ls xs) (own_types ls ys) r) _ h)
        (total_typed c (k + 1 + slots xs) (owns_right (own_types ls xs) (own_types ls ys) (slots xs) (slots_own a) r) _ h)

    pub total_typed : {xs : s.BStmts} → IsTyped ls xs → (k : ℕ) → Owns vars vs k (own_types ls xs) → (p : Point) → IsEnvironment ls p.env → IsEnvironment ls (total label vs xs k p).env
    total_typed skip k o p h = h
    total_typed (first {x = x} {xs = xs} a c) k o p h =
        total_typed c (k + slots_stmt x) (owns_right (own_types_stmt ls x) (own_types ls xs) (slots_stmt x) (slots_own_stmt a) o) _
        (total_stmt_typed a k (owns_left (own_types_stmt ls x) (own_types ls xs) o) p h)

-- ---- the run

-- it is done with these values and leaves these choices, or it fails at the label, or it stops for another reason
pub data Matches (label : Label) (rest : List BChoice) : Run → List BValue → Truth → Truth → Type 0 where
  done : {env : List BValue} → Matches label rest (Done env rest) env true false
  failed : {l : Label} {cs : List BChoice} {env : List BValue} → l ≡ label → Matches label rest (Stops (Failed l) cs) env false true
  other : {why : Stop} {cs : List BChoice} {env : List BValue} → (why ≡ Failed label → ⊥) → Matches label rest (Stops why cs) env false false

abbrev pub Ends : Label → List BChoice → Run → Point → Type 0
Ends label rest r p = Matches label rest r p.env p.path p.bad

module _ {label : Label} {rest : List BChoice} where
  matches_as : {r : Run} {env : List BValue} {p q p' q' : Truth} → Matches label rest r env p q → p ≡ p' → q ≡ q' → Matches label rest r env p' q'
  matches_as {r} {env} {q = q} {p' = p'} m e f = subst (λ x. Matches label rest r env p' x) f (subst (λ x. Matches label rest r env x q) e m)

  assumed_matches : (env : List BValue) (t : Truth) → Matches label rest (assumed env rest t) env (true && t) false
  assumed_matches env true = done
  assumed_matches env false = other (λ e. absurd (cc))

abbrev pub from : List BValue → Point
from env = record { env = env; path = true; bad = false }

failed_is : {l m : Label} → Failed l ≡ Failed m → l ≡ m
failed_is {l} {m} h = cc

asserted_matches : (label : Label) (rest : List BChoice) (l : Label) (b : Truth) → same_label l label ≡ b → (env : List BValue) (t : Truth) →
    Ends label rest (asserted l env rest t) (if b then checked t (from env) else held t (from env))
asserted_matches label rest l true e env true = done
asserted_matches label rest l true e env false = failed (same_label_is l label e)
asserted_matches label rest l false e env true = done
asserted_matches label rest l false e env false = other (λ h. let s : same_label l label ≡ true = ap (λ x. same_label x label) (failed_is h) ∙ same_label_itself label in absurd (cc))

or_false_right : (p q : Truth) → q ≡ false → p ≡ (p || q)
or_false_right true q h = refl
or_false_right false q h = sym h

fork_ends : (label : Label) (rest : List BChoice) (t : Truth) (go to : Point → Point) (m n : List BChoice) (f g : List BChoice → Run) (env : List BValue) →
    Ends label rest (f (m ++ rest)) (go (from env)) → Ends label rest (g (n ++ rest)) (to (from env)) →
    ((e : List BValue) (q : Truth) → Asleep q (go (record { env = e; path = false; bad = q }))) →
    ((e : List BValue) (q : Truth) → Asleep q (to (record { env = e; path = false; bad = q }))) →
    Ends label rest (if t then f ((if t then m else n) ++ rest) else g ((if t then m else n) ++ rest)) (forked t go to (from env))
fork_ends label rest true go to m n f g env h k a b =
    let x = go (from env) in
    let y = b env x.bad in
    matches_as h (or_false_right x.path _ y.path) (sym y.bad)
fork_ends label rest false go to m n f g env h k a b =
    let x = a env false in
    let z = go (record { env = env; path = false; bad = false }) in
    let At : Truth → Truth → Type 0 = λ p q. let y = to (record { env = env; path = true; bad = q }) in Matches label rest (g (n ++ rest)) y.env (p || y.path) y.bad in
    let first : At false z.bad = subst (At false) (sym x.bad) k in
    subst (λ p. At p z.bad) (sym x.path) first

done_then : (label : Label) (cs rest : List BChoice) (r : Run) (env : List BValue) (go : List BValue → List BChoice → Run) (y : Point) → Matches label cs r env true false →
    Ends label rest (go env cs) y → Ends label rest (then_run r go) y
done_then label cs rest _ _ go y done h = h

failed_then : (label : Label) (cs rest : List BChoice) (r : Run) (env : List BValue) (go : List BValue → List BChoice → Run) (y : Point) → Matches label cs r env false true →
    Asleep true y → Ends label rest (then_run r go) y
failed_then label cs rest _ _ go y (failed e) a = matches_as (failed e) (sym a.path) (sym a.bad)

other_then : (label : Label) (cs rest : List BChoice) (r : Run) (env : List BValue) (go : List BValue → List BChoice → Run) (y : Point) → Matches label cs r env false false →
    Asleep false y → Ends label rest (then_run r go) y
other_then label cs rest _ _ go y (other n) a = matches_as (other n) (sym a.path) (sym a.bad)

then_ends : (label : Label) (rest : List BChoice) (run : List BChoice → Run) (m : List BChoice) (more : List BValue → List BChoice) (go : List BValue → List BChoice → Run)
    (r : Run) (env : List BValue) (p q : Truth) (y : Point) → Matches label [] r env p q → ((cs : List BChoice) → Matches label cs (run (m ++ cs)) env p q) →
    (p ≡ true → q ≡ false → Ends label rest (go env (more env ++ rest)) y) → (p ≡ false → Asleep q y) →
    Ends label rest (then_run (run ((m ++ where_done r more) ++ rest)) go) y
then_ends label rest run m more go _ _ _ _ y (done {env = env}) f g h =
    subst (λ cs. Ends label rest (then_run (run cs) go) y) (sym (append_assoc m (more env) rest))
    (done_then label (more env ++ rest) rest (run (m ++ (more env ++ rest))) env go y (f (more env ++ rest)) (g refl refl))
then_ends label rest run m more go _ _ _ _ y (failed {env = env} e) f g h =
    subst (λ cs. Ends label rest (then_run (run (cs ++ rest)) go) y) (sym (append-nil m)) (failed_then label rest rest (run (m ++ rest)) env go y (f rest) (h refl))
then_ends label rest run m more go _ _ _ _ y (other {env = env} n) f g h =
    subst (λ cs. Ends label rest (then_run (run (cs ++ rest)) go) y) (sym (append-nil m)) (other_then label rest rest (run (m ++ rest)) env go y (f rest) (h refl))

pub bool_there : (v : BValue) (u : BType) → IsOfType v u → u ≡ plain_type base.Bool → (p : Truth) × (v ≡ One (Bool p))
bool_there _ _ (one {v = v} f) e = let a = as_truth_value v (subst (λ x. FitsScalar x v) (ap (λ x. x.base) e) f) in (a.0, ap One a.1)
bool_there _ _ (many {u = u} {us = us} m) e = let n : u ∷ us ≡ [] = ap (λ x. x.keys) e in absurd (cc)

module _ (ls vars : List BType) (label : Label) (vs : List BValue) where
  mutual
    pub awake_stmt : {x : s.BStmt} → IsTypedStmt ls x → (k : ℕ) → Owns vars vs k (own_types_stmt ls x) → (env : List BValue) → IsEnvironment ls env → (rest : List BChoice) →
        Ends label rest (brun_stmt ls Unbounded x env (met_stmt ls vs x k env ++ rest)) (total_stmt label vs x k (from env))
    awake_stmt (assign {i = i} {e = e} {u = u} l t) k o env h rest = let v = side_is ls env h e u t in rw (v.1) done
    awake_stmt (put_ {i = i} {es = es} {e = e} {u = u} {us = us} {w = w} l ks t) k o env h rest =
        let a = key_there ls env h es (u ∷ us) ks in
        let v = value_there ls env h e w t in
        let m = map_there ls env h i u us w l in
        rw (a.1, v.1, m.1) done
    awake_stmt (havoc {i = i} {u = u} l) k o env h rest =
        let v = owns_there ls i u l o in
        rw (l, v.1) (rw (choice_gives v.0 u v.2) done)
    awake_stmt (assume_ {e = e} t) k o env h rest = let v = truth_there ls env h e t in rw (v.1) (assumed_matches env v.0)
    awake_stmt (assert_ {l = l} {e = e} t) k o env h rest =
        let v = truth_there ls env h e t in
        rw (v.1) (asserted_matches label rest l (same_label l label) refl env v.0)
    awake_stmt (if_ {e = e} {xs = xs} {ys = ys} t a c) k o env h rest =
        let v = truth_there ls env h e t in
        rw (v.1) (fork_ends label rest v.0 (λ p. total label vs xs k p) (λ p. total label vs ys (k + slots xs) p) (met ls vs xs k env) (met ls vs ys (k + slots xs) env)
        (λ cs. brun ls Unbounded xs env cs) (λ cs. brun ls Unbounded ys env cs) env (awake a k (owns_left (own_types ls xs) (own_types ls ys) o) env h rest)
        (awake c (k + slots xs) (owns_right (own_types ls xs) (own_types ls ys) (slots xs) (slots_own a) o) env h rest) (asleep label vs xs k) (asleep label vs ys (k + slots xs)))
    awake_stmt (either {xs = xs} {ys = ys} a c) k o env h rest =
        let w = owns_first (plain_type base.Bool) (own_types ls xs ++ own_types ls ys) o in
        let v = bool_there w.0 (plain_type base.Bool) w.2 refl in
        let r = owns_rest (plain_type base.Bool) (own_types ls xs ++ own_types ls ys) o in
        let is : slice_get vs k ≡ Some (One (Bool v.0)) = w.1 ∙ ap Some v.1 in
        rw (is) (fork_ends label rest v.0 (λ p. total label vs xs (k + 1) p) (λ p. total label vs ys (k + 1 + slots xs) p) (met ls vs xs (k + 1) env) (met ls vs ys (k + 1 + slots xs) env)
        (λ cs. brun ls Unbounded xs env cs) (λ cs. brun ls Unbounded ys env cs) env (awake a (k + 1) (owns_left (own_types ls xs) (own_types ls ys) r) env h rest)
        (awake c (k + 1 + slots xs) (owns_right (own_types ls xs) (own_types ls ys) (slots xs) (slots_own a) r) env h rest)
        (asleep label vs xs (k + 1)) (asleep label vs ys (k + 1 + slots xs)))

    pub awake : {xs : s.BStmts} → IsTyped ls xs → (k : ℕ) → Owns vars vs k (own_types ls xs) → (env : List BValue) → IsEnvironment ls env → (rest : List BChoice) →
        Ends label rest (brun ls Unbounded xs env (met ls vs xs k env ++ rest)) (total label vs xs k (from env))
    awake skip k o env h rest = done
    awake (first {x = x} {xs = xs} a c) k o env h rest =
        let own = owns_left (own_types_stmt ls x) (own_types ls xs) o in
        let p = total_stmt label vs x k (from env) in
        let j = k + slots_stmt x in
        let typed = total_stmt_typed ls vars label vs a k own (from env) h in
        let here : met_stmt ls vs x k env ++ [] ≡ met_stmt ls vs x k env = append-nil _ in
        let start : Ends label [] (brun_stmt ls Unbounded x env (met_stmt ls vs x k env)) p =
        subst (λ cs. Ends label [] (brun_stmt ls Unbounded x env cs) p) here (awake_stmt a k own env h []) in
        let next = awake c j (owns_right (own_types_stmt ls x) (own_types ls xs) (slots_stmt x) (slots_own_stmt a) o) p.env typed rest in
        let At : Truth → Truth → Type 0 = λ t b. Ends label rest (brun ls Unbounded xs p.env (met ls vs xs j p.env ++ rest)) (total label vs xs j (record { env = p.env; path = t; bad = b })) in
        then_ends label rest (λ cs. brun_stmt ls Unbounded x env cs) (met_stmt ls vs x k env) (λ e. met ls vs xs j e) (λ e cs. brun ls Unbounded xs e cs)
        (brun_stmt ls Unbounded x env (met_stmt ls vs x k env)) p.env p.path p.bad (total label vs xs j p) start (λ cs. awake_stmt a k own env h cs)
        (λ e f. subst (At p.path) (sym f) (subst (λ t. At t false) (sym e) next))
        (λ e. subst (λ t. Asleep p.bad (total label vs xs j (record { env = p.env; path = t; bad = p.bad }))) (sym e) (asleep label vs xs j p.env p.bad))
