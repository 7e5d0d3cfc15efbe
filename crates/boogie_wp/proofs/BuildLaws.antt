-- What is built stands for what goes on along all paths: each local's name has its value, the name of the path says whether the run
-- comes here, and of the assertions with a label one fails where the run has failed there.
use Rattle.std.proofs.Common.{◌≡◌, ◌+◌, ℕ, Bool as Truth, true, false, not, ◌&&◌, ◌||◌, Option, Some, None, List, [], ◌∷◌, ◌++◌, slice_get, slice_set, length, if◌then◌else◌, nat_eq, refl, sym, ap, subst, ◌∙◌, arith}
use Rattle.std.proofs.lemmas.Bool.{eqb-true}
use Rattle.lemmas.proofs.Tests.{or_false}
use Rattle.lemmas.proofs.Options.{some_same}
use Rattle.sparse.specs.Map.{Map, set}
use Rattle.vb_value.specs.Key.{key_cmp}
use Rattle.vb_base.specs.declared.labels.Label.{Label}
use Rattle.vb_value.specs.Bound.{Unbounded}
use Rattle.boogie_tree.specs.Expr as t
use Rattle.boogie_tree.specs.Stmt as s
use Rattle.boogie_tree.specs.Program.{BType}
use Rattle.boogie_tree.specs.Value.{Key, BScalar, BValue, One, Many, Bool, same_scalar}
use Rattle.boogie_tree.specs.Values.{IsEnvironment, IsOfType, one, many, plain_type, map_type}
use Rattle.boogie_tree.specs.declared.exprs.BBase.{BBase}
use Rattle.boogie_tree.specs.declared.exprs.BBase.TheVariants as base
use Rattle.boogie_tree.specs.declared.exprs.BOp.TheVariants as op
use Rattle.boogie_meaning.specs.Ends.{Is, then_with, found}
use Rattle.boogie_meaning.specs.Operators.{as_truth}
use Rattle.boogie_meaning.specs.Quantified.{bvalue, one_of, side}
use Rattle.boogie_meaning.specs.Value.{map_in}
use Rattle.boogie_meaning.proofs.ValueLaws.{set_typed}
use Rattle.boogie_meaning.specs.Types.{then_some, is_base, HasType, HaveTypes, SideHasType, IsTyped, skip, first, IsTypedStmt, assign, put as put_, havoc, assume_, assert_, if_, either}
use Rattle.boogie_meaning.proofs.TypeLaws.{put_given}
use Rattle.boogie_formula.specs.Formula as f
use Rattle.boogie_formula.specs.Formula.{FExpr}
use Rattle.boogie_formula.specs.Value.{fvalue, fkey, whole}
use Rattle.boogie_formula.specs.Types.{one_type, whole_type}
use Rattle.boogie_formula.specs.declared.formulas.Fail.{Fail}
use Rattle.boogie_formula.specs.Choices.{own_types, own_types_stmt, slots, slots_stmt}
use Rattle.boogie_wp.specs.Labels.{same_label}
use Rattle.boogie_wp.specs.Lifted.{lifted, lifted_all}
use Rattle.boogie_wp.specs.Build.{ConditionsBuilder, named, fresh, define, store, choose, go_where, failing, check, Merged, behind, merge, join, back, fork, built_stmt, built}
use Rattle.boogie_wp.proofs.LiftLaws.{truth_there, side_there, one_type_itself, lifted_value, lifted_key, lifted_type, lifted_types, lifted_whole, lifted_whole_type, key_there, value_there, map_there}
use Rattle.boogie_wp.proofs.Total.{Point, stored, put, held, checked, joined, forked, total_stmt, total}
use Rattle.boogie_wp.proofs.TotalLaws.{Owns, owns_left, owns_right, owns_first, owns_rest, owns_there, slots_own, slots_own_stmt, bool_there, map_put}
use Rattle.boogie_wp.proofs.NameLaws.{Kept, kept_more, At, at_kept, Holds, no_names, named_so, holds_typed, holds_value, holds_kind, holds_set, holds_kept, Names, names_more, at_new, Says, Truly, Truths, truths_kept, truths_more, fails_among, fails_more, says_var, says_and, says_or, says_not, says_value, says_kind}

abbrev pub bool_type : BType
bool_type = plain_type base.Bool

pub truly_fits : (p : Truth) → IsOfType (One (Bool p)) bool_type
truly_fits p = one (record { typed = refl; reduced = tt })

-- ---- the next variable

module _ (n : ℕ) where
  mutual
    pub next_stmt : (x : s.BStmt) (b : ConditionsBuilder) (k : ℕ) → b.next ≡ k → (built_stmt n x b).next ≡ k + slots_stmt x
    next_stmt (s.Assign i e) b k h = omega (arith, h)
    next_stmt (s.Put i es e) b k h = omega (arith, h)
    next_stmt (s.Havoc i) b k h = omega (arith, h)
    next_stmt (s.Assume e) b k h = omega (arith, h)
    next_stmt (s.Assert l e) b k h = omega (arith, h)
    next_stmt (s.If e xs ys) b k h =
        let x = next_block xs (go_where n (f.Var (fresh n b)) (define (lifted (named b) e) b)) k h in
        next_block ys (back n (fresh n b) (define (lifted (named b) e) b) (built n xs (go_where n (f.Var (fresh n b)) (define (lifted (named b) e) b)))) (k + slots xs) x ∙ (omega arith)
    next_stmt (s.Either xs ys) b k h =
        let c : ConditionsBuilder = record b { next = b.next + 1 } in
        let next : b.next + 1 ≡ k + 1 = ap (λ z. z + 1) h in
        let x = next_block xs (go_where n (f.Var b.next) c) (k + 1) next in
        next_block ys (back n b.next c (built n xs (go_where n (f.Var b.next) c))) (k + 1 + slots xs) x ∙ (omega arith)

    pub next_block : (xs : s.BStmts) (b : ConditionsBuilder) (k : ℕ) → b.next ≡ k → (built n xs b).next ≡ k + slots xs
    next_block s.skip b k h = omega (arith, h)
    next_block (s.first x xs) b k h =
        let y = next_stmt x b k h in
        next_block xs (built_stmt n x b) (k + slots_stmt x) y ∙ (omega arith)

-- where a condition is false, the assertion fails if it has the label
pub checked_is : (c t : Truth) (p : Point) → held t (record p { bad = p.bad || (c && (p.path && not t)) }) ≡ (if c then checked t p else held t p)
checked_is true t p = refl
checked_is false t p = ap (λ q. record { env = p.env; path = p.path && t; bad = q }) (or_false p.bad)

module _ (n : ℕ) (ls vars : List BType) (values : List BValue) (label : Label) where
  -- where these have values and these types
  pub record Stands (b : ConditionsBuilder) (p : Point) (all : List BValue) (kinds : List BType) : Type 0 where
    pub names : Names n vars values b.lets all kinds
    pub holds : Holds all kinds b.versions p.env ls
    pub path : Truly all kinds b.path p.path
    pub truths : List Truth
    pub fails : Truths all kinds b.fails truths
    pub bad : fails_among label b.fails truths ≡ p.bad
    pub given : Kept values all
    pub given_kinds : Kept vars kinds

  -- after definitions behind these
  pub record Step (old : List BValue) (olds : List BType) (b : ConditionsBuilder) (p : Point) : Type 0 where
    pub all : List BValue
    pub kinds : List BType
    pub kept : Kept old all
    pub kept_kinds : Kept olds kinds
    pub stands : Stands b p all kinds

  no_step : {b : ConditionsBuilder} {p : Point} {all : List BValue} {kinds : List BType} → Stands b p all kinds → Step all kinds b p
  no_step {all = all} {kinds = kinds} h = record { all = all; kinds = kinds; kept = λ j x g. g; kept_kinds = λ j x g. g; stands = h }

  abbrev two_steps : {old : List BValue} {olds : List BType} {b c : ConditionsBuilder} {p q : Point} → (h : Step old olds b p) → Step h.all h.kinds c q → Step old olds c q
  two_steps h g = record {
    all = g.all;
    kinds = g.kinds;
    kept = λ j x i. g.kept j x (h.kept j x i);
    kept_kinds = λ j x i. g.kept_kinds j x (h.kept_kinds j x i);
    stands = g.stands;
  }

  -- ---- one definition

  module _ {b : ConditionsBuilder} {p : Point} {all : List BValue} {kinds : List BType} (h : Stands b p all kinds) where
    module _ (e : FExpr) (v : BValue) (u : BType) (is : whole e all ≡ Is v) (typed : whole_type kinds e ≡ Some u) (fits : IsOfType v u) where
      pub stands_define : Stands (define e b) p (all ++ v ∷ []) (kinds ++ u ∷ [])
      stands_define =
          let k = kept_more all (v ∷ []) in
          let l = kept_more kinds (u ∷ []) in
          record {
            names = names_more h.names e v u is typed;
            holds = holds_kept all kinds (all ++ v ∷ []) (kinds ++ u ∷ []) k l h.holds;
            path = at_kept k l h.path;
            truths = h.truths;
            fails = truths_kept k l h.fails;
            bad = h.bad;
            given = λ j x i. k j x (h.given j x i);
            given_kinds = λ j x i. l j x (h.given_kinds j x i);
          }

      pub new_there : At (all ++ v ∷ []) (kinds ++ u ∷ []) (fresh n b) v u
      new_there = at_new h.names e v u is typed fits

      stands_store : (i : ℕ) → slice_get ls i ≡ Some u → Stands (store n i e b) (record p { env = slice_set p.env i v }) (all ++ v ∷ []) (kinds ++ u ∷ [])
      stands_store i l =
          let d = stands_define in
          record {
            names = d.names;
            holds = holds_set (all ++ v ∷ []) (kinds ++ u ∷ []) d.holds i u l (fresh n b) v new_there;
            path = d.path;
            truths = d.truths;
            fails = d.fails;
            bad = d.bad;
            given = d.given;
            given_kinds = d.given_kinds;
          }

      pub store_step : (i : ℕ) → slice_get ls i ≡ Some u → (env : List BValue) → env ≡ slice_set p.env i v → Step all kinds (store n i e b) (record p { env = env })
      store_step i l env is_env = record {
        all = all ++ v ∷ [];
        kinds = kinds ++ u ∷ [];
        kept = kept_more all (v ∷ []);
        kept_kinds = kept_more kinds (u ∷ []);
        stands = subst (λ x. Stands (store n i e b) (record p { env = x }) (all ++ v ∷ []) (kinds ++ u ∷ [])) (sym is_env) (stands_store i l);
      }

    pub choose_step : (i : ℕ) (u : BType) → slice_get ls i ≡ Some u → (v : BValue) → At all kinds b.next v u → (env : List BValue) → env ≡ slice_set p.env i v →
        Step all kinds (choose i b) (record p { env = env })
    choose_step i u l v a env is_env = no_step (record {
      names = h.names;
      holds = subst (λ x. Holds all kinds (slice_set b.versions i b.next) x ls) (sym is_env) (holds_set all kinds h.holds i u l b.next v a);
      path = h.path;
      truths = h.truths;
      fails = h.fails;
      bad = h.bad;
      given = h.given;
      given_kinds = h.given_kinds;
    })

    -- the path goes on where the expression is true
    stands_where : (e : FExpr) (t : Truth) → Says all kinds e t →
        Stands (go_where n e b) (held t p) (all ++ One (Bool (p.path && t)) ∷ []) (kinds ++ bool_type ∷ [])
    stands_where e t g =
        let x : Says all kinds (f.Bin op.And (f.Var b.path) e) (p.path && t) = says_and (says_var h.path) g in
        let v = One (Bool (p.path && t)) in
        let is : whole (f.Bin op.And (f.Var b.path) e) all ≡ Is v = ap one_of (says_value x) in
        let typed : whole_type kinds (f.Bin op.And (f.Var b.path) e) ≡ Some bool_type = ap (λ o. then_some o (λ w. Some (plain_type w))) (says_kind x) in
        let d = stands_define (f.Bin op.And (f.Var b.path) e) v bool_type is typed (truly_fits (p.path && t)) in
        record {
          names = d.names;
          holds = d.holds;
          path = new_there (f.Bin op.And (f.Var b.path) e) v bool_type is typed (truly_fits (p.path && t));
          truths = d.truths;
          fails = d.fails;
          bad = d.bad;
          given = d.given;
          given_kinds = d.given_kinds;
        }

    pub where_step : (e : FExpr) (t : Truth) → Says all kinds e t → Step all kinds (go_where n e b) (held t p)
    where_step e t g = record {
      all = all ++ One (Bool (p.path && t)) ∷ [];
      kinds = kinds ++ bool_type ∷ [];
      kept = kept_more all (One (Bool (p.path && t)) ∷ []);
      kept_kinds = kept_more kinds (bool_type ∷ []);
      stands = stands_where e t g;
    }

    -- the assertion fails where the run comes here and the condition is false
    fails_step : (l : Label) (c : ℕ) (t : Truth) → Truly all kinds c t → Step all kinds (failing n l c b) (record p { bad = p.bad || (same_label l label && (p.path && not t)) })
    fails_step l c t g =
        let e = f.Bin op.And (f.Var b.path) (f.Not (f.Var c)) in
        let q = p.path && not t in
        let x : Says all kinds e q = says_and (says_var h.path) (says_not (says_var g)) in
        let v = One (Bool q) in
        let is : whole e all ≡ Is v = ap one_of (says_value x) in
        let typed : whole_type kinds e ≡ Some bool_type = ap (λ o. then_some o (λ w. Some (plain_type w))) (says_kind x) in
        let d = stands_define e v bool_type is typed (truly_fits q) in
        let a : Fail = record { label = l; name = fresh n b } in
        record {
          all = all ++ v ∷ [];
          kinds = kinds ++ bool_type ∷ [];
          kept = kept_more all (v ∷ []);
          kept_kinds = kept_more kinds (bool_type ∷ []);
          stands = record {
            names = d.names;
            holds = d.holds;
            path = d.path;
            truths = d.truths ++ q ∷ [];
            fails = truths_more d.fails a q (new_there e v bool_type is typed (truly_fits q));
            bad = fails_more label d.fails a q ∙ ap (λ z. z || (same_label l label && q)) d.bad;
            given = d.given;
            given_kinds = d.given_kinds;
          };
        }

  -- ---- two branches

  -- the names and the definitions after both branches
  pub record MergedTo (old : List BValue) (olds : List BType) (m : Merged) (env : List BValue) (us : List BType) : Type 0 where
    pub all : List BValue
    pub kinds : List BType
    pub kept : Kept old all
    pub kept_kinds : Kept olds kinds
    pub names : Names n vars values m.lets all kinds
    pub holds : Holds all kinds m.versions env us

  -- from behind one more name
  earlier : (old : List BValue) (olds : List BType) (v : BValue) (u : BType) (m : Merged) (env : List BValue) (us : List BType) →
      MergedTo (old ++ v ∷ []) (olds ++ u ∷ []) m env us → MergedTo old olds m env us
  earlier old olds v u m env us g = record {
    all = g.all;
    kinds = g.kinds;
    kept = λ j a i. g.kept j a (kept_more old (v ∷ []) j a i);
    kept_kinds = λ j a i. g.kept_kinds j a (kept_more olds (u ∷ []) j a i);
    names = g.names;
    holds = g.holds;
  }

  if_cons : (c : Truth) (x y : BValue) (xs ys : List BValue) → (if c then x else y) ∷ (if c then xs else ys) ≡ (if c then x ∷ xs else y ∷ ys)
  if_cons true x y xs ys = refl
  if_cons false x y xs ys = refl

  if_one : {X : Type 0} (c : Truth) (x y : X) → x ≡ y → y ≡ (if c then x else y)
  if_one true x y h = sym h
  if_one false x y h = refl

  if_found : (c : Truth) (x y : BValue) → (if c then found (Some x) else found (Some y)) ≡ Is (if c then x else y)
  if_found true x y = refl
  if_found false x y = refl

  if_fits : (c : Truth) (x y : BValue) (u : BType) → IsOfType x u → IsOfType y u → IsOfType (if c then x else y) u
  if_fits true x y u h g = h
  if_fits false x y u h g = g

  module _ (all : List BValue) (kinds : List BType) (c : ℕ) (t : Truth) (is_c : Truly all kinds c t) where
    -- one definition, by the name of the condition
    choice_whole : (new : List BValue) (news : List BType) → Kept all new → Kept kinds news → (v w : ℕ) (x y : BValue) (u : BType) → At all kinds v x u → At all kinds w y u →
        whole (f.If (f.Var c) (f.Var v) (f.Var w)) new ≡ Is (if t then x else y)
    choice_whole new news k l v w x y u a b =
        let g = says_value (says_var (at_kept k l is_c)) in
        ap (λ o. then_with (as_truth o) (λ p. if p then found (slice_get new v) else found (slice_get new w))) g
        ∙ (let p = k v x a.value in let q = k w y b.value in λ i. if t then found (p i) else found (q i))
        ∙ if_found t x y

    choice_type : (new : List BValue) (news : List BType) → Kept all new → Kept kinds news → (v w : ℕ) (x y : BValue) (u : BType) → At all kinds v x u → At all kinds w y u →
        whole_type news (f.If (f.Var c) (f.Var v) (f.Var w)) ≡ Some u
    choice_type new news k l v w x y u a b =
        let g = says_kind (says_var (at_kept k l is_c)) in
        let p = l v u a.kind in
        let q = l w u b.kind in
        (λ i. if is_base (g i) base.Bool then then_some (p i) (λ z. then_some (q i) (one_type z)) else None) ∙ one_type_itself u

    if_nil : (lets : List FExpr) (new : List BValue) (news : List BType) → Names n vars values lets new news → (b : Truth) →
        MergedTo new news (record { versions = []; lets = lets }) (if b then [] else []) []
    if_nil lets new news names true = record { all = new; kinds = news; kept = λ j x h. h; kept_kinds = λ j x h. h; names = names; holds = no_names }
    if_nil lets new news names false = record { all = new; kinds = news; kept = λ j x h. h; kept_kinds = λ j x h. h; names = names; holds = no_names }

    one_value : (v w : ℕ) (x y : BValue) (u : BType) → v ≡ w → At all kinds v x u → At all kinds w y u → x ≡ y
    one_value v w x y u e a b = let h : Some x ≡ Some y = sym a.value ∙ ap (slice_get all) e ∙ b.value in some_same h

    behind_it : (old : List BValue) (olds : List BType) (j : ℕ) (m : Merged) (x y : BValue) (xs ys : List BValue) (u : BType) (us : List BType) →
        (g : MergedTo old olds m (if t then xs else ys) us) → At g.all g.kinds j (if t then x else y) u →
        MergedTo old olds (behind j m) (if t then x ∷ xs else y ∷ ys) (u ∷ us)
    behind_it old olds j m x y xs ys u us g a = record {
      all = g.all;
      kinds = g.kinds;
      kept = g.kept;
      kept_kinds = g.kept_kinds;
      names = g.names;
      holds = subst (λ e. Holds g.all g.kinds (j ∷ m.versions) e (u ∷ us)) (if_cons t x y xs ys) (named_so a g.holds);
    }

    if_merged : (old : List BValue) (olds : List BType) (b r : Truth) (m o : Merged) (env : List BValue) (us : List BType) → r ≡ b → (r ≡ true → MergedTo old olds m env us) → MergedTo old olds o env us →
        MergedTo old olds (if b then m else o) env us
    if_merged old olds true r m o env us e h g = h e
    if_merged old olds false r m o env us e h g = g

    pub merged : {vs ws : List ℕ} {xs ys : List BValue} {us : List BType} → Holds all kinds vs xs us → Holds all kinds ws ys us → (lets : List FExpr) (new : List BValue) (news : List BType) →
        Kept all new → Kept kinds news → Names n vars values lets new news → MergedTo new news (merge n c vs ws lets) (if t then xs else ys) us
    merged no_names no_names lets new news k l names = if_nil lets new news names t
    merged (named_so {j = v} {js = vs} {v = x} {vs = xs} {u = u} {us = us} a h) (named_so {j = w} {js = ws} {v = y} {vs = ys} b g) lets new news k l names =
        let e = f.If (f.Var c) (f.Var v) (f.Var w) in
        let z : BValue = if t then x else y in
        let is = choice_whole new news k l v w x y u a b in
        let typed = choice_type new news k l v w x y u a b in
        let fresh_name = at_new names e z u is typed (if_fits t x y u a.fits b.fits) in
        let same = merged h g lets new news k l names in
        let other = merged h g (lets ++ e ∷ []) (new ++ z ∷ []) (news ++ u ∷ []) (λ j a i. kept_more new (z ∷ []) j a (k j a i))
        (λ j a i. kept_more news (u ∷ []) j a (l j a i)) (names_more names e z u is typed) in
        if_merged new news (nat_eq v w) (nat_eq v w) _ _ (if t then x ∷ xs else y ∷ ys) (u ∷ us) refl
        (λ r. behind_it new news w (merge n c vs ws lets) x y xs ys u us same
        (subst (λ q. At same.all same.kinds w q u) (if_one t x y (one_value v w x y u (eqb-true v w r) a b))
        (at_kept (λ j a i. same.kept j a (k j a i)) (λ j a i. same.kept_kinds j a (l j a i)) b)))
        (earlier new news z u (behind (n + length lets) (merge n c vs ws (lets ++ e ∷ []))) (if t then x ∷ xs else y ∷ ys) (u ∷ us)
        (behind_it (new ++ z ∷ []) (news ++ u ∷ []) (n + length lets) (merge n c vs ws (lets ++ e ∷ [])) x y xs ys u us other (at_kept other.kept other.kept_kinds fresh_name)))

  -- ---- a fork

  joins : (c : ℕ) (t : Truth) (y : ConditionsBuilder) (px py : Point) (versions : List ℕ) (path : ℕ) (all : List BValue) (kinds : List BType) → Truly all kinds c t →
      Holds all kinds versions px.env ls → Truly all kinds path px.path → Stands y py all kinds → Step all kinds (join n c versions path y) (joined t px py)
  joins c t y px py versions path all kinds is_c holds is_path h =
      let e = f.Bin op.Or (f.Var path) (f.Var y.path) in
      let q = px.path || py.path in
      let x : Says all kinds e q = says_or (says_var is_path) (says_var h.path) in
      let v = One (Bool q) in
      let is : whole e all ≡ Is v = ap one_of (says_value x) in
      let typed : whole_type kinds e ≡ Some bool_type = ap (λ o. then_some o (λ w. Some (plain_type w))) (says_kind x) in
      let name = new_there h e v bool_type is typed (truly_fits q) in
      let k = kept_more all (v ∷ []) in
      let l = kept_more kinds (bool_type ∷ []) in
      let m = merged all kinds c t is_c holds h.holds (y.lets ++ e ∷ []) (all ++ v ∷ []) (kinds ++ bool_type ∷ []) k l
      (names_more h.names e v bool_type is typed) in
      record {
        all = m.all;
        kinds = m.kinds;
        kept = λ j a i. m.kept j a (k j a i);
        kept_kinds = λ j a i. m.kept_kinds j a (l j a i);
        stands = record {
          names = m.names;
          holds = m.holds;
          path = at_kept m.kept m.kept_kinds name;
          truths = h.truths;
          fails = truths_kept (λ j a i. m.kept j a (k j a i)) (λ j a i. m.kept_kinds j a (l j a i)) h.fails;
          bad = h.bad;
          given = λ j a i. m.kept j a (k j a (h.given j a i));
          given_kinds = λ j a i. m.kept_kinds j a (l j a (h.given_kinds j a i));
        };
      }

  abbrev Builds : (ConditionsBuilder → ConditionsBuilder) → (Point → Point) → ℕ → Type 0
  Builds build go k = (b : ConditionsBuilder) (p : Point) (all : List BValue) (kinds : List BType) → b.next ≡ k → Stands b p all kinds → Step all kinds (build b) (go p)

  fork_step : (c : ℕ) (t : Truth) (left right : ConditionsBuilder → ConditionsBuilder) (go to : Point → Point) (k l : ℕ) → Builds left go k → ((b : ConditionsBuilder) → b.next ≡ k → (left b).next ≡ l) → Builds right to l →
      (b : ConditionsBuilder) (p : Point) (all : List BValue) (kinds : List BType) → Truly all kinds c t → b.next ≡ k → Stands b p all kinds → Step all kinds (fork n c left right b) (forked t go to p)
  fork_step c t left right go to k l grow moves more b p all kinds is_c next h =
      let w = where_step h (f.Var c) t (says_var is_c) in
      let x = grow (go_where n (f.Var c) b) (held t p) w.all w.kinds next w.stands in
      let wx = two_steps w x in
      let px = go (held t p) in
      let bx = left (go_where n (f.Var c) b) in
      let z : Stands (record bx { versions = b.versions; path = b.path }) (record { env = p.env; path = p.path; bad = px.bad }) wx.all wx.kinds = record {
        names = x.stands.names;
        holds = holds_kept all kinds wx.all wx.kinds wx.kept wx.kept_kinds h.holds;
        path = at_kept wx.kept wx.kept_kinds h.path;
        truths = x.stands.truths;
        fails = x.stands.fails;
        bad = x.stands.bad;
        given = x.stands.given;
        given_kinds = x.stands.given_kinds;
      } in
      let v = where_step z (f.Not (f.Var c)) (not t) (says_not (says_var (at_kept wx.kept wx.kept_kinds is_c))) in
      let y = more (back n c b bx) (held (not t) (record { env = p.env; path = p.path; bad = px.bad })) v.all v.kinds (moves (go_where n (f.Var c) b) next) v.stands in
      let vy = two_steps v y in
      let all_of = two_steps wx vy in
      two_steps all_of (joins c t (right (back n c b bx)) px (to (held (not t) (record { env = p.env; path = p.path; bad = px.bad }))) bx.versions bx.path vy.all vy.kinds
      (at_kept all_of.kept all_of.kept_kinds is_c) (holds_kept wx.all wx.kinds vy.all vy.kinds vy.kept vy.kept_kinds x.stands.holds)
      (at_kept vy.kept vy.kept_kinds x.stands.path) vy.stands)

  many_there : (o : Option BValue) (m : Map Key BScalar) → then_with (found o) map_in ≡ Is m → o ≡ Some (Many m)
  many_there (Some (Many n)) m h = let e : n ≡ m = cc in ap (λ x. Some (Many x)) e
  many_there (Some (One v)) m h = absurd (cc)
  many_there None m h = absurd (cc)

  module _ {b : ConditionsBuilder} {p : Point} {all : List BValue} {kinds : List BType} (h : Stands b p all kinds) where
    is_env : IsEnvironment ls p.env
    is_env = holds_typed all kinds h.holds

    same : (i : ℕ) (u : BType) → slice_get ls i ≡ Some u → slice_get all (named b i) ≡ slice_get p.env i
    same = holds_value all kinds h.holds

    types : (i : ℕ) (u : BType) → slice_get ls i ≡ Some u → slice_get kinds (named b i) ≡ Some u
    types = holds_kind all kinds h.holds

    -- a condition that has a name
    record Named (e : t.BExpr) : Type 0 where
      truth : Truth
      is : bvalue Unbounded e p.env ≡ Is (Bool truth)
      step : Step all kinds (define (lifted (named b) e) b) p
      name : Truly step.all step.kinds (fresh n b) truth

    condition : (e : t.BExpr) → HasType ls None e base.Bool → Named e
    condition e x =
        let v = truth_there ls p.env is_env e x in
        let is = lifted_whole ls kinds p.env all (named b) types same e base.Bool x (Bool v.0) v.1 in
        let typed = lifted_whole_type ls kinds p.env all (named b) types same e base.Bool x in
        record {
          truth = v.0;
          is = v.1;
          step = record {
            all = all ++ One (Bool v.0) ∷ [];
            kinds = kinds ++ bool_type ∷ [];
            kept = kept_more all (One (Bool v.0) ∷ []);
            kept_kinds = kept_more kinds (bool_type ∷ []);
            stands = stands_define h (lifted (named b) e) (One (Bool v.0)) bool_type is typed (truly_fits v.0);
          };
          name = new_there h (lifted (named b) e) (One (Bool v.0)) bool_type is typed (truly_fits v.0);
        }

    check_step : (l : Label) (e : t.BExpr) (x : HasType ls None e base.Bool) → let c = condition e x in
        Step all kinds (check n l (lifted (named b) e) b) (if same_label l label then checked c.truth p else held c.truth p)
    check_step l e x =
        let c = condition e x in
        let a = fails_step c.step.stands l (fresh n b) c.truth c.name in
        let w = where_step a.stands (f.Var (fresh n b)) c.truth (says_var (at_kept a.kept a.kept_kinds c.name)) in
        subst (λ q. Step all kinds (check n l (lifted (named b) e) b) q) (checked_is (same_label l label) c.truth p) (two_steps c.step (two_steps a w))

    put_step : (i : ℕ) (es : t.BExprs) (e : t.BExpr) (u : BBase) (us : List BBase) (w : BBase) → slice_get ls i ≡ Some (map_type u us w) → HaveTypes ls None es (u ∷ us) → HasType ls None e w →
        Step all kinds (store n i (f.With (f.Var (named b i)) (lifted_all (named b) es) (lifted (named b) e)) b) (record p { env = stored i p.env (put i es e p.env) })
    put_step i es e u us w l ks x =
        let k = key_there ls p.env is_env es (u ∷ us) ks in
        let v = value_there ls p.env is_env e w x in
        let m = map_there ls p.env is_env i u us w l in
        let r = map_put ls p.env is_env i es e u us w l ks x in
        let first_map : slice_get all (named b i) ≡ Some (Many m.0) = same i (map_type u us w) l ∙ many_there (slice_get p.env i) m.0 m.1 in
        let key : fkey (lifted_all (named b) es) all ≡ Is k.0 = lifted_key ls kinds p.env all (named b) types same es (u ∷ us) ks ∙ k.1 in
        let val : fvalue (lifted (named b) e) all ≡ Is v.0 = lifted_value ls kinds p.env all (named b) types same e w x ∙ v.1 in
        let is : whole (f.With (f.Var (named b i)) (lifted_all (named b) es) (lifted (named b) e)) all ≡ Is (Many (set key_cmp same_scalar m.0 k.0 v.0)) = rw (first_map, key, val) refl in
        let kinds_of = lifted_types ls kinds p.env all (named b) types same es (u ∷ us) ks in
        let kind_of = lifted_type ls kinds p.env all (named b) types same e w x in
        let typed : whole_type kinds (f.With (f.Var (named b i)) (lifted_all (named b) es) (lifted (named b) e)) ≡ Some (map_type u us w) =
        rw (types i (map_type u us w) l, kinds_of, kind_of) (ap (λ z. if z then Some (map_type u us w) else None) (put_given {k = u} {ks = us} {w = w} refl refl refl)) in
        store_step h _ (Many (set key_cmp same_scalar m.0 k.0 v.0)) (map_type u us w) is typed (many (set_typed m.2 k.0 v.0 k.2 v.2)) i l (stored i p.env (put i es e p.env)) (rw (k.1, v.1, m.1) refl)

    assign_step : (i : ℕ) (e : t.BExpr) (u : BType) → slice_get ls i ≡ Some u → SideHasType ls e u →
        Step all kinds (store n i (lifted (named b) e) b) (record p { env = stored i p.env (side Unbounded e p.env) })
    assign_step i e u l x =
        let v = side_there ls kinds p.env all (named b) types same is_env e u x in
        store_step h (lifted (named b) e) v.value u v.lifts v.typed v.fits i l (stored i p.env (side Unbounded e p.env)) (rw (v.is) refl)

    havoc_step : (i : ℕ) (u : BType) (k : ℕ) → slice_get ls i ≡ Some u → b.next ≡ k → (v : BValue) → slice_get values k ≡ Some v → IsOfType v u → slice_get vars k ≡ Some u →
        Step all kinds (choose i b) (record p { env = stored i p.env (found (slice_get values k)) })
    havoc_step i u k l next v is fits kind =
        choose_step h i u l v (record { value = ap (slice_get all) next ∙ h.given k v is; kind = ap (slice_get kinds) next ∙ h.given_kinds k u kind; fits = fits })
        (stored i p.env (found (slice_get values k))) (rw (is) refl)

  -- ---- statements

  mutual
    stmt_step : {x : s.BStmt} → IsTypedStmt ls x → (k : ℕ) → Owns vars values k (own_types_stmt ls x) → Builds (λ b. built_stmt n x b) (λ p. total_stmt label values x k p) k
    stmt_step (assign {i = i} {e = e} {u = u} l x) k o b p all kinds next h = assign_step h i e u l x
    stmt_step (put_ {i = i} {es = es} {e = e} {u = u} {us = us} {w = w} l ks x) k o b p all kinds next h = put_step h i es e u us w l ks x
    stmt_step (havoc {i = i} {u = u} l) k o b p all kinds next h = let v = owns_there ls i u l o in havoc_step h i u k l next v.0 v.1 v.2 v.3
    stmt_step (assume_ {e = e} x) k o b p all kinds next h =
        let c = condition h e x in
        rw (c.is) (two_steps c.step (where_step c.step.stands (f.Var (fresh n b)) c.truth (says_var c.name)))
    stmt_step (assert_ {l = l} {e = e} x) k o b p all kinds next h =
        let c = condition h e x in
        rw (c.is) (check_step h l e x)
    stmt_step (if_ {e = e} {xs = xs} {ys = ys} x a c) k o b p all kinds next h =
        let v = condition h e x in
        rw (v.is) (two_steps v.step
        (fork_step (fresh n b) v.truth (λ z. built n xs z) (λ z. built n ys z) (λ q. total label values xs k q) (λ q. total label values ys (k + slots xs) q) k (k + slots xs)
        (block_step a k (owns_left (own_types ls xs) (own_types ls ys) o)) (λ z. next_block n xs z k)
        (block_step c (k + slots xs) (owns_right (own_types ls xs) (own_types ls ys) (slots xs) (slots_own a) o))
        (define (lifted (named b) e) b) p v.step.all v.step.kinds v.name next v.step.stands))
    stmt_step (either {xs = xs} {ys = ys} a c) k o b p all kinds next h =
        let w = owns_first (plain_type base.Bool) (own_types ls xs ++ own_types ls ys) o in
        let v = bool_there w.0 (plain_type base.Bool) w.2 refl in
        let r = owns_rest (plain_type base.Bool) (own_types ls xs ++ own_types ls ys) o in
        let is : slice_get values k ≡ Some (One (Bool v.0)) = w.1 ∙ ap Some v.1 in
        let name : Truly all kinds b.next v.0 = record { value = ap (slice_get all) next ∙ h.given k (One (Bool v.0)) is; kind = ap (slice_get kinds) next ∙ h.given_kinds k bool_type w.3; fits = truly_fits v.0 } in
        let d : Stands (record b { next = b.next + 1 }) p all kinds = record {
          names = h.names;
          holds = h.holds;
          path = h.path;
          truths = h.truths;
          fails = h.fails;
          bad = h.bad;
          given = h.given;
          given_kinds = h.given_kinds;
        } in
        rw (is) (fork_step b.next v.0 (λ z. built n xs z) (λ z. built n ys z) (λ q. total label values xs (k + 1) q) (λ q. total label values ys (k + 1 + slots xs) q) (k + 1) (k + 1 + slots xs)
        (block_step a (k + 1) (owns_left (own_types ls xs) (own_types ls ys) r)) (λ z. next_block n xs z (k + 1))
        (block_step c (k + 1 + slots xs) (owns_right (own_types ls xs) (own_types ls ys) (slots xs) (slots_own a) r))
        (record b { next = b.next + 1 }) p all kinds name (ap (λ z. z + 1) next) d)

    pub block_step : {xs : s.BStmts} → IsTyped ls xs → (k : ℕ) → Owns vars values k (own_types ls xs) → Builds (λ b. built n xs b) (λ p. total label values xs k p) k
    block_step skip k o b p all kinds next h = no_step h
    block_step (first {x = x} {xs = xs} a c) k o b p all kinds next h =
        let y = stmt_step a k (owns_left (own_types_stmt ls x) (own_types ls xs) o) b p all kinds next h in
        two_steps y (block_step c (k + slots_stmt x) (owns_right (own_types_stmt ls x) (own_types ls xs) (slots_stmt x) (slots_own_stmt a) o) (built_stmt n x b)
        (total_stmt label values x k p) y.all y.kinds (next_stmt n x b k next) y.stands)
