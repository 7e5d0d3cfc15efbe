-- The functions on types answer what the rules say.
use Rattle.std.proofs.Common.{◌≡◌, ℕ, Bool as Truth, true, false, ◌&&◌, Option, Some, None, List, [], ◌∷◌, slice_get, if◌then◌else◌, refl, sym, ap, subst, ◌∙◌}
use Rattle.std.specs.Bool.{Decides}
use Rattle.std.specs.Option.{is_some}
use Rattle.std.proofs.lemmas.List.Sums.{AllPass-from_list_all, list_all-from_AllPass}
use Rattle.lemmas.proofs.Tests.{and_parts}
use Rattle.lemmas.proofs.Options.{some_same}
use Rattle.boogie_tree.specs.Expr as t
use Rattle.boogie_tree.specs.Stmt as s
use Rattle.boogie_tree.specs.Program.{BType}
use Rattle.boogie_tree.specs.declared.exprs.BBase.{BBase}
use Rattle.boogie_tree.specs.declared.exprs.BBase.TheVariants as base
use Rattle.boogie_tree.specs.Values.{same_base, same_bases, same_type, is_key, plain_type, map_type, AreKeys, are_keys}
use Rattle.boogie_meaning.specs.Decided.{Decides-same_base}
use Rattle.boogie_meaning.specs.Types.{answer_of, HasType, var, int, real, bool, null, unit, neg, not_, binary, choose, forall_, to_real, s_int, s_bool, s_ref, s_perm, pair, at, at_bound, HaveTypes, none, more, SideHasType, whole, value, then_some, given, plain_base, indexed, base_of, bases_of, side_type, is_base, is_type, is_put, IsTypedStmt, assign, put, havoc, assume_, assert_, if_, either, IsTyped, skip, first, is_typed_stmt, is_typed}

-- ---- what an answer tells of its parts

pub from_then : {X Y : Type 0} (o : Option X) (go : X → Option Y) (y : Y) → then_some o go ≡ Some y → (x : X) × (o ≡ Some x) × (go x ≡ Some y)
from_then (Some x) go y h = (x, refl, h)
from_then None go y h = absurd (cc)

if_some : {X : Type 0} (p : Truth) (x y : X) → (if p then Some x else None) ≡ Some y → (p ≡ true) × (x ≡ y)
if_some true x y h = (refl, some_same h)
if_some false x y h = absurd (cc)

pub from_if : {X : Type 0} (p : Truth) (o : Option X) (x : X) → (if p then o else None) ≡ Some x → (p ≡ true) × (o ≡ Some x)
from_if true o x h = (refl, h)
from_if false o x h = absurd (cc)

pub from_given : (u w v x : BBase) → given u w v ≡ Some x → (v ≡ u) × (w ≡ x)
from_given u w v x h = let p = if_some (same_base v u) w x h in ((Decides-same_base v u).0 p.0, p.1)

from_plain : (ks : List BBase) (u w : BBase) → plain_base ks u ≡ Some w → (ks ≡ []) × (u ≡ w)
from_plain [] u w h = (refl, some_same h)
from_plain (k ∷ ks) u w h = absurd (cc)

pub Decides-are_keys : (us : List BBase) → Decides (are_keys us) (AreKeys us)
Decides-are_keys us = (AllPass-from_list_all is_key us, list_all-from_AllPass is_key us)

pub and_true : {p q : Truth} → p ≡ true → q ≡ true → (p && q) ≡ true
and_true h g = rw (h, g) refl

pub bases_same : (us ws : List BBase) → same_bases us ws ≡ true → us ≡ ws
bases_same [] [] h = refl
bases_same [] (w ∷ ws) h = absurd (cc)
bases_same (u ∷ us) [] h = absurd (cc)
bases_same (u ∷ us) (w ∷ ws) h =
    let p = and_parts (same_base u w) (same_bases us ws) h in
    let a = (Decides-same_base u w).0 p.0 in
    let b = bases_same us ws p.1 in
    λ i. a i ∷ b i

pub same_base_itself : (u : BBase) → same_base u u ≡ true
same_base_itself u = (Decides-same_base u u).1 refl

pub same_bases_itself : (us : List BBase) → same_bases us us ≡ true
same_bases_itself [] = refl
same_bases_itself (u ∷ us) = and_true (same_base_itself u) (same_bases_itself us)

record IsIndexed (ks : List BBase) (w : BBase) (us : List BBase) (u : BBase) : Type 0 where
  key : BBase
  rest : List BBase
  keys : ks ≡ key ∷ rest
  indices : us ≡ key ∷ rest
  base : w ≡ u

from_indexed : (ks : List BBase) (w : BBase) (us : List BBase) (u : BBase) → indexed ks w us ≡ Some u → IsIndexed ks w us u
from_indexed [] w us u h = absurd (cc)
from_indexed (k ∷ ks) w us u h = let p = if_some (same_bases us (k ∷ ks)) w u h in record { key = k; rest = ks; keys = refl; indices = bases_same us (k ∷ ks) p.0; base = p.1 }

-- ---- expressions

type_from : {ls : List BType} {o : Option (List BBase)} {e : t.BExpr} {u w : BBase} → HasType ls o e u → u ≡ w → HasType ls o e w
type_from {ls} {o} {e} h g = subst (HasType ls o e) g h

mutual
  pub base_of_sound : (ls : List BType) (o : Option (List BBase)) (e : t.BExpr) (u : BBase) → base_of ls o e ≡ Some u → HasType ls o e u
  base_of_sound ls o (t.Var i) u h =
      let l = from_then (slice_get ls i) _ u h in
      let p = from_plain l.0.keys l.0.base u l.2 in
      var (l.1 ∙ (λ i. Some (record { keys = p.0 i; base = p.1 i })))
  base_of_sound ls o (t.Int n) u h = type_from int (some_same h)
  base_of_sound ls o (t.Real n) u h = type_from real (some_same h)
  base_of_sound ls o (t.Bool n) u h = type_from bool (some_same h)
  base_of_sound ls o t.Null u h = type_from null (some_same h)
  base_of_sound ls o t.Unit u h = type_from unit (some_same h)
  base_of_sound ls o (t.Neg a) u h = let p = from_then (base_of ls o a) _ u h in neg p.2 (base_of_sound ls o a p.0 p.1)
  base_of_sound ls o (t.Not a) u h =
      let p = from_then (base_of ls o a) _ u h in
      let q = from_given base.Bool base.Bool p.0 u p.2 in
      type_from (not_ (type_from (base_of_sound ls o a p.0 p.1) q.0)) q.1
  base_of_sound ls o (t.Bin f x y) u h =
      let p = from_then (base_of ls o x) _ u h in
      let q = from_then (base_of ls o y) _ u p.2 in
      let r = from_then (given p.0 p.0 q.0) (answer_of f) u q.2 in
      let g = from_given p.0 p.0 q.0 r.0 r.1 in
      binary (ap (answer_of f) g.1 ∙ r.2) (base_of_sound ls o x p.0 p.1) (type_from (base_of_sound ls o y q.0 q.1) g.0)
  base_of_sound ls o (t.If c x y) u h =
      let p = from_then (base_of ls o c) _ u h in
      let q = from_then (given base.Bool base.Bool p.0) _ u p.2 in
      let g = from_given base.Bool base.Bool p.0 q.0 q.1 in
      let r = from_then (base_of ls o x) _ u q.2 in
      let s = from_then (base_of ls o y) _ u r.2 in
      let d = from_given r.0 r.0 s.0 u s.2 in
      choose (type_from (base_of_sound ls o c p.0 p.1) g.0) (type_from (base_of_sound ls o x r.0 r.1) d.1) (type_from (base_of_sound ls o y s.0 s.1) (d.0 ∙ d.1))
  base_of_sound ls (Some ws) (t.Forall us a) u h = absurd (cc)
  base_of_sound ls None (t.Forall us a) u h =
      let k = from_if (are_keys us) _ u h in
      let p = from_then (base_of ls (Some us) a) _ u k.1 in
      let q = from_given base.Bool base.Bool p.0 u p.2 in
      type_from (forall_ ((Decides-are_keys us).0 k.0) (type_from (base_of_sound ls (Some us) a p.0 p.1) q.0)) q.1
  base_of_sound ls o (t.ToReal a) u h =
      let p = from_then (base_of ls o a) _ u h in
      let q = from_given base.Int base.Real p.0 u p.2 in
      type_from (to_real (type_from (base_of_sound ls o a p.0 p.1) q.0)) q.1
  base_of_sound ls o (t.SInt a) u h =
      let p = from_then (base_of ls o a) _ u h in
      let q = from_given base.Int base.Snap p.0 u p.2 in
      type_from (s_int (type_from (base_of_sound ls o a p.0 p.1) q.0)) q.1
  base_of_sound ls o (t.SBool a) u h =
      let p = from_then (base_of ls o a) _ u h in
      let q = from_given base.Bool base.Snap p.0 u p.2 in
      type_from (s_bool (type_from (base_of_sound ls o a p.0 p.1) q.0)) q.1
  base_of_sound ls o (t.SRef a) u h =
      let p = from_then (base_of ls o a) _ u h in
      let q = from_given base.Ref base.Snap p.0 u p.2 in
      type_from (s_ref (type_from (base_of_sound ls o a p.0 p.1) q.0)) q.1
  base_of_sound ls o (t.SPerm a) u h =
      let p = from_then (base_of ls o a) _ u h in
      let q = from_given base.Real base.Snap p.0 u p.2 in
      type_from (s_perm (type_from (base_of_sound ls o a p.0 p.1) q.0)) q.1
  base_of_sound ls o (t.Pair x y) u h =
      let p = from_then (base_of ls o x) _ u h in
      let q = from_then (given base.Snap base.Snap p.0) _ u p.2 in
      let g = from_given base.Snap base.Snap p.0 q.0 q.1 in
      let s = from_then (base_of ls o y) _ u q.2 in
      let d = from_given base.Snap base.Snap s.0 u s.2 in
      type_from (pair (type_from (base_of_sound ls o x p.0 p.1) g.0) (type_from (base_of_sound ls o y s.0 s.1) d.0)) d.1
  base_of_sound ls o (t.At m es) u h =
      let p = from_then (bases_of ls o es) _ u h in
      let l = from_then (slice_get ls m) _ u p.2 in
      let x = from_indexed l.0.keys l.0.base p.0 u l.2 in
      at (l.1 ∙ (λ i. Some (record { keys = x.keys i; base = x.base i }))) (bases_of_sound ls o es (x.key ∷ x.rest) (p.1 ∙ ap Some x.indices))
  base_of_sound ls (Some us) (t.AtBound m) u h =
      let l = from_then (slice_get ls m) _ u h in
      let x = from_indexed l.0.keys l.0.base us u l.2 in
      subst (λ ws. HasType ls (Some ws) (t.AtBound m) u) (sym x.indices) (at_bound (l.1 ∙ (λ i. Some (record { keys = x.keys i; base = x.base i }))))
  base_of_sound ls None (t.AtBound m) u h = absurd (cc)

  pub bases_of_sound : (ls : List BType) (o : Option (List BBase)) (es : t.BExprs) (us : List BBase) → bases_of ls o es ≡ Some us → HaveTypes ls o es us
  bases_of_sound ls o t.none us h = subst (HaveTypes ls o t.none) (some_same h) none
  bases_of_sound ls o (t.more a es) us h =
      let p = from_then (base_of ls o a) _ us h in
      let q = from_then (bases_of ls o es) _ us p.2 in
      let k = if_some (is_key p.0) (p.0 ∷ q.0) us q.2 in
      subst (HaveTypes ls o (t.more a es)) k.1 (more k.0 (base_of_sound ls o a p.0 p.1) (bases_of_sound ls o es q.0 q.1))

given_itself : (u w : BBase) → given u w u ≡ Some w
given_itself u w = rw (same_base_itself u) refl

indexed_itself : (u : BBase) (us : List BBase) (w : BBase) → indexed (u ∷ us) w (u ∷ us) ≡ Some w
indexed_itself u us w = rw (same_bases_itself (u ∷ us)) refl

mutual
  pub base_of_complete : {ls : List BType} {o : Option (List BBase)} {e : t.BExpr} {u : BBase} → HasType ls o e u → base_of ls o e ≡ Some u
  base_of_complete (var h) = rw h refl
  base_of_complete int = refl
  base_of_complete real = refl
  base_of_complete bool = refl
  base_of_complete null = refl
  base_of_complete unit = refl
  base_of_complete (neg n h) = rw (base_of_complete h) n
  base_of_complete (not_ h) = rw (base_of_complete h) refl
  base_of_complete (binary {u = u} a x y) = rw (base_of_complete x, base_of_complete y) (rw (given_itself u u) a)
  base_of_complete (choose {u = u} c x y) = rw (base_of_complete c, base_of_complete x, base_of_complete y) (given_itself u u)
  base_of_complete (forall_ {us = us} k h) = rw ((Decides-are_keys us).1 k, base_of_complete h) refl
  base_of_complete (to_real h) = rw (base_of_complete h) refl
  base_of_complete (s_int h) = rw (base_of_complete h) refl
  base_of_complete (s_bool h) = rw (base_of_complete h) refl
  base_of_complete (s_ref h) = rw (base_of_complete h) refl
  base_of_complete (s_perm h) = rw (base_of_complete h) refl
  base_of_complete (pair x y) = rw (base_of_complete x, base_of_complete y) refl
  base_of_complete (at {u = u} {us = us} {w = w} l es) = rw (bases_of_complete es, l) (indexed_itself u us w)
  base_of_complete (at_bound {u = u} {us = us} {w = w} l) = rw l (indexed_itself u us w)

  pub bases_of_complete : {ls : List BType} {o : Option (List BBase)} {es : t.BExprs} {us : List BBase} → HaveTypes ls o es us → bases_of ls o es ≡ Some us
  bases_of_complete none = refl
  bases_of_complete (more k a es) = rw (base_of_complete a, bases_of_complete es) (rw k refl)

-- ---- statements

pub type_same : (u w : BType) → same_type u w ≡ true → u ≡ w
type_same u w h =
    let p = and_parts (same_bases u.keys w.keys) (same_base u.base w.base) h in
    let k = bases_same u.keys w.keys p.0 in
    let b = (Decides-same_base u.base w.base).0 p.1 in
    λ i. record { keys = k i; base = b i }

pub same_type_itself : (u : BType) → same_type u u ≡ true
same_type_itself u = and_true (same_bases_itself u.keys) (same_base_itself u.base)

pub from_base : (o : Option BBase) (u : BBase) → is_base o u ≡ true → o ≡ Some u
from_base (Some w) u h = ap Some ((Decides-same_base w u).0 h)
from_base None u h = absurd (cc)

from_type : (o p : Option BType) → is_type o p ≡ true → (u : BType) × (o ≡ Some u) × (p ≡ Some u)
from_type (Some u) (Some w) h = (w, ap Some (type_same u w h), refl)
from_type (Some u) None h = absurd (cc)
from_type None p h = absurd (cc)

plain_side : (ls : List BType) (e : t.BExpr) (o : Option BBase) (u : BType) → ((w : BBase) → o ≡ Some w → HasType ls None e w) →
    then_some o (λ w. Some (plain_type w)) ≡ Some u → SideHasType ls e u
plain_side ls e (Some w) u f h = subst (SideHasType ls e) (some_same h) (value (f w refl))
plain_side ls e None u f h = absurd (cc)

side_sound : (ls : List BType) (e : t.BExpr) (u : BType) → side_type ls e ≡ Some u → SideHasType ls e u
side_sound ls (t.Var i) u h = whole h
side_sound ls e u h = plain_side ls e (base_of ls None e) u (λ w g. base_of_sound ls None e w g) h

side_whole : (ls : List BType) (i : ℕ) (u : BType) → SideHasType ls (t.Var i) u → slice_get ls i ≡ Some u
side_whole ls i u (whole h) = h
side_whole ls i u (value (var h)) = h

side_complete : (ls : List BType) (e : t.BExpr) (u : BType) → SideHasType ls e u → side_type ls e ≡ Some u
side_complete ls (t.Var i) u h = side_whole ls i u h
side_complete ls e u (value h) = ap (λ o. then_some o (λ w. Some (plain_type w))) (base_of_complete h)

record IsPut (u : Option BType) (keys : Option (List BBase)) (o : Option BBase) : Type 0 where
  key : BBase
  rest : List BBase
  base : BBase
  is_map : u ≡ Some (map_type key rest base)
  indices : keys ≡ Some (key ∷ rest)
  value : o ≡ Some base

from_put : (u : Option BType) (keys : Option (List BBase)) (o : Option BBase) → is_put u keys o ≡ true → IsPut u keys o
from_put u keys (Some w) h =
    let p = from_then keys _ w (from_base _ w h) in
    let l = from_then u _ w p.2 in
    let x = from_indexed l.0.keys l.0.base p.0 w l.2 in
    record { key = x.key; rest = x.rest; base = w; is_map = l.1 ∙ (λ i. Some (record { keys = x.keys i; base = x.base i })); indices = p.1 ∙ ap Some x.indices; value = refl }
from_put u keys None h = absurd (cc)

from_is_some : {X : Type 0} (o : Option X) → is_some o ≡ true → (x : X) × (o ≡ Some x)
from_is_some (Some x) h = (x, refl)
from_is_some None h = absurd (cc)

mutual
  pub stmt_sound : (ls : List BType) (x : s.BStmt) → is_typed_stmt ls x ≡ true → IsTypedStmt ls x
  stmt_sound ls (s.Assign i e) h = let p = from_type (slice_get ls i) (side_type ls e) h in assign p.1 (side_sound ls e p.0 p.2)
  stmt_sound ls (s.Put i es e) h =
      let p = from_put (slice_get ls i) (bases_of ls None es) (base_of ls None e) h in
      put p.is_map (bases_of_sound ls None es _ p.indices) (base_of_sound ls None e _ p.value)
  stmt_sound ls (s.Havoc i) h = let p = from_is_some (slice_get ls i) h in havoc p.1
  stmt_sound ls (s.Assume e) h = assume_ (base_of_sound ls None e base.Bool (from_base _ base.Bool h))
  stmt_sound ls (s.Assert l e) h = assert_ (base_of_sound ls None e base.Bool (from_base _ base.Bool h))
  stmt_sound ls (s.If e xs ys) h =
      let p = and_parts (is_base (base_of ls None e) base.Bool) (is_typed ls xs && is_typed ls ys) h in
      let q = and_parts (is_typed ls xs) (is_typed ls ys) p.1 in
      if_ (base_of_sound ls None e base.Bool (from_base _ base.Bool p.0)) (stmts_sound ls xs q.0) (stmts_sound ls ys q.1)
  stmt_sound ls (s.Either xs ys) h = let q = and_parts (is_typed ls xs) (is_typed ls ys) h in either (stmts_sound ls xs q.0) (stmts_sound ls ys q.1)

  pub stmts_sound : (ls : List BType) (xs : s.BStmts) → is_typed ls xs ≡ true → IsTyped ls xs
  stmts_sound ls s.skip h = skip
  stmts_sound ls (s.first x xs) h = let q = and_parts (is_typed_stmt ls x) (is_typed ls xs) h in first (stmt_sound ls x q.0) (stmts_sound ls xs q.1)

base_given : {o : Option BBase} {u : BBase} → o ≡ Some u → is_base o u ≡ true
base_given {u = u} h = rw h (same_base_itself u)

pub put_given : {u : Option BType} {keys : Option (List BBase)} {o : Option BBase} {k : BBase} {ks : List BBase} {w : BBase} → u ≡ Some (map_type k ks w) → keys ≡ Some (k ∷ ks) → o ≡ Some w →
    is_put u keys o ≡ true
put_given {k = k} {ks = ks} {w = w} h g f = rw (h, g, f) (base_given (indexed_itself k ks w))

mutual
  pub stmt_complete : {ls : List BType} {x : s.BStmt} → IsTypedStmt ls x → is_typed_stmt ls x ≡ true
  stmt_complete {ls} (assign {e = e} {u = u} h v) = rw (h, side_complete ls e u v) (same_type_itself u)
  stmt_complete (put h es e) = put_given h (bases_of_complete es) (base_of_complete e)
  stmt_complete (havoc h) = rw h refl
  stmt_complete (assume_ e) = base_given (base_of_complete e)
  stmt_complete (assert_ e) = base_given (base_of_complete e)
  stmt_complete (if_ e xs ys) = and_true (base_given (base_of_complete e)) (and_true (stmts_complete xs) (stmts_complete ys))
  stmt_complete (either xs ys) = and_true (stmts_complete xs) (stmts_complete ys)

  pub stmts_complete : {ls : List BType} {xs : s.BStmts} → IsTyped ls xs → is_typed ls xs ≡ true
  stmts_complete skip = refl
  stmts_complete (first x xs) = and_true (stmt_complete x) (stmts_complete xs)

pub Decides-is_typed : (ls : List BType) (xs : s.BStmts) → Decides (is_typed ls xs) (IsTyped ls xs)
Decides-is_typed ls xs = (stmts_sound ls xs, λ h. stmts_complete h)
