-- The type of a definition is that which its first parts have.
use Rattle.std.proofs.Common.{◌≡◌, ℕ, Bool as Truth, true, false, Option, Some, None, List, [], ◌∷◌, slice_get, ◌++◌, if◌then◌else◌, refl, ap, ◌∙◌}
use Rattle.std.specs.Option.{option_map}
use Rattle.boogie_tree.specs.Expr as t
use Rattle.boogie_tree.specs.Program.{BType}
use Rattle.boogie_tree.specs.Values.{same_base, same_type, plain_type}
use Rattle.boogie_tree.specs.declared.exprs.BBase.{BBase}
use Rattle.boogie_tree.specs.declared.exprs.BBase.TheVariants as base
use Rattle.boogie_tree.specs.declared.exprs.BOp.{BOp}
use Rattle.boogie_tree.specs.declared.exprs.BOp.TheVariants as op
use Rattle.boogie_meaning.specs.Types.{then_some, base_of, bases_of, given, negated, answer_of, plain_base, indexed, is_base}
use Rattle.boogie_formula.specs.Formula as f
use Rattle.boogie_formula.specs.Formula.{FExpr, FExprs}
use Rattle.boogie_formula.specs.Value.{plain, plain_all, two, three}
use Rattle.boogie_formula.specs.Types.{fbase, one_type, whole_type, defined_types}
use Rattle.cert_check.specs.Kinds.{answered}

-- ---- operators

answer_is : (o : BOp) (w u : BBase) → answer_of o w ≡ Some u → answered o w ≡ u
answer_is op.Iff base.Int u h = absurd (cc)
answer_is op.Iff base.Bool u h = cc
answer_is op.Iff base.Ref u h = absurd (cc)
answer_is op.Iff base.Real u h = absurd (cc)
answer_is op.Iff base.Snap u h = absurd (cc)
answer_is op.Implies base.Int u h = absurd (cc)
answer_is op.Implies base.Bool u h = cc
answer_is op.Implies base.Ref u h = absurd (cc)
answer_is op.Implies base.Real u h = absurd (cc)
answer_is op.Implies base.Snap u h = absurd (cc)
answer_is op.Or base.Int u h = absurd (cc)
answer_is op.Or base.Bool u h = cc
answer_is op.Or base.Ref u h = absurd (cc)
answer_is op.Or base.Real u h = absurd (cc)
answer_is op.Or base.Snap u h = absurd (cc)
answer_is op.And base.Int u h = absurd (cc)
answer_is op.And base.Bool u h = cc
answer_is op.And base.Ref u h = absurd (cc)
answer_is op.And base.Real u h = absurd (cc)
answer_is op.And base.Snap u h = absurd (cc)
answer_is op.Eq w u h = cc
answer_is op.Ne w u h = cc
answer_is op.Lt base.Int u h = cc
answer_is op.Lt base.Bool u h = absurd (cc)
answer_is op.Lt base.Ref u h = absurd (cc)
answer_is op.Lt base.Real u h = cc
answer_is op.Lt base.Snap u h = absurd (cc)
answer_is op.Le base.Int u h = cc
answer_is op.Le base.Bool u h = absurd (cc)
answer_is op.Le base.Ref u h = absurd (cc)
answer_is op.Le base.Real u h = cc
answer_is op.Le base.Snap u h = absurd (cc)
answer_is op.Gt base.Int u h = cc
answer_is op.Gt base.Bool u h = absurd (cc)
answer_is op.Gt base.Ref u h = absurd (cc)
answer_is op.Gt base.Real u h = cc
answer_is op.Gt base.Snap u h = absurd (cc)
answer_is op.Ge base.Int u h = cc
answer_is op.Ge base.Bool u h = absurd (cc)
answer_is op.Ge base.Ref u h = absurd (cc)
answer_is op.Ge base.Real u h = cc
answer_is op.Ge base.Snap u h = absurd (cc)
answer_is op.Add base.Int u h = cc
answer_is op.Add base.Bool u h = absurd (cc)
answer_is op.Add base.Ref u h = absurd (cc)
answer_is op.Add base.Real u h = cc
answer_is op.Add base.Snap u h = absurd (cc)
answer_is op.Sub base.Int u h = cc
answer_is op.Sub base.Bool u h = absurd (cc)
answer_is op.Sub base.Ref u h = absurd (cc)
answer_is op.Sub base.Real u h = cc
answer_is op.Sub base.Snap u h = absurd (cc)
answer_is op.Mul base.Int u h = cc
answer_is op.Mul base.Bool u h = absurd (cc)
answer_is op.Mul base.Ref u h = absurd (cc)
answer_is op.Mul base.Real u h = cc
answer_is op.Mul base.Snap u h = absurd (cc)
answer_is op.Divide base.Int u h = absurd (cc)
answer_is op.Divide base.Bool u h = absurd (cc)
answer_is op.Divide base.Ref u h = absurd (cc)
answer_is op.Divide base.Real u h = cc
answer_is op.Divide base.Snap u h = absurd (cc)
answer_is op.IntDiv base.Int u h = cc
answer_is op.IntDiv base.Bool u h = absurd (cc)
answer_is op.IntDiv base.Ref u h = absurd (cc)
answer_is op.IntDiv base.Real u h = absurd (cc)
answer_is op.IntDiv base.Snap u h = absurd (cc)
answer_is op.IntMod base.Int u h = cc
answer_is op.IntMod base.Bool u h = absurd (cc)
answer_is op.IntMod base.Ref u h = absurd (cc)
answer_is op.IntMod base.Real u h = absurd (cc)
answer_is op.IntMod base.Snap u h = absurd (cc)

negated_is : (o : Option BBase) (u : BBase) → then_some o negated ≡ Some u → o ≡ Some u
negated_is (Some base.Int) u h = h
negated_is (Some base.Real) u h = h
negated_is (Some base.Bool) u h = absurd (cc)
negated_is (Some base.Ref) u h = absurd (cc)
negated_is (Some base.Snap) u h = absurd (cc)
negated_is None u h = absurd (cc)

if_some : {X : Type 0} (p : Truth) (x y : X) → (if p then Some x else None) ≡ Some y → x ≡ y
if_some true x y h = cc
if_some false x y h = absurd (cc)

both : (o : BOp) (p q : Option BBase) (u : BBase) → then_some p (λ w. then_some q (λ v. then_some (given w w v) (answer_of o))) ≡ Some u →
    (w : BBase) × (p ≡ Some w) × (answered o w ≡ u)
both o (Some w) (Some v) u h = (w, refl, at (same_base v w) h)
  where
    at : (s : Truth) → then_some (if s then Some w else None) (answer_of o) ≡ Some u → answered o w ≡ u
    at true g = answer_is o w u g
    at false g = absurd (cc)
both o (Some w) None u h = absurd (cc)
both o None q u h = absurd (cc)

chosen : (c p q : Option BBase) (u : BBase) → then_some c (λ w. then_some (given base.Bool base.Bool w) (λ x. then_some p (λ v. then_some q (given v v)))) ≡ Some u → p ≡ Some u
chosen (Some w) p q u h = at (same_base w base.Bool) h
  where
    sides : (p q : Option BBase) → then_some p (λ v. then_some q (given v v)) ≡ Some u → p ≡ Some u
    sides (Some v) (Some x) g = ap Some (if_some (same_base x v) v u g)
    sides (Some v) None g = absurd (cc)
    sides None q g = absurd (cc)

    at : (s : Truth) → then_some (if s then Some base.Bool else None) (λ x. then_some p (λ v. then_some q (given v v))) ≡ Some u → p ≡ Some u
    at true g = sides p q g
    at false g = absurd (cc)
chosen None p q u h = absurd (cc)

-- ---- the type of what is no map

module _ (ls : List BType) where
  neg_at : (o : Option t.BExpr) (u : BBase) → then_some (option_map t.Neg o) (base_of ls None) ≡ Some u → then_some o (base_of ls None) ≡ Some u
  neg_at (Some a) u h = negated_is (base_of ls None a) u h
  neg_at None u h = absurd (cc)

  pub neg_base : (a : FExpr) (u : BBase) → fbase ls (f.Neg a) ≡ Some u → fbase ls a ≡ Some u
  neg_base a u h = neg_at (plain a) u h

  bin_at : (o : BOp) (p q : Option t.BExpr) (u : BBase) → then_some (two (t.Bin o) p q) (base_of ls None) ≡ Some u →
      (w : BBase) × (then_some p (base_of ls None) ≡ Some w) × (answered o w ≡ u)
  bin_at o (Some a) (Some b) u h = both o (base_of ls None a) (base_of ls None b) u h
  bin_at o (Some a) None u h = absurd (cc)
  bin_at o None q u h = absurd (cc)

  pub bin_base : (o : BOp) (a b : FExpr) (u : BBase) → fbase ls (f.Bin o a b) ≡ Some u → (w : BBase) × (fbase ls a ≡ Some w) × (answered o w ≡ u)
  bin_base o a b u h = bin_at o (plain a) (plain b) u h

  if_at : (c p q : Option t.BExpr) (u : BBase) → then_some (three t.If c p q) (base_of ls None) ≡ Some u → then_some p (base_of ls None) ≡ Some u
  if_at (Some c) (Some a) (Some b) u h = chosen (base_of ls None c) (base_of ls None a) (base_of ls None b) u h
  if_at (Some c) (Some a) None u h = absurd (cc)
  if_at (Some c) None q u h = absurd (cc)
  if_at None p q u h = absurd (cc)

  pub if_base : (c a b : FExpr) (u : BBase) → fbase ls (f.If c a b) ≡ Some u → fbase ls a ≡ Some u
  if_base c a b u h = if_at (plain c) (plain a) (plain b) u h

  -- ---- names

  plain_is : (ks : List BBase) (w u : BBase) → plain_base ks w ≡ Some u → w ≡ u
  plain_is [] w u h = cc
  plain_is (k ∷ ks) w u h = absurd (cc)

  named : (o : Option BType) (u : BBase) → then_some o (λ l. plain_base l.keys l.base) ≡ Some u → (l : BType) × (o ≡ Some l) × (l.base ≡ u)
  named (Some l) u h = (l, refl, plain_is l.keys l.base u h)
  named None u h = absurd (cc)

  pub var_base : (i : ℕ) (u : BBase) → fbase ls (f.Var i) ≡ Some u → (l : BType) × (slice_get ls i ≡ Some l) × (l.base ≡ u)
  var_base i u h = named (slice_get ls i) u h

  placed : (o : Option BType) (us : Option (List BBase)) (u : BBase) → then_some us (λ ks. then_some o (λ l. indexed l.keys l.base ks)) ≡ Some u →
      (l : BType) × (o ≡ Some l) × (l.base ≡ u)
  placed (Some l) (Some us) u h = (l, refl, at l.keys us h)
    where
      at : (ks us : List BBase) → indexed ks l.base us ≡ Some u → l.base ≡ u
      at [] us g = absurd (cc)
      at (k ∷ ks) us g = if_some _ l.base u g
  placed None (Some us) u h = absurd (cc)
  placed o None u h = absurd (cc)

  map_at : (m : ℕ) (o : Option t.BExprs) (u : BBase) → then_some (option_map (t.At m) o) (base_of ls None) ≡ Some u → (l : BType) × (slice_get ls m ≡ Some l) × (l.base ≡ u)
  map_at m (Some es) u h = placed (slice_get ls m) (bases_of ls None es) u h
  map_at m None u h = absurd (cc)

  pub at_base : (m : ℕ) (es : FExprs) (u : BBase) → fbase ls (f.At m es) ≡ Some u → (l : BType) × (slice_get ls m ≡ Some l) × (l.base ≡ u)
  at_base m es u h = map_at m (plain_all es) u h

  -- ---- definitions

  pub scalar_type : (e : FExpr) (r : BBase) (u : BType) → then_some (fbase ls e) (λ w. Some (plain_type w)) ≡ Some u → ((w : BBase) → fbase ls e ≡ Some w → r ≡ w) → Some (plain_type r) ≡ Some u
  scalar_type e r u h g = at (fbase ls e) h g
    where
      at : (o : Option BBase) → then_some o (λ w. Some (plain_type w)) ≡ Some u → ((w : BBase) → o ≡ Some w → r ≡ w) → Some (plain_type r) ≡ Some u
      at (Some w) k g = ap (λ x. Some (plain_type x)) (g w refl) ∙ k
      at None k g = absurd (cc)

  if_whole : (p : Truth) (o q : Option BType) (u : BType) → (if p then then_some o (λ x. then_some q (one_type x)) else None) ≡ Some u → o ≡ Some u
  if_whole true (Some x) (Some y) u h = ap Some (if_some (same_type x y) x u h)
  if_whole true (Some x) None u h = absurd (cc)
  if_whole true None q u h = absurd (cc)
  if_whole false o q u h = absurd (cc)

  pub choice_whole : (c x y : FExpr) (u : BType) → whole_type ls (f.If c x y) ≡ Some u → whole_type ls x ≡ Some u
  choice_whole c x y u h = if_whole (is_base (fbase ls c) base.Bool) (whole_type ls x) (whole_type ls y) u h

-- the first of some definitions has a type, and the others theirs behind it
pub first_type : (ls : List BType) (e : FExpr) (es : List FExpr) (all : List BType) → defined_types (e ∷ es) ls ≡ Some all →
    (u : BType) × (whole_type ls e ≡ Some u) × (defined_types es (ls ++ u ∷ []) ≡ Some all)
first_type ls e es all h = at (whole_type ls e) refl h
  where
    at : (o : Option BType) → whole_type ls e ≡ o → then_some o (λ u. defined_types es (ls ++ u ∷ [])) ≡ Some all →
        (u : BType) × (whole_type ls e ≡ Some u) × (defined_types es (ls ++ u ∷ []) ≡ Some all)
    at (Some u) is g = (u, is, g)
    at None is g = absurd (cc)
