-- The locals that code declares have key types: they are no maps, or the maps of a state.
use Rattle.std.proofs.Common.{◌≡◌, ◌≢◌, ℕ, Bool, true, false, List, [], ◌∷◌, ◌++◌, Some, map, All, refl, sym, subst, if◌then◌else◌}
use Rattle.std.proofs.lemmas.List.Elements.{All-nil, All-cons, All-append, All-map, All-weaker}
use Rattle.vb_base.specs.declared.labels.Kind.TheVariants as kind
use Rattle.vb_base.specs.declared.places.Pos.{Pos}
use Rattle.vb_value.specs.declared.values.Ty.{Ty}
use Rattle.vb_value.specs.declared.values.Ty.TheVariants as ty
use Rattle.viper_core.specs.declared.exprs.Op.{Op}
use Rattle.viper_core.specs.Expr as e
use Rattle.viper_core.specs.Program.{Program, Predicate}
use Rattle.viper_core.specs.Formed.{IsPredicate, IsTypedProgram}
use Rattle.viper_meaning.specs.Operators.{Class, Lazy, Division, Plain, class_of}
use Rattle.boogie_tree.specs.Expr as t
use Rattle.boogie_tree.specs.Stmt as s
use Rattle.boogie_tree.specs.Stmt.{BStmts}
use Rattle.boogie_tree.specs.Program.{BType}
use Rattle.boogie_tree.specs.declared.exprs.BBase.{BBase}
use Rattle.boogie_tree.specs.declared.exprs.BBase.TheVariants as base
use Rattle.boogie_tree.specs.Values.{plain_type, is_key, AreKeys}
use Rattle.boogie_meaning.specs.Programs.{HaveKeys}
use Rattle.enc_expr.specs.Place.{Place, number, with_now, with_vars}
use Rattle.moves.specs.Scalars.{base_for}
use Rattle.moves.specs.Maps.{index_types, heap_type, mask_type, amount_type, content_type, state_types}
use Rattle.enc_expr.specs.Kinds.{Kinds, type_at, body_kinds}
use Rattle.enc_expr.specs.Code.{Emitting, join, gives, then_emit, declares, declares_all, Guard, puts, guards}
use Rattle.enc_expr.specs.Pieces.{Operand, Located, is_atom, in_local, atomic, located_from, located, index, at_one, one, label, zero_real, check_divisor}
use Rattle.enc_expr.specs.Operators.{operand_of, quotient_operand, division, right_counts, lazy_operand, lazily, in_class_code, chosen_operand, choose_code}
use Rattle.enc_expr.specs.Encoding.{read_checks, read_code, maps_from, copy_state, taking, is_unit, fill_place_code, fill_instance_code, fill_by, acc_code, instance_code, pair_code, code, unfolding_code, codes, amount_code, body_code}

-- whatever the number of its first local is
pub record IsKeyed {X : Type 0} (m : Emitting X) : Type 0 where
  pub keys : (n : ℕ) → HaveKeys (m n).locals

abbrev has_keys : BType → Type 0
has_keys u = AreKeys u.keys

-- ---- by the ways of writing

pub gives_keyed : {X : Type 0} (x : X) → IsKeyed (gives x)
gives_keyed x = record { keys = λ n. All-nil has_keys }

pub then_keyed : {X Y : Type 0} {m : Emitting X} {go : X → Emitting Y} → IsKeyed m → ((x : X) → IsKeyed (go x)) → IsKeyed (then_emit m go)
then_keyed {m = m} {go = go} h g = record { keys = λ n. All-append has_keys (m n).locals (go (m n).value (m n).next).locals (h.keys n) ((g (m n).value).keys (m n).next) }

pub plain_keyed : (u : BBase) → IsKeyed (declares (plain_type u))
plain_keyed u = record { keys = λ n. All-cons has_keys (plain_type u) [] (All-nil (λ w. is_key w ≡ true)) (All-nil has_keys) }

pub all_keyed : (us : List BType) → HaveKeys us → IsKeyed (declares_all us)
all_keyed us h = record { keys = λ n. h }

pub puts_keyed : (g : Guard) (xs : BStmts) → IsKeyed (puts g xs)
puts_keyed g xs = record { keys = λ n. All-nil has_keys }

pub guards_keyed : (g : Guard) (x : t.BExpr) → IsKeyed (guards g x)
guards_keyed g x = record { keys = λ n. All-cons has_keys (plain_type base.Bool) [] (All-nil (λ w. is_key w ≡ true)) (All-nil has_keys) }

in_local_keyed : (x : Operand) → IsKeyed (in_local x)
in_local_keyed x = then_keyed (plain_keyed x.base) (λ i. gives_keyed (record { expr = t.Var i; sets = s.first (s.Assign i x.expr) s.skip }))

pub atomic_keyed : (x : Operand) → IsKeyed (atomic x)
atomic_keyed x = either (is_atom x.expr)
  where
    either : (q : Bool) → IsKeyed (λ n. if q then gives (record { expr = x.expr; sets = s.skip }) n else in_local x n)
    either true = gives_keyed (record { expr = x.expr; sets = s.skip })
    either false = in_local_keyed x

located_from_keyed : (x : Operand) (a : t.BExpr) → IsKeyed (located_from x a)
located_from_keyed x (t.Var i) = gives_keyed (record { locals = i ∷ []; sets = s.skip })
located_from_keyed x a = new_local x
  where
    new_local : (x : Operand) → IsKeyed {X = Located} (then_emit (declares (plain_type x.base)) (λ i. gives (record { locals = i ∷ []; sets = s.first (s.Assign i x.expr) s.skip })))
    new_local x = then_keyed (plain_keyed x.base) (λ i. gives_keyed (record { locals = i ∷ []; sets = s.first (s.Assign i x.expr) s.skip }))

pub located_keyed : (xs : List Operand) → IsKeyed (located xs)
located_keyed [] = gives_keyed (record { locals = []; sets = s.skip })
located_keyed (x ∷ xs) = then_keyed (located_from_keyed x x.expr) (λ a. then_keyed (located_keyed xs) (λ rest. gives_keyed (record { locals = a.locals ++ rest.locals; sets = join a.sets rest.sets })))

-- ---- operators

division_keyed : (p : Place) (g : Guard) (o : Op) (at : Pos) (x y : Operand) → IsKeyed (division p g o at x y)
division_keyed p g o at x y = then_keyed (atomic_keyed y) (λ d.
    then_keyed {go = λ u. gives (quotient_operand o x d.expr)} (puts_keyed g (join d.sets (check_divisor (label p at kind.Div) d.expr))) (λ u. gives_keyed (quotient_operand o x d.expr)))

lazily_keyed : (g : Guard) (o : Op) (x : Operand) (right : Guard → Emitting Operand) → ((h : Guard) → IsKeyed (right h)) → IsKeyed (lazily g o x right)
lazily_keyed g o x right go = then_keyed (guards_keyed g (right_counts o x.expr)) (λ h. then_keyed (go (Some h)) (λ y. gives_keyed (lazy_operand o h y)))

in_class_keyed : (class : Class) (p : Place) (g : Guard) (o : Op) (at : Pos) (left : Emitting Operand) (right : Guard → Emitting Operand) → IsKeyed left → ((h : Guard) → IsKeyed (right h)) →
    IsKeyed (in_class_code class p g o at left right)
in_class_keyed Lazy p g o at left right h go = then_keyed h (λ x. lazily_keyed g o x right go)
in_class_keyed Division p g o at left right h go = then_keyed h (λ x. then_keyed (go g) (λ y. division_keyed p g o at x y))
in_class_keyed Plain p g o at left right h go = then_keyed h (λ x. then_keyed (go g) (λ y. gives_keyed (operand_of o x y)))

pub choose_keyed : {X Y : Type 0} (g : Guard) (x : t.BExpr) (left right : Guard → Emitting X) (both : ℕ → X → X → Y) → ((h : Guard) → IsKeyed (left h)) → ((h : Guard) → IsKeyed (right h)) →
    IsKeyed (choose_code g x left right both)
choose_keyed g x left right both go to = then_keyed (guards_keyed g x) (λ h. then_keyed (guards_keyed g (t.Not (t.Var h))) (λ k. then_keyed (go (Some h)) (λ v. then_keyed (to (Some k)) (λ w. gives_keyed (both h v w)))))

-- ---- places and instances

read_keyed : (k : Kinds) (p : Place) (g : Guard) (f : ℕ) (at : Pos) (x : Operand) → IsKeyed (read_code k p g f at x)
read_keyed k p g f at x = then_keyed (atomic_keyed x) (λ r. then_keyed {go = λ u. gives (record { expr = at_one (number p.now.heap f) r.expr; base = base_for (type_at k.layout.fields f) })}
    (puts_keyed g (join r.sets (read_checks p f at r.expr))) (λ u. gives_keyed (record { expr = at_one (number p.now.heap f) r.expr; base = base_for (type_at k.layout.fields f) })))

acc_keyed : (k : Kinds) (p : Place) (g : Guard) (scale : t.BExpr) (f : ℕ) (at : Pos) (from : ℕ) (x q : Operand) → IsKeyed (acc_code k p g scale f at from x q)
acc_keyed k p g scale f at from x q = then_keyed (atomic_keyed x) (λ r. then_keyed (atomic_keyed q) (λ a. then_keyed (plain_keyed (base_for (type_at k.layout.fields f))) (λ v.
    puts_keyed g (join r.sets (join a.sets (fill_by p at a.expr from (fill_place_code p scale (type_at k.layout.fields f) f r.expr a.expr v from)))))))

instance_keyed : (p : Place) (g : Guard) (scale : t.BExpr) (q : ℕ) (at : Pos) (from : ℕ) (xs : List Operand) (m : Operand) → IsKeyed (instance_code p g scale q at from xs m)
instance_keyed p g scale q at from xs m = then_keyed (located_keyed xs) (λ l. then_keyed (atomic_keyed m) (λ a.
    puts_keyed g (join l.sets (join a.sets (fill_by p at a.expr from (fill_instance_code p scale q (index l.locals) a.expr from))))))

-- ---- the maps of a state

is_index : (u : Ty) → u ≢ ty.Perm → is_key (base_for u) ≡ true
is_index ty.Int h = refl
is_index ty.Bool h = refl
is_index ty.Ref h = refl
is_index ty.Perm h = absurd (h refl)

-- parameters of predicates are no permissions
indices : (us : List Ty) → All (λ u. u ≢ ty.Perm) us → AreKeys (index_types us)
indices [] h = All-cons (λ w. is_key w ≡ true) base.Int [] refl (All-nil (λ w. is_key w ≡ true))
indices (u ∷ us) h = All-map (λ w. is_key w ≡ true) base_for (u ∷ us) (All-weaker (λ u. u ≢ ty.Perm) (λ u. is_key (base_for u) ≡ true) is_index (u ∷ us) h)

reference : AreKeys (base.Ref ∷ [])
reference = All-cons (λ w. is_key w ≡ true) base.Ref [] refl (All-nil (λ w. is_key w ≡ true))

pub states_keyed : (p : Program) → IsTypedProgram p → HaveKeys (state_types p.layout)
states_keyed p h = All-append has_keys (heaps ++ masks ++ amounts) contents (All-append has_keys (heaps ++ masks) amounts (All-append has_keys heaps masks
    (All-map has_keys heap_type p.layout.fields (λ k d within. reference)) (All-map has_keys mask_type p.layout.fields (λ k d within. reference)))
    (All-map has_keys amount_type p.layout.keys keyed)) (All-map has_keys content_type p.layout.keys keyed)
  where
    heaps : List BType
    heaps = map heap_type p.layout.fields

    masks : List BType
    masks = map mask_type p.layout.fields

    amounts : List BType
    amounts = map amount_type p.layout.keys

    contents : List BType
    contents = map content_type p.layout.keys

    keyed : All (λ us. AreKeys (index_types us)) p.layout.keys
    keyed = subst (λ kss. All (λ us. AreKeys (index_types us)) kss) (sym h.layout.keys) (All-map (λ us. AreKeys (index_types us)) (λ (d : Predicate). d.params) p.predicates
        (All-weaker (IsPredicate p) (λ d. AreKeys (index_types d.params)) (λ d k. indices d.params k.params) p.predicates h.predicates))

-- ---- the code

mutual
  pub code_keyed : (k : Kinds) (p : Place) (g : Guard) (a : e.Expr) → HaveKeys (state_types k.layout) → IsKeyed (code k p g a)
  code_keyed k p g (e.Var x) h = gives_keyed (record { expr = t.Var (number p.vars x); base = base_for (type_at k.vars x) })
  code_keyed k p g (e.Int n) h = gives_keyed (record { expr = t.Int n; base = base.Int })
  code_keyed k p g (e.Bool b) h = gives_keyed (record { expr = t.Bool b; base = base.Bool })
  code_keyed k p g e.Null h = gives_keyed (record { expr = t.Null; base = base.Ref })
  code_keyed k p g (e.Part q) h = gives_keyed (record { expr = t.Real q.num; base = base.Real })
  code_keyed k p g (e.Neg a) h = then_keyed (code_keyed k p g a h) (λ x. gives_keyed (record { expr = t.Neg x.expr; base = x.base }))
  code_keyed k p g (e.Not a) h = then_keyed (code_keyed k p g a h) (λ x. gives_keyed (record { expr = t.Not x.expr; base = base.Bool }))
  code_keyed k p g (e.Bin o a b at) h = in_class_keyed (class_of o) p g o at (code k p g a) (λ m. code k p m b) (code_keyed k p g a h) (λ m. code_keyed k p m b h)
  code_keyed k p g (e.Choose c a b) h = then_keyed (code_keyed k p g c h) (λ x. choose_keyed g x.expr (λ m. code k p m a) (λ m. code k p m b) chosen_operand (λ m. code_keyed k p m a h) (λ m. code_keyed k p m b h))
  code_keyed k p g (e.Field a f at) h = then_keyed (code_keyed k p g a h) (λ x. read_keyed k p g f at x)
  code_keyed k p g (e.Old a) h = code_keyed k (with_now p.old p) g a h
  code_keyed k p g (e.Unfolding o) h = unfolding_keyed k p g o h

  unfolding_keyed : (k : Kinds) (p : Place) (g : Guard) (o : e.Opened) → HaveKeys (state_types k.layout) → IsKeyed (unfolding_code k p g o)
  unfolding_keyed k p g (e.opened q args amount body inner at) h = then_keyed (codes_keyed k p g args h) (λ xs. then_keyed (code_keyed k p g amount h) (λ m.
      then_keyed (located_keyed xs) (λ l. then_keyed (atomic_keyed m) (λ a. then_keyed (all_keyed (state_types k.layout) h) (λ n. then_keyed (plain_keyed base.Snap) (λ from.
      then_keyed (puts_keyed g (join l.sets (join a.sets (taking p (maps_from k.layout n) (copy_state (maps_from k.layout n) p.now) q (index l.locals) a.expr from at)))) (λ u.
      then_keyed (body_keyed (body_kinds k q) (with_now (maps_from k.layout n) (with_vars l.locals p)) g a.expr body from h) (λ u.
      code_keyed k (with_now (maps_from k.layout n) p) g inner h))))))))

  pub codes_keyed : (k : Kinds) (p : Place) (g : Guard) (xs : e.Exprs) → HaveKeys (state_types k.layout) → IsKeyed (codes k p g xs)
  codes_keyed k p g e.none h = gives_keyed []
  codes_keyed k p g (e.more a rest) h = then_keyed (code_keyed k p g a h) (λ x. then_keyed (codes_keyed k p g rest h) (λ xs. gives_keyed (x ∷ xs)))

  pub amount_keyed : (k : Kinds) (p : Place) (g : Guard) (m : e.Amt) → HaveKeys (state_types k.layout) → IsKeyed (amount_code k p g m)
  amount_keyed k p g (e.Is a) h = code_keyed k p g a h
  amount_keyed k p g e.Wildcard h = gives_keyed (record { expr = zero_real; base = base.Real })

  pub body_keyed : (k : Kinds) (p : Place) (g : Guard) (scale : t.BExpr) (a : e.Assertion) (from : ℕ) → HaveKeys (state_types k.layout) → IsKeyed (body_code k p g scale a from)
  body_keyed k p g scale (e.Fact a at) from h = then_keyed (code_keyed k p g a h) (λ x. puts_keyed g (s.first (s.Assume (is_unit from)) (one (s.Assume x.expr))))
  body_keyed k p g scale (e.Acc a f m at) from h = then_keyed (code_keyed k p g a h) (λ x. then_keyed (amount_keyed k p g m h) (λ q. acc_keyed k p g scale f at from x q))
  body_keyed k p g scale (e.Inst q args m at) from h = then_keyed (codes_keyed k p g args h) (λ xs. then_keyed (amount_keyed k p g m h) (λ x. instance_keyed p g scale q at from xs x))
  body_keyed k p g scale (e.And a b) from h = then_keyed (plain_keyed base.Snap) (λ l. then_keyed (plain_keyed base.Snap) (λ r. then_keyed (puts_keyed g (pair_code from l r)) (λ u.
      then_keyed (body_keyed k p g scale a l h) (λ u. body_keyed k p g scale b r h))))
  body_keyed k p g scale (e.Implies c a) from h = then_keyed (code_keyed k p g c h) (λ x.
      choose_keyed g x.expr (λ m. body_code k p m scale a from) (λ m. puts m (one (s.Assume (is_unit from)))) (λ m u v. tt) (λ m. body_keyed k p m scale a from h) (λ m. puts_keyed m (one (s.Assume (is_unit from)))))
  body_keyed k p g scale (e.ChooseAssertion c a b) from h = then_keyed (code_keyed k p g c h) (λ x.
      choose_keyed g x.expr (λ m. body_code k p m scale a from) (λ m. body_code k p m scale b from) (λ m u v. tt) (λ m. body_keyed k p m scale a from h) (λ m. body_keyed k p m scale b from h))
