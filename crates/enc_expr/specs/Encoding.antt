-- The code of expressions, and of producing the body of a predicate from what an instance contains. It is flat: a part that
-- counts only under a condition is written under a guard, a local that is true just where the part counts.
use Rattle.std.specs.Prelude.{⊤, ℕ, ◌+◌, List, [], ◌∷◌, length}
use Rattle.std.specs.List.{range_with_len}
use Rattle.vb_base.specs.declared.labels.Label.{Label}
use Rattle.vb_base.specs.declared.labels.Kind.TheVariants as kind
use Rattle.vb_base.specs.declared.places.Pos.{Pos}
use Rattle.vb_value.specs.Layout.{Layout}
use Rattle.vb_value.specs.declared.values.Ty.{Ty}
use Rattle.vb_value.specs.declared.values.Ty.TheVariants as ty
use Rattle.viper_core.specs.Expr as e
use Rattle.boogie_tree.specs.Expr as t
use Rattle.boogie_tree.specs.Stmt as s
use Rattle.boogie_tree.specs.declared.exprs.BBase.TheVariants as base
use Rattle.boogie_tree.specs.declared.exprs.BOp.TheVariants as op
use Rattle.boogie_tree.specs.Values.{plain_type}
use Rattle.enc_expr.specs.Place.{Maps, Place, number, with_now, with_vars}
use Rattle.moves.specs.Scalars.{base_for, variable_type}
use Rattle.moves.specs.Maps.{state_types}
use Rattle.enc_expr.specs.Kinds.{Kinds, type_at, body_kinds}
use Rattle.enc_expr.specs.Code.{Emitting, join, gives, then_emit, declares, declares_all, Guard, puts}
use Rattle.enc_expr.specs.Pieces.{Operand, Atom, Located, atomic, located, index, at_one, one, label, zero_real, one_real, check_nonnegative, check_positive, scaled, if_positive, add_to}
use Rattle.enc_expr.specs.Operators.{binary_code, chosen_operand, choose_code}

-- ---- reading a field

-- null has no fields, and some permission is needed. Null is tested first.
abbrev pub read_checks : Place → ℕ → Pos → t.BExpr → s.BStmts
read_checks p f at x =
    s.first (s.Assert (label p at kind.Null) (t.Bin op.Ne x t.Null)) (one (s.Assert (label p at kind.Perm) (t.Bin op.Ne (at_one (number p.now.mask f) x) zero_real)))

abbrev pub read_code : Kinds → Place → Guard → ℕ → Pos → Operand → Emitting Operand
read_code k p g f at x =
    then_emit (atomic x) (λ r. then_emit (puts g (join r.sets (read_checks p f at r.expr))) (λ u.
    gives (record { expr = at_one (number p.now.heap f) r.expr; base = base_for (type_at k.layout.fields f) })))

-- ---- opening an instance

-- maps of a state of their own, the first of which has this number
abbrev pub maps_from : Layout → ℕ → Maps
maps_from layout n =
    let fields = length layout.fields in let predicates = length layout.keys in
    record {
      heap = range_with_len n fields;
      mask = range_with_len (n + fields) fields;
      amount = range_with_len (n + fields + fields) predicates;
      content = range_with_len (n + fields + fields + predicates) predicates;
    }

-- the first locals get the values of the second, from number i on
abbrev pub copies : List ℕ → List ℕ → ℕ → s.BStmts
copies [] ys i = s.skip
copies (x ∷ xs) ys i = s.first (s.Assign x (t.Var (number ys i))) (copies xs ys (i + 1))

abbrev pub copy_state : Maps → Maps → s.BStmts
copy_state m l = join (copies m.heap l.heap 0) (join (copies m.mask l.mask 0) (join (copies m.amount l.amount 0) (copies m.content l.content 0)))

-- so much is held
abbrev pub held_check : Label → ℕ → t.BExprs → t.BExpr → s.BStmts
held_check l m key amount = one (s.Assert l (t.Bin op.Ge (t.At m key) amount))

-- so much less is held
abbrev pub taken_amount : ℕ → t.BExprs → t.BExpr → s.BStmts
taken_amount m key amount = one (s.Put m key (t.Bin op.Sub (t.At m key) amount))

-- So much of the instance is taken from maps that hold the present state, which the first statements see to. Its content is
-- taken out at once, since the body may write the same map.
abbrev pub taking : Place → Maps → s.BStmts → ℕ → t.BExprs → t.BExpr → ℕ → Pos → s.BStmts
taking p m sets q key amount from at =
    join (check_positive (label p at kind.Amount) amount) (join (held_check (label p at kind.Perm) (number p.now.amount q) key amount) (
    join sets (join (taken_amount (number m.amount q) key amount) (one (s.Assign from (t.At (number m.content q) key))))))

-- ---- filling from a content

abbrev pub is_unit : ℕ → t.BExpr
is_unit from = t.Bin op.Eq (t.Var from) t.Unit

-- the content of a place with the value of an expression
abbrev pub leaf : Ty → t.BExpr → t.BExpr
leaf ty.Int x = t.SInt x
leaf ty.Bool x = t.SBool x
leaf ty.Ref x = t.SRef x
leaf ty.Perm x = t.SPerm x

-- what is held stays as it is
abbrev pub same_where_held : t.BExpr → t.BExpr → t.BExpr → s.BStmt
same_where_held held old new = s.Assume (t.Bin op.Implies (t.Bin op.Ne held zero_real) (t.Bin op.Eq old new))

-- A value of the field is taken from the content. Null is tested first.
abbrev pub take_value : Ty → t.BExpr → ℕ → ℕ → s.BStmts
take_value u x v from = s.first (s.Assume (t.Bin op.Ne x t.Null)) (s.first (s.Havoc v) (one (s.Assume (t.Bin op.Eq (t.Var from) (leaf u (t.Var v))))))

-- what is held stays as it is, and the value is written also there
abbrev pub set_value : ℕ → ℕ → t.BExprs → ℕ → s.BStmts
set_value held m key v = s.first (same_where_held (t.At held key) (t.At m key) (t.Var v)) (one (s.Put m key (t.Var v)))

-- a place by a positive amount
abbrev pub fill_place_code : Place → t.BExpr → Ty → ℕ → t.BExpr → t.BExpr → ℕ → ℕ → s.BStmts
fill_place_code p scale u f x q v from =
    let heap = number p.now.heap f in let mask = number p.now.mask f in let key = t.more x t.none in
    join (take_value u x v from) (join (set_value mask heap key v) (join (add_to mask key (scaled scale q)) (one (s.Assume (t.Bin op.Le (t.At mask key) one_real)))))

-- an instance by a positive amount
abbrev pub fill_instance_code : Place → t.BExpr → ℕ → t.BExprs → t.BExpr → ℕ → s.BStmts
fill_instance_code p scale q key amount from =
    join (set_value (number p.now.amount q) (number p.now.content q) key from) (add_to (number p.now.amount q) key (scaled scale amount))

-- by an amount, which is not negative: nothing is filled by an amount of none, and from Unit alone
abbrev pub filled_by : Label → t.BExpr → ℕ → s.BStmts → s.BStmts
filled_by l q from fill = join (check_nonnegative l q) (if_positive q fill (one (s.Assume (is_unit from))))

abbrev pub fill_by : Place → Pos → t.BExpr → ℕ → s.BStmts → s.BStmts
fill_by p at = filled_by (label p at kind.Negative)

abbrev pub acc_code : Kinds → Place → Guard → t.BExpr → ℕ → Pos → ℕ → Operand → Operand → Emitting ⊤
acc_code k p g scale f at from x q =
    let u = type_at k.layout.fields f in
    then_emit (atomic x) (λ r. then_emit (atomic q) (λ a. then_emit (declares (variable_type u)) (λ v.
    puts g (join r.sets (join a.sets (fill_by p at a.expr from (fill_place_code p scale u f r.expr a.expr v from)))))))

abbrev pub instance_code : Place → Guard → t.BExpr → ℕ → Pos → ℕ → List Operand → Operand → Emitting ⊤
instance_code p g scale q at from xs m =
    then_emit (located xs) (λ l. then_emit (atomic m) (λ a.
    puts g (join l.sets (join a.sets (fill_by p at a.expr from (fill_instance_code p scale q (index l.locals) a.expr from))))))

-- the content is a pair, whose parts two new locals get
abbrev pub pair_code : ℕ → ℕ → ℕ → s.BStmts
pair_code from l r = s.first (s.Havoc l) (s.first (s.Havoc r) (one (s.Assume (t.Bin op.Eq (t.Var from) (t.Pair (t.Var l) (t.Var r))))))

-- ---- opening

-- An instance is opened in copies of the present maps, once its arguments are in locals and its amount is an atom. The continuation is
-- handed the copies, and the local of the content.
abbrev pub opening_code : {X : Type 0} → Layout → Place → Guard → ℕ → Pos → Located → Atom → (Maps → ℕ → Emitting X) → Emitting X
opening_code layout p g q at l a go =
    then_emit (declares_all (state_types layout)) (λ n. then_emit (declares (plain_type base.Snap)) (λ from.
    then_emit (puts g (join l.sets (join a.sets (taking p (maps_from layout n) (copy_state (maps_from layout n) p.now) q (index l.locals) a.expr from at)))) (λ u.
    go (maps_from layout n) from)))

-- ---- the code

abbrev mutual
  -- of an expression, which is read at a place, under a guard
  pub code : Kinds → Place → Guard → e.Expr → Emitting Operand
  code k p g (e.Var x) = gives (record { expr = t.Var (number p.vars x); base = base_for (type_at k.vars x) })
  code k p g (e.Int n) = gives (record { expr = t.Int n; base = base.Int })
  code k p g (e.Bool b) = gives (record { expr = t.Bool b; base = base.Bool })
  code k p g e.Null = gives (record { expr = t.Null; base = base.Ref })
  code k p g (e.Part q) = gives (record { expr = t.Real q.num; base = base.Real })
  code k p g (e.Neg a) = then_emit (code k p g a) (λ x. gives (record { expr = t.Neg x.expr; base = x.base }))
  code k p g (e.Not a) = then_emit (code k p g a) (λ x. gives (record { expr = t.Not x.expr; base = base.Bool }))
  code k p g (e.Bin o a b at) = binary_code p g o at (code k p g a) (λ h. code k p h b)
  code k p g (e.Choose c a b) = then_emit (code k p g c) (λ x. choose_code g x.expr (λ h. code k p h a) (λ h. code k p h b) chosen_operand)
  code k p g (e.Field a f at) = then_emit (code k p g a) (read_code k p g f at)
  code k p g (e.Old a) = code k (with_now p.old p) g a
  code k p g (e.Unfolding o) = unfolding_code k p g o

  -- the inner expression is read in maps of its own, in which the instance is opened
  pub unfolding_code : Kinds → Place → Guard → e.Opened → Emitting Operand
  unfolding_code k p g (e.opened q args amount body inner at) =
      then_emit (codes k p g args) (λ xs. then_emit (code k p g amount) (λ m.
      then_emit (located xs) (λ l. then_emit (atomic m) (λ a. opening_code k.layout p g q at l a (λ own from.
      then_emit (body_code (body_kinds k q) (with_now own (with_vars l.locals p)) g a.expr body from) (λ u. code k (with_now own p) g inner))))))

  -- of arguments, from left to right
  pub codes : Kinds → Place → Guard → e.Exprs → Emitting (List Operand)
  codes k p g e.none = gives []
  codes k p g (e.more a rest) = then_emit (code k p g a) (λ x. then_emit (codes k p g rest) (λ xs. gives (x ∷ xs)))

  -- of the amount of an accessibility predicate; that of a `wildcard`, which is chosen later, is 0 here
  pub amount_code : Kinds → Place → Guard → e.Amt → Emitting Operand
  amount_code k p g (e.Is a) = code k p g a
  amount_code k p g e.Wildcard = gives (record { expr = zero_real; base = base.Real })

  -- of producing an assertion from the content in a local, its amounts times a scale
  pub body_code : Kinds → Place → Guard → t.BExpr → e.Assertion → ℕ → Emitting ⊤
  body_code k p g scale (e.Fact a at) from = then_emit (code k p g a) (λ x. puts g (s.first (s.Assume (is_unit from)) (one (s.Assume x.expr))))
  body_code k p g scale (e.Acc a f m at) from = then_emit (code k p g a) (λ x. then_emit (amount_code k p g m) (acc_code k p g scale f at from x))
  body_code k p g scale (e.Inst q args m at) from = then_emit (codes k p g args) (λ xs. then_emit (amount_code k p g m) (instance_code p g scale q at from xs))
  body_code k p g scale (e.And a b) from =
      then_emit (declares (plain_type base.Snap)) (λ l. then_emit (declares (plain_type base.Snap)) (λ r. then_emit (puts g (pair_code from l r)) (λ u.
      then_emit (body_code k p g scale a l) (λ u. body_code k p g scale b r))))
  body_code k p g scale (e.Implies c a) from =
      then_emit (code k p g c) (λ x. choose_code g x.expr (λ h. body_code k p h scale a from) (λ h. puts h (one (s.Assume (is_unit from)))) (λ h u v. tt))
  body_code k p g scale (e.ChooseAssertion c a b) from =
      then_emit (code k p g c) (λ x. choose_code g x.expr (λ h. body_code k p h scale a from) (λ h. body_code k p h scale b from) (λ h u v. tt))

-- the body and the inner expression of an `unfolding`, in these maps
abbrev pub inside_code : Kinds → Place → Guard → e.Opened → List ℕ → Maps → t.BExpr → ℕ → Emitting Operand
inside_code k p g (e.opened q args amount body inner at) locals m scale from =
    then_emit (body_code (body_kinds k q) (with_now m (with_vars locals p)) g scale body from) (λ u. code k (with_now m p) g inner)

-- the whole, once its arguments are in locals and its amount is an atom
abbrev pub unfolding_at : Kinds → Place → Guard → e.Opened → Located → Atom → Emitting Operand
unfolding_at k p g (e.opened q args amount body inner at) l a = opening_code k.layout p g q at l a (λ own. inside_code k p g (e.opened q args amount body inner at) l.locals own a.expr)
