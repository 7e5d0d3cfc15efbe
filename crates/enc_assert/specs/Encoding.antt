-- The code of producing and consuming an assertion, and of forgetting. Like the code of expressions it is flat: a part that
-- counts only under a condition is written under a guard.
use Rattle.std.specs.Prelude.{⊤, ℕ, ◌+◌, List, [], ◌∷◌, Some, None, if◌then◌else◌}
use Rattle.vb_base.specs.declared.labels.Kind.TheVariants as kind
use Rattle.vb_base.specs.declared.places.Pos.{Pos}
use Rattle.vb_value.specs.Layout.{Layout}
use Rattle.vb_value.specs.declared.values.Ty.{Ty}
use Rattle.viper_core.specs.Expr as e
use Rattle.boogie_tree.specs.Expr as t
use Rattle.boogie_tree.specs.Stmt as s
use Rattle.boogie_tree.specs.Program.{BType}
use Rattle.boogie_tree.specs.Values.{plain_type}
use Rattle.boogie_tree.specs.declared.exprs.BBase.TheVariants as base
use Rattle.boogie_tree.specs.declared.exprs.BOp.TheVariants as op
use Rattle.boogie_meaning.specs.Patterns as pattern
use Rattle.enc_expr.specs.Place.{Maps, Place, number}
use Rattle.moves.specs.Maps.{heap_type, content_type}
use Rattle.enc_expr.specs.Kinds.{Kinds}
use Rattle.enc_expr.specs.Code.{Emitting, join, gives, then_emit, declares, Guard, puts, guards}
use Rattle.enc_expr.specs.Pieces.{Operand, atomic, located, index, at_one, one, label, zero_real, one_real, is_one, check_nonnegative, scaled, add_to}
use Rattle.enc_expr.specs.Operators.{choose_code}
use Rattle.enc_expr.specs.Encoding.{code, codes, amount_code, held_check, taken_amount}
use Rattle.enc_assert.specs.Target.{AccessTarget, Field, Instance, Aimed, held_in, key_of}

-- ---- what an accessibility predicate speaks of

abbrev pub field_target : ℕ → Operand → Emitting Aimed
field_target f x = then_emit (atomic x) (λ r. gives (record { target = Field f r.expr; sets = r.sets }))

abbrev pub instance_target : ℕ → List Operand → Emitting Aimed
instance_target q xs = then_emit (located xs) (λ l. gives (record { target = Instance q l.locals; sets = l.sets }))

-- ---- amounts

-- what holds wherever an amount is positive
abbrev pub where_positive : t.BExpr → t.BExpr → t.BExpr
where_positive q x = if is_one q then x else t.Bin op.Implies (t.Bin op.Gt q zero_real) x

-- an amount is chosen, which is positive
abbrev pub some_amount : ℕ → s.BStmts
some_amount w = s.first (s.Havoc w) (one (s.Assume (t.Bin op.Gt (t.Var w) zero_real)))

-- ---- produce

-- so much more is held. Nothing is held of null, and of a place at most 1.
abbrev pub more_held : Maps → t.BExpr → AccessTarget → t.BExpr → s.BStmts
more_held m scale (Field f x) q =
    let held = number m.mask f in
    s.first (s.Assume (where_positive q (t.Bin op.Ne x t.Null))) (join (add_to held (t.more x t.none) (scaled scale q))
    (one (s.Assume (where_positive q (t.Bin op.Le (at_one held x) one_real)))))
more_held m scale (Instance p is) q = add_to (number m.amount p) (index is) (scaled scale q)

-- an amount that is written
abbrev pub gives_code : Place → t.BExpr → Pos → AccessTarget → t.BExpr → s.BStmts
gives_code p scale at x q = join (check_nonnegative (label p at kind.Negative) q) (more_held p.now scale x q)

-- an amount that is chosen
abbrev pub gives_some : Place → t.BExpr → AccessTarget → ℕ → s.BStmts
gives_some p scale x w = join (some_amount w) (more_held p.now scale x (t.Var w))

abbrev pub produce_amount : Place → Guard → t.BExpr → Pos → e.Amt → Operand → Aimed → Emitting ⊤
produce_amount p g scale at (e.Is a) m x = then_emit (atomic m) (λ q. puts g (join x.sets (join q.sets (gives_code p scale at x.target q.expr))))
produce_amount p g scale at e.Wildcard m x = then_emit (declares (plain_type base.Real)) (λ w. puts g (join x.sets (gives_some p scale x.target w)))

abbrev pub produce_code : Kinds → Place → Guard → t.BExpr → e.Assertion → Emitting ⊤
produce_code k p g scale (e.Fact a at) = then_emit (code k p g a) (λ x. puts g (one (s.Assume x.expr)))
produce_code k p g scale (e.Acc a f m at) =
    then_emit (code k p g a) (λ x. then_emit (amount_code k p g m) (λ q. then_emit (field_target f x) (produce_amount p g scale at m q)))
produce_code k p g scale (e.Inst q args m at) =
    then_emit (codes k p g args) (λ xs. then_emit (amount_code k p g m) (λ y. then_emit (instance_target q xs) (produce_amount p g scale at m y)))
produce_code k p g scale (e.And a b) = then_emit (produce_code k p g scale a) (λ u. produce_code k p g scale b)
produce_code k p g scale (e.Implies c a) = then_emit (code k p g c) (λ x. then_emit (guards g x.expr) (λ h. produce_code k p (Some h) scale a))
produce_code k p g scale (e.ChooseAssertion c a b) =
    then_emit (code k p g c) (λ x. choose_code g x.expr (λ h. produce_code k p h scale a) (λ h. produce_code k p h scale b) (λ h u v. tt))

-- ---- consume. Each expression is read in the present state, and permission is taken from the maps that are left.

-- an amount that is written, times the scale
abbrev pub takes_code : Place → Maps → t.BExpr → Pos → AccessTarget → t.BExpr → s.BStmts
takes_code p left scale at x q =
    join (check_nonnegative (label p at kind.Negative) q) (join (held_check (label p at kind.Perm) (held_in left x) (key_of x) (scaled scale q))
    (taken_amount (held_in left x) (key_of x) (scaled scale q)))

-- an amount that is chosen: something of what is held, but not all
abbrev pub takes_some : Place → Maps → Pos → AccessTarget → ℕ → s.BStmts
takes_some p left at x w =
    let held = t.At (held_in left x) (key_of x) in
    s.first (s.Assert (label p at kind.Perm) (t.Bin op.Ne held zero_real)) (join (some_amount w) (s.first (s.Assume (t.Bin op.Lt (t.Var w) held))
    (taken_amount (held_in left x) (key_of x) (t.Var w))))

abbrev pub consume_amount : Place → Maps → Guard → t.BExpr → Pos → e.Amt → Operand → Aimed → Emitting ⊤
consume_amount p left g scale at (e.Is a) m x = then_emit (atomic m) (λ q. puts g (join x.sets (join q.sets (takes_code p left scale at x.target q.expr))))
consume_amount p left g scale at e.Wildcard m x = then_emit (declares (plain_type base.Real)) (λ w. puts g (join x.sets (takes_some p left at x.target w)))

abbrev pub consume_code : Kinds → Place → Maps → Guard → t.BExpr → e.Assertion → Emitting ⊤
consume_code k p left g scale (e.Fact a at) = then_emit (code k p g a) (λ x. puts g (one (s.Assert (label p at kind.Fact) x.expr)))
consume_code k p left g scale (e.Acc a f m at) =
    then_emit (code k p g a) (λ x. then_emit (amount_code k p g m) (λ q. then_emit (field_target f x) (consume_amount p left g scale at m q)))
consume_code k p left g scale (e.Inst q args m at) =
    then_emit (codes k p g args) (λ xs. then_emit (amount_code k p g m) (λ y. then_emit (instance_target q xs) (consume_amount p left g scale at m y)))
consume_code k p left g scale (e.And a b) = then_emit (consume_code k p left g scale a) (λ u. consume_code k p left g scale b)
consume_code k p left g scale (e.Implies c a) = then_emit (code k p g c) (λ x. then_emit (guards g x.expr) (λ h. consume_code k p left (Some h) scale a))
consume_code k p left g scale (e.ChooseAssertion c a b) =
    then_emit (code k p g c) (λ x. choose_code g x.expr (λ h. consume_code k p left h scale a) (λ h. consume_code k p left h scale b) (λ h u v. tt))

-- ---- forget. Each heap and then the contents of each predicate get any values where nothing is held.

-- a map of this type, by the map that says how much is held
abbrev pub forget_map : BType → ℕ → ℕ → Emitting ⊤
forget_map u held old = then_emit (declares u) (λ new. puts None (pattern.forget_code u.keys held old new))

-- the heaps of the fields of these types, the first of which has the number i
abbrev pub forget_heaps : Maps → List Ty → ℕ → Emitting ⊤
forget_heaps m [] i = gives tt
forget_heaps m (u ∷ us) i = then_emit (forget_map (heap_type u) (number m.mask i) (number m.heap i)) (λ x. forget_heaps m us (i + 1))

abbrev pub forget_contents : Maps → List (List Ty) → ℕ → Emitting ⊤
forget_contents m [] i = gives tt
forget_contents m (us ∷ keys) i = then_emit (forget_map (content_type us) (number m.amount i) (number m.content i)) (λ x. forget_contents m keys (i + 1))

abbrev pub forget_code : Layout → Maps → Emitting ⊤
forget_code layout m = then_emit (forget_heaps m layout.fields 0) (λ x. forget_contents m layout.keys 0)
