-- The code of statements and blocks. An expression that is read, an assertion that is produced or consumed, forgetting, folding
-- and unfolding have the code of the crates below; here these are put together as the meaning does. Blocks are Boogie's own, and
-- stand as deep in each other as those of Viper.
use Rattle.std.specs.Prelude.{⊤, ℕ, ◌+◌, false, Option, Some, None, List, [], ◌∷◌, ◌++◌, map, take, slice_get}
use Rattle.vb_base.specs.declared.labels.Kind.TheVariants as kind
use Rattle.vb_base.specs.declared.places.Pos.{Pos}
use Rattle.vb_value.specs.Layout.{Layout}
use Rattle.vb_value.specs.declared.values.Ty.{Ty}
use Rattle.vb_value.specs.declared.values.Ty.TheVariants as ty
use Rattle.viper_core.specs.Expr as e
use Rattle.viper_core.specs.Program.{Program, Method, Body}
use Rattle.viper_core.specs.Stmt as v
use Rattle.viper_meaning.specs.Contents.{body_of}
use Rattle.boogie_meaning.specs.Patterns.{avoid_code}
use Rattle.boogie_tree.specs.Expr as t
use Rattle.boogie_tree.specs.Stmt as s
use Rattle.boogie_tree.specs.declared.exprs.BBase.TheVariants as base
use Rattle.boogie_tree.specs.declared.exprs.BOp.TheVariants as op
use Rattle.boogie_tree.specs.Values.{plain_type}
use Rattle.enc_expr.specs.Place.{Maps, Place, number, with_now}
use Rattle.moves.specs.Scalars.{variable_type}
use Rattle.enc_expr.specs.Kinds.{Kinds, type_at}
use Rattle.enc_expr.specs.Code.{Emitting, join, gives, then_emit, declares, puts}
use Rattle.enc_expr.specs.Pieces.{Operand, atomic, at_one, one, label, zero_real, one_real}
use Rattle.enc_expr.specs.Encoding.{code, codes, copy_state}
use Rattle.enc_assert.specs.Encoding.{produce_code, consume_code, forget_code}
use Rattle.enc_fold.specs.Saved.{copy_held, saving, copying}
use Rattle.enc_fold.specs.Encoding.{fold_code, unfold_code}
use Rattle.enc_block.specs.Home.{Home, place}

-- ---- clauses: several are one conjunction in their order

abbrev pub produce_all_code : Kinds → Place → List e.Assertion → Emitting ⊤
produce_all_code k p [] = gives tt
produce_all_code k p (a ∷ rest) = then_emit (produce_code k p None one_real a) (λ u. produce_all_code k p rest)

abbrev pub consume_all_code : Kinds → Place → Maps → List e.Assertion → Emitting ⊤
consume_all_code k p left [] = gives tt
consume_all_code k p left (a ∷ rest) = then_emit (consume_code k p left None one_real a) (λ u. consume_all_code k p left rest)

-- They are exhaled: read in the state as it was, and taken from the present one, in which what is no longer held is forgotten.
abbrev pub exhale_code : Kinds → Home → Pos → List e.Assertion → Emitting ⊤
exhale_code k h at [] = forget_code k.layout h.now
exhale_code k h at (a ∷ rest) =
    then_emit (saving k.layout h.now) (λ start. then_emit (consume_all_code k (with_now start (place h at)) h.now (a ∷ rest)) (λ u. forget_code k.layout h.now))

-- They are consumed from copies, and the state stays as it was.
abbrev pub assert_code : Kinds → Home → Pos → List e.Assertion → Emitting ⊤
assert_code k h at [] = gives tt
assert_code k h at (a ∷ rest) = then_emit (saving k.layout h.now) (λ left. consume_all_code k (place h at) left (a ∷ rest))

-- ---- blocks

-- two blocks, of which one runs; the locals of the second follow those of the first
abbrev pub branching : (s.BStmts → s.BStmts → s.BStmt) → Emitting ⊤ → Emitting ⊤ → Emitting ⊤
branching kind first second n =
    let a = first n in let c = second a.next in
    record { locals = a.locals ++ c.locals; next = c.next; stmts = one (kind a.stmts c.stmts); value = tt }

-- no run continues from here
abbrev pub stop : Emitting ⊤
stop = puts None (one (s.Assume (t.Bool false)))

-- ---- any values

-- the variables of these numbers
abbrev pub havoc_code : Home → List ℕ → s.BStmts
havoc_code h [] = s.skip
havoc_code h (x ∷ xs) = s.first (s.Havoc (number h.vars x)) (havoc_code h xs)

-- any state in which nothing is held: where nothing is held, all is forgotten
abbrev pub any_state_code : Layout → Home → Emitting ⊤
any_state_code layout h = then_emit (puts None (copy_held h.now h.nothing)) (λ u. forget_code layout h.now)

-- ---- writing a field: null is tested first, and the whole permission is needed

abbrev pub write_checks : Place → ℕ → Pos → t.BExpr → s.BStmts
write_checks p f at x =
    s.first (s.Assert (label p at kind.Null) (t.Bin op.Ne x t.Null)) (one (s.Assert (label p at kind.Perm) (t.Bin op.Eq (at_one (number p.now.mask f) x) one_real)))

abbrev pub write_code : Kinds → Place → e.Expr → ℕ → Pos → e.Expr → Emitting ⊤
write_code k p a f at d =
    then_emit (code k p None a) (λ x. then_emit (code k p None d) (λ y. then_emit (atomic x) (λ r.
    puts None (join r.sets (join (write_checks p f at r.expr) (one (s.Put (number p.now.heap f) (t.more r.expr t.none) y.expr)))))))

-- ---- a new object: a reference of which nothing is known

-- it is none of these variables
abbrev pub unnamed_code : Home → ℕ → List ℕ → s.BStmts
unnamed_code h r [] = s.skip
unnamed_code h r (x ∷ xs) = s.first (s.Assume (t.Bin op.Ne (t.Var r) (t.Var (number h.vars x)))) (unnamed_code h r xs)

-- nothing is held of its fields; the first of the masks is that of the field i
abbrev pub unheld_code : Maps → ℕ → List Ty → ℕ → s.BStmts
unheld_code m r [] i = s.skip
unheld_code m r (u ∷ us) i = s.first (s.Assume (t.Bin op.Eq (at_one (number m.mask i) (t.Var r)) zero_real)) (unheld_code m r us (i + 1))

-- it stands nowhere where something is held
abbrev pub unstored_at : Ty → Maps → ℕ → ℕ → s.BStmts
unstored_at ty.Ref m r i = one (avoid_code (base.Ref ∷ []) (number m.mask i) (number m.heap i) r)
unstored_at _ m r i = s.skip

abbrev pub unstored_code : Maps → ℕ → List Ty → ℕ → s.BStmts
unstored_code m r [] i = s.skip
unstored_code m r (u ∷ us) i = join (unstored_at u m r i) (unstored_code m r us (i + 1))

abbrev pub fresh_tests : Layout → Home → ℕ → List ℕ → s.BStmts
fresh_tests layout h r refs =
    s.first (s.Assume (t.Bin op.Ne (t.Var r) t.Null)) (join (unnamed_code h r refs) (join (unheld_code h.now r layout.fields 0) (unstored_code h.now r layout.fields 0)))

-- its fields take any values, and are held whole
abbrev pub created_field : Home → ℕ → ℕ → ℕ → s.BStmts
created_field h r f value =
    s.first (s.Havoc value) (s.first (s.Put (number h.now.heap f) (t.more (t.Var r) t.none) (t.Var value)) (one (s.Put (number h.now.mask f) (t.more (t.Var r) t.none) one_real)))

abbrev pub created_code : Layout → Home → ℕ → List ℕ → Emitting ⊤
created_code layout h r [] = gives tt
created_code layout h r (f ∷ fs) =
    then_emit (declares (variable_type (type_at layout.fields f))) (λ value. then_emit (puts None (created_field h r f value)) (λ u. created_code layout h r fs))

abbrev pub new_code : Kinds → Home → ℕ → List ℕ → List ℕ → Emitting ⊤
new_code k h x fields refs =
    then_emit (declares (plain_type base.Ref)) (λ r. then_emit (puts None (s.first (s.Havoc r) (fresh_tests k.layout h r refs))) (λ u.
    then_emit (created_code k.layout h r fields) (λ u. puts None (one (s.Assign (number h.vars x) (t.Var r))))))

-- ---- calls

-- Each value gets a new local: a target may stand among the arguments.
abbrev pub fixed : List Operand → Emitting (List ℕ)
fixed [] = gives []
fixed (x ∷ xs) = then_emit (declares (plain_type x.base)) (λ i. then_emit (puts None (one (s.Assign i x.expr))) (λ u. then_emit (fixed xs) (λ is. gives (i ∷ is))))

-- The clauses of the method are read over its parameters, and then its returns, which are the targets. In them `old` speaks of the
-- state before the call.
abbrev pub called_code : Layout → Home → Pos → List ℕ → Method → List ℕ → Maps → Emitting ⊤
called_code layout h at targets callee given before =
    then_emit (consume_all_code (record { vars = take callee.params callee.vars; layout = layout }) (record { vars = given; now = before; old = h.old; at = at }) h.now callee.preconditions) (λ u.
    then_emit (forget_code layout h.now) (λ u. then_emit (puts None (havoc_code h targets)) (λ u.
    produce_all_code (record { vars = take (callee.params + callee.returns) callee.vars; layout = layout })
    (record { vars = given ++ map (number h.vars) targets; now = h.now; old = before; at = at }) callee.postconditions)))

abbrev pub call_code : Kinds → Home → Pos → List ℕ → Method → e.Exprs → Emitting ⊤
call_code k h at targets callee args =
    then_emit (codes k (place h at) None args) (λ xs. then_emit (fixed xs) (λ given. then_emit (copying k.layout h.now) (λ before.
    called_code k.layout h at targets callee given before)))

-- ---- loops

abbrev pub guard_code : Kinds → Home → Pos → e.Expr → (t.BExpr → t.BExpr) → Emitting ⊤
guard_code k h at guard side = then_emit (code k (place h at) None guard) (λ x. puts None (one (s.Assume (side x.expr))))

-- One arbitrary turn begins in any state that the invariant allows. No run continues from its end.
abbrev pub turn_code : Kinds → Home → Pos → e.Expr → List e.Assertion → Emitting ⊤ → Pos → Emitting ⊤
turn_code k h at guard invariants body turn =
    then_emit (any_state_code k.layout h) (λ u. then_emit (produce_all_code k (place h at) invariants) (λ u. then_emit (guard_code k h at guard (λ x. x)) (λ u.
    then_emit body (λ u. then_emit (assert_code k h turn invariants) (λ u. stop)))))

abbrev pub after_code : Kinds → Home → Pos → e.Expr → List e.Assertion → Emitting ⊤
after_code k h at guard invariants = then_emit (produce_all_code k (place h at) invariants) (λ u. guard_code k h at guard t.Not)

abbrev pub loop_code : Kinds → Home → Pos → e.Expr → List e.Assertion → Emitting ⊤ → Pos → List ℕ → Emitting ⊤
loop_code k h at guard invariants body turn targets =
    then_emit (exhale_code k h at invariants) (λ u. then_emit (puts None (havoc_code h targets)) (λ u.
    branching s.Either (turn_code k h at guard invariants body turn) (after_code k h at guard invariants)))

-- ---- statements

-- a variable gets a value
abbrev pub assign_code : Kinds → Home → Pos → ℕ → e.Expr → Emitting ⊤
assign_code k h at x a = then_emit (code k (place h at) None a) (λ y. puts None (one (s.Assign (number h.vars x) y.expr)))

-- the instance of a predicate without a body cannot be folded
abbrev pub with_body : Option e.Assertion → (e.Assertion → Emitting ⊤) → Emitting ⊤
with_body None go = gives tt
with_body (Some body) go = go body

abbrev pub with_method : Option Method → (Method → Emitting ⊤) → Emitting ⊤
with_method None go = gives tt
with_method (Some m) go = go m

abbrev mutual
  pub stmt_code : Program → Kinds → Home → v.Stmt → Emitting ⊤
  stmt_code p k h (v.Var at x None) = puts None (one (s.Havoc (number h.vars x)))
  stmt_code p k h (v.Var at x (Some a)) = assign_code k h at x a
  stmt_code p k h (v.Assign at x a) = assign_code k h at x a
  stmt_code p k h (v.Write at a f name d) = write_code k (place h at) a f name d
  stmt_code p k h (v.New at x fields refs) = new_code k h x fields refs
  stmt_code p k h (v.Call at targets m args) = with_method (slice_get p.methods m) (λ callee. call_code k h at targets callee args)
  stmt_code p k h (v.Inhale at a) = produce_code k (place h at) None one_real a
  stmt_code p k h (v.Exhale at a) = exhale_code k h at (a ∷ [])
  stmt_code p k h (v.Assert at a) = assert_code k h at (a ∷ [])
  stmt_code p k h (v.Fold f) = with_body (body_of p f.predicate) (fold_code k (place h f.at) f)
  stmt_code p k h (v.Unfold f) = with_body (body_of p f.predicate) (unfold_code k (place h f.at) f)
  stmt_code p k h (v.If at c first second) = then_emit (code k (place h at) None c) (λ x. branching (s.If x.expr) (block_code p k h first) (block_code p k h second))
  stmt_code p k h (v.While (v.loop at guard invariants body turn targets)) = loop_code k h at guard invariants (block_code p k h body) turn targets

  -- of the statements of a block, one after the other
  pub block_code : Program → Kinds → Home → v.Stmts → Emitting ⊤
  block_code p k h v.skip = gives tt
  block_code p k h (v.next a rest) = then_emit (stmt_code p k h a) (λ u. block_code p k h rest)

-- ---- methods and predicates

-- the present state becomes the old one
abbrev pub keep_old : Home → s.BStmts
keep_old h = copy_state h.old h.now

-- the postcondition by itself, produced in any state in which nothing is held
abbrev pub check_code : Kinds → Home → Method → Emitting ⊤
check_code k h m = then_emit (any_state_code k.layout h) (λ u. then_emit (produce_all_code k (place h m.name_at) m.postconditions) (λ u. stop))

-- the body, and then the postcondition, which is consumed
abbrev pub ending_code : Program → Kinds → Home → Method → Body → Emitting ⊤
ending_code p k h m body = then_emit (block_code p k h body.stmts) (λ u. assert_code k h body.turn m.postconditions)

-- a choice decides between the two; without a body there is the check alone
abbrev pub either_code : Program → Kinds → Home → Method → Option Body → Emitting ⊤
either_code p k h m None = check_code k h m
either_code p k h m (Some body) = branching s.Either (ending_code p k h m body) (check_code k h m)

-- from the precondition on, which makes the old state
abbrev pub method_code : Program → Kinds → Home → Method → Emitting ⊤
method_code p k h m =
    then_emit (produce_all_code k (place h m.at) m.preconditions) (λ u. then_emit (puts None (keep_old h)) (λ u. either_code p k h m m.body))
