-- The maps that the code of statements declares have indices of key types; so behind the locals that there are it is well-typed.
use Rattle.std.specs.Bool.{⊤}
use Rattle.std.proofs.Common.{◌+◌, ◌++◌, false, ℕ, List, [], ◌∷◌, Option, Some, None, length, map, take, slice_get, sym, subst}
use Rattle.std.proofs.lemmas.List.Elements.{All-nil, All-cons, All-head, All-tail, All-append}
use Rattle.lemmas.proofs.Lists.{there_left}
use Rattle.vb_base.specs.declared.places.Pos.{Pos}
use Rattle.vb_value.specs.Layout.{Layout}
use Rattle.viper_core.specs.Expr as e
use Rattle.viper_core.specs.Formed.{IsFormed}
use Rattle.viper_core.specs.Program.{Method}
use Rattle.viper_core.specs.Scope.{Scope}
use Rattle.viper_core.specs.Stmt as v
use Rattle.viper_core.specs.Typing.{Context, Elsewhere, MethodContext, AreStmts}
use Rattle.viper_meaning.specs.Contents.{body_of}
use Rattle.boogie_tree.specs.Expr as t
use Rattle.boogie_tree.specs.Program.{BType}
use Rattle.boogie_tree.specs.Stmt as s
use Rattle.boogie_tree.specs.Values.{AreKeys}
use Rattle.boogie_tree.specs.declared.exprs.BBase.TheVariants as base
use Rattle.boogie_meaning.specs.Programs.{HaveKeys}
use Rattle.moves.specs.Maps.{heap_type, mask_type, amount_type, content_type, state_types}
use Rattle.moves.specs.Scalars.{base_for}
use Rattle.enc_expr.specs.Place.{Maps, Place, number, with_now}
use Rattle.enc_expr.specs.Kinds.{Kinds, type_at}
use Rattle.enc_expr.specs.Code.{Emitting, join, declares_all}
use Rattle.enc_expr.specs.Encoding.{copy_state, maps_from}
use Rattle.enc_expr.specs.Pieces.{Operand, one, one_real}
use Rattle.enc_expr.specs.Typed.{IsTypedPiece}
use Rattle.enc_expr.proofs.KeyedCode.{IsKeyed, states_keyed, gives_keyed, then_keyed, plain_keyed, puts_keyed, atomic_keyed, code_keyed, codes_keyed}
use Rattle.enc_expr.proofs.TypedCode.{more_state_types}
use Rattle.enc_assert.specs.Encoding.{produce_code}
use Rattle.enc_assert.proofs.ForgetCode.{forget_keyed}
use Rattle.enc_assert.proofs.TypedAssertions.{walk_keyed, more_held_types, piece_typed}
use Rattle.enc_assert.proofs.WalkLaws.{produce_blocks, consume_blocks, produce_walks, consume_walks}
use Rattle.enc_fold.specs.Encoding.{fold_code, unfold_code}
use Rattle.enc_fold.specs.Saved.{held_types, held_from, copy_held, saving, copying}
use Rattle.enc_fold.proofs.TypedFold.{fold_keyed, unfold_keyed}
use Rattle.enc_block.specs.Home.{Home, place}
use Rattle.enc_block.specs.Encoding.{produce_all_code, consume_all_code, exhale_code, assert_code, branching, stop, havoc_code, any_state_code, write_checks, write_code, fresh_tests, created_field, created_code, new_code, fixed, called_code, call_code, guard_code, turn_code, after_code, loop_code, assign_code, with_body, with_method, stmt_code, block_code}
use Rattle.enc_block.specs.Typed.{HasHomeTypes}
use Rattle.enc_block.proofs.TypedStatements.{block_typed}

abbrev has_keys : BType → Type 0
has_keys u = AreKeys u.keys

-- ---- copies

pub all_first : (xs ys : List BType) → HaveKeys (xs ++ ys) → HaveKeys xs
all_first [] ys h = All-nil has_keys
all_first (x ∷ xs) ys h = All-cons has_keys x xs (All-head has_keys x (xs ++ ys) h) (all_first xs ys (All-tail has_keys x (xs ++ ys) h))

pub all_rest : (xs ys : List BType) → HaveKeys (xs ++ ys) → HaveKeys ys
all_rest [] ys h = h
all_rest (x ∷ xs) ys h = all_rest xs ys (All-tail has_keys x (xs ++ ys) h)

-- masks and amounts are among all maps
held_keyed : (layout : Layout) → HaveKeys (state_types layout) → HaveKeys (held_types layout)
held_keyed layout keys =
    let heaps = map heap_type layout.fields in let masks = map mask_type layout.fields in let amounts = map amount_type layout.keys in let contents = map content_type layout.keys in
    let three : HaveKeys (heaps ++ masks ++ amounts) = all_first (heaps ++ masks ++ amounts) contents keys in
    All-append has_keys masks amounts (all_rest heaps masks (all_first (heaps ++ masks) amounts three)) (all_rest (heaps ++ masks) amounts three)

all_keyed : (us : List BType) → HaveKeys us → IsKeyed (declares_all us)
all_keyed us h = record { keys = λ n. h }

saving_keyed : (layout : Layout) (m : Maps) → HaveKeys (state_types layout) → IsKeyed (saving layout m)
saving_keyed layout m keys =
    then_keyed (all_keyed (held_types layout) (held_keyed layout keys)) (λ n. then_keyed (puts_keyed None (copy_held (held_from layout m n) m)) (λ u. gives_keyed (held_from layout m n)))

copying_keyed : (layout : Layout) (m : Maps) → HaveKeys (state_types layout) → IsKeyed (copying layout m)
copying_keyed layout m keys =
    then_keyed (all_keyed (state_types layout) keys) (λ n. then_keyed (puts_keyed None (copy_state (maps_from layout n) m)) (λ u. gives_keyed (maps_from layout n)))

-- ---- pieces

fixed_keyed : (xs : List Operand) → IsKeyed (fixed xs)
fixed_keyed [] = gives_keyed []
fixed_keyed (x ∷ xs) = then_keyed (plain_keyed x.base) (λ i. then_keyed (puts_keyed None (one (s.Assign i x.expr))) (λ u. then_keyed (fixed_keyed xs) (λ is. gives_keyed (i ∷ is))))

pub branching_keyed : (kind : s.BStmts → s.BStmts → s.BStmt) (m o : Emitting ⊤) → IsKeyed m → IsKeyed o → IsKeyed (branching kind m o)
branching_keyed kind m o first second = record { keys = λ n. All-append has_keys (m n).locals (o (m n).next).locals (first.keys n) (second.keys (m n).next) }

pub stop_keyed : IsKeyed stop
stop_keyed = puts_keyed None (one (s.Assume (t.Bool false)))

module _ (k : Kinds) (keys : HaveKeys (state_types k.layout)) where
  module _ (p : Place) where
    pub produced_keyed : (a : e.Assertion) → IsKeyed (produce_code k p None one_real a)
    produced_keyed a = subst IsKeyed (sym (produce_walks k p one_real None a)) (walk_keyed k p (produce_blocks p one_real) None a keys)

    pub all_produced_keyed : (xs : List e.Assertion) → IsKeyed (produce_all_code k p xs)
    all_produced_keyed [] = gives_keyed tt
    all_produced_keyed (a ∷ rest) = then_keyed (produced_keyed a) (λ u. all_produced_keyed rest)

    all_consumed_keyed : (left : Maps) (xs : List e.Assertion) → IsKeyed (consume_all_code k p left xs)
    all_consumed_keyed left [] = gives_keyed tt
    all_consumed_keyed left (a ∷ rest) =
        then_keyed (subst IsKeyed (sym (consume_walks k p one_real left None a)) (walk_keyed k p (consume_blocks p left one_real) None a keys)) (λ u. all_consumed_keyed left rest)

  -- ---- at a home

  module _ (h : Home) where
    exhaled_keyed : (at : Pos) (xs : List e.Assertion) → IsKeyed (exhale_code k h at xs)
    exhaled_keyed at [] = forget_keyed k.layout h.now keys
    exhaled_keyed at (a ∷ rest) = then_keyed (saving_keyed k.layout h.now keys) (λ start. then_keyed (all_consumed_keyed (with_now start (place h at)) h.now (a ∷ rest)) (λ u. forget_keyed k.layout h.now keys))

    pub asserted_keyed : (at : Pos) (xs : List e.Assertion) → IsKeyed (assert_code k h at xs)
    asserted_keyed at [] = gives_keyed tt
    asserted_keyed at (a ∷ rest) = then_keyed (saving_keyed k.layout h.now keys) (λ left. all_consumed_keyed (place h at) left (a ∷ rest))

    pub emptied_keyed : IsKeyed (any_state_code k.layout h)
    emptied_keyed = then_keyed (puts_keyed None (copy_held h.now h.nothing)) (λ u. forget_keyed k.layout h.now keys)

    written_keyed : (at : Pos) (a : e.Expr) (f : ℕ) (name : Pos) (d : e.Expr) → IsKeyed (write_code k (place h at) a f name d)
    written_keyed at a f name d =
        then_keyed (code_keyed k (place h at) None a keys) (λ x. then_keyed (code_keyed k (place h at) None d keys) (λ z. then_keyed (atomic_keyed x) (λ r.
        puts_keyed None (join r.sets (join (write_checks (place h at) f name r.expr) (one (s.Put (number h.now.heap f) (t.more r.expr t.none) z.expr)))))))

    created_keyed : (r : ℕ) (fs : List ℕ) → IsKeyed (created_code k.layout h r fs)
    created_keyed r [] = gives_keyed tt
    created_keyed r (f ∷ fs) = then_keyed (plain_keyed (base_for (type_at k.layout.fields f))) (λ value. then_keyed (puts_keyed None (created_field h r f value)) (λ u. created_keyed r fs))

    new_keyed : (x : ℕ) (fields refs : List ℕ) → IsKeyed (new_code k h x fields refs)
    new_keyed x fields refs =
        then_keyed (plain_keyed base.Ref) (λ r. then_keyed (puts_keyed None (s.first (s.Havoc r) (fresh_tests k.layout h r refs))) (λ u.
        then_keyed (created_keyed r fields) (λ u. puts_keyed None (one (s.Assign (number h.vars x) (t.Var r))))))

    assigned_keyed : (at : Pos) (x : ℕ) (a : e.Expr) → IsKeyed (assign_code k h at x a)
    assigned_keyed at x a = then_keyed (code_keyed k (place h at) None a keys) (λ z. puts_keyed None (one (s.Assign (number h.vars x) z.expr)))

    guarded_keyed : (at : Pos) (guard : e.Expr) (side : t.BExpr → t.BExpr) → IsKeyed (guard_code k h at guard side)
    guarded_keyed at guard side = then_keyed (code_keyed k (place h at) None guard keys) (λ x. puts_keyed None (one (s.Assume (side x.expr))))

    loop_keyed : (at : Pos) (guard : e.Expr) (invariants : List e.Assertion) (body : Emitting ⊤) (turn : Pos) (targets : List ℕ) → IsKeyed body → IsKeyed (loop_code k h at guard invariants body turn targets)
    loop_keyed at guard invariants body turn targets inner =
        then_keyed (exhaled_keyed at invariants) (λ u. then_keyed (puts_keyed None (havoc_code h targets)) (λ u.
        branching_keyed s.Either (turn_code k h at guard invariants body turn) (after_code k h at guard invariants)
        (then_keyed emptied_keyed (λ u. then_keyed (all_produced_keyed (place h at) invariants) (λ u. then_keyed (guarded_keyed at guard (λ x. x)) (λ u. then_keyed inner (λ u. then_keyed (asserted_keyed turn invariants) (λ u. stop_keyed))))))
        (then_keyed (all_produced_keyed (place h at) invariants) (λ u. guarded_keyed at guard t.Not))))

called_keyed : (layout : Layout) (h : Home) (at : Pos) (targets : List ℕ) (callee : Method) (args : List ℕ) (before : Maps) → HaveKeys (state_types layout) → IsKeyed (called_code layout h at targets callee args before)
called_keyed layout h at targets callee args before keys =
    then_keyed (all_consumed_keyed (record { vars = take callee.params callee.vars; layout = layout }) keys (record { vars = args; now = before; old = h.old; at = at }) h.now callee.preconditions) (λ u.
    then_keyed (forget_keyed layout h.now keys) (λ u. then_keyed (puts_keyed None (havoc_code h targets)) (λ u.
    all_produced_keyed (record { vars = take (callee.params + callee.returns) callee.vars; layout = layout }) keys (record { vars = args ++ map (number h.vars) targets; now = h.now; old = before; at = at }) callee.postconditions)))

call_keyed : (k : Kinds) (h : Home) (at : Pos) (targets : List ℕ) (callee : Method) (args : e.Exprs) → HaveKeys (state_types k.layout) → IsKeyed (call_code k h at targets callee args)
call_keyed k h at targets callee args keys =
    then_keyed (codes_keyed k (place h at) None args keys) (λ xs. then_keyed (fixed_keyed xs) (λ given. then_keyed (copying_keyed k.layout h.now keys) (λ before. called_keyed k.layout h at targets callee given before keys)))

pub body_keyed : (o : Option e.Assertion) (go : e.Assertion → Emitting ⊤) → ((a : e.Assertion) → IsKeyed (go a)) → IsKeyed (with_body o go)
body_keyed None go each = gives_keyed tt
body_keyed (Some body) go each = each body

pub method_keyed : (o : Option Method) (go : Method → Emitting ⊤) → ((m : Method) → IsKeyed (go m)) → IsKeyed (with_method o go)
method_keyed None go each = gives_keyed tt
method_keyed (Some m) go each = each m

-- ---- statements

module _ (m : MethodContext) (h : Home) (formed : IsFormed m.program) where
  abbrev kinds : Kinds
  kinds = record { vars = m.vars; layout = m.program.layout }

  -- of the scope nothing counts here
  abbrev anywhere : Context
  anywhere = record { program = m.program; vars = m.vars; visible = []; site = Elsewhere }

  keys : HaveKeys (state_types m.program.layout)
  keys = states_keyed m.program formed.typed

  mutual
    stmt_keyed : (a : v.Stmt) → IsKeyed (stmt_code m.program kinds h a)
    stmt_keyed (v.Var at x None) = puts_keyed None (one (s.Havoc (number h.vars x)))
    stmt_keyed (v.Var at x (Some a)) = assigned_keyed kinds keys h at x a
    stmt_keyed (v.Assign at x a) = assigned_keyed kinds keys h at x a
    stmt_keyed (v.Write at a f name d) = written_keyed kinds keys h at a f name d
    stmt_keyed (v.New at x fields refs) = new_keyed kinds keys h x fields refs
    stmt_keyed (v.Call at xs n args) = method_keyed (slice_get m.program.methods n) (λ callee. call_code kinds h at xs callee args) (λ callee. call_keyed kinds h at xs callee args keys)
    stmt_keyed (v.Inhale at a) = produced_keyed kinds keys (place h at) a
    stmt_keyed (v.Exhale at a) = exhaled_keyed kinds keys h at (a ∷ [])
    stmt_keyed (v.Assert at a) = asserted_keyed kinds keys h at (a ∷ [])
    stmt_keyed (v.Fold f) = body_keyed (body_of m.program f.predicate) (fold_code kinds (place h f.at) f) (λ body. fold_keyed anywhere (place h f.at) f body formed)
    stmt_keyed (v.Unfold f) = body_keyed (body_of m.program f.predicate) (unfold_code kinds (place h f.at) f) (λ body. unfold_keyed anywhere (place h f.at) f body formed)
    stmt_keyed (v.If at a first second) =
        then_keyed (code_keyed kinds (place h at) None a keys) (λ x. branching_keyed (s.If x.expr) (block_code m.program kinds h first) (block_code m.program kinds h second) (block_keyed first) (block_keyed second))
    stmt_keyed (v.While (v.loop at guard invariants body turn targets)) = loop_keyed kinds keys h at guard invariants (block_code m.program kinds h body) turn targets (block_keyed body)

    pub block_keyed : (xs : v.Stmts) → IsKeyed (block_code m.program kinds h xs)
    block_keyed v.skip = gives_keyed tt
    block_keyed (v.next a rest) = then_keyed (stmt_keyed a) (λ u. block_keyed rest)

  -- ---- what is promised

  more_home_types : (ts us : List BType) → HasHomeTypes m.vars m.program.layout h ts → HasHomeTypes m.vars m.program.layout h (ts ++ us)
  more_home_types ts us types = record {
    vars = λ x u there. there_left ts us _ _ (types.vars x u there);
    sizes = types.sizes;
    old_sizes = types.old_sizes;
    now = more_state_types ts us m.program.layout h.now types.now;
    old = more_state_types ts us m.program.layout h.old types.old;
    nothing = more_held_types ts us m.program.layout h.nothing types.nothing;
  }

  -- of each block
  pub block_is_typed : {sc : Scope} (xs : v.Stmts) (ts : List BType) → AreStmts m sc xs → HasHomeTypes m.vars m.program.layout h ts → IsTypedPiece ts (block_code m.program kinds h xs (length ts))
  block_is_typed xs ts typed types =
      let us = (block_code m.program kinds h xs (length ts)).locals in
      piece_typed ts (block_code m.program kinds h xs) (block_keyed xs) (block_typed (ts ++ us) m h formed (more_home_types ts us types) xs typed)
