-- What assignments, `new` and calls add, by what their parts add.
use Rattle.std.specs.Bool.{⊤}
use Rattle.std.specs.Option.{option_map}
use Rattle.std.proofs.Common.{◌≡◌, ◌∙◌, ◌≤◌, ◌⊎◌, inl, inr, ℕ, ◌+◌, List, ◌∷◌, ◌++◌, map, length, take, slice_get, Option, None, Some, sym, ap, subst}
use Rattle.std.proofs.lemmas.Option.{slice_get-map, slice_get_past}
use Rattle.vb_base.specs.declared.places.Pos.{Pos}
use Rattle.vb_value.specs.Layout.{Layout}
use Rattle.vb_value.specs.declared.values.Ty.{Ty}
use Rattle.vb_value.specs.declared.values.Ty.TheVariants as ty
use Rattle.viper_core.specs.Expr as e
use Rattle.viper_core.specs.Program.{Method}
use Rattle.boogie_tree.specs.Expr as t
use Rattle.boogie_tree.specs.Stmt as s
use Rattle.boogie_tree.specs.Values.{plain_type}
use Rattle.boogie_tree.specs.declared.exprs.BBase.TheVariants as base
use Rattle.moves.specs.Scalars.{variable_type}
use Rattle.enc_expr.specs.Code.{Code, Emitting, join, then_emit, declares, puts}
use Rattle.enc_expr.specs.Emits.{Emit, Emits}
use Rattle.enc_expr.specs.Encoding.{codes}
use Rattle.enc_expr.specs.Kinds.{Kinds, type_at}
use Rattle.enc_expr.specs.Pieces.{Operand, one}
use Rattle.enc_expr.specs.Place.{Maps, Place, number}
use Rattle.enc_expr.proofs.EmitLaws.{gives_emits, then_emits}
use Rattle.enc_expr.proofs.RunLaws.{join_assoc}
use Rattle.enc_assert.specs.Encoding.{forget_code}
use Rattle.enc_fold.specs.Saved.{copying}
use Rattle.enc_block.specs.Encoding.{produce_all_code, consume_all_code, havoc_code, unstored_at, fresh_tests, created_field, created_code, new_code, fixed, called_code, call_code, with_body, with_method}
use Rattle.enc_block.specs.Home.{Home, place}

abbrev from : Emit → ℕ
from x = length x.locals

-- ---- statements one after the other, and then those that are left

pub one_more : (now rest : s.BStmts) (x : s.BStmt) {new all : s.BStmts} {y : s.BStmt} → new ≡ join now (one x) → x ≡ y → join now (s.first y rest) ≡ all → join new rest ≡ all
one_more now rest x pushed same so_far = ap (λ z. join z rest) pushed ∙ join_assoc now (one x) rest ∙ ap (λ z. join now (s.first z rest)) same ∙ so_far

pub block_more : (now rest xs : s.BStmts) {new all : s.BStmts} → new ≡ join now xs → join now (join xs rest) ≡ all → join new rest ≡ all
block_more now rest xs pushed so_far = ap (λ z. join z rest) pushed ∙ join_assoc now xs rest ∙ so_far

-- ---- a new object

-- a field of another type does not hold a reference
pub not_stored : (u : Ty) (m : Maps) (r i : ℕ) → (u ≡ ty.Int) ⊎ ((u ≡ ty.Bool) ⊎ (u ≡ ty.Perm)) → unstored_at u m r i ≡ s.skip
not_stored u m r i (inl is) = ap (λ w. unstored_at w m r i) is
not_stored u m r i (inr (inl is)) = ap (λ w. unstored_at w m r i) is
not_stored u m r i (inr (inr is)) = ap (λ w. unstored_at w m r i) is

module _ (layout : Layout) (h : Home) (r : ℕ) where
  -- one more field, and then those that are left
  pub created_step : (f : ℕ) (rest all : List ℕ) (begin old first second : Emit) (value : ℕ) → Emits (declares (variable_type (type_at layout.fields f)) (from old)) old first value →
      Emits (puts None (created_field h r f value) (from first)) first second tt →
      ((new : Emit) → Emits (created_code layout h r (f ∷ rest) (from old)) old new tt → Emits (created_code layout h r all (from begin)) begin new tt) →
      (new : Emit) → Emits (created_code layout h r rest (from second)) second new tt → Emits (created_code layout h r all (from begin)) begin new tt
  created_step f rest all begin old first second value declared put so_far new left =
      so_far new (then_emits (declares (variable_type (type_at layout.fields f))) (λ value. then_emit (puts None (created_field h r f value)) (λ u. created_code layout h r rest)) old first new value tt declared
      (then_emits (puts None (created_field h r f value)) (λ u. created_code layout h r rest) first second new tt tt put left))

pub new_emits : (k : Kinds) (h : Home) (x : ℕ) (fields refs : List ℕ) (old first second third new : Emit) (r : ℕ) → Emits (declares (plain_type base.Ref) (from old)) old first r →
    Emits (puts None (s.first (s.Havoc r) (fresh_tests k.layout h r refs)) (from first)) first second tt → Emits (created_code k.layout h r fields (from second)) second third tt →
    Emits (puts None (one (s.Assign (number h.vars x) (t.Var r))) (from third)) third new tt → Emits (new_code k h x fields refs (from old)) old new tt
new_emits k h x fields refs old first second third new r declared tested created named =
    then_emits (declares (plain_type base.Ref)) (λ r. then_emit (puts None (s.first (s.Havoc r) (fresh_tests k.layout h r refs))) (λ u. then_emit (created_code k.layout h r fields) (λ u. puts None (one (s.Assign (number h.vars x) (t.Var r))))))
    old first new r tt declared
    (then_emits (puts None (s.first (s.Havoc r) (fresh_tests k.layout h r refs))) (λ u. then_emit (created_code k.layout h r fields) (λ u. puts None (one (s.Assign (number h.vars x) (t.Var r))))) first second new tt tt tested
    (then_emits (created_code k.layout h r fields) (λ u. puts None (one (s.Assign (number h.vars x) (t.Var r)))) second third new tt tt created named))

-- ---- a call

pub called_emits : (layout : Layout) (h : Home) (at : Pos) (targets : List ℕ) (m : Method) (given : List ℕ) (before : Maps) (old first second third new : Emit) →
    Emits (consume_all_code (record { vars = take m.params m.vars; layout = layout }) (record { vars = given; now = before; old = h.old; at = at }) h.now m.preconditions (from old)) old first tt →
    Emits (forget_code layout h.now (from first)) first second tt → Emits (puts None (havoc_code h targets) (from second)) second third tt →
    Emits (produce_all_code (record { vars = take (m.params + m.returns) m.vars; layout = layout }) (record { vars = given ++ map (number h.vars) targets; now = h.now; old = before; at = at }) m.postconditions (from third)) third new tt →
    Emits (called_code layout h at targets m given before (from old)) old new tt
called_emits layout h at targets m given before old first second third new taken forgotten havocked produced =
    let takes = consume_all_code (record { vars = take m.params m.vars; layout = layout }) (record { vars = given; now = before; old = h.old; at = at }) h.now m.preconditions in
    let produces = produce_all_code (record { vars = take (m.params + m.returns) m.vars; layout = layout }) (record { vars = given ++ map (number h.vars) targets; now = h.now; old = before; at = at }) m.postconditions in
    then_emits takes (λ u. then_emit (forget_code layout h.now) (λ u. then_emit (puts None (havoc_code h targets)) (λ u. produces))) old first new tt tt taken
    (then_emits (forget_code layout h.now) (λ u. then_emit (puts None (havoc_code h targets)) (λ u. produces)) first second new tt tt forgotten
    (then_emits (puts None (havoc_code h targets)) (λ u. produces) second third new tt tt havocked produced))

pub call_emits : (k : Kinds) (h : Home) (at : Pos) (targets : List ℕ) (m : Method) (args : e.Exprs) (old first second third new : Emit) (xs : List Operand) (given : List ℕ) (before : Maps) → Emits (codes k (place h at) None args (from old)) old first xs →
    Emits (fixed xs (from first)) first second given → Emits (copying k.layout h.now (from second)) second third before → Emits (called_code k.layout h at targets m given before (from third)) third new tt →
    Emits (call_code k h at targets m args (from old)) old new tt
call_emits k h at targets m args old first second third new xs given before read set copied called =
    then_emits (codes k (place h at) None args) (λ xs. then_emit (fixed xs) (λ given. then_emit (copying k.layout h.now) (λ before. called_code k.layout h at targets m given before))) old first new xs tt read
    (then_emits (fixed xs) (λ given. then_emit (copying k.layout h.now) (λ before. called_code k.layout h at targets m given before)) first second new given tt set
    (then_emits (copying k.layout h.now) (λ before. called_code k.layout h at targets m given before) second third new before tt copied called))

-- the same under other names
pub consumed_all_as : (left : Maps) (n : ℕ) {k l : Kinds} {p q : Place} {xs ys : List e.Assertion} {old new : Emit} → k ≡ l → p ≡ q → xs ≡ ys → Emits (consume_all_code k p left xs n) old new tt → Emits (consume_all_code l q left ys n) old new tt
consumed_all_as left n {old = old} {new = new} hk hp hx m = subst (λ (c : Code ⊤). Emits c old new tt) (λ i. consume_all_code (hk i) (hp i) left (hx i) n) m

-- ---- the clauses of a call, over other locals

module _ (layout : Layout) (h : Home) (at : Pos) (m : Method) (before : Maps) (n : ℕ) {old new : Emit} {xs ys : List ℕ} where
  pub taken_as : xs ≡ ys → Emits (consume_all_code (record { vars = take m.params m.vars; layout = layout }) (record { vars = xs; now = before; old = h.old; at = at }) h.now m.preconditions n) old new tt →
      Emits (consume_all_code (record { vars = take m.params m.vars; layout = layout }) (record { vars = ys; now = before; old = h.old; at = at }) h.now m.preconditions n) old new tt
  taken_as same taken =
      subst (λ (zs : List ℕ). Emits (consume_all_code (record { vars = take m.params m.vars; layout = layout }) (record { vars = zs; now = before; old = h.old; at = at }) h.now m.preconditions n) old new tt) same taken

  pub given_as : xs ≡ ys → Emits (produce_all_code (record { vars = take (m.params + m.returns) m.vars; layout = layout }) (record { vars = xs; now = h.now; old = before; at = at }) m.postconditions n) old new tt →
      Emits (produce_all_code (record { vars = take (m.params + m.returns) m.vars; layout = layout }) (record { vars = ys; now = h.now; old = before; at = at }) m.postconditions n) old new tt
  given_as same given =
      subst (λ (zs : List ℕ). Emits (produce_all_code (record { vars = take (m.params + m.returns) m.vars; layout = layout }) (record { vars = zs; now = h.now; old = before; at = at }) m.postconditions n) old new tt) same given

-- ---- of the body that a predicate has, and of the method that a program has

module _ (go : Kinds → Place → e.Assertion → Emitting ⊤) {old new : Emit} {o : Option e.Assertion} {body : e.Assertion} {k l : Kinds} {p q : Place} where
  pub body_emits : Some body ≡ o → k ≡ l → p ≡ q → Emits (go k p body (from old)) old new tt → Emits (with_body o (go l q) (from old)) old new tt
  body_emits is kinds place emits = subst (λ (c : Code ⊤). Emits c old new tt) (λ i. with_body (is i) (go (kinds i) (place i)) (from old)) emits

pub no_body_emits : (go : e.Assertion → Emitting ⊤) {o : Option e.Assertion} (x : Emit) → None ≡ o → Emits (with_body o go (from x)) x x tt
no_body_emits go x is = subst (λ (o : Option e.Assertion). Emits (with_body o go (from x)) x x tt) is (gives_emits tt x)

pub method_emits : (go : Method → Emitting ⊤) {o : Option Method} {m : Method} {old new : Emit} → Some m ≡ o → Emits (go m (from old)) old new tt → Emits (with_method o go (from old)) old new tt
method_emits go {old = old} {new = new} is emits = subst (λ (o : Option Method). Emits (with_method o go (from old)) old new tt) is emits

pub no_method_emits : (go : Method → Emitting ⊤) {o : Option Method} (x : Emit) → None ≡ o → Emits (with_method o go (from x)) x x tt
no_method_emits go x is = subst (λ (o : Option Method). Emits (with_method o go (from x)) x x tt) is (gives_emits tt x)

-- no method has this number
pub none_there : {X Y : Type 0} (f : X → Y) (xs : List X) (i : ℕ) → length xs ≤ i → None ≡ slice_get (map f xs) i
none_there f xs i past = sym (slice_get-map f xs i ∙ ap (option_map f) (slice_get_past xs i past))
