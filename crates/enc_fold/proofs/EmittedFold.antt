-- What is emitted for an instance that is folded or unfolded, by what is emitted for its parts.
use Rattle.std.specs.Bool.{⊤}
use Rattle.std.proofs.Common.{◌≡◌, ◌∙◌, ◌+◌, ◌++◌, ℕ, List, length, map, Option, Some, None, refl, ap, sym, subst}
use Rattle.std.specs.List.{range_with_len}
use Rattle.std.proofs.lemmas.List.{length-map}
use Rattle.vb_base.specs.declared.labels.Kind.TheVariants as kind
use Rattle.vb_value.specs.Layout.{Layout}
use Rattle.viper_core.specs.Expr as e
use Rattle.viper_core.specs.Stmt.{FoldStmt}
use Rattle.boogie_tree.specs.Expr as t
use Rattle.boogie_tree.specs.Stmt as s
use Rattle.boogie_tree.specs.Values.{plain_type}
use Rattle.boogie_tree.specs.declared.exprs.BBase.TheVariants as base
use Rattle.moves.specs.Maps.{mask_type, amount_type, state_types}
use Rattle.enc_expr.specs.Place.{Maps, Place, with_now, with_vars}
use Rattle.enc_expr.specs.Kinds.{Kinds, body_kinds}
use Rattle.enc_expr.specs.Code.{Emitting, Guard, join, gives, then_emit, declares, declares_all, puts}
use Rattle.enc_expr.specs.Emits.{Emit, Emits, Declares}
use Rattle.enc_expr.specs.Encoding.{maps_from, copy_state, code, codes, body_code, taking, fill_instance_code}
use Rattle.enc_expr.specs.Pieces.{Operand, Atom, Located, atomic, located, index, label, one_real, check_positive}
use Rattle.enc_expr.specs.Plain.{content_expr}
use Rattle.enc_expr.proofs.EmitLaws.{gives_emits, then_emits}
use Rattle.enc_expr.proofs.EmittedForms.{valued, ending, put_as}
use Rattle.enc_expr.proofs.EmittedParts.{count, declares-append}
use Rattle.enc_expr.proofs.RunLaws.{join_skip}
use Rattle.enc_assert.specs.Encoding.{consume_code}
use Rattle.enc_fold.specs.Saved.{held_types, held_from, copy_held, saving, copying}
use Rattle.enc_fold.specs.Encoding.{closing_code, fold_code, unfold_code}
use Rattle.enc_fold.specs.Calls.{with_body}

abbrev from : Emit → ℕ
from x = length x.locals

-- ---- copies

-- new masks and new amounts
pub held_declared : (layout : Layout) (m : Maps) (old mid new : Emit) (ms qs : List ℕ) → Declares (map mask_type layout.fields) old mid ms → Declares (map amount_type layout.keys) mid new qs →
    (record { heap = m.heap; mask = ms; amount = qs; content = m.content } ≡ held_from layout m (from old)) × Emits (declares_all (held_types layout) (from old)) old new (from old)
held_declared layout m old mid new ms qs a b = (
  (λ i. record { heap = m.heap; mask = m_is i; amount = a_is i; content = m.content }),
  record { locals = whole.locals; next = count (held_types layout) old new (ms ++ qs) whole; stmts = whole.stmts ∙ sym (join_skip old.stmts); value = refl },
)
  where
    whole : Declares (held_types layout) old new (ms ++ qs)
    whole = declares-append (map mask_type layout.fields) (map amount_type layout.keys) old mid new ms qs a b

    first_count : length mid.locals ≡ length old.locals + length layout.fields
    first_count = count (map mask_type layout.fields) old mid ms a ∙ ap (λ n. length old.locals + n) (length-map layout.fields mask_type)

    m_is : ms ≡ range_with_len (length old.locals) (length layout.fields)
    m_is = a.in_a_row ∙ ap (λ n. range_with_len (length old.locals) n) (length-map layout.fields mask_type)

    a_is : qs ≡ range_with_len (length old.locals + length layout.fields) (length layout.keys)
    a_is = b.in_a_row ∙ (λ i. range_with_len (first_count i) (length-map layout.keys amount_type i))

pub saving_emits : (layout : Layout) (m own : Maps) (old mid new : Emit) → (own ≡ held_from layout m (from old)) × Emits (declares_all (held_types layout) (from old)) old mid (from old) →
    Emits (puts None (copy_held own m) (from mid)) mid new tt → Emits (saving layout m (from old)) old new own
saving_emits layout m own old mid new h put =
    let is = held_from layout m (from old) in
    valued h.0 (then_emits (declares_all (held_types layout)) (λ n. then_emit (puts None (copy_held (held_from layout m n) m)) (λ u. gives (held_from layout m n))) old mid new (from old) is h.1
    (ending (puts None (copy_held is m)) (λ u. is) tt (put_as None (ap (λ z. copy_held z m) h.0) put)))

pub copying_emits : (layout : Layout) (m own : Maps) (old mid new : Emit) → (own ≡ maps_from layout (from old)) × Emits (declares_all (state_types layout) (from old)) old mid (from old) →
    Emits (puts None (copy_state own m) (from mid)) mid new tt → Emits (copying layout m (from old)) old new own
copying_emits layout m own old mid new h put =
    let is = maps_from layout (from old) in
    valued h.0 (then_emits (declares_all (state_types layout)) (λ n. then_emit (puts None (copy_state (maps_from layout n) m)) (λ u. gives (maps_from layout n))) old mid new (from old) is h.1
    (ending (puts None (copy_state is m)) (λ u. is) tt (put_as None (ap (λ z. copy_state z m) h.0) put)))

-- ---- folding and unfolding

module _ (k : Kinds) (p : Place) where
  pub closing_emits : (q : ℕ) (body : e.Assertion) (args : List ℕ) (amount : t.BExpr) (old one two three new : Emit) (start : Maps) (x : ℕ) → Emits (saving k.layout p.now (from old)) old one start →
      Emits (consume_code (body_kinds k q) (with_vars args (with_now start p)) p.now None amount body (from one)) one two tt → Emits (declares (plain_type base.Snap) (from two)) two three x →
      Emits (puts None (s.first (s.Assign x (content_expr (body_kinds k q) (with_vars args (with_now start p)) body)) (fill_instance_code p one_real q (index args) amount x)) (from three)) three new tt →
      Emits (closing_code k p q body args amount (from old)) old new tt
  closing_emits q body args amount old one two three new start x saved consumed declared put =
      then_emits (saving k.layout p.now) (λ start. then_emit (consume_code (body_kinds k q) (with_vars args (with_now start p)) p.now None amount body) (λ u. then_emit (declares (plain_type base.Snap)) (λ c.
      puts None (s.first (s.Assign c (content_expr (body_kinds k q) (with_vars args (with_now start p)) body)) (fill_instance_code p one_real q (index args) amount c))))) old one new start tt saved
      (then_emits (consume_code (body_kinds k q) (with_vars args (with_now start p)) p.now None amount body) (λ u. then_emit (declares (plain_type base.Snap)) (λ c.
      puts None (s.first (s.Assign c (content_expr (body_kinds k q) (with_vars args (with_now start p)) body)) (fill_instance_code p one_real q (index args) amount c)))) one two new tt tt consumed
      (then_emits (declares (plain_type base.Snap)) (λ c.
      puts None (s.first (s.Assign c (content_expr (body_kinds k q) (with_vars args (with_now start p)) body)) (fill_instance_code p one_real q (index args) amount c))) two three new x tt declared put))

  pub fold_emits : (f : FoldStmt) (body : e.Assertion) (old one two three four five new : Emit) (xs : List Operand) (m : Operand) (l : Located) (a : Atom) → Emits (codes k p None f.args (from old)) old one xs →
      Emits (code k p None f.amount (from one)) one two m → Emits (located xs (from two)) two three l → Emits (atomic m (from three)) three four a →
      Emits (puts None (join l.sets (join a.sets (check_positive (label p f.place kind.Amount) a.expr))) (from four)) four five tt →
      Emits (closing_code k p f.predicate body l.locals a.expr (from five)) five new tt → Emits (fold_code k p f body (from old)) old new tt
  fold_emits f body old one two three four five new xs m l a given asked in_locals atom put closed =
      let tests = λ (l : Located) (a : Atom). join l.sets (join a.sets (check_positive (label p f.place kind.Amount) a.expr)) in
      let last = λ (l : Located) (a : Atom). then_emit (puts None (join l.sets (join a.sets (check_positive (label p f.place kind.Amount) a.expr)))) (λ u. closing_code k p f.predicate body l.locals a.expr) in
      then_emits (codes k p None f.args) (λ xs. then_emit (code k p None f.amount) (λ m. then_emit (located xs) (λ l. then_emit (atomic m) (λ a. last l a)))) old one new xs tt given
      (then_emits (code k p None f.amount) (λ m. then_emit (located xs) (λ l. then_emit (atomic m) (λ a. last l a))) one two new m tt asked
      (then_emits (located xs) (λ l. then_emit (atomic m) (λ a. last l a)) two three new l tt in_locals (then_emits (atomic m) (λ a. last l a) three four new a tt atom
      (then_emits (puts None (tests l a)) (λ u. closing_code k p f.predicate body l.locals a.expr) four five new tt tt put closed))))

  pub unfold_emits : (f : FoldStmt) (body : e.Assertion) (old one two three four five six new : Emit) (xs : List Operand) (m : Operand) (l : Located) (a : Atom) (x : ℕ) → Emits (codes k p None f.args (from old)) old one xs →
      Emits (code k p None f.amount (from one)) one two m → Emits (located xs (from two)) two three l → Emits (atomic m (from three)) three four a → Emits (declares (plain_type base.Snap) (from four)) four five x →
      Emits (puts None (join l.sets (join a.sets (taking p p.now s.skip f.predicate (index l.locals) a.expr x f.place))) (from five)) five six tt →
      Emits (body_code (body_kinds k f.predicate) (with_vars l.locals p) None a.expr body x (from six)) six new tt → Emits (unfold_code k p f body (from old)) old new tt
  unfold_emits f body old one two three four five six new xs m l a x given asked in_locals atom declared put filled =
      let takes = λ (l : Located) (a : Atom) (x : ℕ). join l.sets (join a.sets (taking p p.now s.skip f.predicate (index l.locals) a.expr x f.place)) in
      let fills = λ (l : Located) (a : Atom) (x : ℕ). body_code (body_kinds k f.predicate) (with_vars l.locals p) None a.expr body x in
      let last = λ (l : Located) (a : Atom). then_emit (declares (plain_type base.Snap)) (λ x. then_emit (puts None (join l.sets (join a.sets (taking p p.now s.skip f.predicate (index l.locals) a.expr x f.place)))) (λ u.
      body_code (body_kinds k f.predicate) (with_vars l.locals p) None a.expr body x)) in
      then_emits (codes k p None f.args) (λ xs. then_emit (code k p None f.amount) (λ m. then_emit (located xs) (λ l. then_emit (atomic m) (λ a. last l a)))) old one new xs tt given
      (then_emits (code k p None f.amount) (λ m. then_emit (located xs) (λ l. then_emit (atomic m) (λ a. last l a))) one two new m tt asked
      (then_emits (located xs) (λ l. then_emit (atomic m) (λ a. last l a)) two three new l tt in_locals (then_emits (atomic m) (λ a. last l a) three four new a tt atom
      (then_emits (declares (plain_type base.Snap)) (λ x. then_emit (puts None (takes l a x)) (λ u. fills l a x)) four five new x tt declared
      (then_emits (puts None (takes l a x)) (λ u. fills l a x) five six new tt tt put filled)))))

-- ---- the same, said otherwise

module _ {old new : Emit} {k l : Kinds} {p q : Place} {g h : Guard} where
  pub codes_as : {xs ys : e.Exprs} {zs : List Operand} (n : ℕ) → k ≡ l → p ≡ q → g ≡ h → xs ≡ ys → Emits (codes k p g xs n) old new zs → Emits (codes l q h ys n) old new zs
  codes_as {zs = zs} n kinds place guard args emits = subst (λ c. Emits c old new zs) (λ i. codes (kinds i) (place i) (guard i) (args i) n) emits

pub closing_as : (k : Kinds) (p : Place) (q : ℕ) (body : e.Assertion) {is js : List ℕ} (amount : t.BExpr) (n : ℕ) {old new : Emit} → is ≡ js → Emits (closing_code k p q body is amount n) old new tt → Emits (closing_code k p q body js amount n) old new tt
closing_as k p q body amount n {old} {new} same emits = subst (λ is. Emits (closing_code k p q body is amount n) old new tt) same emits

-- ---- of the body that a predicate has

module _ (go : Kinds → e.Assertion → Emitting ⊤) {old new : Emit} where
  pub with_body_emits : {o : Option e.Assertion} {body : e.Assertion} {k l : Kinds} → Some body ≡ o → k ≡ l → Emits (go k body (from old)) old new tt → Emits (with_body o (go l) (from old)) old new tt
  with_body_emits is kinds emits = subst (λ (f : (Option e.Assertion) × Kinds). Emits (with_body f.0 (go f.1) (from old)) old new tt) (λ i. (is i, kinds i)) emits

pub without_body_emits : (go : e.Assertion → Emitting ⊤) {o : Option e.Assertion} (x : Emit) → None ≡ o → Emits (with_body o go (from x)) x x tt
without_body_emits go x is = subst (λ o. Emits (with_body o go (from x)) x x tt) is (gives_emits tt x)
