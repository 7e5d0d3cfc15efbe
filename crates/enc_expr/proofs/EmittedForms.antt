-- What each form emits, given what its parts emit.
use Rattle.std.proofs.Common.{◌≡◌, ◌∙◌, ℕ, List, ◌∷◌, ◌++◌, Some, length, true, false, ap, sym, subst, append_assoc}
use Rattle.std.specs.Prelude.{⊤}
use Rattle.vb_base.specs.declared.places.Pos.{Pos}
use Rattle.viper_core.specs.Expr as e
use Rattle.viper_core.specs.declared.exprs.Op.{Op}
use Rattle.viper_meaning.specs.Operators.{Class, class_of, Lazy, Division, Plain}
use Rattle.boogie_tree.specs.Expr as t
use Rattle.boogie_tree.specs.Stmt as s
use Rattle.boogie_tree.specs.declared.exprs.BBase.TheVariants as base
use Rattle.boogie_tree.specs.Values.{plain_type}
use Rattle.vb_base.specs.declared.labels.Kind.TheVariants as kind
use Rattle.moves.specs.Scalars.{base_for, variable_type}
use Rattle.moves.specs.Maps.{state_types}
use Rattle.enc_expr.specs.Kinds.{Kinds, type_at, body_kinds}
use Rattle.enc_expr.specs.Place.{Maps, Place, number, with_now, with_vars}
use Rattle.enc_expr.specs.Code.{Code, Emitting, join, gives, then_emit, declares, declares_all, Guard, puts, guards}
use Rattle.enc_expr.specs.Pieces.{Operand, Atom, Located, is_atom, in_local, atomic, located, located_from, at_one, one, label, index, check_divisor}
use Rattle.enc_expr.specs.Operators.{binary_code, in_class_code, lazily, lazy_operand, right_counts, divisor, division, quotient_operand, operand_of, choose_code, chosen_operand}
use Rattle.enc_expr.specs.Encoding.{read_code, read_checks, maps_from, copy_state, taking, is_unit, pair_code, fill_by, fill_place_code, fill_instance_code, acc_code, instance_code, code, codes, amount_code, body_code, unfolding_code, unfolding_at, inside_code}
use Rattle.enc_expr.specs.Emits.{Emit, Emits}
use Rattle.enc_expr.proofs.EmitLaws.{gives_emits, then_emits}
use Rattle.enc_expr.proofs.RunLaws.{join_assoc}

abbrev from : Emit → ℕ
from x = length x.locals

module _ {X : Type 0} {old new : Emit} where
  -- the same value, said otherwise
  pub valued : {c : Code X} {x y : X} → y ≡ x → Emits c old new x → Emits c old new y
  valued same h = record { locals = h.locals; next = h.next; stmts = h.stmts; value = same ∙ h.value }

  -- the last piece only hands on
  pub ending : {Y : Type 0} (m : Emitting X) (f : X → Y) (x : X) → Emits (m (from old)) old new x → Emits (then_emit m (λ (x : X). gives (f x)) (from old)) old new (f x)
  ending m f x h = then_emits m (λ (x : X). gives (f x)) old new new x (f x) h (gives_emits (f x) new)

-- the same statements, said otherwise
pub put_as : {old new : Emit} (g : Guard) {xs ys : s.BStmts} {n : ℕ} → xs ≡ ys → Emits (puts g xs n) old new tt → Emits (puts g ys n) old new tt
put_as {old = old} {new = new} g {n = n} same h = subst (λ (zs : s.BStmts). Emits (puts g zs n) old new tt) same h

-- ---- operands

module _ (x : Operand) where
  pub atom_emits : (old : Emit) (a : t.BExpr) → is_atom x.expr ≡ true → a ≡ x.expr → Emits (atomic x (from old)) old old (record { expr = a; sets = s.skip })
  atom_emits old a atom same = rw atom (valued (ap (λ (y : t.BExpr). record { expr = y; sets = s.skip }) same) (gives_emits (record { expr = x.expr; sets = s.skip }) old))

  pub in_local_emits : (old new : Emit) (i : ℕ) → Emits (declares (plain_type x.base) (from old)) old new i →
      Emits (in_local x (from old)) old new (record { expr = t.Var i; sets = s.first (s.Assign i x.expr) s.skip })
  in_local_emits old new i h = ending (declares (plain_type x.base)) (λ (i : ℕ). record { expr = t.Var i; sets = s.first (s.Assign i x.expr) s.skip }) i h

  pub not_atom_emits : (old new : Emit) (a : Atom) → is_atom x.expr ≡ false → Emits (in_local x (from old)) old new a → Emits (atomic x (from old)) old new a
  not_atom_emits old new a other h = rw other h

-- ---- operators

module _ (p : Place) (g : Guard) (o : Op) (at : Pos) (left : Emitting Operand) (right : Guard → Emitting Operand) (old mid : Emit) (x : Operand) (h : Emits (left (from old)) old mid x) where
  pub lazy_emits : (new : Emit) (y : Operand) → class_of o ≡ Lazy → Emits (lazily g o x right (from mid)) mid new y → Emits (binary_code p g o at left right (from old)) old new y
  lazy_emits new y c k = rw c (then_emits left (λ (x : Operand). lazily g o x right) old mid new x y h k)

  pub divided_emits : (last new : Emit) (y z : Operand) → class_of o ≡ Division → Emits (right g (from mid)) mid last y → Emits (division p g o at x y (from last)) last new z →
      Emits (binary_code p g o at left right (from old)) old new z
  divided_emits last new y z c k l = rw c (then_emits left (λ (x : Operand). then_emit (right g) (λ (y : Operand). division p g o at x y)) old mid new x z h
      (then_emits (right g) (λ (y : Operand). division p g o at x y) mid last new y z k l))

  pub plain_emits : (new : Emit) (y : Operand) → class_of o ≡ Plain → Emits (right g (from mid)) mid new y → Emits (binary_code p g o at left right (from old)) old new (operand_of o x y)
  plain_emits new y c k = rw c (then_emits left (λ (x : Operand). then_emit (right g) (λ (y : Operand). gives (operand_of o x y))) old mid new x (operand_of o x y) h (ending (right g) (λ (y : Operand). operand_of o x y) y k))

-- the rest of an operator, behind its left side
pub binary_emits : (p : Place) (g : Guard) (o : Op) (at : Pos) (left : Emitting Operand) (right : Guard → Emitting Operand) (old mid new : Emit) (x y : Operand) → Emits (left (from old)) old mid x →
    Emits (binary_code p g o at (gives x) right (from mid)) mid new y → Emits (binary_code p g o at left right (from old)) old new y
binary_emits p g o at left right old mid new x y h k = by_class (class_of o) k
  where
    by_class : (q : Class) → Emits (in_class_code q p g o at (gives x) right (from mid)) mid new y → Emits (in_class_code q p g o at left right (from old)) old new y
    by_class Lazy k = then_emits left (λ (x : Operand). lazily g o x right) old mid new x y h k
    by_class Division k = then_emits left (λ (x : Operand). then_emit (right g) (λ (y : Operand). division p g o at x y)) old mid new x y h k
    by_class Plain k = then_emits left (λ (x : Operand). then_emit (right g) (λ (y : Operand). gives (operand_of o x y))) old mid new x y h k

pub lazily_emits : (g : Guard) (o : Op) (x : Operand) (right : Guard → Emitting Operand) (old mid new : Emit) (h : ℕ) (y : Operand) → Emits (guards g (right_counts o x.expr) (from old)) old mid h →
    Emits (right (Some h) (from mid)) mid new y → Emits (lazily g o x right (from old)) old new (lazy_operand o h y)
lazily_emits g o x right old mid new h y k l =
    then_emits (guards g (right_counts o x.expr)) (λ (h : ℕ). then_emit (right (Some h)) (λ (y : Operand). gives (lazy_operand o h y))) old mid new h (lazy_operand o h y) k (ending (right (Some h)) (lazy_operand o h) y l)

pub divisor_emits : (p : Place) (g : Guard) (at : Pos) (y : Operand) (old mid new : Emit) (d : Atom) → Emits (atomic y (from old)) old mid d →
    Emits (puts g (join d.sets (check_divisor (label p at kind.Div) d.expr)) (from mid)) mid new tt → Emits (divisor p g at y (from old)) old new d.expr
divisor_emits p g at y old mid new d h k =
    then_emits (atomic y) (λ (d : Atom). then_emit (puts g (join d.sets (check_divisor (label p at kind.Div) d.expr))) (λ (u : ⊤). gives d.expr)) old mid new d d.expr h
    (ending (puts g (join d.sets (check_divisor (label p at kind.Div) d.expr))) (λ (u : ⊤). d.expr) tt k)

pub division_emits : (p : Place) (g : Guard) (o : Op) (at : Pos) (x y : Operand) (old new : Emit) (d : t.BExpr) → Emits (divisor p g at y (from old)) old new d →
    Emits (division p g o at x y (from old)) old new (quotient_operand o x d)
division_emits p g o at x y old new d h = record { locals = h.locals; next = h.next; stmts = h.stmts; value = ap (quotient_operand o x) h.value }

-- ---- choices

module _ {X Y : Type 0} (g : Guard) (x : t.BExpr) (left right : Guard → Emitting X) (both : ℕ → X → X → Y) where
  pub choose_emits : (old one two three new : Emit) (h k : ℕ) (v w : X) → Emits (guards g x (from old)) old one h → Emits (guards g (t.Not (t.Var h)) (from one)) one two k →
      Emits (left (Some h) (from two)) two three v → Emits (right (Some k) (from three)) three new w → Emits (choose_code g x left right both (from old)) old new (both h v w)
  choose_emits old one two three new h k v w a b c d =
      then_emits (guards g x) (λ (h : ℕ). then_emit (guards g (t.Not (t.Var h))) (λ (k : ℕ). then_emit (left (Some h)) (λ (v : X). then_emit (right (Some k)) (λ (w : X). gives (both h v w))))) old one new h (both h v w) a
      (then_emits (guards g (t.Not (t.Var h))) (λ (k : ℕ). then_emit (left (Some h)) (λ (v : X). then_emit (right (Some k)) (λ (w : X). gives (both h v w)))) one two new k (both h v w) b
      (then_emits (left (Some h)) (λ (v : X). then_emit (right (Some k)) (λ (w : X). gives (both h v w))) two three new v (both h v w) c
      (ending (right (Some k)) (both h v) w d)))

-- ---- reading

pub read_emits : (k : Kinds) (p : Place) (g : Guard) (f : ℕ) (at : Pos) (x : Operand) (old mid new : Emit) (r : Atom) → Emits (atomic x (from old)) old mid r →
    Emits (puts g (join r.sets (read_checks p f at r.expr)) (from mid)) mid new tt → Emits (read_code k p g f at x (from old)) old new (record { expr = at_one (number p.now.heap f) r.expr; base = base_for (type_at k.layout.fields f) })
read_emits k p g f at x old mid new r h l =
    then_emits (atomic x) (λ (r : Atom). then_emit (puts g (join r.sets (read_checks p f at r.expr))) (λ (u : ⊤). gives (value r))) old mid new r (value r) h (ending (puts g (join r.sets (read_checks p f at r.expr))) (λ (u : ⊤). value r) tt l)
  where
    value : Atom → Operand
    value r = record { expr = at_one (number p.now.heap f) r.expr; base = base_for (type_at k.layout.fields f) }

-- ---- lists of operands

-- the code of the arguments that are left, behind those so far
pub operand_emits : (k : Kinds) (p : Place) (g : Guard) (a : e.Expr) (rest : e.Exprs) (old mid new : Emit) (x : Operand) (xs : List Operand) → Emits (code k p g a (from old)) old mid x → Emits (codes k p g rest (from mid)) mid new xs →
    Emits (codes k p g (e.more a rest) (from old)) old new (x ∷ xs)
operand_emits k p g a rest old mid new x xs h l =
    then_emits (code k p g a) (λ (x : Operand). then_emit (codes k p g rest) (λ (xs : List Operand). gives (x ∷ xs))) old mid new x (x ∷ xs) h (ending (codes k p g rest) (λ (xs : List Operand). x ∷ xs) xs l)

-- locals of operands, behind those so far
abbrev pub behind : Located → Located → Located
behind l more = record { locals = l.locals ++ more.locals; sets = join l.sets more.sets }

pub located_emits : (x : Operand) (xs : List Operand) (old mid new : Emit) (l more : Located) → Emits (located_from x x.expr (from old)) old mid l → Emits (located xs (from mid)) mid new more →
    Emits (located (x ∷ xs) (from old)) old new (behind l more)
located_emits x xs old mid new l more h k =
    then_emits (located_from x x.expr) (λ (a : Located). then_emit (located xs) (λ (rest : Located). gives (behind a rest))) old mid new l (behind l more) h (ending (located xs) (behind l) more k)

pub behind_assoc : (a b c : Located) → behind (behind a b) c ≡ behind a (behind b c)
behind_assoc a b c = λ i. record { locals = append_assoc a.locals b.locals c.locals i; sets = join_assoc a.sets b.sets c.sets i }

-- ---- filling from a content

pub acc_emits : (k : Kinds) (p : Place) (g : Guard) (scale : t.BExpr) (f : ℕ) (at : Pos) (source : ℕ) (x q : Operand) (old one two three new : Emit) (r a : Atom) (v : ℕ) → Emits (atomic x (from old)) old one r →
    Emits (atomic q (from one)) one two a → Emits (declares (variable_type (type_at k.layout.fields f)) (from two)) two three v →
    Emits (puts g (join r.sets (join a.sets (fill_by p at a.expr source (fill_place_code p scale (type_at k.layout.fields f) f r.expr a.expr v source)))) (from three)) three new tt →
    Emits (acc_code k p g scale f at source x q (from old)) old new tt
acc_emits k p g scale f at source x q old one two three new r a v h l m n =
    then_emits (atomic x) (λ (r : Atom). then_emit (atomic q) (λ (a : Atom). then_emit (declares (variable_type (type_at k.layout.fields f))) (written r a))) old one new r tt h
    (then_emits (atomic q) (λ (a : Atom). then_emit (declares (variable_type (type_at k.layout.fields f))) (written r a)) one two new a tt l
    (then_emits (declares (variable_type (type_at k.layout.fields f))) (written r a) two three new v tt m n))
  where
    written : Atom → Atom → ℕ → Emitting ⊤
    written r a v = puts g (join r.sets (join a.sets (fill_by p at a.expr source (fill_place_code p scale (type_at k.layout.fields f) f r.expr a.expr v source))))

pub instance_emits : (p : Place) (g : Guard) (scale : t.BExpr) (q : ℕ) (at : Pos) (source : ℕ) (xs : List Operand) (m : Operand) (old one two new : Emit) (l : Located) (a : Atom) → Emits (located xs (from old)) old one l →
    Emits (atomic m (from one)) one two a → Emits (puts g (join l.sets (join a.sets (fill_by p at a.expr source (fill_instance_code p scale q (index l.locals) a.expr source)))) (from two)) two new tt →
    Emits (instance_code p g scale q at source xs m (from old)) old new tt
instance_emits p g scale q at source xs m old one two new l a h i j =
    then_emits (located xs) (λ (l : Located). then_emit (atomic m) (written l)) old one new l tt h (then_emits (atomic m) (written l) one two new a tt i j)
  where
    written : Located → Atom → Emitting ⊤
    written l a = puts g (join l.sets (join a.sets (fill_by p at a.expr source (fill_instance_code p scale q (index l.locals) a.expr source))))

module _ (k : Kinds) (p : Place) (g : Guard) (scale : t.BExpr) (source : ℕ) where
  pub fact_emits : (a : e.Expr) (old mid new : Emit) (x : Operand) → Emits (code k p g a (from old)) old mid x → Emits (puts g (s.first (s.Assume (is_unit source)) (one (s.Assume x.expr))) (from mid)) mid new tt →
      Emits (then_emit (code k p g a) (λ (x : Operand). puts g (s.first (s.Assume (is_unit source)) (one (s.Assume x.expr)))) (from old)) old new tt
  fact_emits a old mid new x h l = then_emits (code k p g a) (λ (x : Operand). puts g (s.first (s.Assume (is_unit source)) (one (s.Assume x.expr)))) old mid new x tt h l

  pub access_emits : (a : e.Expr) (f : ℕ) (m : e.Amt) (at : Pos) (old one two new : Emit) (x q : Operand) → Emits (code k p g a (from old)) old one x → Emits (amount_code k p g m (from one)) one two q →
      Emits (acc_code k p g scale f at source x q (from two)) two new tt → Emits (body_code k p g scale (e.Acc a f m at) source (from old)) old new tt
  access_emits a f m at old one two new x q h i j =
      then_emits (code k p g a) (λ (x : Operand). then_emit (amount_code k p g m) (acc_code k p g scale f at source x)) old one new x tt h (then_emits (amount_code k p g m) (acc_code k p g scale f at source x) one two new q tt i j)

  pub part_emits : (q : ℕ) (args : e.Exprs) (m : e.Amt) (at : Pos) (old one two new : Emit) (xs : List Operand) (x : Operand) → Emits (codes k p g args (from old)) old one xs → Emits (amount_code k p g m (from one)) one two x →
      Emits (instance_code p g scale q at source xs x (from two)) two new tt → Emits (body_code k p g scale (e.Inst q args m at) source (from old)) old new tt
  part_emits q args m at old one two new xs x h i j =
      then_emits (codes k p g args) (λ (xs : List Operand). then_emit (amount_code k p g m) (instance_code p g scale q at source xs)) old one new xs tt h
      (then_emits (amount_code k p g m) (instance_code p g scale q at source xs) one two new x tt i j)

  pub both_emit : (a b : e.Assertion) (old one two three four new : Emit) (l r : ℕ) → Emits (declares (plain_type base.Snap) (from old)) old one l → Emits (declares (plain_type base.Snap) (from one)) one two r →
      Emits (puts g (pair_code source l r) (from two)) two three tt → Emits (body_code k p g scale a l (from three)) three four tt → Emits (body_code k p g scale b r (from four)) four new tt →
      Emits (body_code k p g scale (e.And a b) source (from old)) old new tt
  both_emit a b old one two three four new l r h i j m n =
      then_emits (declares (plain_type base.Snap)) (λ (l : ℕ). then_emit (declares (plain_type base.Snap)) (λ (r : ℕ). split l r)) old one new l tt h
      (then_emits (declares (plain_type base.Snap)) (λ (r : ℕ). split l r) one two new r tt i
      (then_emits (puts g (pair_code source l r)) (λ (u : ⊤). then_emit (body_code k p g scale a l) (λ (u : ⊤). body_code k p g scale b r)) two three new tt tt j
      (then_emits (body_code k p g scale a l) (λ (u : ⊤). body_code k p g scale b r) three four new tt tt m n)))
    where
      split : ℕ → ℕ → Emitting ⊤
      split l r = then_emit (puts g (pair_code source l r)) (λ (u : ⊤). then_emit (body_code k p g scale a l) (λ (u : ⊤). body_code k p g scale b r))

-- ---- unfolding

module _ (k : Kinds) (p : Place) (g : Guard) (q : ℕ) (args : e.Exprs) (amount : e.Expr) (body : e.Assertion) (inner : e.Expr) (at : Pos) where
  pub unfolding_emits : (old one two three four new : Emit) (xs : List Operand) (m : Operand) (l : Located) (a : Atom) (x : Operand) → Emits (codes k p g args (from old)) old one xs → Emits (code k p g amount (from one)) one two m →
      Emits (located xs (from two)) two three l → Emits (atomic m (from three)) three four a → Emits (unfolding_at k p g (e.opened q args amount body inner at) l a (from four)) four new x →
      Emits (unfolding_code k p g (e.opened q args amount body inner at) (from old)) old new x
  unfolding_emits old one two three four new xs m l a x h i j n o =
      then_emits (codes k p g args) (λ (xs : List Operand). then_emit (code k p g amount) (λ (m : Operand). then_emit (located xs) (λ (l : Located). then_emit (atomic m) (opening l)))) old one new xs x h
      (then_emits (code k p g amount) (λ (m : Operand). then_emit (located xs) (λ (l : Located). then_emit (atomic m) (opening l))) one two new m x i
      (then_emits (located xs) (λ (l : Located). then_emit (atomic m) (opening l)) two three new l x j
      (then_emits (atomic m) (opening l) three four new a x n o)))
    where
      opening : Located → Atom → Emitting Operand
      opening = unfolding_at k p g (e.opened q args amount body inner at)

  pub unfolded_emits : (l : Located) (a : Atom) (old one two three new : Emit) (source : ℕ) (x : Operand) → (let m = maps_from k.layout (from old) in
      Emits (declares_all (state_types k.layout) (from old)) old one (from old) → Emits (declares (plain_type base.Snap) (from one)) one two source →
      Emits (puts g (join l.sets (join a.sets (taking p m (copy_state m p.now) q (index l.locals) a.expr source at))) (from two)) two three tt →
      Emits (inside_code k p g (e.opened q args amount body inner at) l.locals m a.expr source (from three)) three new x → Emits (unfolding_at k p g (e.opened q args amount body inner at) l a (from old)) old new x)
  unfolded_emits l a old one two three new source x h i j m =
      then_emits (declares_all (state_types k.layout)) (λ (n : ℕ). then_emit (declares (plain_type base.Snap)) (opening n)) old one new (from old) x h
      (then_emits (declares (plain_type base.Snap)) (opening (from old)) one two new source x i
      (then_emits (puts g (taken (from old) source)) (λ (u : ⊤). then_emit (filled (from old) source) (λ (u : ⊤). code k (with_now (maps_from k.layout (from old)) p) g inner)) two three new tt x j m))
    where
      taken : ℕ → ℕ → s.BStmts
      taken n source = join l.sets (join a.sets (taking p (maps_from k.layout n) (copy_state (maps_from k.layout n) p.now) q (index l.locals) a.expr source at))

      filled : ℕ → ℕ → Emitting ⊤
      filled n source = body_code (body_kinds k q) (with_now (maps_from k.layout n) (with_vars l.locals p)) g a.expr body source

      opening : ℕ → ℕ → Emitting Operand
      opening n source = then_emit (puts g (taken n source)) (λ (u : ⊤). then_emit (filled n source) (λ (u : ⊤). code k (with_now (maps_from k.layout n) p) g inner))

-- ---- under another name

module _ (k l : Kinds) (p q : Place) (g h : Guard) {old new : Emit} where
  pub read_as : (a : e.Expr) (n : ℕ) {x : Operand} → k ≡ l → p ≡ q → g ≡ h → Emits (code k p g a n) old new x → Emits (code l q h a n) old new x
  read_as a n {x = x} hk hp hg m =
      subst (λ (i : Kinds). Emits (code i q h a n) old new x) hk (subst (λ (i : Place). Emits (code k i h a n) old new x) hp (subst (λ (i : Guard). Emits (code k p i a n) old new x) hg m))

  pub fill_as : (scale : t.BExpr) (a : e.Assertion) (source n : ℕ) → k ≡ l → p ≡ q → g ≡ h → Emits (body_code k p g scale a source n) old new tt → Emits (body_code l q h scale a source n) old new tt
  fill_as scale a source n hk hp hg m =
      subst (λ (i : Kinds). Emits (body_code i q h scale a source n) old new tt) hk (subst (λ (i : Place). Emits (body_code k i h scale a source n) old new tt) hp
      (subst (λ (i : Guard). Emits (body_code k p i scale a source n) old new tt) hg m))

-- the same expression or assertion, said otherwise
module _ (k : Kinds) (p : Place) (g : Guard) (n : ℕ) {old new : Emit} where
  pub coded_as : {a b : e.Expr} {x : Operand} → a ≡ b → Emits (code k p g b n) old new x → Emits (code k p g a n) old new x
  coded_as {x = x} same h = subst (λ (a : e.Expr). Emits (code k p g a n) old new x) (sym same) h

  pub all_coded_as : {a b : e.Exprs} {xs : List Operand} → a ≡ b → Emits (codes k p g b n) old new xs → Emits (codes k p g a n) old new xs
  all_coded_as {xs = xs} same h = subst (λ (a : e.Exprs). Emits (codes k p g a n) old new xs) (sym same) h

  pub filled_as : (scale : t.BExpr) (source : ℕ) {a b : e.Assertion} → a ≡ b → Emits (body_code k p g scale b source n) old new tt → Emits (body_code k p g scale a source n) old new tt
  filled_as scale source same h = subst (λ (a : e.Assertion). Emits (body_code k p g scale a source n) old new tt) (sym same) h

-- the same condition
pub guarded_as : {old new : Emit} (g : Guard) {x y : t.BExpr} {n h : ℕ} → x ≡ y → Emits (guards g x n) old new h → Emits (guards g y n) old new h
guarded_as {old = old} {new = new} g {n = n} {h = h} same k = subst (λ (z : t.BExpr). Emits (guards g z n) old new h) same k

-- ---- expressions

module _ (k : Kinds) (p : Place) (g : Guard) where
  pub neg_emits : (a : e.Expr) (old new : Emit) (x : Operand) → Emits (code k p g a (from old)) old new x → Emits (code k p g (e.Neg a) (from old)) old new (record { expr = t.Neg x.expr; base = x.base })
  neg_emits a old new x h = ending (code k p g a) (λ (x : Operand). record { expr = t.Neg x.expr; base = x.base }) x h

  pub not_emits : (a : e.Expr) (old new : Emit) (x : Operand) → Emits (code k p g a (from old)) old new x → Emits (code k p g (e.Not a) (from old)) old new (record { expr = t.Not x.expr; base = base.Bool })
  not_emits a old new x h = ending (code k p g a) (λ (x : Operand). record { expr = t.Not x.expr; base = base.Bool }) x h

  pub choice_emits : (a b d : e.Expr) (old zero one two three new : Emit) (x : Operand) (h m : ℕ) (v w : Operand) → Emits (code k p g a (from old)) old zero x → Emits (guards g x.expr (from zero)) zero one h →
      Emits (guards g (t.Not (t.Var h)) (from one)) one two m → Emits (code k p (Some h) b (from two)) two three v → Emits (code k p (Some m) d (from three)) three new w →
      Emits (code k p g (e.Choose a b d) (from old)) old new (chosen_operand h v w)
  choice_emits a b d old zero one two three new x h m v w i j l n o =
      then_emits (code k p g a) (λ (x : Operand). choose_code g x.expr (λ (h : Guard). code k p h b) (λ (h : Guard). code k p h d) chosen_operand) old zero new x (chosen_operand h v w) i
      (choose_emits g x.expr (λ (h : Guard). code k p h b) (λ (h : Guard). code k p h d) chosen_operand zero one two three new h m v w j l n o)

  pub field_emits : (a : e.Expr) (f : ℕ) (at : Pos) (old mid new : Emit) (x y : Operand) → Emits (code k p g a (from old)) old mid x → Emits (read_code k p g f at x (from mid)) mid new y → Emits (code k p g (e.Field a f at) (from old)) old new y
  field_emits a f at old mid new x y h l = then_emits (code k p g a) (read_code k p g f at) old mid new x y h l

  -- ---- assertions under guards

  module _ (scale : t.BExpr) (source : ℕ) where
    pub implied_emits : (a : e.Expr) (b : e.Assertion) (old zero first two three new : Emit) (x : Operand) (h m : ℕ) → Emits (code k p g a (from old)) old zero x → Emits (guards g x.expr (from zero)) zero first h →
        Emits (guards g (t.Not (t.Var h)) (from first)) first two m → Emits (body_code k p (Some h) scale b source (from two)) two three tt → Emits (puts (Some m) (one (s.Assume (is_unit source))) (from three)) three new tt →
        Emits (body_code k p g scale (e.Implies a b) source (from old)) old new tt
    implied_emits a b old zero first two three new x h m i j l n o =
        then_emits (code k p g a) (λ (x : Operand). choose_code g x.expr (λ (h : Guard). body_code k p h scale b source) (λ (h : Guard). puts h (one (s.Assume (is_unit source)))) (λ (h : ℕ) (u v : ⊤). tt)) old zero new x tt i
        (choose_emits g x.expr (λ (h : Guard). body_code k p h scale b source) (λ (h : Guard). puts h (one (s.Assume (is_unit source)))) (λ (h : ℕ) (u v : ⊤). tt) zero first two three new h m tt tt j l n o)

    pub chosen_emits : (a : e.Expr) (b d : e.Assertion) (old zero first two three new : Emit) (x : Operand) (h m : ℕ) → Emits (code k p g a (from old)) old zero x → Emits (guards g x.expr (from zero)) zero first h →
        Emits (guards g (t.Not (t.Var h)) (from first)) first two m → Emits (body_code k p (Some h) scale b source (from two)) two three tt → Emits (body_code k p (Some m) scale d source (from three)) three new tt →
        Emits (body_code k p g scale (e.ChooseAssertion a b d) source (from old)) old new tt
    chosen_emits a b d old zero first two three new x h m i j l n o =
        then_emits (code k p g a) (λ (x : Operand). choose_code g x.expr (λ (h : Guard). body_code k p h scale b source) (λ (h : Guard). body_code k p h scale d source) (λ (h : ℕ) (u v : ⊤). tt)) old zero new x tt i
        (choose_emits g x.expr (λ (h : Guard). body_code k p h scale b source) (λ (h : Guard). body_code k p h scale d source) (λ (h : ℕ) (u v : ⊤). tt) zero first two three new h m tt tt j l n o)

-- the body and the inner expression
pub inside_emits : (l : Kinds) (q : Place) (g : Guard) (body : e.Assertion) (k : Kinds) (r : Place) (inner : e.Expr) (scale : t.BExpr) (source : ℕ) (old mid new : Emit) (x : Operand) → Emits (body_code l q g scale body source (from old)) old mid tt →
    Emits (code k r g inner (from mid)) mid new x → Emits (then_emit (body_code l q g scale body source) (λ (u : ⊤). code k r g inner) (from old)) old new x
inside_emits l q g body k r inner scale source old mid new x h i = then_emits (body_code l q g scale body source) (λ (u : ⊤). code k r g inner) old mid new tt x h i

-- the same by another name of the scale, the guard, the locals and the maps
pub scaled_as : (k : Kinds) (p : Place) (g : Guard) (n : ℕ) (a : e.Assertion) (source : ℕ) {old new : Emit} {x y : t.BExpr} → x ≡ y → Emits (body_code k p g x a source n) old new tt → Emits (body_code k p g y a source n) old new tt
scaled_as k p g n a source {old = old} {new = new} same h = subst (λ (z : t.BExpr). Emits (body_code k p g z a source n) old new tt) same h

pub put_under : (xs : s.BStmts) (n : ℕ) {old new : Emit} {g h : Guard} → g ≡ h → Emits (puts g xs n) old new tt → Emits (puts h xs n) old new tt
put_under xs n {old = old} {new = new} same k = subst (λ (z : Guard). Emits (puts z xs n) old new tt) same k

pub inside_as : (k : Kinds) (p : Place) (g : Guard) (o : e.Opened) (scale : t.BExpr) (source n : ℕ) {old new : Emit} {ls ms : List ℕ} {m l : Maps} {x : Operand} → ls ≡ ms → m ≡ l →
    Emits (inside_code k p g o ls m scale source n) old new x → Emits (inside_code k p g o ms l scale source n) old new x
inside_as k p g o scale source n {old = old} {new = new} {ls = ls} {l = l} {x = x} locals maps h =
    subst (λ (zs : List ℕ). Emits (inside_code k p g o zs l scale source n) old new x) locals (subst (λ (z : Maps). Emits (inside_code k p g o ls z scale source n) old new x) maps h)

pub opening_is : (p : Place) (ls ts block : s.BStmts) (q : ℕ) (amount : t.BExpr) (source : ℕ) (at : Pos) {m l : Maps} {is js : List ℕ} → block ≡ join ls ts → m ≡ l → is ≡ js →
    join block (taking p m (copy_state m p.now) q (index is) amount source at) ≡ join ls (join ts (taking p l (copy_state l p.now) q (index js) amount source at))
opening_is p ls ts block q amount source at {l = l} {js = js} whole maps locals =
    (λ i. join (whole i) (taking p (maps i) (copy_state (maps i) p.now) q (index (locals i)) amount source at)) ∙ join_assoc ls ts (taking p l (copy_state l p.now) q (index js) amount source at)
