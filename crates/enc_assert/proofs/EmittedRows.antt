-- What each assertion emits, given what its parts emit.
use Rattle.std.proofs.Common.{◌≡◌, ◌∙◌, ℕ, ◌+◌, List, [], ◌∷◌, ◌++◌, Some, None, length, refl, ap, sym, subst, append_assoc, append-nil}
use Rattle.std.specs.Prelude.{⊤}
use Rattle.vb_base.specs.declared.places.Pos.{Pos}
use Rattle.vb_value.specs.Layout.{Layout}
use Rattle.vb_value.specs.declared.values.Ty.{Ty}
use Rattle.viper_core.specs.Expr as e
use Rattle.boogie_tree.specs.Expr as t
use Rattle.boogie_tree.specs.Stmt as s
use Rattle.boogie_tree.specs.Program.{BType}
use Rattle.boogie_tree.specs.Values.{plain_type}
use Rattle.boogie_tree.specs.declared.exprs.BBase.{BBase}
use Rattle.boogie_tree.specs.declared.exprs.BBase.TheVariants as base
use Rattle.boogie_tree.specs.declared.exprs.BOp.TheVariants as op
use Rattle.boogie_meaning.specs.Patterns as pattern
use Rattle.enc_expr.specs.Place.{Maps, Place, number}
use Rattle.moves.specs.Maps.{heap_type, content_type}
use Rattle.enc_expr.specs.Kinds.{Kinds}
use Rattle.enc_expr.specs.Code.{Code, Emitting, join, gives, then_emit, declares, Guard, puts, guards}
use Rattle.enc_expr.specs.Pieces.{Operand, Atom, Located, atomic, located, index, at_one, one, one_real, scaled, add_to}
use Rattle.enc_expr.specs.Operators.{choose_code}
use Rattle.enc_expr.specs.Encoding.{code, codes, amount_code}
use Rattle.enc_expr.specs.Emits.{Emit, Emits}
use Rattle.enc_expr.proofs.RunLaws.{join_assoc}
use Rattle.enc_expr.proofs.EmitLaws.{then_emits}
use Rattle.enc_expr.proofs.EmittedForms.{ending, choose_emits}
use Rattle.enc_expr.proofs.BlockLaws.{then_added}
use Rattle.enc_assert.specs.Target.{AccessTarget, Field, Instance, Aimed, held_in}
use Rattle.enc_assert.specs.Encoding.{field_target, instance_target, where_positive, more_held, produce_amount, produce_code, consume_amount, consume_code, forget_map, forget_heaps, forget_contents, forget_code}
use Rattle.enc_assert.specs.Access.{Access, place_access, part_access, puts_written, puts_chosen}

abbrev from : Emit → ℕ
from x = length x.locals

-- ---- accessibility predicates

-- the parts are read, and then permission is produced or consumed
pub access_emits : {X : Type 0} (parts : Emitting X) (amount : Emitting Operand) (aim : X → Emitting Aimed) (go : Operand → Aimed → Emitting ⊤) (old mid new : Emit) (x : Access) →
    Emits (then_emit parts (λ (y : X). then_emit amount (λ (q : Operand). then_emit (aim y) (λ (z : Aimed). gives (record { amount = q; aimed = z })))) (from old)) old mid x →
    Emits (go x.amount x.aimed (from mid)) mid new tt → Emits (then_emit parts (λ (y : X). then_emit amount (λ (q : Operand). then_emit (aim y) (go q))) (from old)) old new tt
access_emits {X = X} parts amount aim go old mid new x h k =
    subst (λ (m : Code ⊤). Emits m old new tt) same (then_emits read (λ (x : Access). go x.amount x.aimed) old mid new x tt h k)
  where
    read : Emitting Access
    read = then_emit parts (λ (y : X). then_emit amount (λ (q : Operand). then_emit (aim y) (λ (z : Aimed). gives (record { amount = q; aimed = z }))))

    a : Code X
    a = parts (from old)

    b : Code Operand
    b = amount (parts (from old)).next

    c : Code Aimed
    c = aim (parts (from old)).value (amount (parts (from old)).next).next

    d : Code ⊤
    d = go b.value c.value c.next

    all_locals : (a.locals ++ (b.locals ++ (c.locals ++ []))) ++ d.locals ≡ a.locals ++ (b.locals ++ (c.locals ++ d.locals))
    all_locals = append_assoc a.locals (b.locals ++ (c.locals ++ [])) d.locals ∙ ap (λ (us : List BType). a.locals ++ us) (append_assoc b.locals (c.locals ++ []) d.locals ∙ ap (λ (us : List BType). b.locals ++ us) (append_assoc c.locals [] d.locals))

    all_stmts : join (join a.stmts (join b.stmts (join c.stmts s.skip))) d.stmts ≡ join a.stmts (join b.stmts (join c.stmts d.stmts))
    all_stmts = join_assoc a.stmts (join b.stmts (join c.stmts s.skip)) d.stmts ∙ ap (join a.stmts) (join_assoc b.stmts (join c.stmts s.skip) d.stmts ∙ ap (join b.stmts) (join_assoc c.stmts s.skip d.stmts))

    same : then_emit read (λ (x : Access). go x.amount x.aimed) (from old) ≡ then_emit parts (λ (y : X). then_emit amount (λ (q : Operand). then_emit (aim y) (go q))) (from old)
    same = λ i. record { locals = all_locals i; next = d.next; stmts = all_stmts i; value = d.value }

module _ (k : Kinds) (p : Place) (g : Guard) where
  pub place_emits : (f : ℕ) (a : e.Expr) (m : e.Amt) (old one two new : Emit) (x q : Operand) (r : Atom) → Emits (code k p g a (from old)) old one x → Emits (amount_code k p g m (from one)) one two q → Emits (atomic x (from two)) two new r →
      Emits (place_access k p g f a m (from old)) old new (record { amount = q; aimed = record { target = Field f r.expr; sets = r.sets } })
  place_emits f a m old one two new x q r h i j =
      then_emits (code k p g a) (λ (x : Operand). then_emit (amount_code k p g m) (λ (q : Operand). then_emit (field_target f x) (λ (y : Aimed). gives (access q y)))) old one new x (access q (aimed r)) h
      (then_emits (amount_code k p g m) (λ (q : Operand). then_emit (field_target f x) (λ (y : Aimed). gives (access q y))) one two new q (access q (aimed r)) i
      (ending (field_target f x) (access q) (aimed r) (ending (atomic x) aimed r j)))
    where
      access : Operand → Aimed → Access
      access q y = record { amount = q; aimed = y }

      aimed : Atom → Aimed
      aimed r = record { target = Field f r.expr; sets = r.sets }

  pub part_emits : (q : ℕ) (args : e.Exprs) (m : e.Amt) (old one two new : Emit) (xs : List Operand) (y : Operand) (l : Located) → Emits (codes k p g args (from old)) old one xs → Emits (amount_code k p g m (from one)) one two y →
      Emits (located xs (from two)) two new l → Emits (part_access k p g q args m (from old)) old new (record { amount = y; aimed = record { target = Instance q l.locals; sets = l.sets } })
  part_emits q args m old one two new xs y l h i j =
      then_emits (codes k p g args) (λ (xs : List Operand). then_emit (amount_code k p g m) (λ (y : Operand). then_emit (instance_target q xs) (λ (z : Aimed). gives (access y z)))) old one new xs (access y (aimed l)) h
      (then_emits (amount_code k p g m) (λ (y : Operand). then_emit (instance_target q xs) (λ (z : Aimed). gives (access y z))) one two new y (access y (aimed l)) i
      (ending (instance_target q xs) (access y) (aimed l) (ending (located xs) aimed l j)))
    where
      access : Operand → Aimed → Access
      access q y = record { amount = q; aimed = y }

      aimed : Located → Aimed
      aimed l = record { target = Instance q l.locals; sets = l.sets }

module _ (g : Guard) (x : Access) where
  pub written_emits : (go : t.BExpr → s.BStmts) (old mid new : Emit) (q : Atom) → Emits (atomic x.amount (from old)) old mid q → Emits (puts g (join x.aimed.sets (join q.sets (go q.expr))) (from mid)) mid new tt →
      Emits (puts_written g x go (from old)) old new tt
  written_emits go old mid new q h k = then_emits (atomic x.amount) (λ (q : Atom). puts g (join x.aimed.sets (join q.sets (go q.expr)))) old mid new q tt h k

  pub chosen_emits : (go : ℕ → s.BStmts) (old mid new : Emit) (w : ℕ) → Emits (declares (plain_type base.Real) (from old)) old mid w → Emits (puts g (join x.aimed.sets (go w)) (from mid)) mid new tt → Emits (puts_chosen g x go (from old)) old new tt
  chosen_emits go old mid new w h k = then_emits (declares (plain_type base.Real)) (λ (w : ℕ). puts g (join x.aimed.sets (go w))) old mid new w tt h k

-- ---- other assertions

-- both sides hand on nothing
abbrev nothing : ℕ → ⊤ → ⊤ → ⊤
nothing h u v = tt

module _ (k : Kinds) (p : Place) (g : Guard) (a : e.Expr) (old read : Emit) (x : Operand) (h : Emits (code k p g a (from old)) old read x) where
  pub fact_emits : (go : t.BExpr → s.BStmt) (new : Emit) → Emits (puts g (one (go x.expr)) (from read)) read new tt → Emits (then_emit (code k p g a) (λ (x : Operand). puts g (one (go x.expr))) (from old)) old new tt
  fact_emits go new l = then_emits (code k p g a) (λ (x : Operand). puts g (one (go x.expr))) old read new x tt h l

  pub implied_emits : (go : Guard → Emitting ⊤) (mid new : Emit) (so : ℕ) → Emits (guards g x.expr (from read)) read mid so → Emits (go (Some so) (from mid)) mid new tt →
      Emits (then_emit (code k p g a) (λ (x : Operand). then_emit (guards g x.expr) (λ (h : ℕ). go (Some h))) (from old)) old new tt
  implied_emits go mid new so l m =
      then_emits (code k p g a) (λ (x : Operand). then_emit (guards g x.expr) (λ (h : ℕ). go (Some h))) old read new x tt h (then_emits (guards g x.expr) (λ (h : ℕ). go (Some h)) read mid new so tt l m)

  pub choice_emits : (left right : Guard → Emitting ⊤) (one two three new : Emit) (so otherwise : ℕ) → Emits (guards g x.expr (from read)) read one so → Emits (guards g (t.Not (t.Var so)) (from one)) one two otherwise →
      Emits (left (Some so) (from two)) two three tt → Emits (right (Some otherwise) (from three)) three new tt →
      Emits (then_emit (code k p g a) (λ (x : Operand). choose_code g x.expr left right nothing) (from old)) old new tt
  choice_emits left right one two three new so otherwise l m n o =
      then_emits (code k p g a) (λ (x : Operand). choose_code g x.expr left right nothing) old read new x tt h (choose_emits g x.expr left right nothing read one two three new so otherwise tt tt l m n o)

pub both_emit : (left right : Emitting ⊤) (old mid new : Emit) → Emits (left (from old)) old mid tt → Emits (right (from mid)) mid new tt → Emits (then_emit left (λ (u : ⊤). right) (from old)) old new tt
both_emit left right old mid new h k = then_emits left (λ (u : ⊤). right) old mid new tt tt h k

-- the same under another name
module _ {k l : Kinds} {p q : Place} {g h : Guard} (scale : t.BExpr) (a : e.Assertion) (n : ℕ) {old new : Emit} where
  pub produced_as : k ≡ l → p ≡ q → g ≡ h → Emits (produce_code k p g scale a n) old new tt → Emits (produce_code l q h scale a n) old new tt
  produced_as hk hp hg m = subst (λ (c : Code ⊤). Emits c old new tt) (λ i. produce_code (hk i) (hp i) (hg i) scale a n) m

  pub consumed_as : (left : Maps) → k ≡ l → p ≡ q → g ≡ h → Emits (consume_code k p left g scale a n) old new tt → Emits (consume_code l q left h scale a n) old new tt
  consumed_as left hk hp hg m = subst (λ (c : Code ⊤). Emits c old new tt) (λ i. consume_code (hk i) (hp i) left (hg i) scale a n) m

-- the same assertion, said otherwise
module _ (k : Kinds) (p : Place) (g : Guard) (scale : t.BExpr) (n : ℕ) {old new : Emit} {a b : e.Assertion} where
  pub produced_is : a ≡ b → Emits (produce_code k p g scale b n) old new tt → Emits (produce_code k p g scale a n) old new tt
  produced_is same m = subst (λ (c : e.Assertion). Emits (produce_code k p g scale c n) old new tt) (sym same) m

  pub consumed_is : (left : Maps) → a ≡ b → Emits (consume_code k p left g scale b n) old new tt → Emits (consume_code k p left g scale a n) old new tt
  consumed_is left same m = subst (λ (c : e.Assertion). Emits (consume_code k p left g scale c n) old new tt) (sym same) m

-- the same amount
module _ (p : Place) (g : Guard) (scale : t.BExpr) (at : Pos) (x : Access) (n : ℕ) {old new : Emit} {a b : e.Amt} where
  pub produced_by : a ≡ b → Emits (produce_amount p g scale at b x.amount x.aimed n) old new tt → Emits (produce_amount p g scale at a x.amount x.aimed n) old new tt
  produced_by same m = subst (λ (c : e.Amt). Emits (produce_amount p g scale at c x.amount x.aimed n) old new tt) (sym same) m

  pub consumed_by : (left : Maps) → a ≡ b → Emits (consume_amount p left g scale at b x.amount x.aimed n) old new tt → Emits (consume_amount p left g scale at a x.amount x.aimed n) old new tt
  consumed_by left same m = subst (λ (c : e.Amt). Emits (consume_amount p left g scale at c x.amount x.aimed n) old new tt) (sym same) m

-- ---- statements

-- so much more of a place, and of an instance
module _ (m : Maps) (scale q : t.BExpr) (target : AccessTarget) (held : ℕ) (at_held : held ≡ held_in m target) where
  pub place_more : (f : ℕ) (x : t.BExpr) (old mid last new : s.BStmts) → target ≡ Field f x → mid ≡ join old (one (s.Assume (where_positive q (t.Bin op.Ne x t.Null)))) → last ≡ join mid (add_to held (t.more x t.none) (scaled scale q)) →
      new ≡ join last (one (s.Assume (where_positive q (t.Bin op.Le (at_one held x) one_real)))) → new ≡ join old (more_held m scale target q)
  place_more f x old mid last new same h i j =
      then_added old _ _ h (then_added mid _ _ i j)
      ∙ ap (λ (n : ℕ). join old (s.first (s.Assume (where_positive q (t.Bin op.Ne x t.Null))) (join (add_to n (t.more x t.none) (scaled scale q)) (one (s.Assume (where_positive q (t.Bin op.Le (at_one n x) one_real))))))) (at_held ∙ ap (held_in m) same)
      ∙ ap (λ (y : AccessTarget). join old (more_held m scale y q)) (sym same)

  pub part_more : (p : ℕ) (is js : List ℕ) (old new : s.BStmts) → target ≡ Instance p is → js ≡ is → new ≡ join old (add_to held (index js) (scaled scale q)) → new ≡ join old (more_held m scale target q)
  part_more p is js old new same locals h =
      h ∙ (λ i. join old (add_to ((at_held ∙ ap (held_in m) same) i) (index (locals i)) (scaled scale q))) ∙ ap (λ (y : AccessTarget). join old (more_held m scale y q)) (sym same)

-- ---- forgetting

pub map_emits : (u : BType) (held source : ℕ) (old mid new : Emit) (own : ℕ) → Emits (declares u (from old)) old mid own → Emits (puts None (pattern.forget_code u.keys held source own) (from mid)) mid new tt →
    Emits (forget_map u held source (from old)) old new tt
map_emits u held source old mid new own h k = then_emits (declares u) (λ (own : ℕ). puts None (pattern.forget_code u.keys held source own)) old mid new own tt h k

pub map_forgotten : (us : List BBase) (held source own : ℕ) (old : Emit) {one_more two_more three_more : s.BStmts} → one_more ≡ join old.stmts (one (s.Havoc own)) →
    two_more ≡ join one_more (one (pattern.assume_all us (pattern.is_kept held source own))) → three_more ≡ join two_more (one (s.Assign source (t.Var own))) →
    Emits (puts None (pattern.forget_code us held source own) (from old)) old (record { locals = old.locals; stmts = three_more }) tt
map_forgotten us held source own old h i j = record {
  locals = sym (append-nil old.locals);
  next = refl;
  stmts = then_added old.stmts _ (one (s.Assign source (t.Var own))) (then_added old.stmts (one (s.Havoc own)) _ h i) j;
  value = refl;
}

pub map_as : {u w : BType} {a b x y : ℕ} (n : ℕ) {old new : Emit} → u ≡ w → a ≡ b → x ≡ y → Emits (forget_map u a x n) old new tt → Emits (forget_map w b y n) old new tt
map_as n {old = old} {new = new} hu ha hx m = subst (λ (c : Code ⊤). Emits c old new tt) (λ i. forget_map (hu i) (ha i) (hx i) n) m

-- one more map, and then those that are left
module _ (m : Maps) (i : ℕ) (begin old mid : Emit) where
  pub heaps_step : (u : Ty) (us all : List Ty) → Emits (forget_map (heap_type u) (number m.mask i) (number m.heap i) (from old)) old mid tt →
      ((new : Emit) → Emits (forget_heaps m (u ∷ us) i (from old)) old new tt → Emits (forget_heaps m all 0 (from begin)) begin new tt) →
      (new : Emit) → Emits (forget_heaps m us (i + 1) (from mid)) mid new tt → Emits (forget_heaps m all 0 (from begin)) begin new tt
  heaps_step u us all h so_far new k = so_far new (then_emits (forget_map (heap_type u) (number m.mask i) (number m.heap i)) (λ (x : ⊤). forget_heaps m us (i + 1)) old mid new tt tt h k)

  pub contents_step : (us : List Ty) (keys all : List (List Ty)) → Emits (forget_map (content_type us) (number m.amount i) (number m.content i) (from old)) old mid tt →
      ((new : Emit) → Emits (forget_contents m (us ∷ keys) i (from old)) old new tt → Emits (forget_contents m all 0 (from begin)) begin new tt) →
      (new : Emit) → Emits (forget_contents m keys (i + 1) (from mid)) mid new tt → Emits (forget_contents m all 0 (from begin)) begin new tt
  contents_step us keys all h so_far new k = so_far new (then_emits (forget_map (content_type us) (number m.amount i) (number m.content i)) (λ (x : ⊤). forget_contents m keys (i + 1)) old mid new tt tt h k)

pub maps_emit : (layout : Layout) (m : Maps) (us : List Ty) (keys : List (List Ty)) (old mid new : Emit) → us ≡ layout.fields → keys ≡ layout.keys → Emits (forget_heaps m us 0 (from old)) old mid tt → Emits (forget_contents m keys 0 (from mid)) mid new tt →
    Emits (forget_code layout m (from old)) old new tt
maps_emit layout m us keys old mid new fields all h k =
    then_emits (forget_heaps m layout.fields 0) (λ (x : ⊤). forget_contents m layout.keys 0) old mid new tt tt (subst (λ (zs : List Ty). Emits (forget_heaps m zs 0 (from old)) old mid tt) fields h)
    (subst (λ (zs : List (List Ty)). Emits (forget_contents m zs 0 (from mid)) mid new tt) all k)
