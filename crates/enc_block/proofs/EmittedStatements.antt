-- What statements add, by what their parts add.
use Rattle.std.specs.Bool.{⊤}
use Rattle.std.specs.Prelude.{true, false, ◌==◌}
use Rattle.std.proofs.Common.{◌≡◌, ◌∙◌, ℕ, List, [], ◌∷◌, ◌++◌, map, length, None, refl, sym, ap, subst, append_assoc}
use Rattle.vb_base.specs.declared.places.Pos.{Pos}
use Rattle.vb_value.specs.Layout.{Layout}
use Rattle.viper_core.specs.Expr as e
use Rattle.boogie_tree.specs.Expr as t
use Rattle.boogie_tree.specs.Stmt as s
use Rattle.boogie_tree.specs.Values.{plain_type}
use Rattle.enc_expr.specs.Code.{Code, Emitting, join, gives, then_emit, declares, puts}
use Rattle.enc_expr.specs.Emits.{Emit, Emits}
use Rattle.enc_expr.specs.Encoding.{code}
use Rattle.enc_expr.specs.Kinds.{Kinds}
use Rattle.enc_expr.specs.Pieces.{Operand, Atom, atomic, one, one_real}
use Rattle.enc_expr.specs.Place.{Maps, Place, number, with_now}
use Rattle.enc_expr.proofs.EmitLaws.{gives_emits, then_emits}
use Rattle.enc_expr.proofs.EmittedForms.{put_as, valued}
use Rattle.enc_expr.proofs.EmittedParts.{empty_is}
use Rattle.enc_expr.proofs.RunLaws.{join_assoc}
use Rattle.enc_assert.specs.Encoding.{produce_code, consume_code, forget_code}
use Rattle.enc_fold.specs.Saved.{copy_held, saving}
use Rattle.enc_block.specs.Home.{Home, place}
use Rattle.enc_block.specs.Encoding.{produce_all_code, consume_all_code, exhale_code, assert_code, havoc_code, any_state_code, write_checks, write_code, fixed, guard_code, assign_code}

abbrev from : Emit → ℕ
from x = length x.locals

-- ---- clauses

module _ (k : Kinds) (p : Place) (a : e.Assertion) (rest all : List e.Assertion) (begin old mid : Emit) where
  -- one more clause, and then those that are left
  pub produce_step : Emits (produce_code k p None one_real a (from old)) old mid tt →
      ((new : Emit) → Emits (produce_all_code k p (a ∷ rest) (from old)) old new tt → Emits (produce_all_code k p all (from begin)) begin new tt) →
      (new : Emit) → Emits (produce_all_code k p rest (from mid)) mid new tt → Emits (produce_all_code k p all (from begin)) begin new tt
  produce_step h so_far new l = so_far new (then_emits (produce_code k p None one_real a) (λ u. produce_all_code k p rest) old mid new tt tt h l)

  pub consume_step : (left : Maps) → Emits (consume_code k p left None one_real a (from old)) old mid tt →
      ((new : Emit) → Emits (consume_all_code k p left (a ∷ rest) (from old)) old new tt → Emits (consume_all_code k p left all (from begin)) begin new tt) →
      (new : Emit) → Emits (consume_all_code k p left rest (from mid)) mid new tt → Emits (consume_all_code k p left all (from begin)) begin new tt
  consume_step left h so_far new l = so_far new (then_emits (consume_code k p left None one_real a) (λ u. consume_all_code k p left rest) old mid new tt tt h l)

-- the same under other names
module _ {k l : Kinds} {p q : Place} {xs ys : List e.Assertion} (n : ℕ) {old new : Emit} where
  pub all_produced_as : k ≡ l → p ≡ q → xs ≡ ys → Emits (produce_all_code k p xs n) old new tt → Emits (produce_all_code l q ys n) old new tt
  all_produced_as hk hp hx m = subst (λ (c : Code ⊤). Emits c old new tt) (λ i. produce_all_code (hk i) (hp i) (hx i) n) m

pub all_consumed_at : {k l : Kinds} {p q : Place} (left : Maps) (xs : List e.Assertion) (n : ℕ) {old new : Emit} → k ≡ l → p ≡ q → Emits (consume_all_code k p left xs n) old new tt → Emits (consume_all_code l q left xs n) old new tt
all_consumed_at left xs n {old = old} {new = new} hk hp m = subst (λ (c : Code ⊤). Emits c old new tt) (λ i. consume_all_code (hk i) (hp i) left xs n) m

pub nothing_left : {X Y : Type 0} (f : X → Y) (xs : List X) → (length xs == 0) ≡ false → map f xs ≡ [] → ⊥
nothing_left f [] h same = absurd cc
nothing_left f (x ∷ xs) h same = absurd cc

pub nothing_mapped : {X Y : Type 0} (f : X → Y) (xs : List X) → (length xs == 0) ≡ true → map f xs ≡ []
nothing_mapped f xs h = ap (map f) (empty_is xs h)

module _ (k : Kinds) (h : Home) (at : Pos) (old one two : Emit) (saved : Maps) (saves : Emits (saving k.layout h.now (from old)) old one saved) where
  -- they are given up
  pub given_up : (xs : List e.Assertion) (new : Emit) → (xs ≡ [] → ⊥) → Emits (consume_all_code k (with_now saved (place h at)) h.now xs (from one)) one two tt → Emits (forget_code k.layout h.now (from two)) two new tt →
      Emits (exhale_code k h at xs (from old)) old new tt
  given_up [] new other taken last = absurd (other refl)
  given_up (a ∷ rest) new other taken last =
      then_emits (saving k.layout h.now) (λ start. then_emit (consume_all_code k (with_now start (place h at)) h.now (a ∷ rest)) (λ u. forget_code k.layout h.now)) old one new saved tt saves
      (then_emits (consume_all_code k (with_now saved (place h at)) h.now (a ∷ rest)) (λ u. forget_code k.layout h.now) one two new tt tt taken last)

  pub one_given_up : (a : e.Assertion) (new : Emit) → Emits (consume_code k (with_now saved (place h at)) h.now None one_real a (from one)) one two tt → Emits (forget_code k.layout h.now (from two)) two new tt →
      Emits (exhale_code k h at (a ∷ []) (from old)) old new tt
  one_given_up a new taken last =
      given_up (a ∷ []) new (λ same. absurd cc)
      (then_emits (consume_code k (with_now saved (place h at)) h.now None one_real a) (λ u. gives tt) one two two tt tt taken (gives_emits tt two)) last

  -- they are asserted
  pub all_asserted : (xs : List e.Assertion) → (xs ≡ [] → ⊥) → Emits (consume_all_code k (place h at) saved xs (from one)) one two tt → Emits (assert_code k h at xs (from old)) old two tt
  all_asserted [] other taken = absurd (other refl)
  all_asserted (a ∷ rest) other taken = then_emits (saving k.layout h.now) (λ left. consume_all_code k (place h at) left (a ∷ rest)) old one two saved tt saves taken

  pub one_asserted : (a : e.Assertion) → Emits (consume_code k (place h at) saved None one_real a (from one)) one two tt → Emits (assert_code k h at (a ∷ []) (from old)) old two tt
  one_asserted a taken =
      all_asserted (a ∷ []) (λ same. absurd cc) (then_emits (consume_code k (place h at) saved None one_real a) (λ u. gives tt) one two two tt tt taken (gives_emits tt two))

-- where there is no clause
pub none_given_up : (k : Kinds) (h : Home) (at : Pos) (xs : List e.Assertion) (n : ℕ) {old new : Emit} → xs ≡ [] → Emits (forget_code k.layout h.now n) old new tt → Emits (exhale_code k h at xs n) old new tt
none_given_up k h at xs n {old = old} {new = new} none m = subst (λ (ys : List e.Assertion). Emits (exhale_code k h at ys n) old new tt) (sym none) m

pub none_asserted : (k : Kinds) (h : Home) (at : Pos) (xs : List e.Assertion) (old : Emit) → xs ≡ [] → Emits (assert_code k h at xs (from old)) old old tt
none_asserted k h at xs old none = subst (λ (ys : List e.Assertion). Emits (assert_code k h at ys (from old)) old old tt) (sym none) (gives_emits tt old)

-- ---- states

pub emptied_emits : (layout : Layout) (h : Home) (old mid new : Emit) (block : s.BStmts) → block ≡ copy_held h.now h.nothing → Emits (puts None block (from old)) old mid tt → Emits (forget_code layout h.now (from mid)) mid new tt →
    Emits (any_state_code layout h (from old)) old new tt
emptied_emits layout h old mid new block same put last =
    then_emits (puts None (copy_held h.now h.nothing)) (λ u. forget_code layout h.now) old mid new tt tt (put_as None same put) last

-- ---- one after the other

pub both_emit : (m o : Emitting ⊤) (old mid new : Emit) → Emits (m (from old)) old mid tt → Emits (o (from mid)) mid new tt → Emits (then_emit m (λ u. o) (from old)) old new tt
both_emit m o old mid new h l = then_emits m (λ u. o) old mid new tt tt h l

-- ---- arguments

-- the locals so far, and then those of the operands that are left
pub fixed_step : (x : Operand) (xs all : List Operand) (begin old local mid : Emit) (ns ms : List ℕ) (i : ℕ) → ms ≡ ns ++ i ∷ [] → Emits (declares (plain_type x.base) (from old)) old local i → Emits (puts None (one (s.Assign i x.expr)) (from local)) local mid tt →
    ((new : Emit) (more : List ℕ) → Emits (fixed (x ∷ xs) (from old)) old new more → Emits (fixed all (from begin)) begin new (ns ++ more)) →
    (new : Emit) (more : List ℕ) → Emits (fixed xs (from mid)) mid new more → Emits (fixed all (from begin)) begin new (ms ++ more)
fixed_step x xs all begin old local mid ns ms i pushed declared put so_far new more h =
    valued (ap (λ (z : List ℕ). z ++ more) pushed ∙ append_assoc ns (i ∷ []) more) (so_far new (i ∷ more)
    (then_emits (declares (plain_type x.base)) (λ i. then_emit (puts None (one (s.Assign i x.expr))) (λ u. then_emit (fixed xs) (λ is. gives (i ∷ is)))) old local new i (i ∷ more) declared
    (then_emits (puts None (one (s.Assign i x.expr))) (λ u. then_emit (fixed xs) (λ is. gives (i ∷ is))) local mid new tt (i ∷ more) put
    (then_emits (fixed xs) (λ is. gives (i ∷ is)) mid new new more (i ∷ more) h (gives_emits (i ∷ more) new)))))

-- ---- variables and guards

pub assign_emits : (k : Kinds) (h : Home) (at : Pos) (x : ℕ) (a : e.Expr) (old mid new : Emit) (y : Operand) → Emits (code k (place h at) None a (from old)) old mid y → Emits (puts None (one (s.Assign (number h.vars x) y.expr)) (from mid)) mid new tt →
    Emits (assign_code k h at x a (from old)) old new tt
assign_emits k h at x a old mid new y read put = then_emits (code k (place h at) None a) (λ y. puts None (one (s.Assign (number h.vars x) y.expr))) old mid new y tt read put

pub guard_emits : (k : Kinds) (h : Home) (at : Pos) (guard : e.Expr) (side : t.BExpr → t.BExpr) (old mid new : Emit) (y : Operand) → Emits (code k (place h at) None guard (from old)) old mid y → Emits (puts None (one (s.Assume (side y.expr))) (from mid)) mid new tt →
    Emits (guard_code k h at guard side (from old)) old new tt
guard_emits k h at guard side old mid new y read put = then_emits (code k (place h at) None guard) (λ y. puts None (one (s.Assume (side y.expr)))) old mid new y tt read put

-- ---- writing a field

pub write_emits : (k : Kinds) (p : Place) (a : e.Expr) (f : ℕ) (at : Pos) (d : e.Expr) (old first second third new : Emit) (x y : Operand) (r : Atom) → Emits (code k p None a (from old)) old first x → Emits (code k p None d (from first)) first second y →
    Emits (atomic x (from second)) second third r → Emits (puts None (join r.sets (join (write_checks p f at r.expr) (one (s.Put (number p.now.heap f) (t.more r.expr t.none) y.expr)))) (from third)) third new tt →
    Emits (write_code k p a f at d (from old)) old new tt
write_emits k p a f at d old first second third new x y r i j l put =
    then_emits (code k p None a) (λ x. then_emit (code k p None d) (λ y. then_emit (atomic x) (λ r. puts None (join r.sets (join (write_checks p f at r.expr) (one (s.Put (number p.now.heap f) (t.more r.expr t.none) y.expr))))))) old first new x tt i
    (then_emits (code k p None d) (λ y. then_emit (atomic x) (λ r. puts None (join r.sets (join (write_checks p f at r.expr) (one (s.Put (number p.now.heap f) (t.more r.expr t.none) y.expr)))))) first second new y tt j
    (then_emits (atomic x) (λ r. puts None (join r.sets (join (write_checks p f at r.expr) (one (s.Put (number p.now.heap f) (t.more r.expr t.none) y.expr))))) second third new r tt l put))

-- ---- any values

pub havoc_step : (h : Home) (x : ℕ) (rest : List ℕ) (now new all : s.BStmts) (n : ℕ) → new ≡ join now (one (s.Havoc n)) → n ≡ number h.vars x → join now (havoc_code h (x ∷ rest)) ≡ all → join new (havoc_code h rest) ≡ all
havoc_step h x rest now new all n pushed same so_far =
    ap (λ (z : s.BStmts). join z (havoc_code h rest)) pushed ∙ join_assoc now (one (s.Havoc n)) (havoc_code h rest) ∙ ap (λ (m : ℕ). join now (s.first (s.Havoc m) (havoc_code h rest))) same ∙ so_far

-- the same code under another name
pub emitted_as : {c d : Code ⊤} {old new : Emit} → c ≡ d → Emits c old new tt → Emits d old new tt
emitted_as {old = old} {new = new} same m = subst (λ (z : Code ⊤). Emits z old new tt) same m
