-- The code of `unfolding` ends as it does, where that of its parts does.
use Rattle.std.proofs.Common.{◌≡◌, ◌≢◌, ◌+◌, ◌<◌, ◌≤◌, ℕ, Bool as Truth, true, false, List, [], ◌∷◌, ◌++◌, length, All, Some, slice_get, if◌then◌else◌, refl, sym, ap, subst, ◌∙◌, arith}
use Rattle.std.specs.Bool.{⊤}
use Rattle.std.proofs.lemmas.Option.{slice_get_within}
use Rattle.std.proofs.lemmas.List.Elements.{All-head, All-tail}
use Rattle.vb_base.specs.declared.places.Pos.{Pos}
use Rattle.vb_value.specs.Bound.{Bound}
use Rattle.vb_value.specs.Content.{Content}
use Rattle.vb_value.specs.Fraction.{Fraction, IsProperFraction}
use Rattle.vb_value.specs.Value.{type_of, IsProperValue}
use Rattle.vb_value.specs.declared.keys.KeyPart.TheVariants as part
use Rattle.vb_value.specs.declared.values.Ty.{Ty}
use Rattle.vb_value.specs.declared.values.Ty.TheVariants as ty
use Rattle.vb_value.specs.declared.values.Value.{Value}
use Rattle.vb_value.specs.declared.values.Value.TheVariants as v
use Rattle.viper_core.specs.Expr as e
use Rattle.viper_core.specs.Formed.{predicate_context}
use Rattle.viper_core.specs.Program.{Predicate}
use Rattle.viper_core.specs.Typing.{Context}
use Rattle.viper_state.specs.Event.{Event}
use Rattle.viper_state.specs.Fits.{FitsStore}
use Rattle.viper_state.specs.Run.{Scene, with_variables}
use Rattle.viper_state.specs.State.{Key, State, content_at}
use Rattle.viper_meaning.specs.Ends.{Evaluated, then_with, found}
use Rattle.viper_meaning.specs.Kept.{Keeps}
use Rattle.viper_meaning.specs.Operators.{perm_of}
use Rattle.viper_meaning.specs.Places.{in_front, key_of, taken}
use Rattle.viper_meaning.specs.Value.{as_perm, value, values, unfolded, opened}
use Rattle.boogie_tree.specs.Expr as t
use Rattle.boogie_tree.specs.Program.{BType}
use Rattle.boogie_tree.specs.Stmt as stmt
use Rattle.boogie_tree.specs.Stmt.{BStmts}
use Rattle.boogie_tree.specs.Value.{BChoice, Real}
use Rattle.boogie_tree.specs.Values.{plain_type}
use Rattle.boogie_tree.specs.declared.exprs.BBase.TheVariants as base
use Rattle.boogie_meaning.specs.Run.{Run, Done, brun}
use Rattle.enc_expr.specs.Place.{Maps, Place, with_now, with_vars, IsLocalOf}
use Rattle.moves.specs.Maps.{state_types}
use Rattle.enc_expr.specs.Kinds.{Kinds, kinds_in, body_kinds}
use Rattle.enc_expr.specs.Code.{Emitting, join, gives, then_emit, declares, declares_all, Guard, puts}
use Rattle.enc_expr.specs.Pieces.{Operand, Atom, is_atom, in_local, atomic, Located, located_from, located, index}
use Rattle.enc_expr.specs.Encoding.{maps_from, copy_state, taking, code, unfolding_code, codes, body_code}
use Rattle.enc_expr.specs.Coupling.{Env, IsCoupled, IsAwake, AreLocals, IsReady, IsOwn}
use Rattle.enc_expr.specs.Alike.{Alike, Kept, KeptBut, IsValued, AreValues, AreValued, IsFilled}
use Rattle.enc_expr.proofs.Simulated.{IsCounted, Simulates, Fills}
use Rattle.enc_expr.proofs.RunLaws.{then_done, join_run}
use Rattle.enc_expr.proofs.AlikeLaws.{is_alike, then_alike, weaken_alike, kept_alike}
use Rattle.enc_expr.proofs.FrameLaws.{kept_then, but_then, Singles, singles_then, singles_but, awake_single, locals_first, locals_rest, coupled_kept, awake_kept, ready_rest}
use Rattle.enc_expr.proofs.CodeLaws.{code_counted, codes_counted, body_counted, located_counted, atomic_counted}
use Rattle.enc_expr.proofs.AtomLaws.{Holds, values_more}
use Rattle.enc_expr.proofs.OpeningLaws.{alike_run, found_alike}
use Rattle.enc_expr.proofs.InsideLaws.{inner_coupled, body_owns, values_fit, IsOpened}
use Rattle.enc_expr.proofs.CopyLaws.{copies_kept, own_maps, copy_opened}

-- ---- ways of writing beside ways of going on

module _ (ts : List BType) (b : Bound) {X Y : Type 0} (m : Emitting X) (go : X → Emitting Y) (n : ℕ) (E : Env) (cs : List BChoice) where
  pub emit_alike : {V W : Type 0} {Q : V → Env → Type 0} {R : W → Env → Type 0} (e : Evaluated V) (k : V → Evaluated W) → Alike Q b e cs (brun ts b (m n).stmts E cs) →
      ((v : V) (F : Env) (rest : List BChoice) → Q v F → Alike R b (k v) rest (brun ts b (go (m n).value (m n).next).stmts F rest)) → Alike R b (then_with e k) cs (brun ts b (then_emit m go n).stmts E cs)
  emit_alike e k h g = alike_run (join_run ts b (m n).stmts (go (m n).value (m n).next).stmts E cs) (then_alike h g)

  -- where nothing but locals is written
  pub quiet_alike : {W : Type 0} {R : W → Env → Type 0} {e : Evaluated W} → (m n).stmts ≡ stmt.skip → Alike R b e cs (brun ts b (go (m n).value (m n).next).stmts E cs) → Alike R b e cs (brun ts b (then_emit m go n).stmts E cs)
  quiet_alike quiet h = alike_run (ap (λ xs. brun ts b (join xs (go (m n).value (m n).next).stmts) E cs) quiet) h

from_quiet : (x : Operand) (y : t.BExpr) (n : ℕ) → (located_from x y n).stmts ≡ stmt.skip
from_quiet x (t.Var i) n = refl
from_quiet x _ n = refl

pub located_quiet : (xs : List Operand) (n : ℕ) → (located xs n).stmts ≡ stmt.skip
located_quiet [] n = refl
located_quiet (x ∷ xs) n = λ i. join (from_quiet x x.expr n i) (join (located_quiet xs (located_from x x.expr n).next i) stmt.skip)

either_quiet : {X : Type 0} (q : Truth) (x : X) (m : Emitting X) (n : ℕ) → (m n).stmts ≡ stmt.skip → (let c = if q then gives x n else m n in c.stmts) ≡ stmt.skip
either_quiet true x m n h = refl
either_quiet false x m n h = h

pub atomic_quiet : (x : Operand) (n : ℕ) → (atomic x n).stmts ≡ stmt.skip
atomic_quiet x n = either_quiet (is_atom x.expr) _ (in_local x) n refl

-- ---- permissions

perm_is : {b : Bound} (Q : Value → Env → Type 0) {E : Env} {cs : List BChoice} (w : Value) → type_of w ≡ ty.Perm → Q w E → Alike (λ q F. Q (v.Perm q) F) b (perm_of w) cs (Done E cs)
perm_is Q (v.Perm q) typed h = is_alike h
perm_is Q (v.Int n) typed h = absurd (cc)
perm_is Q (v.Bool q) typed h = absurd (cc)
perm_is Q (v.Ref r) typed h = absurd (cc)

pub perm_alike : {b : Bound} {Q : Value → Env → Type 0} {e : Evaluated Value} {cs : List BChoice} {r : Run} → ((w : Value) (E : Env) → Q w E → type_of w ≡ ty.Perm) → Alike Q b e cs r → Alike (λ q E. Q (v.Perm q) E) b (as_perm e) cs r
perm_alike {Q} {r = r} typed h = alike_run (sym (then_done r)) (then_alike h (λ w E rest q. perm_is Q w (typed w E q) q))

-- ---- keys

-- the arguments of an instance make a key, for none is a Perm
pub key_exists : (us : List Ty) (vs : List Value) → All (λ u. u ≢ ty.Perm) us → FitsStore us vs → (key : Key) × (Some key ≡ key_of vs)
key_exists [] [] h fits = ([], refl)
key_exists [] (w ∷ vs) h fits = elim fits [ ]
key_exists (u ∷ us) [] h fits = elim fits [ ]
key_exists (u ∷ us) (v.Int n ∷ vs) h fits = let rest = key_exists us vs (All-tail (λ u. u ≢ ty.Perm) u us h) fits.1 in (part.Int n ∷ rest.0, ap (in_front (Some (part.Int n))) rest.1)
key_exists (u ∷ us) (v.Bool q ∷ vs) h fits = let rest = key_exists us vs (All-tail (λ u. u ≢ ty.Perm) u us h) fits.1 in (part.Bool q ∷ rest.0, ap (in_front (Some (part.Bool q))) rest.1)
key_exists (u ∷ us) (v.Ref r ∷ vs) h fits = let rest = key_exists us vs (All-tail (λ u. u ≢ ty.Perm) u us h) fits.1 in (part.Ref r ∷ rest.0, ap (in_front (Some (part.Ref r))) rest.1)
key_exists (u ∷ us) (v.Perm q ∷ vs) h fits = absurd (All-head (λ u. u ≢ ty.Perm) u us h (sym fits.0.typed))

-- ---- the body

-- in maps that are none of the old state
module _ (ts : List BType) (b : Bound) (c : Context) (d : Predicate) (p : Place) (g : Guard) (s : State) (sc : Scene) (q : ℕ) (body : e.Assertion) (own : Maps) (owns : IsOwn c (with_now own p)) where
  -- where it is read
  abbrev in_own : List ℕ → Place
  in_own is = with_now own (with_vars is p)

  abbrev body_in : List ℕ → t.BExpr → ℕ → Emitting ⊤
  body_in is scale from = body_code (body_kinds (kinds_in c) q) (in_own is) g scale body from

  -- behind the opening it is produced, and all is coupled again
  pub body_opened : (n from : ℕ) (is : List ℕ) (vs : List Value) (w : Fraction) (scale : t.BExpr) (E F : Env) (less : State) (key : Key) (cs : List BChoice) → IsCoupled b c n p s sc E → n ≤ from → IsAwake g n E → length E ≡ length ts →
      (o : IsOpened b c d p own s sc q key vs w n from is scale E less F) →
      Fills ts b (predicate_context c.program d) (in_own is) g less (with_variables vs sc) scale w from o.content (body_in is scale from) (opened b body o.content less (with_variables vs sc) w) → AreLocals ts (from + 1) (body_in is scale from (from + 1)).locals →
      (let z = body_in is scale from (from + 1) in Alike (λ t G. IsFilled b c n z.next (with_now own p) sc E t G × Singles n E G) b (opened b body o.content less (with_variables vs sc) w) cs (brun ts b z.stmts F cs))
  body_opened n from is vs w scale E F less key cs coupled low awake full o fills locals =
      let y = from + 1 in
      let z = body_in is scale from y in
      let counted : IsCounted (body_in is scale from) = body_counted (body_kinds (kinds_in c) q) (in_own is) g scale body from in
      let ready : IsReady ts g y z.locals F = record { awake = awake_single g (omega (arith, low)) o.singles awake; full = o.kept.length ∙ full; locals = locals } in
      weaken_alike (λ t G filled.
      let singles : Singles n E G = singles_then (omega (arith, low)) o.singles (singles_but c.program.layout y y own less F G o.coupled.now filled.kept) in
      let kept : KeptBut (IsLocalOf c.program.layout own) n E G = but_then (omega (arith, low)) o.kept filled.kept in
      (record { kept = kept; coupled = inner_coupled b c d n z.next p own is s t sc vs E G owns coupled (omega (arith, low, counted.next y)) kept singles filled.coupled }, singles))
      (fills.alike y F cs o.coupled o.source o.scale ready)

-- ---- the expression

module _ (ts : List BType) (b : Bound) (c : Context) (d : Predicate) (p : Place) (g : Guard) (s : State) (sc : Scene) (q : ℕ) (u : Ty) (body : e.Assertion) (inner : e.Expr) (at : Pos) where
  abbrev k : Kinds
  k = kinds_in c

  -- where the body is read, and the inner expression
  abbrev body_place : ℕ → List ℕ → Place
  body_place x is = with_now (maps_from k.layout x) (with_vars is p)

  abbrev inner_place : ℕ → Place
  inner_place x = with_now (maps_from k.layout x) p

  abbrev pub BodyFills : Type 0
  BodyFills = (x : ℕ) (is : List ℕ) (less : State) (vs : List Value) (scale : t.BExpr) (w : Fraction) (content : Content) (from : ℕ) → IsOwn (predicate_context c.program d) (body_place x is) → FitsStore d.params vs →
      Fills ts b (predicate_context c.program d) (body_place x is) g less (with_variables vs sc) scale w from content (body_code (body_kinds k q) (body_place x is) g scale body from)
      (opened b body content less (with_variables vs sc) w)

  abbrev pub InnerReads : Type 0
  InnerReads = (x : ℕ) (t : State) → Simulates ts b c (inner_place x) g t sc (code k (inner_place x) g inner) (value b inner t sc) (λ n m y E. IsValued b n m y u E)

  -- what is written after the opening
  abbrev inside : ℕ → List ℕ → t.BExpr → ℕ → Emitting Operand
  inside x is scale from = then_emit (body_code (body_kinds k q) (body_place x is) g scale body from) (λ z. code k (inner_place x) g inner)

  inside_alike : BodyFills → InnerReads → (n x from : ℕ) (is : List ℕ) (vs : List Value) (w : Fraction) (amount : t.BExpr) (E F : Env) (less : State) (key : Key) (cs : List BChoice) → IsCoupled b c n p s sc E → n ≤ x → x ≤ from →
      FitsStore d.params vs → IsAwake g n E → length E ≡ length ts → (o : IsOpened b c d p (maps_from c.program.layout x) s sc q key vs w n from is amount E less F) → AreLocals ts (from + 1) (inside x is amount from (from + 1)).locals →
      (let z = inside x is amount from (from + 1) in
      Alike (IsValued b n z.next z.value u E) b (then_with (opened b body o.content less (with_variables vs sc) w) (λ copy. value b inner copy sc)) cs (brun ts b z.stmts F cs))
  inside_alike fills reads n x from is vs w amount E F less key cs coupled low high fits awake full o locals =
      let y = from + 1 in
      let own = maps_from c.program.layout x in
      let owns = own_maps b c n x p s sc E coupled low in
      let first = body_code (body_kinds k q) (body_place x is) g amount body from in
      let second = code k (inner_place x) g inner in
      let counted : IsCounted first = body_counted (body_kinds k q) (body_place x is) g amount body from in
      let m = (first y).next in
      let more : n ≤ m = omega (arith, low, high, counted.next y) in
      emit_alike ts b first (λ z. second) y F cs _ _
      (body_opened ts b c d p g s sc q body own owns n from is vs w amount E F less key cs coupled (omega (arith, low, high)) awake full o (fills x is less vs amount w o.content from (body_owns c d p own is owns) fits)
      (locals_first ts y (first y).locals (second m).locals locals))
      (λ t G rest h.
      let kept : Kept n E G = copies_kept c.program.layout n x n E G low (omega arith) h.0.kept in
      weaken_alike (λ w H valued. record { kept = kept_then more kept valued.kept; typed = valued.typed; here = valued.here })
      ((reads x t).alike m G rest h.0.coupled (record {
        awake = awake_kept g more kept awake;
        full = kept.length ∙ full;
        locals = subst (λ i. AreLocals ts i (second m).locals) (counted.next y) (locals_rest ts y (first y).locals (second m).locals locals);
      })))

  -- the opening, and what is written after it
  abbrev opening : Located → Atom → ℕ → ℕ → BStmts
  opening l a x from = join l.sets (join a.sets (taking p (maps_from k.layout x) (copy_state (maps_from k.layout x) p.now) q (index l.locals) a.expr from at))

  abbrev from_opening : List Operand → Operand → Emitting Operand
  from_opening xs m = then_emit (located xs) (λ l. then_emit (atomic m) (λ a. then_emit (declares_all (state_types k.layout)) (λ x. then_emit (declares (plain_type base.Snap)) (λ from.
      then_emit (puts g (opening l a x from)) (λ z. inside x l.locals a.expr from)))))

  -- the meaning from there
  abbrev from_taking : List Value → Fraction → Key → Evaluated Value
  from_taking vs w key = then_with (taken b sc s q key w at) (λ less. then_with (found (content_at s q key)) (λ content. then_with (opened b body content less (with_variables vs sc) w) (λ copy. value b inner copy sc)))

  opening_alike_whole : BodyFills → InnerReads → (n : ℕ) (xs : List Operand) (m : Operand) (vs : List Value) (w : Fraction) (key : Key) (E : Env) (cs : List BChoice) → IsCoupled b c n p s sc E →
      slice_get c.program.layout.keys q ≡ Some d.params → AreValues b n E xs d.params vs → All (IsProperValue b) vs → Some key ≡ key_of vs → Holds b n m.expr E (Real w) → IsProperFraction b w →
      IsReady ts g n (from_opening xs m n).locals E →
      Alike (IsValued b n (from_opening xs m n).next (from_opening xs m n).value u E) b (from_taking vs w key) cs (brun ts b (from_opening xs m n).stmts E cs)
  opening_alike_whole fills reads n xs m vs w key E cs coupled there are_values proper is_key amount proper_amount ready =
      let l = located xs n in let a = atomic m l.next in let x = a.next in
      let own = state_types k.layout in
      let from = x + length own in
      let rest_of = inside x l.value.locals a.value.expr from (from + 1) in
      let snap = plain_type base.Snap in
      let l_counted = located_counted xs in let a_counted = atomic_counted m in
      let after_x : List BType = own ++ (snap ∷ ([] ++ rest_of.locals)) in
      let at_l : AreLocals ts l.next (a.locals ++ after_x) = subst (λ i. AreLocals ts i (a.locals ++ after_x)) (l_counted.next n) (locals_rest ts n l.locals (a.locals ++ after_x) ready.locals) in
      let at_x : AreLocals ts x after_x = subst (λ i. AreLocals ts i after_x) (a_counted.next l.next) (locals_rest ts l.next a.locals after_x at_l) in
      let at_from : AreLocals ts from (snap ∷ ([] ++ rest_of.locals)) = locals_rest ts x own (snap ∷ ([] ++ rest_of.locals)) at_x in
      let within : from < length ts = slice_get_within ts from snap at_from.0 in
      let low : n ≤ x = omega (arith, l_counted.next n, a_counted.next l.next) in
      quiet_alike ts b (located xs) (λ l. then_emit (atomic m) (λ a. then_emit (declares_all own) (λ x. then_emit (declares snap) (λ from. then_emit (puts g (opening l a x from)) (λ z. inside x l.locals a.expr from))))) n E cs (located_quiet xs n) (
      quiet_alike ts b (atomic m) (λ a. then_emit (declares_all own) (λ x. then_emit (declares snap) (λ from. then_emit (puts g (opening l.value a x from)) (λ z. inside x l.value.locals a.expr from)))) l.next E cs (atomic_quiet m l.next) (
      emit_alike ts b (puts g (opening l.value a.value x from)) (λ z. inside x l.value.locals a.value.expr from) (from + 1) E cs _ _
      (copy_opened ts b c d p g s sc q key vs w at n xs m E cs coupled ready.awake ready.full (locals_first ts n l.locals (a.locals ++ after_x) ready.locals) (locals_first ts l.next a.locals after_x at_l) within there are_values proper
      is_key amount proper_amount)
      (λ less F rest o. found_alike (content_at s q key) o.content _ o.there (
      inside_alike fills reads n x from l.value.locals vs w a.value.expr E F less key rest coupled low (omega arith) (values_fit are_values proper) ready.awake ready.full o at_from.1))))

  -- `unfolding`, from its parts
  pub unfolding_simulates : {V W : Event → Type 0} (args : e.Exprs) (amount : e.Expr) → slice_get c.program.layout.keys q ≡ Some d.params → All (λ u. u ≢ ty.Perm) d.params → BodyFills → InnerReads →
      Simulates ts b c p g s sc (codes k p g args) (values b args s sc) (λ n m xs E. AreValued b n m xs d.params E) → Keeps V (All (IsProperValue b)) (values b args s sc) →
      Simulates ts b c p g s sc (code k p g amount) (value b amount s sc) (λ n m x E. IsValued b n m x ty.Perm E) → Keeps W (IsProperValue b) (value b amount s sc) →
      Simulates ts b c p g s sc (unfolding_code k p g (e.opened q args amount body inner at)) (unfolded b (e.opened q args amount body inner at) s sc) (λ n m x E. IsValued b n m x u E)
  unfolding_simulates args amount there no_perm fills reads given proper_args asked proper_amount = record {
    alike = λ n E cs coupled ready.
        let first = codes k p g args in let second = code k p g amount in
        let a = first n in let n1 = a.next in let m = second n1 in let n2 = m.next in
        let last = from_opening a.value m.value n2 in
        let counted = codes_counted k p g args in let counted2 = code_counted k p g amount in
        let low : n ≤ n1 = omega (arith, counted.next n) in let high : n1 ≤ n2 = omega (arith, counted2.next n1) in
        emit_alike ts b first (λ xs. then_emit second (λ m. from_opening xs m)) n E cs _ _
        (kept_alike proper_args (given.alike n E cs coupled (record { awake = ready.awake; full = ready.full; locals = locals_first ts n a.locals (m.locals ++ last.locals) ready.locals })))
        (λ vs F rest h.
        let ready1 = ready_rest ts g n n1 a.locals (m.locals ++ last.locals) E F (counted.next n) h.0.kept ready in
        let coupled1 = coupled_kept b c n n1 p s sc E F low h.0.kept coupled in
        emit_alike ts b second (λ m. from_opening a.value m) n1 F rest _ _
        (perm_alike (λ w E h. h.0.typed) (kept_alike proper_amount (asked.alike n1 F rest coupled1 (record { awake = ready1.awake; full = ready1.full; locals = locals_first ts n1 m.locals last.locals ready1.locals }))))
        (λ w G left o.
        let ready2 = ready_rest ts g n1 n2 m.locals last.locals F G (counted2.next n1) o.0.kept ready1 in
        let key = key_exists d.params vs no_perm (values_fit h.0.values h.1) in
        found_alike (key_of vs) key.0 _ (sym key.1) (weaken_alike
        (λ z H valued. record { kept = kept_then low h.0.kept (kept_then high o.0.kept valued.kept); typed = valued.typed; here = valued.here })
        (opening_alike_whole fills reads n2 a.value m.value vs w key.0 G left (coupled_kept b c n1 n2 p s sc F G high o.0.kept coupled1) there (values_more high o.0.kept.same h.0.values) h.1 key.1
        (record { value = o.0.here }) o.1 ready2))));
  }
