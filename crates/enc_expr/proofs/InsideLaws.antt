-- The body of an instance that is opened, and what is read inside.
use Rattle.std.proofs.Common.{◌≡◌, ◌+◌, ◌<◌, ◌≤◌, ℕ, zero, suc, true, List, [], ◌∷◌, length, All, Some, IfSome, slice_get, refl, sym, subst, ◌∙◌, arith}
use Rattle.std.proofs.lemmas.Option.{none-some, same_Some}
use Rattle.std.proofs.lemmas.List.Elements.{All-head, All-tail}
use Rattle.vb_base.specs.declared.places.Pos.{Pos}
use Rattle.vb_value.specs.Bound.{Bound}
use Rattle.vb_value.specs.Content.{Content, IsReducedContent, IsProperContent}
use Rattle.vb_value.specs.Fraction.{Fraction, IsProperFraction, is_positive}
use Rattle.vb_value.specs.Key.{IsProperKey}
use Rattle.vb_value.specs.Layout.{Layout}
use Rattle.vb_value.specs.Value.{type_of, IsProperValue}
use Rattle.vb_value.specs.declared.values.Ty.{Ty}
use Rattle.vb_value.specs.declared.values.Value.{Value}
use Rattle.vb_value.specs.declared.values.Value.TheVariants as v
use Rattle.viper_core.specs.Formed.{predicate_context}
use Rattle.viper_core.specs.Program.{Predicate}
use Rattle.viper_core.specs.Typing.{Context}
use Rattle.viper_state.specs.Fits.{FitsKey, FitsValue, FitsStore}
use Rattle.viper_state.specs.Run.{Scene, with_variables}
use Rattle.viper_state.specs.State.{Key, State, content_at}
use Rattle.viper_state.proofs.EachLaws.{content_has}
use Rattle.viper_state.proofs.FitsLaws.{content_found}
use Rattle.viper_meaning.specs.Places.{key_of, taken}
use Rattle.viper_meaning.proofs.ClosedLaws.{proper_closed}
use Rattle.viper_meaning.proofs.TypedLaws.{key_fits}
use Rattle.boogie_tree.specs.Expr as t
use Rattle.boogie_tree.specs.Program.{BType}
use Rattle.boogie_tree.specs.Stmt.{BStmts, skip}
use Rattle.boogie_tree.specs.Value.{BChoice, BScalar, Real, Snap, One}
use Rattle.boogie_meaning.specs.Run.{brun}
use Rattle.enc_expr.specs.Place.{Maps, Place, number, with_now, with_vars, IsLocalOf}
use Rattle.enc_expr.specs.Code.{Code, join, Guard, guarded}
use Rattle.enc_expr.specs.Pieces.{Operand, Atom, atomic, Located, located, index}
use Rattle.enc_expr.specs.Encoding.{taking}
use Rattle.enc_expr.specs.Coupling.{Env, IsSound, HasVariable, IsCoupled, IsAwake, AreLocals, IsOwn}
use Rattle.enc_expr.specs.Alike as alike
use Rattle.enc_expr.specs.Alike.{Alike, Kept, KeptBut, AreValues, AreLocated, HasAtom, IsScale, IsSource}
use Rattle.enc_expr.proofs.RunLaws.{join_done, guarded_awake}
use Rattle.enc_expr.proofs.AlikeLaws.{weaken_alike}
use Rattle.enc_expr.proofs.FrameLaws.{kept_then, kept_but_then, maps_but, coupled_kept, Singles, singles_itself, singles_then, singles_kept, atom_single, located_single, own_apart, coupled_own}
use Rattle.enc_expr.proofs.CodeLaws.{atomic_counted, located_counted}
use Rattle.enc_expr.proofs.AtomLaws.{Holds, holds_more, atomic_set, located_more, located_set}
use Rattle.enc_expr.proofs.OpeningLaws.{Provides, provided, IsTaken, opening_alike, alike_run}

-- ---- the body, and what is read inside

-- the locals of the arguments are the variables of the body
pub located_variable : {n : ℕ} {E : Env} (is : List ℕ) (vs : List Value) (us : List Ty) (i : ℕ) (u : Ty) → AreLocated n E is vs → FitsStore us vs → slice_get us i ≡ Some u → HasVariable u n (number is i) vs i E
located_variable [] [] (y ∷ us) i u h fits there = elim fits [ ]
located_variable [] (v ∷ vs) us i u h fits there = elim h [ ]
located_variable (a ∷ is) [] us i u h fits there = elim h [ ]
located_variable (a ∷ is) (v ∷ vs) [] i u h fits there = elim fits [ ]
located_variable [] [] [] i u alike.AreLocated.none fits there = absurd (none-some u there)
located_variable (a ∷ is) (v ∷ vs) (y ∷ us) zero u (alike.AreLocated.more below here rest) fits there = record { v = v; there = refl; typed = fits.0.typed ∙ same_Some _ _ there; below = below; here = here }
located_variable (a ∷ is) (v ∷ vs) (y ∷ us) (suc i) u (alike.AreLocated.more below here rest) fits there =
    let it = located_variable is vs us i u rest fits.1 there in record { v = it.v; there = it.there; typed = it.typed; below = it.below; here = it.here }

pub body_coupled : (b : Bound) (c : Context) (d : Predicate) (x from : ℕ) (p : Place) (m : Maps) (s less : State) (sc : Scene) (q : ℕ) (key : Key) (w : Fraction) (is : List ℕ) (vs : List Value) (E F : Env) → IsOwn c (with_now m p) → IsCoupled b c x p s sc E →
    x ≤ from → IsTaken c.program.layout m x from s q key w E less F → IsSound b c.program.layout less → AreLocated x E is vs → FitsStore d.params vs → All (IsProperValue b) vs →
    IsCoupled b (predicate_context c.program d) (from + 1) (with_now m (with_vars is p)) less (with_variables vs sc) F
body_coupled b c d x from p m s less sc q key w is vs E F own h before taken sound located fits proper = record {
  now = taken.maps;
  old = maps_but (omega (arith, before)) taken.kept (λ i named mine. own_apart own named mine) h.old;
  vars = λ i u visible there. located_variable is vs d.params i u (located_single (omega (arith, before)) taken.singles located) fits there;
  at = h.at;
  sound = sound;
  old_sound = h.old_sound;
  store = proper;
}

-- behind the body the maps hold what it leaves, and what the locals hold besides they still hold
pub inner_coupled : (b : Bound) (c : Context) (d : Predicate) (x m : ℕ) (p : Place) (l : Maps) (is : List ℕ) (s less : State) (sc : Scene) (vs : List Value) (E G : Env) → IsOwn c (with_now l p) → IsCoupled b c x p s sc E → x ≤ m →
    KeptBut (IsLocalOf c.program.layout l) x E G → Singles x E G → IsCoupled b (predicate_context c.program d) m (with_now l (with_vars is p)) less (with_variables vs sc) G → IsCoupled b c m (with_now l p) less sc G
inner_coupled b c d x m p l is s less sc vs E G own h before kept singles g = coupled_own b c x m p l s less sc E G own before kept singles g.now g.sound h

-- ---- what a body is produced from

pub atom_more : {n m : ℕ} {E : Env} {x : t.BExpr} {w : BScalar} → n ≤ m → HasAtom n E x w → HasAtom m E x w
atom_more {n} {E = E} within h = atom_single within (singles_itself n E) h

pub amount_scales : (b : Bound) (n m : ℕ) (E F : Env) (x : t.BExpr) (q : Fraction) → n ≤ m → Singles n E F → HasAtom n E x (Real q) → is_positive q ≡ true → IsProperFraction b q → IsScale b m F x q
amount_scales b n m E F x q within singles atom positive proper = record { atom = atom_single within singles atom; positive = positive; proper = proper }

pub content_is_source : (b : Bound) (layout : Layout) (s : State) (q : ℕ) (us : List Ty) (key : Key) (d : Content) (from : ℕ) (F : Env) → IsSound b layout s → slice_get layout.keys q ≡ Some us →
    content_at s q key ≡ Some d → slice_get F from ≡ Some (One (Snap d)) → IsSource b (from + 1) F from d
content_is_source b layout s q us key d from F sound there is here =
    let found = content_found sound.fits q key us there in
    let same : found.0 ≡ d = same_Some _ _ (sym found.1.0 ∙ is) in
    let has : IfSome (content_at s q key) (IsProperContent b) = content_has sound.proper q key in
    record { below = omega arith; here = here; reduced = subst IsReducedContent same found.1.1; proper = subst (λ o. IfSome o (IsProperContent b)) is has }

-- values of these types, which are proper, fit
pub proper_fits : (b : Bound) (u : Ty) (v : Value) → type_of v ≡ u → IsProperValue b v → FitsValue u v
proper_fits b u (v.Int n) typed h = record { typed = typed; reduced = tt }
proper_fits b u (v.Bool p) typed h = record { typed = typed; reduced = tt }
proper_fits b u (v.Ref r) typed h = record { typed = typed; reduced = tt }
proper_fits b u (v.Perm q) typed h = record { typed = typed; reduced = h.reduced }

pub values_fit : {b : Bound} {n : ℕ} {E : Env} {xs : List Operand} {us : List Ty} {vs : List Value} → AreValues b n E xs us vs → All (IsProperValue b) vs → FitsStore us vs
values_fit alike.AreValues.none h = tt
values_fit {b} (alike.AreValues.more {u} {v = w} {vs} typed here rest) h = (proper_fits b u w typed (All-head (IsProperValue b) w vs h), values_fit rest (All-tail (IsProperValue b) w vs h))

-- maps that are none of the old state, where the body is read
pub body_owns : (c : Context) (d : Predicate) (p : Place) (m : Maps) (is : List ℕ) → IsOwn c (with_now m p) → IsOwn (predicate_context c.program d) (with_now m (with_vars is p))
body_owns c d p m is own = own

-- ---- the whole opening

-- what stands after it: the body is read in these maps, from the content and with the scale
pub record IsOpened (b : Bound) (c : Context) (d : Predicate) (p : Place) (m : Maps) (s : State) (sc : Scene) (q : ℕ) (key : Key) (vs : List Value) (w : Fraction) (n from : ℕ) (is : List ℕ) (amount : t.BExpr)
    (E : Env) (less : State) (F : Env) : Type 0 where
  pub kept : KeptBut (IsLocalOf c.program.layout m) n E F
  pub singles : Singles n E F
  pub coupled : IsCoupled b (predicate_context c.program d) (from + 1) (with_now m (with_vars is p)) less (with_variables vs sc) F
  pub content : Content
  pub there : content_at s q key ≡ Some content
  pub source : IsSource b (from + 1) F from content
  pub scale : IsScale b (from + 1) F amount w

module _ (ts : List BType) (b : Bound) (c : Context) (d : Predicate) (p : Place) (g : Guard) (s : State) (sc : Scene) (q : ℕ) (key : Key) (vs : List Value) (w : Fraction) (at : Pos) (n : ℕ) (xs : List Operand) (m : Operand) (E : Env) where
  -- the locals of the arguments, and then the amount
  abbrev l : Code Located
  l = located xs n

  abbrev a : Code Atom
  a = atomic m l.next

  abbrev x : ℕ
  x = a.next

  -- in any maps that are none of the old state, where the statements provide them wherever the state is coupled
  pub instance_opened : (own : Maps) (sets : BStmts) (from : ℕ) → IsOwn c (with_now own p) → x ≤ from → ((G : Env) → IsCoupled b c x p s sc G → length G ≡ length ts → Provides ts b c.program.layout sets own s x from G) →
      (cs : List BChoice) → IsCoupled b c n p s sc E → IsAwake g n E → length E ≡ length ts → AreLocals ts n l.locals → AreLocals ts l.next a.locals → from < length ts →
      slice_get c.program.layout.keys q ≡ Some d.params → AreValues b n E xs d.params vs → All (IsProperValue b) vs → Some key ≡ key_of vs → Holds b n m.expr E (Real w) → IsProperFraction b w →
      Alike (IsOpened b c d p own s sc q key vs w n from l.value.locals a.value.expr E) b (taken b sc s q key w at) cs
      (brun ts b (guarded g (join l.value.sets (join a.value.sets (taking p own sets q (index l.value.locals) a.value.expr from at)))) E cs)
  instance_opened own sets from owns behind provides cs coupled awake full locals more_locals within there values proper is_key amount proper_amount =
      let set = located_set ts b n E xs d.params vs full values locals in
      let F = set.after in let k = set.sets.kept in
      let low : n ≤ l.next = omega (arith, (located_counted xs).next n) in
      let high : l.next ≤ x = omega (arith, (atomic_counted m).next l.next) in
      let put = atomic_set ts b l.next F (k.length ∙ full) m (Real w) (holds_more low k.same amount) more_locals in
      let G = put.after in let kept : Kept n E G = kept_then low k put.sets.kept in
      let fits = values_fit values proper in
      let fits_key : FitsKey d.params key = subst (λ o. IfSome o (FitsKey d.params)) (sym is_key) (key_fits d.params vs fits) in
      let proper_key : IsProperKey b key = subst (λ o. IfSome o (IsProperKey b)) (sym is_key) ((proper_closed b).key vs proper) in
      let here : AreLocated x G l.value.locals vs = located_more high put.sets.kept.same set.located in
      let full_here : length G ≡ length ts = kept.length ∙ full in
      let now = coupled_kept b c n x p s sc E G (omega (arith, low, high)) kept coupled in
      let opens = opening_alike ts b c x p s sc G q d.params l.value.locals vs key a.value.expr w at now full_here there fits_key here is_key put.atom proper_amount own sets from owns behind (provides G now full_here) cs
      (omega (arith, within, full_here)) proper_key in
      let body = taking p own sets q (index l.value.locals) a.value.expr from at in
      alike_run (guarded_awake ts b g n (join l.value.sets (join a.value.sets body)) E cs awake ∙ join_done ts b l.value.sets (join a.value.sets body) E F cs cs (set.sets.done cs) ∙ join_done ts b a.value.sets body F G cs cs (put.sets.done cs))
      (weaken_alike (λ less H z. record {
        kept = kept_but_then (omega (arith, low, high)) kept z.0.kept;
        singles = singles_then (omega (arith, low, high)) (singles_kept kept) z.0.singles;
        coupled = body_coupled b c d x from p own s less sc q key w l.value.locals vs G H owns now behind z.0 z.1 here fits proper;
        content = z.0.content;
        there = z.0.there;
        source = content_is_source b c.program.layout s q d.params key z.0.content from H now.sound there z.0.there z.0.here;
        scale = amount_scales b x (from + 1) G H a.value.expr w (omega (arith, behind)) z.0.singles put.atom z.0.positive proper_amount;
      }) opens)

  -- in the present maps, as by `unfold`
  pub place_opened : (cs : List BChoice) → IsOwn c p → IsCoupled b c n p s sc E → IsAwake g n E → length E ≡ length ts → AreLocals ts n l.locals → AreLocals ts l.next a.locals → x < length ts →
      slice_get c.program.layout.keys q ≡ Some d.params → AreValues b n E xs d.params vs → All (IsProperValue b) vs → Some key ≡ key_of vs → Holds b n m.expr E (Real w) → IsProperFraction b w →
      Alike (IsOpened b c d p p.now s sc q key vs w n x l.value.locals a.value.expr E) b (taken b sc s q key w at) cs
      (brun ts b (guarded g (join l.value.sets (join a.value.sets (taking p p.now skip q (index l.value.locals) a.value.expr x at)))) E cs)
  place_opened cs own = instance_opened p.now skip x own (omega arith) (λ G now long. provided ts b c.program.layout p.now s x x G (omega arith) now.now) cs
