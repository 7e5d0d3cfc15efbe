-- Taking an amount and the content of an instance from maps that hold the present state.
use Rattle.std.proofs.Common.{Bool as Truth, true, false, not, ◌≡◌, ◌+◌, ◌<◌, ◌≤◌, ℕ, List, [], length, map, Option, Some, slice_get, slice_set, IfSome, refl, sym, ap, subst, ◌∙◌, arith}
use Rattle.std.specs.Bool.{⊤}
use Rattle.std.proofs.lemmas.Option.{slice_get_within, same_Some}
use Rattle.std.specs.Ordering.{is_lt}
use Rattle.lemmas.proofs.Tests.{false_from_not, true_from_not}
use Rattle.sparse.specs.Map.{Map, get, set}
use Rattle.vb_base.specs.declared.labels.Kind.{Kind}
use Rattle.vb_base.specs.declared.labels.Kind.TheVariants as kind
use Rattle.vb_base.specs.declared.places.Pos.{Pos}
use Rattle.vb_value.specs.Bound.{Bound, Unbounded, Bounded}
use Rattle.vb_value.specs.Content as content
use Rattle.vb_value.specs.Content.{IsProperContent}
use Rattle.vb_value.specs.Fraction.{Fraction, IsReduced, IsProperFraction, is_positive, order, difference, fits_order, fits_difference}
use Rattle.vb_value.specs.Key.{key_cmp, IsProperKey}
use Rattle.vb_value.specs.Value.{IsProperValue}
use Rattle.vb_value.specs.declared.values.Value.{Value}
use Rattle.vb_value.specs.Layout.{Layout}
use Rattle.vb_value.specs.declared.values.Ty.{Ty}
use Rattle.viper_core.specs.Typing.{Context}
use Rattle.vb_value.proofs.ProperLaws.{IsReduced-difference}
use Rattle.viper_state.specs.State.{State, content_at, amount_at, with_amount}
use Rattle.viper_state.specs.Fits.{FitsKey}
use Rattle.viper_state.proofs.EachLaws.{amount_has}
use Rattle.viper_meaning.specs.Places.{key_of, taken}
use Rattle.viper_state.specs.Run.{Scene}
use Rattle.viper_meaning.proofs.ClosedLaws.{proper_closed}
use Rattle.viper_meaning.proofs.KeptLaws.{taken_kept}
use Rattle.viper_meaning.proofs.SignLaws.{taken_sign}
use Rattle.viper_meaning.proofs.TypedLaws.{keeps, taken_typed}
use Rattle.viper_meaning.specs.Ends.{Evaluated, ends, is as is_end, Fails, fails, after, then_with, found, unless, fitting}
use Rattle.boogie_tree.specs.Expr as t
use Rattle.boogie_tree.specs.Program.{BType}
use Rattle.boogie_tree.specs.declared.exprs.BOp.TheVariants as op
use Rattle.boogie_tree.specs.Stmt as stmt
use Rattle.boogie_tree.specs.Stmt.{BStmts}
use Rattle.boogie_tree.specs.Value.{Key, BScalar, Bool, Real, Snap, One, Many, BChoice, same_scalar}
use Rattle.boogie_meaning.specs.Ends as end
use Rattle.boogie_meaning.specs.Operators as m
use Rattle.boogie_meaning.specs.Value.{map_in}
use Rattle.boogie_meaning.specs.Quantified.{bvalue, bkey}
use Rattle.boogie_meaning.specs.Run.{Run, Done, Stops, Stop, Failed, with_end, put_value, then_run, brun}
use Rattle.boogie_meaning.proofs.PatternLaws.{set_here}
use Rattle.moves.specs.Maps.{instance_key}
use Rattle.enc_expr.specs.Place.{Maps, Place, number, Amount, IsAnySpot, IsLocalOf, AreApart}
use Rattle.enc_expr.specs.Code.{join}
use Rattle.enc_expr.specs.Encoding.{taking}
use Rattle.enc_expr.specs.Coupling.{Env, IsSound, IsCoupled, HasMaps, amount_kind, content_kind}
use Rattle.enc_expr.specs.Pieces.{index, one, label, check_positive}
use Rattle.enc_expr.specs.Alike.{Alike, failed, over, KeptBut, HasAtom, AreLocated}
use Rattle.enc_expr.proofs.RunLaws.{join_run, join_done, assign_run, assert_run, atom_value}
use Rattle.enc_expr.proofs.AlikeLaws.{is_alike, weaken_alike, kept_alike}
use Rattle.enc_expr.proofs.FrameLaws.{kept_itself, kept_set, but_from, but_then, then_kept_but, but_set, maps_kept, Singles, singles_itself, singles_then, singles_kept, singles_put, atom_single, located_single}
use Rattle.enc_expr.proofs.MapLaws.{found_in_map, read_map, amount_written, index_key}
use Rattle.enc_expr.proofs.AmountLaws.{enough_test, check_positive_run}

-- ---- steps of evaluations and runs

pub after_nothing : {X : Type 0} (e : Evaluated X) → after [] e ≡ e
after_nothing (ends events end) = refl

-- one run in place of another that is the same
pub alike_run : {b : Bound} {X : Type 0} {Q : X → Env → Type 0} {e : Evaluated X} {cs : List BChoice} {r q : Run} → r ≡ q → Alike Q b e cs q → Alike Q b e cs r
alike_run {b} {Q = Q} {e} {cs} same h = subst (Alike Q b e cs) (sym same) h

pub alike_of : {b : Bound} {X : Type 0} {Q : X → Env → Type 0} {e f : Evaluated X} {cs : List BChoice} {r : Run} → e ≡ f → Alike Q b f cs r → Alike Q b e cs r
alike_of {b} {Q = Q} {cs = cs} {r} same h = subst (λ e. Alike Q b e cs r) (sym same) h

-- what there is
pub found_alike : {b : Bound} {X Y : Type 0} {Q : Y → Env → Type 0} {cs : List BChoice} {r : Run} (o : Option X) (x : X) (go : X → Evaluated Y) → o ≡ Some x → Alike Q b (go x) cs r → Alike Q b (then_with (found o) go) cs r
found_alike o x go same h = alike_of (ap (λ o. then_with (found o) go) same ∙ after_nothing (go x)) h

-- a number that the code computes too: either it is within the bound, or nothing is said
pub fitting_alike : {X Y W : Type 0} {Q : Y → Env → Type 0} {cs : List BChoice} {r : Run} (b : Bound) (fits : Truth) (at : Pos) (x : X) (go : X → Evaluated Y) (w : W) (e : end.End W) → e ≡ end.fitting b fits w →
    (e ≡ end.Is w → Alike Q b (go x) cs r) → Alike Q b (then_with (fitting b fits at x) go) cs r
fitting_alike Unbounded fits at x go w e same h = alike_of (after_nothing (go x)) (h same)
fitting_alike Bounded true at x go w e same h = alike_of (after_nothing (go x)) (h same)
fitting_alike Bounded false at x go w e same h = over refl (record { same = refl })

pub unless_alike : {b : Bound} {X : Type 0} {Q : X → Env → Type 0} {instead go : Evaluated X} {cs : List BChoice} {r : Run} (test : Truth) → (test ≡ true → Alike Q b instead cs r) → (test ≡ false → Alike Q b go cs r) →
    Alike Q b (unless test instead go) cs r
unless_alike true f g = f refl
unless_alike false f g = g refl

-- the same failure
pub fails_alike : {b : Bound} {X : Type 0} {Q : X → Env → Type 0} {cs : List BChoice} (p : Place) (sc : Scene) (part : Pos) (kind : Kind) → p.at ≡ sc.at → Alike Q b (fails sc part kind) cs (Stops (Failed (label p part kind)) cs)
fails_alike {b} {Q = Q} {cs} p sc part kind same =
    subst (λ at. Alike Q b (ends [] (Fails (record { at = at; part = part; kind = kind }))) cs (Stops (Failed (label p part kind)) cs)) same (failed (record { same = refl }))

module _ (ts : List BType) (b : Bound) where
  pub stops_first : (xs ys : BStmts) (E : Env) (why : Stop) (cs rest : List BChoice) → brun ts b xs E cs ≡ Stops why rest → brun ts b (join xs ys) E cs ≡ Stops why rest
  stops_first xs ys E why cs rest h = join_run ts b xs ys E cs ∙ ap (λ r. then_run r (λ F left. brun ts b ys F left)) h

  put_run : (i : ℕ) (es : t.BExprs) (x : t.BExpr) (k : Key) (v : BScalar) (m : Map Key BScalar) (xs : BStmts) (E : Env) (cs : List BChoice) → bkey b es E ≡ end.Is k → bvalue b x E ≡ end.Is v →
      slice_get E i ≡ Some (Many m) → brun ts b (stmt.first (stmt.Put i es x) xs) E cs ≡ brun ts b xs (slice_set E i (Many (set key_cmp same_scalar m k v))) cs
  put_run i es x k v m xs E cs key value map =
      λ j. then_run (with_end (key j) cs (λ k. with_end (value j) cs (λ v. with_end (end.then_with (end.found (map j)) map_in) cs (put_value i k v E cs)))) (λ F rest. brun ts b xs F rest)

-- ---- taking

-- The statements provide maps that hold the state. They run through and take no choice, nothing but these maps and new locals was
-- changed, and what is no map is as before.
pub record Provides (ts : List BType) (b : Bound) (layout : Layout) (sets : BStmts) (m : Maps) (s : State) (x from : ℕ) (E : Env) : Type 0 where
  pub after : Env
  pub done : (cs : List BChoice) → brun ts b sets E cs ≡ Done after cs
  pub kept : KeptBut (IsLocalOf layout m) x E after
  pub singles : Singles x E after
  pub maps : HasMaps layout from m s after

-- the maps that hold it already
pub provided : (ts : List BType) (b : Bound) (layout : Layout) (m : Maps) (s : State) (x from : ℕ) (E : Env) → x ≤ from → HasMaps layout x m s E → Provides ts b layout stmt.skip m s x from E
provided ts b layout m s x from E within h = record { after = E; done = λ cs. refl; kept = but_from (kept_itself x E); singles = singles_itself x E; maps = maps_kept within (kept_itself x E) h }

-- the maps hold what is left, and the next local the content of the instance
pub record IsTaken (layout : Layout) (m : Maps) (x from : ℕ) (s : State) (q : ℕ) (key : Key) (w : Fraction) (E : Env) (less : State) (F : Env) : Type 0 where
  pub positive : is_positive w ≡ true
  pub kept : KeptBut (IsLocalOf layout m) x E F
  pub singles : Singles x E F
  pub maps : HasMaps layout (from + 1) m less F
  pub content : content.Content
  pub there : content_at s q key ≡ Some content
  pub here : slice_get F from ≡ Some (One (Snap content))

module _ (ts : List BType) (b : Bound) (c : Context) (x : ℕ) (p : Place) (s : State) (sc : Scene) (E : Env) (q : ℕ) (us : List Ty) (is : List ℕ) (vs : List Value) (key : Key) (amount : t.BExpr) (w : Fraction) (at : Pos)
    (coupled : IsCoupled b c x p s sc E) (full : length E ≡ length ts) (there : slice_get c.program.layout.keys q ≡ Some us) (fits : FitsKey us key) (located : AreLocated x E is vs) (same_key : Some key ≡ key_of vs)
    (atom : HasAtom x E amount (Real w)) (proper : IsProperFraction b w) (own : Maps) (sets : BStmts) (from : ℕ) {O : ℕ → Type 0} (apart : AreApart IsAnySpot O c.program.layout own) (high : x ≤ from)
    (provides : Provides ts b c.program.layout sets own s x from E) where
  abbrev layout : Layout
  layout = c.program.layout

  abbrev Taken : State → Env → Type 0
  Taken = IsTaken layout own x from s q key w E

  -- the amount that is held
  abbrev held : Fraction
  held = get key_cmp (coupled.now.amount q us there).m key

  is_held : amount_at s q key ≡ Some held
  is_held = found_in_map (amount_kind us) x (number p.now.amount q) s.amount q E key (coupled.now.amount q us there)

  held_reduced : IsReduced held
  held_reduced =
      let has : IfSome (amount_at s q key) (IsProperFraction b) = amount_has coupled.sound.proper q key in
      let proper_held : IsProperFraction b held = subst (λ o. IfSome o (IsProperFraction b)) is_held has in
      proper_held.reduced

  -- what is written after the tests
  abbrev changes : stmt.BStmts
  changes = stmt.first (stmt.Put (number own.amount q) (index is) (t.Bin op.Sub (t.At (number own.amount q) (index is)) amount)) (one (stmt.Assign from (t.At (number own.content q) (index is))))

  -- in the maps the amount is taken, where the difference is within the bound
  changes_alike : (cs : List BChoice) → from < length E → is_positive w ≡ true →
      Alike Taken b (then_with (fitting b (fits_difference held w) at (difference held w)) (λ left. is_end (with_amount s q key left))) cs (brun ts b changes provides.after cs)
  changes_alike cs within positive =
      let F = provides.after in let i = number own.amount q in let j = number own.content q in
      let has = provides.maps.amount q us there in
      let long : length F ≡ length E = provides.kept.length in
      let located1 : AreLocated x F is vs = located_single (omega arith) provides.singles located in
      let key_there : bkey b (index is) F ≡ end.Is (instance_key key) = index_key b x F is vs key located1 same_key in
      let same_held : get key_cmp has.m key ≡ held = same_Some _ _ (sym (found_in_map (amount_kind us) from i s.amount q F key has) ∙ is_held) in
      let left : bvalue b (t.At i (index is)) F ≡ end.Is (Real held) = read_map (amount_kind us) b from i s.amount q F key (index is) has fits key_there ∙ ap (λ h. end.Is (Real h)) same_held in
      let right : bvalue b amount F ≡ end.Is (Real w) = atom_value b x F amount (Real w) (atom_single (omega arith) provides.singles atom) in
      let minus : bvalue b (t.Bin op.Sub (t.At i (index is)) amount) F ≡ end.fitting b (fits_difference held w) (Real (difference held w)) = λ k. m.binary b op.Sub (left k) (right k) in
      fitting_alike b (fits_difference held w) at (difference held w) _ (Real (difference held w)) _ minus (λ value.
      let F2 = slice_set F i (Many (set key_cmp same_scalar has.image (instance_key key) (Real (difference held w)))) in
      let maps = amount_written c from own s F apart provides.maps q us key (difference held w) there tt fits (IsReduced-difference held w held_reduced proper.reduced) in
      let kept2 : KeptBut (IsLocalOf layout own) x F F2 = but_set x F i _ (record { spot = Amount q; kind = tt; exists = slice_get_within layout.keys q us there; there = refl }) in
      let singles2 : Singles x F F2 = singles_put x F i has.image _ has.here in
      let has2 = maps.content q us there in
      let key2 : bkey b (index is) F2 ≡ end.Is (instance_key key) = index_key b x F2 is vs key (located_single (omega arith) singles2 located1) same_key in
      let d = get key_cmp has2.m key in
      let value2 : bvalue b (t.At j (index is)) F2 ≡ end.Is (Snap d) = read_map (content_kind us) b from j s.content q F2 key (index is) has2 fits key2 in
      let kept3 = kept_set from from (One (Snap d)) F2 (omega arith) in
      alike_run (put_run ts b i (index is) (t.Bin op.Sub (t.At i (index is)) amount) (instance_key key) (Real (difference held w)) has.image (one (stmt.Assign from (t.At j (index is)))) F cs key_there value has.here ∙
      assign_run ts b from (t.At j (index is)) (Snap d) stmt.skip F2 cs value2)
      (is_alike (record {
        positive = positive;
        kept = but_then (omega arith) provides.kept (then_kept_but high kept2 kept3);
        singles = singles_then (omega arith) provides.singles (singles_then high singles2 (singles_kept kept3));
        maps = maps_kept (omega arith) kept3 maps;
        content = d;
        there = found_in_map (content_kind us) from j s.content q F2 key has2;
        here = set_here F2 from (One (Snap d)) (omega (arith, within, long, kept2.length));
      })))

  -- the tests of the present state, the statements, and the changes
  pub taking_alike : (cs : List BChoice) → from < length E →
      Alike Taken b (taken b sc s q key w at) cs (brun ts b (taking p own sets q (index is) amount from at) E cs)
  taking_alike cs within =
      let none_asked = label p at kind.Amount in let missing = label p at kind.Perm in
      let key_there : bkey b (index is) E ≡ end.Is (instance_key key) = index_key b x E is vs key located same_key in
      let left = read_map (amount_kind us) b x (number p.now.amount q) s.amount q E key (index is) (coupled.now.amount q us there) fits key_there in
      let right : bvalue b amount E ≡ end.Is (Real w) = atom_value b x E amount (Real w) atom in
      let enough = t.Bin op.Ge (t.At (number p.now.amount q) (index is)) amount in
      let asked : bvalue b enough E ≡ end.fitting b (fits_order held w) (Bool (not (is_lt (order held w)))) = (λ k. m.binary b op.Ge (left k) (right k)) ∙ enough_test b held w in
      let rest = join sets changes in
      let tests = stmt.first (stmt.Assert missing enough) rest in
      let check = check_positive_run ts b x none_asked amount w E cs atom proper in
      unless_alike (not (is_positive w))
      (λ test. alike_run (stops_first ts b (check_positive none_asked amount) tests E (Failed none_asked) cs cs (check.1 (false_from_not _ test))) (fails_alike p sc at kind.Amount coupled.at))
      (λ test. alike_run (join_done ts b (check_positive none_asked amount) tests E E cs cs (check.0 (true_from_not _ test))) (
      found_alike (amount_at s q key) held _ is_held (
      fitting_alike b (fits_order held w) at (is_lt (order held w)) _ (Bool (not (is_lt (order held w)))) (bvalue b enough E) asked (λ value.
      unless_alike (is_lt (order held w))
      (λ less. alike_run (assert_run ts b missing enough false rest E cs (value ∙ ap (λ z. end.Is (Bool (not z))) less)) (fails_alike p sc at kind.Perm coupled.at))
      (λ less. alike_run (assert_run ts b missing enough true rest E cs (value ∙ ap (λ z. end.Is (Bool (not z))) less) ∙
      join_done ts b sets changes E provides.after cs cs (provides.done cs)) (changes_alike cs within (true_from_not _ test)))))))

  -- and what is left is sound
  abbrev TakenSoundly : State → Env → Type 0
  TakenSoundly less F = Taken less F × IsSound b layout less

  pub opening_alike : (cs : List BChoice) → from < length E → IsProperKey b key →
      Alike TakenSoundly b (taken b sc s q key w at) cs (brun ts b (taking p own sets q (index is) amount from at) E cs)
  opening_alike cs within proper_key =
      let typed = keeps (taken_typed layout {B = ⊤} b sc s q us key w at there fits proper.reduced coupled.sound.fits) in
      let kept = taken_kept b (IsProperFraction b) IsReduced (IsProperValue b) (IsProperKey b) (IsProperContent b) (proper_closed b) sc s q key w at proper.reduced coupled.sound.proper proper_key in
      let signed = taken_sign b sc s q key w at coupled.sound.nonnegative in
      weaken_alike (λ less F h. (h.0.0.0, record { fits = h.0.0.1; proper = h.0.1; nonnegative = h.1 })) (kept_alike signed (kept_alike kept (kept_alike typed (taking_alike cs within))))
