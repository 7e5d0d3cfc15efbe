-- A new object: its reference is one of which nothing is known, and its fields take any values and are held whole.
use Rattle.std.specs.Bool.{⊤, Decides}
use Rattle.std.specs.Option.{IfSome}
use Rattle.std.specs.Ordering.{nat_cmp}
use Rattle.std.proofs.Common.{◌≡◌, ◌≢◌, ◌<◌, ◌+◌, ◌==◌, ℕ, suc, Bool as Truth, true, false, not, List, [], ◌∷◌, length, All, get_or, Some, None, slice_get, slice_set, if◌then◌else◌, refl, sym, ap, subst, ◌∙◌, arith}
use Rattle.std.proofs.lemmas.Bool.Decides.{Decides-not, Decides-eqb}
use Rattle.std.proofs.lemmas.List.Elements.{All-nil, All-cons, All-head, All-tail, All-contains, All-contains_itself}
use Rattle.std.proofs.lemmas.Option.{slice_get_within, same_Some, get_or_from_slice_get}
use Rattle.lemmas.proofs.Lists.{item_there}
use Rattle.sparse.specs.Map.{get, set}
use Rattle.vb_value.specs.declared.keys.KeyPart.TheVariants as part
use Rattle.vb_value.specs.Bound.{Bound}
use Rattle.vb_value.specs.Fraction.{Fraction, none, write, is_none, IsProperFraction}
use Rattle.vb_value.specs.Key.{key_cmp}
use Rattle.vb_value.specs.Layout.{Layout}
use Rattle.vb_value.specs.Value.{type_of}
use Rattle.vb_value.specs.declared.values.Ty.{Ty}
use Rattle.vb_value.specs.declared.values.Ty.TheVariants as ty
use Rattle.vb_value.specs.declared.values.Value.{Value}
use Rattle.vb_value.specs.declared.values.Value.TheVariants as v
use Rattle.viper_state.specs.Fits.{FitsValue}
use Rattle.viper_state.specs.State.{value_at, mask_at, with_value, with_mask}
use Rattle.viper_state.proofs.EachLaws.{mask_has, with_mask_has, with_mask_nonnegative}
use Rattle.viper_state.proofs.FitsLaws.{with_mask_fits, field_of_value, field_of_mask}
use Rattle.viper_meaning.specs.Ends.{is, blocks}
use Rattle.viper_meaning.specs.Fresh.{KnowsNothingOf}
use Rattle.viper_meaning.specs.Run.{Run, ended, goes, then_do}
use Rattle.viper_meaning.specs.Statements.{Activation, Configuration, with_state, with_variable, taking_fresh, taking_value, is_fresh, created}
use Rattle.viper_meaning.proofs.FreshLaws.{Decides-fresh}
use Rattle.viper_meaning.proofs.PartLaws.{is_none_itself}
use Rattle.viper_meaning.proofs.StatementKeptLaws.{proper_write}
use Rattle.boogie_tree.specs.Expr as t
use Rattle.boogie_tree.specs.Program.{BType}
use Rattle.boogie_tree.specs.Stmt as s
use Rattle.boogie_tree.specs.Value as bv
use Rattle.boogie_tree.specs.Value.{One, Many, Real, same_scalar}
use Rattle.boogie_tree.specs.Values.{plain_type}
use Rattle.boogie_tree.specs.declared.exprs.BBase.TheVariants as base
use Rattle.boogie_tree.specs.declared.exprs.BOp.TheVariants as op
use Rattle.boogie_meaning.specs.Ends as end
use Rattle.boogie_meaning.specs.Patterns.{Avoids, AreThere}
use Rattle.boogie_meaning.specs.Quantified.{bvalue}
use Rattle.boogie_meaning.specs.Run.{brun}
use Rattle.boogie_meaning.proofs.PatternLaws.{set_here, set_there}
use Rattle.moves.specs.Maps.{place_key}
use Rattle.moves.specs.Scalars.{scalar, variable_type}
use Rattle.enc_expr.specs.Place.{number, Mask, IsLocalOf}
use Rattle.enc_expr.specs.Kinds.{type_at}
use Rattle.enc_expr.specs.Code.{Emitting, join, then_emit, declares, puts}
use Rattle.enc_expr.specs.Pieces.{at_one, one, zero_real, one_real}
use Rattle.enc_expr.specs.Coupling.{Env, HasMap, IsSound, mask_kind, heap_kind}
use Rattle.enc_expr.specs.Alike.{HasAtom, variable}
use Rattle.enc_expr.proofs.AlikeLaws.{is_alike}
use Rattle.enc_expr.proofs.AmountLaws.{none_alone, put_run}
use Rattle.enc_expr.proofs.CodeLaws.{declares_counted, gives_counted, puts_counted, then_counted}
use Rattle.enc_expr.proofs.FillLaws.{reference_key}
use Rattle.enc_expr.proofs.FrameLaws.{but_set, kept_set, singles_put}
use Rattle.enc_expr.proofs.MapLaws.{found_in_map, read_map, mask_written}
use Rattle.enc_expr.proofs.OperatorLaws.{plain_value}
use Rattle.enc_expr.proofs.RunLaws.{assign_run, atom_value}
use Rattle.enc_expr.proofs.Simulated.{IsCounted}
use Rattle.enc_assert.proofs.AlongsideLaws.{run_alongside, ended_alongside}
use Rattle.enc_assert.proofs.GoingLaws.{emit_both}
use Rattle.enc_block.specs.Encoding.{unnamed_code, unheld_code, unstored_at, unstored_code, fresh_tests, created_field, created_code, new_code}
use Rattle.enc_block.specs.Home.{Home, kinds_of, whole, IsHome, IsAt, HasRoom}
use Rattle.enc_block.specs.Runs.{Runs}
use Rattle.enc_block.proofs.GoingLaws.{Along, found_along}
use Rattle.enc_block.proofs.HomeLaws.{at_kept, at_maps, at_set, variable_at}
use Rattle.enc_block.proofs.KindLaws.{havoc_along, fresh_along}
use Rattle.enc_block.proofs.RoomLaws.{room_first, room_rest}
use Rattle.enc_block.proofs.TestLaws.{Tests, nothing_tested, both_tested, same_test, truth_tested, avoid_tested, row_tested, tested_along}
use Rattle.enc_block.proofs.WriteLaws.{at_written}

-- ---- locals are counted

pub created_counted : (layout : Layout) (h : Home) (i : ℕ) (fields : List ℕ) → IsCounted (created_code layout h i fields)
created_counted layout h i [] = gives_counted tt
created_counted layout h i (f ∷ fs) =
    then_counted (declares (variable_type (type_at layout.fields f))) (λ x. then_emit (puts None (created_field h i f x)) (λ u. created_code layout h i fs)) (declares_counted (variable_type (type_at layout.fields f))) (λ x.
    then_counted (puts None (created_field h i f x)) (λ u. created_code layout h i fs) (puts_counted None (created_field h i f x)) (λ u. created_counted layout h i fs))

pub new_counted : (k : Activation) (h : Home) (x : ℕ) (fields refs : List ℕ) → IsCounted (new_code (kinds_of k) h x fields refs)
new_counted k h x fields refs =
    let layout = k.program.layout in
    let last : ℕ → Emitting ⊤ = λ i. puts None (one (s.Assign (number h.vars x) (t.Var i))) in
    let tests : ℕ → Emitting ⊤ = λ i. puts None (s.first (s.Havoc i) (fresh_tests layout h i refs)) in
    then_counted (declares (plain_type base.Ref)) (λ i. then_emit (tests i) (λ u. then_emit (created_code layout h i fields) (λ u. last i))) (declares_counted (plain_type base.Ref)) (λ i.
    then_counted (tests i) (λ u. then_emit (created_code layout h i fields) (λ u. last i)) (puts_counted None (s.first (s.Havoc i) (fresh_tests layout h i refs))) (λ u.
    then_counted (created_code layout h i fields) (λ u. last i) (created_counted layout h i fields) (λ u. puts_counted None (one (s.Assign (number h.vars x) (t.Var i))))))

-- ---- the tests

a_reference : (w : Value) → type_of w ≡ ty.Ref → (z : ℕ) × (w ≡ v.Ref z)
a_reference (v.Ref z) typed = (z, refl)
a_reference (v.Int n) typed = absurd cc
a_reference (v.Bool q) typed = absurd cc
a_reference (v.Perm q) typed = absurd cc

-- only a reference is one in Boogie
the_reference : (w : Value) (x : ℕ) → scalar w ≡ bv.Ref x → w ≡ v.Ref x
the_reference (v.Ref z) x same = cc
the_reference (v.Int n) x same = absurd cc
the_reference (v.Bool q) x same = absurd cc
the_reference (v.Perm q) x same = absurd cc

same_real : {p q : Fraction} → Real p ≡ Real q → p ≡ q
same_real same = cc

module _ (ts : List BType) (b : Bound) (k : Activation) (h : Home) (n : ℕ) (d : Configuration) (E : Env) (it : IsAt ts b k h n d E) (i x : ℕ) (own : i < n) (here : slice_get E i ≡ Some (One (bv.Ref x))) where
  abbrev layout : Layout
  layout = k.program.layout

  atom : HasAtom n E (t.Var i) (bv.Ref x)
  atom = variable own here

  reference : bvalue b (t.Var i) E ≡ end.Is (bv.Ref x)
  reference = atom_value b n E (t.Var i) (bv.Ref x) atom

  decided : {P : Type 0} (e : t.BExpr) (q : Truth) → Decides q P → bvalue b e E ≡ end.Is (bv.Bool q) → Tests ts b E (one (s.Assume e)) P
  decided e q decides value = same_test ts b E decides.0 decides.1 (truth_tested ts b E e q value)

  null_tested : Tests ts b E (one (s.Assume (t.Bin op.Ne (t.Var i) t.Null))) (x ≢ 0)
  null_tested = decided (t.Bin op.Ne (t.Var i) t.Null) (not (x == 0)) (Decides-not (x == 0) (Decides-eqb x 0)) (plain_value b op.Ne (t.Var i) t.Null (bv.Ref x) (bv.Ref 0) E refl reference refl)

  -- it is not that of a variable
  abbrev IsUnnamed : ℕ → Type 0
  IsUnnamed y = slice_get d.store y ≢ Some (v.Ref x)

  unnamed_tested : (refs : List ℕ) → All (λ y. slice_get k.vars y ≡ Some ty.Ref) refs → Tests ts b E (unnamed_code h i refs) (All IsUnnamed refs)
  unnamed_tested [] typed = nothing_tested ts b E (All-nil IsUnnamed)
  unnamed_tested (y ∷ ys) typed =
      same_test ts b E (λ both. All-cons IsUnnamed y ys both.0 both.1) (λ all. (All-head IsUnnamed y ys all, All-tail IsUnnamed y ys all))
      (both_tested ts b E (one (s.Assume (t.Bin op.Ne (t.Var i) (t.Var (number h.vars y))))) (unnamed_code h i ys) one_unnamed (unnamed_tested ys (All-tail (λ y. slice_get k.vars y ≡ Some ty.Ref) y ys typed)))
    where
      one_unnamed : Tests ts b E (one (s.Assume (t.Bin op.Ne (t.Var i) (t.Var (number h.vars y))))) (IsUnnamed y)
      one_unnamed =
          let has = variable_at it y ty.Ref (All-head (λ y. slice_get k.vars y ≡ Some ty.Ref) y ys typed) in let z = a_reference has.v has.typed in
          let there : slice_get d.store y ≡ Some (v.Ref z.0) = has.there ∙ ap Some z.1 in
          let at : slice_get E (number h.vars y) ≡ Some (One (bv.Ref z.0)) = has.here ∙ ap (λ (w : Value). Some (One (scalar w))) z.1 in
          same_test ts b E (λ other same. other (differ z.0 there same)) (λ other same. other (there ∙ ap (λ (z : ℕ). Some (v.Ref z)) (sym same)))
          (decided (t.Bin op.Ne (t.Var i) (t.Var (number h.vars y))) (not (x == z.0)) (Decides-not (x == z.0) (Decides-eqb x z.0))
          (plain_value b op.Ne (t.Var i) (t.Var (number h.vars y)) (bv.Ref x) (bv.Ref z.0) E refl reference (atom_value b n E (t.Var (number h.vars y)) (bv.Ref z.0) (variable has.below at))))
        where
          differ : (z : ℕ) → slice_get d.store y ≡ Some (v.Ref z) → slice_get d.store y ≡ Some (v.Ref x) → x ≡ z
          differ z there same = cc

  -- nothing is held of its field
  abbrev IsUnheld : ℕ → Type 0
  IsUnheld f = (q : Fraction) → mask_at d.state f x ≡ Some q → is_none q ≡ true

  one_unheld : (f : ℕ) (u : Ty) → slice_get layout.fields f ≡ Some u → Tests ts b E (one (s.Assume (t.Bin op.Eq (at_one (number h.now.mask f) (t.Var i)) zero_real))) (IsUnheld f)
  one_unheld f u there =
      let mask = it.now.mask f u there in let held = get nat_cmp mask.m x in
      let found : mask_at d.state f x ≡ Some held = found_in_map mask_kind n (number h.now.mask f) d.state.mask f E x mask in
      let has : IfSome (mask_at d.state f x) (IsProperFraction b) = mask_has it.sound.proper f x in
      let proper : IsProperFraction b held = subst (λ o. IfSome o (IsProperFraction b)) found has in
      same_test ts b E (λ nothing q same. ap is_none (same_Some _ _ (sym same ∙ found)) ∙ nothing) (λ all. all held found)
      (truth_tested ts b E (t.Bin op.Eq (at_one (number h.now.mask f) (t.Var i)) zero_real) (is_none held)
      (plain_value b op.Eq (at_one (number h.now.mask f) (t.Var i)) zero_real (Real held) (Real none) E refl
      (read_map mask_kind b n (number h.now.mask f) d.state.mask f E x (t.more (t.Var i) t.none) mask tt (reference_key b n E (t.Var i) x atom)) refl
      ∙ ap (λ (q : Truth). end.Is (bv.Bool q)) (none_alone held proper.reduced)))

  -- it stands at no place of the field of which something is held
  abbrev IsUnstored : ℕ → Type 0
  IsUnstored f = (y : ℕ) (q : Fraction) → mask_at d.state f y ≡ Some q → is_none q ≡ false → value_at d.state f y ≢ Some (v.Ref x)

  abbrev Unstores : ℕ → Ty → Type 0
  Unstores f u = Tests ts b E (unstored_at u h.now i f) (IsUnstored f)

  abbrev MaskAt : ℕ → Type 0
  MaskAt f = HasMap mask_kind n (number h.now.mask f) d.state.mask f E

  abbrev HeapAt : ℕ → Type 0
  HeapAt f = HasMap (heap_kind ty.Ref) n (number h.now.heap f) d.state.heap f E

  -- a field of another type has no references
  other_field : (f : ℕ) (u : Ty) → slice_get layout.fields f ≡ Some u → u ≢ ty.Ref → IsUnstored f
  other_field f u there other y q held some same =
      let has = field_of_value it.sound.fits f y (v.Ref x) same in
      other (same_Some _ _ (sym there ∙ has.1.0) ∙ sym has.1.1.typed)

  one_unstored : (f : ℕ) (u : Ty) → slice_get layout.fields f ≡ Some u → Unstores f u
  one_unstored f ty.Int there = nothing_tested ts b E (other_field f ty.Int there (λ e. cc))
  one_unstored f ty.Bool there = nothing_tested ts b E (other_field f ty.Bool there (λ e. cc))
  one_unstored f ty.Perm there = nothing_tested ts b E (other_field f ty.Perm there (λ e. cc))
  one_unstored f ty.Ref there =
      let mask = it.now.mask f ty.Ref there in let heap = it.now.heap f ty.Ref there in
      let are : AreThere E (base.Ref ∷ []) base.Ref (number h.now.mask f) (number h.now.heap f) i mask.image heap.image (bv.Ref x) = record {
        held_there = mask.here;
        held_typed = mask.typed;
        map_there = heap.here;
        map_typed = heap.typed;
        value_there = here;
        value_typed = record { typed = refl; reduced = tt };
      } in
      same_test ts b E (unstored mask heap) (avoids mask heap) (avoid_tested ts b E (base.Ref ∷ []) base.Ref (number h.now.mask f) (number h.now.heap f) i mask.image heap.image (bv.Ref x) are)
    where
      unstored : (mask : MaskAt f) (heap : HeapAt f) → Avoids (base.Ref ∷ []) mask.image heap.image (bv.Ref x) → IsUnstored f
      unstored mask heap avoids y q held some same =
          let found = found_in_map mask_kind n (number h.now.mask f) d.state.mask f E y mask in
          let there = found_in_map (heap_kind ty.Ref) n (number h.now.heap f) d.state.heap f E y heap in
          avoids (place_key y) (refl, tt)
          (λ zero. not_none q (same_Some _ _ (sym held ∙ found) ∙ same_real (sym (mask.same y tt) ∙ zero)) some)
          (heap.same y tt ∙ ap scalar (same_Some _ _ (sym there ∙ same)))
        where
          not_none : (q : Fraction) → q ≡ none → is_none q ≡ false → ⊥
          not_none q e some = let other : is_none none ≡ false = subst (λ q. is_none q ≡ false) e some in cc

      avoids : (mask : MaskAt f) (heap : HeapAt f) → IsUnstored f → Avoids (base.Ref ∷ []) mask.image heap.image (bv.Ref x)
      avoids mask heap all [] fits some same = absurd fits
      avoids mask heap all (part.Int z ∷ key) fits some same = let other = fits.0 in absurd cc
      avoids mask heap all (part.Bool z ∷ key) fits some same = let other = fits.0 in absurd cc
      avoids mask heap all (part.Ref y ∷ (p ∷ key)) fits some same = absurd fits.1
      avoids mask heap all (part.Ref y ∷ []) fits some same =
          let found = found_in_map mask_kind n (number h.now.mask f) d.state.mask f E y mask in
          let there = found_in_map (heap_kind ty.Ref) n (number h.now.heap f) d.state.heap f E y heap in
          let held = get nat_cmp mask.m y in
          let has : IfSome (mask_at d.state f y) (IsProperFraction b) = mask_has it.sound.proper f y in
          let proper : IsProperFraction b held = subst (λ o. IfSome o (IsProperFraction b)) found has in
          all y held found (is_some held (λ nothing. some (mask.same y tt ∙ ap Real (is_none_itself held proper.reduced nothing))))
          (there ∙ ap Some (the_reference (get nat_cmp heap.m y) x (sym (heap.same y tt) ∙ same)))
        where
          is_some : (q : Fraction) → (is_none q ≡ true → ⊥) → is_none q ≡ false
          is_some q other = by_test (is_none q) other
            where
              by_test : (p : Truth) → (p ≡ true → ⊥) → p ≡ false
              by_test true other = absurd (other refl)
              by_test false other = refl

  -- the fields of these types, the first of which has the number j
  abbrev IsRest : List Ty → ℕ → Type 0
  IsRest us j = (c : ℕ) → slice_get us c ≡ slice_get layout.fields (j + c)

  rest_first : (u : Ty) (us : List Ty) (j : ℕ) → IsRest (u ∷ us) j → slice_get layout.fields j ≡ Some u
  rest_first u us j rest = sym (rest 0 ∙ ap (slice_get layout.fields) (omega arith))

  rest_later : (u : Ty) (us : List Ty) (j : ℕ) → IsRest (u ∷ us) j → IsRest us (j + 1)
  rest_later u us j rest c = rest (suc c) ∙ ap (slice_get layout.fields) (omega arith)

  unheld_tested : (us : List Ty) (j : ℕ) → IsRest us j → Tests ts b E (unheld_code h.now i us j) ((c : ℕ) → c < length us → IsUnheld (j + c))
  unheld_tested [] j rest = nothing_tested ts b E (λ c below. absurd (omega (arith, below)))
  unheld_tested (u ∷ us) j rest =
      row_tested ts b E IsUnheld j (length us) (one (s.Assume (t.Bin op.Eq (at_one (number h.now.mask j) (t.Var i)) zero_real))) (unheld_code h.now i us (j + 1))
      (one_unheld j u (rest_first u us j rest)) (unheld_tested us (j + 1) (rest_later u us j rest))

  unstored_tested : (us : List Ty) (j : ℕ) → IsRest us j → Tests ts b E (unstored_code h.now i us j) ((c : ℕ) → c < length us → IsUnstored (j + c))
  unstored_tested [] j rest = nothing_tested ts b E (λ c below. absurd (omega (arith, below)))
  unstored_tested (u ∷ us) j rest =
      row_tested ts b E IsUnstored j (length us) (unstored_at u h.now i j) (unstored_code h.now i us (j + 1)) (one_unstored j u (rest_first u us j rest)) (unstored_tested us (j + 1) (rest_later u us j rest))

  pub fresh_tested : (refs : List ℕ) → All (λ y. slice_get k.vars y ≡ Some ty.Ref) refs → Tests ts b E (fresh_tests layout h i refs) (KnowsNothingOf x refs d)
  fresh_tested refs typed =
      let unheld = unheld_code h.now i layout.fields 0 in let unstored = unstored_code h.now i layout.fields 0 in
      same_test ts b E
      (λ all. record {
        not_null = all.0;
        not_named = λ y among. All-contains IsUnnamed refs y all.1.0 among;
        not_held = λ f q same. subst IsUnheld (omega arith) (all.1.1.0 f (is_field f x q same)) q same;
        not_stored = λ f y q same. subst IsUnstored (omega arith) (all.1.1.1 f (is_field f y q same)) y q same;
      })
      (λ it. (it.not_null, ((λ c w within. it.not_named (get_or refs c w) (All-contains_itself refs c w within)), ((λ c below. it.not_held (0 + c)), (λ c below. it.not_stored (0 + c))))))
      (both_tested ts b E (one (s.Assume (t.Bin op.Ne (t.Var i) t.Null))) (join (unnamed_code h i refs) (join unheld unstored)) null_tested
      (both_tested ts b E (unnamed_code h i refs) (join unheld unstored) (unnamed_tested refs typed)
      (both_tested ts b E unheld unstored (unheld_tested layout.fields 0 from_first) (unstored_tested layout.fields 0 from_first))))
    where
      from_first : IsRest layout.fields 0
      from_first c = ap (slice_get layout.fields) (omega arith)

      is_field : (f y : ℕ) (q : Fraction) → mask_at d.state f y ≡ Some q → f < length layout.fields
      is_field f y q same = let has = field_of_mask it.sound.fits f y q same in slice_get_within layout.fields f has.0 has.1.0

-- ---- its fields

module _ (ts : List BType) (b : Bound) (k : Activation) (h : Home) (home : IsHome ts k h) where
  -- a place of the present state is held whole
  at_whole : (n : ℕ) (d : Configuration) (E : Env) (it : IsAt ts b k h n d E) (f : ℕ) (u : Ty) (x : ℕ) (there : slice_get k.program.layout.fields f ≡ Some u) →
      IsAt ts b k h n (with_state d (with_mask d.state f x write)) (slice_set E (number h.now.mask f) (Many (set key_cmp same_scalar (it.now.mask f u there).image (place_key x) (Real write))))
  at_whole n d E it f u x there =
      let proper = proper_write b in
      let sound : IsSound b k.program.layout (with_mask d.state f x write) = record {
        fits = with_mask_fits it.sound.fits f x write proper.reduced;
        proper = with_mask_has it.sound.proper f x write proper;
        nonnegative = with_mask_nonnegative it.sound.nonnegative f x write refl;
      } in
      at_maps home (omega arith)
      (but_set {O = IsLocalOf k.program.layout h.now} n E (number h.now.mask f) _ (record { spot = Mask f; kind = tt; exists = slice_get_within k.program.layout.fields f u there; there = refl }))
      (mask_written (whole k) n h.now d.state E home.now it.now f u x write there tt proper.reduced) sound it

  -- they take any values
  created_along : (i x : ℕ) (fields : List ℕ) (n : ℕ) (d : Configuration) (E : Env) → All (λ f. f < length k.program.layout.fields) fields → IsAt ts b k h n d E → i < n → slice_get E i ≡ Some (One (bv.Ref x)) →
      (let m = created_code k.program.layout h i fields in HasRoom ts n (m n).locals →
      Along b k.program.layout (λ s F. IsAt ts b k h (m n).next (with_state d s) F × (slice_get F i ≡ Some (One (bv.Ref x)))) (created k.program.layout.fields x fields d.state) (λ cs. brun ts b (m n).stmts E cs))
  created_along i x [] n d E exist it own here room = ended_alongside ⊥ b k.program.layout (is d.state) (λ cs. is_alike (it, here))
  created_along i x (f ∷ fs) n d E exist it own here room =
      let layout = k.program.layout in let field = item_there layout.fields f (All-head (λ f. f < length layout.fields) f fs exist) in let u = field.0 in let there = field.1 in
      let key = t.more (t.Var i) t.none in let last = created_code layout h i fs (n + 1) in
      let two = s.first (s.Put (number h.now.mask f) key one_real) last.stmts in let one_put = s.first (s.Put (number h.now.heap f) key (t.Var n)) two in
      let local : slice_get ts n ≡ Some (variable_type u) = room.locals.0 ∙ ap (λ (w : Ty). Some (variable_type w)) (get_or_from_slice_get layout.fields f u ty.Int there) in
      found_along (slice_get layout.fields f) u (λ u. taking_value u (λ w. created layout.fields x fs (with_mask (with_value d.state f x w) f x write))) there
      (havoc_along ts b layout E n u one_put (λ w. created layout.fields x fs (with_mask (with_value d.state f x w) f x write)) local (λ w fine.
      let F = slice_set E n (One (scalar w)) in
      let within : n < length E = omega (arith, slice_get_within ts n (variable_type u) local, it.full) in
      let it1 = at_kept (omega arith) (kept_set n n (One (scalar w)) E (omega arith)) it in
      let here1 : slice_get F i ≡ Some (One (bv.Ref x)) = set_there E n i (One (scalar w)) (λ e. omega (arith, e, own)) ∙ here in
      let value_here : slice_get F n ≡ Some (One (scalar w)) = set_here E n (One (scalar w)) within in
      let heap = it1.now.heap f u there in let new_heap = Many (set key_cmp same_scalar heap.image (place_key x) (scalar w)) in let G = slice_set F (number h.now.heap f) new_heap in
      let c = with_state d (with_value d.state f x w) in
      let it2 : IsAt ts b k h (n + 1) c G = at_written ts b k h home (n + 1) d F it1 f u x w there fine in
      let here2 : slice_get G i ≡ Some (One (bv.Ref x)) = (singles_put (n + 1) F (number h.now.heap f) heap.image new_heap heap.here).same i (bv.Ref x) (omega (arith, own)) here1 in
      let mask = it2.now.mask f u there in let new_mask = Many (set key_cmp same_scalar mask.image (place_key x) (Real write)) in let H = slice_set G (number h.now.mask f) new_mask in
      let it3 : IsAt ts b k h (n + 1) (with_state c (with_mask c.state f x write)) H = at_whole (n + 1) c G it2 f u x there in
      let here3 : slice_get H i ≡ Some (One (bv.Ref x)) = (singles_put (n + 1) G (number h.now.mask f) mask.image new_mask mask.here).same i (bv.Ref x) (omega (arith, own)) here2 in
      run_alongside ⊥ b layout (λ cs.
      put_run ts b (number h.now.heap f) key (t.Var n) (place_key x) heap.image (scalar w) two F cs heap.here (reference_key b (n + 1) F (t.Var i) x (variable (omega (arith, own)) here1))
      (atom_value b (n + 1) F (t.Var n) (scalar w) (variable (omega arith) value_here))
      ∙ put_run ts b (number h.now.mask f) key one_real (place_key x) mask.image (Real write) last.stmts G cs mask.here (reference_key b (n + 1) G (t.Var i) x (variable (omega (arith, own)) here2)) refl)
      (created_along i x fs (n + 1) (with_state c (with_mask c.state f x write)) H (All-tail (λ f. f < length layout.fields) f fs exist) it3 (omega (arith, own)) here3
      (room_rest (variable_type (type_at layout.fields f) ∷ []) last.locals refl room))))

  -- a variable gets a new object
  pub new_runs : (x : ℕ) (fields refs : List ℕ) → slice_get k.vars x ≡ Some ty.Ref → All (λ f. f < length k.program.layout.fields) fields → All (λ y. slice_get k.vars y ≡ Some ty.Ref) refs →
      Runs ts b k h (new_code (kinds_of k) h x fields refs)
      (λ d. taking_fresh (λ r. if is_fresh r refs d then then_do (created k.program.layout.fields r fields d.state) (λ s. goes (with_variable (with_state d s) x (v.Ref r))) else ended blocks))
  new_runs x fields refs there exist typed = record {
    goes = λ n d E it room.
        let layout = k.program.layout in let made = created_code layout h n fields in let last : Emitting ⊤ = puts None (one (s.Assign (number h.vars x) (t.Var n))) in
        let rest = then_emit made (λ u. last) (n + 1) in let tests = fresh_tests layout h n refs in
        let go : ℕ → Run Configuration = λ r. then_do (created layout.fields r fields d.state) (λ s. goes (with_variable (with_state d s) x (v.Ref r))) in
        let local = room.locals.0 in
        let behind = room_rest (plain_type base.Ref ∷ []) rest.locals refl room in
        fresh_along ts b layout E n (join tests rest.stmts) (λ r. if is_fresh r refs d then go r else ended blocks) local (λ r.
        let F = slice_set E n (One (bv.Ref r)) in
        let it1 = at_kept (omega arith) (kept_set n n (One (bv.Ref r)) E (omega arith)) it in
        let here : slice_get F n ≡ Some (One (bv.Ref r)) = set_here E n (One (bv.Ref r)) (omega (arith, slice_get_within ts n (plain_type base.Ref) local, it.full)) in
        tested_along ts b F (is_fresh r refs d) tests rest.stmts (go r) (Decides-fresh layout r refs d it.sound.fits) (fresh_tested ts b k h (n + 1) d F it1 n r (omega arith) here refs typed) (λ knows.
        emit_both ⊥ ts b layout made (λ u. last) (n + 1) F (created layout.fields r fields d.state) (λ s. goes (with_variable (with_state d s) x (v.Ref r)))
        (created_along n r fields (n + 1) d F exist it1 (omega arith) here (room_first (made (n + 1)).locals (last (made (n + 1)).next).locals behind)) (λ made_state G z.
        let m = (made (n + 1)).next in
        let low : n < m = omega (arith, (created_counted layout h n fields).next (n + 1)) in
        let fits : FitsValue ty.Ref (v.Ref r) = record { typed = refl; reduced = tt } in
        run_alongside ⊥ b layout (λ cs. assign_run ts b (number h.vars x) (t.Var n) (bv.Ref r) s.skip G cs (atom_value b m G (t.Var n) (bv.Ref r) (variable low z.1)))
        (ended_alongside ⊥ b layout (is (with_variable (with_state d made_state) x (v.Ref r))) (λ cs. is_alike (at_set home x ty.Ref (v.Ref r) there refl tt fits z.0))))));
  }
