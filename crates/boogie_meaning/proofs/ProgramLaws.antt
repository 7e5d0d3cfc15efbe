-- The first ill-typed procedure is the one that the function on programs finds.
use Rattle.std.proofs.Common.{◌≡◌, ◌<◌, ℕ, zero, suc, Bool as Truth, true, false, Option, Some, None, List, [], ◌∷◌, slice_get, if◌then◌else◌, refl, sym, ap, subst, ◌∙◌, arith}
use Rattle.std.specs.Bool.{Decides}
use Rattle.std.specs.Option.{option_map}
use Rattle.lemmas.proofs.Options.{some_same}
use Rattle.lemmas.proofs.Tests.{and_parts}
use Rattle.sparse.proofs.MapLaws.{Decides-list_all}
use Rattle.boogie_tree.specs.Program.{BType, Proc, BProgram}
use Rattle.boogie_tree.specs.Values.{AreKeys, are_keys}
use Rattle.boogie_meaning.specs.Types.{is_typed}
use Rattle.boogie_meaning.specs.Programs.{types_of, HaveKeys, have_keys, IsTypedProc, is_typed_proc, IsTypedProgram, ill_typed_among, first_ill_typed, IsFirstIllTyped}
use Rattle.boogie_meaning.proofs.TypeLaws.{Decides-is_typed, Decides-are_keys, and_true}

pub Decides-have_keys : (ls : List BType) → Decides (have_keys ls) (HaveKeys ls)
Decides-have_keys ls = Decides-list_all (λ u. are_keys u.keys) (λ u. AreKeys u.keys) (λ u. Decides-are_keys u.keys) ls

Decides-is_typed_proc : (d : Proc) → Decides (is_typed_proc d) (IsTypedProc d)
Decides-is_typed_proc d =
    let keys = Decides-have_keys (types_of d) in
    let body = Decides-is_typed (types_of d) d.body in (
      λ h. let p = and_parts (have_keys (types_of d)) (is_typed (types_of d) d.body) h in record { keys = keys.0 p.0; body = body.0 p.1 },
      λ t. and_true (keys.1 t.keys) (body.1 t.body),
    )

abbrev AllTyped : List Proc → Type 0
AllTyped ds = (n : ℕ) (d : Proc) → slice_get ds n ≡ Some d → IsTypedProc d

abbrev First : List Proc → ℕ → Type 0
First ds number = IsFirstIllTyped (record { procs = ds }) number

typed_first : (d : Proc) (ds : List Proc) → IsTypedProc d → AllTyped ds → AllTyped (d ∷ ds)
typed_first d ds h g zero e there = subst IsTypedProc (some_same there) h
typed_first d ds h g (suc n) e there = g n e there

none_at : (o : Option ℕ) → option_map suc o ≡ None → o ≡ None
none_at None h = refl
none_at (Some n) h = absurd (cc)

some_at : (o : Option ℕ) (number : ℕ) → option_map suc o ≡ Some number → (n : ℕ) × (o ≡ Some n) × (suc n ≡ number)
some_at None number h = absurd (cc)
some_at (Some n) number h = (n, refl, some_same h)

none_step : (d : Proc) (ds : List Proc) (p : Truth) → is_typed_proc d ≡ p → (if p then option_map suc (ill_typed_among ds) else Some 1) ≡ None →
    (ill_typed_among ds ≡ None → AllTyped ds) → AllTyped (d ∷ ds)
none_step d ds true e h f = typed_first d ds ((Decides-is_typed_proc d).0 e) (f (none_at (ill_typed_among ds) h))
none_step d ds false e h f = absurd (cc)

none_is_typed : (ds : List Proc) → ill_typed_among ds ≡ None → AllTyped ds
none_is_typed [] h = λ n d there. absurd (cc)
none_is_typed (d ∷ ds) h = none_step d ds (is_typed_proc d) refl h (none_is_typed ds)

typed_is_none : (ds : List Proc) → AllTyped ds → ill_typed_among ds ≡ None
typed_is_none [] h = refl
typed_is_none (d ∷ ds) h =
    let e : is_typed_proc d ≡ true = (Decides-is_typed_proc d).1 (h zero d refl) in
    let f : ill_typed_among ds ≡ None = typed_is_none ds (λ n x there. h (suc n) x there) in
    rw (e, f) refl

before_first : (d : Proc) (ds : List Proc) (place : ℕ) → IsTypedProc d → ((n : ℕ) (x : Proc) → n < place → slice_get ds n ≡ Some x → IsTypedProc x) →
    (n : ℕ) (x : Proc) → n < suc place → slice_get (d ∷ ds) n ≡ Some x → IsTypedProc x
before_first d ds place h g zero x below there = subst IsTypedProc (some_same there) h
before_first d ds place h g (suc n) x below there = g n x (omega (arith, below)) there

after_typed : (d : Proc) (ds : List Proc) (n number : ℕ) → IsTypedProc d → suc n ≡ number → First ds n → First (d ∷ ds) number
after_typed d ds n number h e f = record {
  place = suc f.place;
  is_number = sym e ∙ ap suc f.is_number;
  procedure = f.procedure;
  is_there = f.is_there;
  is_ill_typed = f.is_ill_typed;
  before = before_first d ds f.place h f.before;
}

some_step : (d : Proc) (ds : List Proc) (number : ℕ) (p : Truth) → is_typed_proc d ≡ p → (if p then option_map suc (ill_typed_among ds) else Some 1) ≡ Some number →
    ((n : ℕ) → ill_typed_among ds ≡ Some n → First ds n) → First (d ∷ ds) number
some_step d ds number true e h f =
    let s = some_at (ill_typed_among ds) number h in
    after_typed d ds s.0 number ((Decides-is_typed_proc d).0 e) s.2 (f s.0 s.1)
some_step d ds number false e h f = record {
  place = 0;
  is_number = sym (some_same h);
  procedure = d;
  is_there = refl;
  is_ill_typed = λ g. let t : is_typed_proc d ≡ true = (Decides-is_typed_proc d).1 g in absurd (cc);
  before = λ n x below there. absurd (omega (arith, below));
}

some_is_first : (ds : List Proc) (number : ℕ) → ill_typed_among ds ≡ Some number → First ds number
some_is_first [] number h = absurd (cc)
some_is_first (d ∷ ds) number h = some_step d ds number (is_typed_proc d) refl h (λ n g. some_is_first ds n g)

-- two numbers of first ones are one
not_before : {ds : List Proc} {m n : ℕ} → (f : First ds m) → (g : First ds n) → f.place < g.place → ⊥
not_before f g below = f.is_ill_typed (g.before f.place f.procedure below f.is_there)

one_first : {ds : List Proc} {m n : ℕ} → First ds m → First ds n → m ≡ n
one_first f g =
    let a = not_before f g in
    let b = not_before g f in
    f.is_number ∙ ap suc (same_place f.place g.place a b) ∙ sym g.is_number
  where
    same_place : (i j : ℕ) → (i < j → ⊥) → (j < i → ⊥) → i ≡ j
    same_place i j a b = omega (arith, a, b)

first_is_some-step : (ds : List Proc) (number : ℕ) (o : Option ℕ) → ill_typed_among ds ≡ o → First ds number → o ≡ Some number
first_is_some-step ds number None e f = absurd (f.is_ill_typed (none_is_typed ds e f.place f.procedure f.is_there))
first_is_some-step ds number (Some n) e f = ap Some (one_first (some_is_first ds n e) f)

pub no_ill_typed : (program : BProgram) → first_ill_typed program ≡ None → IsTypedProgram program
no_ill_typed program h = none_is_typed program.procs h

pub no_ill_typed_back : (program : BProgram) → IsTypedProgram program → first_ill_typed program ≡ None
no_ill_typed_back program h = typed_is_none program.procs h

pub is_first : (program : BProgram) (number : ℕ) → first_ill_typed program ≡ Some number → IsFirstIllTyped program number
is_first program number h = some_is_first program.procs number h

pub is_first_back : (program : BProgram) (number : ℕ) → IsFirstIllTyped program number → first_ill_typed program ≡ Some number
is_first_back program number f = first_is_some-step program.procs number (ill_typed_among program.procs) refl f
