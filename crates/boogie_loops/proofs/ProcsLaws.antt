-- The first procedure of a name in two ways more: by its number in a table, and as code searches for it.
use Rattle.std.proofs.Common.{◌≡◌, ◌∙◌, ◌≤◌, ◌<◌, ◌+◌, ◌-◌, ◌==◌, ℕ, Bool as Truth, true, false, cond, Option, Some, None, List, [], ◌∷◌, map, drop, get_or, slice_get, length, nat_lt, Bor, refl, sym, ap, arith}
use Rattle.std.proofs.lemmas.Bool.Decides.{nat_tests}
use Rattle.std.proofs.lemmas.Option.{slice_get_past}
use Rattle.std.specs.Cmp.Lexicographic.{pointwise}
use Rattle.std.specs.Map.{lookup}
use Rattle.std.specs.Option.{option_map, is_some, IfSome}
use Rattle.std.specs.Str.{bytes_eq}
use Rattle.lemmas.proofs.Lists.{next_item, item_at}
use Rattle.boogie_loops.specs.Numbers.{HaveNumbers, at_number, first_named}
use Rattle.boogie_loops.specs.Procedures.{proc_named}
use Rattle.boogie_loops.specs.View.{wproc_of}
use Rattle.boogie_loops.specs.declared.wide.WProc.{WProc}

-- ---- numbers

-- the table has the numbers of the procedures from the number i on
abbrev pub HaveNumbersFrom : List (List ℕ × ℕ) → ℕ → List WProc → Type 0
HaveNumbersFrom numbers i ds = (name : List ℕ) → at_number ds (lookup (pointwise ◌==◌ name) numbers) ≡ first_named (drop i ds) name

one_more : (ds : List WProc) (number : ℕ) (d : WProc) (b : Truth) (o : Option ℕ) (p : Option WProc) → slice_get ds number ≡ Some d → at_number ds o ≡ p →
    at_number ds (cond b (Some number) o) ≡ cond b (Some d) p
one_more ds number d true o p there h = there
one_more ds number d false o p there h = h

pub numbers_next : (ds : List WProc) (number later : ℕ) (d : WProc) (old new : List (List ℕ × ℕ)) (key : List ℕ) → later < length ds → number ≡ length ds - 1 - later → d ≡ get_or ds number d → key ≡ d.name →
    HaveNumbersFrom old (length ds - later) ds →
    ((name : List ℕ) → lookup (pointwise ◌==◌ name) new ≡ cond (pointwise ◌==◌ key name) (Some number) (lookup (pointwise ◌==◌ name) old)) → HaveNumbersFrom new (length ds - (later + 1)) ds
numbers_next ds number later d old new key lt at is named so_far inserted = λ name.
    let here : number ≡ length ds - (later + 1) = omega (arith, at, lt) in
    let next : length ds - later ≡ number + 1 = omega (arith, at, lt) in
    let within : number < length ds = omega (arith, at, lt) in
    ap (at_number ds) (inserted name ∙ ap (λ k. cond (bytes_eq k name) (Some number) (lookup (pointwise ◌==◌ name) old)) named)
    ∙ one_more ds number d (bytes_eq d.name name) (lookup (pointwise ◌==◌ name) old) (first_named (drop (number + 1) ds) name) (item_at ds number d within is)
    (so_far name ∙ ap (λ k. first_named (drop k ds) name) next)
    ∙ sym (ap (λ xs. first_named xs name) (next_item ds number d within is))
    ∙ ap (λ k. first_named (drop k ds) name) here

pub numbers_done : (ds : List WProc) (numbers : List (List ℕ × ℕ)) (later : ℕ) → length ds ≤ later → HaveNumbersFrom numbers (length ds - later) ds → HaveNumbers numbers ds
numbers_done ds numbers later end h = λ name.
    let zero_left : length ds - later ≡ 0 = omega (arith, end) in
    h name ∙ ap (λ k. first_named (drop k ds) name) zero_left ∙ ap (λ xs. first_named xs name) (drop_none ds)
  where
    drop_none : (xs : List WProc) → drop 0 xs ≡ xs
    drop_none [] = refl
    drop_none (x ∷ xs) = refl

pub got : (ds : List WProc) (i : ℕ) (o : Option (Bor WProc)) → is_some o ≡ nat_lt i (length ds) → IfSome o (λ x. x.now ≡ get_or ds i x.now) → option_map (λ (d : Bor WProc). d.now) o ≡ slice_get ds i
got ds i None h is = let past : length ds ≤ i = grind (arith, nat_tests, h) in sym (slice_get_past ds i past)
got ds i (Some d) h is = let within : i < length ds = grind (arith, nat_tests, h) in sym (item_at ds i d.now within is)

-- ---- the procedure of a name

named_is : (ds : List WProc) (name : List ℕ) → proc_named (map wproc_of ds) name ≡ option_map wproc_of (first_named ds name)
named_is [] name = refl
named_is (d ∷ ds) name = at (bytes_eq (wproc_of d).name name) (named_is ds name)
  where
    at : (p : Truth) → proc_named (map wproc_of ds) name ≡ option_map wproc_of (first_named ds name) →
        cond p (Some (wproc_of d)) (proc_named (map wproc_of ds) name) ≡ option_map wproc_of (cond p (Some d) (first_named ds name))
    at true h = refl
    at false h = h

pub first_is : (ds : List WProc) (name : List ℕ) (o : Option (Bor WProc)) → option_map (λ (d : Bor WProc). d.now) o ≡ first_named ds name →
    option_map (λ (d : Bor WProc). wproc_of d.now) o ≡ proc_named (map wproc_of ds) name
first_is ds name o h = at o h ∙ sym (named_is ds name)
  where
    at : (o : Option (Bor WProc)) → option_map (λ (d : Bor WProc). d.now) o ≡ first_named ds name →
        option_map (λ (d : Bor WProc). wproc_of d.now) o ≡ option_map wproc_of (first_named ds name)
    at None h = ap (option_map wproc_of) h
    at (Some d) h = ap (option_map wproc_of) h
