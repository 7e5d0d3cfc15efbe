-- What an opening sets: each value is of its variable's type, the names are those of its first locals, and a run begins with it.
use Rattle.std.proofs.Common.{◌≡◌, ◌<◌, ◌≤◌, ◌+◌, ◌∙◌, ◌++◌, ℕ, zero, suc, List, [], ◌∷◌, map, take, length, length-append, append_assoc, Option, Some, None, slice_get, slice_set, refl, sym, ap, subst, arith}
use Rattle.std.specs.List.{fold, zip}
use Rattle.std.specs.Option.{option_map}
use Rattle.std.proofs.lemmas.Option.{same_Some, slice_get_within}
use Rattle.lemmas.proofs.Lists.{there_left, zip_length}
use Rattle.vb_value.specs.declared.values.Ty.{Ty}
use Rattle.viper_core.specs.Formed.{IsFormed}
use Rattle.viper_core.specs.Program.{Program, Predicate, Method}
use Rattle.viper_core.specs.declared.programs.Unit.{Unit}
use Rattle.viper_core.specs.declared.programs.Unit.TheVariants as unit
use Rattle.viper_state.specs.Fits.{FitsOpening}
use Rattle.viper_state.specs.Run.{Opening}
use Rattle.viper_meaning.specs.Units.{opening_types, Opens}
use Rattle.boogie_tree.specs.Program.{BType, Local}
use Rattle.boogie_tree.specs.Value.{BValue, BSetting}
use Rattle.boogie_tree.specs.Values.{IsOfType, IsEnvironment}
use Rattle.boogie_meaning.specs.Programs.{default_value}
use Rattle.enc_expr.specs.Emits.{temporaries}
use Rattle.enc_expr.specs.Front.{types_of, types_of_method, types_of_predicate, front_names, front_types, front_values, settings}
use Rattle.enc_expr.specs.Locals.{types_of_others, first_other, names_from, state_names, old_names, zero_names, fixed_names, fixed_types, named, locals_of_unit}
use Rattle.enc_expr.proofs.FrontLaws.{front}
use Rattle.enc_expr.proofs.FrontValues.{front_fits}
use Rattle.enc_locals.specs.Opened.{settings_from, start_settings}
use Rattle.enc_units.specs.Units.{further_types, unit_procedure, started}
use Rattle.enc_units.proofs.UnitHomeLaws.{held_on}

-- ---- each value is of its type

types_are : (p : Program) (u : Unit) (ws : List Ty) → opening_types p u ≡ Some ws → ws ≡ types_of p u
types_are p (unit.Method k) ws h = by_method (slice_get p.methods k) refl
  where
    by_method : (m : Option Method) → slice_get p.methods k ≡ m → ws ≡ types_of p (unit.Method k)
    by_method (Some m) e = let a : opening_types p (unit.Method k) ≡ Some (take (m.params + m.returns) m.vars) = rw e refl in same_Some _ _ (sym h ∙ a) ∙ sym (ap types_of_method e)
    by_method None e = let a : opening_types p (unit.Method k) ≡ None = rw e refl in absurd (cc)
types_are p (unit.Predicate k) ws h = by_predicate (slice_get p.predicates k) refl
  where
    by_predicate : (d : Option Predicate) → slice_get p.predicates k ≡ d → ws ≡ types_of p (unit.Predicate k)
    by_predicate (Some d) e = let a : opening_types p (unit.Predicate k) ≡ Some d.params = rw e refl in same_Some _ _ (sym h ∙ a) ∙ sym (ap types_of_predicate e)
    by_predicate None e = let a : opening_types p (unit.Predicate k) ≡ None = rw e refl in absurd (cc)

pub opened_fits : (p : Program) (n : ℕ) (o : Opening) (u : Unit) → Opens p n o → slice_get p.units n ≡ Some u → FitsOpening p.layout (types_of p u) o
opened_fits p n o u opens there =
    let same : opens.unit ≡ u = same_Some _ _ (sym opens.exists ∙ there) in
    subst (λ ws. FitsOpening p.layout ws o) (types_are p u opens.types (sym (ap (opening_types p) same) ∙ opens.typed)) opens.fits

pub opened_typed : (p : Program) (n : ℕ) (o : Opening) (u : Unit) → Opens p n o → slice_get p.units n ≡ Some u → IsEnvironment (front_types p u) (front_values o)
opened_typed p n o u opens there = front_fits p u o (opened_fits p n o u opens there)

pub opened_many : (p : Program) (n : ℕ) (o : Opening) (u : Unit) → Opens p n o → slice_get p.units n ≡ Some u → length (front_values o) ≡ length (front_types p u)
opened_many p n o u opens there = sym (zip_length (λ w v. IsOfType v w) (front_types p u) (front_values o) (opened_typed p n o u opens there))

-- ---- the names of locals

abbrev pub name_at : List Local → ℕ → Option (List ℕ)
name_at ls i = option_map (λ (l : Local). l.name) (slice_get ls i)

named_at : (xs : List (List ℕ)) (ws : List BType) (i : ℕ) (x : List ℕ) → slice_get xs i ≡ Some x → i < length ws → name_at (named xs ws) i ≡ Some x
named_at [] ws i x there low = absurd (cc)
named_at (y ∷ xs) [] i x there low = absurd (omega (arith, low))
named_at (y ∷ xs) (w ∷ ws) zero x there low = there
named_at (y ∷ xs) (w ∷ ws) (suc i) x there low = named_at xs ws i x there (omega (arith, low))

name_more : (ls ms : List Local) (i : ℕ) (x : List ℕ) → name_at ls i ≡ Some x → name_at (ls ++ ms) i ≡ Some x
name_more [] ms i x h = absurd (cc)
name_more (l ∷ ls) ms zero x h = h
name_more (l ∷ ls) ms (suc i) x h = name_more ls ms i x h

-- the first names of a unit's locals
front_named : (p : Program) (u : Unit) (us : List BType) → length (front_types p u) ≡ length (front_names p u) → (i : ℕ) (x : List ℕ) → slice_get (front_names p u) i ≡ Some x → name_at (locals_of_unit p u us) i ≡ Some x
front_named p u us many i x there =
    let low = slice_get_within (front_names p u) i x there in
    name_more (named (fixed_names p u) (fixed_types p u)) (temporaries (length (fixed_types p u)) us) i x
    (named_at (fixed_names p u) (fixed_types p u) i x
    (there_left (front_names p u) (state_names p ++ (old_names p ++ (zero_names p ++ names_from (first_other p u) (types_of_others p u)))) i x there)
    (omega (arith, low, many, length-append (front_types p u) (held_on p u))))

-- ---- settings by their names

abbrev pub by_name : List Local → List BSetting → List (Option (List ℕ) × BValue)
by_name ls xs = map {B = Option (List ℕ) × BValue} (λ (s : BSetting). (name_at ls s.var, s.value)) xs

paired : (ls : List Local) (n : ℕ) (xs : List (List ℕ)) (vs : List BValue) → length vs ≡ length xs → ((i : ℕ) (x : List ℕ) → slice_get xs i ≡ Some x → name_at ls (n + i) ≡ Some x) →
    by_name ls (settings_from n vs) ≡ map {B = Option (List ℕ) × BValue} (λ (x : List ℕ × BValue). (Some x.0, x.1)) (zip xs vs)
paired ls n [] [] same h = refl
paired ls n [] (v ∷ vs) same h = absurd (omega (arith, same))
paired ls n (x ∷ xs) [] same h = absurd (omega (arith, same))
paired ls n (x ∷ xs) (v ∷ vs) same h =
    let here : n ≡ n + 0 = omega arith in let first : name_at ls n ≡ Some x = ap (name_at ls) here ∙ h 0 x refl in
    let rest = paired ls (n + 1) xs vs (omega (arith, same)) (λ i y there. let next : n + 1 + i ≡ n + suc i = omega arith in ap (name_at ls) next ∙ h (suc i) y there) in
    λ j. (first j, v) ∷ rest j

pub named_settings : (p : Program) (u : Unit) (o : Opening) → IsFormed p → length (front_values o) ≡ length (front_names p u) →
    by_name (unit_procedure p u).locals (start_settings o) ≡ map {B = Option (List ℕ) × BValue} (λ (x : List ℕ × BValue). (Some x.0, x.1)) (settings p u o)
named_settings p u o formed same =
    paired (unit_procedure p u).locals 0 (front_names p u) (front_values o) same
    (λ i x there. let at : 0 + i ≡ i = omega arith in ap (name_at (unit_procedure p u).locals) at ∙ front_named p u (further_types p u) (front p u formed).as_many i x there)

pub opened_settings : (p : Program) (n : ℕ) (u : Unit) (o : Opening) → IsFormed p → slice_get p.units n ≡ Some u → Opens p n o →
    by_name (unit_procedure p u).locals (start_settings o) ≡ map {B = Option (List ℕ) × BValue} (λ (x : List ℕ × BValue). (Some x.0, x.1)) (settings p u o)
opened_settings p n u o formed there opens = named_settings p u o formed (opened_many p n o u opens there ∙ (front p u formed).as_many)

-- ---- where a run begins

abbrev pub put_setting : List BValue → BSetting → List BValue
put_setting env s = slice_set env s.var s.value

set_seam : (xs : List BValue) (y : BValue) (ys : List BValue) (n : ℕ) (v : BValue) → length xs ≡ n → slice_set (xs ++ y ∷ ys) n v ≡ xs ++ v ∷ ys
set_seam [] y ys zero v long = refl
set_seam [] y ys (suc n) v long = absurd (omega (arith, long))
set_seam (x ∷ xs) y ys zero v long = absurd (omega (arith, long))
set_seam (x ∷ xs) y ys (suc n) v long = ap (λ zs. x ∷ zs) (set_seam xs y ys n v (omega (arith, long)))

behind : (xs : List BValue) (n : ℕ) (ts : List BType) (vs : List BValue) → length xs ≡ n → length vs ≤ length ts → fold put_setting (xs ++ map default_value ts) (settings_from n vs) ≡ xs ++ started ts vs
behind xs n ts [] long low = refl
behind xs n [] (v ∷ vs) long low = absurd (omega (arith, low))
behind xs n (t ∷ ts) (v ∷ vs) long low =
    ap (λ env. fold put_setting env (settings_from (n + 1) vs)) (set_seam xs (default_value t) (map default_value ts) n v long ∙ sym (append_assoc xs (v ∷ []) (map default_value ts)))
    ∙ (behind (xs ++ v ∷ []) (n + 1) ts vs (omega (arith, length-append xs (v ∷ []), long)) (omega (arith, low)) ∙ append_assoc xs (v ∷ []) (started ts vs))

-- the defaults with what an opening sets, one after the other
pub begins_with : (ts : List BType) (o : Opening) → length (front_values o) ≤ length ts → fold put_setting (map default_value ts) (start_settings o) ≡ started ts (front_values o)
begins_with ts o low = behind [] 0 ts (front_values o) refl low
