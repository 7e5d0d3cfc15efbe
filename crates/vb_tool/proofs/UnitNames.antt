-- No two units of a formed program have one name.
use Rattle.std.proofs.Common.{◌≡◌, ◌∙◌, ◌+◌, ◌<◌, ◌++◌, ℕ, List, map, length, Some, slice_get, sym, ap, arith}
use Rattle.std.proofs.lemmas.List.{length-append, length-map}
use Rattle.std.proofs.lemmas.Option.{slice_get-map, slice_get_within}
use Rattle.lemmas.proofs.Lists.{there_left, there_right}
use Rattle.vb_base.proofs.NameLaws.{place_of_name}
use Rattle.viper_core.specs.Formed.{IsFormed, global_names}
use Rattle.viper_core.specs.Program as p
use Rattle.viper_core.specs.declared.programs.Unit as unit
use Rattle.viper_core.specs.declared.programs.Unit.TheVariants as u
use Rattle.enc_units.proofs.UnitNames.{unit_once}
use Rattle.vb_tool.specs.Units.{name_of}

-- ---- a name stands at one place of the shared space

module _ (q : p.Program) where
  abbrev predicate_names : List (List ℕ)
  predicate_names = map (λ (d : p.Predicate). d.name) q.predicates

  abbrev method_names : List (List ℕ)
  method_names = map (λ (m : p.Method). m.name) q.methods

  abbrev place : unit.Unit → ℕ
  place (u.Predicate k) = length q.fields + k
  place (u.Method k) = length (q.fields ++ predicate_names) + k

  named_there : (w : unit.Unit) (x : List ℕ) → name_of q w ≡ Some x → slice_get (global_names q) (place w) ≡ Some x
  named_there (u.Predicate k) x is =
      there_left (q.fields ++ predicate_names) method_names (length q.fields + k) x (there_right q.fields predicate_names k ∙ slice_get-map (λ (d : p.Predicate). d.name) q.predicates k ∙ is)
  named_there (u.Method k) x is = there_right (q.fields ++ predicate_names) method_names k ∙ slice_get-map (λ (m : p.Method). m.name) q.methods k ∙ is

  named_within : (k : ℕ) (x : List ℕ) → name_of q (u.Predicate k) ≡ Some x → k < length q.predicates
  named_within k x is =
      let within = slice_get_within predicate_names k x (slice_get-map (λ (d : p.Predicate). d.name) q.predicates k ∙ is) in
      omega (arith, within, length-map q.predicates (λ (d : p.Predicate). d.name))

  apart : (k m : ℕ) (x : List ℕ) → name_of q (u.Predicate k) ≡ Some x → length q.fields + k ≡ length (q.fields ++ predicate_names) + m → ⊥
  apart k m x is same =
      omega (arith, same, named_within k x is, length-append q.fields predicate_names, length-map q.predicates (λ (d : p.Predicate). d.name))

  one_unit : (w v : unit.Unit) (x : List ℕ) → name_of q w ≡ Some x → name_of q v ≡ Some x → place w ≡ place v → w ≡ v
  one_unit (u.Predicate k) (u.Predicate m) x is other same = ap u.Predicate (omega (arith, same))
  one_unit (u.Predicate k) (u.Method m) x is other same = absurd (apart k m x is same)
  one_unit (u.Method k) (u.Predicate m) x is other same = absurd (apart m k x other (sym same))
  one_unit (u.Method k) (u.Method m) x is other same = ap u.Method (omega (arith, same))

  pub only_unit : IsFormed q → (i j : ℕ) (w v : unit.Unit) (x : List ℕ) → slice_get q.units i ≡ Some w → slice_get q.units j ≡ Some v → name_of q w ≡ Some x → name_of q v ≡ Some x → i ≡ j
  only_unit h i j w v x e f is other =
      let place_is = place_of_name (global_names q) h.typed.names.differ (place w) (place v) x (named_there w x is) (named_there v x other) in
      let same = one_unit w v x is other place_is in
      unit_once q h v i j (e ∙ ap (λ y. Some y) same) f
