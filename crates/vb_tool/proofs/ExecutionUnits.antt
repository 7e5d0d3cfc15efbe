-- The unit of a method that has a body.
use Rattle.std.proofs.Common.{◌≡◌, ◌∙◌, ◌<◌, ◌&&◌, ℕ, Bool, true, List, length, Option, None, Some, is_some, slice_get, get_or, refl, sym, ap, subst}
use Rattle.std.proofs.lemmas.Bool.{and_parts}
use Rattle.std.proofs.lemmas.List.Quantifiers.{position-Some}
use Rattle.std.proofs.lemmas.Option.{get_or_from_slice_get}
use Rattle.lemmas.proofs.Lists.{item_there}
use Rattle.viper_core.specs.Program as p
use Rattle.viper_core.specs.declared.programs.Unit as unit
use Rattle.viper_core.specs.declared.programs.Unit.TheVariants as u
use Rattle.viper_exec_meaning.specs.Execution.{CanExecute}
use Rattle.run_file.specs.Run.{ViperRun, SpellsViperRun}
use Rattle.run_file_laws.proofs.MethodLaws as methods
use Rattle.vb_tool.specs.Executions.{body_named, has_body, is_with_body}
use Rattle.vb_tool.specs.Units.{is_name, name_of}

some_body : (m : p.Method) (o : Option p.Body) → m.body ≡ o → is_some o ≡ true → (body : p.Body) × (m.body ≡ Some body)
some_body m None is there = absurd (cc)
some_body m (Some body) is there = (body, is)

some_method : (q : p.Program) (k : ℕ) (o : Option p.Method) → slice_get q.methods k ≡ o → is_with_body o ≡ true → (m : p.Method) × (body : p.Body) × (slice_get q.methods k ≡ Some m) × (m.body ≡ Some body)
some_method q k None is there = absurd (cc)
some_method q k (Some m) is there = let (body, body_is) = some_body m m.body refl there in (m, body, is, body_is)

-- a unit with a body is a method, and that is there
of_unit : (q : p.Program) (w : unit.Unit) → has_body q w ≡ true → (k : ℕ) × (m : p.Method) × (body : p.Body) × (w ≡ u.Method k) × (slice_get q.methods k ≡ Some m) × (m.body ≡ Some body)
of_unit q (u.Method k) there = let (m, body, is, body_is) = some_method q k (slice_get q.methods k) refl there in (k, m, body, refl, is, body_is)
of_unit q (u.Predicate k) there = absurd (cc)

method_same : {w : unit.Unit} {j k : ℕ} → w ≡ u.Method j → w ≡ u.Method k → j ≡ k
method_same {w} {j} {k} is other = let e : u.Method j ≡ u.Method k = sym is ∙ other in cc

module _ (q : p.Program) (word : List ℕ) (n : ℕ) (named : body_named q word ≡ Some n) where
  abbrev Named : unit.Unit → Bool
  Named w = is_name word (name_of q w) && has_body q w

  pub body_named_exists : n < length q.units
  body_named_exists = (position-Some Named q.units n (u.Method 0) named).0

  -- it has a body
  named_body : (w : unit.Unit) → slice_get q.units n ≡ Some w → has_body q w ≡ true
  named_body w is =
      let both = subst (λ x. Named x ≡ true) (get_or_from_slice_get q.units n w (u.Method 0) is) (position-Some Named q.units n (u.Method 0) named).1 in
      (and_parts (is_name word (name_of q w)) (has_body q w) both).1

  -- the method of the unit, and its body
  pub method_there : (w : unit.Unit) → slice_get q.units n ≡ Some w → (k : ℕ) × (m : p.Method) × (body : p.Body) × (w ≡ u.Method k) × (slice_get q.methods k ≡ Some m) × (m.body ≡ Some body)
  method_there w is = of_unit q w (named_body w is)

  -- and its number
  pub number_there : (k : ℕ) × (slice_get q.units n ≡ Some (u.Method k))
  number_there =
      let (w, is) = item_there q.units n body_named_exists in
      let (k, m, body, unit_is, method_is, body_is) = method_there w is in
      (k, is ∙ ap (λ x. Some x) unit_is)

  -- what stands there is this method
  pub unit_is : (w : unit.Unit) → w ≡ get_or q.units n w → (k : ℕ) × (w ≡ u.Method k) × (slice_get q.units n ≡ Some w)
  unit_is w at =
      let (k, is) = number_there in
      let same : w ≡ u.Method k = at ∙ get_or_from_slice_get q.units n (u.Method k) w is in
      (k, same, is ∙ ap (λ x. Some x) (sym same))

  -- and it can be executed
  pub can_execute : (w : unit.Unit) (k : ℕ) → w ≡ get_or q.units n w → w ≡ u.Method k → (bytes : List ℕ) (run : ViperRun) → SpellsViperRun bytes q n run → CanExecute q k run.opening
  can_execute w k at is bytes run spelled =
      let there = (unit_is w at).2 in
      let (j, m, body, unit_is, method_is, body_is) = method_there w there in
      let same : j ≡ k = method_same unit_is is in
      let its = subst (λ x. slice_get q.methods x ≡ Some m) same method_is in
      methods.can_execute bytes q n k m body run (there ∙ ap (λ x. Some x) is) its body_is spelled
