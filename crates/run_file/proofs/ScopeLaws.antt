-- The names that the lines of a file may name differ, where the program is formed.
use Rattle.std.proofs.Common.{◌≡◌, ◌∙◌, ◌+◌, ℕ, List, [], ◌++◌, All, map, length, length-append, Option, Some, None, slice_get, IfSome, subst, refl, sym, arith}
use Rattle.std.proofs.lemmas.List.{get_or_append_left, get_or-append-add}
use Rattle.viper_state.proofs.Paired.{All-found}
use Rattle.vb_base.specs.Names.{NamesDiffer}
use Rattle.viper_core.specs.Program.{Program, Predicate, Method}
use Rattle.viper_core.specs.Formed.{IsFormed, IsMethod, IsPredicate}
use Rattle.viper_core.specs.declared.programs.Unit.{Unit}
use Rattle.viper_core.specs.declared.programs.Unit.TheVariants as unit
use Rattle.run_file.specs.Lines.{scope_of, method_variables, predicate_variables, unit_variables}
use Rattle.run_file.proofs.LineLaws.{NamesApart}

differ_left : (xs ys : List (List ℕ)) → NamesDiffer (xs ++ ys) → NamesDiffer xs
differ_left xs ys h i j d below within e =
    h i j d below (omega (arith, within, length-append xs ys))
    (get_or_append_left xs ys d i (omega (arith, below, within)) ∙ (e ∙ sym (get_or_append_left xs ys d j within)))

differ_right : (xs ys : List (List ℕ)) → NamesDiffer (xs ++ ys) → NamesDiffer ys
differ_right xs ys h i j d below within e =
    h (length xs + i) (length xs + j) d (omega (arith, below)) (omega (arith, within, length-append xs ys))
    (get_or-append-add xs ys i d ∙ (e ∙ sym (get_or-append-add xs ys j d)))

no_names : NamesDiffer []
no_names i j d below within = absurd (omega (arith, within))

method_differ : (p : Program) (o : Option Method) (n : ℕ) → slice_get p.methods n ≡ o → All (IsMethod p) p.methods → NamesDiffer (method_variables o).names
method_differ p None n is h = no_names
method_differ p (Some m) n is h = (subst (λ o. IfSome o (IsMethod p)) is (All-found (IsMethod p) p.methods n h)).names.differ

predicate_differ : (p : Program) (o : Option Predicate) (n : ℕ) → slice_get p.predicates n ≡ o → All (IsPredicate p) p.predicates → NamesDiffer (predicate_variables o).names
predicate_differ p None n is h = no_names
predicate_differ p (Some m) n is h = (subst (λ o. IfSome o (IsPredicate p)) is (All-found (IsPredicate p) p.predicates n h)).names.differ

unit_differ : (p : Program) (o : Option Unit) → IsFormed p → NamesDiffer (unit_variables p o).names
unit_differ p None h = no_names
unit_differ p (Some (unit.Method n)) h = method_differ p (slice_get p.methods n) n refl h.typed.methods
unit_differ p (Some (unit.Predicate n)) h = predicate_differ p (slice_get p.predicates n) n refl h.typed.predicates

pub names_apart : (p : Program) (n : ℕ) → IsFormed p → NamesApart (scope_of p n)
names_apart p n h =
    let fields = p.fields in
    let predicates = map (λ (d : Predicate). d.name) p.predicates in
    let methods = map (λ (m : Method). m.name) p.methods in
    let two = differ_left (fields ++ predicates) methods h.typed.names.differ in
    record { variables = unit_differ p (slice_get p.units n) h; fields = differ_left fields predicates two; predicates = differ_right fields predicates two }
