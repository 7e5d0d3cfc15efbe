use Rattle.std.proofs.Common.{◌≡◌, ◌∙◌, ap, List, [], ◌∷◌, ◌++◌, ℕ, ◌==◌, None}
use Rattle.std.specs.Cmp.Lexicographic.{pointwise}
use Rattle.indexmap.specs.IndexMap.{IndexMap, insert_entry}
use Rattle.indexmap.proofs.CallerLemmas.{insert_entry-new}
use Rattle.viper_scope.specs.Context.{find}
use Rattle.viper_scope.proofs.names.DeclaredNames.declare.Goals as goal

entered : {X S : Type 0} (m : IndexMap (List ℕ) X S) (now after : List (List ℕ × X)) (name copy : List ℕ) (value : X) → m.entries ≡ now → find now name ≡ None → copy ≡ name → after ≡ insert_entry (pointwise ◌==◌) m.entries copy value → after ≡ now ++ (name, value) ∷ []
entered m now after name copy value view absent copied inserted =
    inserted ∙ ap (λ k. insert_entry (pointwise ◌==◌) m.entries k value) copied ∙
    insert_entry-new (pointwise ◌==◌) m name value (ap (λ es. find es name) view ∙ absent) ∙
    ap (λ es. es ++ (name, value) ∷ []) view

pub returns : goal.returns
returns g c = record {
  ok = entered c.self.inside.entries c.args.self.now c.insert.new.self.entries c.args.name.now c.in_ok-copy.field-0 c.args.value c.self.view_is c.requires c.in_ok-copy.ensures c.in_ok-insert.ensures.entries;
  err = tt;
}
