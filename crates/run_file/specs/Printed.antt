-- The text that is printed of a run: the header, then the variables other than their default, then heap and contents, then the
-- choices in order. Places and instances come by number and then in ascending order, without defaults.
use Rattle.std.specs.Prelude.{◌+◌, ◌++◌, ℕ, List, [], ◌∷◌, map, codes, if◌then◌else◌}
use Rattle.std.specs.Ordering.{nat_cmp}
use Rattle.sparse.specs.Map.{Map, get, keys}
use Rattle.vb_value.specs.Content as content
use Rattle.vb_value.specs.Content.{Content}
use Rattle.vb_value.specs.Key.{key_cmp}
use Rattle.vb_value.specs.Value.{type_of, default_of, value_eq}
use Rattle.vb_value.specs.declared.values.Value.{Value}
use Rattle.viper_core.specs.Program.{Program, Predicate}
use Rattle.viper_state.specs.State.{Key, Memo}
use Rattle.viper_state.specs.Choice.{Choice, Branch, Took, Amount, Fresh, Filled}
use Rattle.run_file.specs.Lines.{scope_of}
use Rattle.run_file.specs.Run.{ViperRun}
use Rattle.run_file_words.specs.Printed.{truth_text, reference_text, fraction_text, value_text, key_text, content_text, numbered_text}

-- a variable other than its default
abbrev pub var_text : List ℕ → Value → List ℕ
var_text name v = if value_eq v (default_of (type_of v)) then [] else codes "var " ++ name ++ codes " " ++ value_text v ++ codes "\n"

abbrev pub place_text : List ℕ → ℕ → Value → List ℕ
place_text name r v = codes "heap " ++ name ++ codes " " ++ reference_text r ++ codes " " ++ value_text v ++ codes "\n"

-- the places of a field, at these references
abbrev pub places_text : List ℕ → Map ℕ Value → List ℕ → List ℕ
places_text name m [] = []
places_text name m (r ∷ rs) = place_text name r (get nat_cmp m r) ++ places_text name m rs

-- those where it has another value than the default, in ascending order
abbrev pub heap_text : List ℕ → Map ℕ Value → List ℕ
heap_text name m = places_text name m (keys m)

abbrev pub instance_text : List ℕ → Key → Content → List ℕ
instance_text name k c = codes "content " ++ name ++ codes " " ++ key_text k ++ content_text c ++ codes "\n"

-- the instances of a predicate, with these arguments
abbrev pub instances_text : List ℕ → Map Key Content → List Key → List ℕ
instances_text name m [] = []
instances_text name m (k ∷ ks) = instance_text name k (get key_cmp m k) ++ instances_text name m ks

abbrev pub contents_text : List ℕ → Map Key Content → List ℕ
contents_text name m = instances_text name m (keys m)

abbrev pub predicate_names : Program → List (List ℕ)
predicate_names p = map (λ (d : Predicate). d.name) p.predicates

abbrev pub memo_text : Program → Memo → List ℕ
memo_text p m = numbered_text heap_text p.fields 0 m.heap ++ numbered_text contents_text (predicate_names p) 0 m.content

abbrev pub choice_text : Program → Choice → List ℕ
choice_text p (Branch b) = codes "pick " ++ truth_text b ++ codes "\n"
choice_text p (Took v) = codes "value " ++ value_text v ++ codes "\n"
choice_text p (Amount q) = codes "amount " ++ fraction_text q ++ codes "\n"
choice_text p (Fresh r) = codes "fresh " ++ reference_text r ++ codes "\n"
choice_text p (Filled m) = codes "state\n" ++ memo_text p m

abbrev pub choices_text : Program → List Choice → List ℕ
choices_text p [] = []
choices_text p (c ∷ cs) = choice_text p c ++ choices_text p cs

-- the printed text of a run of the unit of this number
abbrev pub run_text : Program → ℕ → ViperRun → List ℕ
run_text p n run =
    codes "viper run\n" ++ numbered_text var_text (scope_of p n).variables.names 0 run.opening.store ++ memo_text p run.opening.memo ++ choices_text p run.choices
