-- What a line of a run file of Viper says.
use Rattle.std.specs.Prelude.{◌≤◌, ◌+◌, ℕ, Bool, List, [], ◌∷◌, Option, Some, None, codes, map, slice_get, take}
use Rattle.vb_base.specs.Limits.{max_content_nodes}
use Rattle.vb_value.specs.Content.{Content, nodes}
use Rattle.vb_value.specs.declared.values.Ty.{Ty}
use Rattle.vb_value.specs.declared.values.Ty.TheVariants as ty
use Rattle.vb_value.specs.declared.values.Value.{Value}
use Rattle.vb_value.specs.declared.values.Value.TheVariants.{Bool as Truth, Ref, Perm}
use Rattle.vb_value.specs.Fraction.{Fraction}
use Rattle.viper_core.specs.Program.{Program, Predicate, Method}
use Rattle.viper_core.specs.declared.programs.Unit.{Unit}
use Rattle.viper_core.specs.declared.programs.Unit.TheVariants as unit
use Rattle.viper_state.specs.State.{Key}
use Rattle.viper_state.specs.Choice.{Choice, Branch, Took, Amount, Fresh}
use Rattle.run_file_words.specs.Values.{SpellsValue, BeginsWithKey, BeginsWithContent}
use Rattle.run_file_words.specs.Known.{Known, HasName, nothing_known}

-- ---- what lines may name

-- the parameters, and then the returns
abbrev pub method_variables : Option Method → Known Ty
method_variables None = nothing_known
method_variables (Some m) = record { names = m.names; types = take (m.params + m.returns) m.vars }

-- the parameters
abbrev pub predicate_variables : Option Predicate → Known Ty
predicate_variables None = nothing_known
predicate_variables (Some d) = record { names = d.names; types = d.params }

abbrev pub unit_variables : Program → Option Unit → Known Ty
unit_variables p None = nothing_known
unit_variables p (Some (unit.Method n)) = method_variables (slice_get p.methods n)
unit_variables p (Some (unit.Predicate n)) = predicate_variables (slice_get p.predicates n)

-- the variables that an opening sets, the fields, and the predicates with the types of their arguments
pub record UnitScope : Type 0 where
  pub variables : Known Ty
  pub fields : Known Ty
  pub predicates : Known (List Ty)

-- what the lines of a file for the unit of this number may name
abbrev pub scope_of : Program → ℕ → UnitScope
scope_of p n = record {
  variables = unit_variables p (slice_get p.units n);
  fields = record { names = p.fields; types = p.layout.fields };
  predicates = record { names = map (λ (d : Predicate). d.name) p.predicates; types = p.layout.keys };
}

-- ---- lines

pub data ViperLine : Type 0 where
  -- a variable has a value
  Var : ℕ → Value → ViperLine
  -- a field has a value at a reference
  Heap : ℕ → ℕ → Value → ViperLine
  -- an instance of a predicate has a content
  Holds : ℕ → Key → Content → ViperLine
  -- a choice that is no heap and contents
  Chosen : Choice → ViperLine
  -- a choice of a heap and contents, which the lines after it fill
  Opened : ViperLine

-- these words are this line
pub data IsLine (s : UnitScope) : List (List ℕ) → ViperLine → Type 0 where
  var : {n : ℕ} {name word : List ℕ} {u : Ty} {v : Value} →
      HasName s.variables n name u → SpellsValue u word v → IsLine s (codes "var" ∷ name ∷ word ∷ []) (Var n v)
  heap : {f r : ℕ} {name place word : List ℕ} {u : Ty} {v : Value} →
      HasName s.fields f name u → SpellsValue ty.Ref place (Ref r) → SpellsValue u word v →
      IsLine s (codes "heap" ∷ name ∷ place ∷ word ∷ []) (Heap f r v)
  content : {q : ℕ} {name : List ℕ} {words rest : List (List ℕ)} {us : List Ty} {k : Key} {c : Content} →
      HasName s.predicates q name us → BeginsWithKey us words k rest → BeginsWithContent rest c [] → nodes c ≤ max_content_nodes →
      IsLine s (codes "content" ∷ name ∷ words) (Holds q k c)
  pick : {word : List ℕ} {b : Bool} → SpellsValue ty.Bool word (Truth b) →
      IsLine s (codes "pick" ∷ word ∷ []) (Chosen (Branch b))
  value : {word : List ℕ} {u : Ty} {v : Value} → SpellsValue u word v →
      IsLine s (codes "value" ∷ word ∷ []) (Chosen (Took v))
  amount : {word : List ℕ} {q : Fraction} → SpellsValue ty.Perm word (Perm q) →
      IsLine s (codes "amount" ∷ word ∷ []) (Chosen (Amount q))
  fresh : {word : List ℕ} {r : ℕ} → SpellsValue ty.Ref word (Ref r) →
      IsLine s (codes "fresh" ∷ word ∷ []) (Chosen (Fresh r))
  state : IsLine s (codes "state" ∷ []) Opened
