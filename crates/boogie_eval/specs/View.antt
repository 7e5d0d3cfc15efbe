-- The plain data that contracts see of the types of the program.
use Rattle.std.specs.Prelude.{List, map}
use Rattle.sparse.specs.Map.{Map}
use Rattle.sparse.specs.Meaning.{meaning_of}
use Rattle.vb_value.specs.Bound.{Bounded}
use Rattle.boogie_tree.specs.Value as v
use Rattle.boogie_tree.specs.Whole.{scalar_of, value_of}
use Rattle.boogie_tree.specs.declared.values.BScalar.{BScalar}
use Rattle.boogie_tree.specs.declared.values.BValue.{BValue}
use Rattle.boogie_meaning.specs.Value as m
use Rattle.boogie_meaning.specs.Marked.{elsewhere}
use Rattle.boogie_meaning.specs.Quantified.{outside}
use Rattle.boogie_eval.specs.declared.eval_values.ForallScope.{ForallScope}
use Rattle.boogie_eval.specs.declared.eval_values.ForallScope.TheVariants.{Outside, At, Elsewhere}

abbrev pub map_of : Map v.Key BScalar → Map v.Key v.BScalar
map_of m = meaning_of (λ k. k) scalar_of m

abbrev pub values_of : List BValue → List v.BValue
values_of = map value_of

-- under no `forall`, or under one, where its names have these values, or have any that are not marked
abbrev pub scope_of : List v.BValue → ForallScope → m.QuantifierScope
scope_of env Outside = outside Bounded env
scope_of env (At row) = m.under row.key.now
scope_of env Elsewhere = elsewhere
