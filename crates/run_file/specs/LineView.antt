-- The plain data that contracts see of a line, and of what it may name.
use Rattle.std.specs.Prelude.{ℕ, List}
use Rattle.std.specs.Borrow.{Bor}
use Rattle.vb_value.specs.declared.values.Ty.{Ty}
use Rattle.vb_value.specs.View.{content_of}
use Rattle.viper_state.specs.View.{choice_of}
use Rattle.run_file_words.specs.Known.{Known}
use Rattle.run_file.specs.Lines as l
use Rattle.run_file.specs.declared.lines.ViperLine.{ViperLine}
use Rattle.run_file.specs.declared.lines.ViperLine.TheVariants as line
use Rattle.run_file.specs.declared.names.UnitScope.{UnitScope}

abbrev pub line_view : ViperLine → l.ViperLine
line_view (line.Var n v) = l.Var n v
line_view (line.Heap f r v) = l.Heap f r v
line_view (line.Content q k c) = l.Holds q k (content_of c)
line_view (line.Chosen c) = l.Chosen (choice_of c)
line_view line.State = l.Opened

abbrev pub scope_view : UnitScope → l.UnitScope
scope_view s = record {
  variables = record { names = s.variables.now; types = s.types.now };
  fields = record { names = s.fields.now; types = s.layout.now.fields };
  predicates = record { names = s.predicates.now; types = s.layout.now.keys };
}

-- names and types that are lent
abbrev pub lent_names : Bor (List (List ℕ)) × Bor (List Ty) → Known Ty
lent_names x = record { names = x.0.now; types = x.1.now }
