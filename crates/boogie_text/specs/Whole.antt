-- What the functions answer that read a program from its tokens: the greedy reading up to the end of the tokens.
use Rattle.std.specs.Prelude.{List, [], Result, Ok, Err}
use Rattle.std.specs.declared.alloc.Global.{Global}
use Rattle.std.specs.declared.vec.Vec.{Vec}
use Rattle.vb_base.specs.declared.places.Pos.{Pos}
use Rattle.grammar.specs.Whole as grammar
use Rattle.grammar.specs.declared.stop.Stop.{Stop}
use Rattle.boogie_tree.specs.Whole.{program_of}
use Rattle.boogie_tree.specs.declared.programs.BProgram.{BProgram}
use Rattle.boogie_tree.specs.declared.programs.Proc.{Proc}
use Rattle.boogie_grammar.specs.declared.faults.BoogieFault.{BoogieFault}
use Rattle.boogie_grammar.specs.declared.tokens.PlacedLexeme.{PlacedLexeme}
use Rattle.boogie_grammar.specs.Grammar.{rule, rules, Program}
use Rattle.boogie_grammar.specs.Greedy.{Reads}
use Rattle.boogie_grammar.specs.Spells.{Spells, IsProgram}
use Rattle.boogie_text.specs.StmtView.{all_procs_of}
use Rattle.boogie_text.specs.Texts.{ReadsTokens}

-- just in front of r a program goes wrong
abbrev pub FailsWhole : List PlacedLexeme → List PlacedLexeme → Type 0
FailsWhole ts r = grammar.FailsWhole rules (rule (Program [])) ts r

abbrev pub RefusesWhole : List PlacedLexeme → Stop PlacedLexeme → Type 0
RefusesWhole ts e = grammar.RefusesWhole rules (rule (Program [])) ts e

abbrev pub ReadsWhole : List PlacedLexeme → Result (Vec Proc Global) (Stop PlacedLexeme) → Type 0
ReadsWhole ts (Ok ps) = Reads _ (rule (Program [])) ts (all_procs_of ps) []
ReadsWhole ts (Err e) = RefusesWhole ts e

abbrev pub ReadsProgram : List PlacedLexeme → Pos → Result BProgram BoogieFault → Type 0
ReadsProgram ts end result = ReadsTokens (λ us p. Spells us (program_of p)) IsProgram ts end result
