-- What the functions answer that read a program from its tokens: the greedy reading up to the end of the tokens.
use Rattle.std.specs.Prelude.{List, [], Result, Ok, Err}
use Rattle.std.specs.declared.alloc.Global.{Global}
use Rattle.std.specs.declared.vec.Vec.{Vec}
use Rattle.vb_base.specs.declared.places.Pos.{Pos}
use Rattle.grammar.specs.Whole as grammar
use Rattle.grammar.specs.declared.stop.Stop.{Stop}
use Rattle.boogie_grammar.specs.declared.faults.BoogieFault.{BoogieFault}
use Rattle.boogie_grammar.specs.declared.tokens.PlacedLexeme.{PlacedLexeme}
use Rattle.boogie_text.specs.Texts.{ReadsTokens}
use Rattle.boogie_loops.specs.View.{wprogram_of}
use Rattle.boogie_loops.specs.declared.wide.WProc.{WProc}
use Rattle.boogie_loops.specs.declared.wide.WProgram.{WProgram}
use Rattle.boogie_loops_grammar.specs.Grammar.{rule, rules, Programs}
use Rattle.boogie_loops_grammar.specs.Spells.{Spells, SpellsWideProgram}
use Rattle.boogie_loops_text.specs.Greedy.{Reads}
use Rattle.boogie_loops_text.specs.View.{all_wprocs_of}

-- just in front of r a program goes wrong
abbrev pub FailsWhole : List PlacedLexeme → List PlacedLexeme → Type 0
FailsWhole ts r = grammar.FailsWhole rules (rule (Programs [])) ts r

abbrev pub RefusesWhole : List PlacedLexeme → Stop PlacedLexeme → Type 0
RefusesWhole ts e = grammar.RefusesWhole rules (rule (Programs [])) ts e

abbrev pub ReadsWhole : List PlacedLexeme → Result (Vec WProc Global) (Stop PlacedLexeme) → Type 0
ReadsWhole ts (Ok ps) = Reads _ (rule (Programs [])) ts (all_wprocs_of ps) []
ReadsWhole ts (Err e) = RefusesWhole ts e

abbrev pub ReadsProgram : List PlacedLexeme → Pos → Result WProgram BoogieFault → Type 0
ReadsProgram ts end result = ReadsTokens (λ us p. Spells us (wprogram_of p)) SpellsWideProgram ts end result
