-- Why bytes are refused that are read as a program with loops, calls and contracts, and where: the first of these that holds.
use Rattle.std.specs.Prelude.{ℕ, List}
use Rattle.boogie_grammar.specs.declared.faults.BoogieFault.{BoogieFault}
use Rattle.boogie_text.specs.Texts.{IsRefused}
use Rattle.boogie_loops_grammar.specs.Spells.{SpellsWideProgram}

-- the bytes are refused so
abbrev pub IsWideFault : List ℕ → BoogieFault → Type 0
IsWideFault bytes f = IsRefused SpellsWideProgram bytes f
