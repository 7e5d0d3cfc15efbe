-- Which steps stand in a row: a statement with blocks is more than one.
use Rattle.std.specs.Prelude.{⊤}
use Rattle.viper_core.specs.Stmt as v
use Rattle.enc_units.specs.Steps.{RowStep, Code, Plain}

abbrev pub HasNoBlocks : v.Stmt → Type 0
HasNoBlocks (v.If at c first second) = ⊥
HasNoBlocks (v.While w) = ⊥
HasNoBlocks _ = ⊤

abbrev pub IsStep : RowStep → Type 0
IsStep (Code (Plain a)) = HasNoBlocks a
IsStep _ = ⊤
