-- The refusal of a file of Boogie, among those of a command.
use Rattle.boogie_file.specs.declared.refusal.BoogieRefusal as b
use Rattle.boogie_file.specs.declared.refusal.BoogieRefusal.TheVariants as boogie
use Rattle.vb_tool.specs.declared.status.Refusal.{Refusal}
use Rattle.vb_tool.specs.declared.status.Refusal.TheVariants.{Size, Prelude, Deep, BoogieSyntax, BoogieType, NoProcedure}

abbrev pub refusal_of_boogie : b.BoogieRefusal → Refusal
refusal_of_boogie boogie.Size = Size
refusal_of_boogie (boogie.Prelude at) = Prelude at
refusal_of_boogie (boogie.Deep at) = Deep at
refusal_of_boogie (boogie.BoogieSyntax at) = BoogieSyntax at
refusal_of_boogie (boogie.BoogieType number) = BoogieType number
refusal_of_boogie boogie.NoProcedure = NoProcedure
