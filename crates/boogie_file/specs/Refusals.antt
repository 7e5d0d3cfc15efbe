-- The words of refusals.
use Rattle.std.specs.Prelude.{◌++◌, ℕ, List, codes}
use Rattle.std.specs.Fmt.{decimal}
use Rattle.vb_base.specs.Labels.{place_text}
use Rattle.boogie_file.specs.declared.refusal.BoogieRefusal.{BoogieRefusal}
use Rattle.boogie_file.specs.declared.refusal.BoogieRefusal.TheVariants.{Size, Prelude, Deep, BoogieSyntax, BoogieType, NoProcedure}

-- a refusal's word, and the place of what is refused
abbrev pub refusal_text : BoogieRefusal → List ℕ
refusal_text Size = codes "size"
refusal_text (Prelude at) = codes "prelude " ++ place_text at
refusal_text (Deep at) = codes "deep " ++ place_text at
refusal_text (BoogieSyntax at) = codes "syntax " ++ place_text at
refusal_text (BoogieType n) = codes "boogie-type " ++ decimal n
refusal_text NoProcedure = codes "no-procedure"
