-- The types that words name.
use Rattle.std.specs.Prelude.{Option, Some, None}
use Rattle.vb_value.specs.declared.values.Ty.{Ty}
use Rattle.vb_value.specs.declared.values.Ty.TheVariants as ty
use Rattle.viper_syntax.specs.declared.stmts.Formal.{Formal}
use Rattle.viper_syntax.specs.declared.tokens.Word.{Word}
use Rattle.viper_syntax.specs.declared.tokens.Word.TheVariants as word

-- the type of a word
abbrev pub type_of : Word → Option Ty
type_of word.Int = Some ty.Int
type_of word.Bool = Some ty.Bool
type_of word.Ref = Some ty.Ref
type_of word.Perm = Some ty.Perm
type_of _ = None

-- the same, and Int for a word that is no type, which breaks a rule wherever it stands
abbrev pub or_int : Option Ty → Ty
or_int (Some u) = u
or_int None = ty.Int

abbrev pub declared_type : Formal → Ty
declared_type f = or_int (type_of f.ty)
