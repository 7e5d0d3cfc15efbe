-- The plain data that contracts see of the types of the program.
use Rattle.std.specs.Prelude.{Option, Some, None}
use Rattle.vb_value.specs.Content.{Content}
use Rattle.vb_value.specs.View.{content_of}
use Rattle.viper_fold.specs.declared.calls.Contained.{Contained}
use Rattle.viper_fold.specs.declared.calls.Contained.TheVariants as contained

-- the content that is told
abbrev pub contained_of : Contained → Option Content
contained_of (contained.Is c) = Some (content_of c)
contained_of contained.Over = None
