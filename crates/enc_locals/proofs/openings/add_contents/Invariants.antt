use Rattle.std.proofs.Common.{◌≡◌, ◌++◌, drop, map}
use Rattle.viper_state.specs.View.{contents_of}
use Rattle.boogie_tree.specs.Value.{Many}
use Rattle.boogie_tree.specs.Whole.{value_of}
use Rattle.enc_locals.specs.Filled.{content_image}
use Rattle.enc_locals.proofs.openings.add_contents.Given as goal

abbrev pub invariant-loop-held : goal.invariant-loop-held
invariant-loop-held l =
    map value_of l.values.items ++ map (λ c. Many (content_image c)) (map contents_of (drop l.held-index l.contents))
    ≡ map value_of l.initial.values.items ++ map (λ c. Many (content_image c)) (map contents_of l.contents)
