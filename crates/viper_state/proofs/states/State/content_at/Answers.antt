use Rattle.std.proofs.Common.{◌≡◌, Bor, Option, Some, None, refl, ap, ◌∙◌}
use Rattle.std.specs.Option.{option_map}
use Rattle.vb_value.specs.Key.{key_cmp}
use Rattle.vb_value.specs.View.{content_of}
use Rattle.vb_value.specs.declared.contents.Content.{Content}
use Rattle.viper_state.specs.State.{found_at}
use Rattle.viper_state.proofs.MapLaws.{contents_read}
use Rattle.viper_state.proofs.states.State.content_at.Goals as goal

seen : (o : Option (Bor Content)) → option_map (λ c. content_of c.now) o ≡ option_map content_of (option_map (λ c. c.now) o)
seen None = refl
seen (Some c) = refl

pub returns : goal.returns
returns c =
    seen c.found.result ∙ ap (option_map content_of) c.found.ensures
    ∙ ap (λ maps. option_map content_of (found_at key_cmp maps c.args.predicate c.args.key.now)) c.deref.ensures.value
    ∙ contents_read c.args.self.now.content.items c.args.predicate c.args.key.now
