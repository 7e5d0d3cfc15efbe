use Rattle.viper_state.specs.View.{contents_of}
use Rattle.enc_locals.specs.Filled.{content_image, IsTidy}
use Rattle.enc_locals.proofs.FilledLaws.{image_at}
use Rattle.enc_locals.proofs.openings.add_contents.Goals as goal

pub content_map-requires : goal.content_map-requires
content_map-requires c = image_at (λ m. IsTidy (content_image m)) contents_of c.args.contents.now c.loop-held.held-index c.held-item.result c.requires c.loop-held-test.true c.held-item.is
