use Rattle.viper_state.proofs.MapLaws.{contents_cloned}
use Rattle.viper_state.proofs.copies.keys_known.Goals as goal

pub all_listed-requires : goal.all_listed-requires
all_listed-requires c = contents_cloned (λ k q h. h) (λ v w h. h)
