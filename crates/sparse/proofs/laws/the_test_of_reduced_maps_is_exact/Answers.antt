use Rattle.sparse.proofs.MapLaws.{Decides-is_reduced}
use Rattle.sparse.proofs.laws.the_test_of_reduced_maps_is_exact.Goals as goal

pub returns : goal.returns
returns g c = λ cmp eq m. Decides-is_reduced cmp eq m
