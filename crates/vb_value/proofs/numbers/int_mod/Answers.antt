use Rattle.std.proofs.Common.{rules, ◌≡◌, to_z, of_z}
use Rattle.std.specs.Int.{w128, int_div_euclid, int_rem_euclid}
use Rattle.vb_value.proofs.EuclidLaws.{IsEuclidean-euclid}
use Rattle.vb_value.proofs.numbers.int_mod.Goals as goal

pub returns-clause-euclidean : goal.returns-clause-euclidean
returns-clause-euclidean c =
    let value : to_z w128 (of_z w128 c.rem_euclid.result) ≡ int_rem_euclid c.args.a c.args.d = search rules in
    (int_div_euclid c.args.a c.args.d, rw value (IsEuclidean-euclid c.args.a c.args.d c.requires.nonzero))
