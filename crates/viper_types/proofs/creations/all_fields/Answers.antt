use Rattle.std.proofs.Common.{rules, Ok, length, arith}
use Rattle.std.specs.declared.alloc.AllocError.{AllocError}
use Rattle.std.proofs.lemmas.Iterator.{items_from_collect, YieldsList-from_range}
use Rattle.viper_types.proofs.creations.all_fields.Goals as goal

pub returns : goal.returns
returns c =
    let n = length c.args.world.now.fields.items in
    items_from_collect {E = AllocError} (Ok c.in_ok-collect.field-0) c.in_ok-collect.ensures.ran (YieldsList-from_range 0 n n (search rules) (omega arith))
