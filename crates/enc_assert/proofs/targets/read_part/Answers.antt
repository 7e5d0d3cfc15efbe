use Rattle.viper_core.specs.View.{amt_of, exprs_of}
use Rattle.enc_expr.specs.Emits.{emit_of}
use Rattle.enc_expr.specs.View.{seen, all_seen, located_of, kinds_of, place_in}
use Rattle.enc_assert.proofs.EmittedRows.{part_emits}
use Rattle.enc_assert.proofs.targets.read_part.Goals as goal

pub returns : goal.returns
returns c =
    part_emits (kinds_of c.args.reading.kinds) (place_in c.args.reading) c.args.reading.guard c.args.predicate (exprs_of c.args.args.now) (amt_of c.args.amount.now) (emit_of c.args.out.now) (emit_of c.check_all.new.out) (emit_of c.check_amount.new.out) (emit_of c.in_locals.new.out)
    (all_seen c.in_ok-args.args.items) (seen c.in_ok-amount.amount) (located_of c.in_ok-args-2.args) c.in_ok-args.ensures c.in_ok-amount.ensures c.in_ok-args-2.ensures
