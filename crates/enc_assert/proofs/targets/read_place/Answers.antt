use Rattle.viper_core.specs.View.{expr_of as viper, amt_of}
use Rattle.enc_expr.specs.Emits.{emit_of}
use Rattle.enc_expr.specs.View.{seen, held_of, kinds_of, place_in}
use Rattle.enc_assert.proofs.EmittedRows.{place_emits}
use Rattle.enc_assert.proofs.targets.read_place.Goals as goal

pub returns : goal.returns
returns c =
    place_emits (kinds_of c.args.reading.kinds) (place_in c.args.reading) c.args.reading.guard c.args.field (viper c.args.e.now) (amt_of c.args.amount.now) (emit_of c.args.out.now) (emit_of c.check.new.out) (emit_of c.check_amount.new.out) (emit_of c.atomic.new.out)
    (seen c.in_ok-receiver.receiver) (seen c.in_ok-amount.amount) (held_of c.in_ok-receiver-2.receiver) c.in_ok-receiver.ensures c.in_ok-amount.ensures c.in_ok-receiver-2.ensures
