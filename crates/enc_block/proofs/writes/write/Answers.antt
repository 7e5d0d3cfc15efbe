-- The receiver, the value, and the rest.
use Rattle.std.proofs.Common.{None, length, ap}
use Rattle.std.proofs.lemmas.Result.{on_ok_weaker}
use Rattle.viper_core.specs.View.{expr_of as viper}
use Rattle.boogie_tree.specs.Expr as t
use Rattle.boogie_tree.specs.Stmt as s
use Rattle.enc_expr.specs.Code.{join}
use Rattle.enc_expr.specs.Emits.{emit_of}
use Rattle.enc_expr.specs.Pieces.{one}
use Rattle.enc_expr.specs.Place.{number}
use Rattle.enc_expr.specs.View.{seen, held_of, kinds_of}
use Rattle.enc_expr.proofs.EmittedForms.{put_as, read_as}
use Rattle.enc_block.specs.Encoding.{write_checks}
use Rattle.enc_block.specs.Home.{place}
use Rattle.enc_block.specs.View.{home_of}
use Rattle.enc_block.proofs.EmittedStatements.{write_emits}
use Rattle.enc_block.proofs.writes.write.Goals as goal

pub returns : goal.returns
returns c =
    let r = c.reading-reading.ensures in
    let held = held_of c.in_ok-receiver-2.receiver in
    on_ok_weaker c.write_at.result (λ h. write_emits (kinds_of c.args.setting.kinds) (place (home_of c.args.setting.home.now) c.args.step) (viper c.args.target.receiver.now) c.args.target.field c.args.target.at (viper c.args.value.now)
    (emit_of c.args.out.now) (emit_of c.check.new.out) (emit_of c.check-2.new.out) (emit_of c.atomic.new.out) (emit_of c.write_at.new.out) (seen c.in_ok-receiver.receiver) (seen c.in_ok-value.value) held
    (read_as _ _ _ _ _ _ (viper c.args.target.receiver.now) (length (emit_of c.args.out.now).locals) r.kinds r.place r.guard c.in_ok-receiver.ensures)
    (read_as _ _ _ _ _ _ (viper c.args.value.now) (length (emit_of c.check.new.out).locals) r.kinds r.place r.guard c.in_ok-value.ensures) c.in_ok-receiver-2.ensures
    (put_as None (ap (λ p. join held.sets (join (write_checks p c.args.target.field c.args.target.at held.expr) (one (s.Put (number p.now.heap c.args.target.field) (t.more held.expr t.none) (seen c.in_ok-value.value).expr)))) r.place) h)) c.write_at.ensures
