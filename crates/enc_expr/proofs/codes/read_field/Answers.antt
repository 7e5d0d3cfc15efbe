-- The checks, and then the value.
use Rattle.std.proofs.Common.{◌∙◌, ap}
use Rattle.std.proofs.lemmas.Result.{IfOk-weaker}
use Rattle.boogie_tree.specs.Expr as t
use Rattle.enc_expr.specs.Emits.{emit_of}
use Rattle.moves.specs.Scalars.{base_for}
use Rattle.enc_expr.specs.Place.{number}
use Rattle.enc_expr.specs.View.{seen, atom_of, held_of, kinds_of, place_in}
use Rattle.enc_expr.proofs.EmittedForms.{valued, put_as, read_emits}
use Rattle.enc_expr.proofs.codes.read_field.Goals as goal

pub returns : goal.returns
returns c =
    IfOk-weaker c.of.result _ _ (λ x same. valued (same ∙ (λ i. record {
      expr = (c.in_ok-value.ensures ∙ ap (λ m. t.At m (t.more (atom_of c.in_ok-receiver.receiver.atom) t.none)) (c.number-heap.ensures ∙ ap (λ xs. number xs c.args.field) c.deref.ensures.value)) i;
      base = (c.base_for.ensures ∙ ap base_for c.field.ensures) i;
    })) (read_emits (kinds_of c.args.reading.kinds) (place_in c.args.reading) c.args.reading.guard c.args.field c.args.place (seen c.args.receiver) (emit_of c.args.out.now) (emit_of c.atomic.new.out) (emit_of c.put.new.self)
    (held_of c.in_ok-receiver.receiver) c.in_ok-receiver.ensures (put_as c.args.reading.guard c.in_ok-read_checks.ensures c.in_ok-put.ensures))) c.of.ensures
