use Rattle.std.proofs.Common.{◌∙◌, ◌+◌, List, ℕ, None, drop, get_or, length, sym, ap, subst}
use Rattle.lemmas.proofs.Lists.{next_number}
use Rattle.boogie_tree.specs.Values.{plain_type}
use Rattle.moves.specs.Scalars.{base_for}
use Rattle.enc_expr.specs.Emits.{Emit, emit_of, Emits}
use Rattle.enc_expr.specs.View.{kinds_of}
use Rattle.enc_expr.proofs.EmitLaws.{gives_emits}
use Rattle.enc_expr.proofs.EmittedForms.{put_as}
use Rattle.enc_expr.proofs.EmittedParts.{declared_as, dropped_all}
use Rattle.enc_block.specs.Encoding.{created_code}
use Rattle.enc_block.specs.View.{home_of}
use Rattle.enc_block.proofs.EmittedCalls.{created_step}
use Rattle.enc_block.proofs.creations.created.Goals as goal

pub loop-field-preserved : goal.loop-field-preserved
loop-field-preserved c =
    let layout = (kinds_of c.args.kinds).layout in let home = home_of c.args.home.now in let r = c.args.reference in let i = c.loop-field.field-index in let fields = c.args.fields.now in
    created_step layout home r (get_or fields i 0) (drop (i + 1) fields) fields (emit_of c.args.out.now) (emit_of c.loop-field.out) (emit_of c.fresh_scalar.new.self) (emit_of c.put.new.self) c.in_ok-value.value
    (declared_as (ap plain_type (c.base_for.ensures ∙ ap base_for c.field.ensures)) c.in_ok-value.ensures) (put_as None c.in_ok-block.ensures c.in_ok-put.ensures)
    (subst (λ (xs : List ℕ). (new : Emit) → Emits (created_code layout home r xs (length (emit_of c.loop-field.out).locals)) (emit_of c.loop-field.out) new tt →
    Emits (created_code layout home r fields (length (emit_of c.args.out.now).locals)) (emit_of c.args.out.now) new tt) (next_number fields i c.loop-field-test.true) c.loop-field.invariant)

pub returns : goal.returns
returns c =
    c.loop-field.invariant (emit_of c.loop-field.out) (subst (λ (xs : List ℕ). Emits (created_code (kinds_of c.args.kinds).layout (home_of c.args.home.now) c.args.reference xs (length (emit_of c.loop-field.out).locals)) (emit_of c.loop-field.out) (emit_of c.loop-field.out) tt)
    (sym (dropped_all c.loop-field.field-index c.args.fields.now c.loop-field-test.false)) (gives_emits tt (emit_of c.loop-field.out)))
