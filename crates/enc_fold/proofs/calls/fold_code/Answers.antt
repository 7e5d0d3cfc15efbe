-- Nothing is written for a predicate without a body.
use Rattle.std.proofs.Common.{◌∙◌, length, ap, subst}
use Rattle.std.proofs.lemmas.Result.{on_ok_weaker}
use Rattle.viper_core.specs.View.{assertion_of, fold_of, program_of}
use Rattle.enc_expr.specs.Emits.{emit_of, Emits}
use Rattle.enc_expr.specs.Kinds.{Kinds}
use Rattle.enc_expr.specs.Place.{Place, place_of}
use Rattle.enc_expr.specs.ReadOff.{types_in}
use Rattle.enc_expr.specs.View.{kinds_of}
use Rattle.enc_fold.specs.Calls.{kinds_for}
use Rattle.enc_fold.specs.Encoding.{fold_code}
use Rattle.enc_fold.proofs.EmittedFold.{with_body_emits, without_body_emits}
use Rattle.enc_fold.proofs.calls.fold_code.Goals as goal

pub returns-in-None : goal.returns-in-None
returns-in-None c =
    without_body_emits (fold_code (kinds_for (types_in (emit_of c.args.out.now)) (program_of c.args.program.now).layout (place_of c.args.place.now)) (place_of c.args.place.now) (fold_of c.args.s.now))
    (emit_of c.args.out.now) c.in-None.ensures

-- and else the code of the body that it has
pub returns-in_ok-own-in-Some : goal.returns-in_ok-own-in-Some
returns-in_ok-own-in-Some c =
    let place = place_of c.args.place.now in let f = fold_of c.args.s.now in let old = emit_of c.args.out.now in let r = c.of-in-Some.result in
    on_ok_weaker c.fold.result (λ h. with_body_emits (λ k body. fold_code k place f body) c.in-Some.ensures
    (c.of-in-Some.ensures.kinds ∙ (λ i. record { vars = (c.deref.ensures.value ∙ ap (λ (k : Kinds). k.vars) c.in_ok-own-in-Some.ensures) i; layout = c.args.program.now.layout }))
    (subst (λ (p : Place). Emits (fold_code (kinds_of r.kinds) p f (assertion_of c.in-Some.body.now) (length old.locals)) old (emit_of c.fold.new.out) tt) c.of-in-Some.ensures.place h)) c.fold.ensures
