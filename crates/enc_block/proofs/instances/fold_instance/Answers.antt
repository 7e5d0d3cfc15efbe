-- Nothing is written for a predicate without a body.
use Rattle.std.proofs.lemmas.Result.{on_ok_weaker}
use Rattle.viper_core.specs.View.{fold_of}
use Rattle.enc_expr.specs.Emits.{emit_of}
use Rattle.enc_expr.specs.View.{kinds_of}
use Rattle.enc_fold.specs.Encoding.{fold_code}
use Rattle.enc_block.specs.Home.{place}
use Rattle.enc_block.specs.View.{home_of}
use Rattle.enc_block.proofs.EmittedCalls.{body_emits, no_body_emits}
use Rattle.enc_block.proofs.instances.fold_instance.Goals as goal

pub returns-in-Some : goal.returns-in-Some
returns-in-Some c =
    let f = fold_of c.args.f.now in
    on_ok_weaker c.fold.result (λ h. body_emits (λ k p body. fold_code k p f body) c.in-Some.ensures c.reading.ensures.kinds c.reading.ensures.place h) c.fold.ensures

pub returns-in-None : goal.returns-in-None
returns-in-None c =
    let f = fold_of c.args.f.now in
    no_body_emits (fold_code (kinds_of c.args.setting.kinds) (place (home_of c.args.setting.home.now) f.at) f) (emit_of c.args.out.now) c.in-None.ensures
