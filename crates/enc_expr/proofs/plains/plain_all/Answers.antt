-- Behind the last argument there is none.
use Rattle.std.proofs.Common.{◌∙◌, [], ap, sym}
use Rattle.std.proofs.lemmas.List.{append-nil, drop_all}
use Rattle.viper_core.specs.View.{exprs_of as viper_exprs}
use Rattle.boogie_tree.specs.Whole.{exprs_of}
use Rattle.enc_expr.specs.Plain.{plain_more}
use Rattle.enc_expr.specs.View.{kinds_of, place_in}
use Rattle.enc_expr.proofs.plains.plain_all.Goals as goal

pub returns : goal.returns
returns c =
    ap exprs_of (sym (append-nil c.loop-a.values.items))
    ∙ c.loop-a.invariant [] (sym (ap (λ es. plain_more (kinds_of c.args.reading.kinds) (place_in c.args.reading) (viper_exprs es)) (drop_all c.loop-a.a-index c.args.args.now c.loop-a-test.false)))
