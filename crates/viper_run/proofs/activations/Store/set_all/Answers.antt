use Rattle.std.proofs.Common.{arith, ◌<◌, ◌≤◌, min, length, sym, ap, ◌∙◌, ◌+◌, drop}
use Rattle.lemmas.proofs.Lists.{next_item, next_number}
use Rattle.viper_meaning.specs.Statements as m
use Rattle.viper_run.proofs.StoreLaws.{stored_next, stored_end}
use Rattle.viper_run.proofs.activations.Store.set_all.Goals as goal

pub loop-i-preserved : goal.loop-i-preserved
loop-i-preserved c =
    let xs = c.args.variables.now in
    let vs = c.args.values.now in
    let i = c.loop-i.i in
    let v = c.index-values-i.result in
    let of_variables : i < length xs = omega arith in
    let of_values : i < length vs = omega arith in
    ap (λ st. m.stored st (drop (i + 1) xs) (drop (i + 1) vs)) c.set.ensures ∙ stored_next c.loop-i.self.values.items xs vs i _ v (next_number xs i of_variables) (next_item vs i v of_values c.index-values-i.is) ∙ c.loop-i.invariant

pub returns : goal.returns
returns c =
    let xs = c.args.variables.now in
    let vs = c.args.values.now in
    let all : min (length xs) (length vs) ≤ c.loop-i.i = omega arith in
    sym (stored_end c.loop-i.self.values.items xs vs c.loop-i.i all) ∙ c.loop-i.invariant
