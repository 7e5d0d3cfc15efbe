use Rattle.std.proofs.Common.{◌∙◌, sym}
use Rattle.std.proofs.lemmas.Result.{on_ok_weaker}
use Rattle.run_file_boogie.proofs.BoogieMapLaws.{scalars_cloned, entry_put}
use Rattle.run_file_boogie.proofs.boogie_reader.fill.Goals as goal

pub set-requires : goal.set-requires
set-requires c = scalars_cloned (λ k q h. h) (λ x y h. h)

pub returns : goal.returns
returns c =
    on_ok_weaker c.set.result
    (entry_put c.args.map.now c.set.new.self c.args.entry.key c.args.entry.value (sym c.is_default.ensures ∙ c.if-is_default.false)) c.set.ensures.changed
