use Rattle.std.proofs.Common.{ap, refl}
use Rattle.std.proofs.lemmas.Option.{slice_get_read}
use Rattle.std.proofs.lemmas.Result.{on_ok_weaker}
use Rattle.viper_state.proofs.MapLaws.{changed_is, value_test, exact_values}
use Rattle.run_file.specs.FillingView.{filling_of}
use Rattle.run_file.proofs.memos.Filling.set_value.Goals as goal

pub returns-in-Some : goal.returns-in-Some
returns-in-Some c =
    let item = c.in-Some.ensures.item in
    let heaps = c.args.self.now.heap.items in
    let there = slice_get_read heaps _ c.args.field c.in-Some.values.now refl item.3.0 item.1 in
    on_ok_weaker c.set.result
    (λ h.
    ap (λ maps. record { heap = maps; content = (filling_of c.args.self.now).content })
    (changed_is value_test exact_values heaps c.args.field c.in-Some.values.now c.set.new.self c.args.reference c.args.value there h)) c.set.ensures.changed
