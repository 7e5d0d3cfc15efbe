use Rattle.std.proofs.Common.{ap, refl}
use Rattle.std.proofs.lemmas.Option.{slice_get_read}
use Rattle.std.proofs.lemmas.Result.{on_ok_weaker}
use Rattle.viper_state.proofs.MapLaws.{contents_changed, contents_cloned}
use Rattle.run_file.specs.FillingView.{filling_of}
use Rattle.run_file.proofs.memos.Filling.set_content.Goals as goal

pub set-requires : goal.set-requires
set-requires c = contents_cloned (λ k q h. h) (λ v w h. h)

pub returns-in-Some : goal.returns-in-Some
returns-in-Some c =
    let item = c.in-Some.ensures.item in
    let there = slice_get_read c.args.self.now.content.items _ c.args.predicate c.in-Some.contents.now refl item.3.0 item.1 in
    on_ok_weaker c.set.result
    (λ h.
    ap (λ maps. record { heap = (filling_of c.args.self.now).heap; content = maps })
    (contents_changed c.args.self.now.content.items c.args.predicate c.in-Some.contents.now c.set.new.self c.args.key c.args.content there h)) c.set.ensures.changed
