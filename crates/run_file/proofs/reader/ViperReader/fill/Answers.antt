use Rattle.std.proofs.Common.{◌≡◌, ◌∙◌, true, sym, ap}
use Rattle.run_file.specs.FillingView.{filling_of}
use Rattle.run_file.specs.LineView.{line_view}
use Rattle.run_file.specs.NamedView.{named_of}
use Rattle.run_file.specs.Progress.{may_place, stage_within, with_filled}
use Rattle.run_file.specs.View.{run_of}
use Rattle.run_file.proofs.MemoLaws.{filled_with}
use Rattle.run_file.proofs.reader.ViperReader.fill.Goals as goal

pub returns : goal.returns
returns c =
    let old = c.args.self.now in
    let g = stage_within old.front.more old.stage in
    let may : may_place g ≡ true = ap may_place (sym c.stage_within.ensures) ∙ (sym c.may_place.ensures ∙ c.if-not-may_place.false) in
    let filled = ap (λ m. with_filled g m (run_of old.front.run)) c.in_ok-fill.ensures ∙ filled_with g (line_view c.args.line) (filling_of old.filling) (run_of old.front.run) may in
    ap (λ run. record { stage = old.stage; named = named_of old.named; run = record { run = run; more = old.front.more } }) filled
