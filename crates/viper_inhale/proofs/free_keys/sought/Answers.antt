use Rattle.std.proofs.Common.{refl, sym, ap, ◌∙◌}
use Rattle.std.proofs.lemmas.Option.{slice_get_read}
use Rattle.viper_inhale.proofs.FreeLaws.{contains_here}
use Rattle.viper_inhale.proofs.free_keys.sought.Goals as goal

pub loop-i-init : goal.loop-i-init
loop-i-init g c = tt

pub returns-in-Equal : goal.returns-in-Equal
returns-in-Equal g c = λ t.
    let entry = c.index-entries-i.result in
    contains_here c.args.entries.now c.loop-i.i entry c.args.key.now
    (slice_get_read c.args.entries.now _ c.loop-i.i entry refl c.loop-i-test.true c.index-entries-i.is) (c.requires c.args.key.now _ (sym c.cmp.ensures ∙ c.in-Equal.is) ∙ ap (λ e. e.now.0) (sym c.index-entries-i.is))

pub loop-i-preserved : goal.loop-i-preserved
loop-i-preserved g c = tt
