use Rattle.std.proofs.Common.{sym, ◌∙◌}
use Rattle.std.proofs.lemmas.Bool.{true≢false}
use Rattle.viper_state.specs.Loose.{lists_of}
use Rattle.viper_state.proofs.LooseLaws.{kept_same}
use Rattle.viper_state.proofs.MapLaws.{made}
use Rattle.viper_state.proofs.places.note_permission.Goals as goal

pub returns-then-holds-clause-kept : goal.returns-then-holds-clause-kept
returns-then-holds-clause-kept g c = kept_same g.K.Ord.cmp (lists_of c.args.lists.now.items)

pub returns-then-holds-clause-noted : goal.returns-then-holds-clause-noted
returns-then-holds-clause-noted g c = λ held at none. absurd (true≢false (sym none ∙ c.holds.ensures c.if-holds.true held at))

pub returns-clause-noted : goal.returns-clause-noted
returns-clause-noted g c = made c.note.result c.note.ensures.noted (λ h held at none. h)
