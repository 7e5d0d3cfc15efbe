use Rattle.std.proofs.Common.{sym, ◌∙◌}
use Rattle.std.proofs.lemmas.Bool.{true≢false}
use Rattle.viper_state.specs.Loose.{lists_of}
use Rattle.viper_state.proofs.LooseLaws.{kept_same}
use Rattle.viper_state.proofs.MapLaws.{made}
use Rattle.viper_state.proofs.places.note_value.Goals as goal

pub returns-then-is_held-clause-kept : goal.returns-then-is_held-clause-kept
returns-then-is_held-clause-kept g c = kept_same g.K.Ord.cmp (lists_of c.args.lists.now.items)

pub returns-then-is_held-clause-noted : goal.returns-then-is_held-clause-noted
returns-then-is_held-clause-noted g c = λ held at free. absurd (true≢false (sym (c.is_held.ensures c.if-is_held.true held at) ∙ free))

pub returns-clause-noted : goal.returns-clause-noted
returns-clause-noted g c = made c.note.result c.note.ensures.noted (λ h held at free. h)
