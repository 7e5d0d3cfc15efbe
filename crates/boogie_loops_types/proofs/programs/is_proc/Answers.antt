use Rattle.std.proofs.Common.{sym, ap, ◌∙◌}
use Rattle.lemmas.proofs.Tests.{last_of_two, first_of_two}
use Rattle.boogie_meaning.specs.Programs.{have_keys}
use Rattle.boogie_loops_types.proofs.HeadLaws.{types_are_wide}
use Rattle.boogie_loops_types.proofs.programs.is_proc.Goals as goal

pub returns-then-not-have_keys : goal.returns-then-not-have_keys
returns-then-not-have_keys c =
    let keys = c.have_keys.ensures ∙ ap have_keys (types_are_wide c.args.proc.now c.deref.ensures.value) in
    sym c.if-not-have_keys.true ∙ first_of_two _ keys c.if-not-have_keys.true

pub returns-then-is_head : goal.returns-then-is_head
returns-then-is_head c =
    let keys = c.have_keys.ensures ∙ ap have_keys (types_are_wide c.args.proc.now c.deref.ensures.value) in
    last_of_two (sym keys ∙ c.if-not-have_keys.false) (last_of_two (sym c.is_head.ensures ∙ c.if-is_head.true) c.is_body.ensures)

pub returns-else-is_head : goal.returns-else-is_head
returns-else-is_head c =
    let keys = c.have_keys.ensures ∙ ap have_keys (types_are_wide c.args.proc.now c.deref.ensures.value) in
    last_of_two (sym keys ∙ c.if-not-have_keys.false) (first_of_two _ c.is_head.ensures c.if-is_head.false)
