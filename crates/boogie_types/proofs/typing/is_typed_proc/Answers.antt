use Rattle.std.proofs.Common.{refl, sym, ◌∙◌}
use Rattle.lemmas.proofs.Tests.{last_of_two, first_of_two}
use Rattle.boogie_types.proofs.TypingLaws.{proc_is}
use Rattle.boogie_types.proofs.typing.is_typed_proc.Goals as goal

pub returns-then-have_keys : goal.returns-then-have_keys
returns-then-have_keys c =
    last_of_two (sym c.have_keys.ensures ∙ c.if-have_keys.true) c.is_typed.ensures
    ∙ proc_is c.args.proc.now c.deref.ensures.value c.deref-then-have_keys.ensures.value c.deref-then-have_keys-2.ensures.value

pub returns-else-have_keys : goal.returns-else-have_keys
returns-else-have_keys c = first_of_two _ c.have_keys.ensures c.if-have_keys.false ∙ proc_is c.args.proc.now c.deref.ensures.value refl refl
