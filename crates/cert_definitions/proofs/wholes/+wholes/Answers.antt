use Rattle.std.proofs.Common.{None, sym, ap, ◌∙◌}
use Rattle.cert_definitions.specs.Texts.{is_whole}
use Rattle.cert_definitions.specs.View.{told_of}
use Rattle.cert_definitions.proofs.ReadLaws.{with_is}
use Rattle.cert_definitions.proofs.wholes.+wholes.Goals as goal

pub is_whole-returns-in-With : goal.is_whole-returns-in-With
is_whole-returns-in-With t c =
    c.put_text.ensures
    ∙ sym (ap (λ e. is_whole (told_of c.args.table.now c.args.aliases.now None) e c.args.literal)
    (with_is c.in-With.map c.in-With.es c.in-With.e c.in-With.is c.deref-in-With.ensures c.deref-in-With-2.ensures.value c.deref-in-With-3.ensures))
