use Rattle.boogie_print.proofs.BinderLaws.{binders_fresh}
use Rattle.boogie_print.proofs.text_laws.bound_names_are_fresh.Goals as goal

pub returns : goal.returns
returns c = binders_fresh
