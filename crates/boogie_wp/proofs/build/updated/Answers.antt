use Rattle.std.proofs.Common.{◌∙◌, ap}
use Rattle.boogie_tree.specs.Whole.{expr_of}
use Rattle.boogie_formula.specs.Formula as f
use Rattle.boogie_formula.specs.View.{fexpr_of}
use Rattle.boogie_wp.specs.Build.{number_at}
use Rattle.boogie_wp.specs.Lifted.{lifted}
use Rattle.boogie_wp.proofs.CodeLaws.{with_is}
use Rattle.boogie_wp.proofs.build.updated.Goals as goal

pub returns : goal.returns
returns c =
    with_is (number_at c.args.names.now c.args.map) c.in_ok-keys.keys (number_at c.args.names.now) c.args.index.now (lifted (number_at c.args.names.now) (expr_of c.args.e.now))
    c.in_ok-old.old c.in_ok-lift.field-0 (ap fexpr_of c.in_ok-old.ensures ∙ ap f.Var c.name_of.ensures) c.in_ok-keys.ensures c.in_ok-lift.ensures
