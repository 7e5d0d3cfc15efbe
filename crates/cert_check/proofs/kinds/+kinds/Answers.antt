use Rattle.std.proofs.Common.{◌≡◌, Some, map, sym, ap, subst, ◌∙◌}
use Rattle.boogie_tree.specs.Whole.{type_of}
use Rattle.boogie_formula.specs.Types.{fbase}
use Rattle.boogie_formula.specs.View.{fexpr_of}
use Rattle.cert_check.specs.Kinds.{answered}
use Rattle.cert_check.proofs.KindLaws.{bin_base}
use Rattle.cert_check.proofs.kinds.+kinds.Goals as goal

pub returns-in-Bin : goal.returns-in-Bin
returns-in-Bin t c = λ u h.
    let ls = map type_of c.args.types.now in
    let x = bin_base ls c.in-Bin.op (fexpr_of c.in-Bin.left.value) (fexpr_of c.in-Bin.field-2.value) u (subst (λ e. fbase ls (fexpr_of e) ≡ Some u) c.in-Bin.is h) in
    c.answer_of.ensures ∙ ap (answered c.in-Bin.op) (c.base_of.ensures x.0 (subst (λ e. fbase ls (fexpr_of e) ≡ Some x.0) (sym c.deref.ensures) x.1)) ∙ x.2
