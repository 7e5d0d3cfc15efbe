use Rattle.std.proofs.Common.{rules, ◌≡◌, ◌∙◌, ℕ, length, List, [], ◌∷◌, suc, refl, sym, ap, subst}
use Rattle.boogie_tree.specs.Whole.{proc_of}
use Rattle.boogie_tree.specs.declared.programs.BType.{BType}
use Rattle.boogie_formula.specs.Follows.{AreExact, ConditionsFollow}
use Rattle.boogie_formula.specs.Printable.{IsPrintableConditions}
use Rattle.boogie_formula.specs.Types.{IsTypedConditions}
use Rattle.boogie_wp.specs.Build.{ConditionsBuilder}
use Rattle.boogie_wp.specs.View.{builder_of, types_of_all}
use Rattle.boogie_wp.proofs.FormulaLaws.{conditions_follow, conditions_typed}
use Rattle.boogie_wp.proofs.PlacedLaws.{are_exact}
use Rattle.boogie_wp.proofs.PrintLaws.{conditions_printable}
use Rattle.boogie_wp.proofs.ProcedureLaws.{room_there, conditions_are}
use Rattle.boogie_wp.proofs.formulas.conditions_of_procedure.Goals as goal

abbrev next : ConditionsBuilder → ℕ
next b = b.next

length_types : (us : List BType) → length (types_of_all us) ≡ length us
length_types [] = refl
length_types (u ∷ us) = ap suc (length_types us)

pub build-requires : goal.build-requires
build-requires c =
    let long : length (types_of_all c.in_ok-vars.vars.items) ≡ c.len-n.result = length_types c.in_ok-vars.vars.items ∙ sym c.in_ok-vars.vars.ok.0 ∙ sym c.len-n.ensures in
    record {
      names = search rules;
      room = room_there c.args.proc.now c.requires (types_of_all c.in_ok-vars.vars.items) c.in_ok-vars.ensures c.len-n.result c.in_ok-builder.builder.next c.deref.result.now c.deref-2.result.now long c.deref.ensures.value
          c.deref-2.ensures.value (ap next (c.in_ok-builder.ensures (types_of_all c.in_ok-vars.vars.items) long));
    }

pub returns : goal.returns
returns c =
    let d = proc_of c.args.proc.now in
    let vars = types_of_all c.in_ok-vars.vars.items in
    let long : length vars ≡ c.len-n.result = length_types c.in_ok-vars.vars.items ∙ sym c.in_ok-vars.vars.ok.0 ∙ sym c.len-n.ensures in
    let built = c.finish.ensures
    ∙ conditions_are c.args.proc.now vars c.len-n.result c.deref.result.now c.deref-2.result.now (builder_of c.in_ok-builder.builder) (builder_of c.build.new.to) c.in_ok-vars.ensures long
    c.deref.ensures.value c.deref-2.ensures.value (c.in_ok-builder.ensures vars long) c.in_ok-build.ensures.goes in
    record {
      built = built;
      follows = subst (ConditionsFollow d) (sym built) (conditions_follow d c.requires);
      exact = subst (AreExact d) (sym built) (are_exact d c.requires);
      typed = subst IsTypedConditions (sym built) (conditions_typed d c.requires);
      printable = λ fits. subst IsPrintableConditions (sym built) (conditions_printable d c.requires fits);
    }
