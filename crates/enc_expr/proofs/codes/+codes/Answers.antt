-- What is emitted for each form, by what is emitted for its parts.
use Rattle.std.proofs.Common.{◌∙◌, ◌+◌, List, [], ◌++◌, length, drop, refl, ap, sym, subst, append-nil}
use Rattle.std.proofs.lemmas.Result.{on_ok_weaker, IfOk-weaker}
use Rattle.lemmas.proofs.Lists.{next_item}
use Rattle.viper_core.specs.View.{expr_of as viper, exprs_of, amt_of, assertion_of, opened_of}
use Rattle.viper_core.proofs.NodeLaws.{neg_is, not_is, bin_is, choose_is, field_is, unfolding_is, inst_is, and_is, implies_is, choice_is}
use Rattle.boogie_tree.specs.Expr as t
use Rattle.boogie_tree.specs.Stmt as s
use Rattle.boogie_tree.specs.Whole.{expr_of, stmts_of}
use Rattle.enc_expr.specs.Code.{gives}
use Rattle.enc_expr.specs.Operators.{right_counts}
use Rattle.enc_expr.specs.Emits.{Emit, emit_of, Emits}
use Rattle.enc_expr.specs.Encoding.{is_unit, code, codes, amount_code, acc_code, instance_code}
use Rattle.enc_expr.specs.Kinds.{body_kinds}
use Rattle.enc_expr.specs.Pieces.{Operand, one}
use Rattle.enc_expr.specs.Place.{maps_of, with_now, with_vars}
use Rattle.enc_expr.specs.View.{seen, all_seen, atom_of, held_of, located_of, class_in, kinds_of, place_in}
use Rattle.enc_expr.proofs.BlockLaws.{all_added}
use Rattle.enc_expr.proofs.EmitLaws.{gives_emits}
use Rattle.enc_expr.proofs.EmittedForms.{valued, binary_emits, put_as, coded_as, all_coded_as, filled_as, read_as, fill_as, guarded_as, neg_emits, not_emits, lazy_emits, divided_emits, plain_emits, lazily_emits, choice_emits, field_emits, fact_emits, access_emits, part_emits, both_emit, implied_emits, chosen_emits, unfolding_emits, unfolded_emits, inside_emits, scaled_as, put_under, inside_as, opening_is}
use Rattle.enc_expr.proofs.EmittedParts.{dropped_all, check_step, all_seen-append}
use Rattle.enc_expr.proofs.codes.+codes.Goals as goal

pub check-returns-in-Var : goal.check-returns-in-Var
check-returns-in-Var _ c =
    IfOk-weaker c.of.result _ _ (λ x same. coded_as (kinds_of c.args.reading.kinds) (place_in c.args.reading) c.args.reading.guard _ (ap viper c.in-Var.is) (valued (same ∙ (λ i. record { expr = t.Var (c.number.ensures i); base = c.variable.ensures i })) (gives_emits _ (emit_of c.args.out.now)))) c.of.ensures

pub check-returns-in-Int : goal.check-returns-in-Int
check-returns-in-Int _ c =
    IfOk-weaker c.int_operand.result _ _ (λ x same. coded_as (kinds_of c.args.reading.kinds) (place_in c.args.reading) c.args.reading.guard _ (ap viper c.in-Int.is) (valued same (gives_emits _ (emit_of c.args.out.now)))) c.int_operand.ensures

pub check-returns-in-Bool : goal.check-returns-in-Bool
check-returns-in-Bool _ c =
    IfOk-weaker c.of-in-Bool.result _ _ (λ x same. coded_as (kinds_of c.args.reading.kinds) (place_in c.args.reading) c.args.reading.guard _ (ap viper c.in-Bool.is) (valued same (gives_emits _ (emit_of c.args.out.now)))) c.of-in-Bool.ensures

pub check-returns-in-Null : goal.check-returns-in-Null
check-returns-in-Null _ c =
    IfOk-weaker c.of-in-Null.result _ _ (λ x same. coded_as (kinds_of c.args.reading.kinds) (place_in c.args.reading) c.args.reading.guard _ (ap viper c.in-Null.is) (valued same (gives_emits _ (emit_of c.args.out.now)))) c.of-in-Null.ensures

pub check-returns-in-Part : goal.check-returns-in-Part
check-returns-in-Part _ c =
    IfOk-weaker c.part_operand.result _ _ (λ x same. coded_as (kinds_of c.args.reading.kinds) (place_in c.args.reading) c.args.reading.guard _ (ap viper c.in-Part.is) (valued same (gives_emits _ (emit_of c.args.out.now)))) c.part_operand.ensures

pub check-returns-in_ok-check-in-Neg : goal.check-returns-in_ok-check-in-Neg
check-returns-in_ok-check-in-Neg _ c =
    IfOk-weaker c.negative.result _ _ (λ x same. coded_as (kinds_of c.args.reading.kinds) (place_in c.args.reading) c.args.reading.guard _ (neg_is c.in-Neg.is c.deref.ensures) (valued same (neg_emits (kinds_of c.args.reading.kinds) (place_in c.args.reading) c.args.reading.guard (viper c.deref.result.now) (emit_of c.args.out.now) _ (seen c.in_ok-check-in-Neg.field-0) c.in_ok-check-in-Neg.ensures))) c.negative.ensures

pub check-returns-in_ok-check-in-Not : goal.check-returns-in_ok-check-in-Not
check-returns-in_ok-check-in-Not _ c =
    IfOk-weaker c.denied.result _ _ (λ x same. coded_as (kinds_of c.args.reading.kinds) (place_in c.args.reading) c.args.reading.guard _ (not_is c.in-Not.is c.deref-in-Not.ensures) (valued same (not_emits (kinds_of c.args.reading.kinds) (place_in c.args.reading) c.args.reading.guard (viper c.deref-in-Not.result.now) (emit_of c.args.out.now) _ (seen c.in_ok-check-in-Not.field-0) c.in_ok-check-in-Not.ensures))) c.denied.ensures

pub check-returns-in_ok-left-in-Bin : goal.check-returns-in_ok-left-in-Bin
check-returns-in_ok-left-in-Bin _ c =
    IfOk-weaker c.check_binary.result _ _ (λ x h. coded_as (kinds_of c.args.reading.kinds) (place_in c.args.reading) c.args.reading.guard _ (bin_is c.in-Bin.is c.deref-in-Bin.ensures c.deref-in-Bin-2.ensures)
    (binary_emits (place_in c.args.reading) c.args.reading.guard c.in-Bin.op c.in-Bin.at (code (kinds_of c.args.reading.kinds) (place_in c.args.reading) c.args.reading.guard (viper c.deref-in-Bin.result.now)) (λ g. code (kinds_of c.args.reading.kinds) (place_in c.args.reading) g (viper c.deref-in-Bin-2.result.now))
    (emit_of c.args.out.now) (emit_of c.check-in-Bin.new.out) (emit_of c.check_binary.new.out) (seen c.in_ok-left-in-Bin.left) (seen x) c.in_ok-left-in-Bin.ensures h)) c.check_binary.ensures

pub check_binary-returns-in-Lazy : goal.check_binary-returns-in-Lazy
check_binary-returns-in-Lazy _ c =
    IfOk-weaker c.check_lazily.result _ _ (λ x h. lazy_emits (place_in c.args.reading) c.args.reading.guard c.args.op c.args.at (gives (seen c.args.left)) (λ g. code (kinds_of c.args.reading.kinds) (place_in c.args.reading) g (viper c.args.b.now))
    (emit_of c.args.out.now) (emit_of c.args.out.now) (seen c.args.left) (gives_emits (seen c.args.left) (emit_of c.args.out.now)) (emit_of c.check_lazily.new.out) (seen x) (sym c.class_of.ensures ∙ ap class_in c.in-Lazy.is) h) c.check_lazily.ensures

pub check_binary-returns-in_ok-right-in-Division : goal.check_binary-returns-in_ok-right-in-Division
check_binary-returns-in_ok-right-in-Division _ c =
    IfOk-weaker c.division.result _ _ (λ x h. divided_emits (place_in c.args.reading) c.args.reading.guard c.args.op c.args.at (gives (seen c.args.left)) (λ g. code (kinds_of c.args.reading.kinds) (place_in c.args.reading) g (viper c.args.b.now))
    (emit_of c.args.out.now) (emit_of c.args.out.now) (seen c.args.left) (gives_emits (seen c.args.left) (emit_of c.args.out.now)) (emit_of c.check.new.out) (emit_of c.division.new.out) (seen c.in_ok-right-in-Division.right) (seen x)
    (sym c.class_of.ensures ∙ ap class_in c.in-Division.is) c.in_ok-right-in-Division.ensures h) c.division.ensures

pub check_binary-returns-in_ok-right-in-Plain : goal.check_binary-returns-in_ok-right-in-Plain
check_binary-returns-in_ok-right-in-Plain _ c =
    IfOk-weaker c.value_of.result _ _ (λ x same. valued same (plain_emits (place_in c.args.reading) c.args.reading.guard c.args.op c.args.at (gives (seen c.args.left)) (λ g. code (kinds_of c.args.reading.kinds) (place_in c.args.reading) g (viper c.args.b.now))
    (emit_of c.args.out.now) (emit_of c.args.out.now) (seen c.args.left) (gives_emits (seen c.args.left) (emit_of c.args.out.now)) _ (seen c.in_ok-right-in-Plain.right) (sym c.class_of.ensures ∙ ap class_in c.in-Plain.is) c.in_ok-right-in-Plain.ensures)) c.value_of.ensures

pub check-returns-in_ok-right-in-Choose : goal.check-returns-in_ok-right-in-Choose
check-returns-in_ok-right-in-Choose _ c =
    IfOk-weaker c.chosen.result _ _ (λ x same. coded_as (kinds_of c.args.reading.kinds) (place_in c.args.reading) c.args.reading.guard _ (choose_is c.in-Choose.is c.deref-in-Choose.ensures c.deref-in-Choose-2.ensures c.deref-in-Choose-3.ensures) (valued same
    (choice_emits (kinds_of c.args.reading.kinds) (place_in c.args.reading) c.args.reading.guard (viper c.deref-in-Choose.result.now) (viper c.deref-in-Choose-2.result.now) (viper c.deref-in-Choose-3.result.now) (emit_of c.args.out.now) (emit_of c.check-in-Choose.new.out) c.in_ok-so-in-Choose.ensures.mid (emit_of c.sides.new.out) (emit_of c.check-in-Choose-2.new.out) _ (seen c.in_ok-condition-in-Choose.condition)
    c.in_ok-so-in-Choose.so c.in_ok-so-in-Choose.otherwise (seen c.in_ok-left-in-Choose.left) (seen c.in_ok-right-in-Choose.right) c.in_ok-condition-in-Choose.ensures
    c.in_ok-so-in-Choose.ensures.first c.in_ok-so-in-Choose.ensures.second
    (read_as _ _ _ _ _ _ (viper c.deref-in-Choose-2.result.now) (length (emit_of c.sides.new.out).locals) c.under.ensures.kinds c.under.ensures.place c.under.ensures.guard c.in_ok-left-in-Choose.ensures)
    (read_as _ _ _ _ _ _ (viper c.deref-in-Choose-3.result.now) (length (emit_of c.check-in-Choose-2.new.out).locals) c.under-in-Choose.ensures.kinds c.under-in-Choose.ensures.place c.under-in-Choose.ensures.guard c.in_ok-right-in-Choose.ensures)))) c.chosen.ensures

pub check-returns-in_ok-receiver-in-Field : goal.check-returns-in_ok-receiver-in-Field
check-returns-in_ok-receiver-in-Field _ c =
    IfOk-weaker c.read_field.result _ _ (λ x h. coded_as (kinds_of c.args.reading.kinds) (place_in c.args.reading) c.args.reading.guard _ (field_is c.in-Field.is c.deref-in-Field.ensures)
    (field_emits (kinds_of c.args.reading.kinds) (place_in c.args.reading) c.args.reading.guard (viper c.deref-in-Field.result.now) c.in-Field.field c.in-Field.at (emit_of c.args.out.now) (emit_of c.check-in-Field.new.out) _ (seen c.in_ok-receiver-in-Field.receiver) (seen x) c.in_ok-receiver-in-Field.ensures h)) c.read_field.ensures

pub check-returns-in-Unfolding : goal.check-returns-in-Unfolding
check-returns-in-Unfolding _ c = IfOk-weaker c.unfold.result _ _ (λ x h. coded_as (kinds_of c.args.reading.kinds) (place_in c.args.reading) c.args.reading.guard _ (unfolding_is c.in-Unfolding.is c.deref-in-Unfolding.ensures) h) c.unfold.ensures

pub check_amount-returns-in-Wildcard : goal.check_amount-returns-in-Wildcard
check_amount-returns-in-Wildcard _ c =
    IfOk-weaker c.of.result _ _ (λ x same. subst (λ m. Emits (amount_code (kinds_of c.args.reading.kinds) (place_in c.args.reading) c.args.reading.guard m (length (emit_of c.args.out.now).locals)) (emit_of c.args.out.now) (emit_of c.args.out.now) (seen x)) (sym (ap amt_of c.in-Wildcard.is)) (valued same (gives_emits _ (emit_of c.args.out.now)))) c.of.ensures

pub check_lazily-returns : goal.check_lazily-returns
check_lazily-returns _ c =
    IfOk-weaker c.lazy_value.result _ _ (λ x same. valued same (lazily_emits c.args.reading.guard c.args.op (seen c.args.left) (λ g. code (kinds_of c.args.reading.kinds) (place_in c.args.reading) g (viper c.args.b.now))
    (emit_of c.args.out.now) (emit_of c.guard.new.self) _ c.in_ok-guard.guard (seen c.in_ok-right.right)
    (guarded_as c.args.reading.guard (c.in_ok-condition.ensures ∙ ap (λ a. right_counts c.args.op (expr_of a)) c.into_inner.ensures) c.in_ok-guard.ensures)
    (read_as _ _ _ _ _ _ (viper c.args.b.now) (length (emit_of c.guard.new.self).locals) c.under.ensures.kinds c.under.ensures.place c.under.ensures.guard c.in_ok-right.ensures))) c.lazy_value.ensures

pub fill-returns-in_ok-fact-in-Fact : goal.fill-returns-in_ok-fact-in-Fact
fill-returns-in_ok-fact-in-Fact _ c =
    on_ok_weaker c.fill_fact.result (λ h. filled_as (kinds_of c.args.reading.kinds) (place_in c.args.reading) c.args.reading.guard _ _ _ (ap assertion_of c.in-Fact.is) (fact_emits (kinds_of c.args.reading.kinds) (place_in c.args.reading) c.args.reading.guard (atom_of c.args.source.scale) c.args.source.content (viper c.in-Fact.e) (emit_of c.args.out.now) (emit_of c.check.new.out) (emit_of c.fill_fact.new.out)
    (seen c.in_ok-fact-in-Fact.fact) c.in_ok-fact-in-Fact.ensures h)) c.fill_fact.ensures

pub fill-returns-in_ok-amount-in-Acc : goal.fill-returns-in_ok-amount-in-Acc
fill-returns-in_ok-amount-in-Acc _ c =
    on_ok_weaker c.fill_access.result (λ h. filled_as (kinds_of c.args.reading.kinds) (place_in c.args.reading) c.args.reading.guard _ _ _ (ap assertion_of c.in-Acc.is) (access_emits (kinds_of c.args.reading.kinds) (place_in c.args.reading) c.args.reading.guard (atom_of c.args.source.scale) c.args.source.content (viper c.in-Acc.e) c.in-Acc.field (amt_of c.in-Acc.amount) c.in-Acc.at
    (emit_of c.args.out.now) (emit_of c.check-in-Acc.new.out) (emit_of c.check_amount.new.out) (emit_of c.fill_access.new.out) (seen c.in_ok-receiver-in-Acc.receiver) (seen c.in_ok-amount-in-Acc.amount)
    c.in_ok-receiver-in-Acc.ensures c.in_ok-amount-in-Acc.ensures (subst (λ m. Emits m (emit_of c.check_amount.new.out) (emit_of c.fill_access.new.out) tt)
    (λ i. acc_code (kinds_of c.args.reading.kinds) (place_in c.args.reading) c.args.reading.guard (atom_of c.args.source.scale) (c.of-field.ensures.number i) (c.of-field.ensures.at i) c.args.source.content (seen c.in_ok-receiver-in-Acc.receiver) (seen c.in_ok-amount-in-Acc.amount) (length (emit_of c.check_amount.new.out).locals)) h))) c.fill_access.ensures

pub fill-returns-in_ok-amount-in-Inst : goal.fill-returns-in_ok-amount-in-Inst
fill-returns-in_ok-amount-in-Inst _ c =
    on_ok_weaker c.fill_part.result (λ h. filled_as (kinds_of c.args.reading.kinds) (place_in c.args.reading) c.args.reading.guard _ _ _ (inst_is c.in-Inst.args c.in-Inst.is c.deref.ensures.value) (part_emits (kinds_of c.args.reading.kinds) (place_in c.args.reading) c.args.reading.guard (atom_of c.args.source.scale) c.args.source.content c.in-Inst.predicate (exprs_of c.deref.result.now) (amt_of c.in-Inst.amount) c.in-Inst.at
    (emit_of c.args.out.now) (emit_of c.check_all.new.out) (emit_of c.check_amount-in-Inst.new.out) (emit_of c.fill_part.new.out) (all_seen c.in_ok-args-in-Inst.args.items) (seen c.in_ok-amount-in-Inst.amount)
    c.in_ok-args-in-Inst.ensures c.in_ok-amount-in-Inst.ensures (subst (λ m. Emits m (emit_of c.check_amount-in-Inst.new.out) (emit_of c.fill_part.new.out) tt)
    (λ i. instance_code (place_in c.args.reading) c.args.reading.guard (atom_of c.args.source.scale) (c.of-predicate.ensures.number i) (c.of-predicate.ensures.at i) c.args.source.content (all_seen c.in_ok-args-in-Inst.args.items) (seen c.in_ok-amount-in-Inst.amount) (length (emit_of c.check_amount-in-Inst.new.out).locals)) h))) c.fill_part.ensures

pub fill-returns-in_ok-fill-in-And : goal.fill-returns-in_ok-fill-in-And
fill-returns-in_ok-fill-in-And _ c =
    let parts = c.in_ok-left-in-And.ensures.parts in
    on_ok_weaker c.fill-in-And.result (λ h. filled_as (kinds_of c.args.reading.kinds) (place_in c.args.reading) c.args.reading.guard _ _ _ (and_is c.in-And.is c.deref-in-And.ensures c.deref-in-And-2.ensures) (both_emit (kinds_of c.args.reading.kinds) (place_in c.args.reading) c.args.reading.guard (atom_of c.args.source.scale) c.args.source.content (assertion_of c.deref-in-And.result.now) (assertion_of c.deref-in-And-2.result.now)
    (emit_of c.args.out.now) parts.one parts.two (emit_of c.split.new.out) (emit_of c.fill.new.out) (emit_of c.fill-in-And.new.out) c.in_ok-left-in-And.left.content c.in_ok-left-in-And.right.content parts.first parts.second parts.taken
    (scaled_as (kinds_of c.args.reading.kinds) (place_in c.args.reading) c.args.reading.guard (length (emit_of c.split.new.out).locals) (assertion_of c.deref-in-And.result.now) c.in_ok-left-in-And.left.content (ap atom_of c.in_ok-left-in-And.ensures.scales.0) c.in_ok-fill-in-And.ensures) (scaled_as (kinds_of c.args.reading.kinds) (place_in c.args.reading) c.args.reading.guard (length (emit_of c.fill.new.out).locals) (assertion_of c.deref-in-And-2.result.now) c.in_ok-left-in-And.right.content (ap atom_of c.in_ok-left-in-And.ensures.scales.1) h))) c.fill-in-And.ensures

pub fill-returns-in_ok-fill-in-Implies : goal.fill-returns-in_ok-fill-in-Implies
fill-returns-in_ok-fill-in-Implies _ c =
    on_ok_weaker c.fill_nothing.result (λ h. filled_as (kinds_of c.args.reading.kinds) (place_in c.args.reading) c.args.reading.guard _ _ _ (implies_is c.in-Implies.is c.deref-in-Implies.ensures) (implied_emits (kinds_of c.args.reading.kinds) (place_in c.args.reading) c.args.reading.guard (atom_of c.args.source.scale) c.args.source.content (viper c.in-Implies.e) (assertion_of c.deref-in-Implies.result.now)
    (emit_of c.args.out.now) (emit_of c.check-in-Implies.new.out) c.in_ok-so-in-Implies.ensures.mid (emit_of c.sides.new.out) (emit_of c.fill-in-Implies.new.out) (emit_of c.fill_nothing.new.out) (seen c.in_ok-condition-in-Implies.condition)
    c.in_ok-so-in-Implies.so c.in_ok-so-in-Implies.otherwise c.in_ok-condition-in-Implies.ensures c.in_ok-so-in-Implies.ensures.first c.in_ok-so-in-Implies.ensures.second
    (fill_as _ _ _ _ _ _ (atom_of c.args.source.scale) (assertion_of c.deref-in-Implies.result.now) c.args.source.content (length (emit_of c.sides.new.out).locals) c.under.ensures.kinds c.under.ensures.place c.under.ensures.guard c.in_ok-fill-in-Implies.ensures) (put_under (one (s.Assume (is_unit c.args.source.content))) (length (emit_of c.fill-in-Implies.new.out).locals) c.under-in-Implies.ensures.guard h))) c.fill_nothing.ensures

pub fill-returns-in_ok-fill-in-Choose : goal.fill-returns-in_ok-fill-in-Choose
fill-returns-in_ok-fill-in-Choose _ c =
    on_ok_weaker c.fill-in-Choose-2.result (λ h. filled_as (kinds_of c.args.reading.kinds) (place_in c.args.reading) c.args.reading.guard _ _ _ (choice_is c.in-Choose.is c.deref-in-Choose.ensures c.deref-in-Choose-2.ensures) (chosen_emits (kinds_of c.args.reading.kinds) (place_in c.args.reading) c.args.reading.guard (atom_of c.args.source.scale) c.args.source.content (viper c.in-Choose.e) (assertion_of c.deref-in-Choose.result.now) (assertion_of c.deref-in-Choose-2.result.now)
    (emit_of c.args.out.now) (emit_of c.check-in-Choose.new.out) c.in_ok-so-in-Choose.ensures.mid (emit_of c.sides-in-Choose.new.out) (emit_of c.fill-in-Choose.new.out) (emit_of c.fill-in-Choose-2.new.out) (seen c.in_ok-condition-in-Choose.condition)
    c.in_ok-so-in-Choose.so c.in_ok-so-in-Choose.otherwise c.in_ok-condition-in-Choose.ensures c.in_ok-so-in-Choose.ensures.first c.in_ok-so-in-Choose.ensures.second
    (fill_as _ _ _ _ _ _ (atom_of c.args.source.scale) (assertion_of c.deref-in-Choose.result.now) c.args.source.content (length (emit_of c.sides-in-Choose.new.out).locals) c.under-in-Choose.ensures.kinds c.under-in-Choose.ensures.place c.under-in-Choose.ensures.guard c.in_ok-fill-in-Choose.ensures)
    (fill_as _ _ _ _ _ _ (atom_of c.args.source.scale) (assertion_of c.deref-in-Choose-2.result.now) c.args.source.content (length (emit_of c.fill-in-Choose.new.out).locals) c.under-in-Choose-2.ensures.kinds c.under-in-Choose-2.ensures.place c.under-in-Choose-2.ensures.guard h))) c.fill-in-Choose-2.ensures

pub read_inside-returns : goal.read_inside-returns
read_inside-returns _ c =
    let own = maps_of c.args.own.now in
    let inside = c.with_now-inside.ensures in
    let within = c.in_body-body.ensures in
    IfOk-weaker c.check.result _ _ (λ x h. inside_emits (body_kinds (kinds_of c.args.reading.kinds) c.args.opened.now.predicate) (with_now own (with_vars c.args.args.now (place_in c.args.reading))) c.args.reading.guard (assertion_of c.args.opened.now.body)
    (kinds_of c.args.reading.kinds) (with_now own (place_in c.args.reading)) (viper c.args.opened.now.inner) (atom_of c.args.source.scale) c.args.source.content (emit_of c.args.out.now) (emit_of c.fill.new.out) (emit_of c.check.new.out) (seen x)
    (fill_as _ _ _ _ _ _ (atom_of c.args.source.scale) (assertion_of c.args.opened.now.body) c.args.source.content (length (emit_of c.args.out.now).locals) (within.kinds ∙ ap (λ k. body_kinds k c.args.opened.now.predicate) inside.kinds) (within.place ∙ ap (with_vars c.args.args.now) inside.place) (within.guard ∙ inside.guard) c.in_ok-fill.ensures)
    (read_as _ _ _ _ _ _ (viper c.args.opened.now.inner) (length (emit_of c.fill.new.out).locals) inside.kinds inside.place inside.guard h)) c.check.ensures

pub unfold-returns : goal.unfold-returns
unfold-returns _ c =
    IfOk-weaker c.unfold_at.result _ _ (λ x h. unfolding_emits (kinds_of c.args.reading.kinds) (place_in c.args.reading) c.args.reading.guard c.args.opened.now.predicate (exprs_of c.args.opened.now.args.items) (viper c.args.opened.now.amount) (assertion_of c.args.opened.now.body) (viper c.args.opened.now.inner) c.args.opened.now.place
    (emit_of c.args.out.now) (emit_of c.check_all.new.out) (emit_of c.check.new.out) (emit_of c.in_locals.new.out) (emit_of c.atomic.new.out) (emit_of c.unfold_at.new.out) (all_seen c.in_ok-args.args.items) (seen c.in_ok-amount.amount)
    (located_of c.in_ok-args-2.args) (held_of c.in_ok-amount-2.amount) (seen x) (all_coded_as (kinds_of c.args.reading.kinds) (place_in c.args.reading) c.args.reading.guard _ (ap exprs_of (sym c.deref.ensures.value)) c.in_ok-args.ensures) c.in_ok-amount.ensures c.in_ok-args-2.ensures c.in_ok-amount-2.ensures h) c.unfold_at.ensures

pub unfold_at-returns : goal.unfold_at-returns
unfold_at-returns _ c =
    let o = c.args.opened.now in
    let own = c.in_ok-own.ensures.0 in
    let locals = c.deref.ensures.value in
    IfOk-weaker c.read_inside.result _ _ (λ x h. unfolded_emits (kinds_of c.args.reading.kinds) (place_in c.args.reading) c.args.reading.guard o.predicate (exprs_of o.args.items) (viper o.amount) (assertion_of o.body) (viper o.inner) o.place (located_of c.args.args) (held_of c.args.amount)
    (emit_of c.args.out.now) (emit_of c.fresh_state.new.out) (emit_of c.fresh_scalar.new.self) (emit_of c.take_copy.new.out) (emit_of c.read_inside.new.out) c.in_ok-content.content (seen x) c.in_ok-own.ensures.1 c.in_ok-content.ensures
    (put_as c.args.reading.guard (opening_is (place_in c.args.reading) (stmts_of c.args.args.sets.items) (stmts_of c.args.amount.sets.items) (stmts_of c.add_all.new.items.items) o.predicate (atom_of c.args.amount.atom) c.in_ok-content.content o.place
    (all_added c.args.args.sets.items c.args.amount.sets.items c.in_ok-add_all.ensures refl) own locals) c.in_ok-take_copy.ensures)
    (inside_as (kinds_of c.args.reading.kinds) (place_in c.args.reading) c.args.reading.guard (opened_of o) (atom_of c.args.amount.atom) c.in_ok-content.content (length (emit_of c.take_copy.new.out).locals) c.deref-2.ensures.value own h)) c.read_inside.ensures

pub check_all-loop-e-preserved : goal.check_all-loop-e-preserved
check_all-loop-e-preserved _ c =
    check_step (kinds_of c.args.reading.kinds) (place_in c.args.reading) c.args.reading.guard c.e-item.result (drop (c.loop-e.e-index + 1) c.args.es.now) c.args.es.now (emit_of c.args.out.now) (emit_of c.loop-e.out) (emit_of c.check.new.out) (all_seen c.loop-e.operands.items) (all_seen c.add.new.items.items) (seen c.in_ok-check.field-0)
    (ap all_seen c.in_ok-add.ensures ∙ all_seen-append c.loop-e.operands.items c.in_ok-check.field-0) c.in_ok-check.ensures
    (subst (λ zs. (new : Emit) (more : List Operand) → Emits (codes (kinds_of c.args.reading.kinds) (place_in c.args.reading) c.args.reading.guard (exprs_of zs) (length (emit_of c.loop-e.out).locals)) (emit_of c.loop-e.out) new more →
    Emits (codes (kinds_of c.args.reading.kinds) (place_in c.args.reading) c.args.reading.guard (exprs_of c.args.es.now) (length (emit_of c.args.out.now).locals)) (emit_of c.args.out.now) new (all_seen c.loop-e.operands.items ++ more))
    (next_item c.args.es.now c.loop-e.e-index c.e-item.result c.loop-e-test.true c.e-item.is) c.loop-e.invariant)

pub check_all-returns : goal.check_all-returns
check_all-returns _ c =
    valued (sym (append-nil (all_seen c.loop-e.operands.items))) (c.loop-e.invariant (emit_of c.loop-e.out) []
    (subst (λ zs. Emits (codes (kinds_of c.args.reading.kinds) (place_in c.args.reading) c.args.reading.guard (exprs_of zs) (length (emit_of c.loop-e.out).locals)) (emit_of c.loop-e.out) (emit_of c.loop-e.out) []) (sym (dropped_all c.loop-e.e-index c.args.es.now c.loop-e-test.false)) (gives_emits [] (emit_of c.loop-e.out))))
