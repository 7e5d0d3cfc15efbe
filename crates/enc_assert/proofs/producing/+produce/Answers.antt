-- What is emitted for each form, by what is emitted for its parts.
use Rattle.std.proofs.Common.{length, ap}
use Rattle.std.proofs.lemmas.Result.{on_ok_weaker}
use Rattle.viper_core.specs.View.{expr_of as viper, assertion_of, amt_of, exprs_of}
use Rattle.viper_core.proofs.NodeLaws.{inst_is, and_is, implies_is, choice_is}
use Rattle.boogie_tree.specs.Whole.{expr_of}
use Rattle.enc_expr.specs.Emits.{emit_of}
use Rattle.enc_expr.specs.Encoding.{code, amount_code, codes}
use Rattle.enc_expr.specs.View.{seen, atom_of, kinds_of, place_in}
use Rattle.enc_expr.proofs.EmittedForms.{guarded_as}
use Rattle.enc_assert.specs.Access.{access_of}
use Rattle.enc_assert.specs.Encoding.{produce_code, field_target, instance_target, produce_amount}
use Rattle.enc_assert.proofs.EmittedRows.{access_emits, fact_emits, implied_emits, choice_emits, both_emit, produced_as, produced_is}
use Rattle.boogie_tree.specs.Stmt as s
use Rattle.enc_assert.proofs.producing.+produce.Goals as goal

pub returns-in_ok-fact-in-Fact : goal.returns-in_ok-fact-in-Fact
returns-in_ok-fact-in-Fact _ c =
    on_ok_weaker c.produce_fact.result (λ h. produced_is (kinds_of c.args.reading.kinds) (place_in c.args.reading) c.args.reading.guard (atom_of c.args.scale) _ (ap assertion_of c.in-Fact.is)
    (fact_emits (kinds_of c.args.reading.kinds) (place_in c.args.reading) c.args.reading.guard (viper c.in-Fact.e) (emit_of c.args.out.now) (emit_of c.check.new.out) (seen c.in_ok-fact-in-Fact.fact) c.in_ok-fact-in-Fact.ensures s.Assume (emit_of c.produce_fact.new.out) h)) c.produce_fact.ensures

pub returns-in_ok-access-in-Acc : goal.returns-in_ok-access-in-Acc
returns-in_ok-access-in-Acc _ c =
    on_ok_weaker c.produce_access.result (λ h. produced_is (kinds_of c.args.reading.kinds) (place_in c.args.reading) c.args.reading.guard (atom_of c.args.scale) _ (ap assertion_of c.in-Acc.is)
    (access_emits (code (kinds_of c.args.reading.kinds) (place_in c.args.reading) c.args.reading.guard (viper c.in-Acc.e)) (amount_code (kinds_of c.args.reading.kinds) (place_in c.args.reading) c.args.reading.guard (amt_of c.in-Acc.amount)) (λ x. field_target c.in-Acc.field x) (produce_amount (place_in c.args.reading) c.args.reading.guard (atom_of c.args.scale) c.in-Acc.at (amt_of c.in-Acc.amount))
    (emit_of c.args.out.now) (emit_of c.read_place.new.out) (emit_of c.produce_access.new.out) (access_of c.in_ok-access-in-Acc.access) c.in_ok-access-in-Acc.ensures h)) c.produce_access.ensures

pub returns-in_ok-access-in-Inst : goal.returns-in_ok-access-in-Inst
returns-in_ok-access-in-Inst _ c =
    on_ok_weaker c.produce_access-in-Inst.result (λ h. produced_is (kinds_of c.args.reading.kinds) (place_in c.args.reading) c.args.reading.guard (atom_of c.args.scale) _ (inst_is c.in-Inst.args c.in-Inst.is c.deref.ensures.value)
    (access_emits (codes (kinds_of c.args.reading.kinds) (place_in c.args.reading) c.args.reading.guard (exprs_of c.deref.result.now)) (amount_code (kinds_of c.args.reading.kinds) (place_in c.args.reading) c.args.reading.guard (amt_of c.in-Inst.amount)) (λ x. instance_target c.in-Inst.predicate x) (produce_amount (place_in c.args.reading) c.args.reading.guard (atom_of c.args.scale) c.in-Inst.at (amt_of c.in-Inst.amount))
    (emit_of c.args.out.now) (emit_of c.read_part.new.out) (emit_of c.produce_access-in-Inst.new.out) (access_of c.in_ok-access-in-Inst.access) c.in_ok-access-in-Inst.ensures h)) c.produce_access-in-Inst.ensures

pub returns-in_ok-produce-in-And : goal.returns-in_ok-produce-in-And
returns-in_ok-produce-in-And _ c =
    on_ok_weaker c.produce-in-And.result (λ h. produced_is (kinds_of c.args.reading.kinds) (place_in c.args.reading) c.args.reading.guard (atom_of c.args.scale) _ (and_is c.in-And.is c.deref-in-And.ensures c.deref-in-And-2.ensures)
    (both_emit (produce_code (kinds_of c.args.reading.kinds) (place_in c.args.reading) c.args.reading.guard (atom_of c.args.scale) (assertion_of c.deref-in-And.result.now)) (produce_code (kinds_of c.args.reading.kinds) (place_in c.args.reading) c.args.reading.guard (atom_of c.args.scale) (assertion_of c.deref-in-And-2.result.now))
    (emit_of c.args.out.now) (emit_of c.produce.new.out) (emit_of c.produce-in-And.new.out) c.in_ok-produce-in-And.ensures h)) c.produce-in-And.ensures

pub returns-in_ok-so-in-Implies : goal.returns-in_ok-so-in-Implies
returns-in_ok-so-in-Implies _ c =
    on_ok_weaker c.produce-in-Implies.result (λ h. produced_is (kinds_of c.args.reading.kinds) (place_in c.args.reading) c.args.reading.guard (atom_of c.args.scale) _ (implies_is c.in-Implies.is c.deref-in-Implies.ensures)
    (implied_emits (kinds_of c.args.reading.kinds) (place_in c.args.reading) c.args.reading.guard (viper c.in-Implies.e) (emit_of c.args.out.now) (emit_of c.check-in-Implies.new.out) (seen c.in_ok-condition-in-Implies.condition) c.in_ok-condition-in-Implies.ensures
    (λ g. produce_code (kinds_of c.args.reading.kinds) (place_in c.args.reading) g (atom_of c.args.scale) (assertion_of c.deref-in-Implies.result.now)) (emit_of c.guard.new.self) (emit_of c.produce-in-Implies.new.out) c.in_ok-so-in-Implies.so
    (guarded_as c.args.reading.guard (ap expr_of c.into_inner.ensures) c.in_ok-so-in-Implies.ensures)
    (produced_as (atom_of c.args.scale) (assertion_of c.deref-in-Implies.result.now) (length (emit_of c.guard.new.self).locals) c.under.ensures.kinds c.under.ensures.place c.under.ensures.guard h))) c.produce-in-Implies.ensures

pub returns-in_ok-produce-in-Choose : goal.returns-in_ok-produce-in-Choose
returns-in_ok-produce-in-Choose _ c =
    let guards = c.in_ok-so-in-Choose.ensures in
    on_ok_weaker c.produce-in-Choose-2.result (λ h. produced_is (kinds_of c.args.reading.kinds) (place_in c.args.reading) c.args.reading.guard (atom_of c.args.scale) _ (choice_is c.in-Choose.is c.deref-in-Choose.ensures c.deref-in-Choose-2.ensures)
    (choice_emits (kinds_of c.args.reading.kinds) (place_in c.args.reading) c.args.reading.guard (viper c.in-Choose.e) (emit_of c.args.out.now) (emit_of c.check-in-Choose.new.out) (seen c.in_ok-condition-in-Choose.condition) c.in_ok-condition-in-Choose.ensures
    (λ g. produce_code (kinds_of c.args.reading.kinds) (place_in c.args.reading) g (atom_of c.args.scale) (assertion_of c.deref-in-Choose.result.now)) (λ g. produce_code (kinds_of c.args.reading.kinds) (place_in c.args.reading) g (atom_of c.args.scale) (assertion_of c.deref-in-Choose-2.result.now))
    guards.mid (emit_of c.sides.new.out) (emit_of c.produce-in-Choose.new.out) (emit_of c.produce-in-Choose-2.new.out) c.in_ok-so-in-Choose.so c.in_ok-so-in-Choose.otherwise guards.first guards.second
    (produced_as (atom_of c.args.scale) (assertion_of c.deref-in-Choose.result.now) (length (emit_of c.sides.new.out).locals) c.under-in-Choose.ensures.kinds c.under-in-Choose.ensures.place c.under-in-Choose.ensures.guard c.in_ok-produce-in-Choose.ensures)
    (produced_as (atom_of c.args.scale) (assertion_of c.deref-in-Choose-2.result.now) (length (emit_of c.produce-in-Choose.new.out).locals) c.under-in-Choose-2.ensures.kinds c.under-in-Choose-2.ensures.place c.under-in-Choose-2.ensures.guard h))) c.produce-in-Choose-2.ensures
