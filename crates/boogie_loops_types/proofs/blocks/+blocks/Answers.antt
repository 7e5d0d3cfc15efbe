use Rattle.std.proofs.Common.{refl, sym, ap, ◌∙◌, map}
use Rattle.lemmas.proofs.Tests.{last_of_two, first_of_two}
use Rattle.boogie_types.specs.Typed.{types_in}
use Rattle.boogie_loops.specs.View.{wproc_of}
use Rattle.boogie_loops.specs.WideTypes.{is_wide_stmt}
use Rattle.boogie_loops_types.proofs.NodeLaws.{if_is, either_is, while_is}
use Rattle.boogie_loops_types.proofs.blocks.+blocks.Goals as goal

pub is_typed_stmt-returns-then-is_typed : goal.is_typed_stmt-returns-then-is_typed
is_typed_stmt-returns-then-is_typed t c =
    last_of_two (sym c.is_bool-in-If.ensures ∙ c.if-not-is_bool.false) (last_of_two (sym c.is_typed.ensures ∙ c.if-is_typed.true) c.is_typed-then-is_typed.ensures)
    ∙ sym (ap (is_wide_stmt (map wproc_of c.args.procs.now.all.now) (types_in c.args.locals.now) c.args.params) (if_is c.in-If.then c.in-If.other c.in-If.is c.deref-in-If.ensures.value c.deref-then-is_typed.ensures.value))

pub is_typed_stmt-returns-else-is_typed : goal.is_typed_stmt-returns-else-is_typed
is_typed_stmt-returns-else-is_typed t c =
    last_of_two (sym c.is_bool-in-If.ensures ∙ c.if-not-is_bool.false) (first_of_two _ c.is_typed.ensures c.if-is_typed.false)
    ∙ sym (ap (is_wide_stmt (map wproc_of c.args.procs.now.all.now) (types_in c.args.locals.now) c.args.params) (if_is c.in-If.then c.in-If.other c.in-If.is c.deref-in-If.ensures.value refl))

pub is_typed_stmt-returns-then-is_typed-2 : goal.is_typed_stmt-returns-then-is_typed-2
is_typed_stmt-returns-then-is_typed-2 t c =
    last_of_two (sym c.is_typed-in-Either.ensures ∙ c.if-is_typed-2.true) c.is_typed-then-is_typed-2.ensures
    ∙ sym (ap (is_wide_stmt (map wproc_of c.args.procs.now.all.now) (types_in c.args.locals.now) c.args.params) (either_is c.in-Either.then c.in-Either.other c.in-Either.is c.deref-in-Either.ensures.value c.deref-then-is_typed-2.ensures.value))

pub is_typed_stmt-returns-else-is_typed-2 : goal.is_typed_stmt-returns-else-is_typed-2
is_typed_stmt-returns-else-is_typed-2 t c =
    first_of_two _ c.is_typed-in-Either.ensures c.if-is_typed-2.false
    ∙ sym (ap (is_wide_stmt (map wproc_of c.args.procs.now.all.now) (types_in c.args.locals.now) c.args.params) (either_is c.in-Either.then c.in-Either.other c.in-Either.is c.deref-in-Either.ensures.value refl))

pub is_typed_stmt-returns-else-not-are_bools : goal.is_typed_stmt-returns-else-not-are_bools
is_typed_stmt-returns-else-not-are_bools t c =
    last_of_two (sym c.is_guard.ensures ∙ c.if-not-is_guard.false) (last_of_two (sym c.are_bools.ensures ∙ c.if-not-are_bools.false) c.is_typed-in-While.ensures)
    ∙ sym (ap (is_wide_stmt (map wproc_of c.args.procs.now.all.now) (types_in c.args.locals.now) c.args.params)
    (while_is c.in-While.invariants c.in-While.body c.in-While.is c.deref-else-not-is_guard.ensures.value c.deref-in-While.ensures.value))
