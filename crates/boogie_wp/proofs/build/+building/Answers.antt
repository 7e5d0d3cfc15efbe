use Rattle.std.proofs.Common.{rules, ◌∙◌, ℕ, ap, refl, sym}
use Rattle.std.proofs.lemmas.Result.{on_ok_weaker}
use Rattle.boogie_tree.specs.Whole.{stmts_of}
use Rattle.boogie_tree.specs.declared.stmts.BStmt.{the_lemmas}
use Rattle.boogie_wp.specs.Build.{ConditionsBuilder}
use Rattle.boogie_wp.specs.Changes.{changed}
use Rattle.boogie_wp.specs.View.{begun_of, builder_of}
use Rattle.boogie_wp.proofs.CodeLaws.{left_first, left_room, left_next, left_last, fork_made, if_room_first, if_room_second, if_made, either_room_first, either_room_second, either_made}
use Rattle.boogie_wp.proofs.build.+building.Goals as goal

abbrev next : ConditionsBuilder → ℕ
next b = b.next

-- ---- a block

pub build-loop-stmt-init : goal.build-loop-stmt-init
build-loop-stmt-init t c = (left_first c.args.n c.args.stmts.now (builder_of c.args.to.now) c.requires.room, refl)

pub build-build_stmt-requires : goal.build-build_stmt-requires
build-build_stmt-requires t c = (
  search (rules, the_lemmas),
  (
    c.requires.names,
    left_room c.args.n c.args.stmts.now c.loop-stmt.stmt-index _ (builder_of c.loop-stmt.to) c.loop-stmt.invariant.0 c.stmt-item.result c.loop-stmt-test.true c.stmt-item.is,
  ),
)

pub build-loop-stmt-preserved : goal.build-loop-stmt-preserved
build-loop-stmt-preserved t c = (
  left_next c.args.n c.args.stmts.now c.loop-stmt.stmt-index _ (builder_of c.loop-stmt.to) c.loop-stmt.invariant.0 c.stmt-item.result c.loop-stmt-test.true c.stmt-item.is
      (builder_of c.build_stmt.new.to) c.in_ok-build_stmt.ensures.goes,
  c.in_ok-build_stmt.ensures.begun ∙ c.loop-stmt.invariant.1,
)

pub build-returns : goal.build-returns
build-returns t c = record {
  goes = left_last c.args.n c.args.stmts.now c.loop-stmt.stmt-index _ (builder_of c.loop-stmt.to) c.loop-stmt.invariant.0 c.loop-stmt-test.false;
  begun = c.loop-stmt.invariant.1;
}

pub build_stmt-build-requires : goal.build_stmt-build-requires
build_stmt-build-requires t c = (
  search (rules, the_lemmas),
  (
    c.requires.names,
    if_room_first c.args.n c.in-If.e c.in-If.then c.in-If.other c.args.stmt.now c.deref-in-If.result.now c.in-If.other.items c.in-If.is c.deref-in-If.ensures.value refl
        (builder_of c.args.to.now) (builder_of c.condition.new.to) (builder_of c.enter.new.self) c.requires.room (ap next c.in_ok-name-in-If.ensures.goes) (ap next c.in_ok-start-in-If.ensures.goes),
  ),
)

pub build_stmt-build-requires-in-If : goal.build_stmt-build-requires-in-If
build_stmt-build-requires-in-If t c = (
  search (rules, the_lemmas),
  (
    c.requires.names,
    if_room_second c.args.n c.in-If.e c.in-If.then c.in-If.other c.args.stmt.now c.deref-in-If.result.now c.deref-in-If-2.result.now c.in-If.is c.deref-in-If.ensures.value c.deref-in-If-2.ensures.value
        (builder_of c.args.to.now) (builder_of c.condition.new.to) (builder_of c.enter.new.self) (builder_of c.build.new.to) (builder_of c.back.new.self) c.requires.room
        (ap next c.in_ok-name-in-If.ensures.goes) (ap next c.in_ok-start-in-If.ensures.goes) c.in_ok-build-in-If.ensures.goes (ap next c.in_ok-first-in-If.ensures.goes),
  ),
)

pub build_stmt-build-requires-in-Either : goal.build_stmt-build-requires-in-Either
build_stmt-build-requires-in-Either t c = (
  search (rules, the_lemmas),
  (
    c.requires.names,
    either_room_first c.args.n c.in-Either.then c.in-Either.other c.args.stmt.now c.deref-in-Either.result.now c.in-Either.other.items c.in-Either.is c.deref-in-Either.ensures.value refl
        (builder_of c.args.to.now) (builder_of c.pass-name.new.self) (builder_of c.enter-in-Either.new.self) c.requires.room (ap next c.pass-name.ensures.goes) (ap next c.in_ok-start-in-Either.ensures.goes),
  ),
)

pub build_stmt-build-requires-in-Either-2 : goal.build_stmt-build-requires-in-Either-2
build_stmt-build-requires-in-Either-2 t c = (
  search (rules, the_lemmas),
  (
    c.requires.names,
    either_room_second c.args.n c.in-Either.then c.in-Either.other c.args.stmt.now c.deref-in-Either.result.now c.deref-in-Either-2.result.now c.in-Either.is c.deref-in-Either.ensures.value c.deref-in-Either-2.ensures.value
        (builder_of c.args.to.now) (builder_of c.pass-name.new.self) (builder_of c.enter-in-Either.new.self) (builder_of c.build-in-Either.new.to) (builder_of c.back-in-Either.new.self) c.requires.room
        (ap next c.pass-name.ensures.goes) (ap next c.in_ok-start-in-Either.ensures.goes) c.in_ok-build-in-Either.ensures.goes (ap next c.in_ok-first-in-Either.ensures.goes),
  ),
)

-- the names with which the second branch begins, and those with which the first one ended
pub build_stmt-returns-in_ok-build-in-If-2 : goal.build_stmt-returns-in_ok-build-in-If-2
build_stmt-returns-in_ok-build-in-If-2 t c =
    let began = c.in_ok-build-in-If.ensures.begun ∙ c.in_ok-start-in-If.ensures.begun in
    let again = c.in_ok-build-in-If-2.ensures.begun ∙ c.in_ok-first-in-If.ensures.begun ∙ began in
    record {
      goes = on_ok_weaker c.join.result (λ made.
          if_made c.args.n c.in-If.e c.in-If.then c.in-If.other c.args.stmt.now c.deref-in-If.result.now c.deref-in-If-2.result.now c.in-If.is c.deref-in-If.ensures.value c.deref-in-If-2.ensures.value
          (builder_of c.args.to.now) (builder_of c.condition.new.to) (builder_of c.join.new.self) c.in_ok-name-in-If.name c.in_ok-name-in-If.ensures.name c.in_ok-name-in-If.ensures.goes
          (fork_made c.args.n c.in_ok-name-in-If.name (stmts_of c.deref-in-If.result.now) (stmts_of c.deref-in-If-2.result.now) (builder_of c.condition.new.to) (builder_of c.enter.new.self) (builder_of c.build.new.to)
          (builder_of c.back.new.self) (builder_of c.build-in-If.new.to) (builder_of c.join.new.self) (begun_of c.build.new.to) (changed c.in_ok-first-in-If.first.changes.items (begun_of c.build-in-If.new.to))
          c.in_ok-start-in-If.start.path c.in_ok-first-in-If.first.path c.in_ok-start-in-If.ensures.goes began c.in_ok-start-in-If.ensures.side.1 c.in_ok-build-in-If.ensures.goes (ap (changed c.in_ok-first-in-If.first.changes.items) (again ∙ sym began) ∙ c.in_ok-first-in-If.ensures.side.0)
          c.in_ok-first-in-If.ensures.side.1 c.in_ok-first-in-If.ensures.goes c.in_ok-build-in-If-2.ensures.goes made)) c.join.ensures.goes;
      begun = on_ok_weaker c.join.result (λ made. made ∙ ap (changed c.in_ok-start-in-If.start.changes.items) again ∙ c.in_ok-start-in-If.ensures.side.0 ∙ c.in_ok-name-in-If.ensures.begun) c.join.ensures.begun;
    }

-- the names with which the second branch begins, and those with which the first one ended
pub build_stmt-returns-in_ok-build-in-Either-2 : goal.build_stmt-returns-in_ok-build-in-Either-2
build_stmt-returns-in_ok-build-in-Either-2 t c =
    let began = c.in_ok-build-in-Either.ensures.begun ∙ c.in_ok-start-in-Either.ensures.begun in
    let again = c.in_ok-build-in-Either-2.ensures.begun ∙ c.in_ok-first-in-Either.ensures.begun ∙ began in
    record {
      goes = on_ok_weaker c.join-in-Either.result (λ made.
          either_made c.args.n c.in-Either.then c.in-Either.other c.args.stmt.now c.deref-in-Either.result.now c.deref-in-Either-2.result.now c.in-Either.is c.deref-in-Either.ensures.value c.deref-in-Either-2.ensures.value
          (builder_of c.args.to.now) (builder_of c.pass-name.new.self) (builder_of c.join-in-Either.new.self) c.pass-name.result c.pass-name.ensures.name c.pass-name.ensures.goes
          (fork_made c.args.n c.pass-name.result (stmts_of c.deref-in-Either.result.now) (stmts_of c.deref-in-Either-2.result.now) (builder_of c.pass-name.new.self) (builder_of c.enter-in-Either.new.self) (builder_of c.build-in-Either.new.to)
          (builder_of c.back-in-Either.new.self) (builder_of c.build-in-Either-2.new.to) (builder_of c.join-in-Either.new.self) (begun_of c.build-in-Either.new.to) (changed c.in_ok-first-in-Either.first.changes.items (begun_of c.build-in-Either-2.new.to))
          c.in_ok-start-in-Either.start.path c.in_ok-first-in-Either.first.path c.in_ok-start-in-Either.ensures.goes began c.in_ok-start-in-Either.ensures.side.1 c.in_ok-build-in-Either.ensures.goes (ap (changed c.in_ok-first-in-Either.first.changes.items) (again ∙ sym began) ∙ c.in_ok-first-in-Either.ensures.side.0)
          c.in_ok-first-in-Either.ensures.side.1 c.in_ok-first-in-Either.ensures.goes c.in_ok-build-in-Either-2.ensures.goes made)) c.join-in-Either.ensures.goes;
      begun = on_ok_weaker c.join-in-Either.result (λ made. made ∙ ap (changed c.in_ok-start-in-Either.start.changes.items) again ∙ c.in_ok-start-in-Either.ensures.side.0 ∙ c.pass-name.ensures.begun) c.join-in-Either.ensures.begun;
    }
