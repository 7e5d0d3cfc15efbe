use Rattle.std.proofs.Common.{◌≡◌, ◌∙◌, subst, sym, ap, map, drop, ◌+◌, ◌++◌, ◌∷◌, []}
use Rattle.std.specs.Bool.{OnTrue}
use Rattle.std.proofs.lemmas.List.{at_drop_all, map-append}
use Rattle.lemmas.proofs.Lists.{next_item}
use Rattle.viper_scope.proofs.Judged.{at_error, failed, refuses_along}
use Rattle.viper_types.specs.Answers.{target_of, targets_of}
use Rattle.viper_types.specs.Stepping.{call_targets, numbers_in, target}
use Rattle.viper_types.proofs.Listing.{numbers_in-push}
use Rattle.viper_types.proofs.TargetLaws.{new_target, same_target, next_target}
use Rattle.viper_types.proofs.assigned.call_targets.Goals as goal

pub returns-then-not-branch : goal.returns-then-not-branch
returns-then-not-branch c =
    let before = map target_of c.loop-x.targets.items in
    let v = target_of c.in_ok-target.target in
    let left = next_item c.args.names.now c.loop-x.x-index c.x-item.result c.loop-x-test.true c.x-item.is in
    sym c.loop-x.invariant.rest ∙ ap (call_targets c.args.scope.now before) left ∙
    same_target c.args.scope.now before c.x-item.result _ v c.in_ok-target.ensures
    (new_target v before c.loop-x.seen.keys _ _ c.loop-x.invariant.seen c.in_ok-list_new.ensures.is_new c.if-not-branch.true)

pub loop-x-preserved : goal.loop-x-preserved
loop-x-preserved c =
    let before = map target_of c.loop-x.targets.items in
    let v = target_of c.in_ok-target.target in
    let left = next_item c.args.names.now c.loop-x.x-index c.x-item.result c.loop-x-test.true c.x-item.is in
    let after : map target_of c.push.new.self.items ≡ before ++ v ∷ [] = ap (map target_of) c.in_ok-push.ensures.items ∙ map-append _ _ _ in
    record {
      seen = subst (λ b. OnTrue b (c.list_new.new.listed.keys ≡ c.loop-x.seen.keys ++ v.number ∷ [])) c.if-not-branch.false c.in_ok-list_new.ensures.last ∙
          ap (λ ns. ns ++ v.number ∷ []) c.loop-x.invariant.seen ∙ sym (numbers_in-push before v) ∙ ap numbers_in (sym after);
      rest = ap (λ vs. call_targets c.args.scope.now vs (drop (c.loop-x.x-index + 1) c.args.names.now)) after ∙
          sym (next_target c.args.scope.now before c.x-item.result _ v c.in_ok-target.ensures
          (new_target v before c.loop-x.seen.keys _ _ c.loop-x.invariant.seen c.in_ok-list_new.ensures.is_new c.if-not-branch.false)) ∙
          sym (ap (call_targets c.args.scope.now before) left) ∙ c.loop-x.invariant.rest;
    }

pub returns-in_err-target : goal.returns-in_err-target
returns-in_err-target c =
    let before = map target_of c.loop-x.targets.items in
    let left = next_item c.args.names.now c.loop-x.x-index c.x-item.result c.loop-x-test.true c.x-item.is in
    at_error targets_of _ _ _ c.from_residual.ensures.1
    (refuses_along c.in_err-target.field-0.0 (sym c.loop-x.invariant.rest ∙ ap (call_targets c.args.scope.now before) left) (failed c.in_err-target.field-0.0 (target c.args.scope.now c.x-item.result) _ c.in_err-target.ensures))

pub returns : goal.returns
returns c =
    sym c.loop-x.invariant.rest ∙ at_drop_all (call_targets c.args.scope.now (map target_of c.loop-x.targets.items)) c.args.names.now c.loop-x.x-index c.loop-x-test.false
