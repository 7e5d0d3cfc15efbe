use Rattle.std.proofs.Common.{rules, arith, ◌≤◌, ◌+◌, ◌++◌, ◌∷◌, ◌∙◌, sym, ap, drop, length}
use Rattle.std.specs.Option.{option_map}
use Rattle.std.proofs.lemmas.List.{drop_more, at_drop_all}
use Rattle.viper_meaning.specs.Ends.{is, found}
use Rattle.viper_meaning.specs.Places.{key_of}
use Rattle.viper_eval.proofs.AnswerLaws.{passed, stops_with, ends_with}
use Rattle.viper_eval.proofs.PlaceLaws.{key_stops, key_goes, key_ends, alone}
use Rattle.viper_eval.specs.Answers.{no_memory}
use Rattle.viper_eval.proofs.places.key_of.Goals as goal

pub returns-in_err-parts : goal.returns-in_err-parts
returns-in_err-parts c = passed _ _ c.from_residual-in_err-parts.ensures.1 no_memory

pub returns-in_err-key_part : goal.returns-in_err-key_part
returns-in_err-key_part c =
    let vs = c.args.values.now in
    let i = c.loop-value.value-index in
    let v = c.value-item.result in
    let next = drop_more vs i v c.loop-value-test.true ∙ ap (λ x. x ∷ drop (i + 1) vs) (sym c.value-item.is) in
    passed _ _ c.from_residual-in_err-key_part.ensures.1 (stops_with _ (key_stops vs (drop (i + 1) vs) v c.loop-value.parts.items _
    (c.loop-value.invariant ∙ ap (λ us. option_map (λ rest. c.loop-value.parts.items ++ rest) (key_of us)) next) c.in_err-key_part.ensures))

pub returns-in_err-push : goal.returns-in_err-push
returns-in_err-push c = passed _ _ c.from_residual-in_err-push.ensures.1 no_memory

pub loop-value-preserved : goal.loop-value-preserved
loop-value-preserved c =
    let vs = c.args.values.now in
    let i = c.loop-value.value-index in
    let v = c.value-item.result in
    let next = drop_more vs i v c.loop-value-test.true ∙ ap (λ x. x ∷ drop (i + 1) vs) (sym c.value-item.is) in
    key_goes vs (drop (i + 1) vs) v c.loop-value.parts.items c.in_ok-key_part.field-0
    (c.loop-value.invariant ∙ ap (λ us. option_map (λ rest. c.loop-value.parts.items ++ rest) (key_of us)) next) c.in_ok-key_part.ensures
    ∙ ap (λ ps. option_map (λ rest. ps ++ rest) (key_of (drop (i + 1) vs))) (sym c.in_ok-push.ensures.items)

pub returns : goal.returns
returns c =
    let vs = c.args.values.now in
    let seen : length vs ≤ c.loop-value.value-index = search rules in
    ends_with _ (ap is c.new.ensures ∙ key_ends vs c.loop-value.parts.items
    (c.loop-value.invariant ∙ at_drop_all (λ us. option_map (λ rest. c.loop-value.parts.items ++ rest) (key_of us)) vs c.loop-value.value-index seen))

pub returns-in_err-key_of_one : goal.returns-in_err-key_of_one
returns-in_err-key_of_one c =
    let vs = c.args.values.now in
    let one = alone vs c.argument-item.result (omega (arith, c.in-len1.len_at_least)) (omega (arith, c.in-len1.len_below)) c.argument-item.is in
    passed _ _ c.from_residual.ensures.1 (stops_with _ (c.in_err-key_of_one.ensures ∙ ap (λ us. found (key_of us)) one))

pub returns-in-len1 : goal.returns-in-len1
returns-in-len1 c =
    let vs = c.args.values.now in
    let one = alone vs c.argument-item.result (omega (arith, c.in-len1.len_at_least)) (omega (arith, c.in-len1.len_below)) c.argument-item.is in
    ends_with _ (c.in_ok-key_of_one.ensures ∙ ap (λ us. found (key_of us)) one)
