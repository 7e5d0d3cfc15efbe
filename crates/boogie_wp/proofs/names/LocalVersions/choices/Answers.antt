use Rattle.std.proofs.Common.{◌∙◌, map, refl, sym, ap, subst}
use Rattle.boogie_wp.specs.Changes.{begun, changed, choice_of, end_of, Chosen}
use Rattle.boogie_wp.proofs.ChangeLaws.{chosen_are}
use Rattle.boogie_wp.proofs.names.LocalVersions.choices.Goals as goal

pub returns-clause-chosen : goal.returns-clause-chosen
returns-clause-chosen c =
    let us = begun c.args.self.now in
    let vs = changed c.args.first.items us in
    let ws = c.args.self.now.versions.items in
    let locals = c.in_ok-locals.locals.items in
    let firsts = c.in_ok-redo.ensures.named ∙ ap (changed c.args.first.items) c.in_ok-undo.ensures.back in
    let seconds = c.deref-4.ensures.value ∙ c.in_ok-seconds.ensures ∙ ap (map (end_of ws)) c.deref-3.ensures.value in
    let choices = c.in_ok-choices.ensures ∙ (λ i. map (choice_of (firsts i)) (seconds i)) in
    subst (Chosen us vs ws 0) (sym choices) (chosen_are c.args.first.items c.args.self.now.changes.items us ws locals c.deref.result.now c.deref-2.result.now c.deref.ensures.value c.deref-2.ensures.value refl
    c.in_ok-locals.ensures.rises c.in_ok-locals.ensures.keeps)
