use Rattle.std.proofs.Common.{rules, ◌≡◌, ◌∙◌, ◌++◌, true, false, codes, eqb, sym, subst}
use Rattle.std.specs.Cmp.Lexicographic.{pointwise}
use Rattle.vb_tool.proofs.WordLaws.{six_words, six_others, not_condition, no_label, spells_same, found_label, found_none}
use Rattle.vb_tool.proofs.words.condition_of.Goals as goal
use Rattle.vb_tool.proofs.words.condition_of.Goals.{in_default-via-then-words-lt6, in_default-via-in-len6+else-eq, in_default-via-else-words-lt6+else-words-lt7}

pub returns-in-Some : goal.returns-in-Some
returns-in-Some c =
    let text = c.as_str-in-len6.result.now ++ codes " " ++ c.as_str-in-len6-2.result.now ++ codes " " ++ c.as_str-in-len6-3.result.now in
    let six = six_words c.args.words.now c.word-item.result c.file-item.result c.procedure-item.result c.at-item.result c.part-item.result c.kind-item.result c.in-Some.label
    c.requires c.word-item.is c.file-item.is c.procedure-item.is c.at-item.is c.part-item.is c.kind-item.is
    (subst (λ t. pointwise eqb t (codes "vc") ≡ true) c.as_str.ensures.value (sym c.eq.ensures ∙ c.if-eq.true))
    (spells_same c.as_str-in-len6.ensures.value c.as_str-in-len6-2.ensures.value c.as_str-in-len6-3.ensures.value
    (found_label text c.in_ok-label-in-len6.field-0 c.in-Some.label c.in_ok-label-in-len6.ensures c.in-Some.is)) in
    rw (c.as_str-in-Some.ensures.value, c.as_str-in-Some-2.ensures.value) six

pub returns-in-None : goal.returns-in-None
returns-in-None c =
    let text = c.as_str-in-len6.result.now ++ codes " " ++ c.as_str-in-len6-2.result.now ++ codes " " ++ c.as_str-in-len6-3.result.now in
    six_others c.args.words.now c.word-item.result c.word-item.is c.requires
    (no_label c.args.words.now c.at-item.result c.part-item.result c.kind-item.result c.requires c.at-item.is c.part-item.is c.kind-item.is
    (λ l is. found_none text c.in_ok-label-in-len6.field-0 c.in_ok-label-in-len6.ensures c.in-None.is l
    (spells_same (sym c.as_str-in-len6.ensures.value) (sym c.as_str-in-len6-2.ensures.value) (sym c.as_str-in-len6-3.ensures.value) is)))

pub returns-in_default : goal.returns-in_default
returns-in_default c = elim c.in_default.branch [
  | in_default-via-then-words-lt6 w ↦ search (rules, c.requires)
  | in_default-via-in-len6+else-eq w ↦
      six_others c.args.words.now w.word-item.result w.word-item.is c.requires
      (not_condition c.args.words.now w.word-item.result w.word-item.is
      (subst (λ t. pointwise eqb t (codes "vc") ≡ false) w.as_str.ensures.value (sym w.eq.ensures ∙ w.if-eq.false)))
  | in_default-via-else-words-lt6+else-words-lt7 w ↦ search (rules, c.requires)
]
