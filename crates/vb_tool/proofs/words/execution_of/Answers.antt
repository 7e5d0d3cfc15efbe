use Rattle.std.proofs.Common.{rules, ◌≡◌, ◌∙◌, ℕ, true, false, codes, eqb, sym, subst}
use Rattle.std.specs.Cmp.Lexicographic.{pointwise}
use Rattle.vb_tool.specs.Command.{IsNumber}
use Rattle.vb_tool.proofs.WordLaws.{five_words, five_others, not_execute, no_budget}
use Rattle.vb_tool.proofs.words.execution_of.Goals as goal
use Rattle.vb_tool.proofs.words.execution_of.Goals.{in_default-via-then-words-lt5, in_default-via-in-len5+else-eq, in_default-via-else-words-lt5+else-words-lt6}

pub returns-in-Some : goal.returns-in-Some
returns-in-Some c =
    let five = five_words c.args.words.now c.word-item.result c.file-item.result c.method-item.result c.run_file-item.result c.number-item.result c.in-Some.budget
    c.requires c.word-item.is c.file-item.is c.method-item.is c.run_file-item.is c.number-item.is
    (subst (λ t. pointwise eqb t (codes "exec") ≡ true) c.as_str.ensures.value (sym c.eq.ensures ∙ c.if-eq.true))
    (subst (λ t. IsNumber t c.in-Some.budget) c.as_str-in-len5.ensures.value c.in-Some.ensures) in
    rw (c.as_str-in-Some.ensures.value, c.as_str-in-Some-2.ensures.value, c.as_str-in-Some-3.ensures.value) five

pub returns-in-None : goal.returns-in-None
returns-in-None c =
    five_others c.args.words.now c.word-item.result c.word-item.is c.requires
    (no_budget c.args.words.now c.number-item.result c.requires c.number-item.is
    (subst (λ t. (n : ℕ) → IsNumber t n → ⊥) c.as_str-in-len5.ensures.value c.in-None.ensures))

pub returns-in_default : goal.returns-in_default
returns-in_default c = elim c.in_default.branch [
  | in_default-via-then-words-lt5 w ↦ search (rules, c.requires)
  | in_default-via-in-len5+else-eq w ↦
      five_others c.args.words.now w.word-item.result w.word-item.is c.requires
      (not_execute c.args.words.now w.word-item.result w.word-item.is
      (subst (λ t. pointwise eqb t (codes "exec") ≡ false) w.as_str.ensures.value (sym w.eq.ensures ∙ w.if-eq.false)))
  | in_default-via-else-words-lt5+else-words-lt6 w ↦ search (rules, c.requires)
]
