use Rattle.std.proofs.Common.{◌∙◌, refl, sym, ap, arith}
use Rattle.std.proofs.lemmas.Bool.{eqb-true, eq-eqb, both_ways}
use Rattle.std.specs.Option.{option_map}
use Rattle.run_file_words.specs.Text.{words_of}
use Rattle.run_file_boogie.specs.BoogieReading.{scalar_from}
use Rattle.run_file_boogie.proofs.BoogieValueLaws.{no_entry, an_entry}
use Rattle.run_file_boogie.proofs.boogie_values.entry.Goals as goal

pub returns-then-is_empty : goal.returns-then-is_empty
returns-then-is_empty c =
    let none = sym (rw c.in_default.is at c.next_part.ensures) in
    no_entry (words_of c.args.words.now) (words_of c.loop-part.rest.now) c.loop-part.parts.items none c.loop-part.invariant
    (omega (arith, eqb-true c.loop-part.parts.len 0 (sym c.is_empty.ensures ∙ c.if-is_empty.true), c.loop-part.parts.ok.0))

pub returns-in-Some-2 : goal.returns-in-Some-2
returns-in-Some-2 c =
    let none = sym (rw c.in_default.is at c.next_part.ensures) in
    let found = rw c.in-Some-2.is at c.in_ok-value.ensures in
    let rest = words_of c.loop-part.rest.now in
    ap (option_map (λ v. record { key = c.new-key.result; value = v })) found ∙
    ((λ i. option_map (λ v. record { key = c.new-key.ensures i; value = v }) (scalar_from rest)) ∙
    an_entry (words_of c.args.words.now) rest c.loop-part.parts.items (scalar_from rest) none c.loop-part.invariant
    (λ e. both_ways _ (sym c.is_empty.ensures ∙ c.if-is_empty.false) (eq-eqb _ 0 (omega (arith, e, c.loop-part.parts.ok.0)))) refl)

pub returns-in-None : goal.returns-in-None
returns-in-None c =
    let none = sym (rw c.in_default.is at c.next_part.ensures) in
    let found = rw c.in-None.is at c.in_ok-value.ensures in
    an_entry (words_of c.args.words.now) (words_of c.loop-part.rest.now) c.loop-part.parts.items _ none c.loop-part.invariant
    (λ e. both_ways _ (sym c.is_empty.ensures ∙ c.if-is_empty.false) (eq-eqb _ 0 (omega (arith, e, c.loop-part.parts.ok.0)))) found
