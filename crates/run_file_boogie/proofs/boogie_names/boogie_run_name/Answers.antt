use Rattle.std.proofs.Common.{inl, sym, ap, subst, refl}
use Rattle.vb_base.proofs.Place.{same_pos}
use Rattle.run_file_boogie.specs.BoogieRun.{SpellName}
use Rattle.run_file_words.specs.Text.{lines_of}
use Rattle.run_file_words.specs.declared.faults.RunFileFault.TheVariants as fault
use Rattle.run_file_boogie.proofs.BoogieNameLaws.{named, one_name, never_wrong, wrong, not_named, one_wrong}
use Rattle.run_file_boogie.proofs.boogie_names.boogie_run_name.Goals as goal

pub returns-in_ok-new-in-Some-clause-name : goal.returns-in_ok-new-in-Some-clause-name
returns-in_ok-new-in-Some-clause-name c =
    let said = sym (rw c.in-Some.is at c.said_name.ensures) in
    subst (SpellName (lines_of c.args.bytes.now)) (sym c.in_ok-new-in-Some.ensures)
    (named (lines_of c.args.bytes.now) c.first_said-line.result.0 c.first_said-line.result.1 _ c.first_said-line.ensures.1.1 said)

pub returns-in_ok-new-in-Some-clause-only_name : goal.returns-in_ok-new-in-Some-clause-only_name
returns-in_ok-new-in-Some-clause-only_name c = λ name h. one_name (lines_of c.args.bytes.now) (returns-in_ok-new-in-Some-clause-name c) h

pub returns-in_ok-new-in-Some-clause-only_place : goal.returns-in_ok-new-in-Some-clause-only_place
returns-in_ok-new-in-Some-clause-only_place c = λ at h. never_wrong c.args.bytes.now _ at (returns-in_ok-new-in-Some-clause-name c) h

pub returns-in-None-clause-fault : goal.returns-in-None-clause-fault
returns-in-None-clause-fault c =
    let said = sym (rw c.in-None.is at c.said_name.ensures) in
    wrong c.args.bytes.now _ c.first_said-line.result.1 c.first_said-line.ensures.1.1 said refl

pub returns-in-None-clause-only_name : goal.returns-in-None-clause-only_name
returns-in-None-clause-only_name c = λ name h.
    let said = sym (rw c.in-None.is at c.said_name.ensures) in
    absurd (not_named (lines_of c.args.bytes.now) c.first_said-line.result.0 c.first_said-line.result.1 c.first_said-line.ensures.1.1 said name h)

pub returns-in-None-clause-only_place : goal.returns-in-None-clause-only_place
returns-in-None-clause-only_place c = λ at h.
    let said = sym (rw c.in-None.is at c.said_name.ensures) in
    let same = one_wrong c.args.bytes.now c.first_said-line.result.0 c.first_said-line.result.1 at c.first_said-line.ensures.1.1 said h in
    inl (ap (λ p. fault.Syntax p) (same_pos _ at (sym same.0) (sym same.1)))
