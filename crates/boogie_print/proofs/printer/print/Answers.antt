use Rattle.std.proofs.Common.{sym, subst, IfOk, Result, Ok, Err}
use Rattle.boogie_tree.specs.Whole as b
use Rattle.boogie_grammar.specs.Spells.{BSpells}
use Rattle.boogie_print.proofs.ProgramShown.{program_spelled}
use Rattle.boogie_print.proofs.ShortLaws.{short_procs}
use Rattle.boogie_print.proofs.printer.print.Goals as goal

if_ok : {A E : Type 0} {P : A → Type 0} (r : Result A E) (Q : A → Type 0) → ((x : A) → P x → Q x) → IfOk r P → IfOk r Q
if_ok (Ok x) Q f h = f x h
if_ok (Err e) Q f h = h

pub returns-clause-spells : goal.returns-clause-spells
returns-clause-spells c =
    let spelled = program_spelled (b.program_of c.args.program.now) c.requires (short_procs c.args.program.now.procs.items) in
    if_ok c.whole_text.result _ (λ bytes e. subst (λ text. BSpells text (b.program_of c.args.program.now)) (sym e) spelled) c.whole_text.ensures
