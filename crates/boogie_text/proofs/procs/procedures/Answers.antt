use Rattle.std.proofs.Common.{◌≡◌, ◌∙◌, ◌++◌, [], ◌∷◌, refl, sym, ap, subst, arith, false, map}
use Rattle.boogie_tree.specs.Whole.{proc_of}
use Rattle.boogie_grammar.specs.Words.{is_among}
use Rattle.boogie_grammar.specs.Tests as v
use Rattle.boogie_grammar.specs.Grammar as g
use Rattle.boogie_grammar.proofs.Reading.{boogie_steps}
use Rattle.grammar.proofs.Pushed.{pushed_more}
use Rattle.boogie_text.specs.StmtView.{all_procs_of}
use Rattle.boogie_text.proofs.ProcLaws.{one_more_proc}
use Rattle.boogie_text.proofs.procs.procedures.Goals as goal
open boogie_steps use {by_token, by_other, by_part, whole, part_error, tail, goes_at, symbol_at, symbol_refuses_at}

pub returns-in_err-next : goal.returns-in_err-next
returns-in_err-next c =
    record { reads = part_error all_procs_of _ _ c.from_residual.ensures.1 (by_token c.in-Some.ensures.eats c.loop-after.invariant.goes) (symbol_refuses_at g.Procedure _ _ _ _ c.loop-after.invariant.names c.in_err-next.ensures.reads) }

pub add-requires : goal.add-requires
add-requires c =
    subst (λ n. is_among n c.loop-after.names ≡ false) (sym c.in_ok-copy.ensures) c.in_ok-next.ensures.new

pub loop-after-preserved : goal.loop-after-preserved
loop-after-preserved c =
    let more = pushed_more proc_of c.loop-after.all.items c.in_ok-all.ensures refl in
    record {
      shorter = omega (arith, c.in-Some.ensures.shorter, c.in_ok-next.ensures.shorter, c.loop-after.invariant.shorter);
      names = c.in_ok-add.ensures ∙ ap (λ x. c.loop-after.names ++ (x ∷ [])) c.in_ok-copy.ensures ∙ one_more_proc c.loop-after.names (map proc_of c.loop-after.all.items) _ (proc_of c.in_ok-next.next) c.loop-after.invariant.names more;
      goes = goes_at v.procs (λ ps. g.rule (g.Program ps)) more (tail (by_part (symbol_at g.Procedure c.loop-after.invariant.names c.in_ok-next.ensures.reads) (by_token c.in-Some.ensures.eats c.loop-after.invariant.goes)));
    }

pub returns : goal.returns
returns c =
    record { reads = whole (by_other c.in_default.ensures.eats c.loop-after.invariant.goes) }
