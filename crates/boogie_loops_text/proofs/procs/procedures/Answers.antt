use Rattle.std.proofs.Common.{◌≡◌, ◌∙◌, ◌++◌, [], ◌∷◌, refl, sym, ap, subst, arith, map, false}
use Rattle.boogie_loops.specs.View.{wproc_of}
use Rattle.boogie_loops_grammar.specs.Grammar as g
use Rattle.boogie_loops_text.specs.View.{all_wprocs_of}
use Rattle.boogie_loops_grammar.proofs.Reading.{wide_steps}
use Rattle.boogie_loops_text.proofs.Steps.{by_token, by_other, by_part, part_error, tail, symbol_at, symbol_refuses_at}
use Rattle.grammar.specs.Wider.{new}
use Rattle.grammar.proofs.Pushed.{pushed_more}
use Rattle.boogie_grammar.specs.Words.{is_among}
use Rattle.boogie_loops_text.proofs.ProcedureLaws.{one_more_procedure}
use Rattle.boogie_loops_text.proofs.procs.procedures.Goals as goal
open wide_steps use {whole, goes_at}

pub returns-in_err-next : goal.returns-in_err-next
returns-in_err-next c =
    record { reads = part_error all_wprocs_of _ _ c.from_residual-in_err-next.ensures.1 (by_token c.in-Some.ensures.eats c.loop-after.invariant.goes) (symbol_refuses_at g.Procedure _ _ _ _ c.loop-after.invariant.names c.in_err-next.ensures.reads) }

pub add-requires : goal.add-requires
add-requires c =
    subst (λ n. is_among n c.loop-after.names ≡ false) (sym c.in_ok-copy.ensures) c.in_ok-next.ensures.new

pub loop-after-preserved : goal.loop-after-preserved
loop-after-preserved c =
    let more = pushed_more wproc_of c.loop-after.all.items c.in_ok-all.ensures refl in
    record {
      shorter = omega (arith, c.in-Some.ensures.shorter, c.in_ok-next.ensures.shorter, c.loop-after.invariant.shorter);
      names = c.in_ok-add.ensures ∙ ap (λ x. c.loop-after.names ++ (x ∷ [])) c.in_ok-copy.ensures ∙ one_more_procedure c.loop-after.names (map wproc_of c.loop-after.all.items) _ (wproc_of c.in_ok-next.next) c.loop-after.invariant.names more;
      goes = goes_at (new g.procs) (λ ps. g.rule (g.Programs ps)) more (tail (by_part (symbol_at g.Procedure c.loop-after.invariant.names c.in_ok-next.ensures.reads) (by_token c.in-Some.ensures.eats c.loop-after.invariant.goes)));
    }

pub returns : goal.returns
returns c =
    record { reads = whole (by_other c.in_default.ensures.eats c.loop-after.invariant.goes) }
