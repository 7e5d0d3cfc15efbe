use Rattle.std.proofs.Common.{◌≡◌, ◌∙◌, ◌++◌, [], ◌∷◌, sym, ap, subst, arith, false}
use Rattle.boogie_loops_grammar.specs.Grammar as g
use Rattle.boogie_loops_grammar.proofs.Reading.{wide_steps}
use Rattle.boogie_loops_text.proofs.Steps.{by_need, by_token, by_other, token_error, tail}
use Rattle.boogie_tree.specs.Whole.{locals_of, local_of}
use Rattle.boogie_grammar.specs.Tests as v
use Rattle.grammar.specs.Wider.{old}
use Rattle.boogie_grammar.specs.ReadView.{all_locals_of}
use Rattle.grammar.proofs.Pushed.{pushed_more}
use Rattle.boogie_grammar.specs.Words.{is_among}
use Rattle.boogie_loops_grammar.specs.Words.{wide_words}
use Rattle.boogie_loops_text.proofs.NameSets.{of_neither, one_more, named_at, unnamed_at, plain_is, longer_more}
use Rattle.boogie_loops_text.proofs.heads.more_params.Goals as goal
open wide_steps use {start, whole_as, goes_at}

pub loop-name-init : goal.loop-name-init
loop-name-init c = record { shorter = omega arith; longer = omega arith; names = c.requires; goes = start (g.rule (g.Params (locals_of c.args.before.items))) c.args.tokens.now }

pub returns-in_err-name-clause-reads : goal.returns-in_err-name-clause-reads
returns-in_err-name-clause-reads c = token_error all_locals_of _ _ c.from_residual.ensures.1 c.loop-name.invariant.goes (unnamed_at _ _ _ _ (ap (λ l. l ++ wide_words) c.loop-name.invariant.names.same) c.in_err-name.ensures.takes)

pub returns-in_err-after-clause-reads : goal.returns-in_err-after-clause-reads
returns-in_err-after-clause-reads c = token_error all_locals_of _ _ c.from_residual-in_err-after.ensures.1 (by_need (named_at (ap (λ l. l ++ wide_words) c.loop-name.invariant.names.same) c.in_ok-name.ensures.takes) c.loop-name.invariant.goes) c.in_err-after.ensures.takes

pub returns-in_err-base-clause-reads : goal.returns-in_err-base-clause-reads
returns-in_err-base-clause-reads c = token_error all_locals_of _ _ c.from_residual-in_err-base.ensures.1 (by_need c.in_ok-after.ensures.takes (by_need (named_at (ap (λ l. l ++ wide_words) c.loop-name.invariant.names.same) c.in_ok-name.ensures.takes) c.loop-name.invariant.goes)) c.in_err-base.ensures.takes

pub add-requires : goal.add-requires
add-requires c = subst (λ n. is_among n c.loop-name.names ≡ false) (sym c.in_ok-copy.ensures) (of_neither c.in_ok-name.name c.loop-name.names wide_words c.in_ok-name.ensures.takes.passes.2).0

pub loop-name-preserved : goal.loop-name-preserved
loop-name-preserved c =
    let more = pushed_more local_of _ c.in_ok-all.ensures (plain_is c.in_ok-name.name c.in_ok-base.base c.new-keys.ensures.items) in
    record {
      shorter = omega (arith, c.in-Some.ensures.shorter, c.in_ok-name.ensures.shorter, c.in_ok-after.ensures.shorter, c.in_ok-base.ensures.shorter, c.loop-name.invariant.shorter);
      longer = longer_more c.loop-name.all.items _ c.loop-name.invariant.longer c.in_ok-all.ensures;
      names = one_more c.in_ok-name.name (record { keys = []; base = c.in_ok-base.base }) c.loop-name.invariant.names (of_neither c.in_ok-name.name c.loop-name.names wide_words c.in_ok-name.ensures.takes.passes.2).1 (c.in_ok-add.ensures ∙ ap (λ x. c.loop-name.names ++ (x ∷ [])) c.in_ok-copy.ensures) more;
      goes = goes_at (old (old v.locals)) (λ ls. g.rule (g.Params ls)) more (tail (by_token c.in-Some.ensures.eats (by_need c.in_ok-base.ensures.takes (by_need c.in_ok-after.ensures.takes (by_need (named_at (ap (λ l. l ++ wide_words) c.loop-name.invariant.names.same) c.in_ok-name.ensures.takes) c.loop-name.invariant.goes)))));
    }

pub returns-in_err-end-clause-reads : goal.returns-in_err-end-clause-reads
returns-in_err-end-clause-reads c = token_error all_locals_of _ _ c.from_residual-in_err-end.ensures.1 (by_other c.in_default.ensures.eats (by_need c.in_ok-base.ensures.takes (by_need c.in_ok-after.ensures.takes (by_need (named_at (ap (λ l. l ++ wide_words) c.loop-name.invariant.names.same) c.in_ok-name.ensures.takes) c.loop-name.invariant.goes)))) c.in_err-end.ensures.takes

pub returns-in_default-clause-reads : goal.returns-in_default-clause-reads
returns-in_default-clause-reads c =
    whole_as (by_need c.in_ok-end.ensures.takes (by_other c.in_default.ensures.eats (by_need c.in_ok-base.ensures.takes (by_need c.in_ok-after.ensures.takes (by_need (named_at (ap (λ l. l ++ wide_words) c.loop-name.invariant.names.same) c.in_ok-name.ensures.takes) c.loop-name.invariant.goes))))) (pushed_more local_of _ c.in_ok-all.ensures (plain_is c.in_ok-name.name c.in_ok-base.base c.new-keys.ensures.items))

pub returns-in_default-clause-longer : goal.returns-in_default-clause-longer
returns-in_default-clause-longer c = longer_more c.loop-name.all.items _ c.loop-name.invariant.longer c.in_ok-all.ensures

pub returns-in_default-clause-names : goal.returns-in_default-clause-names
returns-in_default-clause-names c =
    one_more c.in_ok-name.name (record { keys = []; base = c.in_ok-base.base }) c.loop-name.invariant.names (of_neither c.in_ok-name.name c.loop-name.names wide_words c.in_ok-name.ensures.takes.passes.2).1 (c.in_ok-add.ensures ∙ ap (λ x. c.loop-name.names ++ (x ∷ [])) c.in_ok-copy.ensures)
    (pushed_more local_of _ c.in_ok-all.ensures (plain_is c.in_ok-name.name c.in_ok-base.base c.new-keys.ensures.items))

pub returns-in_default-clause-shorter : goal.returns-in_default-clause-shorter
returns-in_default-clause-shorter c = omega (arith, c.in_ok-end.ensures.shorter, c.in_ok-name.ensures.shorter, c.in_ok-after.ensures.shorter, c.in_ok-base.ensures.shorter, c.loop-name.invariant.shorter)
