use Rattle.std.proofs.Common.{◌≡◌, ◌∙◌, ◌++◌, [], ◌∷◌, refl, sym, ap, subst, arith, false}
use Rattle.boogie_loops_grammar.specs.Grammar as g
use Rattle.boogie_loops_grammar.proofs.Reading.{wide_steps}
use Rattle.boogie_loops_text.proofs.Steps.{by_need, by_token, by_other, by_old, old_error, token_error, tail}
use Rattle.boogie_tree.specs.Whole.{locals_of, local_of}
use Rattle.boogie_grammar.specs.Tests as v
use Rattle.grammar.specs.Wider.{old}
use Rattle.boogie_grammar.specs.ReadView.{all_locals_of}
use Rattle.grammar.proofs.Pushed.{pushed_more}
use Rattle.boogie_grammar.specs.Words.{is_among}
use Rattle.boogie_loops_grammar.specs.Words.{wide_words}
use Rattle.boogie_loops_text.proofs.NameSets.{of_neither, one_more, named_at, unnamed_at, same_among}
use Rattle.boogie_grammar.specs.Grammar.{local_names}
use Rattle.boogie_tree.specs.Whole.{type_of}
use Rattle.boogie_loops_text.proofs.NameSets.{same_start, same_misses}
use Rattle.boogie_loops_text.proofs.heads.vars.Goals as goal
open wide_steps use {start, whole, goes_at}

pub loop-after-init : goal.loop-after-init
loop-after-init c = record { shorter = omega arith; names = c.requires; goes = start (g.rule (g.Vars c.args.bound.now (locals_of c.args.before.items))) c.args.tokens.now }

pub returns-in_err-name-clause-reads : goal.returns-in_err-name-clause-reads
returns-in_err-name-clause-reads c = token_error all_locals_of _ _ c.from_residual-in_err-name.ensures.1 (by_token c.in-Some.ensures.eats c.loop-after.invariant.goes) (same_misses _ _ _ _ (same_among (local_names (locals_of c.loop-after.all.items)) c.in_ok-others.others c.args.bound.now wide_words c.in_ok-others.ensures) (unnamed_at _ _ _ _ (ap (λ l. (l ++ c.in_ok-others.others) ++ wide_words) c.loop-after.invariant.names.same) c.in_err-name.ensures.takes))

pub returns-in_err-after-clause-reads : goal.returns-in_err-after-clause-reads
returns-in_err-after-clause-reads c = token_error all_locals_of _ _ c.from_residual-in_err-after.ensures.1 (by_need (same_start (same_among (local_names (locals_of c.loop-after.all.items)) c.in_ok-others.others c.args.bound.now wide_words c.in_ok-others.ensures) (named_at (ap (λ l. (l ++ c.in_ok-others.others) ++ wide_words) c.loop-after.invariant.names.same) c.in_ok-name.ensures.takes)) (by_token c.in-Some.ensures.eats c.loop-after.invariant.goes)) c.in_err-after.ensures.takes

pub returns-in_err-ty-clause-reads : goal.returns-in_err-ty-clause-reads
returns-in_err-ty-clause-reads c = old_error all_locals_of _ _ c.from_residual-in_err-ty.ensures.1 (by_need c.in_ok-after.ensures.takes (by_need (same_start (same_among (local_names (locals_of c.loop-after.all.items)) c.in_ok-others.others c.args.bound.now wide_words c.in_ok-others.ensures) (named_at (ap (λ l. (l ++ c.in_ok-others.others) ++ wide_words) c.loop-after.invariant.names.same) c.in_ok-name.ensures.takes)) (by_token c.in-Some.ensures.eats c.loop-after.invariant.goes))) c.in_err-ty.ensures.reads

pub returns-in_err-after-2-clause-reads : goal.returns-in_err-after-2-clause-reads
returns-in_err-after-2-clause-reads c = token_error all_locals_of _ _ c.from_residual-in_err-after-2.ensures.1 (by_old c.in_ok-ty.ensures.reads (by_need c.in_ok-after.ensures.takes (by_need (same_start (same_among (local_names (locals_of c.loop-after.all.items)) c.in_ok-others.others c.args.bound.now wide_words c.in_ok-others.ensures) (named_at (ap (λ l. (l ++ c.in_ok-others.others) ++ wide_words) c.loop-after.invariant.names.same) c.in_ok-name.ensures.takes)) (by_token c.in-Some.ensures.eats c.loop-after.invariant.goes)))) c.in_err-after-2.ensures.takes

pub add-requires : goal.add-requires
add-requires c = subst (λ n. is_among n c.loop-after.names ≡ false) (sym c.in_ok-copy.ensures) (of_neither c.in_ok-name.name c.loop-after.names c.in_ok-others.others (of_neither c.in_ok-name.name (c.loop-after.names ++ c.in_ok-others.others) wide_words c.in_ok-name.ensures.takes.passes.2).0).0

pub loop-after-preserved : goal.loop-after-preserved
loop-after-preserved c =
    let more = pushed_more local_of _ c.in_ok-all.ensures refl in
    record {
      shorter = omega (arith, c.in-Some.ensures.shorter, c.in_ok-name.ensures.shorter, c.in_ok-after.ensures.shorter, c.in_ok-ty.ensures.shorter, c.in_ok-after-2.ensures.shorter, c.loop-after.invariant.shorter);
      names = one_more c.in_ok-name.name (type_of c.in_ok-ty.ty) c.loop-after.invariant.names (of_neither c.in_ok-name.name (c.loop-after.names ++ c.in_ok-others.others) wide_words c.in_ok-name.ensures.takes.passes.2).1 (c.in_ok-add.ensures ∙ ap (λ x. c.loop-after.names ++ (x ∷ [])) c.in_ok-copy.ensures) more;
      goes = goes_at (old (old v.locals)) (λ ls. g.rule (g.Vars c.args.bound.now ls)) more (tail (by_need c.in_ok-after-2.ensures.takes (by_old c.in_ok-ty.ensures.reads (by_need c.in_ok-after.ensures.takes (by_need (same_start (same_among (local_names (locals_of c.loop-after.all.items)) c.in_ok-others.others c.args.bound.now wide_words c.in_ok-others.ensures) (named_at (ap (λ l. (l ++ c.in_ok-others.others) ++ wide_words) c.loop-after.invariant.names.same) c.in_ok-name.ensures.takes)) (by_token c.in-Some.ensures.eats c.loop-after.invariant.goes))))));
    }

pub returns-clause-reads : goal.returns-clause-reads
returns-clause-reads c = whole (by_other c.in_default.ensures.eats c.loop-after.invariant.goes)
