use Rattle.std.proofs.Common.{◌∙◌, sym}
use Rattle.boogie_loops_grammar.proofs.Reading.{wide_steps}
use Rattle.boogie_loops_text.proofs.Steps.{by_need, by_token, by_other, by_part, at_error, token_refuses, part_refuses}
use Rattle.grammar.proofs.LessLaws.{less}
use Rattle.boogie_tree.specs.Whole.{local_of}
use Rattle.boogie_grammar.specs.ReadView.{all_locals_of}
use Rattle.boogie_loops_text.specs.Heads.{ReadsHead, heading}
use Rattle.std.proofs.lemmas.List.{length-map}
use Rattle.boogie_loops_text.proofs.NameSets.{minus_self, minus_as}
use Rattle.boogie_loops_text.proofs.heads.read_head.Goals as goal
open wide_steps use {start}

pub returns-in_err-rest-clause-reads : goal.returns-in_err-rest-clause-reads
returns-in_err-rest-clause-reads c =
    at_error (ReadsHead c.args.tokens.now) _ _ c.from_residual.ensures.1 (λ x. token_refuses _ (start (heading x) c.args.tokens.now) c.in_err-rest.ensures.takes)

pub returns-in_err-locals-clause-reads : goal.returns-in_err-locals-clause-reads
returns-in_err-locals-clause-reads c =
    at_error (ReadsHead c.args.tokens.now) _ _ c.from_residual-in_err-locals.ensures.1 (λ x. part_refuses _ (by_need c.in_ok-rest.ensures.takes (start (heading x) c.args.tokens.now)) c.in_err-locals.ensures.reads)

pub returns-in_default-clause-reads : goal.returns-in_default-clause-reads
returns-in_default-clause-reads c =
    (all_locals_of c.in_ok-locals.locals, length-map c.in_ok-locals.locals.items local_of ∙ sym c.in_ok-locals.locals.ok.0 ∙ sym c.len-params.ensures, minus_self _, λ x. (by_other c.in_default.ensures.eats (by_part c.in_ok-locals.ensures.reads (by_need c.in_ok-rest.ensures.takes (start (heading x) c.args.tokens.now)))))

pub returns-in_default-clause-shorter : goal.returns-in_default-clause-shorter
returns-in_default-clause-shorter c = less c.in_ok-rest.ensures.shorter c.in_ok-locals.ensures.shorter

pub returns-in_err-after-clause-reads : goal.returns-in_err-after-clause-reads
returns-in_err-after-clause-reads c =
    at_error (ReadsHead c.args.tokens.now) _ _ c.from_residual-in_err-after.ensures.1 (λ x. token_refuses _ (by_token c.in-Some.ensures.eats (by_part c.in_ok-locals.ensures.reads (by_need c.in_ok-rest.ensures.takes (start (heading x) c.args.tokens.now)))) c.in_err-after.ensures.takes)

pub returns-in_err-all-clause-reads : goal.returns-in_err-all-clause-reads
returns-in_err-all-clause-reads c =
    at_error (ReadsHead c.args.tokens.now) _ _ c.from_residual-in_err-all.ensures.1 (λ x. part_refuses _ (by_need c.in_ok-after.ensures.takes (by_token c.in-Some.ensures.eats (by_part c.in_ok-locals.ensures.reads (by_need c.in_ok-rest.ensures.takes (start (heading x) c.args.tokens.now))))) c.in_err-all.ensures.reads)

pub returns-clause-reads : goal.returns-clause-reads
returns-clause-reads c =
    (all_locals_of c.in_ok-locals.locals, length-map c.in_ok-locals.locals.items local_of ∙ sym c.in_ok-locals.locals.ok.0 ∙ sym c.len-params.ensures, minus_as (length-map c.in_ok-all.all.items local_of ∙ sym c.in_ok-all.all.ok.0 ∙ sym c.len.ensures) (length-map c.in_ok-locals.locals.items local_of ∙ sym c.in_ok-locals.locals.ok.0 ∙ sym c.len-params.ensures), λ x. (by_part c.in_ok-all.ensures.reads (by_need c.in_ok-after.ensures.takes (by_token c.in-Some.ensures.eats (by_part c.in_ok-locals.ensures.reads (by_need c.in_ok-rest.ensures.takes (start (heading x) c.args.tokens.now)))))))

pub returns-clause-shorter : goal.returns-clause-shorter
returns-clause-shorter c = less (less (less (less c.in_ok-rest.ensures.shorter c.in_ok-locals.ensures.shorter) c.in-Some.ensures.shorter) c.in_ok-after.ensures.shorter) c.in_ok-all.ensures.shorter
