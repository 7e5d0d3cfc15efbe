use Rattle.std.proofs.Common.{◌≡◌, ◌∙◌, ◌++◌, [], ◌∷◌, refl, sym, ap, subst, arith, ℕ, List}
use Rattle.std.proofs.lemmas.List.{map-append}
use Rattle.boogie_tree.specs.Program as p
use Rattle.boogie_tree.specs.Whole.{local_of, locals_of}
use Rattle.boogie_grammar.specs.declared.tokens.PlacedLexeme.{PlacedLexeme}
use Rattle.grammar.specs.declared.stop.Stop.{Stop}
use Rattle.boogie_grammar.specs.Tests as v
use Rattle.boogie_grammar.specs.Tests.{a_new_name}
use Rattle.boogie_grammar.specs.Grammar as g
use Rattle.boogie_grammar.specs.Grammar.{local_names}
use Rattle.boogie_grammar.specs.Greedy.{Starts, Misses}
use Rattle.boogie_grammar.specs.ReadView.{all_locals_of}
use Rattle.boogie_grammar.proofs.Reading.{boogie_steps}
use Rattle.grammar.proofs.Pushed.{pushed_more}
use Rattle.boogie_text.proofs.locals.locals.Goals as goal
open boogie_steps use {by_need, by_token, by_other, by_part, whole, token_error, part_error, tail, goes_at}

named_at : {x y : List (List ℕ)} {ts us : List PlacedLexeme} {n : List ℕ} → x ≡ y → Starts (a_new_name x) ts n us → Starts (a_new_name y) ts n us
named_at {ts = ts} {us = us} {n = n} e h = subst (λ z. Starts (a_new_name z) ts n us) e h

unnamed_at : (x y : List (List ℕ)) (ts : List PlacedLexeme) (w : Stop PlacedLexeme) → x ≡ y → Misses (a_new_name x) ts w → Misses (a_new_name y) ts w
unnamed_at x y ts w e h = subst (λ z. Misses (a_new_name z) ts w) e h

one_more_name : (names : List (List ℕ)) (ls more : List p.Local) (x : List ℕ) (u : p.BType) → names ≡ local_names ls → more ≡ ls ++ (record { name = x; ty = u } ∷ []) → names ++ (x ∷ []) ≡ local_names more
one_more_name names ls more x u e f = ap (λ l. l ++ (x ∷ [])) e ∙ sym (map-append (λ (l : p.Local). l.name) ls (record { name = x; ty = u } ∷ [])) ∙ ap local_names (sym f)

pub returns-in_err-name-clause-reads : goal.returns-in_err-name-clause-reads
returns-in_err-name-clause-reads c = token_error all_locals_of _ _ c.from_residual.ensures.1 (by_token c.in-Some.ensures.eats c.loop-after.invariant.goes) (unnamed_at _ _ _ _ c.loop-after.invariant.names c.in_err-name.ensures.takes)

pub returns-in_err-after-clause-reads : goal.returns-in_err-after-clause-reads
returns-in_err-after-clause-reads c = token_error all_locals_of _ _ c.from_residual-in_err-after.ensures.1 (by_need (named_at c.loop-after.invariant.names c.in_ok-name.ensures.takes) (by_token c.in-Some.ensures.eats c.loop-after.invariant.goes)) c.in_err-after.ensures.takes

pub returns-in_err-ty-clause-reads : goal.returns-in_err-ty-clause-reads
returns-in_err-ty-clause-reads c = part_error all_locals_of _ _ c.from_residual-in_err-ty.ensures.1 (by_need c.in_ok-after.ensures.takes (by_need (named_at c.loop-after.invariant.names c.in_ok-name.ensures.takes) (by_token c.in-Some.ensures.eats c.loop-after.invariant.goes))) c.in_err-ty.ensures.reads

pub returns-in_err-after-2-clause-reads : goal.returns-in_err-after-2-clause-reads
returns-in_err-after-2-clause-reads c = token_error all_locals_of _ _ c.from_residual-in_err-after-2.ensures.1 (by_part c.in_ok-ty.ensures.reads (by_need c.in_ok-after.ensures.takes (by_need (named_at c.loop-after.invariant.names c.in_ok-name.ensures.takes) (by_token c.in-Some.ensures.eats c.loop-after.invariant.goes)))) c.in_err-after-2.ensures.takes

pub loop-after-preserved : goal.loop-after-preserved
loop-after-preserved c =
    let more = pushed_more local_of c.loop-after.all.items c.in_ok-all.ensures refl in
    record {
      shorter = omega (arith, c.in-Some.ensures.shorter, c.in_ok-name.ensures.shorter, c.in_ok-after.ensures.shorter, c.in_ok-ty.ensures.shorter, c.in_ok-after-2.ensures.shorter, c.loop-after.invariant.shorter);
      names = c.in_ok-add.ensures ∙ ap (λ x. c.loop-after.names ++ (x ∷ [])) c.in_ok-copy.ensures ∙ one_more_name c.loop-after.names (locals_of c.loop-after.all.items) _ _ _ c.loop-after.invariant.names more;
      goes = goes_at v.locals (λ ls. g.rule (g.Locals ls)) more (tail (by_need c.in_ok-after-2.ensures.takes (by_part c.in_ok-ty.ensures.reads (by_need c.in_ok-after.ensures.takes (by_need (named_at c.loop-after.invariant.names c.in_ok-name.ensures.takes) (by_token c.in-Some.ensures.eats c.loop-after.invariant.goes))))));
    }

pub returns-clause-reads : goal.returns-clause-reads
returns-clause-reads c = whole (by_other c.in_default.ensures.eats c.loop-after.invariant.goes)

pub returns-clause-shorter : goal.returns-clause-shorter
returns-clause-shorter c = c.loop-after.invariant.shorter

pub returns-clause-names : goal.returns-clause-names
returns-clause-names c = c.loop-after.invariant.names
