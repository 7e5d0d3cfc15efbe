-- Each list of tokens spells a program with loops, calls and contracts, or goes wrong at one place.
use Rattle.std.proofs.Common.{◌∙◌, sym, ap, refl, ℕ, ◌⊎◌, inl, inr, List, [], ◌++◌, arith}
use Rattle.std.specs.Option.{option_map}
use Rattle.grammar.specs.Rules as rules_of
use Rattle.grammar.specs.Rules.{Rule, give}
use Rattle.grammar.specs.Whole as text
use Rattle.grammar.specs.Whole.{IsSpelled}
use Rattle.grammar.specs.Wider.{Kinds, new, more}
use Rattle.grammar.proofs.Complete as complete
use Rattle.grammar.proofs.Answered as grammar
use Rattle.grammar.proofs.Answered.{fg, fn, fw, fr, ft}
use Rattle.grammar.proofs.WiderLaws.{wider_ranks, answers_up}
use Rattle.boogie_grammar.specs.declared.tokens.PlacedLexeme.{PlacedLexeme}
use Rattle.boogie_grammar.specs.Tests as v
use Rattle.boogie_grammar.specs.Tests.{some_free}
use Rattle.boogie_grammar.specs.declared.tokens.BSign.TheVariants as sign
use Rattle.boogie_grammar.specs.Grammar as g
use Rattle.boogie_loops_grammar.specs.Words.{has_no_word}
use Rattle.boogie_loops_grammar.specs.Noting.{Second, noting, noting_rule, second_rules}
use Rattle.boogie_loops_grammar.specs.Grammar.{Kind, Symbol, Programs, Procedure, Parameters, Params, Clauses, BoundClause, Vars, Statements, Statement, Block, Else, Invariants, Targets, Arguments, MoreArguments, telling, wider_boogie, new_names, after_sign, checks, changes, simple, worded, conditional, more_targets, rule, more_rule, rules}
use Rattle.boogie_loops_grammar.specs.Spells.{SpellsWideProgram, GoesWrong}
use Rattle.boogie_loops_grammar.proofs.NotedTable.{seconds}
use Rattle.boogie_loops_grammar.proofs.Elements.{laws}
use Rattle.boogie_print.proofs.Codes.{table}
use Rattle.boogie_text.proofs.Answered.{ranks, has_answers}
use Rattle.boogie_loops_text.proofs.WideComplete as wide
use Rattle.boogie_loops_text.proofs.WideComplete.{telling_rules, telling_table, telling_right, further, wide_table, wide_right, by_where}

-- the second forms

abbrev telling_ranks : grammar.Ranks telling
telling_ranks = wider_ranks g.rules (second_rules new_names g.rules) ranks (seconds new_names g.rules table ranks.rank)

falls_noted : (n : ℕ) {s : v.Kind} {a : Rule g.boogie s} → grammar.Falls ranks n s a → (ns : List (List ℕ)) → grammar.Falls telling_ranks n (new s) (noting_rule new_names ns a)
falls_noted n fg ns = fg
falls_noted n fn ns = fn
falls_noted n (fw f) ns = fw (falls_noted n f ns)
falls_noted n (fr l f) ns = fr l (λ y. falls_noted n (f y.0) (ns ++ y.1))
falls_noted n (ft l e) ns = ft l (ap (option_map (λ x. (x, []))) e)

telling_answers : grammar.HasAnswers telling_rules telling_ranks
telling_answers = answers_up g.rules (second_rules new_names g.rules) ranks (seconds new_names g.rules table ranks.rank) has_answers
    (λ s a x d. sym (telling_right.empty_ok s a) ∙ complete.ends_right telling_rules telling_table telling_right d refl) falls where
      falls : (s : Kinds g.boogie v.Kind) (a : Second g.boogie s) → grammar.Falls telling_ranks (telling_ranks.rank s (more a)) s (second_rules new_names g.rules s a)
      falls _ (noting {s = s} a) = falls_noted (ranks.rank s a) (has_answers.falls s a) []

-- the further symbols

abbrev all_ranks : grammar.Ranks wider_boogie
all_ranks = wider_ranks telling_rules (λ s a. more_rule a) telling_ranks further

abbrev Falls : ℕ → {s : Kinds telling Kind} → rules_of.Rule wider_boogie s → Type 0
Falls n {s} a = grammar.Falls all_ranks n s a

falls_simple : (ls : List (List ℕ)) → Falls 0 (simple ls)
falls_simple ls = by_where (λ r. Falls 0 (checks ls r)) (some_free ls) (λ some. changes ls some) (conditional ls) (λ h. fw (fw (fw (fw fn)))) (fw (fw fn))

falls_of : {s : Kinds telling Kind} (a : Symbol s) → Falls (further.rank s a) (rule a)
falls_of (Programs ps) = fw fg
falls_of (Procedure taken) = fn
falls_of Parameters = fw (ft (omega arith) refl)
falls_of (Params ls) = fn
falls_of (Clauses ls c) = fw (fw fg)
falls_of (BoundClause ls) = fn
falls_of (Vars bound ls) = fw fg
falls_of (Statements ls xs) = fw (ft (omega arith) refl)
falls_of (Statement ls) = by_where (Falls 0) (has_no_word ls) (λ _. worded ls) (simple ls) (λ h. fw (fw (falls_simple ls))) (falls_simple ls)
falls_of (Block ls) = fn
falls_of (Else ls) = fw fg
falls_of (Invariants ls cs) = fw fg
falls_of (Targets ls is) = by_where (Falls 0) (some_free ls) (λ some. more_targets ls is some) (after_sign sign.Assign (give is)) (λ h. fw fn) fn
falls_of (Arguments ls) = fw (ft (omega arith) refl)
falls_of (MoreArguments ls es) = ft (omega arith) refl

all_answers : grammar.HasAnswers rules all_ranks
all_answers = answers_up telling_rules (λ s a. more_rule a) telling_ranks further telling_answers
    (λ s a x d. sym (wide_right.empty_ok s a) ∙ complete.ends_right rules wide_table wide_right d refl) (λ s a. falls_of a)

answered : (ts : List PlacedLexeme) → IsSpelled rules (rule (Programs [])) ts ⊎ text.GoesWrong rules (rule (Programs [])) ts
answered ts = grammar.some_answer rules laws all_ranks all_answers (more (Programs [])) (λ us ps d. wide.complete (Programs []) d) ts

wrong_there : {ts : List PlacedLexeme} → text.GoesWrong rules (rule (Programs [])) ts → GoesWrong ts
wrong_there x = record {
  none = λ p. x.none (p.0.procs, p.1);
  at = x.at;
  place = record {
    within = x.place.within;
    before = let b = x.place.before in (b.0, (record { procs = b.1.0 }, b.1.1));
    after = λ lt b. x.place.after lt (b.0, (b.1.0.procs, b.1.1));
  };
}

by_answer : {ts : List PlacedLexeme} → IsSpelled rules (rule (Programs [])) ts ⊎ text.GoesWrong rules (rule (Programs [])) ts → SpellsWideProgram ts ⊎ GoesWrong ts
by_answer (inl h) = inl (record { procs = h.0 }, h.1)
by_answer (inr x) = inr (wrong_there x)

pub some_answer : (ts : List PlacedLexeme) → SpellsWideProgram ts ⊎ GoesWrong ts
some_answer ts = by_answer (answered ts)
