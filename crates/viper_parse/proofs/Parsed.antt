-- What `parse` answers, from how the declarations were read.
use Rattle.std.proofs.Common.{◌≡◌, refl, sym, ap, subst, ◌∙◌, zero, ◌-◌, ◌⊎◌, inl, inr, List, [], ◌∷◌, ◌++◌, length, Err}
use Rattle.std.proofs.lemmas.List.{append-nil}
use Rattle.vb_base.specs.declared.places.Pos.{Pos}
use Rattle.viper_syntax.specs.declared.tokens.Token.{Token}
use Rattle.viper_syntax.specs.Decl as d
use Rattle.vb_base.specs.Place.{IsPlace}
use Rattle.grammar.specs.declared.stop.Stop.{Stop}
use Rattle.grammar.specs.declared.stop.Stop.TheVariants as stop
use Rattle.grammar.specs.Whole as text
use Rattle.grammar.specs.Whole.{IsSpelled}
use Rattle.grammar.proofs.Whole as grammar
use Rattle.grammar.proofs.Whole.{split, count}
use Rattle.viper_grammar.specs.Tests as v
use Rattle.viper_grammar.specs.Grammar as g
use Rattle.viper_grammar.specs.Grammar.{rule, rules}
use Rattle.viper_grammar.specs.Spells.{Derives, Spells}
use Rattle.viper_grammar.specs.Greedy.{Reads}
use Rattle.viper_parse.specs.Whole.{FailsWhole, RefusesWhole}
use Rattle.viper_grammar.specs.Stops.{place_at, fault_of}
use Rattle.viper_parse.specs.Answers.{IsProgram, GoesWrong, Gives, Refuses}
use Rattle.viper_grammar.proofs.Reading.{viper_steps}
use Rattle.viper_parse.proofs.Complete.{complete}
use Rattle.viper_parse.proofs.Answered.{answered}
open viper_steps use {derivation, one_reading}

program_is : (p q : d.SourceProgram) → p.decls ≡ q.decls → p ≡ q
program_is p q e = λ t. record { decls = e t }

pub spelled : {ts : List Token} {ds : List d.Decl} → Reads v.decls (rule (g.Program [])) ts ds [] → Derives v.decls (rule (g.Program [])) ts ds
spelled {ts = ts} {ds = ds} h =
    let x = derivation h in
    subst (λ l. Derives v.decls (rule (g.Program [])) l ds) (sym (x.is ∙ append-nil x.front)) x.derives

abbrev pub record_of : List d.Decl → d.SourceProgram
record_of ds = record { decls = ds }

pub only_one : {ts : List Token} (ds : List d.Decl) (p : d.SourceProgram) → Reads v.decls (rule (g.Program [])) ts ds [] → Spells ts p → record_of ds ≡ p
only_one ds p h s = program_is (record_of ds) p (one_reading h (complete s)).0

pub one_program : (ts : List Token) (p q : d.SourceProgram) → Spells ts p → Spells ts q → p ≡ q
one_program ts p q a b = program_is p q (one_reading (complete a) (complete b)).0

read_as : (ts : List Token) → IsProgram ts → (ds : List d.Decl) × Reads v.decls (rule (g.Program [])) ts ds []
read_as ts h = (h.0.decls, complete h.1)

derived_as : (ts : List Token) (ds : List d.Decl) → Derives v.decls (rule (g.Program [])) ts ds → IsProgram ts
derived_as ts ds h = (record_of ds, h)

none_spelled : (ts r : List Token) → FailsWhole ts r → IsProgram ts → ⊥
none_spelled ts r f h = grammar.none_spelled rules (rule (g.Program [])) IsProgram read_as derived_as ts r f h

place_of : (ts r : List Token) → FailsWhole ts r → IsPlace IsProgram ts (length ts - length r)
place_of ts r f = grammar.place_of rules (rule (g.Program [])) IsProgram read_as derived_as ts r f

next_place : (f r : List Token) (last : Pos) → place_at (f ++ r) (length f) last ≡ place_at r zero last
next_place [] r last = refl
next_place (k ∷ f) r last = next_place f r last

pub refuses_only : (ts : List Token) (last : Pos) (w : Stop Token) → RefusesWhole ts w → (p : d.SourceProgram) → Spells ts p → Gives (Err (fault_of w last)) p
refuses_only ts last stop.Memory h p s = tt
refuses_only ts last (stop.Before r) h p s = none_spelled ts r.now h (p, s)

pub refuses_there : (ts : List Token) (last : Pos) (w : Stop Token) → RefusesWhole ts w → Refuses (Err (fault_of w last)) ts last
refuses_there ts last stop.Memory h = tt
refuses_there ts last (stop.Before r) h =
    let q = split h.opens.front in
    let i = length ts - length r.now in
    let At : List Token → Type 0 = λ l. place_at l (length l - length r.now) last ≡ place_at r.now zero last in
    let there : At (q.front ++ r.now) = ap (λ n. place_at (q.front ++ r.now) n last) (count q.front r.now) ∙ next_place q.front r.now last in
    (i, place_of ts r.now h, sym (subst At (sym q.left) there))

-- each list of tokens spells a program, or spells none and has a place where it goes wrong

wrong_there : {ts : List Token} → text.GoesWrong rules (rule (g.Program [])) ts → GoesWrong ts
wrong_there w = record {
  none = λ p. w.none (p.0.decls, p.1);
  at = w.at;
  place = record {
    within = w.place.within;
    before = let b = w.place.before in (b.0, derived_as _ b.1.0 b.1.1);
    after = λ lt b. w.place.after lt (b.0, (b.1.0.decls, b.1.1));
  };
}

by_answer : {ts : List Token} → IsSpelled rules (rule (g.Program [])) ts ⊎ text.GoesWrong rules (rule (g.Program [])) ts → IsProgram ts ⊎ GoesWrong ts
by_answer {ts = ts} (inl h) = inl (derived_as ts h.0 h.1)
by_answer (inr w) = inr (wrong_there w)

pub some_answer : (ts : List Token) → IsProgram ts ⊎ GoesWrong ts
some_answer ts = by_answer (answered ts)
