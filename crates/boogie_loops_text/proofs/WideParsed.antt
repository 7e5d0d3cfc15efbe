-- Bytes spell one program with loops, calls and contracts at most.
use Rattle.std.proofs.Common.{◌≡◌, ◌∙◌, ℕ, Bool, List, [], ◌∷◌, ◌++◌, sym, subst}
use Rattle.lemmas.proofs.Lists.{same_behind}
use Rattle.grammar.specs.Rules as rules_of
use Rattle.grammar.specs.Rules.{Starts, read}
use Rattle.grammar.specs.Spells.{Derives, given, needed, taken, passed, called}
use Rattle.grammar.specs.Wider.{Kinds, old, new}
use Rattle.grammar.proofs.Reading.{one_reading}
use Rattle.boogie_tree.specs.Text.{prelude}
use Rattle.boogie_grammar.specs.declared.tokens.PlacedLexeme.{PlacedLexeme}
use Rattle.boogie_grammar.specs.Cut.{IsRow}
use Rattle.boogie_loops.specs.Wide.{WProgram}
use Rattle.boogie_loops_grammar.specs.Grammar.{Kind, Programs, telling, wider_boogie, rules}
use Rattle.boogie_loops_grammar.specs.Spells.{Spells, WideSpells}
use Rattle.boogie_loops_grammar.proofs.Elements.{laws}
use Rattle.boogie_print.proofs.AlikeLaws.{Alike, nil, passes_alike, first_of, split_of, one_row}
use Rattle.boogie_loops_text.proofs.WideComplete.{complete}

-- tokens that differ in their places alone spell the same

wide_passes_alike : (b : Bool) (r : Kinds telling Kind) (c : wider_boogie.Test b r) (k j : PlacedLexeme) (x : wider_boogie.Value r) → k.tok ≡ j.tok → wider_boogie.Passes b r c k x → wider_boogie.Passes b r c j x
wide_passes_alike b (old (old r)) c k j x e p = passes_alike c k j x e p
wide_passes_alike b (old (new r)) c k j x e p = absurd c
wide_passes_alike b (new r) c k j x e p = absurd c

record Starting (b : Bool) (r : Kinds telling Kind) (c : wider_boogie.Test b r) (ts us : List PlacedLexeme) (x : wider_boogie.Value r) : Type 0 where
  rest : List PlacedLexeme
  starts : Starts wider_boogie c ts x rest
  alike : Alike us rest

starting : {b : Bool} {r : Kinds telling Kind} {c : wider_boogie.Test b r} {ts us vs : List PlacedLexeme} {x : wider_boogie.Value r} → Starts wider_boogie c ts x us → Alike ts vs → Starting b r c vs us x
starting {b = b} {r = r} {c = c} {us = us} {vs = vs} {x = x} h a =
    let f = first_of (subst (λ l. Alike l vs) h.is a) in
    record { rest = f.rest; starts = record { token = f.token; is = f.is; passes = wide_passes_alike b r c h.token f.token x f.same h.passes }; alike = f.alike }

pub derives_alike : {s : Kinds telling Kind} {a : rules_of.Rule wider_boogie s} {ts us : List PlacedLexeme} {x : wider_boogie.Value s} → Derives rules s a ts x → Alike ts us → Derives rules s a us x
derives_alike given nil = given
derives_alike (needed h d) a = let s = starting h a in needed s.starts (derives_alike d s.alike)
derives_alike (taken h d) a = let s = starting h a in taken s.starts (derives_alike d s.alike)
derives_alike (passed d) a = passed (derives_alike d a)
derives_alike {x = x} (called {a = b} {go = go} {ts = ts} h d) a =
    let s = split_of ts a in
    subst (λ l. Derives rules _ (read b go) l x) s.is (called {a = b} {go = go} (derives_alike h s.front_alike) (derives_alike d s.behind_alike))

-- so there is one program at most

program_is : (p q : WProgram) → p.procs ≡ q.procs → p ≡ q
program_is p q e = λ t. record { procs = e t }

pub one_tree : (ts : List PlacedLexeme) (p q : WProgram) → Spells ts p → Spells ts q → p ≡ q
one_tree ts p q a b = program_is p q (one_reading rules laws (complete (Programs []) a) (complete (Programs []) b)).0

pub one_program : (bytes : List ℕ) (a b : WProgram) → WideSpells bytes a → WideSpells bytes b → a ≡ b
one_program bytes a b p q =
    let rest : q.rest ≡ p.rest = same_behind prelude (sym q.text ∙ p.text) in
    let row : IsRow p.rest q.tokens = subst (λ r. IsRow r q.tokens) rest q.cut in
    one_tree p.tokens a b p.spells (derives_alike q.spells (one_row row p.cut))
