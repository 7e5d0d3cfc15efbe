-- Programs: what is read up to the end of the tokens, and where they go wrong.
use Rattle.std.proofs.Common.{◌≡◌, ◌∙◌, refl, sym, ap, subst, zero, ◌-◌, false, true, List, [], ◌∷◌, ◌++◌, length, arith, ◌==◌, Result}
use Rattle.std.specs.Result.{IsErrAnd}
use Rattle.std.specs.declared.alloc.Global.{Global}
use Rattle.std.specs.declared.vec.Vec.{Vec}
use Rattle.std.proofs.lemmas.Result.{err_from_is_err_and}
use Rattle.std.proofs.lemmas.Bool.{eqb-true}
use Rattle.vb_base.specs.declared.places.Pos.{Pos}
use Rattle.vb_base.specs.Place.{IsPlace}
use Rattle.grammar.specs.declared.stop.Stop.{Stop}
use Rattle.grammar.specs.declared.stop.Stop.TheVariants as stop
use Rattle.grammar.proofs.Whole as grammar
use Rattle.grammar.proofs.Whole.{split, count}
use Rattle.boogie_tree.specs.Program.{Proc}
use Rattle.boogie_tree.specs.declared.programs.Proc as d
use Rattle.boogie_grammar.specs.declared.faults.BoogieFault.TheVariants as fault
use Rattle.boogie_grammar.specs.declared.tokens.PlacedLexeme.{PlacedLexeme}
use Rattle.boogie_grammar.specs.Tests as v
use Rattle.boogie_grammar.specs.Grammar as g
use Rattle.boogie_grammar.specs.Grammar.{rule, rules}
use Rattle.boogie_grammar.specs.Greedy.{Reads, Refuses}
use Rattle.boogie_grammar.specs.Spells.{Spells, IsProgram}
use Rattle.boogie_grammar.specs.Faults.{place_at, fault_of}
use Rattle.boogie_grammar.proofs.Elements.{laws}
use Rattle.boogie_grammar.proofs.Reading.{boogie_steps}
use Rattle.boogie_text.specs.Texts.{RefusesTokens}
use Rattle.boogie_text.specs.Whole.{FailsWhole, RefusesWhole, ReadsWhole}
use Rattle.boogie_print.proofs.Complete.{complete}
open boogie_steps use {start}

pub whole_error : (ts : List PlacedLexeme) (w : Stop PlacedLexeme) (res : Result (Vec d.Proc Global) (Stop PlacedLexeme)) → IsErrAnd res (λ x. x ≡ w) → Refuses (rule (g.Program [])) ts w → ReadsWhole ts res
whole_error ts w res e h =
    let y = err_from_is_err_and res e in
    let refuses : RefusesWhole ts w = grammar.whole_refuses w (start (rule (g.Program [])) ts) h in
    subst (λ o. ReadsWhole ts o) (sym y.1) (subst (λ x. RefusesWhole ts x) (sym y.2) refuses)

-- the procedures end, and a token is left

pub some_token : (us : List PlacedLexeme) → false ≡ (length us == 0) → (k : PlacedLexeme) × (vs : List PlacedLexeme) × (us ≡ k ∷ vs)
some_token [] e = absurd (cc)
some_token (k ∷ vs) e = (k, vs, refl)

pub no_token : (us : List PlacedLexeme) → true ≡ (length us == 0) → us ≡ []
no_token [] e = refl
no_token (k ∷ vs) e = let h : length (k ∷ vs) ≡ 0 = eqb-true (length (k ∷ vs)) 0 (sym e) in absurd (omega arith)

pub left_over : {ts us : List PlacedLexeme} {ps : List Proc} → Reads v.procs (rule (g.Program [])) ts ps us → false ≡ (length us == 0) → FailsWhole ts us
left_over {us = us} h some = let t = some_token us some in grammar.left_over rules laws h t.0 t.1 t.2

pub whole_read : {ts us : List PlacedLexeme} {ps : List Proc} → Reads v.procs (rule (g.Program [])) ts ps us → true ≡ (length us == 0) → Reads v.procs (rule (g.Program [])) ts ps []
whole_read {ts = ts} {us = us} {ps = ps} h none = subst (λ l. Reads v.procs (rule (g.Program [])) ts ps l) (no_token us none) h

-- what is read is spelled, and where reading stops the tokens go wrong

pub spelled : {ts : List PlacedLexeme} {ps : List Proc} → Reads v.procs (rule (g.Program [])) ts ps [] → Spells ts (record { procs = ps })
spelled h = grammar.spelled rules laws h

read_as : (ts : List PlacedLexeme) → IsProgram ts → (ps : List Proc) × Reads v.procs (rule (g.Program [])) ts ps []
read_as ts h = (h.0.procs, complete (g.Program []) h.1)

none_spelled : (ts r : List PlacedLexeme) → FailsWhole ts r → IsProgram ts → ⊥
none_spelled ts r f h = grammar.none_spelled rules (rule (g.Program [])) IsProgram read_as (λ us ps d. (record { procs = ps }, d)) ts r f h

place_of : (ts r : List PlacedLexeme) → FailsWhole ts r → IsPlace IsProgram ts (length ts - length r)
place_of ts r f = grammar.place_of rules (rule (g.Program [])) IsProgram read_as (λ us ps d. (record { procs = ps }, d)) ts r f

next_place : (f r : List PlacedLexeme) (last : Pos) → place_at (f ++ r) (length f) last ≡ place_at r zero last
next_place [] r last = refl
next_place (k ∷ f) r last = next_place f r last

pub refuses_at : (P : List PlacedLexeme → Type 0) (ts front r : List PlacedLexeme) (last : Pos) → ts ≡ front ++ r → (P ts → ⊥) → IsPlace P ts (length ts - length r) →
    RefusesTokens P ts last (fault.Syntax (place_at r zero last))
refuses_at P ts front r last is none place =
    let At : List PlacedLexeme → Type 0 = λ l. place_at l (length l - length r) last ≡ place_at r zero last in
    let there : At (front ++ r) = ap (λ n. place_at (front ++ r) n last) (count front r) ∙ next_place front r last in
    (none, (length ts - length r, place, sym (subst At (sym is) there)))

pub refuses_there : (ts : List PlacedLexeme) (last : Pos) (w : Stop PlacedLexeme) → RefusesWhole ts w → RefusesTokens IsProgram ts last (fault_of w last)
refuses_there ts last stop.Memory h = tt
refuses_there ts last (stop.Before r) h =
    let q = split h.opens.front in
    refuses_at IsProgram ts q.front r.now last q.left (none_spelled ts r.now h) (place_of ts r.now h)
