-- Programs: what is read up to the end of the tokens, and where they go wrong.
use Rattle.std.proofs.Common.{◌≡◌, ◌∙◌, refl, sym, ap, subst, zero, ◌-◌, false, true, List, [], ◌∷◌, ◌++◌, length, arith, ◌==◌, Result}
use Rattle.std.specs.Result.{IsErrAnd}
use Rattle.std.specs.declared.alloc.Global.{Global}
use Rattle.std.specs.declared.vec.Vec.{Vec}
use Rattle.std.proofs.lemmas.Result.{err_from_is_err_and}
use Rattle.std.proofs.lemmas.Bool.{eqb-true}
use Rattle.vb_base.specs.declared.places.Pos.{Pos}
use Rattle.vb_base.specs.Place.{IsPlace}
use Rattle.grammar.specs.declared.stop.Stop.{Stop}
use Rattle.grammar.specs.declared.stop.Stop.TheVariants as stop
use Rattle.grammar.proofs.Whole as grammar
use Rattle.grammar.proofs.Whole.{split}
use Rattle.grammar.specs.Wider.{new}
use Rattle.boogie_grammar.specs.declared.tokens.PlacedLexeme.{PlacedLexeme}
use Rattle.boogie_grammar.specs.Faults.{place_at, fault_of}
use Rattle.boogie_loops.specs.Wide.{WProc}
use Rattle.boogie_loops.specs.declared.wide.WProc as d
use Rattle.boogie_loops_grammar.specs.Grammar as g
use Rattle.boogie_loops_grammar.specs.Grammar.{rule, rules, Programs}
use Rattle.boogie_loops_grammar.specs.Spells.{Spells, SpellsWideProgram}
use Rattle.boogie_loops_grammar.proofs.Elements.{laws}
use Rattle.boogie_loops_text.specs.Greedy.{Reads, Refuses}
use Rattle.boogie_text.specs.Texts.{RefusesTokens}
use Rattle.boogie_text.proofs.Whole.{some_token, no_token, refuses_at}
use Rattle.boogie_loops_text.specs.Whole.{FailsWhole, RefusesWhole, ReadsWhole}
use Rattle.boogie_loops_grammar.proofs.Reading.{wide_steps}
use Rattle.boogie_loops_text.proofs.WideComplete.{complete}
open wide_steps use {start}

pub whole_error : (ts : List PlacedLexeme) (w : Stop PlacedLexeme) (res : Result (Vec d.WProc Global) (Stop PlacedLexeme)) → IsErrAnd res (λ x. x ≡ w) → Refuses (rule (Programs [])) ts w → ReadsWhole ts res
whole_error ts w res e h =
    let y = err_from_is_err_and res e in
    let refuses : RefusesWhole ts w = grammar.whole_refuses w (start (rule (Programs [])) ts) h in
    subst (λ o. ReadsWhole ts o) (sym y.1) (subst (λ x. RefusesWhole ts x) (sym y.2) refuses)

-- the procedures end, and a token is left

pub left_over : {ts us : List PlacedLexeme} {ps : List WProc} → Reads (new g.procs) (rule (Programs [])) ts ps us → false ≡ (length us == 0) → FailsWhole ts us
left_over {us = us} h some = let t = some_token us some in grammar.left_over rules laws h t.0 t.1 t.2

pub whole_read : {ts us : List PlacedLexeme} {ps : List WProc} → Reads (new g.procs) (rule (Programs [])) ts ps us → true ≡ (length us == 0) → Reads (new g.procs) (rule (Programs [])) ts ps []
whole_read {ts = ts} {us = us} {ps = ps} h none = subst (λ l. Reads (new g.procs) (rule (Programs [])) ts ps l) (no_token us none) h

-- what is read is spelled, and where reading stops the tokens go wrong

pub spelled : {ts : List PlacedLexeme} {ps : List WProc} → Reads (new g.procs) (rule (Programs [])) ts ps [] → Spells ts (record { procs = ps })
spelled h = grammar.spelled rules laws h

read_as : (ts : List PlacedLexeme) → SpellsWideProgram ts → (ps : List WProc) × Reads (new g.procs) (rule (Programs [])) ts ps []
read_as ts h = (h.0.procs, complete (Programs []) h.1)

none_spelled : (ts r : List PlacedLexeme) → FailsWhole ts r → SpellsWideProgram ts → ⊥
none_spelled ts r f h = grammar.none_spelled rules (rule (Programs [])) SpellsWideProgram read_as (λ us ps d. (record { procs = ps }, d)) ts r f h

place_of : (ts r : List PlacedLexeme) → FailsWhole ts r → IsPlace SpellsWideProgram ts (length ts - length r)
place_of ts r f = grammar.place_of rules (rule (Programs [])) SpellsWideProgram read_as (λ us ps d. (record { procs = ps }, d)) ts r f

pub refuses_there : (ts : List PlacedLexeme) (last : Pos) (w : Stop PlacedLexeme) → RefusesWhole ts w → RefusesTokens SpellsWideProgram ts last (fault_of w last)
refuses_there ts last stop.Memory h = tt
refuses_there ts last (stop.Before r) h =
    let q = split h.opens.front in
    refuses_at SpellsWideProgram ts q.front r.now last q.left (none_spelled ts r.now h) (place_of ts r.now h)
