-- What a function answers at each of its exits, from how far it has read. Tokens, expressions and types are read as in the other
-- programs.
use Rattle.std.proofs.Common.{◌≡◌, refl, sym, subst, Bool, true, false, ℕ, List, [], Result, Err, Bor}
use Rattle.std.specs.Result.{IsErrAnd}
use Rattle.std.proofs.lemmas.Result.{err_from_is_err_and}
use Rattle.grammar.specs.declared.stop.Stop.{Stop}
use Rattle.grammar.specs.declared.stop.Stop.TheVariants as stop
use Rattle.grammar.specs.Rules.{Rules, Starts, give, need, when, read}
use Rattle.grammar.specs.Greedy as greedy
use Rattle.grammar.specs.Wider.{old, new, was, more}
use Rattle.grammar.proofs.Wider as wide
use Rattle.boogie_grammar.specs.declared.tokens.PlacedLexeme.{PlacedLexeme}
use Rattle.boogie_grammar.specs.Greedy as narrow
use Rattle.boogie_grammar.specs.Tests as v
use Rattle.boogie_grammar.specs.Tests.{Kind, Value, Test, a_variable, some_free}
use Rattle.boogie_grammar.specs.Grammar as g
use Rattle.boogie_grammar.specs.ReadView.{ReadsVariable, NoVariable}
use Rattle.boogie_loops_grammar.specs.Noting.{noting, second_rules, noted_rules}
use Rattle.boogie_loops_grammar.specs.Grammar.{Symbol, Rule, telling, wider_boogie, new_names, more_rule, rule, rules, where_true}
use Rattle.boogie_loops_grammar.proofs.Reading.{wide_failing, wide_steps}
use Rattle.boogie_loops_grammar.proofs.Noting.{fails_noted}
use Rattle.boogie_loops_text.specs.Greedy.{WKind, WValue, Reads, Fails, Goes, Refuses, Parses}
use Rattle.boogie_loops_text.specs.Bound.{bound_in}
use Rattle.boogie_loops_text.proofs.NotedNames.{eaten, expr_noted}
open wide_steps use {error_as}

-- from the grammar of the other programs

abbrev telling_rules : Rules telling
telling_rules = noted_rules new_names g.rules

starts_up : {b : Bool} {r : Kind} {c : Test b r} {ts us : List PlacedLexeme} {x : Value r} → narrow.Starts c ts x us → Starts wider_boogie {b = b} {r = old (old r)} c ts x us
starts_up p = wide.starts_up telling_rules (λ s a. more_rule a) (wide.starts_up g.rules (second_rules new_names g.rules) p)

isnot_up : {b : Bool} {r : Kind} {c : Test b r} {ts : List PlacedLexeme} → narrow.IsNot c ts → greedy.IsNot wider_boogie {b = b} {r = old (old r)} c ts
isnot_up n = wide.isnot_up telling_rules (λ s a. more_rule a) (wide.isnot_up g.rules (second_rules new_names g.rules) n)

reads_up : {s : Kind} (a : g.Symbol s) {ts us : List PlacedLexeme} {x : Value s} → narrow.Reads s (g.rule a) ts x us → Reads (old (old s)) (rules _ (was (was a))) ts x us
reads_up a h = wide.reads_up telling_rules (λ s a. more_rule a) (wide.reads_up g.rules (second_rules new_names g.rules) h)

fails_up : {s : Kind} (a : g.Symbol s) {ts r : List PlacedLexeme} → narrow.Fails (g.rule a) ts r → Fails {s = old (old s)} (rules _ (was (was a))) ts r
fails_up a f = wide.fails_up telling_rules (λ s a. more_rule a) _ (wide.fails_up g.rules (second_rules new_names g.rules) (g.rule a) f)

-- steps

pub by_need : {r : Kind} {s : WKind} {a : Rule s} {c : Test true r} {go : Value r → Rule s} {ts us vs : List PlacedLexeme} {x : Value r} →
    narrow.Starts c us x vs → Goes a ts (need {r = old (old r)} c go) us → Goes a ts (go x) vs
by_need p g = wide_steps.by_need (starts_up p) g

pub by_token : {b : Bool} {r : Kind} {s : WKind} {a : Rule s} {c : Test b r} {go : Value r → Rule s} {other : Rule s} {ts us vs : List PlacedLexeme} {x : Value r} →
    narrow.Starts c us x vs → Goes a ts (when {b = b} {r = old (old r)} c go other) us → Goes a ts (go x) vs
by_token p g = wide_steps.by_token (starts_up p) g

pub by_other : {b : Bool} {r : Kind} {s : WKind} {a : Rule s} {c : Test b r} {go : Value r → Rule s} {other : Rule s} {ts us : List PlacedLexeme} →
    narrow.IsNot c us → Goes a ts (when {b = b} {r = old (old r)} c go other) us → Goes a ts other us
by_other n g = wide_steps.by_other (isnot_up n) g

-- a symbol of the other programs
pub by_old : {r : Kind} {s : WKind} {a : Rule s} {b : g.Symbol r} {go : Value r → Rule s} {ts us vs : List PlacedLexeme} {y : Value r} →
    narrow.Reads r (g.rule b) us y vs → Goes a ts (read {r = old (old r)} (was (was b)) go) us → Goes a ts (go y) vs
by_old {b = b} h g = wide_steps.by_part (reads_up b h) g

pub by_part : {r s : WKind} {a : Rule s} {b : Symbol r} {go : WValue r → Rule s} {ts us vs : List PlacedLexeme} {y : WValue r} →
    Reads r (rule b) us y vs → Goes a ts (read (more b) go) us → Goes a ts (go y) vs
by_part h g = wide_steps.by_part h g

-- an expression, and the names that are bound in it
pub by_noted : {s : WKind} {a : Rule s} (x : g.ExprScope) {go : _ → Rule s} {ts us vs : List PlacedLexeme} {e : _} →
    narrow.Reads v.expr (g.rule (g.Expr x)) us e vs → Goes a ts (read {r = old (new v.expr)} (was (more (noting (g.Expr x)))) go) us → Goes a ts (go (e, bound_in (eaten us vs))) vs
by_noted x h g = wide_steps.by_part (wide.reads_up telling_rules (λ s a. more_rule a) (expr_noted x h)) g

pub fails_taken : {b : Bool} {r : Kind} {s : WKind} {c : Test b r} {go : Value r → Rule s} {other : Rule s} {ts us z : List PlacedLexeme} {x : Value r} →
    narrow.Starts c ts x us → Fails (go x) us z → Fails (when {b = b} {r = old (old r)} c go other) ts z
fails_taken p f = wide_failing.fails_taken (starts_up p) f

pub fails_here : {r : Kind} {s : WKind} {c : Test true r} {go : Value r → Rule s} {ts : List PlacedLexeme} → narrow.IsNot c ts → Fails (need {r = old (old r)} c go) ts ts
fails_here n = wide_failing.fails_here (isnot_up n)

-- an error at a `?`

-- what is left of the rule goes wrong
pub rest_error : {s : WKind} {R : Type 0} (view : R → WValue s) {b a : Rule s} {us ts : List PlacedLexeme} (w : Stop PlacedLexeme)
    (res : Result (R × Bor (List PlacedLexeme)) (Stop PlacedLexeme)) → IsErrAnd res (λ x. x ≡ w) → Goes a ts b us → Refuses b us w → Parses view a ts res
rest_error view w res e g h = error_as view w res e (λ z f. g.fails z f) h

pub part_error : {r s : WKind} {R : Type 0} (view : R → WValue s) {b : Symbol r} {go : WValue r → Rule s} {a : Rule s} {us ts : List PlacedLexeme} (w : Stop PlacedLexeme)
    (res : Result (R × Bor (List PlacedLexeme)) (Stop PlacedLexeme)) → IsErrAnd res (λ x. x ≡ w) → Goes a ts (read (more b) go) us → Refuses (rule b) us w → Parses view a ts res
part_error view w res e g h = wide_steps.part_error view w res e g h

refuses_up : {s : Kind} (a : g.Symbol s) (us : List PlacedLexeme) (w : Stop PlacedLexeme) → narrow.Refuses (g.rule a) us w → Refuses {s = old (old s)} (rules _ (was (was a))) us w
refuses_up a us stop.Memory h = tt
refuses_up a us (stop.Before r) h = fails_up a h

pub old_error : {r : Kind} {s : WKind} {R : Type 0} (view : R → WValue s) {b : g.Symbol r} {go : Value r → Rule s} {a : Rule s} {us ts : List PlacedLexeme} (w : Stop PlacedLexeme)
    (res : Result (R × Bor (List PlacedLexeme)) (Stop PlacedLexeme)) → IsErrAnd res (λ x. x ≡ w) → Goes a ts (read {r = old (old r)} (was (was b)) go) us →
    narrow.Refuses (g.rule b) us w → Parses view a ts res
old_error view {b = b} {us = us} w res e g h = wide_steps.part_error view w res e g (refuses_up b us w h)

noted_refuses : (x : g.ExprScope) (us : List PlacedLexeme) (w : Stop PlacedLexeme) → narrow.Refuses (g.rule (g.Expr x)) us w → Refuses {s = old (new v.expr)} (rules _ (was (more (noting (g.Expr x))))) us w
noted_refuses x us stop.Memory h = tt
noted_refuses x us (stop.Before r) h = wide.fails_up telling_rules (λ s a. more_rule a) _ (fails_noted new_names g.rules (g.rule (g.Expr x)) [] h)

misses_up : {b : Bool} {r : Kind} (c : Test b r) (us : List PlacedLexeme) (w : Stop PlacedLexeme) → narrow.Misses c us w → greedy.Misses wider_boogie {b = b} {r = old (old r)} c us w
misses_up c us w h = wide.misses_up telling_rules (λ s a. more_rule a) c us w (wide.misses_up g.rules (second_rules new_names g.rules) c us w h)

pub token_error : {r : Kind} {s : WKind} {R : Type 0} (view : R → WValue s) {c : Test true r} {go : Value r → Rule s} {a : Rule s} {us ts : List PlacedLexeme} (w : Stop PlacedLexeme)
    (res : Result (R × Bor (List PlacedLexeme)) (Stop PlacedLexeme)) → IsErrAnd res (λ x. x ≡ w) → Goes a ts (need {r = old (old r)} c go) us → narrow.Misses c us w → Parses view a ts res
token_error view {c = c} {us = us} w res e g h = wide_steps.token_error view w res e g (misses_up c us w h)

-- the same, where the answer is that the rule goes wrong

pub at_error : {T : Type 0} (P : Result T (Stop PlacedLexeme) → Type 0) (res : Result T (Stop PlacedLexeme)) (w : Stop PlacedLexeme) → IsErrAnd res (λ x. x ≡ w) → P (Err w) → P res
at_error P res w e h = let y = err_from_is_err_and res e in subst P (sym y.1) (subst (λ x. P (Err x)) (sym y.2) h)

pub token_refuses : {r : Kind} {s : WKind} {c : Test true r} {go : Value r → Rule s} {a : Rule s} {us ts : List PlacedLexeme} (w : Stop PlacedLexeme) → Goes a ts (need {r = old (old r)} c go) us →
    narrow.Misses c us w → Refuses a ts w
token_refuses stop.Memory g h = tt
token_refuses {a = a} {ts = ts} (stop.Before r) g h = subst (λ z. Fails a ts z) (sym h.1) (wide_steps.wrong_token (isnot_up h.0) g)

pub old_refuses : {r : Kind} {s : WKind} {b : g.Symbol r} {go : Value r → Rule s} {a : Rule s} {us ts : List PlacedLexeme} (w : Stop PlacedLexeme) → Goes a ts (read {r = old (old r)} (was (was b)) go) us →
    narrow.Refuses (g.rule b) us w → Refuses a ts w
old_refuses stop.Memory g h = tt
old_refuses {b = b} (stop.Before r) g h = wide_steps.wrong_part (fails_up b h) g

pub noted_refuses_in : {s : WKind} (x : g.ExprScope) {go : _ → Rule s} {a : Rule s} {us ts : List PlacedLexeme} (w : Stop PlacedLexeme) → Goes a ts (read {r = old (new v.expr)} (was (more (noting (g.Expr x)))) go) us →
    narrow.Refuses (g.rule (g.Expr x)) us w → Refuses a ts w
noted_refuses_in x {us = us} stop.Memory g h = tt
noted_refuses_in x {us = us} (stop.Before r) g h = wide_steps.wrong_part (noted_refuses x us (stop.Before r) h) g

pub part_refuses : {r s : WKind} {b : Symbol r} {go : WValue r → Rule s} {a : Rule s} {us ts : List PlacedLexeme} (w : Stop PlacedLexeme) → Goes a ts (read (more b) go) us → Refuses (rule b) us w → Refuses a ts w
part_refuses stop.Memory g h = tt
part_refuses (stop.Before r) g h = wide_steps.wrong_part h g

pub rest_refuses : {s : WKind} {b a : Rule s} {us ts : List PlacedLexeme} (w : Stop PlacedLexeme) → Goes a ts b us → Refuses b us w → Refuses a ts w
rest_refuses stop.Memory g h = tt
rest_refuses (stop.Before r) g h = g.fails _ h

-- the last call of a function

pub tail : {s : WKind} {a : Rule s} {b : Symbol s} {ts us : List PlacedLexeme} → Goes a ts (read (more b) give) us → Goes a ts (rule b) us
tail g = wide_steps.tail g

-- a symbol with an equal list

pub symbol_at : {A : Type 0} {r : WKind} (f : A → Symbol r) {x y : A} {z : WValue r} {ts us : List PlacedLexeme} → x ≡ y → Reads r (rule (f x)) ts z us → Reads r (rule (f y)) ts z us
symbol_at {r = r} f {z = z} {ts = ts} {us = us} e h = subst (λ k. Reads r (rule (f k)) ts z us) e h

pub symbol_refuses_at : {A : Type 0} {r : WKind} (f : A → Symbol r) (x y : A) (us : List PlacedLexeme) (w : Stop PlacedLexeme) → x ≡ y → Refuses (rule (f x)) us w → Refuses (rule (f y)) us w
symbol_refuses_at f x y us w e h = subst (λ k. Refuses (rule (f k)) us w) e h

-- variables, which can be named only where some name is free

variable_at : {r : Kind} {k : WKind} {a : Rule k} (go : Value r → Rule k) (other : Rule k) {ts us vs : List PlacedLexeme} {i : Value r} (b : Bool) (test : b ≡ true → Test true r) → b ≡ true →
    ((h : b ≡ true) → narrow.Starts (test h) us i vs) → Goes a ts (where_true b (λ h. when {b = true} {r = old (old r)} (test h) go other) other) us → Goes a ts (go i) vs
variable_at go other true test holds h g = by_token (h refl) g
variable_at go other false test holds h g = absurd (cc)

pub by_variable : {k : WKind} {a : Rule k} (go : ℕ → Rule k) (other : Rule k) {names : List (List ℕ)} {ts us vs : List PlacedLexeme} {i : ℕ} → ReadsVariable names us i vs →
    Goes a ts (where_true (some_free names) (λ some. when {b = true} {r = old (old v.variable)} (a_variable names some) go other) other) us → Goes a ts (go i) vs
by_variable go other {names = names} h g = variable_at go other (some_free names) (λ some. a_variable names some) h.0 h.1 g

no_variable_at : {r : Kind} {k : WKind} {a : Rule k} (go : Value r → Rule k) (other : Rule k) {ts us : List PlacedLexeme} (b : Bool) (test : b ≡ true → Test true r) →
    ((h : b ≡ true) → narrow.IsNot (test h) us) → Goes a ts (where_true b (λ h. when {b = true} {r = old (old r)} (test h) go other) other) us → Goes a ts other us
no_variable_at go other true test n g = by_other (n refl) g
no_variable_at go other false test n g = g

pub by_no_variable : {k : WKind} {a : Rule k} (go : ℕ → Rule k) (other : Rule k) {names : List (List ℕ)} {ts us : List PlacedLexeme} → NoVariable names us →
    Goes a ts (where_true (some_free names) (λ some. when {b = true} {r = old (old v.variable)} (a_variable names some) go other) other) us → Goes a ts other us
by_no_variable go other {names = names} n g = no_variable_at go other (some_free names) (λ some. a_variable names some) n g

-- where a test is true

pub where_holds : {k : WKind} {a : Rule k} {ts us : List PlacedLexeme} (b : Bool) (some : b ≡ true → Rule k) (other : Rule k) (h : b ≡ true) → Goes a ts (where_true b some other) us → (e : b ≡ true) × Goes a ts (some e) us
where_holds true some other h g = (refl, g)
where_holds false some other h g = absurd (cc)
