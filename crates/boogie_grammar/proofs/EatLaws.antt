-- What a token is not.
use Rattle.std.proofs.Common.{◌≡◌, ◌∙◌, refl, sym, ap, ℕ, Bool, false, true, List}
use Rattle.grammar.proofs.Laws.{one_start}
use Rattle.boogie_tree.specs.Values.{is_key}
use Rattle.boogie_tree.specs.declared.exprs.BBase.{BBase}
use Rattle.boogie_grammar.specs.declared.tokens.PlacedLexeme.{PlacedLexeme}
use Rattle.boogie_grammar.specs.Greedy.{IsNot, Starts, Goes}
use Rattle.boogie_grammar.specs.Grammar.{Rule, when, where_true}
use Rattle.boogie_grammar.specs.ReadView.{ReadsVariable, NoVariable}
use Rattle.boogie_grammar.specs.Tests as v
use Rattle.boogie_grammar.specs.Tests.{Kind, Value, Test, a_base, a_key, a_variable, some_free}
use Rattle.boogie_grammar.proofs.Elements.{laws}
use Rattle.boogie_grammar.proofs.Reading.{boogie_steps}
open boogie_steps use {by_token, by_other}

as_base : {ts us : List PlacedLexeme} {u : BBase} → Starts a_key ts u us → Starts a_base ts u us
as_base h = record { token = h.token; is = h.is; passes = h.passes.0 }

pub key_starts : {ts us : List PlacedLexeme} {u : BBase} → Starts a_base ts u us → is_key u ≡ true → Starts a_key ts u us
key_starts h k = record { token = h.token; is = h.is; passes = (h.passes, k) }

pub no_base_no_key : {ts : List PlacedLexeme} → IsNot a_base ts → IsNot a_key ts
no_base_no_key n = record { none = λ v us h. n.none v us (as_base h) }

pub base_no_key : {ts us : List PlacedLexeme} {u : BBase} → Starts a_base ts u us → is_key u ≡ false → IsNot a_key ts
base_no_key {u = u} h k = record { none = λ v vs g. let same = one_start laws h (as_base g) in let e : false ≡ true = sym k ∙ ap is_key same.0 ∙ g.passes.1 in cc }

-- variables, which can be named only where some name is free

variable_at : {r k : Kind} {a : Rule k} (go : Value r → Rule k) (other : Rule k) {ts us vs : List PlacedLexeme} {i : Value r} (b : Bool) (test : b ≡ true → Test true r) → b ≡ true →
    ((h : b ≡ true) → Starts (test h) us i vs) → Goes a ts (where_true b (λ h. when (test h) go other) other) us → Goes a ts (go i) vs
variable_at go other true test holds h g = by_token (h refl) g
variable_at go other false test holds h g = absurd (cc)

pub by_variable : {k : Kind} {a : Rule k} (go : Value v.variable → Rule k) (other : Rule k) {names : List (List ℕ)} {ts us vs : List PlacedLexeme} {i : ℕ} → ReadsVariable names us i vs →
    Goes a ts (where_true (some_free names) (λ some. when (a_variable names some) go other) other) us → Goes a ts (go i) vs
by_variable go other {names = names} h g = variable_at go other (some_free names) (λ some. a_variable names some) h.0 h.1 g

no_variable_at : {r k : Kind} {a : Rule k} (go : Value r → Rule k) (other : Rule k) {ts us : List PlacedLexeme} (b : Bool) (test : b ≡ true → Test true r) →
    ((h : b ≡ true) → IsNot (test h) us) → Goes a ts (where_true b (λ h. when (test h) go other) other) us → Goes a ts other us
no_variable_at go other true test n g = by_other (n refl) g
no_variable_at go other false test n g = g

pub by_no_variable : {k : Kind} {a : Rule k} (go : Value v.variable → Rule k) (other : Rule k) {names : List (List ℕ)} {ts us : List PlacedLexeme} → NoVariable names us →
    Goes a ts (where_true (some_free names) (λ some. when (a_variable names some) go other) other) us → Goes a ts other us
by_no_variable go other {names = names} n g = no_variable_at go other (some_free names) (λ some. a_variable names some) n g
