-- Clauses, and the names that are bound in them.
use Rattle.std.proofs.Common.{◌≡◌, ◌∙◌, refl, sym, ap, ℕ, Bool, true, false, List, [], ◌∷◌, ◌++◌, append_assoc, if◌then◌else◌}
use Rattle.std.proofs.lemmas.List.{append-nil}
use Rattle.boogie_grammar.specs.declared.tokens.BSign.{BSign}
use Rattle.boogie_grammar.specs.declared.tokens.BSign.TheVariants as sign
use Rattle.boogie_grammar.specs.declared.tokens.Lexeme.{Lexeme}
use Rattle.boogie_grammar.specs.declared.tokens.Lexeme.TheVariants as tok
use Rattle.boogie_grammar.specs.declared.tokens.PlacedLexeme.{PlacedLexeme}
use Rattle.boogie_grammar.specs.Greedy.{Starts, IsNot}
use Rattle.boogie_grammar.specs.Tests.{the_sign}
use Rattle.boogie_loops.specs.Wide as w
use Rattle.boogie_loops_grammar.specs.Trees as trees
use Rattle.boogie_loops_text.specs.Bound.{is_colon_sign, is_colon, starts_colon, binds, bound_in}

-- a name and a `:`

sign_is : (o : BSign) → is_colon_sign o ≡ true → o ≡ sign.Colon
sign_is sign.Colon h = refl
sign_is _ h = absurd (cc)

colon_is : (k : Lexeme) → is_colon k ≡ true → k ≡ tok.Sign sign.Colon
colon_is (tok.Sign o) h = ap tok.Sign (sign_is o h)
colon_is (tok.Name x) h = absurd (cc)
colon_is (tok.Number n) h = absurd (cc)
colon_is (tok.Real n) h = absurd (cc)
colon_is (tok.Text l) h = absurd (cc)

no_colon : (ts : List PlacedLexeme) → IsNot (the_sign sign.Colon) ts → starts_colon ts ≡ false
no_colon [] n = refl
no_colon (k ∷ ts) n = by_case (is_colon k.tok) refl where
  by_case : (b : Bool) → is_colon k.tok ≡ b → is_colon k.tok ≡ false
  by_case false e = e
  by_case true e = absurd (n.none tt ts (record { token = k; is = refl; passes = colon_is k.tok e }))

pub binds_none : (k : Lexeme) (x : List ℕ) (ts : List PlacedLexeme) → k ≡ tok.Name x → IsNot (the_sign sign.Colon) ts → binds k ts ≡ []
binds_none k x ts e n = ap (λ t. binds t ts) e ∙ ap (λ (b : Bool). if b then x ∷ [] else []) (no_colon ts n)

pub binds_name : (k : Lexeme) (x : List ℕ) (ts : List PlacedLexeme) {us : List PlacedLexeme} → k ≡ tok.Name x → Starts (the_sign sign.Colon) ts tt us → binds k ts ≡ x ∷ []
binds_name k x ts e p = ap (λ t. binds t ts) e ∙ ap (λ (b : Bool). if b then x ∷ [] else []) (ap starts_colon p.is ∙ ap is_colon p.passes)

-- names behind others

pub one_token : (now more start : List (List ℕ)) (left rest : List PlacedLexeme) (k : PlacedLexeme) → left ≡ k ∷ rest → more ≡ now ++ binds k.tok rest → now ++ bound_in left ≡ start → more ++ bound_in rest ≡ start
one_token now more start left rest k e f h =
    ap (λ l. l ++ bound_in rest) f ∙ append_assoc now (binds k.tok rest) (bound_in rest) ∙ ap (λ l. now ++ bound_in l) (sym e) ∙ h

pub no_tokens : (now start : List (List ℕ)) (left : List PlacedLexeme) → left ≡ [] → now ++ bound_in left ≡ start → now ≡ start
no_tokens now start left e h = sym (append-nil now) ∙ ap (λ l. now ++ bound_in l) (sym e) ∙ h

-- contracts

pub contract_is : {pre pre' post post' : List w.Clause} {bound bound' : List (List ℕ)} → pre ≡ pre' → post ≡ post' → bound ≡ bound' →
    (let c : trees.Contract = record { preconditions = pre; postconditions = post; bound = bound } in c) ≡ record { preconditions = pre'; postconditions = post'; bound = bound' }
contract_is e f h = λ i. record { preconditions = e i; postconditions = f i; bound = h i }
