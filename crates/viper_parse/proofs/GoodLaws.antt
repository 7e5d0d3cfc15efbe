-- The tree of well-formed tokens keeps what the checker asks.
use Rattle.std.proofs.Common.{◌≡◌, refl, sym, subst, ◌∙◌, ℕ, ℤ, pos, negsuc, suc, ◌-◌, ◌≤◌, ◌^◌, ◌≤ℤ◌, List, [], ◌∷◌, slice_get, Some, arith, append_assoc, unsigned_abs}
use Rattle.std.proofs.lemmas.Int.{ints}
use Rattle.std.specs.List.{All}
use Rattle.std.proofs.lemmas.List.Elements.{All-nil, All-cons}
use Rattle.vb_base.specs.Limits.{max_group_tokens, max_term_depth}
use Rattle.viper_syntax.specs.declared.tokens.Token.{Token}
use Rattle.viper_syntax.specs.declared.tokens.Tok.{Tok}
use Rattle.viper_syntax.specs.declared.tokens.Tok.TheVariants as k
use Rattle.viper_syntax.specs.Decl as d
use Rattle.viper_syntax.specs.Limit.{KeepsLimits}
use Rattle.viper_syntax.specs.Lexed.{IsProper, IsWellFormed}
use Rattle.viper_syntax.specs.Good.{HasLiterals, HasNames, IsName, IsGoodSource, depth}
use Rattle.viper_syntax.proofs.FormLaws.{short_row}
use Rattle.viper_grammar.specs.Spells.{Spells}
use Rattle.viper_parse.proofs.Leaves.{Each, IsRight, all_hold}
use Rattle.viper_parse.proofs.Counted.{all_counted}
use Rattle.viper_parse.proofs.Shallow.{HasShortRows, all_shallow}

all_each : {X : Type 0} (P : X → Type 0) (xs : List X) → Each P xs → All P xs
all_each P [] h = All-nil P
all_each P (x ∷ xs) h = All-cons P x xs h.0 (all_each P xs h.1)

-- a token that is well-formed has a name that is one, or a literal within the bound

literal : (i : ℤ) (most : ℕ) → pos 0 ≤ℤ i → i ≤ℤ pos most → unsigned_abs i ≤ most
literal (pos n) most above below = omega (arith, ints, below)
literal (negsuc n) most above below = absurd (omega (arith, ints, above))

right : (x : Tok) → IsProper x → IsRight x
right (k.Name x) h = h
right (k.Number i) h = (h.0, let below = literal i (2 ^ 127 - 1) h.0 h.1 in omega arith)
right (k.Word w) h = tt
right (k.Sign o) h = tt

all_right : (ts : List Token) → ((i : ℕ) (x : Token) → slice_get ts i ≡ Some x → IsProper x.tok) → Each (λ (x : Token). IsRight x.tok) ts
all_right [] h = tt
all_right (x ∷ ts) h = (right x.tok (h 0 x refl), all_right ts (λ i y e. h (suc i) y e))

short_rows : (ts : List Token) → KeepsLimits ts → HasShortRows max_group_tokens ts
short_rows ts h = record { short = λ before row after e r. short_row before row after (subst KeepsLimits (e ∙ sym (append_assoc before row after)) h) r }

-- a program of such tokens
pub good : {ts : List Token} {p : d.SourceProgram} → IsWellFormed ts → Spells ts p → IsGoodSource p
good {ts} {p} w h =
    let leaves = all_hold h (all_right ts w.proper) in
    record {
      shallow = all_each (λ a. depth a ≤ max_term_depth) _ (all_shallow (omega (arith, w.few)) h (short_rows ts w.limits));
      literals = all_each HasLiterals _ leaves.literals;
      names = record {
        declared = all_each IsName _ leaves.declared;
        in_terms = all_each HasNames _ leaves.in_terms;
        used = all_each IsName _ leaves.used;
      };
      few = omega (arith, w.few, all_counted h);
    }
