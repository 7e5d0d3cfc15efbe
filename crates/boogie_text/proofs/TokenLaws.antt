-- Each token of a text stands for itself, as it is handed out.
use Rattle.std.proofs.Common.{◌≡◌, ◌∙◌, refl, sym, ap, ℕ, ℤ, List, [], ◌∷◌, Some, None, map, if◌then◌else◌}
use Rattle.std.specs.Option.{option_map}
use Rattle.boogie_tree.specs.Literals.{IsLiteral}
use Rattle.boogie_grammar.specs.declared.tokens.BSign.{BSign}
use Rattle.boogie_grammar.specs.declared.tokens.BSign.TheVariants as sign
use Rattle.boogie_grammar.specs.declared.tokens.Lexeme.{Lexeme}
use Rattle.boogie_grammar.specs.declared.tokens.Lexeme.TheVariants as tok
use Rattle.boogie_grammar.specs.declared.tokens.PlacedLexeme.{PlacedLexeme}
use Rattle.boogie_grammar.specs.Cut.{IsCut}
use Rattle.boogie_grammar.specs.Words.{sign_text}
use Rattle.boogie_text.specs.PublicTokens.{shown, shown_token, sign_of, literal_of, stands_for, token_of}
use Rattle.boogie_print.proofs.AlikeLaws.{row_of}
use Rattle.boogie_print.proofs.SpelledLaws.{Proper, AllProper, row_proper}

sign_stands : (o : BSign) → sign_of (sign_text o) ≡ Some o
sign_stands sign.OpenParen = refl
sign_stands sign.CloseParen = refl
sign_stands sign.OpenBrace = refl
sign_stands sign.CloseBrace = refl
sign_stands sign.OpenBracket = refl
sign_stands sign.CloseBracket = refl
sign_stands sign.Comma = refl
sign_stands sign.Semicolon = refl
sign_stands sign.Colon = refl
sign_stands sign.Bounds = refl
sign_stands sign.Assign = refl
sign_stands sign.Iff = refl
sign_stands sign.Implies = refl
sign_stands sign.Or = refl
sign_stands sign.And = refl
sign_stands sign.Equal = refl
sign_stands sign.NotEqual = refl
sign_stands sign.AtMost = refl
sign_stands sign.AtLeast = refl
sign_stands sign.Less = refl
sign_stands sign.Greater = refl
sign_stands sign.Plus = refl
sign_stands sign.Minus = refl
sign_stands sign.Star = refl
sign_stands sign.Slash = refl
sign_stands sign.Not = refl

literal_stands : (make : ℤ → Lexeme) (n : ℤ) → IsLiteral n → literal_of make n ≡ Some (make n)
literal_stands make n h = ap (literal_of make) h.is ∙ ap (λ m. Some (make m)) (sym h.is)

stands : (t : Lexeme) → Proper t → stands_for (shown t) ≡ Some t
stands (tok.Name x) h = ap (λ b. if b then Some (tok.Name x) else None) h
stands (tok.Number n) h = literal_stands tok.Number n h
stands (tok.Real n) h = literal_stands tok.Real n h
stands (tok.Text l) h = refl
stands (tok.Sign o) h = ap (option_map tok.Sign) (sign_stands o)

all_stand : (ts : List PlacedLexeme) → AllProper ts → map token_of (map shown_token ts) ≡ map Some ts
all_stand [] h = refl
all_stand (k ∷ ts) h =
    let first : token_of (shown_token k) ≡ Some k = ap (option_map (λ t. record { tok = t; pos = k.pos })) (stands k.tok h.0) in
    ap (λ o. o ∷ map token_of (map shown_token ts)) first ∙ ap (λ l. Some k ∷ l) (all_stand ts h.1)

pub cut_stands : {before rest : List ℕ} {ts : List PlacedLexeme} → IsCut before rest ts → map token_of (map shown_token ts) ≡ map Some ts
cut_stands {ts = ts} c = all_stand ts (row_proper (row_of c))
