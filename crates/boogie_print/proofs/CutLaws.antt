-- Bytes are cut in one way.
use Rattle.std.proofs.Common.{◌≡◌, ◌∙◌, ℕ, List, ◌∷◌, ◌++◌, Option, Some, take, drop, length, refl, sym, ap, subst}
use Rattle.lemmas.proofs.Options.{some_same}
use Rattle.vb_base.proofs.Fronts.{one_label}
use Rattle.vb_base.proofs.PlaceLaws.{one_place_after}
use Rattle.boogie_grammar.specs.declared.tokens.Lexeme.{Lexeme}
use Rattle.boogie_grammar.specs.declared.tokens.Lexeme.TheVariants as tok
use Rattle.boogie_grammar.specs.declared.tokens.PlacedLexeme.{PlacedLexeme}
use Rattle.boogie_grammar.specs.Words.{sign_text}
use Rattle.boogie_grammar.specs.Pieces.{Class, Piece, blank, name, number, text, comment, sign}
use Rattle.boogie_grammar.specs.Cut.{IsCut, end, piece, onto}

pub one_piece : {c : Class} {bytes : List ℕ} {o q : Option Lexeme} {n m : ℕ} → Piece c bytes o n → Piece c bytes q m → (o ≡ q) × (n ≡ m)
one_piece blank blank = (refl, refl)
one_piece name name = (refl, refl)
one_piece (number h) (number k) = (refl, refl)
one_piece (text h e) (text k f) = (ap (λ l. Some (tok.Text l)) (one_label h k), refl)
one_piece comment comment = (refl, refl)
one_piece comment (sign n k) = absurd (cc)
one_piece (sign n h) comment = absurd (cc)
one_piece (sign _ h) (sign _ k) = let same = some_same (sym h ∙ k) in (ap (λ o. Some (tok.Sign o)) same, ap (λ o. length (sign_text o)) same)

pub one_cut : {before rest : List ℕ} {ts us : List PlacedLexeme} → IsCut before rest ts → IsCut before rest us → ts ≡ us
one_cut end end = refl
one_cut (piece {before = before} {bytes = bytes} {b = b} {o = o} {at = at} {tokens = ts} p a h) (piece {o = q} {at = place} {tokens = us} r c k) =
    let same = one_piece p r in
    let At : ℕ → Type 0 = λ n. IsCut (before ++ take n (b ∷ bytes)) (drop n (b ∷ bytes)) us in
    let rest : ts ≡ us = one_cut h (subst At (sym same.1) k) in
    ap (λ t. onto t at ts) same.0 ∙ ap (λ x. onto q x ts) (one_place_after before at place a c) ∙ ap (onto q place) rest
