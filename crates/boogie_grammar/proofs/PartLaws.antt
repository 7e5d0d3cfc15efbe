-- The tokens of a part as a loop comes to them.
use Rattle.std.proofs.Common.{◌≡◌, ◌∙◌, ◌+◌, ◌-◌, ◌<◌, ◌≤◌, refl, sym, ap, subst, arith, ℕ, All, List, [], ◌∷◌, ◌++◌, length, length-append, length-drop, take, drop, append-nil, true, ◌==◌, Option, Some, None, inl, inr}
use Rattle.std.specs.Prelude.{◌⊎◌}
use Rattle.std.proofs.lemmas.Bool.{cases_lt}
use Rattle.std.proofs.lemmas.Bool.Decides.{nat_tests}
use Rattle.std.proofs.lemmas.List.{take_all, take-append-le}
use Rattle.std.proofs.lemmas.List.Elements.{All-nil, All-cons, All-append}
use Rattle.std.proofs.lemmas.List.Sums.{fold_push, fold-append}
use Rattle.std.proofs.Math.Seq.{take-append-add}
use Rattle.vb_base.specs.Limits.{max_unclosed_brackets}
use Rattle.vb_base.specs.declared.places.Pos.{Pos}
use Rattle.boogie_grammar.specs.declared.tokens.Lexeme.{Lexeme}
use Rattle.boogie_grammar.specs.declared.tokens.PlacedLexeme.{PlacedLexeme}
use Rattle.boogie_grammar.specs.Cut.{IsRow, none, more, onto}
use Rattle.boogie_grammar.specs.Depth.{unclosed_with}
use Rattle.boogie_grammar.specs.Parts.{IsPart, IsShallowFrom, IsToken, unclosed_from}
use Rattle.boogie_grammar.specs.Step.{IsPiece, one_at}
use Rattle.boogie_grammar.proofs.LexLaws.{onto_is}
use Rattle.boogie_grammar.proofs.WrittenRows.{start}

-- the tokens so far, how many brackets are unclosed after them, and the text after them
pub record IsBegun (before : ℕ) (text rest : List ℕ) (count : ℕ) (ts : List PlacedLexeme) : Type 0 where
  pub row : (us : List PlacedLexeme) → IsRow rest us → IsRow text (ts ++ us)
  pub counted : count ≡ unclosed_from before ts
  pub within : (n : ℕ) → n ≤ length ts → unclosed_from before (take n ts) ≤ max_unclosed_brackets
  pub are_tokens : All IsToken ts
  pub shorter : length rest ≤ length text

pub few : {before : ℕ} {text rest : List ℕ} {count : ℕ} {ts : List PlacedLexeme} → IsBegun before text rest count ts → count < 4294967296
few {before = before} {ts = ts} b =
    let last = subst (λ us. unclosed_from before us ≤ max_unclosed_brackets) (take_all (length ts) ts (omega arith)) (b.within (length ts) (omega arith)) in
    omega (arith, b.counted, last)

pub begun_start : {before : ℕ} (text : List ℕ) {ts : List PlacedLexeme} → before ≤ max_unclosed_brackets → ts ≡ [] → IsBegun before text text before ts
begun_start {before} text most none_yet = rw none_yet (record {
  row = λ us r. r;
  counted = refl;
  within = λ n le. subst (λ us. unclosed_from before us ≤ max_unclosed_brackets) (sym (take_all n [] (omega arith))) most;
  are_tokens = All-nil IsToken;
  shorter = omega arith;
})

piece_row : (text : List ℕ) (o : Option Lexeme) (n : ℕ) (at : Pos) {us : List PlacedLexeme} → IsPiece text o n → IsRow (drop n text) us → IsRow text (onto o at us)
piece_row [] o n at h r = absurd h
piece_row (b ∷ bytes) o n at h r = more at h r

-- the row goes on with a piece
row_more : {text : List ℕ} (rest : List ℕ) (ts : List PlacedLexeme) (o : Option Lexeme) (n : ℕ) (at : Pos) → ((us : List PlacedLexeme) → IsRow rest us → IsRow text (ts ++ us)) → IsPiece rest o n →
    (us : List PlacedLexeme) → IsRow (drop n rest) us → IsRow text ((ts ++ one_at o at) ++ us)
row_more {text} rest ts o n at row h us r = subst (IsRow text) (onto_is o at ts us) (row (onto o at us) (piece_row rest o n at h r))

-- a blank

pub begun_blank : {before : ℕ} {text rest back : List ℕ} {count : ℕ} {ts : List PlacedLexeme} (n : ℕ) → IsBegun before text rest count ts → IsPiece rest None n → back ≡ drop n rest →
    IsBegun before text back count ts
begun_blank {before} {text} {rest} {back} {count} {ts} n b h is =
    let l = length-drop n rest in
    rw is (record {
      row = λ us r. subst (λ l. IsRow text (l ++ us)) (append-nil ts) (row_more rest ts None n start b.row h us r);
      counted = b.counted;
      within = b.within;
      are_tokens = b.are_tokens;
      shorter = omega (arith, b.shorter, l);
    })

-- a token

unclosed_push : (before : ℕ) (ts : List PlacedLexeme) (t : PlacedLexeme) → unclosed_from before (ts ++ t ∷ []) ≡ unclosed_with (unclosed_from before ts) t.tok
unclosed_push before ts t = fold_push (λ n u. unclosed_with n u.tok) before ts t

within_push : (before : ℕ) (ts : List PlacedLexeme) (t : PlacedLexeme) → ((n : ℕ) → n ≤ length ts → unclosed_from before (take n ts) ≤ max_unclosed_brackets) → unclosed_from before (ts ++ t ∷ []) ≤ max_unclosed_brackets →
    (n : ℕ) → n ≤ length (ts ++ t ∷ []) → unclosed_from before (take n (ts ++ t ∷ [])) ≤ max_unclosed_brackets
within_push before ts t within last n le = by_case (cases_lt (length ts) n) where
  by_case : (length ts < n) ⊎ (n ≤ length ts) → unclosed_from before (take n (ts ++ t ∷ [])) ≤ max_unclosed_brackets
  by_case (inl past) =
      let l = length-append ts (t ∷ []) in
      subst (λ us. unclosed_from before us ≤ max_unclosed_brackets) (sym (take_all n (ts ++ t ∷ []) (omega (arith, past, l)))) last
  by_case (inr below) = subst (λ us. unclosed_from before us ≤ max_unclosed_brackets) (sym (take-append-le n ts (t ∷ []) below)) (within n below)

pub begun_token : {before : ℕ} {text rest back : List ℕ} {count : ℕ} {ts vs us : List PlacedLexeme} (k : PlacedLexeme) (n : ℕ) → IsBegun before text rest count ts → IsPiece rest (Some k.tok) n →
    back ≡ drop n rest → us ≡ vs ++ k ∷ [] → vs ≡ ts → unclosed_with count k.tok ≤ max_unclosed_brackets → IsBegun before text back (unclosed_with count k.tok) us
begun_token {before} {text} {rest} {back} {count} {ts} {vs} {us} k n b h is pushed same small =
    let l = length-drop n rest in
    let counted : unclosed_with count k.tok ≡ unclosed_from before (ts ++ k ∷ []) = ap (λ m. unclosed_with m k.tok) b.counted ∙ sym (unclosed_push before ts k) in
    rw (is, pushed, same) (record {
      row = row_more rest ts (Some k.tok) n k.pos b.row h;
      counted = counted;
      within = within_push before ts k b.within (subst (λ m. m ≤ max_unclosed_brackets) counted small);
      are_tokens = All-append IsToken ts (k ∷ []) b.are_tokens (All-cons IsToken k [] (record { bytes = rest; len = n; begins = h }) (All-nil IsToken));
      shorter = omega (arith, b.shorter, l);
    })

-- behind the part, the count goes on

shallow_on : (before count : ℕ) (ts us : List PlacedLexeme) → count ≡ unclosed_from before ts → ((n : ℕ) → n ≤ length ts → unclosed_from before (take n ts) ≤ max_unclosed_brackets) →
    IsShallowFrom count us → IsShallowFrom before (ts ++ us)
shallow_on before count ts us counted within shallow n = by_case (cases_lt (length ts) n) where
  by_case : (length ts < n) ⊎ (n ≤ length ts) → unclosed_from before (take n (ts ++ us)) ≤ max_unclosed_brackets
  by_case (inl past) =
      let m = n - length ts in
      let same : length ts + m ≡ n = omega (arith, past) in
      let front : take n (ts ++ us) ≡ ts ++ take m us = ap (λ k. take k (ts ++ us)) (sym same) ∙ take-append-add ts us m in
      let on : unclosed_from before (ts ++ take m us) ≡ unclosed_from count (take m us) =
      fold-append (λ n u. unclosed_with n u.tok) before ts (take m us) ∙ ap (λ k. unclosed_from k (take m us)) (sym counted) in
      subst (λ k. k ≤ max_unclosed_brackets) (sym (ap (unclosed_from before) front ∙ on)) (shallow m)
  by_case (inr below) = subst (λ vs. unclosed_from before vs ≤ max_unclosed_brackets) (sym (take-append-le n ts us below)) (within n below)

pub part : {before : ℕ} {text rest : List ℕ} {count : ℕ} {ts : List PlacedLexeme} → IsBegun before text rest count ts → length rest < length text → IsPart before text ts count rest
part {before = before} {count = count} {ts = ts} b shorter = record { row = b.row; shallow = λ us shallow. shallow_on before count ts us b.counted b.within shallow; are_tokens = b.are_tokens; shorter = shorter }

-- a text that is blank

pub empty : {X : Type 0} (xs : List X) → true ≡ (length xs == 0) → xs ≡ []
empty [] h = refl
empty (x ∷ xs) h = absurd (grind (arith, nat_tests))

pub blank : {before : ℕ} {text rest : List ℕ} {count : ℕ} {ts : List PlacedLexeme} → rest ≡ [] → ts ≡ [] → IsBegun before text rest count ts → IsRow text []
blank {before} {text} {rest} {count} {ts} ended none_read b = rw (append-nil ts, none_read) at (b.row [] (rw ended none))
