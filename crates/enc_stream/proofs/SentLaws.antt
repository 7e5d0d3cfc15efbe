-- What is sent part by part: the parts so far, what was counted of them, and what is left.
use Rattle.std.proofs.Common.{◌≡◌, ◌∙◌, ◌+◌, ◌-◌, ◌^◌, ◌<◌, ◌≤◌, ◌++◌, min, ℕ, List, [], Option, Result, Ok, Err, OnErr, length, map, drop, get_or, refl, ap, sym, subst, append_assoc, append-nil, length-append, arith}
use Rattle.boogie_print.proofs.PieceLaws.{pieces_text-append}
use Rattle.vb_outer.specs.Sink.{Appends, AppendsPrefix}
use Rattle.vb_outer.proofs.SinkLaws.{appends_nothing, appends_both, prefix_longer, prefix_after, prefix_none}
use Rattle.boogie_grammar.specs.Printed.{Naming}
use Rattle.boogie_print.specs.Asserts.{asserts_in}
use Rattle.enc_expr.specs.Code.{Code, Emitting}
use Rattle.enc_stream.specs.Counts.{counts, Puts}
use Rattle.enc_units.specs.Rows.{code_pieces, pieces_asserts, row_pieces, row_text, row_asserts}
use Rattle.enc_units.specs.Steps as b
use Rattle.enc_units.specs.Steps.{RowStep, Bracket}
use Rattle.enc_units.specs.View.{step_of}
use Rattle.enc_stream.specs.declared.counts.Written.{Written}
use Rattle.enc_units.specs.declared.steps.RowStep as declared
use Rattle.enc_units.proofs.FormLaws.{asserts-append}
use Rattle.enc_units.proofs.PassLaws.{steps_left}

-- ---- counts

pub nothing_counted : (old : Written) → old.bytes ≤ 2 ^ 64 - 1 → old.asserts ≤ 2 ^ 64 - 1 → old ≡ counts old 0 0
nothing_counted old h k =
    let bytes : old.bytes ≡ min (old.bytes + 0) (2 ^ 64 - 1) = omega (arith, h) in let asserts : old.asserts ≡ min (old.asserts + 0) (2 ^ 64 - 1) = omega (arith, k) in
    λ i. record { bytes = bytes i; asserts = asserts i }

both_counted : (a b c : ℕ) → min (min (a + b) (2 ^ 64 - 1) + c) (2 ^ 64 - 1) ≡ min (a + (b + c)) (2 ^ 64 - 1)
both_counted a b c = omega arith

-- one count after another
pub counted_on : (old mid new : Written) (b c x y : ℕ) → mid ≡ counts old b x → new ≡ counts mid c y → new ≡ counts old (b + c) (x + y)
counted_on old mid new b c x y h k =
    k ∙ ap (λ (w : Written). counts w c y) h ∙ (λ i. record { bytes = both_counted old.bytes b c i; asserts = both_counted old.asserts x y i })

-- ---- a text in parts

-- of a text with so many asserts, all but the rest was sent and counted
pub record Sent (text : List ℕ) (all : ℕ) (rest : List ℕ) (left : ℕ) (before now : Option (List ℕ)) (old new : Written) : Type 0 where
  pub done : List ℕ
  pub asserts : ℕ
  pub text_is : text ≡ done ++ rest
  pub all_is : all ≡ asserts + left
  pub sent : Appends before now done
  pub counted : new ≡ counts old (length done) asserts

pub sent_nothing : (text : List ℕ) (all : ℕ) (before : Option (List ℕ)) (old : Written) → old.bytes ≤ 2 ^ 64 - 1 → old.asserts ≤ 2 ^ 64 - 1 → Sent text all text all before before old old
sent_nothing text all before old h k = record {
  done = [];
  asserts = 0;
  text_is = refl;
  all_is = omega arith;
  sent = appends_nothing before before refl;
  counted = nothing_counted old h k;
}

module _ {text rest : List ℕ} {all left : ℕ} {before now : Option (List ℕ)} {old new : Written} (h : Sent text all rest left before now old new) where
  -- one part more
  pub sent_more : (part more : List ℕ) (some few : ℕ) (later : Option (List ℕ)) (newer : Written) → rest ≡ part ++ more → left ≡ some + few → Appends now later part → newer ≡ counts new (length part) some →
      Sent text all more few before later old newer
  sent_more part more some few later newer is many sent counted = record {
    done = h.done ++ part;
    asserts = h.asserts + some;
    text_is = h.text_is ∙ ap (λ (xs : List ℕ). h.done ++ xs) is ∙ sym (append_assoc h.done part more);
    all_is = omega (arith, h.all_is, many);
    sent = appends_both before now later h.done part h.sent sent;
    counted = counted_on old new newer (length h.done) (length part) h.asserts some h.counted counted ∙ ap (λ (i : ℕ). counts old i (h.asserts + some)) (sym (length-append h.done part));
  }

  -- a front of what is left is one of the text behind what was sent
  pub sent_front : (later : Option (List ℕ)) → AppendsPrefix now later rest → AppendsPrefix before later text
  sent_front later front = subst (λ (xs : List ℕ). AppendsPrefix before later xs) (sym h.text_is) (prefix_after before now later h.done rest h.sent front)

  -- and so is a front of the part that comes first
  pub sent_part : (part more : List ℕ) (later : Option (List ℕ)) → rest ≡ part ++ more → AppendsPrefix now later part → AppendsPrefix before later text
  sent_part part more later is front = sent_front later (subst (λ (xs : List ℕ). AppendsPrefix now later xs) (sym is) (prefix_longer now later part more front))

  -- nothing is left
  all_done : rest ≡ [] → text ≡ h.done
  all_done none = h.text_is ∙ ap (λ (xs : List ℕ). h.done ++ xs) none ∙ append-nil h.done

  pub all_sent : rest ≡ [] → Appends before now text
  all_sent none = subst (λ (xs : List ℕ). Appends before now xs) (sym (all_done none)) h.sent

  pub all_counted : rest ≡ [] → left ≡ 0 → new ≡ counts old (length text) all
  all_counted none zero =
      let many : h.asserts ≡ all = omega (arith, h.all_is, zero) in
      h.counted ∙ ap (λ (xs : List ℕ). counts old (length xs) h.asserts) (sym (all_done none)) ∙ ap (λ (i : ℕ). counts old (length text) i) many

-- ---- three texts, of which a call may have sent a front

module _ (before one two three : Option (List ℕ)) (head row end : List ℕ) where
  pub head_front : AppendsPrefix before one head → AppendsPrefix before one (head ++ (row ++ end))
  head_front h = prefix_longer before one head (row ++ end) h

  module _ (first : Appends before one head) where
    pub row_front : AppendsPrefix one two row → AppendsPrefix before two (head ++ (row ++ end))
    row_front h = prefix_after before one two head (row ++ end) first (prefix_longer one two row end h)

    module _ (second : Appends one two row) where
      pub end_front : AppendsPrefix two three end → AppendsPrefix before three (head ++ (row ++ end))
      end_front h = prefix_after before one three head (row ++ end) first (prefix_after one two three row end second h)

      pub all_three : Appends two three end → Appends before three (head ++ (row ++ end))
      all_three h = appends_both before one three head (row ++ end) first (appends_both one two three row end second h)

-- ---- exits

pub any_err : {T E P : Type 0} (r : Result T E) → P → OnErr r P
any_err (Ok x) p = tt
any_err (Err e) p = p

-- nothing is sent where there is no memory
pub nothing_sent : {T E : Type 0} (r : Result T E) (before : Option (List ℕ)) (text : List ℕ) → OnErr r (AppendsPrefix before before text)
nothing_sent r before text = any_err r (prefix_none before before text refl)

-- ---- the steps of a row

-- the asserts of a step are those of its statements
bracket_asserts : (xs : Bracket) (s : Code Bracket) → s.value ≡ xs → pieces_asserts (code_pieces s) ≡ asserts_in s.stmts
bracket_asserts b.Nothing s h = ap (λ (x : Bracket). pieces_asserts (code_pieces (record s { value = x }))) h ∙ omega arith
bracket_asserts (b.If c) s h = ap (λ (x : Bracket). pieces_asserts (code_pieces (record s { value = x }))) h ∙ omega arith
bracket_asserts b.Either s h = ap (λ (x : Bracket). pieces_asserts (code_pieces (record s { value = x }))) h ∙ omega arith
bracket_asserts b.Else s h = ap (λ (x : Bracket). pieces_asserts (code_pieces (record s { value = x }))) h ∙ omega arith
bracket_asserts b.End s h = ap (λ (x : Bracket). pieces_asserts (code_pieces (record s { value = x }))) h ∙ omega arith

module _ (code : RowStep → Emitting Bracket) (names : Naming) (xs : List declared.RowStep) (i : ℕ) (a : declared.RowStep) (m k : ℕ) (new newer : Written) (text : List ℕ)
    (within : i < length xs) (is : a ≡ get_or xs i a) (puts : Puts code names (step_of a) m k new newer text) where
  -- of the steps that are left, the text of the first, and that of those behind it
  pub step_text_first : row_text code names (map step_of (drop i xs)) m ≡ text ++ row_text code names (map step_of (drop (i + 1) xs)) k
  step_text_first =
      let rest = map step_of (drop (i + 1) xs) in let here = code (step_of a) m in
      ap (λ (row : List RowStep). row_text code names row m) (steps_left xs i a within is) ∙ pieces_text-append names (code_pieces here) (row_pieces code rest here.next)
      ∙ ap (λ (front : List ℕ). front ++ row_text code names rest here.next) (sym puts.text_is) ∙ ap (λ (j : ℕ). text ++ row_text code names rest j) (sym puts.next)

  pub step_asserts_first : row_asserts code (map step_of (drop i xs)) m ≡ asserts_in (code (step_of a) m).stmts + row_asserts code (map step_of (drop (i + 1) xs)) k
  step_asserts_first =
      let rest = map step_of (drop (i + 1) xs) in let here = code (step_of a) m in
      ap (λ (row : List RowStep). row_asserts code row m) (steps_left xs i a within is) ∙ asserts-append (code_pieces here) (row_pieces code rest here.next)
      ∙ ap (λ (j : ℕ). j + row_asserts code rest here.next) (bracket_asserts here.value here refl) ∙ ap (λ (j : ℕ). asserts_in here.stmts + row_asserts code rest j) (sym puts.next)
