-- What is held of a row: the lines and the text of its first steps.
use Rattle.std.proofs.Common.{◌≡◌, ◌∙◌, ◌+◌, ◌-◌, ◌^◌, ◌<◌, ◌≤◌, ◌++◌, ℕ, List, [], Option, Result, Ok, Err, OnOk, OnErr, All, length, map, take, drop, get_or, refl, ap, sym, subst, append_assoc, length-append, arith}
use Rattle.std.proofs.lemmas.List.{length-map, drop-map, take_rest}
use Rattle.std.proofs.lemmas.List.Elements.{All-drop}
use Rattle.vb_outer.specs.Sink.{Appends, AppendsPrefix}
use Rattle.vb_outer.proofs.SinkLaws.{appends_both, prefix_after}
use Rattle.boogie_grammar.specs.Grammar.{local_names}
use Rattle.boogie_grammar.specs.Naming.{temporary_names}
use Rattle.boogie_grammar.specs.Printed.{Naming, naming, locals_text, stmts_text}
use Rattle.boogie_print.specs.Asserts.{asserts_in}
use Rattle.boogie_print.specs.Pieces.{pieces_text, head_text, end_text}
use Rattle.boogie_tree.specs.Program.{Local}
use Rattle.boogie_tree.specs.Stmt as s
use Rattle.boogie_tree.specs.Whole.{local_of, locals_of}
use Rattle.boogie_tree.specs.declared.programs.Local as declared_local
use Rattle.enc_expr.specs.Code.{Emitting, join}
use Rattle.enc_expr.specs.Emits.{Emit, Emits, temporaries}
use Rattle.enc_stream.specs.Counts.{Lists, Puts, Adds, Holds, counts}
use Rattle.enc_units.specs.Rows.{bracket_pieces, code_pieces, row_lines, row_text, laid_locals, laid_names, names_with, named_text, laid_text}
use Rattle.enc_units.specs.Steps.{RowStep, Bracket}
use Rattle.enc_units.specs.View.{step_of}
use Rattle.enc_units.specs.Written.{IsStep}
use Rattle.enc_stream.specs.declared.counts.Written.{Written}
use Rattle.enc_units.specs.declared.steps.RowStep as declared
use Rattle.enc_stream.proofs.HeadLaws.{head_is, lines_first, lines_made, step_listed}
use Rattle.enc_stream.proofs.SentLaws.{counted_on, nothing_counted, step_text_first, step_asserts_first}

-- the lines of the locals behind those before a step, behind other lines
pub lines_behind : (old new : List declared_local.Local) (n : ℕ) (all : List declared_local.Local) (before lines : List ℕ) → n ≡ length old → all ≡ new →
    lines ≡ before ++ locals_text (locals_of (take (length all - n) (drop n all))) → lines ≡ before ++ locals_text (drop (length (locals_of old)) (locals_of new))
lines_behind old new n all before lines many same is =
    is ∙ ap (λ (z : List ℕ). before ++ z) (lines_made old new n all [] (locals_text (locals_of (take (length all - n) (drop n all)))) many same refl refl)

module _ (code : RowStep → Emitting Bracket) (names : Naming) where
  -- a step is added, where its locals, its statements and its bracket are
  pub step_added : (x : RowStep) (old mid : Emit) (b : Bracket) (last : ℕ) (before lines front text : List ℕ) (new newer : Written) → Emits (code x (length old.locals)) old mid b → old.stmts ≡ s.skip →
      last ≡ length mid.locals → lines ≡ before ++ locals_text (drop (length old.locals) mid.locals) →
      text ≡ (front ++ stmts_text names mid.stmts) ++ pieces_text names (bracket_pieces b) → newer ≡ counts new 0 (asserts_in mid.stmts) →
      Adds code names x (length old.locals) last before lines front text new newer
  step_added x old mid b last before lines front text new newer h none same made is counted =
      let c = code x (length old.locals) in let listed = step_listed code x old mid b last (locals_text (drop (length old.locals) mid.locals)) h same refl in
      let stmts : mid.stmts ≡ c.stmts = h.stmts ∙ ap (λ (z : s.BStmts). join z c.stmts) none in
      record {
        lines_are = made ∙ ap (λ (z : List ℕ). before ++ z) listed.text_is;
        text_is =
            is ∙ append_assoc front (stmts_text names mid.stmts) (pieces_text names (bracket_pieces b))
            ∙ ap (λ (z : s.BStmts). front ++ (stmts_text names z ++ pieces_text names (bracket_pieces b))) stmts
            ∙ ap (λ (z : Bracket). front ++ (stmts_text names c.stmts ++ pieces_text names (bracket_pieces z))) h.value;
        next = listed.next;
        many = listed.many;
        counted = counted ∙ ap (λ (z : s.BStmts). counts new 0 (asserts_in z)) stmts;
      }

  -- nothing is held yet
  pub holds_nothing : (row : List RowStep) (n : ℕ) (lines text : List ℕ) (old : Written) → old.bytes ≤ 2 ^ 64 - 1 → old.asserts ≤ 2 ^ 64 - 1 → Holds code names row n row n lines lines text text old old
  holds_nothing row n lines text old h k = record { asserts = 0; lines_are = refl; text_is = refl; asserts_are = omega arith; counted = nothing_counted old h k }

  module _ (row : List RowStep) (n : ℕ) (xs : List declared.RowStep) (i : ℕ) (a : declared.RowStep) (m k : ℕ) (before lines more_lines front text more_text : List ℕ) (old new newer : Written) (within : i < length xs) (is : a ≡ get_or xs i a)
      (adds : Adds code names (step_of a) m k lines more_lines text more_text new newer) where
    lists : Lists code (step_of a) m k (locals_text (temporaries m (code (step_of a) m).locals))
    lists = record { text_is = refl; next = adds.next; many = adds.many }

    puts : Puts code names (step_of a) m k new (counts new (length (pieces_text names (code_pieces (code (step_of a) m)))) (asserts_in (code (step_of a) m).stmts)) (pieces_text names (code_pieces (code (step_of a) m)))
    puts = record { text_is = refl; next = adds.next; counted = refl }

    -- one step more
    pub holds_more : Holds code names row n (map step_of (drop i xs)) m before lines front text old new → Holds code names row n (map step_of (drop (i + 1) xs)) k before more_lines front more_text old newer
    holds_more h =
        let rest = map step_of (drop (i + 1) xs) in let here = code (step_of a) m in
        let own_lines = locals_text (temporaries m here.locals) in let own_text = pieces_text names (code_pieces here) in
        let later = counts new (length own_text) (asserts_in here.stmts) in
        record {
          asserts = h.asserts + asserts_in here.stmts;
          lines_are =
              ap (λ (z : List ℕ). z ++ row_lines code rest k) adds.lines_are ∙ append_assoc lines own_lines (row_lines code rest k)
              ∙ ap (λ (z : List ℕ). lines ++ z) (sym (lines_first code xs i a m k own_lines within is lists)) ∙ h.lines_are;
          text_is =
              ap (λ (z : List ℕ). z ++ row_text code names rest k) adds.text_is ∙ append_assoc text own_text (row_text code names rest k)
              ∙ ap (λ (z : List ℕ). text ++ z) (sym (step_text_first code names xs i a m k new later own_text within is puts)) ∙ h.text_is;
          asserts_are =
              let first = step_asserts_first code names xs i a m k new later own_text within is puts in
              omega (arith, first, h.asserts_are);
          counted = counted_on old new newer 0 0 h.asserts (asserts_in here.stmts) h.counted adds.counted;
        }

-- three texts were counted, one after the other
pub three_counted : (head row end : List ℕ) (a b all : ℕ) (one two three four : Written) → two ≡ counts one (length head) a → three ≡ counts two (length row) b → four ≡ counts three (length end) 0 → a + b ≡ all →
    four ≡ counts one (length (head ++ (row ++ end))) all
three_counted head row end a b all one two three four h k l sum =
    counted_on one three four (length head + length row) (length end) (a + b) 0 (counted_on one two three (length head) (length row) a b h k) l
    ∙ ap (λ (n : ℕ). counts one n (a + b + 0)) (let same : length head + length row + length end ≡ length (head ++ (row ++ end)) = omega (arith, length-append head (row ++ end), length-append row end) in same)
    ∙ ap (λ (n : ℕ). counts one (length (head ++ (row ++ end))) n) (let same : a + b + 0 ≡ all = omega (arith, sum) in same)

-- ---- the steps behind those that are held

-- these are steps of a row
pub rest_steps : (xs : List declared.RowStep) (k : ℕ) → All IsStep (map step_of xs) → All IsStep (map step_of (take (length xs - k) (drop k xs)))
rest_steps xs k all =
    subst (λ (ys : List RowStep). All IsStep ys) (drop-map step_of k xs ∙ ap (λ (ys : List declared.RowStep). map step_of ys) (sym (take_rest xs k))) (All-drop IsStep k (map step_of xs) all)

-- what is said of them and of how many locals stand before them
pub rest_same : {X : Type 0} (of : List RowStep → ℕ → X) (xs : List declared.RowStep) (k j m : ℕ) → j ≡ m → of (map step_of (take (length xs - k) (drop k xs))) j ≡ of (map step_of (drop k xs)) m
rest_same of xs k j m same = ap (λ (ys : List declared.RowStep). of (map step_of ys) j) (take_rest xs k) ∙ ap (λ (i : ℕ). of (map step_of (drop k xs)) i) same

-- ---- the head

-- the lines that are held behind the head of the fixed locals, and those of the rest, are the head of the procedure
pub head_held : (code : RowStep → Emitting Bracket) (row rest : List RowStep) (m : ℕ) (name : List ℕ) (fixed : List declared_local.Local) (before lines : List ℕ) → before ≡ head_text name (locals_of fixed) →
    lines ++ row_lines code rest m ≡ before ++ row_lines code row (length fixed) → lines ++ row_lines code rest m ≡ head_text name (laid_locals code (locals_of fixed) row)
head_held code row rest m name fixed before lines made is =
    is ∙ ap (λ (z : List ℕ). z ++ row_lines code row (length fixed)) made
    ∙ ap (λ (k : ℕ). head_text name (locals_of fixed) ++ row_lines code row k) (sym (length-map fixed local_of)) ∙ head_is code row name (locals_of fixed) fixed refl

-- ---- two texts, of which a call may have sent a front

module _ (before one two : Option (List ℕ)) (text more : List ℕ) (sent : Appends before one text) where
  pub more_sent : {T E : Type 0} (r : Result T E) → OnOk r (Appends one two more) → OnOk r (Appends before two (text ++ more))
  more_sent (Ok x) h = appends_both before one two text more sent h
  more_sent (Err e) h = tt

  pub more_front : {T E : Type 0} (r : Result T E) → OnErr r (AppendsPrefix one two more) → OnErr r (AppendsPrefix before two (text ++ more))
  more_front (Ok x) h = tt
  more_front (Err e) h = prefix_after before one two text more sent h

pub more_counted : {T E : Type 0} (r : Result T E) (text more : List ℕ) (asserts : ℕ) (one two three : Written) → two ≡ counts one (length text) 0 → OnOk r (three ≡ counts two (length more) asserts) →
    OnOk r (three ≡ counts one (length (text ++ more)) asserts)
more_counted (Ok x) text more asserts one two three h k =
    counted_on one two three (length text) (length more) 0 asserts h k
    ∙ ap (λ (n : ℕ). counts one n (0 + asserts)) (sym (length-append text more))
    ∙ ap (λ (n : ℕ). counts one (length (text ++ more)) n) (let same : 0 + asserts ≡ asserts = omega arith in same)
more_counted (Err e) text more asserts one two three h k = tt

-- ---- names of more temporaries than there are

pub wide_named : (fixed : List Local) (ls : List declared_local.Local) (many : ℕ) → locals_of ls ≡ fixed → naming (local_names (locals_of ls) ++ temporary_names (length ls) many) ≡ names_with fixed many
wide_named fixed ls many are =
    ap (λ (k : ℕ). naming (local_names (locals_of ls) ++ temporary_names k many)) (sym (length-map ls local_of)) ∙ ap (λ (fs : List Local). names_with fs many) are

pub wide_text : (code : RowStep → Emitting Bracket) (row : List RowStep) (name : List ℕ) (fixed ls : List Local) (names : Naming) (many : ℕ) → ls ≡ fixed → names ≡ names_with fixed many →
    row_text code (names_with fixed many) row (length fixed) ≡ row_text code (laid_names code fixed row) row (length fixed) → named_text code names name ls row ≡ laid_text code name fixed row
wide_text code row name fixed ls names many are named same =
    ap (λ (x : Naming). named_text code x name ls row) named ∙ ap (λ (fs : List Local). named_text code (names_with fixed many) name fs row) are
    ∙ ap (λ (text : List ℕ). head_text name (laid_locals code fixed row) ++ (text ++ end_text)) same
