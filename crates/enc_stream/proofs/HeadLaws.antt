-- The lines of locals, step after step, and the names of temporaries.
use Rattle.std.proofs.Common.{◌≡◌, ◌∙◌, ◌+◌, ◌-◌, ◌++◌, ◌<◌, ℕ, List, [], ◌∷◌, codes, length, map, take, drop, get_or, refl, ap, sym, append_assoc, length-append}
use Rattle.std.proofs.lemmas.List.{length-map, drop-map, take_rest}
use Rattle.std.proofs.Math.Seq.{drop-append_seam}
use Rattle.boogie_grammar.specs.Grammar.{local_names}
use Rattle.boogie_grammar.specs.Naming.{temporary_name, temporary_names}
use Rattle.boogie_grammar.specs.Printed.{type_text, locals_text}
use Rattle.boogie_print.specs.Pieces.{head_text}
use Rattle.boogie_tree.specs.Program.{BType, Local}
use Rattle.boogie_tree.specs.Whole.{local_of, locals_of}
use Rattle.boogie_tree.specs.declared.programs.Local as declared_local
use Rattle.enc_expr.specs.Code.{Emitting}
use Rattle.enc_expr.specs.Emits.{Emit, Emits, temporaries}
use Rattle.enc_expr.proofs.EmitLaws.{length-temporaries, temporaries-append}
use Rattle.enc_stream.specs.Counts.{Lists}
use Rattle.enc_units.specs.Rows.{row_lines, row_types, laid_locals}
use Rattle.enc_units.specs.Steps.{RowStep, Bracket}
use Rattle.enc_units.specs.View.{step_of}
use Rattle.enc_units.specs.declared.steps.RowStep as declared
use Rattle.enc_units.proofs.PassLaws.{steps_left}

-- ---- lines

lines-append : (xs ys : List Local) → locals_text (xs ++ ys) ≡ locals_text xs ++ locals_text ys
lines-append [] ys = refl
lines-append (l ∷ xs) ys =
    let front = codes "var " ++ l.name ++ codes ": " ++ type_text l.ty ++ codes ";\n" in
    ap (λ (bytes : List ℕ). front ++ bytes) (lines-append xs ys) ∙ sym (append_assoc front (locals_text xs) (locals_text ys))

-- a head of more locals
head_more : (name : List ℕ) (xs ys : List Local) → head_text name (xs ++ ys) ≡ head_text name xs ++ locals_text ys
head_more name xs ys =
    let front = codes "procedure " ++ name ++ codes "() {\n" in
    ap (λ (bytes : List ℕ). front ++ bytes) (lines-append xs ys) ∙ sym (append_assoc front (locals_text xs) (locals_text ys))

-- the head of a procedure is that of the fixed locals, and the lines of those behind them
pub head_is : (code : RowStep → Emitting Bracket) (row : List RowStep) (name : List ℕ) (fixed : List Local) (ls : List declared_local.Local) → locals_of ls ≡ fixed →
    head_text name (locals_of ls) ++ row_lines code row (length (locals_of ls)) ≡ head_text name (laid_locals code fixed row)
head_is code row name fixed ls are =
    ap (λ (fs : List Local). head_text name fs ++ row_lines code row (length fs)) are ∙ sym (head_more name fixed (temporaries (length fixed) (row_types code row (length fixed))))

-- ---- a step

-- the lines of the locals behind those before a step
pub lines_made : (old new : List declared_local.Local) (n : ℕ) (held : List declared_local.Local) (front text : List ℕ) → n ≡ length old → held ≡ new → front ≡ [] →
    text ≡ front ++ locals_text (locals_of (take (length held - n) (drop n held))) → text ≡ locals_text (drop (length (locals_of old)) (locals_of new))
lines_made old new n held front text many same none is =
    is ∙ ap (λ (bytes : List ℕ). bytes ++ locals_text (locals_of (take (length held - n) (drop n held)))) none ∙ ap (λ (ls : List declared_local.Local). locals_text (locals_of ls)) (take_rest held n) ∙ ap (λ (ls : List declared_local.Local). locals_text (locals_of (drop n ls))) same
    ∙ ap (λ (k : ℕ). locals_text (locals_of (drop k new))) (many ∙ sym (length-map old local_of)) ∙ ap locals_text (sym (drop-map local_of (length (locals_of old)) new))

pub same_many : (xs ys : List declared_local.Local) → length xs ≡ length ys → length (locals_of xs) ≡ length (locals_of ys)
same_many xs ys h = length-map xs local_of ∙ h ∙ sym (length-map ys local_of)

module _ (code : RowStep → Emitting Bracket) where
  -- the lines of what stands behind the locals before a step are those of its locals
  pub step_listed : (x : RowStep) (old mid : Emit) (b : Bracket) (last : ℕ) (text : List ℕ) → Emits (code x (length old.locals)) old mid b → last ≡ length mid.locals →
      text ≡ locals_text (drop (length old.locals) mid.locals) → Lists code x (length old.locals) last text
  step_listed x old mid b last text h same is =
      let n = length old.locals in let new = temporaries (length old.locals) (code x (length old.locals)).locals in
      record {
        text_is = is ∙ ap (λ (ls : List Local). locals_text (drop n ls)) h.locals ∙ ap locals_text (drop-append_seam old.locals new);
        next = same ∙ h.next;
        many = same ∙ ap (λ (ls : List Local). length ls) h.locals ∙ length-append old.locals new ∙ ap (λ (k : ℕ). n + k) (length-temporaries n (code x n).locals);
      }

  module _ (xs : List declared.RowStep) (i : ℕ) (a : declared.RowStep) (m k : ℕ) (text : List ℕ) (within : i < length xs) (is : a ≡ get_or xs i a) (lists : Lists code (step_of a) m k text) where
    -- of the steps that are left, the lines of the first, and those of the steps behind it
    pub lines_first : row_lines code (map step_of (drop i xs)) m ≡ text ++ row_lines code (map step_of (drop (i + 1) xs)) k
    lines_first =
        let rest = map step_of (drop (i + 1) xs) in let here = code (step_of a) m in let more = row_types code rest here.next in
        ap (λ (row : List RowStep). row_lines code row m) (steps_left xs i a within is)
        ∙ ap locals_text (temporaries-append m here.locals more)
        ∙ lines-append (temporaries m here.locals) (temporaries (m + length here.locals) more)
        ∙ ap (λ (front : List ℕ). front ++ locals_text (temporaries (m + length here.locals) more)) (sym lists.text_is)
        ∙ ap (λ (j : ℕ). text ++ locals_text (temporaries j more)) (sym lists.many)
        ∙ ap (λ (j : ℕ). text ++ locals_text (temporaries k (row_types code rest j))) (sym lists.next)

-- ---- names

pub temporaries_named : (n : ℕ) (us : List BType) → local_names (temporaries n us) ≡ temporary_names n (length us)
temporaries_named n [] = refl
temporaries_named n (u ∷ us) = ap (λ (names : List (List ℕ)). temporary_name n ∷ names) (temporaries_named (n + 1) us)
