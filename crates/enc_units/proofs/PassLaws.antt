-- One step of the passes over a row.
use Rattle.std.proofs.Common.{◌≡◌, ◌∙◌, ◌+◌, ◌++◌, ◌<◌, ℕ, suc, List, ◌∷◌, All, length, map, drop, get_or, ap, sym, subst, append_assoc, length-append, drop-cons, arith}
use Rattle.std.proofs.lemmas.List.{get_or-map, length-map}
use Rattle.boogie_tree.specs.Program.{Local}
use Rattle.enc_expr.specs.Code.{Emitting}
use Rattle.enc_expr.specs.Emits.{Emit, Emits, temporaries}
use Rattle.enc_expr.proofs.EmitLaws.{length-temporaries, temporaries-append}
use Rattle.enc_units.specs.Rows.{row_types}
use Rattle.enc_units.specs.Steps.{RowStep, Bracket}
use Rattle.enc_units.specs.View.{step_of}
use Rattle.enc_units.specs.Written.{IsStep}
use Rattle.enc_units.specs.declared.steps.RowStep as declared

-- the steps that are left are this one and those behind it
pub steps_left : (xs : List declared.RowStep) (i : ℕ) (a : declared.RowStep) → i < length xs → a ≡ get_or xs i a → map step_of (drop i xs) ≡ step_of a ∷ map step_of (drop (i + 1) xs)
steps_left xs i a within is =
    let next : suc i ≡ i + 1 = omega arith in
    ap (map step_of) (drop-cons xs i a within) ∙ ap (λ (y : declared.RowStep). step_of y ∷ map step_of (drop (suc i) xs)) (sym is)
    ∙ ap (λ (k : ℕ). step_of a ∷ map step_of (drop k xs)) next

-- each of them is a step of a row
pub step_is : (xs : List declared.RowStep) (i : ℕ) (a : declared.RowStep) → All IsStep (map step_of xs) → i < length xs → a ≡ get_or xs i a → IsStep (step_of a)
step_is xs i a all within is =
    subst IsStep (get_or-map step_of xs i a (step_of a) within ∙ ap step_of (sym is)) (all i (step_of a) (omega (arith, within, length-map xs step_of)))

module _ (code : RowStep → Emitting Bracket) where
  -- the locals of a step stand behind those before it, and in front of those of the steps behind
  pub row_step : (x : RowStep) (xs : List RowStep) (old mid : Emit) (b : Bracket) → Emits (code x (length old.locals)) old mid b →
      old.locals ++ temporaries (length old.locals) (row_types code (x ∷ xs) (length old.locals)) ≡ mid.locals ++ temporaries (length mid.locals) (row_types code xs (length mid.locals))
  row_step x xs old mid b h =
      let n = length old.locals in let now = code x (length old.locals) in
      let many : n + length now.locals ≡ length mid.locals =
      ap (λ (k : ℕ). n + k) (sym (length-temporaries n now.locals)) ∙ sym (length-append old.locals (temporaries n now.locals)) ∙ ap (λ (ls : List Local). length ls) (sym h.locals) in
      ap (λ (ls : List Local). old.locals ++ ls) (temporaries-append n now.locals (row_types code xs now.next))
      ∙ sym (append_assoc old.locals (temporaries n now.locals) (temporaries (n + length now.locals) (row_types code xs now.next)))
      ∙ ap (λ (ls : List Local). ls ++ temporaries (n + length now.locals) (row_types code xs now.next)) (sym h.locals)
      ∙ ap (λ (k : ℕ). mid.locals ++ temporaries k (row_types code xs now.next)) many
      ∙ ap (λ (k : ℕ). mid.locals ++ temporaries (length mid.locals) (row_types code xs k)) (sym h.next)
