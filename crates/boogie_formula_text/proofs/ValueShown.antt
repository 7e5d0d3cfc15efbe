-- What is written for a definition spells it.
use Rattle.std.proofs.Common.{◌≡◌, ◌∙◌, refl, sym, ap, subst, ℕ, ◌+◌, ◌^◌, ◌<◌, false, List, [], ◌∷◌, ◌++◌, Some, codes, append_assoc, append-nil}
use Rattle.std.specs.Option.{option_map}
use Rattle.lemmas.proofs.Options.{some_same}
use Rattle.boogie_tree.specs.Expr as t
use Rattle.boogie_tree.specs.Fits.{FitExprs}
use Rattle.boogie_grammar.specs.Cut.{IsRow, none}
use Rattle.boogie_grammar.specs.Printed.{Naming, name_at, operator_text, binders_text, bound_names, under, expr_text, exprs_text}
use Rattle.boogie_grammar.specs.Words.{word_tok}
use Rattle.boogie_grammar.specs.declared.tokens.BSign.TheVariants as sign
use Rattle.boogie_grammar.specs.declared.tokens.Lexeme.TheVariants as tok
use Rattle.boogie_grammar.specs.declared.tokens.PlacedLexeme.{PlacedLexeme}
use Rattle.boogie_grammar.specs.declared.tokens.BoogieWord.TheVariants as w
use Rattle.boogie_grammar.proofs.WrittenRows.{at_start, Ends, name_row, free_row, blank_row, open_row, close_row, bracket_row, end_row, comma_row, assign_row}
use Rattle.boogie_print.specs.Short.{ShortExpr, ShortExprs}
use Rattle.boogie_print.proofs.ExprShown.{ends, expr_shown}
use Rattle.boogie_print.proofs.VarLaws.{IsVar}
use Rattle.boogie_formula.specs.Formula as f
use Rattle.boogie_formula.specs.Formula.{FExpr, FExprs}
use Rattle.boogie_formula.specs.Printable as fits
use Rattle.boogie_formula.specs.Printable.{FitsScalar, FitKeys, FitsValue}
use Rattle.boogie_formula.specs.Value.{plain, plain_all}
use Rattle.boogie_formula_text.specs.Names.{names_in_scope}
use Rattle.boogie_formula_text.specs.Printed.{scope_naming, fexpr_text, fexprs_text}
use Rattle.boogie_formula_text.specs.Short.{ShortFExpr, ShortFExprs}
use Rattle.boogie_formula_text.specs.Spells as s
use Rattle.boogie_formula_text.specs.Spells.{SpellsScalar, SpellsKeys, SpellsValue, Line}
use Rattle.boogie_formula_text.proofs.Clean.{Clean, both, between, scope_clean, scalar_clean}
use Rattle.boogie_formula_text.proofs.PlainLaws.{map_parts, two_parts, three_parts}
use Rattle.boogie_formula_text.proofs.ScopeNames.{ready}

-- ---- the text of an expression of a program

wrapped : (x : Naming) (make : t.BExpr → t.BExpr) (front : List ℕ) (a : FExpr) {b : t.BExpr} →
    ((d : t.BExpr) → expr_text x (make d) ≡ front ++ expr_text x d ++ codes ")") → ((d : t.BExpr) → plain a ≡ Some d → fexpr_text x a ≡ expr_text x d) →
    option_map make (plain a) ≡ Some b → front ++ fexpr_text x a ++ codes ")" ≡ expr_text x b
wrapped x make front a is same h =
    let p = map_parts make (plain a) h in
    ap (λ z. front ++ z ++ codes ")") (same p.0 p.1) ∙ sym (is p.0) ∙ ap (expr_text x) p.2

mutual
  text_plain : (x : Naming) (e : FExpr) (b : t.BExpr) → plain e ≡ Some b → fexpr_text x e ≡ expr_text x b
  text_plain x (f.Var i) b h = ap (expr_text x) (some_same h)
  text_plain x (f.Int n) b h = ap (expr_text x) (some_same h)
  text_plain x (f.Real n) b h = ap (expr_text x) (some_same h)
  text_plain x (f.Bool p) b h = ap (expr_text x) (some_same h)
  text_plain x f.Null b h = ap (expr_text x) (some_same h)
  text_plain x f.Unit b h = ap (expr_text x) (some_same h)
  text_plain x (f.Neg a) b h = wrapped x t.Neg (codes "(- ") a (λ d. refl) (text_plain x a) h
  text_plain x (f.Not a) b h = wrapped x t.Not (codes "(! ") a (λ d. refl) (text_plain x a) h
  text_plain x (f.Bin o a d) b h =
      let p = two_parts (t.Bin o) (plain a) (plain d) h in
      ap (λ z. codes "(" ++ z ++ codes " " ++ operator_text o ++ codes " " ++ fexpr_text x d ++ codes ")") (text_plain x a p.0 p.2) ∙
      ap (λ z. codes "(" ++ expr_text x p.0 ++ codes " " ++ operator_text o ++ codes " " ++ z ++ codes ")") (text_plain x d p.1 p.3) ∙ ap (expr_text x) p.4
  text_plain x (f.If a d e) b h =
      let p = three_parts t.If (plain a) (plain d) (plain e) h in
      ap (λ z. codes "(if " ++ z ++ codes " then " ++ fexpr_text x d ++ codes " else " ++ fexpr_text x e ++ codes ")") (text_plain x a p.0 p.3) ∙
      ap (λ z. codes "(if " ++ expr_text x p.0 ++ codes " then " ++ z ++ codes " else " ++ fexpr_text x e ++ codes ")") (text_plain x d p.1 p.4) ∙
      ap (λ z. codes "(if " ++ expr_text x p.0 ++ codes " then " ++ expr_text x p.1 ++ codes " else " ++ z ++ codes ")") (text_plain x e p.2 p.5) ∙ ap (expr_text x) p.6
  text_plain x (f.Forall us a) b h =
      let p = map_parts (t.Forall us) (plain a) h in
      ap (λ z. codes "(forall " ++ binders_text [] (bound_names x.taken [] us) us ++ codes " :: " ++ z ++ codes ")") (text_plain (under x us) a p.0 p.1) ∙ ap (expr_text x) p.2
  text_plain x (f.ToReal a) b h = wrapped x t.ToReal (codes "real(") a (λ d. refl) (text_plain x a) h
  text_plain x (f.SInt a) b h = wrapped x t.SInt (codes "sInt(") a (λ d. refl) (text_plain x a) h
  text_plain x (f.SBool a) b h = wrapped x t.SBool (codes "sBool(") a (λ d. refl) (text_plain x a) h
  text_plain x (f.SRef a) b h = wrapped x t.SRef (codes "sRef(") a (λ d. refl) (text_plain x a) h
  text_plain x (f.SPerm a) b h = wrapped x t.SPerm (codes "sPerm(") a (λ d. refl) (text_plain x a) h
  text_plain x (f.Pair a d) b h =
      let p = two_parts t.Pair (plain a) (plain d) h in
      ap (λ z. codes "sPair(" ++ z ++ codes ", " ++ fexpr_text x d ++ codes ")") (text_plain x a p.0 p.2) ∙
      ap (λ z. codes "sPair(" ++ expr_text x p.0 ++ codes ", " ++ z ++ codes ")") (text_plain x d p.1 p.3) ∙ ap (expr_text x) p.4
  text_plain x (f.At i es) b h =
      let p = map_parts (t.At i) (plain_all es) h in
      ap (λ z. name_at x.locals i ++ codes "[" ++ z ++ codes "]") (texts_plain x [] es p.0 p.1) ∙ ap (expr_text x) p.2
  text_plain x (f.AtBound i) b h = ap (expr_text x) (some_same h)
  text_plain x (f.With m es e) b h = absurd (cc)

  texts_plain : (x : Naming) (before : List ℕ) (es : FExprs) (bs : t.BExprs) → plain_all es ≡ Some bs → fexprs_text x before es ≡ exprs_text x before bs
  texts_plain x before f.none bs h = ap (exprs_text x before) (some_same h)
  texts_plain x before (f.more a es) bs h =
      let p = two_parts t.more (plain a) (plain_all es) h in
      ap (λ z. before ++ z ++ fexprs_text x (codes ", ") es) (text_plain x a p.0 p.2) ∙
      ap (λ z. before ++ expr_text x p.0 ++ z) (texts_plain x (codes ", ") es p.1 p.3) ∙ ap (exprs_text x before) p.4

-- ---- what is short stays so

one_short : (make : t.BExpr → t.BExpr) (a : FExpr) {b : t.BExpr} → ((d : t.BExpr) → ShortExpr d → ShortExpr (make d)) → ((d : t.BExpr) → plain a ≡ Some d → ShortExpr d) →
    option_map make (plain a) ≡ Some b → ShortExpr b
one_short make a is short h = let p = map_parts make (plain a) h in subst ShortExpr p.2 (is p.0 (short p.0 p.1))

mutual
  short_plain : (e : FExpr) (b : t.BExpr) → ShortFExpr e → plain e ≡ Some b → ShortExpr b
  short_plain (f.Var i) b s h = subst ShortExpr (some_same h) tt
  short_plain (f.Int n) b s h = subst ShortExpr (some_same h) tt
  short_plain (f.Real n) b s h = subst ShortExpr (some_same h) tt
  short_plain (f.Bool p) b s h = subst ShortExpr (some_same h) tt
  short_plain f.Null b s h = subst ShortExpr (some_same h) tt
  short_plain f.Unit b s h = subst ShortExpr (some_same h) tt
  short_plain (f.Neg a) b s h = one_short t.Neg a (λ d k. k) (λ d k. short_plain a d s k) h
  short_plain (f.Not a) b s h = one_short t.Not a (λ d k. k) (λ d k. short_plain a d s k) h
  short_plain (f.Bin o a d) b s h =
      let p = two_parts (t.Bin o) (plain a) (plain d) h in
      subst ShortExpr p.4 (short_plain a p.0 s.0 p.2, short_plain d p.1 s.1 p.3)
  short_plain (f.If a d e) b s h =
      let p = three_parts t.If (plain a) (plain d) (plain e) h in
      subst ShortExpr p.6 (short_plain a p.0 s.0 p.3, short_plain d p.1 s.1 p.4, short_plain e p.2 s.2 p.5)
  short_plain (f.Forall us a) b s h = one_short (t.Forall us) a (λ d k. (s.0, k)) (λ d k. short_plain a d s.1 k) h
  short_plain (f.ToReal a) b s h = one_short t.ToReal a (λ d k. k) (λ d k. short_plain a d s k) h
  short_plain (f.SInt a) b s h = one_short t.SInt a (λ d k. k) (λ d k. short_plain a d s k) h
  short_plain (f.SBool a) b s h = one_short t.SBool a (λ d k. k) (λ d k. short_plain a d s k) h
  short_plain (f.SRef a) b s h = one_short t.SRef a (λ d k. k) (λ d k. short_plain a d s k) h
  short_plain (f.SPerm a) b s h = one_short t.SPerm a (λ d k. k) (λ d k. short_plain a d s k) h
  short_plain (f.Pair a d) b s h =
      let p = two_parts t.Pair (plain a) (plain d) h in
      subst ShortExpr p.4 (short_plain a p.0 s.0 p.2, short_plain d p.1 s.1 p.3)
  short_plain (f.At i es) b s h =
      let p = map_parts (t.At i) (plain_all es) h in
      subst ShortExpr p.2 (shorts_plain es p.0 s p.1)
  short_plain (f.AtBound i) b s h = subst ShortExpr (some_same h) tt
  short_plain (f.With m es e) b s h = absurd (cc)

  shorts_plain : (es : FExprs) (bs : t.BExprs) → ShortFExprs es → plain_all es ≡ Some bs → ShortExprs bs
  shorts_plain f.none bs s h = subst ShortExprs (some_same h) tt
  shorts_plain (f.more a es) bs s h =
      let p = two_parts t.more (plain a) (plain_all es) h in
      subst ShortExprs p.4 (short_plain a p.0 s.0 p.2, shorts_plain es p.1 s.1 p.3)

-- ---- one line, in front of anything that ends it

pub record Shown {X : Type 0} (Says : List PlacedLexeme → X → Type 0) (bytes : List ℕ) (e : X) : Type 0 where
  pub tokens : List PlacedLexeme
  pub spelled : Says tokens e
  pub row : (rest : List ℕ) (ts : List PlacedLexeme) → Ends rest → IsRow rest ts → IsRow (bytes ++ rest) (tokens ++ ts)
  pub clean : Clean bytes

-- in front of a blank
record Spaced {X : Type 0} (Says : List PlacedLexeme → X → Type 0) (bytes : List ℕ) (e : X) : Type 0 where
  tokens : List PlacedLexeme
  spelled : Says tokens e
  row : (rest : List ℕ) (ts : List PlacedLexeme) → IsRow (32 ∷ rest) ts → IsRow (bytes ++ 32 ∷ rest) (tokens ++ ts)
  clean : Clean bytes

pub line_of : {X : Type 0} {Says : List PlacedLexeme → X → Type 0} {bytes : List ℕ} {e : X} → Shown Says bytes e → Line Says bytes e
line_of {bytes = bytes} h = record {
  tokens = h.tokens;
  in_line = h.clean;
  cut =
      let whole = h.row [] [] (record { name_ends = refl; number_ends = refl; point_ends = refl }) none in
      subst (λ ts. IsRow bytes ts) (append-nil h.tokens) (subst (λ l. IsRow l (h.tokens ++ [])) (append-nil bytes) whole);
  says = h.spelled;
}

-- ---- definitions, where n variables and k definitions are in scope

abbrev Few : ℕ → ℕ → Type 0
Few n k = (n < 2 ^ 63) × (k < 2 ^ 63)

pub scalar_shown : (n k : ℕ) → Few n k → (e : FExpr) → FitsScalar (n + k) e → ShortFExpr e → Shown (SpellsScalar (names_in_scope n k)) (fexpr_text (scope_naming n k) e) e
scalar_shown n k few e h short =
    let x = scope_naming n k in
    let small = short_plain e h.tree short h.is in
    let shown = expr_shown x (n + k) false (ready n k few.0 few.1) refl h.tree h.fits small in
    let same = text_plain x e h.tree h.is in
    record {
      tokens = shown.tokens;
      spelled = record { tree = h.tree; derived = shown.spelled; is = h.is };
      row = λ rest ts end r. subst (λ l. IsRow (l ++ rest) (shown.tokens ++ ts)) (sym same) (shown.row rest ts end r);
      clean = subst Clean (sym same) (scalar_clean n k few.0 few.1 h.tree h.fits small);
    }

keys_shown : (n k : ℕ) → Few n k → (a : FExpr) (es : FExprs) (bs : t.BExprs) → FitsScalar (n + k) a → ShortFExpr a → plain_all es ≡ Some bs → FitExprs (n + k) false bs → ShortFExprs es →
    Spaced (SpellsKeys (names_in_scope n k)) (fexprs_text (scope_naming n k) [] (f.more a es)) (f.more a es)
keys_shown n k few a f.none bs h short is fit others_short =
    let one = scalar_shown n k few a h short in
    let text = fexpr_text (scope_naming n k) a in
    record {
      tokens = one.tokens;
      spelled = s.last one.spelled;
      row = λ rest ts r. subst (λ l. IsRow (l ++ 32 ∷ rest) (one.tokens ++ ts)) (sym (append-nil text)) (one.row (32 ∷ rest) ts (ends refl refl refl) r);
      clean = both text [] one.clean refl;
    }
keys_shown n k few a (f.more b es) bs h short is fit others_short =
    let x = scope_naming n k in
    let p = two_parts t.more (plain b) (plain_all es) is in
    let fits : FitExprs (n + k) false (t.more p.0 p.1) = subst (FitExprs (n + k) false) (sym p.4) fit in
    let one = scalar_shown n k few a h short in
    let more = keys_shown n k few b es p.1 (record { tree = p.0; is = p.2; fits = fits.0 }) others_short.0 p.3 fits.1 others_short.1 in
    record {
      tokens = one.tokens ++ at_start (tok.Sign sign.Comma) ∷ more.tokens;
      spelled = s.before (at_start (tok.Sign sign.Comma)) one.spelled refl more.spelled;
      row = keys_row (fexpr_text x a) (fexpr_text x b) (fexprs_text x (codes ", ") es) one.tokens more.tokens one.row more.row;
      clean = both (fexpr_text x a) (codes ", " ++ fexpr_text x b ++ fexprs_text x (codes ", ") es) one.clean
          (subst Clean (sym (append_assoc (codes ", ") (fexpr_text x b) (fexprs_text x (codes ", ") es))) (both (codes ", ") (fexpr_text x b ++ fexprs_text x (codes ", ") es) refl more.clean));
    } where
      keys_row : (first second others : List ℕ) (us vs : List PlacedLexeme) → ((rest : List ℕ) (ts : List PlacedLexeme) → Ends rest → IsRow rest ts → IsRow (first ++ rest) (us ++ ts)) →
          ((rest : List ℕ) (ts : List PlacedLexeme) → IsRow (32 ∷ rest) ts → IsRow ((second ++ others) ++ 32 ∷ rest) (vs ++ ts)) →
          (rest : List ℕ) (ts : List PlacedLexeme) → IsRow (32 ∷ rest) ts → IsRow ((first ++ (codes ", " ++ second ++ others)) ++ 32 ∷ rest) ((us ++ at_start (tok.Sign sign.Comma) ∷ vs) ++ ts)
      keys_row first second others us vs f g rest ts r =
          simp append_assoc (f _ _ (ends refl refl refl) (comma_row (blank_row (simp append_assoc at (g rest ts r)))))

update_row : (name keys value : List ℕ) (us vs : List PlacedLexeme) →
    ((rest : List ℕ) (ts : List PlacedLexeme) → IsRow (91 ∷ rest) ts → IsRow (name ++ 91 ∷ rest) (at_start (tok.Name name) ∷ ts)) →
    ((rest : List ℕ) (ts : List PlacedLexeme) → IsRow (32 ∷ rest) ts → IsRow (keys ++ 32 ∷ rest) (us ++ ts)) →
    ((rest : List ℕ) (ts : List PlacedLexeme) → Ends rest → IsRow rest ts → IsRow (value ++ rest) (vs ++ ts)) →
    (rest : List ℕ) (ts : List PlacedLexeme) → Ends rest → IsRow rest ts → IsRow ((name ++ codes "[" ++ keys ++ codes " := " ++ value ++ codes "]") ++ rest)
    ((at_start (tok.Name name) ∷ at_start (tok.Sign sign.OpenBracket) ∷ (us ++ at_start (tok.Sign sign.Assign) ∷ (vs ++ at_start (tok.Sign sign.CloseBracket) ∷ []))) ++ ts)
update_row name keys value us vs n f g rest ts end r =
    simp append_assoc (n _ _ (bracket_row (f _ _ (blank_row (assign_row (blank_row (g _ _ (ends refl refl refl) (end_row r))))))))

update_shown : (n k : ℕ) → Few n k → (i : ℕ) (es : FExprs) (e : FExpr) → IsVar (names_in_scope n k) i →
    Spaced (SpellsKeys (names_in_scope n k)) (fexprs_text (scope_naming n k) [] es) es → Shown (SpellsScalar (names_in_scope n k)) (fexpr_text (scope_naming n k) e) e →
    Shown (SpellsValue (names_in_scope n k)) (fexpr_text (scope_naming n k) (f.With (f.Var i) es e)) (f.With (f.Var i) es e)
update_shown n k few i es e named keys value =
    let x = scope_naming n k in
    let name = name_at x.locals i in
    record {
      tokens = at_start (tok.Name name) ∷ at_start (tok.Sign sign.OpenBracket) ∷ (keys.tokens ++ at_start (tok.Sign sign.Assign) ∷ (value.tokens ++ at_start (tok.Sign sign.CloseBracket) ∷ []));
      spelled = s.update (at_start (tok.Name name)) (at_start (tok.Sign sign.OpenBracket)) (at_start (tok.Sign sign.Assign)) (at_start (tok.Sign sign.CloseBracket)) {i = i}
          (record { name = name; is = refl; free = named.free; there = named.there }) refl keys.spelled refl value.spelled refl;
      row = update_row name (fexprs_text x [] es) (fexpr_text x e) keys.tokens value.tokens (λ rest ts r. free_row name (91 ∷ rest) named.form refl r) keys.row value.row;
      clean = between (name ++ codes "[" ++ fexprs_text x [] es ++ codes " := ") (fexpr_text x e) (codes "]")
          (between (name ++ codes "[") (fexprs_text x [] es) (codes " := ") (both name (codes "[") (scope_clean n k few.0 few.1 i) refl) keys.clean refl) value.clean refl;
    }

choice_row : (first second third : List ℕ) (us vs zs : List PlacedLexeme) →
    ((rest : List ℕ) (ts : List PlacedLexeme) → Ends rest → IsRow rest ts → IsRow (first ++ rest) (us ++ ts)) →
    ((rest : List ℕ) (ts : List PlacedLexeme) → Ends rest → IsRow rest ts → IsRow (second ++ rest) (vs ++ ts)) →
    ((rest : List ℕ) (ts : List PlacedLexeme) → Ends rest → IsRow rest ts → IsRow (third ++ rest) (zs ++ ts)) →
    (rest : List ℕ) (ts : List PlacedLexeme) → Ends rest → IsRow rest ts → IsRow ((codes "(if " ++ first ++ codes " then " ++ second ++ codes " else " ++ third ++ codes ")") ++ rest)
    ((at_start (tok.Sign sign.OpenParen) ∷ at_start (word_tok w.If) ∷ (us ++ at_start (word_tok w.Then) ∷ (vs ++ at_start (word_tok w.Else) ∷ (zs ++ at_start (tok.Sign sign.CloseParen) ∷ [])))) ++ ts)
choice_row first second third us vs zs f g h rest ts end r =
    simp append_assoc (open_row (name_row 105 (codes "f") _ refl refl (blank_row (f _ _ (ends refl refl refl)
    (blank_row (name_row 116 (codes "hen") _ refl refl (blank_row (g _ _ (ends refl refl refl)
    (blank_row (name_row 101 (codes "lse") _ refl refl (blank_row (h _ _ (ends refl refl refl) (close_row r)))))))))))))

choice_shown : (n k : ℕ) (c y z : FExpr) → Shown (SpellsScalar (names_in_scope n k)) (fexpr_text (scope_naming n k) c) c →
    Shown (SpellsValue (names_in_scope n k)) (fexpr_text (scope_naming n k) y) y → Shown (SpellsValue (names_in_scope n k)) (fexpr_text (scope_naming n k) z) z →
    Shown (SpellsValue (names_in_scope n k)) (fexpr_text (scope_naming n k) (f.If c y z)) (f.If c y z)
choice_shown n k c y z a b d =
    let x = scope_naming n k in
    let first = between (codes "(if ") (fexpr_text x c) (codes " then ") refl a.clean refl in
    let second = between (codes "(if " ++ fexpr_text x c ++ codes " then ") (fexpr_text x y) (codes " else ") first b.clean refl in
    record {
      tokens = at_start (tok.Sign sign.OpenParen) ∷ at_start (word_tok w.If) ∷
          (a.tokens ++ at_start (word_tok w.Then) ∷ (b.tokens ++ at_start (word_tok w.Else) ∷ (d.tokens ++ at_start (tok.Sign sign.CloseParen) ∷ [])));
      spelled = s.choice (at_start (tok.Sign sign.OpenParen)) (at_start (word_tok w.If)) (at_start (word_tok w.Then)) (at_start (word_tok w.Else)) (at_start (tok.Sign sign.CloseParen))
          refl refl a.spelled refl b.spelled refl d.spelled refl;
      row = choice_row (fexpr_text x c) (fexpr_text x y) (fexpr_text x z) a.tokens b.tokens d.tokens a.row b.row d.row;
      clean = between (codes "(if " ++ fexpr_text x c ++ codes " then " ++ fexpr_text x y ++ codes " else ") (fexpr_text x z) (codes ")") second d.clean refl;
    }

as_value : (n k : ℕ) (e : FExpr) → Shown (SpellsScalar (names_in_scope n k)) (fexpr_text (scope_naming n k) e) e → Shown (SpellsValue (names_in_scope n k)) (fexpr_text (scope_naming n k) e) e
as_value n k e h = record { tokens = h.tokens; spelled = s.scalar h.spelled; row = h.row; clean = h.clean }

some_keys : (n k : ℕ) → Few n k → (es : FExprs) → FitKeys (n + k) es → ShortFExprs es →
    Spaced (SpellsKeys (names_in_scope n k)) (fexprs_text (scope_naming n k) [] es) es
some_keys n k few f.none h s = absurd (h.some (sym (some_same h.is)))
some_keys n k few (f.more a es) h s =
    let p = two_parts t.more (plain a) (plain_all es) h.is in
    let fits : FitExprs (n + k) false (t.more p.0 p.1) = subst (FitExprs (n + k) false) (sym p.4) h.fits in
    keys_shown n k few a es p.1 (record { tree = p.0; is = p.2; fits = fits.0 }) s.0 p.3 fits.1 s.1

pub value_shown : (n k : ℕ) → Few n k → (e : FExpr) → FitsValue (n + k) e → ShortFExpr e → Shown (SpellsValue (names_in_scope n k)) (fexpr_text (scope_naming n k) e) e
value_shown n k few e (fits.scalar h) short = as_value n k e (scalar_shown n k few e h short)
value_shown n k few e (fits.update {i = i} {es = es} {e = v} lt keys h) short =
    update_shown n k few i es v ((ready n k few.0 few.1).named i lt) (some_keys n k few es keys short.1) (scalar_shown n k few v h short.2)
value_shown n k few e (fits.choice {c = c} {x = x} {y = y} h first second) short =
    choice_shown n k c x y (scalar_shown n k few c h short.0) (value_shown n k few x first short.1) (value_shown n k few y second short.2)
