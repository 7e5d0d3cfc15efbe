-- What is written for a program spells it.
use Rattle.std.proofs.Common.{◌≡◌, refl, sym, ap, subst, arith, ℕ, suc, ◌^◌, ◌<◌, Bool as Truth, true, false, List, [], ◌∷◌, ◌++◌, length, filter, codes, append_assoc, append-nil}
use Rattle.std.specs.Prelude.{All}
use Rattle.std.specs.List.{prefix_len}
use Rattle.std.proofs.lemmas.List.{map-append}
use Rattle.vb_base.specs.declared.labels.Label.{Label}
use Rattle.vb_base.specs.Labels.{text_of}
use Rattle.vb_base.specs.Names.{is_name_byte, NamesDiffer}
use Rattle.grammar.specs.Spells.{Derives, given, needed, taken, passed, called}
use Rattle.boogie_tree.specs.Expr as t
use Rattle.boogie_tree.specs.Stmt as s
use Rattle.boogie_tree.specs.Program.{Local, Proc, BProgram}
use Rattle.boogie_tree.specs.Values.{is_key, AreKeys}
use Rattle.boogie_tree.specs.declared.exprs.BBase.{BBase}
use Rattle.boogie_grammar.specs.declared.tokens.BSign.TheVariants as sign
use Rattle.boogie_grammar.specs.declared.tokens.Lexeme.TheVariants as tok
use Rattle.boogie_grammar.specs.declared.tokens.PlacedLexeme.{PlacedLexeme}
use Rattle.boogie_grammar.specs.declared.tokens.BoogieWord.TheVariants as w
use Rattle.boogie_grammar.specs.Words.{word_tok, base_word, is_among}
use Rattle.boogie_grammar.specs.Tests as v
use Rattle.boogie_grammar.specs.Tests.{Kind, Value, a_new_name, a_base, a_key, some_free}
use Rattle.boogie_grammar.specs.Grammar as g
use Rattle.boogie_grammar.specs.Grammar.{Rule, give, read, rule, rules, local_names, proc_names}
use Rattle.boogie_grammar.specs.Cut.{IsRow}
use Rattle.boogie_grammar.specs.Cut as cut
use Rattle.boogie_grammar.specs.Printed.{naming, is_q, name_at, base_text, expr_text, exprs_text, stmt_text, stmts_text, bases_text, type_text, locals_text, proc_text, procs_text, program_text}
use Rattle.boogie_grammar.specs.Spells.{BSpells}
use Rattle.boogie_grammar.proofs.WrittenRows.{at_start, Ends, name_row, free_row, blank_row, line_row, open_row, close_row, bracket_row, end_row, begin_row, finish_row, comma_row, semicolon_row, star_row, colon_row, mark_row, assign_row, text_row}
use Rattle.boogie_tree.specs.Fits.{FitsStmt, FitStmts}
use Rattle.boogie_print.specs.Printable.{IsFreeName, FitsLocal, FitsProc, IsPrintable}
use Rattle.boogie_print.specs.Short.{ShortStmt, ShortStmts, ShortProc, IsShort}
use Rattle.boogie_print.proofs.FreshLaws.{avoided}
use Rattle.boogie_print.proofs.VarLaws.{IsVar, some_is_free, var_at, new_after, head_of, tail_of}
use Rattle.boogie_print.proofs.ExprShown.{Shown, Listed, Ready, sign_first, sign_taken, word_first, word_taken, tail_derives, where_yes, ends, value_at, list_of, list_exprs, base_row, expr_shown, listed_shown, all_cons, all_none}

-- a text is cut into tokens that are derived from a rule, whatever follows
pub record Closed (bytes : List ℕ) {k : Kind} (a : Rule k) (x : Value k) : Type 0 where
  pub tokens : List PlacedLexeme
  pub spelled : Derives rules k a tokens x
  pub row : (rest : List ℕ) (ts : List PlacedLexeme) → IsRow rest ts → IsRow (bytes ++ rest) (tokens ++ ts)

-- what is written up to a `}`, in front of it
pub record Braced (bytes : List ℕ) {k : Kind} (a : Rule k) (x : Value k) : Type 0 where
  pub tokens : List PlacedLexeme
  pub spelled : Derives rules k a tokens x
  pub row : (rest : List ℕ) (ts : List PlacedLexeme) → IsRow rest ts → IsRow (bytes ++ (125 ∷ rest)) (tokens ++ ts)

-- the scope of a statement
abbrev outside : List (List ℕ) → g.ExprScope
outside names = g.outside names

abbrev ShownExpr : List (List ℕ) → t.BExpr → Type 0
ShownExpr names e = Shown (expr_text (naming names) e) (rule (g.Expr (outside names))) e

abbrev ShownStmt : List (List ℕ) → s.BStmt → Type 0
ShownStmt names a = Closed (stmt_text (naming names) a) (rule (g.Statement names)) a

-- statements without blocks

changed : (names : List (List ℕ)) {ts : List PlacedLexeme} {a : s.BStmt} → some_free names ≡ true → ((h : some_free names ≡ true) → Derives rules v.stmt (g.changes names h) ts a) →
    Derives rules v.stmt (rule (g.Statement names)) ts a
changed names {ts = ts} {a = a} some f =
    passed (passed (where_yes (λ r. Derives rules v.stmt r ts a) (some_free names) (λ h. g.changes names h) (g.conditional names) some f))

at_variable : (names : List (List ℕ)) (i : ℕ) {ts : List PlacedLexeme} {a : s.BStmt} → IsVar names i → Derives rules v.stmt (g.assignment names i) ts a →
    Derives rules v.stmt (rule (g.Statement names)) (at_start (tok.Name (name_at names i)) ∷ ts) a
at_variable names i h d =
    changed names (some_is_free h) (λ some. passed (taken
    (record { token = at_start (tok.Name (name_at names i)); is = refl; passes = record { name = name_at names i; is = refl; free = h.free; there = h.there } }) d))

assign_shown : (names : List (List ℕ)) (i : ℕ) (e : t.BExpr) → IsVar names i → ShownExpr names e → ShownStmt names (s.Assign i e)
assign_shown names i e h k = record {
  tokens = at_start (tok.Name (name_at names i)) ∷ at_start (tok.Sign sign.Assign) ∷ (k.tokens ++ at_start (tok.Sign sign.Semicolon) ∷ []);
  spelled = at_variable names i h (passed (sign_first (called {a = g.Expr (outside names)} k.spelled (sign_first given))));
  row = λ rest ts r. simp append_assoc (free_row (name_at names i) _ h.form refl (blank_row (assign_row (blank_row (k.row _ _ (ends refl refl refl) (semicolon_row (line_row r)))))));
}

put_row : (name indices value : List ℕ) (us vs : List PlacedLexeme) → ((rest : List ℕ) (ts : List PlacedLexeme) → prefix_len is_name_byte rest ≡ 0 → IsRow rest ts → IsRow (name ++ rest) (at_start (tok.Name name) ∷ ts)) →
    ((rest : List ℕ) (ts : List PlacedLexeme) → IsRow rest ts → IsRow (indices ++ (93 ∷ rest)) (us ++ ts)) →
    ((rest : List ℕ) (ts : List PlacedLexeme) → Ends rest → IsRow rest ts → IsRow (value ++ rest) (vs ++ ts)) → (rest : List ℕ) (ts : List PlacedLexeme) → IsRow rest ts →
    IsRow ((name ++ codes "[" ++ indices ++ codes "] := " ++ value ++ codes ";\n") ++ rest)
    ((at_start (tok.Name name) ∷ at_start (tok.Sign sign.OpenBracket) ∷ (us ++ at_start (tok.Sign sign.Assign) ∷ (vs ++ at_start (tok.Sign sign.Semicolon) ∷ []))) ++ ts)
put_row name indices value us vs n f h rest ts r =
    simp append_assoc (n _ _ refl (bracket_row (f _ _ (blank_row (assign_row (blank_row (h _ _ (ends refl refl refl) (semicolon_row (line_row r)))))))))

put_shown : (names : List (List ℕ)) (i : ℕ) (es : t.BExprs) (e : t.BExpr) → IsVar names i → Listed (exprs_text (naming names) [] es) (rule (g.Exprs (outside names))) (list_of es) → ShownExpr names e →
    ShownStmt names (s.Put i es e)
put_shown names i es e h l k = record {
  tokens = at_start (tok.Name (name_at names i)) ∷ at_start (tok.Sign sign.OpenBracket) ∷ (l.tokens ++ at_start (tok.Sign sign.Assign) ∷ (k.tokens ++ at_start (tok.Sign sign.Semicolon) ∷ []));
  spelled = at_variable names i h (value_at (ap (λ x. s.Put i x e) (list_exprs es))
      (sign_taken (called {a = g.Exprs (outside names)} l.spelled (sign_first (called {a = g.Expr (outside names)} k.spelled (sign_first given))))));
  row = put_row (name_at names i) (exprs_text (naming names) [] es) (expr_text (naming names) e) l.tokens k.tokens (λ rest ts f r. free_row (name_at names i) rest h.form f r) l.row k.row;
}

havoc_shown : (names : List (List ℕ)) (i : ℕ) → IsVar names i → ShownStmt names (s.Havoc i)
havoc_shown names i h = record {
  tokens = at_start (word_tok w.Havoc) ∷ at_start (tok.Name (name_at names i)) ∷ at_start (tok.Sign sign.Semicolon) ∷ [];
  spelled = changed names (some_is_free h) (λ some. word_taken (needed
      (record { token = at_start (tok.Name (name_at names i)); is = refl; passes = record { name = name_at names i; is = refl; free = h.free; there = h.there } }) (sign_first given)));
  row = λ rest ts r. simp append_assoc (name_row 104 (codes "avoc") _ refl refl (blank_row (free_row (name_at names i) _ h.form refl (semicolon_row (line_row r)))));
}

assume_shown : (names : List (List ℕ)) (e : t.BExpr) → ShownExpr names e → ShownStmt names (s.Assume e)
assume_shown names e k = record {
  tokens = at_start (word_tok w.Assume) ∷ (k.tokens ++ at_start (tok.Sign sign.Semicolon) ∷ []);
  spelled = word_taken (called {a = g.Expr (outside names)} k.spelled (sign_first given));
  row = λ rest ts r. simp append_assoc (name_row 97 (codes "ssume") _ refl refl (blank_row (k.row _ _ (ends refl refl refl) (semicolon_row (line_row r)))));
}

-- a label between quotes, whatever its text is made of
marked : (text : List ℕ) (l : Label) (expression : List ℕ) (tokens : List PlacedLexeme) →
    ((rest : List ℕ) (ts : List PlacedLexeme) → IsRow rest ts → IsRow (34 ∷ (text ++ (34 ∷ rest))) (at_start (tok.Text l) ∷ ts)) →
    ((rest : List ℕ) (ts : List PlacedLexeme) → Ends rest → IsRow rest ts → IsRow (expression ++ rest) (tokens ++ ts)) →
    (rest : List ℕ) (ts : List PlacedLexeme) → IsRow rest ts →
    IsRow ((codes "assert {:msg \"" ++ text ++ codes "\"} " ++ expression ++ codes ";\n") ++ rest)
    ((at_start (word_tok w.Assert) ∷ at_start (tok.Sign sign.OpenBrace) ∷ at_start (tok.Sign sign.Colon) ∷ at_start (word_tok w.Msg) ∷ at_start (tok.Text l) ∷ at_start (tok.Sign sign.CloseBrace) ∷
    (tokens ++ at_start (tok.Sign sign.Semicolon) ∷ [])) ++ ts)
marked text l expression tokens label h rest ts r =
    simp append_assoc
    (name_row 97 (codes "ssert") _ refl refl (blank_row (begin_row (mark_row (name_row 109 (codes "sg") _ refl refl (blank_row
    (label _ _ (finish_row (blank_row (h _ _ (ends refl refl refl) (semicolon_row (line_row r))))))))))))

assert_shown : (names : List (List ℕ)) (l : Label) (e : t.BExpr) → ShownExpr names e → ShownStmt names (s.Assert l e)
assert_shown names l e k = record {
  tokens = at_start (word_tok w.Assert) ∷ at_start (tok.Sign sign.OpenBrace) ∷ at_start (tok.Sign sign.Colon) ∷ at_start (word_tok w.Msg) ∷ at_start (tok.Text l) ∷ at_start (tok.Sign sign.CloseBrace) ∷
      (k.tokens ++ at_start (tok.Sign sign.Semicolon) ∷ []);
  spelled = passed (word_taken (sign_first (sign_first (word_first (needed (record { token = at_start (tok.Text l); is = refl; passes = refl })
      (sign_first (called {a = g.Expr (outside names)} k.spelled (sign_first given))))))));
  row = marked (text_of l) l (expr_text (naming names) e) k.tokens (λ rest ts. text_row l rest) k.row;
}

-- blocks

abbrev stmts_list : s.BStmts → List s.BStmt
stmts_list s.skip = []
stmts_list (s.first a rest) = a ∷ stmts_list rest

list_stmts : (ss : s.BStmts) → s.stmts (stmts_list ss) ≡ ss
list_stmts s.skip = refl
list_stmts (s.first a rest) = ap (s.first a) (list_stmts rest)

abbrev ShownStmts : List (List ℕ) → List s.BStmt → s.BStmts → Type 0
ShownStmts names all ss = Braced (stmts_text (naming names) ss) (rule (g.Statements names all)) (all ++ stmts_list ss)

skip_shown : (names : List (List ℕ)) (all : List s.BStmt) → ShownStmts names all s.skip
skip_shown names all = record {
  tokens = at_start (tok.Sign sign.CloseBrace) ∷ [];
  spelled = value_at (sym (append-nil all)) (sign_taken given);
  row = λ rest ts r. finish_row r;
}

first_row : (one others : List ℕ) (us vs : List PlacedLexeme) → ((rest : List ℕ) (ts : List PlacedLexeme) → IsRow rest ts → IsRow (one ++ rest) (us ++ ts)) →
    ((rest : List ℕ) (ts : List PlacedLexeme) → IsRow rest ts → IsRow (others ++ (125 ∷ rest)) (vs ++ ts)) → (rest : List ℕ) (ts : List PlacedLexeme) → IsRow rest ts →
    IsRow ((one ++ others) ++ (125 ∷ rest)) ((us ++ vs) ++ ts)
first_row one others us vs f h rest ts r = simp append_assoc (f _ _ (h rest ts r))

first_shown : (names : List (List ℕ)) (all : List s.BStmt) (a : s.BStmt) (rest : s.BStmts) → ShownStmt names a → ShownStmts names (all ++ (a ∷ [])) rest → ShownStmts names all (s.first a rest)
first_shown names all a rest h k = record {
  tokens = h.tokens ++ k.tokens;
  spelled = value_at (append_assoc all (a ∷ []) (stmts_list rest)) (passed (called {a = g.Statement names} h.spelled (tail_derives {a = g.Statements names (all ++ (a ∷ []))} k.spelled)));
  row = first_row (stmt_text (naming names) a) (stmts_text (naming names) rest) h.tokens k.tokens h.row k.row;
}

-- the last part of a rule
last_derives : {r k : Kind} (a : g.Symbol r) (make : Value r → Value k) {ts : List PlacedLexeme} {y : Value r} → Derives rules r (rule a) ts y → Derives rules k (read a (λ z. give (make z))) ts (make y)
last_derives {k = k} a make {ts = ts} {y = y} d =
    subst (λ l. Derives rules k (read a (λ z. give (make z))) l (make y)) (append-nil ts) (called {a = a} {go = λ z. give (make z)} d given)

block_derives : (names : List (List ℕ)) (ss : s.BStmts) (h : ShownStmts names [] ss) → Derives rules v.block (rule (g.Block names)) (at_start (tok.Sign sign.OpenBrace) ∷ h.tokens) ss
block_derives names ss h = value_at (list_stmts ss) (sign_first (last_derives (g.Statements names []) (λ l. s.stmts l) h.spelled))

else_derives : (names : List (List ℕ)) (ss : s.BStmts) (h : ShownStmts names [] ss) →
    Derives rules v.block (rule (g.Else names)) (at_start (word_tok w.Else) ∷ at_start (tok.Sign sign.OpenBrace) ∷ h.tokens) ss
else_derives names ss h = word_taken (tail_derives {a = g.Block names} (block_derives names ss h))

abbrev blocks : List PlacedLexeme → List PlacedLexeme → List PlacedLexeme
blocks us vs = at_start (tok.Sign sign.OpenBrace) ∷ (us ++ at_start (word_tok w.Else) ∷ at_start (tok.Sign sign.OpenBrace) ∷ vs)

blocks_row : (a b : List ℕ) (us vs : List PlacedLexeme) → ((rest : List ℕ) (ts : List PlacedLexeme) → IsRow rest ts → IsRow (a ++ (125 ∷ rest)) (us ++ ts)) →
    ((rest : List ℕ) (ts : List PlacedLexeme) → IsRow rest ts → IsRow (b ++ (125 ∷ rest)) (vs ++ ts)) → (rest : List ℕ) (ts : List PlacedLexeme) → IsRow rest ts →
    IsRow ((codes " {\n" ++ a ++ codes "} else {\n" ++ b ++ codes "}\n") ++ rest) (blocks us vs ++ ts)
blocks_row a b us vs f h rest ts r =
    simp append_assoc (blank_row (begin_row (line_row (f _ _ (blank_row (name_row 101 (codes "lse") _ refl refl (blank_row (begin_row (line_row (h _ _ (line_row r)))))))))))

if_row : (e a b : List ℕ) (us vs ws : List PlacedLexeme) → ((rest : List ℕ) (ts : List PlacedLexeme) → Ends rest → IsRow rest ts → IsRow (e ++ rest) (us ++ ts)) →
    ((rest : List ℕ) (ts : List PlacedLexeme) → IsRow rest ts → IsRow (a ++ (125 ∷ rest)) (vs ++ ts)) →
    ((rest : List ℕ) (ts : List PlacedLexeme) → IsRow rest ts → IsRow (b ++ (125 ∷ rest)) (ws ++ ts)) → (rest : List ℕ) (ts : List PlacedLexeme) → IsRow rest ts →
    IsRow ((codes "if (" ++ e ++ codes ") {\n" ++ a ++ codes "} else {\n" ++ b ++ codes "}\n") ++ rest)
    ((at_start (word_tok w.If) ∷ at_start (tok.Sign sign.OpenParen) ∷ (us ++ at_start (tok.Sign sign.CloseParen) ∷ blocks vs ws)) ++ ts)
if_row e a b us vs ws f h i rest ts r =
    simp append_assoc (name_row 105 (codes "f") _ refl refl (blank_row (open_row (f _ _ (ends refl refl refl) (close_row (blank_row (begin_row (line_row
    (h _ _ (blank_row (name_row 101 (codes "lse") _ refl refl (blank_row (begin_row (line_row (i _ _ (line_row r))))))))))))))))

conditional : (names : List (List ℕ)) {ts : List PlacedLexeme} {a : s.BStmt} → Derives rules v.stmt (g.conditional names) ts a → Derives rules v.stmt (rule (g.Statement names)) ts a
conditional names {ts = ts} {a = a} d = passed (passed (by_free (some_free names) (λ h. passed (passed d)))) where
  by_free : (b : Truth) {f : b ≡ true → Rule v.stmt} → ((h : b ≡ true) → Derives rules v.stmt (f h) ts a) → Derives rules v.stmt (g.where_true b f (g.conditional names)) ts a
  by_free true f = f refl
  by_free false f = d

if_shown : (names : List (List ℕ)) (e : t.BExpr) (a b : s.BStmts) → ShownExpr names e → ShownStmts names [] a → ShownStmts names [] b → ShownStmt names (s.If e a b)
if_shown names e a b k h i = record {
  tokens = at_start (word_tok w.If) ∷ at_start (tok.Sign sign.OpenParen) ∷ (k.tokens ++ at_start (tok.Sign sign.CloseParen) ∷ blocks h.tokens i.tokens);
  spelled = conditional names (word_first (sign_first (passed (called {a = g.Expr (outside names)} k.spelled (sign_first
      (called {a = g.Block names} (block_derives names a h) (last_derives (g.Else names) (λ y. s.If e a y) (else_derives names b i))))))));
  row = if_row (expr_text (naming names) e) (stmts_text (naming names) a) (stmts_text (naming names) b) k.tokens h.tokens i.tokens k.row h.row i.row;
}

star_if_row : (both : List ℕ) (vs : List PlacedLexeme) → ((rest : List ℕ) (ts : List PlacedLexeme) → IsRow rest ts → IsRow (both ++ rest) (vs ++ ts)) → (rest : List ℕ) (ts : List PlacedLexeme) → IsRow rest ts →
    IsRow ((codes "if (*)" ++ both) ++ rest) ((at_start (word_tok w.If) ∷ at_start (tok.Sign sign.OpenParen) ∷ at_start (tok.Sign sign.Star) ∷ at_start (tok.Sign sign.CloseParen) ∷ vs) ++ ts)
star_if_row both vs h rest ts r = simp append_assoc (name_row 105 (codes "f") _ refl refl (blank_row (open_row (star_row (close_row (h rest ts r))))))

either_shown : (names : List (List ℕ)) (a b : s.BStmts) → ShownStmts names [] a → ShownStmts names [] b → ShownStmt names (s.Either a b)
either_shown names a b h i = record {
  tokens = at_start (word_tok w.If) ∷ at_start (tok.Sign sign.OpenParen) ∷ at_start (tok.Sign sign.Star) ∷ at_start (tok.Sign sign.CloseParen) ∷ blocks h.tokens i.tokens;
  spelled = conditional names (word_first (sign_first (sign_taken (sign_first
      (called {a = g.Block names} (block_derives names a h) (last_derives (g.Else names) (λ y. s.Either a y) (else_derives names b i)))))));
  row = star_if_row (codes " {\n" ++ stmts_text (naming names) a ++ codes "} else {\n" ++ stmts_text (naming names) b ++ codes "}\n") (blocks h.tokens i.tokens)
      (blocks_row (stmts_text (naming names) a) (stmts_text (naming names) b) h.tokens i.tokens h.row i.row);
}

-- all statements

mutual
  stmt_shown : (names : List (List ℕ)) (n : ℕ) → Ready (naming names) n → (a : s.BStmt) → FitsStmt n a → ShortStmt a → ShownStmt names a
  stmt_shown names n ready (s.Assign i e) h k = assign_shown names i e (ready.named i h.0) (expr_shown (naming names) n false ready refl e h.1 k)
  stmt_shown names n ready (s.Put i es e) h k =
      put_shown names i es e (ready.named i h.0) (listed_shown (naming names) n ready refl es h.1 h.2 k.0) (expr_shown (naming names) n false ready refl e h.3 k.1)
  stmt_shown names n ready (s.Havoc i) h k = havoc_shown names i (ready.named i h)
  stmt_shown names n ready (s.Assume e) h k = assume_shown names e (expr_shown (naming names) n false ready refl e h k)
  stmt_shown names n ready (s.Assert l e) h k = assert_shown names l e (expr_shown (naming names) n false ready refl e h k)
  stmt_shown names n ready (s.If e a b) h k =
      if_shown names e a b (expr_shown (naming names) n false ready refl e h.0 k.0) (stmts_shown names n ready [] a h.1 k.1) (stmts_shown names n ready [] b h.2 k.2)
  stmt_shown names n ready (s.Either a b) h k = either_shown names a b (stmts_shown names n ready [] a h.0 k.0) (stmts_shown names n ready [] b h.1 k.1)

  stmts_shown : (names : List (List ℕ)) (n : ℕ) → Ready (naming names) n → (all : List s.BStmt) (ss : s.BStmts) → FitStmts n ss → ShortStmts ss → ShownStmts names all ss
  stmts_shown names n ready all s.skip h k = skip_shown names all
  stmts_shown names n ready all (s.first a rest) h k = first_shown names all a rest (stmt_shown names n ready a h.0 k.0) (stmts_shown names n ready (all ++ (a ∷ [])) rest h.1 k.1)

-- types and locals

keys_end : (us : List BBase) (rest : List ℕ) → prefix_len is_name_byte (bases_text (codes ", ") us ++ (93 ∷ rest)) ≡ 0
keys_end [] rest = refl
keys_end (u ∷ us) rest = refl

more_keys_shown : (us : List BBase) (all : List BBase) → AreKeys us → Listed (bases_text (codes ", ") us) (rule (g.MoreKeys all)) (all ++ us)
more_keys_shown [] all keys = record {
  tokens = at_start (tok.Sign sign.CloseBracket) ∷ [];
  spelled = value_at (sym (append-nil all)) (passed (sign_first given));
  row = λ rest ts r. end_row r;
}
more_keys_shown (u ∷ us) all keys =
    let more = more_keys_shown us (all ++ (u ∷ [])) (tail_of (λ k. is_key k ≡ true) u us keys) in
    record {
      tokens = at_start (tok.Sign sign.Comma) ∷ at_start (word_tok (base_word u)) ∷ more.tokens;
      spelled = value_at (append_assoc all (u ∷ []) us) (sign_taken (needed {c = a_key} {v = u}
          (record { token = at_start (word_tok (base_word u)); is = refl; passes = (refl, head_of (λ k. is_key k ≡ true) u us keys) }) (tail_derives {a = g.MoreKeys (all ++ (u ∷ []))} more.spelled)));
      row = λ rest ts r. simp append_assoc (comma_row (blank_row (base_row u _ _ (keys_end us rest) (more.row rest ts r))));
    }

map_row : (first more base_name : List ℕ) (k u : PlacedLexeme) (us : List PlacedLexeme) →
    ((rest : List ℕ) (ts : List PlacedLexeme) → prefix_len is_name_byte rest ≡ 0 → IsRow rest ts → IsRow (first ++ rest) (k ∷ ts)) → ((rest : List ℕ) → prefix_len is_name_byte (more ++ (93 ∷ rest)) ≡ 0) →
    ((rest : List ℕ) (ts : List PlacedLexeme) → IsRow rest ts → IsRow (more ++ (93 ∷ rest)) (us ++ ts)) →
    ((rest : List ℕ) (ts : List PlacedLexeme) → prefix_len is_name_byte rest ≡ 0 → IsRow rest ts → IsRow (base_name ++ rest) (u ∷ ts)) →
    (rest : List ℕ) (ts : List PlacedLexeme) → Ends rest → IsRow rest ts →
    IsRow (((codes "[" ++ ([] ++ first ++ more) ++ codes "]") ++ base_name) ++ rest) ((at_start (tok.Sign sign.OpenBracket) ∷ k ∷ (us ++ u ∷ [])) ++ ts)
map_row first more base_name k u us f e h i rest ts end r = simp append_assoc (bracket_row (f _ _ (e _) (h _ _ (i _ _ end.name_ends r))))

pub type_shown : (keys : List BBase) (base : BBase) → AreKeys keys → Shown (type_text (record { keys = keys; base = base })) (rule g.TypeOf) (record { keys = keys; base = base })
type_shown [] base keys = record {
  tokens = at_start (word_tok (base_word base)) ∷ [];
  spelled = passed (needed {c = a_base} {v = base} (record { token = at_start (word_tok (base_word base)); is = refl; passes = refl }) given);
  row = λ rest ts e r. base_row base rest ts e.name_ends r;
}
type_shown (k ∷ ks) base keys =
    let more = more_keys_shown ks (k ∷ []) (tail_of (λ u. is_key u ≡ true) k ks keys) in
    record {
      tokens = at_start (tok.Sign sign.OpenBracket) ∷ at_start (word_tok (base_word k)) ∷ (more.tokens ++ at_start (word_tok (base_word base)) ∷ []);
      spelled = sign_taken (needed {c = a_key} {v = k} (record { token = at_start (word_tok (base_word k)); is = refl; passes = (refl, head_of (λ u. is_key u ≡ true) k ks keys) })
          (called {a = g.MoreKeys (k ∷ [])} more.spelled (needed {c = a_base} {v = base} (record { token = at_start (word_tok (base_word base)); is = refl; passes = refl }) given)));
      row = map_row (base_text k) (bases_text (codes ", ") ks) (base_text base) (at_start (word_tok (base_word k))) (at_start (word_tok (base_word base))) more.tokens
          (λ rest ts e r. base_row k rest ts e r) (keys_end ks) more.row (λ rest ts e r. base_row base rest ts e r);
    }

local_row : (name type others : List ℕ) (us vs : List PlacedLexeme) →
    ((rest : List ℕ) (ts : List PlacedLexeme) → prefix_len is_name_byte rest ≡ 0 → IsRow rest ts → IsRow (name ++ rest) (at_start (tok.Name name) ∷ ts)) →
    ((rest : List ℕ) (ts : List PlacedLexeme) → Ends rest → IsRow rest ts → IsRow (type ++ rest) (us ++ ts)) → ((rest : List ℕ) (ts : List PlacedLexeme) → IsRow rest ts → IsRow (others ++ rest) (vs ++ ts)) →
    (rest : List ℕ) (ts : List PlacedLexeme) → IsRow rest ts →
    IsRow ((codes "var " ++ name ++ codes ": " ++ type ++ codes ";\n" ++ others) ++ rest)
    ((at_start (word_tok w.Var) ∷ at_start (tok.Name name) ∷ at_start (tok.Sign sign.Colon) ∷ (us ++ at_start (tok.Sign sign.Semicolon) ∷ vs)) ++ ts)
local_row name type others us vs n f h rest ts r =
    simp append_assoc (name_row 118 (codes "ar") _ refl refl (blank_row (n _ _ refl (colon_row (blank_row (f _ _ (ends refl refl refl) (semicolon_row (line_row (h rest ts r)))))))))

locals_shown : (ls all : List Local) → All FitsLocal ls → NamesDiffer (local_names (all ++ ls)) → Closed (locals_text ls) (rule (g.Locals all)) (all ++ ls)
locals_shown [] all fit differ = record { tokens = []; spelled = value_at (sym (append-nil all)) (passed given); row = λ rest ts r. r }
locals_shown (l ∷ ls) all fit differ =
    let h = head_of FitsLocal l ls fit in
    let split : local_names (all ++ (l ∷ ls)) ≡ local_names all ++ (l.name ∷ local_names ls) = map-append (λ (x : Local). x.name) all (l ∷ ls) in
    let new = new_after (local_names all) l.name (local_names ls) (subst NamesDiffer split differ) in
    let again : NamesDiffer (local_names ((all ++ (l ∷ [])) ++ ls)) = subst (λ x. NamesDiffer (local_names x)) (sym (append_assoc all (l ∷ []) ls)) differ in
    let more = locals_shown ls (all ++ (l ∷ [])) (tail_of FitsLocal l ls fit) again in
    let type = type_shown l.ty.keys l.ty.base h.keys in
    record {
      tokens = at_start (word_tok w.Var) ∷ at_start (tok.Name l.name) ∷ at_start (tok.Sign sign.Colon) ∷ (type.tokens ++ at_start (tok.Sign sign.Semicolon) ∷ more.tokens);
      spelled = value_at (append_assoc all (l ∷ []) ls) (word_taken (needed {c = a_new_name (local_names all)} {v = l.name} (record { token = at_start (tok.Name l.name); is = refl; passes = (refl, h.name.free, new) })
          (sign_first (called {a = g.TypeOf} type.spelled (sign_first (tail_derives {a = g.Locals (all ++ (l ∷ []))} more.spelled))))));
      row = local_row l.name (type_text l.ty) (locals_text ls) type.tokens more.tokens (λ rest ts e r. free_row l.name rest h.name.form e r) type.row more.row;
    }

-- procedures

names_free : (ls : List Local) → All FitsLocal ls → All IsFreeName (local_names ls)
names_free [] fit = all_none IsFreeName
names_free (l ∷ ls) fit = all_cons IsFreeName l.name (local_names ls) (head_of FitsLocal l ls fit).name (names_free ls (tail_of FitsLocal l ls fit))

same_number : (ls : List Local) → length (local_names ls) ≡ length ls
same_number [] = refl
same_number (l ∷ ls) = ap suc (same_number ls)

locals_ready : (ls : List Local) → All FitsLocal ls → NamesDiffer (local_names ls) → length (filter is_q (local_names ls)) < 2 ^ 63 → Ready (naming (local_names ls)) (length ls)
locals_ready ls fit differ short = record {
  named = λ i lt. var_at (local_names ls) (names_free ls fit) differ i (let e = same_number ls in omega (arith, e, lt));
  avoids = λ m h. avoided m (local_names ls) h;
  short = short;
}

-- after `procedure`
record ShownProc (seen : List (List ℕ)) (p : Proc) : Type 0 where
  tokens : List PlacedLexeme
  spelled : Derives rules v.proc (rule (g.Procedure seen)) tokens p
  row : (rest : List ℕ) (ts : List PlacedLexeme) → IsRow rest ts → IsRow (proc_text p ++ rest) (at_start (word_tok w.Procedure) ∷ (tokens ++ ts))

proc_row : (name locals body : List ℕ) (us vs : List PlacedLexeme) →
    ((rest : List ℕ) (ts : List PlacedLexeme) → prefix_len is_name_byte rest ≡ 0 → IsRow rest ts → IsRow (name ++ rest) (at_start (tok.Name name) ∷ ts)) →
    ((rest : List ℕ) (ts : List PlacedLexeme) → IsRow rest ts → IsRow (locals ++ rest) (us ++ ts)) → ((rest : List ℕ) (ts : List PlacedLexeme) → IsRow rest ts → IsRow (body ++ (125 ∷ rest)) (vs ++ ts)) →
    (rest : List ℕ) (ts : List PlacedLexeme) → IsRow rest ts →
    IsRow ((codes "procedure " ++ name ++ codes "() {\n" ++ locals ++ body ++ codes "}\n") ++ rest)
    (at_start (word_tok w.Procedure) ∷ ((at_start (tok.Name name) ∷ at_start (tok.Sign sign.OpenParen) ∷ at_start (tok.Sign sign.CloseParen) ∷ at_start (tok.Sign sign.OpenBrace) ∷ (us ++ vs)) ++ ts))
proc_row name locals body us vs n f h rest ts r =
    simp append_assoc (name_row 112 (codes "rocedure") _ refl refl (blank_row (n _ _ refl (open_row (close_row (blank_row (begin_row (line_row (f _ _ (h _ _ (line_row r)))))))))))

proc_shown : (seen : List (List ℕ)) (p : Proc) → FitsProc p → ShortProc p → is_among p.name seen ≡ false → ShownProc seen p
proc_shown seen p fit short new =
    let locals = locals_shown p.locals [] fit.locals fit.locals_differ in
    let names = local_names p.locals in
    let ready = locals_ready p.locals fit.locals fit.locals_differ short.locals in
    let body = stmts_shown names (length p.locals) ready [] p.body fit.body short.body in
    record {
      tokens = at_start (tok.Name p.name) ∷ at_start (tok.Sign sign.OpenParen) ∷ at_start (tok.Sign sign.CloseParen) ∷ at_start (tok.Sign sign.OpenBrace) ∷ (locals.tokens ++ body.tokens);
      spelled = value_at (ap (λ b. record { name = p.name; locals = p.locals; body = b }) (list_stmts p.body))
          (needed {c = a_new_name seen} {v = p.name} (record { token = at_start (tok.Name p.name); is = refl; passes = (refl, fit.name.free, new) })
          (sign_first (sign_first (sign_first (called {a = g.Locals []} locals.spelled
          (last_derives (g.Statements names []) (λ ss. let whole : Proc = record { name = p.name; locals = p.locals; body = s.stmts ss } in whole) body.spelled))))));
      row = proc_row p.name (locals_text p.locals) (stmts_text (naming names) p.body) locals.tokens body.tokens (λ rest ts e r. free_row p.name rest fit.name.form e r) locals.row body.row;
    }

procs_row : (one others : List ℕ) (us vs : List PlacedLexeme) → ((rest : List ℕ) (ts : List PlacedLexeme) → IsRow rest ts → IsRow (one ++ rest) (at_start (word_tok w.Procedure) ∷ (us ++ ts))) →
    ((rest : List ℕ) (ts : List PlacedLexeme) → IsRow rest ts → IsRow (others ++ rest) (vs ++ ts)) → (rest : List ℕ) (ts : List PlacedLexeme) → IsRow rest ts →
    IsRow ((one ++ others) ++ rest) ((at_start (word_tok w.Procedure) ∷ (us ++ vs)) ++ ts)
procs_row one others us vs f h rest ts r = simp append_assoc (f _ _ (h rest ts r))

procs_shown : (ps all : List Proc) → All FitsProc ps → All ShortProc ps → NamesDiffer (proc_names (all ++ ps)) → Closed (procs_text ps) (rule (g.Program all)) (all ++ ps)
procs_shown [] all fit short differ = record { tokens = []; spelled = value_at (sym (append-nil all)) (passed given); row = λ rest ts r. r }
procs_shown (p ∷ ps) all fit short differ =
    let split : proc_names (all ++ (p ∷ ps)) ≡ proc_names all ++ (p.name ∷ proc_names ps) = map-append (λ (x : Proc). x.name) all (p ∷ ps) in
    let new = new_after (proc_names all) p.name (proc_names ps) (subst NamesDiffer split differ) in
    let again : NamesDiffer (proc_names ((all ++ (p ∷ [])) ++ ps)) = subst (λ x. NamesDiffer (proc_names x)) (sym (append_assoc all (p ∷ []) ps)) differ in
    let one = proc_shown (proc_names all) p (head_of FitsProc p ps fit) (head_of ShortProc p ps short) new in
    let more = procs_shown ps (all ++ (p ∷ [])) (tail_of FitsProc p ps fit) (tail_of ShortProc p ps short) again in
    record {
      tokens = at_start (word_tok w.Procedure) ∷ (one.tokens ++ more.tokens);
      spelled = value_at (append_assoc all (p ∷ []) ps) (word_taken (called {a = g.Procedure (proc_names all)} one.spelled (tail_derives {a = g.Program (all ++ (p ∷ []))} more.spelled)));
      row = procs_row (proc_text p) (procs_text ps) one.tokens more.tokens one.row more.row;
    }

pub program_spelled : (program : BProgram) → IsPrintable program → IsShort program → BSpells (program_text program) program
program_spelled program h short =
    let all = procs_shown program.procs [] h.procs short h.procs_differ in
    record {
      rest = procs_text program.procs;
      tokens = all.tokens;
      text = refl;
      cut = whole (procs_text program.procs) all.tokens (all.row [] [] cut.none);
      spells = all.spelled;
    } where
      whole : (text : List ℕ) (tokens : List PlacedLexeme) → IsRow (text ++ []) (tokens ++ []) → IsRow text tokens
      whole text tokens r = subst (λ ts. IsRow text ts) (append-nil tokens) (subst (λ bytes. IsRow bytes (tokens ++ [])) (append-nil text) r)
