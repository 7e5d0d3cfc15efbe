-- What is spelled can be printed: from names that are names and literals within the bound, each rule gives what fits.
use Rattle.std.proofs.Common.{◌≡◌, ◌≢◌, ◌∙◌, refl, sym, subst, arith, ℕ, zero, suc, ◌<◌, ◌≤◌, ◌==◌, Bool as Truth, true, false, not, ◌&&◌, cond, List, [], ◌∷◌, ◌++◌, length, get_or, Option, Some, None, All}
use Rattle.std.specs.Prelude.{⊤}
use Rattle.std.specs.Char.{is_ascii_digit}
use Rattle.std.specs.List.{list_all, take_while}
use Rattle.std.specs.Str.{bytes_eq}
use Rattle.std.proofs.lemmas.Bool.{or_left, cond-true, or_parts as neither, and_from}
use Rattle.std.proofs.lemmas.List.{map-append, length-map}
use Rattle.std.proofs.lemmas.List.Elements.{All-nil, All-cons, All-head, All-tail, All-append}
use Rattle.std.proofs.lemmas.List.Quantifiers.{all_pairs_push}
use Rattle.std.proofs.lemmas.List.Sums.{take_while-cons}
use Rattle.boogie_grammar.proofs.LexLaws.{letter_at}
use Rattle.lemmas.proofs.Bytes.{unequal}
use Rattle.lemmas.proofs.Options.{number_at}
use Rattle.grammar.specs.Spells.{Derives, given, needed, taken, passed, called}
use Rattle.vb_base.specs.Names.{is_name, is_name_start, is_name_byte, NamesDiffer}
use Rattle.vb_base.specs.Rows.{front}
use Rattle.boogie_tree.specs.Expr as t
use Rattle.boogie_tree.specs.Stmt as s
use Rattle.boogie_tree.specs.Program.{Local, Proc, BProgram}
use Rattle.boogie_tree.specs.Values.{is_key, AreKeys}
use Rattle.boogie_tree.specs.declared.exprs.BBase.{BBase}
use Rattle.boogie_grammar.specs.Parts.{IsToken}
use Rattle.boogie_grammar.specs.Step.{IsPiece}
use Rattle.boogie_grammar.specs.declared.tokens.Lexeme.{Lexeme}
use Rattle.boogie_grammar.specs.declared.tokens.Lexeme.TheVariants as tok
use Rattle.boogie_grammar.specs.declared.tokens.PlacedLexeme.{PlacedLexeme}
use Rattle.boogie_grammar.specs.declared.tokens.BoogieWord.TheVariants as word
use Rattle.boogie_grammar.specs.Words.{is_among, is_reserved}
use Rattle.boogie_grammar.specs.Pieces as p
use Rattle.boogie_tree.specs.Literals.{max_literal, IsLiteral}
use Rattle.boogie_grammar.specs.Pieces.{Piece, Class, class_of, is_blank, literal}
use Rattle.boogie_grammar.specs.Cut as cut
use Rattle.boogie_grammar.specs.Cut.{onto, IsRow}
use Rattle.boogie_grammar.specs.Tests as v
use Rattle.boogie_grammar.specs.Tests.{Kind, Value, Passes, IsVariable, number_of, some_free}
use Rattle.boogie_grammar.specs.Grammar as g
use Rattle.boogie_grammar.specs.Grammar.{Symbol, Rule, give, need, when, read, rule, rules, local_names, proc_names}
use Rattle.boogie_grammar.specs.Spells.{BSpells}
use Rattle.boogie_tree.specs.Fits.{FitsExpr, FitExprs, FitsStmt, FitStmts}
use Rattle.boogie_print.specs.Printable.{FitsLocal, FitsProc, IsPrintable}
use Rattle.boogie_print.proofs.Complete.{by_where}

-- ---- tokens

-- a name has the form of one, and a literal is within the bound
abbrev pub Proper : Lexeme → Type 0
Proper (tok.Name x) = is_name x ≡ true
Proper (tok.Number n) = IsLiteral n
Proper (tok.Real n) = IsLiteral n
Proper (tok.Text l) = ⊤
Proper (tok.Sign o) = ⊤

abbrev ProperPiece : Option Lexeme → Type 0
ProperPiece None = ⊤
ProperPiece (Some x) = Proper x

abbrev pub AllProper : List PlacedLexeme → Type 0
AllProper [] = ⊤
AllProper (k ∷ ts) = Proper k.tok × AllProper ts

pub front_proper : (ts us : List PlacedLexeme) → AllProper (ts ++ us) → AllProper ts
front_proper [] us h = tt
front_proper (k ∷ ts) us h = (h.0, front_proper ts us h.1)

pub back_proper : (ts us : List PlacedLexeme) → AllProper (ts ++ us) → AllProper us
back_proper [] us h = h
back_proper (k ∷ ts) us h = back_proper ts us h.1

front_at : (test : ℕ → Truth) (b : ℕ) (rest : List ℕ) (c : Truth) → test b ≡ c → list_all test rest ≡ true → list_all test (cond c (b ∷ rest) []) ≡ true
front_at test b rest true e h = and_from (test b) (list_all test rest) e h
front_at test b rest false e h = refl

front_all : (test : ℕ → Truth) (bytes : List ℕ) → list_all test (take_while test bytes) ≡ true
front_all test [] = refl
front_all test (b ∷ bytes) =
    subst (λ x. list_all test x ≡ true) (sym (take_while-cons test b bytes)) (front_at test b (take_while test bytes) (test b) refl (front_all test bytes))

name_form : (b : ℕ) (bytes : List ℕ) → is_name_start b ≡ true → is_name (front is_name_byte (b ∷ bytes)) ≡ true
name_form b bytes start =
    let byte : is_name_byte b ≡ true = or_left _ _ (or_left _ _ start) in
    let whole = take_while-cons is_name_byte b bytes ∙ cond-true (is_name_byte b) (b ∷ take_while is_name_byte bytes) [] byte in
    subst (λ x. is_name x ≡ true) (sym whole) (and_from (is_name_start b) (list_all is_name_byte (take_while is_name_byte bytes)) start (front_all is_name_byte bytes))

literal_proper : (real : Truth) (n : ℕ) → n ≤ max_literal → Proper (literal real n)
literal_proper true n h = record { natural = n; is = refl; within = h }
literal_proper false n h = record { natural = n; is = refl; within = h }

piece_proper : {c : Class} {text : List ℕ} {o : Option Lexeme} {n : ℕ} (b : ℕ) (bytes : List ℕ) → text ≡ b ∷ bytes → class_of b ≡ c → Piece c text o n → ProperPiece o
piece_proper b bytes e class p.blank = tt
piece_proper b bytes e class (p.name {bytes = text}) =
    subst (λ x. is_name (front is_name_byte x) ≡ true) (sym e) (name_form b bytes (letter_at (is_blank b) (is_name_start b) (is_ascii_digit b) (b == 34) class))
piece_proper b bytes e class (p.number small) = literal_proper _ _ small
piece_proper b bytes e class (p.text spelled f) = tt
piece_proper b bytes e class p.comment = tt
piece_proper b bytes e class (p.sign h k) = tt

onto_proper : (o : Option Lexeme) (at : _) (ts : List PlacedLexeme) → ProperPiece o → AllProper ts → AllProper (onto o at ts)
onto_proper None at ts h rest = rest
onto_proper (Some x) at ts h rest = (h, rest)

pub row_proper : {bytes : List ℕ} {ts : List PlacedLexeme} → IsRow bytes ts → AllProper ts
row_proper cut.none = tt
row_proper (cut.more {bytes = bytes} {b = b} {o = o} at {tokens = ts} piece h) = onto_proper o at ts (piece_proper b bytes refl refl piece) (row_proper h)

token_proper : (bytes : List ℕ) (n : ℕ) (t : Lexeme) → IsPiece bytes (Some t) n → Proper t
token_proper [] n t h = absurd h
token_proper (b ∷ bytes) n t h = piece_proper b bytes refl refl h

pub tokens_proper : (ts : List PlacedLexeme) → All IsToken ts → AllProper ts
tokens_proper [] h = tt
tokens_proper (k ∷ ts) h = let first = All-head IsToken k ts h in (token_proper first.bytes first.len k.tok first.begins, tokens_proper ts (All-tail IsToken k ts h))

-- ---- names

pub number_within : (x : List ℕ) (names : List (List ℕ)) (i : ℕ) → number_of x names ≡ Some i → i < length names
number_within x [] i e = absurd cc
number_within x (y ∷ ys) i e = number_at (bytes_eq x y) (number_of x ys) i (length ys) e (number_within x ys)

pub variable_within : {names : List (List ℕ)} {k : Lexeme} {i : ℕ} → IsVariable names k i → i < length names
variable_within {names} {i = i} h = number_within h.name names i h.there

pub not_among : (x : List ℕ) (names : List (List ℕ)) → is_among x names ≡ false → (k : ℕ) (d : List ℕ) → k < length names → get_or names k d ≢ x
not_among x [] h k d lt = absurd (omega (arith, lt))
not_among x (y ∷ ys) h zero d lt = unequal x y (neither (bytes_eq x y) (is_among x ys) h).0
not_among x (y ∷ ys) h (suc k) d lt = not_among x ys (neither (bytes_eq x y) (is_among x ys) h).1 k d (omega (arith, lt))

pub names_more : (names : List (List ℕ)) (x : List ℕ) → NamesDiffer names → is_among x names ≡ false → NamesDiffer (names ++ x ∷ [])
names_more names x h new = all_pairs_push (λ a b. a ≢ b) names x h (not_among x names new)

no_names : NamesDiffer []
no_names = λ i j d lt within. absurd (omega (arith, within))

-- ---- lists with one more

one : {X : Type 0} (P : X → Type 0) (x : X) → P x → All P (x ∷ [])
one P x h = All-cons P x [] h (All-nil P)

keys_more : (us : List BBase) (u : BBase) → AreKeys us → is_key u ≡ true → AreKeys (us ++ u ∷ [])
keys_more us u h key = All-append (λ u. is_key u ≡ true) us (u ∷ []) h (one (λ u. is_key u ≡ true) u key)

stmts_more : (n : ℕ) (ss : List s.BStmt) (a : s.BStmt) → FitStmts n (s.stmts ss) → FitsStmt n a → FitStmts n (s.stmts (ss ++ a ∷ []))
stmts_more n [] a h fits = (fits, tt)
stmts_more n (b ∷ ss) a h fits = (h.0, stmts_more n ss a h.1 fits)

exprs_more : (n : ℕ) (b : Truth) (es : List t.BExpr) (a : t.BExpr) → FitExprs n b (t.exprs es) → FitsExpr n b a → FitExprs n b (t.exprs (es ++ a ∷ []))
exprs_more n b [] a h fits = (fits, tt)
exprs_more n b (e ∷ es) a h fits = (h.0, exprs_more n b es a h.1 fits)

some_exprs : (es : List t.BExpr) (a : t.BExpr) → t.exprs (es ++ a ∷ []) ≢ t.none
some_exprs [] a e = cc
some_exprs (b ∷ es) a e = cc

some_bases : (us : List BBase) (u : BBase) → us ++ u ∷ [] ≢ []
some_bases [] u e = cc
some_bases (w ∷ us) u e = cc

-- whether names are bound
abbrev pub inside : List (List ℕ) → Truth
inside [] = false
inside (q ∷ qs) = true

some_bound : (qs : List (List ℕ)) (q : List ℕ) → inside (qs ++ q ∷ []) ≡ true
some_bound [] q = refl
some_bound (x ∷ qs) q = refl

-- ---- symbols

abbrev pub Fits : g.ExprScope → t.BExpr → Type 0
Fits x e = FitsExpr (length x.locals) (inside x.bound) e

abbrev pub SomeFit : g.ExprScope → List t.BExpr → Type 0
SomeFit x es = (t.exprs es ≢ t.none) × FitExprs (length x.locals) (inside x.bound) (t.exprs es)

-- what a list has so far
abbrev pub Held : {k : Kind} → Symbol k → Type 0
Held (g.Program ps) = All FitsProc ps × NamesDiffer (proc_names ps)
Held (g.Locals ls) = All FitsLocal ls × NamesDiffer (local_names ls)
Held (g.MoreKeys ks) = AreKeys ks
Held (g.Statements ls ss) = FitStmts (length ls) (s.stmts ss)
Held (g.Binders x b) = AreKeys b.types
Held (g.Indices x i) = i < length x.locals
Held (g.MoreExprs x es) = SomeFit x es
Held _ = ⊤

-- what a symbol gives
abbrev pub Gives : {k : Kind} → Symbol k → Value k → Type 0
Gives (g.Program ps) x = All FitsProc x × NamesDiffer (proc_names x)
Gives (g.Procedure names) x = FitsProc x × (is_among x.name names ≡ false)
Gives (g.Locals ls) x = All FitsLocal x × NamesDiffer (local_names x)
Gives g.TypeOf x = AreKeys x.keys
Gives (g.MoreKeys ks) x = AreKeys x
Gives (g.Statements ls ss) x = FitStmts (length ls) (s.stmts x)
Gives (g.Statement ls) x = FitsStmt (length ls) x
Gives (g.Block ls) x = FitStmts (length ls) x
Gives (g.Else ls) x = FitStmts (length ls) x
Gives (g.Expr y) x = Fits y x
Gives (g.InParens y) x = Fits y x
Gives (g.Binders y b) x = AreKeys x.types × (x.types ≢ []) × (inside x.names ≡ true)
Gives (g.Indices y i) x = Fits y x
Gives (g.BoundRest qs) x = ⊤
Gives (g.Exprs y) x = SomeFit y x
Gives (g.MoreExprs y es) x = SomeFit y x

-- ---- rules

-- what a rule gives, of proper tokens, has the property
abbrev pub Keeps : {k : Kind} → (Value k → Type 0) → Rule k → Type 0
Keeps P (give x) = P x
Keeps P (need c go) = (j : PlacedLexeme) (x : _) → Proper j.tok → Passes c j x → Keeps P (go x)
Keeps P (when c go other) = ((j : PlacedLexeme) (x : _) → Proper j.tok → Passes c j x → Keeps P (go x)) × Keeps P other
Keeps P (read a go) = Held a × ((y : _) → Gives a y → Keeps P (go y))

procedures_keep : (ps : List Proc) → Held (g.Program ps) → Keeps (Gives (g.Program ps)) (rule (g.Program ps))
procedures_keep ps held = (
  (λ _ _ _ _. (
    tt,
    λ d h. (
      (
        All-append FitsProc ps (d ∷ []) held.0 (one FitsProc d h.0),
        subst NamesDiffer (sym (map-append (λ (x : Proc). x.name) ps (d ∷ []))) (names_more (proc_names ps) d.name held.1 h.1),
      ),
      λ y k. k,
    ),
  )),
  held,
)

procedure_keeps : (names : List (List ℕ)) → Keeps (Gives (g.Procedure names)) (rule (g.Procedure names))
procedure_keeps names = λ j x proper passes. λ _ _ _ _. λ _ _ _ _. λ _ _ _ _. (
  (All-nil FitsLocal, no_names),
  λ ls h. (
    tt,
    λ ss fit. (
      record {
        name = record { form = subst Proper passes.0 proper; free = passes.1 };
        locals = h.0;
        locals_differ = h.1;
        body = subst (λ n. FitStmts n (s.stmts ss)) (length-map ls (λ (l : Local). l.name)) fit;
      },
      passes.2,
    ),
  ),
)

locals_keep : (ls : List Local) → Held (g.Locals ls) → Keeps (Gives (g.Locals ls)) (rule (g.Locals ls))
locals_keep ls held = (
  (λ _ _ _ _. λ j x proper passes. λ _ _ _ _. (
    tt,
    λ u keys. λ _ _ _ _.
        let l : Local = record { name = x; ty = u } in (
          (
            All-append FitsLocal ls (l ∷ []) held.0 (one FitsLocal l (record { name = record { form = subst Proper passes.0 proper; free = passes.1 }; keys = keys })),
            subst NamesDiffer (sym (map-append (λ (y : Local). y.name) ls (l ∷ []))) (names_more (local_names ls) x held.1 passes.2),
          ),
          λ y k. k,
        ),
  )),
  held,
)

type_keeps : Keeps (Gives g.TypeOf) (rule g.TypeOf)
type_keeps = ((λ _ _ _ _. λ j u proper passes. (one (λ u. is_key u ≡ true) u passes.1, λ ks h. λ _ _ _ _. h)), λ _ _ _ _. All-nil (λ u. is_key u ≡ true))

keys_keep : (ks : List BBase) → Held (g.MoreKeys ks) → Keeps (Gives (g.MoreKeys ks)) (rule (g.MoreKeys ks))
keys_keep ks held = ((λ _ _ _ _. λ j u proper passes. (keys_more ks u held passes.1, λ y k. k)), λ _ _ _ _. held)

statements_keep : (ls : List (List ℕ)) (ss : List s.BStmt) → Held (g.Statements ls ss) → Keeps (Gives (g.Statements ls ss)) (rule (g.Statements ls ss))
statements_keep ls ss held = ((λ _ _ _ _. held), (tt, λ a fits. (stmts_more (length ls) ss a held fits, λ y k. k)))

conditional_keeps : (ls : List (List ℕ)) → Keeps (FitsStmt (length ls)) (g.conditional ls)
conditional_keeps ls = λ _ _ _ _. λ _ _ _ _. (
  (λ _ _ _ _. λ _ _ _ _. (tt, λ a h. (tt, λ b k. (h, k)))),
  (tt, λ e f. λ _ _ _ _. (tt, λ a h. (tt, λ b k. (f, h, k)))),
)

assignment_keeps : (ls : List (List ℕ)) (i : ℕ) → i < length ls → Keeps (FitsStmt (length ls)) (g.assignment ls i)
assignment_keeps ls i lt = (
  (λ _ _ _ _. (tt, λ es h. λ _ _ _ _. (tt, λ e f. λ _ _ _ _. (lt, h.0, h.1, f)))),
  λ _ _ _ _. (tt, λ e f. λ _ _ _ _. (lt, f)),
)

changes_keep : (ls : List (List ℕ)) (some : some_free ls ≡ true) → Keeps (FitsStmt (length ls)) (g.changes ls some)
changes_keep ls some = (
  (λ _ _ _ _. λ j i proper passes. λ _ _ _ _. variable_within passes),
  ((λ j i proper passes. assignment_keeps ls i (variable_within passes)), conditional_keeps ls),
)

checks_keep : (ls : List (List ℕ)) (others : Rule v.stmt) → Keeps (FitsStmt (length ls)) others → Keeps (FitsStmt (length ls)) (g.checks ls others)
checks_keep ls others h = (
  (λ _ _ _ _. (tt, λ e f. λ _ _ _ _. f)),
  ((λ _ _ _ _. λ _ _ _ _. λ _ _ _ _. λ _ _ _ _. λ _ _ _ _. λ _ _ _ _. (tt, λ e f. λ _ _ _ _. f)), h),
)

statement_keeps : (ls : List (List ℕ)) → Keeps (FitsStmt (length ls)) (rule (g.Statement ls))
statement_keeps ls =
    by_where (λ r. Keeps (FitsStmt (length ls)) (g.checks ls r)) (some_free ls) (λ some. g.changes ls some) (g.conditional ls)
    (λ some. checks_keep ls (g.changes ls some) (changes_keep ls some)) (checks_keep ls (g.conditional ls) (conditional_keeps ls))

wrapped_keeps : (x : g.ExprScope) (make : t.BExpr → t.BExpr) → ((a : t.BExpr) → Fits x a → Fits x (make a)) → Keeps (Fits x) (g.wrapped x make)
wrapped_keeps x make fits = λ _ _ _ _. (tt, λ a h. λ _ _ _ _. fits a h)

simple_keeps : (x : g.ExprScope) (others : Rule v.expr) → Keeps (Fits x) others → Keeps (Fits x) (g.simple x others)
simple_keeps x others h = (
  (λ j n proper passes. subst Proper passes proper),
  (
    (λ j n proper passes. subst Proper passes proper),
    (
      (λ _ _ _ _. tt),
      (
        (λ _ _ _ _. tt),
        (
          (λ _ _ _ _. tt),
          (
            (λ _ _ _ _. tt),
            (
              (λ _ _ _ _. wrapped_keeps x t.ToReal (λ a k. k)),
              (
                (λ _ _ _ _. wrapped_keeps x t.SInt (λ a k. k)),
                (
                  (λ _ _ _ _. wrapped_keeps x t.SBool (λ a k. k)),
                  (
                    (λ _ _ _ _. wrapped_keeps x t.SRef (λ a k. k)),
                    (
                      (λ _ _ _ _. wrapped_keeps x t.SPerm (λ a k. k)),
                      (
                        (λ _ _ _ _. λ _ _ _ _. (tt, λ a f. λ _ _ _ _. (tt, λ b k. λ _ _ _ _. (f, k)))),
                        h,
                      ),
                    ),
                  ),
                ),
              ),
            ),
          ),
        ),
      ),
    ),
  ),
)

named_keeps : (x : g.ExprScope) (i : ℕ) → i < length x.locals → Keeps (Fits x) (g.named x i)
named_keeps x i lt = ((λ _ _ _ _. (lt, λ y k. k)), lt)

in_parens_keeps : (x : g.ExprScope) → Keeps (Fits x) (g.in_parens x)
in_parens_keeps x = λ _ _ _ _. (tt, λ y k. k)

expr_keeps : (x : g.ExprScope) → Keeps (Fits x) (rule (g.Expr x))
expr_keeps x =
    by_where (λ r. Keeps (Fits x) (g.simple x r)) (some_free x.locals)
    (λ some. when (v.a_variable x.locals some) (λ i. g.named x i) (g.in_parens x)) (g.in_parens x)
    (λ some. simple_keeps x (when (v.a_variable x.locals some) (λ i. g.named x i) (g.in_parens x)) ((λ j i proper passes. named_keeps x i (variable_within passes)), in_parens_keeps x))
    (simple_keeps x (g.in_parens x) (in_parens_keeps x))

binary_keeps : (x : g.ExprScope) → Keeps (Fits x) (g.binary x)
binary_keeps x = (tt, λ a h. λ _ _ _ _. (tt, λ b k. λ _ _ _ _. (h, k)))

prefixed_keeps : (x : g.ExprScope) (others : Rule v.expr) → Keeps (Fits x) others → Keeps (Fits x) (g.prefixed x others)
prefixed_keeps x others h = (
  (λ _ _ _ _. (tt, λ a f. λ _ _ _ _. f)),
  (
    (λ _ _ _ _. (tt, λ a f. λ _ _ _ _. f)),
    (
      (λ _ _ _ _. (tt, λ a f. λ _ _ _ _. (tt, λ b k. λ _ _ _ _. (tt, λ c l. λ _ _ _ _. (f, k, l))))),
      h,
    ),
  ),
)

quantified_keeps : (x : g.ExprScope) (b : v.Binding) → inside x.bound ≡ false → Gives (g.Binders x g.no_binding) b → Keeps (Fits x) (g.quantified x b)
quantified_keeps x b outside h = λ _ _ _ _. (tt, λ a f. λ _ _ _ _. (outside, h.1, h.0, subst (λ z. FitsExpr (length x.locals) z a) h.2 f))

parens_keep : (x : g.ExprScope) (qs : List (List ℕ)) → inside x.bound ≡ inside qs →
    Keeps (Fits x) (g.prefixed x (g.unless_bound qs (when (v.the_word word.Forall) (λ _. read (g.Binders x g.no_binding) (λ b. g.quantified x b)) (g.binary x)) (g.binary x)))
parens_keep x [] e =
    prefixed_keeps x (when (v.the_word word.Forall) (λ _. read (g.Binders x g.no_binding) (λ b. g.quantified x b)) (g.binary x))
    ((λ _ _ _ _. (All-nil (λ u. is_key u ≡ true), λ b h. quantified_keeps x b e h)), binary_keeps x)
parens_keep x (q ∷ qs) e = prefixed_keeps x (g.binary x) (binary_keeps x)

binders_keep : (x : g.ExprScope) (b : v.Binding) → Held (g.Binders x b) → Keeps (Gives (g.Binders x b)) (rule (g.Binders x b))
binders_keep x b held = λ j q proper passes. λ _ _ _ _. λ i u _ key.
    let keys = keys_more b.types u held key.1 in
    ((λ _ _ _ _. (keys, λ y k. k)), (keys, some_bases b.types u, some_bound b.names q))

at_keeps : (x : g.ExprScope) (i : ℕ) → i < length x.locals → Keeps (Fits x) (g.at_indices x i)
at_keeps x i lt = (tt, λ es h. (lt, h.0, h.1))

indices_keep : (x : g.ExprScope) (i : ℕ) (qs : List (List ℕ)) → i < length x.locals → inside x.bound ≡ inside qs → Keeps (Fits x) (g.indices x i qs)
indices_keep x i [] lt e = at_keeps x i lt
indices_keep x i (q ∷ qs) lt e =
    by_where (Keeps (Fits x)) (not (is_reserved q) && not (is_among q x.locals))
    (λ _. when (v.the_name q) (λ _. read (g.BoundRest qs) (λ _. give (t.AtBound i))) (g.at_indices x i)) (g.at_indices x i)
    (λ free. ((λ _ _ _ _. (tt, λ y k. (lt, e))), at_keeps x i lt)) (at_keeps x i lt)

rest_keeps : (qs : List (List ℕ)) → Keeps (Gives (g.BoundRest qs)) (rule (g.BoundRest qs))
rest_keeps [] = λ _ _ _ _. tt
rest_keeps (q ∷ qs) = λ _ _ _ _. λ _ _ _ _. (tt, λ y k. k)

exprs_keep : (x : g.ExprScope) → Keeps (SomeFit x) (rule (g.Exprs x))
exprs_keep x = (tt, λ a h. (((λ e. cc), (h, tt)), λ y k. k))

more_exprs_keep : (x : g.ExprScope) (es : List t.BExpr) → SomeFit x es → Keeps (SomeFit x) (rule (g.MoreExprs x es))
more_exprs_keep x es held = (
  (λ _ _ _ _. (tt, λ a h. ((some_exprs es a, exprs_more (length x.locals) (inside x.bound) es a held.1 h), λ y k. k))),
  λ _ _ _ _. held,
)

pub all_keep : {k : Kind} (a : Symbol k) → Held a → Keeps (Gives a) (rule a)
all_keep (g.Program ps) held = procedures_keep ps held
all_keep (g.Procedure names) held = procedure_keeps names
all_keep (g.Locals ls) held = locals_keep ls held
all_keep g.TypeOf held = type_keeps
all_keep (g.MoreKeys ks) held = keys_keep ks held
all_keep (g.Statements ls ss) held = statements_keep ls ss held
all_keep (g.Statement ls) held = statement_keeps ls
all_keep (g.Block ls) held = λ _ _ _ _. (tt, λ ss h. h)
all_keep (g.Else ls) held = ((λ _ _ _ _. (tt, λ y k. k)), tt)
all_keep (g.Expr x) held = expr_keeps x
all_keep (g.InParens x) held = parens_keep x x.bound refl
all_keep (g.Binders x b) held = binders_keep x b held
all_keep (g.Indices x i) held = indices_keep x i x.bound held refl
all_keep (g.BoundRest qs) held = rest_keeps qs
all_keep (g.Exprs x) held = exprs_keep x
all_keep (g.MoreExprs x es) held = more_exprs_keep x es held

pub keeps : {k : Kind} (P : Value k → Type 0) {a : Rule k} {ts : List PlacedLexeme} {x : Value k} → Derives rules k a ts x → Keeps P a → AllProper ts → P x
keeps P given h proper = h
keeps P (needed {v = y} q d) h proper = let all = subst AllProper q.is proper in keeps P d (h q.token y all.0 q.passes) all.1
keeps P (taken {v = y} q d) h proper = let all = subst AllProper q.is proper in keeps P d (h.0 q.token y all.0 q.passes) all.1
keeps P (passed d) h proper = keeps P d h.1 proper
keeps P (called {a = a} {ts = ts} {us = us} {y = y} d e) h proper =
    keeps P e (h.1 y (keeps (Gives a) d (all_keep a h.0) (front_proper ts us proper))) (back_proper ts us proper)

-- ---- programs

pub spelled_printable : (bytes : List ℕ) (program : BProgram) → BSpells bytes program → IsPrintable program
spelled_printable bytes program h =
    let all = keeps (Gives (g.Program [])) h.spells (all_keep (g.Program []) (All-nil FitsProc, no_names)) (row_proper h.cut) in
    record { procs = all.0; procs_differ = all.1 }
