-- What a text holds after some procedures, and inside of one.
use Rattle.std.specs.Prelude.{◌≡◌, ◌++◌, ◌<◌, ℕ, false, List, [], ◌∷◌, length}
use Rattle.grammar.specs.Rules.{Starts}
use Rattle.grammar.specs.Spells.{Derives}
use Rattle.boogie_tree.specs.Stmt as s
use Rattle.boogie_tree.specs.Program as p
use Rattle.boogie_tree.specs.Program.{Proc}
use Rattle.boogie_tree.specs.Fits.{FitsStmt}
use Rattle.boogie_tree.specs.Whole.{local_of, stmt_of}
use Rattle.boogie_tree.specs.declared.programs.Local.{Local}
use Rattle.boogie_grammar.specs.declared.tokens.BSign.TheVariants as sign
use Rattle.boogie_grammar.specs.declared.tokens.PlacedLexeme.{PlacedLexeme}
use Rattle.boogie_grammar.specs.declared.tokens.BoogieWord.TheVariants as w
use Rattle.boogie_grammar.specs.Cut.{IsRow}
use Rattle.boogie_grammar.specs.Depth.{IsShallow}
use Rattle.boogie_grammar.specs.Parts.{IsShallowFrom}
use Rattle.boogie_grammar.specs.Grammar as g
use Rattle.boogie_grammar.specs.Grammar.{Rule, boogie, need, read, give, after_sign, local_names, proc_names, rule, rules}
use Rattle.boogie_grammar.specs.Tests as v
use Rattle.boogie_grammar.specs.Tests.{a_new_name, the_word}
use Rattle.boogie_grammar.specs.Words.{is_among}
use Rattle.boogie_text.specs.declared.inside.NextInside.{NextInside}
use Rattle.boogie_text.specs.declared.inside.NextInside.TheVariants as inside
use Rattle.boogie_text.specs.declared.outside.Outside.{Outside}
use Rattle.boogie_text.specs.declared.outside.Outside.TheVariants as outside

-- after these procedures the text continues so that all of the program are those, and never are too many brackets unclosed
pub record IsTail (so_far : List Proc) (text : List ℕ) (all : List Proc) : Type 0 where
  pub tokens : List PlacedLexeme
  pub cut : IsRow text tokens
  pub shallow : IsShallow tokens
  pub spells : Derives rules _ (rule (g.Program so_far)) tokens all

-- what is spelled behind these procedures and one more with this name, these locals, and a body that begins with these statements
abbrev pub after_statements : List Proc → List ℕ → List p.Local → List s.BStmt → Rule v.procs
after_statements so_far name ls ss =
    read (g.Statements (local_names ls) ss) (λ body. read (g.Program (so_far ++ record { name = name; locals = ls; body = s.stmts body } ∷ [])) give)

-- the same behind these locals alone, where more of them may follow
abbrev pub after_locals : List Proc → List ℕ → List p.Local → Rule v.procs
after_locals so_far name ls = read (g.Locals ls) (λ locals. after_statements so_far name locals [])

-- In a procedure of this name, behind these of its locals, the text continues so that all procedures of the program are those: the
-- procedures before, that one, and what follows it. One bracket is unclosed there, and never are too many.
pub record IsLocalsTail (so_far : List Proc) (name : List ℕ) (ls : List p.Local) (text : List ℕ) (all : List Proc) : Type 0 where
  pub tokens : List PlacedLexeme
  pub cut : IsRow text tokens
  pub shallow : IsShallowFrom 1 tokens
  pub spells : Derives rules _ (after_locals so_far name ls) tokens all

-- the same behind all of its locals, which are these, and these statements of its body
pub record IsBodyTail (so_far : List Proc) (name : List ℕ) (ls : List p.Local) (done : List s.BStmt) (text : List ℕ) (all : List Proc) : Type 0 where
  pub tokens : List PlacedLexeme
  pub cut : IsRow text tokens
  pub shallow : IsShallowFrom 1 tokens
  pub spells : Derives rules _ (after_statements so_far name ls done) tokens all

-- the head of a procedure of this name, which is none of these, is read off a text: if what is left continues inside of it, the text
-- continues so
pub record BeginsProcedure (taken : List (List ℕ)) (text name rest : List ℕ) : Type 0 where
  pub goes_on : (so_far all : List Proc) → proc_names so_far ≡ taken → IsLocalsTail so_far name [] rest all → IsTail so_far text all
  pub new : is_among name taken ≡ false
  pub shorter : length rest < length text

-- the declaration of a local, whose name is none of these, is read off a text: if what is left continues behind one local more, the text
-- continues so
pub record BeginsLocal (names : List (List ℕ)) (text : List ℕ) (l : p.Local) (rest : List ℕ) : Type 0 where
  pub goes_on : (so_far : List Proc) (name : List ℕ) (ls : List p.Local) (all : List Proc) → local_names ls ≡ names →
      IsLocalsTail so_far name (ls ++ l ∷ []) rest all → IsLocalsTail so_far name ls text all
  pub new : is_among l.name names ≡ false
  pub shorter : length rest < length text

-- a statement in which locals of these names may be used, and whose literals are literals, is read off a text: if what is left continues
-- behind one statement more, the text continues so
pub record BeginsStatement (names : List (List ℕ)) (text : List ℕ) (a : s.BStmt) (rest : List ℕ) : Type 0 where
  pub goes_on : (so_far : List Proc) (name : List ℕ) (ls : List p.Local) (done : List s.BStmt) (all : List Proc) → local_names ls ≡ names →
      IsBodyTail so_far name ls (done ++ a ∷ []) rest all → IsBodyTail so_far name ls done text all
  pub fits : FitsStmt (length names) a
  pub shorter : length rest < length text

-- the end of a procedure is read off a text: if what is left continues behind one procedure more, the text continues so
pub record BeginsEnd (text rest : List ℕ) : Type 0 where
  pub goes_on : (so_far : List Proc) (name : List ℕ) (ls : List p.Local) (done : List s.BStmt) (all : List Proc) →
      IsTail (so_far ++ record { name = name; locals = ls; body = s.stmts done } ∷ []) rest all → IsBodyTail so_far name ls done text all
  pub shorter : length rest < length text

-- what is found next in a text after procedures of these names
abbrev pub FindsOutside : List (List ℕ) → List ℕ → Outside → Type 0
FindsOutside taken text outside.End = (so_far : List Proc) → IsTail so_far text so_far
FindsOutside taken text (outside.Procedure name rest) = BeginsProcedure taken text name rest.now
FindsOutside taken text outside.Unread = Unit {0}

-- what is found next in a text inside of a procedure with locals of these names
abbrev pub FindsInside : List (List ℕ) → List ℕ → NextInside → Type 0
FindsInside names text (inside.Statement a rest) = BeginsStatement names text (stmt_of a) rest.now
FindsInside names text (inside.End rest) = BeginsEnd text rest.now
FindsInside names text inside.Unread = Unit {0}

-- name "(" ")" "{", after "procedure"
abbrev pub heading : List (List ℕ) → Rule v.name
heading taken = need (a_new_name taken) (λ x. after_sign sign.OpenParen (after_sign sign.CloseParen (after_sign sign.OpenBrace (give x))))

-- name ":" btype ";", after "var"
abbrev pub declaring : List (List ℕ) → Rule v.locals
declaring names = need (a_new_name names) (λ x. after_sign sign.Colon (read g.TypeOf (λ u. after_sign sign.Semicolon (give (record { name = x; ty = u } ∷ [])))))

-- the tokens are the head of a procedure of this name, which is none of these
pub record SpellsHead (taken : List (List ℕ)) (tokens : List PlacedLexeme) (name : List ℕ) : Type 0 where
  pub after : List PlacedLexeme
  pub begins : Starts boogie (the_word w.Procedure) tokens tt after
  pub spells : Derives rules _ (heading taken) after name
  pub new : is_among name taken ≡ false

-- the tokens declare a local, whose name is none of these
pub record SpellsLocal (names : List (List ℕ)) (tokens : List PlacedLexeme) (l : p.Local) : Type 0 where
  pub after : List PlacedLexeme
  pub begins : Starts boogie (the_word w.Var) tokens tt after
  pub spells : Derives rules _ (declaring names) after (l ∷ [])
  pub new : is_among l.name names ≡ false

-- the tokens are a statement in which locals of these names may be used
abbrev pub SpellsStatement : List (List ℕ) → List PlacedLexeme → s.BStmt → Type 0
SpellsStatement names tokens a = Derives rules v.stmt (rule (g.Statement names)) tokens a

-- a local as the list of it alone
abbrev pub one_local : Local → List p.Local
one_local l = local_of l ∷ []
