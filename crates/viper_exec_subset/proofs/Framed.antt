-- Source trees without `wildcard`, `inhale` and `assume`.
use Rattle.std.specs.Prelude.{◌≡◌, ⊤, false, List, [], ◌∷◌, IfSome}
use Rattle.std.specs.List.{AllByRecursion}
use Rattle.viper_syntax.specs.declared.tokens.Token.{Token}
use Rattle.viper_syntax.specs.declared.tokens.Tok.TheVariants as k
use Rattle.viper_syntax.specs.declared.tokens.Word.{Word}
use Rattle.viper_syntax.specs.Term as t
use Rattle.viper_syntax.specs.Stmt as s
use Rattle.viper_syntax.specs.Decl as d
use Rattle.viper_exec_subset.specs.Unframed.{is_unframed}

-- a word that is none of them
abbrev pub IsFramedWord : Word → Type 0
IsFramedWord w = is_unframed (k.Word w) ≡ false

abbrev pub IsFramedToken : Token → Type 0
IsFramedToken token = is_unframed token.tok ≡ false

abbrev mutual
  pub IsFramedTerm : t.Term → Type 0
  IsFramedTerm (t.Name x at) = ⊤
  IsFramedTerm (t.Number n at) = ⊤
  IsFramedTerm (t.Constant w at) = IsFramedWord w
  IsFramedTerm (t.Unary o a at) = IsFramedTerm a
  IsFramedTerm (t.Binary o a b at) = IsFramedTerm a × IsFramedTerm b
  IsFramedTerm (t.Choose a b c at) = IsFramedTerm a × IsFramedTerm b × IsFramedTerm c
  IsFramedTerm (t.Field a f at) = IsFramedTerm a
  IsFramedTerm (t.Old a at) = IsFramedTerm a
  IsFramedTerm (t.Acc a m at) = IsFramedTerm a × IsFramedAmount m
  IsFramedTerm (t.Inst x es at) = AreFramedTerms es
  IsFramedTerm (t.Unfolding x es m a at name_at) = AreFramedTerms es × IsFramedAmount m × IsFramedTerm a

  pub IsFramedAmount : t.Amount → Type 0
  IsFramedAmount t.omitted = ⊤
  IsFramedAmount (t.given a) = IsFramedTerm a

  pub AreFramedTerms : t.Terms → Type 0
  AreFramedTerms t.none = ⊤
  AreFramedTerms (t.more a rest) = IsFramedTerm a × AreFramedTerms rest

-- of statements what a typed statement keeps: checks and invariants
abbrev mutual
  pub IsFramedSource : s.SStmt → Type 0
  IsFramedSource (s.Var at x init) = ⊤
  IsFramedSource (s.Assign xs e) = ⊤
  IsFramedSource (s.CallTo xs c) = ⊤
  IsFramedSource (s.Call c) = ⊤
  IsFramedSource (s.Check w at a) = IsFramedWord w × IsFramedTerm a
  IsFramedSource (s.Fold f) = ⊤
  IsFramedSource (s.Unfold f) = ⊤
  IsFramedSource (s.If bs other) = AreFramedArms bs × IsFramedElse other
  IsFramedSource (s.While at a is b) = AllByRecursion IsFramedTerm is × IsFramedBlock b

  pub IsFramedBlock : s.SBlock → Type 0
  IsFramedBlock (s.block at ss) = AreFramedSources ss

  pub IsFramedArm : s.SArm → Type 0
  IsFramedArm (s.arm at a b) = IsFramedBlock b

  pub IsFramedElse : s.SElse → Type 0
  IsFramedElse s.no_else = ⊤
  IsFramedElse (s.else_block b) = IsFramedBlock b

  pub AreFramedSources : s.SStmts → Type 0
  AreFramedSources s.no_stmts = ⊤
  AreFramedSources (s.more_stmts a rest) = IsFramedSource a × AreFramedSources rest

  pub AreFramedArms : s.SArms → Type 0
  AreFramedArms s.no_arms = ⊤
  AreFramedArms (s.more_arms a rest) = IsFramedArm a × AreFramedArms rest

abbrev pub IsFramedClause : d.SClause → Type 0
IsFramedClause c = IsFramedTerm c.term

-- of declarations what the methods of a typed program keep
abbrev pub IsFramedDecl : d.Decl → Type 0
IsFramedDecl (d.Field x) = ⊤
IsFramedDecl (d.Predicate at x params body) = ⊤
IsFramedDecl (d.Method m) = AllByRecursion IsFramedClause m.clauses × IfSome m.body IsFramedBlock

-- lists as they stand in trees

pub framed_terms : (es : List t.Term) → AllByRecursion IsFramedTerm es → AreFramedTerms (t.terms es)
framed_terms [] h = tt
framed_terms (a ∷ rest) h = (h.0, framed_terms rest h.1)

pub framed_stmts : (ss : List s.SStmt) → AllByRecursion IsFramedSource ss → AreFramedSources (s.stmts ss)
framed_stmts [] h = tt
framed_stmts (a ∷ rest) h = (h.0, framed_stmts rest h.1)

pub framed_arms : (bs : List s.SArm) → AllByRecursion IsFramedArm bs → AreFramedArms (s.arms bs)
framed_arms [] h = tt
framed_arms (a ∷ rest) h = (h.0, framed_arms rest h.1)
