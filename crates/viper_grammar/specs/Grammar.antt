-- The grammar of Viper. `Symbol` names what can be spelled, and `rule` says how each is, and what tree was spelled. A symbol of a list carries what the list
-- has so far. The notation in front of each rule is that of the Viper tutorial: `[x]` is x or nothing, and `{x}` is x
-- any number of times.
use Rattle.std.specs.Prelude.{ℕ, zero, suc, ◌-◌, Bool, true, false, List, [], ◌∷◌, ◌++◌, Some, None, nat_lt, cond, if◌then◌else◌}
use Rattle.grammar.specs.Rules as grammar
use Rattle.grammar.specs.Rules.{Alphabet, Rules}
pub use Rattle.grammar.specs.Rules.{give, need, when, read}
use Rattle.vb_base.specs.declared.places.Pos.{Pos}
use Rattle.viper_syntax.specs.declared.tokens.Token.{Token}
use Rattle.viper_syntax.specs.declared.tokens.Tok.TheVariants as tok
use Rattle.viper_syntax.specs.declared.tokens.Word.{Word}
use Rattle.viper_syntax.specs.declared.tokens.Word.TheVariants as word
use Rattle.viper_syntax.specs.declared.tokens.Sign.{Sign}
use Rattle.viper_syntax.specs.declared.tokens.Sign.TheVariants as sign
use Rattle.viper_syntax.specs.declared.stmts.Named.{Named}
use Rattle.viper_syntax.specs.declared.stmts.Formal.{Formal}
use Rattle.viper_syntax.specs.Term as t
use Rattle.viper_syntax.specs.Stmt as s
use Rattle.viper_syntax.specs.Decl as d
use Rattle.viper_grammar.specs.declared.parts.Shape.{Shape}
use Rattle.viper_grammar.specs.declared.parts.Shape.TheVariants as shape
use Rattle.viper_grammar.specs.declared.parts.WordClass.TheVariants as class
use Rattle.viper_grammar.specs.Tests as v
use Rattle.viper_grammar.specs.Tests.{WrittenTerm, WrittenInstance, Kind, Value, Test, Passes, this, a_name, a_number, one_of, a_negation, an_operator}

pub data Symbol : Kind → Type 0 where
  Program : List d.Decl → Symbol v.decls
  Predicate : Pos → Symbol v.decl
  Method : Pos → Symbol v.decl
  Returns : Symbol v.formals
  Clauses : List d.SClause → Symbol v.clauses
  Body : Symbol v.body
  Formals : Symbol v.formals
  MoreFormals : List Formal → Symbol v.formals
  FormalOf : Symbol v.formal
  Block : Symbol v.block
  Statements : List s.SStmt → Symbol v.stmts
  Statement : Symbol v.stmt
  Variable : Pos → Symbol v.stmt
  AfterName : Named → Symbol v.stmt
  Arm : Pos → Symbol v.arm
  Arms : List s.SArm → Symbol v.stmt
  WhileLoop : Pos → Symbol v.stmt
  Invariants : List t.Term → Symbol v.arguments
  Rhs : Symbol v.rhs
  Creation : Pos → Symbol v.rhs
  Separated : Sign → List Named → Symbol v.names
  Semicolons : Symbol v.nothing
  InstanceOf : Symbol v.instance
  CallOf : Symbol v.call
  Arguments : Symbol v.arguments
  MoreArguments : List t.Term → Symbol v.arguments
  Amount : Symbol v.amount
  Group : Symbol v.part
  Term : Symbol v.part
  Level : ℕ → Symbol v.part
  Chain : ℕ → WrittenTerm → Symbol v.part
  Unary : Symbol v.part
  Fields : WrittenTerm → Symbol v.part
  First : Symbol v.part

-- what the grammar is made of
abbrev pub viper : Alphabet
viper = record {
  Token = Token;
  Kind = Kind;
  Value = Value;
  Test = Test;
  Passes = λ b r c k v. Passes c k v;
  Symbol = Symbol;
}

abbrev pub Rule : Kind → Type 0
Rule s = grammar.Rule viper s

-- a list of tokens begins with one that passes, of which this is taken, and these follow it
abbrev pub Starts : {b : Bool} {r : Kind} → Test b r → List Token → Value r → List Token → Type 0
Starts c ts v us = grammar.Starts viper c ts v us

-- a word and a sign as tokens
abbrev pub the_word : Word → Test true v.place
the_word w = this (tok.Word w)

abbrev pub the_sign : Sign → Test true v.place
the_sign o = this (tok.Sign o)

-- operators of the levels 1 and 2 group to the left, those from 4 to 8 to the right, and those of level 3 do not
-- group: the level of the right side, and whether one more operator may follow it
abbrev pub right_level : ℕ → ℕ
right_level n = if nat_lt n 4 then n - 1 else n

abbrev pub repeats : ℕ → Bool
repeats n = nat_lt n 3

-- a term that is no call
abbrev pub plain : t.Term → WrittenTerm
plain a = record { shape = shape.Plain; tree = a }

-- what is wholly a call is, as a term, an instance of a predicate
abbrev pub called : Named → List t.Term → WrittenTerm
called x es = record { shape = shape.Call; tree = t.Inst x.name (t.terms es) x.pos }

-- the shape of a term that ends with a part of this shape
abbrev pub ending : Shape → Shape
ending shape.Call = shape.Plain
ending shape.Open = shape.Open
ending shape.Plain = shape.Plain

-- no operator follows a term that ends with an `unfolding`
abbrev pub is_open : Shape → Bool
is_open shape.Call = false
is_open shape.Open = true
is_open shape.Plain = false

abbrev pub unless_open : WrittenTerm → Rule v.part → Rule v.part
unless_open p further = cond (is_open p.shape) (give p) further

abbrev pub chosen : WrittenTerm → WrittenTerm → WrittenTerm → Pos → WrittenTerm
chosen p q r at = record { shape = ending r.shape; tree = t.Choose p.tree q.tree r.tree at }

abbrev pub applied : v.Value v.a_sign → WrittenTerm → WrittenTerm
applied o p = record { shape = ending p.shape; tree = t.Unary o.0 p.tree o.1 }

abbrev pub unfolded : WrittenInstance → WrittenTerm → Pos → WrittenTerm
unfolded i p at = record { shape = shape.Open; tree = t.Unfolding i.call.name.name (t.terms i.call.args) i.amount p.tree at i.call.name.pos }

-- a right side that is wholly a call is a call of a method
abbrev pub listed : t.Terms → List t.Term
listed t.none = []
listed (t.more a rest) = a ∷ listed rest

abbrev pub rhs_from : Shape → t.Term → s.SRhs
rhs_from shape.Call (t.Inst x es at) = s.CallRhs (record { name = record { name = x; pos = at }; args = listed es })
rhs_from _ a = s.TermRhs a

abbrev pub rhs_of : WrittenTerm → s.SRhs
rhs_of p = rhs_from p.shape p.tree

abbrev pub binary : WrittenTerm → v.Value v.a_sign → WrittenTerm → WrittenTerm
binary p o q = record { shape = ending q.shape; tree = t.Binary o.0 p.tree q.tree o.1 }

-- [ "?" term ":" term ], after a term
abbrev pub choice : WrittenTerm → Rule v.part
choice p =
    unless_open p
    (when (the_sign sign.Question) (λ at. read Term (λ q. need (the_sign sign.Colon) (λ _. read Term (λ r.
    give (chosen p q r at)))))
    (give p))

-- [ "(" [ term { "," term } ] ")" ], after a name
abbrev pub name_or_call : Named → Rule v.part
name_or_call x =
    when (the_sign sign.OpenParen) (λ _. read Arguments (λ es. give (called x es)))
    (give (plain (t.Name x.name x.pos)))

-- "(" term [ "," term ] ")", after "acc"
abbrev pub access : Pos → Rule v.part
access at = need (the_sign sign.OpenParen) (λ _. read Term (λ p. read Amount (λ m. give (plain (t.Acc p.tree m at)))))

-- ( call | "acc" "(" call [ "," term ] ")" ) "in" term, after "unfolding"
abbrev pub opening : Pos → Rule v.part
opening at = read InstanceOf (λ i. need (the_word word.In) (λ _. read Term (λ p. give (unfolded i p at))))

-- "(" term ")" block { "elseif" "(" term ")" block } [ "else" block ], after "if"
abbrev pub branches : Pos → Rule v.stmt
branches at = read (Arm at) (λ a. read (Arms (a ∷ [])) give)

-- name { "," name } ":=" call, after a name and ","
abbrev pub targets : Named → Rule v.stmt
targets x = need a_name (λ y. read (Separated sign.Comma (x ∷ y ∷ [])) (λ xs. need (the_sign sign.Assign) (λ _.
    read CallOf (λ c. give (s.CallTo xs c)))))

-- name { "," name } ")", after "new" "("
abbrev pub new_fields : Pos → Rule v.rhs
new_fields at = need a_name (λ x. read (Separated sign.Comma (x ∷ [])) (λ xs. need (the_sign sign.CloseParen) (λ _.
    give (s.NewRhs (record { at = at; every = false; fields = xs })))))

abbrev pub rule : {s : Kind} → Symbol s → Rule s
-- program = { "field" name ":" type {";"} | predicate | method }
rule (Program ds) =
    when (the_word word.Field) (λ at. read FormalOf (λ x. read Semicolons (λ _. read (Program (ds ++ (d.Field x ∷ []))) give)))
    (when (the_word word.Predicate) (λ at. read (Predicate at) (λ p. read (Program (ds ++ (p ∷ []))) give))
    (when (the_word word.Method) (λ at. read (Method at) (λ m. read (Program (ds ++ (m ∷ []))) give))
    (give ds)))
-- predicate = "predicate" name "(" [formals] ")" [ "{" term "}" ]
rule (Predicate at) =
    need a_name (λ x. need (the_sign sign.OpenParen) (λ _. read Formals (λ xs.
    when (the_sign sign.OpenBrace) (λ _. read Term (λ p. need (the_sign sign.CloseBrace) (λ _.
    give (d.Predicate at x xs (Some p.tree)))))
    (give (d.Predicate at x xs None)))))
-- method = "method" name "(" [formals] ")" [ "returns" "(" [formals] ")" ] { clause {";"} } [ block ]
rule (Method at) =
    need a_name (λ x. need (the_sign sign.OpenParen) (λ _. read Formals (λ xs. read Returns (λ ys.
    read (Clauses []) (λ cs. read Body (λ b.
    give (d.Method (record { at = at; name = x; params = xs; returns = ys; clauses = cs; body = b }))))))))
rule Returns =
    when (the_word word.Returns) (λ _. need (the_sign sign.OpenParen) (λ _. read Formals give))
    (give [])
rule (Clauses cs) =
    when (one_of class.Clause) (λ w. read Term (λ p. read Semicolons (λ _.
    read (Clauses (cs ++ (record { word = w.0; term = p.tree } ∷ []))) give)))
    (give cs)
rule Body =
    when (the_sign sign.OpenBrace) (λ at. read (Statements []) (λ ss. give (Some (s.block at (s.stmts ss)))))
    (give None)
-- [formals] ")", where formals = name ":" type { "," name ":" type }
rule Formals =
    when (the_sign sign.CloseParen) (λ _. give [])
    (read FormalOf (λ x. read (MoreFormals (x ∷ [])) give))
rule (MoreFormals xs) =
    when (the_sign sign.Comma) (λ _. read FormalOf (λ x. read (MoreFormals (xs ++ (x ∷ []))) give))
    (need (the_sign sign.CloseParen) (λ _. give xs))
rule FormalOf =
    need a_name (λ x. need (the_sign sign.Colon) (λ _. need (one_of class.Type) (λ w. give (record { name = x; ty = w.0 }))))
-- block = "{" { statement {";"} } "}"
rule Block = need (the_sign sign.OpenBrace) (λ at. read (Statements []) (λ ss. give (s.block at (s.stmts ss))))
rule (Statements ss) =
    when (the_sign sign.CloseBrace) (λ _. give ss)
    (read Statement (λ a. read Semicolons (λ _. read (Statements (ss ++ (a ∷ []))) give)))
rule Statement =
    when (the_word word.Var) (λ at. read (Variable at) give)
    (when (one_of class.Check) (λ w. read Term (λ p. give (s.Check w.0 w.1 p.tree)))
    (when (the_word word.Fold) (λ at. read InstanceOf (λ i. give (s.Fold (record { at = at; call = i.call; amount = i.amount }))))
    (when (the_word word.Unfold) (λ at. read InstanceOf (λ i. give (s.Unfold (record { at = at; call = i.call; amount = i.amount }))))
    (when (the_word word.If) branches
    (when (the_word word.While) (λ at. read (WhileLoop at) give)
    (need a_name (λ x. read (AfterName x) give)))))))
-- "var" name ":" type [ ":=" rhs ]
rule (Variable at) =
    read FormalOf (λ x.
    when (the_sign sign.Assign) (λ _. read Rhs (λ r. give (s.Var at x (Some r))))
    (give (s.Var at x None)))
-- call | name "," name { "," name } ":=" call | name { "." name } ":=" rhs
rule (AfterName x) =
    when (the_sign sign.OpenParen) (λ _. read Arguments (λ es. give (s.Call (record { name = x; args = es }))))
    (when (the_sign sign.Comma) (λ _. targets x)
    (read (Separated sign.Dot (x ∷ [])) (λ xs. need (the_sign sign.Assign) (λ _. read Rhs (λ r. give (s.Assign xs r))))))
-- "if" "(" term ")" block { "elseif" "(" term ")" block } [ "else" block ]
rule (Arm at) =
    read Group (λ p. read Block (λ b. give (s.arm at p.tree b)))
rule (Arms bs) =
    when (the_word word.Elseif) (λ at. read (Arm at) (λ a. read (Arms (bs ++ (a ∷ []))) give))
    (when (the_word word.Else) (λ _. read Block (λ b. give (s.If (s.arms bs) (s.else_block b))))
    (give (s.If (s.arms bs) s.no_else)))
-- "while" "(" term ")" { "invariant" term {";"} } block
rule (WhileLoop at) =
    read Group (λ p. read (Invariants []) (λ is. read Block (λ b. give (s.While at p.tree is b))))
rule (Invariants is) =
    when (the_word word.Invariant) (λ _. read Term (λ p. read Semicolons (λ _. read (Invariants (is ++ (p.tree ∷ []))) give)))
    (give is)
-- rhs = call | "new" "(" [ "*" | name { "," name } ] ")" | term
rule Rhs =
    when (the_word word.New) (λ at. read (Creation at) give)
    (read Term (λ p. give (rhs_of p)))
rule (Creation at) =
    need (the_sign sign.OpenParen) (λ _.
    when (the_sign sign.CloseParen) (λ _. give (s.NewRhs (record { at = at; every = false; fields = [] })))
    (when (the_sign sign.Star) (λ _. need (the_sign sign.CloseParen) (λ _.
    give (s.NewRhs (record { at = at; every = true; fields = [] }))))
    (new_fields at)))
rule (Separated o xs) =
    when (the_sign o) (λ _. need a_name (λ x. read (Separated o (xs ++ (x ∷ []))) give))
    (give xs)
rule Semicolons =
    when (the_sign sign.Semicolon) (λ _. read Semicolons give)
    (give tt)
-- call | "acc" "(" call [ "," term ] ")"
rule InstanceOf =
    when (the_word word.Acc) (λ _. need (the_sign sign.OpenParen) (λ _. read CallOf (λ c. read Amount (λ m.
    give (record { call = c; amount = m })))))
    (read CallOf (λ c. give (record { call = c; amount = t.omitted })))
-- call = name "(" [ term { "," term } ] ")"
rule CallOf =
    need a_name (λ x. need (the_sign sign.OpenParen) (λ _. read Arguments (λ es. give (record { name = x; args = es }))))
rule Arguments =
    when (the_sign sign.CloseParen) (λ _. give [])
    (read Term (λ p. read (MoreArguments (p.tree ∷ [])) give))
rule (MoreArguments es) =
    when (the_sign sign.Comma) (λ _. read Term (λ p. read (MoreArguments (es ++ (p.tree ∷ []))) give))
    (need (the_sign sign.CloseParen) (λ _. give es))
-- "(" term ")"
rule Group = need (the_sign sign.OpenParen) (λ _. read Term (λ p. need (the_sign sign.CloseParen) (λ _. give p)))
-- [ "," term ] ")"
rule Amount =
    when (the_sign sign.Comma) (λ _. read Term (λ p. need (the_sign sign.CloseParen) (λ _. give (t.given p.tree))))
    (need (the_sign sign.CloseParen) (λ _. give t.omitted))
-- term = level 8 [ "?" term ":" term ]
rule Term = read (Level 8) choice
-- level 0 = unary; levels 1 and 2 are { operator } to the left, 3 takes one operator, 4 to 8 group to the right
rule (Level zero) = read Unary give
rule (Level (suc n)) = read (Level n) (λ p. read (Chain (suc n) p) give)
rule (Chain n p) =
    unless_open p
    (when (an_operator n) (λ o. read (Level (right_level n)) (λ q.
    if repeats n then read (Chain n (binary p o q)) give else give (binary p o q)))
    (give p))
-- unary = ("!" | "-") unary | "unfolding" ( call | "acc" "(" call [ "," term ] ")" ) "in" term | first { "." name }
rule Unary =
    when a_negation (λ o. read Unary (λ p. give (applied o p)))
    (when (the_word word.Unfolding) opening
    (read First (λ p. read (Fields p) give)))
rule (Fields p) =
    when (the_sign sign.Dot) (λ _. need a_name (λ f. read (Fields (plain (t.Field p.tree f.name f.pos))) give))
    (give p)
rule First =
    when a_name name_or_call
    (when a_number (λ n. give (plain (t.Number n.0 n.1)))
    (when (one_of class.Constant) (λ w. give (plain (t.Constant w.0 w.1)))
    (when (the_word word.Old) (λ at. read Group (λ p. give (plain (t.Old p.tree at))))
    (when (the_word word.Acc) access
    (read Group (λ p. give (plain p.tree)))))))

abbrev pub rules : Rules viper
rules = λ s a. rule a
