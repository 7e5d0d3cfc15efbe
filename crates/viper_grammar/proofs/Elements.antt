-- Each test has a token that passes it, in one way, and each symbol spells something.
use Rattle.std.proofs.Common.{◌≡◌, refl, ℕ, zero, suc, pos, Bool, true, List, [], IsTrue, arith}
use Rattle.vb_base.specs.declared.places.Pos.{Pos}
use Rattle.viper_syntax.specs.declared.tokens.Token.{Token}
use Rattle.viper_syntax.specs.declared.tokens.Tok.TheVariants as tok
use Rattle.viper_syntax.specs.declared.tokens.Word.{Word}
use Rattle.viper_syntax.specs.declared.tokens.Word.TheVariants as word
use Rattle.viper_grammar.specs.declared.parts.WordClass.{WordClass}
use Rattle.viper_grammar.specs.declared.parts.WordClass.TheVariants as class
use Rattle.viper_syntax.specs.declared.tokens.Sign.TheVariants as sign
use Rattle.viper_syntax.specs.declared.stmts.Named.{Named}
use Rattle.viper_syntax.specs.Decl as d
use Rattle.viper_grammar.specs.Tests as v
use Rattle.viper_grammar.specs.Tests.{Kind, Value, WrittenTerm, Test, this, a_name, a_number, one_of, a_negation, an_operator, belongs, Passes}
use Rattle.viper_grammar.specs.Grammar as g
use Rattle.viper_grammar.specs.Grammar.{Symbol, Rule, give, need, when, read, rule, viper, rules}
use Rattle.grammar.proofs.Laws as grammar
use Rattle.grammar.proofs.Laws.{Example, el_give, el_other, el_read}

some_place : Pos
some_place = record { line = 1; col = 1; line_in_range = (omega arith, omega arith); col_in_range = (omega arith, omega arith) }

a_word : (c : WordClass) (w : Word) → IsTrue (belongs c w) → Example viper (one_of c)
a_word c w h = record { token = record { tok = tok.Word w; pos = some_place }; value = (w, some_place); passes = (refl, refl, h) }

word_of : (c : WordClass) → Example viper (one_of c)
word_of class.Type = a_word class.Type word.Int refl
word_of class.Constant = a_word class.Constant word.Null refl
word_of class.Check = a_word class.Check word.Assert refl
word_of class.Clause = a_word class.Clause word.Ensures refl

example : {r : Kind} (c : Test true r) → Example viper c
example (this x) = record { token = record { tok = x; pos = some_place }; value = some_place; passes = (refl, refl) }
example a_name = record { token = record { tok = tok.Name []; pos = some_place }; value = record { name = []; pos = some_place }; passes = (refl, refl) }
example a_number = record { token = record { tok = tok.Number (pos 0); pos = some_place }; value = (pos 0, some_place); passes = (refl, refl) }
example (one_of c) = word_of c
example a_negation = record { token = record { tok = tok.Sign sign.Not; pos = some_place }; value = (sign.Not, some_place); passes = (refl, refl, refl) }

-- a rule spells something
abbrev Element : {s : Kind} → Rule s → Type 0
Element a = grammar.Element rules a

el_need : {r s : Kind} {c : Test true r} {go : Value r → Rule s} → ((v : Value r) → Element (go v)) → Element (need c go)
el_need {c = c} f = grammar.el_need (example c) f

el_taken : {r s : Kind} {c : Test true r} {go : Value r → Rule s} {other : Rule s} → ((v : Value r) → Element (go v)) → Element (when c go other)
el_taken {c = c} f = let k = example c in grammar.el_taken k.token k.value k.passes (f k.value)

el_unless : (p : WrittenTerm) {further : Rule v.part} → Element further → Element (g.unless_open p further)
el_unless p e = grammar.el_cond (g.is_open p.shape) el_give e

-- terms: a name is one
el_first : Element (rule g.First)
el_first = el_taken (λ x. el_other el_give)

el_fields : (p : WrittenTerm) → Element (rule (g.Fields p))
el_fields p = el_other el_give

el_unary : Element (rule g.Unary)
el_unary = el_other (el_other (el_read el_first (λ p. el_read (el_fields p) (λ q. el_give))))

el_chain : (n : ℕ) (p : WrittenTerm) → Element (rule (g.Chain n p))
el_chain n p = el_unless p (el_other el_give)

el_level : (n : ℕ) → Element (rule (g.Level n))
el_level zero = el_read el_unary (λ p. el_give)
el_level (suc n) = el_read (el_level n) (λ p. el_read (el_chain (suc n) p) (λ q. el_give))

el_choice : (p : WrittenTerm) → Element (g.choice p)
el_choice p = el_unless p (el_other el_give)

el_term : Element (rule g.Term)
el_term = el_read (el_level 8) el_choice

-- calls and lists
el_arguments : Element (rule g.Arguments)
el_arguments = el_taken (λ _. el_give)

el_call : Element (rule g.CallOf)
el_call = el_need (λ x. el_need (λ _. el_read el_arguments (λ es. el_give)))

el_instance : Element (rule g.InstanceOf)
el_instance = el_other (el_read el_call (λ c. el_give))

el_formals : Element (rule g.Formals)
el_formals = el_taken (λ _. el_give)

el_formal : Element (rule g.FormalOf)
el_formal = el_need (λ x. el_need (λ _. el_need (λ w. el_give)))

el_group : Element (rule g.Group)
el_group = el_need (λ _. el_read el_term (λ p. el_need (λ _. el_give)))

el_block : Element (rule g.Block)
el_block = el_need (λ at. el_read (el_taken (λ _. el_give)) (λ ss. el_give))

el_arm : {at : Pos} → Element (rule (g.Arm at))
el_arm = el_read el_group (λ p. el_read el_block (λ b. el_give))

el_returns : Element (rule g.Returns)
el_returns = el_other el_give

el_clauses : (cs : List d.SClause) → Element (rule (g.Clauses cs))
el_clauses cs = el_other el_give

el_body : Element (rule g.Body)
el_body = el_other el_give

-- each symbol
element_of : {s : Kind} (a : Symbol s) → Element (rule a)
element_of (g.Program ds) = el_other (el_other (el_other el_give))
element_of (g.Predicate at) = el_need (λ x. el_need (λ _. el_read el_formals (λ xs. el_other el_give)))
element_of (g.Method at) =
    el_need (λ x. el_need (λ _. el_read el_formals (λ xs. el_read el_returns (λ ys. el_read (el_clauses []) (λ cs. el_read el_body (λ b. el_give))))))
element_of g.Returns = el_returns
element_of (g.Clauses cs) = el_clauses cs
element_of g.Body = el_body
element_of g.Formals = el_formals
element_of (g.MoreFormals xs) = el_other (el_need (λ _. el_give))
element_of g.FormalOf = el_formal
element_of g.Block = el_block
element_of (g.Statements ss) = el_taken (λ _. el_give)
element_of g.Statement = el_other (el_other (el_taken (λ _. el_read el_instance (λ i. el_give))))
element_of (g.Variable at) = el_read el_formal (λ x. el_other el_give)
element_of (g.AfterName x) = el_taken (λ _. el_read el_arguments (λ es. el_give))
element_of (g.Arm at) = el_arm
element_of (g.Arms bs) = el_other (el_other el_give)
element_of (g.WhileLoop at) = el_read el_group (λ p. el_read (el_other el_give) (λ is. el_read el_block (λ b. el_give)))
element_of (g.Invariants is) = el_other el_give
element_of g.Rhs = el_other (el_read el_term (λ p. el_give))
element_of (g.Creation at) = el_need (λ _. el_taken (λ _. el_give))
element_of (g.Separated o xs) = el_other el_give
element_of g.Semicolons = el_other el_give
element_of g.InstanceOf = el_instance
element_of g.CallOf = el_call
element_of g.Arguments = el_arguments
element_of (g.MoreArguments es) = el_other (el_need (λ _. el_give))
element_of g.Amount = el_other (el_need (λ _. el_give))
element_of g.Group = el_group
element_of g.Term = el_term
element_of (g.Level n) = el_level n
element_of (g.Chain n p) = el_chain n p
element_of g.Unary = el_unary
element_of (g.Fields p) = el_fields p
element_of g.First = el_first

-- a token passes a test in one way
pair_is : {A B : Type 0} (p q : A × B) → p.0 ≡ q.0 → p.1 ≡ q.1 → p ≡ q
pair_is p q e f = λ t. (e t, f t)

named_is : (v w : Named) → v.name ≡ w.name → v.pos ≡ w.pos → v ≡ w
named_is v w e f = λ t. record { name = e t; pos = f t }

one_value : {b : Bool} {r : Kind} (c : Test b r) (k : Token) (v w : Value r) → Passes c k v → Passes c k w → v ≡ w
one_value (this x) k v w p q = cc
one_value a_name k v w p q = named_is v w (cc) (cc)
one_value a_number k v w p q = pair_is v w (cc) (cc)
one_value (one_of c) k v w p q = pair_is v w (cc) (cc)
one_value a_negation k v w p q = pair_is v w (cc) (cc)
one_value (an_operator n) k v w p q = pair_is v w (cc) (cc)

pub laws : grammar.Laws rules
laws = record {
  one_value = λ b r c k v w p q. one_value c k v w p q;
  example = λ r c. example c;
  element_of = λ s a. element_of a;
}
