-- The words of a source tree are those of its tokens: where no token is `wildcard`, `inhale` or `assume`, nothing in the tree is.
use Rattle.std.specs.Prelude.{◌≡◌, ⊤, zero, suc, Bool, true, false, cond, Option, Some, None, List, [], ◌∷◌, if◌then◌else◌, IfSome}
use Rattle.std.proofs.Common.{refl, subst}
use Rattle.std.specs.List.{AllByRecursion}
use Rattle.vb_base.specs.declared.places.Pos.{Pos}
use Rattle.viper_syntax.specs.declared.tokens.Token.{Token}
use Rattle.viper_syntax.specs.declared.tokens.Tok.{Tok}
use Rattle.viper_syntax.specs.Decl as d
use Rattle.viper_grammar.specs.Tests as v
use Rattle.viper_grammar.specs.Tests.{Kind, Value, Test, this, a_name, a_number, one_of, a_negation, an_operator, Passes}
use Rattle.viper_grammar.specs.Grammar as g
use Rattle.viper_grammar.specs.Grammar.{Symbol, Rule, rule, viper, rules}
use Rattle.viper_grammar.specs.Spells.{Spells}
use Rattle.viper_exec_subset.specs.Unframed.{is_unframed, first_unframed}
use Rattle.grammar.proofs.Each.{each_more}
use Rattle.grammar.proofs.Made as made
use Rattle.grammar.proofs.Made.{mg, mn, mw, mr, makes_cond, holds}
use Rattle.viper_exec_subset.proofs.Framed.{IsFramedWord, IsFramedToken, IsFramedTerm, IsFramedAmount, IsFramedSource, IsFramedBlock, IsFramedArm, IsFramedClause, IsFramedDecl, framed_terms, framed_stmts, framed_arms}

-- what is built, and what a symbol has so far, has none of the words

abbrev Holds : (s : Kind) → Value s → Type 0
Holds v.a_word w = IsFramedWord w.0
Holds v.part p = IsFramedTerm p.tree
Holds v.arguments es = AllByRecursion IsFramedTerm es
Holds v.amount m = IsFramedAmount m
Holds v.call c = AllByRecursion IsFramedTerm c.args
Holds v.instance i = AllByRecursion IsFramedTerm i.call.args × IsFramedAmount i.amount
Holds v.stmt a = IsFramedSource a
Holds v.stmts ss = AllByRecursion IsFramedSource ss
Holds v.block b = IsFramedBlock b
Holds v.arm b = IsFramedArm b
Holds v.clauses cs = AllByRecursion IsFramedClause cs
Holds v.body b = IfSome b IsFramedBlock
Holds v.decl x = IsFramedDecl x
Holds v.decls ds = AllByRecursion IsFramedDecl ds
Holds _ x = ⊤

abbrev Held : {s : Kind} → Symbol s → Type 0
Held (g.Program ds) = AllByRecursion IsFramedDecl ds
Held (g.Clauses cs) = AllByRecursion IsFramedClause cs
Held (g.Statements ss) = AllByRecursion IsFramedSource ss
Held (g.Arms bs) = AllByRecursion IsFramedArm bs
Held (g.Invariants is) = AllByRecursion IsFramedTerm is
Held (g.Chain n p) = IsFramedTerm p.tree
Held (g.Fields p) = IsFramedTerm p.tree
Held (g.MoreArguments es) = AllByRecursion IsFramedTerm es
Held _ = ⊤

-- a rule that gives only such values, where it takes only such values
abbrev Makes : (s : Kind) → Rule s → Type 0
Makes s a = made.Makes {A = viper} Holds (λ r b. Held b) s a

makes : {s : Kind} (a : Symbol s) → Held a → Makes s (rule a)
makes (g.Program ds) h =
    mw (λ at _. mr tt (λ x i. mr tt (λ _ _. mr (each_more IsFramedDecl ds (d.Field x) h tt) (λ z l. mg l))))
    (mw (λ at _. mr tt (λ x i. mr (each_more IsFramedDecl ds x h i) (λ z l. mg l)))
    (mw (λ at _. mr tt (λ x i. mr (each_more IsFramedDecl ds x h i) (λ z l. mg l)))
    (mg h)))
makes (g.Predicate at) h = mn (λ x _. mn (λ _ _. mr tt (λ xs _. mw (λ _ _. mr tt (λ p _. mn (λ _ _. mg tt))) (mg tt))))
makes (g.Method at) h = mn (λ x _. mn (λ _ _. mr tt (λ xs _. mr tt (λ ys _. mr tt (λ cs l. mr tt (λ b m. mg (l, m)))))))
makes g.Returns h = mw (λ _ _. mn (λ _ _. mr tt (λ z i. mg tt))) (mg tt)
makes (g.Clauses cs) h =
    mw (λ w _. mr tt (λ p i. mr tt (λ _ _. mr (each_more IsFramedClause cs (record { word = w.0; term = p.tree }) h i) (λ z l. mg l))))
    (mg h)
makes g.Body h = mw (λ at _. mr tt (λ ss i. mg (framed_stmts ss i))) (mg tt)
makes g.Formals h = mw (λ _ _. mg tt) (mr tt (λ x _. mr tt (λ z _. mg tt)))
makes (g.MoreFormals xs) h = mw (λ _ _. mr tt (λ x _. mr tt (λ z _. mg tt))) (mn (λ _ _. mg tt))
makes g.FormalOf h = mn (λ x _. mn (λ _ _. mn (λ w _. mg tt)))
makes g.Block h = mn (λ at _. mr tt (λ ss i. mg (framed_stmts ss i)))
makes (g.Statements ss) h = mw (λ _ _. mg h) (mr tt (λ a i. mr tt (λ _ _. mr (each_more IsFramedSource ss a h i) (λ z l. mg l))))
makes g.Statement h =
    mw (λ at _. mr tt (λ z i. mg i)) (mw (λ w n. mr tt (λ p i. mg (n, i)))
    (mw (λ at _. mr tt (λ x _. mg tt)) (mw (λ at _. mr tt (λ x _. mg tt))
    (mw (λ at _. mr tt (λ a i. mr (i, tt) (λ z j. mg j))) (mw (λ at _. mr tt (λ z i. mg i)) (mn (λ x _. mr tt (λ z i. mg i))))))))
makes (g.Variable at) h = mr tt (λ x _. mw (λ _ _. mr tt (λ r _. mg tt)) (mg tt))
makes (g.AfterName x) h =
    mw (λ _ _. mr tt (λ es _. mg tt))
    (mw (λ _ _. mn (λ y _. mr tt (λ xs _. mn (λ _ _. mr tt (λ z _. mg tt)))))
    (mr tt (λ xs _. mn (λ _ _. mr tt (λ r _. mg tt)))))
makes (g.Arm at) h = mr tt (λ p _. mr tt (λ b j. mg j))
makes (g.Arms bs) h =
    mw (λ at _. mr tt (λ a i. mr (each_more IsFramedArm bs a h i) (λ z j. mg j)))
    (mw (λ _ _. mr tt (λ b i. mg (framed_arms bs h, i)))
    (mg (framed_arms bs h, tt)))
makes (g.WhileLoop at) h = mr tt (λ p _. mr tt (λ is j. mr tt (λ b l. mg (j, l))))
makes (g.Invariants is) h = mw (λ _ _. mr tt (λ p i. mr tt (λ _ _. mr (each_more IsFramedTerm is p.tree h i) (λ z l. mg l)))) (mg h)
makes g.Rhs h = mw (λ at _. mr tt (λ z _. mg tt)) (mr tt (λ p _. mg tt))
makes (g.Creation at) h = mn (λ _ _. mw (λ _ _. mg tt) (mw (λ _ _. mn (λ _ _. mg tt)) (mn (λ x _. mr tt (λ xs _. mn (λ _ _. mg tt))))))
makes (g.Separated o xs) h = mw (λ _ _. mn (λ x _. mr tt (λ z _. mg tt))) (mg tt)
makes g.Semicolons h = mw (λ _ _. mr tt (λ z _. mg tt)) (mg tt)
makes g.InstanceOf h = mw (λ _ _. mn (λ _ _. mr tt (λ c i. mr tt (λ m j. mg (i, j))))) (mr tt (λ c i. mg (i, tt)))
makes g.CallOf h = mn (λ x _. mn (λ _ _. mr tt (λ es i. mg i)))
makes g.Arguments h = mw (λ _ _. mg tt) (mr tt (λ p i. mr (i, tt) (λ es j. mg j)))
makes (g.MoreArguments es) h = mw (λ _ _. mr tt (λ p i. mr (each_more IsFramedTerm es p.tree h i) (λ all j. mg j))) (mn (λ _ _. mg h))
makes g.Group h = mn (λ _ _. mr tt (λ p i. mn (λ _ _. mg i)))
makes g.Amount h = mw (λ _ _. mr tt (λ p i. mn (λ _ _. mg i))) (mn (λ _ _. mg tt))
makes g.Term h =
    mr tt (λ p i. makes_cond (g.is_open p.shape) (mg i)
    (mw (λ at _. mr tt (λ q j. mn (λ _ _. mr tt (λ r l. mg (i, j, l))))) (mg i)))
makes (g.Level zero) h = mr tt (λ p i. mg i)
makes (g.Level (suc n)) h = mr tt (λ p i. mr i (λ q j. mg j))
makes (g.Chain n p) h =
    makes_cond (g.is_open p.shape) (mg h)
    (mw (λ o _. mr tt (λ q i. makes_cond (g.repeats n) (mr (h, i) (λ r j. mg j)) (mg (h, i)))) (mg h))
makes g.Unary h =
    mw (λ o _. mr tt (λ p i. mg i))
    (mw (λ at _. mr tt (λ i j. mn (λ _ _. mr tt (λ p l. mg (framed_terms i.call.args j.0, j.1, l)))))
    (mr tt (λ p i. mr i (λ q j. mg j))))
makes (g.Fields p) h = mw (λ _ _. mn (λ f _. mr h (λ q i. mg i))) (mg h)
makes g.First h =
    mw (λ x _. mw (λ _ _. mr tt (λ es i. mg (framed_terms es i))) (mg tt))
    (mw (λ n _. mg tt)
    (mw (λ w i. mg i)
    (mw (λ at _. mr tt (λ p i. mg i))
    (mw (λ at _. mn (λ _ _. mr tt (λ p i. mr tt (λ m j. mg (i, j)))))
    (mr tt (λ p i. mg i))))))

-- what is taken from a token
token_holds : {b : Bool} {r : Kind} (c : Test b r) (token : Token) (x : Value r) → Passes c token x → IsFramedToken token → Holds r x
token_holds (this y) token x q h = tt
token_holds a_name token x q h = tt
token_holds a_number token x q h = tt
token_holds (one_of y) token x q h = subst (λ (tok : Tok). is_unframed tok ≡ false) q.0 h
token_holds a_negation token x q h = tt
token_holds (an_operator n) token x q h = tt

making : made.Making rules Holds (λ s a. Held a) IsFramedToken
making = record {
  of_token = λ b r c k x p h. token_holds c k x p h;
  of_symbol = λ s a h. makes a h;
}

-- a list of tokens in which none of the words is found has none

not_found : (b : Bool) (at : Pos) (rest : Option Pos) → (if b then Some at else rest) ≡ None → (b ≡ false) × (rest ≡ None)
not_found true at rest h = absurd (cc)
not_found false at rest h = (refl, h)

framed_tokens : (ts : List Token) → first_unframed ts ≡ None → AllByRecursion IsFramedToken ts
framed_tokens [] h = tt
framed_tokens (token ∷ rest) h = let both = not_found (is_unframed token.tok) token.pos (first_unframed rest) h in (both.0, framed_tokens rest both.1)

-- the declarations that such tokens spell
pub spelled : {ts : List Token} {source : d.SourceProgram} → first_unframed ts ≡ None → Spells ts source → AllByRecursion IsFramedDecl source.decls
spelled {ts} none h = holds making (makes (g.Program []) tt) h (framed_tokens ts none)
