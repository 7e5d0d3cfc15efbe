-- Each list of tokens is read, or goes wrong somewhere: by the number of its tokens, and then by the rank of the symbol.
use Rattle.std.proofs.Common.{◌≡◌, refl, sym, ap, subst, ◌∙◌, ℕ, ℤ, pos, negsuc, zero, suc, ◌+◌, ◌-◌, ◌⊎◌, inl, inr, Bool, true, false, List, [], ◌∷◌, Some, slice_get, arith}
use Rattle.std.proofs.lemmas.Option.{same_Some}
use Rattle.lemmas.proofs.Lists.{cons_same}
use Rattle.viper_syntax.specs.declared.tokens.Token.{Token}
use Rattle.viper_syntax.specs.declared.tokens.Tok.{Tok}
use Rattle.viper_syntax.specs.declared.tokens.Tok.TheVariants as tok
use Rattle.viper_syntax.specs.declared.tokens.Word.{Word}
use Rattle.viper_syntax.specs.declared.tokens.Word.TheVariants as word
use Rattle.viper_syntax.specs.declared.tokens.Sign.{Sign}
use Rattle.viper_syntax.specs.declared.tokens.Sign.TheVariants as sign
use Rattle.viper_grammar.specs.declared.parts.WordClass.{WordClass}
use Rattle.viper_grammar.specs.Tests.{Kind, Test, this, a_name, a_number, one_of, a_negation, an_operator, belongs, is_negation, level_of}
use Rattle.viper_grammar.specs.Grammar as g
use Rattle.viper_grammar.specs.Grammar.{Symbol, Rule, rule, viper, rules}
use Rattle.grammar.specs.Whole.{IsSpelled, GoesWrong}
use Rattle.grammar.proofs.Decided.{Decided, same_number, decided_by}
use Rattle.grammar.proofs.Answered as grammar
use Rattle.grammar.proofs.Answered.{right, wrong, fg, fn, fw, fr, ft}
use Rattle.viper_parse.proofs.Codes.{word_code, sign_code, empty}
use Rattle.viper_grammar.proofs.Elements.{laws}
use Rattle.viper_parse.proofs.Complete.{empty_right, complete}

-- whether two tokens are the same

same_cons : {x y : ℕ} {xs ys : List ℕ} → Decided (x ≡ y) → Decided (xs ≡ ys) → Decided (x ∷ xs ≡ y ∷ ys)
same_cons (inl e) (inl f) = inl (cons_same e f)
same_cons (inr n) d = inr (λ e. n (cc))
same_cons d (inr n) = inr (λ e. n (cc))

same_bytes : (xs ys : List ℕ) → Decided (xs ≡ ys)
same_bytes [] [] = inl refl
same_bytes (x ∷ xs) (y ∷ ys) = same_cons (same_number x y) (same_bytes xs ys)
same_bytes [] (y ∷ ys) = inr (λ e. cc)
same_bytes (x ∷ xs) [] = inr (λ e. cc)

same_integer : (i j : ℤ) → Decided (i ≡ j)
same_integer (pos m) (pos n) = decided_by (λ e. ap pos e) (λ e. cc) (same_number m n)
same_integer (negsuc m) (negsuc n) = decided_by (λ e. ap negsuc e) (λ e. cc) (same_number m n)
same_integer (pos m) (negsuc n) = inr (λ e. cc)
same_integer (negsuc m) (pos n) = inr (λ e. cc)

-- the words and the signs in the order of their codes

abbrev words : List Word
words =
    word.Field ∷ word.Predicate ∷ word.Method ∷ word.Returns ∷ word.Requires ∷ word.Ensures ∷ word.Invariant ∷ word.Var ∷
    word.New ∷ word.If ∷ word.Elseif ∷ word.Else ∷ word.While ∷ word.Inhale ∷ word.Exhale ∷ word.Assert ∷ word.Assume ∷
    word.Fold ∷ word.Unfold ∷ word.Unfolding ∷ word.In ∷ word.Acc ∷ word.Old ∷ word.Null ∷ word.True ∷ word.False ∷
    word.Write ∷ word.None ∷ word.Wildcard ∷ word.Int ∷ word.Bool ∷ word.Ref ∷ word.Perm ∷ []

abbrev signs : List Sign
signs =
    sign.OpenParen ∷ sign.CloseParen ∷ sign.OpenBrace ∷ sign.CloseBrace ∷ sign.OpenBracket ∷ sign.CloseBracket ∷ sign.Comma ∷
    sign.Semicolon ∷ sign.Dot ∷ sign.Colon ∷ sign.Assign ∷ sign.Question ∷ sign.Iff ∷ sign.Implies ∷ sign.Or ∷ sign.And ∷
    sign.Equal ∷ sign.NotEqual ∷ sign.AtMost ∷ sign.AtLeast ∷ sign.Less ∷ sign.Greater ∷ sign.Plus ∷ sign.Minus ∷ sign.Star ∷
    sign.Slash ∷ sign.Backslash ∷ sign.Percent ∷ sign.Not ∷ []

word_there : (w : Word) → slice_get words (word_code w - 10) ≡ Some w
word_there word.Field = refl
word_there _ = refl

sign_there : (o : Sign) → slice_get signs (sign_code o - 50) ≡ Some o
sign_there sign.OpenParen = refl
sign_there _ = refl

one_word : (a b : Word) → word_code a ≡ word_code b → a ≡ b
one_word a b e = same_Some _ _ (sym (word_there a) ∙ ap (λ n. slice_get words (n - 10)) e ∙ word_there b)

one_sign : (a b : Sign) → sign_code a ≡ sign_code b → a ≡ b
one_sign a b e = same_Some _ _ (sym (sign_there a) ∙ ap (λ n. slice_get signs (n - 50)) e ∙ sign_there b)

same_tok : (a b : Tok) → Decided (a ≡ b)
same_tok (tok.Name x) (tok.Name y) = decided_by (λ e. ap tok.Name e) (λ e. cc) (same_bytes x y)
same_tok (tok.Number i) (tok.Number j) = decided_by (λ e. ap tok.Number e) (λ e. cc) (same_integer i j)
same_tok (tok.Word a) (tok.Word b) = decided_by (λ e. ap tok.Word (one_word a b e)) (λ e. let same : a ≡ b = cc in ap word_code same) (same_number (word_code a) (word_code b))
same_tok (tok.Sign a) (tok.Sign b) = decided_by (λ e. ap tok.Sign (one_sign a b e)) (λ e. let same : a ≡ b = cc in ap sign_code same) (same_number (sign_code a) (sign_code b))
same_tok _ _ = inr (λ e. cc)

-- whether a token passes a test

abbrev Tried : {b : Bool} {r : Kind} → Test b r → Token → Type 0
Tried c k = grammar.Tried viper c k

try_this : (x : Tok) (k : Token) → Decided (k.tok ≡ x) → Tried (this x) k
try_this x k (inl e) = right k.pos (e, refl)
try_this x k (inr n) = wrong (λ v p. n p.0)

try_name : (k : Token) (t : Tok) → k.tok ≡ t → Tried a_name k
try_name k (tok.Name x) e = right (record { name = x; pos = k.pos }) (e, refl)
try_name k _ e = wrong (λ v p. cc)

try_number : (k : Token) (t : Tok) → k.tok ≡ t → Tried a_number k
try_number k (tok.Number n) e = right (n, k.pos) (e, refl)
try_number k _ e = wrong (λ v p. cc)

not_both : (b : Bool) → b ≡ false → b ≡ true → ⊥
not_both b e f = cc

try_member : (c : WordClass) (k : Token) (w : Word) (b : Bool) → k.tok ≡ tok.Word w → belongs c w ≡ b → Tried (one_of c) k
try_member c k w true e h = right (w, k.pos) (e, refl, h)
try_member c k w false e h = wrong (λ v p. let same : v.0 ≡ w = cc in not_both (belongs c w) h (subst (λ u. belongs c u ≡ true) same p.2))

try_word : (c : WordClass) (k : Token) (t : Tok) → k.tok ≡ t → Tried (one_of c) k
try_word c k (tok.Word w) e = try_member c k w (belongs c w) e refl
try_word c k _ e = wrong (λ v p. cc)

try_minus : (k : Token) (o : Sign) (b : Bool) → k.tok ≡ tok.Sign o → is_negation o ≡ b → Tried a_negation k
try_minus k o true e h = right (o, k.pos) (e, refl, h)
try_minus k o false e h = wrong (λ v p. let same : v.0 ≡ o = cc in not_both (is_negation o) h (subst (λ u. is_negation u ≡ true) same p.2))

try_negation : (k : Token) (t : Tok) → k.tok ≡ t → Tried a_negation k
try_negation k (tok.Sign o) e = try_minus k o (is_negation o) e refl
try_negation k _ e = wrong (λ v p. cc)

try_level : (n : ℕ) (k : Token) (o : Sign) → k.tok ≡ tok.Sign o → Decided (level_of o ≡ n) → Tried (an_operator n) k
try_level zero k o e d = wrong (λ v p. omega (arith, p.3))
try_level (suc n) k o e (inl h) = right (o, k.pos) (e, refl, h, omega arith)
try_level (suc n) k o e (inr h) = wrong (λ v p. let same : v.0 ≡ o = cc in h (subst (λ u. level_of u ≡ suc n) same p.2))

try_operator : (n : ℕ) (k : Token) (t : Tok) → k.tok ≡ t → Tried (an_operator n) k
try_operator n k (tok.Sign o) e = try_level n k o e (same_number (level_of o) n)
try_operator n k _ e = wrong (λ v p. cc)

try_token : {b : Bool} {r : Kind} (c : Test b r) (k : Token) → Tried c k
try_token (this x) k = try_this x k (same_tok k.tok x)
try_token a_name k = try_name k k.tok refl
try_token a_number k = try_number k k.tok refl
try_token (one_of c) k = try_word c k k.tok refl
try_token a_negation k = try_negation k k.tok refl
try_token (an_operator n) k = try_operator n k k.tok refl

-- before a token is read, a symbol reads symbols of lower rank alone

abbrev rank : {s : Kind} → Symbol s → ℕ
rank g.Rhs = 13
rank g.Arguments = 13
rank g.Term = 12
rank (g.Level n) = n + 3
rank g.Unary = 2
rank g.First = 1
rank g.Formals = 1
rank (g.Statements ss) = 1
rank (g.Variable at) = 1
rank (g.AfterName x) = 1
rank (g.Arm at) = 1
rank (g.WhileLoop at) = 1
rank g.InstanceOf = 1
rank _ = 0

abbrev ranks : grammar.Ranks viper
ranks = record { empty = λ s a. empty a; rank = λ s a. rank a }

abbrev Falls : ℕ → (s : Kind) → Rule s → Type 0
Falls n s a = grammar.Falls ranks n s a

falls : {s : Kind} (a : Symbol s) → Falls (rank a) s (rule a)
falls (g.Program ds) = fw (fw (fw fg))
falls (g.Predicate at) = fn
falls (g.Method at) = fn
falls g.Returns = fw fg
falls (g.Clauses cs) = fw fg
falls g.Body = fw fg
falls g.Formals = fw (fr (omega arith) (λ x. fr (omega arith) (λ z. fg)))
falls (g.MoreFormals xs) = fw fn
falls g.FormalOf = fn
falls g.Block = fn
falls (g.Statements ss) = fw (ft (omega arith) refl)
falls g.Statement = fw (fw (fw (fw (fw (fw fn)))))
falls (g.Variable at) = fr (omega arith) (λ x. fw fg)
falls (g.AfterName x) = fw (fw (fr (omega arith) (λ xs. fn)))
falls (g.Arm at) = fr (omega arith) (λ p. fr (omega arith) (λ b. fg))
falls (g.Arms bs) = fw (fw fg)
falls (g.WhileLoop at) = fr (omega arith) (λ p. fr (omega arith) (λ is. fr (omega arith) (λ b. fg)))
falls (g.Invariants is) = fw fg
falls g.Rhs = fw (fr (omega arith) (λ p. fg))
falls (g.Creation at) = fn
falls (g.Separated o xs) = fw fg
falls g.Semicolons = fw fg
falls g.InstanceOf = fw (fr (omega arith) (λ c. fg))
falls g.CallOf = fn
falls g.Arguments = fw (fr (omega arith) (λ p. fr (omega arith) (λ z. fg)))
falls (g.MoreArguments es) = fw fn
falls g.Amount = fw fn
falls g.Group = fn
falls g.Term = fr (omega arith) (λ p. grammar.falls_cond (g.is_open p.shape) fg (fw fg))
falls (g.Level zero) = fr (omega arith) (λ p. fg)
falls (g.Level (suc n)) = fr (omega arith) (λ p. fr (omega arith) (λ q. fg))
falls (g.Chain n p) = grammar.falls_cond (g.is_open p.shape) fg (fw fg)
falls g.Unary = fw (fw (fr (omega arith) (λ p. fr (omega arith) (λ q. fg))))
falls (g.Fields p) = fw fg
falls g.First = fw (fw (fw (fw (fw (fr (omega arith) (λ p. fg))))))

pub answered : (ts : List Token) → IsSpelled rules (rule (g.Program [])) ts ⊎ GoesWrong rules (rule (g.Program [])) ts
answered ts = grammar.some_answer rules laws ranks
    (record {
      try_token = λ b r c k. try_token c k;
      empty_right = λ s a x d. empty_right a x d;
      falls = λ s a. falls a;
    })
    (g.Program []) (λ us ds d. complete d) ts
