-- The tokens of each generated program spell its tree.
use Rattle.std.proofs.Common.{◌≡◌, ◌∙◌, refl, sym, ap, subst, ℕ, zero, suc, ◌-◌, ◌%◌, Bool, true, false, List, [], ◌∷◌, ◌++◌, Some, append_assoc, append-nil}
use Rattle.std.specs.Prelude.{◌==◌}
use Rattle.vb_base.specs.declared.places.Pos.{Pos}
use Rattle.viper_syntax.specs.declared.tokens.Token.{Token}
use Rattle.viper_syntax.specs.declared.tokens.Tok.{Tok}
use Rattle.viper_syntax.specs.declared.tokens.Tok.TheVariants as tok
use Rattle.viper_syntax.specs.declared.tokens.Word.TheVariants as word
use Rattle.viper_syntax.specs.declared.tokens.Sign.TheVariants as sign
use Rattle.viper_syntax.specs.Decl as d
use Rattle.grammar.specs.Rules.{Starts}
use Rattle.viper_grammar.specs.Grammar.{Program, Method, FormalOf, Semicolons, viper, rule, rules, the_word}
use Rattle.viper_grammar.specs.Spells.{Derives, Spells, given, taken, passed, called}
use Rattle.vb_gen_laws.proofs.Run.{run, run_derives}
use Rattle.vb_gen_laws.proofs.TokenTry.{try_token, token_sound}
use Rattle.vb_gen_laws.proofs.Trees.{placed, behind, f_name, field_toks, odd_toks, even_toks, method_rest, method_toks, methods_toks, m_name, tree, odd_rhs, even_rhs, method_tree, methods_trees, field_formal, source_of}

-- ---- a method

odd_read : (p : ℕ → Pos) (at : Pos) (name : List ℕ) (k : ℕ) →
    run rules try_token 60 _ (rule (Method at)) (placed p (odd_toks name k)) ≡ Some (d.Method (tree p at name k (odd_rhs p k)), [])
odd_read p at name k = refl

even_read : (p : ℕ → Pos) (at : Pos) (name : List ℕ) (k : ℕ) (callee : List ℕ) →
    run rules try_token 60 _ (rule (Method at)) (placed p (even_toks name k callee)) ≡ Some (d.Method (tree p at name k (even_rhs p callee)), [])
even_read p at name k callee = refl

odd_spelled : (p : ℕ → Pos) (at : Pos) (name : List ℕ) (k : ℕ) → Derives _ (rule (Method at)) (placed p (odd_toks name k)) (d.Method (tree p at name k (odd_rhs p k)))
odd_spelled p at name k = run_derives rules try_token token_sound 60 _ (rule (Method at)) (placed p (odd_toks name k)) _ (odd_read p at name k)

even_spelled : (p : ℕ → Pos) (at : Pos) (name : List ℕ) (k : ℕ) (callee : List ℕ) →
    Derives _ (rule (Method at)) (placed p (even_toks name k callee)) (d.Method (tree p at name k (even_rhs p callee)))
even_spelled p at name k callee = run_derives rules try_token token_sound 60 _ (rule (Method at)) (placed p (even_toks name k callee)) _ (even_read p at name k callee)

method_spelled_by : (q : ℕ → Pos) (i : ℕ) (odd : Bool) → (i % 2 == 1) ≡ odd →
    Derives _ (rule (Method (q 0))) (placed (λ j. q (suc j)) (method_rest i)) (d.Method (method_tree q i))
method_spelled_by q i true e = rw e (odd_spelled (λ j. q (suc j)) (q 0) (m_name i) i)
method_spelled_by q i false e = rw e (even_spelled (λ j. q (suc j)) (q 0) (m_name i) (i - 1) (m_name (i - 1)))

-- ---- one declaration and then others

method_more : (ds : List d.Decl) (m : d.Decl) (at : Pos) (ts us : List Token) (all : List d.Decl) → Derives _ (rule (Method at)) ts m →
    Derives _ (rule (Program (ds ++ m ∷ []))) us all → Derives _ (rule (Program ds)) (record { tok = tok.Word word.Method; pos = at } ∷ (ts ++ us)) all
method_more ds m at ts us all h rest =
    let first : Starts viper (the_word word.Method) (record { tok = tok.Word word.Method; pos = at } ∷ (ts ++ (us ++ []))) at (ts ++ (us ++ [])) =
    record { token = record { tok = tok.Word word.Method; pos = at }; is = refl; passes = (refl, refl) } in
    subst (λ l. Derives _ (rule (Program ds)) (record { tok = tok.Word word.Method; pos = at } ∷ (ts ++ l)) all) (append-nil us)
    (passed (passed (taken first (called h (called rest given)))))

-- the tokens of `f: Int`
formal_tokens : (ℕ → Pos) → List Token
formal_tokens p = placed (λ j. p (suc j)) (tok.Name f_name ∷ tok.Sign sign.Colon ∷ tok.Word word.Int ∷ [])

field_more : (p : ℕ → Pos) (us : List Token) (all : List d.Decl) → Derives _ (rule (Program (d.Field (field_formal p) ∷ []))) us all →
    Derives _ (rule (Program [])) (placed p field_toks ++ us) all
unfolding formal_tokens
field_more p us all rest =
    let formal = run_derives rules try_token token_sound 9 _ (rule FormalOf) (formal_tokens p) (field_formal p) refl in
    let none : Derives _ (rule Semicolons) [] tt = passed given in
    let first : Starts viper (the_word word.Field) (record { tok = tok.Word word.Field; pos = p 0 } ∷ (formal_tokens p ++ (us ++ []))) (p 0) (formal_tokens p ++ (us ++ [])) =
    record { token = record { tok = tok.Word word.Field; pos = p 0 }; is = refl; passes = (refl, refl) } in
    subst (λ l. Derives _ (rule (Program [])) (placed p field_toks ++ l) all) (append-nil us)
    (taken first (called formal (called none (called rest given))))

-- ---- all of them

placed_split : (p : ℕ → Pos) (xs ys : List Tok) → placed p (xs ++ ys) ≡ placed p xs ++ placed (behind p xs) ys
placed_split p [] ys = refl
placed_split p (x ∷ xs) ys = ap (λ l. record { tok = x; pos = p 0 } ∷ l) (placed_split (λ i. p (suc i)) xs ys)

methods_more : (p : ℕ → Pos) (n : ℕ) (ds : List d.Decl) (us : List Token) (all : List d.Decl) → Derives _ (rule (Program (ds ++ methods_trees p n))) us all →
    Derives _ (rule (Program ds)) (placed p (methods_toks n) ++ us) all
methods_more p zero ds us all h = subst (λ l. Derives _ (rule (Program l)) us all) (append-nil ds) h
methods_more p (suc n) ds us all h =
    let q = behind p (methods_toks n) in
    let m : d.Decl = d.Method (method_tree q (suc n)) in
    let rest = subst (λ l. Derives _ (rule (Program l)) us all) (sym (append_assoc ds (methods_trees p n) (m ∷ []))) h in
    let last = method_more (ds ++ methods_trees p n) m (q 0) (placed (λ j. q (suc j)) (method_rest (suc n))) us all (method_spelled_by q (suc n) _ refl) rest in
    let before = methods_more p n ds (placed q (method_toks (suc n)) ++ us) all last in
    let split : placed p (methods_toks (suc n)) ++ us ≡ placed p (methods_toks n) ++ (placed q (method_toks (suc n)) ++ us) =
    ap (λ l. l ++ us) (placed_split p (methods_toks n) (method_toks (suc n))) ∙ append_assoc (placed p (methods_toks n)) (placed q (method_toks (suc n))) us in
    subst (λ l. Derives _ (rule (Program ds)) l all) (sym split) before

pub program_spelled : (p : ℕ → Pos) (n : ℕ) → Spells (placed p (field_toks ++ methods_toks n)) (source_of p n)
program_spelled p n =
    let q = behind p field_toks in
    let field : d.Decl = d.Field (field_formal p) in
    let all : List d.Decl = field ∷ methods_trees q n in
    let end : Derives _ (rule (Program all)) [] all = passed (passed (passed given)) in
    let methods = methods_more q n (field ∷ []) [] all end in
    field_more p (placed q (methods_toks n)) all (subst (λ l. Derives _ (rule (Program (field ∷ []))) l all) (append-nil (placed q (methods_toks n))) methods)
