-- The text of each generated program is cut into its tokens.
use Rattle.std.proofs.Common.{◌≡◌, refl, sym, subst, ℕ, zero, suc, ◌-◌, ◌%◌, ◌^◌, ◌<◌, ◌≤◌, Bool, true, false, arith, List, [], ◌∷◌, ◌++◌, length, pos, append_assoc, append-nil}
use Rattle.std.specs.Prelude.{codes, ◌==◌}
use Rattle.std.specs.Fmt.{decimal}
use Rattle.vb_base.specs.declared.places.Pos.{Pos}
use Rattle.vb_base.specs.Limits.{max_made_methods, max_viper_bytes}
use Rattle.vb_gen.specs.Generated.{method_text, methods_text, program_text}
use Rattle.viper_syntax.specs.declared.tokens.Tok.{Tok}
use Rattle.viper_syntax.specs.declared.tokens.Tok.TheVariants as tok
use Rattle.viper_syntax.specs.declared.tokens.Word.TheVariants as word
use Rattle.viper_syntax.specs.declared.tokens.Sign.TheVariants as sign
use Rattle.viper_syntax.specs.Cut.{IsCut}
use Rattle.vb_gen_laws.proofs.CutRun.{Lexes, done, placed_cut, lex_sound}
use Rattle.vb_gen_laws.proofs.Holes.{number_cut, name_cut}
use Rattle.vb_gen_laws.proofs.Trees.{placed, m_name, field_toks, plus_toks, head_toks, body_toks, call_toks, odd_toks, even_toks, method_toks, methods_toks}

-- ---- the texts between names and numbers, each with what follows it

abbrev method_word : List ℕ
method_word = codes "method "

abbrev head_rest : List ℕ
head_rest = codes "(x: Ref) returns (r: Int)\n  requires acc(x.f, 1/2)\n  ensures acc(x.f, 1/2) && r == x.f + "

abbrev opening : List ℕ
opening = codes "\n{\n  r := "

abbrev sum_opening : List ℕ
sum_opening = codes "\n{\n  r := x.f + "

abbrev closing : List ℕ
closing = codes "\n}\n"

abbrev call_closing : List ℕ
call_closing = codes "(x)\n}\n"

method_word_cut : (rest : List ℕ) (us : List Tok) → Lexes rest us → Lexes (method_word ++ rest) (tok.Word word.Method ∷ us)
method_word_cut rest us h = lex_sound 2 (method_word ++ rest) rest (tok.Word word.Method ∷ []) us refl h

head_rest_cut : (rest : List ℕ) (us : List Tok) → Lexes rest us → Lexes (head_rest ++ rest) (head_toks ++ us)
head_rest_cut rest us h = lex_sound 60 (head_rest ++ rest) rest head_toks us refl h

opening_cut : (rest : List ℕ) (us : List Tok) → Lexes rest us → Lexes (opening ++ rest) (body_toks ++ us)
opening_cut rest us h = lex_sound 9 (opening ++ rest) rest body_toks us refl h

sum_opening_cut : (rest : List ℕ) (us : List Tok) → Lexes rest us → Lexes (sum_opening ++ rest) (body_toks ++ (plus_toks ++ us))
sum_opening_cut rest us h = lex_sound 15 (sum_opening ++ rest) rest (body_toks ++ plus_toks) us refl h

closing_cut : (rest : List ℕ) (us : List Tok) → Lexes rest us → Lexes (closing ++ rest) (tok.Sign sign.CloseBrace ∷ us)
closing_cut rest us h = lex_sound 3 (closing ++ rest) rest (tok.Sign sign.CloseBrace ∷ []) us refl h

call_closing_cut : (rest : List ℕ) (us : List Tok) → Lexes rest us → Lexes (call_closing ++ rest) (call_toks ++ us)
call_closing_cut rest us h = lex_sound 6 (call_closing ++ rest) rest call_toks us refl h

field_cut : (rest : List ℕ) (us : List Tok) → Lexes rest us → Lexes (codes "field f: Int\n" ++ rest) (field_toks ++ us)
field_cut rest us h = lex_sound 7 (codes "field f: Int\n" ++ rest) rest field_toks us refl h

-- ---- a method

small : (i : ℕ) → i ≤ max_made_methods → i < 2 ^ 64
small i le = omega arith

-- a method with these names and numbers

abbrev odd_text : ℕ → List ℕ → List ℕ
odd_text i rest = method_word ++ (m_name i ++ (head_rest ++ (decimal i ++ (sum_opening ++ (decimal i ++ (closing ++ rest))))))

abbrev even_text : ℕ → ℕ → List ℕ → List ℕ
even_text i k rest = method_word ++ (m_name i ++ (head_rest ++ (decimal k ++ (opening ++ (m_name k ++ (call_closing ++ rest))))))

head_cut : (i k : ℕ) (rest : List ℕ) (us : List Tok) → i ≤ max_made_methods → k ≤ max_made_methods → Lexes (10 ∷ rest) us →
    Lexes (method_word ++ (m_name i ++ (head_rest ++ (decimal k ++ (10 ∷ rest))))) (tok.Word word.Method ∷ tok.Name (m_name i) ∷ (head_toks ++ (tok.Number (pos k) ∷ us)))
head_cut i k rest us le le' h =
    let at_number : List ℕ = decimal k ++ (10 ∷ rest) in
    let number = number_cut k 10 rest us (small k le') refl h in
    let head = head_rest_cut at_number (tok.Number (pos k) ∷ us) number in
    let name = name_cut i 40 (codes "x: Ref) returns (r: Int)\n  requires acc(x.f, 1/2)\n  ensures acc(x.f, 1/2) && r == x.f + " ++ at_number) (head_toks ++ (tok.Number (pos k) ∷ us)) (small i le) refl head in
    method_word_cut (m_name i ++ (head_rest ++ at_number)) (tok.Name (m_name i) ∷ (head_toks ++ (tok.Number (pos k) ∷ us))) name

odd_cut : (i : ℕ) (rest : List ℕ) (us : List Tok) → i ≤ max_made_methods → Lexes rest us → Lexes (odd_text i rest) ((tok.Word word.Method ∷ odd_toks (m_name i) i) ++ us)
odd_cut i rest us le h =
    let at_value : List ℕ = decimal i ++ (closing ++ rest) in
    let value = number_cut i 10 (codes "}\n" ++ rest) (tok.Sign sign.CloseBrace ∷ us) (small i le) refl (closing_cut rest us h) in
    let body = sum_opening_cut at_value (tok.Number (pos i) ∷ tok.Sign sign.CloseBrace ∷ us) value in
    head_cut i i (codes "{\n  r := x.f + " ++ at_value) (body_toks ++ (plus_toks ++ (tok.Number (pos i) ∷ tok.Sign sign.CloseBrace ∷ us))) le le body

even_cut : (i k : ℕ) (rest : List ℕ) (us : List Tok) → i ≤ max_made_methods → k ≤ max_made_methods → Lexes rest us → Lexes (even_text i k rest) ((tok.Word word.Method ∷ even_toks (m_name i) k (m_name k)) ++ us)
even_cut i k rest us le le' h =
    let at_callee : List ℕ = m_name k ++ (call_closing ++ rest) in
    let callee = name_cut k 40 (codes "x)\n}\n" ++ rest) (call_toks ++ us) (small k le') refl (call_closing_cut rest us h) in
    let body = opening_cut at_callee (tok.Name (m_name k) ∷ (call_toks ++ us)) callee in
    head_cut i k (codes "{\n  r := " ++ at_callee) (body_toks ++ (tok.Name (m_name k) ∷ (call_toks ++ us))) le le' body

-- ---- the text of a method, with what follows it

flat_odd : (a d b c e k g h l m z rest : List ℕ) → ((a ++ d ++ b) ++ (c ++ e ++ k ++ g) ++ (h ++ (l ++ m) ++ z)) ++ rest ≡ a ++ (d ++ (b ++ (c ++ (e ++ (k ++ (g ++ (h ++ (l ++ (m ++ (z ++ rest))))))))))
flat_odd a d b c e k g h l m z rest = simp append_assoc refl

flat_even : (a d b c e k g h l m y z rest : List ℕ) → ((a ++ d ++ b) ++ (c ++ e ++ k ++ g) ++ (h ++ (l ++ m ++ y) ++ z)) ++ rest ≡ a ++ (d ++ (b ++ (c ++ (e ++ (k ++ (g ++ (h ++ (l ++ (m ++ (y ++ (z ++ rest)))))))))))
flat_even a d b c e k g h l m y z rest = simp append_assoc refl

odd_is : (i : ℕ) (rest : List ℕ) → (i % 2 == 1) ≡ true → method_text i ++ rest ≡ odd_text i rest
odd_is i rest e =
    rw e
    (flat_odd (codes "method m") (decimal i) (codes "(x: Ref) returns (r: Int)\n") (codes "  requires acc(x.f, 1/2)\n")
    (codes "  ensures acc(x.f, 1/2) && r == x.f + ") (decimal i) (codes "\n") (codes "{\n  r := ") (codes "x.f + ") (decimal i) (codes "\n}\n") rest)

even_is : (i : ℕ) (rest : List ℕ) → (i % 2 == 1) ≡ false → method_text i ++ rest ≡ even_text i (i - 1) rest
even_is i rest e =
    rw e
    (flat_even (codes "method m") (decimal i) (codes "(x: Ref) returns (r: Int)\n") (codes "  requires acc(x.f, 1/2)\n")
    (codes "  ensures acc(x.f, 1/2) && r == x.f + ") (decimal (i - 1)) (codes "\n") (codes "{\n  r := ") (codes "m") (decimal (i - 1)) (codes "(x)") (codes "\n}\n") rest)

pub odd_toks_are : (i : ℕ) → (i % 2 == 1) ≡ true → method_toks i ≡ tok.Word word.Method ∷ odd_toks (m_name i) i
odd_toks_are i e = rw e refl

pub even_toks_are : (i : ℕ) → (i % 2 == 1) ≡ false → method_toks i ≡ tok.Word word.Method ∷ even_toks (m_name i) (i - 1) (m_name (i - 1))
even_toks_are i e = rw e refl

method_cut_by : (i : ℕ) (rest : List ℕ) (us : List Tok) (odd : Bool) → (i % 2 == 1) ≡ odd → i ≤ max_made_methods → Lexes rest us → Lexes (method_text i ++ rest) (method_toks i ++ us)
method_cut_by i rest us true e le h =
    subst (λ l. Lexes l (method_toks i ++ us)) (sym (odd_is i rest e))
    (subst (λ l. Lexes (odd_text i rest) (l ++ us)) (sym (odd_toks_are i e)) (odd_cut i rest us le h))
method_cut_by i rest us false e le h =
    subst (λ l. Lexes l (method_toks i ++ us)) (sym (even_is i rest e))
    (subst (λ l. Lexes (even_text i (i - 1) rest) (l ++ us)) (sym (even_toks_are i e)) (even_cut i (i - 1) rest us le (omega arith) h))

-- ---- the whole text

methods_cut : (n : ℕ) (rest : List ℕ) (us : List Tok) → n ≤ max_made_methods → Lexes rest us → Lexes (methods_text n ++ rest) (methods_toks n ++ us)
methods_cut zero rest us le h = h
methods_cut (suc n) rest us le h =
    let last = method_cut_by (suc n) rest us (suc n % 2 == 1) refl le h in
    let all = methods_cut n (method_text (suc n) ++ rest) (method_toks (suc n) ++ us) (omega arith) last in
    subst (λ l. Lexes l (methods_toks (suc n) ++ us)) (sym (append_assoc (methods_text n) (method_text (suc n)) rest))
    (subst (λ l. Lexes (methods_text n ++ (method_text (suc n) ++ rest)) l) (sym (append_assoc (methods_toks n) (method_toks (suc n)) us)) all)

methods_lexed : (n : ℕ) → n ≤ max_made_methods → Lexes (methods_text n) (methods_toks n)
methods_lexed n le =
    subst (λ l. Lexes l (methods_toks n)) (append-nil (methods_text n))
    (subst (λ l. Lexes (methods_text n ++ []) l) (append-nil (methods_toks n)) (methods_cut n [] [] le done))

pub program_cut : (n : ℕ) → n ≤ max_made_methods → length (program_text n) ≤ max_viper_bytes → (p : ℕ → Pos) × IsCut [] (program_text n) (placed p (field_toks ++ methods_toks n))
program_cut n le few = placed_cut [] (program_text n) (field_toks ++ methods_toks n) few (field_cut (methods_text n) (methods_toks n) (methods_lexed n le))
