-- The tests of the grammar of Viper as functions. Of a word or a sign by itself only those are taken that the generated
-- programs have.
use Rattle.std.proofs.Common.{◌≡◌, refl, ap, subst, ℕ, Bool, true, false, Option, Some, None, arith}
use Rattle.std.specs.Prelude.{nat_eq, nat_le, ◌&&◌, ◌≤◌}
use Rattle.std.proofs.lemmas.Bool.Decides.{nat_tests}
use Rattle.std.proofs.lemmas.Option.{same_Some}
use Rattle.vb_base.specs.declared.places.Pos.{Pos}
use Rattle.viper_syntax.specs.declared.tokens.Token.{Token}
use Rattle.viper_syntax.specs.declared.tokens.Tok.{Tok}
use Rattle.viper_syntax.specs.declared.tokens.Tok.TheVariants as tok
use Rattle.viper_syntax.specs.declared.tokens.Word.{Word}
use Rattle.viper_syntax.specs.declared.tokens.Word.TheVariants as word
use Rattle.viper_syntax.specs.declared.tokens.Sign.{Sign}
use Rattle.viper_syntax.specs.declared.tokens.Sign.TheVariants as sign
use Rattle.viper_syntax.specs.declared.stmts.Named.{Named}
use Rattle.viper_grammar.specs.Tests as v
use Rattle.viper_grammar.specs.Tests.{Kind, Value, Test, Passes, this, a_name, a_number, one_of, a_negation, an_operator, belongs, is_negation, level_of}
use Rattle.viper_grammar.specs.Grammar.{viper}
use Rattle.vb_gen_laws.proofs.Run.{Try, Sound}

abbrev is_word : Word → Word → Bool
is_word word.Field word.Field = true
is_word word.Method word.Method = true
is_word word.Returns word.Returns = true
is_word word.Acc word.Acc = true
is_word _ _ = false

abbrev is_sign : Sign → Sign → Bool
is_sign sign.OpenParen sign.OpenParen = true
is_sign sign.CloseParen sign.CloseParen = true
is_sign sign.OpenBrace sign.OpenBrace = true
is_sign sign.CloseBrace sign.CloseBrace = true
is_sign sign.Comma sign.Comma = true
is_sign sign.Dot sign.Dot = true
is_sign sign.Colon sign.Colon = true
is_sign sign.Assign sign.Assign = true
is_sign _ _ = false

is_word-same : (u w : Word) → is_word u w ≡ true → u ≡ w
is_word-same word.Field word.Field h = refl
is_word-same word.Method word.Method h = refl
is_word-same word.Returns word.Returns h = refl
is_word-same word.Acc word.Acc h = refl
is_word-same _ _ h = cc

is_sign-same : (u w : Sign) → is_sign u w ≡ true → u ≡ w
is_sign-same sign.OpenParen sign.OpenParen h = refl
is_sign-same sign.CloseParen sign.CloseParen h = refl
is_sign-same sign.OpenBrace sign.OpenBrace h = refl
is_sign-same sign.CloseBrace sign.CloseBrace h = refl
is_sign-same sign.Comma sign.Comma h = refl
is_sign-same sign.Dot sign.Dot h = refl
is_sign-same sign.Colon sign.Colon h = refl
is_sign-same sign.Assign sign.Assign h = refl
is_sign-same _ _ h = cc

abbrev is_tok : Tok → Tok → Bool
is_tok (tok.Word u) (tok.Word w) = is_word u w
is_tok (tok.Sign u) (tok.Sign w) = is_sign u w
is_tok _ _ = false

is_tok-same : (u w : Tok) → is_tok u w ≡ true → u ≡ w
is_tok-same (tok.Word u) (tok.Word w) h = ap (λ x. tok.Word x) (is_word-same u w h)
is_tok-same (tok.Sign u) (tok.Sign w) h = ap (λ x. tok.Sign x) (is_sign-same u w h)
is_tok-same _ _ h = cc

abbrev when_true : {X : Type 0} → Bool → X → Option X
when_true true x = Some x
when_true false x = None

abbrev a_name_of : Tok → Pos → Option (Value v.name)
a_name_of (tok.Name x) at = Some (record { name = x; pos = at })
a_name_of (tok.Number n) at = None
a_name_of (tok.Word w) at = None
a_name_of (tok.Sign o) at = None

abbrev a_number_of : Tok → Pos → Option (Value v.number)
a_number_of (tok.Name x) at = None
a_number_of (tok.Number n) at = Some (n, at)
a_number_of (tok.Word w) at = None
a_number_of (tok.Sign o) at = None

abbrev a_word_of : (Word → Bool) → Tok → Pos → Option (Value v.a_word)
a_word_of p (tok.Name x) at = None
a_word_of p (tok.Number n) at = None
a_word_of p (tok.Word w) at = when_true (p w) (w, at)
a_word_of p (tok.Sign o) at = None

abbrev a_sign_of : (Sign → Bool) → Tok → Pos → Option (Value v.a_sign)
a_sign_of p (tok.Name x) at = None
a_sign_of p (tok.Number n) at = None
a_sign_of p (tok.Word w) at = None
a_sign_of p (tok.Sign o) at = when_true (p o) (o, at)

abbrev pub try_token : Try viper
try_token b r (this x) k = when_true (is_tok k.tok x) k.pos
try_token b r a_name k = a_name_of k.tok k.pos
try_token b r a_number k = a_number_of k.tok k.pos
try_token b r (one_of c) k = a_word_of (belongs c) k.tok k.pos
try_token b r a_negation k = a_sign_of is_negation k.tok k.pos
try_token b r (an_operator n) k = a_sign_of (λ o. nat_eq (level_of o) n && nat_le 1 n) k.tok k.pos

-- what is taken passes

taken : {X : Type 0} (b : Bool) (x y : X) → when_true b x ≡ Some y → (b ≡ true) × (x ≡ y)
taken true x y h = (refl, cc)
taken false x y h = cc

name_taken : (t : Tok) (at : Pos) (x : Value v.name) → a_name_of t at ≡ Some x → (t ≡ tok.Name x.name) × (at ≡ x.pos)
name_taken (tok.Name y) at x h = let e = same_Some (record { name = y; pos = at }) x h in (ap (λ (z : Named). tok.Name z.name) e, ap (λ (z : Named). z.pos) e)
name_taken (tok.Number n) at x h = cc
name_taken (tok.Word w) at x h = cc
name_taken (tok.Sign o) at x h = cc

number_taken : (t : Tok) (at : Pos) (n : Value v.number) → a_number_of t at ≡ Some n → (t ≡ tok.Number n.0) × (at ≡ n.1)
number_taken (tok.Name y) at n h = cc
number_taken (tok.Number m) at n h = let e = same_Some (m, at) n h in (ap (λ z. tok.Number z.0) e, ap (λ z. z.1) e)
number_taken (tok.Word w) at n h = cc
number_taken (tok.Sign o) at n h = cc

word_taken : (p : Word → Bool) (t : Tok) (at : Pos) (w : Value v.a_word) → a_word_of p t at ≡ Some w → (t ≡ tok.Word w.0) × (at ≡ w.1) × (p w.0 ≡ true)
word_taken p (tok.Name y) at w h = cc
word_taken p (tok.Number n) at w h = cc
word_taken p (tok.Word u) at w h =
    let e = taken (p u) (u, at) w h in
    (ap (λ z. tok.Word z.0) e.1, ap (λ z. z.1) e.1, subst (λ z. p z.0 ≡ true) e.1 e.0)
word_taken p (tok.Sign o) at w h = cc

sign_taken : (p : Sign → Bool) (t : Tok) (at : Pos) (o : Value v.a_sign) → a_sign_of p t at ≡ Some o → (t ≡ tok.Sign o.0) × (at ≡ o.1) × (p o.0 ≡ true)
sign_taken p (tok.Name y) at o h = cc
sign_taken p (tok.Number n) at o h = cc
sign_taken p (tok.Word w) at o h = cc
sign_taken p (tok.Sign u) at o h =
    let e = taken (p u) (u, at) o h in
    (ap (λ z. tok.Sign z.0) e.1, ap (λ z. z.1) e.1, subst (λ z. p z.0 ≡ true) e.1 e.0)

of_level : (m n : ℕ) → (nat_eq m n && nat_le 1 n) ≡ true → (m ≡ n) × (1 ≤ n)
of_level m n h = grind (arith, nat_tests)

token_passes : (b : Bool) (r : Kind) (c : Test b r) (k : Token) (x : Value r) → try_token b r c k ≡ Some x → Passes c k x
token_passes b r (this t) k at h = let e = taken (is_tok k.tok t) k.pos at h in (is_tok-same k.tok t e.0, e.1)
token_passes b r a_name k x h = name_taken k.tok k.pos x h
token_passes b r a_number k n h = number_taken k.tok k.pos n h
token_passes b r (one_of c) k w h = word_taken (belongs c) k.tok k.pos w h
token_passes b r a_negation k o h = sign_taken is_negation k.tok k.pos o h
token_passes b r (an_operator n) k o h =
    let e = sign_taken (λ o. nat_eq (level_of o) n && nat_le 1 n) k.tok k.pos o h in
    let level = of_level (level_of o.0) n e.2 in
    (e.0, e.1, level.0, level.1)

pub token_sound : Sound viper try_token
token_sound = record { passes = token_passes }
