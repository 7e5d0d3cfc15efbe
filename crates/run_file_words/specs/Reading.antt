-- How a run file is read: what code makes of words. That this is what they spell is shown in `proofs/`.
use Rattle.std.specs.Prelude.{◌^◌, ℕ, ℤ, zero, suc, pos, neg_ℤ, Bool, true, false, not, ◌&&◌, ◌||◌, ◌==◌, nat_lt, nat_le, List, [], ◌∷◌, ◌++◌, Option, Some, None, option_and_then, codes, length, slice_get, position, find, if◌then◌else◌}
use Rattle.std.specs.List.{list_all, list_any, before_first, after_first}
use Rattle.std.specs.Option.{option_map}
use Rattle.std.specs.Char.{is_ascii_digit}
use Rattle.std.specs.Str.{bytes_eq}
use Rattle.std.specs.Str.Parse.{digits_value}
use Rattle.std.specs.Cmp.Lexicographic.{pointwise}
use Rattle.vb_base.specs.Limits.{max_content_nodes}
use Rattle.vb_value.specs.Content as content
use Rattle.vb_value.specs.Content.{Content, nodes}
use Rattle.vb_value.specs.Fraction.{Fraction, fits_ratio, ratio}
use Rattle.vb_value.specs.declared.keys.KeyPart.{KeyPart}
use Rattle.vb_value.specs.declared.keys.KeyPart.TheVariants as part
use Rattle.vb_value.specs.declared.values.Ty.{Ty}
use Rattle.vb_value.specs.declared.values.Ty.TheVariants as ty
use Rattle.vb_value.specs.declared.values.Value.{Value}
use Rattle.vb_value.specs.declared.values.Value.TheVariants.{Int, Bool as Truth, Ref, Perm}
use Rattle.viper_state.specs.State.{Key}
use Rattle.moves.specs.Lists.{is_empty}
use Rattle.run_file_words.specs.Known.{Known}

-- ---- words

-- the number that a row of digits spells, where it is below a limit
abbrev pub natural : ℕ → List ℕ → Option ℕ
natural limit word =
    if list_all is_ascii_digit word && (not (is_empty word) && nat_lt (digits_value 10 word) limit) then Some (digits_value 10 word) else None

unfoldable pub magnitude : List ℕ → Option ℕ
magnitude word = natural (2 ^ 127) word

-- the whole number that a word spells
abbrev pub integer : List ℕ → Option ℤ
integer [] = option_map pos (magnitude [])
integer (b ∷ bs) = if b == 45 then option_map (λ n. neg_ℤ (pos n)) (magnitude bs) else option_map pos (magnitude (b ∷ bs))

abbrev pub truth : List ℕ → Option Bool
truth word = if bytes_eq word (codes "true") then Some true else (if bytes_eq word (codes "false") then Some false else None)

-- the number of a reference behind its `#`
unfoldable pub numbered : List ℕ → Option ℕ
numbered word = natural (2 ^ 64) word

abbrev pub reference : List ℕ → Option ℕ
reference [] = None
reference (b ∷ bs) = if bytes_eq (b ∷ bs) (codes "null") then Some 0 else (if b == 35 then numbered bs else None)

abbrev pub fraction_of : Option ℤ → Option ℕ → Option Fraction
fraction_of (Some n) (Some d) = if fits_ratio n (pos d) then Some (ratio n (pos d)) else None
fraction_of _ _ = None

abbrev pub fraction : List ℕ → Option Fraction
fraction word = fraction_of (integer (before_first (λ b. b == 47) word)) (magnitude (after_first (λ b. b == 47) word))

-- the type that a word would have to have: none but a fraction has a `/`, and the first byte tells the other three apart
abbrev pub first_type : ℕ → Ty
first_type b = if b == 35 || b == 110 then ty.Ref else (if b == 116 || b == 102 then ty.Bool else ty.Int)

abbrev pub type_told : List ℕ → Ty
type_told [] = ty.Int
type_told (b ∷ bs) = if list_any (λ c. c == 47) (b ∷ bs) then ty.Perm else first_type b

abbrev pub value_of : Ty → List ℕ → Option Value
value_of ty.Int word = option_map Int (integer word)
value_of ty.Bool word = option_map Truth (truth word)
value_of ty.Ref word = option_map Ref (reference word)
value_of ty.Perm word = option_map Perm (fraction word)

abbrev pub any_value : List ℕ → Option Value
any_value word = value_of (type_told word) word

-- ---- keys and contents

infixl 10 ◌>>=◌
abbrev pub ◌>>=◌ : {A B : Type 0} → Option A → (A → Option B) → Option B
o >>= f = option_and_then f o

abbrev pub argument_of : Value → Option KeyPart
argument_of (Int n) = Some (part.Int n)
argument_of (Truth b) = Some (part.Bool b)
argument_of (Ref r) = Some (part.Ref r)
argument_of (Perm q) = None

-- these arguments in front of what is read of the others
abbrev pub after_parts : Key → Option (Key × List (List ℕ)) → Option (Key × List (List ℕ))
after_parts parts None = None
after_parts parts (Some r) = Some (parts ++ r.0, r.1)

abbrev pub argument_from : Ty → List (List ℕ) → Option (KeyPart × List (List ℕ))
argument_from u [] = None
argument_from u (word ∷ words) = option_map (λ a. (a, words)) (value_of u word >>= argument_of)

abbrev pub key_from : List Ty → List (List ℕ) → Option (Key × List (List ℕ))
key_from [] words = Some ([], words)
key_from (u ∷ us) words = argument_from u words >>= (λ a. after_parts (a.0 ∷ []) (key_from us a.1))

abbrev pub leaf_from : List (List ℕ) → Option (Content × List (List ℕ))
leaf_from [] = None
leaf_from (word ∷ words) = option_map (λ v. (content.Leaf v, words)) (any_value word)

-- the content with which the words begin, and the words that are left, where it is nested at most so deep
abbrev pub content_from : ℕ → List (List ℕ) → Option (Content × List (List ℕ))
content_from zero words = None
content_from (suc n) [] = None
content_from (suc n) (word ∷ words) =
    if bytes_eq word (codes "unit") then Some (content.Unit, words) else
    (if bytes_eq word (codes "leaf") then leaf_from words else
    (if bytes_eq word (codes "pair") then content_from n words >>= (λ a. content_from n a.1 >>= (λ b. Some (content.Pair a.0 b.0, b.1))) else None))

abbrev pub small_whole : Content × List (List ℕ) → Option Content
small_whole r = if is_empty r.1 && nat_le (nodes r.0) max_content_nodes then Some r.0 else None

-- the content that all the words are
unfoldable pub whole_content : List (List ℕ) → Option Content
whole_content words = content_from (length words) words >>= small_whole

-- ---- names, and the words behind them

-- the number of a name
abbrev pub number_of : List (List ℕ) → List ℕ → Option ℕ
number_of names word = position (pointwise ◌==◌ word) names

-- the one word, where there is no other
abbrev pub single : List (List ℕ) → Option (List ℕ)
single (word ∷ []) = Some word
single _ = None

-- the number of the name with which the words begin, and the words behind it
abbrev pub numbered_name : List (List ℕ) → List (List ℕ) → Option (ℕ × List (List ℕ))
numbered_name names [] = None
numbered_name names (name ∷ words) = option_map (λ n. (n, words)) (number_of names name)

-- a line that begins with a name, behind its first word
abbrev pub named_line : {T L : Type 0} → (ℕ → Option T → List (List ℕ) → Option L) → Known T → List (List ℕ) → Option L
named_line line k words = numbered_name k.names words >>= (λ n. line n.0 (slice_get k.types n.0) n.1)

-- the one of these keywords with which the words begin, and the words behind it
unfoldable pub keyword_from : {K : Type 0} → (K → List ℕ) → List K → List (List ℕ) → Option (K × List (List ℕ))
keyword_from text keywords [] = None
keyword_from text keywords (word ∷ words) = option_map (λ k. (k, words)) (find (λ k. bytes_eq word (text k)) keywords)
