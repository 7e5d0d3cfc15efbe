-- A text has at most one cut and at most one fault, and no text has both.
use Rattle.std.proofs.Common.{◌≡◌, ◌∙◌, ℕ, ℤ, ◌+◌, ◌<◌, ◌≤◌, refl, ap, sym, subst, arith, inl, inr, List, [], ◌++◌, take, drop, suc, zero}
use Rattle.std.specs.Prelude.{◌⊎◌, ◌≤ℤ◌, ◌<ℤ◌, slice_get}
use Rattle.std.proofs.lemmas.Bool.{cases_lt}
use Rattle.std.proofs.lemmas.Int.{ints}
use Rattle.std.proofs.lemmas.Option.{same_Some}
use Rattle.vb_base.specs.declared.places.Pos.{Pos}
use Rattle.vb_base.proofs.PlaceLaws.{one_place_after}
use Rattle.viper_syntax.specs.declared.tokens.LexFault.{LexFault}
use Rattle.viper_syntax.specs.declared.tokens.LexFault.TheVariants as f
use Rattle.viper_syntax.specs.declared.tokens.Tok.{Tok}
use Rattle.viper_syntax.specs.declared.tokens.Tok.TheVariants as k
use Rattle.viper_syntax.specs.declared.tokens.Token.{Token}
use Rattle.viper_syntax.specs.Piece.{Piece, Unclosed, Taken, IsPiece, IsLongest}
use Rattle.viper_syntax.specs.Cut.{MAX, IsSound, tokens_at, IsCut, end, piece, IsFaultHere, bad_byte, open_comment, big_literal, Meets, here, later}
use Rattle.viper_syntax.specs.Limit.{StaysWithin, IsFirstAbove, KeepsLimits, BreaksLimit, deep_brace, long_group, refused_word, unclosed, in_group, refused}
use Rattle.viper_syntax.specs.Step.{UnlessMemory}
use Rattle.viper_syntax.specs.Lexed.{IsLexed, HasFault, in_cut, in_limits}
use Rattle.viper_syntax.proofs.PieceLaws.{one_piece, piece_not_empty}
use Rattle.viper_syntax.proofs.CutLaws.{unless_map}

-- two longest pieces of one text are one
one_longest : (bs : List ℕ) (m n : ℕ) (p q : Piece) → IsLongest bs m p → IsLongest bs n q → (m ≡ n) × (p ≡ q)
one_longest bs m n p q h g =
    let same : m ≡ n = omega (arith, g.longest m p h.within h.piece, h.longest n q g.within g.piece) in
    (same, one_piece (take n bs) p q (subst (λ i. IsPiece (take i bs) p) same h.piece) g.piece)

nothing_longest : (n : ℕ) (p : Piece) → IsLongest [] n p → ⊥
nothing_longest zero p h = piece_not_empty p h.piece
nothing_longest (suc n) p h = piece_not_empty p h.piece

pub one_cut : (before rest : List ℕ) (ts us : List Token) → IsCut before rest ts → IsCut before rest us → ts ≡ us
one_cut before rest ts us end end = refl
one_cut before rest ts us end (piece {n = n} {p = p} h s pl c) = absurd (nothing_longest n p h)
one_cut before rest ts us (piece {n = n} {p = p} h s pl c) end = absurd (nothing_longest n p h)
one_cut before rest _ _ (piece {n = m} {p = p} {at = a} {ts = ts} h s pl c) (piece {n = n} {p = q} {at = b} {ts = us} g s' pl' d) =
    let same = one_longest rest m n p q h g in
    let d' = subst (λ i. IsCut (before ++ take i rest) (drop i rest) us) (sym same.0) d in
    ap (λ x. tokens_at x p ++ ts) (one_place_after before a b pl pl') ∙ ap (λ x. tokens_at b x ++ ts) same.1 ∙
    ap (λ x. tokens_at b q ++ x) (one_cut (before ++ take m rest) (drop m rest) ts us c d')

-- faults

above_max : (v : ℤ) → v ≤ℤ MAX → MAX <ℤ v → ⊥
above_max v h g = omega (arith, ints)

not_unclosed : (t : Tok) → Unclosed ≡ Taken t → ⊥
not_unclosed t e = cc

fault_not_sound : (rest : List ℕ) (at : Pos) (fault : LexFault) (n : ℕ) (p : Piece) → IsLongest rest n p → IsSound p → IsFaultHere rest at fault → ⊥
fault_not_sound rest at fault n p h s (bad_byte some none) = none n p h.within h.piece
fault_not_sound rest at fault n p h s (open_comment {n = m} g) = subst IsSound (one_longest rest n m p Unclosed h g).1 s
fault_not_sound rest at fault n p h s (big_literal {n = m} {v = v} g big) =
    above_max v (subst IsSound (one_longest rest n m p (Taken (k.Number v)) h g).1 s) big

nothing_faulty : (at : Pos) (fault : LexFault) → IsFaultHere [] at fault → ⊥
nothing_faulty at fault (bad_byte some none) = some refl
nothing_faulty at fault (open_comment {n = n} h) = nothing_longest n Unclosed h
nothing_faulty at fault (big_literal {n = n} {v = v} h big) = nothing_longest n (Taken (k.Number v)) h

pub cut_or_fault : (before rest : List ℕ) (ts : List Token) (fault : LexFault) → IsCut before rest ts → Meets before rest fault → ⊥
cut_or_fault before rest ts fault end (here {at = at} pl h) = nothing_faulty at fault h
cut_or_fault before rest ts fault end (later {n = n} {p = p} h s m) = nothing_longest n p h
cut_or_fault before rest ts fault (piece {n = n} {p = p} h s pl c) (here {at = at} pl' g) = fault_not_sound rest at fault n p h s g
cut_or_fault before rest _ fault (piece {n = n} {p = p} {ts = ts} h s pl c) (later {n = m} {p = q} g s' d) =
    let same = one_longest rest n m p q h g in
    cut_or_fault (before ++ take n rest) (drop n rest) ts fault c (subst (λ i. Meets (before ++ take i rest) (drop i rest) fault) (sym same.0) d)

one_fault_here : (rest : List ℕ) (at : Pos) (e g : LexFault) → IsFaultHere rest at e → IsFaultHere rest at g → e ≡ g
one_fault_here rest at e g (bad_byte some none) (bad_byte some' none') = refl
one_fault_here rest at e g (bad_byte some none) (open_comment {n = n} h) = absurd (none n Unclosed h.within h.piece)
one_fault_here rest at e g (bad_byte some none) (big_literal {n = n} {v = v} h big) = absurd (none n (Taken (k.Number v)) h.within h.piece)
one_fault_here rest at e g (open_comment {n = n} h) (bad_byte some none) = absurd (none n Unclosed h.within h.piece)
one_fault_here rest at e g (open_comment {n = n} h) (open_comment {n = m} h') = refl
one_fault_here rest at e g (open_comment {n = n} h) (big_literal {n = m} {v = v} h' big) =
    absurd (not_unclosed (k.Number v) (one_longest rest n m Unclosed (Taken (k.Number v)) h h').1)
one_fault_here rest at e g (big_literal {n = n} {v = v} h big) (bad_byte some none) = absurd (none n (Taken (k.Number v)) h.within h.piece)
one_fault_here rest at e g (big_literal {n = n} {v = v} h big) (open_comment {n = m} h') =
    absurd (not_unclosed (k.Number v) (one_longest rest m n Unclosed (Taken (k.Number v)) h' h).1)
one_fault_here rest at e g (big_literal {n = n} {v = v} h big) (big_literal {n = m} {v = w} h' big') = refl

pub one_meeting : (before rest : List ℕ) (e g : LexFault) → Meets before rest e → Meets before rest g → e ≡ g
one_meeting before rest e g (here {at = a} pl h) (here {at = b} pl' h') =
    one_fault_here rest b e g (subst (λ x. IsFaultHere rest x e) (one_place_after before a b pl pl') h) h'
one_meeting before rest e g (here {at = a} pl h) (later {n = n} {p = p} l s m) = absurd (fault_not_sound rest a e n p l s h)
one_meeting before rest e g (later {n = n} {p = p} l s m) (here {at = a} pl h) = absurd (fault_not_sound rest a g n p l s h)
one_meeting before rest e g (later {n = n} {p = p} l s d) (later {n = m} {p = q} l' s' d') =
    let same = one_longest rest n m p q l l' in
    one_meeting (before ++ take n rest) (drop n rest) e g d (subst (λ i. Meets (before ++ take i rest) (drop i rest) g) (sym same.0) d')

-- limits

no_earlier : (f : List Token → ℕ) (limit : ℕ) (ts : List Token) (p q : Pos) (a : IsFirstAbove f limit ts p) (b : IsFirstAbove f limit ts q) → a.index < b.index → ⊥
no_earlier f limit ts p q a b lt = omega (arith, a.above, b.before (a.index + 1) (omega arith))

one_first : (f : List Token → ℕ) (limit : ℕ) (ts : List Token) (p q : Pos) → IsFirstAbove f limit ts p → IsFirstAbove f limit ts q → p ≡ q
one_first f limit ts p q a b = sym a.place ∙ ap (λ t. t.pos) same ∙ b.place where
  index : a.index ≡ b.index
  index = by_case (cases_lt a.index b.index) (cases_lt b.index a.index) where
    by_case : (a.index < b.index) ⊎ (b.index ≤ a.index) → (b.index < a.index) ⊎ (a.index ≤ b.index) → a.index ≡ b.index
    by_case (inl lt) w = absurd (no_earlier f limit ts p q a b lt)
    by_case (inr le) (inl lt) = absurd (no_earlier f limit ts q p b a lt)
    by_case (inr le) (inr le') = omega arith

  same : a.token ≡ b.token
  same = same_Some _ _ (sym a.here ∙ ap (λ i. slice_get ts i) index ∙ b.here)

above_not_within : (f : List Token → ℕ) (limit : ℕ) (ts : List Token) (p : Pos) → IsFirstAbove f limit ts p → StaysWithin f limit ts → ⊥
above_not_within f limit ts p a h = omega (arith, a.above, h (a.index + 1))

pub one_broken : (ts : List Token) (e g : LexFault) → BreaksLimit ts e → BreaksLimit ts g → e ≡ g
one_broken ts e g (deep_brace {at = p} a) (deep_brace {at = q} b) = ap f.Braces (one_first unclosed 128 ts p q a b)
one_broken ts e g (deep_brace {at = p} a) (long_group h b) = absurd (above_not_within unclosed 128 ts p a h)
one_broken ts e g (deep_brace {at = p} a) (refused_word h h' b) = absurd (above_not_within unclosed 128 ts p a h)
one_broken ts e g (long_group h a) (deep_brace {at = q} b) = absurd (above_not_within unclosed 128 ts q b h)
one_broken ts e g (long_group {at = p} h a) (long_group {at = q} h' b) = ap f.LongGroup (one_first in_group 1024 ts p q a b)
one_broken ts e g (long_group {at = p} h a) (refused_word i j b) = absurd (above_not_within in_group 1024 ts p a j)
one_broken ts e g (refused_word h h' a) (deep_brace {at = q} b) = absurd (above_not_within unclosed 128 ts q b h)
one_broken ts e g (refused_word h h' a) (long_group {at = q} i b) = absurd (above_not_within in_group 1024 ts q b h')
one_broken ts e g (refused_word {at = p} h h' a) (refused_word {at = q} i j b) = ap f.Unsupported (one_first refused 0 ts p q a b)

pub broken_or_kept : (ts : List Token) (e : LexFault) → BreaksLimit ts e → KeepsLimits ts → ⊥
broken_or_kept ts e (deep_brace {at = p} a) h = above_not_within unclosed 128 ts p a h.braces
broken_or_kept ts e (long_group {at = p} i a) h = above_not_within in_group 1024 ts p a h.groups
broken_or_kept ts e (refused_word {at = p} i j a) h = above_not_within refused 0 ts p a h.supported

-- the whole

pub one_lexed : (bytes : List ℕ) (ts us : List Token) → IsLexed bytes ts → IsLexed bytes us → ts ≡ us
one_lexed bytes ts us h g = one_cut [] bytes ts us h.cut g.cut

pub one_fault : (bytes : List ℕ) (e g : LexFault) → HasFault bytes e → HasFault bytes g → e ≡ g
one_fault bytes e g (in_cut h) (in_cut h') = one_meeting [] bytes e g h h'
one_fault bytes e g (in_cut h) (in_limits {ts = ts} c b) = absurd (cut_or_fault [] bytes ts e c h)
one_fault bytes e g (in_limits {ts = ts} c b) (in_cut h) = absurd (cut_or_fault [] bytes ts g c h)
one_fault bytes e g (in_limits {ts = ts} c b) (in_limits {ts = us} c' b') =
    one_broken us e g (subst (λ x. BreaksLimit x e) (one_cut [] bytes ts us c c') b) b'

pub lexed_or_faulty : (bytes : List ℕ) (ts : List Token) (e : LexFault) → IsLexed bytes ts → HasFault bytes e → ⊥
lexed_or_faulty bytes ts e h (in_cut m) = cut_or_fault [] bytes ts e h.cut m
lexed_or_faulty bytes ts e h (in_limits {ts = us} c b) = broken_or_kept us e b (subst KeepsLimits (one_cut [] bytes ts us h.cut c) h.limits)

-- what a fault leaves to say, where memory was not refused

pub fault_gives_memory : (bytes : List ℕ) (ts : List Token) (e : LexFault) → UnlessMemory (HasFault bytes) e → IsLexed bytes ts → e ≡ f.Memory
fault_gives_memory bytes ts (f.BadByte at) h g = absurd (lexed_or_faulty bytes ts _ g h)
fault_gives_memory bytes ts (f.OpenComment at) h g = absurd (lexed_or_faulty bytes ts _ g h)
fault_gives_memory bytes ts (f.BigLiteral at) h g = absurd (lexed_or_faulty bytes ts _ g h)
fault_gives_memory bytes ts (f.Braces at) h g = absurd (lexed_or_faulty bytes ts _ g h)
fault_gives_memory bytes ts (f.LongGroup at) h g = absurd (lexed_or_faulty bytes ts _ g h)
fault_gives_memory bytes ts (f.Unsupported at) h g = absurd (lexed_or_faulty bytes ts _ g h)
fault_gives_memory bytes ts f.Memory h g = refl

pub fault_gives_fault : (bytes : List ℕ) (g e : LexFault) → UnlessMemory (HasFault bytes) e → HasFault bytes g → (e ≡ g) ⊎ (e ≡ f.Memory)
fault_gives_fault bytes g (f.BadByte at) h h' = inl (one_fault bytes _ g h h')
fault_gives_fault bytes g (f.OpenComment at) h h' = inl (one_fault bytes _ g h h')
fault_gives_fault bytes g (f.BigLiteral at) h h' = inl (one_fault bytes _ g h h')
fault_gives_fault bytes g (f.Braces at) h h' = inl (one_fault bytes _ g h h')
fault_gives_fault bytes g (f.LongGroup at) h h' = inl (one_fault bytes _ g h h')
fault_gives_fault bytes g (f.Unsupported at) h h' = inl (one_fault bytes _ g h h')
fault_gives_fault bytes g f.Memory h h' = inr refl

pub fault_in_cut : (bytes : List ℕ) (e : LexFault) → UnlessMemory (Meets [] bytes) e → UnlessMemory (HasFault bytes) e
fault_in_cut bytes e h = unless_map (Meets [] bytes) (HasFault bytes) (λ x m. in_cut m) e h

pub fault_in_limits : (bytes : List ℕ) (ts us : List Token) (e : LexFault) → IsCut [] bytes ts → us ≡ ts → BreaksLimit us e → UnlessMemory (HasFault bytes) e
fault_in_limits bytes ts us e c same b =
    unless_from (HasFault bytes) e (in_limits c (subst (λ x. BreaksLimit x e) same b)) where
      unless_from : (P : LexFault → Type 0) (e : LexFault) → P e → UnlessMemory P e
      unless_from P (f.BadByte at) h = h
      unless_from P (f.OpenComment at) h = h
      unless_from P (f.BigLiteral at) h = h
      unless_from P (f.Braces at) h = h
      unless_from P (f.LongGroup at) h = h
      unless_from P (f.Unsupported at) h = h
      unless_from P f.Memory h = tt

pub lexed_in_limits : (bytes : List ℕ) (ts us : List Token) → IsCut [] bytes ts → us ≡ ts → KeepsLimits us → IsLexed bytes ts
lexed_in_limits bytes ts us c same h = record { cut = c; limits = subst KeepsLimits same h }
