-- A definition is read from the left in one way.
use Rattle.std.proofs.Common.{◌≡◌, ◌∙◌, refl, sym, ap, subst, ℕ, true, false, List, [], ◌∷◌, ◌++◌, Some, append_assoc}
use Rattle.std.proofs.lemmas.Bool.{both_ways}
use Rattle.grammar.proofs.Complete.{Free, reads_all}
use Rattle.grammar.proofs.Reading.{one_reading}
use Rattle.grammar.proofs.Sets.{among}
use Rattle.boogie_tree.specs.Expr as t
use Rattle.boogie_grammar.specs.declared.tokens.BSign.TheVariants as sign
use Rattle.boogie_grammar.specs.declared.tokens.Lexeme.{Lexeme}
use Rattle.boogie_grammar.specs.declared.tokens.Lexeme.TheVariants as tok
use Rattle.boogie_grammar.specs.declared.tokens.PlacedLexeme.{PlacedLexeme}
use Rattle.boogie_grammar.specs.declared.tokens.BoogieWord.TheVariants as w
use Rattle.boogie_grammar.specs.Words.{word_tok}
use Rattle.boogie_grammar.specs.Grammar as g
use Rattle.boogie_grammar.specs.Grammar.{give, read, rule, rules, boogie}
use Rattle.boogie_grammar.specs.Greedy.{Reads}
use Rattle.boogie_grammar.specs.Tests as v
use Rattle.boogie_grammar.specs.Tests.{IsVariable, some_free, the_sign, the_word, a_variable}
use Rattle.boogie_grammar.proofs.Elements.{laws}
use Rattle.boogie_grammar.proofs.NameLaws.{there, free_among}
use Rattle.boogie_print.proofs.AlikeLaws.{Alike, nil, cons, split_of, derives_alike}
use Rattle.boogie_print.proofs.Codes.{code, signs, ext_codes, table}
use Rattle.boogie_print.proofs.Complete.{good}
use Rattle.boogie_formula.specs.Formula as f
use Rattle.boogie_formula.specs.Formula.{FExpr, FExprs}
use Rattle.boogie_formula.specs.Value.{plain, three}
use Rattle.boogie_formula_text.specs.Spells as s
use Rattle.boogie_formula_text.specs.Spells.{SpellsScalar, SpellsKeys, SpellsValue}
use Rattle.boogie_formula_text.proofs.PlainLaws.{one_plain}
use Rattle.boogie_formula_text.proofs.Steps.{ReadsExpr, next, pass_read, take_read, need_read, no_need, part_read, read_on, last_read, end_read, not_by, parens_read, if_read, at_read}

-- ---- what is read, and what is left

data ReadsKeys (names : List (List ℕ)) : List PlacedLexeme → FExprs → List PlacedLexeme → Type 0 where
  last : {ts us : List PlacedLexeme} {b : t.BExpr} {e : FExpr} → ReadsExpr names ts b us → plain e ≡ Some b → ReadsKeys names ts (f.more e f.none) us
  before : {ts us vs : List PlacedLexeme} {comma : PlacedLexeme} {b : t.BExpr} {e : FExpr} {es : FExprs} →
      ReadsExpr names ts b (comma ∷ us) → plain e ≡ Some b → comma.tok ≡ tok.Sign sign.Comma → ReadsKeys names us es vs → ReadsKeys names ts (f.more e es) vs

data ReadsValue (names : List (List ℕ)) : List PlacedLexeme → FExpr → List PlacedLexeme → Type 0 where
  scalar : {ts us : List PlacedLexeme} {b : t.BExpr} {e : FExpr} → ReadsExpr names ts b us → plain e ≡ Some b → ReadsValue names ts e us
  update : {ts us vs : List PlacedLexeme} {name opening assign closing : PlacedLexeme} {i : ℕ} {es : FExprs} {b : t.BExpr} {e : FExpr} →
      IsVariable names name.tok i → opening.tok ≡ tok.Sign sign.OpenBracket → ReadsKeys names ts es (assign ∷ us) →
      assign.tok ≡ tok.Sign sign.Assign → ReadsExpr names us b (closing ∷ vs) → plain e ≡ Some b → closing.tok ≡ tok.Sign sign.CloseBracket →
      ReadsValue names (name ∷ opening ∷ ts) (f.With (f.Var i) es e) vs
  choice : {ts us vs zs : List PlacedLexeme} {opening word_if word_then word_else closing : PlacedLexeme} {b : t.BExpr} {c x y : FExpr} →
      opening.tok ≡ tok.Sign sign.OpenParen → word_if.tok ≡ word_tok w.If → ReadsExpr names ts b (word_then ∷ us) → plain c ≡ Some b →
      word_then.tok ≡ word_tok w.Then → ReadsValue names us x (word_else ∷ vs) →
      word_else.tok ≡ word_tok w.Else → ReadsValue names vs y (closing ∷ zs) → closing.tok ≡ tok.Sign sign.CloseParen →
      ReadsValue names (opening ∷ word_if ∷ ts) (f.If c x y) zs

-- ---- in one way

one_expr : {names : List (List ℕ)} {ts us vs : List PlacedLexeme} {a b : t.BExpr} → ReadsExpr names ts a us → ReadsExpr names ts b vs → (a ≡ b) × (us ≡ vs)
one_expr h i = one_reading rules laws h i

same_plain : {a b : t.BExpr} (d e : FExpr) → a ≡ b → plain d ≡ Some a → plain e ≡ Some b → d ≡ e
same_plain d e same h k = one_plain d e _ (h ∙ ap Some same) k

head_is : {k j : PlacedLexeme} {us vs : List PlacedLexeme} → k ∷ us ≡ j ∷ vs → k ≡ j
head_is h = cc

tail_is : {k j : PlacedLexeme} {us vs : List PlacedLexeme} → k ∷ us ≡ j ∷ vs → us ≡ vs
tail_is h = cc

two_signs : {k j : PlacedLexeme} {us vs : List PlacedLexeme} → k ∷ us ≡ j ∷ vs → k.tok ≡ tok.Sign sign.Assign → j.tok ≡ tok.Sign sign.Comma → ⊥
two_signs {k = k} {j = j} h e f = let same : k.tok ≡ j.tok = ap (λ (x : PlacedLexeme). x.tok) (head_is h) in let wrong : tok.Sign sign.Assign ≡ tok.Sign sign.Comma = sym e ∙ same ∙ f in cc

-- keys in front of `:=`
one_keys : {names : List (List ℕ)} {ts us vs : List PlacedLexeme} {ds es : FExprs} {k j : PlacedLexeme} {as' bs : List PlacedLexeme} → ReadsKeys names ts ds us → ReadsKeys names ts es vs →
    us ≡ k ∷ as' → k.tok ≡ tok.Sign sign.Assign → vs ≡ j ∷ bs → j.tok ≡ tok.Sign sign.Assign → (ds ≡ es) × (us ≡ vs)
one_keys (last {e = d} h p) (last {e = e} i q) hu ku hv kv = let o = one_expr h i in (ap (λ x. f.more x f.none) (same_plain d e o.0 p q), o.1)
one_keys (last h p) (before i q c r) hu ku hv kv = let o = one_expr h i in absurd (two_signs (sym hu ∙ o.1) ku c)
one_keys (before h p c r) (last i q) hu ku hv kv = let o = one_expr h i in absurd (two_signs (sym hv ∙ sym o.1) kv c)
one_keys {names} (before {us = us} {vs = vs} {e = d} {es = ds} h p c r) (before {us = ws} {vs = zs} {e = e} {es = es} i q c' r') hu ku hv kv =
    let o = one_expr h i in
    let same : ws ≡ us = sym (tail_is o.1) in
    let rest = one_keys r (subst (λ l. ReadsKeys names l es zs) same r') hu ku hv kv in
    (ap (λ x. f.more x ds) (same_plain d e o.0 p q) ∙ ap (f.more e) rest.0, rest.1)

-- keys in front of `:=` are no index list
no_index_list : (names : List (List ℕ)) {ts us vs ws : List PlacedLexeme} {es : FExprs} {k : PlacedLexeme} {as' : List PlacedLexeme} {a : t.BExpr} {l m : List t.BExpr} → ReadsKeys names ts es us → us ≡ k ∷ as' →
    k.tok ≡ tok.Sign sign.Assign → ReadsExpr names ts a vs → Reads v.exprs (rule (g.MoreExprs (g.outside names) l)) vs m ws → ⊥
no_index_list names {ws = ws} {k = k} {as' = as'} {l = l} {m = m} (last h p) e is i r =
    let at = next (the_sign sign.Assign) {us = as'} is in
    let r = subst (λ z. Reads v.exprs (rule (g.MoreExprs (g.outside names) l)) z m ws) (sym (one_expr h i).1 ∙ e) r in
    no_need (pass_read r (not_by (the_sign sign.Assign) (the_sign sign.Comma) at refl)) (not_by (the_sign sign.Assign) (the_sign sign.CloseBracket) at refl)
no_index_list names {ws = ws} {l = l} {m = m} (before {us = us} h p c more) e is i r =
    let r = subst (λ z. Reads v.exprs (rule (g.MoreExprs (g.outside names) l)) z m ws) (sym (one_expr h i).1) r in
    let part = part_read (take_read r (next (the_sign sign.Comma) {us = us} c)) in
    no_index_list names {l = l ++ (part.value ∷ [])} more e is part.first (last_read part.second)

some_of : (names : List (List ℕ)) {k : Lexeme} {i : ℕ} → IsVariable names k i → some_free names ≡ true
some_of names {i = i} h = free_among h.name names h.free (there h.name names i h.there)

-- an expression is no update
no_update : (names : List (List ℕ)) {ts us vs : List PlacedLexeme} {name opening assign : PlacedLexeme} {i : ℕ} {es : FExprs} {b : t.BExpr} → IsVariable names name.tok i →
    opening.tok ≡ tok.Sign sign.OpenBracket → ReadsKeys names ts es (assign ∷ us) → assign.tok ≡ tok.Sign sign.Assign → ReadsExpr names (name ∷ opening ∷ ts) b vs → ⊥
no_update names is o keys a h =
    let part = part_read (at_read names is (some_of names is) (next (the_sign sign.OpenBracket) o) h) in
    let first = part_read part.first in
    no_index_list names {l = first.value ∷ []} keys refl a first.first (last_read first.second)

choice_is : (c x y : FExpr) {a b d : t.BExpr} → plain c ≡ Some a → plain x ≡ Some b → plain y ≡ Some d → plain (f.If c x y) ≡ Some (t.If a b d)
choice_is c x y {a = a} {b = b} h i j =
    ap (λ o. three t.If o (plain x) (plain y)) h ∙ ap (λ o. three t.If (Some a) o (plain y)) i ∙ ap (λ o. three t.If (Some a) (Some b) o) j

-- what is read as an expression too is that expression
agree : (names : List (List ℕ)) {ts us vs : List PlacedLexeme} {e : FExpr} {b : t.BExpr} → ReadsValue names ts e us → ReadsExpr names ts b vs → (plain e ≡ Some b) × (us ≡ vs)
agree names (scalar h is) i = let o = one_expr h i in (is ∙ ap Some o.0, o.1)
agree names (update is o keys a h p c) i = absurd (no_update names is o keys a i)
agree names {vs = ws} {b = e} (choice {us = us} {vs = vs} {zs = zs} {word_then = k} {word_else = j} {closing = m} {b = b} {c = c} {x = x} {y = y} o is h p then_is first else_is second closes) i =
    let r = if_read names (next (the_word w.If) is) (parens_read names (next (the_sign sign.OpenParen) o) i) in
    let part = part_read (need_read (read_on r h) (next (the_word w.Then) then_is)) in
    let one = agree names first part.first in
    let At : List PlacedLexeme → Type 0 = λ l. Reads v.expr (g.after_word w.Else (read (g.Expr (g.outside names)) (λ z. g.after_sign sign.CloseParen (give (t.If b part.value z))))) l e ws in
    let rest = part_read (need_read (subst At (sym one.1) part.second) (next (the_word w.Else) else_is)) in
    let two = agree names second rest.first in
    let Of : List PlacedLexeme → Type 0 = λ l. Reads v.expr (g.after_sign sign.CloseParen (give (t.If b part.value rest.value))) l e ws in
    let end = end_read {y = t.If b part.value rest.value} (need_read (subst Of (sym two.1) rest.second) (next (the_sign sign.CloseParen) closes)) in
    (choice_is c x y p one.0 two.0 ∙ ap Some end.0, end.1)

bracket_or_word : (x : Lexeme) → x ≡ tok.Sign sign.OpenBracket → x ≡ word_tok w.If → ⊥
bracket_or_word x h e = let wrong : tok.Sign sign.OpenBracket ≡ word_tok w.If = sym h ∙ e in cc

one_variable : (names : List (List ℕ)) (k : PlacedLexeme) {i j : ℕ} → IsVariable names k.tok i → IsVariable names k.tok j → i ≡ j
one_variable names k {i = i} {j = j} h e = laws.one_value true v.variable (a_variable names (some_of names h)) k i j h e

one_value : (names : List (List ℕ)) {ts us vs : List PlacedLexeme} {d e : FExpr} → ReadsValue names ts d us → ReadsValue names ts e vs → (d ≡ e) × (us ≡ vs)
one_value names {d = d} {e = e} (scalar h p) i = let o = agree names i h in (one_plain d e _ p o.0, sym o.1)
one_value names {d = d} {e = e} h (scalar i q) = let o = agree names h i in (one_plain d e _ o.0 q, o.1)
one_value names (update {us = us} {vs = vs} {name = name} {i = n} {es = ds} {e = d} is o keys a h p c) (update {us = ws} {vs = zs} {closing = z} {i = m} {es = es} {b = b'} {e = e} is' o' keys' a' i q c') =
    let k = one_keys keys keys' refl a refl a' in
    let r = one_expr h (subst (λ l. ReadsExpr names l b' (z ∷ zs)) (sym (tail_is k.1)) i) in (
      ap (λ j. f.With (f.Var j) ds d) (one_variable names name is is') ∙ ap (λ l. f.With (f.Var m) l d) k.0 ∙ ap (f.With (f.Var m) es) (same_plain d e r.0 p q),
      tail_is r.1,
    )
one_value names (choice {c = c} {x = x} {y = y} o is h p t_is first e_is second closes) (choice {vs = vs} {zs = zs} {word_else = j} {closing = z} {b = b'} {c = c'} {x = x'} {y = y'} o' is' i q t_is' first' e_is' second' closes') =
    let r = one_expr h i in
    let a = one_value names first (subst (λ l. ReadsValue names l x' (j ∷ vs)) (sym (tail_is r.1)) first') in
    let b = one_value names second (subst (λ l. ReadsValue names l y' (z ∷ zs)) (sym (tail_is a.1)) second') in (
      ap (λ z. f.If z x y) (same_plain c c' r.0 p q) ∙ ap (λ z. f.If c' z y) a.0 ∙ ap (f.If c' x') b.0,
      tail_is b.1,
    )
one_value names (update is o keys a h p c) (choice o' is' i q t_is first e_is second closes) = absurd (bracket_or_word _ o is')
one_value names (choice o' is' i q t_is first e_is second closes) (update is o keys a h p c) = absurd (bracket_or_word _ o is')

-- ---- what is spelled is read

-- no `[` is next
abbrev Calm : List PlacedLexeme → Type 0
Calm us = (b : t.BExpr) → Free boogie v.expr (λ x k. among (code k.tok) (signs (sign.OpenBracket ∷ [])) ≡ true) b us

calm_end : Calm []
calm_end b = record { none = λ k vs e h. absurd (cc) }

calm : {k : PlacedLexeme} {us : List PlacedLexeme} (x : Lexeme) → k.tok ≡ x → among (code x) (signs (sign.OpenBracket ∷ [])) ≡ false → Calm (k ∷ us)
calm {k = k} x is other b = record {
  none = λ j vs e h.
      let same : j ≡ k = sym (head_is e) in
      both_ways _ other (subst (λ y. among (code y) (signs (sign.OpenBracket ∷ [])) ≡ true) is (subst (λ (i : PlacedLexeme). among (code i.tok) (signs (sign.OpenBracket ∷ [])) ≡ true) same h));
}

scalar_reads : {names : List (List ℕ)} {ts us : List PlacedLexeme} {e : FExpr} (h : SpellsScalar names ts e) → Calm us → ReadsExpr names (ts ++ us) h.tree us
scalar_reads {names = names} {us = us} h free =
    reads_all rules table (λ s a. good a) (λ x k. among (code k.tok) (ext_codes (g.Expr (g.outside names))) ≡ true) (good (g.Expr (g.outside names))) h.derived us (free h.tree)

keys_read : {names : List (List ℕ)} {ts us : List PlacedLexeme} {es : FExprs} → SpellsKeys names ts es → Calm us → ReadsKeys names (ts ++ us) es us
keys_read (s.last h) free = last (scalar_reads h free) h.is
keys_read {names = names} {us = vs} (s.before {ts = ts} {us = us} k {e = e} {es = es} h c more) free =
    subst (λ l. ReadsKeys names l (f.more e es) vs) (sym (append_assoc ts (k ∷ us) vs)) (before (scalar_reads h (calm (tok.Sign sign.Comma) c refl)) h.is c (keys_read more free))

value_reads : {names : List (List ℕ)} {ts us : List PlacedLexeme} {e : FExpr} → SpellsValue names ts e → Calm us → ReadsValue names (ts ++ us) e us
value_reads (s.scalar h) free = scalar (scalar_reads h free) h.is
value_reads {names = names} {us = vs} (s.update {ts = ts} {us = us} n o a c {i = i} {es = es} {e = e} is o_is keys a_is h c_is) free =
    subst (λ l. ReadsValue names (n ∷ o ∷ l) (f.With (f.Var i) es e) vs)
    (sym (append_assoc ts (a ∷ (us ++ c ∷ [])) vs ∙ ap (λ l. ts ++ a ∷ l) (append_assoc us (c ∷ []) vs)))
    (update is o_is (keys_read keys (calm (tok.Sign sign.Assign) a_is refl)) a_is (scalar_reads h (calm (tok.Sign sign.CloseBracket) c_is refl)) h.is c_is)
value_reads {names = names} {us = zs}
    (s.choice {ts = ts} {us = us} {vs = vs} o i k j m {c = c} {x = x} {y = y} o_is i_is h t_is first e_is second c_is) free =
    subst (λ l. ReadsValue names (o ∷ i ∷ l) (f.If c x y) zs)
    (sym (append_assoc ts (k ∷ (us ++ j ∷ (vs ++ m ∷ []))) zs ∙
    ap (λ l. ts ++ k ∷ l) (append_assoc us (j ∷ (vs ++ m ∷ [])) zs ∙ ap (λ l. us ++ j ∷ l) (append_assoc vs (m ∷ []) zs))))
    (choice o_is i_is (scalar_reads h (calm (word_tok w.Then) t_is refl)) h.is t_is (value_reads first (calm (word_tok w.Else) e_is refl)) e_is
    (value_reads second (calm (tok.Sign sign.CloseParen) c_is refl)) c_is)

-- ---- at whatever places the tokens stand

first_of : {k : PlacedLexeme} {ts us : List PlacedLexeme} → Alike (k ∷ ts) us → (j : PlacedLexeme) × (vs : List PlacedLexeme) × (us ≡ j ∷ vs) × (j.tok ≡ k.tok) × Alike ts vs
first_of (cons {j = j} {us = us} e a) = (j, us, refl, sym e, a)

none_left : {us : List PlacedLexeme} → Alike [] us → us ≡ []
none_left nil = refl

pub scalar_alike : {names : List (List ℕ)} {ts us : List PlacedLexeme} {e : FExpr} → SpellsScalar names ts e → Alike ts us → SpellsScalar names us e
scalar_alike h a = record { tree = h.tree; derived = derives_alike h.derived a; is = h.is }

keys_alike : {names : List (List ℕ)} {ts us : List PlacedLexeme} {es : FExprs} → SpellsKeys names ts es → Alike ts us → SpellsKeys names us es
keys_alike (s.last h) a = s.last (scalar_alike h a)
keys_alike {names = names} {es = es} (s.before {ts = ts} comma h c more) a =
    let p = split_of ts a in
    let q = first_of p.behind_alike in
    subst (λ l. SpellsKeys names l es) (sym (ap (λ l. p.front ++ l) q.2) ∙ p.is) (s.before q.0 (scalar_alike h p.front_alike) (q.3 ∙ c) (keys_alike more q.4))

pub value_alike : {names : List (List ℕ)} {ts us : List PlacedLexeme} {e : FExpr} → SpellsValue names ts e → Alike ts us → SpellsValue names us e
value_alike (s.scalar h) a = s.scalar (scalar_alike h a)
value_alike {names = names} {e = e} (s.update {ts = ts} {us = us} name opening assign closing {i = i} is o_is keys a_is h c_is) a =
    let n = first_of a in
    let o = first_of n.4 in
    let p = split_of ts o.4 in
    let q = first_of p.behind_alike in
    let r = split_of us q.4 in
    let c = first_of r.behind_alike in
    subst (λ l. SpellsValue names l e)
    (sym (n.2 ∙ ap (λ l. n.0 ∷ l) (o.2 ∙ ap (λ l. o.0 ∷ l) (sym p.is ∙ ap (λ l. p.front ++ l) (q.2 ∙ ap (λ l. q.0 ∷ l) (sym r.is ∙ ap (λ l. r.front ++ l) (c.2 ∙ ap (λ l. c.0 ∷ l) (none_left c.4))))))))
    (s.update n.0 o.0 q.0 c.0 (subst (λ k. IsVariable names k i) (sym n.3) is) (o.3 ∙ o_is) (keys_alike keys p.front_alike) (q.3 ∙ a_is) (scalar_alike h r.front_alike) (c.3 ∙ c_is))
value_alike {names = names} {e = e} (s.choice {ts = ts} {us = us} {vs = vs} opening word_if word_then word_else closing o_is i_is h t_is first e_is second c_is) a =
    let o = first_of a in
    let i = first_of o.4 in
    let p = split_of ts i.4 in
    let k = first_of p.behind_alike in
    let q = split_of us k.4 in
    let j = first_of q.behind_alike in
    let r = split_of vs j.4 in
    let c = first_of r.behind_alike in
    subst (λ l. SpellsValue names l e)
    (sym (o.2 ∙ ap (λ l. o.0 ∷ l) (i.2 ∙ ap (λ l. i.0 ∷ l) (sym p.is ∙ ap (λ l. p.front ++ l) (k.2 ∙ ap (λ l. k.0 ∷ l) (sym q.is ∙ ap (λ l. q.front ++ l) (j.2 ∙ ap (λ l. j.0 ∷ l)
    (sym r.is ∙ ap (λ l. r.front ++ l) (c.2 ∙ ap (λ l. c.0 ∷ l) (none_left c.4))))))))))
    (s.choice o.0 i.0 k.0 j.0 c.0 (o.3 ∙ o_is) (i.3 ∙ i_is) (scalar_alike h p.front_alike) (k.3 ∙ t_is) (value_alike first q.front_alike) (j.3 ∙ e_is) (value_alike second r.front_alike) (c.3 ∙ c_is))

-- ---- tokens spell one definition at most

pub one_definition : (names : List (List ℕ)) (ts : List PlacedLexeme) (d e : FExpr) → SpellsValue names ts d → SpellsValue names ts e → d ≡ e
one_definition names ts d e h i = (one_value names (value_reads h calm_end) (value_reads i calm_end)).0
