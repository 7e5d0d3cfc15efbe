-- What a `forall` binds, and where it is named, as the grammar asks for them.
use Rattle.std.proofs.Common.{◌≡◌, ◌∙◌, refl, sym, ap, subst, arith, ℕ, Bool, true, false, not, ◌&&◌, ◌||◌, List, [], ◌∷◌, ◌++◌, length, Option, Some, None, Bor, MatchOption}
use Rattle.std.specs.Str.{bytes_eq}
use Rattle.std.proofs.lemmas.List.Folds.{list_any-append}
use Rattle.boogie_tree.specs.Expr as t
use Rattle.boogie_tree.specs.declared.exprs.BBase.{BBase}
use Rattle.boogie_grammar.specs.declared.tokens.PlacedLexeme.{PlacedLexeme}
use Rattle.boogie_grammar.specs.declared.tokens.BoogieWord.TheVariants as w
use Rattle.boogie_grammar.specs.Words.{is_reserved, is_among}
use Rattle.boogie_grammar.specs.Tests as v
use Rattle.boogie_grammar.specs.Tests.{Kind, the_name, the_word}
use Rattle.boogie_grammar.specs.Grammar as g
use Rattle.boogie_grammar.specs.Grammar.{Rule, when, read, give, where_true}
use Rattle.boogie_grammar.specs.Greedy.{IsNot, Starts, Goes}
use Rattle.boogie_grammar.specs.ReadView.{is_new_name, ReadsForall, NoForall}
use Rattle.boogie_grammar.proofs.Reading.{boogie_steps}
open boogie_steps use {start, by_token, by_other, goes_by}

-- names that are none of two lists

or_right_false : (a b : Bool) → (a || b) ≡ false → b ≡ false
or_right_false true b h = absurd (cc)
or_right_false false b h = h

pub not_bound : (x : List ℕ) (ls bs : List (List ℕ)) → is_among x (ls ++ bs) ≡ false → is_among x bs ≡ false
not_bound x ls bs h = or_right_false (is_among x ls) (is_among x bs) (sym (list_any-append (bytes_eq x) ls bs) ∙ h)

new_both : (r a b : Bool) → true ≡ (not r && not a) → not b ≡ (not r && not (a || b))
new_both false false b h = refl
new_both false true b h = absurd (cc)
new_both true a b h = absurd (cc)

old_either : (r a b : Bool) → false ≡ (not r && not a) → false ≡ (not r && not (a || b))
old_either true a b h = refl
old_either false true b h = refl
old_either false false b h = absurd (cc)

pub unbound_new : (x : List ℕ) (ls bs : List (List ℕ)) (b : Bool) → true ≡ is_new_name ls x → b ≡ is_among x bs → not b ≡ is_new_name (ls ++ bs) x
unbound_new x ls bs b h e =
    ap not e ∙ new_both (is_reserved x) (is_among x ls) (is_among x bs) h ∙ ap (λ c. not (is_reserved x) && not c) (sym (list_any-append (bytes_eq x) ls bs))

pub bound_old : (x : List ℕ) (ls bs : List (List ℕ)) → false ≡ is_new_name ls x → false ≡ is_new_name (ls ++ bs) x
bound_old x ls bs h =
    old_either (is_reserved x) (is_among x ls) (is_among x bs) h ∙ ap (λ c. not (is_reserved x) && not c) (sym (list_any-append (bytes_eq x) ls bs))

-- one more bound name with its type

pub bound_as : {more : List (List ℕ)} {wider : List BBase} (names : List (List ℕ)) (types : List BBase) (n : List ℕ) (u : BBase) → more ≡ names ++ (n ∷ []) → wider ≡ types ++ (u ∷ []) →
    (let b : v.Binding = record { names = more; types = wider } in b) ≡ g.bind (record { names = names; types = types }) n u
bound_as names types n u e f = λ i. record { names = e i; types = f i }

pub bound_more : (x : g.ExprScope) {a : Rule v.binding} {ts us : List PlacedLexeme} {more : List (List ℕ)} {wider : List BBase} (names : List (List ℕ)) (types : List BBase) (n : List ℕ) (u : BBase) →
    more ≡ names ++ (n ∷ []) → wider ≡ types ++ (u ∷ []) →
    Goes a ts (g.rule (g.Binders x (g.bind (record { names = names; types = types }) n u))) us → Goes a ts (g.rule (g.Binders x (record { names = more; types = wider }))) us
bound_more x names types n u e f h = goes_by (λ b. g.rule (g.Binders x b)) (bound_as names types n u e f) h

pub none_bound : (x : g.ExprScope) {names : List (List ℕ)} {types : List BBase} {ts : List PlacedLexeme} → names ≡ [] → types ≡ [] →
    Goes (g.rule (g.Binders x g.no_binding)) ts (g.rule (g.Binders x (record { names = names; types = types }))) ts
none_bound x {names = names} {types = types} {ts = ts} e f =
    let same : (let b : v.Binding = record { names = names; types = types } in b) ≡ g.no_binding = λ i. record { names = e i; types = f i } in
    goes_by (λ b. g.rule (g.Binders x b)) same (start (g.rule (g.Binders x g.no_binding)) ts)

-- `forall`, where nothing is bound

pub forall_goes : (bound : List (List ℕ)) (ts : List PlacedLexeme) (o : Option (Bor (List PlacedLexeme))) → length bound ≡ 0 →
    MatchOption o (IsNot (the_word w.Forall) ts) (λ r. Starts (the_word w.Forall) ts tt r.now) → MatchOption o (NoForall bound ts) (λ r. ReadsForall bound ts r.now)
forall_goes [] ts None e h = λ first other. by_other h (start (when (the_word w.Forall) (λ _. first) other) ts)
forall_goes [] ts (Some r) e h = λ first other. by_token h (start (when (the_word w.Forall) (λ _. first) other) ts)
forall_goes (b ∷ bs) ts o e h = absurd (omega (arith, e))

pub no_forall : {bound others : List (List ℕ)} {b : List ℕ} (ts : List PlacedLexeme) → bound ≡ b ∷ others → NoForall bound ts
no_forall {others = others} {b = b} ts e = subst (λ l. NoForall l ts) (sym e) (λ first other. start other ts)

-- the bound names as indices

pub where_not : {s : Kind} {a : Rule s} {ts us : List PlacedLexeme} (r other : Rule s) (b : Bool) → b ≡ false → Goes a ts (where_true b (λ _. r) other) us → Goes a ts other us
where_not r other true e h = absurd (cc)
where_not r other false e h = h

pub where_is : {s : Kind} {a : Rule s} {ts us : List PlacedLexeme} (r other : Rule s) (b : Bool) → b ≡ true → Goes a ts (where_true b (λ _. r) other) us → Goes a ts r us
where_is r other true e h = h
where_is r other false e h = absurd (cc)

-- what is read where the first bound name may stand
abbrev first_of : g.ExprScope → ℕ → List ℕ → List (List ℕ) → Rule v.expr
first_of x i q qs = when (the_name q) (λ _. read (g.BoundRest qs) (λ _. give (t.AtBound i))) (g.at_indices x i)

abbrev Old : g.ExprScope → ℕ → List PlacedLexeme → List (List ℕ) → Type 0
Old x i ts bound = Goes (g.indices x i bound) ts (g.at_indices x i) ts

abbrev New : g.ExprScope → ℕ → List PlacedLexeme → List (List ℕ) → List PlacedLexeme → List (List ℕ) → Type 0
New x i ts qs us bound = Goes (g.indices x i bound) ts (read (g.BoundRest qs) (λ _. give (t.AtBound i))) us

pub no_bound : (x : g.ExprScope) (bound : List (List ℕ)) (ts : List PlacedLexeme) → length bound ≡ 0 → (i : ℕ) → Old x i ts bound
no_bound x [] ts e i = start (g.at_indices x i) ts
no_bound x (b ∷ bs) ts e i = absurd (omega (arith, e))

may_stand : (x : g.ExprScope) (i : ℕ) (q : List ℕ) (qs : List (List ℕ)) (ts : List PlacedLexeme) → is_new_name x.locals q ≡ true → Goes (g.indices x i (q ∷ qs)) ts (first_of x i q qs) ts
may_stand x i q qs ts h =
    where_is (first_of x i q qs) (g.at_indices x i) (is_new_name x.locals q) h (start (g.indices x i (q ∷ qs)) ts)

may_not_stand : (x : g.ExprScope) (i : ℕ) (q : List ℕ) (qs : List (List ℕ)) (ts : List PlacedLexeme) → is_new_name x.locals q ≡ false → Goes (g.indices x i (q ∷ qs)) ts (g.at_indices x i) ts
may_not_stand x i q qs ts h =
    where_not (first_of x i q qs) (g.at_indices x i) (is_new_name x.locals q) h (start (g.indices x i (q ∷ qs)) ts)

pub bound_is_local : (x : g.ExprScope) (bound : List (List ℕ)) (q : List ℕ) (qs : List (List ℕ)) (ts : List PlacedLexeme) → bound ≡ q ∷ qs → is_new_name x.locals q ≡ false → (i : ℕ) → Old x i ts bound
bound_is_local x bound q qs ts e h i = subst (Old x i ts) (sym e) (may_not_stand x i q qs ts h)

pub bound_is_not : (x : g.ExprScope) (bound : List (List ℕ)) (q : List ℕ) (qs : List (List ℕ)) (ts : List PlacedLexeme) → bound ≡ q ∷ qs → is_new_name x.locals q ≡ true →
    IsNot (the_name q) ts → (i : ℕ) → Old x i ts bound
bound_is_not x bound q qs ts e h n i = subst (Old x i ts) (sym e) (by_other n (may_stand x i q qs ts h))

pub bound_is : (x : g.ExprScope) (bound : List (List ℕ)) (q : List ℕ) (qs : List (List ℕ)) (ts us : List PlacedLexeme) → bound ≡ q ∷ qs → is_new_name x.locals q ≡ true →
    Starts (the_name q) ts tt us → (i : ℕ) → New x i ts qs us bound
bound_is x bound q qs ts us e h p i = subst (New x i ts qs us) (sym e) (by_token p (may_stand x i q qs ts h))

pub rest_of : (names : List (List ℕ)) → length names ≡ 0 → names ≡ []
rest_of [] e = refl
rest_of (x ∷ xs) e = absurd (omega (arith, e))
