-- What a function answers at each of its exits, over any parts.
use Rattle.std.proofs.Common.{◌≡◌, ◌∙◌, refl, sym, ap, ℕ, ◌+◌, ◌<◌, ◌≤◌, List, [], ◌∷◌, ◌++◌, length, get_or, drop, map, append_assoc}
use Rattle.std.proofs.lemmas.List.{append-nil, at_drop_more, at_drop_all}
use Rattle.viper_syntax.specs.View.{term_of, terms_of}
use Rattle.viper_syntax.specs.declared.terms.Term as term
use Rattle.viper_scope.specs.declared.rules.RuleFault.{RuleFault}
use Rattle.viper_scope.specs.declared.rules.RuleFault.TheVariants as fault
use Rattle.viper_scope.specs.Answers.{Refuses}
use Rattle.viper_scope.specs.Context.{Context}
use Rattle.viper_scope.specs.Outcome.{Judged, Found, Broken, then_more, prefixed}
use Rattle.viper_scope.specs.Scope.{VariableScope}
use Rattle.viper_types.specs.Typing.{typing, typing_all, asserting}
use Rattle.viper_types.specs.Stepping.{asserting_all}

-- ---- parts in order

-- a list of parts, each judged in one way
abbrev pub each : {A X : Type 0} → (A → Judged X) → List A → Judged (List X)
each one [] = Found []
each one (a ∷ rest) = then_more (one a) (each one rest)

pub prefixed_nothing : {X : Type 0} (j : Judged (List X)) → prefixed [] j ≡ j
prefixed_nothing (Found xs) = refl
prefixed_nothing (Broken p r) = refl

prefixed_more : {X : Type 0} (done : List X) (x : X) (j : Judged (List X)) → prefixed (done ++ x ∷ []) j ≡ prefixed done (then_more (Found x) j)
prefixed_more done x (Found xs) = ap Found (append_assoc done (x ∷ []) xs)
prefixed_more done x (Broken p r) = refl

-- a turn of a loop over parts: one more is done
pub one_done : {X : Type 0} (done : List X) (x : X) (j : Judged X) (left rest all : Judged (List X)) → left ≡ then_more j rest → j ≡ Found x → prefixed done left ≡ all → prefixed (done ++ x ∷ []) rest ≡ all
one_done done x j left rest all is found so_far =
    prefixed_more done x rest ∙ ap (λ k. prefixed done (then_more k rest)) (sym found) ∙ ap (prefixed done) (sym is) ∙ so_far

-- a part in a loop that breaks a rule
pub one_refused : {X : Type 0} (done : List X) (j : Judged X) (left rest all : Judged (List X)) (f : RuleFault) → left ≡ then_more j rest → Refuses j f → prefixed done left ≡ all → Refuses all f
one_refused done j left rest all fault.Memory is h so_far = tt
one_refused done j left rest all (fault.Broken p r) is h so_far = sym so_far ∙ ap (prefixed done) is ∙ ap (λ k. prefixed done (then_more k rest)) h

-- the end of a loop over parts
pub all_done : {X : Type 0} (done : List X) (left all : Judged (List X)) → left ≡ Found [] → prefixed done left ≡ all → all ≡ Found done
all_done done left all none so_far = sym so_far ∙ ap (prefixed done) none ∙ ap Found (append-nil done)

next_left : {A X : Type 0} (one : A → Judged X) (items : List A) (i : ℕ) (a : A) → i < length items → a ≡ get_or items i a → each one (drop i items) ≡ then_more (one a) (each one (drop (i + 1) items))
next_left one items i a within is =
    at_drop_more (each one) items i a within ∙ ap (λ b. then_more (one b) (each one (drop (i + 1) items))) (sym is)

pub one_more : {A X : Type 0} (one : A → Judged X) (items : List A) (i : ℕ) (a : A) (done : List X) (x : X) (all : Judged (List X)) → i < length items → a ≡ get_or items i a → one a ≡ Found x → prefixed done (each one (drop i items)) ≡ all → prefixed (done ++ x ∷ []) (each one (drop (i + 1) items)) ≡ all
one_more one items i a done x all within is found so_far =
    one_done done x (one a) (each one (drop i items)) (each one (drop (i + 1) items)) all (next_left one items i a within is) found so_far

pub one_broken : {A X : Type 0} (one : A → Judged X) (items : List A) (i : ℕ) (a : A) (done : List X) (all : Judged (List X)) (f : RuleFault) → i < length items → a ≡ get_or items i a → Refuses (one a) f → prefixed done (each one (drop i items)) ≡ all → Refuses all f
one_broken one items i a done all f within is h so_far =
    one_refused done (one a) (each one (drop i items)) (each one (drop (i + 1) items)) all f (next_left one items i a within is) h so_far

pub none_left : {A X : Type 0} (one : A → Judged X) (items : List A) (i : ℕ) (done : List X) (all : Judged (List X)) → length items ≤ i → prefixed done (each one (drop i items)) ≡ all → all ≡ Found done
none_left one items i done all over so_far = all_done done (each one (drop i items)) all (at_drop_all (each one) items i over) so_far

pub typing_all-each : (c : Context) (sc : VariableScope) (items : List term.Term) → typing_all c sc (terms_of items) ≡ each (λ a. typing c sc (term_of a)) items
typing_all-each c sc [] = refl
typing_all-each c sc (a ∷ rest) = ap (then_more (typing c sc (term_of a))) (typing_all-each c sc rest)

pub asserting_all-each : (c : Context) (sc : VariableScope) (items : List term.Term) → asserting_all c sc (map term_of items) ≡ each (λ a. asserting c sc (term_of a)) items
asserting_all-each c sc [] = refl
asserting_all-each c sc (a ∷ rest) = ap (then_more (asserting c sc (term_of a))) (asserting_all-each c sc rest)
