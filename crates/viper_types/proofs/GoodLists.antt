-- What holds of each of some terms, of those of a part.
use Rattle.std.proofs.Common.{◌≤◌, List, [], ◌∷◌, All, arith}
use Rattle.std.proofs.lemmas.List.Elements.{All-head, All-tail}
use Rattle.vb_base.specs.Limits.{max_term_depth}
use Rattle.viper_syntax.specs.Term as t
use Rattle.viper_syntax.specs.Good.{depth, terms_depth, amount_depth, amount_terms, HasLiterals, HaveLiterals, AmountHasLiterals}

abbrev pub IsShallow : t.Term → Type 0
IsShallow a = depth a ≤ max_term_depth

pub have_literals : (args : List t.Term) → All HasLiterals args → HaveLiterals (t.terms args)
have_literals [] h = tt
have_literals (a ∷ rest) h = (All-head HasLiterals a rest h, have_literals rest (All-tail HasLiterals a rest h))

pub amount_has_literals : (m : t.Amount) → All HasLiterals (amount_terms m) → AmountHasLiterals m
amount_has_literals t.omitted h = tt
amount_has_literals (t.given a) h = All-head HasLiterals a [] h

pub terms_are_shallow : (args : List t.Term) → All IsShallow args → terms_depth (t.terms args) ≤ max_term_depth
terms_are_shallow [] h = omega arith
terms_are_shallow (a ∷ rest) h = omega (arith, All-head IsShallow a rest h, terms_are_shallow rest (All-tail IsShallow a rest h))

pub amount_is_shallow : (m : t.Amount) → All IsShallow (amount_terms m) → amount_depth m ≤ max_term_depth
amount_is_shallow t.omitted h = omega arith
amount_is_shallow (t.given a) h = All-head IsShallow a [] h
