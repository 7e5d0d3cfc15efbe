-- A program declares no more names than it has tokens.
use Rattle.std.proofs.Common.{◌≡◌, ap, ◌∙◌, ℕ, zero, suc, ◌+◌, ◌≤◌, Bool, true, false, cond, List, [], ◌∷◌, ◌++◌, length, arith, if◌then◌else◌}
use Rattle.std.proofs.lemmas.List.{length-append}
use Rattle.viper_syntax.specs.declared.tokens.Token.{Token}
use Rattle.viper_syntax.specs.Stmt as s
use Rattle.viper_syntax.specs.Decl as d
use Rattle.viper_syntax.specs.Good.{formal_names, block_names, arm_names, stmts_names, arms_names, body_names, decls_names}
use Rattle.viper_grammar.specs.Tests as v
use Rattle.viper_grammar.specs.Tests.{Kind, Value, Test}
use Rattle.viper_grammar.specs.Grammar as g
use Rattle.viper_grammar.specs.Grammar.{Symbol, Rule, give, need, when, read, rule}
use Rattle.viper_grammar.specs.Spells.{Derives, given, needed, taken, passed, called}
use Rattle.viper_parse.proofs.Leaves.{names_in, held_names, decls_names_more, stmts_names_more, arms_names_more, formals_more}

-- of so many names that were declared so far, and one more for each token, the rest makes do
data Counts (s : Kind) : ℕ → Rule s → Type 0 where
  cg : {n : ℕ} {x : Value s} → length (names_in s x) ≤ n → Counts s n (give x)
  cn : {n : ℕ} {r : Kind} {c : Test true r} {go : Value r → Rule s} → ((x : Value r) → Counts s (n + 1) (go x)) → Counts s n (need c go)
  cw : {n : ℕ} {b : Bool} {r : Kind} {c : Test b r} {go : Value r → Rule s} {other : Rule s} → ((x : Value r) → Counts s (n + 1) (go x)) → Counts s n other → Counts s n (when c go other)
  cr : {n : ℕ} {r : Kind} {a : Symbol r} {go : Value r → Rule s} → ((y : Value r) (m : ℕ) → length (names_in r y) ≤ length (held_names a) + m → Counts s (n + m) (go y)) → Counts s n (read a go)

counts_cond : {s : Kind} {n : ℕ} (b : Bool) {x y : Rule s} → Counts s n x → Counts s n y → Counts s n (cond b x y)
counts_cond true h i = h
counts_cond false h i = i

counts_if : {s : Kind} {n : ℕ} (b : Bool) {x y : Rule s} → Counts s n x → Counts s n y → Counts s n (if b then x else y)
counts_if true h i = h
counts_if false h i = i

both : {X : Type 0} (xs ys zs : List X) → xs ≡ ys ++ zs → length xs ≡ length ys + length zs
both xs ys zs e = ap length e ∙ length-append ys zs

counts : {s : Kind} (a : Symbol s) → Counts s (length (held_names a)) (rule a)
counts (g.Program ds) =
    cw (λ at. cr (λ x m h. cr (λ _ m' h'. cr (λ z m'' h''. let e = both _ (decls_names ds) _ (decls_names_more ds (d.Field x)) in cg (omega arith)))))
    (cw (λ at. cr (λ x m h. cr (λ z m' h'. let e = both _ (decls_names ds) _ (decls_names_more ds x) in cg (omega arith))))
    (cw (λ at. cr (λ x m h. cr (λ z m' h'. let e = both _ (decls_names ds) _ (decls_names_more ds x) in cg (omega arith))))
    (cg (omega arith))))
counts (g.Predicate at) = cn (λ x. cn (λ _. cr (λ xs m h. cw (λ _. cr (λ p m' h'. cn (λ _. cg (omega arith)))) (cg (omega arith)))))
counts (g.Method at) =
    cn (λ x. cn (λ _. cr (λ xs m h. cr (λ ys m' h'. cr (λ cs m'' h''. cr (λ b l i.
    let e = length-append (formal_names xs) (formal_names ys ++ body_names b) in let f = length-append (formal_names ys) (body_names b) in cg (omega arith)))))))
counts g.Returns = cw (λ _. cn (λ _. cr (λ z m h. cg (omega arith)))) (cg (omega arith))
counts (g.Clauses cs) = cw (λ w. cr (λ p m h. cr (λ _ m' h'. cr (λ z m'' h''. cg (omega arith))))) (cg (omega arith))
counts g.Body = cw (λ at. cr (λ ss m h. cg (omega arith))) (cg (omega arith))
counts g.Formals = cw (λ _. cg (omega arith)) (cr (λ x m h. cr (λ z m' h'. cg (omega arith))))
counts (g.MoreFormals xs) =
    cw (λ _. cr (λ x m h. cr (λ z m' h'. let e = both _ (formal_names xs) _ (formals_more xs x) in cg (omega arith)))) (cn (λ _. cg (omega arith)))
counts g.FormalOf = cn (λ x. cn (λ _. cn (λ w. cg (omega arith))))
counts g.Block = cn (λ at. cr (λ ss m h. cg (omega arith)))
counts (g.Statements ss) =
    cw (λ _. cg (omega arith))
    (cr (λ a m h. cr (λ _ m' h'. cr (λ z m'' h''. let e = both _ (stmts_names (s.stmts ss)) _ (stmts_names_more ss a) in cg (omega arith)))))
counts g.Statement =
    cw (λ at. cr (λ z m h. cg (omega arith))) (cw (λ w. cr (λ p m h. cg (omega arith))) (cw (λ at. cr (λ x m h. cg (omega arith))) (cw (λ at. cr (λ x m h. cg (omega arith)))
    (cw (λ at. cr (λ a m h. cr (λ z m' h'. let e = length-append (arm_names a) [] in cg (omega arith)))) (cw (λ at. cr (λ z m h. cg (omega arith))) (cn (λ x. cr (λ z m h. cg (omega arith)))))))))
counts (g.Variable at) = cr (λ x m h. cw (λ _. cr (λ r m' h'. cg (omega arith))) (cg (omega arith)))
counts (g.AfterName x) =
    cw (λ _. cr (λ es m h. cg (omega arith)))
    (cw (λ _. cn (λ y. cr (λ xs m h. cn (λ _. cr (λ z m' h'. cg (omega arith)))))) (cr (λ xs m h. cn (λ _. cr (λ r m' h'. cg (omega arith))))))
counts (g.Arm at) = cr (λ p m h. cr (λ b m' h'. cg (omega arith)))
counts (g.Arms bs) =
    cw (λ at. cr (λ a m h. cr (λ z m' h'. let e = both _ (arms_names (s.arms bs)) _ (arms_names_more bs a) in cg (omega arith))))
    (cw (λ _. cr (λ b m h. let e = length-append (arms_names (s.arms bs)) (block_names b) in cg (omega arith))) (let e = length-append (arms_names (s.arms bs)) [] in cg (omega arith)))
counts (g.WhileLoop at) = cr (λ p m h. cr (λ is m' h'. cr (λ b m'' h''. cg (omega arith))))
counts (g.Invariants is) = cw (λ _. cr (λ p m h. cr (λ _ m' h'. cr (λ z m'' h''. cg (omega arith))))) (cg (omega arith))
counts g.Rhs = cw (λ at. cr (λ z m h. cg (omega arith))) (cr (λ p m h. cg (omega arith)))
counts (g.Creation at) = cn (λ _. cw (λ _. cg (omega arith)) (cw (λ _. cn (λ _. cg (omega arith))) (cn (λ x. cr (λ xs m h. cn (λ _. cg (omega arith)))))))
counts (g.Separated o xs) = cw (λ _. cn (λ x. cr (λ z m h. cg (omega arith)))) (cg (omega arith))
counts g.Semicolons = cw (λ _. cr (λ z m h. cg (omega arith))) (cg (omega arith))
counts g.InstanceOf = cw (λ _. cn (λ _. cr (λ c m h. cr (λ a m' h'. cg (omega arith))))) (cr (λ c m h. cg (omega arith)))
counts g.CallOf = cn (λ x. cn (λ _. cr (λ es m h. cg (omega arith))))
counts g.Arguments = cw (λ _. cg (omega arith)) (cr (λ p m h. cr (λ es m' h'. cg (omega arith))))
counts (g.MoreArguments es) = cw (λ _. cr (λ p m h. cr (λ all m' h'. cg (omega arith)))) (cn (λ _. cg (omega arith)))
counts g.Group = cn (λ _. cr (λ p m h. cn (λ _. cg (omega arith))))
counts g.Amount = cw (λ _. cr (λ p m h. cn (λ _. cg (omega arith)))) (cn (λ _. cg (omega arith)))
counts g.Term = cr (λ p m h. counts_cond (g.is_open p.shape) (cg (omega arith)) (cw (λ at. cr (λ q m' h'. cn (λ _. cr (λ r m'' h''. cg (omega arith))))) (cg (omega arith))))
counts (g.Level zero) = cr (λ p m h. cg (omega arith))
counts (g.Level (suc n)) = cr (λ p m h. cr (λ q m' h'. cg (omega arith)))
counts (g.Chain n p) = counts_cond (g.is_open p.shape) (cg (omega arith)) (cw (λ o. cr (λ q m h. counts_if (g.repeats n) (cr (λ r m' h'. cg (omega arith))) (cg (omega arith)))) (cg (omega arith)))
counts g.Unary = cw (λ o. cr (λ p m h. cg (omega arith))) (cw (λ at. cr (λ i m h. cn (λ _. cr (λ p m' h'. cg (omega arith))))) (cr (λ p m h. cr (λ q m' h'. cg (omega arith)))))
counts (g.Fields p) = cw (λ _. cn (λ f. cr (λ q m h. cg (omega arith)))) (cg (omega arith))
counts g.First =
    cw (λ x. cw (λ _. cr (λ es m h. cg (omega arith))) (cg (omega arith))) (cw (λ n. cg (omega arith)) (cw (λ w. cg (omega arith))
    (cw (λ at. cr (λ p m h. cg (omega arith))) (cw (λ at. cn (λ _. cr (λ p m h. cr (λ a m' h'. cg (omega arith))))) (cr (λ p m h. cg (omega arith)))))))

pub one_longer : (n w : ℕ) (ts us : List Token) (k : Token) → ts ≡ k ∷ us → w ≤ n + 1 + length us → w ≤ n + length ts
one_longer n w ts us k e h = let l : length ts ≡ length (k ∷ us) = ap length e in omega arith

pub longer_by : (n w : ℕ) (ts us : List Token) → w ≤ n + length ts + length us → w ≤ n + length (ts ++ us)
longer_by n w ts us h = let l : length (ts ++ us) ≡ length ts + length us = length-append ts us in omega arith

counted : {s : Kind} {a : Rule s} {n : ℕ} {ts : List Token} {x : Value s} → Counts s n a → Derives s a ts x → length (names_in s x) ≤ n + length ts
counted (cg h) given = omega arith
counted {s = s} {n = n} {ts = ts} {x = x} (cn f) (needed {us = us} {v = y} q d) = one_longer n (length (names_in s x)) ts us q.token q.is (counted (f y) d)
counted {s = s} {n = n} {ts = ts} {x = x} (cw f o) (taken {us = us} {v = y} q d) = one_longer n (length (names_in s x)) ts us q.token q.is (counted (f y) d)
counted (cw f o) (passed d) = counted o d
counted {s = s} {n = n} {x = x} (cr {a = a} f) (called {ts = ts} {us = us} {y = y} d e) =
    longer_by n (length (names_in s x)) ts us (counted (f y (length ts) (counted (counts a) d)) e)

pub all_counted : {ts : List Token} {ds : List d.Decl} → Derives v.decls (rule (g.Program [])) ts ds → length (decls_names ds) ≤ length ts
all_counted h = omega (arith, counted (counts (g.Program [])) h)
