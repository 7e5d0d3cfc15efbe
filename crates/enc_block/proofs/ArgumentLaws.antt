-- The arguments of a call get locals of their own, which hold their values until the call has ended.
use Rattle.std.proofs.Common.{◌≡◌, ◌+◌, ◌<◌, ◌≤◌, ℕ, List, [], ◌∷◌, length, append-nil, None, All, slice_set, refl, ap, subst, ◌∙◌, arith}
use Rattle.std.proofs.lemmas.List.Elements.{All-nil, All-cons, All-head, All-tail}
use Rattle.std.proofs.lemmas.Option.{slice_get_within}
use Rattle.vb_value.specs.Bound.{Bound}
use Rattle.vb_value.specs.declared.values.Ty.{Ty}
use Rattle.vb_value.specs.declared.values.Value.{Value}
use Rattle.boogie_tree.specs.Program.{BType}
use Rattle.boogie_tree.specs.Stmt as stmt
use Rattle.boogie_tree.specs.Value.{One}
use Rattle.boogie_tree.specs.Values.{plain_type}
use Rattle.boogie_meaning.specs.Run.{brun}
use Rattle.boogie_meaning.proofs.PatternLaws.{set_here}
use Rattle.moves.specs.Scalars.{scalar}
use Rattle.enc_expr.specs.Code.{Emitting, join, gives, then_emit, declares, puts}
use Rattle.enc_expr.specs.Pieces.{Operand, one}
use Rattle.enc_expr.specs.Coupling.{Env, AreLocals}
use Rattle.enc_expr.specs.Alike as alike
use Rattle.enc_expr.specs.Alike.{KeptBut, AreValues, AreLocated}
use Rattle.enc_expr.proofs.AtomLaws.{sets_nothing, sets_then, sets_one, values_more}
use Rattle.enc_expr.proofs.CodeLaws.{gives_counted, then_counted, declares_counted, puts_counted}
use Rattle.enc_expr.proofs.RunLaws.{join_skip}
use Rattle.enc_expr.proofs.Simulated.{IsCounted, Sets}
use Rattle.enc_block.specs.Encoding.{fixed}

-- ---- the code

pub fixed_counted : (xs : List Operand) → IsCounted (fixed xs)
fixed_counted [] = gives_counted []
fixed_counted (x ∷ xs) =
    let last : ℕ → Emitting (List ℕ) = λ i. then_emit (fixed xs) (λ is. gives (i ∷ is)) in
    then_counted (declares (plain_type x.base)) (λ i. then_emit (puts None (one (stmt.Assign i x.expr))) (λ u. last i)) (declares_counted (plain_type x.base))
    (λ i. then_counted (puts None (one (stmt.Assign i x.expr))) (λ u. last i) (puts_counted None (one (stmt.Assign i x.expr)))
    (λ u. then_counted (fixed xs) (λ is. gives (i ∷ is)) (fixed_counted xs) (λ is. gives_counted (i ∷ is))))

-- the code runs through, and then the new locals hold the values
pub record AreFixed (ts : List BType) (b : Bound) (n : ℕ) (xs : List Operand) (E : Env) (vs : List Value) : Type 0 where
  pub after : Env
  pub sets : Sets ts b (fixed xs n).stmts n E after
  pub located : AreLocated (fixed xs n).next after (fixed xs n).value vs
  pub behind : All (λ i. n ≤ i) (fixed xs n).value

pub fixed_set : (ts : List BType) (b : Bound) (n : ℕ) (E : Env) (xs : List Operand) (us : List Ty) (vs : List Value) → length E ≡ length ts → AreValues b n E xs us vs → AreLocals ts n (fixed xs n).locals → AreFixed ts b n xs E vs
fixed_set ts b n E [] us vs full alike.AreValues.none locals = record { after = E; sets = sets_nothing ts b n E; located = alike.AreLocated.none; behind = All-nil (λ i. n ≤ i) }
fixed_set ts b n E (x ∷ xs) us vs full (alike.AreValues.more {v = v} {vs = ws} typed here rest) locals =
    let F = slice_set E n (One (scalar v)) in
    let first : Sets ts b (one (stmt.Assign n x.expr)) n E F = sets_one ts b n x.expr (scalar v) E (here E (λ i below. refl)) in
    let within : n < length E = omega (arith, slice_get_within ts n (plain_type x.base) locals.0, full) in
    let more = fixed xs (n + 1) in
    let others = fixed_set ts b (n + 1) F xs _ ws (first.kept.length ∙ full) (values_more (omega arith) first.kept.same rest) (subst (AreLocals ts (n + 1)) (append-nil more.locals) locals.1) in
    let second : Sets ts b (join more.stmts stmt.skip) (n + 1) F others.after = record { done = λ cs. ap (λ ys. brun ts b ys F cs) (join_skip more.stmts) ∙ others.sets.done cs; kept = others.sets.kept } in
    record {
      after = others.after;
      sets = sets_then (omega arith) first second;
      located = alike.AreLocated.more (omega (arith, (fixed_counted xs).next (n + 1))) (others.sets.kept.same n (omega arith) ∙ set_here E n (One (scalar v)) within) others.located;
      behind = All-cons (λ i. n ≤ i) n more.value (omega arith) (λ i d inside. omega (arith, others.behind i d inside));
    }

-- ---- locals that hold values

-- what is changed is none of them
pub located_but : {O : ℕ → Type 0} {n : ℕ} {E F : Env} {is : List ℕ} {vs : List Value} → KeptBut O n E F → All (λ i. O i → ⊥) is → AreLocated n E is vs → AreLocated n F is vs
located_but kept others alike.AreLocated.none = alike.AreLocated.none
located_but {O} kept others (alike.AreLocated.more {i = i} {is = is} below here rest) =
    alike.AreLocated.more below (kept.same i below (All-head (λ j. O j → ⊥) i is others) ∙ here) (located_but kept (All-tail (λ j. O j → ⊥) i is others) rest)
