-- What is typed in one context is typed in each in which more may be said.
use Rattle.std.proofs.Common.{List, ℕ, Contains, refl}
use Rattle.vb_value.specs.declared.values.Ty.{Ty}
use Rattle.viper_core.specs.Expr as t
use Rattle.viper_core.specs.Formed.{below, precondition_context}
use Rattle.viper_core.specs.Part.{IsContext, IsPartExpr, IsPartAssertion, IsWider, widened, Allows, among}
use Rattle.viper_core.specs.Program.{Program, Method}
use Rattle.viper_core.specs.Stmt as s
use Rattle.viper_core.specs.Typing.{Site, Elsewhere, Context, HasType, variable, literal, truth, null, part, negative, negation, binary, choice, field, old, unfolded, Opens, opens, HaveTypes, nothing, also, IsAmount, amount, wildcard, IsAssertion, fact, access, instance, both, implied, chosen, IsFold}

-- ---- with other variables

module _ {c : Context} {us : List Ty} {visible : List ℕ} {site : Site} (w : Allows c us visible site) where
  mutual
    pub typed_among : {e : t.Expr} {u : Ty} → HasType c e u → HasType (among c us visible site) e u
    typed_among (variable {x = x} {u = u} h is) = let seen = w.sees x u h is in variable seen.0 seen.1
    typed_among (literal h) = literal h
    typed_among truth = truth
    typed_among null = null
    typed_among (part h) = part h
    typed_among (negative h i) = negative (typed_among h) i
    typed_among (negation h) = negation (typed_among h)
    typed_among (binary h i is) = binary (typed_among h) (typed_among i) is
    typed_among (choice h i j) = choice (typed_among h) (typed_among i) (typed_among j)
    typed_among (field h is) = field (typed_among h) is
    typed_among (old a h) = old (w.old a) (typed_among h)
    typed_among (unfolded a h) = unfolded (w.outside a) (opened_among h)

    pub opened_among : {o : t.Opened} {u : Ty} → Opens c o u → Opens (among c us visible site) o u
    opened_among (opens d exists has_body args m inner) = opens d exists has_body (all_typed_among args) (typed_among m) (typed_among inner)

    pub all_typed_among : {es : t.Exprs} {tys : List Ty} → HaveTypes c es tys → HaveTypes (among c us visible site) es tys
    all_typed_among nothing = nothing
    all_typed_among (also h i) = also (typed_among h) (all_typed_among i)

  pub amount_among : {m : t.Amt} → IsAmount c m → IsAmount (among c us visible site) m
  amount_among (amount h) = amount (typed_among h)
  amount_among (wildcard a) = wildcard (w.outside a)

  pub assertion_among : {a : t.Assertion} → IsAssertion c a → IsAssertion (among c us visible site) a
  assertion_among (fact h) = fact (typed_among h)
  assertion_among (access h is m) = access (typed_among h) is (amount_among m)
  assertion_among (instance d is args m) = instance d is (all_typed_among args) (amount_among m)
  assertion_among (both h i) = both (assertion_among h) (assertion_among i)
  assertion_among (implied h i) = implied (typed_among h) (assertion_among i)
  assertion_among (chosen h i j) = chosen (typed_among h) (assertion_among i) (assertion_among j)

  pub fold_among : {f : s.FoldStmt} → IsFold c f → IsFold (among c us visible site) f
  fold_among h = record {
    predicate = h.predicate;
    body = h.body;
    exists = h.exists;
    has_body = h.has_body;
    args = all_typed_among h.args;
    amount = typed_among h.amount;
  }

-- ---- with the same variables, of which more are visible

pub wider_allows : {c : Context} {visible : List ℕ} {site : Site} → IsWider c visible site → Allows c c.vars visible site
wider_allows w = record { sees = λ x u h is. (w.sees x h, is); old = w.old; outside = w.outside }

pub typed_wider : {c : Context} {e : t.Expr} {u : Ty} {visible : List ℕ} {site : Site} → IsWider c visible site → HasType c e u → HasType (widened c visible site) e u
typed_wider w = typed_among (wider_allows w)

pub all_typed_wider : {c : Context} {es : t.Exprs} {us : List Ty} {visible : List ℕ} {site : Site} → IsWider c visible site → HaveTypes c es us → HaveTypes (widened c visible site) es us
all_typed_wider w = all_typed_among (wider_allows w)

pub assertion_wider : {c : Context} {a : t.Assertion} {visible : List ℕ} {site : Site} → IsWider c visible site → IsAssertion c a → IsAssertion (widened c visible site) a
assertion_wider w = assertion_among (wider_allows w)

pub fold_wider : {c : Context} {f : s.FoldStmt} {visible : List ℕ} {site : Site} → IsWider c visible site → IsFold c f → IsFold (widened c visible site) f
fold_wider w = fold_among (wider_allows w)

-- ---- parts

pub part_wider : {c : Context} {e : t.Expr} {u : Ty} {visible : List ℕ} {site : Site} → IsWider c visible site → IsContext (widened c visible site) → IsPartExpr c e u → IsPartExpr (widened c visible site) e u
part_wider w z h = record { context = z; typed = typed_wider w h.typed; nested = h.nested }

pub assertion_part_wider : {c : Context} {a : t.Assertion} {visible : List ℕ} {site : Site} → IsWider c visible site → IsContext (widened c visible site) → IsPartAssertion c a → IsPartAssertion (widened c visible site) a
assertion_part_wider w z h = record { context = z; typed = assertion_wider w h.typed; nested = h.nested }

-- what a precondition says may be said wherever the parameters are visible
pub precondition_wider : (p : Program) (m : Method) (visible : List ℕ) → ((x : ℕ) → Contains (below m.params) x → Contains visible x) → IsWider (precondition_context p m) visible Elsewhere
precondition_wider p m visible sees = record { sees = sees; old = λ h. refl; outside = λ h. h }
