-- What an assertion contains in a state, and how an instance is folded and unfolded (Viper tutorial, "Predicates"). A content
-- stands for the snapshot of an instance; the rules of contents are this project's own.
use Rattle.std.specs.Prelude.{◌+◌, ℕ, Bool, not, Option, Some, None, slice_get, nat_lt, if◌then◌else◌}
use Rattle.std.specs.Option.{option_map}
use Rattle.vb_base.specs.Limits.{max_content_nodes}
use Rattle.vb_base.specs.declared.labels.Kind.TheVariants as kind
use Rattle.vb_base.specs.declared.places.Pos.{Pos}
use Rattle.vb_value.specs.Bound.{Bound}
use Rattle.vb_value.specs.Content.{Content, Unit, Leaf, Pair, nodes}
use Rattle.vb_value.specs.Fraction.{Fraction, is_positive, write}
use Rattle.viper_core.specs.Expr as t
use Rattle.viper_core.specs.Program.{Program, Predicate}
use Rattle.viper_core.specs.Stmt.{FoldStmt}
use Rattle.viper_state.specs.State.{Key, State, value_at, content_at}
use Rattle.viper_state.specs.Run.{Scene, with_variables}
use Rattle.viper_meaning.specs.Assertions.{place_in, instance_in, consume}
use Rattle.viper_meaning.specs.Ends.{Evaluated, is, fails, then_with, found, unless, fitting}
use Rattle.viper_meaning.specs.Places.{key_of, taken, fill_held}
use Rattle.viper_meaning.specs.Resource.{Resource, Place, Instance}
use Rattle.viper_meaning.specs.Run.{Run, ended, evaluating, then_do}
use Rattle.viper_meaning.specs.Value.{values, opened, amount_of, truth_in, perm_in}

-- ---- contents

-- what a place or an instance contains
abbrev pub contained_at : State → Resource → Option Content
contained_at s (Place field r) = option_map Leaf (value_at s field r)
contained_at s (Instance p key) = content_at s p key

-- by the amount of an accessibility predicate: what is not held by a positive amount contains nothing
abbrev pub content_by : Bound → t.Amt → State → Scene → Resource → Evaluated Content
content_by b m s sc x = then_with (amount_of b m s sc) (λ q. if is_positive q then found (contained_at s x) else is Unit)

-- what an assertion contains. Each expression is read in the state.
abbrev pub content_in : Bound → t.Assertion → State → Scene → Evaluated Content
content_in b (t.Fact e at) s sc = is Unit
content_in b (t.Acc e field m at) s sc = then_with (place_in b e field s sc) (content_by b m s sc)
content_in b (t.Inst p args m at) s sc = then_with (instance_in b p args s sc) (content_by b m s sc)
content_in b (t.And x y) s sc = then_with (content_in b x s sc) (λ c. then_with (content_in b y s sc) (λ d. is (Pair c d)))
content_in b (t.Implies e x) s sc = then_with (truth_in b e s sc) (λ holds. if holds then content_in b x s sc else is Unit)
content_in b (t.ChooseAssertion e x y) s sc = then_with (truth_in b e s sc) (λ holds. if holds then content_in b x s sc else content_in b y s sc)

-- a content of a run has not too many nodes
abbrev pub is_small : Content → Bool
is_small c = nat_lt (nodes c) (max_content_nodes + 1)

-- ---- fold and unfold

-- the body of a predicate that has one
abbrev pub body_among : Option Predicate → Option t.Assertion
body_among (Some d) = d.body
body_among None = None

abbrev pub body_of : Program → ℕ → Option t.Assertion
body_of program p = body_among (slice_get program.predicates p)

-- the amount of a `fold`, at the place of the predicate's name: it has to be positive
abbrev pub positive_amount : Scene → Pos → Fraction → Evaluated Fraction
positive_amount sc at q = unless (not (is_positive q)) (fails sc at kind.Amount) (is q)

-- The instance takes what its body contained at the start, and so much more of it is held. Where some of it is still held, it
-- must contain just that.
abbrev pub closed : Bound → t.Assertion → State → Scene → ℕ → Key → Fraction → Pos → State → Evaluated State
closed b body start sc p key q at left =
    then_with (content_in b body start sc) (λ c. then_with (fitting b (is_small c) at c) (λ c. fill_held b write p key q c at left))

-- `fold`: consumes the body, and holds the instance in its place. The variables of the body are the arguments.
abbrev pub fold_instance : Bound → Program → FoldStmt → State → Scene → Run State
fold_instance b program f s sc =
    evaluating (values b f.args s sc) (λ vs. evaluating (perm_in b f.amount s sc) (λ q. evaluating (found (key_of vs)) (λ key.
    evaluating (found (body_of program f.predicate)) (λ body. evaluating (positive_amount sc f.place q) (λ q.
    then_do (consume b body s (with_variables vs sc) q s) (λ left.
    ended (closed b body s (with_variables vs sc) f.predicate key q f.place left)))))))

-- `unfold`: takes the instance, and produces the body from what it contains
abbrev pub unfold_instance : Bound → Program → FoldStmt → State → Scene → Evaluated State
unfold_instance b program f s sc =
    then_with (values b f.args s sc) (λ vs. then_with (perm_in b f.amount s sc) (λ q. then_with (found (key_of vs)) (λ key.
    then_with (found (body_of program f.predicate)) (λ body. then_with (taken b sc s f.predicate key q f.place) (λ less.
    then_with (found (content_at s f.predicate key)) (λ c. opened b body c less (with_variables vs sc) q))))))
