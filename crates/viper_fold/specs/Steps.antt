-- Parts of the meaning that the code has in functions of their own.
use Rattle.std.specs.Prelude.{ℕ, List, Option, Some, None, if◌then◌else◌}
use Rattle.vb_base.specs.declared.places.Pos.{Pos}
use Rattle.vb_value.specs.Bound.{Bounded}
use Rattle.vb_value.specs.Content.{Content, Unit}
use Rattle.vb_value.specs.Fraction.{Fraction, is_positive}
use Rattle.vb_value.specs.declared.values.Value.{Value}
use Rattle.viper_core.specs.Expr.{Assertion}
use Rattle.viper_core.specs.Program.{Program}
use Rattle.viper_core.specs.Stmt.{FoldStmt}
use Rattle.viper_state.specs.State.{Key, State, content_at}
use Rattle.viper_state.specs.Run.{Scene, with_variables}
use Rattle.viper_meaning.specs.Assertions.{consume}
use Rattle.viper_meaning.specs.Contents.{contained_at, content_in, is_small, body_of, positive_amount, closed}
use Rattle.viper_meaning.specs.Ends.{Evaluated, is, then_with, found, fitting}
use Rattle.viper_meaning.specs.Places.{key_of, taken}
use Rattle.viper_meaning.specs.Resource.{Resource}
use Rattle.viper_meaning.specs.Run.{Run, ended, evaluating, then_do}
use Rattle.viper_meaning.specs.Value.{opened}

-- what is contained where so much is held
abbrev pub part_of : State → Resource → Fraction → Evaluated Content
part_of s x q = if is_positive q then found (contained_at s x) else is Unit

-- the content, if a run may have it
abbrev pub if_small : Content → Option Content
if_small c = if is_small c then Some c else None

-- what an assertion contains, which has to be small
abbrev pub small_content_in : Assertion → State → Scene → Pos → Evaluated Content
small_content_in a s sc at = then_with (content_in Bounded a s sc) (λ c. fitting Bounded (is_small c) at c)

-- the rest of a `fold` once the instance and the amount are known: the body is consumed, and the instance held in its place
abbrev pub folded_by : Assertion → Scene → ℕ → Key → Fraction → Pos → State → Run State
folded_by body inside p key q at s = then_do (consume Bounded body s inside q s) (λ left. ended (closed Bounded body s inside p key q at left))

-- a `fold` once the values of the arguments and the amount are known
abbrev pub folded_at : Program → FoldStmt → List Value → Fraction → State → Scene → Run State
folded_at program f vs q s sc =
    evaluating (found (key_of vs)) (λ key. evaluating (found (body_of program f.predicate)) (λ body. evaluating (positive_amount sc f.place q) (λ q.
    folded_by body (with_variables vs sc) f.predicate key q f.place s)))

-- an `unfold` once the values of the arguments and the amount are known
abbrev pub unfolded_at : Program → FoldStmt → List Value → Fraction → State → Scene → Evaluated State
unfolded_at program f vs q s sc =
    then_with (found (key_of vs)) (λ key. then_with (found (body_of program f.predicate)) (λ body. then_with (taken Bounded sc s f.predicate key q f.place) (λ less.
    then_with (found (content_at s f.predicate key)) (λ c. opened Bounded body c less (with_variables vs sc) q))))
