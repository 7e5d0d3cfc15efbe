-- No statement and no unit makes a permission negative, whatever is chosen.
use Rattle.std.proofs.Common.{◌≡◌, refl, ℕ, Bool, true, false, not, Option, Some, None, IfSome}
use Rattle.vb_base.specs.declared.labels.Kind.TheVariants as kind
use Rattle.vb_base.specs.declared.places.Pos.{Pos}
use Rattle.vb_value.specs.Bound.{Bound}
use Rattle.vb_value.specs.Content.{Content}
use Rattle.vb_value.specs.Fraction.{Fraction, write, is_positive}
use Rattle.vb_value.proofs.SignLaws.{positive_not_negative}
use Rattle.viper_core.specs.Expr as t
use Rattle.viper_core.specs.Program.{Program}
use Rattle.viper_core.specs.Stmt as s
use Rattle.viper_state.specs.Run.{Opening, Scene, with_variables}
use Rattle.viper_state.specs.State.{Key, Memo, State, content_at, amount_at, empty_state}
use Rattle.viper_state.specs.Within.{IsNotNegative, IsNonnegative}
use Rattle.viper_state.proofs.EachLaws.{amount_not_negative, with_value_nonnegative, with_mask_nonnegative, with_amount_nonnegative, empty_state_nonnegative}
use Rattle.viper_meaning.specs.Contents.{content_in, body_of, positive_amount, closed, is_small, fold_instance, unfold_instance}
use Rattle.viper_meaning.specs.Ends.{Evaluated, found, unless, fitting}
use Rattle.viper_meaning.specs.Forgotten.{memo_in}
use Rattle.viper_meaning.specs.Kept.{IsAny, Keeps}
use Rattle.viper_meaning.specs.KeptRuns.{KeepsRun, at_end}
use Rattle.viper_meaning.specs.Places.{key_of, taken, fill_held}
use Rattle.viper_meaning.specs.Statements.{Configuration, Activation, run_stmt, run_block}
use Rattle.viper_meaning.specs.Units.{unit_run}
use Rattle.viper_meaning.specs.Value.{values, perm_in}
use Rattle.viper_meaning.proofs.ContentLaws.{keeps_more}
use Rattle.viper_meaning.proofs.KeptLaws.{is_kept, fails_kept, then_kept, found_kept}
use Rattle.viper_meaning.proofs.RunKeptLaws.{evaluating_kept, then_do_kept}
use Rattle.viper_meaning.proofs.RunSignLaws.{produce_sign, consume_sign, forget_sign, where_so}
use Rattle.viper_meaning.proofs.SignLaws.{after_any, taken_sign, added_sign, contained_sign, opened_sign}
use Rattle.viper_meaning.proofs.StateKeptLaws as k
use Rattle.viper_meaning.proofs.StateKeptLaws.{IsKeptByRuns, OfState, then_any}

-- ---- folding and unfolding

positive_sign : (sc : Scene) (at : Pos) (q : Fraction) → Keeps IsAny (λ p. is_positive p ≡ true) (positive_amount sc at q)
positive_sign sc at q = where_so (is_positive q) (fails_kept sc at kind.Amount) (λ h. is_kept h)

fill_held_sign : (b : Bound) (p : ℕ) (key : Key) (q : Fraction) (c : Content) (at : Pos) (s : State) → IsNotNegative q → IsNonnegative s → Keeps IsAny IsNonnegative (fill_held b write p key q c at s)
fill_held_sign b p key q c at s i h =
    then_kept (found_kept (amount_at s p key) (amount_not_negative h p key)) (λ held m. then_kept (contained_sign s p key c held h) (λ t u. then_kept (added_sign b held write q at m refl i) (λ all a. is_kept (with_amount_nonnegative u p key all a))))

closed_sign : (b : Bound) (body : t.Assertion) (start : State) (sc : Scene) (p : ℕ) (key : Key) (q : Fraction) (at : Pos) (left : State) → IsNotNegative q → IsNonnegative left → Keeps IsAny IsNonnegative (closed b body start sc p key q at left)
closed_sign b body start sc p key q at left i h = after_any (content_in b body start sc) (λ c. after_any (fitting b (is_small c) at c) (λ c. fill_held_sign b p key q c at left i h))

pub fold_instance_sign : (b : Bound) (program : Program) (f : s.FoldStmt) (s : State) (sc : Scene) → IsNonnegative s → KeepsRun IsAny IsAny IsNonnegative (fold_instance b program f s sc)
fold_instance_sign b program f s sc h =
    then_any (values b f.args s sc) (λ vs. then_any (perm_in b f.amount s sc) (λ q. then_any (found (key_of vs)) (λ key. then_any (found (body_of program f.predicate)) (λ body.
    evaluating_kept (positive_sign sc f.place q) (λ q i. then_do_kept (consume_sign b body s (with_variables vs sc) q s h) (λ left j.
    at_end (closed_sign b body s (with_variables vs sc) f.predicate key q f.place left (positive_not_negative q i) j)))))))

-- what goes on after a test passed it
with_test : {X : Type 0} {P : X → Type 0} (p : Bool) {i : Evaluated X} (e : Evaluated X) → ((Q : X → Type 0) → Keeps IsAny Q i) → Keeps IsAny P (unless (not p) i e) → Keeps IsAny (λ x. P x × (p ≡ true)) (unless (not p) i e)
with_test true e h g = keeps_more (λ x j. (j, refl)) g
with_test false e h g = h _

taken_positive : (b : Bound) (sc : Scene) (s : State) (p : ℕ) (key : Key) (q : Fraction) (at : Pos) → IsNonnegative s → Keeps IsAny (λ t. IsNonnegative t × (is_positive q ≡ true)) (taken b sc s p key q at)
taken_positive b sc s p key q at h = with_test (is_positive q) _ (λ Q. fails_kept sc at kind.Amount) (taken_sign b sc s p key q at h)

pub unfold_instance_sign : (b : Bound) (program : Program) (f : s.FoldStmt) (s : State) (sc : Scene) → IsNonnegative s → Keeps IsAny IsNonnegative (unfold_instance b program f s sc)
unfold_instance_sign b program f s sc h =
    after_any (values b f.args s sc) (λ vs. after_any (perm_in b f.amount s sc) (λ q. after_any (found (key_of vs)) (λ key. after_any (found (body_of program f.predicate)) (λ body.
    then_kept (taken_positive b sc s f.predicate key q f.place h) (λ less i. after_any (found (content_at s f.predicate key)) (λ c. opened_sign b body c less (with_variables vs sc) q i.1 i.0))))))

-- ---- statements and units

pub sign_kept : (b : Bound) (program : Program) → IsKeptByRuns b program IsNonnegative
sign_kept b program = record {
  produces = λ a sc s h. produce_sign b a sc write s refl h;
  consumes = λ a start sc left h. consume_sign b a start sc write left h;
  forgets = forget_sign program.layout;
  folds = fold_instance_sign b program;
  unfolds = unfold_instance_sign b program;
  writes = λ s f r v h. with_value_nonnegative h f r v;
  holds = λ s f r n h. with_mask_nonnegative h f r write refl;
  begins = λ c. begin_with (memo_in program.layout c);
}
  where
    begin_with : (o : Option Memo) → IfSome o (λ m. IsNonnegative (empty_state program.layout m))
    begin_with (Some m) = empty_state_nonnegative program.layout m
    begin_with None = tt

pub run_stmt_sign : (b : Bound) (a : Activation) (x : s.Stmt) (c : Configuration) → IsNonnegative c.state → KeepsRun IsAny IsAny (OfState IsNonnegative) (run_stmt b a x c)
run_stmt_sign b a = k.run_stmt_any b a IsNonnegative (sign_kept b a.program)

pub run_block_sign : (b : Bound) (a : Activation) (xs : s.Stmts) (c : Configuration) → IsNonnegative c.state → KeepsRun IsAny IsAny (OfState IsNonnegative) (run_block b a xs c)
run_block_sign b a = k.run_block_any b a IsNonnegative (sign_kept b a.program)

pub unit_run_sign : (b : Bound) (program : Program) (o : Opening) (n : ℕ) → KeepsRun IsAny IsAny IsNonnegative (unit_run b program n o)
unit_run_sign b program o n = k.unit_run_any b program IsNonnegative (sign_kept b program) o (empty_state_nonnegative program.layout o.memo) n
