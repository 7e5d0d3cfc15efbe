use Rattle.std.proofs.Common.{sym, ap, ◌∙◌, subst, pos, if◌then◌else◌}
use Rattle.std.specs.Int.{int_rem_euclid}
use Rattle.std.specs.Ordering.{int_eq}
use Rattle.vb_value.proofs.BoundLaws.{read_back}
use Rattle.boogie_tree.specs.Value.{Int}
use Rattle.boogie_tree.specs.Whole.{scalar_of}
use Rattle.boogie_meaning.specs.Ends.{Is}
use Rattle.boogie_meaning.specs.Operators.{euclidean}
use Rattle.boogie_eval.specs.Answers.{is}
use Rattle.boogie_eval.specs.Within.{IsWithinScalar}
use Rattle.boogie_eval.proofs.eval_operators.euclidean_remainder.Goals as goal

pub returns-in-Int-Int : goal.returns-in-Int-Int
returns-in-Int-Int c =
    let a = c.in-Int-Int in
    let q = c.whole_remainder in
    let x = read_back a.x (subst (λ v. IsWithinScalar (scalar_of v)) a.is-0 c.requires.left_within) in
    let d = read_back a.d (subst (λ v. IsWithinScalar (scalar_of v)) a.is-1 c.requires.right_within) in
    is ((λ i. euclidean int_rem_euclid (scalar_of (a.is-0 i)) (scalar_of (a.is-1 i))) ∙ (λ i. Is (Int (if int_eq (sym d i) (pos 0) then pos 0 else int_rem_euclid (sym x i) (sym d i)))) ∙
    ap (λ n. Is (Int n)) (sym q.ensures.value ∙ sym (read_back q.result q.ensures.within)))
