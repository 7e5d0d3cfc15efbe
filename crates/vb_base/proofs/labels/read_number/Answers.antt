use Rattle.std.proofs.lemmas.List.Sums.{prefix_len-le-length}
use Rattle.std.specs.Char.{is_ascii_digit}
use Rattle.vb_base.proofs.Numbers.{digits_of_front, front_is_number, number_from_front}
use Rattle.vb_base.proofs.labels.read_number.Goals as goal

pub split_at-requires : goal.split_at-requires
split_at-requires c = rw c.digit_count.ensures (prefix_len-le-length is_ascii_digit c.args.bytes.now)

pub number_of-requires : goal.number_of-requires
number_of-requires c = rw (c.split_at.ensures.front, c.digit_count.ensures) (digits_of_front c.args.bytes.now)

pub returns-in_err-number : goal.returns-in_err-number
returns-in_err-number c =
    rw c.from_residual.ensures (λ n rest h. c.in_err-number.ensures n (rw (c.split_at.ensures.front, c.digit_count.ensures) (front_is_number h)))

pub returns : goal.returns
returns c = rw (c.split_at.ensures.back, c.digit_count.ensures) (number_from_front _ _ (rw (c.split_at.ensures.front, c.digit_count.ensures) at c.in_ok-number.ensures))
