use Rattle.std.proofs.Common.{◌≡◌, ◌<◌, arith, length, take}
use Rattle.std.proofs.lemmas.List.{length-take-le}
use Rattle.vb_outer.proofs.shelf.read_more.Goals as goal

pub returns : goal.returns
returns g c =
    let more = c.in_ok-count.ensures in
    record {
      ok = (take c.in_ok-count.count c.read.new.buf, length-take-le _ c.read.new.buf more.bound, more.bytes.0, c.in_ok-extend_from_slice.ensures.items);
      bound = omega (arith, more.bound, c.read.auto.buf);
      end = λ none room.
          let zero : c.in_ok-count.count ≡ 0 = cc in
          let some : 0 < length c.read.new.buf = omega (arith, room, c.read.auto.buf) in
          more.bytes.1 zero some;
      err = tt;
      failed = λ other. cc;
      long = λ other. cc;
      later = omega (arith, more.cause);
      same = more.same;
    }
