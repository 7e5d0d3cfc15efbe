use Rattle.std.proofs.Common.{◌≤◌, ◌++◌, ◌+◌, Ok, length, arith, length-append, ap, ◌∙◌, refl}
use Rattle.std.proofs.lemmas.List.{length-take}
use Rattle.vb_outer.specs.Shelf.{Takes}
use Rattle.vb_outer.proofs.ShelfLaws.{takes_both, takes_nothing}
use Rattle.vb_outer.proofs.shelf.read_rest.Goals as goal

pub returns-in_err-count-clause-taken : goal.returns-in_err-count-clause-taken
returns-in_err-count-clause-taken g c =
    let err = c.in_err-count.ensures.err in
    let so_far = c.loop-bytes.invariant in
    let bytes = c.loop-bytes.bytes.items in
    (bytes ++ err.0, omega (arith, length-append bytes err.0, err.1, length-take (c.min-room.result + 1) c.deref_mut.result.now, c.loop-bytes.bytes.ok.0), takes_both _ _ _ bytes err.0 so_far.taken err.2)

pub loop-bytes-preserved : goal.loop-bytes-preserved
loop-bytes-preserved g c =
    let so_far = c.loop-bytes.invariant in
    let more = c.in_ok-count.ensures in
    let bytes = c.loop-bytes.bytes.items in
    record {
      taken = rw more.ok.3 (takes_both _ _ _ bytes more.ok.0 so_far.taken more.ok.2);
      within = omega (arith, length-append bytes more.ok.0, more.ok.1, ap length more.ok.3, c.read_more.new.bytes.ok.0, length-take (c.min-room.result + 1) c.deref_mut.result.now, c.loop-bytes.bytes.ok.0);
      later = omega (arith, so_far.later, more.later);
      same = more.same ∙ so_far.same;
      room = so_far.room;
    }

pub loop-bytes-smaller : goal.loop-bytes-smaller
loop-bytes-smaller g c =
    let more = c.in_ok-count.ensures in
    omega (arith, length-append c.loop-bytes.bytes.items more.ok.0, more.ok.1, ap length more.ok.3, c.read_more.new.bytes.ok.0, c.loop-bytes.bytes.ok.0)

pub loop-bytes-init : goal.loop-bytes-init
loop-bytes-init g c =
    record {
      taken = rw c.new-bytes.ensures.items (takes_nothing _ _ refl);
      within = omega (arith, c.new-bytes.ensures.len);
      later = omega arith;
      same = refl;
      room = c.in_ok-chunk.ensures;
    }

pub returns : goal.returns
returns g c =
    let so_far = c.loop-bytes.invariant in
    let bytes = c.loop-bytes.bytes.items in
    record {
      whole = tt;
      within = tt;
      long = λ _. (bytes, omega (arith, so_far.within, c.loop-bytes.bytes.ok.0), so_far.taken);
      failed = λ other. cc;
      taken = (bytes, omega (arith, so_far.within, c.loop-bytes.bytes.ok.0), so_far.taken);
      later = so_far.later;
      same = so_far.same;
    }

pub returns-then-count-eq0 : goal.returns-then-count-eq0
returns-then-count-eq0 g c =
    let so_far = c.loop-bytes.invariant in
    let more = c.in_ok-count.ensures in
    let bytes = c.loop-bytes.bytes.items in
    let taken : Takes (g.H.Shelf.left c.args.shelf.now) (g.H.Shelf.left c.read_more.new.shelf) c.read_more.new.bytes.items = rw more.ok.3 (takes_both _ _ _ bytes more.ok.0 so_far.taken more.ok.2) in
    let within : length c.read_more.new.bytes.items ≤ c.args.limit = omega (arith, length-append bytes more.ok.0, more.ok.1, ap length more.ok.3, c.loop-bytes.bytes.ok.0) in
    record {
      whole = (taken, more.end (ap Ok c.if-count-eq0.true) (omega (arith, length-take (c.min-room.result + 1) c.deref_mut.result.now, c.deref_mut.ensures.len, so_far.room)));
      within = within;
      long = λ other. cc;
      failed = λ other. cc;
      taken = (c.read_more.new.bytes.items, omega (arith, within), taken);
      later = omega (arith, so_far.later, more.later);
      same = more.same ∙ so_far.same;
    }
