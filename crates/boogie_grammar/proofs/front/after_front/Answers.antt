use Rattle.boogie_grammar.proofs.FrontLaws.{lacks}
use Rattle.boogie_grammar.proofs.front.after_front.Goals as goal

pub returns-else-same-front : goal.returns-else-same-front
returns-else-same-front c =
    let h = c.same_len-same.ensures in
    lacks c.args.bytes.now c.args.front.now c.same_len-same.result c.place_after.result h.within_bytes h.within_front c.if-same-front.false h.same h.differs c.place_after.ensures
