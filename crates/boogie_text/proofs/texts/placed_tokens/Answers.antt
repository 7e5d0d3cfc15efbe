use Rattle.boogie_text.specs.PublicTokens.{no_prelude}
use Rattle.boogie_text.proofs.texts.placed_tokens.Goals as goal

pub returns-in-Err : goal.returns-in-Err
returns-in-Err c = let h = c.in-Err.ensures in no_prelude h.1 h.2
