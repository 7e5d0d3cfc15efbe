use Rattle.std.proofs.Common.{◌≡◌, ◌++◌, map, drop, Some}
use Rattle.boogie_text.specs.PublicTokens.{token_of}
use Rattle.boogie_text.proofs.public_tokens.front.Given as goal

abbrev pub invariant-loop-token : goal.invariant-loop-token
invariant-loop-token l = map Some l.all.items ++ map token_of (drop l.token-index l.tokens) ≡ map token_of l.tokens
