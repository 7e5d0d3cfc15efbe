use Rattle.std.proofs.Common.{◌≡◌, ◌++◌, map, drop}
use Rattle.boogie_text.specs.PublicTokens.{shown_token}
use Rattle.boogie_text.proofs.public_tokens.all_shown.Given as goal

abbrev pub invariant-loop-token : goal.invariant-loop-token
invariant-loop-token l = l.all.items ++ map shown_token (drop l.token-index l.tokens) ≡ map shown_token l.tokens
