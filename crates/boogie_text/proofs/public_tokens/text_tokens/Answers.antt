use Rattle.std.proofs.Common.{◌∙◌, ap, map}
use Rattle.std.specs.declared.alloc.Global.{Global}
use Rattle.std.specs.declared.vec.Vec.{Vec}
use Rattle.boogie_text.specs.declared.public_tokens.BToken.{BToken}
use Rattle.boogie_text.specs.PublicTokens.{AreTokens, IsTokenFault, shown_token, token_of}
use Rattle.boogie_text.proofs.TextLaws.{same_refusal}
use Rattle.boogie_text.proofs.TokenLaws.{cut_stands}
use Rattle.boogie_text.proofs.public_tokens.text_tokens.Goals as goal

pub returns-in_err-tokens : goal.returns-in_err-tokens
returns-in_err-tokens c =
    same_refusal (λ (v : Vec BToken Global). AreTokens c.args.bytes.now v.items) (IsTokenFault c.args.bytes.now) _ c.from_residual.result c.from_residual.ensures.1 c.in_err-tokens.ensures

pub returns : goal.returns
returns c =
    let has = c.in_ok-tokens.ensures in
    let shown = c.in_ok-all.ensures ∙ ap (map shown_token) c.deref.ensures.value in
    record {
      rest = has.rest;
      tokens = c.in_ok-tokens.tokens.items;
      text = has.text;
      cut = has.cut;
      shallow = has.shallow;
      shown = shown;
      stand = ap (map token_of) shown ∙ cut_stands has.cut;
    }
