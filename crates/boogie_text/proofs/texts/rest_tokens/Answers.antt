use Rattle.std.proofs.Common.{subst}
use Rattle.std.specs.declared.alloc.Global.{Global}
use Rattle.std.specs.declared.vec.Vec.{Vec}
use Rattle.boogie_tree.specs.Text.{prelude}
use Rattle.boogie_grammar.specs.declared.tokens.PlacedLexeme.{PlacedLexeme}
use Rattle.boogie_grammar.specs.Depth.{IsShallow, IsTooDeep}
use Rattle.boogie_text.specs.PublicTokens.{too_deep, IsTokenFault}
use Rattle.boogie_text.specs.Texts.{HasTokens}
use Rattle.boogie_text.proofs.TextLaws.{cut_refused, same_refusal}
use Rattle.boogie_text.proofs.texts.rest_tokens.Goals as goal

pub returns-in_err-tokens : goal.returns-in_err-tokens
unfolding prelude
returns-in_err-tokens c =
    same_refusal (λ (v : Vec PlacedLexeme Global). HasTokens c.args.bytes.now v.items) (IsTokenFault c.args.bytes.now) _ c.from_residual.result c.from_residual.ensures.1
    (cut_refused c.args.bytes.now c.args.rest.now _ c.requires.whole c.in_err-tokens.ensures)

pub returns-in-Some : goal.returns-in-Some
unfolding prelude
returns-in-Some c = too_deep c.requires.whole c.in_ok-tokens.ensures (subst (λ ts. IsTooDeep ts c.in-Some.at) c.deref.ensures.value c.in-Some.ensures)

pub returns : goal.returns
unfolding prelude
returns c =
    let shallow = rw c.in_default.is at c.first_too_deep.ensures in
    record {
      rest = c.args.rest.now;
      text = c.requires.whole;
      cut = c.in_ok-tokens.ensures;
      shallow = subst (λ ts. IsShallow ts) c.deref.ensures.value shallow;
    }
