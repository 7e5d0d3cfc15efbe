-- A local is declared at the end.
use Rattle.std.proofs.Common.{◌∙◌, ◌++◌, codes, length, [], ◌∷◌, ap, sym}
use Rattle.std.specs.Fmt.{decimal}
use Rattle.std.proofs.lemmas.List.{length-map}
use Rattle.boogie_tree.specs.Whole.{type_of, local_of, locals_of}
use Rattle.enc_expr.specs.Emits.{emit_of}
use Rattle.enc_expr.proofs.EmittedParts.{locals_of-append, declared_at_end}
use Rattle.enc_expr.proofs.emits.Emit.fresh.Goals as goal

pub returns : goal.returns
returns c =
    let many = ap length c.as_slice-number.ensures.value ∙ sym (length-map c.args.self.now.locals.items local_of) in
    declared_at_end (type_of c.args.ty) (emit_of c.args.self.now) (locals_of c.add.new.items.items) (length c.as_slice-number.result.now)
    (ap locals_of c.in_ok-add.ensures ∙ locals_of-append c.args.self.now.locals.items _
    ∙ ap (λ name. locals_of c.args.self.now.locals.items ++ record { name = name; ty = type_of c.args.ty } ∷ []) (c.in_ok-name.ensures ∙ ap (λ n. codes "t$" ++ decimal n) many)) many
