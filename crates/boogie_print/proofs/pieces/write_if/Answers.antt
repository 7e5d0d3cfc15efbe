use Rattle.std.proofs.Common.{◌≡◌, ◌∙◌, ap, subst, ℕ, List, Option, OnErr, Result, Ok, Err}
use Rattle.vb_outer.specs.Sink.{Appends, AppendsPrefix}
use Rattle.boogie_tree.specs.Expr as t
use Rattle.boogie_tree.specs.Whole.{locals_of}
use Rattle.boogie_tree.specs.declared.programs.Local.{Local}
use Rattle.boogie_grammar.specs.Grammar.{local_names}
use Rattle.boogie_grammar.specs.Printed.{naming}
use Rattle.boogie_print.specs.Pieces.{if_piece, piece_text}
use Rattle.boogie_print.proofs.pieces.write_if.Goals as goal

abbrev text_of : List Local → Option t.BExpr → List ℕ
text_of locals c = piece_text (naming (local_names (locals_of locals))) (if_piece c)

-- what was sent is the text that was made of the same locals
made : {sent text : List ℕ} (held locals : List Local) (c : Option t.BExpr) → sent ≡ text → text ≡ text_of held c → held ≡ locals → sent ≡ text_of locals c
made held locals c same is items = same ∙ is ∙ ap (λ ls. text_of ls c) items

on_err : {T E P : Type 0} (r : Result T E) → P → OnErr r P
on_err (Ok x) p = tt
on_err (Err e) p = p

pub returns-in_err-write_all-clause-front : goal.returns-in_err-write_all-clause-front
returns-in_err-write_all-clause-front g c =
    on_err c.from_residual-in_err-write_all.result
    (subst (λ text. AppendsPrefix (g.S.Sink.written c.args.sink.now) (g.S.Sink.written c.write_all.new.sink) text)
    (made c.deref.result.now c.args.locals.now.items _ c.deref-2.ensures.value c.in_ok-text.ensures c.deref.ensures.value) c.in_err-write_all.ensures.failed)

pub returns-clause-ok : goal.returns-clause-ok
returns-clause-ok g c =
    subst (λ text. Appends (g.S.Sink.written c.args.sink.now) (g.S.Sink.written c.write_all.new.sink) text)
    (made c.deref.result.now c.args.locals.now.items _ c.deref-2.ensures.value c.in_ok-text.ensures c.deref.ensures.value) c.in_ok-write_all.ensures.ok
