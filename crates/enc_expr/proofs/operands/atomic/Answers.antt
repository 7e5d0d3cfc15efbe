-- An atom stays as it is.
use Rattle.std.proofs.Common.{◌∙◌, ap, sym}
use Rattle.boogie_tree.specs.Whole.{expr_of, stmts_of}
use Rattle.enc_expr.specs.Emits.{emit_of}
use Rattle.enc_expr.specs.Pieces.{is_atom}
use Rattle.enc_expr.specs.View.{seen, atom_of}
use Rattle.enc_expr.proofs.EmittedForms.{valued, atom_emits}
use Rattle.enc_expr.proofs.operands.atomic.Goals as goal

pub returns-in-Some : goal.returns-in-Some
returns-in-Some c =
    let e = ap expr_of c.deref.ensures in
    valued (ap (λ xs. record { expr = atom_of c.in-Some.atom; sets = stmts_of xs }) c.new.ensures.items)
    (atom_emits (seen c.args.x) (emit_of c.args.out.now) (atom_of c.in-Some.atom) (ap is_atom (sym e) ∙ c.in-Some.ensures.0) (c.in-Some.ensures.1 ∙ e))
