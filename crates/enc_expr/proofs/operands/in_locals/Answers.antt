use Rattle.std.proofs.Common.{◌≡◌, ◌∙◌, [], length, sym, subst, append-nil}
use Rattle.lemmas.proofs.Lists.{no_items}
use Rattle.boogie_tree.specs.Stmt as s
use Rattle.boogie_tree.specs.Whole.{stmts_of}
use Rattle.enc_expr.specs.Emits.{Emit, emit_of, Emits}
use Rattle.enc_expr.specs.Pieces.{Located, located}
use Rattle.enc_expr.specs.View.{seen, all_seen, located_of}
use Rattle.enc_expr.proofs.RunLaws.{join_skip}
use Rattle.enc_expr.proofs.EmitLaws.{gives_emits}
use Rattle.enc_expr.proofs.EmittedForms.{valued, behind}
use Rattle.enc_expr.proofs.EmittedParts.{locate_step}
use Rattle.enc_expr.proofs.operands.in_locals.Goals as goal

pub loop-x-preserved : goal.loop-x-preserved
loop-x-preserved c =
    locate_step (seen c.in-Some.x) (all_seen c.next.new.self.rest.items) (all_seen c.args.xs.items) (emit_of c.args.out.now) (emit_of c.loop-x.out) (emit_of c.locate.new.out) (located_of c.loop-x.located) (located_of c.locate.new.self) c.in_ok-locate.ensures
    (subst (λ zs. (new : Emit) (more : Located) → Emits (located (all_seen zs) (length (emit_of c.loop-x.out).locals)) (emit_of c.loop-x.out) new more →
    Emits (located (all_seen c.args.xs.items) (length (emit_of c.args.out.now).locals)) (emit_of c.args.out.now) new (behind (located_of c.loop-x.located) more))
    c.in-Some.ensures.steps.0 c.loop-x.invariant)

pub returns : goal.returns
returns c =
    let none : c.loop-x.x-iterator.rest.items ≡ [] = no_items c.loop-x.x-iterator.rest.items (sym c.loop-x.x-iterator.rest.ok.0 ∙ c.in-None.ensures.steps.0) in
    valued (λ i. record { locals = sym (append-nil c.loop-x.located.locals.items) i; sets = sym (join_skip (stmts_of c.loop-x.located.sets.items)) i })
    (c.loop-x.invariant (emit_of c.loop-x.out) (record { locals = []; sets = s.skip })
    (subst (λ zs. Emits (located (all_seen zs) (length (emit_of c.loop-x.out).locals)) (emit_of c.loop-x.out) (emit_of c.loop-x.out) (record { locals = []; sets = s.skip })) (sym none)
    (gives_emits (record { locals = []; sets = s.skip }) (emit_of c.loop-x.out))))
