use Rattle.std.proofs.Common.{◌≡◌, ◌∙◌, ◌++◌, ℕ, List, [], length, sym, subst, append-nil}
use Rattle.lemmas.proofs.Lists.{no_items}
use Rattle.enc_expr.specs.Emits.{Emit, emit_of, Emits}
use Rattle.enc_expr.specs.View.{seen, all_seen}
use Rattle.enc_expr.proofs.EmitLaws.{gives_emits}
use Rattle.enc_expr.proofs.EmittedForms.{valued}
use Rattle.enc_block.specs.Encoding.{fixed}
use Rattle.enc_block.proofs.EmittedStatements.{fixed_step}
use Rattle.enc_block.proofs.calls.fix.Goals as goal

pub loop-value-preserved : goal.loop-value-preserved
loop-value-preserved c =
    let one = c.in_ok-local.ensures in
    fixed_step (seen c.in-Some.value) (all_seen c.next.new.self.rest.items) (all_seen c.args.values.items) (emit_of c.args.out.now) (emit_of c.loop-value.out) one.mid (emit_of c.fix_one.new.out) c.loop-value.locals.items c.add.new.items.items c.in_ok-local.local
    c.in_ok-add.ensures one.declared one.set
    (subst (λ zs. (new : Emit) (more : List ℕ) → Emits (fixed (all_seen zs) (length (emit_of c.loop-value.out).locals)) (emit_of c.loop-value.out) new more →
    Emits (fixed (all_seen c.args.values.items) (length (emit_of c.args.out.now).locals)) (emit_of c.args.out.now) new (c.loop-value.locals.items ++ more))
    c.in-Some.ensures.steps.0 c.loop-value.invariant)

pub returns : goal.returns
returns c =
    let none : c.loop-value.value-iterator.rest.items ≡ [] = no_items c.loop-value.value-iterator.rest.items (sym c.loop-value.value-iterator.rest.ok.0 ∙ c.in-None.ensures.steps.0) in
    valued (sym (append-nil c.loop-value.locals.items))
    (c.loop-value.invariant (emit_of c.loop-value.out) []
    (subst (λ zs. Emits (fixed (all_seen zs) (length (emit_of c.loop-value.out).locals)) (emit_of c.loop-value.out) (emit_of c.loop-value.out) []) (sym none) (gives_emits [] (emit_of c.loop-value.out))))
