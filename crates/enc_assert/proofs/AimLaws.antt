-- A target is set before its amount is used, and then it stands for its resource.
use Rattle.std.proofs.Common.{◌≡◌, ◌≤◌, ℕ, List, [], Some, length, slice_get, ◌∙◌}
use Rattle.vb_value.specs.Bound.{Bound}
use Rattle.vb_value.specs.Layout.{Layout}
use Rattle.vb_value.specs.declared.values.Ty.{Ty}
use Rattle.vb_value.specs.declared.values.Value.{Value}
use Rattle.viper_state.specs.Fits.{FitsKey}
use Rattle.viper_state.specs.State.{Key}
use Rattle.viper_meaning.specs.Places as places
use Rattle.viper_meaning.specs.Resource as resource
use Rattle.viper_meaning.specs.Resource.{Resource}
use Rattle.boogie_tree.specs.Program.{BType}
use Rattle.boogie_tree.specs.Stmt as s
use Rattle.boogie_tree.specs.Value as bv
use Rattle.enc_expr.specs.Code.{Code, Emitting, gives}
use Rattle.enc_expr.specs.Pieces.{Operand, atomic, located}
use Rattle.enc_expr.specs.Coupling.{Env, AreLocals}
use Rattle.enc_expr.specs.Alike.{Agree, AreValues}
use Rattle.enc_expr.proofs.Simulated.{IsCounted, Sets}
use Rattle.enc_expr.proofs.RunLaws.{join_skip}
use Rattle.enc_expr.proofs.FrameLaws.{locals_first}
use Rattle.enc_expr.proofs.CodeLaws.{atomic_counted, located_counted, then_counted, gives_counted}
use Rattle.enc_expr.proofs.RunLaws.{atom_agrees}
use Rattle.enc_expr.proofs.InsideLaws.{atom_more}
use Rattle.enc_expr.proofs.AtomLaws.{Holds, holds_more, atomic_set, values_more, located_set, located_more}
use Rattle.enc_expr.proofs.UnfoldingLaws.{atomic_quiet, located_quiet}
use Rattle.enc_assert.specs.Target.{Field, Instance, Aimed}
use Rattle.enc_assert.specs.Encoding.{field_target, instance_target}
use Rattle.enc_assert.proofs.TargetLaws.{Aims, field, instance}

-- its statements run through, and then it names the resource
pub record IsAimed (ts : List BType) (b : Bound) (layout : Layout) (n : ℕ) (c : Code Aimed) (E : Env) (x : Resource) : Type 0 where
  pub after : Env
  pub sets : Sets ts b c.value.sets n E after
  pub aims : Aims layout c.next after c.value.target x

-- It writes nothing itself. From each environment that agrees on the first n locals it can be set.
pub record CanAim (ts : List BType) (b : Bound) (layout : Layout) (n : ℕ) (E : Env) (m : Emitting Aimed) (x : Resource) : Type 0 where
  pub counted : IsCounted m
  pub quiet : (i : ℕ) → (m i).stmts ≡ s.skip
  pub set : (i : ℕ) (F : Env) → n ≤ i → Agree n E F → length F ≡ length ts → AreLocals ts i (m i).locals → IsAimed ts b layout i (m i) F x

module _ (ts : List BType) (b : Bound) (layout : Layout) (n : ℕ) (E : Env) where
  pub field_aims : (f r : ℕ) (u : Ty) (x : Operand) → slice_get layout.fields f ≡ Some u → Holds b n x.expr E (bv.Ref r) → CanAim ts b layout n E (field_target f x) (resource.Place f r)
  field_aims f r u x there ref = record {
    counted = then_counted (atomic x) (λ a. gives (record { target = Field f a.expr; sets = a.sets })) (atomic_counted x) (λ a. gives_counted (record { target = Field f a.expr; sets = a.sets }));
    quiet = λ i. join_skip (atomic x i).stmts ∙ atomic_quiet x i;
    set = λ i F more same full locals.
        let z = atomic_set ts b i F full x (bv.Ref r) (holds_more more same ref) (locals_first ts i (atomic x i).locals [] locals) in
        record { after = z.after; sets = z.sets; aims = field there z.atom };
  }

  pub instance_aims : (q : ℕ) (key : Key) (us : List Ty) (xs : List Operand) (vs : List Value) → slice_get layout.keys q ≡ Some us → FitsKey us key → Some key ≡ places.key_of vs → AreValues b n E xs us vs →
      CanAim ts b layout n E (instance_target q xs) (resource.Instance q key)
  instance_aims q key us xs vs there fits is_key values = record {
    counted = then_counted (located xs) (λ l. gives (record { target = Instance q l.locals; sets = l.sets })) (located_counted xs) (λ l. gives_counted (record { target = Instance q l.locals; sets = l.sets }));
    quiet = λ i. join_skip (located xs i).stmts ∙ located_quiet xs i;
    set = λ i F more same full locals.
        let z = located_set ts b i F xs us vs full (values_more more same values) (locals_first ts i (located xs i).locals [] locals) in
        record { after = z.after; sets = z.sets; aims = instance there fits z.located is_key };
  }

-- it still does as locals are added
pub aims_more : {layout : Layout} {n m : ℕ} {E F : Env} {y : _} {x : Resource} → n ≤ m → Agree n E F → Aims layout n E y x → Aims layout m F y x
aims_more within same (field there ref) = field there (atom_more within (atom_agrees same ref))
aims_more within same (instance there fits located is_key) = instance there fits (located_more within same located) is_key
