-- An expression is read, and what is written next goes on with its value.
use Rattle.std.proofs.Common.{Bool as Truth, ◌≤◌, ℕ, List, None, All, arith}
use Rattle.vb_base.specs.declared.places.Pos.{Pos}
use Rattle.vb_value.specs.Bound.{Bound}
use Rattle.vb_value.specs.Value.{IsProperValue}
use Rattle.vb_value.specs.declared.values.Ty.{Ty}
use Rattle.vb_value.specs.declared.values.Ty.TheVariants as ty
use Rattle.vb_value.specs.declared.values.Value.{Value}
use Rattle.vb_value.specs.declared.values.Value.TheVariants as v
use Rattle.viper_core.specs.Expr as e
use Rattle.viper_core.specs.Formed.{IsFormed}
use Rattle.viper_core.specs.Typing.{HasType, HaveTypes}
use Rattle.viper_meaning.specs.Run.{Run, evaluating}
use Rattle.viper_meaning.specs.Statements.{Activation, Configuration, scene}
use Rattle.viper_meaning.specs.Value.{value, values, truth_in, ref_in}
use Rattle.boogie_tree.specs.Program.{BType}
use Rattle.boogie_meaning.specs.Run.{brun}
use Rattle.enc_expr.specs.Code.{Emitting, then_emit}
use Rattle.enc_expr.specs.Pieces.{Operand}
use Rattle.enc_expr.specs.Encoding.{code, codes}
use Rattle.enc_expr.specs.Coupling.{Env}
use Rattle.enc_expr.specs.Alike.{Alike, IsValued, AreValued}
use Rattle.enc_expr.proofs.AlikeLaws.{kept_alike}
use Rattle.enc_expr.proofs.BodyLaws.{ref_alike}
use Rattle.enc_expr.proofs.CodeLaws.{code_counted, codes_counted}
use Rattle.enc_expr.proofs.Simulation.{proper_value, proper_values, expression, arguments}
use Rattle.enc_assert.proofs.GoingLaws.{emit_alongside}
use Rattle.enc_assert.proofs.WayLaws.{bool_alike}
use Rattle.enc_block.specs.Home.{Home, place, kinds_of, whole, IsAt, HasRoom}
use Rattle.enc_block.proofs.GoingLaws.{Along}
use Rattle.enc_block.proofs.HomeLaws.{coupled_at, at_kept}
use Rattle.enc_block.proofs.RoomLaws.{room_first, room_rest, ready}

module _ (ts : List BType) (b : Bound) (k : Activation) (h : Home) where
  -- the expression has the value, which is proper, and the configuration stands there still
  pub record WasRead (u : Ty) (n m : ℕ) (x : Operand) (d : Configuration) (E : Env) (w : Value) (F : Env) : Type 0 where
    pub valued : IsValued b n m x u E w F
    pub proper : IsProperValue b w
    pub at : IsAt ts b k h m d F

  pub record WereRead (us : List Ty) (n m : ℕ) (xs : List Operand) (d : Configuration) (E : Env) (ws : List Value) (F : Env) : Type 0 where
    pub valued : AreValued b n m xs us E ws F
    pub proper : All (IsProperValue b) ws
    pub at : IsAt ts b k h m d F

  module _ (formed : IsFormed k.program) (n : ℕ) (d : Configuration) (E : Env) (it : IsAt ts b k h n d E) (at : Pos) where
    module _ (a : e.Expr) where
      abbrev first : Emitting Operand
      first = code (kinds_of k) (place h at) None a

      low : n ≤ (first n).next
      low = omega (arith, (code_counted (kinds_of k) (place h at) None a).next n)

      module _ {Y : Type 0} (go : Operand → Emitting Y) (room : HasRoom ts n (then_emit first go n).locals) where
        abbrev rest : List BType
        rest = (go (first n).value (first n).next).locals

        reads : (u : Ty) → HasType (whole k) a u → (cs : List _) →
            Alike (λ w F. IsValued b n (first n).next (first n).value u E w F × IsProperValue b w) b (value b a d.state (scene k d at)) cs (brun ts b (first n).stmts E cs)
        reads u typed cs =
            let coupled = coupled_at it at in
            kept_alike (proper_value b (whole k) formed coupled typed)
            ((expression ts b (whole k) (place h at) None d.state (scene k d at) a u formed typed).alike n E cs coupled (ready it.full (room_first (first n).locals rest room)))

        left : HasRoom ts (first n).next rest
        left = room_rest (first n).locals rest ((code_counted (kinds_of k) (place h at) None a).next n) room

        pub value_along : {Z : Type 0} {R : Z → Env → Type 0} (u : Ty) → HasType (whole k) a u → (next : Value → Run Z) →
            ((w : Value) (F : Env) → WasRead u n (first n).next (first n).value d E w F → HasRoom ts (first n).next rest → Along b k.program.layout R (next w) (λ cs. brun ts b (go (first n).value (first n).next).stmts F cs)) →
            Along b k.program.layout R (evaluating (value b a d.state (scene k d at)) next) (λ cs. brun ts b (then_emit first go n).stmts E cs)
        value_along u typed next f =
            emit_alongside ⊥ ts b k.program.layout first go n E (value b a d.state (scene k d at)) next (reads u typed)
            (λ w F z. f w F (record { valued = z.0; proper = z.1; at = at_kept low z.0.kept it }) left)

        pub truth_along : {Z : Type 0} {R : Z → Env → Type 0} → HasType (whole k) a ty.Bool → (next : Truth → Run Z) →
            ((q : Truth) (F : Env) → WasRead ty.Bool n (first n).next (first n).value d E (v.Bool q) F → HasRoom ts (first n).next rest → Along b k.program.layout R (next q) (λ cs. brun ts b (go (first n).value (first n).next).stmts F cs)) →
            Along b k.program.layout R (evaluating (truth_in b a d.state (scene k d at)) next) (λ cs. brun ts b (then_emit first go n).stmts E cs)
        truth_along typed next f =
            emit_alongside ⊥ ts b k.program.layout first go n E (truth_in b a d.state (scene k d at)) next (λ cs. bool_alike (λ w F z. z.0.typed) (reads ty.Bool typed cs))
            (λ q F z. f q F (record { valued = z.0; proper = z.1; at = at_kept low z.0.kept it }) left)

        pub ref_along : {Z : Type 0} {R : Z → Env → Type 0} → HasType (whole k) a ty.Ref → (next : ℕ → Run Z) →
            ((x : ℕ) (F : Env) → WasRead ty.Ref n (first n).next (first n).value d E (v.Ref x) F → HasRoom ts (first n).next rest → Along b k.program.layout R (next x) (λ cs. brun ts b (go (first n).value (first n).next).stmts F cs)) →
            Along b k.program.layout R (evaluating (ref_in b a d.state (scene k d at)) next) (λ cs. brun ts b (then_emit first go n).stmts E cs)
        ref_along typed next f =
            emit_alongside ⊥ ts b k.program.layout first go n E (ref_in b a d.state (scene k d at)) next (λ cs. ref_alike (λ w F z. z.0.typed) (reads ty.Ref typed cs))
            (λ q F z. f q F (record { valued = z.0; proper = z.1; at = at_kept low z.0.kept it }) left)

    module _ (xs : e.Exprs) where
      abbrev all_first : Emitting (List Operand)
      all_first = codes (kinds_of k) (place h at) None xs

      pub values_along : {Y Z : Type 0} {R : Z → Env → Type 0} (go : List Operand → Emitting Y) → HasRoom ts n (then_emit all_first go n).locals → (us : List Ty) → HaveTypes (whole k) xs us → (next : List Value → Run Z) →
          ((ws : List Value) (F : Env) → WereRead us n (all_first n).next (all_first n).value d E ws F → HasRoom ts (all_first n).next (go (all_first n).value (all_first n).next).locals →
          Along b k.program.layout R (next ws) (λ cs. brun ts b (go (all_first n).value (all_first n).next).stmts F cs)) →
          Along b k.program.layout R (evaluating (values b xs d.state (scene k d at)) next) (λ cs. brun ts b (then_emit all_first go n).stmts E cs)
      values_along go room us typed next f =
          let coupled = coupled_at it at in let counted = (codes_counted (kinds_of k) (place h at) None xs).next n in
          let rest = (go (all_first n).value (all_first n).next).locals in
          emit_alongside ⊥ ts b k.program.layout all_first go n E (values b xs d.state (scene k d at)) next
          (λ cs. kept_alike (proper_values b (whole k) formed coupled typed)
          ((arguments ts b (whole k) (place h at) None d.state (scene k d at) xs us formed typed).alike n E cs coupled (ready it.full (room_first (all_first n).locals rest room))))
          (λ ws F z. f ws F (record { valued = z.0; proper = z.1; at = at_kept (omega (arith, counted)) z.0.kept it }) (room_rest (all_first n).locals rest counted room))
