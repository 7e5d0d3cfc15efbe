-- A statement and then another, branches, and variables that get values.
use Rattle.std.specs.Bool.{⊤}
use Rattle.std.proofs.Common.{Bool as Truth, true, false, if◌then◌else◌, ◌≡◌, ℕ, List, ◌++◌, refl, Some, None, slice_get, arith}
use Rattle.vb_base.specs.declared.places.Pos.{Pos}
use Rattle.vb_value.specs.Bound.{Bound}
use Rattle.vb_value.specs.declared.values.Ty.{Ty}
use Rattle.vb_value.specs.declared.values.Ty.TheVariants as ty
use Rattle.viper_core.specs.Expr as e
use Rattle.viper_core.specs.Formed.{IsFormed}
use Rattle.viper_core.specs.Typing.{HasType}
use Rattle.viper_state.specs.Fits.{FitsValue}
use Rattle.viper_meaning.specs.Ends.{is, found}
use Rattle.viper_meaning.specs.Run.{Run, goes, evaluating, then_do}
use Rattle.viper_meaning.specs.Statements.{Activation, Configuration, scene, with_variable, taking_value}
use Rattle.viper_meaning.specs.Value.{value, truth_in}
use Rattle.boogie_tree.specs.Program.{BType}
use Rattle.boogie_tree.specs.Stmt as s
use Rattle.boogie_meaning.specs.Run.{brun}
use Rattle.moves.specs.Scalars.{scalar}
use Rattle.enc_expr.specs.Place.{number}
use Rattle.enc_expr.specs.Code.{Emitting, gives, then_emit, puts}
use Rattle.enc_expr.specs.Pieces.{one}
use Rattle.enc_expr.specs.Encoding.{code}
use Rattle.enc_expr.specs.Coupling.{Env}
use Rattle.enc_expr.proofs.AlikeLaws.{is_alike}
use Rattle.enc_expr.proofs.AmountLaws.{if_run}
use Rattle.enc_expr.proofs.FrameLaws.{kept_itself}
use Rattle.enc_expr.proofs.RunLaws.{assign_run}
use Rattle.enc_expr.proofs.Simulated.{IsCounted}
use Rattle.enc_assert.proofs.AlongsideLaws.{run_alongside, ended_alongside, weaken_alongside}
use Rattle.enc_assert.proofs.GoingLaws.{emit_both}
use Rattle.enc_block.specs.Encoding.{branching, assign_code}
use Rattle.enc_block.specs.Home.{Home, place, kinds_of, whole, IsHome, IsAt, HasRoom}
use Rattle.enc_block.specs.Runs.{Runs}
use Rattle.enc_block.proofs.GoingLaws.{Along, found_along}
use Rattle.enc_block.proofs.HomeLaws.{at_kept, at_set}
use Rattle.enc_block.proofs.KindLaws.{reduced_of, havoc_along}
use Rattle.enc_block.proofs.ReadLaws.{value_along, truth_along}
use Rattle.enc_block.proofs.RoomLaws.{room_first, room_rest}

module _ (ts : List BType) (b : Bound) (k : Activation) (h : Home) where
  -- nothing is written, and all stays
  pub skip_runs : Runs ts b k h (gives tt) (λ d. goes d)
  skip_runs = record { goes = λ n d E it room. ended_alongside ⊥ b k.program.layout (is d) (λ cs. is_alike it) }

  -- one, and then another
  pub both_run : (m o : Emitting ⊤) (v w : Configuration → Run Configuration) → IsCounted m → Runs ts b k h m v → Runs ts b k h o w → Runs ts b k h (then_emit m (λ u. o)) (λ d. then_do (v d) w)
  both_run m o v w counted first second = record {
    goes = λ n d E it room.
        let us = (m n).locals in let ws = (o (m n).next).locals in
        emit_both ⊥ ts b k.program.layout m (λ u. o) n E (v d) w (first.goes n d E it (room_first us ws room))
        (λ z F after. second.goes (m n).next z F after (room_rest us ws (counted.next n) room));
  }

  -- of two blocks the one that the value says
  pub block_along : (m o : Emitting ⊤) (v w : Configuration → Run Configuration) (n : ℕ) (d : Configuration) (E : Env) (q : Truth) → IsCounted m → IsCounted o → Runs ts b k h m v → Runs ts b k h o w → IsAt ts b k h n d E →
      (let x = m n in let y = o x.next in HasRoom ts n (x.locals ++ y.locals) →
      Along b k.program.layout (IsAt ts b k h y.next) (if q then v d else w d) (λ cs. if q then brun ts b x.stmts E cs else brun ts b y.stmts E cs))
  block_along m o v w n d E true counted counted2 first second it room =
      weaken_alongside ⊥ b k.program.layout (λ z F after. at_kept (omega (arith, counted2.next (m n).next)) (kept_itself (m n).next F) after)
      (first.goes n d E it (room_first (m n).locals (o (m n).next).locals room))
  block_along m o v w n d E false counted counted2 first second it room =
      second.goes (m n).next d E (at_kept (omega (arith, counted.next n)) (kept_itself n E) it) (room_rest (m n).locals (o (m n).next).locals (counted.next n) room)

  module _ (formed : IsFormed k.program) where
    pub if_runs : (at : Pos) (a : e.Expr) (m o : Emitting ⊤) (v w : Configuration → Run Configuration) → HasType (whole k) a ty.Bool → IsCounted m → IsCounted o → Runs ts b k h m v → Runs ts b k h o w →
        Runs ts b k h (then_emit (code (kinds_of k) (place h at) None a) (λ x. branching (s.If x.expr) m o)) (λ d. evaluating (truth_in b a d.state (scene k d at)) (λ holds. if holds then v d else w d))
    if_runs at a m o v w typed counted counted2 first second = record {
      goes = λ n d E it room.
          truth_along ts b k h formed n d E it at a (λ x. branching (s.If x.expr) m o) room typed (λ holds. if holds then v d else w d) (λ q F read left.
          let x = code (kinds_of k) (place h at) None a n in let y = m x.next in let z = o y.next in
          run_alongside ⊥ b k.program.layout (λ cs. if_run ts b x.value.expr q y.stmts z.stmts F cs (read.valued.here F (λ i below. refl)))
          (block_along m o v w x.next d F q counted counted2 first second read.at left));
    }

    module _ (home : IsHome ts k h) where
      -- a variable gets the value of an expression
      pub assign_runs : (at : Pos) (x : ℕ) (a : e.Expr) (u : Ty) → slice_get k.vars x ≡ Some u → HasType (whole k) a u →
          Runs ts b k h (assign_code (kinds_of k) h at x a) (λ d. evaluating (value b a d.state (scene k d at)) (λ w. goes (with_variable d x w)))
      assign_runs at x a u there typed = record {
        goes = λ n d E it room.
            let i = number h.vars x in
            value_along ts b k h formed n d E it at a (λ y. puts None (one (s.Assign i y.expr))) room u typed (λ w. goes (with_variable d x w)) (λ w F read left.
            let y = (code (kinds_of k) (place h at) None a n).value in
            let fits : FitsValue u w = record { typed = read.valued.typed; reduced = reduced_of b w read.proper } in
            run_alongside ⊥ b k.program.layout (λ cs. assign_run ts b i y.expr (scalar w) s.skip F cs (read.valued.here F (λ i below. refl)))
            (ended_alongside ⊥ b k.program.layout (is (with_variable d x w)) (λ cs. is_alike (at_set home x u w there read.valued.typed read.proper fits read.at))));
      }

  module _ (home : IsHome ts k h) where
    -- a variable without a value takes any
    pub var_runs : (x : ℕ) (u : Ty) → slice_get k.vars x ≡ Some u →
        Runs ts b k h (puts None (one (s.Havoc (number h.vars x)))) (λ d. evaluating (found (slice_get k.vars x)) (λ u. taking_value u (λ w. goes (with_variable d x w))))
    var_runs x u there = record {
      goes = λ n d E it room.
          found_along (slice_get k.vars x) u (λ u. taking_value u (λ w. goes (with_variable d x w))) there
          (havoc_along ts b k.program.layout E (number h.vars x) u s.skip (λ w. goes (with_variable d x w)) (home.types x u there) (λ w fine.
          let fits : FitsValue u w = record { typed = fine.typed; reduced = reduced_of b w fine.proper } in
          ended_alongside ⊥ b k.program.layout (is (with_variable d x w)) (λ cs. is_alike (at_set home x u w there fine.typed fine.proper fits it))));
    }
