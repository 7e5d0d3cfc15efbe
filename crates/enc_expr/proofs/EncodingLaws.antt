-- What is promised of the code: from each environment in which the state is coupled it ends as the meaning does, in both
-- directions, with a bound and without one.
use Rattle.std.proofs.Common.{◌≡◌, ℕ, List, false}
use Rattle.vb_value.specs.Bound.{Bound}
use Rattle.vb_value.specs.Content.{Content}
use Rattle.vb_value.specs.Fraction.{Fraction}
use Rattle.vb_value.specs.declared.values.Ty.{Ty}
use Rattle.viper_core.specs.Expr as e
use Rattle.viper_core.specs.Formed.{IsFormed}
use Rattle.viper_core.specs.Typing.{Context, HasType, IsAssertion, is_outside_predicates}
use Rattle.viper_state.specs.State.{State}
use Rattle.viper_state.specs.Run.{Scene}
use Rattle.viper_state.specs.Fits.{FitsStore}
use Rattle.viper_meaning.specs.Value.{value, opened}
use Rattle.boogie_tree.specs.Expr as t
use Rattle.boogie_tree.specs.Program.{BType}
use Rattle.boogie_meaning.specs.Run.{brun}
use Rattle.enc_expr.specs.Place.{Place}
use Rattle.enc_expr.specs.Kinds.{kinds_in}
use Rattle.enc_expr.specs.Code.{Guard}
use Rattle.enc_expr.specs.Encoding.{code, body_code}
use Rattle.enc_expr.specs.Coupling.{Env, IsCoupled, IsReady, IsOwn}
use Rattle.enc_expr.specs.Alike.{IsValued, IsScale, IsFilled, IsSource}
use Rattle.enc_expr.specs.Boundary.{AreAlike}
use Rattle.enc_expr.proofs.BoundaryLaws.{simulated_both_ways, filled_both_ways}
use Rattle.enc_expr.proofs.Simulation.{expression, body}

module _ (ts : List BType) (b : Bound) (c : Context) (p : Place) (g : Guard) (s : State) (sc : Scene) (n : ℕ) (E : Env) (formed : IsFormed c.program) (coupled : IsCoupled b c n p s sc E) where
  -- the code of an expression
  pub code_both_ways : (a : e.Expr) (u : Ty) → HasType c a u → (let m = code (kinds_in c) p g a n in IsReady ts g n m.locals E →
      AreAlike b (IsValued b n m.next m.value u E) (value b a s sc) (λ cs. brun ts b m.stmts E cs))
  code_both_ways a u typed ready =
      simulated_both_ways ts b c p g s sc (code (kinds_in c) p g a) (value b a s sc) (λ n m x E. IsValued b n m x u E) n E (expression ts b c p g s sc a u formed typed) coupled ready

  -- the code of producing the body of a predicate, whose parameters are the variables, from a content
  pub body_both_ways : (scale : t.BExpr) (k : Fraction) (a : e.Assertion) (d : Content) (from : ℕ) → IsAssertion c a → is_outside_predicates c.site ≡ false → IsOwn c p → FitsStore c.vars sc.store → IsSource b n E from d → IsScale b n E scale k →
      (let m = body_code (kinds_in c) p g scale a from n in IsReady ts g n m.locals E → AreAlike b (IsFilled b c n m.next p sc E) (opened b a d s sc k) (λ cs. brun ts b m.stmts E cs))
  body_both_ways scale k a d from typed inside own fits source scaled ready =
      filled_both_ways ts b c p g s sc scale k from d (body_code (kinds_in c) p g scale a from) (opened b a d s sc k) n E (body ts b c p g s sc scale k a d from formed typed inside own fits)
      coupled source scaled ready
