-- The code of a method of a formed program goes alongside the method, from where it begins.
use Rattle.std.specs.Bool.{⊤}
use Rattle.std.specs.Option.{IfSome}
use Rattle.std.proofs.Common.{◌≡◌, ℕ, List, Some, subst}
use Rattle.vb_value.specs.Bound.{Bound}
use Rattle.viper_core.specs.Formed.{IsFormed, IsMethod, IsBody, method_scope, postcondition_context}
use Rattle.viper_core.specs.Program.{Program, Method, Body}
use Rattle.viper_state.specs.Run.{Opening}
use Rattle.viper_state.specs.State.{State}
use Rattle.viper_meaning.specs.Units.{start_method}
use Rattle.boogie_tree.specs.Program.{BType}
use Rattle.boogie_meaning.specs.Run.{brun}
use Rattle.enc_expr.specs.Coupling.{Env}
use Rattle.enc_block.specs.Encoding.{method_code}
use Rattle.enc_block.specs.Home.{Home, kinds_of, IsHome, IsAt, HasRoom}
use Rattle.enc_block.proofs.BlockLaws.{block_runs}
use Rattle.enc_block.proofs.CountedLaws.{block_counted}
use Rattle.enc_block.proofs.GoingLaws.{Along}
use Rattle.enc_block.proofs.MethodLaws.{clauses_everywhere, with_old, home_again, RunsBody}
use Rattle.enc_units.proofs.UnitLaws.{first_activation, first_configuration, method_goes}

module _ (ts : List BType) (b : Bound) (p : Program) (formed : IsFormed p) (o : Opening) (h : Home) (m : Method) (is_method : IsMethod p m) (home : IsHome ts (first_activation ts b p formed o h m is_method) h) where
  -- its body goes alongside its run, whatever the old state is
  body_runs : (s : State) (body : Body) → m.body ≡ Some body →
      RunsBody ts b (with_old (first_activation ts b p formed o h m is_method) s) h formed (home_again s home) m (clauses_everywhere (postcondition_context p m) m.postconditions is_method.postconditions) body
  body_runs s body there =
      let k = with_old (first_activation ts b p formed o h m is_method) s in
      let has : IfSome m.body (IsBody p m) = is_method.body in
      let is_body : IsBody p m body = subst (λ o. IfSome o (IsBody p m)) there has in
      record { counted = block_counted k h body.stmts; runs = block_runs ts b k h (home_again s home) formed m.params (method_scope m) body.stmts is_body.stmts }

  pub method_runs : (n : ℕ) (E : Env) → IsAt ts b (first_activation ts b p formed o h m is_method) h n (first_configuration ts b p formed o h m is_method) E → HasRoom ts n (method_code p (kinds_of (first_activation ts b p formed o h m is_method)) h m n).locals →
      Along b p.layout (λ s F. ⊤) (start_method b p m o) (λ cs. brun ts b (method_code p (kinds_of (first_activation ts b p formed o h m is_method)) h m n).stmts E cs)
  method_runs n E it room = method_goes ts b p formed o h m is_method home body_runs n E it room
