-- The clauses of a list, produced or consumed one after the other.
use Rattle.std.specs.Bool.{⊤}
use Rattle.std.proofs.Common.{List, [], ◌∷◌, All, None, arith}
use Rattle.std.proofs.lemmas.List.Elements.{All-head, All-tail}
use Rattle.vb_value.specs.Bound.{Bound}
use Rattle.vb_value.specs.Fraction.{write}
use Rattle.viper_core.specs.Expr as e
use Rattle.viper_core.specs.Formed.{IsFormed}
use Rattle.viper_core.specs.Typing.{Context, IsAssertion}
use Rattle.viper_state.specs.Fits.{FitsStore}
use Rattle.viper_state.specs.State.{State}
use Rattle.viper_state.specs.Run.{Scene}
use Rattle.viper_meaning.specs.Assertions.{produce, consume}
use Rattle.viper_meaning.specs.Ends.{is}
use Rattle.viper_meaning.specs.Run.{goes}
use Rattle.viper_meaning.specs.Statements.{produce_all, consume_all}
use Rattle.boogie_tree.specs.Program.{BType}
use Rattle.enc_expr.specs.Place.{Maps, Place}
use Rattle.enc_expr.specs.Kinds.{Kinds, kinds_in}
use Rattle.enc_expr.specs.Code.{gives}
use Rattle.enc_expr.specs.Pieces.{one_real}
use Rattle.enc_expr.proofs.AlikeLaws.{is_alike}
use Rattle.enc_expr.proofs.CodeLaws.{gives_counted, then_counted}
use Rattle.enc_expr.proofs.Simulated.{IsCounted}
use Rattle.enc_expr.proofs.FrameLaws.{kept_itself}
use Rattle.enc_assert.specs.Encoding.{produce_code, consume_code}
use Rattle.enc_assert.specs.Held.{IsGrowing, IsShrinking}
use Rattle.enc_assert.proofs.AlongsideLaws.{ended_alongside}
use Rattle.enc_assert.proofs.WayLaws.{Way, Acts, both_act}
use Rattle.enc_assert.proofs.WrittenLaws.{produce_counted, consume_counted}
use Rattle.enc_assert.proofs.ProduceSimulation.{producing, assertion_produced}
use Rattle.enc_assert.proofs.ConsumeSimulation.{consuming, assertion_consumed}
use Rattle.enc_block.specs.Encoding.{produce_all_code, consume_all_code}

-- ---- locals are counted

pub produced_counted : (k : Kinds) (p : Place) (xs : List e.Assertion) → IsCounted (produce_all_code k p xs)
produced_counted k p [] = gives_counted tt
produced_counted k p (a ∷ rest) = then_counted _ _ (produce_counted k p None one_real a) (λ u. produced_counted k p rest)

pub consumed_counted : (k : Kinds) (p : Place) (left : Maps) (xs : List e.Assertion) → IsCounted (consume_all_code k p left xs)
consumed_counted k p left [] = gives_counted tt
consumed_counted k p left (a ∷ rest) = then_counted _ _ (consume_counted k p left None one_real a) (λ u. consumed_counted k p left rest)

-- ---- runs

module _ (ts : List BType) (b : Bound) (c : Context) (p : Place) (sc : Scene) (way : Way b c p sc) where
  -- nothing is written, and the state stays
  nothing_acts : (s : State) → Acts ts b c p sc way None (gives tt) s (goes s)
  nothing_acts s = record {
    alongside = λ n E before ready. ended_alongside ⊤ b c.program.layout (is s) (λ cs. is_alike (way.itself (omega arith) (kept_itself n E) before));
  }

module _ (ts : List BType) (b : Bound) (c : Context) (formed : IsFormed c.program) (p : Place) (sc : Scene) (fits : FitsStore c.vars sc.store) where
  pub all_produced : (own : IsGrowing c p) (xs : List e.Assertion) → All (IsAssertion c) xs → (s : State) →
      Acts ts b c p sc (producing b c p sc one_real write) None (produce_all_code (kinds_in c) p xs) s (produce_all b xs sc s)
  all_produced own [] all s = nothing_acts ts b c p sc (producing b c p sc one_real write) s
  all_produced own (a ∷ rest) all s =
      both_act ts b c p sc (producing b c p sc one_real write) None (produce_code (kinds_in c) p None one_real a) (produce_all_code (kinds_in c) p rest) s (produce b a sc write s) (produce_all b rest sc)
      (produce_counted (kinds_in c) p None one_real a) (produced_counted (kinds_in c) p rest)
      (assertion_produced ts b c formed p own sc fits one_real write None s a (All-head (IsAssertion c) a rest all)) (all_produced own rest (All-tail (IsAssertion c) a rest all))

  pub all_consumed : (left : Maps) (own : IsShrinking c p left) (start : State) (xs : List e.Assertion) → All (IsAssertion c) xs → (u : State) →
      Acts ts b c p sc (consuming b c p left own start sc one_real write) None (consume_all_code (kinds_in c) p left xs) u (consume_all b xs start sc u)
  all_consumed left own start [] all u = nothing_acts ts b c p sc (consuming b c p left own start sc one_real write) u
  all_consumed left own start (a ∷ rest) all u =
      both_act ts b c p sc (consuming b c p left own start sc one_real write) None (consume_code (kinds_in c) p left None one_real a) (consume_all_code (kinds_in c) p left rest) u
      (consume b a start sc write u) (consume_all b rest start sc) (consume_counted (kinds_in c) p left None one_real a) (consumed_counted (kinds_in c) p left rest)
      (assertion_consumed ts b c formed p left own start sc fits one_real write None u a (All-head (IsAssertion c) a rest all)) (all_consumed left own start rest (All-tail (IsAssertion c) a rest all))
