-- Instances that are folded and unfolded.
use Rattle.std.proofs.Common.{◌≤◌, List, subst, sym, arith}
use Rattle.vb_value.specs.Bound.{Bound}
use Rattle.viper_core.specs.Formed.{IsFormed}
use Rattle.viper_core.specs.Stmt.{FoldStmt}
use Rattle.viper_core.specs.Typing.{IsFold}
use Rattle.viper_meaning.specs.Contents.{body_of, fold_instance, unfold_instance}
use Rattle.viper_meaning.specs.Run.{Run, ended, goes, evaluating, then_do}
use Rattle.viper_meaning.specs.Statements.{Activation, Configuration, scene, with_state}
use Rattle.viper_meaning.proofs.FoldLaws.{body_found}
use Rattle.boogie_tree.specs.Program.{BType}
use Rattle.enc_assert.proofs.AlongsideLaws.{ended_alongside}
use Rattle.enc_assert.proofs.GoingLaws.{along}
use Rattle.enc_fold.specs.Encoding.{fold_code, unfold_code}
use Rattle.enc_fold.proofs.CountedLaws.{fold_counted, unfold_counted}
use Rattle.enc_fold.proofs.FoldLaws.{fold_alongside}
use Rattle.enc_fold.proofs.UnfoldLaws.{unfold_alike}
use Rattle.enc_block.specs.Encoding.{with_body}
use Rattle.enc_block.specs.Home.{Home, place, kinds_of, whole, IsHome}
use Rattle.enc_block.specs.Runs.{Runs}
use Rattle.enc_block.proofs.GoingLaws.{then_goes}
use Rattle.enc_block.proofs.HomeLaws.{coupled_at, at_maps}
use Rattle.enc_block.proofs.RoomLaws.{ready}
use Rattle.enc_block.proofs.StateLaws.{home_own}

module _ (ts : List BType) (b : Bound) (k : Activation) (h : Home) (home : IsHome ts k h) (formed : IsFormed k.program) (f : FoldStmt) (typed : IsFold (whole k) f) where
  pub fold_runs : Runs ts b k h (with_body (body_of k.program f.predicate) (fold_code (kinds_of k) (place h f.at) f))
      (λ d. then_do (fold_instance b k.program f d.state (scene k d f.at)) (λ s. goes (with_state d s)))
  fold_runs =
      let v : Configuration → Run Configuration = λ d. then_do (fold_instance b k.program f d.state (scene k d f.at)) (λ s. goes (with_state d s)) in
      subst (λ o. Runs ts b k h (with_body o (fold_code (kinds_of k) (place h f.at) f)) v) (sym (body_found (whole k) f typed)) (record {
        goes = λ n d E it room.
            let low : n ≤ (fold_code (kinds_of k) (place h f.at) f typed.body n).next = omega (arith, (fold_counted (kinds_of k) (place h f.at) f typed.body).next n) in
            then_goes (with_state d) (λ s F z. at_maps home low z.kept z.coupled.now z.coupled.sound it)
            (along (fold_alongside ts b (whole k) formed (place h f.at) (home_own ts b k h home f.at) d.state (scene k d f.at) f typed it.fits n E (coupled_at it f.at) (ready it.full room)));
      })

  pub unfold_runs : Runs ts b k h (with_body (body_of k.program f.predicate) (unfold_code (kinds_of k) (place h f.at) f))
      (λ d. evaluating (unfold_instance b k.program f d.state (scene k d f.at)) (λ s. goes (with_state d s)))
  unfold_runs =
      let v : Configuration → Run Configuration = λ d. evaluating (unfold_instance b k.program f d.state (scene k d f.at)) (λ s. goes (with_state d s)) in
      subst (λ o. Runs ts b k h (with_body o (unfold_code (kinds_of k) (place h f.at) f)) v) (sym (body_found (whole k) f typed)) (record {
        goes = λ n d E it room.
            let low : n ≤ (unfold_code (kinds_of k) (place h f.at) f typed.body n).next = omega (arith, (unfold_counted (kinds_of k) (place h f.at) f typed.body).next n) in
            let a = unfold_instance b k.program f d.state (scene k d f.at) in
            then_goes {v = ended a} (with_state d) (λ s F z. at_maps home low z.kept z.coupled.now z.coupled.sound it)
            (ended_alongside ⊥ b k.program.layout a
            (λ cs. unfold_alike ts b (whole k) formed (place h f.at) (home_own ts b k h home f.at) d.state (scene k d f.at) f typed n E cs (coupled_at it f.at) (ready it.full room)));
      })
