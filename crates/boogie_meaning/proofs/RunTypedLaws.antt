-- A well-typed run is never Wrong, and keeps each variable of its type.
use Rattle.std.proofs.Common.{◌≡◌, Bool as Truth, true, false, Option, Some, None, List, [], ◌∷◌, All, if◌then◌else◌, refl}
use Rattle.std.proofs.lemmas.List.Elements.{All-head, All-tail}
use Rattle.vb_value.specs.Bound.{Bound}
use Rattle.boogie_tree.specs.Stmt as s
use Rattle.boogie_tree.specs.Program.{BType, BProgram}
use Rattle.boogie_tree.specs.Value.{BValue, BChoice}
use Rattle.boogie_meaning.specs.Ends.{End, Keeps, value as has, over}
use Rattle.boogie_tree.specs.Values.{IsEnvironment, IsReducedChoice, IsOfType, many, map_type}
use Rattle.boogie_meaning.specs.Types.{IsTyped, skip, first, IsTypedStmt, assign, put, havoc, assume_, assert_, if_, either}
use Rattle.boogie_meaning.specs.Run.{Run, Stops, Wrong, with_end, unless_blocked, with_choice, then_run, picked, chosen, brun_stmt, brun}
use Rattle.boogie_meaning.specs.Programs.{types_of, IsTypedProgram, NeverWrong}
use Rattle.boogie_meaning.specs.Kept.{KeepsTypes, done, failed, blocked, short, over as is_over}
use Rattle.boogie_meaning.proofs.TypedLaws.{truth_keeps, the_map_keeps, bvalue_keeps, bkey_keeps, side_keeps}
use Rattle.boogie_meaning.proofs.ValueLaws.{set_typed, stored_typed, chosen_typed}

module _ {ls : List BType} where
  end_keeps : {X : Type 0} {P : X → Type 0} {e : End X} (cs : List BChoice) (go : X → Run) → Keeps P e → ((x : X) → P x → KeepsTypes ls (go x)) → KeepsTypes ls (with_end e cs go)
  end_keeps cs go (has {x = x} p) g = g x p
  end_keeps cs go over g = is_over

  unless_keeps : {X : Type 0} (P : X → Type 0) (o : Option X) (rest : List BChoice) (go : X → List BChoice → Run) → All IsReducedChoice rest → ((x : X) → o ≡ Some x → P x) →
      ((x : X) (cs : List BChoice) → P x → All IsReducedChoice cs → KeepsTypes ls (go x cs)) → KeepsTypes ls (unless_blocked o rest go)
  unless_keeps P (Some x) rest go r p g = g x rest (p x refl) r
  unless_keeps P None rest go r p g = blocked

  choice_keeps : {X : Type 0} (P : X → Type 0) (cs : List BChoice) (kind : BChoice → Option X) (go : X → List BChoice → Run) → All IsReducedChoice cs →
      ((c : BChoice) (x : X) → IsReducedChoice c → kind c ≡ Some x → P x) → ((x : X) (rest : List BChoice) → P x → All IsReducedChoice rest → KeepsTypes ls (go x rest)) →
      KeepsTypes ls (with_choice cs kind go)
  choice_keeps P [] kind go r p g = short
  choice_keeps P (c ∷ rest) kind go r p g =
      unless_keeps P (kind c) rest go (All-tail IsReducedChoice c rest r) (λ x e. p c x (All-head IsReducedChoice c rest r) e) g

  then_keeps : {r : Run} (go : List BValue → List BChoice → Run) → KeepsTypes ls r → ((env : List BValue) (cs : List BChoice) → IsEnvironment ls env → All IsReducedChoice cs → KeepsTypes ls (go env cs)) →
      KeepsTypes ls (then_run r go)
  then_keeps go (done {env = env} {cs = cs} h r) g = g env cs h r
  then_keeps go failed g = failed
  then_keeps go blocked g = blocked
  then_keeps go short g = short
  then_keeps go is_over g = is_over

  if_keeps : (p : Truth) {r q : Run} → KeepsTypes ls r → KeepsTypes ls q → KeepsTypes ls (if p then r else q)
  if_keeps true h g = h
  if_keeps false h g = g

abbrev Any : {X : Type 0} → X → Type 0
Any x = Unit {0}

module _ (ls : List BType) (b : Bound) where
  mutual
    pub stmt_keeps : {x : s.BStmt} (env : List BValue) (cs : List BChoice) → IsTypedStmt ls x → IsEnvironment ls env → All IsReducedChoice cs → KeepsTypes ls (brun_stmt ls b x env cs)
    stmt_keeps env cs (assign {i = i} {e = e} {u = u} l t) h r = end_keeps cs _ (side_keeps b ls env h e u t) (λ v f. done (stored_typed ls env i u v h l f) r)
    stmt_keeps env cs (put {i = i} {es = es} {e = e} {u = u} {us = us} {w = w} l ks t) h r =
        end_keeps cs _ (bkey_keeps b ls env h es (u ∷ us) ks) (λ k f. end_keeps cs _ (bvalue_keeps b ls env h e w t) (λ v g. end_keeps cs _ (the_map_keeps ls env h i u us w l) (λ m y.
        done (stored_typed ls env i (map_type u us w) _ h l (many (set_typed y k v f g))) r)))
    stmt_keeps env cs (havoc {i = i} {u = u} l) h r =
        rw l (choice_keeps (λ v. IsOfType v u) cs (chosen u) _ r (λ c v q e. chosen_typed u c v q e) (λ v rest f q. done (stored_typed ls env i u v h l f) q))
    stmt_keeps env cs (assume_ {e = e} t) h r = end_keeps cs _ (truth_keeps (bvalue_keeps b ls env h e _ t)) (λ p a. if_keeps p (done h r) blocked)
    stmt_keeps env cs (assert_ {e = e} t) h r = end_keeps cs _ (truth_keeps (bvalue_keeps b ls env h e _ t)) (λ p a. if_keeps p (done h r) failed)
    stmt_keeps env cs (if_ {e = e} t xs ys) h r = end_keeps cs _ (truth_keeps (bvalue_keeps b ls env h e _ t)) (λ p a. if_keeps p (stmts_keep env cs xs h r) (stmts_keep env cs ys h r))
    stmt_keeps env cs (either xs ys) h r = choice_keeps Any cs picked _ r (λ c p q e. tt) (λ p rest a q. if_keeps p (stmts_keep env rest xs h q) (stmts_keep env rest ys h q))

    pub stmts_keep : {xs : s.BStmts} (env : List BValue) (cs : List BChoice) → IsTyped ls xs → IsEnvironment ls env → All IsReducedChoice cs → KeepsTypes ls (brun ls b xs env cs)
    stmts_keep env cs skip h r = done h r
    stmts_keep env cs (first x xs) h r = then_keeps _ (stmt_keeps env cs x h r) (λ env' rest g q. stmts_keep env' rest xs g q)

pub not_wrong : {ls : List BType} {r : Run} (cs : List BChoice) → KeepsTypes ls r → r ≡ Stops Wrong cs → ⊥
not_wrong cs (done h q) e = absurd (cc)
not_wrong cs failed e = absurd (cc)
not_wrong cs blocked e = absurd (cc)
not_wrong cs short e = absurd (cc)
not_wrong cs is_over e = absurd (cc)

pub never_wrong : (program : BProgram) → IsTypedProgram program → NeverWrong program
never_wrong program h b n d env cs left there g r e = not_wrong left (stmts_keep (types_of d) b env cs (h n d there).body g r) e
