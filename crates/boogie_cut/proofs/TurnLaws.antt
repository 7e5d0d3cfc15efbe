-- Where a turning run fails, so does some modular run from the same values: to the last head of each loop it gets by its havocked
-- targets.
use Rattle.std.proofs.Common.{◌≡◌, ◌==◌, ℕ, zero, suc, Bool as Truth, false, Option, Some, None, List, [], ◌∷◌, ◌++◌, All, slice_get, slice_set, refl, sym, ap, subst, ◌∙◌, append_assoc}
use Rattle.std.specs.Map.{values_of}
use Rattle.std.proofs.lemmas.Bool.Decides.{Decides-eqb}
use Rattle.std.proofs.lemmas.List.Elements.{All-nil, All-cons, All-head, All-tail, All-append}
use Rattle.vb_base.specs.declared.labels.Label.{Label}
use Rattle.boogie_tree.specs.Program.{BType}
use Rattle.boogie_tree.specs.Value.{Key, BScalar, BValue, BChoice}
use Rattle.boogie_tree.specs.Values.{IsEnvironment, IsReducedChoice, IsReducedEntry, IsOfType, one, many, FitsScalar}
use Rattle.boogie_tree.specs.declared.exprs.BBase.{BBase}
use Rattle.boogie_meaning.specs.Ends as ends
use Rattle.boogie_meaning.specs.Ends.{End, Is, Keeps, value as has, over}
use Rattle.boogie_meaning.specs.Run.{Run, Done, Stop, Stops, Failed, Blocked, Short, Over, Wrong, with_end, unless_blocked, with_choice, then_run, choice_for, entries_of}
use Rattle.boogie_loops.specs.Turning.{Turned, Goes, Halts, Spent, then_turned, plainly}

-- ---- look-ups

module _ {X : Type 0} where
  pub get_set_other : (xs : List X) (i j : ℕ) (x : X) → (i ≡ j → ⊥) → slice_get (slice_set xs i x) j ≡ slice_get xs j
  get_set_other [] i j x h = refl
  get_set_other (y ∷ xs) zero zero x h = absurd (h refl)
  get_set_other (y ∷ xs) zero (suc j) x h = refl
  get_set_other (y ∷ xs) (suc i) zero x h = refl
  get_set_other (y ∷ xs) (suc i) (suc j) x h = get_set_other xs i j x (λ e. h (ap suc e))

  pub get_set_same : (xs : List X) (i : ℕ) (x y : X) → slice_get xs i ≡ Some y → slice_get (slice_set xs i x) i ≡ Some x
  get_set_same [] i x y h = absurd (cc)
  get_set_same (z ∷ xs) zero x y h = refl
  get_set_same (z ∷ xs) (suc i) x y h = get_set_same xs i x y h

  pub same_lists : (xs ys : List X) → ((j : ℕ) → slice_get xs j ≡ slice_get ys j) → xs ≡ ys
  same_lists [] [] h = refl
  same_lists [] (y ∷ ys) h = let e = h 0 in absurd (cc)
  same_lists (x ∷ xs) [] h = let e = h 0 in absurd (cc)
  same_lists (x ∷ xs) (y ∷ ys) h =
      let e : x ≡ y = let g = h 0 in cc in
      let r = same_lists xs ys (λ j. h (suc j)) in
      λ i. e i ∷ r i

pub apart : (i j : ℕ) → (i == j) ≡ false → i ≡ j → ⊥
apart i j h e = let t = (Decides-eqb i j).1 e in absurd (cc)

-- ---- the choice that gives a value

entries_reduced : (u : BBase) (es : List (Key × BScalar)) → All (FitsScalar u) (values_of es) → All IsReducedEntry (entries_of es)
entries_reduced u [] h = All-nil IsReducedEntry
entries_reduced u (e ∷ es) h =
    let v : FitsScalar u e.1 = All-head (FitsScalar u) e.1 (values_of es) h in
    All-cons IsReducedEntry (record { key = e.0; value = e.1 }) (entries_of es) v.reduced (entries_reduced u es (All-tail (FitsScalar u) e.1 (values_of es) h))

pub choice_reduced : (v : BValue) (u : BType) → IsOfType v u → IsReducedChoice (choice_for v)
choice_reduced _ _ (one f) = f.reduced
choice_reduced _ _ (many {m = m} {w = w} h) = entries_reduced w m.entries h.values

-- ---- what a turning run says of the modular run

-- By some choices the one run goes on as the other.
abbrev pub Leads : (List BChoice → Run) → (List BChoice → Run) → Type 0
Leads whole part = (more : List BChoice) → (front : List BChoice) × All IsReducedChoice front × (whole (front ++ more) ≡ part more)

pub at_once : (go : List BChoice → Run) → Leads go go
at_once go more = ([], All-nil IsReducedChoice, refl)

pub leads_on : (a b c : List BChoice → Run) → Leads a b → Leads b c → Leads a c
leads_on a b c h k more =
    let q = k more in
    let p = h (q.0 ++ more) in
    (p.0 ++ q.0, All-append IsReducedChoice p.0 q.0 p.1 q.1, ap a (append_assoc p.0 q.0 more) ∙ p.2 ∙ q.2)

-- some run fails at the label
abbrev pub Failing : (List BChoice → Run) → Label → Type 0
Failing go l = (cs : List BChoice) × (left : List BChoice) × All IsReducedChoice cs × (go cs ≡ Stops (Failed l) left)

-- what is not changed has the same value
abbrev pub Frame : (ℕ → Truth) → List BValue → List BValue → Type 0
Frame changed env new = (j : ℕ) → changed j ≡ false → slice_get new j ≡ slice_get env j

module _ (ls : List BType) where
  pub data Tells (go : List BChoice → Run) (changed : ℕ → Truth) (env : List BValue) : Turned → Type 0 where
    goes : {new : List BValue} {cs : List BChoice} {n : ℕ} → IsEnvironment ls new → Frame changed env new → All IsReducedChoice cs → Leads go (λ more. Done new more) →
        Tells go changed env (Goes new cs n)
    fails : {l : Label} {cs : List BChoice} → Failing go l → Tells go changed env (Halts (Failed l) cs)
    halts : {why : Stop} {cs : List BChoice} → ((l : Label) → why ≡ Failed l → ⊥) → Tells go changed env (Halts why cs)
    spent : {cs : List BChoice} → Tells go changed env (Spent cs)

module _ {ls : List BType} where
  pub wider : {go : List BChoice → Run} {p q : ℕ → Truth} {env : List BValue} {t : Turned} → ((j : ℕ) → q j ≡ false → p j ≡ false) → Tells ls go p env t → Tells ls go q env t
  wider h (goes e f r k) = goes e (λ j x. f j (h j x)) r k
  wider h (fails x) = fails x
  wider h (halts x) = halts x
  wider h spent = spent

  pub led : {whole part : List BChoice → Run} {p : ℕ → Truth} {env mid : List BValue} {t : Turned} → Leads whole part → Frame p env mid → Tells ls part p mid t → Tells ls whole p env t
  led {whole = whole} {part = part} h f (goes {new = new} e g r k) = goes e (λ j x. g j x ∙ f j x) r (leads_on whole part (λ more. Done new more) h k)
  led {whole = whole} h f (fails x) =
      let p = h x.0 in
      fails (p.0 ++ x.0, x.1, All-append IsReducedChoice p.0 x.0 p.1 x.2, p.2 ∙ x.3)
  led h f (halts x) = halts x
  led h f spent = spent

  pub halted : {go : List BChoice → Run} {p : ℕ → Truth} {env : List BValue} (why : Stop) (cs left rest : List BChoice) → All IsReducedChoice cs → go cs ≡ Stops why left → Tells ls go p env (Halts why rest)
  halted (Failed l) cs left rest r e = fails (cs, left, r, e)
  halted Blocked cs left rest r e = halts (λ l h. absurd (cc))
  halted Short cs left rest r e = halts (λ l h. absurd (cc))
  halted Over cs left rest r e = halts (λ l h. absurd (cc))
  halted Wrong cs left rest r e = halts (λ l h. absurd (cc))

  -- from where the first goes
  pub then_tells : {go : List BChoice → Run} {p : ℕ → Truth} {env : List BValue} {t : Turned} (to : List BValue → List BChoice → Run) (k : List BValue → List BChoice → ℕ → Turned) →
      Tells ls go p env t → ((new : List BValue) (cs : List BChoice) (n : ℕ) → IsEnvironment ls new → All IsReducedChoice cs → Tells ls (to new) p new (k new cs n)) →
      Tells ls (λ cs. then_run (go cs) to) p env (then_turned t k)
  then_tells {go = go} to k (goes {new = new} {cs = cs} {n = n} e f r c) h =
      led (λ more. let x = c more in (x.0, x.1, ap (λ r. then_run r to) x.2)) f (h new cs n e r)
  then_tells to k (fails x) h = fails (x.0, x.1, x.2, ap (λ r. then_run r to) x.3)
  then_tells to k (halts x) h = halts x
  then_tells to k spent h = spent

-- ---- of runs that take no turn

abbrev pub Plain : (ls : List BType) → (List BChoice → Run) → (ℕ → Truth) → List BValue → Run → ℕ → Type 0
Plain ls go p env r n = Tells ls go p env (plainly r n Goes)

pub then_plain : (r : Run) (n : ℕ) (k : List BValue → List BChoice → ℕ → Turned) → plainly r n k ≡ then_turned (plainly r n Goes) k
then_plain (Done env cs) n k = refl
then_plain (Stops why cs) n k = refl

plain_run : (r : Run) (n : ℕ) (to : List BValue → List BChoice → Run) → plainly (then_run r to) n Goes ≡ then_turned (plainly r n Goes) (λ env cs n. plainly (to env cs) n Goes)
plain_run (Done env cs) n to = refl
plain_run (Stops why cs) n to = refl

module _ {ls : List BType} {p : ℕ → Truth} where
  pub done_tells : {env new : List BValue} (cs : List BChoice) (n : ℕ) → IsEnvironment ls new → Frame p env new → All IsReducedChoice cs → Plain ls (λ cs. Done new cs) p env (Done new cs) n
  done_tells {new = new} cs n e f r = goes e f r (at_once (λ more. Done new more))

  pub stop_tells : {env : List BValue} (why : Stop) (cs : List BChoice) (n : ℕ) → All IsReducedChoice cs → Plain ls (λ cs. Stops why cs) p env (Stops why cs) n
  stop_tells why cs n r = halted why cs cs cs r refl

  pub run_tells : {go : List BChoice → Run} {env : List BValue} (cs : List BChoice) (n : ℕ) (to : List BValue → List BChoice → Run) → Plain ls go p env (go cs) n →
      ((new : List BValue) (cs : List BChoice) (n : ℕ) → IsEnvironment ls new → All IsReducedChoice cs → Plain ls (to new) p new (to new cs) n) →
      Plain ls (λ cs. then_run (go cs) to) p env (then_run (go cs) to) n
  run_tells {go = go} {env = env} cs n to h k =
      subst (λ t. Tells ls (λ cs. then_run (go cs) to) p env t) (sym (plain_run (go cs) n to)) (then_tells to (λ env cs n. plainly (to env cs) n Goes) h k)

  pub end_tells : {X : Type 0} {P : X → Type 0} {e : End X} {env : List BValue} (cs : List BChoice) (n : ℕ) (f : X → List BChoice → Run) → All IsReducedChoice cs → Keeps P e →
      ((x : X) → P x → Plain ls (f x) p env (f x cs) n) → Plain ls (λ cs. with_end e cs (λ x. f x cs)) p env (with_end e cs (λ x. f x cs)) n
  end_tells cs n f r (has {x = x} k) h = h x k
  end_tells cs n f r over h = stop_tells Over cs n r

  -- the same of any end
  pub any_tells : {X : Type 0} (e : End X) {env : List BValue} (cs : List BChoice) (n : ℕ) (f : X → List BChoice → Run) → All IsReducedChoice cs →
      ((x : X) → Plain ls (f x) p env (f x cs) n) → Plain ls (λ cs. with_end e cs (λ x. f x cs)) p env (with_end e cs (λ x. f x cs)) n
  any_tells (Is x) cs n f r h = h x
  any_tells ends.Over cs n f r h = stop_tells Over cs n r
  any_tells ends.Wrong cs n f r h = stop_tells Wrong cs n r

  unless_tells : {X : Type 0} (P : X → Type 0) (kind : BChoice → Option X) {env : List BValue} (c : BChoice) (o : Option X) (rest : List BChoice) (n : ℕ) (f : X → List BChoice → Run) → kind c ≡ o →
      IsReducedChoice c → All IsReducedChoice rest → ((x : X) → o ≡ Some x → P x) → ((x : X) (rest : List BChoice) → P x → All IsReducedChoice rest → Plain ls (f x) p env (f x rest) n) →
      Plain ls (λ cs. with_choice cs kind f) p env (unless_blocked o rest f) n
  unless_tells P kind c (Some x) rest n f s rc r g h =
      led (λ more. (c ∷ [], All-cons IsReducedChoice c [] rc (All-nil IsReducedChoice), ap (λ o. unless_blocked o more f) s)) (λ j _. refl) (h x rest (g x refl) r)
  unless_tells P kind c None rest n f s rc r g h = halts (λ l e. absurd (cc))

  pub choice_tells : {X : Type 0} (P : X → Type 0) (kind : BChoice → Option X) {env : List BValue} (cs : List BChoice) (n : ℕ) (f : X → List BChoice → Run) → All IsReducedChoice cs →
      ((c : BChoice) (x : X) → IsReducedChoice c → kind c ≡ Some x → P x) → ((x : X) (rest : List BChoice) → P x → All IsReducedChoice rest → Plain ls (f x) p env (f x rest) n) →
      Plain ls (λ cs. with_choice cs kind f) p env (with_choice cs kind f) n
  choice_tells P kind [] n f r g h = halts (λ l e. absurd (cc))
  choice_tells P kind (c ∷ rest) n f r g h =
      let rc = All-head IsReducedChoice c rest r in
      unless_tells P kind c (kind c) rest n f refl rc (All-tail IsReducedChoice c rest r) (λ x e. g c x rc e) h
