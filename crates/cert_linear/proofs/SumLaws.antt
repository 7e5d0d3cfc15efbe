-- Laws of sums of products.
use Rattle.std.proofs.Common.{◌≡◌, ℕ, ◌+◌, ◌<◌, refl, sym, ap, ◌∙◌, arith, ℤ, pos, ◌+ℤ◌, ◌-ℤ◌, ◌*ℤ◌, List, [], ◌∷◌, ◌++◌, take, get_or, length}
use Rattle.std.specs.Prelude.{sum_by, IsPermutation}
use Rattle.std.proofs.lemmas.Int.{ints}
use Rattle.std.proofs.lemmas.List.Sorted.{sum_by-IsPermutation}
use Rattle.std.proofs.lemmas.List.Sums.{sum_by-cons}
use Rattle.std.proofs.lemmas.List.{take_more}
use borrow.Author.Differences.{up, down}
use Rattle.vb_value.proofs.IntLaws.{*ℤ_assoc, *ℤ-+ℤ, +ℤ-*ℤ}
use Rattle.cert_linear.specs.declared.rows.Product.{Product}
use Rattle.cert_linear.specs.declared.rows.LinearRow.{LinearRow}
use Rattle.cert_linear.specs.Sums.{product_at, total, row_at}

pub total-push : (x : ℕ → ℤ) (ps : List Product) (p : Product) → total x (ps ++ p ∷ []) ≡ total x ps +ℤ product_at x p
total-push x [] p = omega (arith, ints)
total-push x (q ∷ ps) p =
    let e : total x (ps ++ p ∷ []) ≡ total x ps +ℤ product_at x p = total-push x ps p in
    ap (λ z. product_at x q +ℤ z) e ∙ regroup (product_at x q) (total x ps) (product_at x p)
  where
    regroup : (a b c : ℤ) → a +ℤ (b +ℤ c) ≡ (a +ℤ b) +ℤ c
    regroup a b c = omega (arith, ints)

-- with a weight before it
pub total-weighted : (x : ℕ → ℤ) (ps : List Product) (n : ℕ) (w f z : ℤ) → z ≡ w *ℤ f → total x (ps ++ record { name = n; factor = z } ∷ []) ≡ total x ps +ℤ w *ℤ (f *ℤ x n)
total-weighted x ps n w f z e =
    total-push x ps (record { name = n; factor = z }) ∙ ap (λ v. total x ps +ℤ v) (ap (λ v. v *ℤ x n) e ∙ *ℤ_assoc w f (x n))

-- the parts above and below 0, which are summed each by itself
parts : (x : ℕ → ℤ) (ps : List Product) → total x ps ≡ pos (sum_by (λ p. up (product_at x p)) ps) -ℤ pos (sum_by (λ p. down (product_at x p)) ps)
parts x [] = refl
parts x (p ∷ ps) =
    ap (λ z. product_at x p +ℤ z) (parts x ps) ∙ joined (product_at x p) (sum_by (λ q. up (product_at x q)) ps) (sum_by (λ q. down (product_at x q)) ps) ∙ sym (ap (λ n. pos n -ℤ pos (sum_by (λ q. down (product_at x q)) (p ∷ ps))) (sum_by-cons (λ q. up (product_at x q)) p ps) ∙ ap (λ n. pos (up (product_at x p) + sum_by (λ q. up (product_at x q)) ps) -ℤ pos n) (sum_by-cons (λ q. down (product_at x q)) p ps))
  where
    joined : (z : ℤ) (a b : ℕ) → z +ℤ (pos a -ℤ pos b) ≡ pos (up z + a) -ℤ pos (down z + b)
    joined z a b = omega (arith, ints)

pub total-permutation : (x : ℕ → ℤ) (ps qs : List Product) → IsPermutation ps qs → total x qs ≡ total x ps
total-permutation x ps qs h =
    parts x qs ∙ ap (λ n. pos n -ℤ pos (sum_by (λ p. down (product_at x p)) qs)) (sum_by-IsPermutation (λ p. up (product_at x p)) ps qs h) ∙ ap (λ n. pos (sum_by (λ p. up (product_at x p)) ps) -ℤ pos n) (sum_by-IsPermutation (λ p. down (product_at x p)) ps qs h) ∙ sym (parts x ps)

-- ---- a row with a weight

-- w times a sum, by the weighted products of its parts
pub total-row : (x : ℕ → ℤ) (d : ℤ) (w : ℤ) (r : LinearRow) (start one two three n t m : ℤ) → one ≡ start +ℤ w *ℤ product_at x r.first → two ≡ one +ℤ w *ℤ product_at x r.second → three ≡ two +ℤ w *ℤ product_at x r.third → t ≡ w *ℤ r.number → m ≡ n +ℤ t → (start +ℤ n *ℤ d) +ℤ w *ℤ row_at x d r ≡ three +ℤ m *ℤ d
total-row x d w r start one two three n t m e f g h k =
    let a = product_at x r.first in
    let b = product_at x r.second in
    let c = product_at x r.third in
    let spread : w *ℤ (a +ℤ (b +ℤ (c +ℤ r.number *ℤ d))) ≡ w *ℤ a +ℤ (w *ℤ b +ℤ (w *ℤ c +ℤ w *ℤ (r.number *ℤ d))) = spreads w a b c (r.number *ℤ d) in
    let whole : m *ℤ d ≡ n *ℤ d +ℤ w *ℤ (r.number *ℤ d) =
    ap (λ z. z *ℤ d) k ∙ +ℤ-*ℤ n t d ∙ ap (λ z. n *ℤ d +ℤ z) (ap (λ z. z *ℤ d) h ∙ *ℤ_assoc w r.number d) in
    ap (λ z. (start +ℤ n *ℤ d) +ℤ z) spread ∙ regroup start (n *ℤ d) (w *ℤ a) (w *ℤ b) (w *ℤ c) (w *ℤ (r.number *ℤ d)) ∙ ap (λ z. z +ℤ (n *ℤ d +ℤ w *ℤ (r.number *ℤ d))) (sym (g ∙ ap (λ z. z +ℤ w *ℤ c) (f ∙ ap (λ z. z +ℤ w *ℤ b) e))) ∙ ap (λ z. three +ℤ z) (sym whole)
  where
    spreads : (w a b c e : ℤ) → w *ℤ (a +ℤ (b +ℤ (c +ℤ e))) ≡ w *ℤ a +ℤ (w *ℤ b +ℤ (w *ℤ c +ℤ w *ℤ e))
    spreads w a b c e =
        *ℤ-+ℤ w a (b +ℤ (c +ℤ e)) ∙ ap (λ z. w *ℤ a +ℤ z) (*ℤ-+ℤ w b (c +ℤ e) ∙ ap (λ z. w *ℤ b +ℤ z) (*ℤ-+ℤ w c e))

    regroup : (s n a b c e : ℤ) → (s +ℤ n) +ℤ (a +ℤ (b +ℤ (c +ℤ e))) ≡ (((s +ℤ a) +ℤ b) +ℤ c) +ℤ (n +ℤ e)
    regroup s n a b c e = omega (arith, ints)

-- ---- products of one name that stand together

more : (x : ℕ → ℤ) (ps : List Product) (i : ℕ) (d : Product) (left next : ℤ) → i < length ps → total x (take i ps) ≡ left *ℤ x (get_or ps i d).name → next ≡ left +ℤ (get_or ps i d).factor → total x (take (i + 1) ps) ≡ next *ℤ x (get_or ps i d).name
more x ps i d left next h e f =
    let p = get_or ps i d in
    ap (total x) (take_more ps i d h) ∙ total-push x (take i ps) p ∙ ap (λ z. z +ℤ product_at x p) e ∙ sym (ap (λ z. z *ℤ x p.name) f ∙ +ℤ-*ℤ left p.factor (x p.name))

-- the next product has the name of the one before
pub total-again : (x : ℕ → ℤ) (ps : List Product) (i : ℕ) (d : Product) (left next : ℤ) (old now : ℕ) → i < length ps → total x (take i ps) ≡ left *ℤ x old → (get_or ps i d).name ≡ old → now ≡ old → next ≡ left +ℤ (get_or ps i d).factor → total x (take (i + 1) ps) ≡ next *ℤ x now
total-again x ps i d left next old now h e f g k =
    more x ps i d left next h (e ∙ ap (λ n. left *ℤ x n) (sym f)) k ∙ ap (λ n. next *ℤ x n) (f ∙ sym g)

-- it has another name, and nothing is left
pub total-fresh : (x : ℕ → ℤ) (ps : List Product) (i : ℕ) (d : Product) (left next : ℤ) (old now : ℕ) → i < length ps → total x (take i ps) ≡ left *ℤ x old → left ≡ pos 0 → now ≡ (get_or ps i d).name → next ≡ left +ℤ (get_or ps i d).factor → total x (take (i + 1) ps) ≡ next *ℤ x now
total-fresh x ps i d left next old now h e f g k =
    more x ps i d left next h (e ∙ ap (λ z. z *ℤ x old) f ∙ nothing (x old) (x (get_or ps i d).name) ∙ sym (ap (λ z. z *ℤ x (get_or ps i d).name) f)) k ∙ ap (λ n. next *ℤ x n) (sym g)
  where
    nothing : (a b : ℤ) → pos 0 *ℤ a ≡ pos 0 *ℤ b
    nothing a b = omega (arith, ints)
