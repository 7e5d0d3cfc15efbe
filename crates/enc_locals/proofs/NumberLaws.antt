-- Numbers of locals that are taken one after the other, and the maps of a state that have them.
use Rattle.std.specs.List.{range_with_len}
use Rattle.std.proofs.Common.{◌≡◌, ◌∙◌, ℕ, zero, suc, ◌+◌, List, [], ◌∷◌, ◌++◌, length, replicate, sym, ap, append_assoc, arith}
use Rattle.vb_value.specs.Layout.{Layout}
use Rattle.enc_expr.specs.Encoding.{maps_from}
use Rattle.enc_expr.specs.Pieces.{one}
use Rattle.enc_locals.specs.Numbers.{present_from, nothing_from}

-- ---- numbers in a row

range_suc : (a n : ℕ) → range_with_len a (suc n) ≡ range_with_len a n ++ ((a + n) ∷ [])
range_suc a zero = ap (λ k. k ∷ []) (omega arith)
range_suc a (suc n) = ap (λ ks. a ∷ ks) (range_suc (a + 1) n ∙ ap (λ k. range_with_len (a + 1) n ++ k ∷ []) (omega arith))

-- one more
pub range_more : (a n k : ℕ) {ns ms : List ℕ} → ns ≡ range_with_len a n → k ≡ a + n → ms ≡ ns ++ k ∷ [] → ms ≡ range_with_len a (n + 1)
range_more a n k so_far same pushed =
    let next : suc n ≡ n + 1 = omega arith in
    pushed ∙ (λ i. so_far i ++ same i ∷ []) ∙ sym (range_suc a n) ∙ ap (range_with_len a) next

pub item_more : (now rest : List ℕ) {new all : List ℕ} {x y : ℕ} → new ≡ now ++ x ∷ [] → x ≡ y → now ++ y ∷ rest ≡ all → new ++ rest ≡ all
item_more now rest {x = x} pushed same so_far = ap (λ zs. zs ++ rest) pushed ∙ append_assoc now (x ∷ []) rest ∙ ap (λ z. now ++ z ∷ rest) same ∙ so_far

-- maps of a state, from numbers that were taken one after the other
module _ (layout : Layout) (f k n : ℕ) (fields : f ≡ length layout.fields) (keys : k ≡ length layout.keys) (xs ys zs ws : List ℕ) (a b c d : ℕ) where
  pub presented : (xs ≡ range_with_len n f) × (a ≡ n + f) → (ys ≡ range_with_len a k) × (b ≡ a + k) → (zs ≡ range_with_len b f) × (c ≡ b + f) → (ws ≡ range_with_len c k) × (d ≡ c + k) →
      (record { heap = xs; mask = zs; amount = ws; content = ys } ≡ present_from layout n) × (d ≡ n + length layout.fields + length layout.keys + length layout.fields + length layout.keys)
  presented x y z w =
      let a_is = x.1 ∙ ap (λ i. n + i) fields in let b_is = y.1 ∙ (λ i. a_is i + keys i) in let c_is = z.1 ∙ (λ i. b_is i + fields i) in (
        (λ i. record {
          heap = (x.0 ∙ ap (range_with_len n) fields) i;
          mask = (z.0 ∙ (λ j. range_with_len (b_is j) (fields j))) i;
          amount = (w.0 ∙ (λ j. range_with_len (c_is j) (keys j))) i;
          content = (y.0 ∙ (λ j. range_with_len (a_is j) (keys j))) i;
        }),
        w.1 ∙ (λ i. c_is i + keys i),
      )

  pub stated : (xs ≡ range_with_len n f) × (a ≡ n + f) → (ys ≡ range_with_len a f) × (b ≡ a + f) → (zs ≡ range_with_len b k) × (c ≡ b + k) → (ws ≡ range_with_len c k) × (d ≡ c + k) →
      (record { heap = xs; mask = ys; amount = zs; content = ws } ≡ maps_from layout n) × (d ≡ n + length layout.fields + length layout.fields + length layout.keys + length layout.keys)
  stated x y z w =
      let a_is = x.1 ∙ ap (λ i. n + i) fields in let b_is = y.1 ∙ (λ i. a_is i + fields i) in let c_is = z.1 ∙ (λ i. b_is i + keys i) in (
        (λ i. record {
          heap = (x.0 ∙ ap (range_with_len n) fields) i;
          mask = (y.0 ∙ (λ j. range_with_len (a_is j) (fields j))) i;
          amount = (z.0 ∙ (λ j. range_with_len (b_is j) (keys j))) i;
          content = (w.0 ∙ (λ j. range_with_len (c_is j) (keys j))) i;
        }),
        w.1 ∙ (λ i. c_is i + keys i),
      )

  pub zeroed : (z : ℕ) → xs ≡ [] → (z ≡ n) × (a ≡ n + 1) → ys ≡ replicate f z → (zs ≡ range_with_len a k) × (b ≡ a + k) → ws ≡ [] →
      (record { heap = xs; mask = ys; amount = zs; content = ws } ≡ nothing_from layout n) × (b ≡ n + 1 + length layout.keys)
  zeroed z x one y w v =
      ((λ i. record { heap = x i; mask = (y ∙ (λ j. replicate (fields j) (one.0 j))) i; amount = (w.0 ∙ (λ j. range_with_len (one.1 j) (keys j))) i; content = v i }), w.1 ∙ (λ i. one.1 i + keys i))
