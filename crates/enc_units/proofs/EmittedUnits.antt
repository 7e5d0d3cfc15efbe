-- What the start of a unit adds, by what its parts add.
use Rattle.std.specs.List.{range_with_len}
use Rattle.std.proofs.Common.{◌≡◌, ◌∙◌, ℕ, zero, ◌+◌, List, [], ◌∷◌, ◌++◌, length, ap, zero-add}
use Rattle.vb_value.specs.declared.values.Ty.{Ty}
use Rattle.viper_core.specs.Program.{Program}
use Rattle.viper_core.specs.declared.programs.Unit.{Unit}
use Rattle.boogie_meaning.specs.Patterns.{zero_code}
use Rattle.boogie_tree.specs.Stmt as s
use Rattle.boogie_tree.specs.declared.exprs.BBase.{BBase}
use Rattle.boogie_tree.specs.declared.exprs.BBase.TheVariants as base
use Rattle.enc_expr.specs.Code.{join}
use Rattle.enc_expr.specs.Encoding.{maps_from}
use Rattle.enc_expr.specs.Front.{types_of}
use Rattle.enc_expr.specs.Locals.{types_of_others}
use Rattle.enc_expr.specs.Pieces.{one}
use Rattle.enc_expr.specs.Place.{Maps, number}
use Rattle.enc_expr.proofs.RunLaws.{join_assoc}
use Rattle.enc_fold.specs.Saved.{copy_held}
use Rattle.enc_block.specs.Encoding.{keep_old}
use Rattle.enc_block.specs.Home.{Home}
use Rattle.enc_locals.specs.Numbers.{present_from, nothing_from}
use Rattle.enc_units.specs.Units.{first_values, first_old, zero_mask, first_further, home_of, zeros_code, defaults_code, start_code}

-- ---- where the locals of a unit stand

module _ (p : Program) (u : Unit) (vs os all : List ℕ) (now old nothing : Maps) (a b c d : ℕ) where
  -- numbers that were taken one after the other are those of its home
  pub placed : vs ≡ range_with_len 0 (length (types_of p u)) → a ≡ 0 + length (types_of p u) → now ≡ present_from p.layout a → b ≡ a + length p.layout.fields + length p.layout.keys + length p.layout.fields + length p.layout.keys →
      old ≡ maps_from p.layout b → c ≡ b + length p.layout.fields + length p.layout.fields + length p.layout.keys + length p.layout.keys → nothing ≡ nothing_from p.layout c → d ≡ c + 1 + length p.layout.keys →
      os ≡ range_with_len d (length (types_of_others p u)) → all ≡ vs ++ os → (record { vars = all; now = now; old = old; nothing = nothing } ≡ home_of p u) × (c ≡ zero_mask p u)
  placed vars first present second state third zeros fourth others joined = ((λ i. record { vars = vars_is i; now = now_is i; old = old_is i; nothing = nothing_is i }), third_is)
    where
      first_is : a ≡ length (types_of p u)
      first_is = first ∙ zero-add (length (types_of p u))

      second_is : b ≡ first_old p u
      second_is = second ∙ ap (λ n. n + length p.layout.fields + length p.layout.keys + length p.layout.fields + length p.layout.keys) first_is

      third_is : c ≡ zero_mask p u
      third_is = third ∙ ap (λ n. n + length p.layout.fields + length p.layout.fields + length p.layout.keys + length p.layout.keys) second_is

      fourth_is : d ≡ first_further p u
      fourth_is = fourth ∙ ap (λ n. n + 1 + length p.layout.keys) third_is

      vars_is : all ≡ (home_of p u).vars
      vars_is = joined ∙ (λ i. vars i ++ (others ∙ ap (λ n. range_with_len n (length (types_of_others p u))) fourth_is) i)

      now_is : now ≡ (home_of p u).now
      now_is = present ∙ ap (present_from p.layout) first_is

      old_is : old ≡ (home_of p u).old
      old_is = state ∙ ap (maps_from p.layout) second_is

      nothing_is : nothing ≡ (home_of p u).nothing
      nothing_is = zeros ∙ ap (nothing_from p.layout) third_is

-- how its code begins: the zero maps and variables, and then the two states
pub started_as : (p : Program) (u : Unit) (h : Home) (n : ℕ) {block : s.BStmts} → h ≡ home_of p u → n ≡ zero_mask p u → block ≡ join (join (first_values n p u) (copy_held h.now h.nothing)) (keep_old h) → block ≡ start_code p u
started_as p u h n home number joined =
    let zs = zeros_code (zero_mask p u + 1) p.layout.keys in let ds = defaults_code (first_further p u) (types_of_others p u) in
    let held = copy_held (home_of p u).now (home_of p u).nothing in let kept = keep_old (home_of p u) in
    joined ∙ (λ i. join (join (first_values (number i) p u) (copy_held (home i).now (home i).nothing)) (keep_old (home i)))
    ∙ ap (s.first (zero_code (base.Ref ∷ []) (zero_mask p u))) (join_assoc (join zs ds) held kept ∙ join_assoc zs ds (join held kept))

-- the zero maps, one after the other, and the variables behind them
pub valued_first : (p : Program) (u : Unit) (n m a b : ℕ) (keys : List (List Ty)) (others : List Ty) (ks : List BBase) {first second third : s.BStmts} → m ≡ n → a ≡ n + 1 → ks ≡ base.Ref ∷ [] → first ≡ one (zero_code ks m) → keys ≡ p.layout.keys →
    second ≡ join first (zeros_code a keys) → b ≡ a + length keys → others ≡ types_of_others p u → third ≡ join second (defaults_code b others) → third ≡ first_values n p u
valued_first p u n m a b keys others ks mask next indices firsts all zeros further types defaults =
    let b_is = further ∙ (λ i. next i + length (all i)) in
    defaults ∙ (λ i. join ((zeros ∙ (λ j. join ((firsts ∙ (λ k. one (zero_code (indices k) (mask k)))) j) (zeros_code (next j) (all j)))) i) (defaults_code (b_is i) (types i)))
