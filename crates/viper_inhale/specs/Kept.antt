-- What a state keeps of its own where it forgets: as in `forgotten`, but where a map of its own is missing the new one stays.
use Rattle.std.specs.Prelude.{Bool, List, ◌∷◌}
use Rattle.std.specs.Ordering.{nat_cmp}
use Rattle.std.specs.declared.cmp.Ordering.{Ordering}
use Rattle.sparse.specs.Map.{Map, keys}
use Rattle.vb_value.specs.Content.{same_content}
use Rattle.vb_value.specs.Fraction.{Fraction}
use Rattle.vb_value.specs.Key.{key_cmp}
use Rattle.vb_value.specs.Value.{value_eq}
use Rattle.viper_state.specs.State.{Memo, State}
use Rattle.viper_meaning.specs.Forgotten.{kept_at}

abbrev pub kept_maps : {K V : Type 0} → (K → K → Ordering) → (V → V → Bool) → List (Map K V) → List (Map K V) → List (Map K Fraction) → List (Map K V)
kept_maps cmp eq (new ∷ news) (own ∷ owns) (held ∷ helds) = kept_at cmp eq new own (keys held) ∷ kept_maps cmp eq news owns helds
kept_maps cmp eq news _ _ = news

abbrev pub kept_memo : State → Memo → Memo
kept_memo s m = record {
  heap = kept_maps nat_cmp value_eq m.heap s.heap s.mask;
  content = kept_maps key_cmp same_content m.content s.content s.amount;
}
