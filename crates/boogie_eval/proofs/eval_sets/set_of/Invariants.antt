-- The keys so far, and those that are left.
use Rattle.std.proofs.Common.{◌≡◌, ◌||◌, drop}
use Rattle.sparse.specs.Map.{borrowed, keys}
use Rattle.boogie_tree.specs.Value.{Key}
use Rattle.boogie_meaning.specs.Decided.{is_listed}
use Rattle.boogie_eval.specs.Searched.{IsSet}
use Rattle.boogie_eval.proofs.eval_sets.set_of.Given as goal

abbrev pub invariant-loop-key : goal.invariant-loop-key
invariant-loop-key l = record {
  is_set : IsSet l.set;
  so_far : (k : Key) → is_listed (borrowed l.list) k ≡ (is_listed (keys l.set) k || is_listed (drop l.key-index (borrowed l.list)) k);
}
