use Rattle.std.proofs.Common.{◌≤◌}
use Rattle.search_theory.proofs.following.take_news.Given as goal

abbrev pub invariant-loop-news : goal.invariant-loop-news
invariant-loop-news l = l.fuel.left ≤ l.fn.fuel.left

abbrev pub decreases-loop-news : goal.decreases-loop-news
decreases-loop-news l = l.fuel.left
