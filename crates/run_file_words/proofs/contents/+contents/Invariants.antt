use Rattle.std.proofs.Common.{◌+◌, ◌*◌}
use Rattle.run_file_words.proofs.contents.+contents.Given as goal

-- a pair begins one node deeper
abbrev pub decreases-content : goal.decreases-content
decreases-content l = 2 * l.room

abbrev pub decreases-pair : goal.decreases-pair
decreases-pair l = 2 * l.room + 1
