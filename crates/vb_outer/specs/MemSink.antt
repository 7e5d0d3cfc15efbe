-- A sink in memory.
use Rattle.std.specs.Prelude.{ℕ, List, ◌++◌, take, min, length}
use Rattle.vb_outer.specs.Calls.{Calls, called, call_failed}

pub record SinkState : Type 0 where
  pub written : List ℕ
  -- how many bytes a write takes at most
  pub most : ℕ
  pub calls : Calls

-- how many bytes a write that does not fail takes: the smaller of `most` and the piece's length
abbrev pub write_count : SinkState → List ℕ → ℕ
write_count sink piece = min sink.most (length piece)

-- after a write that does not fail
abbrev pub after_write : SinkState → List ℕ → SinkState
after_write sink piece = record sink { written = sink.written ++ take (write_count sink piece) piece; calls = called sink.calls }

-- after one that fails
abbrev pub write_failed : SinkState → SinkState
write_failed sink = record sink { calls = call_failed sink.calls }
