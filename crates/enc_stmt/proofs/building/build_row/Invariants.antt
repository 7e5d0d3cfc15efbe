use Rattle.std.proofs.Common.{◌≡◌, ◌++◌, [], length, map, drop}
use Rattle.enc_expr.specs.Emits.{emit_of, temporaries}
use Rattle.enc_stmt.specs.Built.{built_of, with_pieces}
use Rattle.enc_units.specs.Rows.{row_pieces, row_types}
use Rattle.enc_units.specs.View.{coder_of, step_of}
use Rattle.enc_stmt.proofs.building.build_row.Given as goal

abbrev pub invariant-loop-step : goal.invariant-loop-step
invariant-loop-step l = record {
  locals : (emit_of l.initial.out).locals ++ temporaries (length (emit_of l.initial.out).locals) (row_types (coder_of l.writer) (map step_of l.row) (length (emit_of l.initial.out).locals))
      ≡ (emit_of l.out).locals ++ temporaries (length (emit_of l.out).locals) (row_types (coder_of l.writer) (map step_of (drop l.step-index l.row)) (length (emit_of l.out).locals));
  code : with_pieces (row_pieces (coder_of l.writer) (map step_of l.row) (length (emit_of l.initial.out).locals)) (built_of [] l.initial.out.code.items)
      ≡ with_pieces (row_pieces (coder_of l.writer) (map step_of (drop l.step-index l.row)) (length (emit_of l.out).locals)) (built_of l.branches.items l.out.code.items);
}
