use Rattle.std.proofs.Common.{◌≡◌, ◌+◌, ◌*◌, false}
use Rattle.code.specs.Places.{symbols_of}
use Rattle.code.specs.Shapes.{rows_of}
use Rattle.frames.specs.Format.{lines, frame_of}
use Rattle.drawn.proofs.texts.text_of.Given as goal

abbrev pub invariant-loop-column : goal.invariant-loop-column
invariant-loop-column g l = l.text.items ≡ lines (l.column * rows_of l.fn.shape) (frame_of (rows_of l.fn.shape) g.X.Symbol.bytes (λ _. false) (symbols_of g.X.Symbol.zero (rows_of l.fn.shape) l.cells))

abbrev pub invariant-loop-row : goal.invariant-loop-row
invariant-loop-row g l = l.text.items ≡ lines (l.column * rows_of l.fn.shape + l.row) (frame_of (rows_of l.fn.shape) g.X.Symbol.bytes (λ _. false) (symbols_of g.X.Symbol.zero (rows_of l.fn.shape) l.cells))
