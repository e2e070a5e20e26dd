use Rattle.std.proofs.Common.{◌+◌, ◌-◌, ◌≡◌}
use Rattle.words.specs.Words.{first_from}
use Rattle.rows.specs.Row.{row_has}
use Rattle.rows.proofs.place_in.Given as goal

abbrev pub invariant-loop-row : goal.invariant-loop-row
invariant-loop-row l = first_from (row_has l.book.rows l.pc) l.n l.first ≡ first_from (row_has l.book.rows l.pc) (l.first + l.n - l.row) l.row
