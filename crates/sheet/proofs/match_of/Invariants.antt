use Rattle.std.proofs.Common.{drop, length, ◌≡◌, ◌≤◌}
use Rattle.sheet.specs.Shape.{match_from, match_of}
use Rattle.sheet.proofs.match_of.Given as goal

abbrev pub invariant-loop-p : goal.invariant-loop-p
invariant-loop-p l =
    record { same : match_from (drop l.p-index l.shape) l.n l.v l.rest ≡ match_of l.shape l.line; few : l.n ≤ l.p-index; short : length l.rest ≤ 65536; five : length l.v ≡ 5 }
