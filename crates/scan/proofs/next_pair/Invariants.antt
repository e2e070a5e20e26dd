-- The first pair from i on is the first from `at` on.
use Rattle.std.proofs.Common.{length, ◌-◌, ◌≡◌}
use Rattle.scan.specs.Pairs.{pair_place}
use Rattle.scan.proofs.next_pair.Given as goal

abbrev pub invariant-loop-i : goal.invariant-loop-i
invariant-loop-i l = pair_place l.line l.i ≡ pair_place l.line l.at

abbrev pub decreases-loop-i : goal.decreases-loop-i
decreases-loop-i l = length l.line - l.i
