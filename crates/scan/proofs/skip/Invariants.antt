-- The run from i on ends where that from `at` on ends.
use Rattle.std.proofs.Common.{length, ◌-◌, ◌≡◌}
use Rattle.scan.specs.Places.{past}
use Rattle.scan.proofs.skip.Given as goal

abbrev pub invariant-loop-i : goal.invariant-loop-i
invariant-loop-i l = past l.class l.line l.i ≡ past l.class l.line l.at

abbrev pub decreases-loop-i : goal.decreases-loop-i
decreases-loop-i l = length l.line - l.i
