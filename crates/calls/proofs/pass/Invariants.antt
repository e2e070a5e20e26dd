-- What is passed from here on is what is passed from the start.
use Rattle.std.proofs.Common.{◌≡◌, ◌≤◌}
use Rattle.calls.specs.Passing.{passed}
use Rattle.calls.proofs.pass.Given as goal

abbrev pub invariant-loop-left : goal.invariant-loop-left
invariant-loop-left l = (2 ≤ l.d) × (passed l.code l.place l.stop l.left l.d ≡ passed l.code l.place l.stop l.allowance l.from)

abbrev pub decreases-loop-left : goal.decreases-loop-left
decreases-loop-left l = l.left
