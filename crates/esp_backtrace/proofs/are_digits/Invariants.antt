-- Whether the first k bytes are digits.
use Rattle.std.proofs.Common.{◌≡◌}
use Rattle.scan.specs.Places.{are_digits}
use Rattle.esp_backtrace.proofs.are_digits.Given as goal

abbrev pub invariant-loop-k : goal.invariant-loop-k
invariant-loop-k l = l.so_far ≡ are_digits l.line l.at l.k
