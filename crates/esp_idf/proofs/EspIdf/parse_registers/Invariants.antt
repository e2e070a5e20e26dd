-- The pairs from `at` on are what is left to take.
use Rattle.std.proofs.Common.{length, ◌-◌, ◌≡◌}
use Rattle.esp_idf.specs.Registers.{told_to, pairs_taken}
use Rattle.esp_idf.proofs.EspIdf.parse_registers.Given as goal

abbrev pub invariant-loop-pair : goal.invariant-loop-pair
invariant-loop-pair l = pairs_taken (length l.line - l.at) l.line l.at (told_to l.self l.pc l.known l.set) ≡ pairs_taken (length l.line) l.line 0 l.self

abbrev pub decreases-loop-pair : goal.decreases-loop-pair
decreases-loop-pair l = length l.line - l.at
