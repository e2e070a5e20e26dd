-- What is left of the piece, put here, is the whole piece put at first.
use Rattle.std.proofs.Common.{drop, ◌+◌, ◌≡◌}
use lib.Seq.{sets}
use Rattle.digits.proofs.put.Given as goal

abbrev pub invariant-loop-x : goal.invariant-loop-x
invariant-loop-x g l = (l.next ≡ l.at + l.x-index) × (sets l.out l.next (drop l.x-index l.piece) ≡ sets l.initial.out l.at l.piece)
