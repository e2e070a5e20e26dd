use Rattle.std.proofs.Common.{drop, map, ◌≡◌}
use Rattle.sheet.specs.Shape.{item_from}
use Rattle.sheet.proofs.item_from.Given as goal

abbrev pub invariant-loop-kind : goal.invariant-loop-kind
invariant-loop-kind l = item_from l.kind (drop l.kind (map (λ s. s.now) l.shapes)) l.line ≡ item_from 0 (map (λ s. s.now) l.shapes) l.line
