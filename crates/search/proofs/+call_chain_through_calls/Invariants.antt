use Rattle.std.proofs.Common.{◌*◌, ◌+◌}
use Rattle.std.specs.Prelude.{None}
use Rattle.rows.specs.View.{view_at}
use Rattle.calls.specs.Call.{call_before}
use Rattle.calls.specs.Listing.{size_at, calls_among}
use Rattle.search.specs.Search.{through_calls, chain}
use Rattle.search.proofs.Steady.{Takes}
use Rattle.search.proofs.Chain.{Ahead}
use Rattle.search.proofs.+call_chain_through_calls.Given as goal

abbrev pub invariant-through_calls-loop-spot : goal.invariant-through_calls-loop-spot
invariant-through_calls-loop-spot l =
    Ahead (view_at l.book) (call_before l.reader.code) (size_at l.reader.code) l.depth l.target
    (through_calls (view_at l.book) (chain (view_at l.book) (call_before l.reader.code) (size_at l.reader.code) l.depth l.target) (calls_among (call_before l.reader.code) (size_at l.reader.code) l.initial.spot.left l.initial.spot.pc) l.initial.allowance) l.spot.left l.spot.pc l.allowance
    × Takes (λ n. chain (view_at l.book) (call_before l.reader.code) (size_at l.reader.code) l.depth l.target l.failed.start l.failed.end n) l.failed.cost None

abbrev pub decreases-through_calls-loop-spot : goal.decreases-through_calls-loop-spot
decreases-through_calls-loop-spot l = l.spot.left

-- The depth falls from a function to the calls of it.
abbrev pub decreases-call_chain : goal.decreases-call_chain
decreases-call_chain l = 2 * l.depth

abbrev pub decreases-through_calls : goal.decreases-through_calls
decreases-through_calls l = 2 * l.depth + 1
