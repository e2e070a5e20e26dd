use Rattle.std.proofs.Common.{sym, ◌∙◌, Bor, List, ℕ, []}
use Rattle.sheet.proofs.Shapes.{item_none, item_hit, item_miss}
use Rattle.sheet.proofs.item_from.Goals as goal

-- the text of a shape, and what stands for one behind the last
abbrev text : Bor (List ℕ) → List ℕ
text s = s.now

abbrev none : Bor (List ℕ)
none = record { ref_ptr = (0, 0); now = [] }

pub returns-in-Some : goal.returns-in-Some
returns-in-Some c = sym (item_hit text c.args.shapes.now none c.args.line.now c.loop-kind.kind c.loop-kind-test.true (sym c.in-Some.ensures)) ∙ c.loop-kind.invariant

pub loop-kind-preserved : goal.loop-kind-preserved
loop-kind-preserved c = sym (item_miss text c.args.shapes.now none c.args.line.now c.loop-kind.kind c.loop-kind-test.true (sym c.in_default.ensures)) ∙ c.loop-kind.invariant

pub returns : goal.returns
returns c = sym (item_none text c.args.shapes.now none c.args.line.now c.loop-kind.kind c.loop-kind-test.false) ∙ c.loop-kind.invariant
