use Rattle.std.proofs.Common.{arith, drop, length, length-take, length-drop, length-set, refl, ◌-◌, sym, ◌∙◌}
use Rattle.sheet.specs.Shape.{match_of}
use Rattle.sheet.proofs.Shapes.{match_end, match_miss, match_more, marked, unmarked}
use Rattle.sheet.proofs.match_of.Goals as goal
use Rattle.sheet.proofs.match_of.Goals.{then-is_mark, else-is_mark}

pub loop-p-init : goal.loop-p-init
unfolding match_of
loop-p-init c = record { same = refl; few = omega arith; short = c.requires; five = refl }

pub returns-in_err-field : goal.returns-in_err-field
returns-in_err-field c = c.from_residual.ensures ∙ sym (match_miss _ _ c.loop-p.v c.loop-p.n _ c.loop-p-test.true (sym c.in_err-field.ensures.value)) ∙ c.loop-p.invariant.same

pub loop-p-preserved : goal.loop-p-preserved
loop-p-preserved c =
    let e = match_more _ _ c.loop-p.v c.loop-p.n _ c.loop-p-test.true (sym c.in_ok-field.ensures.value) in
    record {
      same = elim c.if-is_mark.branch [
        | then-is_mark w ↦ let m = marked _ c.loop-p.n (sym c.is_mark.ensures ∙ w.if-is_mark.true) in rw (w.n-is, w.v-is, w.keep.ensures) (sym (rw (m.0, m.1) at e) ∙ c.loop-p.invariant.same)
        | else-is_mark w ↦
            let m = unmarked _ c.loop-p.n c.in_ok-field.field.value c.loop-p.v c.loop-p.invariant.five (sym c.is_mark.ensures ∙ w.if-is_mark.false) in
            rw (w.n-is, w.v-is) (sym (rw (m.0, m.1) at e) ∙ c.loop-p.invariant.same)
      ];
      few = elim c.if-is_mark.branch [ then-is_mark w ↦ omega arith | else-is_mark w ↦ omega arith ];
      short = omega (arith, length-take (length c.loop-p.rest.now - c.in_ok-field.field.len) (drop c.in_ok-field.field.len c.loop-p.rest.now), length-drop c.in_ok-field.field.len c.loop-p.rest.now);
      five = elim c.if-is_mark.branch [ then-is_mark w ↦ rw (w.v-is, w.keep.ensures) (length-set _ _ _ ∙ c.loop-p.invariant.five) | else-is_mark w ↦ rw w.v-is c.loop-p.invariant.five ];
    }

pub returns-then-is_empty : goal.returns-then-is_empty
returns-then-is_empty c = sym (match_end _ _ c.loop-p.v c.loop-p.n _ c.loop-p-test.false ∙ rw (sym c.is_empty.ensures ∙ c.if-is_empty.true)) ∙ c.loop-p.invariant.same

pub returns-else-is_empty : goal.returns-else-is_empty
returns-else-is_empty c = sym (match_end _ _ c.loop-p.v c.loop-p.n _ c.loop-p-test.false ∙ rw (sym c.is_empty.ensures ∙ c.if-is_empty.false)) ∙ c.loop-p.invariant.same
