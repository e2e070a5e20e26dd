use Rattle.std.proofs.Common.{arith, ◌∙◌}
use Rattle.step.proofs.StepLaws.{rules_next}
use Rattle.step.proofs.caller_of.Goals as goal

pub loop-k-preserved : goal.loop-k-preserved
loop-k-preserved c = λ s. rules_next _ _ _ _ _ _ _ _ (omega arith) _ _ _ _ (c.rule_to-mask.ensures s) c.word-register.ensures c.word-kind.ensures c.word-operand.ensures ∙ c.loop-k.invariant s
