use Rattle.esp_backtrace.proofs.Pairs.{pair_told}
use Rattle.esp_backtrace.proofs.is_pair.Goals as goal

pub returns : goal.returns
returns c = rw (c.is_hex.ensures, c.is_hex-2.ensures) (pair_told c.args.line.now c.args.at)
