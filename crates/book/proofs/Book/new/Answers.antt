use Rattle.std.proofs.Common.{sym, ◌∙◌}
use Rattle.book.proofs.GoodLaws.{good}
use Rattle.book.proofs.Book.new.Goals as goal

pub invariant_of-result : goal.invariant_of-result
invariant_of-result c =
    let g = sym c.book_is_good.ensures ∙ c.if-not-book_is_good.false in
    record { good = g; facts = good _ g }
