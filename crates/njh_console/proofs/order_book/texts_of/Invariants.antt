use Rattle.std.proofs.Common.{◌≡◌, map, take}
use Rattle.njh_console.proofs.order_book.texts_of.Given as goal

abbrev pub invariant-loop-text : goal.invariant-loop-text
invariant-loop-text l = l.copies.items ≡ map (λ t. t.items) (take l.text-index l.texts)
