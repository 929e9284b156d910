-- One line more of what was counted of a customer's.
use Rattle.std.proofs.Common.{◌≡◌, ℕ, ◌+◌, ◌<◌, List, [], ◌∷◌, length, take, get_or, refl}
use Rattle.std.proofs.lemmas.List.{take_more}
use Rattle.std.proofs.lemmas.List.Sums.{fold-append}
use Rattle.njh_answer.specs.Counts.{none_away, turned_more, turned_of}
use Rattle.njh_answer.specs.declared.views.LineView.{LineView}

pub turned_one_more : (customer : ℕ) (lines : List LineView) (index : ℕ) (d : LineView) → index < length lines
    → turned_of customer (take (index + 1) lines)
    ≡ turned_more customer (turned_of customer (take index lines)) (get_or lines index d)
turned_one_more customer lines index d there =
    rw (
      take_more lines index d there,
      fold-append (turned_more customer) none_away (take index lines) (get_or lines index d ∷ []),
    ) refl
