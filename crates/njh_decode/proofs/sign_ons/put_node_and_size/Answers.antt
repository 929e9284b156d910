use Rattle.std.proofs.Common.{ap}
use Rattle.std.proofs.lemmas.Result.{on_ok_weaker}
use Rattle.njh_header.specs.SignOns.{SignOn}
use Rattle.njh_decode.specs.Words.{field_words, number_words}
use Rattle.njh_decode.specs.Records.{node_and_size_words}
use Rattle.njh_decode.proofs.LineLaws.{two_and_two}
use Rattle.njh_decode.proofs.sign_ons.put_node_and_size.Goals as goal

pub returns : goal.returns
unfolding node_and_size_words
returns c = on_ok_weaker c.put_numbered.result
    (two_and_two _ _ _ _ _ _ _ _ _ (ap (λ (s : SignOn). field_words s.node) c.sign_on.view_is)
    (ap (λ (s : SignOn). number_words s.block) c.sign_on.view_is) c.in_ok-put_named.ensures)
    c.put_numbered.ensures
