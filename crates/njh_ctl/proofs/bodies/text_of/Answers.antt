use Rattle.json.specs.Value.{value_view}
use Rattle.njh_ctl.proofs.BodyText.{body_by}
use Rattle.njh_ctl.proofs.bodies.text_of.Goals as goal

pub returns : goal.returns
returns c =
    body_by c.to_vec.result (λ body. body.items) (value_view c.args.value.now) c.requires.shallow c.to_vec.ensures.utf8
    c.to_vec.ensures.reads_back
