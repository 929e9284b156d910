use Rattle.std.proofs.Common.{option_map, refl, subst}
use Rattle.njh_arguments.specs.Choices.{choice_view}
use Rattle.njh_ctl.proofs.TalkLaws.{talk_of}
use Rattle.njh_ctl.specs.Orders.{TalkView}
use Rattle.njh_ctl.specs.Shown.{files_head}
use Rattle.njh_ctl.specs.Talks.{FilesListed, wanted_at, with_head}
use Rattle.njh_ctl.specs.Told.{Told}
use Rattle.njh_ctl.proofs.talk.Talk.files.Goals as goal

pub returns-clause-done : goal.returns-clause-done
returns-clause-done g c =
    let choice = choice_view c.args.choice in
    let customer = option_map (λ name. name.now) c.args.customer in
    let new = c.files_told.new.self in
    let link = c.self.inside.asker in
    let moment = c.self.inside.moment in
    let begun = talk_of link c.self.inside.teller moment in (
      subst (λ (old : TalkView). FilesListed (wanted_at choice old) customer (with_head files_head old) new)
          c.self.view_is
          (subst (λ (told : Told). FilesListed (wanted_at choice begun) customer (talk_of link told moment) new)
          c.set_head.ensures c.in_ok-files_told.ensures.done),
      refl,
    )
