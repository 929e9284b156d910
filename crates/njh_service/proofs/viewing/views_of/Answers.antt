use Rattle.std.proofs.Common.{ap, map, ◌∙◌}
use Rattle.std.proofs.lemmas.List.{take_all}
use Rattle.njh_service.specs.Bureaus.{post_told}
use Rattle.njh_service.proofs.BureauLaws.{told_more}
use Rattle.njh_service.proofs.viewing.views_of.Goals as goal

-- a line more is told
pub loop-place-preserved : goal.loop-place-preserved
loop-place-preserved g c =
    told_more c.args.posts.now c.loop-place.place c.index-posts-place.result c.loop-place.views.items _ _
    c.loop-place-test.true c.loop-place.invariant c.in_ok-push.ensures.items c.in_ok-view_of.ensures.told
    c.index-posts-place.is

-- all lines are
pub returns : goal.returns
returns g c =
    c.loop-place.invariant ∙ ap (map post_told) (take_all c.loop-place.place c.args.posts.now c.loop-place-test.false)
