use Rattle.std.proofs.Common.{ap, ◌∙◌}
use Rattle.std.proofs.lemmas.Result.{IfOk-weaker}
use Rattle.njh_lines.specs.Watching.{Watched}
use Rattle.njh_service.proofs.BureauLaws.{all_told}
use Rattle.njh_service.proofs.viewing.line_views.Goals as goal

-- each line is told with its state and its counts
pub returns-clause-told : goal.returns-clause-told
returns-clause-told g c =
    let seen = c.posts.ensures.lines ∙ ap (λ (w : Watched). w.lines) c.utc.ensures in
    let noted = c.posts.ensures.steps ∙ ap (λ (w : Watched). w.steps) c.utc.ensures in
    let counted = c.posts.ensures.tallies ∙ ap (λ (w : Watched). w.tallies) c.utc.ensures in
    IfOk-weaker c.views_of.result _ _
    (λ views told. told
    ∙ all_told g.N.Network.address_of c.posts.result.now c.args.exchange.now.lines c.args.exchange.now.steps
    c.args.exchange.now.tallies seen noted counted)
    c.views_of.ensures
