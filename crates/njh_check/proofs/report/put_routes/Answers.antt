use Rattle.std.proofs.Common.{◌≡◌, ◌++◌, ap, ◌∙◌}
use Rattle.njh_table.specs.TableFile.{route_entry}
use Rattle.njh_check.specs.Reports.{route_text}
use Rattle.njh_check.proofs.Loops.{told_more}
use Rattle.njh_check.proofs.report.put_routes.Goals as goal

pub loop-index-preserved : goal.loop-index-preserved
loop-index-preserved c =
    let lines = c.args.customer.now.lines in
    let route = route_entry c.route_at.result in
    let text : c.as_str.result.now ≡ route_text lines route =
    c.as_str.ensures.value ∙ c.in_ok-text.ensures ∙ ap (λ ls. route_text ls route) c.lines.ensures in
    c.in_ok-put.ensures ∙ ap (λ told. c.loop-index.report.items ++ told) text
    ∙ ap (λ front. front ++ route_text lines route) c.loop-index.invariant
    ∙ told_more (route_text lines) c.args.customer.now.routes c.loop-index.index route c.args.report.now.items
    c.route_at.ensures
