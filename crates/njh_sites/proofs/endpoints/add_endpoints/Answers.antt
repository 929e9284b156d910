use Rattle.std.proofs.Common.{List, [], ◌++◌, take, ap, sym, ◌∙◌, append_assoc}
use Rattle.std.specs.List.{filter_map, cons_option}
use Rattle.njh_sites.specs.declared.endpoints.Endpoint.{Endpoint}
use Rattle.njh_sites.specs.Endpoints.{endpoint_of}
use Rattle.njh_sites.proofs.EndpointLaws.{filter_map_more}
use Rattle.njh_sites.proofs.endpoints.add_endpoints.Goals as goal

pub loop-line-preserved : goal.loop-line-preserved
loop-line-preserved c =
    let h = endpoint_of c.args.tables.now in
    let lines = c.lines-line-items.result.now in
    let front = filter_map h (take c.loop-line.line-index lines) in
    let last = cons_option (h c.line-item.result) [] in
    let before = c.args.endpoints.now.items in
    record {
      added = c.in_ok-add_endpoint.ensures.added
          ∙ (ap (λ (endpoints : List Endpoint). endpoints ++ last) c.loop-line.invariant.added
          ∙ (append_assoc before front last
          ∙ ap (λ (endpoints : List Endpoint). before ++ endpoints)
          (sym (filter_map_more h lines c.loop-line.line-index c.line-item.result c.loop-line-test.true
          c.line-item.is))));
      known = λ all. c.in_ok-add_endpoint.ensures.known (c.loop-line.invariant.known all);
    }
