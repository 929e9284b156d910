use Rattle.std.proofs.Common.{◌++◌, List, ap, arith, map, ◌∙◌, sym}
use Rattle.std.proofs.lemmas.List.{take_all}
use Rattle.njh_table.specs.TableFile.{NamedLine}
use Rattle.njh_lines.specs.Watching.{served_on}
use Rattle.njh_sites.specs.declared.endpoints.Endpoint.{Endpoint}
use Rattle.njh_service.proofs.ServedLaws.{added_from, as_many, next_left, served_more}
use Rattle.njh_service.proofs.open_lines.add_lines.Goals as goal

pub loop-endpoint-preserved : goal.loop-endpoint-preserved
loop-endpoint-preserved g c = record {
  rest = (next_left c.args.sites.items c.loop-endpoint.endpoint-index c.in-Some.site _
      (sym c.loop-endpoint.invariant.rest ∙ c.in-Some.ensures.cases.0)).1;
  many = omega (arith, c.loop-endpoint.invariant.many, c.in-Some.ensures.cases.1);
  served = served_more g.N.Network.address_of c.args.tables.now c.args.endpoints.now c.args.sites.items
      c.loop-endpoint.endpoint-index _ c.in-Some.site c.args.exchange.now.lines c.loop-endpoint.exchange.lines
      c.tell_site.new.exchange.lines c.add.new.self.lines
      c.loop-endpoint.invariant.served c.loop-endpoint-test.true
      (next_left c.args.sites.items c.loop-endpoint.endpoint-index c.in-Some.site _
      (sym c.loop-endpoint.invariant.rest ∙ c.in-Some.ensures.cases.0)).0
      c.tell_site.ensures.lines (added_from _ _ _ _ _ _
      (c.from-from.ensures ∙ ap (λ (l : NamedLine). l.from) c.line.ensures) c.in_ok-add.ensures.added);
}

-- all lines are served
pub returns : goal.returns
returns g c = λ address same.
    c.loop-endpoint.invariant.served address same
    ∙ ap (λ (es : List Endpoint). c.args.exchange.now.lines ++ map (served_on c.args.tables.now address) es)
    (take_all c.loop-endpoint.endpoint-index c.args.endpoints.now c.loop-endpoint-test.false)

-- there is a site for each
pub returns-in_default : goal.returns-in_default
returns-in_default g c = λ address same.
    let many = as_many g.N.Network.address_of address c.args.endpoints.now c.args.sites.items same in
    let none : ⊥ = omega (
      arith,
      many,
      c.loop-endpoint.invariant.many,
      c.loop-endpoint-test.true,
      c.in_default.ensures.cases.0,
    ) in
    absurd none
