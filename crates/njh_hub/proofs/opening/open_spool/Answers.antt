use Rattle.std.proofs.Common.{◌∙◌, List, length, map, ap, sym, subst, arith}
use Rattle.std.specs.List.{All}
use Rattle.std.proofs.lemmas.List.{length-map}
use Rattle.std.proofs.lemmas.Simd.{map-map}
use Rattle.std.proofs.lemmas.List.Elements.{All-map}
use Rattle.njh_spool.specs.CustomerSpool.{empty_spool}
use Rattle.njh_spool.specs.Quotas.{IsWithinLimits}
use Rattle.njh_spool.specs.declared.quota.Quota.{Quota}
use Rattle.njh_hub.specs.Parts.{quota_in}
use Rattle.njh_hub.proofs.opening.open_spool.Goals as goal

pub open-requires-clause-some : goal.open-requires-clause-some
open-requires-clause-some c =
    let customers = c.args.tables.now.customers in
    let is = c.as_slice.ensures.value ∙ c.in_ok-quotas.ensures.each in
    omega (arith, ap length is, length-map customers quota_in, c.quotas_of.ensures.accepted.customers.0)

pub open-requires-clause-few : goal.open-requires-clause-few
open-requires-clause-few c =
    let customers = c.args.tables.now.customers in
    let is = c.as_slice.ensures.value ∙ c.in_ok-quotas.ensures.each in
    omega (arith, ap length is, length-map customers quota_in, c.quotas_of.ensures.accepted.customers.1)

pub open-requires-clause-limits : goal.open-requires-clause-limits
open-requires-clause-limits c =
    let customers = c.args.tables.now.customers in
    let is = c.as_slice.ensures.value ∙ c.in_ok-quotas.ensures.each in
    subst (λ (qs : List Quota). All IsWithinLimits qs) (sym is)
    (All-map IsWithinLimits quota_in customers (λ i d h.
    let each = c.quotas_of.ensures.accepted.each i d h in
    record {
      some_blocks = each.quota.0;
      most_blocks = each.quota.1;
      some_files = each.files.0;
      most_files = each.files.1;
    }))

pub returns-in-Ok-clause-empty : goal.returns-in-Ok-clause-empty
returns-in-Ok-clause-empty c =
    let customers = c.args.tables.now.customers in
    let is = c.as_slice.ensures.value ∙ c.in_ok-quotas.ensures.each in
    c.in-Ok.ensures.ok ∙ ap (map (λ q. empty_spool q.blocks q.files)) is
    ∙ map-map (λ q. empty_spool q.blocks q.files) quota_in customers
