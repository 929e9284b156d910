use Rattle.std.proofs.Common.{ℕ, ◌*◌, length, replicate, refl, ap, ◌∙◌}
use Rattle.njh_spool.specs.code.Chains.{empty_chain}
use Rattle.njh_spool.specs.code.Slots.{contents}
use Rattle.njh_spool.proofs.OpenLaws.{kept_opened, spools_from-opened}
use Rattle.njh_spool.proofs.spool.Spool.open.Goals as goal

pub invariant_of-result : goal.invariant_of-result
invariant_of-result c =
    let store = c.in_ok-store.ensures ∙ ap (λ (b : ℕ). record {
      capacity = b;
      chains =
          replicate (1024 * length c.args.quotas.now) empty_chain;
    }) c.blocks_of_all.ensures.sum in
    rw c.in_ok-customers.ensures (kept_opened c.in_ok-store.store c.in_ok-slots.slots c.args.quotas.now
    (1024 * length c.args.quotas.now) c.requires.few c.requires.limits refl c.in_ok-slots.ensures store)

pub returns-clause-ok : goal.returns-clause-ok
returns-clause-ok c = rw c.in_ok-customers.ensures
    (spools_from-opened 0 c.args.quotas.now (contents c.in_ok-slots.slots c.in_ok-store.store.chains))
