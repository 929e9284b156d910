use Rattle.std.proofs.Common.{take, ap, ◌∙◌}
use Rattle.njh_wire.proofs.DepartureLaws.{gone_on}
use Rattle.njh_wire.proofs.departure.let_go.Goals as goal

pub returns-clause-moved : goal.returns-clause-moved
returns-clause-moved g c =
    let sends = c.send_rest.ensures.moved in
    let drops = c.drain.ensures.moved in (
      drops.0,
      sends.0,
      sends.1,
      gone_on g.C.Connection.moved g.met.C.Connection.more _ _ _ _ drops.0 (take sends.0 c.args.farewell.now.waiting) sends.2
          c.shut.ensures.moved drops.1,
      ap (λ f. f.waiting) c.shut.ensures.farewell ∙ ap (λ f. f.waiting) sends.3,
    )
