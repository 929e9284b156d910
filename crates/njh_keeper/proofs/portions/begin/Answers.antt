use Rattle.njh_keeper.proofs.Words
use Words.{◌≡◌, length, refl, true, ap, subst, ◌∙◌, arith, ok_then, shown, partial_records, part, Writes}
use Words.{Leads, leads_weaker}
use Rattle.njh_keeper.proofs.PortionLaws.{keeps_first}
use Rattle.njh_keeper.specs.declared.own_files.KeptPartial.{KeptPartial}
use Rattle.njh_keeper.proofs.portions.begin.Goals as goal

pub returns-clause-kept : goal.returns-clause-kept
returns-clause-kept g c =
    let now = (part c.args.file.now.customer c.args.hub.now).customer.spool in
    let count = c.record_count-count.result in
    let counted : count ≡ length (partial_records c.args.file.now.number now) =
    c.record_count-count.ensures ∙ ap length c.requires.partial in
    let p : KeptPartial = record {
      number = c.args.file.now.number;
      key = c.args.key;
      seen = count;
      written = count;
      is_open = true;
    } in
    let old = shown g.S.Store c.args.writer.now.store in
    let new = shown g.S.Store c.write_rest.new.writer.store in
    ok_then c.remember.result _ _ (λ last.
    keeps_first g.S.Store now c.args.writer.now c.write_rest.new.writer c.args.own.now c.remember.new.own
    c.in_ok-write_rest.ensures.others c.remember.ensures.others p last refl
    counted (omega (arith, c.record_count-count.ensures, c.requires.many)) counted
    (omega (arith, c.record_count-count.ensures, c.in_ok-write_rest.ensures.counted))
    (λ clean. leads_weaker (subst (λ rs. Leads (Writes c.args.key 0 rs) old new) c.requires.partial
    (c.in_ok-write_rest.ensures.led clean)) (λ s t wrote h empty.
    wrote (partial_records c.args.file.now.number now) refl h empty))) c.remember.ensures.last
