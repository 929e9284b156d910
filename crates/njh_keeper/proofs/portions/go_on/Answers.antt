use Rattle.njh_keeper.proofs.Words
use Words.{◌≡◌, ◌≤◌, length, refl, true, ap, subst, ◌∙◌, arith, shown, partial_records, records_in, part, Writes}
use Words.{Leads, leads_nothing, leads_weaker}
use Rattle.njh_keeper.proofs.PortionLaws.{found_at, keeps_more, rest_is_written, waits_still}
use Rattle.njh_keeper.specs.declared.own_files.KeptPartial.{KeptPartial}
use Rattle.njh_keeper.proofs.portions.go_on.Goals as goal

pub returns-then-saturating_sub-lt-PORTION-clause-kept : goal.returns-then-saturating_sub-lt-PORTION-clause-kept
returns-then-saturating_sub-lt-PORTION-clause-kept g c =
    let now = (part c.args.file.now.customer c.args.hub.now).customer.spool in
    let rs = partial_records c.args.file.now.number now in
    let seen = c.record_count-seen.result in
    let p = c.index-partial.result.now in
    let q : KeptPartial = record p { seen = seen; is_open = true } in
    let found = found_at
    (λ x. (x.number ≡ c.args.file.now.number) × (x.seen ≤ length (records_in c.args.file.now.number now)))
    c.args.own.now.partial.items c.args.place p c.requires.within c.index-partial.ensures c.requires.found in
    let grown : p.seen ≤ length rs = subst (λ xs. p.seen ≤ length xs) c.requires.partial found.1 in
    let counted : seen ≡ length rs = c.record_count-seen.ensures ∙ ap length c.requires.partial in
    keeps_more g.S.Store now c.args.writer.now c.args.writer.now c.args.own.now _ refl refl c.args.place p q
    c.args.file.now.number c.requires.within c.index-partial.ensures refl found.0 refl refl grown
    counted (omega (arith, c.record_count-seen.ensures, c.requires.many)) (omega arith)
    (λ clean. leads_nothing (λ s. waits_still p q rs refl s refl))

pub returns-clause-kept : goal.returns-clause-kept
returns-clause-kept g c =
    let now = (part c.args.file.now.customer c.args.hub.now).customer.spool in
    let rs = partial_records c.args.file.now.number now in
    let seen = c.record_count-seen.result in
    let p = c.index-partial.result.now in
    let q : KeptPartial = record p { seen = seen; written = seen; is_open = true } in
    let found = found_at
    (λ x. (x.number ≡ c.args.file.now.number) × (x.seen ≤ length (records_in c.args.file.now.number now)))
    c.args.own.now.partial.items c.args.place p c.requires.within c.index-partial.ensures c.requires.found in
    let grown : p.seen ≤ length rs = subst (λ xs. p.seen ≤ length xs) c.requires.partial found.1 in
    let counted : seen ≡ length rs = c.record_count-seen.ensures ∙ ap length c.requires.partial in
    let old = shown g.S.Store c.args.writer.now.store in
    let new = shown g.S.Store c.write_rest.new.writer.store in
    keeps_more g.S.Store now c.args.writer.now c.write_rest.new.writer c.args.own.now _
    c.in_ok-write_rest.ensures.others refl c.args.place p q c.args.file.now.number c.requires.within
    c.index-partial.ensures refl found.0 refl refl grown counted
    (omega (arith, c.record_count-seen.ensures, c.requires.many))
    (omega (arith, c.record_count-seen.ensures, c.in_ok-write_rest.ensures.counted))
    (λ clean. leads_weaker (subst (λ xs. Leads (Writes p.key p.written xs) old new) c.requires.partial
    (c.in_ok-write_rest.ensures.led clean)) (λ s t wrote. rest_is_written p q rs refl s t counted wrote))
