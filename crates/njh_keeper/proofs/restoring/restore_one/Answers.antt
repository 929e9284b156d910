use Rattle.std.proofs.Common.{◌≡◌, map, Some, ap, sym, refl, ◌∙◌, arith}
use Rattle.njh_spoolfile.specs.Kept.{contents_of}
use Rattle.{njh_spoolfile.specs.Kept.{entry_of, file_of, whole_in}, njh_hub.specs.WholeHub.part}
use Rattle.njh_keeper.proofs.{FileLaws.{no_fault, this_fault}, HubLaws.found, StepLaws.{all_read, fault_is, with_it}}
use Rattle.njh_keeper.proofs.TryingLaws.{back_is, fails_is, foreign_is}
use Rattle.njh_keeper.specs.{Opened.{file_fault, number_of}, SetAside.{taken_up, whole_taken_up}}
use Rattle.njh_keeper.proofs.restoring.restore_one.Goals as goal

pub returns-in_default-clause-ok : goal.returns-in_default-clause-ok
returns-in_default-clause-ok g c clean spool held =
    let names = c.args.names.now in
    let hub = c.args.hub.now in
    foreign_is names hub (whole_in spool (entry_of c.args.stored.now)) hub
    (ap (number_of names) (sym (c.taken_up.ensures ∙ ap taken_up c.as_str.ensures.value)) ∙ sym c.number_of.ensures
    ∙ c.in_default.is) refl

pub put_back-requires : goal.put_back-requires
put_back-requires g c =
    let text = c.taken_up.result.now in
    omega (
      arith,
      (found c.args.names.now text c.in-Some.customer (sym c.number_of.ensures ∙ c.in-Some.is)).0,
      c.requires.same,
    )

pub returns-in-Ok-clause-ok : goal.returns-in-Ok-clause-ok
returns-in-Ok-clause-ok g c clean spool held =
    let names = c.args.names.now in
    let hub = c.args.hub.now in
    let stored = c.args.stored.now in
    let w = whole_in spool (entry_of stored) in
    let read = map contents_of c.in_ok-records.records.items in
    let customer : number_of names (taken_up w.file.customer) ≡ Some c.in-Some.customer =
    ap (number_of names) (sym (c.taken_up.ensures ∙ ap taken_up c.as_str.ensures.value)) ∙ sym c.number_of.ensures
    ∙ c.in-Some.is in
    let whole : read ≡ w.records = all_read spool _ stored.file.key c.in_ok-records.records.items held
    (c.in_ok-records.ensures.records clean spool held) in
    back_is names hub w c.put_back.new.hub c.in-Some.customer customer
    (fault_is names hub (whole_taken_up w) c.in-Some.customer read customer whole
    ∙ no_fault (file_fault (part c.in-Some.customer hub) (file_of stored.file) read) c.put_back.result c.in-Ok.field-0
    c.put_back.ensures.fault c.in-Ok.is)
    (with_it names hub (whole_taken_up w) c.in-Some.customer read c.put_back.new.hub customer whole c.in-Ok.ensures.ok)

pub returns-in-Err-clause-ok : goal.returns-in-Err-clause-ok
returns-in-Err-clause-ok g c clean spool held =
    let names = c.args.names.now in
    let hub = c.args.hub.now in
    let stored = c.args.stored.now in
    let w = whole_in spool (entry_of stored) in
    let read = map contents_of c.in_ok-records.records.items in
    let customer : number_of names (taken_up w.file.customer) ≡ Some c.in-Some.customer =
    ap (number_of names) (sym (c.taken_up.ensures ∙ ap taken_up c.as_str.ensures.value)) ∙ sym c.number_of.ensures
    ∙ c.in-Some.is in
    let whole : read ≡ w.records = all_read spool _ stored.file.key c.in_ok-records.records.items held
    (c.in_ok-records.ensures.records clean spool held) in
    fails_is names hub w c.put_back.new.hub c.in-Some.customer customer c.in-Err.fault
    (fault_is names hub (whole_taken_up w) c.in-Some.customer read customer whole
    ∙ this_fault (file_fault (part c.in-Some.customer hub) (file_of stored.file) read) c.put_back.result c.in-Err.fault
    c.put_back.ensures.fault c.in-Err.is) c.in-Err.ensures.err
