use Rattle.std.proofs.Common.{Some, sym, ap, ◌∙◌, arith}
use Rattle.std.specs.Option.{option_map}
use Rattle.njh_record.specs.Stored.{Stored}
use Rattle.njh_spool.specs.code.Chains.{chain_at}
use Rattle.njh_spool.proofs.RecordLaws.{in_file, next_place}
use Rattle.njh_spool.proofs.record_places.pass_record.Goals as goal

pub overflow_add-next-2 : goal.overflow_add-next-2
overflow_add-next-2 c =
    let r = in_file c.args.slot.now (chain_at c.args.at c.args.store.now) c.args.from.record_index c.requires.file
    c.requires.more in
    omega (arith, r.2.within, c.requires.place.place, c.requires.file.small)

pub overflow_add-next-3 : goal.overflow_add-next-3
overflow_add-next-3 c =
    let r = in_file c.args.slot.now (chain_at c.args.at c.args.store.now) c.args.from.record_index c.requires.file
    c.requires.more in
    let head = rw r.1.found at c.read_head-head.ensures.head in
    omega (arith, r.2.within, c.requires.place.place, c.requires.file.small, head.1, c.from.ensures)

pub returns-clause-place : goal.returns-clause-place
returns-clause-place c =
    let r = in_file c.args.slot.now (chain_at c.args.at c.args.store.now) c.args.from.record_index c.requires.file
    c.requires.more in
    let head = rw r.1.found at c.read_head-head.ensures.head in
    next_place c.args.slot.now (chain_at c.args.at c.args.store.now) c.args.from r.0 c.from.result
    c.read_head-head.result.block
    c.requires.place r.1 c.requires.more (head.1 ∙ sym c.from.ensures) c.read_head-head.ensures.block

pub returns-clause-srcb : goal.returns-clause-srcb
returns-clause-srcb c =
    let r = in_file c.args.slot.now (chain_at c.args.at c.args.store.now) c.args.from.record_index c.requires.file
    c.requires.more in
    let head = rw r.1.found at c.read_head-head.ensures.head in
    ap (option_map (λ (x : Stored). x.srcb)) r.1.found ∙ ap Some head.0
