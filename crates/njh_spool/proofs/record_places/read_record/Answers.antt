use Rattle.std.proofs.Common.{◌≡◌, ℕ, ◌+◌, List, length, sym, ap, ◌∙◌, arith, Some}
use Rattle.njh_record.specs.Bytes.{field}
use Rattle.njh_spool.specs.code.Chains.{chain_at}
use Rattle.njh_spool.proofs.RecordLaws.{in_file, next_place}
use Rattle.njh_spool.proofs.record_places.read_record.Goals as goal

pub overflow_add-begins : goal.overflow_add-begins
overflow_add-begins c =
    let r = in_file c.args.slot.now (chain_at c.args.at c.args.store.now) c.args.from.record_index c.requires.file
    c.requires.more in
    omega (arith, r.2.within, c.requires.place.place, c.requires.file.small)

pub read-block-requires-clause-short : goal.read-block-requires-clause-short
read-block-requires-clause-short c =
    let r = in_file c.args.slot.now (chain_at c.args.at c.args.store.now) c.args.from.record_index c.requires.file
    c.requires.more in
    let head = rw r.1.found at c.read_head-head.ensures.head in
    omega (arith, r.1.short, head.1, c.from.ensures)

pub read-block-requires-clause-within : goal.read-block-requires-clause-within
read-block-requires-clause-within c =
    let r = in_file c.args.slot.now (chain_at c.args.at c.args.store.now) c.args.from.record_index c.requires.file
    c.requires.more in
    let head = rw r.1.found at c.read_head-head.ensures.head in
    omega (arith, r.2.within, c.requires.place.place, head.1, c.from.ensures)

pub overflow_add-next-2 : goal.overflow_add-next-2
overflow_add-next-2 c =
    let r = in_file c.args.slot.now (chain_at c.args.at c.args.store.now) c.args.from.record_index c.requires.file
    c.requires.more in
    let head = rw r.1.found at c.read_head-head.ensures.head in
    omega (arith, r.2.within, c.requires.place.place, c.requires.file.small, head.1, c.from-2.ensures)

pub returns-clause-record : goal.returns-clause-record
returns-clause-record c =
    let r = in_file c.args.slot.now (chain_at c.args.at c.args.store.now) c.args.from.record_index c.requires.file
    c.requires.more in
    let head = rw r.1.found at c.read_head-head.ensures.head in
    let size : c.from.result ≡ length r.0.bytes = c.from.ensures ∙ sym head.1 in
    let bytes : c.read-block.new.into.items ≡ r.0.bytes =
    c.read-block.ensures.bytes
    ∙ ap (λ (n : ℕ). field (c.args.from.place + 3) n (chain_at c.args.at c.args.store.now).bytes) size
    ∙ ap (λ (n : ℕ). field (n + 3) (length r.0.bytes) (chain_at c.args.at c.args.store.now).bytes)
    c.requires.place.place ∙ r.2.rest in
    r.1.found ∙ ap (λ (srcb : ℕ). Some (record r.0 { srcb = srcb })) head.0
    ∙ ap (λ (bytes : List ℕ). Some (record { srcb = c.read_head-head.result.srcb; bytes = bytes })) (sym bytes)

pub returns-clause-place : goal.returns-clause-place
returns-clause-place c =
    let r = in_file c.args.slot.now (chain_at c.args.at c.args.store.now) c.args.from.record_index c.requires.file
    c.requires.more in
    let head = rw r.1.found at c.read_head-head.ensures.head in
    next_place c.args.slot.now (chain_at c.args.at c.args.store.now) c.args.from r.0 c.from-2.result c.read-block.result
    c.requires.place r.1 c.requires.more (head.1 ∙ sym c.from-2.ensures) c.read-block.ensures.block
