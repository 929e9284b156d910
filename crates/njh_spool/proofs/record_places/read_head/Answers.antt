use Rattle.std.proofs.Common.{◌≡◌, ℕ, ◌+◌, ◌*◌, ◌/◌, ◌%◌, ◌≤◌, ◌-◌, List, ◌∷◌, length, refl, sym, ap, ◌∙◌, arith, take}
use Rattle.std.proofs.Common.{drop}
use Rattle.std.specs.Prelude.{slice_index}
use Rattle.byteorder.specs.Endian.{big_number}
use Rattle.njh_record.specs.Bytes.{field, two_bytes}
use Rattle.njh_record.specs.Stored.{Stored}
use Rattle.njh_spool.specs.code.Chains.{chain_at}
use Rattle.njh_spool.specs.CustomerSpool.{stored_size}
use Rattle.njh_spool.specs.code.Packing.{unpacked_records}
use Rattle.njh_spool.proofs.RecordLaws.{IsAt, LiesAt, in_file}
use Rattle.njh_spool.proofs.record_places.read_head.Goals as goal
use Rattle.njh_spool.proofs.record_places.read_head.Goals.{After-read-block}

pub read-block-requires-clause-within : goal.read-block-requires-clause-within
read-block-requires-clause-within c =
    let r = in_file c.args.slot.now (chain_at c.args.at c.args.store.now) c.args.from.record_index c.requires.file
    c.requires.more in
    omega (arith, r.2.within, c.requires.place.place)

there : (c : After-read-block) → (r : Stored)
    × IsAt (unpacked_records c.args.slot.now.count (chain_at c.args.at c.args.store.now).bytes)
    c.args.from.record_index r × LiesAt (chain_at c.args.at c.args.store.now).bytes
    (stored_size (take c.args.from.record_index (unpacked_records c.args.slot.now.count
    (chain_at c.args.at c.args.store.now).bytes))) r
there c =
    in_file c.args.slot.now (chain_at c.args.at c.args.store.now) c.args.from.record_index c.requires.file
    c.requires.more

head_is : (c : After-read-block) → c.read-block.new.into.items ≡ (there c).0.srcb ∷ two_bytes (length (there c).0.bytes)
head_is c = c.read-block.ensures.bytes ∙ ap (λ (n : ℕ). field n 3 (chain_at c.args.at c.args.store.now).bytes)
    c.requires.place.place ∙ (there c).2.head

pub bounds-deref-0 : goal.bounds-deref-0
bounds-deref-0 c = rw (c.deref.ensures.0, head_is (goal.at.bounds-deref-0 c).After-read-block) (omega arith)

pub slice_bounds-read_u16-count : goal.slice_bounds-read_u16-count
slice_bounds-read_u16-count c =
    rw (c.deref-2.ensures.0, head_is (goal.at.slice_bounds-read_u16-count c).After-read-block) (omega arith)

pub slice_bounds-read_u16-start : goal.slice_bounds-read_u16-start
slice_bounds-read_u16-start c =
    let few : 1 ≤ length c.deref-2.result.now =
    rw (c.deref-2.ensures.0, head_is (goal.at.slice_bounds-read_u16-start c).After-read-block) (omega arith) in few

pub read_u16-requires : goal.read_u16-requires
read_u16-requires c = rw (c.deref-2.ensures.0, head_is (goal.at.read_u16-requires c).After-read-block) (omega arith)

number_back : (n high low : ℕ) → n ≤ 256 → high ≡ n / 256 % 256 → low ≡ n % 256 → n ≡ high * 256 + (low * 1 + 0)
number_back n high low short h l = omega arith

pub returns-clause-head : goal.returns-clause-head
returns-clause-head c =
    let step = (goal.at.returns-clause-head c).After-read-block in
    let r = there step in
    let first : slice_index c.deref.result.now 0 ≡ r.0.srcb =
    ap (λ (xs : List ℕ). slice_index xs 0) (c.deref.ensures.0 ∙ head_is step) in
    let number : c.read_u16.result ≡ length r.0.bytes =
    c.read_u16.ensures ∙ ap (λ (xs : List ℕ). big_number 2 (take (length xs - 1) (drop 1 xs))) (c.deref-2.ensures.0
    ∙ head_is step)
    ∙ sym (number_back (length r.0.bytes) (length r.0.bytes / 256 % 256) (length r.0.bytes % 256) r.1.short
    refl refl) in
    rw r.1.found (sym first, sym number)
