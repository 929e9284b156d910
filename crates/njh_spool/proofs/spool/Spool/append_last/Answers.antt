use Rattle.std.proofs.Common.{◌≡◌, ℕ, ◌+◌, ◌-◌, ◌*◌, ◌<◌, ◌≤◌, true, List, ◌++◌, length, set, refl, sym, ap, subst, ◌∙◌}
use Rattle.std.proofs.Common.{arith, ◌/◌, take, length-append}
use Rattle.njh_spool.specs.declared.file_slot.FileSlot.{FileSlot}
use Rattle.njh_spool.specs.declared.customer_files.CustomerFiles.{CustomerFiles}
use Rattle.njh_spool.specs.code.Chains.{Chain, StoreValue, chain_at, with_chain, blocks_of}
use Rattle.njh_spool.specs.CustomerSpool.{CustomerSpool, with_appended}
use Rattle.njh_spool.specs.Spools.{spool_at}
use Rattle.njh_spool.specs.code.Slots.{slot_of, chain_of, is_partial, with_record}
use Rattle.njh_spool.proofs.KeptLaws.{own_of, own_is, within_all, quotas_fit}
use Rattle.njh_spool.proofs.CallFinds as finds
use Rattle.njh_spool.proofs.CallLaws as call
use Rattle.njh_record.specs.Stored.{Stored}
use Rattle.njh_spool.specs.code.Packing.{packed_record}
use Rattle.njh_spool.proofs.PackingLaws.{length-packed_record}
use Rattle.njh_spool.proofs.QuotaLaws.{room_within}
use Rattle.njh_spool.proofs.Calls.{MovesTo, call_on, slot_at, chain_of_file, spools_in}
use Rattle.njh_spool.proofs.spool.Spool.append_last.Goals as goal
use Rattle.njh_spool.proofs.spool.Spool.append_last.Goals.{After-is_partial, After-blocks_for, After-blocks_for-2}
use Rattle.njh_spool.proofs.spool.Spool.append_last.Goals.{After-slot-2-1}

pub slot_at-slot-requires : goal.slot_at-slot-requires
slot_at-slot-requires c = finds.row_fits
    (call_on c.self.inside c.args.customer c.args.id c.self.invariant (rw c.self.view_is c.requires.range))

stage_is : (c : After-is_partial)
    → is_partial (slot_of c.self.inside.slots c.args.customer c.args.id).stage ≡ c.is_partial.result
stage_is c = ap (λ (x : FileSlot). is_partial x.stage)
    (sym (c.slot_at-slot.ensures))
    ∙ sym c.is_partial.ensures

pub returns-then-not-is_partial-clause-fault : goal.returns-then-not-is_partial-clause-fault
returns-then-not-is_partial-clause-fault c =
    let here = call_on c.self.inside c.args.customer c.args.id c.self.invariant (rw c.self.view_is c.requires.range) in
    let none = finds.finds_no_partial here
    (stage_is (goal.at.returns-then-not-is_partial-clause-fault c).After-is_partial ∙ c.if-not-is_partial.true) in
    rw (← c.self.view_is, none.appends (record { srcb = c.args.srcb; bytes = c.args.bytes.now })) refl

-- what the code counts
record Counts (used blocks own_used own_blocks : ℕ) : Type 0 where
  used_is : used ≡ own_used
  blocks_is : blocks ≡ own_blocks
  enough : own_blocks ≤ own_used
  few : own_used ≤ 65535

there_is : (c : After-blocks_for) → is_partial (slot_of c.self.inside.slots c.args.customer c.args.id).stage ≡ true
there_is c = ap (λ (x : FileSlot). is_partial x.stage)
    (sym (c.slot_at-slot.ensures))
    ∙ sym c.is_partial.ensures ∙ c.if-not-is_partial.false

own_same : (c : After-blocks_for) → c.index_mut-own.result.now ≡ (own_of c.self.inside.customers.items c.args.customer)
own_same c =
    let here = call_on c.self.inside c.args.customer c.args.id c.self.invariant (rw c.self.view_is c.requires.range) in
    own_is c.self.inside.customers.items c.args.customer c.from.result c.index_mut-own.result.now
    (finds.has here).within c.from.ensures
    c.index_mut-own.ensures.value

chain_same : (c : After-blocks_for) → chain_at c.place-at.result c.self.inside.store ≡
    (chain_of c.self.inside.store.chains c.args.customer c.args.id)
chain_same c =
    let here = call_on c.self.inside c.args.customer c.args.id c.self.invariant (rw c.self.view_is c.requires.range) in
    ap (λ (i : ℕ). chain_at i c.self.inside.store) c.place-at.ensures ∙ finds.chain_is here
    (finds.small_partial here (there_is c))

size_same : (c : After-blocks_for) → c.len-size.result ≡ length
    (chain_of c.self.inside.store.chains c.args.customer c.args.id).bytes
size_same c = c.len-size.ensures.bytes ∙ ap (λ (x : Chain). length x.bytes) (chain_same c)

counts : (c : After-blocks_for) → Counts c.index_mut-own.result.now.used c.blocks_for.result
    (own_of c.self.inside.customers.items c.args.customer).used
    (blocks_of (chain_of c.self.inside.store.chains c.args.customer c.args.id).bytes)
counts c =
    let here = call_on c.self.inside c.args.customer c.args.id c.self.invariant (rw c.self.view_is c.requires.range) in
    let has = finds.has here in
    record {
      used_is = ap (λ (o : CustomerFiles). o.used) (own_same c);
      blocks_is = c.blocks_for.ensures ∙ ap (λ (k : ℕ). (k + 251) / 252) (size_same c);
      enough = omega (arith, finds.blocks_are here, finds.enough_partial here (there_is c));
      few = omega (arith, has.own.counted, has.own.sound.within_quota, has.own.sound.quota_limit);
    }

longer_same : (c : After-blocks_for-2) → c.blocks_for-2.result ≡ blocks_of
    ((chain_of c.self.inside.store.chains c.args.customer c.args.id).bytes
    ++ packed_record (record { srcb = c.args.srcb; bytes = c.args.bytes.now }))
longer_same c =
    let at = (goal.at.overflow_add-used c).After-blocks_for in
    let size : c.len-size.result + (3 + length c.args.bytes.now) ≡ length
    ((chain_of c.self.inside.store.chains c.args.customer c.args.id).bytes
    ++ packed_record (record { srcb = c.args.srcb; bytes = c.args.bytes.now })) =
    omega (
      arith,
      size_same at,
      length-append (chain_of c.self.inside.store.chains c.args.customer c.args.id).bytes
          (packed_record (record { srcb = c.args.srcb; bytes = c.args.bytes.now })),
      length-packed_record
          (record { srcb = c.args.srcb; bytes = c.args.bytes.now }),
    ) in
    c.blocks_for-2.ensures ∙ ap (λ (k : ℕ). (k + 251) / 252) size

pub overflow_sub-used : goal.overflow_sub-used
overflow_sub-used c =
    let count = counts c in
    omega (arith, count.used_is, count.blocks_is, count.enough)

pub overflow_add-used : goal.overflow_add-used
overflow_add-used c =
    let here = call_on c.self.inside c.args.customer c.args.id c.self.invariant (rw c.self.view_is c.requires.range) in
    let at = (goal.at.overflow_add-used c).After-blocks_for in
    let count = counts at in
    let longer = longer_same c in
    let fits = (finds.has here).own.sound in
    let small = length-append (chain_of_file here).bytes
    (packed_record (record { srcb = c.args.srcb; bytes = c.args.bytes.now })) in
    omega (
      arith,
      count.used_is,
      count.blocks_is,
      count.enough,
      count.few,
      longer,
      small,
      length-packed_record
          (record { srcb = c.args.srcb; bytes = c.args.bytes.now }),
      c.requires.short,
    )

now_used : (c : After-blocks_for-2) → c.index_mut-own.result.now.used - c.blocks_for.result + c.blocks_for-2.result ≡
    (own_of c.self.inside.customers.items c.args.customer).used - blocks_of
    (chain_of c.self.inside.store.chains c.args.customer
    c.args.id).bytes + blocks_of ((chain_of c.self.inside.store.chains c.args.customer c.args.id).bytes
    ++ packed_record (record { srcb = c.args.srcb; bytes = c.args.bytes.now }))
now_used c =
    let count = counts (goal.at.overflow_add-used c).After-blocks_for in
    omega (arith, count.used_is, count.blocks_is, longer_same c)

pub returns-then-used-own-clause-fault : goal.returns-then-used-own-clause-fault
returns-then-used-own-clause-fault c =
    let here = call_on c.self.inside c.args.customer c.args.id c.self.invariant (rw c.self.view_is c.requires.range) in
    let at = (goal.at.returns-then-used-own-clause-fault c).After-blocks_for-2 in
    let first = (goal.at.returns-then-used-own-clause-fault c).After-blocks_for in
    let quota = ap (λ (o : CustomerFiles). o.quota) (own_same first) in
    rw (
      ← c.self.view_is,
      finds.append_full here
          (record { srcb = c.args.srcb; bytes = c.args.bytes.now }) (there_is first)
          (omega (arith, now_used at, quota, c.if-used-own.true)),
    ) refl

pub append_both-requires-clause-room : goal.append_both-requires-clause-room
append_both-requires-clause-room c =
    let here = call_on c.self.inside c.args.customer c.args.id c.self.invariant (rw c.self.view_is c.requires.range) in
    let at = (goal.at.append_both-requires-clause-room c).After-blocks_for-2 in
    let first = (goal.at.append_both-requires-clause-room c).After-blocks_for in
    let quota = ap (λ (o : CustomerFiles). o.quota) (own_same first) in
    let small = finds.small_partial here (there_is first) in
    let bytes : c.head_of.result
    ++ c.args.bytes.now ≡ packed_record (record { srcb = c.args.srcb; bytes = c.args.bytes.now }) =
    c.head_of.ensures in
    let room = finds.room here (record { srcb = c.args.srcb; bytes = c.args.bytes.now })
    (chain_of_file here).keys (there_is first) small
    (omega (arith, now_used at, quota, c.if-used-own.false))
    (λ more. room_within (spools_in c.self.inside) c.self.inside.store.capacity c.args.customer more
    (within_all c.self.inside.store c.self.inside.slots c.self.inside.customers.items c.self.invariant)
    (quotas_fit c.self.inside.store c.self.inside.slots c.self.inside.customers.items c.self.invariant)
    (rw c.self.view_is c.requires.range)) in
    rw (bytes, c.place-at.ensures, finds.chain_is here small) room

pub add_record-requires : goal.add_record-requires
add_record-requires c =
    let here = call_on c.self.inside c.args.customer c.args.id c.self.invariant (rw c.self.view_is c.requires.range) in
    let count = ap (λ (x : FileSlot). x.count) (c.slot_at-slot.ensures) in
    omega (arith, count, finds.count_small here)

moved : (c : After-slot-2-1) → MovesTo (call_on c.self.inside c.args.customer c.args.id c.self.invariant
    (rw c.self.view_is c.requires.range)) c.append_both.new.self
    (set c.self.inside.slots (1024 * c.args.customer + c.args.id)
    (with_record c.args.srcb c.slot_at-slot.result))
    (set c.self.inside.customers.items c.from.result
    (record c.index_mut-own.result.now {
      used = c.index_mut-own.result.now.used - c.blocks_for.result +
          c.blocks_for-2.result;
    })) (with_appended c.args.id (record { srcb = c.args.srcb; bytes = c.args.bytes.now }))
moved c =
    let here = call_on c.self.inside c.args.customer c.args.id c.self.invariant (rw c.self.view_is c.requires.range) in
    let at = (goal.at.add_record-requires c).After-blocks_for-2 in
    let first = (goal.at.add_record-requires c).After-blocks_for in
    let there = there_is first in
    let small = finds.small_partial here there in
    let chain = chain_same first in
    let same = c.slot_at-slot.ensures in
    let bytes : c.head_of.result
    ++ c.args.bytes.now ≡ packed_record (record { srcb = c.args.srcb; bytes = c.args.bytes.now }) =
    c.head_of.ensures in
    let quota = ap (λ (o : CustomerFiles). o.quota) (own_same first) in
    let keys = (chain_at c.place-at.result c.append_both.new.self).keys in
    let blocks = c.index_mut-own.result.now.used - c.blocks_for.result + c.blocks_for-2.result in
    let r : Stored = record { srcb = c.args.srcb; bytes = c.args.bytes.now } in
    let code : c.args.srcb < 256 = omega arith in
    let longer : Chain = record { keys = keys; bytes = (chain_of_file here).bytes ++ packed_record r } in
    let after : StoreValue = with_chain (1024 * c.args.customer + c.args.id) longer c.self.inside.store in
    let front : take (length (chain_of_file here).keys) keys ≡ (chain_of_file here).keys =
    subst (λ (x : Chain). take (length x.keys) keys ≡ x.keys) chain c.append_both.ensures.keys in
    let store : c.append_both.new.self ≡ after =
    c.append_both.ensures.after
    ∙ ap (λ (xs : List ℕ). with_chain c.place-at.result
    (record { keys = keys; bytes = (chain_at c.place-at.result c.self.inside.store).bytes ++ xs }) c.self.inside.store)
    bytes
    ∙ ap (λ (x : Chain). with_chain c.place-at.result
    (record { keys = keys; bytes = x.bytes ++ packed_record r }) c.self.inside.store) chain
    ∙ ap (λ (i : ℕ). with_chain i longer c.self.inside.store) c.place-at.ensures in
    call.arrives here after c.append_both.new.self (with_record c.args.srcb c.slot_at-slot.result)
    (record c.index_mut-own.result.now { used = blocks })
    (set c.self.inside.slots (1024 * c.args.customer + c.args.id)
    (with_record c.args.srcb c.slot_at-slot.result)) c.from.result
    (with_appended c.args.id r) store refl c.from.ensures
    (subst (λ (x : FileSlot). MovesTo here after (set c.self.inside.slots (1024 * c.args.customer + c.args.id)
    (with_record c.args.srcb x)) (set c.self.inside.customers.items c.args.customer
    (record c.index_mut-own.result.now { used = blocks })) (with_appended c.args.id r))
    (sym same)
    (subst (λ (o : CustomerFiles). MovesTo here after (set c.self.inside.slots (1024 * c.args.customer + c.args.id)
    (with_record c.args.srcb (slot_at here)))
    (set c.self.inside.customers.items c.args.customer (record o { used = blocks }))
    (with_appended c.args.id r)) (sym (own_same first))
    (call.appends here r keys blocks there c.requires.short code front (now_used at)
    (omega (arith, quota, c.if-used-own.false)) small)))

pub invariant_of-self-2 : goal.invariant_of-self-2
invariant_of-self-2 c =
    rw (c.set.ensures, c.add_record.ensures) (moved (goal.at.invariant_of-self-2 c).After-slot-2-1).kept

pub returns-clause-fault : goal.returns-clause-fault
returns-clause-fault c =
    let here = call_on c.self.inside c.args.customer c.args.id c.self.invariant (rw c.self.view_is c.requires.range) in
    let at = (goal.at.returns-clause-fault c).After-blocks_for-2 in
    let first = (goal.at.returns-clause-fault c).After-blocks_for in
    let quota = ap (λ (o : CustomerFiles). o.quota) (own_same first) in
    rw (
      ← c.self.view_is,
      finds.append_fits here
          (record { srcb = c.args.srcb; bytes = c.args.bytes.now }) (there_is first)
          (omega (arith, now_used at, quota, c.if-used-own.false)),
    ) refl

pub returns-clause-ok : goal.returns-clause-ok
returns-clause-ok c =
    rw (c.set.ensures, c.add_record.ensures) ((moved (goal.at.returns-clause-ok c).After-slot-2-1).spools
    ∙ ap (λ (old : List CustomerSpool). set old c.args.customer
    (with_appended c.args.id (record { srcb = c.args.srcb; bytes = c.args.bytes.now }) (spool_at c.args.customer old)))
    c.self.view_is)
