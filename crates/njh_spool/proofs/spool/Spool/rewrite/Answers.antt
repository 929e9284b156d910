use Rattle.std.proofs.Common.{◌≡◌, ℕ, ◌+◌, ◌*◌, ◌<◌, ◌≤◌, List, length, set, refl, sym, ap, subst, ◌∙◌, arith}
use Rattle.std.proofs.Common.{length-set, true, take}
use Rattle.njh_spool.specs.declared.file_slot.FileSlot.{FileSlot}
use Rattle.njh_spool.specs.code.Chains.{Chain, StoreValue, chain_at, empty_chain, with_chain}
use Rattle.njh_spool.specs.Headers.{kept_headers}
use Rattle.std.proofs.lemmas.List.{get_or-set_same}
use Rattle.njh_spool.specs.CustomerSpool.{CustomerSpool, with_rewritten_bytes, stored_size, at_index}
use Rattle.njh_spool.specs.CustomerSpool.{rewritten_record}
use Rattle.njh_spool.specs.Spools.{spool_at}
use Rattle.njh_spool.specs.code.Slots.{slot_of, chain_of, is_whole_stage}
use Rattle.njh_spool.proofs.CallFinds as finds
use Rattle.njh_spool.proofs.CallLaws as call
use Rattle.std.specs.Prelude.{slice_get, IsSomeAnd}
use Rattle.njh_record.specs.Bytes.{with_field}
use Rattle.njh_spool.specs.code.Packing.{unpacked_records}
use Rattle.njh_spool.proofs.RecordLaws.{in_file}
use Rattle.njh_spool.proofs.Calls.{MovesTo, call_on, slot_at, chain_of_file}
use Rattle.njh_spool.proofs.spool.Spool.rewrite.Goals as goal
use Rattle.njh_spool.proofs.spool.Spool.rewrite.Goals.{After-is_whole, After-place_of_record-begins, After-overwrite}
use Rattle.njh_spool.proofs.spool.Spool.rewrite.Goals.{After-set}

pub slot_at-slot-requires : goal.slot_at-slot-requires
slot_at-slot-requires c = finds.row_fits
    (call_on c.self.inside c.args.customer c.args.id c.self.invariant (rw c.self.view_is c.requires.range))

stage_is : (c : After-is_whole)
    → is_whole_stage (slot_of c.self.inside.slots c.args.customer c.args.id).stage ≡ c.is_whole.result
stage_is c = ap (λ (x : FileSlot). is_whole_stage x.stage)
    (sym (c.slot_at-slot.ensures))
    ∙ sym c.is_whole.ensures

pub returns-then-not-is_whole-clause-answer : goal.returns-then-not-is_whole-clause-answer
returns-then-not-is_whole-clause-answer c =
    let here = call_on c.self.inside c.args.customer c.args.id c.self.invariant (rw c.self.view_is c.requires.range) in
    let none = finds.finds_no_whole here
    (stage_is (goal.at.returns-then-not-is_whole-clause-answer c).After-is_whole ∙ c.if-not-is_whole.true) in
    rw (← c.self.view_is, none.none) refl

pub returns-then-not-is_whole-clause-after : goal.returns-then-not-is_whole-clause-after
returns-then-not-is_whole-clause-after c =
    let here = call_on c.self.inside c.args.customer c.args.id c.self.invariant (rw c.self.view_is c.requires.range) in
    let none = finds.finds_no_whole here
    (stage_is (goal.at.returns-then-not-is_whole-clause-after c).After-is_whole ∙ c.if-not-is_whole.true) in
    rw (← c.self.view_is) (none.changes (λ x. record
    x { records = at_index c.args.n (rewritten_record c.args.place c.args.bytes) x.records }))

pub place_of_record-begins-requires-clause-within : goal.place_of_record-begins-requires-clause-within
place_of_record-begins-requires-clause-within c =
    let here = call_on c.self.inside c.args.customer c.args.id c.self.invariant (rw c.self.view_is c.requires.range) in
    let same = c.slot_at-slot.ensures in
    let there = ap (λ (x : FileSlot). is_whole_stage x.stage) (sym same) ∙ sym c.is_whole.ensures
    ∙ c.if-not-is_whole.false in
    let inner : IsSomeAnd (slice_get (unpacked_records (slot_at here).count (chain_of_file here).bytes) c.args.n)
    (λ r. c.args.place + 8 ≤ length r.bytes) =
    finds.record_fits here c.args.self.now c.args.n c.args.place c.self.view_is there c.requires.within in
    let counted = finds.record_within here c.args.n (λ r. c.args.place + 8 ≤ length r.bytes) inner in
    let count = ap (λ (x : FileSlot). x.count) same in
    omega (arith, count, counted)

-- the bytes go into the file
record Goes (c : After-place_of_record-begins) : Type 0 where
  chain : chain_at c.place-at.result c.self.inside.store
      ≡ (chain_of c.self.inside.store.chains c.args.customer c.args.id)
  within : c.place_of_record-begins.result.place + 3 + c.args.place + 8 ≤ length
      (chain_of c.self.inside.store.chains c.args.customer c.args.id).bytes
  bound : length (chain_of c.self.inside.store.chains c.args.customer c.args.id).bytes ≤ 252 * 65535

goes : (c : After-place_of_record-begins) → Goes c
goes c =
    let here = call_on c.self.inside c.args.customer c.args.id c.self.invariant (rw c.self.view_is c.requires.range) in
    let same = c.slot_at-slot.ensures in
    let there = ap (λ (x : FileSlot). is_whole_stage x.stage) (sym same) ∙ sym c.is_whole.ensures
    ∙ c.if-not-is_whole.false in
    let inner : IsSomeAnd (slice_get (unpacked_records (slot_at here).count (chain_of_file here).bytes) c.args.n)
    (λ r. c.args.place + 8 ≤ length r.bytes) =
    finds.record_fits here c.args.self.now c.args.n c.args.place c.self.view_is there c.requires.within in
    let counted = finds.record_within here c.args.n (λ r. c.args.place + 8 ≤ length r.bytes) inner in
    let small = finds.small_whole here there in
    let chain = ap (λ (i : ℕ). chain_at i c.self.inside.store) c.place-at.ensures ∙ finds.chain_is here small in
    let begins = finds.record_begins here c.slot_at-slot.result (chain_at c.place-at.result c.self.inside.store)
    c.place_of_record-begins.result c.args.n same chain c.place_of_record-begins.ensures.place
    c.place_of_record-begins.ensures.index in
    let r = in_file (slot_at here) (chain_of_file here) c.args.n (c.self.invariant.files c.args.customer c.args.id)
    counted in
    let eight = rw r.1.found at inner in
    record {
      chain = chain;
      within = omega (arith, begins, r.2.within, eight);
      bound = (c.self.invariant.files c.args.customer c.args.id).small;
    }

pub overflow_add-from : goal.overflow_add-from
overflow_add-from c = let to = goes (goal.at.overflow_add-from c).After-place_of_record-begins in omega
    (arith, to.within, to.bound)

pub overflow_cast-from : goal.overflow_cast-from
overflow_cast-from c = let to = goes (goal.at.overflow_cast-from c).After-place_of_record-begins in omega
    (arith, to.within, to.bound)

pub overflow_add-from-2 : goal.overflow_add-from-2
overflow_add-from-2 c = let to = goes (goal.at.overflow_add-from-2 c).After-place_of_record-begins in omega
    (arith, to.within, to.bound)

pub overwrite-requires-clause-within : goal.overwrite-requires-clause-within
overwrite-requires-clause-within c =
    let to = goes (goal.at.overwrite-requires-clause-within c).After-place_of_record-begins in
    omega (arith, to.within, ap (λ (x : Chain). length x.bytes) to.chain)

-- the chain with the bytes written over
abbrev chain_then : StoreValue → ℕ → ℕ → ℕ → List ℕ → Chain
chain_then store customer id at bytes =
    record {
      keys = (chain_of store.chains customer id).keys;
      bytes = with_field at bytes (chain_of store.chains customer id).bytes;
    }

-- the facts of the record that is rewritten, in the terms of the laws
record Rewrites (store : StoreValue) (slots : List FileSlot) (slot : FileSlot) (customer id n at place index : ℕ)
    (bytes : List ℕ)
    (store' : StoreValue) : Type 0 where
  same : slot ≡ slot_of slots customer id
  there : is_whole_stage (slot_of slots customer id).stage ≡ true
  small : id < 1024
  counted : n < (slot_of slots customer id).count
  begins : at ≡ stored_size (take n (unpacked_records (slot_of slots customer id).count
      (chain_of store.chains customer id).bytes)) + 3 + place
  fits : IsSomeAnd (slice_get (unpacked_records (slot_of slots customer id).count
      (chain_of store.chains customer id).bytes) n)
      (λ r. place + length bytes ≤ length r.bytes)
  after : store' ≡ with_chain (1024 * customer + id) (chain_then store customer id at bytes) store
  chain : chain_at index store' ≡ chain_then store customer id at bytes
  inside : index < length store'.chains

rewrites : (c : After-overwrite)
    → Rewrites c.self.inside.store c.self.inside.slots c.slot_at-slot.result c.args.customer
    c.args.id c.args.n (c.place_of_record-begins.result.place + (3 + c.args.place)) c.args.place c.place-at.result
    c.args.bytes
    c.overwrite.new.self
rewrites c =
    let here = call_on c.self.inside c.args.customer c.args.id c.self.invariant (rw c.self.view_is c.requires.range) in
    let same = c.slot_at-slot.ensures in
    let there = ap (λ (x : FileSlot). is_whole_stage x.stage) (sym same) ∙ sym c.is_whole.ensures
    ∙ c.if-not-is_whole.false in
    let inner : IsSomeAnd (slice_get (unpacked_records (slot_at here).count (chain_of_file here).bytes) c.args.n)
    (λ r. c.args.place + 8 ≤ length r.bytes) =
    finds.record_fits here c.args.self.now c.args.n c.args.place c.self.view_is there c.requires.within in
    let counted = finds.record_within here c.args.n (λ r. c.args.place + 8 ≤ length r.bytes) inner in
    let small = finds.small_whole here there in
    let chain = ap (λ (i : ℕ). chain_at i c.self.inside.store) c.place-at.ensures ∙ finds.chain_is here small in
    let begins = finds.record_begins here c.slot_at-slot.result (chain_at c.place-at.result c.self.inside.store)
    c.place_of_record-begins.result c.args.n same chain c.place_of_record-begins.ensures.place
    c.place_of_record-begins.ensures.index in
    let eight : 8 ≡ length c.args.bytes = omega arith in
    let fits =
    subst (λ (size : ℕ). IsSomeAnd (slice_get (unpacked_records (slot_at here).count (chain_of_file here).bytes)
    c.args.n) (λ r. c.args.place + size ≤ length r.bytes)) eight inner in
    let at = c.place_of_record-begins.result.place + (3 + c.args.place) in
    let index = 1024 * c.args.customer + c.args.id in
    let then = chain_then c.self.inside.store c.args.customer c.args.id at c.args.bytes in
    let store : c.overwrite.new.self ≡ with_chain index then c.self.inside.store =
    c.overwrite.ensures
    ∙ ap (λ (x : Chain). with_chain c.place-at.result (record
    { keys = x.keys; bytes = with_field at c.args.bytes x.bytes })
    c.self.inside.store) chain
    ∙ ap (λ (i : ℕ). with_chain i then c.self.inside.store) c.place-at.ensures in
    let has = finds.has here in
    record {
      same = same;
      there = there;
      small = small;
      counted = counted;
      begins = omega (arith, begins);
      fits = fits;
      after = store;
      chain = ap (λ (i : ℕ). chain_at i c.overwrite.new.self) c.place-at.ensures ∙ ap (chain_at index) store
          ∙ get_or-set_same c.self.inside.store.chains index then empty_chain (has.chain_within c.args.id small);
      inside = omega (
        arith,
        ap (λ (t : StoreValue). length t.chains) store,
        length-set c.self.inside.store.chains index then,
        has.chain_within c.args.id small,
        c.place-at.ensures,
      );
    }

pub headers_behind-slot-requires-clause-range : goal.headers_behind-slot-requires-clause-range
headers_behind-slot-requires-clause-range c = (rewrites (goal.at.headers_behind-slot-requires-clause-range
    c).After-overwrite).inside

pub headers_behind-slot-requires-clause-file : goal.headers_behind-slot-requires-clause-file
headers_behind-slot-requires-clause-file c =
    let here = call_on c.self.inside c.args.customer c.args.id c.self.invariant (rw c.self.view_is c.requires.range) in
    let is = rewrites (goal.at.headers_behind-slot-requires-clause-file c).After-overwrite in
    rw (is.same, is.chain) (call.still_file here c.args.n
    (c.place_of_record-begins.result.place + (3 + c.args.place)) c.args.place c.args.bytes is.there is.small is.begins
    is.counted is.fits)

moved : (c : After-set) → Rewrites c.self.inside.store c.self.inside.slots c.slot_at-slot.result c.args.customer
    c.args.id c.args.n (c.place_of_record-begins.result.place + (3 + c.args.place)) c.args.place c.place-at.result
    c.args.bytes
    c.overwrite.new.self → MovesTo (call_on c.self.inside c.args.customer c.args.id c.self.invariant
    (rw c.self.view_is c.requires.range)) c.overwrite.new.self c.set.new.self c.self.inside.customers.items
    (with_rewritten_bytes c.args.id c.args.n c.args.place c.args.bytes)
moved c is =
    let here = call_on c.self.inside c.args.customer c.args.id c.self.invariant (rw c.self.view_is c.requires.range) in
    let rewritten = with_rewritten_bytes c.args.id c.args.n c.args.place c.args.bytes in
    let at = c.place_of_record-begins.result.place + (3 + c.args.place) in
    let slot : FileSlot = slot_of c.self.inside.slots c.args.customer c.args.id in
    let then : Chain = chain_then c.self.inside.store c.args.customer c.args.id at c.args.bytes in
    let again : c.args.n < slot.headers.count → c.headers_behind-slot.result ≡ kept_headers slot.kind
    (unpacked_records slot.count then.bytes) =
    λ before.
    c.headers_behind-slot.ensures.read (omega (arith, before, ap (λ (x : FileSlot). x.headers.count) is.same))
    ∙ ap (λ (x : FileSlot). kept_headers x.kind (unpacked_records x.count
    (chain_at c.place-at.result c.overwrite.new.self).bytes)) is.same
    ∙ ap (λ (x : Chain). kept_headers slot.kind (unpacked_records slot.count x.bytes)) is.chain in
    let kept : slot.headers.count ≤ c.args.n → c.headers_behind-slot.result ≡ slot.headers =
    λ behind.
    c.headers_behind-slot.ensures.same (omega (arith, behind, ap (λ (x : FileSlot). x.headers.count) is.same))
    ∙ ap (λ (x : FileSlot). x.headers) is.same in
    subst (λ (xs : List FileSlot). MovesTo here c.overwrite.new.self xs c.self.inside.customers.items rewritten)
    (sym c.set.ensures)
    (subst (λ (x : FileSlot). MovesTo here c.overwrite.new.self
    (set c.self.inside.slots (1024 * c.args.customer + c.args.id)
    (record x { headers = c.headers_behind-slot.result })) c.self.inside.customers.items rewritten) (sym is.same)
    (subst (λ (t : StoreValue). MovesTo here t (set c.self.inside.slots (1024 * c.args.customer + c.args.id)
    (record slot { headers = c.headers_behind-slot.result })) c.self.inside.customers.items rewritten) (sym is.after)
    (call.rewrites here c.args.n at c.args.place c.args.bytes is.there is.small is.begins
    is.counted is.fits c.headers_behind-slot.result again kept)))

pub invariant_of-self : goal.invariant_of-self
invariant_of-self c =
    (moved (goal.at.invariant_of-self c).After-set (rewrites (goal.at.invariant_of-self c).After-overwrite)).kept

pub returns-clause-answer : goal.returns-clause-answer
returns-clause-answer c =
    let here = call_on c.self.inside c.args.customer c.args.id c.self.invariant (rw c.self.view_is c.requires.range) in
    let there = stage_is (goal.at.returns-clause-answer c).After-is_whole ∙ c.if-not-is_whole.false in
    rw (← c.self.view_is, finds.finds_whole here there) refl

pub returns-clause-after : goal.returns-clause-after
returns-clause-after c =
    (moved (goal.at.returns-clause-after c).After-set (rewrites
    (goal.at.returns-clause-after c).After-overwrite)).spools
    ∙ ap (λ (old : List CustomerSpool). set old c.args.customer
    (with_rewritten_bytes c.args.id c.args.n c.args.place c.args.bytes
    (spool_at c.args.customer old))) c.self.view_is
