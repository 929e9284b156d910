use Rattle.std.proofs.Common.{◌≡◌, ℕ, ◌<◌, ◌+◌, ◌*◌, false, List, set, Some, refl, sym, ap, subst, ◌∙◌, arith}
use Rattle.njh_spool.specs.declared.file_slot.FileSlot.{FileSlot}
use Rattle.njh_spool.specs.declared.file_slot.KeptPlaces.{KeptPlaces}
use Rattle.njh_spool.specs.code.Chains.{Chain, chain_at}
use Rattle.njh_spool.specs.CustomerSpool.{CustomerSpool}
use Rattle.njh_spool.specs.Spools.{spool_at, records_numbered, no_spool}
use Rattle.njh_spool.specs.code.Slots.{contents, slot_of, chain_of, is_free, spools_of, ArePlaces}
use Rattle.njh_spool.proofs.IndexLaws.{small_used}
use Rattle.njh_spool.proofs.CallFinds as finds
use Rattle.njh_spool.proofs.CallLaws as call
use Rattle.njh_spool.proofs.Calls.{MovesTo, call_on, slot_at, chain_of_file}
use Rattle.njh_spool.proofs.spool.Spool.read_on.Goals as goal
use Rattle.njh_spool.proofs.spool.Spool.read_on.Goals.{After-is_free, After-place_of_record-begins, After-set}
use Rattle.std.specs.Prelude.{slice_get}
use Rattle.std.specs.Option.{option_and_then}
use Rattle.njh_record.specs.Stored.{Stored}
use Rattle.std.proofs.lemmas.List.{set-get_or}
use Rattle.njh_spool.specs.code.Packing.{unpacked_records}
use Rattle.njh_spool.proofs.PackingLaws.{length-unpacked}

pub slot_at-slot-requires : goal.slot_at-slot-requires
slot_at-slot-requires c = finds.row_fits
    (call_on c.self.inside c.args.customer c.args.id c.self.invariant (rw c.self.view_is c.requires.range))

same_slot : (c : After-is_free) → c.slot_at-slot.result ≡ slot_of c.self.inside.slots c.args.customer c.args.id
same_slot c = c.slot_at-slot.ensures

stage_is : (c : After-is_free)
    → is_free (slot_of c.self.inside.slots c.args.customer c.args.id).stage ≡ c.is_free.result
stage_is c = ap (λ (x : FileSlot). is_free x.stage) (sym (same_slot c)) ∙ sym c.is_free.ensures

records_now : (c : After-is_free) → c.is_free.result ≡ false → records_numbered c.args.id
    (spool_at c.args.customer c.args.self.now)
    ≡ Some (unpacked_records (slot_of c.self.inside.slots c.args.customer c.args.id).count
    (chain_of c.self.inside.store.chains c.args.customer c.args.id).bytes)
records_now c used' =
    let here = call_on c.self.inside c.args.customer c.args.id c.self.invariant (rw c.self.view_is c.requires.range) in
    ap (λ (old : List CustomerSpool). records_numbered c.args.id (spool_at c.args.customer old)) (sym c.self.view_is)
    ∙ finds.finds_records here (stage_is c ∙ used')

pub returns-then-is_free-clause-fault : goal.returns-then-is_free-clause-fault
returns-then-is_free-clause-fault c =
    let here = call_on c.self.inside c.args.customer c.args.id c.self.invariant (rw c.self.view_is c.requires.range) in
    let none = finds.finds_no_records here
    (stage_is (goal.at.returns-then-is_free-clause-fault c).After-is_free ∙ c.if-is_free.true) in
    rw (← c.self.view_is, none) refl

many : (c : After-is_free) → c.is_free.result ≡ false → c.args.n < c.slot_at-slot.result.count
many c used' =
    let slot = slot_of c.self.inside.slots c.args.customer c.args.id in
    let bytes = (chain_of c.self.inside.store.chains c.args.customer c.args.id).bytes in
    omega (
      arith,
      ap (λ (x : FileSlot). x.count) (same_slot c),
      c.requires.within (unpacked_records slot.count bytes) (records_now c used'),
      length-unpacked slot.count bytes,
    )

pub place_of_record-begins-requires-clause-within : goal.place_of_record-begins-requires-clause-within
place_of_record-begins-requires-clause-within c =
    many (goal.at.place_of_record-begins-requires-clause-within c).After-is_free c.if-is_free.false

pub read_record-srcb-requires-clause-more : goal.read_record-srcb-requires-clause-more
read_record-srcb-requires-clause-more c =
    let within = many (goal.at.read_record-srcb-requires-clause-more c).After-is_free c.if-is_free.false in
    omega (arith, within, c.place_of_record-begins.ensures.index)

pub returns-clause-fault : goal.returns-clause-fault
returns-clause-fault c = rw (records_now (goal.at.returns-clause-fault c).After-is_free c.if-is_free.false) refl

chain_is : (c : After-place_of_record-begins) → chain_at c.place-at.result c.self.inside.store ≡ chain_of
    c.self.inside.store.chains c.args.customer c.args.id
chain_is c =
    let here = call_on c.self.inside c.args.customer c.args.id c.self.invariant (rw c.self.view_is c.requires.range) in
    let used' = ap (λ (x : FileSlot). is_free x.stage)
    (sym (c.slot_at-slot.ensures))
    ∙ sym c.is_free.ensures ∙ c.if-is_free.false in
    ap (λ (i : ℕ). chain_at i c.self.inside.store) c.place-at.ensures ∙ finds.chain_is here
    (small_used c.self.inside.slots c.args.customer c.args.id used')

pub returns-clause-ok : goal.returns-clause-ok
returns-clause-ok c =
    let step = (goal.at.returns-clause-ok c).After-is_free in
    let found = c.read_record-srcb.ensures.record in
    let index = c.place_of_record-begins.ensures.index in
    ap (option_and_then (λ (records : List Stored). slice_get records c.args.n)) (records_now step c.if-is_free.false)
    ∙ ap (λ (x : FileSlot). slice_get (unpacked_records x.count
    (chain_of c.self.inside.store.chains c.args.customer c.args.id).bytes)
    c.args.n) (sym (same_slot step))
    ∙ ap (λ (x : Chain). slice_get (unpacked_records c.slot_at-slot.result.count x.bytes) c.args.n)
    (sym (chain_is (goal.at.returns-clause-ok c).After-place_of_record-begins))
    ∙ ap (slice_get (unpacked_records c.slot_at-slot.result.count
    (chain_at c.place-at.result c.self.inside.store).bytes)) (sym index)
    ∙ found

abbrev kept : After-set → KeptPlaces
kept c = record { last = c.place_of_record-begins.result; next = c.read_record-srcb.result.1 }

moved : (c : After-set) → MovesTo (call_on c.self.inside c.args.customer c.args.id c.self.invariant
    (rw c.self.view_is c.requires.range)) c.self.inside.store c.set.new.self c.self.inside.customers.items (λ s. s)
moved c =
    let here = call_on c.self.inside c.args.customer c.args.id c.self.invariant (rw c.self.view_is c.requires.range) in
    let same = c.slot_at-slot.ensures in
    let used' = ap (λ (x : FileSlot). is_free x.stage) (sym same) ∙ sym c.is_free.ensures ∙ c.if-is_free.false in
    let small = small_used c.self.inside.slots c.args.customer c.args.id used' in
    let chain = ap (λ (i : ℕ). chain_at i c.self.inside.store) c.place-at.ensures ∙ finds.chain_is here small in
    let places : ArePlaces (unpacked_records (slot_at here).count
    (chain_of_file here).bytes)
    (chain_of_file here).keys (kept c) =
    subst (λ (x : Chain). ArePlaces (unpacked_records (slot_at here).count x.bytes) x.keys
    (kept c)) chain
    (subst (λ (x : FileSlot). ArePlaces (unpacked_records x.count
    (chain_at c.place-at.result c.self.inside.store).bytes)
    (chain_at c.place-at.result c.self.inside.store).keys (kept c)) same
    (record { last = c.place_of_record-begins.ensures.place; next = c.read_record-srcb.ensures.place })) in
    subst (λ (xs : List FileSlot). MovesTo here c.self.inside.store xs c.self.inside.customers.items (λ s. s))
    (sym c.set.ensures)
    (subst (λ (x : FileSlot). MovesTo here c.self.inside.store
    (set c.self.inside.slots (1024 * c.args.customer + c.args.id) (record x { places = kept c }))
    c.self.inside.customers.items (λ s. s)) (sym same)
    (call.reads_on here (kept c) used' places small))

pub invariant_of-self : goal.invariant_of-self
invariant_of-self c = (moved (goal.at.invariant_of-self c).After-set).kept

pub returns-clause-same : goal.returns-clause-same
returns-clause-same c =
    (moved (goal.at.returns-clause-same c).After-set).spools
    ∙ set-get_or (spools_of c.self.inside.customers.items (contents c.self.inside.slots c.self.inside.store.chains))
    c.args.customer no_spool ∙ c.self.view_is
