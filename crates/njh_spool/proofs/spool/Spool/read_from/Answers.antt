use Rattle.std.proofs.Common.{◌≡◌, ℕ, ◌<◌, false, List, drop, Ok, Some, refl, sym, ap, ◌∙◌, arith}
use Rattle.njh_spool.specs.declared.file_slot.FileSlot.{FileSlot}
use Rattle.njh_spool.specs.code.Chains.{Chain, chain_at}
use Rattle.njh_spool.specs.CustomerSpool.{CustomerSpool}
use Rattle.njh_spool.specs.Spools.{spool_at, or_no_file, records_numbered}
use Rattle.njh_spool.specs.code.Slots.{slot_of, chain_of, is_free}
use Rattle.njh_spool.proofs.IndexLaws.{small_used}
use Rattle.njh_spool.proofs.CallFinds as finds
use Rattle.njh_spool.proofs.Calls.{call_on}
use Rattle.njh_spool.proofs.spool.Spool.read_from.Goals as goal
use Rattle.njh_spool.proofs.spool.Spool.read_from.Goals.{After-is_free, After-place_of_record-begins}
use Rattle.std.specs.Option.{option_map}
use Rattle.njh_record.specs.Stored.{Stored}
use Rattle.njh_spool.specs.code.Packing.{unpacked_records}
use Rattle.njh_spool.proofs.PackingLaws.{length-unpacked}

pub slot_at-slot-requires : goal.slot_at-slot-requires
slot_at-slot-requires c = finds.row_fits
    (call_on c.self.inside c.args.customer c.args.id c.self.invariant (rw c.self.view_is c.requires.range))

same_slot : (c : After-is_free) → c.slot_at-slot.result ≡ slot_of c.self.inside.slots c.args.customer c.args.id
same_slot c = c.slot_at-slot.ensures

stage_is : (c : After-is_free)
    → is_free (slot_of c.self.inside.slots c.args.customer c.args.id).stage ≡ c.is_free.result
stage_is c = ap (λ (x : FileSlot). is_free x.stage) (sym (same_slot c)) ∙ sym c.is_free.ensures

records_now : (c : After-is_free) → c.is_free.result ≡ false → records_numbered c.args.id
    (spool_at c.args.customer c.args.self.now)
    ≡ Some (unpacked_records (slot_of c.self.inside.slots c.args.customer c.args.id).count
    (chain_of c.self.inside.store.chains c.args.customer c.args.id).bytes)
records_now c used' =
    let here = call_on c.self.inside c.args.customer c.args.id c.self.invariant (rw c.self.view_is c.requires.range) in
    ap (λ (old : List CustomerSpool). records_numbered c.args.id (spool_at c.args.customer old)) (sym c.self.view_is)
    ∙ finds.finds_records here (stage_is c ∙ used')

pub returns-then-is_free : goal.returns-then-is_free
returns-then-is_free c =
    let here = call_on c.self.inside c.args.customer c.args.id c.self.invariant (rw c.self.view_is c.requires.range) in
    let none = finds.finds_no_records here
    (stage_is (goal.at.returns-then-is_free c).After-is_free ∙ c.if-is_free.true) in
    rw (← c.self.view_is, none) refl

many : (c : After-is_free) → c.is_free.result ≡ false → c.args.n < c.slot_at-slot.result.count
many c used' =
    let slot = slot_of c.self.inside.slots c.args.customer c.args.id in
    let bytes = (chain_of c.self.inside.store.chains c.args.customer c.args.id).bytes in
    omega (
      arith,
      ap (λ (x : FileSlot). x.count) (same_slot c),
      c.requires.within (unpacked_records slot.count bytes) (records_now c used'),
      length-unpacked slot.count bytes,
    )

pub place_of_record-begins-requires-clause-within : goal.place_of_record-begins-requires-clause-within
place_of_record-begins-requires-clause-within c =
    many (goal.at.place_of_record-begins-requires-clause-within c).After-is_free c.if-is_free.false

chain_is : (c : After-place_of_record-begins) → chain_at c.place-at.result c.self.inside.store ≡ chain_of
    c.self.inside.store.chains c.args.customer c.args.id
chain_is c =
    let here = call_on c.self.inside c.args.customer c.args.id c.self.invariant (rw c.self.view_is c.requires.range) in
    let used' = ap (λ (x : FileSlot). is_free x.stage)
    (sym (c.slot_at-slot.ensures))
    ∙ sym c.is_free.ensures ∙ c.if-is_free.false in
    ap (λ (i : ℕ). chain_at i c.self.inside.store) c.place-at.ensures ∙ finds.chain_is here
    (small_used c.self.inside.slots c.args.customer c.args.id used')

pub returns : goal.returns
returns c =
    let step = (goal.at.returns c).After-is_free in
    let n = c.args.n in
    let rest = λ (records : List Stored). drop n records in
    let here = ap (λ records. or_no_file (option_map rest records)) (records_now step c.if-is_free.false) in
    ap Ok (c.starting_at.ensures
    ∙ ap (λ (k : ℕ). drop k (unpacked_records c.slot_at-slot.result.count
    (chain_at c.place-at.result c.self.inside.store).bytes)) c.place_of_record-begins.ensures.index
    ∙ ap (λ (x : Chain). drop n (unpacked_records c.slot_at-slot.result.count x.bytes))
    (chain_is (goal.at.returns c).After-place_of_record-begins)
    ∙ ap (λ (x : FileSlot). drop n (unpacked_records x.count
    (chain_of c.self.inside.store.chains c.args.customer c.args.id).bytes)) (same_slot step)) ∙ sym here
