use Rattle.std.proofs.Common.{ℕ, ◌+◌, ◌*◌, List, set, sym, ap, subst, ◌∙◌}
use Rattle.njh_spool.specs.declared.file_slot.FileSlot.{FileSlot}
use Rattle.njh_spool.specs.declared.file_slot.KeptPlaces.{KeptPlaces}
use Rattle.njh_spool.specs.code.Chains.{Chain, chain_at}
use Rattle.njh_spool.specs.Spools.{no_spool}
use Rattle.njh_spool.specs.code.Packing.{unpacked_records}
use Rattle.njh_spool.specs.code.Slots.{contents, is_free, spools_of, ArePlaces, IsPlace}
use Rattle.njh_spool.proofs.IndexLaws.{small_used}
use Rattle.njh_spool.proofs.CallFinds as finds
use Rattle.njh_spool.proofs.CallLaws as call
use Rattle.njh_spool.proofs.Calls.{MovesTo, call_on, slot_at, chain_of_file}
use Rattle.njh_spool.proofs.spool.Spool.keep_end.Goals as goal
use Rattle.njh_spool.proofs.spool.Spool.keep_end.Goals.{After-set}
use Rattle.std.proofs.lemmas.List.{set-get_or}

pub slot_at-slot-requires : goal.slot_at-slot-requires
slot_at-slot-requires c = finds.row_fits
    (call_on c.self.inside c.args.customer c.args.id c.self.invariant (rw c.self.view_is c.requires))

abbrev kept : After-set → KeptPlaces
kept c = record { last = c.slot_at-slot.result.places.next; next = c.place_of_end.result }

moved : (c : After-set) → MovesTo (call_on c.self.inside c.args.customer c.args.id c.self.invariant
    (rw c.self.view_is c.requires)) c.self.inside.store c.set.new.self c.self.inside.customers.items (λ s. s)
moved c =
    let here = call_on c.self.inside c.args.customer c.args.id c.self.invariant (rw c.self.view_is c.requires) in
    let same = c.slot_at-slot.ensures in
    let used' = ap (λ (x : FileSlot). is_free x.stage) (sym same) ∙ sym c.is_free.ensures ∙ c.if-is_free.false in
    let small = small_used c.self.inside.slots c.args.customer c.args.id used' in
    let chain = ap (λ (i : ℕ). chain_at i c.self.inside.store) c.place-at.ensures ∙ finds.chain_is here small in
    let records = unpacked_records (slot_at here).count (chain_of_file here).bytes in
    let keys = (chain_of_file here).keys in
    let end = c.place_of_end.result in
    let places : ArePlaces records keys (kept c) = record {
      last = subst (λ (x : FileSlot). IsPlace records keys x.places.next) (sym same)
          (here.kept.files c.args.customer c.args.id).places.next;
      next = subst (λ (x : Chain). IsPlace (unpacked_records (slot_at here).count x.bytes) x.keys end) chain
          (subst (λ (x : FileSlot). IsPlace (unpacked_records x.count
          (chain_at c.place-at.result c.self.inside.store).bytes) (chain_at c.place-at.result c.self.inside.store).keys
          end) same c.place_of_end.ensures.place);
    } in
    subst (λ (xs : List FileSlot). MovesTo here c.self.inside.store xs c.self.inside.customers.items (λ s. s))
    (sym c.set.ensures)
    (subst (λ (x : FileSlot). MovesTo here c.self.inside.store
    (set c.self.inside.slots (1024 * c.args.customer + c.args.id) (record x { places = kept c }))
    c.self.inside.customers.items (λ s. s)) (sym same)
    (call.reads_on here (kept c) used' places small))

pub invariant_of-self : goal.invariant_of-self
invariant_of-self c = (moved (goal.at.invariant_of-self c).After-set).kept

pub returns : goal.returns
returns c =
    (moved (goal.at.returns c).After-set).spools
    ∙ set-get_or (spools_of c.self.inside.customers.items (contents c.self.inside.slots c.self.inside.store.chains))
    c.args.customer no_spool ∙ c.self.view_is
