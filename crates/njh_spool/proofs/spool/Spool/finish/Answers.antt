use Rattle.std.proofs.Common.{◌≡◌, ℕ, ◌+◌, ◌*◌, true, not, eqb, List, [], ◌∷◌, ◌++◌, length, set, filter, refl, sym, ap}
use Rattle.std.proofs.Common.{subst, ◌∙◌, arith}
use Rattle.njh_spool.specs.declared.file_slot.FileSlot.{FileSlot}
use Rattle.njh_spool.specs.declared.file_slot.Stage.TheVariants.{Whole}
use Rattle.njh_spool.specs.declared.customer_files.CustomerFiles.{CustomerFiles}
use Rattle.njh_spool.specs.CustomerSpool.{CustomerSpool, with_finished, one_more}
use Rattle.njh_spool.specs.Spools.{spool_at}
use Rattle.njh_spool.specs.code.Slots.{slot_of, is_partial, IsFile}
use Rattle.njh_spool.specs.code.Chains.{Chain, chain_at}
use Rattle.njh_spool.specs.Headers.{kept_headers}
use Rattle.njh_spool.specs.code.Packing.{unpacked_records}
use Rattle.njh_spool.proofs.KeptLaws.{own_of, own_is}
use Rattle.njh_spool.proofs.CallFinds as finds
use Rattle.njh_spool.proofs.CallLaws as call
use Rattle.njh_spool.specs.declared.State.TheVariants.{Ready}
use Rattle.njh_spool.proofs.Calls.{MovesTo, call_on, slot_at}
use Rattle.njh_spool.proofs.spool.Spool.finish.Goals as goal
use Rattle.njh_spool.proofs.spool.Spool.finish.Goals.{After-set, After-is_partial, After-index_mut-own, After-place-at}

pub slot_at-slot-requires : goal.slot_at-slot-requires
slot_at-slot-requires c = finds.row_fits
    (call_on c.self.inside c.args.customer c.args.id c.self.invariant (rw c.self.view_is c.requires))

-- the file that is there
file_is : (c : After-place-at) → c.is_partial.result ≡ true → IsFile c.slot_at-slot.result
    (chain_at c.place-at.result c.self.inside.store)
file_is c there =
    let here = call_on c.self.inside c.args.customer c.args.id c.self.invariant (rw c.self.view_is c.requires) in
    let same = c.slot_at-slot.ensures in
    let stage = ap (λ (x : FileSlot). is_partial x.stage) (sym same) ∙ sym c.is_partial.ensures ∙ there in
    let small = finds.small_partial here stage in
    let chain = ap (λ (i : ℕ). chain_at i c.self.inside.store) c.place-at.ensures ∙ finds.chain_is here small in
    rw (same, chain) (c.self.invariant.files c.args.customer c.args.id)

pub read_headers-slot-requires-clause-file : goal.read_headers-slot-requires-clause-file
read_headers-slot-requires-clause-file c = file_is (goal.at.read_headers-slot-requires-clause-file c).After-place-at
    c.if-not-is_partial.false

stage_is : (c : After-is_partial)
    → is_partial (slot_of c.self.inside.slots c.args.customer c.args.id).stage ≡ c.is_partial.result
stage_is c = ap (λ (x : FileSlot). is_partial x.stage)
    (sym (c.slot_at-slot.ensures))
    ∙ sym c.is_partial.ensures

pub returns-then-not-is_partial-clause-answer : goal.returns-then-not-is_partial-clause-answer
returns-then-not-is_partial-clause-answer c =
    let here = call_on c.self.inside c.args.customer c.args.id c.self.invariant (rw c.self.view_is c.requires) in
    let none = finds.finds_no_partial here
    (stage_is (goal.at.returns-then-not-is_partial-clause-answer c).After-is_partial ∙ c.if-not-is_partial.true) in
    rw (← c.self.view_is, none.none) refl

pub returns-then-not-is_partial-clause-after : goal.returns-then-not-is_partial-clause-after
returns-then-not-is_partial-clause-after c =
    let here = call_on c.self.inside c.args.customer c.args.id c.self.invariant (rw c.self.view_is c.requires) in
    let none = finds.finds_no_partial here
    (stage_is (goal.at.returns-then-not-is_partial-clause-after c).After-is_partial ∙ c.if-not-is_partial.true) in
    subst (λ (old : List CustomerSpool). old ≡ set old c.args.customer
    (with_finished c.args.id (spool_at c.args.customer old)))
    c.self.view_is none.finishes

own_same : (c : After-index_mut-own)
    → c.index_mut-own.result.now ≡ (own_of c.self.inside.customers.items c.args.customer)
own_same c =
    let here = call_on c.self.inside c.args.customer c.args.id c.self.invariant (rw c.self.view_is c.requires) in
    own_is c.self.inside.customers.items c.args.customer c.from.result c.index_mut-own.result.now
    (finds.has here).within c.from.ensures
    c.index_mut-own.ensures.value

pub push-requires : goal.push-requires
push-requires c =
    let here = call_on c.self.inside c.args.customer c.args.id c.self.invariant (rw c.self.view_is c.requires) in
    let there = stage_is (goal.at.push-requires c).After-is_partial ∙ c.if-not-is_partial.false in
    let own = ap (λ (o : CustomerFiles). length o.whole) (own_same (goal.at.push-requires c).After-index_mut-own) in
    omega (arith, own, finds.whole_few here there)

-- what the customer has then
abbrev now : After-set → CustomerFiles
now c = record c.index_mut-own.result.now {
  whole = c.push.new.self;
  partial = c.remove.new.self;
  arrived = c.saturating_add-own.result;
}

moved : (c : After-set) → MovesTo (call_on c.self.inside c.args.customer c.args.id c.self.invariant
    (rw c.self.view_is c.requires)) c.self.inside.store c.set.new.self
    (set c.self.inside.customers.items c.from.result (now c)) (with_finished c.args.id)
moved c =
    let here = call_on c.self.inside c.args.customer c.args.id c.self.invariant (rw c.self.view_is c.requires) in
    let same = c.slot_at-slot.ensures in
    let there = ap (λ (x : FileSlot). is_partial x.stage) (sym same) ∙ sym c.is_partial.ensures
    ∙ c.if-not-is_partial.false in
    let small = finds.small_partial here there in
    let own = own_is c.self.inside.customers.items c.args.customer c.from.result c.index_mut-own.result.now
    (finds.has here).within
    c.from.ensures c.index_mut-own.ensures.value in
    let chain = ap (λ (i : ℕ). chain_at i c.self.inside.store) c.place-at.ensures ∙ finds.chain_is here small in
    let said =
    c.read_headers-slot.ensures
    ∙ ap (λ (x : FileSlot). kept_headers x.kind (unpacked_records x.count
    (chain_at c.place-at.result c.self.inside.store).bytes)) same
    ∙ ap (λ (x : Chain). kept_headers (slot_at here).kind
    (unpacked_records (slot_at here).count x.bytes)) chain in
    let list = c.remove.ensures ∙ ap (λ (k : ℕ). filter (λ m. not (eqb m k)) c.index_mut-own.result.now.partial)
    c.number-number.ensures in
    let longer = c.push.ensures ∙ ap (λ (k : ℕ). c.index_mut-own.result.now.whole ++ k ∷ []) c.number-number.ensures in
    let owns =
    ap (λ (xs : List ℕ). record c.index_mut-own.result.now {
      whole = c.push.new.self;
      partial = xs;
      arrived = c.saturating_add-own.result;
    }) list
    ∙ ap (λ (xs : List ℕ). record c.index_mut-own.result.now {
      whole = xs;
      partial = filter (λ m. not (eqb m c.args.id))
          c.index_mut-own.result.now.partial;
      arrived = c.saturating_add-own.result;
    }) longer
    ∙ ap (λ (n : ℕ). record c.index_mut-own.result.now {
      whole = c.index_mut-own.result.now.whole ++ c.args.id ∷ [];
      partial = filter (λ m. not (eqb m c.args.id))
          c.index_mut-own.result.now.partial;
      arrived = n;
    }) c.saturating_add-own.ensures
    ∙ ap (λ (o : CustomerFiles). record o {
      whole = o.whole ++ c.args.id ∷ [];
      partial = filter (λ m. not (eqb m c.args.id))
          o.partial;
      arrived = one_more o.arrived;
    }) own in
    call.arrives here c.self.inside.store c.self.inside.store
    (record c.slot_at-slot.result { stage = Whole Ready; headers = c.read_headers-slot.result })
    (now c) c.set.new.self
    c.from.result (with_finished c.args.id) refl c.set.ensures c.from.ensures
    (subst (λ (x : FileSlot). MovesTo here c.self.inside.store
    (set c.self.inside.slots (1024 * c.args.customer + c.args.id)
    (record x { stage = Whole Ready; headers = c.read_headers-slot.result }))
    (set c.self.inside.customers.items c.args.customer
    (now c))
    (with_finished c.args.id)) (sym same)
    (call.finishes here (now c) c.read_headers-slot.result said there owns small))

pub invariant_of-self : goal.invariant_of-self
invariant_of-self c = (moved (goal.at.invariant_of-self c).After-set).kept

pub returns-clause-answer : goal.returns-clause-answer
returns-clause-answer c =
    let here = call_on c.self.inside c.args.customer c.args.id c.self.invariant (rw c.self.view_is c.requires) in
    let there = stage_is (goal.at.returns-clause-answer c).After-is_partial ∙ c.if-not-is_partial.false in
    rw (← c.self.view_is, finds.finds_partial here there) refl

pub returns-clause-after : goal.returns-clause-after
returns-clause-after c =
    (moved (goal.at.returns-clause-after c).After-set).spools
    ∙ ap (λ (old : List CustomerSpool). set old c.args.customer
    (with_finished c.args.id (spool_at c.args.customer old))) c.self.view_is
