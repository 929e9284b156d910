use Rattle.std.proofs.Common.{◌≡◌, ℕ, ◌+◌, ◌-◌, ◌*◌, not, eqb, List, length, set, filter, refl, sym, ap, ◌∙◌, arith}
use Rattle.std.proofs.Common.{◌/◌}
use Rattle.njh_spool.specs.declared.file_slot.FileSlot.{FileSlot}
use Rattle.njh_spool.specs.declared.customer_files.CustomerFiles.{CustomerFiles}
use Rattle.njh_spool.specs.code.Chains.{Chain, chain_at, empty_chain, with_chain, blocks_of}
use Rattle.njh_spool.specs.CustomerSpool.{CustomerSpool, without_whole}
use Rattle.njh_spool.specs.Spools.{spool_at}
use Rattle.njh_spool.specs.code.Slots.{slot_of, is_whole_stage}
use Rattle.njh_spool.proofs.KeptLaws.{own_of, own_is}
use Rattle.njh_spool.proofs.CallFinds as finds
use Rattle.njh_spool.proofs.CallLaws as call
use Rattle.njh_spool.proofs.Calls.{MovesTo, call_on, chain_of_file}
use Rattle.njh_spool.proofs.spool.Spool.remove.Goals as goal
use Rattle.njh_spool.proofs.spool.Spool.remove.Goals.{After-set, After-is_whole, After-index_mut-own}

pub slot_at-requires : goal.slot_at-requires
slot_at-requires c = finds.row_fits
    (call_on c.self.inside c.args.customer c.args.id c.self.invariant (rw c.self.view_is c.requires))

stage_is : (c : After-is_whole)
    → is_whole_stage (slot_of c.self.inside.slots c.args.customer c.args.id).stage ≡ c.is_whole.result
stage_is c = ap (λ (x : FileSlot). is_whole_stage x.stage)
    (sym (c.slot_at.ensures))
    ∙ sym c.is_whole.ensures

pub returns-then-not-is_whole-clause-answer : goal.returns-then-not-is_whole-clause-answer
returns-then-not-is_whole-clause-answer c =
    let here = call_on c.self.inside c.args.customer c.args.id c.self.invariant (rw c.self.view_is c.requires) in
    let none = finds.finds_no_whole here
    (stage_is (goal.at.returns-then-not-is_whole-clause-answer c).After-is_whole ∙ c.if-not-is_whole.true) in
    rw (← c.self.view_is, none.none) refl

pub returns-then-not-is_whole-clause-after : goal.returns-then-not-is_whole-clause-after
returns-then-not-is_whole-clause-after c =
    let here = call_on c.self.inside c.args.customer c.args.id c.self.invariant (rw c.self.view_is c.requires) in
    let none = finds.finds_no_whole here
    (stage_is (goal.at.returns-then-not-is_whole-clause-after c).After-is_whole ∙ c.if-not-is_whole.true) in
    rw (← c.self.view_is) none.removes

own_same : (c : After-index_mut-own)
    → c.index_mut-own.result.now ≡ (own_of c.self.inside.customers.items c.args.customer)
own_same c =
    let here = call_on c.self.inside c.args.customer c.args.id c.self.invariant (rw c.self.view_is c.requires) in
    own_is c.self.inside.customers.items c.args.customer c.from.result c.index_mut-own.result.now
    (finds.has here).within c.from.ensures
    c.index_mut-own.ensures.value

pub overflow_sub-own : goal.overflow_sub-own
overflow_sub-own c =
    let here = call_on c.self.inside c.args.customer c.args.id c.self.invariant (rw c.self.view_is c.requires) in
    let there = stage_is (goal.at.overflow_sub-own c).After-is_whole ∙ c.if-not-is_whole.false in
    let own = ap (λ (o : CustomerFiles). o.used) (own_same (goal.at.overflow_sub-own c).After-index_mut-own) in
    let chain = ap (λ (i : ℕ). chain_at i c.self.inside.store) c.place-at.ensures ∙ finds.chain_is here
    (finds.small_whole here there) in
    let size = c.len.ensures.bytes ∙ ap (λ (x : Chain). length x.bytes) chain in
    omega (arith, own, size, c.blocks_for.ensures, finds.blocks_are here, finds.enough_whole here there)

-- what the customer has then
abbrev now : After-set → CustomerFiles
now c = record c.index_mut-own.result.now {
  used = c.index_mut-own.result.now.used - c.blocks_for.result;
  whole =
      c.remove.new.self;
}

moved : (c : After-set) → MovesTo (call_on c.self.inside c.args.customer c.args.id c.self.invariant
    (rw c.self.view_is c.requires)) c.clear.new.self c.set.new.self (set c.self.inside.customers.items c.from.result
    (now c)) (without_whole c.args.id)
moved c =
    let here = call_on c.self.inside c.args.customer c.args.id c.self.invariant (rw c.self.view_is c.requires) in
    let there = ap (λ (x : FileSlot). is_whole_stage x.stage)
    (sym (c.slot_at.ensures))
    ∙ sym c.is_whole.ensures ∙ c.if-not-is_whole.false in
    let small = finds.small_whole here there in
    let own = own_is c.self.inside.customers.items c.args.customer c.from.result c.index_mut-own.result.now
    (finds.has here).within
    c.from.ensures c.index_mut-own.ensures.value in
    let chain = ap (λ (i : ℕ). chain_at i c.self.inside.store) c.place-at.ensures ∙ finds.chain_is here small in
    let size : c.blocks_for.result ≡ blocks_of (chain_of_file here).bytes =
    c.blocks_for.ensures
    ∙ ap (λ (k : ℕ). (k + 251) / 252) (c.len.ensures.bytes ∙ ap (λ (x : Chain). length x.bytes) chain) in
    let list = c.remove.ensures
    ∙ ap (λ (k : ℕ). filter (λ m. not (eqb m k)) c.index_mut-own.result.now.whole) c.number.ensures in
    let owns =
    ap (λ (xs : List ℕ). record c.index_mut-own.result.now {
      used = c.index_mut-own.result.now.used - c.blocks_for.result;
      whole = xs;
    }) list
    ∙ ap (λ (b : ℕ). record c.index_mut-own.result.now {
      used = c.index_mut-own.result.now.used - b;
      whole =
          filter (λ m. not (eqb m c.args.id)) c.index_mut-own.result.now.whole;
    }) size
    ∙ ap (λ (o : CustomerFiles). record o {
      used = o.used - blocks_of (chain_of_file here).bytes;
      whole = filter (λ m. not (eqb m c.args.id)) o.whole;
    }) own in
    let store = c.clear.ensures ∙ ap (λ (i : ℕ). with_chain i empty_chain c.self.inside.store) c.place-at.ensures in
    call.arrives here (with_chain (1024 * c.args.customer + c.args.id) empty_chain
    c.self.inside.store) c.clear.new.self c.empty.result (now c) c.set.new.self c.from.result (without_whole c.args.id)
    store c.set.ensures c.from.ensures
    (call.removes here c.empty.result
    (now c) there c.empty.ensures owns small)

pub invariant_of-self : goal.invariant_of-self
invariant_of-self c = (moved (goal.at.invariant_of-self c).After-set).kept

pub returns-clause-answer : goal.returns-clause-answer
returns-clause-answer c =
    let here = call_on c.self.inside c.args.customer c.args.id c.self.invariant (rw c.self.view_is c.requires) in
    let there = stage_is (goal.at.returns-clause-answer c).After-is_whole ∙ c.if-not-is_whole.false in
    rw (← c.self.view_is, finds.finds_whole here there) refl

pub returns-clause-after : goal.returns-clause-after
returns-clause-after c =
    (moved (goal.at.returns-clause-after c).After-set).spools
    ∙ ap (λ (old : List CustomerSpool). set old c.args.customer
    (without_whole c.args.id (spool_at c.args.customer old))) c.self.view_is
