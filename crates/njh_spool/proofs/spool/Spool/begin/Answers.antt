use Rattle.std.proofs.Common.{◌≡◌, ℕ, ◌+◌, ◌*◌, ◌<◌, ◌≤◌, List, [], ◌∷◌, ◌++◌, length, set, refl, sym, ap, ◌∙◌, arith}
use Rattle.njh_spool.specs.declared.customer_files.CustomerFiles.{CustomerFiles}
use Rattle.njh_spool.specs.CustomerSpool.{CustomerSpool, with_new_partial, next_number}
use Rattle.njh_spool.specs.Spools.{spool_at}
use Rattle.njh_spool.specs.code.Slots.{contents, whole_file, partial_file, spool_of}
use Rattle.njh_spool.proofs.KeptLaws.{own_of, own_is}
use Rattle.njh_spool.proofs.CallFinds as finds
use Rattle.njh_spool.proofs.CallLaws as call
use Rattle.std.proofs.lemmas.List.{length-map}
use Rattle.njh_spool.proofs.BeginLaws.{begin_fault-many, begin_fault-full, begin_fault-none, some_free, number_is-next}
use Rattle.njh_spool.proofs.Calls.{MovesTo, call_on, own_at, files_at}
use Rattle.njh_spool.proofs.spool.Spool.begin.Goals as goal
use Rattle.njh_spool.proofs.spool.Spool.begin.Goals.{After-index_mut-own, After-free_number-number, After-set}

pub index_mut-own-requires : goal.index_mut-own-requires
index_mut-own-requires c =
    let here = call_on c.self.inside c.args.customer 0 c.self.invariant (rw c.self.view_is c.requires) in
    omega (arith, (finds.has here).within, c.from.ensures, c.self.inside.customers.ok.0)

own_same : (c : After-index_mut-own)
    → c.index_mut-own.result.now ≡ (own_of c.self.inside.customers.items c.args.customer)
own_same c =
    let here = call_on c.self.inside c.args.customer 0 c.self.invariant (rw c.self.view_is c.requires) in
    own_is c.self.inside.customers.items c.args.customer c.from.result c.index_mut-own.result.now
    (finds.has here).within c.from.ensures
    c.index_mut-own.ensures.value

-- how many files the customer has
record Few (c : After-index_mut-own) : Type 0 where
  whole : length c.index_mut-own.result.now.whole ≡ length (own_of c.self.inside.customers.items c.args.customer).whole
  partial : length c.index_mut-own.result.now.partial ≡ length
      (own_of c.self.inside.customers.items c.args.customer).partial
  limit : c.index_mut-own.result.now.limit ≡ (own_of c.self.inside.customers.items c.args.customer).limit
  bound : length (own_of c.self.inside.customers.items c.args.customer).whole + length
      (own_of c.self.inside.customers.items c.args.customer).partial ≤ 1024
  limit_bound : (own_of c.self.inside.customers.items c.args.customer).limit ≤ 1024

few : (c : After-index_mut-own) → Few c
few c =
    let here = call_on c.self.inside c.args.customer 0 c.self.invariant (rw c.self.view_is c.requires) in
    let has = finds.has here in
    record {
      whole = ap (λ (o : CustomerFiles). length o.whole) (own_same c);
      partial = ap (λ (o : CustomerFiles). length o.partial) (own_same c);
      limit = ap (λ (o : CustomerFiles). o.limit) (own_same c);
      bound = omega (
        arith,
        has.own.sound.within_limit,
        has.own.sound.files_limit,
        length-map
            (own_at here).whole
            (whole_file (files_at here)),
        length-map
            (own_at here).partial
            (partial_file (files_at here)),
      );
      limit_bound = has.own.sound.files_limit;
    }

pub overflow_add-len : goal.overflow_add-len
overflow_add-len c =
    let n = few (goal.at.overflow_add-len c).After-index_mut-own in
    omega (arith, n.whole, n.partial, n.bound, c.len.ensures, c.len-2.ensures)

pub returns-then-len-own-clause-fault : goal.returns-then-len-own-clause-fault
returns-then-len-own-clause-fault c =
    let here = call_on c.self.inside c.args.customer 0 c.self.invariant (rw c.self.view_is c.requires) in
    let has = finds.has here in
    let n = few (goal.at.returns-then-len-own-clause-fault c).After-index_mut-own in
    rw (
      ← c.self.view_is,
      has.part,
      begin_fault-many (own_at here)
          (files_at here) has.own
          (omega (arith, n.whole, n.partial, n.limit, c.len.ensures, c.len-2.ensures, c.if-len-own.true)),
    ) refl

pub returns-then-own-clause-fault : goal.returns-then-own-clause-fault
returns-then-own-clause-fault c =
    let here = call_on c.self.inside c.args.customer 0 c.self.invariant (rw c.self.view_is c.requires) in
    let has = finds.has here in
    let first = (goal.at.returns-then-own-clause-fault c).After-index_mut-own in
    let n = few first in
    let quota = ap (λ (o : CustomerFiles). o.quota) (own_same first) in
    let used' = ap (λ (o : CustomerFiles). o.used) (own_same first) in
    rw (
      ← c.self.view_is,
      has.part,
      begin_fault-full (own_at here)
          (files_at here) has.own
          (omega (arith, n.whole, n.partial, n.limit, c.len.ensures, c.len-2.ensures, c.if-len-own.false))
          (omega (arith, quota, used', c.if-own.true)),
    ) refl

pub free_number-number-requires-clause-all : goal.free_number-number-requires-clause-all
free_number-number-requires-clause-all c = finds.row_fits
    (call_on c.self.inside c.args.customer 0 c.self.invariant (rw c.self.view_is c.requires))

pub free_number-number-requires-clause-few : goal.free_number-number-requires-clause-few
free_number-number-requires-clause-few c =
    let n = few (goal.at.free_number-number-requires-clause-few c).After-index_mut-own in
    omega (arith, n.limit, n.limit_bound)

pub free_number-number-requires-clause-some : goal.free_number-number-requires-clause-some
free_number-number-requires-clause-some c =
    let here = call_on c.self.inside c.args.customer 0 c.self.invariant (rw c.self.view_is c.requires) in
    let n = few (goal.at.free_number-number-requires-clause-some c).After-index_mut-own in
    let free = some_free (own_at here)
    (files_at here) (finds.has here).own
    (omega (arith, n.whole, n.partial, n.limit, c.len.ensures, c.len-2.ensures, c.if-len-own.false)) in (
      next_number (spool_of (own_at here)
          (files_at here)),
      omega (arith, free.0, n.limit),
      free.1,
    )

pub push-requires : goal.push-requires
push-requires c =
    let n = few (goal.at.push-requires c).After-index_mut-own in
    omega (arith, n.whole, n.partial, n.limit, n.limit_bound, c.len.ensures, c.len-2.ensures, c.if-len-own.false)

pub set-requires-clause-all : goal.set-requires-clause-all
set-requires-clause-all c = finds.row_fits
    (call_on c.self.inside c.args.customer 0 c.self.invariant (rw c.self.view_is c.requires))

pub set-requires-clause-number : goal.set-requires-clause-number
set-requires-clause-number c =
    let n = few (goal.at.set-requires-clause-number c).After-index_mut-own in
    omega (arith, c.free_number-number.ensures.below, c.of-id.ensures, n.limit, n.limit_bound)

next_is : (c : After-free_number-number) → length (own_of c.self.inside.customers.items c.args.customer).whole + length
    (own_of c.self.inside.customers.items c.args.customer).partial
    < (own_of c.self.inside.customers.items c.args.customer).limit
    → c.free_number-number.result ≡ next_number (spool_of (own_of c.self.inside.customers.items c.args.customer)
    (contents c.self.inside.slots c.self.inside.store.chains c.args.customer))
next_is c room =
    let here = call_on c.self.inside c.args.customer 0 c.self.invariant (rw c.self.view_is c.requires) in
    number_is-next (own_at here)
    (files_at here) (finds.has here).own c.free_number-number.result room
    (c.free_number-number.ensures.free)
    (λ m below. (c.free_number-number.ensures.least m below))

moved : (c : After-set) → length (own_of c.self.inside.customers.items c.args.customer).whole + length
    (own_of c.self.inside.customers.items c.args.customer).partial
    < (own_of c.self.inside.customers.items c.args.customer).limit
    → MovesTo (call_on c.self.inside c.args.customer c.free_number-number.result c.self.invariant
    (rw c.self.view_is c.requires)) c.self.inside.store c.set.new.self (set c.self.inside.customers.items c.from.result
    (record c.index_mut-own.result.now { partial = c.push.new.self })) (with_new_partial c.args.kind)
moved c room =
    let here = call_on c.self.inside c.args.customer c.free_number-number.result c.self.invariant
    (rw c.self.view_is c.requires) in
    let has = finds.has here in
    let own = own_is c.self.inside.customers.items c.args.customer c.from.result c.index_mut-own.result.now has.within
    c.from.ensures c.index_mut-own.ensures.value in
    let number = c.free_number-number.result in
    let next = number_is-next (own_at here)
    (files_at here) has.own number room
    (c.free_number-number.ensures.free)
    (λ m below. (c.free_number-number.ensures.least m below)) in
    let small : number < 1024 = omega (
      arith,
      c.free_number-number.ensures.below,
      ap (λ (o : CustomerFiles). o.limit) own,
      has.own.sound.files_limit,
    ) in
    let owns =
    ap (λ (xs : List ℕ). record c.index_mut-own.result.now { partial = xs }) c.push.ensures
    ∙ ap (λ (o : CustomerFiles). record o { partial = o.partial ++ number ∷ [] }) own in
    let slots = c.set.ensures
    ∙ ap (λ (m : ℕ). set c.self.inside.slots (1024 * c.args.customer + m) c.empty.result) c.of-id.ensures in
    call.arrives here c.self.inside.store c.self.inside.store c.empty.result
    (record c.index_mut-own.result.now { partial = c.push.new.self }) c.set.new.self c.from.result
    (with_new_partial c.args.kind) refl slots c.from.ensures
    (call.begins here c.args.kind c.empty.result
    (record c.index_mut-own.result.now { partial = c.push.new.self }) room next
    (c.free_number-number.ensures.free) c.empty.ensures owns small)

pub invariant_of-self-2 : goal.invariant_of-self-2
invariant_of-self-2 c =
    let n = few (goal.at.invariant_of-self-2 c).After-index_mut-own in
    (moved (goal.at.invariant_of-self-2 c).After-set
    (omega (arith, n.whole, n.partial, n.limit, c.len.ensures, c.len-2.ensures, c.if-len-own.false))).kept

pub returns-clause-fault : goal.returns-clause-fault
returns-clause-fault c =
    let here = call_on c.self.inside c.args.customer 0 c.self.invariant (rw c.self.view_is c.requires) in
    let has = finds.has here in
    let first = (goal.at.returns-clause-fault c).After-index_mut-own in
    let n = few first in
    let quota = ap (λ (o : CustomerFiles). o.quota) (own_same first) in
    let used' = ap (λ (o : CustomerFiles). o.used) (own_same first) in
    rw (
      ← c.self.view_is,
      has.part,
      begin_fault-none (own_at here)
          (files_at here) has.own
          (omega (arith, n.whole, n.partial, n.limit, c.len.ensures, c.len-2.ensures, c.if-len-own.false))
          (omega (arith, quota, used', c.if-own.false)),
    ) refl

pub returns-clause-number : goal.returns-clause-number
returns-clause-number c =
    let here = call_on c.self.inside c.args.customer 0 c.self.invariant (rw c.self.view_is c.requires) in
    let n = few (goal.at.returns-clause-number c).After-index_mut-own in
    let next = next_is (goal.at.returns-clause-number c).After-free_number-number
    (omega (arith, n.whole, n.partial, n.limit, c.len.ensures, c.len-2.ensures, c.if-len-own.false)) in
    c.of-id.ensures ∙ next ∙ ap next_number (sym (finds.has here).part)
    ∙ ap (λ (old : List CustomerSpool). next_number (spool_at c.args.customer old)) c.self.view_is

pub returns-clause-ok : goal.returns-clause-ok
returns-clause-ok c =
    let n = few (goal.at.returns-clause-ok c).After-index_mut-own in
    (moved (goal.at.returns-clause-ok c).After-set
    (omega (arith, n.whole, n.partial, n.limit, c.len.ensures, c.len-2.ensures, c.if-len-own.false))).spools
    ∙ ap (λ (old : List CustomerSpool). set old c.args.customer
    (with_new_partial c.args.kind (spool_at c.args.customer old))) c.self.view_is
