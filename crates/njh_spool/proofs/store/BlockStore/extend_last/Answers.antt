use Rattle.std.proofs.Common.{sym, arith}
use Rattle.njh_spool.proofs.ChainWrites.{last_has, fits_last, fits_len, extended, view_extended}
use Rattle.njh_spool.proofs.ChainPlaces.{on_ends}
use Rattle.njh_spool.proofs.store.BlockStore.extend_last.Goals as goal

pub put-requires-clause-block : goal.put-requires-clause-block
put-requires-clause-block c =
    let on = on_ends c.self.inside c.args.self.now c.args.chain c.index-old.result.now c.self.invariant c.self.view_is
    c.requires.chain
    (sym c.index-old.ensures) in
    last_has on c.args.bytes.now
    c.requires.some c.requires.room

pub put-requires-clause-within : goal.put-requires-clause-within
put-requires-clause-within c =
    let on = on_ends c.self.inside c.args.self.now c.args.chain c.index-old.result.now c.self.invariant c.self.view_is
    c.requires.chain
    (sym c.index-old.ensures) in
    fits_last on c.args.bytes.now
    c.requires.some c.requires.room

pub overflow_add-old : goal.overflow_add-old
overflow_add-old c =
    let on = on_ends c.self.inside c.args.self.now c.args.chain c.index-old.result.now c.self.invariant c.self.view_is
    c.requires.chain
    (sym c.index-old.ensures) in
    let fits = fits_len on
    c.args.bytes.now c.requires.some c.requires.room in
    omega arith

pub invariant_of-self : goal.invariant_of-self
invariant_of-self c =
    let on = on_ends c.self.inside c.args.self.now c.args.chain c.index-old.result.now c.self.invariant c.self.view_is
    c.requires.chain
    (sym c.index-old.ensures) in
    rw c.put.ensures (extended on
    c.args.bytes.now c.requires.some c.requires.room)

pub returns : goal.returns
returns c =
    let on = on_ends c.self.inside c.args.self.now c.args.chain c.index-old.result.now c.self.invariant c.self.view_is
    c.requires.chain
    (sym c.index-old.ensures) in
    rw c.put.ensures (view_extended on c.args.bytes.now c.requires.some c.requires.room)
