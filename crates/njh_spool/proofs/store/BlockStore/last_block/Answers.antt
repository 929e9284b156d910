use Rattle.std.proofs.Common.{◌≡◌, ℕ, ◌-◌, Some, sym, subst, arith}
use Rattle.std.specs.Prelude.{slice_get}
use Rattle.njh_spool.specs.code.Chains.{chain_at, blocks_for}
use Rattle.njh_spool.proofs.ChainPlaces.{on_ends, last_key, len_on}
use Rattle.njh_spool.proofs.store.BlockStore.last_block.Goals as goal

pub returns-clause-block : goal.returns-clause-block
returns-clause-block c =
    let on = on_ends c.self.inside c.args.self.now c.args.chain c.index-ends.result.now c.self.invariant c.self.view_is
    c.requires
    (sym c.index-ends.ensures) in
    let index : blocks_for on.ends.len - 1 ≡ c.div_ceil.result - 1 = omega (arith, c.div_ceil.ensures) in
    λ _. subst (λ (n : ℕ). slice_get (chain_at c.args.chain c.args.self.now).keys n ≡ Some on.ends.last) index
    (last_key on (omega (arith, c.if-ends-eq0.false)))

pub returns-clause-near : goal.returns-clause-near
returns-clause-near c =
    let on = on_ends c.self.inside c.args.self.now c.args.chain c.index-ends.result.now c.self.invariant c.self.view_is
    c.requires
    (sym c.index-ends.ensures) in
    let len = len_on on in
    record {
      begins = omega (arith, len, c.div_ceil.ensures, c.if-ends-eq0.false);
      ends = omega (arith, len, c.div_ceil.ensures, c.if-ends-eq0.false);
    }

pub returns-then-ends-eq0-clause-near : goal.returns-then-ends-eq0-clause-near
returns-then-ends-eq0-clause-near c =
    let on = on_ends c.self.inside c.args.self.now c.args.chain c.index-ends.result.now c.self.invariant c.self.view_is
    c.requires
    (sym c.index-ends.ensures) in
    let len = len_on on in
    record { begins = omega arith; ends = omega (arith, len, c.if-ends-eq0.true) }
