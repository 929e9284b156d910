use Rattle.std.proofs.Common.{◌<◌, drop, sym, ap, ◌∙◌, arith}
use Rattle.njh_spool.specs.code.Chains.{Chain, with_chain}
use Rattle.njh_spool.proofs.ChainLaws.{ends_within, len_is, chain_is}
use Rattle.njh_spool.proofs.ChainMoves.{chained_moved, view_moved}
use Rattle.njh_spool.proofs.ChainRemoves.{has_head, moves_rest, chain_rest}
use Rattle.njh_spool.proofs.store.BlockStore.remove_first.Goals as goal

pub remove-first-requires : goal.remove-first-requires
remove-first-requires c =
    let blocks = c.self.inside.blocks in
    let chains = c.self.inside.chains.items in
    let capacity = c.self.inside.capacity in
    let within = ends_within blocks chains capacity c.args.chain c.args.self.now c.self.view_is c.requires.chain in
    let ends = c.index-old.result.now in
    let is = sym c.index-old.ensures in
    let any : 0 < ends.len = omega (
      arith,
      len_is blocks chains c.args.chain capacity ends c.self.invariant within is
          c.args.self.now c.self.view_is,
    ) in
    has_head blocks blocks chains c.args.chain capacity ends c.self.invariant within is any

pub invariant_of-self : goal.invariant_of-self
invariant_of-self c =
    let blocks = c.self.inside.blocks in
    let chains = c.self.inside.chains.items in
    let capacity = c.self.inside.capacity in
    let within = ends_within blocks chains capacity c.args.chain c.args.self.now c.self.view_is c.requires.chain in
    let ends = c.index-old.result.now in
    let is = sym c.index-old.ensures in
    let any : 0 < ends.len = omega (
      arith,
      len_is blocks chains c.args.chain capacity ends c.self.invariant within is
          c.args.self.now c.self.view_is,
    ) in
    let gone = c.remove-first.ensures in
    let moves =
    moves_rest blocks c.remove-first.new.self chains c.args.chain capacity ends c.self.invariant within is any
    c.remove-first.result gone.value gone.updates gone.len gone.capacity in
    rw c.saturating_sub.ensures (chained_moved blocks c.remove-first.new.self chains c.args.chain capacity ends _
    c.self.invariant
    within is moves (omega (arith, gone.len, c.self.invariant.within)))

pub returns : goal.returns
returns c =
    let blocks = c.self.inside.blocks in
    let chains = c.self.inside.chains.items in
    let capacity = c.self.inside.capacity in
    let within = ends_within blocks chains capacity c.args.chain c.args.self.now c.self.view_is c.requires.chain in
    let ends = c.index-old.result.now in
    let is = sym c.index-old.ensures in
    let store = c.args.self.now in
    let any : 0 < ends.len =
    omega (arith, len_is blocks chains c.args.chain capacity ends c.self.invariant within is store c.self.view_is) in
    let gone = c.remove-first.ensures in
    let moves =
    moves_rest blocks c.remove-first.new.self chains c.args.chain capacity ends c.self.invariant within is any
    c.remove-first.result gone.value gone.updates gone.len gone.capacity in
    let chain =
    chain_rest blocks c.remove-first.new.self chains c.args.chain capacity ends c.self.invariant within is any
    c.remove-first.result gone.value gone.updates gone.len gone.capacity in
    let old = chain_is blocks chains c.args.chain capacity ends c.self.invariant within is store c.self.view_is in
    rw c.saturating_sub.ensures
    (view_moved blocks c.remove-first.new.self chains c.args.chain capacity ends _ c.self.invariant within is moves
    store c.self.view_is
    ∙ ap (λ (x : Chain). with_chain c.args.chain x store)
    (chain ∙ ap (λ (x : Chain). record { keys = drop 1 x.keys; bytes = drop 252 x.bytes }) (sym old)))
