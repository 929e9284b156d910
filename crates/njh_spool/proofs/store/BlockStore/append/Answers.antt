use Rattle.std.proofs.Common.{◌≡◌, ◌++◌, arith}
use Rattle.std.proofs.lemmas.List.{take-append-drop}
use Rattle.njh_spool.proofs.ChainValues.{Appends-then}
use Rattle.njh_spool.proofs.store.BlockStore.append.Goals as goal

pub loop-left-preserved : goal.loop-left-preserved
loop-left-preserved c =
    let part = c.split_at-in-loop-left.result.0.now in
    let after = c.split_at-in-loop-left.result.1.now in
    let split : part ++ after ≡ c.loop-left.left.now =
    rw (c.split_at-in-loop-left.ensures.front, c.split_at-in-loop-left.ensures.back) (take-append-drop _ _) in
    Appends-then c.args.chain c.args.bytes.now c.loop-left.left.now part after c.args.self.now c.loop-left.self
    c.add_block.new.self c.loop-left.invariant c.requires.chain c.add_block.ensures split
    (λ more. omega (arith, c.split_at-in-loop-left.ensures.front_len, c.split_at-in-loop-left.ensures.back_len))
