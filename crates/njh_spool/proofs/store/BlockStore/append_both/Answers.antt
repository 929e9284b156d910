use Rattle.std.proofs.Common.{arith}
use Rattle.njh_spool.proofs.ChainValues.{fewer_blocks, grown_within, grown_capacity, grown_blocks, grows_again}
use Rattle.njh_spool.proofs.store.BlockStore.append_both.Goals as goal

pub append-requires-clause-room : goal.append-requires-clause-room
append-requires-clause-room c =
    omega (
      arith,
      fewer_blocks c.args.chain c.args.first.now c.args.second.now c.args.self.now c.requires.chain,
      c.requires.room,
    )

pub append-requires-2-clause-chain : goal.append-requires-2-clause-chain
append-requires-2-clause-chain c =
    grown_within c.args.chain c.args.first.now c.args.second.now c.args.self.now c.append.new.self c.requires.chain
    c.append.ensures

pub append-requires-2-clause-room : goal.append-requires-2-clause-room
append-requires-2-clause-room c =
    omega (
      arith,
      grown_blocks c.args.chain c.args.first.now c.args.second.now c.args.self.now c.append.new.self c.requires.chain
          c.append.ensures,
      grown_capacity c.args.chain c.args.first.now c.args.second.now c.args.self.now c.append.new.self c.requires.chain
          c.append.ensures,
      c.requires.room,
    )

pub returns : goal.returns
returns c =
    grows_again c.args.chain c.args.first.now c.args.second.now c.args.self.now c.append.new.self c.requires.chain
    c.append.ensures
    c.append-2.new.self c.append-2.ensures
