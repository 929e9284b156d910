use Rattle.{std.proofs.Common.refl, njh_keeper.proofs.OneSpool.commit_leaves}
use Rattle.njh_keeper.proofs.keeper.SpoolKeeper.settle_files.Goals as goal

pub returns-clause-crash : goal.returns-clause-crash
returns-clause-crash g c left = rw (← c.self.view_is) (commit_leaves g.S.Store _ _ refl c.settle.ensures.crash left)
