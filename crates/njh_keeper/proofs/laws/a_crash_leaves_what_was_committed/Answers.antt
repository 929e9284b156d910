use Rattle.njh_keeper.proofs.OneSpool.{committed_is_left}
use Rattle.njh_keeper.proofs.laws.a_crash_leaves_what_was_committed.Goals as goal

pub returns : goal.returns
returns g c keeper s left stands = committed_is_left g.S.Store keeper s left stands
    (c.only_the_last_commit.ensures keeper.store.conn stands.is_open)
