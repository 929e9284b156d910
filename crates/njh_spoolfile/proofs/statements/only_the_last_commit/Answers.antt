use Rattle.njh_spoolfile.proofs.statements.only_the_last_commit.Goals as goal

pub returns : goal.returns
returns g c conn is_open trees left = g.met.S.Store.settled conn.store trees is_open left
