use Rattle.njh_spool.specs.Spools.{spool_at}
use Rattle.njh_sched.proofs.FileLists.{file_is}
use Rattle.njh_sched.proofs.files.file_at.Goals as goal

pub returns-clause-file : goal.returns-clause-file
returns-clause-file c =
    file_is (spool_at c.args.customer c.args.spool.now) c.args.index c.file_at.result c.file_at.ensures.sound.apart
    c.file_at.ensures.number
