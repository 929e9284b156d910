-- No other file of the customer has the number.
use Rattle.njh_command.proofs.FileLaws.{found, alone, gone}
use Rattle.njh_spool.specs.Spools.{spool_at}
use Rattle.njh_command.proofs.files.number_of.Goals as goal

pub returns-clause-found : goal.returns-clause-found
returns-clause-found c =
    found (spool_at c.args.customer c.args.spool.now) c.args.index c.file_at.result c.file_at.ensures.sound
    c.requires.within
    c.file_at.ensures.number

pub returns-clause-alone : goal.returns-clause-alone
returns-clause-alone c =
    alone (spool_at c.args.customer c.args.spool.now) c.args.index c.file_at.result c.file_at.ensures.sound
    c.requires.within
    c.file_at.ensures.number

pub returns-clause-removed : goal.returns-clause-removed
returns-clause-removed c =
    gone (spool_at c.args.customer c.args.spool.now) c.args.index c.file_at.result c.file_at.ensures.sound
    c.requires.within
    c.file_at.ensures.number
