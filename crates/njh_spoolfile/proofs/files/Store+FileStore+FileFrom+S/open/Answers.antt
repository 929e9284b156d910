use Rattle.sqlite.specs.WalFiles.{image_at}
use Rattle.njh_spoolfile.proofs.files.Store+FileStore+FileFrom+S.open.Goals as goal

pub opened-requires : goal.opened-requires
opened-requires g c = record { opened = c.connect.ensures.opened }

pub returns-clause-opened : goal.returns-clause-opened
returns-clause-opened g c = c.opened.ensures.opened (image_at g.S.Start) c.connect.ensures.found

pub returns-clause-idle : goal.returns-clause-idle
returns-clause-idle g c = c.opened.ensures.idle

pub returns-clause-stands : goal.returns-clause-stands
returns-clause-stands g c = c.opened.ensures.stands (image_at g.S.Start) c.connect.ensures.found

pub returns-clause-works : goal.returns-clause-works
returns-clause-works g c = c.opened.ensures.works
