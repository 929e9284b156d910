use Rattle.std.proofs.Common.{subst}
use Rattle.sqlite.specs.Closing.{IsCopied}
use Rattle.njh_spoolfile.specs.Shelf.{Shelf}
use Rattle.njh_spoolfile.proofs.ReopeningLaws.{stands_alone}
use Rattle.njh_spoolfile.proofs.store.Store+FileStore+D.close.Goals as goal

pub returns-in-Ok-clause-alone : goal.returns-in-Ok-clause-alone
returns-in-Ok-clause-alone g c = λ clean spool held.
    let copied : IsCopied c.args.self.conn c.in-Ok.files =
    subst (λ (s : Shelf _). IsCopied s.conn c.in-Ok.files) c.self.view_is (c.in-Ok.ensures.copied clean) in
    stands_alone c.args.self.conn c.in-Ok.files copied spool held
