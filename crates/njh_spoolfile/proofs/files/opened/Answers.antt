use Rattle.sqlite.specs.Held.{state}
use Rattle.sqlite.specs.Start.{FindsIn}
use Rattle.sqlite.specs.State.{HasCleanDisk, IsLive, Opens}
use Rattle.njh_spoolfile.proofs.OpeningLaws.{at_ok, opens_from, stands_as_found}
use Rattle.njh_spoolfile.proofs.ReadingLaws.{if_ok}
use Rattle.njh_spoolfile.proofs.files.opened.Goals as goal

pub spool_of-requires : goal.spool_of-requires
spool_of-requires g c = record {
  fresh = λ clean. (at_ok (λ conn. HasCleanDisk (state g.S.Store conn) → Opens (state g.S.Store conn)
      × IsLive (state g.S.Store conn)) c.args.conn c.in_ok-conn.conn c.in_ok-conn.was c.requires.opened clean).0;
}

pub returns-clause-opened : goal.returns-clause-opened
returns-clause-opened g c image found =
    let opens = at_ok (λ conn. HasCleanDisk (state g.S.Store conn) → Opens (state g.S.Store conn)
    × IsLive (state g.S.Store conn)) c.args.conn c.in_ok-conn.conn c.in_ok-conn.was c.requires.opened in
    let finds = at_ok (λ conn. HasCleanDisk (state g.S.Store conn) → FindsIn image (state g.S.Store conn)) c.args.conn
    c.in_ok-conn.conn c.in_ok-conn.was found in
    if_ok _ _ (λ store it. opens_from image (state g.S.Store c.in_ok-conn.conn) (state g.S.Store store.conn) opens finds
    it)
    c.spool_of.result c.spool_of.ensures.becomes

pub returns-clause-idle : goal.returns-clause-idle
returns-clause-idle g c = if_ok _ _ (λ store it. it.idle) c.spool_of.result c.spool_of.ensures.becomes

pub returns-clause-stands : goal.returns-clause-stands
returns-clause-stands g c image found =
    let opens = at_ok (λ conn. HasCleanDisk (state g.S.Store conn) → Opens (state g.S.Store conn)
    × IsLive (state g.S.Store conn)) c.args.conn c.in_ok-conn.conn c.in_ok-conn.was c.requires.opened in
    let finds = at_ok (λ conn. HasCleanDisk (state g.S.Store conn) → FindsIn image (state g.S.Store conn)) c.args.conn
    c.in_ok-conn.conn c.in_ok-conn.was found in
    if_ok _ _ (λ store it. stands_as_found image (state g.S.Store c.in_ok-conn.conn) (state g.S.Store store.conn) opens
    finds it)
    c.spool_of.result c.spool_of.ensures.becomes
