use Rattle.njh_spool.proofs.Calls.{call_on}
use Rattle.njh_spool.proofs.CallFinds as finds
use Rattle.njh_spool.proofs.spool.Spool.quota_holds.Goals as goal

pub returns-clause-sound : goal.returns-clause-sound
returns-clause-sound c =
    let here = call_on c.self.inside c.args.customer 0 c.self.invariant (rw c.self.view_is c.requires) in
    let has = finds.has here in
    rw (← c.self.view_is, has.part) has.own.sound

pub returns-clause-blocks : goal.returns-clause-blocks
returns-clause-blocks c =
    let here = call_on c.self.inside c.args.customer 0 c.self.invariant (rw c.self.view_is c.requires) in
    let has = finds.has here in
    rw (← c.self.view_is, has.part) has.own.sound.within_quota

pub returns-clause-files : goal.returns-clause-files
returns-clause-files c =
    let here = call_on c.self.inside c.args.customer 0 c.self.invariant (rw c.self.view_is c.requires) in
    let has = finds.has here in
    rw (← c.self.view_is, has.part) has.own.sound.within_limit

pub returns-clause-numbers : goal.returns-clause-numbers
returns-clause-numbers c =
    let here = call_on c.self.inside c.args.customer 0 c.self.invariant (rw c.self.view_is c.requires) in
    let has = finds.has here in
    λ n. rw (← c.self.view_is, has.part) (has.own.sound.apart n)
