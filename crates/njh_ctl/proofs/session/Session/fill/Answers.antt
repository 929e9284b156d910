use Rattle.std.proofs.Common.{sym, subst}
use Rattle.njh_ctl.specs.Exchanges.{IsNext, Link, Reads, ReplyView, reading_begins, reading_comes, reading_takes}
use Rattle.njh_ctl.specs.Exchanges.{reply_view}
use Rattle.njh_ctl.specs.declared.session.Next.{Next}
use Rattle.njh_ctl.proofs.session.Session.fill.Goals.{in-Look, in-Read+in_ok-read-in-Read}
use Rattle.njh_ctl.proofs.session.Session.fill.Goals as goal

pub loop-init : goal.loop-init
loop-init g c =
    subst (λ (reply : ReplyView). Reads c.args.self.now c.args.self.now reply) (sym c.requires) reading_begins

pub returns-in-Whole-clause-heard : goal.returns-in-Whole-clause-heard
returns-in-Whole-clause-heard g c =
    let taken = c.in_ok-take.ensures.taken in
    record {
      before = c.loop.self;
      so_far = reply_view c.loop.reply;
      reads = c.loop.invariant;
      last = taken.takes;
      ends = subst (λ (next : Next). IsNext next taken.takes.read.event) c.in-Whole.is taken.is_next;
    }

pub loop-preserved : goal.loop-preserved
loop-preserved g c =
    let mid = c.take.new.self in
    let reply = reply_view c.take.new.reply in
    let reads : Reads c.args.self.now mid reply =
    reading_takes c.loop.self mid (reply_view c.loop.reply) reply c.loop.invariant c.in_ok-take.ensures.taken.takes in
    elim c.match-branch-2.branch [
      | in-Look w ↦ subst (λ (link : Link). Reads c.args.self.now link reply) (sym w.self-is) reads
      | in-Read+in_ok-read-in-Read w ↦
          subst (λ (link : Link). Reads c.args.self.now link reply) (sym w.self-is)
          (reading_comes mid w.read.new.self reply reads w.in_ok-read-in-Read.ensures.received)
    ]
