use Rattle.std.proofs.Common.{◌≡◌, ◌++◌, List, ℕ, refl, ap, rules, ◌∙◌}
use Rattle.http1.specs.Client.{ClientReads}
use Rattle.http1.specs.declared.conn.Event.TheVariants as event
use Rattle.httparse.specs.Spans.{span_bytes}
use Rattle.njh_ctl.proofs.SessionLaws.{IsStep, step_by, taken_by, with_body}
use Rattle.njh_ctl.specs.Exchanges.{reply_view}
use Rattle.njh_ctl.specs.declared.session.Next.TheVariants as next
use Rattle.njh_ctl.proofs.session.Session.take.Goals.{in-NeedMore, in-Informational, in-Head, in-Data+in_ok-add-in-Data}
use Rattle.njh_ctl.proofs.session.Session.take.Goals.{in-End}
use Rattle.njh_ctl.proofs.session.Session.take.Goals as goal

pub returns-clause-taken : goal.returns-clause-taken
returns-clause-taken g c =
    let input = c.self.inside.unread.items in
    let e = c.in-Ok.progress.event in
    let before = reply_view c.args.reply.now in
    let after = reply_view c.match-progress.reply in
    let then = c.match-progress.next in
    let step : IsStep input e before after then = elim c.match-progress.branch [
      | in-NeedMore w ↦
          step_by input e event.NeedMore before after then next.Read w.in-NeedMore.is w.next-is
          (ap reply_view w.reply-is) tt
      | in-Informational w ↦
          step_by input e (event.Informational w.in-Informational.field-0) before after then next.Look
          w.in-Informational.is w.next-is (ap reply_view w.reply-is) tt
      | in-Head w ↦
          step_by input e (event.Head w.in-Head.head) before after then next.Look w.in-Head.is w.next-is
          (ap reply_view w.reply-is) tt
      | in-Data+in_ok-add-in-Data w ↦
          let grown : w.add.new.body.items ≡ before.body ++ span_bytes input w.in-Data.span = search rules in
          step_by input e (event.Data w.in-Data.span) before after then next.Look w.in-Data.is w.next-is
          (ap reply_view w.reply-is
          ∙ ap (λ (body : List ℕ). with_body body before) grown)
          tt
      | in-End w ↦
          step_by input e (event.End w.in-End.field-0) before after then next.Whole w.in-End.is w.next-is
          (ap reply_view w.reply-is) tt
    ] in
    let reads : ClientReads c.self.inside.client input c.read.new.headers c.read.new.self c.in-Ok.progress =
    search rules in
    taken_by _ _ _ before after then c.self.view_is (record {
      takes = record {
        spans = c.read.new.headers;
        read = c.in-Ok.progress;
        reads = reads;
        unread = c.advance.ensures.items;
        remaining = refl;
        reply = step.reply;
      };
      is_next = step.is_next;
    })
