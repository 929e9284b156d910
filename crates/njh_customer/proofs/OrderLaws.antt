-- A customer is in order when it is opened, and stays so whatever comes: the walk over the steps of which that is made.
use Rattle.njh_customer.proofs.Words
use Words.{ℕ, false, refl, sym, ap, subst, All-push, map-map, HasHeaders}
use Words.{WholeFile, is_number, with_arrived, CustomerEntry, LineState, after_end, after_input}
use Words.{after_record}
use Words.{after_frame, after_signal, Customer, on_line, in_state, config_of}
use Words.{fresh_customer, idle_line, AreApart, AreBeingSent, AreSetUp, IdleUnlessUp, IsInOrder, IsWithinQuota}
use Words.{customer_after_order}
use Words.{StaysInOrder, customer_with_last_file, outgoing, with_arrival, IsCoherent}
use Rattle.{std.proofs.Common.{◌≡◌, ◌∙◌}, njh_spool.specs.declared.State.TheVariants.Sending}
use Rattle.njh_customer.proofs.CoherenceLaws.{coherent_still, fresh_coherent, order_coherent}
use Rattle.njh_customer.proofs.FileLimits.{apart_arrived, apart_files, apart_fresh}
use Rattle.njh_customer.proofs.FileLimits.{apart_routes, whole_distinct, within_fresh, within_routes, within_files}
use Rattle.njh_customer.proofs.{IdleLines.{idle_by_frame, idle_by_order, idle_when_opened, idle_by_signal}}
use Rattle.njh_customer.proofs.LineWalks.{order_entry, order_keeps}
use Rattle.njh_customer.proofs.{OutgoingLaws.{of_parts, on_line_senders}}
use Rattle.njh_customer.proofs.{RoutesMoves.coherent_given, SentByLines.sent_fresh}
use Rattle.njh_customer.proofs.{SentByLines.{sent_over, sent_replied, sent_routes}, SentByRecords.arrival_carries}
use Rattle.njh_customer.proofs.SentByRecords.{carried, sent_order, sent_record}
use Rattle.njh_customer.proofs.SessionLaws.{IsSetUpAs, coherent_steps, kept_set_ups, set_up, set_up_by, set_up_steps}
use Rattle.njh_customer.proofs.SpoolWalks.{files_in_steps, order_so}
use Rattle.njh_customer.proofs.StepWalks.{event_so, StaysInSteps, StaysInFrames, frame_so}
use Rattle.njh_customer.proofs.StepWalks.{signal_so}

-- ---- how the lines are set up

set_still : (d c : Customer) → IsSetUpAs c d → AreSetUp c → AreSetUp d
set_still d c same so = same.0 ∙ so ∙ sym same.1

fresh_set_up : (entry : CustomerEntry) → AreSetUp (fresh_customer entry)
fresh_set_up entry = map-map set_up (λ line. idle_line (config_of entry line) line.streams) entry.lines

-- ---- files

-- the state of a line's session moves no file and no stream
session_outgoing : (l : ℕ) (f : LineState → LineState) (c : Customer)
    → outgoing (record c { lines = on_line l (in_state f) c.lines }) ≡ outgoing c
session_outgoing l f c = ap (of_parts c.spool.whole c.spool.arrived)
    (on_line_senders l (in_state f) c.lines (λ x. refl))

-- which of them are being sent, where no two have one number
abbrev AreSent : Customer → Type 0
AreSent c = AreApart c.spool × AreBeingSent (outgoing c)

sent_steps : StaysInSteps AreSent
sent_steps =
    let apart = files_in_steps AreApart apart_files in
    record {
      session = record {
        judged = λ l came c there so. (so.0, subst AreBeingSent (sym (session_outgoing l (after_input came) c)) so.1);
        answered = λ l r c there so. (apart.session.answered l r c there so.0, sent_replied l r c there so.1);
        ended = λ end l c there so. (so.0, subst AreBeingSent (sym (session_outgoing l (after_end end) c)) so.1);
        over = λ l c there so. (apart.session.over l c there so.0, sent_over l c there so.1);
      };
      acted = λ l i c there so. let after = apart.acted l i c there so.0 in (
        after,
        sent_record l i c (whole_distinct c.spool so.0) (whole_distinct (after_record l i c).spool after) so.1,
      );
    }

-- ---- all of it

-- Each part is carried by the walk over the steps, but for what is so of the lines that aren't up: that holds between
-- frames alone, and so has no part in it.
in_order : (c d : Customer) → ((I : Customer → Type 0) → StaysInSteps I → I c → I d) → IdleUnlessUp d.lines
    → IsInOrder c → IsInOrder d
in_order c d walk idle order =
    let sent = walk AreSent sent_steps (order.apart, order.sent) in
    record {
      coherent = walk IsCoherent coherent_steps order.coherent;
      apart = sent.0;
      within = walk (λ x. IsWithinQuota x.spool) (files_in_steps IsWithinQuota within_files) order.within;
      sent = sent.1;
      idle = idle;
      set_up = set_still d c (walk (IsSetUpAs c) (set_up_steps c) (refl, refl)) order.set_up;
    }

order_in_frames : StaysInFrames IsInOrder
order_in_frames = record {
  by_frame = λ l x c order. in_order c (after_frame l x c).after (λ I keep. frame_so I keep l x c)
      (idle_by_frame l x c order.idle) order;
  by_signal = λ l x c order. in_order c (after_signal l x c).after (λ I keep. signal_so I keep l x c)
      (idle_by_signal l x c order.idle) order;
  -- new routes leave the lines, and how these are set up
  by_routes = λ routes c order. record {
    coherent = coherent_given routes c order.coherent;
    apart = apart_routes routes c order.apart;
    within = within_routes routes c order.within;
    sent = sent_routes routes c order.sent;
    idle = order.idle;
    set_up = order.set_up;
  };
  by_order = λ given c order. let d = customer_after_order given c in record {
    coherent = order_coherent given c order.coherent;
    apart = order_so AreApart (λ i. AreApart) apart_files given c order.apart;
    within = order_so IsWithinQuota (λ i. IsWithinQuota) within_files given c order.within;
    sent = sent_order given c (whole_distinct c.spool order.apart) order.sent;
    idle = idle_by_order given c order.idle;
    set_up = set_still d c (kept_set_ups d.lines c.lines (order_keeps given c), ap set_up_by (order_entry given c))
        order.set_up;
  };
}

-- a whole file that is put back
put_back : (f : WholeFile) (c : Customer) → is_number f.number c.spool ≡ false
    → HasHeaders f.kind f.records → (f.state ≡ Sending → ⊥) → IsWithinQuota (with_arrived f c.spool) → IsInOrder c
    → IsInOrder (customer_with_last_file f c)
put_back f c free has waits within order =
    let apart = apart_arrived f c.spool free order.apart in
    record {
      coherent = coherent_still (customer_with_last_file f c) c (record {
        entry = (refl, refl, refl);
        lines = refl;
        files = record {
          partial = refl;
          limits = refl;
          headers = λ have. All-push (λ (g : WholeFile). HasHeaders g.kind g.records) c.spool.whole f have has;
        };
      }) order.coherent;
      apart = apart;
      within = within;
      sent = carried (outgoing c) (with_arrival f (outgoing c))
          (arrival_carries f (outgoing c) waits (whole_distinct (with_arrived f c.spool) apart) order.sent) order.sent;
      idle = order.idle;
      set_up = order.set_up;
    }

pub stays_in_order : StaysInOrder
stays_in_order = record {
  opened = λ entry few. record {
    coherent = fresh_coherent entry few;
    apart = apart_fresh entry;
    within = within_fresh entry;
    sent = sent_fresh entry;
    idle = idle_when_opened entry;
    set_up = fresh_set_up entry;
  };
  events = event_so IsInOrder order_in_frames;
  routes = order_in_frames.by_routes;
  put_back = put_back;
}
