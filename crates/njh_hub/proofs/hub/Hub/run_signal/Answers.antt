use Rattle.std.proofs.Common.{◌≡◌, ◌∙◌, sym, List, [], ℕ, ap, inr, refl, rules}
use Rattle.njh_customer.specs.Feeding.{sent_on}
use Rattle.njh_hub.specs.WholeHub.{HubRun, sent_by}
use Rattle.njh_hub.proofs.RunningLaws.{named-event_by, sent_pair, signal_done}
use Rattle.njh_hub.proofs.StopLaws.{signal-bytes}
use Rattle.njh_hub.proofs.CutLaws.{signal_stops}
use Rattle.njh_hub.proofs.hub.Hub.run_signal.Goals as goal

pub returns-in-Err-hand_over : goal.returns-in-Err-hand_over
returns-in-Err-hand_over g c =
    let start = c.args.self.now in
    let id = c.args.id in
    let frame = c.deref.result.now in
    let there = signal_done start c.args.signal id in
    let same : c.signal.new.out.items ≡ frame = sym c.deref.ensures.value in
    record {
      leads = c.in-Ok.ensures.hub ∙ ap (λ (h : HubRun). h.parts) (sym there);
      handed = record {
        front = [];
        last = (id, frame);
        between = c.args.sink.now;
        are = ap (λ (h : HubRun). h.sent) there
            ∙ ap (λ (b : List ℕ). sent_by id.customer (sent_on id.number b)) (sym c.in-Ok.ensures.frame ∙ same)
            ∙ sent_pair id frame c.in-Err-hand_over.ensures.err.1;
        took_front = g.met.S.Sink.none c.args.sink.now;
        refused_last = c.in-Err-hand_over.ensures.err.0;
      };
      known = search rules;
      lines = c.in-Ok.ensures.lines;
      room = search rules;
      one = search rules;
      behind = λ _. named-event_by start c.args.signal id c.in-Ok.ensures.known;
      causes = search rules;
      memory = search rules;
      begun = search rules;
      behind_frame = λ _. record {
        used = 0;
        sends = signal_stops start c.args.signal id frame (sym same ∙ c.in-Ok.ensures.frame)
            c.in-Err-hand_over.ensures.err.1;
        stops = inr (sym (signal-bytes c.args.signal id), refl, refl);
      };
      counts = c.in-Err-hand_over.ensures.counts;
      counted = λ _. c.in-Err-hand_over.ensures.counted;
    }
