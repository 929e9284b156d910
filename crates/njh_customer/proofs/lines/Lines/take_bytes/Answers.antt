-- One frame more was taken.
use Rattle.njh_customer.proofs.Words
use Words.{[], sym, rules, List, ℕ, length, set, ap, arith, set-set, Rest, customer_of, or_later, take_step, rest_at}
use Rattle.{std.proofs.Common.{◌≡◌, ◌∙◌, ◌+◌, ◌<◌}, njh_customer.proofs.{PieceLaws.takes_on, ReadyLaws.others_twice}}
use Rattle.njh_customer.proofs.ReadyLaws.{retold_twice}
use Rattle.njh_customer.proofs.lines.Lines.take_bytes.Goals as goal

pub loop-out-preserved : goal.loop-out-preserved
loop-out-preserved c =
    let t = c.take_frame-used in
    let id = c.args.id in
    let l = id.number in
    let before = customer_of id.customer c.loop-out.shared c.loop-out.self.lines in
    let after = customer_of id.customer t.new.shared t.new.self.lines in
    let old = rest_at l c.loop-out.self.rests in
    let new = rest_at l t.new.self.rests in
    let unanswered : c.loop-out.out ≡ [] = search rules in
    record {
      taken = ap (λ (left : List ℕ). or_later (c.loop-out.taken + t.result) new
          (record { after = after; frame = t.new.out }) (take_step new after l left)) c.split_at.ensures.back
          ∙ takes_on c.loop-out.taken t.result old before l c.loop-out.left.now new after t.new.out (record {
            more_is = t.ensures.taken;
            rest_is = t.ensures.rest;
            after_is = t.ensures.step.after.customer;
            frame_is = t.ensures.step.frame;
          }) ∙ ap (λ (frame : List ℕ). or_later c.loop-out.taken old (record { after = before; frame = frame })
          (take_step old before l c.loop-out.left.now)) (sym unanswered) ∙ c.loop-out.invariant.taken;
      rests = t.ensures.rests ∙ ap (λ (rests : List Rest). set rests l new) c.loop-out.invariant.rests
          ∙ set-set c.args.self.now.rests l old new;
      others = others_twice c.args.shared.now.spool c.loop-out.shared.spool t.new.shared.spool id.customer
          c.loop-out.invariant.others t.ensures.step.after.others;
      entries = retold_twice c.args.shared.now.tables c.loop-out.shared.tables t.new.shared.tables id.customer
          c.loop-out.invariant.entries t.ensures.step.after.entries;
      ready = t.ensures.step.ready;
      count = t.ensures.step.count ∙ c.loop-out.invariant.count;
      few = omega (arith, c.split_at.ensures.back_len);
      progress = λ _. let left : 0 < length c.loop-out.left.now = search rules in
          omega (arith, t.ensures.progress left);
    }
