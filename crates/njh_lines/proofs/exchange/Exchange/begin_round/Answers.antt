use Rattle.std.proofs.Common.{ℕ, List, length, ap, arith, subst, sym}
use Rattle.njh_lines.specs.Attention.{mark_at, watch_at}
use Rattle.njh_lines.specs.Watching.{HasBegun, ServedLine}
use Rattle.njh_lines.specs.Wires.{AreHeld}
use Rattle.njh_lines.specs.declared.attention.Watch.{Watch}
use Rattle.njh_lines.proofs.exchange.Exchange.begin_round.Goals as goal

-- what was marked in the wait
pub returns-clause-begun : goal.returns-clause-begun
returns-clause-begun g c =
    let marks = c.wait.new.self.ready in
    let new = c.begin_groups.new.exchange in record {
      marks = marks;
      each = λ p before.
          let At : ℕ → Type 0 = λ now. HasBegun now (mark_at marks p) (mark_at new.ready p)
          (watch_at c.args.self.now.watches p) (watch_at new.watches p) in
          let Of : List Watch → Type 0 = λ watches. HasBegun c.wait.new.self.now (mark_at marks p)
          (mark_at new.ready p) (watch_at watches p) (watch_at new.watches p) in
          subst At (sym c.begin_groups.ensures.now) (subst Of c.wait.ensures.watches
          (c.begin_groups.ensures.begun p (omega (arith, before, ap length c.wait.ensures.lines))));
    }

-- the lines are the same as before the wait
pub returns-clause-held : goal.returns-clause-held
returns-clause-held g c =
    let Of : List ServedLine → Type 0 = λ lines. AreHeld 0 (length c.args.wires.now) lines
    c.begin_groups.new.exchange.watches c.args.wires.now c.begin_groups.new.wires in
    subst Of c.wait.ensures.lines c.begin_groups.ensures.held
