use Rattle.std.proofs.Common.{◌∙◌, length, List, ap, rules, subst, sym}
use Rattle.njh_hub.proofs.NamedLaws.{hub_run-length}
use Rattle.njh_hub.specs.WholeHub.{Part}
use Rattle.std.proofs.KnownBytes.{Appends-kept}
use Rattle.njh_replay.proofs.FileLaws.{all_printed, files_begun, run_begun}
use Rattle.njh_replay.specs.Replayed.{text_by, IsRunShort, Prints}
use Rattle.njh_replay.proofs.PrintSteps.{prints_stopped}
use Rattle.njh_replay.proofs.PrintedParts.{beginning-all}
use Rattle.njh_replay.proofs.replaying.print_all.Goals as goal

-- the printer writes where the caller does
pub returns-in_err-print_run-clause-printed : goal.returns-in_err-print_run-clause-printed
returns-in_err-print_run-clause-printed g c =
    let stopped = c.in_err-print_run.ensures.printed in
    let same = c.print_run.ensures.same_reference in
    subst (λ (out : g.row.W.Denot). Prints c.from_residual.result (g.W.Write.contents c.args.out.now)
    (g.W.Write.contents out)
    (text_by c.args.names.now c.args.hub.now c.args.events.now c.args.customers.now)
    (IsRunShort c.args.names.now c.args.customers.now c.args.hub.now c.args.events.now))
    (search (rules, same))
    (prints_stopped c.from_residual.result _ _ (g.W.Write.contents c.print_run.new.printer.out.now) _ _
    c.from_residual.ensures.1
    (run_begun c.args.names.now c.args.hub.now c.args.events.now c.args.customers.now _ _ stopped.0) stopped.1
    stopped.2)

-- it has as many customers as before
pub print_files-requires-clause-all : goal.print_files-requires-clause-all
print_files-requires-clause-all g c =
    c.requires.all ∙ sym (ap (λ (ps : List Part). length ps) c.in_ok-print_run.ensures.after
    ∙ hub_run-length c.args.hub.now c.args.events.now)

pub returns-in_err-print_files-clause-printed : goal.returns-in_err-print_files-clause-printed
returns-in_err-print_files-clause-printed g c =
    let same = c.in_ok-print_run.ensures.after in
    prints_stopped c.from_residual-in_err-print_files.result _ _ _ _ _ c.from_residual-in_err-print_files.ensures.1
    (files_begun c.args.names.now c.args.hub.now c.print_run.new.hub c.args.events.now c.args.customers.now _ _ _
    same
    (Appends-kept _ _ _ _ c.in_ok-print_run.ensures.printed (search (rules, c.print_run.ensures.same_reference)))
    c.in_err-print_files.ensures.err) (tt, λ refusal. refusal)
    tt

pub returns-in-Ok-clause-printed : goal.returns-in-Ok-clause-printed
returns-in-Ok-clause-printed g c =
    Appends-kept _ _ _ _ (all_printed c.args.names.now c.args.hub.now c.print_run.new.hub c.args.events.now
    c.args.customers.now _ _ _
    c.in_ok-print_run.ensures.after
    (Appends-kept _ _ _ _ c.in_ok-print_run.ensures.printed (search (rules, c.print_run.ensures.same_reference)))
    c.in_ok-print_files.ensures.ok)
    c.in-Ok.ensures.bytes

pub returns-in-Err-clause-printed : goal.returns-in-Err-clause-printed
returns-in-Err-clause-printed g c = (
  beginning-all _ _ _ (Appends-kept _ _ _ _
      (all_printed c.args.names.now c.args.hub.now c.print_run.new.hub c.args.events.now c.args.customers.now _ _ _
      c.in_ok-print_run.ensures.after
      (Appends-kept _ _ _ _ c.in_ok-print_run.ensures.printed (search (rules, c.print_run.ensures.same_reference)))
      c.in_ok-print_files.ensures.ok)
      c.in-Err.ensures.bytes),
  (tt, λ refusal. refusal),
  tt,
)
