use Rattle.std.proofs.Common.{inr}
use Rattle.njh_subcommands.proofs.CheckLaws.{begun_told, never_ok, tell_end, tell_late}
use Rattle.njh_subcommands.proofs.checking.check_script_file.Goals as goal

pub returns : goal.returns
returns g c = record {
  right = never_ok c.tell_fault.result _ c.tell_fault.ensures.fault;
  found = λ same. inr (c.deref-in-Err.result.now, c.tell_fault.ensures.found same);
  failed = tell_end c.tell_fault.result c.args.tables c.tell_fault.ensures.failed;
  begun = begun_told c.tell_fault.result c.args.tables _ _ c.tell_fault.ensures.begun;
  silent = tell_late c.tell_fault.result _ c.tell_fault.ensures.failed;
}
