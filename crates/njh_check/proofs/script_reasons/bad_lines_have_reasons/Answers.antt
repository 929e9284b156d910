use Rattle.njh_check.proofs.ScriptReasonLaws.{no_event}
use Rattle.njh_check.proofs.script_reasons.bad_lines_have_reasons.Goals as goal

pub returns : goal.returns
returns c = no_event
