use Rattle.std.proofs.Common.{sym, ap, ◌∙◌}
use Rattle.std.specs.Result.{result_ok}
use Rattle.njh_spool.specs.Spools.{spool_at}
use Rattle.njh_hub.proofs.ShownLaws.{SaysAll, summary_says}
use Rattle.njh_hub.proofs.file_summary.file_summary.Goals as goal

-- what the headers of the file that was found say
abbrev says : (c : goal.In_ok-blocks) → SaysAll c.in_ok-summary.summary.headers
says c =
    summary_says c.args.file (spool_at c.args.customer c.args.spool.now) c.in_ok-summary.summary c.requires.headers
    (ap result_ok (sym c.summary.ensures) ∙ sym c.ok.ensures.value ∙ c.in_ok-summary.was)

pub unwrap-requires : goal.unwrap-requires
unwrap-requires c = (says c).name

pub unwrap-requires-3 : goal.unwrap-requires-3
unwrap-requires-3 c =
    (summary_says c.args.file (spool_at c.args.customer c.args.spool.now) c.in_ok-summary.summary c.requires.headers
    (ap result_ok (sym c.summary.ensures) ∙ sym c.ok.ensures.value ∙ c.in_ok-summary.was)).destination
