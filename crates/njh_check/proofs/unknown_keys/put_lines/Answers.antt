use Rattle.std.proofs.Common.{ℕ, List, ◌++◌, ap, ◌∙◌}
use Rattle.toml.specs.View.{table_view}
use Rattle.njh_table.specs.declared.places.Part.TheVariants as parts
use Rattle.njh_check.specs.Warnings.{part_warnings}
use Rattle.njh_check.proofs.Loops.{below_more}
use Rattle.njh_check.proofs.unknown_keys.put_lines.Goals as goal

pub loop-line-preserved : goal.loop-line-preserved
loop-line-preserved c =
    let told : ℕ → List ℕ = λ n. part_warnings (table_view c.args.document.now) (parts.Line c.args.number n) in
    c.in_ok-put_part.ensures ∙ ap (λ front. front ++ told c.loop-line.line) c.loop-line.invariant
    ∙ below_more told c.loop-line.line c.args.report.now.items
