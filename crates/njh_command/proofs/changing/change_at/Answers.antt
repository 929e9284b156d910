-- The file is none of them, or is being sent, and nothing is done.
use Rattle.std.proofs.Common.{◌≡◌, false, inl, inr, sym, ap, ◌∙◌, slice_set}
use Rattle.njh_spool.specs.CustomerSpool.{WholeFile}
use Rattle.njh_spool.specs.Spools.{spool_at}
use Rattle.njh_command.specs.code.Changes.{change_by}
use Rattle.njh_command.specs.Commands.{is_of_name, may_change, is_sending}
use Rattle.njh_command.specs.Files.{file_at, with_file}
use Rattle.njh_command.proofs.WalkLaws.{unmoved, same_file, unchanged, as_other, as_busy}
use Rattle.njh_command.proofs.changing.change_at.Goals as goal

pub returns-in-Other : goal.returns-in-Other
returns-in-Other c =
    let s = spool_at c.args.choice.now.customer c.args.spool.now in
    let f : WholeFile = file_at c.args.index s in
    let p = is_of_name c.args.choice.now.who c.args.choice.now.name in
    let idle : may_change p f ≡ false = elim c.in-Other.is [
      | inl other ↦ (as_other (p f) (is_sending f.state) (sym c.judge-standing.ensures ∙ other)).0
      | inr busy ↦ (as_busy (p f) (is_sending f.state) (sym c.judge-standing.ensures ∙ busy)).0
    ] in
    record {
      standing = c.judge-standing.ensures;
      spool =
          unmoved c.args.spool.now c.args.choice.now.customer
          ∙ ap (slice_set c.args.spool.now c.args.choice.now.customer)
          (same_file s c.args.index ∙ ap (λ (x : WholeFile). with_file c.args.index x s)
          (unchanged p (change_by c.args.change.now) f
          idle));
    }
