use Rattle.njh_record.proofs.Measured.{others_are, same_before}
use Rattle.njh_record.proofs.writing.same_len.Goals as goal

pub returns-else-other-eq0 : goal.returns-else-other-eq0
returns-else-other-eq0 c =
    let bytes = c.args.bytes.now in
    same_before bytes c.args.first c.requires _ (others_are bytes c.args.first c.requires) c.if-other-eq0.false
