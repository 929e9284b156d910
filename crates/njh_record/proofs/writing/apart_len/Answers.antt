use Rattle.njh_record.proofs.Pairs.{apart_all, apart_some, mask_is}
use Rattle.njh_record.proofs.writing.apart_len.Goals as goal

pub returns-then-equal-eq0-clause-apart : goal.returns-then-equal-eq0-clause-apart
returns-then-equal-eq0-clause-apart c =
    let bytes = c.args.bytes.now in
    apart_all bytes c.requires _ (mask_is bytes c.requires) c.if-equal-eq0.true

pub returns-else-equal-eq0-clause-within : goal.returns-else-equal-eq0-clause-within
returns-else-equal-eq0-clause-within c =
    let bytes = c.args.bytes.now in
    (apart_some bytes c.requires _ (mask_is bytes c.requires) c.if-equal-eq0.false).0

pub returns-else-equal-eq0-clause-apart : goal.returns-else-equal-eq0-clause-apart
returns-else-equal-eq0-clause-apart c =
    let bytes = c.args.bytes.now in
    (apart_some bytes c.requires _ (mask_is bytes c.requires) c.if-equal-eq0.false).1
