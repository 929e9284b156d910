use Rattle.std.proofs.lemmas.List.{take_rest}
use Rattle.njh_block.proofs.Unspelling.{record_of_spelling-unspells, record_of_spelling-left}
use Rattle.njh_block.proofs.front_record.read_spelled.Goals as goal

pub returns-in-Ok-default-Record-clause-first : goal.returns-in-Ok-default-Record-clause-first
returns-in-Ok-default-Record-clause-first c =
    let m = c.in-Ok-default-Record in
    rw (
      take_rest,
      record_of_spelling-unspells c.args.rcb.byte c.args.srcb _ _ _
          c.unspell.ensures,
      m.is,
      m.field-0-1-is,
    )

pub returns-in-Ok-default-Record-clause-contents : goal.returns-in-Ok-default-Record-clause-contents
returns-in-Ok-default-Record-clause-contents c =
    record_of_spelling-left c.args.rcb.byte c.args.srcb _ _ _
    c.unspell.ensures

pub returns-in-Ok-default-Abort-clause-first : goal.returns-in-Ok-default-Abort-clause-first
returns-in-Ok-default-Abort-clause-first c =
    let m = c.in-Ok-default-Abort in
    rw (
      take_rest,
      record_of_spelling-unspells c.args.rcb.byte c.args.srcb _ _ _
          c.unspell.ensures,
      m.is,
      m.field-0-1-is,
    )

pub returns-in-Ok-default-Abort-clause-contents : goal.returns-in-Ok-default-Abort-clause-contents
returns-in-Ok-default-Abort-clause-contents c =
    record_of_spelling-left c.args.rcb.byte c.args.srcb _ _ _
    c.unspell.ensures

pub returns-in-Err-TooLong-clause-first : goal.returns-in-Err-TooLong-clause-first
returns-in-Err-TooLong-clause-first c =
    let m = c.in-Err-TooLong in
    rw (
      take_rest,
      record_of_spelling-unspells c.args.rcb.byte c.args.srcb _ _ _
          c.unspell.ensures,
      m.is,
      m.field-0-is,
    )

pub returns-in-Err-TooLong-clause-contents : goal.returns-in-Err-TooLong-clause-contents
returns-in-Err-TooLong-clause-contents c =
    record_of_spelling-left c.args.rcb.byte c.args.srcb _ _ _
    c.unspell.ensures

pub returns-in-Err-BadScb-clause-first : goal.returns-in-Err-BadScb-clause-first
returns-in-Err-BadScb-clause-first c =
    let m = c.in-Err-BadScb in
    rw (
      record_of_spelling-unspells c.args.rcb.byte c.args.srcb _ _ _
          c.unspell.ensures,
      m.is,
      m.field-0-is,
    )

pub returns-in-Err-BadScb-clause-contents : goal.returns-in-Err-BadScb-clause-contents
returns-in-Err-BadScb-clause-contents c =
    record_of_spelling-left c.args.rcb.byte c.args.srcb _ _ _
    c.unspell.ensures

pub returns-in-Err-Truncated-clause-first : goal.returns-in-Err-Truncated-clause-first
returns-in-Err-Truncated-clause-first c =
    let m = c.in-Err-Truncated in
    rw (
      record_of_spelling-unspells c.args.rcb.byte c.args.srcb _ _ _
          c.unspell.ensures,
      m.is,
      m.field-0-is,
    )

pub returns-in-Err-Truncated-clause-contents : goal.returns-in-Err-Truncated-clause-contents
returns-in-Err-Truncated-clause-contents c =
    record_of_spelling-left c.args.rcb.byte c.args.srcb _ _ _
    c.unspell.ensures
