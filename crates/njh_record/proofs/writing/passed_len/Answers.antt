use Rattle.std.proofs.Common.{drop, arith, refl}
use Rattle.njh_record.specs.code.Written.{NoRunBefore}
use Rattle.njh_record.proofs.Runs.{NoRunBefore-apart, NoRunBefore-more, NoRunBefore-then}
use Rattle.njh_record.proofs.writing.passed_len.Goals as goal

pub returns-then-rest-gt-GROUP-clause-passed : goal.returns-then-rest-gt-GROUP-clause-passed
returns-then-rest-gt-GROUP-clause-passed c =
    let bytes = c.args.bytes.now in
    let n = c.apart_len.result in
    let one : NoRunBefore bytes 1 = NoRunBefore-more bytes 0 c.requires.some c.requires.first refl in
    let behind : NoRunBefore (drop 1 bytes) n =
    rw (← c.split_at.ensures.back) (NoRunBefore-apart _ n (omega (arith, c.apart_len.ensures.within))
    c.apart_len.ensures.apart) in
    NoRunBefore-then bytes 1 n one behind

pub returns-else-rest-gt-GROUP-clause-passed : goal.returns-else-rest-gt-GROUP-clause-passed
returns-else-rest-gt-GROUP-clause-passed c = NoRunBefore-more c.args.bytes.now 0 c.requires.some c.requires.first refl
