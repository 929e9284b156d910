use Rattle.std.proofs.Common.{◌≡◌, ◌+◌, ◌==◌, false, take, length, ap, arith}
use Rattle.std.specs.List.{AllWithin}
use Rattle.std.proofs.lemmas.List.{length-take-le}
use Rattle.njh_bisync.specs.code.PlainBytes.{plain_len}
use Rattle.njh_bisync.proofs.PlainLaws.{plain_len-group}
use Rattle.njh_bisync.proofs.plain.plain_len.Goals as goal

pub loop-group-preserved : goal.loop-group-preserved
loop-group-preserved c =
    let rest = c.loop-group.rest.now in
    let cut = c.in-Some.ensures.cases in
    let size = length-take-le 32 rest (omega arith) in
    let none : AllWithin (λ byte. (byte == 0x10) ≡ false) (take 32 rest) 0 32 = λ k d low high.
    rw (← cut.0) (c.if-contains.ensures.cases k d low (omega (arith, ap length cut.0))) in
    let passed : plain_len rest ≡ 32 + plain_len c.in-Some.after.now =
    rw cut.1 (plain_len-group 32 rest (omega arith) none) in
    let left : length c.in-Some.after.now + 32 ≡ length rest = cut.2 in
    record { within = omega arith; plain = omega (arith, passed, left, c.loop-group.invariant.plain) }
