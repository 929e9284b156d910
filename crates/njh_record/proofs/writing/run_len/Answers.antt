use Rattle.std.proofs.Common.{ℕ, List, eqb, take, ap, ◌∙◌, arith}
use Rattle.std.specs.List.{prefix_len}
use Rattle.njh_record.specs.Writing.{first_byte_of}
use Rattle.njh_record.proofs.Measured.{run-long}
use Rattle.njh_record.proofs.writing.run_len.Goals as goal

pub returns : goal.returns
returns c =
    let bytes = c.args.bytes.now in
    let rest = c.front_len-2.ensures ∙ ap (λ (text : List ℕ). prefix_len (λ b. eqb b (first_byte_of bytes))
    (take 15 text)) c.split_at.ensures.back in
    run-long bytes (first_byte_of bytes) (omega (arith, c.if-bytes-lt-GROUP.false)) _ _ c.same_len-len.ensures
    (omega (arith, c.if-len-lt-GROUP.false)) rest
