use Rattle.std.proofs.Common.{Result, subst, sym}
use Rattle.njh_encode.specs.declared.fault.Reason.{Reason}
use Rattle.njh_encode.specs.Encoded.{IsAppended, Outcome}
use Rattle.njh_encode.proofs.LineLaws.{short_outcome}
use Rattle.njh_encode.proofs.reading.take_short.Goals as goal

pub returns : goal.returns
returns g c =
    let texts = c.take_bytes.ensures.0 in (
      texts,
      c.take_bytes.ensures.1,
      subst
          (λ (o : Result Outcome Reason). IsAppended c.take_bytes.result o c.args.encoder.now c.take_bytes.new.encoder
          c.args.script.now.items c.take_bytes.new.script.items)
          (sym (short_outcome texts c.args.encoder.now c.args.line.now c.requires)) c.take_bytes.ensures.2,
    )
