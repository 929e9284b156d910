use Rattle.std.proofs.Common.{◌≡◌, length, arith, sym}
use Rattle.std.proofs.lemmas.Bool.{eqb-true}
use Rattle.njh_log.proofs.LineLaws.{is_shorter}
use Rattle.njh_log.proofs.line_text.LineText.make_room.Goals as goal

pub returns : goal.returns
returns c =
    let full : length c.self.inside.text.bytes ≡ 512 = eqb-true _ _ (sym c.if-not-is_full.ensures.value) in
    omega (
      arith,
      full,
      is_shorter c.self.inside.text.bytes c.pop.new.self.bytes c.pop.result c.pop.ensures.variant
          c.pop.ensures.bytes (omega (arith, full)),
    )
