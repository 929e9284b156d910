use Rattle.std.proofs.Common.{◌≡◌, ◌∙◌, ℕ, Some, true, ap, sym, arith}
use Rattle.std.proofs.lemmas.Bool.Decides.{nat_tests}
use Rattle.njh_ebcdic.specs.Characters.{is_plain}
use Rattle.njh_ebcdic.proofs.TableLaws.{byte_of_character-plain}
use Rattle.njh_ebcdic.proofs.characters.byte_of.Goals as goal
use Rattle.njh_ebcdic.proofs.characters.byte_of.Goals.{then-character-lt58}
use Rattle.njh_ebcdic.proofs.characters.byte_of.Goals.{else-character-lt58+else-character-lt65+then-character-lt91}

pub returns-in-A-to-Z : goal.returns-in-A-to-Z
returns-in-A-to-Z c =
    let plain : is_plain c.args.character ≡ true =
    elim c.in-A-to-Z-1.branch [
      | then-character-lt58 w ↦ grind (arith, nat_tests)
      | else-character-lt58+else-character-lt65+then-character-lt91 w ↦ grind (arith, nat_tests)
    ] in
    ap (λ (byte : ℕ). Some byte) c.plain_byte.ensures ∙ sym (byte_of_character-plain c.args.character plain)
