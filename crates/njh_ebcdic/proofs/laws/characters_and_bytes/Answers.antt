use Rattle.njh_ebcdic.proofs.TableLaws.{byte_of_character-character, character_of-byte, byte_of_character-plain}
use Rattle.njh_ebcdic.proofs.laws.characters_and_bytes.Goals as goal

pub returns-clause-both_ways : goal.returns-clause-both_ways
returns-clause-both_ways c = λ byte character.
    (byte_of_character-character byte character, character_of-byte byte character)

pub returns-clause-plain : goal.returns-clause-plain
returns-clause-plain c = byte_of_character-plain
