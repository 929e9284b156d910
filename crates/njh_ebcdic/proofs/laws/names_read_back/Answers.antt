use Rattle.njh_ebcdic.proofs.ReadBack.{name_of_word-trimmed, name_of_text-shown_text}
use Rattle.njh_ebcdic.proofs.laws.names_read_back.Goals as goal

pub returns-clause-word : goal.returns-clause-word
returns-clause-word c = name_of_word-trimmed

pub returns-clause-text : goal.returns-clause-text
returns-clause-text c = name_of_text-shown_text
