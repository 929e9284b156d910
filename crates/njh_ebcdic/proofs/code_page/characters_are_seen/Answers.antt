use Rattle.njh_ebcdic.proofs.PageLaws.{seen-page}
use Rattle.njh_ebcdic.proofs.code_page.characters_are_seen.Goals as goal

pub returns : goal.returns
returns c = seen-page
