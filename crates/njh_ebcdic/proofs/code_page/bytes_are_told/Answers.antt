use Rattle.njh_ebcdic.proofs.PageLaws.{page-back}
use Rattle.njh_ebcdic.proofs.code_page.bytes_are_told.Goals as goal

pub returns-clause-back : goal.returns-clause-back
returns-clause-back c = page-back
