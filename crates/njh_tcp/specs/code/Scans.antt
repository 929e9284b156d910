-- The rest that a scanner is at.
use Rattle.njh_tcp.specs.Reading.{Rest}
use Rattle.njh_tcp.specs.code.Scanner.{rest_at}
use Rattle.njh_tcp.specs.declared.scanner.Scanner.{Scanner}

abbrev pub rest_in : Scanner → Rest
rest_in scanner = rest_at scanner.place scanner.contact scanner.head.items scanner.held.items
