-- What follows a record, if the record itself isn't wanted.
use Rattle.std.specs.Prelude.{ℕ, List, Option, Some, None, Result, Ok, Err}
use Rattle.std.specs.Borrow.{Bor}
use Rattle.njh_block.specs.declared.fault.BlockFault.{BlockFault}
use Rattle.njh_block.specs.Blocks.{First}

abbrev pub rest_behind : Result (Option First) BlockFault → Result (Option (List ℕ)) BlockFault
rest_behind (Ok None) = Ok None
rest_behind (Ok (Some x)) = Ok (Some x.rest)
rest_behind (Err e) = Err e

abbrev pub rest_shown : Result (Option (Bor (List ℕ))) BlockFault → Result (Option (List ℕ)) BlockFault
rest_shown (Ok None) = Ok None
rest_shown (Ok (Some rest)) = Ok (Some rest.now)
rest_shown (Err e) = Err e
