-- What the headers of a whole file say: each of them reads, so the file has a name, an owner and a destination.
use Rattle.std.specs.Prelude.{◌≡◌, List, Some}
use Rattle.njh_ebcdic.specs.Users.{User}
use Rattle.njh_record.specs.Stored.{Stored}
use Rattle.njh_record.specs.declared.Kind.{Kind}
use Rattle.njh_header.specs.FileHeaders.{name_of, file_owner, destination_of}
use Rattle.njh_header.specs.FileNames.{FileName}

pub record HasHeaders (kind : Kind) (records : List Stored) : Type 0 where
  pub name : FileName
  pub owner : User
  pub destination : User
  pub named : name_of records ≡ Some name
  pub owned : file_owner records ≡ Some owner
  pub goes : destination_of kind records ≡ Some destination
