-- A customer's whole files, as it is shown them.
use Rattle.std.specs.Prelude.{ℕ, List, [], length, map, Some, unwrap_or}
use Rattle.njh_ebcdic.specs.Users.{User}
use Rattle.njh_header.specs.FileNames.{FileName}
use Rattle.njh_record.specs.Stored.{Stored}
use Rattle.njh_record.specs.declared.Kind.{Kind}
use Rattle.njh_header.specs.FileHeaders.{name_of, file_owner, destination_of}
use Rattle.njh_spool.specs.CustomerSpool.{CustomerSpool, WholeFile}
use Rattle.njh_spool.specs.declared.State.{State}
use Rattle.njh_texts.specs.Texts.{file_text}
use Rattle.njh_hub.specs.WholeHub.{Part, part}

-- A whole file's name, owner and destination, as its headers say. The headers of every whole file of a hub read
-- (`headers` of `Hub::files` and `Hub::summary_at`), so nothing is ever shown in place of one that doesn't.
abbrev pub said_name : List Stored → FileName
said_name records = unwrap_or (name_of records) (record { node = []; number = 0 })

abbrev pub said_owner : List Stored → User
said_owner records = unwrap_or (file_owner records) (record { node = []; user = [] })

abbrev pub said_destination : Kind → List Stored → User
said_destination kind records = unwrap_or (destination_of kind records) (record { node = []; user = [] })

pub record FileView : Type 0 where
  pub name : FileName  -- origin node and job number
  pub owner : User  -- origin node and user
  pub kind : Kind
  pub destination : User  -- node and user
  pub state : State
  pub records : List Stored

abbrev pub view_of_file : WholeFile → FileView
view_of_file f = record {
  name = said_name f.records;
  owner = said_owner f.records;
  kind = f.kind;
  destination = said_destination f.kind f.records;
  state = f.state;
  records = f.records;
}

-- all of a customer's, in order of arrival
abbrev pub files_of : CustomerSpool → List FileView
files_of s = map view_of_file s.whole

-- those of customer c of a hub
abbrev pub files_at : ℕ → List Part → List FileView
files_at c parts = files_of (part c parts).customer.spool

-- what NJH001 says of a file, behind its number
abbrev pub printed_file_line : FileView → List ℕ
printed_file_line file =
    file_text (Some file.name) (Some file.destination) file.kind (length file.records) file.state
