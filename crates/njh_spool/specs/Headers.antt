-- What the headers of a file say of it, and how far into the file they reach.
use Rattle.std.specs.Prelude.{ℕ, suc, Bool, true, false, List, [], ◌∷◌, length, Option, None, ◌==◌, ◌||◌}
use Rattle.std.specs.Option.{option_map}
use Rattle.njh_ebcdic.specs.Users.{User}
use Rattle.njh_record.specs.Stored.{Stored}
use Rattle.njh_record.specs.declared.Kind.{Kind}
use Rattle.njh_record.specs.declared.Kind.TheVariants.{In, Out}
use Rattle.njh_header.specs.Headers.{JobHeader, job_name}
use Rattle.njh_header.specs.FileHeaders.{name_of, file_owner, destination_of}
use Rattle.njh_spool.specs.declared.file_headers.FileHeaders.{FileHeaders}
use Rattle.njh_spool.specs.declared.file_headers.KeptHeaders.{KeptHeaders}
use Rattle.njh_spool.specs.declared.file_headers.FileSummary.{FileSummary}
use Rattle.njh_spool.specs.CustomerSpool.{WholeFile}

-- a job header or a data set header, or a continuation of one
abbrev pub is_header_srcb : ℕ → Bool
is_header_srcb srcb = (srcb == 0xc0) || (srcb == 0xe0)

abbrev pub is_header : Stored → Bool
is_header r = is_header_srcb r.srcb

abbrev pub headers_of : Kind → List Stored → FileHeaders
headers_of kind records =
    record { name = name_of records; owner = file_owner records; destination = destination_of kind records }

-- the records up to the first that is no job header or continuation of one, that one too
abbrev pub reach_of : List Stored → ℕ
reach_of [] = 0
reach_of (r ∷ rs) = elim (r.srcb == 0xc0) [ true ↦ suc (reach_of rs) | false ↦ 1 ]

-- how many records from the first on say it: a job's first, and those of an output file up to its first data set header
abbrev pub header_count : Kind → List Stored → ℕ
header_count In records = 1
header_count Out records = reach_of records

-- what the slot of a whole file keeps
abbrev pub kept_headers : Kind → List Stored → KeptHeaders
kept_headers kind records = record { said = headers_of kind records; count = header_count kind records }

-- by the job header, and where the file goes
abbrev pub by_headers : Option JobHeader → Option User → FileHeaders
by_headers job destination =
    record {
      name = option_map job_name job;
      owner = option_map (λ h. h.origin) job;
      destination = destination;
    }

-- what the slot of another file has there
abbrev pub no_headers : KeptHeaders
no_headers = record { said = record { name = None; owner = None; destination = None }; count = 0 }

-- what is known of a whole file without its records
abbrev pub summary : WholeFile → FileSummary
summary f = record {
  id = f.number;
  kind = f.kind;
  state = f.state;
  records = length f.records;
  headers = headers_of f.kind f.records;
}
