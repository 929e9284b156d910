-- What is known of the headers of a file that comes in: each that has come reads.
use Rattle.std.specs.Prelude.{◌≡◌, ◌⊎◌, true, List, [], ◌∷◌, Some}
use Rattle.std.specs.List.{list_all}
use Rattle.njh_record.specs.Stored.{Stored, has_srcb}
use Rattle.njh_record.specs.declared.Kind.{Kind}
use Rattle.njh_record.specs.declared.Kind.TheVariants.{In, Out}
use Rattle.njh_header.specs.Headers.{JobHeader, DataSetHeader}
use Rattle.njh_header.specs.FileHeaders.{data_set_header_of, job_header_of}

abbrev pub JobReads : List Stored → Type 0
JobReads records = (h : JobHeader) × (job_header_of records ≡ Some h)

abbrev pub DataSetReads : List Stored → Type 0
DataSetReads records = (h : DataSetHeader) × (data_set_header_of records ≡ Some h)

-- of an output file the data set header reads, or nothing came but its job header and continuations of that
abbrev pub DestinationReads : Kind → List Stored → Type 0
DestinationReads In records = Unit {0}
DestinationReads Out records = (list_all (has_srcb 0xc0) records ≡ true) ⊎ DataSetReads records

abbrev pub ReadsSoFar : Kind → List Stored → Type 0
ReadsSoFar kind [] = Unit {0}
ReadsSoFar kind (r ∷ rs) = JobReads (r ∷ rs) × DestinationReads kind (r ∷ rs)
