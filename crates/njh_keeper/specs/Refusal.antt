-- A whole file that isn't put back when a hub is opened from a spool file, as a keeper knows it.
use Rattle.std.specs.Prelude.{ℕ}
use Rattle.njh_spoolfile.specs.Kept.{File, file_of}
use Rattle.njh_keeper.specs.declared.fault.FileFault.{FileFault}
use Rattle.njh_keeper.specs.declared.fault.RefusedFile.{RefusedFile}

-- where it stands in the order of arrival, its headers, and why it isn't put back
pub record Refusal : Type 0 where
  pub id : ℕ
  pub file : File
  pub fault : FileFault

abbrev pub refusal_of : RefusedFile → Refusal
refusal_of r = record { id = r.file.id; file = file_of r.file.file; fault = r.fault }
