-- What a row says of its file to a person who reads the spool file.
use Rattle.std.specs.Prelude.{◌≡◌, ℕ, Bool, List}
use Rattle.njh_ebcdic.specs.Characters.{shown_text}
use Rattle.njh_ebcdic.specs.Names.{without_end_blanks}
use Rattle.njh_hub.specs.declared.file_summary.FileSummaryView.{FileSummaryView}
use Rattle.njh_spoolfile.specs.Kept.{File}
use Rattle.njh_spoolfile.specs.Sent.{with_mark}

-- a field's characters, without the blanks at the end
abbrev pub field_text : List ℕ → List ℕ
field_text field = shown_text (without_end_blanks field)

-- The job's name and number, the owner's and the destination's node and user, how many records and blocks the file has,
-- and when it came: of this job, as the hub shows the file, and at this time. The node that it was sent to has a mark.
pub record IsShown (sent : Bool) (job : List ℕ) (file : FileSummaryView) (came : ℕ) (row : File) : Type 0 where
  pub job_name : row.job ≡ field_text job
  pub number : row.number ≡ file.name.number
  pub owner_node : row.owner_node ≡ field_text file.owner.node
  pub owner_user : row.owner_user ≡ field_text file.owner.user
  pub to_node : row.to_node ≡ with_mark sent (field_text file.destination.node)
  pub to_user : row.to_user ≡ field_text file.destination.user
  pub records : row.records ≡ file.records
  pub blocks : row.blocks ≡ file.blocks
  pub came_at : row.came ≡ came
