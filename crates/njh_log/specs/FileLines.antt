-- What is told of a file.
use Rattle.njh_hub.specs.declared.file_summary.FileSummaryView.{FileSummaryView}
use Rattle.njh_log.specs.declared.file_line.FileLine.{FileLine}

-- what is shown of it, its kind and what it waits for aside
abbrev pub line_of : FileSummaryView → FileLine
line_of file = record {
  name = file.name;
  owner = file.owner;
  destination = file.destination;
  records = file.records;
  blocks = file.blocks;
}
