-- What is known of a customer's whole files.
use Rattle.std.specs.Prelude.{All, List}
use Rattle.njh_header.specs.WholeFiles.{HasHeaders}
use Rattle.njh_spool.specs.CustomerSpool.{WholeFile}

-- each has headers that read: a name, an owner and a destination
abbrev pub HaveHeaders : List WholeFile → Type 0
HaveHeaders files = All (λ f. HasHeaders f.kind f.records) files
