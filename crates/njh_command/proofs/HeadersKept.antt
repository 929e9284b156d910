-- Whole files with headers that read have them whatever a user says.
use Rattle.std.proofs.Common.{ℕ, Bool, true, false, cond, not, List, map, filter}
use Rattle.std.proofs.lemmas.List.Elements.{All-filter, All-map, All-same, All-weaker}
use Rattle.njh_ebcdic.specs.Users.{User}
use Rattle.njh_header.specs.WholeFiles.{HasHeaders}
use Rattle.njh_spool.specs.CustomerSpool.{WholeFile}
use Rattle.njh_spool.specs.declared.State.TheVariants.{Ready, Held}
use Rattle.njh_stream.specs.WholeFiles.{HaveHeaders}
use Rattle.njh_table.specs.Entries.{CustomerEntry}
use Rattle.njh_command.specs.Commands.{CommandOutcome, changed_file, file_in_state, is_of_name, may_change}
use Rattle.njh_command.specs.Commands.{message_outcome}
use Rattle.njh_command.specs.Commands.{with_new_destination}
use Rattle.njh_command.specs.CommandLaws.{FilesMove, CommandsKeepHeaders, stay, held, released}
use Rattle.njh_command.specs.CommandLaws.{rerouted, cancelled}
use Rattle.njh_command.proofs.CommandMoves.{files_move}
use Rattle.njh_command.proofs.RerouteNodes.{nodes_are_names}
use Rattle.njh_header.proofs.Destinations.{still_has_headers}

abbrev Reads : WholeFile → Type 0
Reads f = HasHeaders f.kind f.records

-- a change that leaves each file's headers readable
changed_headers : (p : WholeFile → Bool) (change : WholeFile → WholeFile) (files : List WholeFile)
    → ((f : WholeFile) → Reads f → Reads (change f)) → HaveHeaders files
    → HaveHeaders (map (changed_file p change) files)
changed_headers p change files kept have =
    All-map Reads (changed_file p change) files (All-weaker Reads (λ f. Reads (changed_file p change f)) one files have)
  where
    where_tested : (b : Bool) (f : WholeFile) → Reads f → Reads (cond b (change f) f)
    where_tested true f reads = kept f reads
    where_tested false f reads = reads

    one : (f : WholeFile) → Reads f → Reads (changed_file p change f)
    one f reads = where_tested (may_change p f) f reads

moved_headers : (entry : CustomerEntry) (who : User) (message : List ℕ) (files : List WholeFile)
    (done : CommandOutcome)
    → FilesMove entry who message files done → HaveHeaders files → HaveHeaders done.files
moved_headers entry who message files done (stay same none) have = All-same Reads done.files files same have
moved_headers entry who message files done (held name said same none) have =
    All-same Reads done.files (map (changed_file (is_of_name who name) (file_in_state Held)) files) same
    (changed_headers (is_of_name who name) (file_in_state Held) files (λ f reads. reads) have)
moved_headers entry who message files done (released name said same none) have =
    All-same Reads done.files (map (changed_file (is_of_name who name) (file_in_state Ready)) files) same
    (changed_headers (is_of_name who name) (file_in_state Ready) files (λ f reads. reads) have)
moved_headers entry who message files done (rerouted name node line said routed same none) have =
    All-same Reads done.files (map (changed_file (is_of_name who name) (with_new_destination node)) files) same
    (changed_headers (is_of_name who name) (with_new_destination node) files
    (λ f reads. still_has_headers f.kind node f.records (nodes_are_names message name node said) reads) have)
moved_headers entry who message files done (cancelled name said same gone) have =
    All-same Reads done.files (filter (λ f. not (is_of_name who name f)) files) same
    (All-filter (λ f. not (is_of_name who name f)) Reads files have)

pub headers_kept : CommandsKeepHeaders
headers_kept entry who message s have =
    moved_headers entry who message s.whole (message_outcome entry who message s) (files_move entry who message s)
    have
