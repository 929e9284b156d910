-- What a command does to the sender's files, and what it is answered: filters and maps over the files in order of
-- arrival.
use Rattle.std.specs.Prelude.{ℕ, ◌+◌, Bool, true, false, List, [], ◌∷◌, ◌++◌, length, take, map, filter, Option, Some}
use Rattle.std.specs.Prelude.{None, ◌==◌, cond, not, ◌&&◌, bytes_eq}
use Rattle.njh_ebcdic.specs.Users.{User}
use Rattle.njh_header.specs.FileNames.{FileName}
use Rattle.njh_spool.specs.declared.State.{State}
use Rattle.njh_spool.specs.declared.State.TheVariants.{Ready, Held, Refused, Sending}
use Rattle.njh_spool.specs.CustomerSpool.{CustomerSpool, WholeFile}
use Rattle.njh_header.specs.FileHeaders.{file_owner, name_of, with_destination}
use Rattle.njh_texts.specs.Texts.{node_unknown, no_files_for}
use Rattle.njh_table.specs.Entries.{CustomerEntry, route_of}
use Rattle.njh_table.specs.declared.Route.{Route}
use Rattle.njh_table.specs.declared.Route.TheVariants.{Here, Line, Unknown}
use Rattle.njh_stream.specs.declared.sender.Sender.{Sender}
use Rattle.njh_stream.specs.Sending.{file_in, after_abort}
use Rattle.njh_command.specs.declared.command.Command.{Command}
use Rattle.njh_command.specs.declared.command.Command.TheVariants as commands
use Rattle.njh_command.specs.Words.{command_of}
use Rattle.njh_texts.specs.Texts.{file_line, files_line, held_text, released_text, cancelled_text, rerouted_to}
use Rattle.njh_texts.specs.Texts.{not_found, bad_command, being_sent_text}

-- What is answered, which whole files are left, and the numbers of the files that were removed while they were being
-- sent, in order of arrival.
pub record CommandOutcome : Type 0 where
  pub replies : List (List ℕ)
  pub files : List WholeFile
  pub cancelled : List ℕ

-- The spool with the files that are left. No command touches anything else in it.
abbrev pub spool_after : CommandOutcome → CustomerSpool → CustomerSpool
spool_after done s = record s { whole = done.files }

-- no file is touched
abbrev pub answers : List (List ℕ) → CustomerSpool → CommandOutcome
answers replies s = record { replies = replies; files = s.whole; cancelled = [] }

-- ---- which files

abbrev pub is_owner : User → Option User → Bool
is_owner who None = false
is_owner who (Some owner) = bytes_eq who.node owner.node && bytes_eq who.user owner.user

abbrev pub is_called : FileName → Option FileName → Bool
is_called name None = false
is_called name (Some other) = bytes_eq name.node other.node && (name.number == other.number)

-- a file of the sender's own
abbrev pub is_owned : User → WholeFile → Bool
is_owned who f = is_owner who (file_owner f.records)

-- one of this name
abbrev pub is_of_name : User → FileName → WholeFile → Bool
is_of_name who name f = is_owned who f && is_called name (name_of f.records)

abbrev pub is_sending : State → Bool
is_sending Sending = true
is_sending Ready = false
is_sending Held = false
is_sending Refused = false

-- of the files that pass, those that aren't being sent, and those that are
abbrev pub may_change : (WholeFile → Bool) → WholeFile → Bool
may_change p f = p f && not (is_sending f.state)

abbrev pub is_busy : (WholeFile → Bool) → WholeFile → Bool
is_busy p f = p f && is_sending f.state

abbrev pub count : (WholeFile → Bool) → CustomerSpool → ℕ
count p s = length (filter p s.whole)

-- ---- LIST

-- the first 64 replies are kept
abbrev pub first_replies : List (List ℕ) → List (List ℕ)
first_replies replies = take 64 replies

abbrev pub listing : User → CustomerSpool → List (List ℕ)
listing who s = map file_line (filter (is_owned who) s.whole) ++ files_line (count (is_owned who) s) ∷ []

-- ---- HOLD, RELEASE and REROUTE

-- where there is no file of the name, that is all that is said
abbrev pub where_found : ℕ → FileName → List (List ℕ) → List (List ℕ)
where_found n name replies = cond (n == 0) (not_found name ∷ []) replies

-- so many files, where there are some
abbrev pub if_some : ℕ → List ℕ → List (List ℕ)
if_some n text = cond (n == 0) [] (text ∷ [])

abbrev pub change_replies : (ℕ → List ℕ) → FileName → ℕ → ℕ → List (List ℕ)
change_replies text name idle busy =
    where_found (idle + busy) name (if_some idle (text idle) ++ if_some busy (being_sent_text name))

abbrev pub changed_file : (WholeFile → Bool) → (WholeFile → WholeFile) → WholeFile → WholeFile
changed_file p change f = cond (may_change p f) (change f) f

abbrev pub with_changes : (WholeFile → Bool) → (WholeFile → WholeFile) → CustomerSpool → CustomerSpool
with_changes p change s = record s { whole = map (changed_file p change) s.whole }

-- the files that aren't being sent change, and the others are left
abbrev pub changing : (ℕ → List ℕ) → (WholeFile → WholeFile) → (WholeFile → Bool) → FileName → CustomerSpool
    → CommandOutcome
changing text change p name s = record {
  replies = change_replies text name (count (may_change p) s) (count (is_busy p) s);
  files = map (changed_file p change) s.whole;
  cancelled = [];
}

abbrev pub file_in_state : State → WholeFile → WholeFile
file_in_state state f = record f { state = state }

abbrev pub state_after_reroute : State → State
state_after_reroute Refused = Ready
state_after_reroute Ready = Ready
state_after_reroute Held = Held
state_after_reroute Sending = Sending

abbrev pub with_new_destination : List ℕ → WholeFile → WholeFile
with_new_destination node f =
    record f { records = with_destination f.kind node f.records; state = state_after_reroute f.state }

-- by where the new node is
abbrev pub rerouting : Route → CustomerEntry → List ℕ → (WholeFile → Bool) → FileName → CustomerSpool → CommandOutcome
rerouting Here entry node p name s = answers (where_found (count p s) name (no_files_for entry.hub ∷ [])) s
rerouting (Line l) entry node p name s = changing (rerouted_to name node) (with_new_destination node) p name s
rerouting Unknown entry node p name s = answers (where_found (count p s) name (node_unknown node ∷ [])) s

abbrev pub rerouted_by : CustomerEntry → List ℕ → User → FileName → CustomerSpool → CommandOutcome
rerouted_by entry node who name s = rerouting (route_of entry node) entry node (is_of_name who name) name s

-- ---- CANCEL

abbrev pub cancelling : (WholeFile → Bool) → FileName → CustomerSpool → CommandOutcome
cancelling p name s = record {
  replies = where_found (count p s) name (cancelled_text name (count p s) ∷ []);
  files = filter (λ f. not (p f)) s.whole;
  cancelled = map (λ f. f.number) (filter (is_busy p) s.whole);
}

-- ---- all

-- What a command of a user does.
abbrev pub command_outcome : CustomerEntry → User → Command → CustomerSpool → CommandOutcome
command_outcome entry who commands.List s = answers (first_replies (listing who s)) s
command_outcome entry who (commands.Hold name) s =
    changing (held_text name) (file_in_state Held) (is_of_name who name) name s
command_outcome entry who (commands.Release name) s =
    changing (released_text name) (file_in_state Ready) (is_of_name who name) name s
command_outcome entry who (commands.Cancel name) s = cancelling (is_of_name who name) name s
command_outcome entry who (commands.Reroute name node) s = rerouted_by entry node who name s

abbrev pub obeyed_where : Option Command → CustomerEntry → User → CustomerSpool → CommandOutcome
obeyed_where None entry who s = answers (bad_command ∷ []) s
obeyed_where (Some command) entry who s = command_outcome entry who command s

-- What a message of a user to the hub does.
abbrev pub message_outcome : CustomerEntry → User → List ℕ → CustomerSpool → CommandOutcome
message_outcome entry who message s = obeyed_where (command_of message) entry who s

-- ---- the streams

abbrev pub aborted_where : Bool → Sender → Sender
aborted_where true sender = after_abort sender
aborted_where false sender = sender

abbrev pub is_about : ℕ → Option ℕ → Bool
is_about number None = false
is_about number (Some n) = n == number

-- a stream that is about the file of a number gives it up
abbrev pub without_file : ℕ → Sender → Sender
without_file number sender = aborted_where (is_about number (file_in sender)) sender
