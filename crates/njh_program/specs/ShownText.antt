-- Words that ask for nothing to be done: a text that they ask for is printed, or they are refused.
use Rattle.std.specs.Prelude.{◌≡◌, ◌<◌, ℕ, true, false, List, Option, length, ⊤}
use Rattle.std.specs.Io.KnownBytes.{Appends}
use Rattle.clap.specs.Words.{IsAmong, Text, fault_of, kind_of}
use Rattle.clap.specs.declared.error.Error.{Error}
use Rattle.clap.specs.declared.error.kind.ErrorKind.{ErrorKind}
use Rattle.njh_arguments.specs.Arguments.{AreRefusedBy, program_app}
use Rattle.njh_arguments.specs.Shown.{is_shown}
use Rattle.njh_io.specs.Written.{AppendsBeginning}
use Rattle.njh_subcommands.specs.declared.failure.Failure.{Failure}
use Rattle.njh_subcommands.specs.declared.failure.Failure.TheVariants.{Arguments}
use Rattle.njh_subcommands.specs.declared.failure.Failure.TheVariants as failure

-- they ask for a text, as clap reads them: for the version, or for help
abbrev pub AskForText : (arguments : List Text) → Type 0
AskForText arguments =
    (kind : ErrorKind) × IsAmong kind (fault_of program_app arguments) × (is_shown arguments kind ≡ true)

-- A text came after what had been written, or a beginning of one did. It isn't empty, and no clause says more of it,
-- since none says what clap writes.
abbrev pub IsTextPrinted : (old new : Option (List ℕ)) → Type 0
IsTextPrinted old new = (text : List ℕ) × (0 < length text) × Appends old new text

abbrev pub IsTextBegun : (old new : Option (List ℕ)) → Type 0
IsTextBegun old new = (text : List ℕ) × AppendsBeginning old new text

-- a text that is asked for was printed
abbrev pub IsTextShown : (arguments : List Text) (old new : Option (List ℕ)) → Type 0
IsTextShown arguments old new = AskForText arguments × IsTextPrinted old new

-- they are refused so, and it is no text that they ask for
abbrev pub AreRefusedWords : (arguments : List Text) → Error → Type 0
AreRefusedWords arguments error = AreRefusedBy arguments error × (is_shown arguments (kind_of error) ≡ false)

-- why such words end the program with another status than 0
abbrev pub IsWordsEnd : (arguments : List Text) → Failure → Type 0
IsWordsEnd arguments (Arguments error) = AreRefusedWords arguments error
IsWordsEnd arguments failure.Device = ⊤
IsWordsEnd arguments failure.Memory = ⊤
IsWordsEnd arguments failure = ⊥
