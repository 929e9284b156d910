-- What the program did, from what became of words that ask for nothing to be done.
use Rattle.std.proofs.Common.{◌≡◌, ◌⊎◌, ℕ, List, Option, Result, Ok, Err, OnErr, OnOk, IfErr, inl, inr, true, subst}
use Rattle.std.specs.Io.KnownBytes.{Keeps}
use Rattle.clap.specs.Words.{IsAmong, Text, fault_of, kind_of}
use Rattle.clap.specs.declared.error.Error.{Error}
use Rattle.clap.specs.declared.error.kind.ErrorKind.{ErrorKind}
use Rattle.njh_arguments.specs.Arguments.{AreRefusedBy, program_app}
use Rattle.njh_arguments.specs.Shown.{is_shown}
use Rattle.njh_subcommands.specs.declared.failure.Failure.{Failure}
use Rattle.njh_subcommands.specs.declared.failure.Failure.TheVariants.{Arguments, Encode, Found, Replay, Tables, Trace}
use Rattle.njh_subcommands.specs.declared.failure.Failure.TheVariants as failure
use Rattle.njh_program.specs.ProgramOutcome.{IsBegunFor, IsFailed, IsRunDone}
use Rattle.njh_program.specs.ShownText.{IsTextBegun, IsTextShown, IsWordsEnd}

-- a text is shown at a kind that clap gives of the arguments: the other refusals show none
pub shown_among : (arguments : List Text) (error : Error) → AreRefusedBy arguments error
    → is_shown arguments (kind_of error) ≡ true → IsAmong (kind_of error) (fault_of program_app arguments)
shown_among arguments error (inl (inl is)) shown =
    let bad = subst (λ (k : ErrorKind). is_shown arguments k ≡ true) is shown in cc bad
shown_among arguments error (inl (inr (inl is))) shown =
    let bad = subst (λ (k : ErrorKind). is_shown arguments k ≡ true) is shown in cc bad
shown_among arguments error (inl (inr (inr among))) shown = among
shown_among arguments error (inr (inl late)) shown =
    let bad = subst (λ (k : ErrorKind). is_shown arguments k ≡ true) late.0 shown in cc bad
shown_among arguments error (inr (inr (inl late))) shown =
    let bad = subst (λ (k : ErrorKind). is_shown arguments k ≡ true) late.0 shown in cc bad
shown_among arguments error (inr (inr (inr (inl late)))) shown =
    let bad = subst (λ (k : ErrorKind). is_shown arguments k ≡ true) late.0 shown in cc bad
shown_among arguments error (inr (inr (inr (inr (inl late))))) shown =
    let bad = subst (λ (k : ErrorKind). is_shown arguments k ≡ true) late.0 shown in cc bad
shown_among arguments error (inr (inr (inr (inr (inr late))))) shown =
    let bad = subst (λ (k : ErrorKind). is_shown arguments k ≡ true) late.0 shown in cc bad

words_failed : (arguments : List Text) (left : Option (List ℕ)) (why : Failure) → IsWordsEnd arguments why
    → IsFailed arguments left why
words_failed arguments left (Arguments error) ended = ended
words_failed arguments left (Tables fault) ended = absurd ended
words_failed arguments left (Replay fault) ended = absurd ended
words_failed arguments left (Trace fault) ended = absurd ended
words_failed arguments left (Encode end) ended = absurd ended
words_failed arguments left Found ended = absurd ended
words_failed arguments left (failure.Files fault) ended = absurd ended
words_failed arguments left (failure.Control fault) ended = absurd ended
words_failed arguments left failure.Device ended = tt
words_failed arguments left failure.Memory ended = tt

pub failed_in_words : {T : Type 0} (arguments : List Text) (left : Option (List ℕ)) (r : Result T Failure)
    → IfErr r (IsWordsEnd arguments) → IfErr r (IsFailed arguments left)
failed_in_words arguments left (Ok x) ended = tt
failed_in_words arguments left (Err why) ended = words_failed arguments left why ended

pub done_in_words : {T E : Type 0} (arguments : List Text) (left old new : Option (List ℕ)) (r : Result T E)
    → OnOk r (IsTextShown arguments old new) → OnOk r (IsRunDone arguments left old new)
done_in_words arguments left old new (Ok x) shown = inr shown
done_in_words arguments left old new (Err e) shown = tt

pub begun_in_words : {T E : Type 0} (arguments : List Text) (left old new : Option (List ℕ)) (r : Result T E)
    → OnErr r (Keeps old new ⊎ IsTextBegun old new) → OnErr r (Keeps old new ⊎ IsBegunFor arguments left old new)
begun_in_words arguments left old new (Ok x) begun = tt
begun_in_words arguments left old new (Err e) (inl kept) = inl kept
begun_in_words arguments left old new (Err e) (inr begun) = inr (inr begun)
