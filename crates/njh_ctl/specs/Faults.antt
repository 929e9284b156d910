-- Why a command isn't carried out.
use Rattle.std.specs.Prelude.{◌≡◌, ℕ, ◌==◌, ◌&&◌, Bool, true, false, codes, nat_lt, not, Option, Some, None}
use Rattle.std.specs.Prelude.{string_bytes}
use Rattle.serde_json.specs.Data.{Data}
use Rattle.njh_ctl.specs.Answers.{string_in}
use Rattle.njh_ctl.specs.Asked.{IsRefusedBy, RefusalView, sentence_of, value_of}
use Rattle.njh_ctl.specs.Exchanges.{Link, QuestionText, ReplyView}
use Rattle.njh_ctl.specs.Questions.{Text}
use Rattle.njh_ctl.specs.declared.asker.Asked.{Asked}
use Rattle.njh_ctl.specs.declared.asker.Asked.TheVariants as asked
use Rattle.njh_ctl.specs.declared.fault.CtlFault.{CtlFault}
use Rattle.njh_ctl.specs.declared.fault.CtlFault.TheVariants as fault
use Rattle.njh_ctl.specs.declared.reply.Refusal.{Refusal}

-- ---- which services refuse

-- a service is known to be older than a moment
abbrev pub began_before : ℕ → Option ℕ → Bool
began_before moment None = false
began_before moment (Some since) = nat_lt since moment

-- what is asked for isn't there, and maybe it is another service that says so
abbrev pub is_another : ℕ → RefusalView → Bool
is_another moment r = (r.status == 404) && not (began_before moment r.since)

-- ---- faults

-- Nothing is said of an order or a refusal: an answer isn't heard or understood, or there is no console or no memory.
abbrev pub IsPlain : CtlFault → Type 0
IsPlain (fault.NoConsole why) = Unit {0}
IsPlain fault.NotUnderstood = Unit {0}
IsPlain fault.Memory = Unit {0}
IsPlain fault.BadName = Unit {0}
IsPlain fault.Silent = Unit {0}
IsPlain fault.Broken = Unit {0}
IsPlain other = ⊥

-- An answer says nothing, and refuses nothing, or there is no memory.
abbrev pub IsFaultOf : ReplyView → CtlFault → Type 0
IsFaultOf reply fault.NotUnderstood = (value_of reply ≡ None) × (sentence_of reply ≡ None)
IsFaultOf reply fault.Memory = Unit {0}
IsFaultOf reply other = ⊥

-- What an answer says is no refusal, or there is no memory.
abbrev pub IsNoRefusal : Data → CtlFault → Type 0
IsNoRefusal d fault.NotUnderstood = string_in (codes "error") d ≡ None
IsNoRefusal d fault.Memory = Unit {0}
IsNoRefusal d other = ⊥

-- What was heard last is such a refusal, with the sentence that is told.
pub record IsRefused (is : RefusalView → Type 0) (link : Link) (sentence : Text) : Type 0 where
  pub before : Link
  pub question : QuestionText
  pub refusal : RefusalView
  pub refused : IsRefusedBy question before link refusal
  pub sentence_is : refusal.sentence ≡ sentence
  pub is_so : is refusal

-- any
abbrev pub IsAny : RefusalView → Type 0
IsAny r = Unit {0}

-- by 500 only the outcome of what was done is refused
abbrev pub IsUndone : RefusalView → Type 0
IsUndone r = (r.status == 500) ≡ false

abbrev pub IsUntold : RefusalView → Type 0
IsUntold r = (r.status == 500) ≡ true

-- it is known to be of the service that ran at this moment
abbrev pub IsOfSame : ℕ → RefusalView → Type 0
IsOfSame moment r = IsUndone r × (is_another moment r ≡ false)

-- Why something isn't understood, of what was heard. Of other faults this says nothing.
abbrev pub IsWhy : CtlFault → Link → Type 0
IsWhy (fault.Refused sentence) link = IsRefused IsAny link (string_bytes sentence)
IsWhy (fault.NotDone sentence) link = IsRefused IsUndone link (string_bytes sentence)
IsWhy (fault.Untold sentence) link = IsRefused IsUntold link (string_bytes sentence)
IsWhy fault.TurnedDown link = ⊥
IsWhy fault.Wrong link = ⊥
IsWhy other link = Unit {0}

-- the same of an order that was given at this moment, and is asked for again
abbrev pub IsAskedWhy : ℕ → CtlFault → Link → Type 0
IsAskedWhy moment (fault.NotDone sentence) link = IsRefused (IsOfSame moment) link (string_bytes sentence)
IsAskedWhy moment other link = IsWhy other link

-- why the outcome of an order isn't told, of what was heard: only that one of what was done can't be
abbrev pub IsUntoldWhy : CtlFault → Link → Type 0
IsUntoldWhy (fault.Untold sentence) link = IsRefused IsUntold link (string_bytes sentence)
IsUntoldWhy other link = IsPlain other

-- why no outcome is told, by what comes of asking for it
abbrev pub UntoldOf : Refusal → CtlFault → Type 0
UntoldOf r (fault.Untold sentence) = (r.sentence ≡ sentence) × ((r.status == 500) ≡ true)
UntoldOf r other = ⊥

abbrev pub OutcomeFault : Asked → CtlFault → Type 0
OutcomeFault (asked.Answered answer) f = IsPlain f
OutcomeFault (asked.Refused r) f = UntoldOf r f
