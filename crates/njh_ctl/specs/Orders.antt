-- What is ordered of a console, on which terms, and how it ends.
use Rattle.std.specs.Prelude.{◌≡◌, ℕ, ◌++◌, ◌==◌, ◌||◌, ◌⊎◌, Bool, true, false, List, [], ◌∷◌, codes, take, bytes_eq}
use Rattle.std.specs.Prelude.{Option, Some, None, Result, Ok, Err}
use Rattle.std.specs.Fmt.{decimal}
use Rattle.std.specs.List.{list_any}
use Rattle.std.specs.Option.{option_map_or}
use Rattle.serde_json.specs.Data.{Data}
use Rattle.serde_json.specs.Find.{as_str}
use Rattle.serde_json.specs.View.{items_of}
use Rattle.njh_arguments.specs.Choices.{OwnerView}
use Rattle.njh_ctl.specs.Answers.{list_in}
use Rattle.njh_ctl.specs.Asked.{AnswerView, IsRefusedBy, RefusalView, Understands, answer_view, orders, outcome_asked}
use Rattle.njh_ctl.specs.Asked.{refusal_view}
use Rattle.njh_ctl.specs.Exchanges.{IsFresh, Link, QuestionText}
use Rattle.njh_ctl.specs.Questions.{TermsView, Text, command_data, customer_path, line_path, order_data, order_method}
use Rattle.njh_ctl.specs.Questions.{diff_data, order_path, reload_data, shutdown_data, start_data, stated_by, stop_data}
use Rattle.njh_ctl.specs.Questions.{tell_data}
use Rattle.njh_ctl.specs.Shown.{AreRepliesShown}
use Rattle.njh_ctl.specs.Told.{IsNothing, Tells, Told, with_told}
use Rattle.njh_ctl.specs.declared.asker.Asked.{Asked}
use Rattle.njh_ctl.specs.declared.asker.Asked.TheVariants as asked
use Rattle.njh_ctl.specs.declared.ending.Ending.{Ending}
use Rattle.njh_ctl.specs.declared.ending.Ending.TheVariants.{Done, TurnedDown, Wrong}
use Rattle.njh_ctl.specs.declared.ending.Given.{Given}
use Rattle.njh_ctl.specs.declared.ending.Given.TheVariants as given
use Rattle.njh_ctl.specs.declared.fault.CtlFault.{CtlFault}
use Rattle.njh_ctl.specs.declared.fault.CtlFault.TheVariants as fault
use Rattle.njh_ctl.specs.declared.order.Order.{Order}
use Rattle.njh_ctl.specs.declared.order.Order.TheVariants as order
use Rattle.njh_ctl.specs.declared.reply.Refusal.{Refusal}

-- ---- what is ordered, and on which terms

-- an order, on terms that are still to be said; and whether it ends the service
pub record OrderView : Type 0 where
  pub text : TermsView → QuestionText
  pub ends : Bool

abbrev pub order_given : Text → Text → Option OwnerView → OrderView
order_given customer text owner = record {
  text = λ terms. orders (codes "POST") (customer_path customer (codes "orders"))
      (command_data text owner (stated_by terms));
  ends = false;
}

abbrev pub message_given : Text → OwnerView → Text → OrderView
message_given customer user text = record {
  text = λ terms. orders (codes "POST") (customer_path customer (codes "messages"))
      (tell_data user text (stated_by terms));
  ends = false;
}

abbrev pub stop_given : Text → Bool → OrderView
stop_given line when_idle = record {
  text = λ terms. orders (codes "PUT") (line_path line) (stop_data when_idle (stated_by terms));
  ends = false;
}

abbrev pub start_given : Text → OrderView
start_given line = record {
  text = λ terms. orders (codes "PUT") (line_path line) (start_data (stated_by terms));
  ends = false;
}

abbrev pub shutdown_given : Bool → OrderView
shutdown_given when_idle = record {
  text = λ terms. orders (codes "POST") (codes "/v1/stop") (shutdown_data when_idle (stated_by terms));
  ends = true;
}

abbrev pub reload_given : OrderView
reload_given = record {
  text = λ terms. orders (codes "POST") (codes "/v1/reload") (reload_data (stated_by terms));
  ends = false;
}

abbrev pub diff_given : Text → OrderView
diff_given file = record {
  text = λ terms. orders (codes "POST") (codes "/v1/diff") (diff_data file (stated_by terms));
  ends = false;
}

abbrev pub ends_service : Order → Bool
ends_service (order.Shutdown when_idle) = true
ends_service (order.Change change files) = false
ends_service (order.Tell customer user text) = false
ends_service (order.Stop line when_idle) = false
ends_service (order.Start line) = false
ends_service order.Reload = false
ends_service (order.Diff file) = false

abbrev pub order_view : Order → OrderView
order_view o = record {
  text = λ terms. orders (order_method o) (order_path o) (order_data o (stated_by terms));
  ends = ends_service o;
}

-- who orders, and what tells names of his orders from those of others
pub record GiverView : Type 0 where
  pub by : Text
  pub mark : ℕ

-- ctl-483920184756-0: the name of the first that a command orders
abbrev pub order_name : GiverView → ℕ → Text
order_name giver at = codes "ctl-" ++ (decimal giver.mark ++ (codes "-" ++ decimal at))

abbrev pub terms_of : GiverView → ℕ → ℕ → TermsView
terms_of giver at until = record { name = order_name giver at; until = until; by = giver.by }

-- ---- how an order ends

-- a reply says that nothing was done, or not all: so does that of a table file with a fault
abbrev pub is_refusal_number : Text → Bool
is_refusal_number number =
    bytes_eq number (codes "NJH010") || (bytes_eq number (codes "NJH012") || (bytes_eq number (codes "NJH020")
    || (bytes_eq number (codes "NJH022") || bytes_eq number (codes "table "))))

abbrev pub is_turned_down : Data → Bool
is_turned_down d = option_map_or (λ reply. is_refusal_number (take 6 reply)) (as_str d) false

abbrev pub ending_where : Bool → Ending
ending_where true = TurnedDown
ending_where false = Done

-- an order ends so, by the replies of its outcome
pub record EndsBy (d : Data) (ending : Ending) : Type 0 where
  pub replies : List Data
  pub found : list_in (codes "replies") d ≡ Some (items_of replies)
  pub is_so : ending ≡ ending_where (list_any is_turned_down replies)

-- what is said of an ending besides
abbrev pub result_of : Ending → Result (Unit {0}) CtlFault
result_of Done = Ok tt
result_of TurnedDown = Err fault.TurnedDown
result_of Wrong = Err fault.Wrong

-- something is wrong if there is a fault
abbrev pub wrong_by : List Data → Ending
wrong_by [] = Done
wrong_by (d ∷ ds) = Wrong

pub record IsWrongBy (d : Data) (ending : Ending) : Type 0 where
  pub faults : List Data
  pub found : list_in (codes "faults") d ≡ Some (items_of faults)
  pub is_so : ending ≡ wrong_by faults

-- ---- a talk

pub record TalkView : Type 0 where
  pub link : Link
  pub told : Told
  pub moment : ℕ

-- an order is taken, of which people are told nothing yet
pub record IsTaken (q : QuestionText) (old new : TalkView) : Type 0 where
  pub receipt : AnswerView
  pub understood : Understands q old.link new.link receipt
  pub told : Tells IsNothing receipt.reply.body old.told new.told
  pub moment : new.moment ≡ old.moment

-- what is asked is refused so, and nothing is told; it isn't the outcome of what was done
pub record IsTurnedDown (q : QuestionText) (old new : TalkView) (r : RefusalView) : Type 0 where
  pub refused : IsRefusedBy q old.link new.link r
  pub undone : (r.status == 500) ≡ false
  pub told : new.told ≡ old.told
  pub moment : new.moment ≡ old.moment

abbrev pub IsTakenSo : QuestionText → TalkView → TalkView → Option Refusal → Type 0
IsTakenSo q old new None = IsTaken q old new
IsTakenSo q old new (Some refusal) = IsTurnedDown q old new (refusal_view refusal)

-- it is asked what came of it, and the replies are told
pub record IsCarriedOut (key : Text) (old new : TalkView) (ending : Ending) : Type 0 where
  pub outcome : AnswerView
  pub understood : Understands (outcome_asked key) old.link new.link outcome
  pub told : Tells (AreRepliesShown outcome.value) outcome.reply.body old.told new.told
  pub ends : EndsBy outcome.value ending
  pub moment : new.moment ≡ old.moment

-- what is told of what came of it
abbrev pub IsOutcomeTold : Asked → Told → Told → Given → Type 0
IsOutcomeTold (asked.Answered answer) old new (given.Ended ending) =
    Tells (AreRepliesShown (answer_view answer).value) (answer_view answer).reply.body old new
    × EndsBy (answer_view answer).value ending
IsOutcomeTold (asked.Refused r) old new (given.Refused refusal) =
    (refusal ≡ r) × ((r.status == 500) ≡ false) × (new ≡ old)
IsOutcomeTold (asked.Answered answer) old new (given.Refused refusal) = ⊥
IsOutcomeTold (asked.Refused r) old new (given.Ended ending) = ⊥

abbrev pub OutcomeCame : Text → TalkView → TalkView → Given → Type 0
OutcomeCame key old new (given.Ended ending) = IsCarriedOut key old new ending
OutcomeCame key old new (given.Refused refusal) = IsTurnedDown (outcome_asked key) old new (refusal_view refusal)

-- a service that was to end ended the connection before it told what came of that
pub record IsGone (ends : Bool) (old new : TalkView) (ending : Ending) : Type 0 where
  pub ends_so : ends ≡ true
  pub is_so : ending ≡ Done
  pub told : new.told ≡ old.told
  pub moment : new.moment ≡ old.moment

abbrev pub EndCame : Bool → Text → TalkView → TalkView → Given → Type 0
EndCame ends key old new (given.Ended ending) = IsCarriedOut key old new ending ⊎ IsGone ends old new ending
EndCame ends key old new (given.Refused refusal) =
    IsTurnedDown (outcome_asked key) old new (refusal_view refusal)

-- an order is taken and ends so
pub record Ordered (o : OrderView) (terms : TermsView) (old new : TalkView) (ending : Ending) : Type 0 where
  pub mid : TalkView
  pub taken : IsTaken (o.text terms) old mid
  pub ended : IsCarriedOut terms.name mid new ending ⊎ IsGone o.ends mid new ending

-- an order is refused, at once or when it is asked what came of it
pub record TakenInVain (o : OrderView) (terms : TermsView) (old new : TalkView) (r : RefusalView) : Type 0 where
  pub mid : TalkView
  pub taken : IsTaken (o.text terms) old mid
  pub refused : IsTurnedDown (outcome_asked terms.name) mid new r

abbrev pub OrderRefused : OrderView → TermsView → TalkView → TalkView → RefusalView → Type 0
OrderRefused o terms old new r = IsTurnedDown (o.text terms) old new r ⊎ TakenInVain o terms old new r

abbrev pub IsGivenSo : OrderView → TermsView → TalkView → TalkView → Given → Type 0
IsGivenSo o terms old new (given.Ended ending) = Ordered o terms old new ending
IsGivenSo o terms old new (given.Refused refusal) = OrderRefused o terms old new (refusal_view refusal)

-- ---- what is said at the end

-- people are told that all was done
abbrev pub done_where : (json : Bool) → Told → Told
done_where true told = told
done_where false told = with_told (codes "done\n") told

abbrev pub ended_told : Ending → Told → Told
ended_told Done told = done_where told.json told
ended_told TurnedDown told = told
ended_told Wrong told = told

abbrev pub with_ending : Ending → TalkView → TalkView
with_ending ending talk = record talk { told = ended_told ending talk.told }

-- and that is said, in the end
pub record IsSaid (is : TalkView → TalkView → Ending → Type 0) (old new : TalkView) (ending : Ending) : Type 0 where
  pub mid : TalkView
  pub ended : is old mid ending
  pub same : new ≡ with_ending ending mid

-- what came of an order is asked, and told
abbrev pub OutcomeSaid : Text → TalkView → TalkView → Given → Type 0
OutcomeSaid key old new (given.Ended ending) = IsSaid (IsCarriedOut key) old new ending
OutcomeSaid key old new (given.Refused refusal) = IsTurnedDown (outcome_asked key) old new (refusal_view refusal)

-- ---- who gives orders in a talk

pub record OperatorView : Type 0 where
  pub talk : TalkView
  pub giver : GiverView

-- an order is asked for over another connection, and told, and that all was done is said
pub record IsAskedAgain (key : Text) (old new : TalkView) (ending : Ending) : Type 0 where
  pub mid : TalkView
  pub fresh : IsFresh mid.link
  pub same : mid ≡ record old { link = mid.link }
  pub said : IsSaid (IsCarriedOut key) mid new ending

-- an order is given as the giver's first, up to some second, and that all was done is said
pub record GivenOnce (o : OrderView) (old new : OperatorView) (ending : Ending) : Type 0 where
  pub until : ℕ
  pub said : IsSaid (Ordered o (terms_of old.giver 0 until)) old.talk new.talk ending
  pub giver : new.giver ≡ old.giver
