-- What comes of an order, by what is asked and told one after another.
use Rattle.std.proofs.Common.{◌≡◌, ◌∙◌, ℕ, Bool, true, false, List, inl, inr, ap, subst, sym, refl}
use Rattle.std.specs.Prelude.{◌==◌, string_bytes}
use Rattle.njh_ctl.specs.Asked.{AnswerView, IsAskedSo, IsRefusedBy, RefusalView, Understands, answer_view, outcome_asked}
use Rattle.njh_ctl.specs.Asked.{refusal_view}
use Rattle.njh_ctl.specs.Exchanges.{Link, QuestionText}
use Rattle.njh_ctl.specs.Faults.{IsAny, IsAskedWhy, IsOfSame, IsPlain, IsRefused, IsUndone, IsWhy, OutcomeFault, is_another}
use Rattle.njh_ctl.specs.Orders.{EndCame, IsCarriedOut, IsGivenSo, IsOutcomeTold, IsSaid, IsTaken}
use Rattle.njh_ctl.specs.Orders.{IsTurnedDown, OrderRefused, OrderView, OutcomeCame, TalkView}
use Rattle.njh_ctl.specs.Orders.{with_ending}
use Rattle.njh_ctl.specs.Questions.{TermsView}
use Rattle.njh_ctl.specs.Shown.{AreRepliesShown}
use Rattle.njh_ctl.specs.Told.{IsNothing, Tells, Told}
use Rattle.njh_ctl.specs.declared.asker.Asked.{Asked}
use Rattle.njh_ctl.specs.declared.asker.Asked.TheVariants as asked
use Rattle.njh_ctl.specs.declared.ending.Ending.{Ending}
use Rattle.njh_ctl.specs.declared.ending.Ending.TheVariants.{Done}
use Rattle.njh_ctl.specs.declared.ending.Given.{Given}
use Rattle.njh_ctl.specs.declared.ending.Given.TheVariants as given
use Rattle.njh_ctl.specs.declared.fault.CtlFault.{CtlFault}
use Rattle.njh_ctl.specs.declared.fault.CtlFault.TheVariants as fault
use Rattle.njh_ctl.specs.declared.reply.Refusal.{Refusal}

-- ---- what is asked and then told

-- only the connection changed, or only what is told
pub record Asks (old new : TalkView) : Type 0 where
  pub told : new.told ≡ old.told
  pub moment : new.moment ≡ old.moment

pub record Says (old new : TalkView) : Type 0 where
  pub link : new.link ≡ old.link
  pub moment : new.moment ≡ old.moment

pub taken_by : (q : QuestionText) (old mid new : TalkView) (answer : AnswerView)
    → Understands q old.link mid.link answer → Asks old mid → Tells IsNothing answer.reply.body mid.told new.told
    → Says mid new → IsTaken q old new
taken_by q old mid new answer understood asks told says = record {
  receipt = answer;
  understood = subst (λ (link : Link). Understands q old.link link answer) (sym says.link) understood;
  told = subst (λ (t : Told). Tells IsNothing answer.reply.body t new.told) asks.told told;
  moment = says.moment ∙ asks.moment;
}

pub turned_down_by : (q : QuestionText) (old new : TalkView) (r : RefusalView) → IsRefusedBy q old.link new.link r
    → Asks old new → (r.status == 500) ≡ false → IsTurnedDown q old new r
turned_down_by q old new r refused asks undone =
    record { refused = refused; undone = undone; told = asks.told; moment = asks.moment }

-- what came of an order
pub outcome_by : (key : List ℕ) (old mid new : TalkView) (a : Asked) (g : Given)
    → IsAskedSo (outcome_asked key) old.link mid.link a → Asks old mid → IsOutcomeTold a mid.told new.told g
    → Says mid new → OutcomeCame key old new g
outcome_by key old mid new (asked.Answered answer) (given.Ended ending) so asks told says = record {
  outcome = answer_view answer;
  understood = subst (λ (link : Link). Understands (outcome_asked key) old.link link (answer_view answer)) (sym says.link)
      so;
  told = subst (λ (t : Told). Tells (AreRepliesShown (answer_view answer).value) (answer_view answer).reply.body t
      new.told) asks.told told.0;
  ends = told.1;
  moment = says.moment ∙ asks.moment;
}
outcome_by key old mid new (asked.Answered answer) (given.Refused refusal) so asks told says = absurd told
outcome_by key old mid new (asked.Refused r) (given.Ended ending) so asks told says = absurd told
outcome_by key old mid new (asked.Refused r) (given.Refused refusal) so asks told says = record {
  refused = subst (λ (link : Link). IsRefusedBy (outcome_asked key) old.link link (refusal_view refusal)) (sym says.link)
      (subst (λ (x : Refusal). IsRefusedBy (outcome_asked key) old.link mid.link (refusal_view x)) (sym told.0) so);
  undone = subst (λ (x : Refusal). (x.status == 500) ≡ false) (sym told.0) told.1;
  told = told.2 ∙ asks.told;
  moment = says.moment ∙ asks.moment;
}

pub end_by : (ends : Bool) (key : List ℕ) (old new : TalkView) (g : Given) → OutcomeCame key old new g
    → EndCame ends key old new g
end_by ends key old new (given.Ended ending) came = inl came
end_by ends key old new (given.Refused refusal) came = came

-- a service that was to end is gone
pub gone_so : (ends : Bool) (key : List ℕ) (old new : TalkView) (g : Given) → g ≡ given.Ended Done → ends ≡ true
    → Asks old new → EndCame ends key old new g
gone_so ends key old new g is so asks =
    subst (λ (x : Given). EndCame ends key old new x) (sym is)
    (inr (record { ends_so = so; is_so = refl; told = asks.told; moment = asks.moment }))

-- ---- an order

pub given_by : (o : OrderView) (terms : TermsView) (old mid new : TalkView) (g : Given) → IsTaken (o.text terms) old mid
    → EndCame o.ends terms.name mid new g → IsGivenSo o terms old new g
given_by o terms old mid new (given.Ended ending) taken came = record { mid = mid; taken = taken; ended = came }
given_by o terms old mid new (given.Refused refusal) taken came =
    inr (record { mid = mid; taken = taken; refused = came })

-- what came of it is said
pub said_by : (key : List ℕ) (old mid new : TalkView) (ending : Ending) → IsCarriedOut key old mid ending
    → new ≡ with_ending ending mid → IsSaid (IsCarriedOut key) old new ending
said_by key old mid new ending came same = record { mid = mid; ended = came; same = same }

-- ---- why it isn't done

pub plain_why : (f : CtlFault) (link : Link) → IsPlain f → IsWhy f link
plain_why fault.NotUnderstood link is = tt
plain_why fault.Memory link is = tt
plain_why fault.BadName link is = tt
plain_why fault.Silent link is = tt
plain_why fault.Broken link is = tt
plain_why (fault.Refused sentence) link is = absurd is
plain_why (fault.NotDone sentence) link is = absurd is
plain_why (fault.Untold sentence) link is = absurd is
plain_why (fault.Lost name) link is = absurd is
plain_why (fault.CutOff name) link is = absurd is
plain_why fault.TurnedDown link is = absurd is
plain_why fault.Wrong link is = absurd is
plain_why fault.NoOrder link is = absurd is
plain_why fault.NoLine link is = absurd is
plain_why fault.NotALine link is = absurd is
plain_why (fault.NoConsole why) link is = tt

pub untold_why : (q : QuestionText) (old new : Link) (a : Asked) (f : CtlFault) → IsAskedSo q old new a
    → OutcomeFault a f → IsWhy f new
untold_why q old new (asked.Answered answer) f so is = plain_why f new is
untold_why q old new (asked.Refused r) (fault.Untold sentence) so is = record {
  before = old;
  question = q;
  refusal = refusal_view r;
  refused = so;
  sentence_is = ap string_bytes is.0;
  is_so = is.1;
}
untold_why q old new (asked.Refused r) fault.NotUnderstood so is = absurd is
untold_why q old new (asked.Refused r) fault.Memory so is = absurd is
untold_why q old new (asked.Refused r) fault.BadName so is = absurd is
untold_why q old new (asked.Refused r) fault.Silent so is = absurd is
untold_why q old new (asked.Refused r) fault.Broken so is = absurd is
untold_why q old new (asked.Refused r) (fault.Refused sentence) so is = absurd is
untold_why q old new (asked.Refused r) (fault.NotDone sentence) so is = absurd is
untold_why q old new (asked.Refused r) (fault.Lost name) so is = absurd is
untold_why q old new (asked.Refused r) (fault.CutOff name) so is = absurd is
untold_why q old new (asked.Refused r) fault.TurnedDown so is = absurd is
untold_why q old new (asked.Refused r) fault.Wrong so is = absurd is
untold_why q old new (asked.Refused r) fault.NoOrder so is = absurd is
untold_why q old new (asked.Refused r) fault.NoLine so is = absurd is
untold_why q old new (asked.Refused r) fault.NotALine so is = absurd is
untold_why q old new (asked.Refused r) (fault.NoConsole why) so is = absurd is

-- of a refusal its sentence is told
turned_down_why : (is : RefusalView → Type 0) (q : QuestionText) (old new : TalkView) (r : RefusalView)
    (sentence : List ℕ) → IsTurnedDown q old new r → r.sentence ≡ sentence → is r → IsRefused is new.link sentence
turned_down_why is q old new r sentence turned same so = record {
  before = old.link;
  question = q;
  refusal = r;
  refused = turned.refused;
  sentence_is = same;
  is_so = so;
}

pub order_why : (o : OrderView) (terms : TermsView) (old new : TalkView) (r : RefusalView) (sentence : List ℕ)
    → OrderRefused o terms old new r → r.sentence ≡ sentence → IsRefused IsUndone new.link sentence
order_why o terms old new r sentence (inl turned) same =
    turned_down_why IsUndone (o.text terms) old new r sentence turned same turned.undone
order_why o terms old new r sentence (inr vain) same =
    turned_down_why IsUndone (outcome_asked terms.name) vain.mid new r sentence vain.refused same vain.refused.undone

pub outcome_why : (key : List ℕ) (old new : TalkView) (r : RefusalView) (sentence : List ℕ)
    → IsTurnedDown (outcome_asked key) old new r → r.sentence ≡ sentence → IsRefused IsAny new.link sentence
outcome_why key old new r sentence turned same =
    turned_down_why IsAny (outcome_asked key) old new r sentence turned same tt

pub again_why : (moment : ℕ) (key : List ℕ) (old new : TalkView) (r : RefusalView) (sentence : List ℕ)
    → IsTurnedDown (outcome_asked key) old new r → r.sentence ≡ sentence → is_another moment r ≡ false
    → IsRefused (IsOfSame moment) new.link sentence
again_why moment key old new r sentence turned same known =
    turned_down_why (IsOfSame moment) (outcome_asked key) old new r sentence turned same (turned.undone, known)

-- what isn't told of a second question is as it was
pub asked_why : (moment : ℕ) (f : CtlFault) (link : Link) → IsPlain f → IsAskedWhy moment f link
asked_why moment fault.NotUnderstood link is = tt
asked_why moment fault.Memory link is = tt
asked_why moment fault.BadName link is = tt
asked_why moment fault.Silent link is = tt
asked_why moment fault.Broken link is = tt
asked_why moment (fault.Refused sentence) link is = absurd is
asked_why moment (fault.NotDone sentence) link is = absurd is
asked_why moment (fault.Untold sentence) link is = absurd is
asked_why moment (fault.Lost name) link is = absurd is
asked_why moment (fault.CutOff name) link is = absurd is
asked_why moment fault.TurnedDown link is = absurd is
asked_why moment fault.Wrong link is = absurd is
asked_why moment fault.NoOrder link is = absurd is
asked_why moment fault.NoLine link is = absurd is
asked_why moment fault.NotALine link is = absurd is
asked_why moment (fault.NoConsole why) link is = tt
