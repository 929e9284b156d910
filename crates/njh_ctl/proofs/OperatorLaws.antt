-- An operator by his parts.
use Rattle.std.proofs.Common.{◌≡◌, ◌∙◌, ℕ, Result, Ok, Err, IfOk, ap, refl, subst}
use Rattle.njh_ctl.proofs.TalkLaws.{talk_of}
use Rattle.njh_ctl.specs.Exchanges.{Link}
use Rattle.njh_ctl.specs.Many.{EntryView, GivenTold, ManyView, NameGiven, order_of}
use Rattle.njh_ctl.specs.Orders.{GivenOnce, GiverView, IsGivenSo, IsSaid, OperatorView, OrderView, Ordered, TalkView}
use Rattle.njh_ctl.specs.Orders.{terms_of}
use Rattle.njh_ctl.specs.Questions.{TermsView}
use Rattle.njh_ctl.specs.Talks.{InTalk}
use Rattle.njh_ctl.specs.Told.{Told}
use Rattle.njh_ctl.specs.declared.counts.Outcome.{Outcome}
use Rattle.njh_ctl.specs.declared.ending.Ending.{Ending}
use Rattle.njh_ctl.specs.declared.ending.Given.{Given}
use Rattle.njh_ctl.specs.declared.fault.CtlFault.{CtlFault}

abbrev pub operator_of : TalkView → GiverView → OperatorView
operator_of talk giver = record { talk = talk; giver = giver }

-- only what is told changed, or only the connection
pub told_only : (old new : TalkView) → new.link ≡ old.link → new.moment ≡ old.moment
    → new ≡ record old { told = new.told }
told_only old new link moment =
    ap (λ (l : Link). talk_of l new.told new.moment) link ∙ ap (λ (m : ℕ). talk_of old.link new.told m) moment

pub link_only : (old new : TalkView) → new.told ≡ old.told → new.moment ≡ old.moment
    → new ≡ record old { link = new.link }
link_only old new told moment =
    ap (λ (t : Told). talk_of new.link t new.moment) told ∙ ap (λ (m : ℕ). talk_of new.link old.told m) moment

-- what is only asked changes nothing of who gives orders
in_talk_one : (this : TalkView → TalkView → Ending → Type 0) (old : OperatorView) (talk new : TalkView)
    (giver : GiverView) (ending : Ending) → operator_of talk giver ≡ old → this talk new ending
    → InTalk this old (operator_of new giver) ending
in_talk_one this old talk new giver ending same so =
    subst (λ (o : OperatorView). InTalk this o (operator_of new giver) ending) same (record { is_so = so; giver = refl })

pub in_talk : (this : TalkView → TalkView → Ending → Type 0) (old : OperatorView) (talk new : TalkView)
    (giver : GiverView) (r : Result Ending CtlFault) → operator_of talk giver ≡ old → IfOk r (this talk new)
    → IfOk r (InTalk this old (operator_of new giver))
in_talk this old talk new giver (Ok ending) same so = in_talk_one this old talk new giver ending same so
in_talk this old talk new giver (Err fault) same so = tt

-- an order is given once
pub given_once : (o : OrderView) (old : OperatorView) (talk new : TalkView) (giver : GiverView) (ending : Ending)
    (terms : TermsView) (until : ℕ) → operator_of talk giver ≡ old → terms ≡ terms_of giver 0 until
    → IsSaid (Ordered o terms) talk new ending → GivenOnce o old (operator_of new giver) ending
given_once o old talk new giver ending terms until same is said =
    subst (λ (x : OperatorView). GivenOnce o x (operator_of new giver) ending) same
    (record {
      until = until;
      said = subst (λ (t : TermsView). IsSaid (Ordered o t) talk new ending) is said;
      giver = refl;
    })

-- a name among many is given
pub name_given : (many : ManyView) (giver : GiverView) (at : ℕ) (e : EntryView) (old mid new : TalkView) (out : Outcome)
    (g : Given) (o : OrderView) (terms : TermsView) (until : ℕ) → o ≡ order_of many e
    → terms ≡ terms_of giver at until → IsGivenSo o terms old mid g → GivenTold g mid.told new.told out
    → new ≡ record mid { told = new.told } → NameGiven many giver at e old new out
name_given many giver at e old mid new out g o terms until order is so told same = record {
  until = until;
  mid = mid;
  given = g;
  is_so = subst (λ (t : TermsView). IsGivenSo (order_of many e) t old mid g) is
      (subst (λ (x : OrderView). IsGivenSo x terms old mid g) order so);
  told = told;
  same = same;
}
