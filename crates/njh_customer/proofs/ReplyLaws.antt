-- What a line sends leaves it set up as it was, as far as it was, and its streams to the hub as they are.
use Rattle.njh_customer.proofs.Words
use Words.{Bool, List, [], refl, ℕ, ap, false, true, Item, all_suspended, same_fcs, Writing, CustomerSpool}
use Words.{CustomerEntry, Receiver, LineState, Phase, Config, LineReply, CustomerLine, next_block, sending_of_block}
use Words.{sending_of_control, sending_of_empty, sending_of_no_block, sending_of_reply, sending_of_written, with_outlet}
use Rattle.{std.proofs.Common.{◌||◌, ◌∷◌, ◌≡◌}, njh_bisync.specs.declared.frame.Control.Control}
use Rattle.njh_customer.specs.Sending.{Sending}
use Rattle.njh_bisync.specs.declared.frame.Control.TheVariants as control
use Rattle.njh_line.specs.declared.verdict.LineReply.TheVariants as reply

-- what a line sends where a block without new records may go, and where one is written
module _ (P : Sending → Type 0) (or_ack0 : Bool) (w : Writing) (x : LineState) where
  pub empty_so : P (sending_of_no_block or_ack0 x) → P (sending_of_block w x) → P (sending_of_empty or_ack0 w x)
  empty_so none some = elim (all_suspended x.session.peer_fcs || same_fcs w.fcs x.session.own_fcs) as
      (λ b. P (elim b [ true ↦ sending_of_no_block or_ack0 x | false ↦ sending_of_block w x ])) [
        | true ↦ none
        | false ↦ some
      ]

  pub written_so :
      (w.items ≡ [] → P (sending_of_empty or_ack0 w x)) → P (sending_of_block w x) → P (sending_of_written or_ack0 w x)
  written_so none some = at w.items refl
    where
      at : (is : List Item) → w.items ≡ is → P (elim is [
        | [] ↦ sending_of_empty or_ack0 w x
        | i ∷ js ↦ sending_of_block w x
      ])
      at [] e = none e
      at (i ∷ is) e = some

abbrev lasting : LineState → Config × Phase
lasting x = (x.config, x.session.phase)

control_lasting : (which : Control) (x : LineState) → lasting (sending_of_control which x).line ≡ lasting x
control_lasting control.Enquiry x = refl
control_lasting _ x = refl

no_block_lasting : (or_ack0 : Bool) (x : LineState) → lasting (sending_of_no_block or_ack0 x).line ≡ lasting x
no_block_lasting true x = refl
no_block_lasting false x = refl

abbrev pub line_lasting : CustomerLine → Config × Phase × ℕ × List Receiver
line_lasting x = (x.state.config, x.state.session.phase, x.streams, x.receivers)

pub reply_lasting : (entry : CustomerEntry) (l : ℕ) (r : LineReply) (s : CustomerSpool) (x : CustomerLine)
    → line_lasting (sending_of_reply entry l r s x).line ≡ line_lasting x
reply_lasting entry l (reply.Control which) s x =
    ap (λ (p : Config × Phase). (p.0, p.1, x.streams, x.receivers)) (control_lasting which x.state)
reply_lasting entry l (reply.Next or_ack0) s x =
    let f = next_block entry l s x in
    let y = (with_outlet f.outlet x).state in
    ap (λ (p : Config × Phase). (p.0, p.1, x.streams, x.receivers))
    (written_so (λ sent. lasting sent.line ≡ lasting y) or_ack0 f.block y
    (λ none. empty_so (λ sent. lasting sent.line ≡ lasting y) or_ack0 f.block y (no_block_lasting or_ack0 y) refl) refl)
reply_lasting entry l _ s x = refl
