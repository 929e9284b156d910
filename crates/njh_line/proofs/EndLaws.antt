-- Which inputs end a session, and why it ends.
use Rattle.std.proofs.Common.{ℕ, ◌+◌, Bool, true, false, None, Result, Ok, Err, cond, ◌==◌, ◌&&◌, refl}
use Rattle.njh_bisync.specs.declared.frame.Control.TheVariants as control
use Rattle.njh_header.specs.SignOns.{SignOn}
use Rattle.njh_line.specs.declared.Phase.{Phase}
use Rattle.njh_line.specs.declared.config.Config.{Config}
use Rattle.njh_table.specs.declared.Role.{Role}
use Rattle.njh_table.specs.declared.Role.TheVariants.{Call, Answer}
use Rattle.njh_line.specs.declared.counts.Counted.{Counted}
use Rattle.njh_line.specs.declared.counts.Counted.TheVariants.{Acts, Repeats, OutOfSequence}
use Rattle.njh_line.specs.declared.ending.SessionEnd.{SessionEnd}
use Rattle.njh_line.specs.declared.ending.SessionEnd.TheVariants as why
use Rattle.njh_line.specs.declared.opening.Opening.TheVariants.{Initial, Response}
use Rattle.njh_line.specs.declared.refusal.Refusal.{Refusal}
use Rattle.njh_line.specs.declared.session.Session.{Session}
use Rattle.njh_line.specs.declared.table.SessionOutcome.{SessionOutcome}
use Rattle.njh_line.specs.declared.verdict.LineReply.{LineReply}
use Rattle.njh_line.specs.declared.verdict.LineReply.TheVariants.{Again, Control, Next}
use Rattle.njh_line.specs.Counts.{after_acting, count_verdict}
use Rattle.njh_line.specs.Ends.{EndsAreTold, TellsEnd, count_end, where_so}
use Rattle.njh_line.specs.Laws.{is_up}
use Rattle.njh_line.specs.LineTable.{Enquiry, Ack0, Nak, Eot, Lost, Tick, Garbled, Spoiled, Bad, Block}
use Rattle.njh_line.specs.LineTable.{table_outcome, call, cell, contact, end, end_and_contact, end_with, hang_up, none}
use Rattle.njh_line.specs.LineTable.{signed_on, try_again, try_with, with_reply}
use Rattle.njh_line.specs.Openings.{fitting}
use Rattle.njh_line.specs.Sessions.{in_session}
use Rattle.njh_line.proofs.TableLaws.{every}

-- the session goes on, or the line only goes down
abbrev TellsNone : Session → SessionOutcome → Type 0
TellsNone s x = TellsEnd s None x

none_tells : (s : Session) → TellsNone s (none s)
none_tells s = record { over = refl; last = refl }

try_tells : (five : Bool) (reply : LineReply) (s : Session)
    → TellsEnd s (where_so five why.Tries)
    (cond five (end why.Tries s) (with_reply reply (record s { tries = s.tries + 1 })))
try_tells true reply s = record { over = refl; last = refl }
try_tells false reply s = record { over = refl; last = refl }

trying_tells : (p : Phase) (reply : LineReply) (s : Session)
    → TellsEnd s (where_so (in_session p && (s.tries == 5)) why.Tries)
    (cell p (none s) (none s) (try_with reply s) (try_with reply s) (try_with reply s))
trying_tells p reply s =
    let try = try_tells (s.tries == 5) reply s in
    every (λ q x. TellsEnd s (where_so (in_session q && (s.tries == 5)) why.Tries) x) p _ _ _ _ _ (none_tells s)
    (none_tells s) try try try

wait_tells : (turn : Bool) (s : Session) → TellsEnd s (cond turn None (where_so (s.tries == 5) why.Tries))
    (cond turn (with_reply (Next true) s) (try_with (Control control.Nak) s))
wait_tells true s = record { over = refl; last = refl }
wait_tells false s = try_tells (s.tries == 5) _ s

contact_tells : (role : Role) (s : Session) → TellsNone s (contact role s)
contact_tells Call s = record { over = refl; last = refl }
contact_tells Answer s = record { over = refl; last = refl }

end_and_contact_tells : (role : Role) (s : Session)
    → TellsEnd s (where_so true why.Contact) (end_and_contact role s)
end_and_contact_tells Call s = record { over = refl; last = refl }
end_and_contact_tells Answer s = record { over = refl; last = refl }

call_tells : (role : Role) (s : Session) → TellsNone s (call role s)
call_tells Call s = record { over = refl; last = refl }
call_tells Answer s = record { over = refl; last = refl }

-- EOT, or a loss
hung_up_tells : (e : SessionEnd) (p : Phase) (s : Session)
    → TellsEnd s (where_so (is_up p) e) (cell p (none s) (hang_up s) (hang_up s) (hang_up s) (end e s))
hung_up_tells e p s =
    let gone : TellsNone s (hang_up s) = record { over = refl; last = refl } in
    every (λ q x. TellsEnd s (where_so (is_up q) e) x) p _ _ _ _ _ (none_tells s) gone gone gone
    (record { over = refl; last = refl })

-- ---- a block

signed_tells : (reply : LineReply) (line : Config) (sign_on : Result SignOn Refusal) (bcb : ℕ) (fcs : ℕ × ℕ) (s : Session)
    → TellsNone s (signed_on reply line sign_on (after_acting bcb fcs s))
signed_tells reply line (Ok x) bcb fcs s = record { over = refl; last = refl }
signed_tells reply line (Err refusal) bcb fcs s = record { over = refl; last = refl }

count_tells : (n : Counted) (acted : SessionOutcome) (sequence : LineReply) (s : Session) → TellsNone s acted
    → TellsEnd s (count_end n s.tries) (elim n as (λ x. SessionOutcome) [
      | Acts ↦ acted
      | Repeats ↦ try_again s
      | OutOfSequence ↦ end_with why.OutOfSequence sequence s
    ])
count_tells Acts acted sequence s e = e
count_tells Repeats acted sequence s e = try_tells (s.tries == 5) Again s
count_tells OutOfSequence acted sequence s e = record { over = refl; last = refl }

pub told : EndsAreTold
unfolding table_outcome
told line s Enquiry =
    every (λ q x. TellsEnd s (where_so (is_up q) why.Contact) x) s.phase _ _ _ _ _ (contact_tells line.role s)
    (none_tells s) (record { over = refl; last = refl }) (none_tells s) (end_and_contact_tells line.role s)
told line s Ack0 =
    every (λ q x. TellsNone s x) s.phase _ _ _ _ _ (none_tells s) (record { over = refl; last = refl })
    (none_tells s) (none_tells s) (record { over = refl; last = refl })
told line s Nak = trying_tells s.phase _ s
told line s Eot = hung_up_tells why.Eot s.phase s
told line s Lost = hung_up_tells why.Lost s.phase s
told line s Tick =
    let try = try_tells (s.tries == 5) _ s in
    every
    (λ q x. TellsEnd s
    (cond (is_up q && s.has_turn) None (where_so (in_session q && (s.tries == 5)) why.Tries)) x) s.phase _ _ _ _ _
    (call_tells line.role s) (record { over = refl; last = refl }) try try (wait_tells s.has_turn s)
told line s Garbled = trying_tells s.phase _ s
told line s Spoiled = trying_tells s.phase _ s
told line s Bad = trying_tells s.phase _ s
told line s (Block bcb fcs first) =
    let n = count_verdict s.last_bcb bcb in
    every (λ q x. TellsEnd s (cond (in_session q) (count_end n s.tries) None) x) s.phase _ _ _ _ _ (none_tells s)
    (none_tells s) (count_tells n _ _ s (signed_tells _ line (fitting Initial line first) bcb fcs s))
    (count_tells n _ _ s (signed_tells _ line (fitting Response line first) bcb fcs s))
    (count_tells n _ _ s (record { over = refl; last = refl }))
