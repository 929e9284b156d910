-- Bytes that the scanner takes together.
use Rattle.std.proofs.Common.{◌≡◌, ℕ, suc, ◌+◌, ◌-◌, ◌<◌, ◌≤◌, List, [], ◌∷◌, ◌++◌, length, take, drop, refl, ap, sym, ◌∙◌}
use Rattle.std.proofs.Common.{arith, append_assoc, append-nil, length-append, length-drop, zero-add}
use Rattle.std.specs.Prelude.{◌==◌, nat_lt, IsTrue, Option, Some, None}
use Rattle.std.proofs.lemmas.Bool.{and_parts, eqb-true, lt-ltb, le-ltb, ltb-true}
use Rattle.std.proofs.lemmas.List.{take-append-drop, length-take-le}
use Rattle.njh_tcp.specs.Limits.{ttr_head}
use Rattle.njh_tcp.specs.Blocks.{Whole}
use Rattle.njh_tcp.specs.Hearing.{Outcome, Hearing, Hears, Refused, heard_of}
use Rattle.njh_tcp.specs.Reading.{Part, Rest, Open, Shut, InTtrHead, InTtr, rest_of}
use Rattle.njh_tcp.specs.ByteSteps.{part_step, rest_step, Fed, ahead, stop_or, feed_outcome}
use Rattle.njh_tcp.specs.code.Room.{has_room_at}
use Rattle.njh_tcp.specs.code.Scanner.{fed_on, heard_rest}
use Rattle.njh_tcp.specs.declared.contact.Contact.{Contact}
use Rattle.njh_tcp.specs.declared.fault.TtbFault.{TtbFault}
use Rattle.njh_tcp.specs.declared.place.Place.TheVariants.{Ttr}

ahead-zero : (f : Fed) → f ≡ ahead 0 f
ahead-zero f = ap (λ (n : ℕ). record f { taken = n }) (sym (zero-add f.taken))

ahead-ahead : (m n : ℕ) (f : Fed) → ahead m (ahead n f) ≡ ahead (m + n) f
ahead-ahead m n f =
    let sum : m + (n + f.taken) ≡ (m + n) + f.taken = omega arith in
    ap (λ (k : ℕ). record f { taken = k }) sum

one-more : (n : ℕ) → 1 + n ≡ suc n
one-more n = omega arith

-- after a refusal all is taken, and nothing given
fed-shut : (fault : TtbFault) (bytes : List ℕ)
    → feed_outcome (Shut fault) bytes ≡ record { taken = length bytes; outcome = None; rest = Shut fault }
unfolding rest_step
fed-shut fault [] = refl
fed-shut fault (byte ∷ bytes) =
    ap (ahead 1) (fed-shut fault bytes) ∙ ap (λ (n : ℕ). record { taken = n; outcome = None; rest = Shut fault })
    (one-more (length bytes))

pub shut-on : (fault : TtbFault) (bytes : List ℕ)
    → feed_outcome (Shut fault) bytes ≡ fed_on (length bytes) None (Shut fault) bytes
shut-on fault bytes =
    let sum : length bytes ≡ length bytes + length (drop (length bytes) bytes) =
    omega (arith, length-drop (length bytes) bytes) in
    fed-shut fault bytes ∙ (ap (λ (n : ℕ). record { taken = n; outcome = None; rest = Shut fault }) sum
    ∙ ap (ahead (length bytes)) (sym (fed-shut fault (drop (length bytes) bytes))))

-- a piece of which so much was taken, with this outcome, or none, before more
abbrev then_more : ℕ → Option Outcome → Rest → List ℕ → Fed
then_more n (Some outcome) rest more = record { taken = n; outcome = Some outcome; rest = rest }
then_more n None rest more = ahead n (feed_outcome rest more)

ahead-then_more : (n : ℕ) (outcome : Option Outcome) (rest : Rest) (more : List ℕ)
    → ahead 1 (then_more n outcome rest more) ≡ then_more (suc n) outcome rest more
ahead-then_more n (Some outcome) rest more =
    ap (λ (k : ℕ). record { taken = k; outcome = Some outcome; rest = rest }) (one-more n)
ahead-then_more n None rest more =
    ahead-ahead 1 n (feed_outcome rest more) ∙ ap (λ k. ahead k (feed_outcome rest more)) (one-more n)

then_more-one : (outcome : Option Outcome) (rest : Rest) (more : List ℕ)
    → stop_or (record { outcome = outcome; rest = rest }) (feed_outcome rest more) ≡ then_more 1 outcome rest more
then_more-one (Some outcome) rest more = refl
then_more-one None rest more = refl

-- one byte of the data of a TTR, which isn't the last
more-data : (contact : Contact) (behind size : ℕ) (held : List ℕ) (byte : ℕ) (more : List ℕ)
    → length held + 1 < size → feed_outcome (Open contact (InTtr behind size held)) (byte ∷ more)
    ≡ ahead 1 (feed_outcome (Open contact (InTtr behind size (held ++ byte ∷ []))) more)
unfolding rest_step part_step
more-data contact behind size held byte more room =
    rw (lt-ltb (length (held ++ byte ∷ [])) size (omega (arith, length-append held (byte ∷ []))))

-- the last
last-data : (contact : Contact) (behind size : ℕ) (held : List ℕ) (byte : ℕ) (more : List ℕ)
    → length held + 1 ≡ size → let heard = heard_of (Hears contact) (Whole (held ++ byte ∷ [])) in
    feed_outcome (Open contact (InTtr behind size held)) (byte ∷ more)
    ≡ then_more 1 heard.outcome (rest_of heard.hearing (InTtrHead (behind - ttr_head) [])) more
unfolding rest_step part_step
last-data contact behind size held byte more full =
    let heard = heard_of (Hears contact) (Whole (held ++ byte ∷ [])) in
    rw (le-ltb (length (held ++ byte ∷ [])) size (omega (arith, length-append held (byte ∷ []))))
    (then_more-one heard.outcome (rest_of heard.hearing (InTtrHead (behind - ttr_head) [])) more)

-- some data of a TTR, and not the last
run-data : (contact : Contact) (behind size : ℕ) (held run more : List ℕ) → length held + length run < size
    → feed_outcome (Open contact (InTtr behind size held)) (run ++ more)
    ≡ ahead (length run) (feed_outcome (Open contact (InTtr behind size (held ++ run))) more)
run-data contact behind size held [] more room =
    ahead-zero (feed_outcome (Open contact (InTtr behind size held)) more)
    ∙ ap (λ (bytes : List ℕ). ahead 0 (feed_outcome (Open contact (InTtr behind size bytes)) more))
    (sym (append-nil held))
run-data contact behind size held (byte ∷ run) more room =
    let later = feed_outcome (Open contact (InTtr behind size ((held ++ byte ∷ []) ++ run))) more in
    more-data contact behind size held byte (run ++ more) (omega arith)
    ∙ (ap (ahead 1) (run-data contact behind size (held ++ byte ∷ []) run more
    (omega (arith, length-append held (byte ∷ []))))
    ∙ (ahead-ahead 1 (length run) later
    ∙ (ap (λ n. ahead n later) (one-more (length run))
    ∙ ap (λ (bytes : List ℕ). ahead (length (byte ∷ run)) (feed_outcome (Open contact (InTtr behind size bytes)) more))
    (append_assoc held (byte ∷ []) run))))

-- the rest of them
rest-data : (contact : Contact) (behind size : ℕ) (held run more : List ℕ) → length held + length run ≡ size
    → 0 < length run → let heard = heard_of (Hears contact) (Whole (held ++ run)) in
    feed_outcome (Open contact (InTtr behind size held)) (run ++ more)
    ≡ then_more (length run) heard.outcome (rest_of heard.hearing (InTtrHead (behind - ttr_head) [])) more
rest-data contact behind size held [] more full some = absurd (omega (arith, some))
rest-data contact behind size held (byte ∷ []) more full some =
    last-data contact behind size held byte more (omega arith)
rest-data contact behind size held (byte ∷ next ∷ run) more full some =
    let ended : List ℕ → Fed = λ bytes. let heard = heard_of (Hears contact) (Whole bytes) in
    then_more (length (byte ∷ next ∷ run)) heard.outcome
    (rest_of heard.hearing (InTtrHead (behind - ttr_head) [])) more in
    let heard = heard_of (Hears contact) (Whole ((held ++ byte ∷ []) ++ next ∷ run)) in
    more-data contact behind size held byte ((next ∷ run) ++ more) (omega arith)
    ∙ (ap (ahead 1) (rest-data contact behind size (held ++ byte ∷ []) (next ∷ run) more
    (omega (arith, length-append held (byte ∷ []))) (omega arith))
    ∙ (ahead-then_more (length (next ∷ run)) heard.outcome
    (rest_of heard.hearing (InTtrHead (behind - ttr_head) [])) more
    ∙ ap ended (append_assoc held (byte ∷ []) (next ∷ run))))

-- the same, as the scanner takes them: the first so many bytes of a piece
pub takes-data : (contact : Contact) (behind size : ℕ) (held piece : List ℕ) (count : ℕ) → count ≤ length piece
    → length held + count < size → feed_outcome (Open contact (InTtr behind size held)) piece
    ≡ fed_on count None (Open contact (InTtr behind size (held ++ take count piece))) piece
takes-data contact behind size held piece count within room =
    let long = length-take-le count piece within in
    ap (feed_outcome (Open contact (InTtr behind size held))) (sym (take-append-drop count piece))
    ∙ (run-data contact behind size held (take count piece) (drop count piece) (omega arith)
    ∙ ap (λ n. ahead n (feed_outcome (Open contact (InTtr behind size (held ++ take count piece))) (drop count piece)))
    long)

fed_on-is : (n : ℕ) (outcome : Option Outcome) (rest : Rest) (piece : List ℕ)
    → then_more n outcome rest (drop n piece) ≡ fed_on n outcome rest piece
fed_on-is n (Some outcome) rest piece = refl
fed_on-is n None rest piece = refl

pub takes-last : (contact : Contact) (behind size : ℕ) (held piece : List ℕ) (count : ℕ) → count ≤ length piece
    → length held + count ≡ size → 0 < count → let heard = heard_of (Hears contact) (Whole (held ++ take count piece)) in
    feed_outcome (Open contact (InTtr behind size held)) piece
    ≡ fed_on count heard.outcome (rest_of heard.hearing (InTtrHead (behind - ttr_head) [])) piece
takes-last contact behind size held piece count within full some =
    let long = length-take-le count piece within in
    let heard = heard_of (Hears contact) (Whole (held ++ take count piece)) in
    let rest = rest_of heard.hearing (InTtrHead (behind - ttr_head) []) in
    ap (feed_outcome (Open contact (InTtr behind size held))) (sym (take-append-drop count piece))
    ∙ (rest-data contact behind size held (take count piece) (drop count piece) (omega arith) (omega arith)
    ∙ (ap (λ n. then_more n heard.outcome rest (drop count piece)) long
    ∙ fed_on-is count heard.outcome rest piece))

-- what has come while the data of a TTR come
pub head_is_empty : (behind size : ℕ) (head held : List ℕ) → IsTrue (has_room_at (Ttr behind size) head held)
    → head ≡ []
head_is_empty behind size [] held room = refl
head_is_empty behind size (byte ∷ head) held room =
    absurd (omega (arith, eqb-true (length (byte ∷ head)) 0 (and_parts (length (byte ∷ head) == 0) _ room).0))

pub held_is_less : (behind size : ℕ) (head held : List ℕ) → IsTrue (has_room_at (Ttr behind size) head held)
    → length held < size
held_is_less behind size head held room =
    ltb-true (length held) size (and_parts (nat_lt (length held) size) _ (and_parts (length head == 0) _ room).1).0

heard_rest-is : (hearing : Hearing) (other : Contact) (part : Part)
    → heard_rest hearing (Open other part) ≡ rest_of hearing part
heard_rest-is (Hears contact) other part = refl
heard_rest-is (Refused fault) other part = refl

-- the last of the data of a TTR, and what is made of them
pub takes-heard : (contact : Contact) (behind size : ℕ) (held kept piece : List ℕ) (count : ℕ)
    (outcome : Option Outcome) (hearing : Hearing) (rest : Rest) → count ≤ length piece
    → length held + count ≡ size → 0 < count → kept ≡ held ++ take count piece
    → outcome ≡ (heard_of (Hears contact) (Whole kept)).outcome
    → hearing ≡ (heard_of (Hears contact) (Whole kept)).hearing
    → rest ≡ heard_rest hearing (Open contact (InTtrHead (behind - ttr_head) []))
    → feed_outcome (Open contact (InTtr behind size held)) piece ≡ fed_on count outcome rest piece
takes-heard contact behind size held kept piece count outcome hearing rest within full some kept_is outcome_is
    hearing_is rest_is =
    let part = InTtrHead (behind - ttr_head) [] in
    let ended : List ℕ → Fed = λ bytes. let heard = heard_of (Hears contact) (Whole bytes) in
    fed_on count heard.outcome (rest_of heard.hearing part) piece in
    takes-last contact behind size held piece count within full some
    ∙ (ap ended (sym kept_is)
    ∙ (ap (λ o. fed_on count o (rest_of (heard_of (Hears contact) (Whole kept)).hearing part) piece) (sym outcome_is)
    ∙ (ap (λ h. fed_on count outcome (rest_of h part) piece) (sym hearing_is)
    ∙ (ap (λ r. fed_on count outcome r piece) (sym (heard_rest-is hearing contact part))
    ∙ ap (λ r. fed_on count outcome r piece) (sym rest_is)))))
