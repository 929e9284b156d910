-- What one step of a connection moves.
use Rattle.std.proofs.Common.{◌≡◌, ℕ, ◌+◌, ◌-◌, ◌<◌, ◌≤◌, List, [], ◌∷◌, ◌++◌, length, take, drop, refl, ap, sym, ◌∙◌, subst}
use Rattle.std.proofs.Common.{append-nil, arith, get_or, inl, inr, ◌⊎◌, ◌≢◌, ⊎_elim}
use Rattle.std.proofs.lemmas.Bool.{cases_lt}
use Rattle.std.proofs.lemmas.List.{length-drop, length-take, take_all, take-append-drop, take_more}
use Rattle.std.proofs.Math.Seq.{take-append-add}
use Rattle.std.specs.Prelude.{Some, None}
use Rattle.std.specs.List.{AllByRecursion}
use Rattle.njh_link.specs.Links.{IsDue, after_came, after_written, with_ack0, with_said}
use Rattle.njh_wire.specs.declared.connection.Saying.{Saying}
use Rattle.njh_tcpwire.specs.Sayings.{frame_said, IsToldToSay}
use Rattle.njh_link.specs.Acts.{LinkAct, Came, Gave, Acknowledged, Wrote, Went, KeptAlive, SignedOff, IsAllowed}
use Rattle.njh_link.specs.Acts.{after_act, came_by, gave_by, went_by, wrote_by}
use Rattle.njh_tcpwire.specs.Moves.{TcpState, Moves, IsAllGone, IsOfRead, IsOfAnswer, IsOfSend, IsOfLine, byte_list}
use Rattle.njh_tcpwire.specs.code.MovesLaws.{moves_then}

-- ---- kinds of acts

kinds_weaker : (Kind Other : LinkAct → Type 0) → ((act : LinkAct) → Kind act → Other act) → (acts : List LinkAct)
    → AllByRecursion Kind acts → AllByRecursion Other acts
kinds_weaker Kind Other weaker [] kinds = tt
kinds_weaker Kind Other weaker (act ∷ acts) kinds =
    (weaker act kinds.0, kinds_weaker Kind Other weaker acts kinds.1)

moves_weaker : {C : Type 0} (Kind Other : LinkAct → Type 0) (moved : C → C → List ℕ → List ℕ → Type 0)
    (a b : TcpState C) (came went : List ℕ) → ((act : LinkAct) → Kind act → Other act)
    → Moves Kind moved a b came went → Moves Other moved a b came went
moves_weaker Kind Other moved a b came went weaker moves = record {
  acts = moves.acts;
  kinds = kinds_weaker Kind Other weaker moves.acts moves.kinds;
  received = moves.received;
  sent = moves.sent;
  moves = moves.moves;
  link = moves.link;
  allowed = moves.allowed;
  heard = moves.heard;
  gave = moves.gave;
  out = moves.out;
  wrote = moves.wrote;
}

read_of_line : (act : LinkAct) → IsOfRead act → IsOfLine act
read_of_line (Came bytes) is = tt
read_of_line (Gave count) is = tt
read_of_line Acknowledged is = absurd is
read_of_line (Wrote bytes) is = absurd is
read_of_line (Went count) is = absurd is
read_of_line KeptAlive is = absurd is
read_of_line SignedOff is = absurd is

answer_of_line : (act : LinkAct) → IsOfAnswer act → IsOfLine act
answer_of_line Acknowledged is = tt
answer_of_line (Gave count) is = tt
answer_of_line (Came bytes) is = absurd is
answer_of_line (Wrote bytes) is = absurd is
answer_of_line (Went count) is = absurd is
answer_of_line KeptAlive is = absurd is
answer_of_line SignedOff is = absurd is

send_of_line : (act : LinkAct) → IsOfSend act → IsOfLine act
send_of_line (Wrote bytes) is = tt
send_of_line (Went count) is = tt
send_of_line (Came bytes) is = absurd is
send_of_line (Gave count) is = absurd is
send_of_line Acknowledged is = absurd is
send_of_line KeptAlive is = absurd is
send_of_line SignedOff is = absurd is

pub read_moves : {C : Type 0} (moved : C → C → List ℕ → List ℕ → Type 0) (a b : TcpState C) (came went : List ℕ)
    → Moves IsOfRead moved a b came went → Moves IsOfLine moved a b came went
read_moves moved a b came went moves = moves_weaker IsOfRead IsOfLine moved a b came went read_of_line moves

pub answer_moves : {C : Type 0} (moved : C → C → List ℕ → List ℕ → Type 0) (a b : TcpState C) (came went : List ℕ)
    → Moves IsOfAnswer moved a b came went → Moves IsOfLine moved a b came went
answer_moves moved a b came went moves = moves_weaker IsOfAnswer IsOfLine moved a b came went answer_of_line moves

pub send_moves : {C : Type 0} (moved : C → C → List ℕ → List ℕ → Type 0) (a b : TcpState C) (came went : List ℕ)
    → Moves IsOfSend moved a b came went → Moves IsOfLine moved a b came went
send_moves moved a b came went moves = moves_weaker IsOfSend IsOfLine moved a b came went send_of_line moves

-- ---- one step

-- In each of these the state before is told by its fields (`a`), and is that of the call (`old`).

-- The other connection gave bytes, or none, which weren't heard yet.
pub moves_received : {C : Type 0} (Kind : LinkAct → Type 0) (moved : C → C → List ℕ → List ℕ → Type 0)
    (a old b : TcpState C) (bytes : List ℕ) → a ≡ old → moved a.inner b.inner bytes [] → b.link ≡ a.link
    → b.unheard ≡ a.unheard ++ bytes → b.charged ≡ a.charged → Moves Kind moved old b [] []
moves_received {C} Kind moved a old b bytes same moves link unheard charged =
    subst (λ (s : TcpState C). Moves Kind moved s b [] []) same (record {
      acts = [];
      kinds = tt;
      received = bytes;
      sent = [];
      moves = moves;
      link = link;
      allowed = tt;
      heard = sym unheard;
      gave = refl;
      out = refl;
      wrote = ap byte_list charged ∙ sym (append-nil (byte_list a.charged));
    })

-- Only marks changed.
pub moves_marked : {C : Type 0} (Kind : LinkAct → Type 0) (moved : C → C → List ℕ → List ℕ → Type 0)
    → ((s : C) → moved s s [] []) → (a old b : TcpState C) → a ≡ old → b.inner ≡ a.inner → b.link ≡ a.link
    → b.unheard ≡ a.unheard → b.charged ≡ a.charged → Moves Kind moved old b [] []
moves_marked {C} Kind moved none a old b same inner link unheard charged =
    moves_received Kind moved a old b [] same (subst (λ (c : C). moved a.inner c [] []) (sym inner) (none a.inner)) link
    (unheard ∙ sym (append-nil a.unheard)) charged

-- The other connection took bytes of TTBs that waited.
pub moves_sent : {C : Type 0} (moved : C → C → List ℕ → List ℕ → Type 0) (a old b : TcpState C) (count : ℕ) → a ≡ old
    → moved a.inner b.inner [] (take count a.link.waiting) → count ≤ length a.link.waiting
    → b.link ≡ record a.link { waiting = drop count a.link.waiting } → b.unheard ≡ a.unheard → b.charged ≡ a.charged
    → Moves IsOfSend moved old b [] []
moves_sent {C} moved a old b count same moves within link unheard charged =
    subst (λ (s : TcpState C). Moves IsOfSend moved s b [] []) same (record {
      acts = Went count ∷ [];
      kinds = (tt, tt);
      received = [];
      sent = take count a.link.waiting;
      moves = moves;
      link = link;
      allowed = (within, tt);
      heard = append-nil a.unheard ∙ sym unheard;
      gave = refl;
      out = sym (append-nil (take count a.link.waiting));
      wrote = ap byte_list charged ∙ sym (append-nil (byte_list a.charged));
    })

-- The link did something that put nothing out, and the other connection did nothing.
moves_act : {C : Type 0} (Kind : LinkAct → Type 0) (moved : C → C → List ℕ → List ℕ → Type 0)
    → ((s : C) → moved s s [] []) → (a old b : TcpState C) (act : LinkAct) (gave : List ℕ) → a ≡ old → Kind act
    → IsAllowed act a.link → b.inner ≡ a.inner → b.link ≡ after_act act a.link → a.unheard ≡ came_by act ++ b.unheard
    → gave ≡ gave_by act a.link → went_by act a.link ≡ [] → b.charged ≡ a.charged → wrote_by act ≡ []
    → Moves Kind moved old b gave []
moves_act {C} Kind moved none a old b act gave same kind may inner link unheard gives none_out charged none_written =
    subst (λ (s : TcpState C). Moves Kind moved s b gave []) same (record {
      acts = act ∷ [];
      kinds = (kind, tt);
      received = [];
      sent = [];
      moves = subst (λ (c : C). moved a.inner c [] []) (sym inner) (none a.inner);
      link = link;
      allowed = (may, tt);
      heard = append-nil a.unheard ∙ (unheard ∙ ap (λ l. l ++ b.unheard) (sym (append-nil (came_by act))));
      gave = gives ∙ sym (append-nil (gave_by act a.link));
      out = sym (append-nil (went_by act a.link) ∙ none_out);
      wrote = ap byte_list charged
          ∙ (sym (append-nil (byte_list a.charged))
          ∙ ap (λ l. byte_list a.charged ++ l) (sym (append-nil (wrote_by act) ∙ none_written)));
    })

-- Bytes that came were heard: those at the front of what wasn't.
pub moves_heard : {C : Type 0} (moved : C → C → List ℕ → List ℕ → Type 0) → ((s : C) → moved s s [] [])
    → (a old b : TcpState C) (count : ℕ) → a ≡ old → a.link.giving ≡ [] → b.inner ≡ a.inner
    → b.link ≡ after_came (take count a.unheard) a.link → b.unheard ≡ drop count a.unheard → b.charged ≡ a.charged
    → Moves IsOfRead moved old b [] []
moves_heard moved none a old b count same given inner link unheard charged =
    moves_act IsOfRead moved none a old b (Came (take count a.unheard)) [] same tt given inner link
    (sym (take-append-drop count a.unheard) ∙ ap (λ l. take count a.unheard ++ l) (sym unheard)) refl refl charged refl

-- The line was given bytes: those at the front of what is to be given.
pub moves_gave : {C : Type 0} (Kind : LinkAct → Type 0) (moved : C → C → List ℕ → List ℕ → Type 0)
    → ((s : C) → moved s s [] []) → (a old b : TcpState C) (count : ℕ) (gave : List ℕ) → a ≡ old
    → ((many : ℕ) → Kind (Gave many)) → count ≤ length a.link.giving → b.inner ≡ a.inner
    → b.link ≡ record a.link { giving = drop count a.link.giving } → b.unheard ≡ a.unheard
    → gave ≡ take count a.link.giving → b.charged ≡ a.charged → Moves Kind moved old b gave []
moves_gave Kind moved none a old b count gave same kind within inner link unheard gives charged =
    moves_act Kind moved none a old b (Gave count) gave same (kind count) within inner link (sym unheard) gives refl
    charged refl

-- The line is given the Ack0 that it is owed.
pub moves_acknowledged : {C : Type 0} (moved : C → C → List ℕ → List ℕ → Type 0) → ((s : C) → moved s s [] [])
    → (more : (a b c : C) (came next_came went next_went : List ℕ) → moved a b came went
    → moved b c next_came next_went → moved a c (came ++ next_came) (went ++ next_went))
    → (a old b : TcpState C) (count : ℕ) (gave : List ℕ) → a ≡ old → IsDue a.link
    → count ≤ length (with_ack0 a.link).giving → b.inner ≡ a.inner
    → b.link ≡ record (with_ack0 a.link) { giving = drop count (with_ack0 a.link).giving } → b.unheard ≡ a.unheard
    → gave ≡ take count (with_ack0 a.link).giving → b.charged ≡ a.charged → Moves IsOfAnswer moved old b gave []
moves_acknowledged {C} moved none more a old b count gave same due within inner link unheard gives charged =
    let middle : TcpState C = record a { link = with_ack0 a.link } in
    moves_then IsOfAnswer moved more old middle b [] gave [] []
    (moves_act IsOfAnswer moved none a old middle Acknowledged [] same tt due refl refl refl refl refl refl refl)
    (moves_gave IsOfAnswer moved none middle middle b count gave refl (λ many. tt) within inner link unheard gives charged)

-- The line wrote bytes, of which as many are taken as are told.
moves_wrote : {C : Type 0} (moved : C → C → List ℕ → List ℕ → Type 0) → ((s : C) → moved s s [] [])
    → (a old b : TcpState C) (bytes taken : List ℕ) → a ≡ old → a.link.waiting ≡ [] → b.inner ≡ a.inner
    → b.link ≡ after_written bytes a.link → b.unheard ≡ a.unheard → a.charged ≡ None
    → taken ++ byte_list b.charged ≡ bytes → Moves IsOfSend moved old b [] taken
moves_wrote {C} moved none a old b bytes taken same gone inner link unheard charged whole =
    subst (λ (s : TcpState C). Moves IsOfSend moved s b [] taken) same (record {
      acts = Wrote bytes ∷ [];
      kinds = (tt, tt);
      received = [];
      sent = [];
      moves = subst (λ (c : C). moved a.inner c [] []) (sym inner) (none a.inner);
      link = link;
      allowed = (gone, tt);
      heard = append-nil a.unheard ∙ sym unheard;
      gave = refl;
      out = refl;
      wrote = whole ∙ (sym (append-nil bytes) ∙ ap (λ c. byte_list c ++ (bytes ++ [])) (sym charged));
    })

-- All that it wrote is taken: nothing goes out of it.
pub moves_dropped : {C : Type 0} (moved : C → C → List ℕ → List ℕ → Type 0) → ((s : C) → moved s s [] [])
    → (a old b : TcpState C) (count : ℕ) (bytes : List ℕ) → a ≡ old → a.link.waiting ≡ [] → b.inner ≡ a.inner
    → b.link ≡ after_written (take count bytes) a.link → b.unheard ≡ a.unheard → a.charged ≡ None → b.charged ≡ None
    → Moves IsOfSend moved old b [] (take count bytes)
moves_dropped moved none a old b count bytes same gone inner link unheard was is =
    moves_wrote moved none a old b (take count bytes) (take count bytes) same gone inner link unheard was
    (ap (λ c. take count bytes ++ byte_list c) is ∙ append-nil (take count bytes))

-- Its last byte is charged.
pub moves_charged : {C : Type 0} (moved : C → C → List ℕ → List ℕ → Type 0) → ((s : C) → moved s s [] [])
    → (a old b : TcpState C) (count last byte : ℕ) (bytes : List ℕ) → a ≡ old → a.link.waiting ≡ [] → b.inner ≡ a.inner
    → b.link ≡ after_written (take count bytes) a.link → b.unheard ≡ a.unheard → a.charged ≡ None
    → b.charged ≡ Some byte → last + 1 ≡ count → last < length bytes → byte ≡ get_or bytes last 0
    → Moves IsOfSend moved old b [] (take last bytes)
moves_charged moved none a old b count last byte bytes same gone inner link unheard was is next within read =
    moves_wrote moved none a old b (take count bytes) (take last bytes) same gone inner link unheard was
    (ap (λ c. take last bytes ++ byte_list c) is
    ∙ (ap (λ x. take last bytes ++ x ∷ []) read
    ∙ (sym (take_more bytes last 0 within) ∙ ap (λ n. take n bytes) next)))

-- The byte that was charged is taken.
pub moves_settled : {C : Type 0} (moved : C → C → List ℕ → List ℕ → Type 0) → ((s : C) → moved s s [] [])
    → (a old b : TcpState C) (byte : ℕ) → a ≡ old → b.inner ≡ a.inner → b.link ≡ a.link → b.unheard ≡ a.unheard
    → a.charged ≡ Some byte → b.charged ≡ None → Moves IsOfSend moved old b [] (byte ∷ [])
moves_settled {C} moved none a old b byte same inner link unheard was is =
    subst (λ (s : TcpState C). Moves IsOfSend moved s b [] (byte ∷ [])) same (record {
      acts = [];
      kinds = tt;
      received = [];
      sent = [];
      moves = subst (λ (c : C). moved a.inner c [] []) (sym inner) (none a.inner);
      link = link;
      allowed = tt;
      heard = append-nil a.unheard ∙ sym unheard;
      gave = refl;
      out = refl;
      wrote = ap (λ c. byte ∷ byte_list c) is ∙ ap (λ c. byte_list c ++ []) (sym was);
    })

-- Bytes at the front were taken, and then some of those behind.
taken_more : (bytes : List ℕ) (taken count : ℕ) → taken ≤ length bytes
    → take taken bytes ++ take count (drop taken bytes) ≡ take (taken + count) bytes
taken_more bytes taken count within =
    let many : length (take taken bytes) ≡ taken = omega (arith, within, length-take taken bytes) in
    sym (take-append-add (take taken bytes) (drop taken bytes) count)
    ∙ (ap (λ (k : ℕ). take (k + count) (take taken bytes ++ drop taken bytes)) many
    ∙ ap (λ (l : List ℕ). take (taken + count) l) (take-append-drop taken bytes))

pub moves_on : {C : Type 0} (moved : C → C → List ℕ → List ℕ → Type 0)
    → ((a b c : C) (came next_came went next_went : List ℕ) → moved a b came went → moved b c next_came next_went
    → moved a c (came ++ next_came) (went ++ next_went))
    → (a b c : TcpState C) (bytes : List ℕ) (taken count : ℕ) → taken ≤ length bytes
    → Moves IsOfSend moved a b [] (take taken bytes) → Moves IsOfSend moved b c [] (take count (drop taken bytes))
    → Moves IsOfSend moved a c [] (take (taken + count) bytes)
moves_on {C} moved more a b c bytes taken count within first then =
    let Took : List ℕ → Type 0 = λ went. Moves IsOfSend moved a c [] went in
    subst Took (taken_more bytes taken count within)
    (moves_then IsOfSend moved more a b c [] [] (take taken bytes) (take count (drop taken bytes)) first then)

-- what is behind so many bytes, as a slice has it
rest_is : (bytes : List ℕ) (taken : ℕ) → take (length bytes - taken) (drop taken bytes) ≡ drop taken bytes
rest_is bytes taken = take_all (length bytes - taken) (drop taken bytes) (omega (arith, length-drop taken bytes))

-- so many are taken then
pub moves_more : {C : Type 0} (moved : C → C → List ℕ → List ℕ → Type 0)
    → ((a b c : C) (came next_came went next_went : List ℕ) → moved a b came went → moved b c next_came next_went
    → moved a c (came ++ next_came) (went ++ next_went))
    → (a b c : TcpState C) (bytes : List ℕ) (taken count total : ℕ) → total ≡ taken + count → taken ≤ length bytes
    → Moves IsOfSend moved a b [] (take taken bytes)
    → Moves IsOfSend moved b c [] (take count (take (length bytes - taken) (drop taken bytes)))
    → Moves IsOfSend moved a c [] (take total bytes)
moves_more {C} moved more a b c bytes taken count total many within first then =
    let Took : ℕ → Type 0 = λ so_many. Moves IsOfSend moved a c [] (take so_many bytes) in
    let Front : List ℕ → Type 0 = λ rest. Moves IsOfSend moved b c [] (take count rest) in
    subst Took (sym many)
    (moves_on moved more a b c bytes taken count within first (subst Front (rest_is bytes taken) then))

pub within_more : (bytes : List ℕ) (taken count total : ℕ) → total ≡ taken + count → taken ≤ length bytes
    → count ≤ length (take (length bytes - taken) (drop taken bytes)) → total ≤ length bytes
within_more bytes taken count total many within few =
    let left : length (take (length bytes - taken) (drop taken bytes)) ≡ length (drop taken bytes) =
    ap length (rest_is bytes taken) in
    omega (arith, many, within, few, left, length-drop taken bytes)

empty_by_length : (bytes : List ℕ) → length bytes ≡ 0 → bytes ≡ []
empty_by_length [] none = refl
empty_by_length (x ∷ xs) none = absurd (omega (arith, none))

-- and once these are all, no byte of a TTB waits
gone_on : (bytes rest : List ℕ) (taken count total : ℕ) (before after : List ℕ) → total ≡ taken + count
    → taken ≤ length bytes → length rest ≡ length bytes - taken → IsAllGone bytes taken before
    → (rest ≡ [] → before ≡ [] → after ≡ []) → IsAllGone rest count after → IsAllGone bytes total after
gone_on bytes rest taken count total before after many within left so_far idle then = λ some all. ⊎_elim
    (λ (more : taken < length bytes).
    then (omega (arith, more, left)) (omega (arith, more, left, many, all)))
    (λ (none : length bytes ≤ taken).
    idle (empty_by_length rest (omega (arith, none, left))) (so_far some (omega (arith, none, within))))
    (cases_lt taken (length bytes))

pub gone_more : (bytes : List ℕ) (taken count total : ℕ) (before after : List ℕ) → total ≡ taken + count
    → taken ≤ length bytes → IsAllGone bytes taken before
    → (take (length bytes - taken) (drop taken bytes) ≡ [] → before ≡ [] → after ≡ [])
    → IsAllGone (take (length bytes - taken) (drop taken bytes)) count after → IsAllGone bytes total after
gone_more bytes taken count total before after many within so_far idle then =
    gone_on bytes (take (length bytes - taken) (drop taken bytes)) taken count total before after many within
    (ap length (rest_is bytes taken) ∙ length-drop taken bytes) so_far idle then

-- ---- what the line doesn't write

filled : (x : ℕ) (xs : List ℕ) → x ∷ xs ≡ [] → ⊥
filled x xs same = cc

-- it is said where nothing waits
pub told_by : {C : Type 0} (before after : TcpState C) (saying : Saying) (waiting : List ℕ)
    → before.link.waiting ≡ waiting
    → (before.link.waiting ≡ [] → after ≡ record before { link = with_said (frame_said saying) before.link })
    → (before.link.waiting ≢ [] → after ≡ before) → (after ≡ before) ⊎ IsToldToSay before after saying
told_by before after saying [] is says waits = inr record { gone = is; stands = says is }
told_by before after saying (x ∷ xs) is says waits = inl (waits (λ none. filled x xs (sym is ∙ none)))

-- ---- bytes

pub first_taken : (bytes : List ℕ) (byte : ℕ) → 0 < length bytes → byte ≡ get_or bytes 0 0 → byte ∷ [] ≡ take 1 bytes
first_taken [] byte some is = absurd (omega (arith, some))
first_taken (x ∷ xs) byte some is = ap (λ b. b ∷ []) is
