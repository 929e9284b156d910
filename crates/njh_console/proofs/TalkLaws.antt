-- Who asks, and what a connection owes him.
use Rattle.std.proofs.Common.{◌≡◌, ◌≢◌, ◌⊎◌, ℕ, zero, suc, ◌<◌, ◌≤◌, List, [], ◌∷◌, length, refl, sym, ap, subst}
use Rattle.std.proofs.Common.{⊎_elim, inl, inr, arith, length-append}
use Rattle.httparse.specs.Grammar.{print_request}
use Rattle.http1.specs.Message as Wire
use Rattle.http1.specs.Message.{ReadsRequestMessage, ReadsRequests}
use Rattle.http_server.proofs.MachineLemmas.{head_is_some}
use Rattle.http_server.specs.History.{History, IsQuiet, Rests, new_history}
use Rattle.http_server.specs.declared.state.Config.{Config}
use Rattle.http_server.specs.declared.state.State.{State}
use Rattle.http_server.specs.declared.state.State.TheVariants.{Open, Closing, Upgraded, Aborted}
use Rattle.njh_console.specs.Seats.{config, IsAsking, IsHeldUp}

no_message : (m : Wire.Request) (rest : List ℕ) → ReadsRequestMessage config.limits [] m rest → ⊥
no_message m rest x =
    omega (arith, head_is_some m.head, ap length x.head.reads.1, length-append (print_request m.head) x.after_head)

no_requests : (ms : List Wire.Request) (rest : List ℕ) → ReadsRequests config.limits [] ms rest → length ms ≡ 0
no_requests [] rest reads = refl
no_requests (m ∷ ms) rest reads = absurd (no_message m reads.0 reads.1)

-- of whom nothing came nobody asks
pub asks_nothing_at_first : (h : History) → h ≡ new_history → IsAsking h → ⊥
asks_nothing_at_first h first asking =
    let nothing : h.received ≡ [] = ap (λ (x : History). x.received) first in
    let none = no_requests asking.requests asking.rest
    (subst (λ (s : List ℕ). ReadsRequests config.limits s asking.requests asking.rest) nothing asking.reads) in
    omega (arith, none, asking.more)

-- once he was looked at he doesn't ask
pub asks_no_more : (k : Config) (h : History) → k ≡ config → Rests k h → IsAsking h → ⊥
asks_no_more k h known rests asking =
    let room : length h.pending ≤ config.max_pending = omega (arith, asking.is_free) in
    let called = (subst (λ (c : Config). Rests c h) known rests asking.is_open room).1 asking.requests asking.rest
    asking.reads in
    omega (arith, called, asking.more)

open_or_not : (s : State) → (s ≡ Open) ⊎ (s ≢ Open)
open_or_not Open = inl refl
open_or_not (Closing reason) = inr (λ wrong. cc)
open_or_not Upgraded = inr (λ wrong. cc)
open_or_not Aborted = inr (λ wrong. cc)

none_or_some : (n : ℕ) → (n ≡ 0) ⊎ (0 < n)
none_or_some zero = inl refl
none_or_some (suc n) = inr (omega arith)

-- who asked, and wasn't answered as he was looked at, is held up
pub held_up : (k : Config) (old new : History) → k ≡ config → Rests k new → IsQuiet old new → IsAsking old
    → new.calls ≡ old.calls → IsHeldUp new
held_up k old new known rests quiet asking same =
    ⊎_elim (λ (still : new.state ≡ Open).
    ⊎_elim (λ (free : length new.pending ≡ 0).
    let asks : IsAsking new = record {
      is_open = still;
      is_free = free;
      requests = asking.requests;
      rest = asking.rest;
      reads = subst (λ (s : List ℕ). ReadsRequests config.limits s asking.requests asking.rest) (sym quiet.0)
          asking.reads;
      more = omega (arith, ap length same, asking.more);
    } in
    absurd (asks_no_more k new known rests asks))
    (λ (waits : 0 < length new.pending). inr waits) (none_or_some (length new.pending)))
    (λ (closed : new.state ≢ Open). inl closed) (open_or_not new.state)
