-- What steps that print have done, one after another.
use Rattle.std.proofs.Common.{◌≡◌, ◌<◌, ℕ, List, length, map, Option, ◌⊎◌, inl, inr, refl, sym, subst}
use Rattle.std.specs.Prelude.{Result, Ok, Err, IsErrAnd, OnOk, OnErr}
use Rattle.std.specs.Io.KnownBytes.{Keeps}
use Rattle.njh_table.specs.TableFile.{TableFile}
use Rattle.njh_hub.specs.declared.event.Event.{Event}
use Rattle.njh_hub.specs.declared.fault.HubFault.{HubFault}
use Rattle.njh_hub.specs.declared.fault.HubFault.TheVariants.{Memory, NoRoute, QueueFull}
use Rattle.njh_hub.specs.Parts.{entries_of}
use Rattle.njh_hub.specs.WholeHub.{Part, part, part_at_open, AreTaken}
use Rattle.njh_hub.specs.Steps.{IsOrdered}
use Rattle.njh_customer.specs.declared.given_order.GivenOrder.{GivenOrder}
use Rattle.njh_replay.specs.LineNames.{customers_of, names_of}
use Rattle.njh_replay.specs.declared.fault.ReplayFault.{ReplayFault}
use Rattle.njh_replay.specs.declared.fault.ReplayFault.TheVariants.{TooLong, Script, Device, Hub}
use Rattle.njh_io.specs.Written.{AppendsBeginning}
use Rattle.njh_replay.specs.Replayed.{text_by, text_of_run, HasScript, IfHubs, IsBegun, IsOfMessage}
use Rattle.njh_replay.specs.Replayed.{IsReplayed, IsReplayedToMessage, IsReplayedToWant, IsRunShort, MayStop, Prints}
use Rattle.njh_replay.specs.Replayed.{WereTaken}
use Rattle.njh_replay.specs.code.RunPieces.{IsOrderShort}
use Rattle.njh_replay.proofs.PrintedParts.{beginning-none}

-- a step that a fault stopped
pub prints_stopped : {A : Type 0} (r : Result A ReplayFault) (fault : ReplayFault) (old new : Option (List ℕ))
    (text : List ℕ) (Short : HubFault → Option (List ℕ) → Option (List ℕ) → Type 0) → IsErrAnd r (λ e. e ≡ fault)
    → AppendsBeginning old new text → MayStop fault → IfHubs fault (λ why. Short why old new)
    → Prints r old new text Short
prints_stopped (Ok x) fault old new text Short is begun may so = absurd is
prints_stopped (Err e) fault old new text Short same begun may so =
    (begun, subst MayStop (sym same) may, subst (λ f. IfHubs f (λ why. Short why old new)) (sym same) so)

-- an order that the hub refused: nothing was printed
pub order_stopped : {A B : Type 0} (r : Result A ReplayFault) (parts new : List Part) (c : ℕ) (order : GivenOrder)
    (refusal : Result B HubFault) (fault : HubFault) (old : Option (List ℕ)) (text : List ℕ) → c < length parts
    → IsErrAnd r (λ e. e ≡ Hub fault) → IsOrdered parts c order refusal new → refusal ≡ Err fault
    → Prints r old old text (IsOrderShort (part c parts) order)
order_stopped r parts new c order (Ok x) fault old text there same ordered is = absurd (cc is)
order_stopped r parts new c order (Err other) fault old text there same ordered is = elim ordered.causes [
  | inl unknown ↦ absurd (unknown.1 there)
  | inr refused ↦ elim refused [
    | inl wayless ↦
        let why : fault ≡ NoRoute = cc (is, wayless.0) in
        prints_stopped r (Hub NoRoute) old old text (IsOrderShort (part c parts) order)
        (subst (λ f. IsErrAnd r (λ e. e ≡ Hub f)) why same) (beginning-none old text)
        (inr (inl refl), λ refusal. refusal) (wayless.2, refl)
    | inr full ↦
        let why : fault ≡ QueueFull = cc (is, full.0) in
        prints_stopped r (Hub QueueFull) old old text (IsOrderShort (part c parts) order)
        (subst (λ f. IsErrAnd r (λ e. e ≡ Hub f)) why same) (beginning-none old text)
        (inr (inr refl), λ refusal. refusal) (full.2, refl)
  ]
]

-- what is so of the hub's fault in a step is so of it in the whole
pub short_then : (fault : ReplayFault) (P Q : HubFault → Type 0) → ((why : HubFault) → P why → Q why) → IfHubs fault P
    → IfHubs fault Q
short_then TooLong P Q then so = tt
short_then (Script number) P Q then so = tt
short_then Device P Q then so = tt
short_then (Hub why) P Q then so = then why so

-- what a run over events of a hub of these tables, which was just opened, prints with the customers' files
abbrev pub PrintsRun : {A : Type 0} → TableFile → List Event → Result A ReplayFault → (old new : Option (List ℕ))
    → Type 0
PrintsRun t events r old new =
    Prints r old new (text_of_run t events)
    (IsRunShort (names_of t) (customers_of t) (map part_at_open (entries_of t)) events)

pub fresh_prints : {A : Type 0} (t : TableFile) (names : List (List (List ℕ))) (parts : List Part) (events : List Event)
    (customers : List (List ℕ)) (r : Result A ReplayFault) (old new : Option (List ℕ))
    → names ≡ names_of t → parts ≡ map part_at_open (entries_of t) → customers ≡ customers_of t
    → Prints r old new (text_by names parts events customers) (IsRunShort names customers parts events)
    → PrintsRun t events r old new
fresh_prints t names parts events customers r old new named fresh called so =
    let first = subst (λ ns. Prints r old new (text_by ns parts events customers)
    (IsRunShort ns customers parts events)) named so in
    let second = subst (λ (ps : List Part). Prints r old new (text_by (names_of t) ps events customers)
    (IsRunShort (names_of t) customers ps events)) fresh first in
    subst (λ cs. Prints r old new (text_by (names_of t) (map part_at_open (entries_of t)) events cs)
    (IsRunShort (names_of t) cs (map part_at_open (entries_of t)) events)) called second

-- what is written by the hub's fault
short_by : (t : TableFile) (old new : Option (List ℕ)) (events : List Event) (e : ReplayFault) (why : HubFault)
    → e ≡ Hub why
    → IfHubs e (λ w. IsRunShort (names_of t) (customers_of t) (map part_at_open (entries_of t)) events w old new)
    → IsRunShort (names_of t) (customers_of t) (map part_at_open (entries_of t)) events why old new
short_by t old new events e why same so = subst (λ f. IfHubs f
    (λ w. IsRunShort (names_of t) (customers_of t) (map part_at_open (entries_of t)) events w old new)) same so

-- what that is of a replay whose script has these events
module _ {A : Type 0} (t : TableFile) (left old new : Option (List ℕ)) (events : List Event)
    (good : HasScript t left events) where
  pub replayed-whole : (r : Result A ReplayFault) → PrintsRun t events r old new → OnOk r (IsReplayed t left old new)
  replayed-whole (Ok x) printed = (events, good, printed)
  replayed-whole (Err e) printed = tt

  pub replayed-begun : (r : Result A ReplayFault) → PrintsRun t events r old new
      → OnErr r (Keeps old new ⊎ IsBegun t left old new)
  replayed-begun (Ok x) printed = tt
  replayed-begun (Err e) printed = inr (events, good, printed.0)

  pub replayed-memory : (r : Result A ReplayFault) → PrintsRun t events r old new → r ≡ Err (Hub Memory)
      → Keeps old new ⊎ IsReplayedToWant t left old new
  replayed-memory (Ok x) printed memory = absurd (cc memory)
  replayed-memory (Err e) printed memory =
      let same : e ≡ Hub Memory = cc memory in
      elim (short_by t old new events e Memory same printed.2) [
        | inl kept ↦ inl kept
        | inr sent ↦ inr (events, good, sent)
      ]

  pub replayed-to_message : (r : Result A ReplayFault) → PrintsRun t events r old new → (why : HubFault)
      → IsOfMessage why → r ≡ Err (Hub why) → IsReplayedToMessage why t left old new
  replayed-to_message (Ok x) printed why of_message stopped = absurd (cc stopped)
  replayed-to_message (Err e) printed why (inl wayless) stopped =
      let same : e ≡ Hub NoRoute = cc (stopped, wayless) in
      subst (λ w. IsReplayedToMessage w t left old new) (sym wayless)
      (events, good, short_by t old new events e NoRoute same printed.2)
  replayed-to_message (Err e) printed why (inr full) stopped =
      let same : e ≡ Hub QueueFull = cc (stopped, full) in
      subst (λ w. IsReplayedToMessage w t left old new) (sym full)
      (events, good, short_by t old new events e QueueFull same printed.2)

  pub replayed-taken : (r : Result A ReplayFault) → OnOk r (AreTaken (map part_at_open (entries_of t)) events)
      → OnOk r (WereTaken t left)
  replayed-taken (Ok x) taken = (events, good, taken)
  replayed-taken (Err e) taken = tt

-- a script that isn't read ends no run at a message
pub no_message : {A : Type 0} (r : Result A ReplayFault) (fault : ReplayFault) (why : HubFault) (P : Type 0)
    → IsErrAnd r (λ e. e ≡ fault) → IfHubs fault (λ w. w ≡ Memory) → IsOfMessage why → r ≡ Err (Hub why) → P
no_message (Ok x) fault why P is memory of_message stopped = absurd is
no_message (Err e) fault why P is memory of_message stopped =
    let same : fault ≡ Hub why = cc (is, stopped) in
    let wrong : why ≡ Memory = subst (λ f. IfHubs f (λ w. w ≡ Memory)) same memory in
    elim of_message [ inl wayless ↦ absurd (cc (wrong, wayless)) | inr full ↦ absurd (cc (wrong, full)) ]
