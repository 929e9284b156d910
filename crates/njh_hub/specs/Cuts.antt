-- An event up to so many of its bytes, and where a frame is sent.
use Rattle.std.specs.Prelude.{ℕ, ◌-◌, ◌<◌, ◌≤◌, List, [], ◌∷◌, length, take}
use Rattle.njh_hub.specs.declared.event.Event.{Event}
use Rattle.njh_hub.specs.declared.event.Event.TheVariants.{Bytes, Tick, Garbled, Lost, Routes, Order}
use Rattle.njh_hub.specs.OwnEvents.{bytes_in_event}
use Rattle.njh_hub.specs.WholeHub.{Part, HubRun, hub_run}

-- the first bytes of an event; one that brings no bytes is whole
abbrev pub cut_to : ℕ → Event → Event
cut_to n (Bytes id piece) = Bytes id (take n piece)
cut_to n (Tick id) = Tick id
cut_to n (Garbled id) = Garbled id
cut_to n (Lost id) = Lost id
cut_to n (Routes c routes) = Routes c routes
cut_to n (Order c order) = Order c order

-- the hub after the first bytes of an event
abbrev pub run_until : List Part → ℕ → Event → HubRun
run_until parts n event = hub_run parts (cut_to n event ∷ [])

-- A frame is sent when so many bytes of an event are used: the last of them sends it.
pub record SendsAt (parts : List Part) (event : Event) (n : ℕ) : Type 0 where
  pub within : n ≤ bytes_in_event event
  pub some : 0 < length (run_until parts n event).sent
  pub last : 0 < n → length (run_until parts (n - 1) event).sent < length (run_until parts n event).sent
