-- What is said of all turns of wires, over the definitions alone.
use Rattle.std.specs.Prelude.{◌≡◌, ℕ, ◌==◌, cond, List, [], ◌∷◌, map}
use Rattle.njh_table.specs.declared.LineId.{LineId}
use Rattle.njh_hub.specs.declared.event.Event.{Event}
use Rattle.njh_hub.specs.OwnEvents.{events_of}
use Rattle.njh_turns.specs.Turns.{Turn, all_events, no_quiets}

-- of a list with an entry for each wire, those of customer c's wires
abbrev pub own_wires : {X : Type 0} → ℕ → List LineId → List X → List X
own_wires c [] xs = []
own_wires c (line ∷ lines) [] = []
own_wires c (line ∷ lines) (x ∷ xs) = cond (line.customer == c) (x ∷ own_wires c lines xs) (own_wires c lines xs)

-- the events of rounds, the first of which finds no quiets
abbrev pub served_events : List LineId → List (List Turn) → List Event
served_events lines rounds = all_events lines (no_quiets lines) rounds

-- A customer's events are those of as many rounds of its own wires alone.
abbrev pub OwnWiresDecide : Type 0
OwnWiresDecide =
    (c : ℕ) (lines : List LineId) (rounds : List (List Turn)) →
    events_of c (served_events lines rounds)
    ≡ events_of c (served_events (own_wires c lines lines) (map (own_wires c lines) rounds))
