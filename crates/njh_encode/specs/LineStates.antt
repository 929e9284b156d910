-- What is kept of each line of the hub: how many blocks went out on it, and the size that it signed on with.
use Rattle.std.specs.Prelude.{ℕ, ◌+◌, ◌%◌, Bool, List, [], ◌∷◌, ◌++◌, Option, Some, None, bytes_eq}
use Rattle.std.specs.Prelude.{position, slice_index_or, slice_set}
use Rattle.njh_encode.specs.declared.line_states.LineState.{LineState}

abbrev pub is_named : List ℕ → LineState → Bool
is_named name state = bytes_eq state.name name

-- a line that nothing was kept of
abbrev pub new_state : List ℕ → LineState
new_state name = record { name = name; count = 0; size = 0 }

abbrev pub state_at : List ℕ → List LineState → Option ℕ → LineState
state_at name states None = new_state name
state_at name states (Some place) = slice_index_or states place (new_state name)

-- what is kept of a line
unfoldable pub state_of : List ℕ → List LineState → LineState
state_of name states = state_at name states (position (is_named name) states)

abbrev pub at_place : LineState → List LineState → Option ℕ → List LineState
at_place state states None = states ++ state ∷ []
at_place state states (Some place) = slice_set states place state

-- this in place of what was kept of its line
unfoldable pub with_state : LineState → List LineState → List LineState
with_state state states = at_place state states (position (is_named state.name) states)

-- the count of the next block, modulo 16
abbrev pub next_count : ℕ → ℕ
next_count count = (count % 16 + 1) % 16

-- one more block went out
unfoldable pub counted : LineState → LineState
counted state = record state { count = next_count state.count }

-- a sign-on went out, which sets the count to 0
unfoldable pub signed_on : ℕ → LineState → LineState
signed_on size state = record state { count = 0; size = size }
