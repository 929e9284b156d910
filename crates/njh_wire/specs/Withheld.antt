-- How a wire of a line comes from one standing to another without a byte going out.
use Rattle.std.specs.Prelude.{◌≡◌, ℕ, List, [], ◌++◌, Some}
use Rattle.njh_wire.specs.declared.end.ConnectionEnd.{ConnectionEnd}
use Rattle.njh_wire.specs.declared.end.Parting.{Parting}
use Rattle.njh_wire.specs.Standing.{Standing, with_connection, without_connection}

-- From one standing to another no byte went out: all that happened to the wire is one of these after the other. What
-- waits to go out is added to, and goes only with the connection that it was for.
pub data IsWithheld {C : Type 0} (moved : C → C → List ℕ → List ℕ → Type 0) : Standing C → Standing C → Type 0 where
  -- nothing
  nothing : (s : Standing C) → IsWithheld moved s s
  -- who is connected gave bytes and was sent none
  gives :
      (s last : Standing C) (before after : C) (bytes : List ℕ) → s.connection ≡ Some before
      → moved before after bytes [] → IsWithheld moved (record s { connection = Some after }) last
      → IsWithheld moved s last
  -- the connection was dropped with what waited
  drops :
      (s last : Standing C) (parting : Parting) (end : ConnectionEnd)
      → IsWithheld moved (without_connection parting end s) last → IsWithheld moved s last
  -- the next one took its place, and nothing waits
  follows : (s last : Standing C) → IsWithheld moved (with_connection s.next s) last → IsWithheld moved s last
  -- the same one stays, and so do the next and who leaves; what waited still waits, in front of what was added
  stays :
      (s new last : Standing C) (added : List ℕ) → new.connection ≡ s.connection → new.next ≡ s.next
      → new.leave ≡ s.leave → new.waiting ≡ s.waiting ++ added → IsWithheld moved new last → IsWithheld moved s last
